-- What is so where a net stands: whose pads, elements and rows are.
use Rattle.std.proofs.Common.{◌≡◌, ◌≢◌, ◌⊎◌, ℕ, zero, suc, List, [], ◌∷◌, Option, Some, None, refl, sym, ap, ◌∙◌, subst, inl, inr}
use Rattle.std.specs.Prelude.{slice_get}
use Rattle.std.proofs.lemmas.Bool.{cases_eq}
use Rattle.flow_model.specs.Link.{Span}
use Rattle.flow_model.specs.Eval.{Plan}
use Rattle.lane_core.specs.Lane.{Lane}
use Rattle.lane_core.specs.declared.ends.Inlet as inlets
use Rattle.lane_core.specs.declared.ends.Outlet as outlets
use Rattle.flow_model.specs.Moment.{Moment}
use Rattle.flow_model.specs.Standing.{LinksAt, LinksNowhere}
use Rattle.flow_model.specs.Step.{Leads, LeadsNowhere}
use Rattle.flow_model.specs.declared.element.TaskElement as elements
use Rattle.flow_model.specs.declared.source.TaskSource as sources
use Rattle.inlet_row.specs.declared.row.InletRow.{InletRow}
use Rattle.inlet_row.specs.Row.{AreApart, ForLanes, RowIn, feeds_of}
use Rattle.task_pads.specs.declared.pad.Pad.{Pad}
use Rattle.task_pads.specs.Behind.{Goes, inside}
use Rattle.task_pads.specs.Pads.{goes_of, number_of}
use Rattle.task_parts.specs.declared.head.InletHead.{InletHead}
use Rattle.task_parts.specs.declared.head.Head.{Head}
use Rattle.task_parts.specs.declared.head.Head.TheVariants.{Source, Inlets}
use Rattle.task_parts.specs.Passing.{InletsReady}
use Rattle.net_task.specs.declared.task.Task.{Task}
use Rattle.net_task.specs.Frame.{Wire, IsWire, of_part as wire_part, of_head as wire_head, frame_of, head_frame, head_wire, wire_of}
use Rattle.net_task.specs.Ready.{EndsWith, HeadApart, HeadReady, RowsApart}
use Rattle.net_task.specs.Ties.{HeadTied, LeadsAs, PadLinked, RowsTied, Stands, nothing_lost}
use Rattle.net_turns.specs.Net.{AreWired, HasRow, IsFed, NetStands, Owns, SendsInto}
use Rattle.net_turns.proofs.Owners.{IsPadOf, closed_head, closed_pad, number_has, of_part, of_source, source_pad, wire_pad}
use Rattle.net_turns.proofs.Others.{pad_tied}
use Rattle.net_turns.proofs.Rows.{not_last}
use Rattle.gst_value.proofs.Basics.{some_same, none_some as no_pad}

-- A pad leads to one sink pad.
pub at_nowhere : (p k : ℕ) (sss : List (List Span)) → LinksAt p k sss → LinksNowhere p sss → ⊥
at_nowhere p k [] h n = h
at_nowhere p zero (ss ∷ sss) h n = absurd (let a = h.0 in let b = n.0 in cc)
at_nowhere p (suc k) (ss ∷ sss) h n = at_nowhere p k sss h.1 n.1

at_once : (p j k : ℕ) (sss : List (List Span)) → LinksAt p j sss → LinksAt p k sss → j ≡ k
at_once p j k [] h g = absurd h
at_once p zero zero (ss ∷ sss) h g = refl
at_once p zero (suc k) (ss ∷ sss) h g = absurd (let a = h.0 in let b = g.0 in cc)
at_once p (suc j) zero (ss ∷ sss) h g = absurd (let a = h.0 in let b = g.0 in cc)
at_once p (suc j) (suc k) (ss ∷ sss) h g = ap suc (at_once p j k sss h.1 g.1)

pub leads_nowhere : (plan : Plan) (p n k : ℕ) → Leads plan p n k → LeadsNowhere plan p → ⊥
leads_nowhere plan p n k h none = at_nowhere p k (plan.sinks n) h.here (none n)

pub leads_once : (plan : Plan) (p n k n' k' : ℕ) → Leads plan p n k → Leads plan p n' k' → (n ≡ n') × (k ≡ k')
leads_once plan p n k n' k' h g = go (cases_eq n n')
  where
    go : (n ≡ n') ⊎ (n ≡ n' → ⊥) → (n ≡ n') × (k ≡ k')
    go (inl e) = (e, at_once p k k' (plan.sinks n') (subst (λ (a : ℕ). LinksAt p k (plan.sinks a)) e h.here) g.here)
    go (inr else) = absurd (at_nowhere p k (plan.sinks n) h.here (g.elsewhere n else))

module _ {S E I O L : Type 0} {s : sources.Ghosts S} {e : elements.Ghosts E} {i : inlets.Ghosts I L O} {o : outlets.Ghosts O L} where
  -- the task of a place
  pub same_task : (tasks : List (Task S E I O L s e i o)) (k j : ℕ) (one other : Task S E I O L s e i o) → slice_get tasks k ≡ Some one → slice_get tasks j ≡ Some other → k ≡ j → one ≡ other
  same_task tasks k j one other a b same = some_same (sym a ∙ (ap (λ n. slice_get tasks n) same ∙ b))

  pub fed_owned : (tasks : List (Task S E I O L s e i o)) (k : ℕ) (head : InletHead I) → IsFed tasks k head → Owns tasks k head.number
  fed_owned tasks k head f =
      record { task = f.task; at = f.at; has = number_has o f.task.head f.task.parts.items head.number (closed_head f.task.head f.task.parts.items f.task.closed head f.head_is) }

  pub row_owned : (tasks : List (Task S E I O L s e i o)) (k n port : ℕ) (row : InletRow I) → HasRow tasks k n port row → Owns tasks k n
  row_owned tasks k n port row h = subst (λ (a : ℕ). Owns tasks k a) h.number (fed_owned tasks k h.head h.fed)

  pub inside_owned : (tasks : List (Task S E I O L s e i o)) (k : ℕ) (task : Task S E I O L s e i o) (pad : Pad O) (n port : ℕ) → slice_get tasks k ≡ Some task
      → IsPadOf task.head task.parts.items pad
      → goes_of pad ≡ inside n port → Owns tasks k n
  inside_owned tasks k task pad n port at is leads =
      record { task = task; at = at; has = number_has o task.head task.parts.items n (closed_pad task.head task.parts.items task.closed pad is n port leads) }

  -- rows of one head
  fed_same : (tasks : List (Task S E I O L s e i o)) (k j : ℕ) (one other : InletHead I) → IsFed tasks k one → IsFed tasks j other → k ≡ j → one ≡ other
  fed_same tasks k j one other a b same = ap (inlets_of one) (sym a.head_is ∙ (ap (λ (t : Task S E I O L s e i o). t.head) (same_task tasks k j a.task b.task a.at b.at same) ∙ b.head_is))
    where
      inlets_of : InletHead I → Head S I O s → InletHead I
      inlets_of fed (Source head) = fed
      inlets_of fed (Inlets head) = head

  pub row_once : (tasks : List (Task S E I O L s e i o)) → AreWired tasks → (k j n port : ℕ) (one other : InletRow I) → HasRow tasks k n port one → HasRow tasks j n port other → one ≡ other
  row_once tasks wired k j n port one other a b =
      let same = wired.once k j n (row_owned tasks k n port one a) (row_owned tasks j n port other b) in
      some_same (sym a.at ∙ (ap (λ (h : InletHead I). slice_get h.rows.items port) (fed_same tasks k j a.head b.head a.fed b.fed same) ∙ b.at))

  module _ (m : Moment) (tasks : List (Task S E I O L s e i o)) (tells : Option (List Lane)) (net : NetStands m tasks tells) where
    pub pad_owned : (k : ℕ) (task : Task S E I O L s e i o) (pad : Pad O) → slice_get tasks k ≡ Some task → IsPadOf task.head task.parts.items pad
        → PadLinked o m pad × Owns tasks k (m.plan.owner (number_of pad))
    pad_owned k task pad at is =
        let tied = pad_tied i o (Stands m) nothing_lost m task.head task.parts.items (net.tied k task at) pad is in
        (tied.0, record { task = task; at = at; has = tied.1 })

    pub wire_owned : (k : ℕ) (task : Task S E I O L s e i o) (wire : Wire) → slice_get tasks k ≡ Some task → IsWire (frame_of task) wire
        → (pad : Pad O) × IsPadOf task.head task.parts.items pad × (wire ≡ wire_of o pad) × PadLinked o m pad × Owns tasks k (m.plan.owner wire.number)
    wire_owned k task wire at is =
        let p = wire_pad o task.head task.parts.items wire is in
        let tied = pad_owned k task p.0 at p.1 in
        (p.0, p.1, p.2, tied.0, subst (λ (w : Wire). Owns tasks k (m.plan.owner w.number)) (sym p.2) tied.1)

    fed_tied : (k : ℕ) (head : InletHead I) (f : IsFed tasks k head) → RowsTied i nothing_lost m head f.task.parts.items
    fed_tied k head f = subst (λ (h : Head S I O s). HeadTied i o nothing_lost m h f.task.parts.items) f.head_is (net.tied k f.task f.at).head_tied

    fed_apart : (k : ℕ) (head : InletHead I) (f : IsFed tasks k head) → RowsApart i (frame_of f.task) head
    fed_apart k head f = subst (λ (h : Head S I O s). HeadApart i (frame_of f.task) h) f.head_is (net.ready k f.task f.at).head_apart

    fed_ready : (k : ℕ) (head : InletHead I) (f : IsFed tasks k head) → InletsReady i tells head
    fed_ready k head f = subst (λ (h : Head S I O s). HeadReady i o tells h) f.head_is (net.ready k f.task f.at).head_ready

    pub row_apart : (k n port : ℕ) (row : InletRow I) → HasRow tasks k n port row → AreApart i row
    row_apart k n port row h = (fed_apart k h.head h.fed).each port row h.at

    pub row_in : (k n port : ℕ) (row : InletRow I) → HasRow tasks k n port row → RowIn i tells row
    row_in k n port row h = fed_ready k h.head h.fed port row h.at

    -- lanes of rows of different sink pads have different places
    pub rows_apart : (k j n n' port port' : ℕ) (one other : InletRow I) → HasRow tasks k n port one → HasRow tasks j n' port' other → (n ≡ n' → port ≡ port' → ⊥)
        → ForLanes (λ inlet. ForLanes (λ second. i.place second ≢ i.place inlet) (feeds_of other)) (feeds_of one)
    rows_apart k j n n' port port' one other a b else = go (cases_eq k j)
      where
        go : (k ≡ j) ⊎ (k ≡ j → ⊥) → ForLanes (λ inlet. ForLanes (λ second. i.place second ≢ i.place inlet) (feeds_of other)) (feeds_of one)
        go (inl same) =
            let head = fed_same tasks k j a.head b.head a.fed b.fed same in
            (fed_apart k a.head a.fed).rows port port' one other a.at (ap (λ (h : InletHead I). slice_get h.rows.items port') head ∙ b.at)
            (else (sym a.number ∙ (ap (λ (h : InletHead I). h.number) head ∙ b.number)))
        go (inr apart) = net.wired.one_takes k j n n' port port' one other a b apart

    -- no pad leads inside its task to a sink pad that has a row
    pub inside_no_row : (k j n port : ℕ) (task : Task S E I O L s e i o) (pad : Pad O) (row : InletRow I) → slice_get tasks k ≡ Some task
        → IsPadOf task.head task.parts.items pad → goes_of pad ≡ inside n port
        → HasRow tasks j n port row → ⊥
    inside_no_row k j n port task pad row at is leads h =
        let same = net.wired.once k j n (inside_owned tasks k task pad n port at is leads) (row_owned tasks j n port row h) in
        let one = same_task tasks k j task h.fed.task at h.fed.at same in
        go (subst (λ (t : Task S E I O L s e i o). IsPadOf t.head t.parts.items pad) one is)
      where
        go : IsPadOf h.fed.task.head h.fed.task.parts.items pad → ⊥
        go (of_part a b part part_at pad_at) = (fed_tied j h.head h.fed port row h.at).apart a b part pad part_at pad_at (leads ∙ ap (λ (q : ℕ). inside q port) (sym h.number))
        go (of_source at) = no_pad (sym (ap source_pad h.fed.head_is) ∙ at)

    -- a pad leads where its lane leads
    pub sends_leads : (k p place from n port : ℕ) → SendsInto tasks k p place from n port → Leads m.plan p n port
    sends_leads k p place from n port h =
        let w = wire_owned k h.task h.out.wire h.at h.out.is in
        let leads = subst (λ (g : Goes). LeadsAs m (number_of w.0) g) (sym (ap (λ (x : Wire). x.leads) w.2) ∙ h.out.leads) w.3.leads in
        subst (λ (q : ℕ). Leads m.plan q n port) (sym (ap (λ (x : Wire). x.number) w.2) ∙ h.out.number) leads

    -- the pad of a wire of a task is of an element of it, and a pad of another element is another
    pub own_pad : (place : ℕ) (before : Task S E I O L s e i o) → slice_get tasks place ≡ Some before → (wire : Wire) (p : ℕ) → IsWire (frame_of before) wire
        → wire.number ≡ p → Owns tasks place (m.plan.owner p)
    own_pad place before at wire p is number = subst (λ (q : ℕ). Owns tasks place (m.plan.owner q)) number (wire_owned place before wire at is).4

    pub other_pad : (place p q : ℕ) → Owns tasks place (m.plan.owner p) → (Owns tasks place (m.plan.owner q) → ⊥) → q ≡ p → ⊥
    other_pad place p q own none same = none (subst (λ (r : ℕ). Owns tasks place (m.plan.owner r)) (sym same) own)

    -- the lane of a pad is none of its own task's inlets
    pub no_own_lane : (k j p place from n port n' port' : ℕ) (row : InletRow I) → SendsInto tasks k p place from n port → HasRow tasks j n' port' row → EndsWith i row place → k ≡ j → ⊥
    no_own_lane k j p place from n port n' port' row sends h ends same =
        go (subst (λ (t : Task S E I O L s e i o). IsWire (frame_of t) sends.out.wire) (same_task tasks k j sends.task h.fed.task sends.at h.fed.at same) sends.out.is)
      where
        go : IsWire (frame_of h.fed.task) sends.out.wire → ⊥
        go (wire_part a b w) = not_last i row place ends ((fed_apart j h.head h.fed).pads a b place sends.out.wire w sends.out.into port' row h.at)
        go (wire_head at) = no_wire (sym (ap (λ (one : Head S I O s). head_wire (head_frame o one)) h.fed.head_is) ∙ at)
          where
            no_wire : None ≡ Some sends.out.wire → ⊥
            no_wire e = cc
