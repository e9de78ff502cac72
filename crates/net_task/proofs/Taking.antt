-- What it does to a task that the element which its head feeds takes its next item.
use Rattle.std.proofs.Common.{◌≡◌, ◌⊎◌, ◌++◌, ℕ, true, false, eqb, if◌then◌else◌, List, [], ◌∷◌, map, Some, Option, refl, sym, ap, ◌∙◌, subst, inl, inr, append-nil}
use Rattle.std.specs.Prelude.{slice_get, slice_set, Result, Ok, Err}
use Rattle.std.proofs.lemmas.Bool.Decides.{eqb_tells}
use Rattle.std.proofs.lemmas.Bool.{cases_eq}
use Rattle.flow_model.specs.Item.{Item, is_flush_stop}
use Rattle.flow_model.specs.Call.{Call, Feed}
use Rattle.lane_core.specs.Lane.{Lane}
use Rattle.lane_core.specs.declared.ends.Inlet as inlets
use Rattle.lane_core.specs.declared.ends.Outlet as outlets
use Rattle.flow_model.specs.Moment.{Moment, behavior_at}
use Rattle.flow_model.specs.SinkPads.{push_calls}
use Rattle.flow_model.proofs.Inputs.{at_here}
use Rattle.flow_model.specs.declared.element.TaskElement as elements
use Rattle.flow_model.specs.declared.source.TaskSource as sources
use Rattle.flow_model.specs.declared.refusal.Refusal.{Refusal}
use Rattle.inlet_row.specs.declared.row.InletRow.{InletRow}
use Rattle.inlet_row.specs.Taken.{Taken}
use Rattle.inlet_row.specs.Taken as takes
use Rattle.inlet_row.specs.Row.{RowGave}
use Rattle.task_parts.specs.declared.part.Part.{Part}
use Rattle.task_parts.specs.declared.head.Head.{Head}
use Rattle.task_parts.specs.declared.head.Head.TheVariants.{Inlets}
use Rattle.task_parts.specs.declared.head.InletHead.{InletHead}
use Rattle.task_parts.specs.declared.step.Tried.{Tried}
use Rattle.task_parts.specs.declared.step.Tried.TheVariants as tried
use Rattle.task_parts.specs.declared.step.Step.TheVariants as steps
use Rattle.task_parts.specs.declared.fault.TaskFault.{TaskFault}
use Rattle.task_parts.specs.Fault.{refusal_fault}
use Rattle.task_parts.specs.Found.{IsAt}
use Rattle.task_parts.specs.Shape.{part_shape}
use Rattle.task_parts.specs.Part.{PartFed, PartFell}
use Rattle.task_parts.specs.Moved.{PartSet}
use Rattle.task_parts.specs.Passing.{RowAsked, RowSet, AsksRow, AfterTake, RowFeeds, WantsNone, WantsOne, TakesNext}
use Rattle.net_task.specs.Ties.{TookAt, PartsTied, RowTied, RowsTied, AreTied, Stands, nothing_lost}
use Rattle.net_task.specs.Moves.{takes as takes_one, taking}
use Rattle.net_task.specs.Failed.{StandsOrFell, Left, Refuses, at_head, by_inlet, lost_at}
use Rattle.task_pads.proofs.Lists.{set_there}
use Rattle.net_task.proofs.Tied.{none_leads_same, parts_set, part_known, part_fell, took_other, took_more}
use Rattle.net_task.proofs.Fed.{now, out_now, fed_parts, fed_answers}
use Rattle.net_task.proofs.Handing.{shape_at}
use Rattle.net_task.proofs.Passing.{MovesOn}
use Rattle.net_task.proofs.Trying.{ok_same, not_both}
use Rattle.gst_value.proofs.Basics.{some_same}
use Rattle.gst_value.proofs.Places.{set_at}

lost_here : (port : ℕ) (x : Item) → lost_at port x port ≡ x ∷ []
lost_here port x = go (eqb_tells port port)
  where
    go : ((eqb port port ≡ true) × (port ≡ port)) ⊎ ((eqb port port ≡ false) × (port ≡ port → ⊥)) → (if eqb port port then x ∷ [] else []) ≡ x ∷ []
    go (inl t) = rw t.0 refl
    go (inr t) = absurd (t.1 refl)

lost_else : (port : ℕ) (x : Item) (k : ℕ) → (k ≡ port → ⊥) → lost_at port x k ≡ []
lost_else port x k n = go (eqb_tells k port)
  where
    go : ((eqb k port ≡ true) × (k ≡ port)) ⊎ ((eqb k port ≡ false) × (k ≡ port → ⊥)) → (if eqb k port then x ∷ [] else []) ≡ []
    go (inl t) = absurd (n t.1)
    go (inr t) = rw t.0 refl

-- What was taken of a row, or was not, by the answer.
pub data TookBy {E I O L : Type 0} {e : elements.Ghosts E} (i : inlets.Ghosts I L O) (head head' : InletHead I) (parts parts' : List (Part E O e)) (part : Part E O e) (to : ℕ) (tells tells' : Option (List Lane)) (r : Result Tried TaskFault) (answer : Tried) : Type 0 where
  took_none : answer ≡ tried.Idle → WantsNone i head head' parts parts' part tells tells' r → TookBy i head head' parts parts' part to tells tells' r answer
  took_empty : (port lane : ℕ) → answer ≡ tried.Stuck (steps.NeedsItem lane) → e.wanted part.element ≡ Some port → RowAsked i head head' port tells tells' (takes.Empty lane) → parts' ≡ parts → TookBy i head head' parts parts' part to tells tells' r answer
  took_flush : (port : ℕ) (x : Item) → answer ≡ tried.Moved → AsksRow i head head' port tells tells' (takes.Item x) → is_flush_stop x ≡ true → parts' ≡ parts → TookBy i head head' parts parts' part to tells tells' r answer
  took_item : (port : ℕ) (x : Item) → answer ≡ tried.Moved → AsksRow i head head' port tells tells' (takes.Item x) → (was is : Part E O e) → PartSet parts parts' to was is → PartFed was is port x → e.wanted was.element ≡ Some port → TookBy i head head' parts parts' part to tells tells' r answer

pub record Refused {E I O L : Type 0} {e : elements.Ghosts E} (i : inlets.Ghosts I L O) (head head' : InletHead I) (parts parts' : List (Part E O e)) (to : ℕ) (tells tells' : Option (List Lane)) (fault : TaskFault) : Type 0 where
  pub port : ℕ
  pub item : Item
  pub asks : AsksRow i head head' port tells tells' (takes.Item item)
  pub refusal : Refusal
  pub was : Part E O e
  pub is : Part E O e
  pub set : PartSet parts parts' to was is
  pub fell : PartFell was is port item refusal
  pub wanted : e.wanted was.element ≡ Some port
  pub named : fault ≡ refusal_fault was.number refusal

module _ {E I O L : Type 0} {e : elements.Ghosts E} (i : inlets.Ghosts I L O) (head head' : InletHead I) (parts parts' : List (Part E O e)) (tells tells' : Option (List Lane)) (r : Result Tried TaskFault)
    (t : TakesNext i head head' parts parts' tells tells' r) where
  asked_item : (port : ℕ) (x : Item) → RowAsked i head head' port tells tells' (takes.Item x) → AsksRow i head head' port tells tells' (takes.Item x)
  asked_item port x (inl k) = k
  asked_item port x (inr k) = absurd (let z = k.empty in cc)

  wanted_of : (port : ℕ) (was is : Part E O e) → PartSet parts parts' t.to was is → e.wanted t.fed.part.element ≡ Some port → e.wanted was.element ≡ Some port
  wanted_of port was is set w = subst (λ (p : Part E O e). e.wanted p.element ≡ Some port) (some_same (sym t.fed.at ∙ set.at)) w

  abbrev Took_as : Tried → Type 0
  Took_as answer = TookBy i head head' parts parts' t.fed.part t.to tells tells' r answer

  pub took_by : (answer : Tried) → r ≡ Ok answer → Took_as answer
  took_by answer q = go t.next
    where
      item : (port : ℕ) (x : Item) (z : Result Tried TaskFault) → z ≡ Ok answer → e.wanted t.fed.part.element ≡ Some port → RowAsked i head head' port tells tells' (takes.Item x) → RowFeeds parts parts' t.to port x z → Took_as answer
      item port x (Ok given) y w k f = let same : answer ≡ given = cc in took_item port x (same ∙ f.0) (asked_item port x k) f.1 f.2 f.3 f.4 (wanted_of port f.1 f.2 f.3 w)
      item port x (Err fault) y w k f = absurd cc

      one : (port : ℕ) (taken : Taken) → e.wanted t.fed.part.element ≡ Some port → RowAsked i head head' port tells tells' taken → AfterTake i parts parts' t.to port taken r → Took_as answer
      one port (takes.Empty lane) w k f = took_empty port lane (sym (ok_same r (tried.Stuck (steps.NeedsItem lane)) answer f.1 q)) w k f.0
      one port (takes.Item x) w k (inl f) = took_flush port x (sym (ok_same r tried.Moved answer f.2 q)) (asked_item port x k) f.0 f.1
      one port (takes.Item x) w k (inr f) = item port x r q w k f.1

      go : (WantsNone i head head' parts parts' t.fed.part tells tells' r ⊎ WantsOne i head head' parts parts' t.fed.part t.to tells tells' r) → Took_as answer
      go (inl w) = took_none (sym (ok_same r tried.Idle answer w.idle q)) w
      go (inr w) = one w.port w.taken w.wanted w.asks w.after

  pub refused_by : (fault : TaskFault) → r ≡ Err fault → Refused i head head' parts parts' t.to tells tells' fault
  refused_by fault q = go t.next
    where
      item : (port : ℕ) (x : Item) (z : Result Tried TaskFault) → z ≡ Err fault → e.wanted t.fed.part.element ≡ Some port → RowAsked i head head' port tells tells' (takes.Item x) → RowFeeds parts parts' t.to port x z
          → Refused i head head' parts parts' t.to tells tells' fault
      item port x (Ok given) y w k f = absurd cc
      item port x (Err given) y w k f =
          let same : fault ≡ given = cc in
          record { port = port; item = x; asks = asked_item port x k; refusal = f.0; was = f.1; is = f.2; set = f.3; fell = f.4; wanted = wanted_of port f.1 f.2 f.3 w; named = same ∙ f.5 }

      one : (port : ℕ) (taken : Taken) → e.wanted t.fed.part.element ≡ Some port → RowAsked i head head' port tells tells' taken → AfterTake i parts parts' t.to port taken r → Refused i head head' parts parts' t.to tells tells' fault
      one port (takes.Empty lane) w k f = not_both r (tried.Stuck (steps.NeedsItem lane)) fault f.1 q
      one port (takes.Item x) w k (inl f) = not_both r tried.Moved fault f.2 q
      one port (takes.Item x) w k (inr f) = item port x r q w k f.1

      go : (WantsNone i head head' parts parts' t.fed.part tells tells' r ⊎ WantsOne i head head' parts parts' t.fed.part t.to tells tells' r) → Refused i head head' parts parts' t.to tells tells' fault
      go (inl w) = not_both r tried.Idle fault w.idle q
      go (inr w) = one w.port w.taken w.wanted w.asks w.after

module _ {S E I O L : Type 0} {s : sources.Ghosts S} {e : elements.Ghosts E} (i : inlets.Ghosts I L O) (o : outlets.Ghosts O L) (head head' : InletHead I) (parts parts' : List (Part E O e)) (to : ℕ) (at : IsAt parts head.number to)
    (shapes : map part_shape parts' ≡ map part_shape parts) (m : Moment) (a : AreTied {S = S} {s = s} i o (Stands m) nothing_lost m (Inlets head) parts) where
  abbrev Head_of : InletHead I → Head S I O s
  Head_of h = Inlets h

  -- no row changed
  pub rows_same : head'.number ≡ head.number → head'.rows ≡ head.rows → parts' ≡ parts → AreTied {S = S} {s = s} i o (Stands m) nothing_lost m (Inlets head') parts'
  rows_same number rows same =
      subst (AreTied i o (Stands m) nothing_lost m (Head_of head')) (sym same)
      (record { parts_tied = a.parts_tied; head_tied = subst (λ k. (port : ℕ) (row : InletRow I) → slice_get head'.rows.items port ≡ Some row → RowTied i [] m k port row parts) (sym number) (rw rows a.head_tied) })

  -- one row changed, and what it gave
  rows_set : (lost : ℕ → List Item) (m' : Moment) (port : ℕ) (was is : InletRow I) → RowSet i head head' port was is → RowTied i (lost port) m' head.number port is parts'
      → ((k : ℕ) (row : InletRow I) → (k ≡ port → ⊥) → RowTied i [] m head.number k row parts → RowTied i (lost k) m' head.number k row parts') → RowsTied i lost m' head' parts'
  rows_set lost m' port was is set here other = λ k row row_at. subst (λ n. RowTied i (lost k) m' n k row parts') (sym set.number) (go k row row_at (cases_eq k port))
    where
      got : (k : ℕ) (row : InletRow I) → slice_get head'.rows.items k ≡ Some row → slice_get (slice_set head.rows.items port is) k ≡ Some row
      got k row row_at = ap (λ (rs : List (InletRow I)). slice_get rs k) (sym set.set) ∙ row_at

      go : (k : ℕ) (row : InletRow I) → slice_get head'.rows.items k ≡ Some row → ((k ≡ port) ⊎ (k ≡ port → ⊥)) → RowTied i (lost k) m' head.number k row parts'
      go k row row_at (inl same) =
          let one : row ≡ is = some_same (sym (got k row row_at) ∙ ap (slice_get (slice_set head.rows.items port is)) same ∙ set_at head.rows.items port was is set.at) in
          subst (λ (r : InletRow I). RowTied i (lost k) m' head.number k r parts') (sym one) (subst (λ j. RowTied i (lost j) m' head.number j is parts') (sym same) here)
      go k row row_at (inr n) = other k row n (a.head_tied k row (sym (set_there head.rows.items port k is n) ∙ got k row row_at))

  -- a row gave nothing
  pub row_stays : (port : ℕ) (was is : InletRow I) → RowSet i head head' port was is → ((got : List Item) → RowGave i was got → RowGave i is got) → parts' ≡ parts → AreTied {S = S} {s = s} i o (Stands m) nothing_lost m (Inlets head') parts'
  row_stays port was is set gave same =
      let z = a.head_tied port was set.at in
      record {
        parts_tied = subst (PartsTied o (Stands m) m) (sym same) a.parts_tied;
        head_tied = rows_set nothing_lost m port was is set (record { all = z.all; gave = gave z.all z.gave; got = z.got; whole = z.whole; took = z.took; apart = none_leads_same parts parts' head.number port shapes z.apart })
            (λ k row n y. record { all = y.all; gave = y.gave; got = y.got; whole = y.whole; took = y.took; apart = none_leads_same parts parts' head.number k shapes y.apart });
      }

  -- the element took what a row gave
  pub row_fed : (port : ℕ) (was is : InletRow I) (x : Item) → RowSet i head head' port was is → ((got : List Item) → RowGave i was got → RowGave i is (got ++ x ∷ [])) → (eater ate : Part E O e) → PartSet parts parts' to eater ate → PartFed eater ate port x
      → MovesOn {S = S} {s = s} i o m (taking eater.number port x) (Inlets head') parts'
  row_fed port was is x set gave eater ate eats fed =
      let n : eater.number ≡ head.number = ap (λ (z : Part E O e). z.number) (some_same (sym eats.at ∙ at.at)) ∙ at.number_is in
      let shape : part_shape ate ≡ part_shape eater = shape_at part_shape parts parts' shapes to eater ate eats.at (ap (λ (ps : List (Part E O e)). slice_get ps to) eats.set ∙ set_at parts to eater ate eats.at) in
      let z = a.head_tied port was set.at in
      let m' : Moment = now o parts parts' to port x eater ate eats shape fed m in
      let took : m'.took head.number ≡ push_calls port (Feed x ∷ []) (m.took head.number) =
      subst (λ k. m'.took k ≡ push_calls port (Feed x ∷ []) (m.took k)) n (at_here eater.number (push_calls port (Feed x ∷ []) (m.took eater.number)) m.took) in
      record {
        next = m';
        move = takes_one eater.number port x (out_now o parts parts' to port x eater ate eats shape fed m) (fed_answers o parts parts' to port x eater ate eats shape fed m a.parts_tied);
        tied = record {
          parts_tied = fed_parts o parts parts' to port x eater ate eats shape fed m a.parts_tied;
          head_tied = rows_set nothing_lost m' port was is set
              (record {
                all = z.all ++ x ∷ [];
                gave = gave z.all z.gave;
                got = z.got ++ x ∷ [];
                whole = ap (λ ys. ys ++ x ∷ []) (z.whole ∙ append-nil z.got) ∙ sym (append-nil (z.got ++ x ∷ []));
                took = subst (λ (ts : List (List Call)). TookAt port ts (z.got ++ x ∷ [])) (sym took) (took_more port (m.took head.number) z.got x z.took);
                apart = none_leads_same parts parts' head.number port shapes z.apart;
              })
              (λ k row far y. record {
                all = y.all;
                gave = y.gave;
                got = y.got;
                whole = y.whole;
                took = subst (λ (ts : List (List Call)). TookAt k ts y.got) (sym took) (took_other k port (Feed x ∷ []) (m.took head.number) y.got far y.took);
                apart = none_leads_same parts parts' head.number k shapes y.apart;
              });
        };
      }

  -- it refused it
  pub row_back : (port : ℕ) (was is : InletRow I) (x : Item) → RowSet i head head' port was is → ((got : List Item) → RowGave i was got → RowGave i is (got ++ x ∷ [])) → (refusal : Refusal) (eater ate : Part E O e) → PartSet parts parts' to eater ate → PartFell eater ate port x refusal
      → e.wanted eater.element ≡ Some port → Left {S = S} {s = s} i o m at_head (Inlets head') parts' eater.number port x × Refuses m parts parts' eater.number port x refusal
  row_back port was is x set gave refusal eater ate eats fell wanted =
      let z = a.head_tied port was set.at in
      let tied = a.parts_tied.each to eater eats.at in (
        record {
          behind = m;
          lost = lost_at port x;
          gave_up = by_inlet;
          of_head = set.number ∙ sym (ap (λ (q : Part E O e). q.number) (some_same (sym eats.at ∙ at.at)) ∙ at.number_is);
          wanted = (eater.element, tied.stood, wanted);
          tied = record {
            parts_tied = parts_set o (Stands m) (StandsOrFell eater.number port x m) m m parts parts' to eater ate eats fell.number (λ q n y. part_known o (Stands m q) (StandsOrFell eater.number port x m q) m q inl y)
                (part_fell o (Stands m eater) (StandsOrFell eater.number port x m ate) m eater ate fell.number fell.pads fell.out
                (inr (fell.number, subst (λ k. e.fell ate.element (behavior_at m k) (m.took k) port x) (sym fell.number) (fell.fell (behavior_at m eater.number) (m.took eater.number) tied.stood))) tied)
                a.parts_tied;
            head_tied = rows_set (lost_at port x) m port was is set
                (record {
                  all = z.all ++ x ∷ [];
                  gave = gave z.all z.gave;
                  got = z.got;
                  whole = ap (λ ys. ys ++ x ∷ []) (z.whole ∙ append-nil z.got) ∙ ap (λ ys. z.got ++ ys) (sym (lost_here port x));
                  took = z.took;
                  apart = none_leads_same parts parts' head.number port shapes z.apart;
                })
                (λ k row far y. record { all = y.all; gave = y.gave; got = y.got; whole = y.whole ∙ ap (λ ys. y.got ++ ys) (sym (lost_else port x k far)); took = y.took; apart = none_leads_same parts parts' head.number k shapes y.apart });
          };
        },
        record {
          by = record { place = to; was = eater; is = ate; was_at = eats.at; is_at = ap (λ (ps : List (Part E O e)). slice_get ps to) eats.set ∙ set_at parts to eater ate eats.at; number = fell.number; cause = fell.cause };
          stood = tied.stood;
          why = fell.refused (behavior_at m eater.number) (m.took eater.number) tied.stood;
        },
      )
