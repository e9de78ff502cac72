-- What stands at a moment stands at one that differs from it at one element.
use Rattle.std.proofs.Common.{◌≡◌, ◌≢◌, ◌⊎◌, ◌+◌, ◌++◌, ℕ, List, [], Some, length, map, refl, sym, ap, ◌∙◌, subst, inl, inr}
use Rattle.std.specs.Prelude.{slice_get}
use Rattle.std.proofs.lemmas.Bool.{cases_eq}
use Rattle.flow_model.specs.Item.{Item}
use Rattle.flow_model.specs.Call.{Call, feeds}
use Rattle.flow_model.specs.Link.{Span, input_of}
use Rattle.flow_model.specs.Eval.{inputs}
use Rattle.flow_model.specs.Rule.{Answers, Rule}
use Rattle.gst_value.proofs.Places.{map_get}
use Rattle.lane_core.specs.Lane.{Lane}
use Rattle.lane_core.specs.declared.ends.Inlet as inlets
use Rattle.lane_core.specs.declared.ends.Outlet as outlets
use Rattle.flow_model.specs.Moment.{CellStands, Moment, PadStands, behavior_at, owed_at}
use Rattle.flow_model.specs.Pad.{Holds}
use Rattle.flow_model.specs.Split.{AreSplit, NoneAt}
use Rattle.flow_model.specs.Standing.{AllStanding, LinksAt, LinksNowhere}
use Rattle.flow_model.specs.Step.{Leads}
use Rattle.flow_model.specs.declared.element.TaskElement as elements
use Rattle.flow_model.specs.declared.source.TaskSource as sources
use Rattle.inlet_row.specs.declared.row.InletRow.{InletRow}
use Rattle.inlet_row.specs.Row.{row_holds}
use Rattle.task_pads.specs.Behind.{Goes, inside, nowhere, over}
use Rattle.task_pads.specs.declared.pad.Pad.{Pad}
use Rattle.task_pads.specs.Pads.{HasCrossed, SentOver, goes_of, number_of, waiting_of}
use Rattle.task_parts.specs.declared.head.Head.{Head}
use Rattle.task_parts.specs.declared.head.Head.TheVariants.{Source, Inlets}
use Rattle.task_parts.specs.declared.head.InletHead.{InletHead}
use Rattle.task_parts.specs.declared.head.SourceHead.{SourceHead}
use Rattle.task_parts.specs.declared.part.Part.{Part}
use Rattle.net_task.specs.declared.task.Task.{Task}
use Rattle.net_task.specs.Frame.{IsWire, Wire, frame_of, head_frame, head_wire, of_head, of_part, part_frame, wire_of}
use Rattle.net_task.specs.Ties.{HeadTied, LeadsAs, PadLinked, PartTied, RowTied, SourceTied, Stands, Ties, TookAt, nothing_lost}
use Rattle.net_turns.specs.Net.{HasElement, IsPlain, ListAt, RowStands, part, source}
use Rattle.net_edits.specs.Adding.{DiffersAt, IsSameAt}

-- a pad leads to no sink pad of an element
abbrev pub NotTo : ℕ → Goes → Type 0
NotTo n nowhere = Unit {0}
NotTo n (inside e i) = e ≢ n
NotTo n (over lane e i from) = e ≢ n

module _ (n : ℕ) (m m' : Moment) (d : DiffersAt n m m') where
  history_same : m'.history ≡ m.history
  history_same = λ i p. d.history p i

  -- No link to the element stands at the later moment: where another leads, it still leads.
  module _ (free : (p : ℕ) → LinksNowhere p (m'.plan.sinks n)) where
    nowhere_at : (p a : ℕ) → LinksNowhere p (m.plan.sinks a) → LinksNowhere p (m'.plan.sinks a)
    nowhere_at p a h = go (cases_eq a n)
      where
        go : (a ≡ n) ⊎ (a ≡ n → ⊥) → LinksNowhere p (m'.plan.sinks a)
        go (inl same) = subst (λ (b : ℕ). LinksNowhere p (m'.plan.sinks b)) (sym same) (free p)
        go (inr ne) = subst (LinksNowhere p) (sym (d.others a ne).sinks) h

    leads_on : (p e i : ℕ) → e ≢ n → Leads m.plan p e i → Leads m'.plan p e i
    leads_on p e i ne l = record { here = subst (LinksAt p i) (sym (d.others e ne).sinks) l.here; elsewhere = λ a other. nowhere_at p a (l.elsewhere a other) }

    pub leads_as : (p : ℕ) (g : Goes) → NotTo n g → LeadsAs m p g → LeadsAs m' p g
    leads_as p nowhere ne l = λ a. nowhere_at p a (l a)
    leads_as p (inside e i) ne l = (leads_on p e i ne l.0, subst (NoneAt i) (sym (d.others e ne).held) l.1)
    leads_as p (over lane e i from) ne l = leads_on p e i ne l

  -- another element stands
  pub cells_on : IsPlain m.plan → IsPlain m'.plan → (a : ℕ) → a ≢ n → CellStands m a → CellStands m' a
  cells_on plain plain' a ne c = record {
    pads = λ p own. pad p (sym (d.owner p) ∙ own);
    input = subst (λ (ts : List (List Call)). AreSplit ts (m'.held a) (inputs m'.plan m'.history a)) (sym same.took)
        (subst (λ (hs : List (List Call)). AreSplit (m.took a) hs (inputs m'.plan m'.history a)) (sym same.held)
        (subst (λ (sss : List (List Span)). AreSplit (m.took a) (m.held a) (given sss m'.history)) (sym same.sinks)
        (subst (λ (h : ℕ → List Item). AreSplit (m.took a) (m.held a) (given (m.plan.sinks a) h)) (sym history_same) c.input)));
    standing = subst (AllStanding m'.history) (sym same.sinks) (subst (λ (h : ℕ → List Item). AllStanding h (m.plan.sinks a)) (sym history_same) c.standing);
  }
    where
      given : List (List Span) → (ℕ → List Item) → List (List Call)
      given sss h = map (input_of h) sss

      same : IsSameAt m m' a
      same = d.others a ne

      pad : (p : ℕ) → m.plan.owner p ≡ a → PadStands m' p
      pad p own = subst (λ (cuts : List (ℕ × ℕ)). Holds 0 0 cuts (owed_at m' p) (m'.history p) (m'.waits p)) (sym (plain'.uncut p)) owed'
        where
          other : m.plan.owner p ≢ n
          other is = ne (sym own ∙ is)

          owed : owed_at m p 0 ≡ m.history p ++ m.waits p
          owed = subst (λ (cuts : List (ℕ × ℕ)). Holds 0 0 cuts (owed_at m p) (m.history p) (m.waits p)) (plain.uncut p) (c.pads p own)

          owed' : owed_at m' p 0 ≡ m'.history p ++ m'.waits p
          owed' =
              ap (λ (b : ℕ). m'.plan.rule b (m'.took b) (m'.plan.port p) 0) (d.owner p)
              ∙ ap (λ (k : ℕ). m'.plan.rule (m.plan.owner p) (m'.took (m.plan.owner p)) k 0) (d.port p)
              ∙ ap (λ (r : Rule). r (m'.took (m.plan.owner p)) (m.plan.port p) 0) (d.others (m.plan.owner p) other).rule
              ∙ ap (λ (ts : List (List Call)). m.plan.rule (m.plan.owner p) ts (m.plan.port p) 0) (d.others (m.plan.owner p) other).took
              ∙ owed
              ∙ ap (λ (h : List Item). h ++ m.waits p) (sym (d.history p))
              ∙ ap (λ (w : List Item). m'.history p ++ w) (sym (d.waits p other))

module _ {O L : Type 0} (o : outlets.Ghosts O L) (n : ℕ) (m m' : Moment) (d : DiffersAt n m m') where
  linked_on : (pad : Pad O) → (LeadsAs m (number_of pad) (goes_of pad) → LeadsAs m' (number_of pad) (goes_of pad)) → PadLinked o m pad → PadLinked o m' pad
  linked_on pad leads l = record {
    crossed = subst (HasCrossed pad) (sym (d.history (number_of pad))) l.crossed;
    leads = leads l.leads;
    sent = subst (SentOver o pad) (sym (d.history (number_of pad))) l.sent;
  }

module _ {E O L : Type 0} {e : elements.Ghosts E} (o : outlets.Ghosts O L) (n : ℕ) (m m' : Moment) (d : DiffersAt n m m') where
  part_on : IsPlain m'.plan → (one : Part E O e) → one.number ≢ n
      → ((port : ℕ) (pad : Pad O) → slice_get one.pads.items port ≡ Some pad → LeadsAs m (number_of pad) (goes_of pad) → LeadsAs m' (number_of pad) (goes_of pad))
      → PartTied o (Stands m one) m one → PartTied o (Stands m' one) m' one
  part_on plain one ne leads t = record {
    stood = subst (λ (ts : List (List Call)). e.stands one.element (behavior_at m' one.number) ts) (sym same.took)
        (subst (λ (r : Rule). e.stands one.element (record { owes = r; answers = m'.answers one.number }) (m.took one.number)) (sym same.rule)
        (subst (λ (a : Answers). e.stands one.element (record { owes = m.plan.rule one.number; answers = a }) (m.took one.number)) (sym same.answers) t.stood));
    pads = λ port pad at.
        let z = t.pads port pad at in
        record {
          owner = d.owner (number_of pad) ∙ z.owner;
          port_is = d.port (number_of pad) ∙ z.port_is;
          linked = linked_on o n m m' d pad (leads port pad at) z.linked;
          waits = d.waits (number_of pad) (λ is. ne (sym z.owner ∙ is)) ∙ z.waits;
        };
    mine = λ p own.
        let h = t.mine p (sym (d.owner p) ∙ own) in
        record { pad = h.pad; at = ap (λ (k : ℕ). slice_get one.pads.items k) (d.port p) ∙ h.at; number = h.number; uncut = plain.uncut p };
  }
    where
      same : IsSameAt m m' one.number
      same = d.others one.number ne

module _ {S E O L : Type 0} {s : sources.Ghosts S} {e : elements.Ghosts E} (o : outlets.Ghosts O L) (n : ℕ) (m m' : Moment) (d : DiffersAt n m m') where
  source_on : (head : SourceHead S O s) (parts : List (Part E O e)) → head.number ≢ n
      → (LeadsAs m (number_of head.pad) (goes_of head.pad) → LeadsAs m' (number_of head.pad) (goes_of head.pad)) → SourceTied o [] m head parts → SourceTied o [] m' head parts
  source_on head parts ne leads t = record {
    owner = d.owner (number_of head.pad) ∙ t.owner;
    mine = λ p own. t.mine p (sym (d.owner p) ∙ own);
    linked = linked_on o n m m' d head.pad leads t.linked;
    gave = subst (λ (w : List Item). s.gave head.source (m'.history (number_of head.pad) ++ ([] ++ w)) (m'.history (number_of head.pad) ++ ([] ++ waiting_of head.pad)))
        (sym (d.waits (number_of head.pad) (λ is. ne (sym t.owner ∙ is))))
        (subst (λ (h : List Item). s.gave head.source (h ++ ([] ++ m.waits (number_of head.pad))) (h ++ ([] ++ waiting_of head.pad))) (sym (d.history (number_of head.pad))) t.gave);
    given = t.given ∙ ap (λ (h : List Item). length h + (0 + length (waiting_of head.pad))) (sym (d.history (number_of head.pad)));
    apart = t.apart;
  }

module _ {E I O L : Type 0} {e : elements.Ghosts E} (i : inlets.Ghosts I L O) (n : ℕ) (m m' : Moment) (d : DiffersAt n m m') where
  row_tied_on : (number port : ℕ) (row : InletRow I) (parts : List (Part E O e)) → number ≢ n → RowTied i [] m number port row parts → RowTied i [] m' number port row parts
  row_tied_on number port row parts ne t =
      record { all = t.all; gave = t.gave; got = t.got; whole = t.whole; took = subst (λ (css : List (List Call)). TookAt port css t.got) (sym (d.others number ne).took) t.took; apart = t.apart }

module _ {I L O : Type 0} (i : inlets.Ghosts I L O) (n : ℕ) (m m' : Moment) (d : DiffersAt n m m') where
  -- the row of another element stands
  pub row_stands_on : (t : List Lane) (sents : ℕ → List Item) (a port : ℕ) (row : InletRow I) → a ≢ n → RowStands i t sents m a port row → RowStands i t sents m' a port row
  row_stands_on t sents a port row ne r = record {
    got = r.got;
    took = subst (λ (css : List (List Call)). ListAt port css (feeds r.got)) (sym (d.others a ne).took) r.took;
    between = r.between;
    holds = subst (λ (css : List (List Call)). ListAt port css (feeds (row_holds i t row))) (sym (d.others a ne).held) r.holds;
  }

module _ {S E I O L : Type 0} {s : sources.Ghosts S} {e : elements.Ghosts E} {i : inlets.Ghosts I L O} {o : outlets.Ghosts O L} (n : ℕ) (m m' : Moment) (d : DiffersAt n m m') where
  -- a task that has not the element is tied
  pub tied_on : IsPlain m'.plan → (task : Task S E I O L s e i o) → ((a : ℕ) → HasElement (frame_of task) a → a ≢ n) → ((head : InletHead I) → task.head ≡ Inlets head → head.number ≢ n)
      → ((wire : Wire) → IsWire (frame_of task) wire → LeadsAs m wire.number wire.leads → LeadsAs m' wire.number wire.leads) → Ties task m → Ties task m'
  tied_on plain task apart fed leads t = record {
    parts_tied = record {
      each = λ j one at.
          part_on o n m m' d plain one (apart one.number (part j (part_frame o one) (map_get (part_frame o) task.parts.items j one at) refl))
          (λ port pad pad_at. leads (wire_of o pad) (of_part j port (record { part = part_frame o one; at = map_get (part_frame o) task.parts.items j one at; pad_at = map_get (wire_of o) one.pads.items port pad pad_at })))
          (t.parts_tied.each j one at);
      once = t.parts_tied.once;
    };
    head_tied = go task.head refl t.head_tied;
  }
    where
      go : (h : Head S I O s) → task.head ≡ h → HeadTied i o nothing_lost m h task.parts.items → HeadTied i o nothing_lost m' h task.parts.items
      go (Source h) is t =
          source_on o n m m' d h task.parts.items (apart h.number (source (s.file h.source) (wire_of o h.pad) (ap (λ (x : Head S I O s). head_frame o x) is)))
          (leads (wire_of o h.pad) (of_head (ap (λ (x : Head S I O s). head_wire (head_frame o x)) is))) t
      go (Inlets h) is t = λ port row at. row_tied_on i n m m' d h.number port row task.parts.items (fed h is) (t port row at)
