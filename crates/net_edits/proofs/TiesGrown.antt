-- How a task stands to a moment at which more stands in the inlet of an element.
use Rattle.std.proofs.Common.{◌≡◌, ◌⊎◌, ℕ, List, [], Some, sym, subst, inl, inr}
use Rattle.std.specs.Prelude.{slice_get}
use Rattle.flow_model.specs.Call.{Call}
use Rattle.inlet_row.specs.declared.feeding.Feeding.{Feeding}
use Rattle.inlet_row.specs.declared.row.InletRow.{InletRow}
use Rattle.inlet_row.specs.Row.{ForLanes, GaveInAll, feeds_of}
use Rattle.lane_core.specs.declared.ends.Inlet as inlets
use Rattle.lane_core.specs.declared.ends.Outlet as outlets
use Rattle.flow_model.specs.Moment.{Moment}
use Rattle.flow_model.specs.Split.{NoneAt}
use Rattle.flow_model.specs.Step.{Leads}
use Rattle.flow_model.specs.declared.element.TaskElement as elements
use Rattle.flow_model.specs.declared.source.TaskSource as sources
use Rattle.task_pads.specs.Behind.{Goes, inside, nowhere, over}
use Rattle.task_pads.specs.declared.pad.Pad.{Pad}
use Rattle.task_pads.specs.Pads.{goes_of, number_of}
use Rattle.task_parts.specs.declared.head.Head.{Head}
use Rattle.task_parts.specs.declared.head.Head.TheVariants.{Source, Inlets}
use Rattle.task_parts.specs.declared.head.InletHead.{InletHead}
use Rattle.task_parts.specs.declared.part.Part.{Part}
use Rattle.net_task.specs.declared.task.Task.{Task}
use Rattle.net_task.specs.Ties.{AreTied, HeadTied, LeadsAs, PadLinked, PartTied, PartsTied, RowTied, RowsTied, Stands, Ties, nothing_lost}
use Rattle.net_edits.specs.Over.{InletsGrew, TaskGrew}
use Rattle.net_edits.proofs.RowsGrown.{fed_head, gave_more, row_was}

-- the moment, where this stands in the inlets
abbrev pub held_at : (ℕ → List (List Call)) → Moment → Moment
held_at held m = record m { held = held }

-- Nothing more stands where a pad leads inside a task.
abbrev pub InnerStays : Moment → (ℕ → List (List Call)) → Type 0
InnerStays m held = (p n k : ℕ) → Leads m.plan p n k → NoneAt k (m.held n) → NoneAt k (held n)

module _ (m : Moment) (held : ℕ → List (List Call)) (inner : InnerStays m held) where
  leads_held : (p : ℕ) (g : Goes) → LeadsAs m p g → LeadsAs (held_at held m) p g
  leads_held p nowhere l = l
  leads_held p (inside n k) l = (l.0, inner p n k l.0 l.1)
  leads_held p (over lane n k from) l = l

  module _ {O L : Type 0} (o : outlets.Ghosts O L) where
    linked_held : (pad : Pad O) → PadLinked o m pad → PadLinked o (held_at held m) pad
    linked_held pad l = record { crossed = l.crossed; leads = leads_held (number_of pad) (goes_of pad) l.leads; sent = l.sent }

  module _ {E O L : Type 0} {e : elements.Ghosts E} (o : outlets.Ghosts O L) where
    part_held : (part : Part E O e) → PartTied o (Stands m part) m part → PartTied o (Stands (held_at held m) part) (held_at held m) part
    part_held part t = record {
      stood = t.stood;
      pads = λ port pad at. let z = t.pads port pad at in record { owner = z.owner; port_is = z.port_is; linked = linked_held o pad z.linked; waits = z.waits };
      mine = λ p owner. let z = t.mine p owner in record { pad = z.pad; at = z.at; number = z.number; uncut = z.uncut };
    }

    parts_held : (parts : List (Part E O e)) → PartsTied o (Stands m) m parts → PartsTied o (Stands (held_at held m)) (held_at held m) parts
    parts_held parts t = record { each = λ j part at. part_held part (t.each j part at); once = t.once }

  module _ {S E I O L : Type 0} {s : sources.Ghosts S} {e : elements.Ghosts E} (i : inlets.Ghosts I L O) (o : outlets.Ghosts O L) where
    head_held : (head : Head S I O s) (parts : List (Part E O e)) → HeadTied i o nothing_lost m head parts → HeadTied i o nothing_lost (held_at held m) head parts
    head_held (Source head) parts t = record { owner = t.owner; mine = t.mine; linked = linked_held o head.pad t.linked; gave = t.gave; given = t.given; apart = t.apart }
    head_held (Inlets head) parts t = λ k row at. let z = t k row at in record { all = z.all; gave = z.gave; got = z.got; whole = z.whole; took = z.took; apart = z.apart }

    pub tied_held : (head : Head S I O s) (parts : List (Part E O e)) → AreTied i o (Stands m) nothing_lost m head parts → AreTied i o (Stands (held_at held m)) nothing_lost (held_at held m) head parts
    tied_held head parts t = record { parts_tied = parts_held o parts t.parts_tied; head_tied = head_held head parts t.head_tied }

-- More stands behind a row, and nothing of that was given yet.
module _ {E I O L : Type 0} {e : elements.Ghosts E} (i : inlets.Ghosts I L O) (m : Moment) where
  rows_grown : (old new : InletHead I) (port : ℕ) (more : List (Feeding I)) (parts : List (Part E O e)) → InletsGrew old new port more → ForLanes (λ inlet. i.received inlet []) more
      → RowsTied i nothing_lost m old parts → RowsTied i nothing_lost m new parts
  rows_grown old new port more parts g fresh t k row at = go k row (row_was i old new port more g k row at)
    where
      named : (k : ℕ) (row : InletRow I) → RowTied i [] m old.number k row parts → RowTied i [] m new.number k row parts
      named k row z = subst (λ (n : ℕ). RowTied i [] m n k row parts) (sym g.number) z

      go : (k : ℕ) (row : InletRow I) → ((k ≡ port) × (row ≡ g.grown)) ⊎ ((k ≡ port → ⊥) × (slice_get old.rows.items k ≡ Some row)) → RowTied i [] m new.number k row parts
      go k row (inr w) = named k row (t k row w.1)
      go k row (inl w) =
          let z = t port g.row g.at in
          subst (λ (x : InletRow I). RowTied i [] m new.number k x parts) (sym w.1) (subst (λ (j : ℕ). RowTied i [] m new.number j g.grown parts) (sym w.0)
          (named port g.grown (record {
            all = z.all;
            gave = subst (λ (feeds : List (Feeding I)). GaveInAll i.received feeds z.all) (sym g.feeds) (gave_more i.received (feeds_of g.row) more z.all z.gave fresh);
            got = z.got;
            whole = z.whole;
            took = z.took;
            apart = z.apart;
          })))

module _ {S E I O L : Type 0} {s : sources.Ghosts S} {e : elements.Ghosts E} {i : inlets.Ghosts I L O} {o : outlets.Ghosts O L} where
  pub ties_held : (m : Moment) (held : ℕ → List (List Call)) → InnerStays m held → (task : Task S E I O L s e i o) → Ties task m → Ties task (held_at held m)
  ties_held m held inner task t = tied_held m held inner i o task.head task.parts.items t

  pub ties_grown : (m : Moment) (was is : Task S E I O L s e i o) (port : ℕ) (more : List (Feeding I)) → TaskGrew was is port more → ForLanes (λ inlet. i.received inlet []) more → Ties was m → Ties is m
  ties_grown m was is port more g fresh t =
      let old : AreTied i o (Stands m) nothing_lost m (fed_head S s g.old) was.parts.items = subst (λ (h : Head S I O s). AreTied i o (Stands m) nothing_lost m h was.parts.items) g.was_fed t in
      let new : AreTied i o (Stands m) nothing_lost m (fed_head S s g.new) was.parts.items = record { parts_tied = old.parts_tied; head_tied = rows_grown i m g.old g.new port more was.parts.items g.grew fresh old.head_tied } in
      subst (λ (h : Head S I O s). AreTied i o (Stands m) nothing_lost m h is.parts.items) (sym g.fed) (subst (λ (ps : List (Part E O e)). AreTied i o (Stands m) nothing_lost m (fed_head S s g.new) ps) (sym g.parts) new)
