-- What stood behind an element became a task of its own: the tasks are made of those before.
use Rattle.std.proofs.Common.{◌≡◌, ◌⊎◌, ℕ, List, Some, length, sym, ap, ◌∙◌, subst, inl, inr}
use Rattle.std.specs.Prelude.{slice_get}
use Rattle.lane_core.specs.declared.ends.Inlet as inlets
use Rattle.lane_core.specs.declared.ends.Outlet as outlets
use Rattle.flow_model.specs.declared.element.TaskElement as elements
use Rattle.flow_model.specs.declared.source.TaskSource as sources
use Rattle.inlet_row.specs.declared.row.InletRow.{InletRow}
use Rattle.task_parts.specs.declared.head.Head.{Head}
use Rattle.task_parts.specs.declared.head.InletHead.{InletHead}
use Rattle.net_task.specs.declared.task.Task.{Task}
use Rattle.net_task.specs.Frame.{Wire, by_inlets, by_source, frame_of, head_frame}
use Rattle.net_turns.specs.Net.{HasElement, HasRow, IsFed, Owns}
use Rattle.net_groups.specs.Behind.{IsBehind}
use Rattle.net_groups.specs.Places.{HasWire}
use Rattle.net_groups.specs.Splits.{IsSplitAt}
use Rattle.net_groups.proofs.Halves.{Came, Found, came, fed_back, fed_on, found, fresh_has, is_has, owned, wires}
use Rattle.net_groups.proofs.Wiring.{is_wire, named}
use Rattle.edit_core.specs.Tasks.{IsReachedIn}
use Rattle.edit_acts.proofs.Made.{AllReached, AreMadeOf, HasSource, IsRowOf, IsSource}
use Rattle.edit_acts.proofs.Reached.{goes_reached, stays_reached}

module _ {S E I O L : Type 0} {s : sources.Ghosts S} {e : elements.Ghosts E} {i : inlets.Ghosts I L O} {o : outlets.Ghosts O L} (tasks tasks' : List (Task S E I O L s e i o)) (place element pads : ℕ)
    (z : IsSplitAt tasks tasks' place element pads) where
  abbrev Place : ℕ → Task S E I O L s e i o → Type 0
  Place k t = Found tasks tasks' place element pads z k t

  owns : (k n : ℕ) → Came tasks tasks' place element pads z k n → (j : ℕ) × Owns tasks j n
  owns k n (Came.of_first same own not) = (place, own)
  owns k n (Came.of_other other own) = (k, own)
  owns k n (Came.of_last same own behind) = (place, own)

  source : (k n : ℕ) (task : Task S E I O L s e i o) → IsSource (frame_of task) n → Place k task → (j : ℕ) × HasSource tasks j n
  source k n task is (Found.at_first same first) =
      (place, record { task = z.was; at = z.at; is = record { file = is.file; wire = is.wire; is = ap (λ (h : Head S I O s). head_frame o h) (sym z.head ∙ ap (λ (t : Task S E I O L s e i o). t.head) (sym first)) ∙ is.is } })
  source k n task is (Found.at_other other within at) = (k, record { task = task; at = at; is = is })
  source k n task is (Found.at_last same last) =
      absurd (clash (sym (ap (λ (h : Head S I O s). head_frame o h) (ap (λ (t : Task S E I O L s e i o). t.head) last ∙ z.fed_is)) ∙ is.is))
    where
      clash : by_inlets z.fed.number (length z.fed.rows.items) ≡ by_source n is.file is.wire → ⊥
      clash same = cc

  row_at : (k n port : ℕ) (row : InletRow I) (has : HasRow tasks' k n port row) → ((j : ℕ) × IsFed tasks j has.head) ⊎ (z.fed ≡ has.head) → IsRowOf tasks n port row
  row_at k n port row has (inl y) = IsRowOf.of_old y.0 (record { head = has.head; fed = y.1; number = has.number; at = has.at })
  row_at k n port row has (inr same) = IsRowOf.of_none (z.bare port row (ap (λ (h : InletHead I). slice_get h.rows.items port) same ∙ has.at))

  wire_at : (k : ℕ) (wire : Wire) → HasWire tasks' k wire → (j : ℕ) × HasWire tasks j wire
  wire_at k wire has =
      let a = named (frame_of has.task) wire has.is in
      let b = wires tasks tasks' place element pads z k a.0 wire (record { task = has.task; at = has.at; is = a.1 }) in
      (b.0, record { task = b.1.task; at = b.1.at; is = is_wire (frame_of b.1.task) a.0 wire b.1.is })

  pub split_made : AreMadeOf tasks tasks'
  split_made = record {
    owns = λ k n own. owns k n (came tasks tasks' place element pads z k n own);
    kept = λ k n own. owned tasks tasks' place element pads z k n own;
    fed = λ k n fed. let y = fed_on tasks tasks' place element pads z k fed.head fed.fed in (y.0, record { head = fed.head; fed = y.1; number = fed.number });
    wires = λ k wire has. inl (wire_at k wire has);
    sources = λ k n has. source k n has.task has.is (found tasks tasks' place element pads z k has.task has.at);
    rows = λ k n port one has. row_at k n port one has (fed_back tasks tasks' place element pads z k has.head has.fed);
  }

  -- What the head of a task reached, or what was behind the element, its head reaches now.
  pub split_reached : ((n : ℕ) → HasElement (frame_of z.was) n → IsReachedIn (frame_of z.was) n ⊎ IsBehind z.was.parts.items element n)
      → ((k : ℕ) (task : Task S E I O L s e i o) (n : ℕ) → (k ≡ place → ⊥) → slice_get tasks k ≡ Some task → HasElement (frame_of task) n → IsReachedIn (frame_of task) n) → AllReached tasks'
  split_reached here others k task n at has = go (found tasks tasks' place element pads z k task at)
    where
      stays : HasElement (frame_of z.is) n → IsReachedIn (frame_of z.is) n
      stays has =
          let y = is_has tasks tasks' place element pads z n has in
          by y.1 (here n y.0)
        where
          by : (IsBehind z.was.parts.items element n → ⊥) → IsReachedIn (frame_of z.was) n ⊎ IsBehind z.was.parts.items element n → IsReachedIn (frame_of z.is) n
          by not (inl reached) = stays_reached tasks tasks' place element pads z n reached not
          by not (inr behind) = absurd (not behind)

      goes : HasElement (frame_of z.fresh) n → IsReachedIn (frame_of z.fresh) n
      goes has = goes_reached tasks tasks' place element pads z n (fresh_has tasks tasks' place element pads z n has).1

      go : Place k task → IsReachedIn (frame_of task) n
      go (Found.at_first same first) =
          subst (λ (t : Task S E I O L s e i o). IsReachedIn (frame_of t) n) (sym first) (stays (subst (λ (t : Task S E I O L s e i o). HasElement (frame_of t) n) first has))
      go (Found.at_other other within at) = others k task n other at has
      go (Found.at_last same last) =
          subst (λ (t : Task S E I O L s e i o). IsReachedIn (frame_of t) n) (sym last) (goes (subst (λ (t : Task S E I O L s e i o). HasElement (frame_of t) n) last has))
