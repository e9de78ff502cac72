-- The rows of the heads of a graph's tasks where its run begins.
use Rattle.std.proofs.Common.{◌≡◌, ℕ, Bool, if◌then◌else◌, List, Option, None, Some, sym, subst, arith}
use Rattle.std.specs.Prelude.{slice_get}
use Rattle.std.proofs.lemmas.Option.{slice_get_within}
use Rattle.flow_model.specs.declared.element.TaskElement as elements
use Rattle.flow_model.specs.declared.source.TaskSource as givers
use Rattle.graph_parts.specs.declared.bag.Bag.{Bag}
use Rattle.graph_parts.specs.declared.bag.BagHead.{BagHead}
use Rattle.graph_core.specs.Elements.{Made}
use Rattle.graph_pads.specs.declared.pad.PadLink.{PadLink}
use Rattle.graph_core.specs.GraphPlan.{pad_id, sink_at as place_at}
use Rattle.graph_tasks.specs.Stalled.{lane_at}
use Rattle.graph_tasks.specs.Tasks.{AreTasks, IsHeadOf, IsRowOf}
use Rattle.inlet_row.specs.declared.row.InletRow.{InletRow}
use Rattle.lane_core.specs.Lane.{Lane}
use Rattle.lane_core.specs.declared.ends.Inlet as inlets
use Rattle.lane_core.specs.declared.ends.Outlet as outlets
use Rattle.net_task.specs.declared.task.Task.{Task}
use Rattle.net_turns.specs.Alone.{HoldLanes, HoldsAlone}
use Rattle.task_parts.specs.declared.head.Head.{Head}
use Rattle.task_parts.specs.declared.head.Head.TheVariants.{Inlets}
use Rattle.task_parts.specs.declared.head.InletHead.{InletHead}
use Rattle.gst_value.proofs.Places.{found_at as got_within}

row_to : {I L O : Type 0} (i : inlets.Ghosts I L O) (made : List Made) (links : List PadLink) (n k : ℕ) (row : InletRow I) → IsRowOf i made links n k row
    → HoldsAlone (lane_at made links n k) row
row_to i made links n k row (IsRowOf.unlinked none feeds) =
    subst (λ (b : Bool). HoldsAlone (if b then Some (pad_id (place_at n k)) else None) row) (sym none) feeds
row_to i made links n k row (IsRowOf.linked inlet lane feeds place nothing) =
    subst (λ (b : Bool). HoldsAlone (if b then Some (pad_id (place_at n k)) else None) row) (sym lane) (inlet, feeds)

module _ {S I O L : Type 0} {s : givers.Ghosts S} (i : inlets.Ghosts I L O) (o : outlets.Ghosts O L) (made : List Made) (links : List PadLink) where
  rows_of : (files : List (Option S)) (bag : BagHead) (head : Head S I O s) (own : InletHead I) → IsHeadOf i o made links files bag head → head ≡ Inlets own
      → (pad : ℕ) (row : InletRow I) → slice_get own.rows.items pad ≡ Some row → HoldsAlone (lane_at made links own.number pad) row
  rows_of files bag head own (IsHeadOf.from_source cell other number file given one wire) is pad row at = absurd (cc)
  rows_of files bag head own (IsHeadOf.from_inlets n other number count rows) is pad row at =
      subst (λ (d : ℕ). HoldsAlone (lane_at made links d pad) row) (sym number_is) (row_to i made links n pad row (rows pad row (rows_are at)))
    where
      same : other ≡ own
      same = cc

      number_is : own.number ≡ n
      number_is = subst (λ (h : InletHead I). h.number ≡ n) same number

      rows_are : slice_get own.rows.items pad ≡ Some row → slice_get other.rows.items pad ≡ Some row
      rows_are = subst (λ (h : InletHead I). slice_get h.rows.items pad ≡ Some row → slice_get other.rows.items pad ≡ Some row) same (λ here. here)

module _ {S E I O L : Type 0} {s : givers.Ghosts S} {e : elements.Ghosts E} {i : inlets.Ghosts I L O} {o : outlets.Ghosts O L}
    (made : List Made) (links : List PadLink) (ends : List (Option E)) (files : List (Option S)) (bags : List Bag) (tasks : List (Task S E I O L s e i o))
    (table : List Lane) where
  -- each holds the lane into its sink pad, or nothing
  pub first_rows : AreTasks i o made links ends files bags tasks table → HoldLanes (lane_at made links) tasks
  first_rows are k head pad row fed at =
      let within = slice_get_within tasks k fed.task fed.at in
      let bag = got_within bags k (omega (arith, within, are.count)) in
      rows_of i o made links files bag.0.head fed.task.head head (are.each k bag.0 fed.task bag.1 fed.at).head fed.head_is pad row at
