-- What is left in the inlets of tasks that can't go on.
use Rattle.std.specs.Prelude.{◌≡◌, ◌⊎◌, ℕ, List, [], Some, slice_get}
use Rattle.lane_core.specs.Lane.{Lane}
use Rattle.lane_core.specs.declared.ends.Inlet as inlets
use Rattle.lane_core.specs.declared.ends.Outlet as outlets
use Rattle.flow_model.specs.declared.element.TaskElement as elements
use Rattle.flow_model.specs.declared.source.TaskSource as givers
use Rattle.inlet_row.specs.Row.{row_holds}
use Rattle.inlet_row.specs.declared.row.InletRow.{InletRow}
use Rattle.net_task.specs.declared.task.Task.{Task}
use Rattle.task_parts.specs.declared.head.Head.{Head}
use Rattle.task_parts.specs.declared.head.Head.TheVariants.{Source, Inlets}
use Rattle.task_parts.specs.declared.step.Step.{Step}
use Rattle.task_parts.specs.declared.step.Step.TheVariants.{Ended}

module _ {I L O : Type 0} (i : inlets.Ghosts I L O) (t : List Lane) where
  -- nothing stands in rows
  abbrev pub RowsHoldNothing : List (InletRow I) → Type 0
  RowsHoldNothing rows = (port : ℕ) (row : InletRow I) → slice_get rows port ≡ Some row → row_holds i t row ≡ []

  -- nothing stands in the inlets with which a task begins
  abbrev pub HeadHoldsNothing : {S : Type 0} {s : givers.Ghosts S} → Head S I O s → Type 0
  HeadHoldsNothing (Source head) = Unit {0}
  HeadHoldsNothing (Inlets head) = RowsHoldNothing head.rows.items

-- so it is with each task that has not ended, by the steps that they answered
abbrev pub HoldNothing : {S E I O L : Type 0} {s : givers.Ghosts S} {e : elements.Ghosts E} (i : inlets.Ghosts I L O) {o : outlets.Ghosts O L} → List Lane → List (Task S E I O L s e i o) → List Step → Type 0
HoldNothing {S} {E} {I} {O} {L} {s} {e} i {o} t tasks steps =
    (k : ℕ) (task : Task S E I O L s e i o) (step : Step) → slice_get tasks k ≡ Some task → slice_get steps k ≡ Some step → (step ≡ Ended) ⊎ HeadHoldsNothing i t task.head
