-- How many items a task can move yet: no more than 2^40 cross a pad, and no more than a lane may take in all come out of it.
use Rattle.std.specs.Prelude.{◌<◌, ◌≤◌, ℕ, ◌+◌, ◌-◌, sum_by}
use Rattle.lane_core.specs.declared.ends.Inlet as inlets
use Rattle.lane_core.specs.declared.ends.Outlet as outlets
use Rattle.flow_model.specs.declared.element.TaskElement as elements
use Rattle.flow_model.specs.declared.source.TaskSource as sources
use Rattle.inlet_row.specs.Left.{row_left}
use Rattle.task_pads.specs.declared.pad.Pad.{Pad}
use Rattle.task_pads.specs.Pads.{crossed_count}
use Rattle.task_parts.specs.declared.part.Part.{Part}
use Rattle.task_parts.specs.declared.head.Head.{Head}
use Rattle.task_parts.specs.declared.head.Head.TheVariants.{Source, Inlets}
use Rattle.task_parts.specs.declared.step.Step.{Step}
use Rattle.task_parts.specs.declared.step.Step.TheVariants.{Moved, NeedsItem, NeedsRoom, AtProbe, Ended}
use Rattle.net_task.specs.declared.task.Task.{Task}

abbrev pub pad_left : {O : Type 0} → Pad O → ℕ
pad_left pad = 1099511627776 - crossed_count pad

abbrev pub part_left : {E O : Type 0} {e : elements.Ghosts E} → Part E O e → ℕ
part_left part = sum_by (λ pad. pad_left pad) part.pads.items

abbrev pub head_left : {S I O L : Type 0} {s : sources.Ghosts S} → inlets.Ghosts I L O → Head S I O s → ℕ
head_left i (Source head) = pad_left head.pad + (1099511627777 - head.given)
head_left i (Inlets head) = sum_by (λ row. row_left i row) head.rows.items

abbrev pub moves_left : {S E I O L : Type 0} {s : sources.Ghosts S} {e : elements.Ghosts E} {i : inlets.Ghosts I L O} {o : outlets.Ghosts O L} → Task S E I O L s e i o → ℕ
moves_left {i = i} task = head_left i task.head + sum_by (λ part. part_left part) task.parts.items

-- a step that moved leaves fewer, and another no more
abbrev pub Burns : ℕ → ℕ → Step → Type 0
Burns before after Moved = after < before
Burns before after (NeedsItem lane) = after ≤ before
Burns before after (NeedsRoom lane) = after ≤ before
Burns before after (AtProbe command) = after ≤ before
Burns before after Ended = after ≤ before
