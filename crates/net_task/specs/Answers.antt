-- What a task answers, by what came of its tries.
use Rattle.std.specs.Prelude.{Bool, true, false, if◌then◌else◌, Result, Ok, Err}
use Rattle.task_parts.specs.declared.step.Tried.{Tried}
use Rattle.task_parts.specs.declared.step.Tried.TheVariants as tried
use Rattle.task_parts.specs.declared.step.Step.{Step}
use Rattle.task_parts.specs.declared.step.Step.TheVariants as steps
use Rattle.task_parts.specs.declared.fault.TaskFault.{TaskFault}

abbrev pub is_probe : Step → Bool
is_probe steps.Moved = false
is_probe (steps.NeedsItem lane) = false
is_probe (steps.NeedsRoom lane) = false
is_probe (steps.AtProbe command) = true
is_probe steps.Ended = false

abbrev pub wants_room : Step → Bool
wants_room steps.Moved = false
wants_room (steps.NeedsItem lane) = false
wants_room (steps.NeedsRoom lane) = true
wants_room (steps.AtProbe command) = false
wants_room steps.Ended = false

-- A probe goes before a lane without room, and that before an EOS behind which nothing crosses. Of two of one kind the first goes.
abbrev pub preferred : Step → Step → Step
preferred first second =
    if is_probe first then first else if is_probe second then second else if wants_room first then first else if wants_room second then second else first

-- two pads one behind the other
abbrev pub tried_both : Tried → Tried → Tried
tried_both first tried.Idle = first
tried_both first tried.Moved = tried.Moved
tried_both tried.Idle (tried.Stuck second) = tried.Stuck second
tried_both tried.Moved (tried.Stuck second) = tried.Stuck second
tried_both (tried.Stuck first) (tried.Stuck second) = tried.Stuck (preferred first second)

-- a task whose head was asked
abbrev pub head_step : Result Tried TaskFault → Result Step TaskFault
head_step (Ok tried.Idle) = Ok steps.Ended
head_step (Ok tried.Moved) = Ok steps.Moved
head_step (Ok (tried.Stuck step)) = Ok step
head_step (Err fault) = Err fault
