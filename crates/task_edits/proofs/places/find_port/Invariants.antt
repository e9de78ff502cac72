use Rattle.std.proofs.Common.{◌≡◌, ◌<◌, ℕ, Some}
use Rattle.std.specs.Prelude.{◌≢◌, slice_get}
use Rattle.task_pads.specs.declared.pad.Pad.{Pad}
use Rattle.task_pads.specs.Pads.{number_of}
use Rattle.task_edits.proofs.places.find_port.Given as goal

abbrev pub invariant-loop-port : goal.invariant-loop-port
invariant-loop-port g l = (j : ℕ) (pad : Pad g.row.O.Denot) → j < l.port → slice_get l.fn.pads j ≡ Some pad → number_of pad ≢ l.fn.pad
