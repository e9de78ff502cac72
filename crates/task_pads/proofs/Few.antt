-- At most 2^40 items have crossed a pad.
use Rattle.std.proofs.Common.{◌≤◌}
use Rattle.task_pads.specs.declared.pad.Pad.{Pad}
use Rattle.task_pads.specs.Pads.{crossed_count}

pub few_crossed : {O : Type 0} (pad : Pad O) → crossed_count pad ≤ 1099511627776
few_crossed pad = pad.few
