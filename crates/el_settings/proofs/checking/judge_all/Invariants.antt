use Rattle.std.proofs.Common.{take}
use Rattle.el_settings.specs.Values.{AllTaken}
use Rattle.el_settings.proofs.checking.judge_all.Given as goal

abbrev pub invariant-loop-prop : goal.invariant-loop-prop
invariant-loop-prop l = AllTaken l.kind (take l.prop-index l.props)
