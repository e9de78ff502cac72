use Rattle.std.proofs.Common.{◌≡◌, []}
use Rattle.el_settings.specs.declared.settings.Settings.{Settings}
use Rattle.el_set.specs.Joins.{join_pads}
use Rattle.el_denote.specs.Running.{AtSection, IsFed}
use Rattle.el_denote.proofs.joined.evaluated.Given as goal

abbrev pub invariant-loop-number : goal.invariant-loop-number
invariant-loop-number l =
    (join_pads l.running ≡ join_pads l.fn.element) × ((settings : Settings) → AtSection settings l.inputs 0 l.fn.element [] → AtSection settings l.inputs l.number l.running l.out)
    × IsFed l.running
