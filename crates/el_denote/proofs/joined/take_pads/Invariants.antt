use Rattle.std.proofs.Common.{◌≡◌, true, false, [], None, List}
use Rattle.el_settings.specs.declared.settings.Settings.{Settings}
use Rattle.el_set.specs.Joins.{join_pads, may_take}
use Rattle.el_denote.specs.Running.{IsFed, Runs}
use Rattle.el_denote.specs.Turns.{Turn}
use Rattle.el_denote.proofs.Looping.{Padded}
use Rattle.el_denote.proofs.joined.take_pads.Given as goal

abbrev pub invariant-loop-input : goal.invariant-loop-input
invariant-loop-input l =
    (join_pads l.join ≡ join_pads l.initial.join)
    × (l.pad ≡ l.input-index)
    × ((settings : Settings) (turns : List Turn) → Runs settings l.number None l.initial.join [] false turns l.initial.put
    → Padded settings l.number l.gaps l.join turns l.inputs l.input-index l.put)
    × IsFed l.join
    × (may_take l.pad l.join ≡ true)
