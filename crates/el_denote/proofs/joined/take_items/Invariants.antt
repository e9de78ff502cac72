use Rattle.std.proofs.Common.{◌≡◌, ℕ, true, false, List, ◌++◌, length, map, take}
use Rattle.el_settings.specs.declared.settings.Settings.{Settings}
use Rattle.el_set.specs.Joins.{join_pads, may_take}
use Rattle.el_denote.specs.Near.{Mark}
use Rattle.el_denote.specs.Running.{IsFed, Runs}
use Rattle.el_denote.specs.Turns.{Turn, Give}
use Rattle.el_denote.proofs.joined.take_items.Given as goal

abbrev pub invariant-loop-item : goal.invariant-loop-item
invariant-loop-item l =
    (join_pads l.join ≡ join_pads l.initial.join)
    × ((settings : Settings) (j : ℕ) (marks : List Mark) (turns : List Turn) → length marks ≡ l.pad → Runs settings j l.gaps l.initial.join marks false turns l.initial.put
    → Runs settings j l.gaps l.join marks l.begun (turns ++ map (Give l.pad) (take l.item-index l.items)) l.put)
    × IsFed l.join
    × (may_take l.pad l.join ≡ true)
