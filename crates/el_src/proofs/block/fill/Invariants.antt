use Rattle.std.proofs.Common.{length, ◌-◌, ◌≡◌, ◌≤◌}
use Rattle.el_src.proofs.Filling.{Filled}
use Rattle.el_src.proofs.block.fill.Given as goal

abbrev pub invariant-loop-got : goal.invariant-loop-got
invariant-loop-got g l =
    (l.got ≤ length l.into) × (g.S.Source.content l.source ≡ g.S.Source.content l.initial.source) × (g.S.Source.location l.source ≡ g.S.Source.location l.initial.source) × (g.S.Source.faults l.source ≡ g.S.Source.faults l.initial.source) × Filled (g.S.Source.content l.initial.source) l.place l.got l.into

abbrev pub decreases-loop-got : goal.decreases-loop-got
decreases-loop-got g l = length l.initial.into - l.got
