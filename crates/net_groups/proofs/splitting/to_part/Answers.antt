use Rattle.std.proofs.Common.{inl, refl}
use Rattle.net_groups.proofs.splitting.to_part.Goals as goal

pub to_part_at-requires-clause-part : goal.to_part_at-requires-clause-part
to_part_at-requires-clause-part g c κs within = c.in-Some.ensures.there

pub returns-in-None-clause-none : goal.returns-in-None-clause-none
returns-in-None-clause-none g c = λ none. inl (c.in-None.ensures.none refl)
