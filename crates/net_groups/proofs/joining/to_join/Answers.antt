use Rattle.std.proofs.Common.{refl}
use Rattle.net_groups.specs.Joined.{no_head, no_pad}
use Rattle.net_groups.proofs.joining.to_join.Goals as goal

pub returns-in-None-find_pad-clause-none : goal.returns-in-None-find_pad-clause-none
returns-in-None-find_pad-clause-none g c = λ none. no_pad (c.in-None-find_pad.ensures.none refl)

pub returns-in-None-clause-none : goal.returns-in-None-clause-none
returns-in-None-clause-none g c = λ none. no_head (c.in-None.ensures.none refl)
