use Rattle.std.proofs.Common.{None}
use Rattle.el_mix.specs.Taking.{lines}
use Rattle.el_mix.proofs.Cutting.{next_least}
use Rattle.el_mix.proofs.due.push_piece.Goals as goal

pub interleave-requires-clause-ahead : goal.interleave-requires-clause-ahead
interleave-requires-clause-ahead c = (next_least c.args.bytes None (lines c.args.channels.now) c.requires.next).ahead
