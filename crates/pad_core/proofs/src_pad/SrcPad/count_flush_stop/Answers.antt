use Rattle.std.proofs.Common.{refl}
use Rattle.pad_core.proofs.Crossed.{flushed}
use Rattle.pad_core.proofs.src_pad.SrcPad.count_flush_stop.Goals as goal

pub returns-clause-history : goal.returns-clause-history
returns-clause-history c = flushed c.args.self.now _ c.requires.settled c.requires.settled refl refl refl c.clear_flush.ensures
