use Rattle.std.proofs.Common.{refl}
use Rattle.pad_core.proofs.Crossed.{counted_next}
use Rattle.pad_core.proofs.src_pad.SrcPad.count_next_buffer.Goals as goal

pub returns-clause-history : goal.returns-clause-history
returns-clause-history c = λ h b. counted_next c.args.self.now _ b c.requires.not_ended c.requires.behind refl refl c.requires.not_ended refl c.requires.behind h
