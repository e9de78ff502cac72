use Rattle.std.proofs.Common.{refl, sym, add-zero}
use Rattle.pad_core.proofs.Crossed.{counted}
use Rattle.pad_core.proofs.src_pad.SrcPad.count_gap.Goals as goal

pub returns-clause-history : goal.returns-clause-history
returns-clause-history c = λ h pts duration. counted c.args.self.now _ _ refl c.requires.not_ended c.requires.settled refl (sym (add-zero _)) c.requires.not_ended refl (rw c.replace_last.ensures tt) h
