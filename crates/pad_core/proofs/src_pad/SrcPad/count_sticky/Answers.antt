use Rattle.std.proofs.Common.{refl, sym, ◌∙◌}
use Rattle.pad_core.proofs.Crossed.{counted_sticky}
use Rattle.pad_core.proofs.src_pad.SrcPad.count_sticky.Goals as goal

pub returns-clause-history : goal.returns-clause-history
returns-clause-history c =
    counted_sticky c.args.self.now _ c.args.ends c.requires.kept c.requires.not_ended c.requires.settled refl refl refl refl c.in-Some.event
    (sym c.take.ensures.value ∙ c.in-Some.is) c.replace_last.ensures
