use Rattle.std.proofs.Common.{refl}
use Rattle.pad_core.proofs.Crossed.{settled, settles_same}
use Rattle.pad_core.proofs.src_pad.SrcPad.settle.Goals as goal

pub returns-in-Nothing : goal.returns-in-Nothing
returns-in-Nothing c =
    record {
      settled = c.take.ensures.left;
      history = settled c.args.self.now _ c.take.result c.take.ensures.taken c.take.ensures.left refl refl refl (settles_same c.take.result _ c.in-Nothing.is);
      state = refl;
      crossed = refl;
      ended = refl;
    }
