use Rattle.std.proofs.Common.{◌++◌, ap, sym, ◌∙◌, arith}
use Rattle.el_src.specs.Ramp.{frame_bytes}
use Rattle.el_src.proofs.Samples.{frames_more}
use Rattle.el_src.proofs.frames.frames_bytes.Goals as goal

pub loop-frame-preserved : goal.loop-frame-preserved
loop-frame-preserved c =
    let frame = c.loop-frame.frame in (
      omega arith,
      c.in_ok-push_frame.ensures ∙ ap (λ xs. xs ++ frame_bytes c.args.channels frame) c.loop-frame.invariant.1 ∙ sym (frames_more c.args.channels c.args.first frame c.loop-frame.invariant.0),
    )
