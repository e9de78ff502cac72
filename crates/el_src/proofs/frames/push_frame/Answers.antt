use Rattle.std.proofs.Common.{◌++◌, ap, sym, ◌∙◌, append_assoc}
use Rattle.std.specs.List.{repeat}
use Rattle.el_src.proofs.Samples.{repeat_more}
use Rattle.el_src.proofs.frames.push_frame.Goals as goal

pub loop-preserved : goal.loop-preserved
loop-preserved c =
    let sample = c.frame_sample-sample.result in
    c.in_ok-extend_from_slice.ensures.items ∙ ap (λ xs. xs ++ sample) c.loop.invariant ∙ append_assoc c.args.bytes.now.items (repeat c.loop.counter sample) sample ∙ ap (λ ys. c.args.bytes.now.items ++ ys) (sym (repeat_more c.loop.counter sample))
