use Rattle.std.proofs.Common.{sym, ◌∙◌}
use Rattle.el_src.proofs.Samples.{sample_is}
use Rattle.el_src.proofs.frames.frame_sample.Goals as goal

pub returns : goal.returns
returns c = c.to_le_bytes.ensures ∙ sym (sample_is c.args.frame)
