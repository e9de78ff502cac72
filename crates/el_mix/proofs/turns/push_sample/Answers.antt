use Rattle.el_mix.proofs.Turning.{sampled, silent}
use Rattle.el_mix.proofs.turns.push_sample.Goals as goal
use Rattle.gst_value.proofs.Results.{then_ok as on_ok}

pub returns-in_ok-extend_from_slice-in-Some : goal.returns-in_ok-extend_from_slice-in-Some
returns-in_ok-extend_from_slice-in-Some c =
    sampled c.args.format c.args.channel.now.waiting.ahead c.in-Some.left.now c.args.into.now.items c.extend_from_slice.new.self.items c.args.from c.width.result c.in-Some.ensures.first c.width.ensures
    c.in_ok-extend_from_slice-in-Some.ensures.items

pub returns-in-None : goal.returns-in-None
returns-in-None c =
    on_ok c.push_silence.result _ _
    (λ e. silent c.args.format c.args.channel.now.waiting.ahead c.args.into.now.items c.push_silence.new.into.items c.args.from c.in-None.ensures.first e) c.push_silence.ensures
