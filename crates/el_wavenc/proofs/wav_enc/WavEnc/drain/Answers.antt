use Rattle.std.proofs.Common.{[], ◌++◌, ◌∙◌, ap, sym, append-nil}
use Rattle.flow_model.specs.Feeding.{on_pad}
use Rattle.el_wavenc.specs.Encodes.{ending}
use Rattle.el_wavenc.specs.Encoded.{come}
use Rattle.el_wavenc.proofs.Encoding.{encoded_drained, encoded_drained_behind}
use Rattle.el_wavenc.proofs.Putting.{puts_ending, puts_none}
use Rattle.el_wavenc.proofs.wav_enc.WavEnc.drain.Goals as goal

pub returns-then-self-clause-drained : goal.returns-then-self-clause-drained
returns-then-self-clause-drained c = λ calls put p.
    let did = encoded_drained_behind c.args.self.now c.if-self.true calls put p in
    ([], did.0, sym (append-nil c.args.out.now), did.1)

pub returns-clause-drained : goal.returns-clause-drained
returns-clause-drained c = λ calls put p.
    let by = c.in_ok-finish.ensures in
    let did = encoded_drained c.args.self.now c.finish.new.self c.if-self.false by.come c.finish.ensures.ended calls put p in
    (ending (come c.args.self.now), did.0, by.out ∙ ap (λ ys. c.args.out.now ++ on_pad 0 ys) (append-nil (ending (come c.args.self.now))), did.1)

pub returns-then-self-clause-puts : goal.returns-then-self-clause-puts
returns-then-self-clause-puts c = puts_none c.args.self.now c.args.out.now c.if-self.true

pub returns-clause-puts : goal.returns-clause-puts
returns-clause-puts c =
    let by = c.in_ok-finish.ensures in
    puts_ending c.args.self.now c.finish.new.self _ _ c.if-self.false by.come c.finish.ensures.ended by.out
