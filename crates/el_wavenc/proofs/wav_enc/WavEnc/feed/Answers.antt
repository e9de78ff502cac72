use Rattle.std.proofs.Common.{[], sym, append-nil}
use Rattle.flow_model.specs.Owed.{answered}
use Rattle.el_wavenc.specs.Encodes.{encode_answer}
use Rattle.el_wavenc.specs.Encoded.{come}
use Rattle.el_wavenc.proofs.Encoding.{encoded_item, encoded_behind}
use Rattle.el_wavenc.proofs.Putting.{puts_taken, puts_behind}
use Rattle.el_wavenc.proofs.wav_enc.WavEnc.feed.Goals as goal

pub returns-then-self-clause-fed : goal.returns-then-self-clause-fed
returns-then-self-clause-fed c = λ calls put p.
    let did = encoded_behind c.args.self.now c.args.item c.requires.no_flush c.if-self.true calls put p in
    ([], did.0, sym (append-nil c.args.out.now), did.1)

pub returns-clause-fed : goal.returns-clause-fed
returns-clause-fed c = λ calls put p.
    let by = c.in_ok-encode.ensures in
    let did = encoded_item c.args.self.now c.encode.new.self c.args.item c.requires.no_flush c.if-self.false by.answer by.come (by.eos c.if-self.false) calls put p in
    (answered (encode_answer (come c.args.self.now) c.args.item), did.0, by.out, did.1)

pub returns-then-self-clause-puts : goal.returns-then-self-clause-puts
returns-then-self-clause-puts c = puts_behind c.args.self.now c.args.item c.args.out.now c.requires.no_flush c.if-self.true

pub returns-clause-puts : goal.returns-clause-puts
returns-clause-puts c =
    let by = c.in_ok-encode.ensures in
    puts_taken c.args.self.now c.encode.new.self c.args.item _ _ c.requires.no_flush c.if-self.false by.answer by.come (by.eos c.if-self.false) by.out
