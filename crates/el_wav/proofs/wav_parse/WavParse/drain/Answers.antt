use Rattle.std.proofs.Common.{refl}
use Rattle.flow_model.specs.Call.{items}
use Rattle.el_wav.specs.WavParseParts.{last_part}
use Rattle.el_wav.specs.WavParseRule.{data_calls}
use Rattle.el_wav.specs.WavParseTold.{wav_told}
use Rattle.el_wav.specs.WavParsed.{parsed_by}
use Rattle.el_wav.proofs.WavParsing.{on_ok, parsed_over, parsed_drain}
use Rattle.el_wav.proofs.WavParsePutting.{puts_over, puts_drained}
use Rattle.el_wav.proofs.wav_parse.WavParse.drain.Goals as goal

pub returns-then-self-clause-drained : goal.returns-then-self-clause-drained
returns-then-self-clause-drained c = parsed_over c.args.self.now c.if-self.true wav_told

pub returns-clause-drained : goal.returns-clause-drained
returns-clause-drained c = on_ok c.may_end.result (λ ends calls put p.
    let given = items (parsed_by wav_told calls).given in
    parsed_drain c.args.self.now c.if-self.false wav_told calls put (ends wav_told (last_part wav_told given) (data_calls wav_told given)) p) c.may_end.ensures.ends

pub returns-then-self-clause-puts : goal.returns-then-self-clause-puts
returns-then-self-clause-puts c = puts_over c.args.self.now c.args.out.now c.if-self.true

pub returns-clause-puts : goal.returns-clause-puts
returns-clause-puts c = on_ok c.may_end.result (λ ends.
    puts_drained c.args.self.now c.args.out.now c.args.out.now c.if-self.false refl (λ calls.
    let given = items (parsed_by wav_told calls).given in
    ends wav_told (last_part wav_told given) (data_calls wav_told given))) c.may_end.ensures.ends
