use Rattle.std.proofs.Common.{[], sym, append-nil}
use Rattle.flow_model.specs.Call.{Feed, items}
use Rattle.el_wav.specs.WavParseParts.{last_part}
use Rattle.el_wav.specs.WavParseRule.{data_calls}
use Rattle.el_wav.specs.WavParseTold.{wav_told}
use Rattle.el_wav.specs.WavParsed.{parsed_by}
use Rattle.el_wav.proofs.WavParsing.{parsed_item, parsed_behind}
use Rattle.el_wav.proofs.WavParsePutting.{appends_none, puts_for_all}
use Rattle.el_wav.proofs.wav_parse.WavParse.feed.Goals as goal

pub returns-then-self-clause-fed : goal.returns-then-self-clause-fed
returns-then-self-clause-fed c = λ calls put p.
    let did = parsed_behind c.args.self.now c.args.item c.requires.no_flush c.if-self.true wav_told calls put p in
    ([], did.0, sym (append-nil c.args.out.now), did.1)

pub returns-clause-fed : goal.returns-clause-fed
returns-clause-fed c = λ calls put p.
    let by = c.in_ok-parse.ensures in
    let given = items (parsed_by wav_told calls).given in
    let took = by.took wav_told (last_part wav_told given) (data_calls wav_told given) p.is_in in
    let did = parsed_item c.args.self.now c.parse.new.self c.args.item c.args.out.now c.parse.new.out c.requires.no_flush c.if-self.false (by.eos c.if-self.false) wav_told calls put p took in
    (took.ys, did.0, took.out, did.1)

pub returns-then-self-clause-puts : goal.returns-then-self-clause-puts
returns-then-self-clause-puts c = puts_for_all c.args.self.now c.args.self.now (Feed c.args.item) c.args.out.now c.args.out.now (appends_none c.args.out.now) (λ calls put p.
    let did = parsed_behind c.args.self.now c.args.item c.requires.no_flush c.if-self.true wav_told calls put p in
    ([], did.0, sym (append-nil c.args.out.now), did.1))

pub returns-clause-puts : goal.returns-clause-puts
returns-clause-puts c = puts_for_all c.args.self.now c.parse.new.self (Feed c.args.item) c.args.out.now c.parse.new.out c.in_ok-parse.ensures.appends (λ calls put p.
    let by = c.in_ok-parse.ensures in
    let given = items (parsed_by wav_told calls).given in
    let took = by.took wav_told (last_part wav_told given) (data_calls wav_told given) p.is_in in
    let did = parsed_item c.args.self.now c.parse.new.self c.args.item c.args.out.now c.parse.new.out c.requires.no_flush c.if-self.false (by.eos c.if-self.false) wav_told calls put p took in
    (took.ys, did.0, took.out, did.1))
