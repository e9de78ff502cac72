use Rattle.flow_model.specs.Call.{Act, Drain}
use Rattle.el_parse.specs.Splits.{splits}
use Rattle.el_parse.specs.Regrouped.{Regrouped}
use Rattle.el_wav.specs.WavParse.{parses as parses_wav, Parsed as WavParsed}
use Rattle.el_wavenc.specs.Encodes.{encodes}
use Rattle.el_wavenc.specs.Encoded.{Encoded}
use Rattle.el_set.proofs.Elements.{identity_drains, filter_drains}
use Rattle.el_set.proofs.Following.{valve_put, convert_put, law_put, raw_put, split_put, wav_put, wavenc_put, by_wav, told_wav, by_enc, told_enc, on_taken, fault_by, fault_alone, drain_of_eos}
use Rattle.el_set.proofs.filter.FilterElement.drain.Goals as goal

pub returns-in-Identity-clause-drained : goal.returns-in-Identity-clause-drained
returns-in-Identity-clause-drained c = identity_drains c.drain.result c.args.self.now c.in-Identity.identity c.drain.new.self c.args.out.now c.drain.new._out c.in-Identity.is c.drain.ensures.out c.drain.ensures.drained

pub returns-in-CapsFilter-clause-drained : goal.returns-in-CapsFilter-clause-drained
returns-in-CapsFilter-clause-drained c =
    let did = c.drain-in-CapsFilter in
    filter_drains did.result c.args.self.now c.in-CapsFilter.filter did.new.self c.args.out.now did.new._out c.in-CapsFilter.is did.ensures.out did.ensures.drained

pub returns-in-Valve-clause-drained : goal.returns-in-Valve-clause-drained
returns-in-Valve-clause-drained c =
    let did = c.drain-in-Valve in
    on_taken did.result (valve_put c.args.self.now c.in-Valve.valve did.new.self (Act Drain) c.args.out.now did.new.out c.in-Valve.is) did.ensures.puts

pub returns-in-Convert-clause-drained : goal.returns-in-Convert-clause-drained
returns-in-Convert-clause-drained c =
    let did = c.drain-in-Convert in
    on_taken did.result (convert_put c.args.self.now c.in-Convert.convert did.new.self (Act Drain) c.args.out.now did.new._out c.in-Convert.is) did.ensures.puts

pub returns-in-Law-clause-drained : goal.returns-in-Law-clause-drained
returns-in-Law-clause-drained c =
    let did = c.drain-in-Law in
    on_taken did.result (law_put c.args.self.now c.in-Law.law did.new.self (Act Drain) c.args.out.now did.new._out c.in-Law.is) did.ensures.puts

pub returns-in-RawParse-clause-drained : goal.returns-in-RawParse-clause-drained
returns-in-RawParse-clause-drained c =
    let did = c.drain-in-RawParse in
    on_taken did.result (raw_put c.args.self.now c.in-RawParse.parser did.new.self (Act Drain) c.args.out.now did.new._out c.in-RawParse.is) did.ensures.puts

pub returns-in-Split-clause-drained : goal.returns-in-Split-clause-drained
returns-in-Split-clause-drained c =
    let did = c.drain-in-Split in
    on_taken did.result (split_put c.args.self.now c.in-Split.split did.new.self (Act Drain) c.args.out.now did.new.out c.in-Split.is) did.ensures.puts

pub returns-in-WavParse-clause-drained : goal.returns-in-WavParse-clause-drained
returns-in-WavParse-clause-drained c =
    let did = c.drain-in-WavParse in
    on_taken did.result (wav_put c.args.self.now c.in-WavParse.parser did.new.self (Act Drain) c.args.out.now did.new.out c.in-WavParse.is) did.ensures.puts

pub returns-in-WavEnc-clause-drained : goal.returns-in-WavEnc-clause-drained
returns-in-WavEnc-clause-drained c =
    let did = c.drain-in-WavEnc in
    on_taken did.result (wavenc_put c.args.self.now c.in-WavEnc.encoder did.new.self (Act Drain) c.args.out.now did.new.out c.in-WavEnc.is) did.ensures.puts

pub returns-in-Split-clause-fault : goal.returns-in-Split-clause-fault
returns-in-Split-clause-fault c =
    let did = c.drain-in-Split in
    rw c.in-Split.is (fault_by splits Regrouped did.result c.in-Split.split (Act Drain) did.ensures.fault)

pub returns-in-WavParse-clause-fault : goal.returns-in-WavParse-clause-fault
returns-in-WavParse-clause-fault c =
    let did = c.drain-in-WavParse in let parser = c.in-WavParse.parser in
    rw c.in-WavParse.is
    (fault_by by_wav told_wav did.result parser (Act Drain)
    (fault_alone parses_wav (λ e calls put. WavParsed e calls put) did.result parser (Act Drain)
    (drain_of_eos parses_wav (λ e calls put. WavParsed e calls put) did.result parser did.ensures.fault)))

pub returns-in-WavEnc-clause-fault : goal.returns-in-WavEnc-clause-fault
returns-in-WavEnc-clause-fault c =
    let did = c.drain-in-WavEnc in let encoder = c.in-WavEnc.encoder in
    rw c.in-WavEnc.is
    (fault_by by_enc told_enc did.result encoder (Act Drain)
    (fault_alone encodes (λ e calls put. Encoded e calls put) did.result encoder (Act Drain) did.ensures.fault))
