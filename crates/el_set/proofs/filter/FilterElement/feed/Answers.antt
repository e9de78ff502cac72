use Rattle.flow_model.specs.Call.{Feed}
use Rattle.el_basic.specs.Valves.{valves}
use Rattle.el_basic.specs.Valved.{Valved}
use Rattle.el_convert.specs.Converts.{converts}
use Rattle.el_convert.specs.Converted.{IsConverted}
use Rattle.el_law.specs.Laws.{recodes}
use Rattle.el_law.specs.Recoded.{Recoded}
use Rattle.el_parse.specs.Parses.{parses as parses_raw}
use Rattle.el_parse.specs.Parsed.{Parsed as RawParsed}
use Rattle.el_parse.specs.Splits.{splits}
use Rattle.el_parse.specs.Regrouped.{Regrouped}
use Rattle.el_wav.specs.WavParse.{parses as parses_wav, Parsed as WavParsed}
use Rattle.el_wavenc.specs.Encodes.{encodes}
use Rattle.el_wavenc.specs.Encoded.{Encoded}
use Rattle.el_set.specs.declared.filter.FilterElement.TheVariants as elements
use Rattle.el_set.proofs.Elements.{identity_feeds, filter_feeds, filter_faults}
use Rattle.el_set.proofs.Following.{valve_put, convert_put, law_put, raw_put, split_put, wav_put, wavenc_put, by_wav, told_wav, by_enc, told_enc, if_taken, flow_by, flow_alone, fault_by, fault_alone, stays_by, stays_wav}
use Rattle.el_set.proofs.filter.FilterElement.feed.Goals as goal

pub returns-in-Identity-clause-fed : goal.returns-in-Identity-clause-fed
returns-in-Identity-clause-fed c =
    identity_feeds c.feed.result c.args.self.now c.in-Identity.identity c.feed.new.self c.args.item c.args.out.now c.feed.new.out c.in-Identity.is c.requires.no_flush c.feed.ensures.out c.feed.ensures.fed c.feed.ensures.flow

pub returns-in-CapsFilter-clause-fed : goal.returns-in-CapsFilter-clause-fed
returns-in-CapsFilter-clause-fed c =
    let did = c.feed-in-CapsFilter in
    filter_feeds did.result c.args.self.now c.in-CapsFilter.filter did.new.self c.args.item c.args.out.now did.new.out c.in-CapsFilter.is c.requires.no_flush did.ensures.out did.ensures.fed did.ensures.flow

pub returns-in-CapsFilter-clause-fault : goal.returns-in-CapsFilter-clause-fault
returns-in-CapsFilter-clause-fault c = filter_faults c.feed-in-CapsFilter.result c.args.self.now c.in-CapsFilter.filter c.args.item c.in-CapsFilter.is c.feed-in-CapsFilter.ensures.fault

pub returns-in-Valve-clause-fed : goal.returns-in-Valve-clause-fed
returns-in-Valve-clause-fed c =
    let did = c.feed-in-Valve in
    if_taken did.result (valve_put c.args.self.now c.in-Valve.valve did.new.self (Feed c.args.item) c.args.out.now did.new.out c.in-Valve.is) did.ensures.puts

pub returns-in-Valve-clause-flow : goal.returns-in-Valve-clause-flow
returns-in-Valve-clause-flow c = rw c.in-Valve.is (flow_by valves Valved c.feed-in-Valve.result c.in-Valve.valve c.feed-in-Valve.ensures.flow)

pub returns-in-Valve-clause-stays : goal.returns-in-Valve-clause-stays
returns-in-Valve-clause-stays c =
    let did = c.feed-in-Valve in
    stays_by elements.Valve did.result c.args.self.now c.in-Valve.valve did.new.self c.args.out.now did.new.out c.in-Valve.is did.ensures.stays

pub returns-in-Convert-clause-fed : goal.returns-in-Convert-clause-fed
returns-in-Convert-clause-fed c =
    let did = c.feed-in-Convert in
    if_taken did.result (convert_put c.args.self.now c.in-Convert.convert did.new.self (Feed c.args.item) c.args.out.now did.new.out c.in-Convert.is) did.ensures.puts

pub returns-in-Convert-clause-flow : goal.returns-in-Convert-clause-flow
returns-in-Convert-clause-flow c = rw c.in-Convert.is (flow_by converts IsConverted c.feed-in-Convert.result c.in-Convert.convert c.feed-in-Convert.ensures.flow)

pub returns-in-Convert-clause-stays : goal.returns-in-Convert-clause-stays
returns-in-Convert-clause-stays c =
    let did = c.feed-in-Convert in
    stays_by elements.Convert did.result c.args.self.now c.in-Convert.convert did.new.self c.args.out.now did.new.out c.in-Convert.is did.ensures.stays

pub returns-in-Convert-clause-fault : goal.returns-in-Convert-clause-fault
returns-in-Convert-clause-fault c = rw c.in-Convert.is (fault_by converts IsConverted c.feed-in-Convert.result c.in-Convert.convert (Feed c.args.item) c.feed-in-Convert.ensures.fault)

pub returns-in-Law-clause-fed : goal.returns-in-Law-clause-fed
returns-in-Law-clause-fed c =
    let did = c.feed-in-Law in
    if_taken did.result (law_put c.args.self.now c.in-Law.law did.new.self (Feed c.args.item) c.args.out.now did.new.out c.in-Law.is) did.ensures.puts

pub returns-in-Law-clause-flow : goal.returns-in-Law-clause-flow
returns-in-Law-clause-flow c = rw c.in-Law.is (flow_by recodes Recoded c.feed-in-Law.result c.in-Law.law c.feed-in-Law.ensures.flow)

pub returns-in-Law-clause-stays : goal.returns-in-Law-clause-stays
returns-in-Law-clause-stays c =
    let did = c.feed-in-Law in
    stays_by elements.Law did.result c.args.self.now c.in-Law.law did.new.self c.args.out.now did.new.out c.in-Law.is did.ensures.stays

pub returns-in-Law-clause-fault : goal.returns-in-Law-clause-fault
returns-in-Law-clause-fault c = rw c.in-Law.is (fault_by recodes Recoded c.feed-in-Law.result c.in-Law.law (Feed c.args.item) c.feed-in-Law.ensures.fault)

pub returns-in-RawParse-clause-fed : goal.returns-in-RawParse-clause-fed
returns-in-RawParse-clause-fed c =
    let did = c.feed-in-RawParse in
    if_taken did.result (raw_put c.args.self.now c.in-RawParse.parser did.new.self (Feed c.args.item) c.args.out.now did.new.out c.in-RawParse.is) did.ensures.puts

pub returns-in-RawParse-clause-flow : goal.returns-in-RawParse-clause-flow
returns-in-RawParse-clause-flow c = rw c.in-RawParse.is (flow_by parses_raw RawParsed c.feed-in-RawParse.result c.in-RawParse.parser c.feed-in-RawParse.ensures.flow)

pub returns-in-RawParse-clause-stays : goal.returns-in-RawParse-clause-stays
returns-in-RawParse-clause-stays c =
    let did = c.feed-in-RawParse in
    stays_by elements.RawParse did.result c.args.self.now c.in-RawParse.parser did.new.self c.args.out.now did.new.out c.in-RawParse.is did.ensures.stays

pub returns-in-RawParse-clause-fault : goal.returns-in-RawParse-clause-fault
returns-in-RawParse-clause-fault c = rw c.in-RawParse.is (fault_by parses_raw RawParsed c.feed-in-RawParse.result c.in-RawParse.parser (Feed c.args.item) c.feed-in-RawParse.ensures.fault)

pub returns-in-Split-clause-fed : goal.returns-in-Split-clause-fed
returns-in-Split-clause-fed c =
    let did = c.feed-in-Split in
    if_taken did.result (split_put c.args.self.now c.in-Split.split did.new.self (Feed c.args.item) c.args.out.now did.new.out c.in-Split.is) did.ensures.puts

pub returns-in-Split-clause-flow : goal.returns-in-Split-clause-flow
returns-in-Split-clause-flow c = rw c.in-Split.is (flow_by splits Regrouped c.feed-in-Split.result c.in-Split.split c.feed-in-Split.ensures.flow)

pub returns-in-Split-clause-stays : goal.returns-in-Split-clause-stays
returns-in-Split-clause-stays c =
    let did = c.feed-in-Split in
    stays_by elements.Split did.result c.args.self.now c.in-Split.split did.new.self c.args.out.now did.new.out c.in-Split.is did.ensures.stays

pub returns-in-Split-clause-fault : goal.returns-in-Split-clause-fault
returns-in-Split-clause-fault c = rw c.in-Split.is (fault_by splits Regrouped c.feed-in-Split.result c.in-Split.split (Feed c.args.item) c.feed-in-Split.ensures.fault)

pub returns-in-WavParse-clause-fed : goal.returns-in-WavParse-clause-fed
returns-in-WavParse-clause-fed c =
    let did = c.feed-in-WavParse in
    if_taken did.result (wav_put c.args.self.now c.in-WavParse.parser did.new.self (Feed c.args.item) c.args.out.now did.new.out c.in-WavParse.is) did.ensures.puts

pub returns-in-WavParse-clause-flow : goal.returns-in-WavParse-clause-flow
returns-in-WavParse-clause-flow c =
    rw c.in-WavParse.is
    (flow_by by_wav told_wav c.feed-in-WavParse.result c.in-WavParse.parser (flow_alone (λ e calls put. WavParsed e calls put) c.feed-in-WavParse.result c.in-WavParse.parser c.feed-in-WavParse.ensures.flow))

pub returns-in-WavParse-clause-stays : goal.returns-in-WavParse-clause-stays
returns-in-WavParse-clause-stays c =
    let did = c.feed-in-WavParse in
    stays_wav did.result c.args.self.now c.in-WavParse.parser did.new.self c.in-WavParse.is did.ensures.stays

pub returns-in-WavParse-clause-fault : goal.returns-in-WavParse-clause-fault
returns-in-WavParse-clause-fault c =
    rw c.in-WavParse.is
    (fault_by by_wav told_wav c.feed-in-WavParse.result c.in-WavParse.parser (Feed c.args.item)
    (fault_alone parses_wav (λ e calls put. WavParsed e calls put) c.feed-in-WavParse.result c.in-WavParse.parser (Feed c.args.item) c.feed-in-WavParse.ensures.fault))

pub returns-in-WavEnc-clause-fed : goal.returns-in-WavEnc-clause-fed
returns-in-WavEnc-clause-fed c =
    let did = c.feed-in-WavEnc in
    if_taken did.result (wavenc_put c.args.self.now c.in-WavEnc.encoder did.new.self (Feed c.args.item) c.args.out.now did.new.out c.in-WavEnc.is) did.ensures.puts

pub returns-in-WavEnc-clause-flow : goal.returns-in-WavEnc-clause-flow
returns-in-WavEnc-clause-flow c =
    rw c.in-WavEnc.is
    (flow_by by_enc told_enc c.feed-in-WavEnc.result c.in-WavEnc.encoder (flow_alone (λ e calls put. Encoded e calls put) c.feed-in-WavEnc.result c.in-WavEnc.encoder c.feed-in-WavEnc.ensures.flow))

pub returns-in-WavEnc-clause-stays : goal.returns-in-WavEnc-clause-stays
returns-in-WavEnc-clause-stays c =
    let did = c.feed-in-WavEnc in
    stays_by elements.WavEnc did.result c.args.self.now c.in-WavEnc.encoder did.new.self c.args.out.now did.new.out c.in-WavEnc.is did.ensures.stays

pub returns-in-WavEnc-clause-fault : goal.returns-in-WavEnc-clause-fault
returns-in-WavEnc-clause-fault c =
    rw c.in-WavEnc.is
    (fault_by by_enc told_enc c.feed-in-WavEnc.result c.in-WavEnc.encoder (Feed c.args.item)
    (fault_alone encodes (λ e calls put. Encoded e calls put) c.feed-in-WavEnc.result c.in-WavEnc.encoder (Feed c.args.item) c.feed-in-WavEnc.ensures.fault))
