use Rattle.std.proofs.Common.{◌++◌, refl, sym, ap, subst}
use Rattle.flow_model.specs.Feeding.{IsFaultOf}
use Rattle.el_wav.specs.declared.wav_parse.Phase.TheVariants.{InHead as Reading}
use Rattle.el_wav.specs.WavParseParts.{Unbegun, InHead, standing}
use Rattle.el_wav.specs.WavParseGathered.{HasGathered}
use Rattle.el_wav.specs.WavParsed.{StandsAs}
use Rattle.el_wav.specs.WavParseSteps.{ReadOn, head_owed}
use Rattle.el_wav.proofs.WavParseParting.{fresh_is, reading_is, passing_is, none_at_front, heading_fresh, heading_reading, head_answer, took_read, data_answer, took_data, knows_data, knows_before, behind_of}
use Rattle.el_wav.proofs.WavParsing.{on_ok, on_both, if_err}
use Rattle.el_wav.proofs.wav_parse.WavParse.parse_buffer.Goals as goal

pub returns-in-InData-clause-took : goal.returns-in-InData-clause-took
returns-in-InData-clause-took c = on_both c.pass_data.result (λ fed phase read part calls is.
    let at = passing_is (standing read part) part.bytes c.args.self.now.phase c.in-InData.left c.in-InData.is is.stands in
    let knows = knows_data read part calls c.args.self.now.known at.known at.place at.stands is.knows in
    took_data read part c.args.buffer calls at.known at.place c.pass_data.new.self c.args.out.now c.pass_data.new.out is.reads c.pass_data.ensures.longer c.pass_data.ensures.bytes at.stands
    (fed at.known at.place calls at.left_is knows) (phase at.known.head.size at.place at.left_is)) c.pass_data.ensures.fed c.pass_data.ensures.phase

pub returns-in-InData-clause-fault : goal.returns-in-InData-clause-fault
returns-in-InData-clause-fault c = if_err c.pass_data.result (λ fault by read part calls is.
    let at = passing_is (standing read part) part.bytes c.args.self.now.phase c.in-InData.left c.in-InData.is is.stands in
    let knows = knows_data read part calls c.args.self.now.known at.known at.place at.stands is.knows in
    subst (λ owed. IsFaultOf owed fault) (sym (data_answer read part c.args.buffer calls at.known at.place is.reads c.pass_data.ensures.longer c.pass_data.ensures.bytes at.stands))
    (by at.known at.place calls at.left_is knows)) c.pass_data.ensures.fault

pub returns-in-Ok-clause-took : goal.returns-in-Ok-clause-took
returns-in-Ok-clause-took c = λ read part calls is.
    let at = reading_is (standing read part) part.bytes c.args.self.now.phase c.in-InHead.gathered c.in-InHead.is is.stands in
    let knows = knows_before read part calls c.args.self.now.known InHead at.0 refl is.knows in
    let on = c.in-Ok.ensures.read read part.bytes is.reads at.1 in
    took_read read part c.args.buffer calls c.begin.new.self c.read_on.new.gathered c.args.self.now.known c.in-Ok.begun c.args.out.now c.read_on.new.out is.reads (heading_reading read part c.args.buffer at.0) knows
    (behind_of c.in-Ok.begun (record { known = c.args.self.now.known; phase = Reading c.read_on.new.gathered; ended = c.args.self.now.ended }) c.begin.new.self c.read_on.new.gathered refl c.begin.ensures.begun) on

pub returns-in-InHead-clause-stays : goal.returns-in-InHead-clause-stays
returns-in-InHead-clause-stays c = λ read part calls is.
    let at = reading_is (standing read part) part.bytes c.args.self.now.phase c.in-InHead.gathered c.in-InHead.is is.stands in
    record {
      reads = is.reads;
      knows = is.knows;
      stands = subst (λ st. StandsAs st part.bytes (Reading c.read_on.new.gathered)) (sym at.0) (subst (λ has. HasGathered has part.bytes) (sym c.in-Err.ensures.stays.0) at.1);
    }

pub returns-in-InHead-clause-fault : goal.returns-in-InHead-clause-fault
returns-in-InHead-clause-fault c = λ read part calls is.
    let at = reading_is (standing read part) part.bytes c.args.self.now.phase c.in-InHead.gathered c.in-InHead.is is.stands in
    subst (λ owed. IsFaultOf owed c.in-Err.fault) (sym (head_answer read part c.args.buffer calls (heading_reading read part c.args.buffer at.0)))
    (c.in-Err.ensures.fault read calls part.bytes is.reads at.1)

pub returns-clause-took : goal.returns-clause-took
returns-clause-took c = on_ok c.read_first.result (λ first read part calls is.
    let at = fresh_is (standing read part) part.bytes c.args.self.now.phase c.in-Unbegun.is is.stands in
    let knows = knows_before read part calls c.args.self.now.known Unbegun at.0 refl is.knows in
    let h = heading_fresh read part c.args.buffer at.0 (none_at_front part.known calls c.args.self.now.known knows) in
    let r = first read is.reads in
    took_read read part c.args.buffer calls c.read_first.new.self r.has c.args.self.now.known r.begun c.args.out.now c.read_first.new.out is.reads h knows r.behind
    (subst (λ xs. ReadOn read xs r.has c.args.out.now c.read_first.new.out r.begun) (sym (ap (λ xs. xs ++ c.args.buffer.body) at.1)) r.read_on)) c.read_first.ensures.read

pub returns-clause-fault : goal.returns-clause-fault
returns-clause-fault c = if_err c.read_first.result (λ fault by read part calls is.
    let at = fresh_is (standing read part) part.bytes c.args.self.now.phase c.in-Unbegun.is is.stands in
    let knows = knows_before read part calls c.args.self.now.known Unbegun at.0 refl is.knows in
    let h = heading_fresh read part c.args.buffer at.0 (none_at_front part.known calls c.args.self.now.known knows) in
    subst (λ owed. IsFaultOf owed fault) (sym (head_answer read part c.args.buffer calls h))
    (subst (λ xs. IsFaultOf (head_owed read calls xs) fault) (sym (ap (λ xs. xs ++ c.args.buffer.body) at.1)) (by read calls is.reads))) c.read_first.ensures.fault
