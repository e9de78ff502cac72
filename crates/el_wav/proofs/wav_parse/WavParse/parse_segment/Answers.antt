use Rattle.std.proofs.Common.{sym, subst}
use Rattle.flow_model.specs.Feeding.{next_owed, IsFaultOf}
use Rattle.el_parse.specs.Parses.{parses as parses_raw}
use Rattle.el_wav.specs.WavParseParts.{known_in}
use Rattle.el_wav.specs.WavParsed.{KnowsHead}
use Rattle.el_wav.specs.WavParseSteps.{WentOn}
use Rattle.el_wav.proofs.WavParseParting.{inside_of, segment_answer, took_inside, took_start, last_fault}
use Rattle.el_wav.proofs.WavParsePutting.{appends_none}
use Rattle.el_wav.proofs.wav_parse.WavParse.parse_segment.Goals as goal

pub returns-in-Ok-clause-took : goal.returns-in-Ok-clause-took
returns-in-Ok-clause-took c = λ read part calls is.
    let place = c.place_of.result in
    let inside = inside_of (known_in read part) place (c.in-Some.at, c.in-Some.left) (c.in-Some.ensures (known_in read part) calls is.knows) in
    let knows = subst (λ known. KnowsHead known calls c.args.self.now.known) inside.known_is is.knows in
    took_inside read part c.args.segment calls place c.in-Some.at c.in-Some.left _ c.args.out.now c.go_on.new.out is.reads c.place_of.ensures inside
    (subst (λ x. WentOn inside.k calls x c.go_on.new.self.known c.args.out.now c.go_on.new.out) c.segment_item.ensures (c.in-Ok.ensures.fed inside.k calls knows)) c.set.ensures

pub returns-in-Err-clause-fault : goal.returns-in-Err-clause-fault
returns-in-Err-clause-fault c = λ read part calls is.
    let place = c.place_of.result in
    let inside = inside_of (known_in read part) place (c.in-Some.at, c.in-Some.left) (c.in-Some.ensures (known_in read part) calls is.knows) in
    let knows = subst (λ known. KnowsHead known calls c.args.self.now.known) inside.known_is is.knows in
    subst (λ owed. IsFaultOf owed c.in-Err.fault) (sym (segment_answer read part c.args.segment calls place c.in-Some.at c.in-Some.left c.place_of.ensures inside))
    (last_fault _ c.in-Err.fault (subst (λ x. IsFaultOf (next_owed (parses_raw inside.k.info) calls x) c.in-Err.fault) c.segment_item.ensures (c.in-Err.ensures.fault inside.k calls knows)))

pub returns-in-None-clause-took : goal.returns-in-None-clause-took
returns-in-None-clause-took c = λ read part calls is.
    took_start read part c.args.segment calls c.place_of.result _ c.new.result c.args.out.now is.reads c.place_of.ensures (c.in-None.ensures (known_in read part) calls is.knows) is.knows
    c.new.ensures c.set-in-None.ensures

pub returns-in-None-clause-appends : goal.returns-in-None-clause-appends
returns-in-None-clause-appends c = appends_none c.args.out.now
