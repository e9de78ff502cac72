use Rattle.std.proofs.Common.{◌++◌, refl, sym, ap, subst, ◌∙◌, Err}
use Rattle.wav_format.specs.Gathered.{WasGiven}
use Rattle.flow_model.specs.Rule.{BadStream}
use Rattle.el_wav.proofs.WavParseReading.{read_of, says_more, says_whole, says_wrong, cut_now, first_of, whole_fault}
use Rattle.el_wav.proofs.WavParsePutting.{appends_none}
use Rattle.el_wav.proofs.wav_begun.read_on.Goals as goal

pub returns-in-NeedMore-clause-read : goal.returns-in-NeedMore-clause-read
returns-in-NeedMore-clause-read c = λ read before reads has.
    let body = c.args.body.now in
    let answer = c.in_ok-answer.answer in
    let n = c.in-NeedMore.field-0 in
    let r = read_of c.args.gathered.now before c.as_slice.result.now body answer has c.as_slice.ensures.bytes c.read.ensures.fine (c.in_ok-answer.ensures.answer before has) in
    let given = subst (λ xs. WasGiven c.in_ok-answer.reader (before ++ xs)) c.as_slice.ensures.bytes (c.in_ok-answer.ensures.all n c.in-NeedMore.is before has) in
    (says_more read before body answer n reads r c.in-NeedMore.is, c.keep.ensures (before ++ body) given r.fine (cut_now before body answer n r c.in-NeedMore.is), refl)

pub returns-in-Bad-clause-fault : goal.returns-in-Bad-clause-fault
returns-in-Bad-clause-fault c = λ read calls before reads has.
    let body = c.args.body.now in
    let answer = c.in_ok-answer.answer in
    let r = read_of c.args.gathered.now before c.as_slice.result.now body answer has c.as_slice.ensures.bytes c.read.ensures.fine (c.in_ok-answer.ensures.answer before has) in
    says_wrong read calls before body answer c.in-Bad.place c.in-Bad.kind reads r c.in-Bad.is ∙ ap (λ kind. Err (BadStream c.in-Bad.place kind)) (sym c.stream_kind.ensures)

pub returns-in-Ok-clause-read : goal.returns-in-Ok-clause-read
returns-in-Ok-clause-read c = λ read before reads has.
    let body = c.args.body.now in
    let answer = c.in_ok-answer.answer in
    let r = read_of c.args.gathered.now before c.as_slice.result.now body answer has c.as_slice.ensures.bytes c.read.ensures.fine (c.in_ok-answer.ensures.answer before has) in
    let head = c.in-Whole.head in
    let first = c.in_ok-first-in-Whole.first in
    let begun = c.in-Ok.ensures.begun (before ++ body) (first_of before body first answer head c.count.result has.cut (c.count.ensures before has) r c.in-Whole.is c.in_ok-first-in-Whole.ensures) in
    (head, begun, says_whole read before body answer head begun.info reads r c.in-Whole.is begun.format)

pub returns-clause-fault : goal.returns-clause-fault
returns-clause-fault c = λ read calls before reads has.
    let body = c.args.body.now in
    let answer = c.in_ok-answer.answer in
    let r = read_of c.args.gathered.now before c.as_slice.result.now body answer has c.as_slice.ensures.bytes c.read.ensures.fine (c.in_ok-answer.ensures.answer before has) in
    let head = c.in-Whole.head in
    let first = c.in_ok-first-in-Whole.first in
    whole_fault read calls before body answer head c.in-Err.fault reads r c.in-Whole.is
    (c.in-Err.ensures.fault (before ++ body) (first_of before body first answer head c.count.result has.cut (c.count.ensures before has) r c.in-Whole.is c.in_ok-first-in-Whole.ensures))

pub returns-in-NeedMore-clause-appends : goal.returns-in-NeedMore-clause-appends
returns-in-NeedMore-clause-appends c = appends_none c.args.out.now
