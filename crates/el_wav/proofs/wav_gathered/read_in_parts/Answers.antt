use Rattle.std.proofs.Common.{◌≡◌, ◌≤◌, ◌+◌, ◌-◌, ◌++◌, ℕ, List, length, take, drop, ap, subst, arith}
use Rattle.wav_format.specs.Answers.{AnswerIn}
use Rattle.wav_format.specs.Gathered.{WasGiven}
use Rattle.el_wav.proofs.WavParseAsking.{all_answered, all_given, none_in_head, part_kept, parts_joined}
use Rattle.el_wav.proofs.wav_gathered.read_in_parts.Goals as goal

pub parts-init : goal.parts-init
parts-init c = record {
  within = omega arith;
  given = c.in_ok-answer.ensures.given;
  answer = c.in_ok-answer.ensures.answer;
  head = λ head whole given was fine cut. none_in_head given c.in_ok-answer.answer head cut (c.in_ok-answer.ensures.answer given was) whole;
}

pub overflow_sub-more : goal.overflow_sub-more
overflow_sub-more c = c.parts.invariant.within

pub returns-in_default-clause-answer : goal.returns-in_default-clause-answer
returns-in_default-clause-answer c = λ given was.
    let now = c.parts.invariant in
    all_answered given c.args.more.now c.parts.at c.parts.answer c.head_stays.ensures now.within c.in_default.ensures (now.answer given was)

pub returns-in_default-clause-all : goal.returns-in_default-clause-all
returns-in_default-clause-all c = λ n more given was.
    let now = c.parts.invariant in
    subst (WasGiven c.parts.reader) (all_given given c.args.more.now c.parts.at n c.parts.answer now.within c.in_default.ensures more) (now.given given was)

pub returns-in_default-clause-head : goal.returns-in_default-clause-head
returns-in_default-clause-head c = λ head whole given was fine cut.
    let now = c.parts.invariant in
    (c.parts.at, now.given given was, now.head head whole given was fine cut)

pub parts-smaller : goal.parts-smaller
parts-smaller c =
    let some = c.in-Some.ensures.some in
    let within = c.in-Some.ensures.within in
    omega (arith, some, within)

pub parts-preserved : goal.parts-preserved
parts-preserved c =
    let now = c.parts.invariant in
    let part = c.in-Some.ensures.within in
    let more = c.args.more.now in
    let at = c.parts.at in
    let count = c.in-Some.part in
    let next : List ℕ = take (at + count - at) (drop at more) in
    let fits : at + count ≤ length more = omega (arith, part, now.within) in
    let is : next ≡ take count (drop at more) = ap (λ n. take n (drop at more)) (omega arith) in
    record {
      within = fits;
      given = λ given was.
          subst (WasGiven c.read-in-parts.new.self) (parts_joined at count given more next fits is) (c.in_ok-answer-2.ensures.given (given ++ take at more) (now.given given was));
      answer = λ given was.
          subst (λ (xs : List ℕ). AnswerIn xs c.in_ok-answer-2.answer) (parts_joined at count given more next fits is) (c.in_ok-answer-2.ensures.answer (given ++ take at more) (now.given given was));
      head = λ head whole given was fine cut.
          part_kept given more next c.count.result at count c.parts.answer c.in_ok-answer-2.answer head fine (λ i. let f = c.type_inv.more i in omega arith) fits is
          (c.count.ensures (given ++ take at more) (now.given given was)) c.in-Some.ensures.follows (now.answer given was) (c.in_ok-answer-2.ensures.answer (given ++ take at more) (now.given given was)) whole;
    }
