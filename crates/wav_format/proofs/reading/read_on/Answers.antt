use Rattle.std.proofs.Common.{◌≡◌, drop, inr, ap, subst, ◌∙◌, arith}
use Rattle.std.proofs.lemmas.List.{take_rest}
use Rattle.wav_format.specs.Chunks.{IsOpened}
use Rattle.wav_format.proofs.Readers.{stands_first}
use Rattle.wav_format.proofs.reading.read_on.Goals as goal

pub returns-in-None-clause-answer : goal.returns-in-None-clause-answer
returns-in-None-clause-answer c =
    let start : c.args.from.place ≡ 0 = omega (arith, c.if-from-gt0.false) in
    λ given begun is.
    let all : c.args.left.now ≡ given = is ∙ ap (λ n. drop n given) start in
    c.read_chunks-in-None.ensures.answer given (stands_first given (subst IsOpened all c.in-None.ensures.answer)) (take_rest c.args.left.now 12 ∙ ap (drop 12) all)

pub returns-in-None-clause-stands : goal.returns-in-None-clause-stands
returns-in-None-clause-stands c =
    let start : c.args.from.place ≡ 0 = omega (arith, c.if-from-gt0.false) in
    λ given begun is.
    let all : c.args.left.now ≡ given = is ∙ ap (λ n. drop n given) start in
    inr (c.read_chunks-in-None.ensures.stands given (stands_first given (subst IsOpened all c.in-None.ensures.answer)) (take_rest c.args.left.now 12 ∙ ap (drop 12) all))
