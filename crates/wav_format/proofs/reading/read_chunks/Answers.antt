use Rattle.std.proofs.Common.{◌≡◌, ℕ, ◌+◌, ◌-◌, ◌≤◌, min, List, length, drop, sym, ap, subst, ◌∙◌, arith}
use Rattle.std.proofs.lemmas.List.{drop-drop, length-drop, take_rest}
use Rattle.wav_format.specs.declared.chunk.Reading.TheVariants.{Passed}
use Rattle.wav_format.specs.Answers.{AnswerAt, ReadsAt}
use Rattle.wav_format.specs.Chunks.{Spot, chunk_length, format_after}
use Rattle.wav_format.specs.Cuts.{IsDecided}
use Rattle.wav_format.proofs.Readers.{drop_later, drop_least, stands_answered, stands_over}
use Rattle.wav_format.proofs.reading.read_chunks.Goals as goal

-- what is left of the bytes is what is left of all that were given
from_place : (left given : List ℕ) (at place from : ℕ) → from ≤ place → drop at left ≡ drop (place - from) left → left ≡ drop from given → drop at left ≡ drop place given
from_place left given at place from onward rest is =
    rest ∙ ap (drop (place - from)) is ∙ drop_later from place given onward

pub chunks-preserved : goal.chunks-preserved
chunks-preserved c =
    let left = c.args.left.now in
    let from = c.args.from.place in
    let at = c.chunks.at in
    let place = c.chunks.place in
    let len = c.in-Passed.length in
    let there : List ℕ → Spot = λ xs. record { at = place; known = c.chunks.known; left = xs } in
    let reads = subst (λ (xs : List ℕ). ReadsAt (there xs) (Passed len c.in-Passed.format)) (take_rest left at) c.in-Passed.ensures.reads in
    let within = c.chunks.invariant.within in
    let onward = c.chunks.invariant.onward in
    let room = reads.0.room.room in
    let is = reads.1 in
    let step : c.min-at.result ≡ min len (length (drop at left)) = omega (arith, c.min-at.ensures, length-drop at left) in
    record {
      within = omega (arith, within, step, length-drop at left);
      onward = omega (arith, onward, step);
      room = omega (arith, room, is);
      rest =
          sym (drop-drop c.min-at.result at left) ∙ ap (λ n. drop n (drop at left)) step ∙ drop_least len (drop at left) ∙ ap (drop len) c.chunks.invariant.rest
          ∙ drop-drop len (place - from) left ∙ ap (λ n. drop n left) (let e : place - from + len ≡ place + len - from = omega (arith, onward) in e);
      stands = λ given begun given_is.
          let same = from_place left given at place from (omega (arith, onward)) c.chunks.invariant.rest given_is in
          stands_over (record { place = place; known = c.chunks.known }) (record { place = place + len; known = c.in-Passed.format }) given (c.chunks.invariant.stands given begun given_is)
          (subst (λ (xs : List ℕ). IsDecided (there xs)) same reads.0)
          (ap (λ n. place + n) (reads.1 ∙ ap chunk_length same))
          (reads.2 ∙ ap (λ (xs : List ℕ). format_after (there xs)) same);
    }

pub returns-in-Ended-clause-answer : goal.returns-in-Ended-clause-answer
returns-in-Ended-clause-answer c =
    let left = c.args.left.now in
    let at = c.chunks.at in
    let place = c.chunks.place in
    let onward = c.chunks.invariant.onward in
    λ given begun given_is.
    let same = from_place left given at place c.args.from.place (omega (arith, onward)) c.chunks.invariant.rest given_is in
    stands_answered (record { place = place; known = c.chunks.known }) given c.in-Ended.answer (c.chunks.invariant.stands given begun given_is)
    (subst (λ (xs : List ℕ). AnswerAt (record { at = place; known = c.chunks.known; left = xs }) c.in-Ended.answer) (take_rest left at ∙ same) c.in-Ended.ensures.reads)
