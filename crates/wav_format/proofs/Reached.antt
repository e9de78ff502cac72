-- From one chunk to the next.
use Rattle.std.proofs.Common.{◌≡◌, ℕ, zero, suc, ◌+◌, inr, Option, List, drop, sym, ap, subst, ◌∙◌}
use Rattle.std.proofs.lemmas.List.{drop-drop}
use Rattle.wav_format.specs.declared.format.SampleFormat.{SampleFormat}
use Rattle.wav_format.specs.declared.head.HeadAnswer.{HeadAnswer}
use Rattle.wav_format.specs.declared.head.HeadAnswer.TheVariants.{Whole, NeedMore, Bad}
use Rattle.wav_format.specs.declared.head.WavKind.TheVariants.{NotRiff, NotWave, NoFmt, BadFmt, TagUnknown, HeadTooLong}
use Rattle.wav_format.specs.Answers.{AnswerAt, AnswerIn}
use Rattle.wav_format.specs.Chunks.{IsPassed, Leads, Reaches, Spot, spot_behind, chunk_length, first_chunk, format_after, longest_head}
use Rattle.wav_format.proofs.Longer.{same_spot}

pub leads_next : (limit chunks : ℕ) (s t : Spot) → Leads limit chunks s t → IsPassed limit t → Leads limit (suc chunks) s (spot_behind t)
leads_next limit zero s t e p = (subst (IsPassed limit) (sym e) p, ap spot_behind e)
leads_next limit (suc chunks) s t (first, rest) p = (first, leads_next limit chunks (spot_behind s) t rest p)

pub reaches_next : (limit : ℕ) (bytes : List ℕ) (place : ℕ) (known : Option SampleFormat) (len : ℕ) (format : Option SampleFormat)
    → Reaches limit bytes (record { at = place; known = known; left = drop place bytes })
    → IsPassed limit (record { at = place; known = known; left = drop place bytes })
    → len ≡ chunk_length (drop place bytes) → format ≡ format_after (record { at = place; known = known; left = drop place bytes })
    → Reaches limit bytes (record { at = place + len; known = format; left = drop (place + len) bytes })
reaches_next limit bytes place known len format (opened, (chunks, leads)) passed is known_is =
    let s : Spot = record { at = place; known = known; left = drop place bytes } in
    let next : spot_behind s ≡ record { at = place + len; known = format; left = drop (place + len) bytes } =
    same_spot (place + chunk_length s.left) (place + len) (format_after s) format (drop (chunk_length s.left) s.left) (drop (place + len) bytes) (ap (λ n. place + n) (sym is)) (sym known_is) (ap (λ n. drop n s.left) (sym is) ∙ drop-drop len place bytes) in
    (opened, (suc chunks, subst (λ t. Leads limit (suc chunks) (first_chunk bytes) t) next (leads_next limit chunks (first_chunk bytes) s leads passed)))

-- the answer at a spot that is reached
pub answered : (bytes : List ℕ) (s : Spot) (a : HeadAnswer) → Reaches longest_head bytes s → AnswerAt s a → AnswerIn bytes a
answered bytes s (Whole h) reached answer = (drop 8 s.left, (s, reached, answer))
answered bytes s (NeedMore n) reached answer = inr (s, reached, answer.0, answer.1)
answered bytes s (Bad place NotRiff) reached answer = absurd answer
answered bytes s (Bad place NotWave) reached answer = absurd answer
answered bytes s (Bad place NoFmt) reached answer = (s, reached, answer)
answered bytes s (Bad place BadFmt) reached answer = (s, reached, answer)
answered bytes s (Bad place TagUnknown) reached answer = (s, reached, answer)
answered bytes s (Bad place HeadTooLong) reached answer = (s, reached, answer)
