-- Bytes have the answer that is told of them.
use Rattle.std.proofs.Common.{◌≡◌, ℕ, zero, suc, ◌+◌, ◌≤◌, inl, inr, Bool, true, false, not, cond, ltb, ◌==◌, ◌&&◌, Option, Some, None, List, [], ◌∷◌, length, drop, codes, option_map, MatchOption, refl, sym, ◌∙◌, arith}
use Rattle.std.specs.Prelude.{unwrap_or}
use Rattle.std.proofs.lemmas.Bool.{and_cases, and_parts, cond_both, eqb-true, eqb-false, ltb-true, ltb-false, not-true, not-false, true≢false}
use Rattle.std.proofs.lemmas.Bool.Decides.{not_from_Decides}
use Rattle.std.proofs.lemmas.List.{length-drop, length-take}
use Rattle.wav_format.specs.declared.format.SampleFormat.{SampleFormat}
use Rattle.wav_format.specs.declared.head.HeadAnswer.{HeadAnswer}
use Rattle.wav_format.specs.declared.head.HeadAnswer.TheVariants.{Bad}
use Rattle.wav_format.specs.declared.head.WavKind.TheVariants.{BadFmt, TagUnknown}
use Rattle.wav_format.specs.Answers.{AnswerAt, AnswerIn}
use Rattle.wav_format.specs.Chunks.{IsOpened, IsPassed, Leads, Spot, begins, spot_behind, body_at, body_size, chunk_length, first_chunk, longest_head}
use Rattle.wav_format.specs.Faults.{Differs, MayBeFormat, MayFit}
use Rattle.wav_format.specs.Format.{AreBytes}
use Rattle.wav_format.specs.Told.{chunk_told, chunks_told, data_told, difference, format_agrees, headed_told, numbers_agree, opened_told, answer_told}
use Rattle.wav_format.proofs.Bodies.{bytes-drop, bytes-take}
use Rattle.wav_format.proofs.Formats.{fit_to_numbers, format_to_given, given_to_format, numbers_to_fit}
use Rattle.wav_format.proofs.Fronts.{begins_from}
use Rattle.wav_format.proofs.Longer.{begins_long}
use Rattle.wav_format.proofs.Openings.{Same}
use Rattle.wav_format.proofs.Reached.{answered}
use Rattle.wav_format.proofs.Agreeing.{format_decides, numbers_decide}
use Rattle.wav_format.proofs.Whole.{passed}
use Rattle.wav_format.proofs.Words.{fronts_from}

-- ---- a `fmt ` chunk

-- the body is no longer than its size, and holds bytes
body_within : (left : List ℕ) → length (body_at left) ≤ body_size left
body_within left = omega (arith, length-take (body_size left) (drop 8 left))

body_fine : (left : List ℕ) → AreBytes left → AreBytes (body_at left)
body_fine left fine = bytes-take (body_size left) (drop 8 left) (bytes-drop 8 left fine)

says_format : (left : List ℕ) → AreBytes left → format_agrees (body_at left) (body_size left) ≡ true → MayBeFormat (body_at left) (body_size left)
says_format left fine e = given_to_format (body_at left) (body_size left) (body_within left) (body_fine left fine) ((format_decides (body_at left) (body_size left)).0 e)

says_none : (left : List ℕ) → format_agrees (body_at left) (body_size left) ≡ false → MayBeFormat (body_at left) (body_size left) → ⊥
says_none left e may = not_from_Decides (format_agrees (body_at left) (body_size left)) (format_decides (body_at left) (body_size left)) e (format_to_given (body_at left) (body_size left) may)

fits : (left : List ℕ) → AreBytes left → numbers_agree (body_at left) (body_size left) ≡ true → MayFit (body_at left) (body_size left)
fits left fine e = numbers_to_fit (body_at left) (body_size left) (body_within left) (body_fine left fine) ((numbers_decide (body_at left) (body_size left)).0 e)

fits_not : (left : List ℕ) → numbers_agree (body_at left) (body_size left) ≡ false → MayFit (body_at left) (body_size left) → ⊥
fits_not left e may = not_from_Decides (numbers_agree (body_at left) (body_size left)) (numbers_decide (body_at left) (body_size left)) e (fit_to_numbers (body_at left) (body_size left) may)

format_says : (s : Spot) → AreBytes s.left → 8 ≤ length s.left → begins (codes "fmt ") s.left ≡ true → s.at + chunk_length s.left ≤ longest_head → format_agrees (body_at s.left) (body_size s.left) ≡ false
    → (fit : Bool) → numbers_agree (body_at s.left) (body_size s.left) ≡ fit → AnswerAt s (Bad (s.at + 8) (cond fit TagUnknown BadFmt))
format_says s fine headed named ends none true e = (record { headed = headed; named = named; ends = ends }, fits s.left fine e, says_none s.left none, refl)
format_says s fine headed named ends none false e = (record { headed = headed; named = named; ends = ends }, fits_not s.left e, refl)

-- ---- one chunk

abbrev Says : Spot → Option HeadAnswer → Type 0
Says s answer_told = MatchOption answer_told (IsPassed longest_head s) (AnswerAt s)

data_says : (s : Spot) (known : Option SampleFormat) → s.known ≡ known → begins (codes "data") s.left ≡ true → AnswerAt s (data_told known s)
data_says s None is named = (named, is, refl)
data_says s (Some f) is named =
    cond_both (ltb (length s.left) 8) _ _ (AnswerAt s)
    (λ e. (inl (record { short = ltb-true (length s.left) 8 e; format = λ _ none. let some = is in absurd cc }), refl))
    (λ e. record { headed = ltb-false (length s.left) 8 e; named = named; format = is; start = refl; size = refl; leaves = refl })

room_of : (s : Spot) → AreBytes s.left → (begins (codes "fmt ") s.left && not (format_agrees (body_at s.left) (body_size s.left))) ≡ false → begins (codes "fmt ") s.left ≡ true → MayBeFormat (body_at s.left) (body_size s.left)
room_of s fine e named =
    elim (and_cases (begins (codes "fmt ") s.left) (not (format_agrees (body_at s.left) (body_size s.left))) e) [
      | inl unnamed ↦ absurd (true≢false (sym named ∙ unnamed))
      | inr agrees ↦ says_format s.left fine (not-false (format_agrees (body_at s.left) (body_size s.left)) agrees)
    ]

headed_says : (s : Spot) → AreBytes s.left → begins (codes "data") s.left ≡ false → 8 ≤ length s.left → Says s (headed_told s)
headed_says s fine other headed =
    let end = s.at + chunk_length s.left in
    cond_both (ltb longest_head end) _ _ (Says s)
    (λ far. (record { headed = headed; other = other }, inl (ltb-true longest_head end far, refl)))
    (λ ends. cond_both (begins (codes "fmt ") s.left && not (format_agrees (body_at s.left) (body_size s.left))) _ _ (Says s)
    (λ e. let parts = and_parts (begins (codes "fmt ") s.left) (not (format_agrees (body_at s.left) (body_size s.left))) e in
    format_says s fine headed parts.0 (ltb-false longest_head end ends) (not-true (format_agrees (body_at s.left) (body_size s.left)) parts.1) (numbers_agree (body_at s.left) (body_size s.left)) refl)
    (λ e. cond_both (ltb longest_head (end + 8)) _ _ (Says s)
    (λ far. (record { headed = headed; other = other }, inr (ltb-false longest_head end ends, ltb-true longest_head (end + 8) far, room_of s fine e, refl)))
    (λ near.
    let room : end + 8 ≤ longest_head = ltb-false longest_head (end + 8) near in
    cond_both (ltb (length s.left) (chunk_length s.left)) _ _ (Says s)
    (λ short. (inr (record { headed = record { headed = headed; other = other }; room = record { room = room; format = room_of s fine e }; short = ltb-true (length s.left) (chunk_length s.left) short }), refl))
    (λ whole. passed s.at s.known s.left headed other (record { room = room; format = room_of s fine e }) (ltb-false (length s.left) (chunk_length s.left) whole)))))

chunk_says : (s : Spot) → AreBytes s.left → Says s (chunk_told s)
chunk_says s fine =
    cond_both (begins (codes "data") s.left) _ _ (Says s)
    (λ named. data_says s s.known refl named)
    (λ other. cond_both (ltb (length s.left) 8) _ _ (Says s)
    (λ short. (inl (record { short = ltb-true (length s.left) 8 short; format = λ named. absurd (true≢false (sym named ∙ other)) }), refl))
    (λ headed. headed_says s fine other (ltb-false (length s.left) 8 headed)))

-- ---- the chunks from a spot on

-- the answer stands where the spot leads
abbrev IsAhead : Spot → HeadAnswer → Type 0
IsAhead s a = (n : ℕ) × (t : Spot) × Leads longest_head n s t × AnswerAt t a

ahead : (s : Spot) (answer_told : Option HeadAnswer) (next : HeadAnswer) → Says s answer_told → (IsPassed longest_head s → IsAhead (spot_behind s) next) → IsAhead s (unwrap_or answer_told next)
ahead s (Some a) next is on = (0, s, refl, is)
ahead s None next is on = let there = on is in (suc there.0, there.1, (is, there.2), there.3)

no_word : (s : Spot) → length s.left ≤ 0 → begins (codes "data") s.left ≡ true → ⊥
no_word s none named = let long = begins_long (codes "data") s.left named in omega (arith, long, none)

chunks_say : (most : ℕ) (s : Spot) → AreBytes s.left → length s.left ≤ most → IsAhead s (chunks_told most s)
chunks_say zero s fine none = (0, s, refl, (inl (record { short = omega (arith, none); format = λ named. absurd (no_word s none named) }), refl))
chunks_say (suc most) s fine within =
    ahead s (chunk_told s) (chunks_told most (spot_behind s)) (chunk_says s fine) (λ p.
    let whole = p.whole in
    chunks_say most (spot_behind s) (bytes-drop (chunk_length s.left) s.left fine) (omega (arith, whole, within, length-drop (chunk_length s.left) s.left)))

-- ---- the opening

differs_next : (letter byte : ℕ) (word bytes : List ℕ) (i : ℕ) → byte ≡ letter → Differs word bytes i → Differs (letter ∷ word) (byte ∷ bytes) (suc i)
differs_next letter byte word bytes i e d = record {
  within_word = let h = d.within_word in omega (arith, h);
  within = let h = d.within in omega (arith, h);
  before = let before = d.before in cc;
  here = d.here;
}

same_next : (letter byte : ℕ) (word bytes : List ℕ) → byte ≡ letter → Same word bytes → Same (letter ∷ word) (byte ∷ bytes)
same_next letter byte word bytes e same zero in_word in_bytes = e
same_next letter byte word bytes e same (suc k) in_word in_bytes = same k (omega (arith, in_word)) (omega (arith, in_bytes))

next_says : (letter byte : ℕ) (word bytes : List ℕ) (o : Option ℕ) → byte ≡ letter → MatchOption o (Same word bytes) (Differs word bytes)
    → MatchOption (option_map suc o) (Same (letter ∷ word) (byte ∷ bytes)) (Differs (letter ∷ word) (byte ∷ bytes))
next_says letter byte word bytes None e same = same_next letter byte word bytes e same
next_says letter byte word bytes (Some i) e d = differs_next letter byte word bytes i e d

difference_says : (word bytes : List ℕ) → MatchOption (difference word bytes) (Same word bytes) (Differs word bytes)
difference_says [] bytes = λ k in_word in_bytes. absurd (omega (arith, in_word))
difference_says (letter ∷ word) [] = λ k in_word in_bytes. absurd (omega (arith, in_bytes))
difference_says (letter ∷ word) (byte ∷ bytes) =
    cond_both (byte == letter) _ _ (λ o. MatchOption o (Same (letter ∷ word) (byte ∷ bytes)) (Differs (letter ∷ word) (byte ∷ bytes)))
    (λ e. next_says letter byte word bytes (difference word bytes) (eqb-true byte letter e) (difference_says word bytes))
    (λ e. record { within_word = omega arith; within = omega arith; before = refl; here = eqb-false byte letter e })

opened_says : (riff wave : Option ℕ) (bytes : List ℕ) → AreBytes bytes → MatchOption riff (Same (codes "RIFF") bytes) (Differs (codes "RIFF") bytes)
    → MatchOption wave (Same (codes "WAVE") (drop 8 bytes)) (Differs (codes "WAVE") (drop 8 bytes)) → AnswerIn bytes (opened_told riff wave bytes)
opened_says (Some i) wave bytes fine d w = d
opened_says None (Some i) bytes fine same d =
    (begins_from (codes "RIFF") bytes (let within = d.within in omega (arith, within, length-drop 8 bytes)) same, (i, d, refl))
opened_says None None bytes fine riff wave =
    cond_both (ltb (length bytes) 12) _ _ (AnswerIn bytes)
    (λ e. inl (record { short = ltb-true (length bytes) 12 e; riff = fronts_from (codes "RIFF") bytes riff; wave = fronts_from (codes "WAVE") (drop 8 bytes) wave }, refl))
    (λ e.
    let long : 12 ≤ length bytes = ltb-false (length bytes) 12 e in
    let opened : IsOpened bytes = record {
      long = long;
      riff = begins_from (codes "RIFF") bytes (omega (arith, long)) riff;
      wave = begins_from (codes "WAVE") (drop 8 bytes) (omega (arith, long, length-drop 8 bytes)) wave;
    } in
    let there = chunks_say (length bytes) (first_chunk bytes) (bytes-drop 12 bytes fine) (omega (arith, length-drop 12 bytes)) in
    answered bytes there.1 (chunks_told (length bytes) (first_chunk bytes)) (opened, (there.0, there.2)) there.3)

pub told_says : (bytes : List ℕ) → AreBytes bytes → AnswerIn bytes (answer_told bytes)
unfolding answer_told
told_says bytes fine = opened_says (difference (codes "RIFF") bytes) (difference (codes "WAVE") (drop 8 bytes)) bytes fine (difference_says (codes "RIFF") bytes) (difference_says (codes "WAVE") (drop 8 bytes))
