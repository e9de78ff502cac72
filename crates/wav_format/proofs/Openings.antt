-- The bytes give one answer alone, also where they end before the first chunk.
use Rattle.std.proofs.Common.{◌≡◌, ℕ, ◌+◌, ◌<◌, ◌⊎◌, inl, inr, true, List, length, take, drop, get_or, codes, refl, sym, ap, ◌∙◌, arith}
use Rattle.std.proofs.lemmas.Bool.{cases_lt}
use Rattle.std.proofs.lemmas.List.{get_or-take}
use Rattle.std.proofs.lemmas.Slice.Eq.{bytes_eq-Decides}
use Rattle.wav_format.specs.declared.head.HeadAnswer.{HeadAnswer}
use Rattle.wav_format.specs.declared.head.HeadAnswer.TheVariants.{Whole, NeedMore, Bad}
use Rattle.wav_format.specs.declared.head.WavKind.{WavKind}
use Rattle.wav_format.specs.declared.head.WavKind.TheVariants.{NotRiff, NotWave, NoFmt, BadFmt, TagUnknown, HeadTooLong}
use Rattle.wav_format.specs.Answers.{AnswerIn}
use Rattle.wav_format.specs.Chunks.{IsOpened, begins}
use Rattle.wav_format.specs.Cuts.{OpeningCut, fronts, opening_length}
use Rattle.wav_format.specs.Faults.{Differs}
use Rattle.wav_format.specs.Format.{AreBytes}
use Rattle.wav_format.proofs.Unique.{Later, one_later}

abbrev pub Same : List ℕ → List ℕ → Type 0
Same word bytes = (k : ℕ) → k < length word → k < length bytes → get_or bytes k 0 ≡ get_or word k 0

pub begins_same : (word bytes : List ℕ) → begins word bytes ≡ true → Same word bytes
begins_same word bytes e k in_word in_bytes =
    let same = (bytes_eq-Decides (take (length word) bytes) word).0 e in
    sym (get_or-take (length word) bytes k 0 in_word) ∙ ap (λ xs. get_or xs k 0) same

pub fronts_same : (word bytes : List ℕ) → fronts word bytes ≡ true → Same word bytes
fronts_same word bytes e k in_word in_bytes =
    let same = (bytes_eq-Decides (take (length word) bytes) (take (length bytes) word)).0 e in
    sym (get_or-take (length word) bytes k 0 in_word) ∙ ap (λ xs. get_or xs k 0) same ∙ get_or-take (length bytes) word k 0 in_bytes

pub differs_not : (word bytes : List ℕ) (i : ℕ) → Same word bytes → Differs word bytes i → ⊥
differs_not word bytes i same d = d.here (same i d.within_word d.within)

not_before : (word bytes : List ℕ) (i j : ℕ) → Differs word bytes i → Differs word bytes j → i < j → ⊥
not_before word bytes i j p q lt = p.here (sym (get_or-take j bytes i 0 lt) ∙ ap (λ xs. get_or xs i 0) q.before ∙ get_or-take j word i 0 lt)

one_difference : (word bytes : List ℕ) (i j : ℕ) → Differs word bytes i → Differs word bytes j → i ≡ j
one_difference word bytes i j p q =
    elim (cases_lt i j) [
      | inl lt ↦ absurd (not_before word bytes i j p q lt)
      | inr le ↦ elim (cases_lt j i) [ inl lt ↦ absurd (not_before word bytes j i q p lt) | inr ge ↦ omega arith ]
    ]

-- what is answered before the first chunk
abbrev Early : List ℕ → HeadAnswer → Type 0
Early bytes (Whole h) = ⊥
Early bytes (NeedMore n) = OpeningCut bytes × (n ≡ opening_length (length bytes))
Early bytes (Bad place NotRiff) = Differs (codes "RIFF") bytes place
Early bytes (Bad place NotWave) = (begins (codes "RIFF") bytes ≡ true) × ((i : ℕ) × Differs (codes "WAVE") (drop 8 bytes) i × (place ≡ 8 + i))
Early bytes (Bad place NoFmt) = ⊥
Early bytes (Bad place BadFmt) = ⊥
Early bytes (Bad place TagUnknown) = ⊥
Early bytes (Bad place HeadTooLong) = ⊥

sorted : (bytes : List ℕ) (a : HeadAnswer) → AnswerIn bytes a → Early bytes a ⊎ Later bytes a
sorted bytes (Whole h) (rest, (s, reached, p)) = inr (s, reached, record { headed = p.headed; named = p.named; format = p.format; start = p.start; size = p.size; leaves = refl })
sorted bytes (NeedMore n) (inl early) = inl early
sorted bytes (NeedMore n) (inr (s, reached, cut, is)) = inr (s, reached, (cut, is))
sorted bytes (Bad place NotRiff) d = inl d
sorted bytes (Bad place NotWave) d = inl d
sorted bytes (Bad place NoFmt) d = inr d
sorted bytes (Bad place BadFmt) d = inr d
sorted bytes (Bad place TagUnknown) d = inr d
sorted bytes (Bad place HeadTooLong) d = inr d

early_not_opened : (bytes : List ℕ) (a : HeadAnswer) → Early bytes a → IsOpened bytes → ⊥
early_not_opened bytes (Whole h) p opened = p
early_not_opened bytes (NeedMore n) p opened = let short = p.0.short in let long = opened.long in omega arith
early_not_opened bytes (Bad place NotRiff) p opened = differs_not (codes "RIFF") bytes place (begins_same (codes "RIFF") bytes opened.riff) p
early_not_opened bytes (Bad place NotWave) p opened = differs_not (codes "WAVE") (drop 8 bytes) p.1.0 (begins_same (codes "WAVE") (drop 8 bytes) opened.wave) p.1.1
early_not_opened bytes (Bad place NoFmt) p opened = p
early_not_opened bytes (Bad place BadFmt) p opened = p
early_not_opened bytes (Bad place TagUnknown) p opened = p
early_not_opened bytes (Bad place HeadTooLong) p opened = p

same_place : (place place' : ℕ) (kind : WavKind) → place ≡ place' → ◌≡◌ {A = HeadAnswer} (Bad place kind) (Bad place' kind)
same_place place place' kind p = cc

one_early : (bytes : List ℕ) (a b : HeadAnswer) → Early bytes a → Early bytes b → a ≡ b
one_early bytes (Whole h) b p q = absurd p
one_early bytes a (Whole h) p q = absurd q
one_early bytes (NeedMore n) (NeedMore m) p q = ap NeedMore (p.1 ∙ sym q.1)
one_early bytes (NeedMore n) (Bad place NotRiff) p q = absurd (differs_not (codes "RIFF") bytes place (fronts_same (codes "RIFF") bytes p.0.riff) q)
one_early bytes (NeedMore n) (Bad place NotWave) p q = absurd (differs_not (codes "WAVE") (drop 8 bytes) q.1.0 (fronts_same (codes "WAVE") (drop 8 bytes) p.0.wave) q.1.1)
one_early bytes (Bad place NotRiff) (NeedMore m) q p = absurd (differs_not (codes "RIFF") bytes place (fronts_same (codes "RIFF") bytes p.0.riff) q)
one_early bytes (Bad place NotWave) (NeedMore m) q p = absurd (differs_not (codes "WAVE") (drop 8 bytes) q.1.0 (fronts_same (codes "WAVE") (drop 8 bytes) p.0.wave) q.1.1)
one_early bytes (Bad place NotRiff) (Bad place' NotRiff) p q = same_place place place' NotRiff (one_difference (codes "RIFF") bytes place place' p q)
one_early bytes (Bad place NotRiff) (Bad place' NotWave) p q = absurd (differs_not (codes "RIFF") bytes place (begins_same (codes "RIFF") bytes q.0) p)
one_early bytes (Bad place NotWave) (Bad place' NotRiff) q p = absurd (differs_not (codes "RIFF") bytes place' (begins_same (codes "RIFF") bytes q.0) p)
one_early bytes (Bad place NotWave) (Bad place' NotWave) (_, (i, p, e)) (_, (j, q, e')) = same_place place place' NotWave (e ∙ ap (λ k. 8 + k) (one_difference (codes "WAVE") (drop 8 bytes) i j p q) ∙ sym e')
one_early bytes (Bad place NoFmt) b p q = absurd p
one_early bytes (Bad place BadFmt) b p q = absurd p
one_early bytes (Bad place TagUnknown) b p q = absurd p
one_early bytes (Bad place HeadTooLong) b p q = absurd p
one_early bytes a (Bad place NoFmt) p q = absurd q
one_early bytes a (Bad place BadFmt) p q = absurd q
one_early bytes a (Bad place TagUnknown) p q = absurd q
one_early bytes a (Bad place HeadTooLong) p q = absurd q

pub one_answer : (bytes : List ℕ) → AreBytes bytes → (a b : HeadAnswer) → AnswerIn bytes a → AnswerIn bytes b → a ≡ b
one_answer bytes fine a b p q =
    elim (sorted bytes a p) [
      | inl early ↦ elim (sorted bytes b q) [
        | inl early' ↦ one_early bytes a b early early'
        | inr later ↦ absurd (early_not_opened bytes a early later.1.0)
      ]
      | inr later ↦ elim (sorted bytes b q) [
        | inl early ↦ absurd (early_not_opened bytes b early later.1.0)
        | inr later' ↦ one_later bytes fine a b later later'
      ]
    ]
