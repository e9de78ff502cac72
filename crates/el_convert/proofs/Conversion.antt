-- The bytes of samples, one by one, two for one and one for two.
use Rattle.std.proofs.Common.{◌≡◌, ◌<◌, ◌≤◌, ◌+◌, ◌*◌, ◌/◌, ℕ, zero, suc, ℤ, List, [], ◌∷◌, ◌++◌, map, length, take, drop, get_or, refl, sym, ap, ◌∙◌, append-nil, append_assoc, arith, ◌+ℤ◌, Result, Ok, Err}
use Rattle.std.specs.Prelude.{IfOk}
use Rattle.std.specs.Int.{int_shr}
use Rattle.std.proofs.lemmas.List.{take_more, take-map, drop-map}
use Rattle.std.proofs.lemmas.List.Concat.{flat_map-append}
use Rattle.std.proofs.lemmas.List.Folds.{flat_map-map}
use Rattle.std.proofs.lemmas.Bool.{lt-ltb, le-ltb}
use Rattle.std.proofs.lemmas.List.{length-map}
use Rattle.std.proofs.Math.Nat.{mul-le-mul_left}
use Rattle.std.specs.List.{flat_map}
use Rattle.std.specs.Simd.{first_chunks}
use Rattle.audio_info.specs.Packing.{sample_width, sample_value}
use Rattle.audio_info.specs.declared.sample.Sample.{Sample}
use Rattle.el_convert.specs.Bodies.{pieces, half_sum, repacked, converted_bytes}

-- what is made of one more piece
pub flat_map_step : {X A : Type 0} (f : X → List A) (xs : List X) (i : ℕ) (x : X) (ys zs : List A) → i < length xs → x ≡ get_or xs i x → ys ≡ flat_map f (take i xs) → zs ≡ ys ++ f x → zs ≡ flat_map f (take (i + 1) xs)
flat_map_step f xs i x ys zs within is made more =
    rw (more, made, take_more xs i x within, flat_map-append f (take i xs) (get_or xs i x ∷ []), ← is) (ap (λ s. flat_map f (take i xs) ++ s) (sym (append-nil (f x))))

-- what is put behind with one more of some bytes
pub appended : (old made new bytes : List ℕ) (i d : ℕ) → i < length bytes → made ≡ old ++ take i bytes → new ≡ made ++ get_or bytes i d ∷ [] → new ≡ old ++ take (i + 1) bytes
appended old made new bytes i d within so more = rw (more, so, take_more bytes i d within) (append_assoc old (take i bytes) (get_or bytes i d ∷ []))

-- how many bytes there are behind one more piece of n bytes, and that there is memory for it
pub next_len : (n i a b : ℕ) → a ≡ n * i → b ≡ a + n → b ≡ n * (i + 1)
next_len n i a b is more = rw (more, is) (omega arith)

pub has_room : (n i m a room : ℕ) → i < m → a ≡ n * i → room ≡ n * m → a + n ≤ room
has_room n i m a room within is has =
    let le : n * suc i ≤ n * m = mul-le-mul_left n (omega arith) in
    rw (is, has) (omega (arith, le))

-- that there is memory for the first of two pieces of n bytes, and for the second
pub first_room : (a n room : ℕ) → a + 2 * n ≤ room → a + n ≤ room
first_room a n room both = omega (arith, both)

pub second_room : (a n room next left : ℕ) → a + 2 * n ≤ room → next ≡ a + n → left ≡ room → next + n ≤ left
second_room a n room next left both more same = omega (arith, both, more, same)

pub at_most_four : (width n : ℕ) → width ≤ 4 → width ≡ n → n ≤ 4
at_most_four width n few is = omega (arith, few, is)

pub twice_more : (a n next last : ℕ) → next ≡ a + n → last ≡ next + n → last ≡ a + 2 * n
twice_more a n next last first second = omega (arith, first, second)

-- the same bytes put behind twice
pub behind_twice : (old once new part bytes : List ℕ) → once ≡ old ++ part → new ≡ once ++ part → part ≡ bytes → new ≡ old ++ (bytes ++ bytes)
behind_twice old once new part bytes first second is = second ∙ ap (λ l. l ++ part) first ∙ append_assoc old part part ∙ ap (λ l. old ++ (l ++ l)) is

-- each value twice
twice : {X A : Type 0} (h : ℤ → List A) (v : X → ℤ) (xs : List X) → flat_map (λ x. h (v x) ++ h (v x)) xs ≡ flat_map h (flat_map (λ y. y ∷ y ∷ []) (map v xs))
twice h v [] = refl
twice h v (x ∷ xs) = append_assoc (h (v x)) (h (v x)) _ ∙ ap (λ s. h (v x) ++ (h (v x) ++ s)) (twice h v xs)

-- the pieces of a mapped list
chunks-map : {X Y : Type 0} (f : X → Y) (n k : ℕ) (xs : List X) → first_chunks n k (map f xs) ≡ map (map f) (first_chunks n k xs)
chunks-map f n zero xs = refl
chunks-map f n (suc k) xs = rw (take-map f n xs, drop-map f n xs) (ap (λ s. map f (take n xs) ∷ s) (chunks-map f n k (drop n xs)))

pieces-map : {X Y : Type 0} (f : X → Y) (n : ℕ) (xs : List X) → pieces n (map f xs) ≡ map (map f) (pieces n xs)
pieces-map f n xs = rw (length-map xs f) (chunks-map f n (length xs / n) xs)

halves : {X A : Type 0} (h : ℤ → List A) (v : X → ℤ) (xs : List X) → flat_map (λ p. h (half_sum (map v p))) (pieces 2 xs) ≡ flat_map h (map half_sum (pieces 2 (map v xs)))
halves h v xs =
    sym (flat_map-map (λ q. h (half_sum q)) (map v) (pieces 2 xs)) ∙ ap (λ qs. flat_map (λ q. h (half_sum q)) qs) (sym (pieces-map v 2 xs)) ∙ sym (flat_map-map h half_sum (pieces 2 (map v xs)))

-- the bytes that a converted body has, by the channels
pub kept_whole : (from to : Sample) (cf ct n : ℕ) (bytes : List ℕ) (samples : List (List ℕ)) (made : List ℕ) → sample_width from ≡ n → cf ≤ ct → ct ≤ cf
    → samples ≡ first_chunks n (length bytes / n) bytes → made ≡ flat_map (λ s. repacked from to (sample_value from s)) samples → made ≡ converted_bytes from to cf ct bytes
unfolding converted_bytes
kept_whole from to cf ct n bytes samples made width low high cut is =
    rw (is, cut, le-ltb cf ct high, le-ltb ct cf low, ← width) (sym (flat_map-map (repacked from to) (sample_value from) (pieces (sample_width from) bytes)))

pub doubled_whole : (from to : Sample) (cf ct n : ℕ) (bytes : List ℕ) (samples : List (List ℕ)) (made : List ℕ) → sample_width from ≡ n → cf < ct
    → samples ≡ first_chunks n (length bytes / n) bytes → made ≡ flat_map (λ s. repacked from to (sample_value from s) ++ repacked from to (sample_value from s)) samples → made ≡ converted_bytes from to cf ct bytes
unfolding converted_bytes
doubled_whole from to cf ct n bytes samples made width low cut is =
    rw (is, cut, lt-ltb cf ct low, ← width) (twice (repacked from to) (sample_value from) (pieces (sample_width from) bytes))

pub halved_whole : (from to : Sample) (cf ct n : ℕ) (bytes : List ℕ) (samples : List (List ℕ)) (pairs : List (List (List ℕ))) (made : List ℕ) → sample_width from ≡ n → ct ≤ cf → ct < cf
    → samples ≡ first_chunks n (length bytes / n) bytes → pairs ≡ first_chunks 2 (length samples / 2) samples
    → made ≡ flat_map (λ p. repacked from to (half_sum (map (sample_value from) p))) pairs → made ≡ converted_bytes from to cf ct bytes
unfolding converted_bytes
halved_whole from to cf ct n bytes samples pairs made width low less cut paired is =
    rw (is, paired, cut, le-ltb cf ct low, lt-ltb ct cf less, ← width) (halves (repacked from to) (sample_value from) (pieces (sample_width from) bytes))

-- one for two
pub half_of : (v : List ℕ → ℤ) (p : List (List ℕ)) → length p ≡ 2 → half_sum (map v p) ≡ int_shr (v (get_or p 0 []) +ℤ v (get_or p 1 [])) 1
half_of v (a ∷ b ∷ []) two = refl
half_of v [] two = absurd (omega arith)
half_of v (a ∷ []) two = absurd (omega arith)
half_of v (a ∷ b ∷ d ∷ ps) two = absurd (omega arith)

-- what follows of a result that is handed on
pub weaken : {T E : Type 0} (r : Result T E) (P Q : T → Type 0) → ((x : T) → P x → Q x) → IfOk r P → IfOk r Q
weaken (Ok x) P Q f h = f x h
weaken (Err e) P Q f h = tt

-- the same bytes, where the formats are the same
pub same_formats : (f f' g g' : Sample) (a b : ℕ) (bytes made : List ℕ) → f ≡ f' → g ≡ g' → made ≡ converted_bytes f g a b bytes → made ≡ converted_bytes f' g' a b bytes
same_formats f f' g g' a b bytes made p q h = rw (← p, ← q) h
