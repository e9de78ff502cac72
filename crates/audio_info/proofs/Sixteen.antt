-- Sixteen samples at once: what is done lane by lane.
use Rattle.std.proofs.Common.{◌≡◌, ◌<◌, ◌≤◌, ℕ, ◌+◌, ◌-◌, ◌*◌, ◌/◌, ◌%◌, min, Bool, true, false, cond, List, [], ◌∷◌, map, length, refl, ap, ◌∙◌, arith, inl, inr, ◌^◌, All, suc, zero, pos, negsuc, ◌-ℤ◌, bit_or, sym}
use Rattle.std.proofs.lemmas.Bool.{cases_lt}
use Rattle.std.proofs.lemmas.Int.{ints}
use Rattle.std.proofs.lemmas.Bool.Decides.{Decides-ltb, leb_tells}
use Rattle.std.proofs.lemmas.Simd.{tops_compared, zip2_of_maps, Each1-from_get_or, Each1-get_or}
use Rattle.byteorder.specs.Endian.{little_number, twos_complement}
use Rattle.std.specs.Simd.{first_chunks}
use Rattle.audio_info.specs.Segments.{interval_of, mulaw_segments, mulaw_code}
use Rattle.audio_info.proofs.Codes.{mulaw_encoded}
use Rattle.audio_info.proofs.Lines.{least_line, mulaw_lower, mulaw_upper}
use lib.Dec.{ltb, leb}
use borrow.Rule.Simd.Lanes.{act1, act2}
use borrow.Table.Row.{s_int}
use lib.Lanes.{zip2, sel_l, top, Each1, digits_l, number_l}
use mir.Syntax.{Width, w8, w16, unsigned, shr, wrap_add, cast}
use mir.Val.{bits, hbits}

-- what is chosen lane by lane
pub sel_of_maps : {V X : Type 0} (p : V → Bool) (g h : V → X) (vs : List V) {ms : List Bool} {xs ys : List X} → ms ≡ map p vs → xs ≡ map g vs → ys ≡ map h vs
    → sel_l ms xs ys ≡ map (λ v. cond (p v) (g v) (h v)) vs
sel_of_maps {V} {X} p g h vs m a b = rw (m, a, b) (go vs)
  where
    go : (ws : List V) → sel_l (map p ws) (map g ws) (map h ws) ≡ map (λ v. cond (p v) (g v) (h v)) ws
    go [] = refl
    go (w ∷ ws) = ap (λ (t : List X). cond (p w) (g w) (h w) ∷ t) (go ws)

-- the same lanes, where a fact of each makes them so
pub same_lanes : {V X : Type 0} (P : V → Type 0) (f g : V → X) (vs : List V) → Each1 P vs → ((v : V) → P v → f v ≡ g v) → map f vs ≡ map g vs
same_lanes P f g [] all same = refl
same_lanes {V} {X} P f g (v ∷ vs) all same = ap (λ (x : X). x ∷ map f vs) (same v all.0) ∙ ap (λ (t : List X). g v ∷ t) (same_lanes P f g vs all.1 same)

pub facts_at : {V : Type 0} (P : V → Type 0) (vs : List V) (d : V) → All P vs → Each1 P vs
facts_at P vs d all = Each1-from_get_or P vs d (λ k h. all k d h)

pub lanes_are : {V : Type 0} (vs : List V) → vs ≡ map (λ v. v) vs
lanes_are [] = refl
lanes_are {V} (v ∷ vs) = ap (λ (t : List V). v ∷ t) (lanes_are vs)

not_less : (m n : ℕ) → n ≤ m → ltb m n ≡ false
not_less m n h = go (ltb m n) refl
  where
    go : (t : Bool) → ltb m n ≡ t → t ≡ false
    go false e = refl
    go true e = absurd (omega (arith, (Decides-ltb m n).0 e))

less : (a b : ℕ) → cond (ltb a b) a b ≡ min a b
less a b = elim (cases_lt a b) [
  | inl h ↦ rw ((Decides-ltb a b).1 h) (omega arith)
  | inr h ↦ rw (not_less a b h) (omega arith)
]

-- the least of two, lane by lane
pub min_of_maps : {V : Type 0} (w : Width) (g h : V → ℕ) (vs : List V) {xs ys : List ℕ} → xs ≡ map g vs → ys ≡ map h vs
    → sel_l (map (top (hbits w)) (zip2 (λ a b. cond (ltb a b) (2 ^ bits w - 1) 0) xs ys)) xs ys ≡ map (λ v. min (g v) (h v)) vs
min_of_maps {V} w g h vs {xs} {ys} a b =
    let tops = tops_compared w ltb xs ys ∙ zip2_of_maps ltb g h vs a b in
    sel_of_maps (λ v. ltb (g v) (h v)) g h vs tops a b ∙ go vs
  where
    go : (ws : List V) → map (λ v. cond (ltb (g v) (h v)) (g v) (h v)) ws ≡ map (λ v. min (g v) (h v)) ws
    go [] = refl
    go (v ∷ ws) = ap (λ (x : ℕ). x ∷ map (λ v. cond (ltb (g v) (h v)) (g v) (h v)) ws) (less (g v) (h v)) ∙ ap (λ (t : List ℕ). min (g v) (h v) ∷ t) (go ws)

pub shifted16 : {V : Type 0} (k : ℕ) (g : V → ℕ) (vs : List V) {xs ks : List ℕ} → xs ≡ map g vs → ks ≡ map (λ v. k) vs
    → zip2 (act2 (shr unsigned) (s_int w16) (s_int w16) (s_int w16)) xs ks ≡ map (λ v. g v / 2 ^ k) vs
shifted16 k g vs a b = zip2_of_maps (λ x y. x / 2 ^ y) g (λ v. k) vs a b

pub added16 : {V : Type 0} (k : ℕ) (g : V → ℕ) (vs : List V) {xs ks : List ℕ} → xs ≡ map g vs → ks ≡ map (λ v. k) vs
    → zip2 (act2 wrap_add (s_int w16) (s_int w16) (s_int w16)) xs ks ≡ map (λ v. (g v + k) % 2 ^ 16) vs
added16 k g vs a b = zip2_of_maps (λ x y. (x + y) % 2 ^ 16) g (λ v. k) vs a b

-- lanes of words that are lanes of bytes
pub narrowed : (xs : List ℕ) → map (act1 (cast unsigned unsigned w8) (s_int w16) (s_int w8)) xs ≡ xs
narrowed [] = refl
narrowed (x ∷ xs) = ap (λ (t : List ℕ). x ∷ t) (narrowed xs)

-- lanes of bytes that are lanes of words
pub widened : (xs : List ℕ) → map (act1 (cast unsigned unsigned w16) (s_int w8) (s_int w16)) xs ≡ xs
widened [] = refl
widened (x ∷ xs) = ap (λ (t : List ℕ). x ∷ t) (widened xs)

-- a fact of each lane, by what it was made of
pub facts_of_map : {V X : Type 0} (Q : V → Type 0) (P : X → Type 0) (g : V → X) (vs : List V) {xs : List X} → xs ≡ map g vs → Each1 Q vs → ((v : V) → Q v → P (g v)) → Each1 P xs
facts_of_map {V} {X} Q P g vs e all each = rw e (go vs all)
  where
    go : (ws : List V) → Each1 Q ws → Each1 P (map g ws)
    go [] all = tt
    go (w ∷ ws) all = (each w all.0, go ws all.1)

-- the interval of a magnitude, as it is found in bytes
pub found : (m : ℕ) → 128 ≤ m → m < 32768 → ((least_line (cond (leb 16 (m / 128)) (m / 128) (min (m / 8) 255)) + cond (leb 16 (m / 128)) 64 0) % 256 + (256 - 16)) % 256 ≡ interval_of mulaw_segments m
found m low high = elim (leb_tells 16 (m / 128)) [
  | inl t ↦ (let is = mulaw_upper m (omega (arith, t.1)) high in rw t.0 (omega (arith, is, t.1)))
  | inr f ↦ (let is = mulaw_lower m low (omega (arith, f.1)) in
      let few : min (m / 8) 255 ≡ m / 8 = omega (arith, f.1) in
      rw (f.0, few) (omega (arith, is, f.1)))
]

pub all_of : {V : Type 0} (P : V → Type 0) (vs : List V) → Each1 P vs → All P vs
all_of P vs all = λ k d h. Each1-get_or P vs k d h all

-- the lanes that are at least a number
pub at_least : {V : Type 0} (k : ℕ) (g : V → ℕ) (vs : List V) {xs ks : List ℕ} → ks ≡ map (λ v. k) vs → xs ≡ map g vs
    → map (top 7) (zip2 (λ a b. cond (leb a b) 255 0) ks xs) ≡ map (λ v. leb k (g v)) vs
at_least k g vs {xs} {ks} a b = tops_compared w8 leb ks xs ∙ zip2_of_maps leb (λ v. k) g vs a b

-- words of two bytes, the lower first
pub words : (n : ℕ) (xs : List ℕ) → length xs ≡ 2 * n → Each1 (λ x. x < 256) xs → digits_l 65536 n (number_l 256 xs) ≡ map (little_number 2) (first_chunks 2 n xs)
words zero xs size all = refl
words (suc n) [] size all = absurd (omega (arith, size))
words (suc n) (x ∷ []) size all = absurd (omega (arith, size))
words (suc n) (x ∷ y ∷ xs) size all =
    let word : (x + 256 * (y + 256 * number_l 256 xs)) % 65536 ≡ x + 256 * (y + 0) = omega (arith, all.0, all.1.0) in
    let rest : (x + 256 * (y + 256 * number_l 256 xs)) / 65536 ≡ number_l 256 xs = omega (arith, all.0, all.1.0) in
    ap (λ (w : ℕ). w ∷ digits_l 65536 n ((x + 256 * (y + 256 * number_l 256 xs)) / 65536)) word
    ∙ ap (λ (k : ℕ). (x + 256 * (y + 0)) ∷ digits_l 65536 n k) rest
    ∙ ap (λ (t : List ℕ). (x + 256 * (y + 0)) ∷ t) (words n xs (omega (arith, size)) all.1.1)

pub small_words : (n x : ℕ) → Each1 (λ u. u < 65536) (digits_l 65536 n x)
small_words zero x = tt
small_words (suc n) x = (omega arith, small_words n (x / 65536))

-- the code of a sample, by its bits
pub coded : (u : ℕ) → u < 65536 → 255 - bit_or (u / 32768 * 128) (interval_of mulaw_segments (min (min u (65536 - u)) 32635 + 132)) ≡ mulaw_code (twos_complement 2 u)
coded u fits = elim (cases_lt u 32768) [
  | inl h ↦ (let value : twos_complement 2 u ≡ pos u = rw ((Decides-ltb u 32768).1 h) refl in
      (mulaw_encoded (pos u) (u / 32768 * 128) (min (min u (65536 - u)) 32635) _ (omega (arith, h)) (omega (arith, h)) refl).0 ∙ ap mulaw_code (sym value))
  | inr h ↦ (let value : twos_complement 2 u ≡ negsuc (65535 - u) = rw (not_less u 32768 h) (below_zero u h fits) in
      (mulaw_encoded (negsuc (65535 - u)) (u / 32768 * 128) (min (min u (65536 - u)) 32635) _ (omega (arith, h, fits)) (omega (arith, h, fits)) refl).0 ∙ ap mulaw_code (sym value))
]
  where
    below_zero : (n : ℕ) → 32768 ≤ n → n < 65536 → pos n -ℤ pos 65536 ≡ negsuc (65535 - n)
    below_zero n low high = grind (arith, ints)
