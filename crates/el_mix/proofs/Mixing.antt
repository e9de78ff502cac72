-- The output buffers of beginnings begin the output buffers.
use Rattle.std.proofs.Common.{◌≡◌, ◌↔◌, ◌⊎◌, ℕ, zero, suc, ◌+◌, ◌-◌, ◌*◌, ◌/◌, ◌≤◌, ◌<◌, Bool, true, false, if◌then◌else◌, eqb, ltb, List, [], ◌∷◌, ◌++◌, Option, Some, None, length, refl, ap, subst, inl, inr, length-append, length-drop, arith}
use Rattle.std.specs.Prelude.{max, flat_map}
use Rattle.std.proofs.lemmas.Bool.{cases_lt, lt-ltb}
use Rattle.std.proofs.Math.Nat.{div-mul-le_self, mul-le-mul_right, le-div_iff_mul-le}
use Rattle.std.proofs.lemmas.Bool.Decides.{eqb_tells}
use Rattle.audio_info.specs.declared.sample.Sample.{Sample}
use Rattle.audio_info.specs.declared.sample.Sample.TheVariants.{S8, U8, S16LE, S16BE, S24LE, S32LE, MuLaw, ALaw}
use Rattle.audio_info.specs.Packing.{sample_width}
use Rattle.flow_model.specs.Item.{Item, is_eos, body_of}
use Rattle.flow_model.specs.Looking.{bytes_of}
use Rattle.flow_model.specs.Prefix.{IsPrefix, nothing, next}
use Rattle.flow_model.proofs.Prefixes.{append_prefix, prefix_if, prefix_length, take_prefix, prefix_of_drop}
use Rattle.el_mix.specs.Mono.{Mono, width}
use Rattle.el_mix.specs.Mixed.{has, frames, ends_at, is_cut, frame, rows, mixed, lesser, open_limit, longest, limit_by, limit}
use Rattle.el_mix.specs.Pieces.{Goes, AllGo, no_pads, one_pad}

pub sample_some : (format : Sample) → 0 < sample_width format
sample_some S8 = omega arith
sample_some U8 = omega arith
sample_some S16LE = omega arith
sample_some S16BE = omega arith
sample_some S24LE = omega arith
sample_some S32LE = omega arith
sample_some MuLaw = omega arith
sample_some ALaw = omega arith

pub width_some : (mono : Mono) → 0 < width mono
width_some mono = sample_some mono.format

pub div_grows : (k a b : ℕ) → 0 < k → a ≤ b → a / k ≤ b / k
div_grows k a b pos h = let low = div-mul-le_self a k in (le-div_iff_mul-le {k = k} {x = a / k} {y = b} pos).1 (omega (arith, low, h))

bytes_prefix : {xs ys : List Item} → IsPrefix xs ys → IsPrefix (bytes_of xs) (bytes_of ys)
bytes_prefix nothing = nothing
bytes_prefix (next {x = x} p) = append_prefix (body_of x) (bytes_prefix p)

pub frames_grow : (mono : Mono) {xs ys : List Item} → IsPrefix xs ys → frames mono xs ≤ frames mono ys
frames_grow mono {xs} {ys} p = div_grows (width mono) (length (bytes_of xs)) (length (bytes_of ys)) (width_some mono) (prefix_length (bytes_prefix p))

-- past a frame no buffer ends at it
ends_past : (mono : Mono) (got : ℕ) (xs : List Item) (f : ℕ) → f < got / width mono → ends_at mono got xs f ≡ false
ends_past mono got [] f h = refl
ends_past mono got (x ∷ xs) f h =
    let more = div_grows (width mono) got (got + length (body_of x)) (width_some mono) (omega arith) in
    go (eqb_tells ((got + length (body_of x)) / width mono) f) more (ends_past mono (got + length (body_of x)) xs f (omega (arith, more, h)))
  where
    go : ((eqb ((got + length (body_of x)) / width mono) f ≡ true) × ((got + length (body_of x)) / width mono ≡ f)) ⊎ ((eqb ((got + length (body_of x)) / width mono) f ≡ false) × ((got + length (body_of x)) / width mono ≡ f → ⊥))
        → got / width mono ≤ (got + length (body_of x)) / width mono
        → ends_at mono (got + length (body_of x)) xs f ≡ false
        → (if eqb ((got + length (body_of x)) / width mono) f then true else ends_at mono (got + length (body_of x)) xs f) ≡ false
    go (inl t) more r = absurd (omega (arith, t.1, h, more))
    go (inr t) more r = rw t.0 r

-- as far as a pad has frames, the places at which its buffers end are settled
ends_settled : (mono : Mono) (got : ℕ) {xs ys : List Item} (f : ℕ) → IsPrefix xs ys → got / width mono < f → f ≤ (got + length (bytes_of xs)) / width mono → ends_at mono got xs f ≡ ends_at mono got ys f
ends_settled mono got f nothing low high =
    let same = div_grows (width mono) (got + 0) got (width_some mono) (omega arith) in absurd (omega (arith, low, high, same))
ends_settled mono got f (next {x = x} {xs = xs} {ys = ys} p) low high =
    go (eqb_tells ((got + length (body_of x)) / width mono) f) (cases_lt ((got + length (body_of x)) / width mono) f)
    (λ below. ends_settled mono (got + length (body_of x)) f p below (subst (λ n. f ≤ n / width mono) all high))
  where
    all : got + length (body_of x ++ bytes_of xs) ≡ got + length (body_of x) + length (bytes_of xs)
    all = rw length-append (omega arith)

    go : ((eqb ((got + length (body_of x)) / width mono) f ≡ true) × ((got + length (body_of x)) / width mono ≡ f)) ⊎ ((eqb ((got + length (body_of x)) / width mono) f ≡ false) × ((got + length (body_of x)) / width mono ≡ f → ⊥))
        → (((got + length (body_of x)) / width mono < f) ⊎ (f ≤ (got + length (body_of x)) / width mono))
        → ((got + length (body_of x)) / width mono < f → ends_at mono (got + length (body_of x)) xs f ≡ ends_at mono (got + length (body_of x)) ys f)
        → (if eqb ((got + length (body_of x)) / width mono) f then true else ends_at mono (got + length (body_of x)) xs f)
        ≡ (if eqb ((got + length (body_of x)) / width mono) f then true else ends_at mono (got + length (body_of x)) ys f)
    go (inl t) c r = rw t.0 refl
    go (inr t) (inl c) r = rw t.0 (r c)
    go (inr t) (inr c) r =
        let less : f < (got + length (body_of x)) / width mono = grind (arith, t.1, c) in
        rw (t.0, ends_past mono (got + length (body_of x)) xs f less, ends_past mono (got + length (body_of x)) ys f less) refl

-- Each pad ended, or has as many frames.
abbrev pub HasFrames : Mono → ℕ → List Item → Type 0
HasFrames mono n xs = (has is_eos xs ≡ true) ⊎ (n ≤ frames mono xs)

abbrev pub AllHave : Mono → ℕ → List (List Item) → Type 0
AllHave mono n [] = Unit {0}
AllHave mono n (xs ∷ xss) = HasFrames mono n xs × AllHave mono n xss

has_fewer : (mono : Mono) (n m : ℕ) (xs : List Item) → n ≤ m → HasFrames mono m xs → HasFrames mono n xs
has_fewer mono n m xs h (inl e) = inl e
has_fewer mono n m xs h (inr e) = inr (omega arith)

pub all_have_fewer : (mono : Mono) (n m : ℕ) (xss : List (List Item)) → n ≤ m → AllHave mono m xss → AllHave mono n xss
all_have_fewer mono n m [] h e = tt
all_have_fewer mono n m (xs ∷ xss) h e = (has_fewer mono n m xs h e.0, all_have_fewer mono n m xss h e.1)

has_more : (mono : Mono) (n : ℕ) {xs ys : List Item} → Goes xs ys → HasFrames mono n xs → HasFrames mono n ys
has_more mono n {xs} {ys} g (inl e) = inl (subst (λ zs. has is_eos zs ≡ true) (g.ends e) e)
has_more mono n g (inr e) = let more = frames_grow mono g.begins in inr (omega arith)

all_have_more : (mono : Mono) (n : ℕ) {xss yss : List (List Item)} → AllGo xss yss → AllHave mono n xss → AllHave mono n yss
all_have_more mono n no_pads h = tt
all_have_more mono n (one_pad g gs) h = (has_more mono n g h.0, all_have_more mono n gs h.1)

ends_same : (mono : Mono) (f : ℕ) {xs ys : List Item} → Goes xs ys → 0 < f → HasFrames mono f xs → ends_at mono 0 xs f ≡ ends_at mono 0 ys f
ends_same mono f g pos (inl e) = ap (λ zs. ends_at mono 0 zs f) (g.ends e)
ends_same mono f {xs} g pos (inr e) =
    let low = div-mul-le_self 0 (width mono) in
    let some = width_some mono in
    let none : 0 / width mono ≤ 0 = zero_over (width mono) some in
    ends_settled mono 0 f g.begins (omega (arith, none, pos)) (div_over e)
  where
    zero_over : (k : ℕ) → 0 < k → 0 / k ≤ 0
    zero_over k some = let low = div-mul-le_self 0 k in let h : 0 / k * 1 ≤ 0 / k * k = mul_low (0 / k) k some in omega (arith, low, h)
      where
        mul_low : (a k : ℕ) → 0 < k → a * 1 ≤ a * k
        mul_low a k some = let h : 1 * a ≤ k * a = mul-le-mul_right a some in omega (arith, h)

    div_over : f ≤ length (bytes_of xs) / width mono → f ≤ (0 + length (bytes_of xs)) / width mono
    div_over h = let e : 0 + length (bytes_of xs) ≡ length (bytes_of xs) = omega arith in rw e h

pub is_cut_settled : (mono : Mono) (f : ℕ) {xss yss : List (List Item)} → AllGo xss yss → 0 < f → AllHave mono f xss → is_cut mono xss f ≡ is_cut mono yss f
is_cut_settled mono f no_pads pos h = refl
is_cut_settled mono f (one_pad g gs) pos h = rw (ends_same mono f g pos h.0, is_cut_settled mono f gs pos h.1) refl

-- the frames of a pad are among its bytes
frame_settled : (mono : Mono) (f : ℕ) {xs ys : List Item} → Goes xs ys → HasFrames mono (suc f) xs → frame mono xs f ≡ frame mono ys f
frame_settled mono f g (inl e) = ap (λ zs. frame mono zs f) (g.ends e)
frame_settled mono f {xs} {ys} g (inr e) =
    let more = frames_grow mono g.begins in
    let below : ltb f (frames mono xs) ≡ true = lt-ltb f (frames mono xs) (omega arith) in
    let below' : ltb f (frames mono ys) ≡ true = lt-ltb f (frames mono ys) (omega arith) in
    let fit : frames mono xs * width mono ≤ length (bytes_of xs) = div-mul-le_self (length (bytes_of xs)) (width mono) in
    let many : suc f * width mono ≤ frames mono xs * width mono = mul-le-mul_right (width mono) e in
    rw (below, below') (take_prefix (width mono) (prefix_of_drop (f * width mono) (bytes_prefix g.begins)) (rw length-drop (omega arith)))

row_settled : (mono : Mono) (f : ℕ) {xss yss : List (List Item)} → AllGo xss yss → AllHave mono (suc f) xss
    → flat_map (λ xs. frame mono xs f) xss ≡ flat_map (λ xs. frame mono xs f) yss
row_settled mono f no_pads h = refl
row_settled mono f (one_pad g gs) h = rw (frame_settled mono f g h.0, row_settled mono f gs h.1) refl

rows_settled : (mono : Mono) (f n m : ℕ) {xss yss : List (List Item)} → AllGo xss yss → AllHave mono m xss → f + n ≤ m → rows mono xss f n ≡ rows mono yss f n
rows_settled mono f zero m g h le = refl
rows_settled mono f (suc n) m {xss} g h le =
    rw (row_settled mono f g (all_have_fewer mono (suc f) m xss (omega arith) h), rows_settled mono (suc f) n m g h (omega arith)) refl

pub mixed_settled : (mono : Mono) (last f n m : ℕ) {xss yss : List (List Item)} → AllGo xss yss → AllHave mono m xss → f + n ≤ m → last ≤ f → mixed mono xss last f n ≡ mixed mono yss last f n
mixed_settled mono last f zero m g h le low = refl
mixed_settled mono last f (suc n) m {xss} {yss} g h le low =
    let whole : last + (suc f - last) ≤ m = omega arith in
    rw (
      is_cut_settled mono (suc f) g (omega arith) (all_have_fewer mono (suc f) m xss (omega arith) h),
      rows_settled mono last (suc f - last) m g h whole,
      mixed_settled mono (suc f) (suc f) n m g h (omega arith) (omega arith),
      mixed_settled mono last (suc f) n m g h (omega arith) (omega arith),
    ) refl

pub mixed_grows : (mono : Mono) (xss : List (List Item)) (last f n m : ℕ) → n ≤ m → IsPrefix (mixed mono xss last f n) (mixed mono xss last f m)
mixed_grows mono xss last f zero m h = nothing
mixed_grows mono xss last f (suc n) zero h = absurd (omega arith)
mixed_grows mono xss last f (suc n) (suc m) h =
    prefix_if (is_cut mono xss (suc f)) (next (mixed_grows mono xss (suc f) (suc f) n m (omega arith))) (mixed_grows mono xss last (suc f) n m (omega arith))

-- what is at most what each open pad has
abbrev pub BelowOpen : ℕ → Option ℕ → Type 0
BelowOpen n None = Unit {0}
BelowOpen n (Some m) = n ≤ m

below_lesser : (n k : ℕ) (o : Option ℕ) → (n ≤ lesser k o) ↔ ((n ≤ k) × BelowOpen n o)
below_lesser n k None = (λ h. (h, tt), λ h. h.0)
below_lesser n k (Some m) = (λ h. (omega arith, omega arith), λ h. omega (arith, h.0, h.1))

have_of_below : (mono : Mono) (n : ℕ) (xss : List (List Item)) → BelowOpen n (open_limit mono xss) → AllHave mono n xss
have_of_below mono n [] h = tt
have_of_below mono n (xs ∷ xss) h = go (has is_eos xs) refl (have_of_below mono n xss) h
  where
    go : (b : Bool) → has is_eos xs ≡ b → (BelowOpen n (open_limit mono xss) → AllHave mono n xss)
        → BelowOpen n (if b then open_limit mono xss else Some (lesser (frames mono xs) (open_limit mono xss))) → HasFrames mono n xs × AllHave mono n xss
    go true e r h = (inl e, r h)
    go false e r h = let both = (below_lesser n (frames mono xs) (open_limit mono xss)).0 h in (inr both.0, r both.1)

pub below_of_have : (mono : Mono) (n : ℕ) (xss : List (List Item)) → AllHave mono n xss → BelowOpen n (open_limit mono xss)
below_of_have mono n [] h = tt
below_of_have mono n (xs ∷ xss) h = go (has is_eos xs) refl (below_of_have mono n xss h.1) h.0
  where
    go : (b : Bool) → has is_eos xs ≡ b → BelowOpen n (open_limit mono xss) → HasFrames mono n xs
        → BelowOpen n (if b then open_limit mono xss else Some (lesser (frames mono xs) (open_limit mono xss)))
    go true e r h = r
    go false e r (inl h) = cc
    go false e r (inr h) = (below_lesser n (frames mono xs) (open_limit mono xss)).1 (h, r)

pub limit_have : (mono : Mono) (xss : List (List Item)) → AllHave mono (limit mono xss) xss
limit_have mono xss = have_of_below mono (limit mono xss) xss (go (longest mono xss) (open_limit mono xss))
  where
    go : (n : ℕ) (o : Option ℕ) → BelowOpen (limit_by n o) o
    go n None = tt
    go n (Some m) = omega arith

longest_grows : (mono : Mono) {xss yss : List (List Item)} → AllGo xss yss → longest mono xss ≤ longest mono yss
longest_grows mono no_pads = omega arith
longest_grows mono (one_pad g gs) = let a = frames_grow mono g.begins in let b = longest_grows mono gs in omega arith

-- what each open pad has is at most the longest
abbrev AtMost : Option ℕ → ℕ → Type 0
AtMost None n = Unit {0}
AtMost (Some m) n = m ≤ n

open_below_longest : (mono : Mono) (xss : List (List Item)) → AtMost (open_limit mono xss) (longest mono xss)
open_below_longest mono [] = tt
open_below_longest mono (xs ∷ xss) = go (has is_eos xs) (open_limit mono xss) (open_below_longest mono xss)
  where
    go : (b : Bool) (o : Option ℕ) → AtMost o (longest mono xss) → AtMost (if b then o else Some (lesser (frames mono xs) o)) (max (frames mono xs) (longest mono xss))
    go true None h = tt
    go true (Some m) h = omega arith
    go false None h = omega arith
    go false (Some m) h = omega arith

pub limit_grows : (mono : Mono) {xss yss : List (List Item)} → AllGo xss yss → limit mono xss ≤ limit mono yss
limit_grows mono {xss} {yss} g =
    above (limit mono xss) (longest mono yss) (open_limit mono yss) (below_of_have mono (limit mono xss) yss (all_have_more mono (limit mono xss) g (limit_have mono xss)))
    (let a = longest_grows mono g in let b = low (longest mono xss) (open_limit mono xss) (open_below_longest mono xss) in omega arith)
  where
    above : (n l : ℕ) (o : Option ℕ) → BelowOpen n o → n ≤ l → n ≤ limit_by l o
    above n l None b h = h
    above n l (Some m) b h = b

    low : (n : ℕ) (o : Option ℕ) → AtMost o n → limit_by n o ≤ n
    low n None h = omega arith
    low n (Some m) h = h

pub mixed_prefix : (mono : Mono) {xss yss : List (List Item)} → AllGo xss yss → IsPrefix (mixed mono xss 0 0 (limit mono xss)) (mixed mono yss 0 0 (limit mono yss))
mixed_prefix mono {xss} {yss} g =
    rw (mixed_settled mono 0 0 (limit mono xss) (limit mono xss) g (limit_have mono xss) (omega arith) (omega arith))
    (mixed_grows mono yss 0 0 (limit mono xss) (limit mono yss) (limit_grows mono g))
