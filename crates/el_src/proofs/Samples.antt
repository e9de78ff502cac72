-- The bytes of frames, one frame at a time.
use Rattle.std.proofs.Common.{◌≡◌, ◌<◌, ◌≤◌, ◌+◌, ◌-◌, ◌%◌, ◌^◌, ℕ, zero, suc, Bool, true, false, if◌then◌else◌, List, [], ◌∷◌, ◌++◌, refl, sym, ap, ◌∙◌, arith, append_assoc, append-nil, add-one}
use Rattle.std.specs.Prelude.{pos, negsuc, ◌-ℤ◌, nat_lt}
use Rattle.std.specs.List.{repeat, flat_map, range_with_len}
use Rattle.std.proofs.lemmas.List.Concat.{flat_map-append}
use Rattle.std.proofs.lemmas.Int.{ints}
use Rattle.byteorder.specs.Endian.{twos_complement}
use Rattle.byteorder.specs.Endian.{little_bytes}
use Rattle.audio_info.specs.Packing.{complement, sample_bytes}
use Rattle.audio_info.specs.declared.sample.Sample.TheVariants.{S16LE}
use Rattle.el_src.specs.Ramp.{frame_sample, frame_bytes, frames_bytes}

by_half : (n : ℕ) (b : Bool) → n < 2 ^ 16 → nat_lt n (2 ^ 15) ≡ b → complement 2 (if b then pos n else pos n -ℤ pos (2 ^ 16)) ≡ n
by_half n true small e = refl
by_half n false small e =
    let v : pos n -ℤ pos (2 ^ 16) ≡ negsuc (2 ^ 16 - suc n) = omega (arith, ints) in
    ap (complement 2) v ∙ omega arith

-- the bits of a number of two bytes that is read as two's complement
pub bits_back : (n : ℕ) → n < 2 ^ 16 → complement 2 (twos_complement 2 n) ≡ n
bits_back n small = by_half n (nat_lt n (2 ^ 15)) small refl

-- a list once more
repeat_next : (n : ℕ) (xs : List ℕ) → repeat (suc n) xs ≡ repeat n xs ++ xs
repeat_next zero xs = append-nil xs
repeat_next (suc n) xs = ap (λ ys. xs ++ ys) (repeat_next n xs) ∙ sym (append_assoc xs (repeat n xs) xs)

pub repeat_more : (n : ℕ) (xs : List ℕ) → repeat (n + 1) xs ≡ repeat n xs ++ xs
repeat_more n xs = ap (λ m. repeat m xs) (add-one n) ∙ repeat_next n xs

-- the bytes of a frame's sample are the low bytes of its number
pub sample_is : (frame : ℕ) → sample_bytes S16LE (frame_sample frame) ≡ little_bytes 2 (frame % 65536)
sample_is frame = let small : frame % 65536 < 2 ^ 16 = omega arith in ap (little_bytes 2) (bits_back (frame % 65536) small)

range_more : (a n : ℕ) → range_with_len a (suc n) ≡ range_with_len a n ++ (a + n) ∷ []
range_more a zero = let e : a ≡ a + 0 = omega arith in ap (λ x. x ∷ []) e
range_more a (suc n) =
    let e : a + 1 + n ≡ a + suc n = omega arith in
    ap (λ xs. a ∷ xs) (range_more (a + 1) n) ∙ ap (λ x. a ∷ (range_with_len (a + 1) n ++ x ∷ [])) e

-- the frames up to one, and that one
pub frames_more : (channels first frame : ℕ) → first ≤ frame → frames_bytes channels first (frame + 1 - first) ≡ frames_bytes channels first (frame - first) ++ frame_bytes channels frame
frames_more channels first frame order =
    let count : frame + 1 - first ≡ suc (frame - first) = omega arith in
    let last : first + (frame - first) ≡ frame = omega arith in
    ap (λ n. frames_bytes channels first n) count
    ∙ ap (flat_map (frame_bytes channels)) (range_more first (frame - first))
    ∙ flat_map-append (frame_bytes channels) (range_with_len first (frame - first)) ((first + (frame - first)) ∷ [])
    ∙ ap (λ xs. frames_bytes channels first (frame - first) ++ xs) (append-nil (frame_bytes channels (first + (frame - first))) ∙ ap (frame_bytes channels) last)
