-- A body whose format and channels stay is the same.
use Rattle.std.proofs.Common.{◌≡◌, ◌<◌, ◌≤◌, ◌-◌, ◌*◌, ◌/◌, ◌%◌, ◌^◌, ℕ, zero, suc, ℤ, pos, negsuc, ◌-ℤ◌, ◌+ℤ◌, ◌*ℤ◌, Bool, true, false, if◌then◌else◌, nat_lt, List, [], ◌∷◌, length, take, drop, slice_index, Some, refl, sym, ap, ◌∙◌, arith}
use Rattle.std.specs.List.{flat_map}
use Rattle.std.specs.Simd.{first_chunks}
use Rattle.std.specs.Prelude.{unsigned_abs}
use Rattle.std.proofs.lemmas.Bool.{le-ltb}
use Rattle.std.proofs.lemmas.Int.{ints}
use Rattle.std.proofs.lemmas.List.{length-take-le, length-drop, take-append-drop}
use Rattle.std.proofs.Math.Nat.{div-add-mod, mul_assoc, mul_comm, mul-mod_left}
use Rattle.std.proofs.lemmas.List.Folds.{flat_map-map}
use Rattle.byteorder.specs.Endian.{little_bytes, little_number, big_bytes, big_number, twos_complement}
use Rattle.audio_info.specs.Packing.{IsRaw, complement, sample_width, sample_value, sample_bytes}
use Rattle.audio_info.specs.declared.sample.Sample.{Sample}
use Rattle.audio_info.specs.declared.sample.Sample.TheVariants.{S8, U8, S16LE, S16BE, S24LE, S32LE, MuLaw, ALaw}
use Rattle.audio_info.specs.Media.{sample_of, channels_of}
use Rattle.gst_value.specs.Description.{Description}
use Rattle.gst_value.specs.declared.one.One.{One}
use Rattle.el_convert.specs.Bodies.{repacked, converted_bytes}
use Rattle.el_convert.specs.Converts.{frame_width}

-- ---- bytes

abbrev pub AreBytes : List ℕ → Type 0
AreBytes [] = Unit {0}
AreBytes (b ∷ bs) = (b < 256) × AreBytes bs

pub are_bytes : (bs : List ℕ) → ((i : ℕ) → slice_index bs i < 256) → AreBytes bs
are_bytes [] f = tt
are_bytes (b ∷ bs) f = (f 0, are_bytes bs (λ i. f (suc i)))

bytes_taken : (n : ℕ) (bs : List ℕ) → AreBytes bs → AreBytes (take n bs)
bytes_taken zero bs fits = tt
bytes_taken (suc n) [] fits = tt
bytes_taken (suc n) (b ∷ bs) fits = (fits.0, bytes_taken n bs fits.1)

bytes_left : (n : ℕ) (bs : List ℕ) → AreBytes bs → AreBytes (drop n bs)
bytes_left zero bs fits = fits
bytes_left (suc n) [] fits = tt
bytes_left (suc n) (b ∷ bs) fits = bytes_left n bs fits.1

-- ---- a sample and its bytes

-- the bits of a number that was read from as many bits
back : (n x : ℕ) → x < 2 ^ (8 * n) → complement n (twos_complement n x) ≡ x
back n x h = go (nat_lt x (2 ^ (8 * n - 1)))
  where
    go : (b : Bool) → complement n (if b then pos x else pos x -ℤ pos (2 ^ (8 * n))) ≡ x
    go true = refl
    go false =
        let e : pos x -ℤ pos (2 ^ (8 * n)) ≡ negsuc (2 ^ (8 * n) - x - 1) = omega (arith, ints, h) in
        rw e (omega (arith, h))

same_1 : (a a' : ℕ) → a ≡ a' → a ∷ [] ≡ a' ∷ []
same_1 a a' p = rw p refl

same_2 : (a a' b b' : ℕ) → a ≡ a' → b ≡ b' → a ∷ b ∷ [] ≡ a' ∷ b' ∷ []
same_2 a a' b b' p q = rw (p, q) refl

same_3 : (a a' b b' d d' : ℕ) → a ≡ a' → b ≡ b' → d ≡ d' → a ∷ b ∷ d ∷ [] ≡ a' ∷ b' ∷ d' ∷ []
same_3 a a' b b' d d' p q r = rw (p, q, r) refl

same_4 : (a a' b b' d d' e e' : ℕ) → a ≡ a' → b ≡ b' → d ≡ d' → e ≡ e' → a ∷ b ∷ d ∷ e ∷ [] ≡ a' ∷ b' ∷ d' ∷ e' ∷ []
same_4 a a' b b' d d' e e' p q r s = rw (p, q, r, s) refl

little_1 : (a : ℕ) → a < 256 → little_bytes 1 (little_number 1 (a ∷ [])) ≡ a ∷ []
little_1 a f = same_1 _ _ (omega (arith, f))

little_2 : (a b : ℕ) → a < 256 → b < 256 → little_bytes 2 (little_number 2 (a ∷ b ∷ [])) ≡ a ∷ b ∷ []
little_2 a b f g = same_2 _ _ _ _ (omega (arith, f, g)) (omega (arith, f, g))

big_2 : (a b : ℕ) → a < 256 → b < 256 → big_bytes 2 (big_number 2 (a ∷ b ∷ [])) ≡ a ∷ b ∷ []
big_2 a b f g = same_2 _ _ _ _ (omega (arith, f, g)) (omega (arith, f, g))

little_3 : (a b d : ℕ) → a < 256 → b < 256 → d < 256 → little_bytes 3 (little_number 3 (a ∷ b ∷ d ∷ [])) ≡ a ∷ b ∷ d ∷ []
little_3 a b d f g h = same_3 _ _ _ _ _ _ (omega (arith, f, g, h)) (omega (arith, f, g, h)) (omega (arith, f, g, h))

little_4 : (a b d e : ℕ) → a < 256 → b < 256 → d < 256 → e < 256 → little_bytes 4 (little_number 4 (a ∷ b ∷ d ∷ e ∷ [])) ≡ a ∷ b ∷ d ∷ e ∷ []
little_4 a b d e f g h i = same_4 _ _ _ _ _ _ _ _ (omega (arith, f, g, h, i)) (omega (arith, f, g, h, i)) (omega (arith, f, g, h, i)) (omega (arith, f, g, h, i))

unsigned_back : (a : ℕ) → unsigned_abs (pos a -ℤ pos 128 +ℤ pos 128) ≡ a
unsigned_back a = let e : pos a -ℤ pos 128 +ℤ pos 128 ≡ pos a = omega (arith, ints) in rw e refl

-- the bytes of a sample's value are the sample
packed_back : (f : Sample) (s : List ℕ) → IsRaw f → length s ≡ sample_width f → AreBytes s → sample_bytes f (sample_value f s) ≡ s
packed_back S8 (a ∷ []) raw e fits = rw (back 1 (little_number 1 (a ∷ [])) (omega (arith, fits.0))) (little_1 a fits.0)
packed_back U8 (a ∷ []) raw e fits = rw (unsigned_back (little_number 1 (a ∷ []))) (little_1 a fits.0)
packed_back S16LE (a ∷ b ∷ []) raw e fits = rw (back 2 (little_number 2 (a ∷ b ∷ [])) (omega (arith, fits.0, fits.1.0))) (little_2 a b fits.0 fits.1.0)
packed_back S16BE (a ∷ b ∷ []) raw e fits = rw (back 2 (big_number 2 (a ∷ b ∷ [])) (omega (arith, fits.0, fits.1.0))) (big_2 a b fits.0 fits.1.0)
packed_back S24LE (a ∷ b ∷ d ∷ []) raw e fits = rw (back 3 (little_number 3 (a ∷ b ∷ d ∷ [])) (omega (arith, fits.0, fits.1.0, fits.1.1.0))) (little_3 a b d fits.0 fits.1.0 fits.1.1.0)
packed_back S32LE (a ∷ b ∷ d ∷ g ∷ []) raw e fits =
    rw (back 4 (little_number 4 (a ∷ b ∷ d ∷ g ∷ [])) (omega (arith, fits.0, fits.1.0, fits.1.1.0, fits.1.1.1.0))) (little_4 a b d g fits.0 fits.1.0 fits.1.1.0 fits.1.1.1.0)
packed_back MuLaw s raw e fits = absurd (raw.0 refl)
packed_back ALaw s raw e fits = absurd (raw.1 refl)
packed_back S8 [] raw e fits = absurd (omega (arith, e))
packed_back S8 (a ∷ b ∷ s) raw e fits = absurd (omega (arith, e))
packed_back U8 [] raw e fits = absurd (omega (arith, e))
packed_back U8 (a ∷ b ∷ s) raw e fits = absurd (omega (arith, e))
packed_back S16LE [] raw e fits = absurd (omega (arith, e))
packed_back S16LE (a ∷ []) raw e fits = absurd (omega (arith, e))
packed_back S16LE (a ∷ b ∷ d ∷ s) raw e fits = absurd (omega (arith, e))
packed_back S16BE [] raw e fits = absurd (omega (arith, e))
packed_back S16BE (a ∷ []) raw e fits = absurd (omega (arith, e))
packed_back S16BE (a ∷ b ∷ d ∷ s) raw e fits = absurd (omega (arith, e))
packed_back S24LE [] raw e fits = absurd (omega (arith, e))
packed_back S24LE (a ∷ []) raw e fits = absurd (omega (arith, e))
packed_back S24LE (a ∷ b ∷ []) raw e fits = absurd (omega (arith, e))
packed_back S24LE (a ∷ b ∷ d ∷ g ∷ s) raw e fits = absurd (omega (arith, e))
packed_back S32LE [] raw e fits = absurd (omega (arith, e))
packed_back S32LE (a ∷ []) raw e fits = absurd (omega (arith, e))
packed_back S32LE (a ∷ b ∷ []) raw e fits = absurd (omega (arith, e))
packed_back S32LE (a ∷ b ∷ d ∷ []) raw e fits = absurd (omega (arith, e))
packed_back S32LE (a ∷ b ∷ d ∷ g ∷ h ∷ s) raw e fits = absurd (omega (arith, e))

-- ---- a body and its samples

times_one : (v : ℤ) → v *ℤ pos 1 ≡ v
times_one v = omega (arith, ints)

repacked_same : (f : Sample) (v : ℤ) → repacked f f v ≡ sample_bytes f v
repacked_same S8 v = ap (sample_bytes S8) (times_one v)
repacked_same U8 v = ap (sample_bytes U8) (times_one v)
repacked_same S16LE v = ap (sample_bytes S16LE) (times_one v)
repacked_same S16BE v = ap (sample_bytes S16BE) (times_one v)
repacked_same S24LE v = ap (sample_bytes S24LE) (times_one v)
repacked_same S32LE v = ap (sample_bytes S32LE) (times_one v)
repacked_same MuLaw v = ap (sample_bytes MuLaw) (times_one v)
repacked_same ALaw v = ap (sample_bytes ALaw) (times_one v)

pieces_same : (n : ℕ) (g : List ℕ → List ℕ) → ((s : List ℕ) → length s ≡ n → AreBytes s → g s ≡ s)
    → (k : ℕ) (bs : List ℕ) → length bs ≡ k * n → AreBytes bs → flat_map g (first_chunks n k bs) ≡ bs
pieces_same n g one zero [] e fits = refl
pieces_same n g one zero (b ∷ bs) e fits = absurd (omega (arith, e))
pieces_same n g one (suc k) bs e fits =
    let within : n ≤ length bs = omega (arith, e) in
    let left : length bs - n ≡ k * n = omega (arith, e) in
    rw (one (take n bs) (length-take-le n bs within) (bytes_taken n bs fits), pieces_same n g one k (drop n bs) (length-drop n bs ∙ left) (bytes_left n bs fits)) (take-append-drop n bs)

pub unchanged_whole : (f : Sample) (channels : ℕ) (bs : List ℕ) → IsRaw f → length bs % sample_width f ≡ 0 → AreBytes bs → converted_bytes f f channels channels bs ≡ bs
unfolding converted_bytes
unchanged_whole f channels bs raw whole fits =
    rw (le-ltb channels channels (omega arith))
    (flat_map-map (repacked f f) (sample_value f) (first_chunks (sample_width f) (length bs / sample_width f) bs)
    ∙ pieces_same (sample_width f) (λ s. repacked f f (sample_value f s)) (λ s e some. repacked_same f (sample_value f s) ∙ packed_back f s raw e some)
    (length bs / sample_width f) bs (count f whole) fits)
  where
    count : (f : Sample) → length bs % sample_width f ≡ 0 → length bs ≡ length bs / sample_width f * sample_width f
    count S8 h = omega (arith, h)
    count U8 h = omega (arith, h)
    count S16LE h = omega (arith, h)
    count S16BE h = omega (arith, h)
    count S24LE h = omega (arith, h)
    count S32LE h = omega (arith, h)
    count MuLaw h = omega (arith, h)
    count ALaw h = omega (arith, h)

-- the same for a body whose bytes are looked at
pub same_body : (f f' : Sample) (channels channels' : ℕ) (bytes body : List ℕ) → f ≡ f' → channels ≡ channels' → bytes ≡ body → IsRaw f → length body % sample_width f ≡ 0
    → (IsRaw f → length bytes % sample_width f ≡ 0 → converted_bytes f f channels channels bytes ≡ bytes)
    → body ≡ converted_bytes f f' channels channels' body
same_body f f' channels channels' bytes body format number is raw whole law = rw (← format, ← number, ← is) (sym (law raw (rw is whole)))

-- whole frames are whole samples
pub whole_samples : (n channels width : ℕ) → n % (channels * width) ≡ 0 → n % width ≡ 0
whole_samples n channels width h =
    let size = channels * width in
    let frames : n ≡ size * (n / size) = omega (arith, div-add-mod n size, h) in
    let samples : n ≡ n / size * channels * width = frames ∙ mul_comm size (n / size) ∙ sym (mul_assoc (n / size) channels width) in
    ap (λ k. k % width) samples ∙ mul-mod_left (n / size * channels) width

pub stream_samples : (offered : Description One) (format : Sample) (channels n : ℕ) → sample_of offered ≡ Some format → channels_of offered ≡ Some channels → n % frame_width offered ≡ 0 → n % sample_width format ≡ 0
stream_samples offered format channels n f k h =
    let frames : n % (channels * sample_width format) ≡ 0 = rw (f, k) at h in
    whole_samples n channels (sample_width format) frames
