-- From a held magnitude to the code.
use Rattle.std.proofs.Common.{◌≡◌, ◌<◌, ℕ, ◌+◌, ◌-◌, ◌^◌, ℤ, pos, negsuc, min, ◌<ℤ◌, ◌≤ℤ◌, arith, bit_or, bit_xor, unsigned_abs, zero-add, refl, ap, sym, ◌∙◌, subst}
use Rattle.std.proofs.Math.Numerals.{add-one}
use Rattle.std.proofs.lemmas.Int.{ints}
use Rattle.std.proofs.lemmas.Nat.{or_shifted, xor_of_8}
use Rattle.std.specs.Int.Bits.{xor_assoc, xor_self, xor_zero_r}
use Rattle.audio_info.specs.Segments.{mulaw_segments, mulaw_magnitude, mulaw_code, alaw_segments, alaw_magnitude, alaw_inverted, alaw_code, interval_of, Holds, HoldsMuLaw, HoldsALaw}
use Rattle.audio_info.proofs.Intervals.{mulaw_finds, alaw_finds, interval_only}
use Rattle.audio_info.proofs.Lines.{mulaw_holds, alaw_holds}

-- ---- the mu-law

-- the sign bit of a sample, before the inversion
abbrev pub mulaw_sign : ℤ → ℕ
mulaw_sign (pos n) = 0
mulaw_sign (negsuc n) = 128

pub mulaw_sign-negative : (v : ℤ) → v <ℤ pos 0 → mulaw_sign v ≡ 128
mulaw_sign-negative (pos n) h = absurd (omega (arith, ints))
mulaw_sign-negative (negsuc n) h = refl

pub mulaw_sign-other : (v : ℤ) → pos 0 ≤ℤ v → mulaw_sign v ≡ 0
mulaw_sign-other (pos n) h = refl
mulaw_sign-other (negsuc n) h = absurd (omega (arith, ints))

-- the magnitude that the code computes
magnitude_is : (v : ℤ) → min (unsigned_abs v) 32635 + 132 ≡ mulaw_magnitude v
magnitude_is (pos n) = refl
magnitude_is (negsuc n) = rw add-one refl

mulaw_held : (v : ℤ) (m p : ℕ) → m ≡ min (unsigned_abs v) 32635 → p ≡ interval_of mulaw_segments (m + 132) → Holds mulaw_segments p (mulaw_magnitude v) × (p < 128)
mulaw_held v m p clipped found =
    let same : m + 132 ≡ mulaw_magnitude v = ap (λ k. k + 132) clipped ∙ magnitude_is v in
    let held = mulaw_holds (m + 132) (omega arith) (omega arith) in
    rw found (subst (λ (k : ℕ). Holds mulaw_segments (interval_of mulaw_segments (m + 132)) k) same held.0, held.1)

or_sign : (p : ℕ) → p < 128 → bit_or 128 p ≡ 128 + p
or_sign p h = or_shifted 1 7 p h

pub mulaw_coded : (v : ℤ) (s p : ℕ) → s ≡ mulaw_sign v → p < 128 → Holds mulaw_segments p (mulaw_magnitude v) → 255 - bit_or s p ≡ mulaw_code v
unfolding mulaw_code
mulaw_coded (pos n) s p e h held =
    let only = interval_only mulaw_segments mulaw_finds p (mulaw_magnitude (pos n)) h held in
    rw (e, only) refl
mulaw_coded (negsuc n) s p e h held =
    let only = interval_only mulaw_segments mulaw_finds p (mulaw_magnitude (negsuc n)) h held in
    rw (e, or_sign p h, only) (omega arith)

pub mulaw_holds_code : (v : ℤ) (s p : ℕ) → s ≡ mulaw_sign v → p < 128 → Holds mulaw_segments p (mulaw_magnitude v) → HoldsMuLaw (255 - bit_or s p) v
mulaw_holds_code (pos n) s p e h held =
    let back : 255 - (255 - p) ≡ p = omega arith in
    rw e (omega arith, rw back held)
mulaw_holds_code (negsuc n) s p e h held =
    let back : 127 - (255 - (128 + p)) ≡ p = omega arith in
    rw (e, or_sign p h) (omega arith, rw back held)

pub mulaw_only : (v : ℤ) (c : ℕ) → c < 256 → HoldsMuLaw c v → c ≡ mulaw_code v
unfolding mulaw_code
mulaw_only (pos n) c h held =
    let only = interval_only mulaw_segments mulaw_finds (255 - c) (mulaw_magnitude (pos n)) (omega arith) held.1 in
    rw only (omega arith)
mulaw_only (negsuc n) c h held =
    let only = interval_only mulaw_segments mulaw_finds (127 - c) (mulaw_magnitude (negsuc n)) (omega arith) held.1 in
    rw only (omega arith)

-- what the encoder owes, from what it computes
pub mulaw_encoded : (v : ℤ) (s m p : ℕ) → s ≡ mulaw_sign v → m ≡ min (unsigned_abs v) 32635 → p ≡ interval_of mulaw_segments (m + 132) → (255 - bit_or s p ≡ mulaw_code v) × HoldsMuLaw (255 - bit_or s p) v × ((c : ℕ) → c < 256 → HoldsMuLaw c v → c ≡ 255 - bit_or s p)
mulaw_encoded v s m p sign clipped found =
    let held = mulaw_held v m p clipped found in
    let code = mulaw_coded v s p sign held.1 held.0 in
    (code, mulaw_holds_code v s p sign held.1 held.0, λ c h holds. mulaw_only v c h holds ∙ sym code)

-- ---- the A-law

-- the sign bit of a sample
abbrev pub alaw_sign : ℤ → ℕ
alaw_sign (pos n) = 128
alaw_sign (negsuc n) = 0

pub alaw_sign-negative : (v : ℤ) → v <ℤ pos 0 → alaw_sign v ≡ 0
alaw_sign-negative (pos n) h = absurd (omega (arith, ints))
alaw_sign-negative (negsuc n) h = refl

pub alaw_sign-other : (v : ℤ) → pos 0 ≤ℤ v → alaw_sign v ≡ 128
alaw_sign-other (pos n) h = refl
alaw_sign-other (negsuc n) h = absurd (omega (arith, ints))

pub inverted_twice : (c : ℕ) → alaw_inverted (alaw_inverted c) ≡ c
unfolding alaw_inverted
inverted_twice c = xor_assoc c 85 85 ∙ ap (bit_xor c) (xor_self 85) ∙ xor_zero_r c

pub inverted-lt : (c : ℕ) → c < 256 → alaw_inverted c < 256
unfolding alaw_inverted
inverted-lt c h = xor_of_8 c 85 h (omega arith)

alaw_held : (v : ℤ) (m p : ℕ) → m ≡ alaw_magnitude v → m < 2 ^ 15 → p ≡ interval_of alaw_segments m → Holds alaw_segments p (alaw_magnitude v) × (p < 128)
alaw_held v m p folded fits found =
    let held = alaw_holds m (omega arith) in
    rw found (subst (λ (k : ℕ). Holds alaw_segments (interval_of alaw_segments m) k) folded held.0, held.1)

signed_code : (v : ℤ) (s p : ℕ) → s ≡ alaw_sign v → p < 128 → bit_xor (bit_or s p) 85 ≡ alaw_inverted (alaw_sign v + p)
unfolding alaw_inverted
signed_code (pos n) s p e h = rw (e, or_sign p h) refl
signed_code (negsuc n) s p e h = rw (e, zero-add p) refl

alaw_coded : (v : ℤ) (p : ℕ) → p < 128 → Holds alaw_segments p (alaw_magnitude v) → alaw_inverted (alaw_sign v + p) ≡ alaw_code v
unfolding alaw_code
alaw_coded (pos n) p h held = rw (interval_only alaw_segments alaw_finds p n h held) refl
alaw_coded (negsuc n) p h held = rw (interval_only alaw_segments alaw_finds p n h held, zero-add p) refl

alaw_holds_code : (v : ℤ) (p : ℕ) → p < 128 → Holds alaw_segments p (alaw_magnitude v) → HoldsALaw (alaw_inverted (alaw_sign v + p)) v
alaw_holds_code (pos n) p h held =
    let back : 128 + p - 128 ≡ p = omega arith in
    rw (inverted_twice (128 + p)) (omega arith, rw back held)
alaw_holds_code (negsuc n) p h held = rw (inverted_twice (0 + p), zero-add p) (h, held)

pub alaw_only : (v : ℤ) (c : ℕ) → c < 256 → HoldsALaw c v → c ≡ alaw_code v
unfolding alaw_code
alaw_only (pos n) c h held =
    let fits = inverted-lt c h in
    let only = interval_only alaw_segments alaw_finds (alaw_inverted c - 128) n (omega arith) held.1 in
    let whole : 128 + (alaw_inverted c - 128) ≡ alaw_inverted c = omega arith in
    rw (only, whole) (sym (inverted_twice c))
alaw_only (negsuc n) c h held =
    let only = interval_only alaw_segments alaw_finds (alaw_inverted c) n held.0 held.1 in
    rw only (sym (inverted_twice c))

-- what the encoder owes, from what it computes
pub alaw_encoded : (v : ℤ) (s m p : ℕ) → s ≡ alaw_sign v → m ≡ alaw_magnitude v → m < 2 ^ 15 → p ≡ interval_of alaw_segments m → (bit_xor (bit_or s p) 85 ≡ alaw_code v) × HoldsALaw (bit_xor (bit_or s p) 85) v × ((c : ℕ) → c < 256 → HoldsALaw c v → c ≡ bit_xor (bit_or s p) 85)
alaw_encoded v s m p sign folded fits found =
    let held = alaw_held v m p folded fits found in
    let signed = signed_code v s p sign held.1 in
    let code = signed ∙ alaw_coded v p held.1 held.0 in
    (code, rw signed (alaw_holds_code v p held.1 held.0), λ c h holds. alaw_only v c h holds ∙ sym code)
