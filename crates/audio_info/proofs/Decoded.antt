-- From a code to its sample, and back.
use Rattle.std.proofs.Common.{◌≡◌, ◌≢◌, ◌<◌, ◌≤◌, ℕ, zero, suc, ◌+◌, ◌-◌, ◌*◌, ◌/◌, ◌%◌, ◌^◌, pos, neg_ℤ, min, true, false, nat_le, nat_lt, not, if◌then◌else◌, arith, inl, inr, refl, ap, sym, ◌∙◌}
use Rattle.std.proofs.lemmas.Bool.{cases_lt}
use Rattle.std.proofs.lemmas.Bool.Decides.{nat_tests}
use Rattle.std.proofs.Math.Numerals.{add-one}
use Rattle.audio_info.specs.Segments.{mulaw_segments, mulaw_code, mulaw_value, alaw_segments, alaw_inverted, alaw_code, alaw_value, middle_of, Holds, HoldsMuLaw, HoldsALaw}
use Rattle.audio_info.proofs.Intervals.{mulaw_middle_is, mulaw_wide, alaw_wide, holds_middle}
use Rattle.audio_info.proofs.Codes.{mulaw_only, alaw_only, inverted-lt}

-- what the decoder computes of the bits of a code
pub mulaw_decoded : (u : ℕ) → u < 256 → (if nat_le 128 (255 - u) then neg_ℤ (pos (middle_of mulaw_segments ((255 - u) / 16 % 8 * 16 + (255 - u) % 16) - 132)) else pos (middle_of mulaw_segments ((255 - u) / 16 % 8 * 16 + (255 - u) % 16) - 132)) ≡ mulaw_value u
unfolding mulaw_value
mulaw_decoded u h = elim (cases_lt u 128) [
  | inl low ↦ (let t : nat_le 128 (255 - u) ≡ true = grind (arith, nat_tests) in
      let s : nat_lt u 128 ≡ true = grind (arith, nat_tests) in
      let i : (255 - u) / 16 % 8 * 16 + (255 - u) % 16 ≡ 127 - u = omega arith in
      rw (t, s, i) refl)
  | inr high ↦ (let t : nat_le 128 (255 - u) ≡ false = grind (arith, nat_tests) in
      let s : nat_lt u 128 ≡ false = grind (arith, nat_tests) in
      let i : (255 - u) / 16 % 8 * 16 + (255 - u) % 16 ≡ 255 - u = omega arith in
      rw (t, s, i) refl)
]

pub alaw_decoded : (a : ℕ) → a < 256 → (if not (nat_le 128 (alaw_inverted a)) then neg_ℤ (pos (middle_of alaw_segments (alaw_inverted a / 16 % 8 * 16 + alaw_inverted a % 16))) else pos (middle_of alaw_segments (alaw_inverted a / 16 % 8 * 16 + alaw_inverted a % 16))) ≡ alaw_value a
unfolding alaw_value
alaw_decoded a h =
    let fits = inverted-lt a h in
    elim (cases_lt (alaw_inverted a) 128) [
      | inl low ↦ (let t : nat_le 128 (alaw_inverted a) ≡ false = grind (arith, nat_tests) in
          let s : nat_lt (alaw_inverted a) 128 ≡ true = grind (arith, nat_tests) in
          let i : alaw_inverted a / 16 % 8 * 16 + alaw_inverted a % 16 ≡ alaw_inverted a = omega arith in
          rw (t, s, i) refl)
      | inr high ↦ (let t : nat_le 128 (alaw_inverted a) ≡ true = grind (arith, nat_tests) in
          let s : nat_lt (alaw_inverted a) 128 ≡ false = grind (arith, nat_tests) in
          let i : alaw_inverted a / 16 % 8 * 16 + alaw_inverted a % 16 ≡ alaw_inverted a - 128 = omega arith in
          rw (t, s, i) refl)
    ]

-- ---- the code of a code's sample

-- the bounds of a middle
bounded : (i : ℕ) → i < 128 → (132 + i ≤ middle_of mulaw_segments i) × (middle_of mulaw_segments i ≤ 32256)
bounded i h =
    let is = mulaw_middle_is (i / 16) (i % 16) (omega arith) (omega arith) in
    let whole : i / 16 * 16 + i % 16 ≡ i = omega arith in
    let m : (i % 16 * 8 + 132) * 2 ^ (i / 16) ≡ middle_of mulaw_segments i = is.0 ∙ ap (middle_of mulaw_segments) whole in
    (omega (arith, m, is.1, is.2), omega (arith, m, is.1, is.2))

mulaw_below : (u k : ℕ) → u < 128 → 0 < k → Holds mulaw_segments (127 - u) (min k 32635 + 132) → HoldsMuLaw u (neg_ℤ (pos k))
mulaw_below u zero h some held = absurd (omega arith)
mulaw_below u (suc k) h some held = (h, rw add-one held)

mulaw_held_value : (u : ℕ) → u < 256 → u ≢ 127 → HoldsMuLaw u (mulaw_value u)
unfolding mulaw_value
mulaw_held_value u h other = elim (cases_lt u 128) [
  | inl low ↦ (let s : nat_lt u 128 ≡ true = grind (arith, nat_tests) in
      let b = bounded (127 - u) (omega arith) in
      let wide = mulaw_wide (127 - u) (omega arith) in
      let m : min (middle_of mulaw_segments (127 - u) - 132) 32635 + 132 ≡ middle_of mulaw_segments (127 - u) = omega (arith, b.0, b.1) in
      rw s (mulaw_below u (middle_of mulaw_segments (127 - u) - 132) low (omega (arith, b.0, other)) (rw m (holds_middle mulaw_segments (127 - u) (omega arith)))))
  | inr high ↦ (let s : nat_lt u 128 ≡ false = grind (arith, nat_tests) in
      let b = bounded (255 - u) (omega arith) in
      let wide = mulaw_wide (255 - u) (omega arith) in
      let m : min (middle_of mulaw_segments (255 - u) - 132) 32635 + 132 ≡ middle_of mulaw_segments (255 - u) = omega (arith, b.0, b.1) in
      rw (s, m) (high, holds_middle mulaw_segments (255 - u) (omega arith)))
]

pub mulaw_back : (u : ℕ) → u < 256 → u ≢ 127 → mulaw_code (mulaw_value u) ≡ u
mulaw_back u h other = sym (mulaw_only (mulaw_value u) u h (mulaw_held_value u h other))

alaw_below : (a k : ℕ) → alaw_inverted a < 128 → 0 < k → Holds alaw_segments (alaw_inverted a) (k - 1) → HoldsALaw a (neg_ℤ (pos k))
alaw_below a zero h some held = absurd (omega arith)
alaw_below a (suc k) h some held =
    let same : suc k - 1 ≡ k = omega arith in
    (h, rw same at held)

-- an interval of two magnitudes or more holds the one below its middle
below_middle : (i : ℕ) → i < 128 → Holds alaw_segments i (middle_of alaw_segments i - 1) × (0 < middle_of alaw_segments i)
unfolding middle_of
below_middle i h =
    let wide = alaw_wide i h in
    (record { low = omega arith; high = omega arith }, omega arith)

alaw_held_value : (a : ℕ) → a < 256 → HoldsALaw a (alaw_value a)
unfolding alaw_value
alaw_held_value a h = elim (cases_lt (alaw_inverted a) 128) [
  | inl low ↦ (let s : nat_lt (alaw_inverted a) 128 ≡ true = grind (arith, nat_tests) in
      let b = below_middle (alaw_inverted a) low in
      rw s (alaw_below a (middle_of alaw_segments (alaw_inverted a)) low b.1 b.0))
  | inr high ↦ (let s : nat_lt (alaw_inverted a) 128 ≡ false = grind (arith, nat_tests) in
      let fits = inverted-lt a h in
      let wide = alaw_wide (alaw_inverted a - 128) (omega arith) in
      rw s (high, holds_middle alaw_segments (alaw_inverted a - 128) (omega arith)))
]

pub alaw_back : (a : ℕ) → a < 256 → alaw_code (alaw_value a) ≡ a
alaw_back a h = sym (alaw_only (alaw_value a) a h (alaw_held_value a h))
