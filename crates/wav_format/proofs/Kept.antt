-- Which further bytes of a `fmt ` body decide nothing, and which may decide.
use Rattle.std.proofs.Common.{◌≡◌, ℕ, zero, suc, ◌+◌, ◌-◌, ◌*◌, ◌/◌, ◌%◌, ◌<◌, ◌≤◌, ◌⊎◌, inl, inr, Bool, true, false, Option, Some, None, List, length, get_or, cond, ltb, ◌==◌, ◌&&◌, refl, sym, ap, ◌∙◌, arith}
use Rattle.std.proofs.lemmas.Bool.{cases_lt, eq-eqb, lt-ltb, le-ltb}
use Rattle.std.proofs.Math.Nat.{mul-le-mul_right}
use Rattle.byteorder.specs.Endian.{little_from}
use Rattle.wav_format.specs.Cuts.{body_length}
use Rattle.wav_format.specs.Format.{extensible}
use Rattle.wav_format.specs.Given.{Agrees, ByteAgrees, FormatAgrees, LimitsMayHold, MayBeCoded, RateMayFit, SomeCodingMayBe, channels_in}

-- what the next length is, by where the bytes end
abbrev pub Step : Bool → ℕ → Option ℕ → Type 0
Step extended k None = (16 ≤ k) × (extended ≡ true → 26 ≤ k)
Step extended k (Some m) =
    ((m ≡ k + 1) × (k < 4)) ⊎ (((m ≡ 7) × (4 ≤ k) × (k < 7)) ⊎ (((m ≡ 8) × (k ≡ 7)) ⊎ (((m ≡ 13) × (8 ≤ k) × (k < 12)) ⊎ (((m ≡ k + 1) × (12 ≤ k) × (k < 16))
    ⊎ (((extended ≡ true) × (m ≡ 25) × (16 ≤ k) × (k < 24)) ⊎ ((extended ≡ true) × (m ≡ k + 1) × (24 ≤ k) × (k < 26)))))))

late : (extended : Bool) (k : ℕ) → 16 ≤ k → Step extended k (cond (extended && ltb k 24) (Some 25) (cond (extended && ltb k 26) (Some (k + 1)) None))
late false k ge = (ge, λ e. absurd cc)
late true k ge =
    elim (cases_lt k 24) [
      | inl lt ↦ rw (lt-ltb k 24 lt) (inr (inr (inr (inr (inr (inl (refl, refl, ge, lt)))))))
      | inr ge24 ↦ rw (le-ltb k 24 ge24) (elim (cases_lt k 26) [
        | inl lt ↦ rw (lt-ltb k 26 lt) (inr (inr (inr (inr (inr (inr (refl, refl, ge24, lt)))))))
        | inr ge26 ↦ rw (le-ltb k 26 ge26) (ge, λ _. ge26)
      ])
    ]

pub step : (extended : Bool) (k : ℕ) → Step extended k (body_length extended k)
step extended k =
    elim (cases_lt k 4) [
      | inl lt ↦ rw (lt-ltb k 4 lt) (inl (refl, lt))
      | inr ge4 ↦ rw (le-ltb k 4 ge4) (elim (cases_lt k 7) [
        | inl lt ↦ rw (lt-ltb k 7 lt) (inr (inl (refl, ge4, lt)))
        | inr ge7 ↦ rw (le-ltb k 7 ge7) (elim (cases_lt k 8) [
          | inl lt ↦ rw (lt-ltb k 8 lt) (inr (inr (inl (refl, omega arith))))
          | inr ge8 ↦ rw (le-ltb k 8 ge8) (elim (cases_lt k 12) [
            | inl lt ↦ rw (lt-ltb k 12 lt) (inr (inr (inr (inl (refl, ge8, lt)))))
            | inr ge12 ↦ rw (le-ltb k 12 ge12) (elim (cases_lt k 16) [
              | inl lt ↦ rw (lt-ltb k 16 lt) (inr (inr (inr (inr (inl (refl, ge12, lt))))))
              | inr ge16 ↦ rw (le-ltb k 16 ge16) (late extended k ge16)
            ])
          ])
        ])
      ])
    ]

-- each place that decides is given in the shorter bytes, if it is in the longer ones
pub record Kept (given longer : List ℕ) : Type 0 where
  pub fits : length given ≤ length longer
  pub same : (i : ℕ) → i < length given → get_or longer i 0 ≡ get_or given i 0
  pub p0 : 0 < length longer → 0 < length given
  pub p1 : 1 < length longer → 1 < length given
  pub p2 : 2 < length longer → 2 < length given
  pub p3 : 3 < length longer → 3 < length given
  pub p6 : 6 < length longer → 6 < length given
  pub p7 : 7 < length longer → 7 < length given
  pub p12 : 12 < length longer → 12 < length given
  pub p13 : 13 < length longer → 13 < length given
  pub p14 : 14 < length longer → 14 < length given
  pub p15 : 15 < length longer → 15 < length given
  pub p24 : Agrees given 0 extensible → 24 < length longer → 24 < length given
  pub p25 : Agrees given 0 extensible → 25 < length longer → 25 < length given

module _ (given longer : List ℕ) (kept : Kept given longer) where
  byte_kept : (i byte : ℕ) → (i < length longer → i < length given) → ByteAgrees given i byte → ByteAgrees longer i byte
  byte_kept i byte there agrees h = kept.same i (there h) ∙ agrees (there h)

  channels_kept : channels_in longer ≡ channels_in given
  channels_kept =
      elim (cases_lt 2 (length given)) [
        | inl lt ↦
            let fits = kept.fits in
            let a : ltb 2 (length given) ≡ true = lt-ltb 2 (length given) lt in
            let b : ltb 2 (length longer) ≡ true = lt-ltb 2 (length longer) (omega (arith, fits, lt)) in
            rw (a, b) (kept.same 2 lt)
        | inr le ↦
            let a : ltb 2 (length given) ≡ false = le-ltb 2 (length given) le in
            let b : ltb 2 (length longer) ≡ false = le-ltb 2 (length longer) (elim (cases_lt 2 (length longer)) [ inl lt ↦ let h = kept.p2 lt in absurd (omega (arith, h, le)) | inr le' ↦ le' ]) in
            rw (a, b) refl
      ]

  rate_kept : RateMayFit given → RateMayFit longer
  rate_kept r =
      let number : 7 ≤ length longer → (7 ≤ length given) × (little_from 4 3 longer ≡ little_from 4 3 given) = λ h.
      let long = kept.p6 h in
      let a = kept.same 4 (omega arith) in
      let b = kept.same 5 (omega arith) in
      let c = kept.same 6 long in
      (long, omega (arith, a, b, c)) in
      record {
        some = λ h. let n = number h in let e = n.1 in let s = r.some n.0 in omega (arith, e, s);
        low = λ h. let n = number h in let e = n.1 in let s = r.low n.0 in omega (arith, e, s);
        top = byte_kept 7 0 kept.p7 r.top;
      }

  limits_kept : LimitsMayHold given → LimitsMayHold longer
  limits_kept l = record {
    some_channel = rw channels_kept l.some_channel;
    few_channels = rw channels_kept l.few_channels;
    top = byte_kept 3 0 kept.p3 l.top;
    rate = rate_kept l.rate;
  }

  coding_kept : (size tag width : ℕ) → MayBeCoded given size tag width → MayBeCoded longer size tag width
  coding_kept size tag width m = record {
    tagged = elim m.tagged [
      | inl a ↦ inl (byte_kept 0 (tag % 256) kept.p0 a.0, byte_kept 1 (tag / 256) kept.p1 a.1)
      | inr (wide, a, t) ↦ inr (wide, (byte_kept 0 (extensible % 256) kept.p0 a.0, byte_kept 1 (extensible / 256) kept.p1 a.1), (byte_kept 24 (tag % 256) (kept.p24 a) t.0, byte_kept 25 (tag / 256) (kept.p25 a) t.1))
    ];
    block = (byte_kept 12 (channels_in longer * width % 256) kept.p12 (λ h. rw channels_kept (m.block.0 h)), byte_kept 13 (channels_in longer * width / 256) kept.p13 (λ h. rw channels_kept (m.block.1 h)));
    bits = (byte_kept 14 (8 * width % 256) kept.p14 m.bits.0, byte_kept 15 (8 * width / 256) kept.p15 m.bits.1);
  }

  pub format_kept : (size : ℕ) → FormatAgrees given size → FormatAgrees longer size
  format_kept size f =
      let c = coding_kept size in
      record {
        long = f.long;
        limits = limits_kept f.limits;
        coding = elim f.coding [
          | inl m ↦ inl (c 1 1 m)
          | inr rest ↦ elim rest [
            | inl m ↦ inr (inl (c 1 2 m))
            | inr rest ↦ elim rest [
              | inl m ↦ inr (inr (inl (c 1 3 m)))
              | inr rest ↦ elim rest [
                | inl m ↦ inr (inr (inr (inl (c 1 4 m))))
                | inr rest ↦ elim rest [
                  | inl m ↦ inr (inr (inr (inr (inl (c 6 1 m)))))
                  | inr m ↦ inr (inr (inr (inr (inr (c 7 1 m)))))
                ]
              ]
            ]
          ]
        ];
      }

-- ---- shorter bytes that keep what decides

module _ (given longer : List ℕ) (fits : length given ≤ length longer) (same : (i : ℕ) → i < length given → get_or longer i 0 ≡ get_or given i 0) where
  kept_equal : length longer ≤ length given → Kept given longer
  kept_equal le = record {
    fits = fits;
    same = same;
    p0 = λ h. omega arith;
    p1 = λ h. omega arith;
    p2 = λ h. omega arith;
    p3 = λ h. omega arith;
    p6 = λ h. omega arith;
    p7 = λ h. omega arith;
    p12 = λ h. omega arith;
    p13 = λ h. omega arith;
    p14 = λ h. omega arith;
    p15 = λ h. omega arith;
    p24 = λ a h. omega arith;
    p25 = λ a h. omega arith;
  }

  kept_rate : 4 ≤ length given → length longer ≤ 6 → Kept given longer
  kept_rate ge le = record {
    fits = fits;
    same = same;
    p0 = λ h. omega arith;
    p1 = λ h. omega arith;
    p2 = λ h. omega arith;
    p3 = λ h. omega arith;
    p6 = λ h. omega arith;
    p7 = λ h. omega arith;
    p12 = λ h. omega arith;
    p13 = λ h. omega arith;
    p14 = λ h. omega arith;
    p15 = λ h. omega arith;
    p24 = λ a h. omega arith;
    p25 = λ a h. omega arith;
  }

  kept_block : 8 ≤ length given → length longer ≤ 12 → Kept given longer
  kept_block ge le = record {
    fits = fits;
    same = same;
    p0 = λ h. omega arith;
    p1 = λ h. omega arith;
    p2 = λ h. omega arith;
    p3 = λ h. omega arith;
    p6 = λ h. omega arith;
    p7 = λ h. omega arith;
    p12 = λ h. omega arith;
    p13 = λ h. omega arith;
    p14 = λ h. omega arith;
    p15 = λ h. omega arith;
    p24 = λ a h. omega arith;
    p25 = λ a h. omega arith;
  }

  kept_true : 16 ≤ length given → length longer ≤ 24 → Kept given longer
  kept_true ge le = record {
    fits = fits;
    same = same;
    p0 = λ h. omega arith;
    p1 = λ h. omega arith;
    p2 = λ h. omega arith;
    p3 = λ h. omega arith;
    p6 = λ h. omega arith;
    p7 = λ h. omega arith;
    p12 = λ h. omega arith;
    p13 = λ h. omega arith;
    p14 = λ h. omega arith;
    p15 = λ h. omega arith;
    p24 = λ a h. omega arith;
    p25 = λ a h. omega arith;
  }

  -- all that decides is there
  pub kept_all : Step (little_from 0 2 given == extensible) (length given) None → Kept given longer
  kept_all (ge, true_there) =
      let wide : Agrees given 0 extensible → 26 ≤ length given = λ a.
      let low = a.0 (omega arith) in
      let high = a.1 (omega arith) in
      true_there (eq-eqb (little_from 0 2 given) extensible (omega (arith, low, high))) in
      record {
        fits = fits;
        same = same;
        p0 = λ h. omega arith;
        p1 = λ h. omega arith;
        p2 = λ h. omega arith;
        p3 = λ h. omega arith;
        p6 = λ h. omega arith;
        p7 = λ h. omega arith;
        p12 = λ h. omega arith;
        p13 = λ h. omega arith;
        p14 = λ h. omega arith;
        p15 = λ h. omega arith;
        p24 = λ a h. let w = wide a in omega (arith, w);
        p25 = λ a h. let w = wide a in omega (arith, w);
      }

  -- the next byte that decides is not there
  pub kept_some : (m : ℕ) → Step (little_from 0 2 given == extensible) (length given) (Some m) → length longer < m → Kept given longer
  kept_some m (inl (e, lt)) short = kept_equal (omega (arith, e, short))
  kept_some m (inr (inl (e, ge, lt))) short = kept_rate ge (omega (arith, e, short))
  kept_some m (inr (inr (inl (e, k)))) short = kept_equal (omega (arith, e, k, short))
  kept_some m (inr (inr (inr (inl (e, ge, lt))))) short = kept_block ge (omega (arith, e, short))
  kept_some m (inr (inr (inr (inr (inl (e, ge, lt)))))) short = kept_equal (omega (arith, e, short))
  kept_some m (inr (inr (inr (inr (inr (inl (x, e, ge, lt))))))) short = kept_true ge (omega (arith, e, short))
  kept_some m (inr (inr (inr (inr (inr (inr (x, e, ge, lt))))))) short = kept_equal (omega (arith, e, short))

-- ---- a byte that no format has at a place that decides

-- 253 is the low byte of no block align
not_block : (channels width : ℕ) → channels ≤ 64 → width ≤ 4 → (channels * width) % 256 ≡ 253 → ⊥
not_block channels zero few narrow e = omega (arith, e)
not_block channels (suc zero) few narrow e = let one : channels * 1 ≡ channels = omega arith in omega (arith, e, one)
not_block channels (suc (suc zero)) few narrow e = let two : channels * 2 ≡ 2 * channels = omega arith in omega (arith, e, two)
not_block channels (suc (suc (suc zero))) few narrow e = let three : channels * 3 ≡ 3 * channels = omega arith in omega (arith, e, three)
not_block channels (suc (suc (suc (suc zero)))) few narrow e = let four : channels * 4 ≡ 4 * channels = omega arith in omega (arith, e, four)
not_block channels (suc (suc (suc (suc (suc n))))) few narrow e = omega (arith, narrow)

-- none of the codings, if none with its numbers
pub no_coding : (bytes : List ℕ) (size : ℕ) → ((tag width : ℕ) → tag ≤ 7 → width ≤ 4 → MayBeCoded bytes size tag width → ⊥) → SomeCodingMayBe bytes size → ⊥
no_coding bytes size none (inl m) = none 1 1 (omega arith) (omega arith) m
no_coding bytes size none (inr (inl m)) = none 1 2 (omega arith) (omega arith) m
no_coding bytes size none (inr (inr (inl m))) = none 1 3 (omega arith) (omega arith) m
no_coding bytes size none (inr (inr (inr (inl m)))) = none 1 4 (omega arith) (omega arith) m
no_coding bytes size none (inr (inr (inr (inr (inl m))))) = none 6 1 (omega arith) (omega arith) m
no_coding bytes size none (inr (inr (inr (inr (inr m))))) = none 7 1 (omega arith) (omega arith) m

module _ (bytes : List ℕ) (size : ℕ) (f : FormatAgrees bytes size) where
  wrong0 : 0 < length bytes → get_or bytes 0 0 ≡ 253 → ⊥
  wrong0 there e = no_coding bytes size (λ tag width low narrow m. elim m.tagged [
    | inl a ↦ let x = a.0 there in omega (arith, e, x, low)
    | inr (wide, a, t) ↦ let x = a.0 there in omega (arith, e, x)
  ]) f.coding

  wrong1 : 1 < length bytes → get_or bytes 1 0 ≡ 253 → ⊥
  wrong1 there e = no_coding bytes size (λ tag width low narrow m. elim m.tagged [
    | inl a ↦ let x = a.1 there in omega (arith, e, x, low)
    | inr (wide, a, t) ↦ let x = a.1 there in omega (arith, e, x)
  ]) f.coding

  wrong2 : 2 < length bytes → get_or bytes 2 0 ≡ 253 → ⊥
  wrong2 there e =
      let known : ltb 2 (length bytes) ≡ true = lt-ltb 2 (length bytes) there in
      let same : channels_in bytes ≡ get_or bytes 2 0 = rw known refl in
      let few = f.limits.few_channels in
      omega (arith, same, few, e)

  wrong3 : 3 < length bytes → get_or bytes 3 0 ≡ 253 → ⊥
  wrong3 there e = let top = f.limits.top there in omega (arith, top, e)

  wrong6 : 6 < length bytes → get_or bytes 6 0 ≡ 253 → ⊥
  wrong6 there e = let low = f.limits.rate.low there in omega (arith, low, e)

  wrong7 : 7 < length bytes → get_or bytes 7 0 ≡ 253 → ⊥
  wrong7 there e = let top = f.limits.rate.top there in omega (arith, top, e)

  wrong12 : 12 < length bytes → get_or bytes 12 0 ≡ 253 → ⊥
  wrong12 there e = no_coding bytes size (λ tag width low narrow m. not_block (channels_in bytes) width f.limits.few_channels narrow (sym (m.block.0 there) ∙ e)) f.coding

  wrong13 : 13 < length bytes → get_or bytes 13 0 ≡ 253 → ⊥
  wrong13 there e = no_coding bytes size (λ tag width low narrow m.
      let x = m.block.1 there in
      let few : channels_in bytes * width ≤ 64 * width = mul-le-mul_right width f.limits.few_channels in
      omega (arith, e, x, few, narrow)) f.coding

  wrong14 : 14 < length bytes → get_or bytes 14 0 ≡ 253 → ⊥
  wrong14 there e = no_coding bytes size (λ tag width low narrow m. let x = m.bits.0 there in omega (arith, e, x, narrow)) f.coding

  wrong15 : 15 < length bytes → get_or bytes 15 0 ≡ 253 → ⊥
  wrong15 there e = no_coding bytes size (λ tag width low narrow m. let x = m.bits.1 there in omega (arith, e, x, narrow)) f.coding

  wrong24 : get_or bytes 0 0 ≡ 254 → 24 < length bytes → get_or bytes 24 0 ≡ 253 → ⊥
  wrong24 wide there e = no_coding bytes size (λ tag width low narrow m. elim m.tagged [
    | inl a ↦ let x = a.0 (omega arith) in omega (arith, wide, x, low)
    | inr (far, a, t) ↦ let x = t.0 there in omega (arith, e, x, low)
  ]) f.coding

  wrong25 : get_or bytes 0 0 ≡ 254 → 25 < length bytes → get_or bytes 25 0 ≡ 253 → ⊥
  wrong25 wide there e = no_coding bytes size (λ tag width low narrow m. elim m.tagged [
    | inl a ↦ let x = a.0 (omega arith) in omega (arith, wide, x, low)
    | inr (far, a, t) ↦ let x = t.1 there in omega (arith, e, x, low)
  ]) f.coding

  -- at the place that the bytes so far ask for
  pub wrong_next : (extended : Bool) (k m : ℕ) → Step extended k (Some m) → length bytes ≡ m → (extended ≡ true → get_or bytes 0 0 ≡ 254) → get_or bytes (m - 1) 0 ≡ 253 → ⊥
  wrong_next extended k m (inl (e, lt)) long wide is =
      elim (cases_lt k 1) [
        | inl a ↦ wrong0 (omega (arith, e, long)) (ap (λ i. get_or bytes i 0) (let x : 0 ≡ m - 1 = omega (arith, e) in x) ∙ is)
        | inr a ↦ elim (cases_lt k 2) [
          | inl b ↦ wrong1 (omega (arith, e, long)) (ap (λ i. get_or bytes i 0) (let x : 1 ≡ m - 1 = omega (arith, e) in x) ∙ is)
          | inr b ↦ elim (cases_lt k 3) [
            | inl d ↦ wrong2 (omega (arith, e, long)) (ap (λ i. get_or bytes i 0) (let x : 2 ≡ m - 1 = omega (arith, e) in x) ∙ is)
            | inr d ↦ wrong3 (omega (arith, e, long)) (ap (λ i. get_or bytes i 0) (let x : 3 ≡ m - 1 = omega (arith, e) in x) ∙ is)
          ]
        ]
      ]
  wrong_next extended k m (inr (inl (e, ge, lt))) long wide is = wrong6 (omega (arith, e, long)) (ap (λ i. get_or bytes i 0) (let x : 6 ≡ m - 1 = omega (arith, e) in x) ∙ is)
  wrong_next extended k m (inr (inr (inl (e, a)))) long wide is = wrong7 (omega (arith, e, long)) (ap (λ i. get_or bytes i 0) (let x : 7 ≡ m - 1 = omega (arith, e) in x) ∙ is)
  wrong_next extended k m (inr (inr (inr (inl (e, ge, lt))))) long wide is = wrong12 (omega (arith, e, long)) (ap (λ i. get_or bytes i 0) (let x : 12 ≡ m - 1 = omega (arith, e) in x) ∙ is)
  wrong_next extended k m (inr (inr (inr (inr (inl (e, ge, lt)))))) long wide is =
      elim (cases_lt k 13) [
        | inl a ↦ wrong12 (omega (arith, e, long)) (ap (λ i. get_or bytes i 0) (let x : 12 ≡ m - 1 = omega (arith, e) in x) ∙ is)
        | inr a ↦ elim (cases_lt k 14) [
          | inl b ↦ wrong13 (omega (arith, e, long)) (ap (λ i. get_or bytes i 0) (let x : 13 ≡ m - 1 = omega (arith, e) in x) ∙ is)
          | inr b ↦ elim (cases_lt k 15) [
            | inl d ↦ wrong14 (omega (arith, e, long)) (ap (λ i. get_or bytes i 0) (let x : 14 ≡ m - 1 = omega (arith, e) in x) ∙ is)
            | inr d ↦ wrong15 (omega (arith, e, long)) (ap (λ i. get_or bytes i 0) (let x : 15 ≡ m - 1 = omega (arith, e) in x) ∙ is)
          ]
        ]
      ]
  wrong_next extended k m (inr (inr (inr (inr (inr (inl (x, e, ge, lt))))))) long wide is = wrong24 (wide x) (omega (arith, e, long)) (ap (λ i. get_or bytes i 0) (let y : 24 ≡ m - 1 = omega (arith, e) in y) ∙ is)
  wrong_next extended k m (inr (inr (inr (inr (inr (inr (x, e, ge, lt))))))) long wide is =
      elim (cases_lt k 25) [
        | inl a ↦ wrong24 (wide x) (omega (arith, e, long)) (ap (λ i. get_or bytes i 0) (let y : 24 ≡ m - 1 = omega (arith, e) in y) ∙ is)
        | inr a ↦ wrong25 (wide x) (omega (arith, e, long)) (ap (λ i. get_or bytes i 0) (let y : 25 ≡ m - 1 = omega (arith, e) in y) ∙ is)
      ]
