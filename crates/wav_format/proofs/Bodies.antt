-- Which bodies the first bytes leave open.
use Rattle.std.proofs.Common.{◌≡◌, ℕ, zero, suc, ◌+◌, ◌-◌, ◌*◌, ◌/◌, ◌%◌, ◌<◌, ◌≤◌, inl, inr, true, List, [], ◌∷◌, ◌++◌, length, take, drop, replicate, get_or, refl, sym, ap, subst, ◌∙◌, arith, ltb}
use Rattle.std.proofs.lemmas.List.{take_at, get_or-take, get_or-drop, get_or_append_left, get_or-append_right, length-append, length-drop, length-take, length-replicate, get_or_past}
use Rattle.std.proofs.lemmas.Bool.{cases_lt, lt-ltb}
use Rattle.std.proofs.Math.Nat.{div-add-mod, mul-mod_right, mul-div_cancel_left}
use Rattle.byteorder.specs.Endian.{little_from}
use Rattle.wav_format.specs.Format.{AreBytes, Completes}
use Rattle.wav_format.specs.Given.{Agrees, BitsMayFit, BlockMayFit, ByteAgrees, LimitsMayHold, RateMayFit, channels_in}

-- a frame of whole samples
pub whole_bits : (frame channels : ℕ) → frame % channels ≡ 0 → frame ≡ channels * (frame / channels)
whole_bits frame channels h = let e = div-add-mod frame channels in omega (arith, e)

pub one_bits : (frame channels bits : ℕ) → 1 ≤ channels → frame ≡ channels * bits → (frame % channels ≡ 0) × (frame / channels ≡ bits)
one_bits frame channels bits some e =
    (ap (λ x. x % channels) e ∙ mul-mod_right channels bits, ap (λ x. x / channels) e ∙ mul-div_cancel_left bits some)

-- the bits that go with a block align, or that none do
module _ (given : List ℕ) (align a channels : ℕ) (same : a ≡ align) (are : channels ≡ channels_in given) (some : 1 ≤ channels_in given) where
  multiple : BitsMayFit given align → (bits : ℕ) × (bits < 65536) × (8 * a ≡ channels * bits) × Agrees given 14 bits
  multiple (bits, small, e, agrees) = (bits, small, rw (same, are) e, agrees)

  parts : (bits : ℕ) → 8 * a ≡ channels * bits → (8 * a % channels ≡ 0) × (8 * a / channels ≡ bits)
  parts bits e = one_bits (8 * a) channels bits (rw are some) e

  pub bits_none : (8 * a % channels ≡ 0 → ⊥) → BitsMayFit given align → ⊥
  bits_none h b = let m = multiple b in h (parts m.0 m.2).0

  pub bits_large : 65535 < 8 * a / channels → BitsMayFit given align → ⊥
  bits_large h b = let m = multiple b in let e = (parts m.0 m.2).1 in let small = m.1 in absurd (omega (arith, e, small, h))

  pub bits_from : 8 * a % channels ≡ 0 → 8 * a / channels ≤ 65535 → Agrees given 14 (8 * a / channels) → BitsMayFit given align
  bits_from h small agrees =
      let e = whole_bits (8 * a) channels h in
      (8 * a / channels, omega arith, subst (λ x. 8 * x ≡ channels_in given * (8 * a / channels)) same (subst (λ x. 8 * a ≡ x * (8 * a / channels)) are e), agrees)

  pub bits_to : BitsMayFit given align → Agrees given 14 (8 * a / channels)
  bits_to b = let m = multiple b in subst (λ x. Agrees given 14 x) (sym (parts m.0 m.2).1) m.3

-- the high byte of a block align of which the low one is given
pub low_block_from : (given : List ℕ) (low : ℕ) → length given ≡ 13 → get_or given 12 0 ≡ low → low < 256 → (high : ℕ) × (high < 256) × BitsMayFit given (256 * high + low) → BlockMayFit given
low_block_from given low long is small (high, below, bits) = (256 * high + low, omega arith, (λ h. is ∙ omega arith, λ h. absurd (omega arith)), bits)

pub low_block_to : (given : List ℕ) (low : ℕ) → length given ≡ 13 → get_or given 12 0 ≡ low → BlockMayFit given → (high : ℕ) × (high < 256) × BitsMayFit given (256 * high + low)
low_block_to given low long is (align, small, agrees, bits) =
    let e : low ≡ align % 256 = sym is ∙ agrees.0 (omega arith) in
    let whole : align ≡ 256 * (align / 256) + low = omega (arith, e) in
    (align / 256, omega arith, subst (λ a. BitsMayFit given a) whole bits)

-- ---- bytes

pub bytes-cons : (a : ℕ) (xs : List ℕ) → a < 256 → AreBytes xs → AreBytes (a ∷ xs)
bytes-cons a xs h hs zero = h
bytes-cons a xs h hs (suc i) = hs i

pub bytes-append : (xs ys : List ℕ) → AreBytes xs → AreBytes ys → AreBytes (xs ++ ys)
bytes-append xs ys hx hy i =
    elim (cases_lt i (length xs)) [
      | inl lt ↦ rw (get_or_append_left xs ys 0 i lt) (hx i)
      | inr le ↦ rw (get_or-append_right xs ys (length xs) i 0 refl le) (hy (i - length xs))
    ]

pub bytes-drop : (n : ℕ) (xs : List ℕ) → AreBytes xs → AreBytes (drop n xs)
bytes-drop n xs h i = rw get_or-drop (h (n + i))

pub bytes-take : (n : ℕ) (xs : List ℕ) → AreBytes xs → AreBytes (take n xs)
bytes-take n xs h i =
    elim (cases_lt i n) [
      | inl lt ↦ rw (get_or-take n xs i 0 lt) (h i)
      | inr le ↦ rw (get_or_past (take n xs) i 0 (omega (arith, length-take n xs))) (omega arith)
    ]

pub bytes-nil : AreBytes []
bytes-nil i = omega arith

pub bytes-zeros : (n : ℕ) → AreBytes (replicate n 0)
bytes-zeros zero = bytes-nil
bytes-zeros (suc n) = bytes-cons 0 (replicate n 0) (omega arith) (bytes-zeros n)

-- ---- filling up

-- the bytes that are given, and then those of the pattern
pub filled : List ℕ → ℕ → List ℕ → List ℕ
filled given size pattern = given ++ drop (length given) (take size (pattern ++ replicate size 0))

filled_length : (given : List ℕ) (size : ℕ) (pattern : List ℕ) → length given ≤ size → length (filled given size pattern) ≡ size
unfolding filled
filled_length given size pattern fits =
    omega (arith, length-append given (drop (length given) (take size (pattern ++ replicate size 0))), length-drop (length given) (take size (pattern ++ replicate size 0)), length-take size (pattern ++ replicate size 0), length-append pattern (replicate size 0), length-replicate {A = ℕ} size 0)

pub filled_completes : (given : List ℕ) (size : ℕ) (pattern : List ℕ) → length given ≤ size → AreBytes given → AreBytes pattern → Completes given size (filled given size pattern)
unfolding filled
filled_completes given size pattern fits bytes fine = record {
  long = filled_length given size pattern fits;
  front = take_at given (drop (length given) (take size (pattern ++ replicate size 0))) (length given) refl;
  bytes = bytes-append given _ bytes (bytes-drop (length given) _ (bytes-take size _ (bytes-append pattern (replicate size 0) fine (bytes-zeros size))));
}

-- a byte of it that is given
pub filled_given : (given : List ℕ) (size : ℕ) (pattern : List ℕ) (i : ℕ) → i < length given → get_or (filled given size pattern) i 0 ≡ get_or given i 0
unfolding filled
filled_given given size pattern i lt = get_or_append_left given (drop (length given) (take size (pattern ++ replicate size 0))) 0 i lt

-- a byte of it: one that is given, or else that of the pattern
pub filled_at : (given : List ℕ) (size : ℕ) (pattern : List ℕ) (i byte : ℕ) → i < size → i < length pattern → ByteAgrees given i byte → get_or pattern i 0 ≡ byte → get_or (filled given size pattern) i 0 ≡ byte
unfolding filled
filled_at given size pattern i byte within short agrees is =
    elim (cases_lt i (length given)) [
      | inl lt ↦ get_or_append_left given (drop (length given) (take size (pattern ++ replicate size 0))) 0 i lt ∙ agrees lt
      | inr le ↦ get_or-append_right given (drop (length given) (take size (pattern ++ replicate size 0))) (length given) i 0 refl le
          ∙ get_or-drop (length given) (take size (pattern ++ replicate size 0)) (i - length given) 0
          ∙ ap (λ j. get_or (take size (pattern ++ replicate size 0)) j 0) (omega arith)
          ∙ get_or-take size (pattern ++ replicate size 0) i 0 within
          ∙ get_or_append_left pattern (replicate size 0) 0 i short ∙ is
    ]

-- ---- numbers of two bytes

two_bytes : (body : List ℕ) (i n : ℕ) → get_or body i 0 ≡ n % 256 → get_or body (suc i) 0 ≡ n / 256 → little_from i 2 body ≡ n
two_bytes body i n low high = omega arith

pub same_front : (given : List ℕ) (size : ℕ) (body : List ℕ) → Completes given size body → (i : ℕ) → i < length given → get_or given i 0 ≡ get_or body i 0
same_front given size body all i lt = ap (λ xs. get_or xs i 0) (sym all.front) ∙ get_or-take (length given) body i 0 lt

-- a number of the body agrees with the bytes that are given
pub agrees_with : (given : List ℕ) (size : ℕ) (body : List ℕ) → Completes given size body → (i n : ℕ) → little_from i 2 body ≡ n → Agrees given i n
agrees_with given size body all i n is =
    let low = all.bytes i in
    let high = all.bytes (suc i) in
    (λ lt. same_front given size body all i lt ∙ omega arith, λ lt. let h : suc i < length given = omega arith in ap (λ j. get_or given j 0) (omega arith) ∙ same_front given size body all (suc i) h ∙ omega arith)

-- ---- a body that is filled up

abbrev pub pattern : ℕ → ℕ → ℕ → ℕ → ℕ → List ℕ
pattern tag channels align bits last =
    tag % 256 ∷ tag / 256 ∷ channels ∷ 0 ∷ 0 ∷ 0 ∷ 1 ∷ 0 ∷ 0 ∷ 0 ∷ 0 ∷ 0 ∷ align % 256 ∷ align / 256 ∷ bits % 256 ∷ bits / 256
    ∷ 0 ∷ 0 ∷ 0 ∷ 0 ∷ 0 ∷ 0 ∷ 0 ∷ 0 ∷ last % 256 ∷ last / 256 ∷ []

unfoldable pub AllBelow : List ℕ → Type 0
AllBelow [] = Unit {0}
AllBelow (x ∷ xs) = (x < 256) × AllBelow xs

pub bytes_from : (xs : List ℕ) → AllBelow xs → AreBytes xs
unfolding AllBelow
bytes_from [] h = bytes-nil
bytes_from (x ∷ xs) h = bytes-cons x xs h.0 (bytes_from xs h.1)

pattern_bytes : (tag channels align bits last : ℕ) → tag < 65536 → channels < 256 → align < 65536 → bits < 65536 → last < 65536 → AreBytes (pattern tag channels align bits last)
unfolding AllBelow
pattern_bytes tag channels align bits last ht hc ha hb hu =
    bytes_from (pattern tag channels align bits last) (omega arith, (omega arith, (omega arith, (omega arith, (omega arith, (omega arith, (omega arith, (omega arith, (omega arith, (omega arith, (omega arith, (omega arith, (omega arith, (omega arith, (omega arith, (omega arith, (omega arith, (omega arith, (omega arith, (omega arith, (omega arith, (omega arith, (omega arith, (omega arith, (omega arith, (omega arith, tt))))))))))))))))))))))))))

-- what such a body says
pub record Says (given : List ℕ) (size : ℕ) (tag align bits last : ℕ) (body : List ℕ) : Type 0 where
  pub all : Completes given size body
  pub tag_is : little_from 0 2 body ≡ tag
  pub channels_are : little_from 2 2 body ≡ channels_in given
  pub some_rate : 1 ≤ little_from 4 4 body
  pub low_rate : little_from 4 4 body ≤ 768000
  pub align_is : little_from 12 2 body ≡ align
  pub bits_are : little_from 14 2 body ≡ bits
  pub true_is : 26 ≤ size → Agrees given 24 last → little_from 24 2 body ≡ last

channel_agrees : (given : List ℕ) → ByteAgrees given 2 (channels_in given)
channel_agrees given lt = let e : ltb 2 (length given) ≡ true = lt-ltb 2 (length given) lt in rw e refl

-- the rate of a body that is filled up is within the limits
filled_rate : (given : List ℕ) (size tag channels align bits last : ℕ) → length given ≤ size → 16 ≤ size → RateMayFit given → AreBytes (filled given size (pattern tag channels align bits last))
    → (1 ≤ little_from 4 4 (filled given size (pattern tag channels align bits last))) × (little_from 4 4 (filled given size (pattern tag channels align bits last)) ≤ 768000)
filled_rate given size tag channels align bits last fits long rate bytes =
    let p = pattern tag channels align bits last in
    let top = filled_at given size p 7 0 (omega arith) (omega arith) rate.top refl in
    elim (cases_lt (length given) 7) [
      | inl lt ↦
          let third = filled_at given size p 6 1 (omega arith) (omega arith) (λ h. absurd (omega arith)) refl in
          let b4 = bytes 4 in
          let b5 = bytes 5 in
          (omega (arith, top, third), omega (arith, top, third, b4, b5))
      | inr le ↦
          let a4 = filled_given given size p 4 (omega arith) in
          let a5 = filled_given given size p 5 (omega arith) in
          let a6 = filled_given given size p 6 (omega arith) in
          let some = rate.some le in
          let low = rate.low le in
          (omega (arith, top, a4, a5, a6, some), omega (arith, top, a4, a5, a6, low))
    ]

-- Such a body is there where the numbers agree with what is given.
pub build : (given : List ℕ) (size tag align bits last : ℕ) → length given ≤ size → AreBytes given → 16 ≤ size → LimitsMayHold given
    → tag < 65536 → Agrees given 0 tag → align < 65536 → Agrees given 12 align → bits < 65536 → Agrees given 14 bits → last < 65536
    → (body : List ℕ) × Says given size tag align bits last body
build given size tag align bits last fits bytes long limits ht at ha aa hb ab hu =
    let few : channels_in given < 256 = let h = limits.few_channels in omega arith in
    let p = pattern tag (channels_in given) align bits last in
    let body = filled given size p in
    let all : Completes given size body = filled_completes given size p fits bytes (pattern_bytes tag (channels_in given) align bits last ht few ha hb hu) in
    let first : ByteAgrees given 2 (channels_in given) = channel_agrees given in
    let c2 = filled_at given size p 2 (channels_in given) (omega arith) (omega arith) first refl in
    let c3 = filled_at given size p 3 0 (omega arith) (omega arith) limits.top refl in
    let rate = filled_rate given size tag (channels_in given) align bits last fits long limits.rate all.bytes in (
      body,
      record {
        all = all;
        tag_is = two_bytes body 0 tag (filled_at given size p 0 (tag % 256) (omega arith) (omega arith) at.0 refl) (filled_at given size p 1 (tag / 256) (omega arith) (omega arith) at.1 refl);
        channels_are = omega (arith, c2, c3);
        some_rate = rate.0;
        low_rate = rate.1;
        align_is = two_bytes body 12 align (filled_at given size p 12 (align % 256) (omega arith) (omega arith) aa.0 refl) (filled_at given size p 13 (align / 256) (omega arith) (omega arith) aa.1 refl);
        bits_are = two_bytes body 14 bits (filled_at given size p 14 (bits % 256) (omega arith) (omega arith) ab.0 refl) (filled_at given size p 15 (bits / 256) (omega arith) (omega arith) ab.1 refl);
        true_is = λ h au. two_bytes body 24 last (filled_at given size p 24 (last % 256) (omega arith) (omega arith) au.0 refl) (filled_at given size p 25 (last / 256) (omega arith) (omega arith) au.1 refl);
      },
    )
