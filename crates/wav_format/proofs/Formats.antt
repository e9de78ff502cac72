-- What the first bytes of a body decide is what every body that begins with them meets.
use Rattle.std.proofs.Common.{◌≡◌, ℕ, ◌*◌, ◌<◌, ◌≤◌, inl, inr, Bool, true, false, List, length, get_or, refl, sym, ap, ◌∙◌, arith, cond, ◌==◌, ltb}
use Rattle.std.proofs.lemmas.Bool.{cases_lt, eqb-true, lt-ltb, le-ltb}
use Rattle.std.proofs.Math.Nat.{mul-le-mul_right}
use Rattle.byteorder.specs.Endian.{little_from}
use Rattle.wav_format.specs.Format.{AreBytes, Completes, IsKnown, NumbersFit, extensible, true_tag}
use Rattle.wav_format.specs.Faults.{MayBeFormat, MayFit}
use Rattle.wav_format.specs.Given.{Agrees, BlockMayFit, FormatAgrees, LimitsMayHold, MayBeCoded, NumbersAgree, TagMayBe, channels_in}
use Rattle.wav_format.proofs.Bodies.{Says, agrees_with, build, same_front}

-- ---- from what is given to a body

-- a tag that agrees with what is given
record SomeTag (given : List ℕ) (size : ℕ) : Type 0 where
  tag : ℕ
  small : tag < 65536
  agrees : Agrees given 0 tag
  long : tag ≡ extensible → 40 ≤ size

some_tag : (given : List ℕ) (size : ℕ) → AreBytes given → (2 ≤ length given → little_from 0 2 given ≡ extensible → 40 ≤ size) → SomeTag given size
some_tag given size bytes extended =
    let b0 = bytes 0 in
    let b1 = bytes 1 in
    elim (cases_lt (length given) 2) [
      | inl lt ↦ record {
        tag = get_or given 0 0;
        small = omega (arith, b0);
        agrees = (λ _. omega (arith, b0), λ h. absurd (omega arith));
        long = λ e. absurd (omega (arith, b0, e));
      }
      | inr le ↦ record {
        tag = little_from 0 2 given;
        small = omega (arith, b0, b1);
        agrees = (λ _. omega (arith, b0, b1), λ _. omega (arith, b0, b1));
        long = λ e. extended le e;
      }
    ]

-- the numbers of a body that is built fit where those that it was built of do
numbers : (given : List ℕ) (size tag align bits last : ℕ) (body : List ℕ) → Says given size tag align bits last body → 16 ≤ size → LimitsMayHold given → (tag ≡ extensible → 40 ≤ size) → 8 * align ≡ channels_in given * bits → NumbersFit body
numbers given size tag align bits last body s long limits extended block =
    let some = limits.some_channel in
    let few = limits.few_channels in
    record {
      long = rw s.all.long long;
      extended = λ e. rw s.all.long (extended (sym s.tag_is ∙ e));
      some_channel = rw s.channels_are some;
      few_channels = rw s.channels_are few;
      some_rate = s.some_rate;
      low_rate = s.low_rate;
      block = ap (λ a. 8 * a) s.align_is ∙ block ∙ sym (ap (λ c. c * little_from 14 2 body) s.channels_are ∙ ap (λ b. channels_in given * b) s.bits_are);
    }

pub numbers_to_fit : (given : List ℕ) (size : ℕ) → length given ≤ size → AreBytes given → NumbersAgree given size → MayFit given size
numbers_to_fit given size fits bytes n =
    let tag = some_tag given size bytes n.extended in
    let block = n.block in
    let bits = block.3 in
    let built = build given size tag.tag block.0 bits.0 0 fits bytes n.long n.limits tag.small tag.agrees block.1 block.2 bits.1 bits.3 (omega arith) in
    (built.0, built.1.all, numbers given size tag.tag block.0 bits.0 0 built.0 built.1 n.long n.limits tag.long bits.2)

-- a body of that coding, in the plain form or the extensible one
coded : (given : List ℕ) (size tag width : ℕ) → length given ≤ size → AreBytes given → 16 ≤ size → LimitsMayHold given → tag ≤ 7 → (tag == extensible) ≡ false → width ≤ 4 → IsKnown tag (8 * width) → MayBeCoded given size tag width → MayBeFormat given size
coded given size tag width fits bytes long limits low plain narrow known may =
    let some = limits.some_channel in
    let few = limits.few_channels in
    let align : channels_in given * width < 65536 = let h = mul-le-mul_right width few in omega (arith, h) in
    let block : 8 * (channels_in given * width) ≡ channels_in given * (8 * width) = omega arith in
    elim may.tagged [
      | inl agrees ↦
          let built = build given size tag (channels_in given * width) (8 * width) 0 fits bytes long limits (omega arith) agrees align may.block (omega arith) may.bits (omega arith) in
          let s = built.1 in
          let is : true_tag built.0 ≡ tag = rw (s.tag_is, plain) refl in (
            built.0,
            s.all,
            record {
              numbers = numbers given size tag (channels_in given * width) (8 * width) 0 built.0 s long limits (λ e. absurd (omega (arith, e))) block;
              known = rw (is, s.bits_are) known;
            },
          )
      | inr (wide, agrees, true_agrees) ↦
          let built = build given size extensible (channels_in given * width) (8 * width) tag fits bytes long limits (omega arith) agrees align may.block (omega arith) may.bits (omega arith) in
          let s = built.1 in
          let is : true_tag built.0 ≡ tag = rw s.tag_is (s.true_is (omega arith) true_agrees) in (
            built.0,
            s.all,
            record {
              numbers = numbers given size extensible (channels_in given * width) (8 * width) tag built.0 s long limits (λ e. wide) block;
              known = rw (is, s.bits_are) known;
            },
          )
    ]

-- ---- from a body to what is given

-- the channels are those of the body once the byte that tells them is given
channels_known : (given : List ℕ) (size : ℕ) (body : List ℕ) → Completes given size body → NumbersFit body → 2 < length given → channels_in given ≡ little_from 2 2 body
channels_known given size body all n lt =
    let e : ltb 2 (length given) ≡ true = lt-ltb 2 (length given) lt in
    let same = same_front given size body all 2 lt in
    let few = n.few_channels in
    rw e (omega (arith, same, few))

limits_of : (given : List ℕ) (size : ℕ) (body : List ℕ) → Completes given size body → NumbersFit body → LimitsMayHold given
limits_of given size body all n =
    let some = n.some_channel in
    let few = n.few_channels in
    let some_rate = n.some_rate in
    let low_rate = n.low_rate in
    let b4 = all.bytes 4 in
    let b5 = all.bytes 5 in
    let b6 = all.bytes 6 in
    let within : (1 ≤ channels_in given) × (channels_in given ≤ 64) =
    elim (cases_lt 2 (length given)) [
      | inl lt ↦ let e = channels_known given size body all n lt in (omega (arith, e, some), omega (arith, e, few))
      | inr le ↦ let e : ltb 2 (length given) ≡ false = le-ltb 2 (length given) le in (rw e (omega arith), rw e (omega arith))
    ] in
    let three : 7 ≤ length given → little_from 4 3 given ≡ little_from 4 3 body = λ h.
    let a4 = same_front given size body all 4 (omega arith) in
    let a5 = same_front given size body all 5 (omega arith) in
    let a6 = same_front given size body all 6 (omega arith) in
    omega (arith, a4, a5, a6) in
    let top : get_or body 7 0 ≡ 0 = omega (arith, low_rate) in
    record {
      some_channel = within.0;
      few_channels = within.1;
      top = λ h. same_front given size body all 3 h ∙ omega (arith, few);
      rate = record {
        some = λ h. let e = three h in omega (arith, e, top, some_rate);
        low = λ h. let e = three h in omega (arith, e, top, low_rate);
        top = λ h. same_front given size body all 7 h ∙ top;
      };
    }

-- a number agrees that is the body's once so many bytes are given
agrees_past : (given : List ℕ) (size : ℕ) (body : List ℕ) → Completes given size body → (place number : ℕ) → (place < length given → little_from place 2 body ≡ number) → Agrees given place number
agrees_past given size body all place number is =
    (λ h. (agrees_with given size body all place number (is h)).0 h, λ h. (agrees_with given size body all place number (is (omega arith))).1 h)

fit_to_block : (given : List ℕ) (size : ℕ) (body : List ℕ) → Completes given size body → NumbersFit body → BlockMayFit given
fit_to_block given size body all n =
    let a0 = all.bytes 12 in
    let a1 = all.bytes 13 in
    let b0 = all.bytes 14 in
    let b1 = all.bytes 15 in
    let limits = limits_of given size body all n in
    let few = limits.few_channels in
    elim (cases_lt 12 (length given)) [
      | inl lt ↦
          let e = channels_known given size body all n (omega arith) in (
            little_from 12 2 body,
            omega (arith, a0, a1),
            agrees_with given size body all 12 (little_from 12 2 body) refl,
            (little_from 14 2 body, omega (arith, b0, b1), n.block ∙ sym (ap (λ c. c * little_from 14 2 body) e), agrees_with given size body all 14 (little_from 14 2 body) refl),
          )
      | inr le ↦ (
        channels_in given,
        omega (arith, few),
        (λ h. absurd (omega arith), λ h. absurd (omega arith)),
        (8, omega arith, omega arith, (λ h. absurd (omega arith), λ h. absurd (omega arith))),
      )
    ]

pub fit_to_numbers : (given : List ℕ) (size : ℕ) → MayFit given size → NumbersAgree given size
fit_to_numbers given size (body, all, n) = record {
  long = rw (← all.long) n.long;
  extended = λ h e.
      let a0 = same_front given size body all 0 (omega arith) in
      let a1 = same_front given size body all 1 (omega arith) in
      let same : little_from 0 2 body ≡ little_from 0 2 given = omega (arith, a0, a1) in
      rw (← all.long) (n.extended (same ∙ e));
  limits = limits_of given size body all n;
  block = fit_to_block given size body all n;
}

tagged : (given : List ℕ) (size : ℕ) (body : List ℕ) → Completes given size body → NumbersFit body → (tag : ℕ) (wide : Bool) → (little_from 0 2 body == extensible) ≡ wide → cond wide (little_from 24 2 body) (little_from 0 2 body) ≡ tag → TagMayBe given size tag
tagged given size body all n tag true e is =
    let x : little_from 0 2 body ≡ extensible = eqb-true _ _ e in
    inr (rw (← all.long) (n.extended x), agrees_with given size body all 0 extensible x, agrees_with given size body all 24 tag is)
tagged given size body all n tag false e is = inl (agrees_with given size body all 0 tag is)

-- the coding of the body may be that of what is given
coding_of : (given : List ℕ) (size : ℕ) (body : List ℕ) → Completes given size body → NumbersFit body → (tag width : ℕ) → true_tag body ≡ tag → little_from 14 2 body ≡ 8 * width → MayBeCoded given size tag width
coding_of given size body all n tag width is bits = record {
  tagged = tagged given size body all n tag (little_from 0 2 body == extensible) refl is;
  block = agrees_past given size body all 12 (channels_in given * width) (λ h.
      let e = channels_known given size body all n (omega arith) in
      let block : 8 * little_from 12 2 body ≡ channels_in given * (8 * width) = n.block ∙ sym (ap (λ c. c * little_from 14 2 body) e) ∙ ap (λ b. channels_in given * b) bits in
      omega (arith, block));
  bits = agrees_with given size body all 14 (8 * width) bits;
}

pub format_to_given : (given : List ℕ) (size : ℕ) → MayBeFormat given size → FormatAgrees given size
format_to_given given size (body, all, f) = record {
  long = rw (← all.long) f.numbers.long;
  limits = limits_of given size body all f.numbers;
  coding =
      let coding = coding_of given size body all f.numbers in
      elim f.known [
        | inl (one, bits) ↦ elim bits [
          | inl b ↦ inl (coding 1 1 one b)
          | inr wider ↦ elim wider [
            | inl b ↦ inr (inl (coding 1 2 one b))
            | inr wider ↦ elim wider [
              | inl b ↦ inr (inr (inl (coding 1 3 one b)))
              | inr b ↦ inr (inr (inr (inl (coding 1 4 one b))))
            ]
          ]
        ]
        | inr (law, b) ↦ elim law [
          | inl six ↦ inr (inr (inr (inr (inl (coding 6 1 six b)))))
          | inr seven ↦ inr (inr (inr (inr (inr (coding 7 1 seven b)))))
        ]
      ];
}

pub given_to_format : (given : List ℕ) (size : ℕ) → length given ≤ size → AreBytes given → FormatAgrees given size → MayBeFormat given size
given_to_format given size fits bytes f =
    let c = λ (tag width : ℕ). coded given size tag width fits bytes f.long f.limits in
    let pcm = λ (width : ℕ). c 1 width (omega arith) refl in
    elim f.coding [
      | inl m ↦ pcm 1 (omega arith) (inl (refl, inl refl)) m
      | inr rest ↦ elim rest [
        | inl m ↦ pcm 2 (omega arith) (inl (refl, inr (inl refl))) m
        | inr rest ↦ elim rest [
          | inl m ↦ pcm 3 (omega arith) (inl (refl, inr (inr (inl refl)))) m
          | inr rest ↦ elim rest [
            | inl m ↦ pcm 4 (omega arith) (inl (refl, inr (inr (inr refl)))) m
            | inr rest ↦ elim rest [
              | inl m ↦ c 6 1 (omega arith) refl (omega arith) (inr (inl refl, refl)) m
              | inr m ↦ c 7 1 (omega arith) refl (omega arith) (inr (inr refl, refl)) m
            ]
          ]
        ]
      ]
    ]
