-- The head that is written is read again.
use Rattle.std.proofs.Common.{◌≡◌, ◌≢◌, ℕ, ◌+◌, ◌*◌, ◌/◌, ◌%◌, ◌<◌, ◌≤◌, inl, inr, false, Option, Some, List, [], drop, ◌==◌, refl, sym, ap, ◌∙◌, arith}
use Rattle.std.proofs.lemmas.Bool.{ne_eqb}
use Rattle.std.proofs.Math.Nat.{mul-le-mul_right}
use Rattle.byteorder.specs.Endian.{little_from}
use Rattle.byteorder.specs.Numbers.{little_number-reads_back}
use Rattle.wav_format.specs.declared.format.SampleFormat.{SampleFormat}
use Rattle.wav_format.specs.declared.head.Head.{Head}
use Rattle.wav_format.specs.Chunks.{HeadThen, spot_behind, body_at, body_size, data_size, first_chunk, longest_head}
use Rattle.wav_format.specs.Format.{IsFormat, IsKnown, extensible, true_tag}
use Rattle.wav_format.specs.Written.{block_align, written}

-- whole bytes a sample
record Width (tag bits : ℕ) : Type 0 where
  width : ℕ
  bits_are : bits ≡ 8 * width
  narrow : width ≤ 4
  low : tag ≤ 7

width_of : (tag bits : ℕ) → IsKnown tag bits → Width tag bits
width_of tag bits (inl (t, inl b)) = record { width = 1; bits_are = b; narrow = omega arith; low = omega (arith, t) }
width_of tag bits (inl (t, inr (inl b))) = record { width = 2; bits_are = b; narrow = omega arith; low = omega (arith, t) }
width_of tag bits (inl (t, inr (inr (inl b)))) = record { width = 3; bits_are = b; narrow = omega arith; low = omega (arith, t) }
width_of tag bits (inl (t, inr (inr (inr b)))) = record { width = 4; bits_are = b; narrow = omega arith; low = omega (arith, t) }
width_of tag bits (inr (inl t, b)) = record { width = 1; bits_are = b; narrow = omega arith; low = omega (arith, t) }
width_of tag bits (inr (inr t, b)) = record { width = 1; bits_are = b; narrow = omega arith; low = omega (arith, t) }

-- a head that can be written
pub record Writable (h : Head) (bytes : ℕ) : Type 0 where
  pub size_is : h.size ≡ Some bytes
  pub small : bytes ≤ 4294967258
  pub some_channel : 1 ≤ h.channels
  pub few_channels : h.channels ≤ 64
  pub some_rate : 1 ≤ h.rate
  pub low_rate : h.rate ≤ 768000
  pub known : IsKnown h.tag h.bits

two : (n : ℕ) → n < 65536 → n % 256 + 256 * (n / 256 % 256 + 256 * 0) ≡ n
two n h = omega arith

four : (n : ℕ) → n < 4294967296 → n % 256 + 256 * (n / 256 % 256 + 256 * (n / 65536 % 256 + 256 * (n / 16777216 % 256 + 256 * 0))) ≡ n
four n h = little_number-reads_back 4 n [] h

plain_tag : (body : List ℕ) (tag : ℕ) → little_from 0 2 body ≡ tag → tag ≤ 7 → true_tag body ≡ tag
plain_tag body tag e low =
    let plain : (tag == extensible) ≡ false = ne_eqb tag extensible (λ x. absurd (omega (arith, x, low))) in
    rw (e, plain) refl

aligned : (channels bits width : ℕ) → bits ≡ 8 * width → width ≤ 4 → channels ≤ 64 → (channels * bits / 8 < 65536) × (8 * (channels * bits / 8) ≡ channels * bits)
aligned channels bits width e narrow few =
    let whole : channels * bits ≡ 8 * (channels * width) = ap (λ b. channels * b) e ∙ (let x : channels * (8 * width) ≡ 8 * (channels * width) = omega arith in x) in
    let bound : channels * width ≤ 64 * width = mul-le-mul_right width few in
    (omega (arith, whole, bound), omega (arith, whole))

same_format : (tag tag' channels channels' rate rate' bits bits' : ℕ) → tag ≡ tag' → channels ≡ channels' → rate ≡ rate' → bits ≡ bits' → ◌≡◌ {A = Option SampleFormat} (Some (record { tag = tag; channels = channels; rate = rate; bits = bits })) (Some (record { tag = tag'; channels = channels'; rate = rate'; bits = bits' }))
same_format tag tag' channels channels' rate rate' bits bits' a b c d = cc

module _ (h : Head) (bytes : ℕ) (w : Writable h bytes) where
  width : Width h.tag h.bits
  width = width_of h.tag h.bits w.known

  align : (block_align h < 65536) × (8 * block_align h ≡ h.channels * h.bits)
  align = aligned h.channels h.bits width.width width.bits_are width.narrow w.few_channels

  tag_there : little_from 0 2 (body_at (drop 12 (written h bytes))) ≡ h.tag
  tag_there = two h.tag (let low = width.low in omega arith)

  channels_there : little_from 2 2 (body_at (drop 12 (written h bytes))) ≡ h.channels
  channels_there = two h.channels (let few = w.few_channels in omega arith)

  rate_there : little_from 4 4 (body_at (drop 12 (written h bytes))) ≡ h.rate
  rate_there = four h.rate (let low = w.low_rate in omega arith)

  align_there : little_from 12 2 (body_at (drop 12 (written h bytes))) ≡ block_align h
  align_there = two (block_align h) align.0

  bits_there : little_from 14 2 (body_at (drop 12 (written h bytes))) ≡ h.bits
  bits_there = two h.bits (let b = width.bits_are in let n = width.narrow in omega (arith, b, n))

  true_there : true_tag (body_at (drop 12 (written h bytes))) ≡ h.tag
  true_there = plain_tag (body_at (drop 12 (written h bytes))) h.tag tag_there width.low

  said : IsFormat (body_at (drop 12 (written h bytes)))
  said =
      let low = width.low in
      record {
        numbers = record {
          long = omega arith;
          extended = λ e. absurd (let x : h.tag ≡ extensible = sym tag_there ∙ e in omega (arith, x, low));
          some_channel = rw channels_there w.some_channel;
          few_channels = rw channels_there w.few_channels;
          some_rate = rw rate_there w.some_rate;
          low_rate = rw rate_there w.low_rate;
          block = ap (λ a. 8 * a) align_there ∙ align.1 ∙ sym (ap (λ c. c * little_from 14 2 (body_at (drop 12 (written h bytes)))) channels_there ∙ ap (λ b. h.channels * b) bits_there);
        };
        known = rw (true_there, bits_there) w.known;
      }

  size_there : bytes ≢ 0 → h.size ≡ data_size (body_size (drop 36 (written h bytes)))
  size_there some =
      let e : body_size (drop 36 (written h bytes)) ≡ bytes = four bytes (let small = w.small in omega arith) in
      let small = w.small in
      let not_zero : (bytes == 0) ≡ false = ne_eqb bytes 0 some in
      let not_all : (bytes == 0xFFFFFFFF) ≡ false = ne_eqb bytes 0xFFFFFFFF (λ x. absurd (omega (arith, x, small))) in
      w.size_is ∙ sym (ap data_size e ∙ rw (not_zero, not_all) refl)

  pub written_again : h.start ≡ 44 → bytes ≢ 0 → HeadThen longest_head (written h bytes) h []
  written_again start some = (
    spot_behind (first_chunk (written h bytes)),
    (
      record { long = omega arith; riff = refl; wave = refl },
      (
        1,
        (
          record {
            headed = omega arith;
            other = refl;
            room = omega arith;
            format = λ _. said;
            whole = omega arith;
          },
          refl,
        ),
      ),
    ),
    record {
      headed = omega arith;
      named = refl;
      format = same_format _ _ _ _ _ _ _ _ true_there channels_there rate_there bits_there;
      start = start;
      size = size_there some;
      leaves = refl;
    },
  )
