-- What the tests on the first bytes of a `fmt ` body decide.
use Rattle.std.proofs.Common.{◌≡◌, ℕ, ◌+◌, ◌*◌, ◌/◌, ◌%◌, ◌<◌, ◌≤◌, inl, inr, Bool, leb, ◌==◌, ◌&&◌, List, length, refl, arith}
use Rattle.std.specs.Prelude.{slice_index, Decides}
use Rattle.std.proofs.lemmas.Bool.{cases_lt, cases_eq, leb-true, le-leb}
use Rattle.std.proofs.lemmas.Bool.Decides.{Decides-and, Decides-below_or, Decides-eqb, Decides-like, Decides-ltb, Decides-not, Decides-or}
use Rattle.byteorder.specs.Endian.{little_from}
use Rattle.wav_format.specs.Format.{extensible}
use Rattle.wav_format.specs.Given.{Agrees, BitsMayFit, BlockMayFit, ByteAgrees, FormatAgrees, LimitsMayHold, MayBeCoded, NumbersAgree, RateMayFit, SomeCodingMayBe, TagMayBe, channels_in}
use Rattle.wav_format.specs.Told.{agrees, bits_may_fit, block_may_fit, byte_agrees, format_agrees, has_length, limits_may_hold, may_be_coded, numbers_agree, rate_may_fit, some_below, some_coding_may_be, tag_may_be}

le_decides : (a b : ℕ) → Decides (leb a b) (a ≤ b)
le_decides a b = (leb-true a b, le-leb a b)

below_decides : (test : ℕ → Bool) (P : ℕ → Type 0) → ((k : ℕ) → Decides (test k) (P k)) → (n : ℕ) → Decides (some_below n test) ((k : ℕ) × (k < n) × P k)
unfolding some_below
below_decides test P each n = Decides-below_or test P (λ m. some_below m test) each refl (λ m. refl) n

byte_decides : (given : List ℕ) (place byte : ℕ) → Decides (byte_agrees given place byte) (ByteAgrees given place byte)
byte_decides given place byte =
    Decides-like (byte_agrees given place byte)
    (λ either lt. elim either [ inl le ↦ absurd (omega arith) | inr e ↦ e ])
    (λ agrees. elim (cases_lt place (length given)) [ inl lt ↦ inr (agrees lt) | inr le ↦ inl le ])
    (Decides-or (leb (length given) place) (slice_index given place == byte) (le_decides (length given) place) (Decides-eqb (slice_index given place) byte))

agrees_decides : (given : List ℕ) (place number : ℕ) → Decides (agrees given place number) (Agrees given place number)
agrees_decides given place number = Decides-and (byte_agrees given place (number % 256)) (byte_agrees given (place + 1) (number / 256)) (byte_decides given place (number % 256)) (byte_decides given (place + 1) (number / 256))

rate_decides : (given : List ℕ) → Decides (rate_may_fit given) (RateMayFit given)
rate_decides given =
    let low = little_from 4 3 given in
    Decides-like (rate_may_fit given)
    (λ all. record {
      some = λ long. elim all.0 [ inl lt ↦ absurd (omega arith) | inr both ↦ both.0 ];
      low = λ long. elim all.0 [ inl lt ↦ absurd (omega arith) | inr both ↦ both.1 ];
      top = all.1;
    })
    (λ (r : RateMayFit given). (elim (cases_lt (length given) 7) [ inl lt ↦ inl lt | inr le ↦ inr (r.some le, r.low le) ], r.top))
    (Decides-and _ _ (Decides-or _ _ (Decides-ltb (length given) 7) (Decides-and _ _ (le_decides 1 low) (le_decides low 768000))) (byte_decides given 7 0))

limits_decide : (given : List ℕ) → Decides (limits_may_hold given) (LimitsMayHold given)
limits_decide given =
    Decides-like (limits_may_hold given)
    (λ all. record { some_channel = all.0; few_channels = all.1.0; top = all.1.1.0; rate = all.1.1.1 })
    (λ (l : LimitsMayHold given). (l.some_channel, (l.few_channels, (l.top, l.rate))))
    (Decides-and _ _ (le_decides 1 (channels_in given)) (Decides-and _ _ (le_decides (channels_in given) 64) (Decides-and _ _ (byte_decides given 3 0) (rate_decides given))))

bits_decide : (given : List ℕ) (align : ℕ) → Decides (bits_may_fit given align) (BitsMayFit given align)
bits_decide given align =
    Decides-like (bits_may_fit given align) (λ all. (all.0, all.1, all.2.0, all.2.1)) (λ all. (all.0, all.1, (all.2, all.3)))
    (below_decides (λ bits. 8 * align == channels_in given * bits && agrees given 14 bits) (λ bits. (8 * align ≡ channels_in given * bits) × Agrees given 14 bits)
    (λ bits. Decides-and _ _ (Decides-eqb (8 * align) (channels_in given * bits)) (agrees_decides given 14 bits)) 65536)

block_decides : (given : List ℕ) → Decides (block_may_fit given) (BlockMayFit given)
block_decides given =
    Decides-like (block_may_fit given) (λ all. (all.0, all.1, all.2.0, all.2.1)) (λ all. (all.0, all.1, (all.2, all.3)))
    (below_decides (λ align. agrees given 12 align && bits_may_fit given align) (λ align. Agrees given 12 align × BitsMayFit given align)
    (λ align. Decides-and _ _ (agrees_decides given 12 align) (bits_decide given align)) 65536)

tag_decides : (given : List ℕ) (size tag : ℕ) → Decides (tag_may_be given size tag) (TagMayBe given size tag)
tag_decides given size tag =
    Decides-or _ _ (agrees_decides given 0 tag) (Decides-like _ (λ all. (all.0, all.1.0, all.1.1)) (λ all. (all.0, (all.1, all.2))) (Decides-and _ _ (le_decides 40 size) (Decides-and _ _ (agrees_decides given 0 extensible) (agrees_decides given 24 tag))))

coded_decides : (given : List ℕ) (size tag width : ℕ) → Decides (may_be_coded given size tag width) (MayBeCoded given size tag width)
coded_decides given size tag width =
    Decides-like (may_be_coded given size tag width)
    (λ all. record { tagged = all.0; block = all.1.0; bits = all.1.1 })
    (λ (m : MayBeCoded given size tag width). (m.tagged, (m.block, m.bits)))
    (Decides-and _ _ (tag_decides given size tag) (Decides-and _ _ (agrees_decides given 12 (channels_in given * width)) (agrees_decides given 14 (8 * width))))

coding_decides : (given : List ℕ) (size : ℕ) → Decides (some_coding_may_be given size) (SomeCodingMayBe given size)
coding_decides given size =
    let c = coded_decides given size in
    Decides-or _ _ (c 1 1) (Decides-or _ _ (c 1 2) (Decides-or _ _ (c 1 3) (Decides-or _ _ (c 1 4) (Decides-or _ _ (c 6 1) (c 7 1)))))

length_decides : (given : List ℕ) (size : ℕ) → Decides (has_length given size) (2 ≤ length given → little_from 0 2 given ≡ extensible → 40 ≤ size)
length_decides given size =
    Decides-like (has_length given size)
    (λ either long is. elim either [ inl lt ↦ absurd (omega arith) | inr rest ↦ elim rest [ inl not_so ↦ absurd (not_so is) | inr le ↦ le ] ])
    (λ h. elim (cases_lt (length given) 2) [
      | inl lt ↦ inl lt
      | inr le ↦ elim (cases_eq (little_from 0 2 given) extensible) [ inl is ↦ inr (inr (h le is)) | inr not_so ↦ inr (inl not_so) ]
    ])
    (Decides-or _ _ (Decides-ltb (length given) 2) (Decides-or _ _ (Decides-not _ (Decides-eqb (little_from 0 2 given) extensible)) (le_decides 40 size)))

pub numbers_decide : (given : List ℕ) (size : ℕ) → Decides (numbers_agree given size) (NumbersAgree given size)
unfolding numbers_agree
numbers_decide given size =
    Decides-like (numbers_agree given size)
    (λ all. record { long = all.0; extended = all.1.0; limits = all.1.1.0; block = all.1.1.1 })
    (λ (n : NumbersAgree given size). (n.long, (n.extended, (n.limits, n.block))))
    (Decides-and _ _ (le_decides 16 size) (Decides-and _ _ (length_decides given size) (Decides-and _ _ (limits_decide given) (block_decides given))))

pub format_decides : (given : List ℕ) (size : ℕ) → Decides (format_agrees given size) (FormatAgrees given size)
unfolding format_agrees
format_decides given size =
    Decides-like (format_agrees given size)
    (λ all. record { long = all.0; limits = all.1.0; coding = all.1.1 })
    (λ (f : FormatAgrees given size). (f.long, (f.limits, f.coding)))
    (Decides-and _ _ (le_decides 16 size) (Decides-and _ _ (limits_decide given) (coding_decides given size)))
