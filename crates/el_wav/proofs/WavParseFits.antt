-- The numbers of a head that bytes begin with.
use Rattle.std.proofs.Common.{◌≡◌, ◌≢◌, ◌≤◌, ◌+◌, zero, suc, ℕ, inl, inr, Bool, true, false, List, Option, Some, None, codes, length, ◌-◌, if◌then◌else◌, refl, ap, subst, ◌∙◌, arith}
use Rattle.std.proofs.lemmas.List.{length-drop}
use Rattle.audio_info.specs.declared.sample.Sample.{Sample}
use Rattle.audio_info.specs.declared.sample.Sample.TheVariants.{U8, S16LE, S24LE, S32LE, MuLaw, ALaw}
use Rattle.wav_format.specs.declared.format.SampleFormat.{SampleFormat}
use Rattle.wav_format.specs.declared.head.Head.{Head}
use Rattle.wav_format.specs.Format.{IsFormat, IsKnown, format_of}
use Rattle.wav_format.specs.Chunks.{BeginsWithHead, IsOpened, IsPassed, Leads, Spot, spot_behind, begins, body_at, chunk_length, first_chunk, longest_head}
use Rattle.el_wav.specs.WavParseHeads.{coding, HeadFits}

some_coding : (o : Option Sample) (s : Sample) → o ≡ Some s → o ≢ None
some_coding o s is none = absurd (cc)

known_coding : (tag bits : ℕ) → IsKnown tag bits → coding tag bits ≢ None
known_coding tag bits (inl (t, inl b)) = some_coding (coding tag bits) U8 (rw (t, b) refl)
known_coding tag bits (inl (t, inr (inl b))) = some_coding (coding tag bits) S16LE (rw (t, b) refl)
known_coding tag bits (inl (t, inr (inr (inl b)))) = some_coding (coding tag bits) S24LE (rw (t, b) refl)
known_coding tag bits (inl (t, inr (inr (inr b)))) = some_coding (coding tag bits) S32LE (rw (t, b) refl)
known_coding tag bits (inr (inl t, b)) = some_coding (coding tag bits) ALaw (rw (t, b) refl)
known_coding tag bits (inr (inr t, b)) = some_coding (coding tag bits) MuLaw (rw (t, b) refl)

-- what is known of a format on the way to the data
record Fits (f : SampleFormat) : Type 0 where
  coded : coding f.tag f.bits ≢ None
  some_rate : 1 ≤ f.rate
  low_rate : f.rate ≤ 768000
  some_channel : 1 ≤ f.channels
  few_channels : f.channels ≤ 64

abbrev FitsIf : Option SampleFormat → Type 0
FitsIf None = Unit {0}
FitsIf (Some f) = Fits f

-- at a spot of so many bytes
record Good (total : ℕ) (s : Spot) : Type 0 where
  format : FitsIf s.known
  all : s.at + length s.left ≡ total
  room : s.at + 8 ≤ longest_head

body_fits : (body : List ℕ) → IsFormat body → Fits (format_of body)
body_fits body f = record {
  coded = known_coding _ _ f.known;
  some_rate = f.numbers.some_rate;
  low_rate = f.numbers.low_rate;
  some_channel = f.numbers.some_channel;
  few_channels = f.numbers.few_channels;
}

split : (at size total len : ℕ) → at + size ≡ total → len ≤ size → (at + len) + (size - len) ≡ total
split at size total len e le = omega arith

good_behind : (total : ℕ) (s : Spot) → IsPassed longest_head s → Good total s → Good total (spot_behind s)
good_behind total s p g = record {
  format = go (begins (codes "fmt ") s.left) refl;
  all = ap (λ n. s.at + chunk_length s.left + n) (length-drop (chunk_length s.left) s.left) ∙ split s.at (length s.left) total (chunk_length s.left) g.all p.whole;
  room = p.room;
}
  where
    go : (b : Bool) → begins (codes "fmt ") s.left ≡ b → FitsIf (if b then Some (format_of (body_at s.left)) else s.known)
    go true e = body_fits (body_at s.left) (p.format e)
    go false e = g.format

good_led : (total chunks : ℕ) (s t : Spot) → Leads longest_head chunks s t → Good total s → Good total t
good_led total zero s t e g = subst (Good total) e g
good_led total (suc chunks) s t (p, leads) g = good_led total chunks (spot_behind s) t leads (good_behind total s p g)

past : (n : ℕ) → 12 ≤ n → 12 + (n - 12) ≡ n
past n le = omega arith

good_first : (bytes : List ℕ) → IsOpened bytes → Good (length bytes) (first_chunk bytes)
good_first bytes opened =
    let long = opened.long in
    record { format = tt; all = ap (λ n. 12 + n) (length-drop 12 bytes) ∙ past (length bytes) long; room = omega arith }

-- a head that bytes begin with has numbers that fit
pub head_fits : (bytes : List ℕ) (head : Head) → BeginsWithHead bytes head → HeadFits head
head_fits bytes head (rest, (s, (opened, (chunks, leads)), ends)) =
    let g = good_led (length bytes) chunks (first_chunk bytes) s leads (good_first bytes opened) in
    let f : FitsIf (Some (record { tag = head.tag; channels = head.channels; rate = head.rate; bits = head.bits })) = subst FitsIf ends.format g.format in
    let start = ends.start in
    let room = g.room in
    record {
      coded = f.coded;
      some_rate = f.some_rate;
      low_rate = f.low_rate;
      some_channel = f.some_channel;
      few_channels = f.few_channels;
      behind = omega (arith, start);
      near = omega (arith, start, room);
    }

-- and it is within the bytes
pub head_within : (bytes : List ℕ) (head : Head) → BeginsWithHead bytes head → head.start ≤ length bytes
head_within bytes head (rest, (s, (opened, (chunks, leads)), ends)) =
    let g = good_led (length bytes) chunks (first_chunk bytes) s leads (good_first bytes opened) in
    let start = ends.start in
    let headed = ends.headed in
    let all = g.all in
    omega (arith, start, headed, all)
