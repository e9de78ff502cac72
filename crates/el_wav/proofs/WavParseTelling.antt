-- What is told of bytes is what the RIFF WAVE format says of them.
use Rattle.std.proofs.Common.{◌≡◌, ◌≤◌, ℕ, suc, inl, inr, Bool, true, false, ltb, leb, cond, List, [], ◌∷◌, length, Option, Some, None, refl, sym, ap, subst, ◌∙◌, arith}
use Rattle.std.proofs.lemmas.Bool.{and_from, and_parts, le-leb, lt-ltb, ltb-true}
use Rattle.audio_info.specs.declared.info.Info.{Info}
use Rattle.audio_info.specs.declared.sample.Sample.{Sample}
use Rattle.wav_format.specs.declared.head.Head.{Head}
use Rattle.wav_format.specs.declared.head.HeadAnswer.{HeadAnswer}
use Rattle.wav_format.specs.declared.head.HeadAnswer.TheVariants.{Whole as WholeHead, NeedMore, Bad}
use Rattle.wav_format.specs.Answers.{AnswerIn}
use Rattle.wav_format.specs.Chunks.{BeginsWithHead}
use Rattle.wav_format.specs.Cuts.{CutIn, deciding, opening_length}
use Rattle.wav_format.specs.Format.{AreBytes}
use Rattle.wav_format.specs.Told.{answer_told}
use Rattle.el_wav.specs.WavParseHeads.{Whole, More, IsFormatOf, ReadsHeads, coding}
use Rattle.el_wav.specs.WavParseTold.{are_bytes, as_told, head_told, info_of, info_with, is_in_limits, wav_told}
use Rattle.gst_value.proofs.Basics.{at_least as le_prop}
use Rattle.wav_format.proofs.Bodies.{bytes-cons as bytes_joined}

-- ---- bytes

bytes_front : (byte : ℕ) (bytes : List ℕ) → AreBytes (byte ∷ bytes) → AreBytes bytes
bytes_front byte bytes fine i = fine (suc i)

tests_bytes : (bytes : List ℕ) → AreBytes bytes → are_bytes bytes ≡ true
tests_bytes [] fine = refl
tests_bytes (byte ∷ bytes) fine = and_from (ltb byte 256) (are_bytes bytes) (lt-ltb byte 256 (fine 0)) (tests_bytes bytes (bytes_front byte bytes fine))

tested_bytes : (bytes : List ℕ) → are_bytes bytes ≡ true → AreBytes bytes
tested_bytes [] e = λ i. omega arith
tested_bytes (byte ∷ bytes) e =
    let parts = and_parts (ltb byte 256) (are_bytes bytes) e in
    bytes_joined byte bytes (ltb-true byte 256 parts.0) (tested_bytes bytes parts.1)

-- ---- the format of the data

-- information of the same values, whatever shows its facts
info_same : (info : Info) (a : 1 ≤ info.rate) (b : info.rate ≤ 768000) (c : 1 ≤ info.channels) (d : info.channels ≤ 64)
    → ◌≡◌ {A = Info} (record { format = info.format; rate = info.rate; channels = info.channels; some_rate = a; rate_in_range = b; some_channels = c; channels_in_range = d }) info
info_same info a b c d = rw (le_prop 1 info.rate a info.some_rate, le_prop info.rate 768000 b info.rate_in_range, le_prop 1 info.channels c info.some_channels, le_prop info.channels 64 d info.channels_in_range) refl

limits_of : (info : Info) → is_in_limits info.rate info.channels ≡ true
limits_of info =
    and_from (leb 1 info.rate) _ (le-leb 1 info.rate info.some_rate)
    (and_from (leb info.rate 768000) _ (le-leb info.rate 768000 info.rate_in_range)
    (and_from (leb 1 info.channels) (leb info.channels 64) (le-leb 1 info.channels info.some_channels) (le-leb info.channels 64 info.channels_in_range)))

whole_with : (info : Info) (within : Bool) (e : is_in_limits info.rate info.channels ≡ within) → within ≡ true → info_with info.format info.rate info.channels within e ≡ Some info
whole_with info true e is = ap Some (info_same info _ _ _ _)
whole_with info false e is = absurd cc

abbrev IsInfo : Info → Sample → ℕ → ℕ → Type 0
IsInfo info format rate channels = info_with format rate channels (is_in_limits rate channels) refl ≡ Some info

whole_at : (info : Info) (rate channels : ℕ) → rate ≡ info.rate → channels ≡ info.channels → IsInfo info info.format rate channels
whole_at info rate channels r c =
    subst (λ n. IsInfo info info.format n channels) (sym r)
    (subst (λ n. IsInfo info info.format info.rate n) (sym c) (whole_with info (is_in_limits info.rate info.channels) refl (limits_of info)))

info_is : (head : Head) (info : Info) (o : Option Sample) → o ≡ Some info.format → head.rate ≡ info.rate → head.channels ≡ info.channels → info_of o head ≡ Some info
info_is head info None e r c = absurd cc
info_is head info (Some format) e r c =
    let same : format ≡ info.format = cc in
    subst (λ f. IsInfo info f head.rate head.channels) (sym same) (whole_at info head.rate head.channels r c)

-- and what is told of it is right
with_is : (format : Sample) (rate channels : ℕ) (within : Bool) (e : is_in_limits rate channels ≡ within) (info : Info) → info_with format rate channels within e ≡ Some info → (format ≡ info.format) × (rate ≡ info.rate) × (channels ≡ info.channels)
with_is format rate channels true e info is = (cc, cc, cc)
with_is format rate channels false e info is = absurd cc

info_fits : (head : Head) (info : Info) (o : Option Sample) → info_of o head ≡ Some info → (o ≡ Some info.format) × (head.rate ≡ info.rate) × (head.channels ≡ info.channels)
info_fits head info None is = absurd cc
info_fits head info (Some format) is =
    let same = with_is format head.rate head.channels (is_in_limits head.rate head.channels) refl info is in
    (ap Some same.0, same.1, same.2)

-- ---- what is told

abbrev OnceTold : Type 0
OnceTold = (bytes : List ℕ) (answer : HeadAnswer) → AreBytes bytes → AnswerIn bytes answer → answer_told bytes ≡ answer

abbrev IsTold : Type 0
IsTold = (bytes : List ℕ) → AreBytes bytes → AnswerIn bytes (answer_told bytes)

tells : OnceTold → (bytes : List ℕ) (answer : HeadAnswer) → AreBytes bytes → AnswerIn bytes answer → wav_told bytes ≡ as_told answer
unfolding wav_told
tells once bytes answer fine is = rw (tests_bytes bytes fine) (ap as_told (once bytes answer fine is))

tells_whole : OnceTold → (bytes : List ℕ) (head : Head) (info : Info) → AreBytes bytes → BeginsWithHead bytes head → IsFormatOf head info → wav_told bytes ≡ Whole head info
tells_whole once bytes head info fine begins format =
    tells once bytes (WholeHead head) fine begins ∙ ap (head_told head) (info_is head info (coding head.tag head.bits) format.coded format.rate format.channels)

tells_more : OnceTold → (bytes : List ℕ) → AreBytes bytes → CutIn bytes → wav_told bytes ≡ More
tells_more once bytes fine (inl cut) = tells once bytes (NeedMore (opening_length (length bytes))) fine (inl (cut, refl))
tells_more once bytes fine (inr (s, reached, cut)) = tells once bytes (NeedMore (deciding s)) fine (inr (s, reached, cut, refl))

from_info : (head head' : Head) (info : Info) (o : Option Info) → head_told head' o ≡ Whole head info → (head' ≡ head) × (o ≡ Some info)
from_info head head' info None is = absurd cc
from_info head head' info (Some other) is = (cc, cc)

from_answer : (bytes : List ℕ) (answer : HeadAnswer) (head : Head) (info : Info) → AnswerIn bytes answer → as_told answer ≡ Whole head info → BeginsWithHead bytes head × IsFormatOf head info
from_answer bytes (WholeHead head') head info begins is =
    let from = from_info head head' info (info_of (coding head'.tag head'.bits) head') is in
    let fits = info_fits head' info (coding head'.tag head'.bits) from.1 in
    (subst (BeginsWithHead bytes) from.0 begins, subst (λ h. IsFormatOf h info) from.0 (record { coded = fits.0; rate = fits.1; channels = fits.2 }))
from_answer bytes (NeedMore n) head info cut is = absurd cc
from_answer bytes (Bad place kind) head info fault is = absurd cc

tells_only : IsTold → (bytes : List ℕ) (head : Head) (info : Info) (fine : Bool) → are_bytes bytes ≡ fine → cond fine (as_told (answer_told bytes)) More ≡ Whole head info → AreBytes bytes × BeginsWithHead bytes head × IsFormatOf head info
tells_only told_so bytes head info true e is =
    let fine = tested_bytes bytes e in
    let from = from_answer bytes (answer_told bytes) head info (told_so bytes fine) is in
    (fine, from.0, from.1)
tells_only told_so bytes head info false e is = absurd cc

pub tells_heads : IsTold → OnceTold → ReadsHeads wav_told
unfolding wav_told
tells_heads told_so once = record {
  whole = tells_whole once;
  more = tells_more once;
  wrong = λ bytes place kind fine fault. tells once bytes (Bad place kind) fine fault;
  only = λ bytes head info is. tells_only told_so bytes head info (are_bytes bytes) refl is;
}
