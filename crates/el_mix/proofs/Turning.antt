-- Frames of all channels in turn: what the code reads of the bodies that are ahead.
use Rattle.std.proofs.Common.{◌≡◌, ◌<◌, ◌≤◌, ℕ, suc, ◌+◌, ◌-◌, ◌*◌, ◌/◌, ◌^◌, Bool, true, false, if◌then◌else◌, List, [], ◌∷◌, ◌++◌, Option, Some, None, length, take, drop, map, replicate, get_or, set, ltb, refl, sym, ap, ◌∙◌, append-nil, arith}
use Rattle.std.proofs.lemmas.List.{take_all, drop_all}
use Rattle.std.proofs.lemmas.List.Edits.{map_over_more}
use Rattle.std.proofs.Math.Nat.{mul-le-mul, mul-le-mul_right, div-mul-le_self}
use Rattle.std.proofs.lemmas.Option.{same_Some as some_is}
use Rattle.audio_info.specs.declared.sample.Sample.{Sample}
use Rattle.audio_info.specs.declared.sample.Sample.TheVariants.{S8, U8, S16LE, S16BE, S24LE, S32LE, MuLaw, ALaw}
use Rattle.audio_info.specs.Packing.{sample_width}
use Rattle.el_mix.specs.declared.channel.Channel.{Channel}
use Rattle.el_mix.specs.Mono.{silence}
use Rattle.el_mix.specs.Line.{Line, first_of}
use Rattle.el_mix.specs.Taking.{lines}
use Rattle.el_mix.specs.Turns.{Ahead, least_of, next_cut, sample, turn, turns}
use Rattle.el_mix.proofs.Looping.{next_some, next_ended, turns_more}

-- a change of each channel in place
abbrev pub with_line : Channel → Line → Channel
with_line c l = record c { waiting = l }

pub each_more : (f : Channel → Channel) (given now : List Channel) (i : ℕ) (c d : Channel) → i < length given → c ≡ get_or now i c → now ≡ map f (take i given) ++ drop i given
    → d ≡ f (get_or now i c) → set now i d ≡ map f (take (i + 1) given) ++ drop (i + 1) given
each_more f given now i c d lt is e m = ap (set now i) (m ∙ ap f (sym is)) ∙ map_over_more f given now i c lt e is

pub all_each : (f : Channel → Channel) (given now : List Channel) (i : ℕ) → length given ≤ i → now ≡ map f (take i given) ++ drop i given → now ≡ map f given
all_each f given now i le e = e ∙ ap (λ zs. map f zs ++ drop i given) (take_all i given le) ∙ ap (λ zs. map f given ++ zs) (drop_all i given le) ∙ append-nil (map f given)

-- the next cut
pub cut_more : (cs : List Channel) (i : ℕ) (c : Channel) (o least : Option ℕ) (b : List ℕ) → i < length cs → c ≡ get_or cs i c → Some b ≡ first_of c.waiting.ahead → least ≡ least_of o (length b)
    → next_cut None (lines cs) ≡ next_cut o (lines (drop i cs)) → next_cut None (lines cs) ≡ next_cut least (lines (drop (i + 1) cs))
cut_more cs i c o least b lt is e l before = next_some cs i c o b lt is (sym e) before ∙ ap (λ z. next_cut z (lines (drop (i + 1) cs))) (sym l)

pub cut_small : (o least : Option ℕ) (k : ℕ) → ((n : ℕ) → o ≡ Some n → n < 2 ^ 31) → k < 2 ^ 31 → least ≡ least_of o k → (n : ℕ) → least ≡ Some n → n < 2 ^ 31
cut_small None least k f small l n e = let same : k ≡ n = some_is k n (sym l ∙ e) in omega (arith, same, small)
cut_small (Some m) least k f small l n e = go (ltb m k) (sym l ∙ e)
  where
    go : (t : Bool) → (if t then Some m else Some k) ≡ Some n → n < 2 ^ 31
    go true e = let same = some_is m n e in omega (arith, same, f m refl)
    go false e = let same = some_is k n e in omega (arith, same, small)

pub cut_stays : (cs : List Channel) (i : ℕ) (c : Channel) (o least : Option ℕ) → i < length cs → c ≡ get_or cs i c → None ≡ first_of c.waiting.ahead → c.progress.ended ≡ true → least ≡ o
    → next_cut None (lines cs) ≡ next_cut o (lines (drop i cs)) → next_cut None (lines cs) ≡ next_cut least (lines (drop (i + 1) cs))
cut_stays cs i c o least lt is e ended l before = next_ended cs i c o lt is (sym e) ended before ∙ ap (λ z. next_cut z (lines (drop (i + 1) cs))) (sym l)

pub small_stays : (o least : Option ℕ) → least ≡ o → ((n : ℕ) → o ≡ Some n → n < 2 ^ 31) → (n : ℕ) → least ≡ Some n → n < 2 ^ 31
small_stays o least l f n e = f n (sym l ∙ e)

-- a sample
pub sampled : (format : Sample) (ahead : List (List ℕ)) (left into new : List ℕ) (from width : ℕ) → Some left ≡ first_of ahead → width ≡ sample_width format
    → new ≡ into ++ take (from + width - from) (drop from left) → new ≡ into ++ sample format ahead from
sampled format [] left into new from width e is m = absurd (cc)
sampled format (b ∷ bs) left into new from width e is m =
    let count : from + width - from ≡ sample_width format = omega (arith, is) in
    m ∙ ap (λ k. into ++ take k (drop from left)) count ∙ ap (λ zs. into ++ take (sample_width format) (drop from zs)) (some_is left b e)

pub silent : (format : Sample) (ahead : List (List ℕ)) (into new : List ℕ) (from : ℕ) → None ≡ first_of ahead → new ≡ into ++ replicate (sample_width format) (silence format)
    → new ≡ into ++ sample format ahead from
silent format [] into new from e m = m
silent format (b ∷ bs) into new from e m = absurd (cc)

silence_times : (format : Sample) (byte : ℕ) → take (sample_width format) (byte ∷ byte ∷ byte ∷ byte ∷ []) ≡ replicate (sample_width format) byte
silence_times S8 byte = refl
silence_times U8 byte = refl
silence_times S16LE byte = refl
silence_times S16BE byte = refl
silence_times S24LE byte = refl
silence_times S32LE byte = refl
silence_times MuLaw byte = refl
silence_times ALaw byte = refl

pub silence_taken : (format : Sample) (byte width : ℕ) (into new : List ℕ) → width ≡ sample_width format → byte ≡ silence format
    → new ≡ into ++ take width (byte ∷ byte ∷ byte ∷ byte ∷ []) → new ≡ into ++ replicate (sample_width format) (silence format)
silence_taken format byte width into new is told m =
    m ∙ ap (λ k. into ++ take k (byte ∷ byte ∷ byte ∷ byte ∷ [])) is ∙ ap (λ zs. into ++ zs) (silence_times format byte) ∙ ap (λ b. into ++ replicate (sample_width format) b) told

-- the frames of so many bytes
pub frame_within : (bytes width frame : ℕ) → frame < bytes / width → frame * width + width ≤ bytes
frame_within bytes width frame lt =
    let more : suc frame * width ≤ bytes / width * width = mul-le-mul_right width lt in
    let all = div-mul-le_self bytes width in
    omega (arith, more, all)

pub frames_few : (bytes width n : ℕ) → bytes < 2 ^ 31 → n ≤ 64 → bytes / width * width * n < 2 ^ 64
frames_few bytes width n small few =
    let all : bytes / width * width * n ≤ bytes * 64 = mul-le-mul (div-mul-le_self bytes width) few in
    omega (arith, all, small)

pub more_turns : (format : Sample) (ls : List Ahead) (k width : ℕ) (made more : List ℕ) → width ≡ sample_width format → made ≡ turns format ls k
    → more ≡ made ++ turn format ls (k * width) → more ≡ turns format ls (k + 1)
more_turns format ls k width made more is e m = turns_more format ls k made more e (m ∙ ap (λ (w : ℕ). made ++ turn format ls (k * w)) is)

pub all_turns : (format : Sample) (ls : List Ahead) (frame bytes width : ℕ) (made : List ℕ) → width ≡ sample_width format → frame ≤ bytes / width → bytes / width ≤ frame
    → made ≡ turns format ls frame → made ≡ turns format ls (bytes / sample_width format)
all_turns format ls frame bytes width made is low high e =
    let same : frame ≡ bytes / width = omega (arith, low, high) in
    e ∙ ap (turns format ls) same ∙ ap (λ (w : ℕ). turns format ls (bytes / w)) is
