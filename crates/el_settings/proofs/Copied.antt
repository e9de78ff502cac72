-- Settings of equal parts are equal, whatever shows their bounds.
use Rattle.std.proofs.Common.{◌≡◌, ◌≤◌, ◌<◌, ◌*◌, ◌/◌, ◌^◌, ℕ, List, Option, refl, sym, subst}
use Rattle.std.proofs.Props.{props}
use Rattle.audio_info.specs.declared.info.Info.{Info}
use Rattle.audio_info.specs.declared.sample.Sample.{Sample}
use Rattle.el_src.specs.declared.ramp_src.Ramp.{Ramp}
use Rattle.el_settings.specs.declared.pads.MadePads.{MadePads}
use Rattle.el_settings.specs.declared.settings.FileSrcSettings.{FileSrcSettings}
use Rattle.el_settings.specs.declared.settings.RampTestSrcSettings.{RampTestSrcSettings}
use Rattle.el_settings.specs.declared.settings.AudioBufferSplitSettings.{AudioBufferSplitSettings}
use Rattle.gst_value.proofs.Basics.{at_least}

abbrev SameFile : FileSrcSettings → List ℕ → Type 0
SameFile s location = (a : 1 ≤ s.blocksize) (b : s.blocksize ≤ 1048576) → record { location = location; blocksize = s.blocksize; some = a; small = b } ≡ s

below : (n limit : ℕ) → IsProp (n < limit)
below n limit = hlevel props

as_it_is : (s : FileSrcSettings) → SameFile s s.location
as_it_is s a b = rw (at_least 1 s.blocksize a s.some, at_least s.blocksize 1048576 b s.small) refl

pub file_same : (s : FileSrcSettings) (location : List ℕ) → location ≡ s.location → SameFile s location
file_same s location p = subst (λ (l : List ℕ). SameFile s l) (sym p) (as_it_is s)

-- a ramp of the same values
abbrev SameRamp : RampTestSrcSettings → Ramp → Type 0
SameRamp s ramp =
    (a : ramp.buffers ≤ 1000000) (b : 1 ≤ ramp.samples) (c : ramp.samples ≤ 65536) (d : 1 ≤ ramp.rate) (e : ramp.rate ≤ 768000) (f : 1 ≤ ramp.channels) (g : ramp.channels ≤ 64)
    → (h : ramp.gap_every ≤ 1000000) (i : ramp.buffers * ramp.samples * 1000000000 / ramp.rate < 2 ^ 63)
    → record { ramp = ramp; few_buffers = a; some_samples = b; few_samples = c; some_rate = d; rate_in_range = e; some_channels = f; few_channels = g; few_gaps = h; times_fit = i } ≡ s

ramp_as_it_is : (s : RampTestSrcSettings) → SameRamp s s.ramp
ramp_as_it_is s a b c d e f g h i =
    rw (
      at_least s.ramp.buffers 1000000 a s.few_buffers,
      at_least 1 s.ramp.samples b s.some_samples,
      at_least s.ramp.samples 65536 c s.few_samples,
      at_least 1 s.ramp.rate d s.some_rate,
      at_least s.ramp.rate 768000 e s.rate_in_range,
      at_least 1 s.ramp.channels f s.some_channels,
      at_least s.ramp.channels 64 g s.few_channels,
      at_least s.ramp.gap_every 1000000 h s.few_gaps,
      below (s.ramp.buffers * s.ramp.samples * 1000000000 / s.ramp.rate) (2 ^ 63) i s.times_fit,
    ) refl

pub ramp_by : (s : RampTestSrcSettings) (ramp : Ramp) → ramp ≡ s.ramp → SameRamp s ramp
ramp_by s ramp p = subst (λ (r : Ramp). SameRamp s r) (sym p) (ramp_as_it_is s)

pub ramp_parts : (r t : Ramp) → r.buffers ≡ t.buffers → r.samples ≡ t.samples → r.rate ≡ t.rate → r.channels ≡ t.channels → r.gap_every ≡ t.gap_every → r.title ≡ t.title → r ≡ t
ramp_parts r t a b c d e f =
    let P : ℕ → ℕ → ℕ → ℕ → ℕ → Option (List ℕ) → Type 0 = λ n m k l g o. record { buffers = n; samples = m; rate = k; channels = l; gap_every = g; title = o } ≡ t in
    subst (λ (n : ℕ). P n r.samples r.rate r.channels r.gap_every r.title) (sym a)
    (subst (λ (n : ℕ). P t.buffers n r.rate r.channels r.gap_every r.title) (sym b)
    (subst (λ (n : ℕ). P t.buffers t.samples n r.channels r.gap_every r.title) (sym c)
    (subst (λ (n : ℕ). P t.buffers t.samples t.rate n r.gap_every r.title) (sym d)
    (subst (λ (n : ℕ). P t.buffers t.samples t.rate t.channels n r.title) (sym e)
    (subst (λ (o : Option (List ℕ)). P t.buffers t.samples t.rate t.channels t.gap_every o) (sym f) refl)))))

pub ramp_same : (s t : RampTestSrcSettings) → s.ramp.buffers ≡ t.ramp.buffers → s.ramp.samples ≡ t.ramp.samples → s.ramp.rate ≡ t.ramp.rate → s.ramp.channels ≡ t.ramp.channels
    → s.ramp.gap_every ≡ t.ramp.gap_every → s.ramp.title ≡ t.ramp.title → s ≡ t
ramp_same s t a b c d e f =
    ramp_by t s.ramp (ramp_parts s.ramp t.ramp a b c d e f) s.few_buffers s.some_samples s.few_samples s.some_rate s.rate_in_range s.some_channels s.few_channels s.few_gaps s.times_fit

-- the same ramp but for a title of the same words
pub titled : (s : RampTestSrcSettings) (title : Option (List ℕ)) → title ≡ s.ramp.title → SameRamp s (record { buffers = s.ramp.buffers; samples = s.ramp.samples; rate = s.ramp.rate; channels = s.ramp.channels; gap_every = s.ramp.gap_every; title = title })
titled s title p =
    ramp_by s _ (ramp_parts (record { buffers = s.ramp.buffers; samples = s.ramp.samples; rate = s.ramp.rate; channels = s.ramp.channels; gap_every = s.ramp.gap_every; title = title }) s.ramp refl refl refl refl refl p)

-- buffers of as many frames
abbrev SameSplit : AudioBufferSplitSettings → ℕ → Type 0
SameSplit s frames = (a : 1 ≤ frames) (b : frames ≤ 1000000) → record { frames = frames; some = a; few = b } ≡ s

split_as_it_is : (s : AudioBufferSplitSettings) → SameSplit s s.frames
split_as_it_is s a b = rw (at_least 1 s.frames a s.some, at_least s.frames 1000000 b s.few) refl

pub split_same : (s t : AudioBufferSplitSettings) → s.frames ≡ t.frames → s ≡ t
split_same s t p = subst (λ (n : ℕ). SameSplit t n) (sym p) (split_as_it_is t) s.some s.few

-- raw audio of the same values
abbrev SameInfo : Info → Sample → ℕ → ℕ → Type 0
SameInfo s format rate channels = (a : 1 ≤ rate) (b : rate ≤ 768000) (c : 1 ≤ channels) (d : channels ≤ 64)
    → record { format = format; rate = rate; channels = channels; some_rate = a; rate_in_range = b; some_channels = c; channels_in_range = d } ≡ s

info_as_it_is : (s : Info) → SameInfo s s.format s.rate s.channels
info_as_it_is s a b c d =
    rw (at_least 1 s.rate a s.some_rate, at_least s.rate 768000 b s.rate_in_range, at_least 1 s.channels c s.some_channels, at_least s.channels 64 d s.channels_in_range) refl

pub info_same : (s t : Info) → s.format ≡ t.format → s.rate ≡ t.rate → s.channels ≡ t.channels → s ≡ t
info_same s t f r c =
    subst (λ (x : Sample). SameInfo t x s.rate s.channels) (sym f)
    (subst (λ (n : ℕ). SameInfo t t.format n s.channels) (sym r)
    (subst (λ (n : ℕ). SameInfo t t.format t.rate n) (sym c) (info_as_it_is t)))
    s.some_rate s.rate_in_range s.some_channels s.channels_in_range

-- so many pads are so many, whatever shows that they are few
abbrev SamePads : MadePads → ℕ → Type 0
SamePads s count = (a : count ≤ 64) → record { count = count; few = a } ≡ s

pads_as_they_are : (s : MadePads) → SamePads s s.count
pads_as_they_are s a = rw (at_least s.count 64 a s.few) refl

pub pads_same : (s t : MadePads) → s.count ≡ t.count → s ≡ t
pads_same s t p = subst (λ (n : ℕ). SamePads t n) (sym p) (pads_as_they_are t) s.few
