-- Values of equal parts are equal, whatever shows their facts.
use Rattle.std.proofs.Common.{◌≡◌, ◌<◌, ◌^◌, ℕ, Bool, false, Option, Some, refl, sym, subst}
use Rattle.std.proofs.Props.{props}
use Rattle.std.specs.Option.{ForSome}
use Rattle.gst_value.specs.Description.{Description}
use Rattle.gst_caps.specs.declared.caps.Caps.{Caps}
use Rattle.gst_value.specs.declared.one.One.{One}
use Rattle.audio_info.specs.Media.{sample_of, rate_of, channels_of}
use Rattle.audio_info.specs.Packing.{IsRaw}
use Rattle.audio_info.specs.declared.sample.Sample.{Sample}
use Rattle.el_convert.specs.Choice.{choice}
use Rattle.el_convert.specs.declared.convert.Convert.{Convert}
use Rattle.el_convert.specs.declared.stream.Stream.{Stream}

-- a stream with caps of the same values, whatever shows its facts
abbrev SameStream : Stream → Description One → Description One → Type 0
SameStream s offered chosen =
    (a : sample_of offered ≡ Some s.input.format) (b : rate_of offered ≡ Some s.input.rate) (c : channels_of offered ≡ Some s.input.channels) (d : IsRaw s.input.format)
    → (e : sample_of chosen ≡ Some s.output.format) (f : channels_of chosen ≡ Some s.output.channels) (g : IsRaw s.output.format)
    → record { offered = offered; input = s.input; chosen = chosen; output = s.output; format_in = a; rate_in = b; channels_in = c; raw_in = d; format_out = e; channels_out = f; raw_out = g } ≡ s

format_prop : (x : Description One) (f : Sample) → IsProp (sample_of x ≡ Some f)
format_prop x f = hlevel props

rate_prop : (x : Description One) (n : ℕ) → IsProp (rate_of x ≡ Some n)
rate_prop x n = hlevel props

channels_prop : (x : Description One) (n : ℕ) → IsProp (channels_of x ≡ Some n)
channels_prop x n = hlevel props

raw_prop : (f : Sample) → IsProp (IsRaw f)
raw_prop f = hlevel props

as_it_is : (s : Stream) → SameStream s s.offered s.chosen
as_it_is s a b c d e f g =
    rw (
      format_prop s.offered s.input.format a s.format_in,
      rate_prop s.offered s.input.rate b s.rate_in,
      channels_prop s.offered s.input.channels c s.channels_in,
      raw_prop s.input.format d s.raw_in,
      format_prop s.chosen s.output.format e s.format_out,
      channels_prop s.chosen s.output.channels f s.channels_out,
      raw_prop s.output.format g s.raw_out,
    ) refl

pub stream_same : (s : Stream) (offered chosen : Description One) → offered ≡ s.offered → chosen ≡ s.chosen → SameStream s offered chosen
stream_same s offered chosen p q =
    subst (λ (o : Description One). SameStream s o chosen) (sym p) (subst (λ (c : Description One). SameStream s s.offered c) (sym q) (as_it_is s))

-- a converter with allowed caps and a stream of the same values
abbrev IsUpToDate : Caps → Option Stream → Bool → Type 0
IsUpToDate allowed stream anew = anew ≡ false → ForSome stream (λ s. choice s.offered allowed ≡ Some s.chosen)

abbrev SameConvert : Convert → Caps → Option Stream → Type 0
SameConvert s allowed stream = (a : s.got < 2 ^ 63) (b : IsUpToDate allowed stream s.anew)
    → record { allowed = allowed; stream = stream; anew = s.anew; got = s.got; ended = s.ended; below_limit = a; up_to_date = b } ≡ s

below_prop : (n : ℕ) → IsProp (n < 2 ^ 63)
below_prop n = hlevel props

date_prop : (allowed : Caps) (stream : Option Stream) (anew : Bool) → IsProp (IsUpToDate allowed stream anew)
date_prop allowed stream anew = hlevel props

unchanged : (s : Convert) → SameConvert s s.allowed s.stream
unchanged s a b = rw (below_prop s.got a s.below_limit, date_prop s.allowed s.stream s.anew b s.up_to_date) refl

pub convert_same : (s : Convert) (allowed : Caps) (stream : Option Stream) → allowed ≡ s.allowed → stream ≡ s.stream → SameConvert s allowed stream
convert_same s allowed stream p q =
    subst (λ (a : Caps). SameConvert s a stream) (sym p) (subst (λ (o : Option Stream). SameConvert s s.allowed o) (sym q) (unchanged s))
