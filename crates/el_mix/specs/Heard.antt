-- What caps say of raw audio of one channel, and what the code keeps of it.
use Rattle.std.specs.Prelude.{ℕ, Option, None, Some}
use Rattle.gst_value.specs.Description.{Description}
use Rattle.gst_value.specs.declared.one.One.{One}
use Rattle.audio_info.specs.declared.sample.Sample.{Sample}
use Rattle.audio_info.specs.declared.info.Info.{Info}
use Rattle.audio_info.specs.Media.{sample_of, rate_of, channels_of}
use Rattle.el_mix.specs.Mono.{Mono}

abbrev pub mono_by : Info → Mono
mono_by info = record { format = info.format; rate = info.rate }

-- that of caps of audio, of any number of channels
abbrev pub heard_of : Option Sample → Option ℕ → Option ℕ → Option Mono
heard_of (Some format) (Some rate) (Some channels) = Some (record { format = format; rate = rate })
heard_of _ _ _ = None

abbrev pub heard : Description One → Option Mono
heard caps = heard_of (sample_of caps) (rate_of caps) (channels_of caps)
