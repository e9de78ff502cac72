-- What caps within the template say.
use Rattle.std.proofs.Common.{◌≡◌, ℕ, pos, negsuc, true, Option, Some, None, codes, refl, sym, ◌∙◌, subst, is_some, int_eq}
use Rattle.std.specs.Prelude.{unwrap_or}
use Rattle.std.specs.Str.{bytes_eq}
use Rattle.std.proofs.lemmas.Bool.{and_from}
use Rattle.std.proofs.lemmas.Bool.Decides.{Decides-int_eq}
use Rattle.gst_caps.specs.Accepts.{value_at, contains_given, takes, accepts}
use Rattle.gst_caps.specs.declared.value.Value.TheVariants.{One as Single}
use Rattle.gst_value.specs.Description.{Description}
use Rattle.gst_value.specs.declared.one.One.{One}
use Rattle.gst_value.specs.declared.one.One.TheVariants.{Int, Bool as Truth, Text as Words, Fraction, IntRange}
use Rattle.gst_value.proofs.Basics.{or_false, and_left, and_right}
use Rattle.audio_info.specs.declared.sample.Sample.{Sample}
use Rattle.audio_info.specs.declared.sample.Sample.TheVariants.{S16LE}
use Rattle.audio_info.specs.Media.{sample_of, rate_of, channels_of}
use Rattle.audio_info.specs.Templates.{up_to_most, raw_template, raw_formats, raw_structure}
use Rattle.audio_info.proofs.Accepted.{raw_accepted, only_takes}
use Rattle.el_mix.specs.Mono.{mono_of, mono_structure, mono_template}
use Rattle.el_mix.specs.Heard.{heard, heard_of}

-- one channel is a number of channels
is_one : (v : Option One) → contains_given (Single (Int (pos 1))) v ≡ true → contains_given (up_to_most 64) v ≡ true
is_one None h = absurd (cc)
is_one (Some (Int (pos n))) h =
    let same : pos 1 ≡ pos n = (Decides-int_eq (pos 1) (pos n)).0 (sym (or_false (int_eq (pos 1) (pos n))) ∙ h) in
    subst (λ k. contains_given (up_to_most 64) (Some (Int k)) ≡ true) same refl
is_one (Some (Int (negsuc n))) h = absurd (cc)
is_one (Some (Truth b)) h = absurd (cc)
is_one (Some (Words t)) h = absurd (cc)
is_one (Some (Fraction a b)) h = absurd (cc)
is_one (Some (IntRange a b)) h = absurd (cc)

-- so caps of one channel are raw audio
raw_too : (caps : Description One) → accepts mono_template caps ≡ true → accepts raw_template caps ≡ true
raw_too caps h =
    let whole = only_takes mono_structure caps h in
    let all = and_right (bytes_eq (codes "audio/x-raw") caps.media) _ whole in
    let many = is_one (value_at (codes "channels") caps.fields) (and_left _ _ all) in
    let rest = and_right (contains_given (Single (Int (pos 1))) (value_at (codes "channels") caps.fields)) _ all in
    or_false (takes (raw_structure raw_formats) caps) ∙ and_from _ _ (and_left (bytes_eq (codes "audio/x-raw") caps.media) _ whole) (and_from _ _ many rest)

heard_some : (format : Option Sample) (rate channels : Option ℕ) → is_some format ≡ true → is_some rate ≡ true → is_some channels ≡ true
    → heard_of format rate channels ≡ Some (record { format = unwrap_or format S16LE; rate = unwrap_or rate 0 })
heard_some None rate channels f r c = absurd (cc)
heard_some (Some s) None channels f r c = absurd (cc)
heard_some (Some s) (Some n) None f r c = absurd (cc)
heard_some (Some s) (Some n) (Some k) f r c = refl

pub heard_accepted : (caps : Description One) → accepts mono_template caps ≡ true → heard caps ≡ Some (mono_of caps)
heard_accepted caps h =
    let audio = raw_accepted caps (raw_too caps h) in
    heard_some (sample_of caps) (rate_of caps) (channels_of caps) audio.format audio.some_rate audio.some_channels
