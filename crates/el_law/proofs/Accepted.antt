-- Caps that the template of an element accepts are audio, of the format that the element takes.
use Rattle.std.proofs.Common.{◌≡◌, true, ℕ, ◌*◌, ◌⊎◌, Some, None, refl, sym, ◌∙◌}
use Rattle.gst_caps.specs.Accepts.{accepts}
use Rattle.gst_value.specs.Description.{Description}
use Rattle.gst_caps.specs.declared.caps.Caps.{Caps}
use Rattle.gst_value.specs.declared.one.One.{One}
use Rattle.audio_info.specs.Media.{sample_of, rate_of, channels_of}
use Rattle.audio_info.specs.Packing.{sample_width}
use Rattle.audio_info.specs.Templates.{sample_template}
use Rattle.audio_info.specs.declared.sample.Sample.{Sample}
use Rattle.audio_info.proofs.Accepted.{IsAudio, IsThe, sample_accepted, lacks_nothing}
use Rattle.gst_value.proofs.Basics.{some_same}
use Rattle.el_law.specs.Laws.{format_in, frame_width}
use Rattle.el_law.specs.declared.kind.LawKind.{LawKind}

pub accepted_by : (kind : LawKind) (format : Sample) (wanted : Caps) (caps : Description One) → format ≡ format_in kind → wanted ≡ sample_template format → accepts wanted caps ≡ true → IsAudio (IsThe (format_in kind)) caps
accepted_by kind format wanted caps is made h = sample_accepted (format_in kind) caps (rw (made, is) at h)

pub never_other : (format : Sample) (caps : Description One) → IsAudio (IsThe format) caps → (sample_of caps ≡ None) ⊎ (rate_of caps ≡ None) ⊎ (channels_of caps ≡ None) → ⊥
never_other format caps p = lacks_nothing (IsThe format) caps (λ e. absurd (cc)) p

pub width_is : (kind : LawKind) (caps : Description One) (format : Sample) (channels width : ℕ) → IsAudio (IsThe (format_in kind)) caps → sample_of caps ≡ Some format → channels_of caps ≡ Some channels
    → width ≡ channels * sample_width format → Some width ≡ Some (frame_width kind caps)
width_is kind caps format channels width p format_is channels_are is =
    let same : format ≡ format_in kind = some_same (sym format_is ∙ p.format) in
    rw (channels_are, is, same) refl
