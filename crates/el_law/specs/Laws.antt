-- The rule of the elements that code and decode by the laws of ITU-T G.711. Each item that counts is recoded by
-- itself: a body sample by sample, CAPS to those of the other format, and all else passes.
use Rattle.std.specs.Prelude.{ℕ, ◌+◌, ◌*◌, ◌/◌, ◌%◌, ◌^◌, ◌==◌, false, nat_lt, List, [], ◌∷◌, length, Option, None, Some, Result, Ok, Err, if◌then◌else◌}
use Rattle.std.specs.List.{flat_map}
use Rattle.std.specs.Option.{option_map, unwrap_or}
use Rattle.std.specs.Simd.{first_chunks}
use Rattle.gst_caps.specs.Accepts.{accepts}
use Rattle.gst_value.specs.Description.{Description}
use Rattle.gst_value.specs.declared.one.One.{One}
use Rattle.flow_model.specs.declared.fault.StreamKind.TheVariants.{SplitFrame}
use Rattle.audio_info.specs.Media.{caps_of, rate_of, channels_of}
use Rattle.audio_info.specs.Packing.{sample_width, sample_value, sample_bytes}
use Rattle.audio_info.specs.declared.sample.Sample.{Sample}
use Rattle.audio_info.specs.declared.sample.Sample.TheVariants.{S16LE, MuLaw, ALaw}
use Rattle.flow_model.specs.Item.{Item, Buffer, Buf, Ev, NewCaps, body_of}
use Rattle.flow_model.specs.Call.{items}
use Rattle.flow_model.specs.Rule.{Fault, NotNegotiated, BadStream, TooLong, Response}
use Rattle.flow_model.specs.CapsInForce.{caps_in_force}
use Rattle.audio_info.specs.Templates.{sample_template}
use Rattle.el_law.specs.declared.kind.LawKind.{LawKind}
use Rattle.el_law.specs.declared.kind.LawKind.TheVariants.{MulawEnc, AlawEnc, MulawDec, AlawDec}
use Rattle.flow_model.specs.Looking.{bytes_since_flush as bytes_got}

-- the format of the samples that an element takes
abbrev pub format_in : LawKind → Sample
format_in MulawEnc = S16LE
format_in AlawEnc = S16LE
format_in MulawDec = MuLaw
format_in AlawDec = ALaw

-- the format of the samples that it puts out
abbrev pub format_out : LawKind → Sample
format_out MulawEnc = MuLaw
format_out AlawEnc = ALaw
format_out MulawDec = S16LE
format_out AlawDec = S16LE

-- the bytes of whole samples one by one, each the bytes of a sample
abbrev pub samples_in : Sample → List ℕ → List (List ℕ)
samples_in format bytes = first_chunks (sample_width format) (length bytes / sample_width format) bytes

-- the bytes of the samples of the same values in another format
abbrev pub recoded_bytes : Sample → Sample → List ℕ → List ℕ
recoded_bytes from to bytes = flat_map (λ s. sample_bytes to (sample_value from s)) (samples_in from bytes)

-- caps of the format that is put out: rate and channels stay
abbrev pub recoded_caps : LawKind → Description One → Description One
recoded_caps kind caps = caps_of (format_out kind) (unwrap_or (rate_of caps) 0) (unwrap_or (channels_of caps) 0)

-- a buffer with its body recoded: its times and its offset stay
abbrev pub recoded_buffer : LawKind → Buffer → Buffer
recoded_buffer kind b = record b { body = recoded_bytes (format_in kind) (format_out kind) b.body; discont = false }

-- an item recoded
abbrev pub recoded : LawKind → Item → Item
recoded kind (Buf b) = Buf (recoded_buffer kind b)
recoded kind (Ev (NewCaps caps)) = Ev (NewCaps (recoded_caps kind caps))
recoded kind x = x

-- the bytes of a frame of these caps
abbrev pub frame_width : LawKind → Description One → ℕ
frame_width kind caps = unwrap_or (channels_of caps) 0 * sample_width (format_in kind)

-- the bytes of a frame of the caps in force
abbrev pub frame_in_force : LawKind → List Item → Option ℕ
frame_in_force kind h = option_map (frame_width kind) (caps_in_force h)

-- What is owed for a buffer whose frames have so many bytes, behind so many. One that is not a whole number of
-- frames is a fault at its end, and so is one at whose end the count of bytes is too large.
abbrev pub buffer_answer : LawKind → ℕ → ℕ → Buffer → Result (List Item) Fault
buffer_answer kind frame got b =
    if length b.body % frame == 0 then
    (if nat_lt (got + length b.body) (2 ^ 63) then Ok (Buf (recoded_buffer kind b) ∷ []) else Err (TooLong got (length b.body)))
    else Err (BadStream (got + length b.body) SplitFrame)

-- What is owed for an item, by the bytes of a frame of the caps in force and the bytes that came since the last
-- FLUSH_STOP. CAPS outside of the template and a buffer before any CAPS are faults.
abbrev pub law_answer : LawKind → Option ℕ → ℕ → Item → Result (List Item) Fault
law_answer kind frame got (Ev (NewCaps new)) =
    if accepts (sample_template (format_in kind)) new then Ok (Ev (NewCaps (recoded_caps kind new)) ∷ [])
    else Err (NotNegotiated (Some new) (sample_template (format_in kind)))
law_answer kind None got (Buf b) = Err (NotNegotiated None (sample_template (format_in kind)))
law_answer kind (Some frame) got (Buf b) = buffer_answer kind frame got b
law_answer kind frame got x = Ok (x ∷ [])

-- the rule of an element of this kind
abbrev pub recodes : LawKind → Response
recodes kind fed x = law_answer kind (frame_in_force kind (items fed.given)) (bytes_got (items fed.given)) x

-- what is known behind an item that was taken: the bytes of a frame, and the bytes that came
abbrev pub frame_behind : LawKind → Option ℕ → Item → Option ℕ
frame_behind kind frame (Ev (NewCaps new)) = Some (frame_width kind new)
frame_behind kind frame x = frame

abbrev pub got_behind : ℕ → Item → ℕ
got_behind got x = got + length (body_of x)
