-- The rule of an element that writes WAV files, after GStreamer's wavenc.
use Rattle.std.specs.Prelude.{ℕ, ◌+◌, ◌%◌, ◌==◌, Bool, true, ◌||◌, if◌then◌else◌, nat_le, List, [], ◌∷◌, ◌++◌, length, Option, Some, None, is_some, Result, Ok, Err}
use Rattle.std.specs.Option.{option_map}
use Rattle.gst_caps.specs.Accepts.{accepts}
use Rattle.gst_value.specs.Description.{Description}
use Rattle.gst_value.specs.declared.one.One.{One}
use Rattle.flow_model.specs.declared.fault.StreamKind.TheVariants.{SplitFrame, TooLarge}
use Rattle.flow_model.specs.Item.{Item, Buf, Ev, Buffer, NewCaps, NewSegment, Gap, Eos, is_caps}
use Rattle.flow_model.specs.Sticky.{latest, since_flush_stop}
use Rattle.flow_model.specs.Call.{items}
use Rattle.flow_model.specs.Rule.{Fed, Fault, NotNegotiated, BadStream, Response}
use Rattle.flow_model.specs.CapsInForce.{caps_in_force}
use Rattle.flow_model.specs.Looking.{has_opened, bytes_got}
use Rattle.gst_caps.specs.Same.{same_caps}
use Rattle.audio_info.specs.Alone.{exactly}
use Rattle.audio_info.specs.Templates.{wav_template}
use Rattle.el_wavenc.specs.Templates.{wav_caps}
use Rattle.el_wavenc.specs.WavFile.{Stream, stream_of, frame_width, head_length, most_data, bytes_at, head_items, padding}
use Rattle.gst_item.specs.Item.{has_item}

-- How far an element has come: the stream by the CAPS in force; and of what came since the last FLUSH_STOP, whether
-- CAPS did, whether the file was begun, and how many bytes of data it has.
pub record Progress : Type 0 where
  pub stream : Option Stream
  pub announced : Bool
  pub opened : Bool
  pub size : ℕ

-- looking back: CAPS stay in force over a FLUSH_STOP, and the file was begun where a SEGMENT was put out
abbrev pub progress : Fed → Progress
progress fed = record {
  stream = option_map stream_of (caps_in_force (items fed.given));
  announced = has_item (latest is_caps (since_flush_stop (items fed.given)));
  opened = has_opened fed;
  size = bytes_got (items fed.given);
}

-- what begins the file: a head of no data, which holds its place
abbrev pub opening : Progress → Stream → List Item
opening p s = if p.opened then [] else head_items s 0

-- what ends it: the head again, with the size of the data
abbrev pub file_end : Progress → Option Stream → List Item
file_end p None = []
file_end p (Some s) = opening p s ++ (padding p.size ++ head_items s p.size)

abbrev pub ending : Progress → List Item
ending p = file_end p p.stream

-- What is owed for a buffer: its bytes, behind those before them. One before any CAPS is a fault, and so are one that
-- is not a whole number of frames and one with which the data is too large.
abbrev pub buffer_answer : Progress → Buffer → Option Stream → Result (List Item) Fault
buffer_answer p b None = Err (NotNegotiated None wav_template)
buffer_answer p b (Some s) =
    if length b.body % frame_width s == 0 then
    (if nat_le (p.size + length b.body) most_data
    then Ok (opening p s ++ bytes_at (head_length + p.size) b.body ∷ [])
    else Err (BadStream p.size TooLarge))
    else Err (BadStream (p.size + length b.body) SplitFrame)

-- the CAPS of the file, which go out with the first CAPS
abbrev pub announcement : Progress → List Item
announcement p = if p.announced then [] else Ev (NewCaps wav_caps) ∷ []

-- the caps that a file has, once there are CAPS or it was begun by those before the FLUSH_STOP
abbrev pub settled : Progress → Option (Description One)
settled p = if (p.announced || p.opened) then option_map (λ (s : Stream). s.caps) p.stream else None

-- what is owed for CAPS: they are those of the file, or any of the template
abbrev pub caps_answer : Progress → Description One → Option (Description One) → Result (List Item) Fault
caps_answer p caps None = if accepts wav_template caps then Ok (announcement p) else Err (NotNegotiated (Some caps) wav_template)
caps_answer p caps (Some first) = if same_caps first caps then Ok (announcement p) else Err (NotNegotiated (Some caps) (exactly first))

-- What is owed for an item. SEGMENTs and GAPs are dropped, EOS ends the file, and all else passes.
abbrev pub encode_answer : Progress → Item → Result (List Item) Fault
encode_answer p (Buf b) = buffer_answer p b p.stream
encode_answer p (Ev (NewCaps caps)) = caps_answer p caps (settled p)
encode_answer p (Ev (NewSegment segment)) = Ok []
encode_answer p (Ev (Gap pts duration)) = Ok []
encode_answer p (Ev Eos) = Ok (ending p ++ Ev Eos ∷ [])
encode_answer p x = Ok (x ∷ [])

abbrev pub encodes : Response
encodes fed x = encode_answer (progress fed) x

-- how far an element is once it ended its file
abbrev pub finished : Progress → Progress
finished p = record p { opened = p.opened || is_some p.stream }

-- the stream behind CAPS
abbrev pub stream_behind : Progress → Description One → Option (Description One) → Option Stream
stream_behind p caps None = Some (stream_of caps)
stream_behind p caps (Some first) = p.stream

-- how far an element is behind an item that it took
abbrev pub progress_behind : Progress → Item → Progress
progress_behind p (Buf b) = record p { opened = true; size = p.size + length b.body }
progress_behind p (Ev (NewCaps caps)) = record p { stream = stream_behind p caps (settled p); announced = true }
progress_behind p (Ev Eos) = finished p
progress_behind p x = p
