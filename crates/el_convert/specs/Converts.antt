-- The rule of an element that converts raw audio to what is allowed behind it, as GStreamer's audioconvert.
use Rattle.std.specs.Prelude.{ℕ, ◌+◌, ◌*◌, ◌%◌, ◌^◌, ◌==◌, false, nat_lt, List, [], ◌∷◌, ◌++◌, length, Option, None, Some, Result, Ok, Err, if◌then◌else◌}
use Rattle.gst_caps.specs.Accepts.{accepts}
use Rattle.gst_value.specs.Description.{Description}
use Rattle.gst_caps.specs.declared.caps.Caps.{Caps}
use Rattle.gst_value.specs.declared.one.One.{One}
use Rattle.flow_model.specs.declared.fault.StreamKind.TheVariants.{SplitFrame}
use Rattle.audio_info.specs.Packing.{sample_width}
use Rattle.flow_model.specs.Item.{Item, Buffer, Buf, Ev, NewCaps, body_of}
use Rattle.flow_model.specs.Call.{Call, Feed, Act, Drain, Set, Filter, Allowed, Drops, items}
use Rattle.flow_model.specs.Rule.{Fed, Fault, NotNegotiated, BadStream, TooLong, Response}
use Rattle.flow_model.specs.CapsInForce.{caps_in_force, caps_behind}
use Rattle.flow_model.specs.Owed.{answered}
use Rattle.audio_info.specs.Templates.{raw_template}
use Rattle.el_convert.specs.Raw.{format_in, channels_in}
use Rattle.gst_caps.specs.Same.{same_caps}
use Rattle.el_convert.specs.Choice.{choice}
use Rattle.el_convert.specs.Bodies.{converted_bytes}
use Rattle.flow_model.specs.Looking.{bytes_since_flush as bytes_got}

-- the allowed caps: those that were set last, and the first ones where none were set
abbrev pub allowed_in : Caps → List Call → Caps
allowed_in allowed [] = allowed
allowed_in allowed (Feed x ∷ calls) = allowed_in allowed calls
allowed_in allowed (Act Drain ∷ calls) = allowed_in allowed calls
allowed_in allowed (Act (Set (Filter caps)) ∷ calls) = allowed_in allowed calls
allowed_in allowed (Act (Set (Allowed caps)) ∷ calls) = allowed_in caps calls
allowed_in allowed (Act (Set (Drops drops)) ∷ calls) = allowed_in allowed calls

-- What the rule looks back at: the allowed caps, the caps of the stream, the choice that was put out last, and the
-- bytes that came since the last FLUSH_STOP.
pub record Known : Type 0 where
  pub allowed : Caps
  pub offered : Option (Description One)
  pub chosen : Option (Description One)
  pub got : ℕ

abbrev pub known : Caps → Fed → Known
known first fed =
    record {
      allowed = allowed_in first fed.given;
      offered = caps_in_force (items fed.given);
      chosen = caps_in_force fed.out;
      got = bytes_got (items fed.given);
    }

-- a buffer of the one caps as one of the other: its times and its offset stay
abbrev pub converted_buffer : Description One → Description One → Buffer → Buffer
converted_buffer from to b = record b { body = converted_bytes (format_in from) (format_in to) (channels_in from) (channels_in to) b.body; discont = false }

-- CAPS go out before a buffer where the choice is another one than before
abbrev pub caps_before : Option (Description One) → Description One → List Item
caps_before None to = Ev (NewCaps to) ∷ []
caps_before (Some last) to = if same_caps last to then [] else Ev (NewCaps to) ∷ []

-- the bytes of a frame
abbrev pub frame_width : Description One → ℕ
frame_width caps = channels_in caps * sample_width (format_in caps)

-- A buffer that is not a whole number of frames is a fault at its end, and so is one at whose end the count of bytes
-- is too large.
abbrev pub whole_frames : ℕ → ℕ → Buffer → List Item → Result (List Item) Fault
whole_frames frame got b owed =
    if length b.body % frame == 0 then
    (if nat_lt (got + length b.body) (2 ^ 63) then Ok owed else Err (TooLong got (length b.body)))
    else Err (BadStream (got + length b.body) SplitFrame)

-- what is owed for a buffer of these caps, by the choice for them
abbrev pub buffer_answer : Known → Description One → Option (Description One) → Buffer → Result (List Item) Fault
buffer_answer k from None b = Err (NotNegotiated (Some from) k.allowed)
buffer_answer k from (Some to) b = whole_frames (frame_width from) k.got b (caps_before k.chosen to ++ Buf (converted_buffer from to b) ∷ [])

-- what is owed for CAPS, by the choice for them
abbrev pub caps_answer : Known → Description One → Option (Description One) → Result (List Item) Fault
caps_answer k new None = Err (NotNegotiated (Some new) k.allowed)
caps_answer k new (Some to) = Ok (Ev (NewCaps to) ∷ [])

-- a buffer, by the caps of the stream
abbrev pub fed_buffer : Known → Option (Description One) → Buffer → Result (List Item) Fault
fed_buffer k None b = Err (NotNegotiated None raw_template)
fed_buffer k (Some from) b = buffer_answer k from (choice from k.allowed) b

-- What is owed for an item. CAPS put the choice for them out, and a buffer is converted to the choice of its moment.
-- CAPS outside of the template, CAPS and buffers for which there is no choice, and a buffer before any CAPS are faults.
abbrev pub convert_answer : Known → Item → Result (List Item) Fault
convert_answer k (Ev (NewCaps new)) =
    if accepts raw_template new then caps_answer k new (choice new k.allowed) else Err (NotNegotiated (Some new) raw_template)
convert_answer k (Buf b) = fed_buffer k k.offered b
convert_answer k x = Ok (x ∷ [])

-- the rule of a converter that begins with these allowed caps
abbrev pub converts : Caps → Response
converts first fed x = convert_answer (known first fed) x

-- the caps in force behind more items
abbrev pub caps_after : Option (Description One) → List Item → Option (Description One)
caps_after caps [] = caps
caps_after caps (x ∷ xs) = caps_after (caps_behind caps x) xs

-- what is known behind an item that was taken
abbrev pub known_behind : Known → Item → Known
known_behind k x =
    record {
      allowed = k.allowed;
      offered = caps_behind k.offered x;
      chosen = caps_after k.chosen (answered (convert_answer k x));
      got = k.got + length (body_of x);
    }
