-- Raw audio by the CAPS before it: what its frames are, and how many of them items have.
use Rattle.std.specs.Prelude.{ℕ, ◌+◌, ◌*◌, ◌/◌, Bool, false, ◌||◌, if◌then◌else◌, List, [], ◌∷◌, length, Option, Some, None, unwrap_or}
use Rattle.std.specs.Option.{option_map}
use Rattle.gst_value.specs.Description.{Description}
use Rattle.gst_value.specs.declared.one.One.{One}
use Rattle.audio_info.specs.Media.{sample_of, rate_of, channels_of}
use Rattle.audio_info.specs.Packing.{sample_width}
use Rattle.audio_info.specs.declared.info.Info.{Info}
use Rattle.flow_model.specs.Item.{Item, Buf, Ev, NewCaps, is_buffer, body_of}
use Rattle.el_parse.specs.Part.{has_beginning}

-- what the frames of a stream are: the bytes of each, and how many play in a second
pub record Stream : Type 0 where
  pub width : ℕ
  pub rate : ℕ

-- by caps, and by what they say
abbrev pub stream_of : Description One → Stream
stream_of caps = record {
  width = unwrap_or (channels_of caps) 0 * unwrap_or (option_map sample_width (sample_of caps)) 0;
  rate = unwrap_or (rate_of caps) 0;
}

abbrev pub stream_by : Info → Stream
stream_by info = record { width = info.channels * sample_width info.format; rate = info.rate }

-- the stream behind an item, and behind items: that of the last CAPS among them, and else the one before
abbrev pub stream_behind : Option Stream → Item → Option Stream
stream_behind before (Ev (NewCaps caps)) = Some (stream_of caps)
stream_behind before x = before

abbrev pub stream_after : Option Stream → List Item → Option Stream
stream_after before [] = before
stream_after before (x ∷ xs) = stream_after (stream_behind before x) xs

-- the frames that bytes have; before any CAPS there are none
abbrev pub frames_in : Option Stream → List ℕ → ℕ
frames_in None bytes = 0
frames_in (Some s) bytes = length bytes / s.width

-- the frames of the last part of items, by the stream before them
abbrev pub frames_from : Option Stream → List Item → ℕ
frames_from before [] = 0
frames_from before (x ∷ xs) = (if has_beginning (x ∷ xs) then 0 else frames_in before (body_of x)) + frames_from (stream_behind before x) xs

abbrev pub part_frames : List Item → ℕ
part_frames h = frames_from None h

-- whether there is a buffer, and the time of the first one, where it has one
abbrev pub has_buffer : List Item → Bool
has_buffer [] = false
has_buffer (x ∷ xs) = is_buffer x || has_buffer xs

abbrev pub first_pts : List Item → Option ℕ
first_pts [] = None
first_pts (Buf b ∷ xs) = b.pts
first_pts (Ev e ∷ xs) = first_pts xs
