-- Frames of audio: how many bytes they have, when they play, and buffers of them.
use Rattle.std.specs.Prelude.{ℕ, ◌+◌, ◌-◌, ◌*◌, ◌/◌, List, [], ◌∷◌, Option, Some, None, false}
use Rattle.audio_info.specs.declared.info.Info.{Info}
use Rattle.audio_info.specs.Packing.{sample_width}
use Rattle.audio_info.specs.Media.{caps_of}
use Rattle.flow_model.specs.Source.{time_segment}
use Rattle.flow_model.specs.Item.{Item, Buf, Ev, NewCaps, NewSegment, Buffer, Format, Bytes, Time}

-- the bytes of a frame
abbrev pub frame_width : Info → ℕ
frame_width info = info.channels * sample_width info.format

-- the time of a frame, in nanoseconds, rounded down
abbrev pub frame_time : Info → ℕ → ℕ
frame_time info frame = frame * 1000000000 / info.rate

-- what stands before frames: their caps, and the segment from the time of the first one on
abbrev pub opening : Info → ℕ → List Item
opening info start = Ev (NewCaps (caps_of info.format info.rate info.channels)) ∷ Ev (NewSegment (time_segment start)) ∷ []

-- the buffer of a number of frames from a frame on
abbrev pub frames_buffer : Info → ℕ → ℕ → List ℕ → Buffer
frames_buffer info first count body = record {
  body = body;
  pts = Some (frame_time info first);
  duration = Some (frame_time info (first + count) - frame_time info first);
  offset = Some first;
  discont = false;
}

-- the frame at which a segment begins: one in bytes at the frame of its start, and one in time at frame 0
abbrev pub frame_at : ℕ → ℕ → Format → ℕ
frame_at width start Bytes = start / width
frame_at width start Time = 0

-- the frame at which the first item begins, where it is a SEGMENT, and 0 where there is none
abbrev pub first_frame : Info → List Item → ℕ
first_frame info (Ev (NewSegment s) ∷ xs) = frame_at (frame_width info) s.start s.format
first_frame info _ = 0

-- the bytes of a body that may be missing
abbrev pub bytes_in : Option (List ℕ) → List ℕ
bytes_in None = []
bytes_in (Some body) = body

-- a buffer that may be missing, as a list of items
abbrev pub buffers_of : Option Buffer → List Item
buffers_of None = []
buffers_of (Some b) = Buf b ∷ []
