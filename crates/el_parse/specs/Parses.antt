-- The rule of a parser of raw audio, after GStreamer's rawaudioparse.
use Rattle.std.specs.Prelude.{◌≡◌, ◌≤◌, ℕ, ◌==◌, ◌+◌, ◌-◌, ◌*◌, ◌/◌, Bool, true, if◌then◌else◌, List, [], ◌∷◌, ◌++◌, length, take, drop, Result, Ok, Err, nat_lt}
use Rattle.gst_time.specs.declared.time.TheConstants.{LIMIT}
use Rattle.flow_model.specs.declared.fault.ElementFault.{ElementFault}
use Rattle.flow_model.specs.declared.fault.ElementFault.TheVariants.{TooLong as Passing, OutOfMemory as Wanting}
use Rattle.audio_info.specs.declared.info.Info.{Info}
use Rattle.flow_model.specs.Item.{Item, Buf, Ev, NewCaps, NewSegment}
use Rattle.flow_model.specs.Sticky.{in_force}
use Rattle.flow_model.specs.Call.{items}
use Rattle.flow_model.specs.Rule.{Fed, Fault, TooLong, Response}
use Rattle.el_parse.specs.Part.{part_bytes, held_bytes, end_put_out}
use Rattle.flow_model.specs.Looking.{has_opened}
use Rattle.el_parse.specs.Frames.{frame_width, frame_time, opening, frames_buffer, frame_at, first_frame}

-- How far a parser has come: whether it put out a SEGMENT, the next frame, the bytes that it was given and did
-- not put out, and the time of the end of what it put out.
pub record Progress : Type 0 where
  pub opened : Bool
  pub next : ℕ
  pub held : List ℕ
  pub reached : ℕ

-- Looking back: the next frame is the one at which the segment begins, and as many more as were put out since.
abbrev pub progress : Info → Fed → Progress
progress info fed = record {
  opened = has_opened fed;
  next = first_frame info (in_force (items fed.given)).segment + length (part_bytes fed.out) / frame_width info;
  held = held_bytes fed;
  reached = end_put_out fed;
}

-- what may be put out where the time of a frame fits
abbrev pub in_time : Info → Progress → ℕ → List Item → Result (List Item) Fault
in_time info p frame ys = if nat_lt (frame_time info frame) LIMIT then Ok ys else Err (TooLong p.reached (LIMIT - p.reached))

-- a section without a SEGMENT begins as if one in bytes from 0 stood there
abbrev pub beginning : Info → Progress → List Item
beginning info p = if p.opened then [] else opening info 0

-- the first frames of bytes that wait, as one buffer
abbrev pub whole_frames : Info → Progress → List ℕ → ℕ → Result (List Item) Fault
whole_frames info p bytes count =
    if count == 0 then Ok (beginning info p)
    else in_time info p (p.next + count) (beginning info p ++ Buf (frames_buffer info p.next count (take (count * frame_width info) bytes)) ∷ [])

-- What a parser owes for an item: for a SEGMENT, caps and a SEGMENT in time; for a buffer, the whole frames that
-- are complete with it; for CAPS nothing. All else passes.
abbrev pub parse_answer : Info → Progress → Item → Result (List Item) Fault
parse_answer info p (Buf b) = whole_frames info p (p.held ++ b.body) (length (p.held ++ b.body) / frame_width info)
parse_answer info p (Ev (NewSegment s)) =
    in_time info p (frame_at (frame_width info) s.start s.format) (opening info (frame_time info (frame_at (frame_width info) s.start s.format)))
parse_answer info p (Ev (NewCaps caps)) = Ok []
parse_answer info p x = Ok (x ∷ [])

abbrev pub parses : Info → Response
parses info fed x = parse_answer info (progress info fed) x

-- how far a parser is once a number of frames of the bytes that wait were put out
abbrev pub put_frames : Info → Progress → List ℕ → ℕ → Progress
put_frames info p bytes count = record {
  opened = true;
  next = p.next + count;
  held = drop (count * frame_width info) bytes;
  reached = if count == 0 then p.reached else frame_time info (p.next + count);
}

-- how far a parser is behind an item that it took
abbrev pub progress_behind : Info → Progress → Item → Progress
progress_behind info p (Buf b) = put_frames info p (p.held ++ b.body) (length (p.held ++ b.body) / frame_width info)
progress_behind info p (Ev (NewSegment s)) = record { opened = true; next = frame_at (frame_width info) s.start s.format; held = []; reached = p.reached }
progress_behind info p x = p

-- a fault at a frame whose time does not fit; memory may be wanting at any item
abbrev pub IsLate : Info → Progress → ℕ → ElementFault → Type 0
IsLate info p frame (Passing a b) = (LIMIT ≤ frame_time info frame) × (a ≡ p.reached) × (b ≡ LIMIT - p.reached)
IsLate info p frame Wanting = Unit {0}
IsLate info p frame _ = ⊥
