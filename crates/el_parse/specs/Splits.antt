-- The rule of an element that cuts raw audio into buffers of as many frames, after GStreamer's audiobuffersplit.
use Rattle.std.specs.Prelude.{ℕ, suc, zero, ◌==◌, ◌+◌, ◌-◌, ◌*◌, ◌/◌, ◌%◌, Bool, true, false, if◌then◌else◌, List, [], ◌∷◌, ◌++◌, length, take, drop, Option, Some, None, Result, Ok, Err, nat_lt}
use Rattle.gst_time.specs.declared.time.TheConstants.{LIMIT}
use Rattle.gst_caps.specs.Accepts.{accepts}
use Rattle.flow_model.specs.declared.fault.StreamKind.TheVariants.{SplitFrame}
use Rattle.flow_model.specs.Item.{Item, Buf, Ev, Buffer, NewCaps, NewSegment, Eos, is_buffer}
use Rattle.flow_model.specs.Call.{items}
use Rattle.flow_model.specs.Rule.{Fed, Fault, NotNegotiated, BadStream, TooLong, Response}
use Rattle.el_parse.specs.Part.{last_part, held_bytes, end_put_out}
use Rattle.flow_model.specs.Owed.{answered}
use Rattle.audio_info.specs.Templates.{raw_template}
use Rattle.el_parse.specs.Streams.{Stream, stream_of, stream_after, frames_in, part_frames, has_buffer, first_pts}
use Rattle.flow_model.specs.Looking.{bytes_got, end_of}

-- How far an element has come: the stream by the CAPS in force; whether a buffer was given since the SEGMENT, and
-- the time of the first one; the next frame, as counted since the SEGMENT; the bytes that wait; the bytes that it
-- was given since the last FLUSH_STOP; and the time of the end of what it put out.
pub record Cutting : Type 0 where
  pub stream : Option Stream
  pub begun : Bool
  pub pts : Option ℕ
  pub next : ℕ
  pub held : List ℕ
  pub got : ℕ
  pub reached : ℕ

-- looking back: what waits is what was given and not put out, and the next frame is behind those that were put out
abbrev pub cutting : Fed → Cutting
cutting fed = record {
  stream = stream_after None (items fed.given);
  begun = has_buffer (last_part (items fed.given));
  pts = first_pts (last_part (items fed.given));
  next = part_frames fed.out;
  held = held_bytes fed;
  got = bytes_got (items fed.given);
  reached = end_put_out fed;
}

-- the time of a frame, in nanoseconds, rounded down
abbrev pub time_at : Stream → ℕ → ℕ
time_at s frame = frame * 1000000000 / s.rate

-- a time behind that of the first buffer, where this one has a time
abbrev pub later_by : Option ℕ → ℕ → Option ℕ
later_by None time = None
later_by (Some pts) time = Some (pts + time)

-- the buffer of a number of frames from a frame on
abbrev pub piece : Stream → Option ℕ → ℕ → ℕ → List ℕ → Buffer
piece s pts first count body = record {
  body = body;
  pts = later_by pts (time_at s first);
  duration = Some (time_at s (first + count) - time_at s first);
  offset = Some first;
  discont = false;
}

-- an answer where the time of a frame fits, and where a time behind that of the first buffer does
abbrev pub in_time : ℕ → ℕ → Result (List Item) Fault → Result (List Item) Fault
in_time reached time r = if nat_lt time LIMIT then r else Err (TooLong reached (LIMIT - reached))

abbrev pub in_sum : Option ℕ → ℕ → Result (List Item) Fault → Result (List Item) Fault
in_sum None time r = r
in_sum (Some pts) time r = if nat_lt (pts + time) LIMIT then r else Err (TooLong pts time)

-- that buffer, where its times fit
abbrev pub timed : Stream → Option ℕ → ℕ → ℕ → ℕ → List ℕ → Result (List Item) Fault
timed s pts reached first count body =
    in_time reached (time_at s first)
    (in_sum pts (time_at s first) (in_time reached (time_at s (first + count)) (Ok (Buf (piece s pts first count body) ∷ []))))

-- one answer, and another behind it
abbrev pub ahead : Result (List Item) Fault → Result (List Item) Fault → Result (List Item) Fault
ahead (Ok xs) (Ok ys) = Ok (xs ++ ys)
ahead (Ok xs) (Err fault) = Err fault
ahead (Err fault) r = Err fault

-- so many buffers of whole frames from a frame on, one behind the other
abbrev pub pieces : Stream → Option ℕ → ℕ → ℕ → ℕ → ℕ → List ℕ → Result (List Item) Fault
pieces s pts reached frames first zero bytes = Ok []
pieces s pts reached frames first (suc n) bytes =
    ahead (timed s pts reached first frames (take (frames * s.width) bytes)) (pieces s pts reached frames (first + frames) n (drop (frames * s.width) bytes))

-- how many buffers of whole frames bytes have, these buffers, and the bytes behind them
abbrev pub whole_count : ℕ → Stream → List ℕ → ℕ
whole_count frames s bytes = length bytes / (frames * s.width)

abbrev pub whole_pieces : Stream → Option ℕ → ℕ → ℕ → ℕ → List ℕ → Result (List Item) Fault
whole_pieces s pts reached frames first bytes = pieces s pts reached frames first (whole_count frames s bytes) bytes

abbrev pub left_behind : ℕ → Stream → List ℕ → List ℕ
left_behind frames s bytes = drop (whole_count frames s bytes * (frames * s.width)) bytes

-- the time of the first buffer since the SEGMENT, with one more buffer
abbrev pub pts_with : Cutting → Buffer → Option ℕ
pts_with p b = if p.begun then p.pts else b.pts

-- What is owed for a buffer: the buffers that are whole with it. One before any CAPS is a fault, and so is one that
-- is not a whole number of frames, and one at whose end the count of bytes is too large.
abbrev pub buffer_answer : ℕ → Cutting → Buffer → Option Stream → Result (List Item) Fault
buffer_answer frames p b None = Err (NotNegotiated None raw_template)
buffer_answer frames p b (Some s) =
    if length b.body % s.width == 0 then
    (if nat_lt (p.got + length b.body) LIMIT
    then whole_pieces s (pts_with p b) p.reached frames p.next (p.held ++ b.body)
    else Err (TooLong p.got (length b.body)))
    else Err (BadStream (p.got + length b.body) SplitFrame)

-- what waits, as a shorter buffer
abbrev pub rest_by : Cutting → Option Stream → Result (List Item) Fault
rest_by p None = Ok []
rest_by p (Some s) = if length p.held == 0 then Ok [] else timed s p.pts p.reached p.next (length p.held / s.width) p.held

abbrev pub rest : Cutting → Result (List Item) Fault
rest p = rest_by p p.stream

-- What is owed for an item. What waits goes out before CAPS, which are those of raw audio, before a SEGMENT and
-- before EOS. All else passes.
abbrev pub split_answer : ℕ → Cutting → Item → Result (List Item) Fault
split_answer frames p (Buf b) = buffer_answer frames p b p.stream
split_answer frames p (Ev (NewCaps caps)) =
    if accepts raw_template caps then ahead (rest p) (Ok (Ev (NewCaps caps) ∷ [])) else Err (NotNegotiated (Some caps) raw_template)
split_answer frames p (Ev (NewSegment segment)) = ahead (rest p) (Ok (Ev (NewSegment segment) ∷ []))
split_answer frames p (Ev Eos) = ahead (rest p) (Ok (Ev Eos ∷ []))
split_answer frames p x = Ok (x ∷ [])

-- the rule of an element for buffers of so many frames
abbrev pub splits : ℕ → Response
splits frames fed x = split_answer frames (cutting fed) x

-- the time of the end of what was put out, once these were put out as well
abbrev pub reached_by : ℕ → List Item → ℕ
reached_by reached [] = reached
reached_by reached (x ∷ xs) = reached_by (if is_buffer x then end_of (x ∷ []) else reached) xs

-- how far an element is once what waits was put out
abbrev pub rested : Cutting → Cutting
rested p = record p { next = p.next + frames_in p.stream p.held; held = []; reached = reached_by p.reached (answered (rest p)) }

-- the bytes of whole buffers, where an element has so many
abbrev pub size_of : ℕ → Option Stream → ℕ
size_of frames None = 0
size_of frames (Some s) = frames * s.width

-- how far an element is behind a buffer that it took, of whose bytes and those before them so many buffers are whole
abbrev pub cut_behind : ℕ → Cutting → Buffer → ℕ → ℕ → Cutting
cut_behind frames p b size count = record {
  stream = p.stream;
  begun = true;
  pts = pts_with p b;
  next = p.next + count * frames;
  held = drop (count * size) (p.held ++ b.body);
  got = p.got + length b.body;
  reached = reached_by p.reached (answered (split_answer frames p (Buf b)));
}

-- how far an element is behind an item that it took
abbrev pub cutting_behind : ℕ → Cutting → Item → Cutting
cutting_behind frames p (Buf b) = cut_behind frames p b (size_of frames p.stream) (length (p.held ++ b.body) / size_of frames p.stream)
cutting_behind frames p (Ev (NewCaps caps)) = record (rested p) { stream = Some (stream_of caps) }
cutting_behind frames p (Ev (NewSegment segment)) = record (rested p) { begun = false; pts = None; next = 0 }
cutting_behind frames p (Ev Eos) = rested p
cutting_behind frames p x = p
