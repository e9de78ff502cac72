-- The list of a ramp source: what is owed to the pad of a ramptestsrc.
use Rattle.std.specs.Prelude.{ℕ, ◌+◌, ◌-◌, ◌*◌, ◌/◌, ◌%◌, ◌^◌, ◌==◌, ◌&&◌, nat_lt, min, Bool, false, if◌then◌else◌, ℤ, List, [], ◌∷◌, ◌++◌, map, Some}
use Rattle.std.specs.List.{range_with_len, flat_map, repeat}
use Rattle.byteorder.specs.Endian.{twos_complement}
use Rattle.audio_info.specs.Media.{caps_of}
use Rattle.audio_info.specs.Packing.{sample_bytes}
use Rattle.audio_info.specs.declared.sample.Sample.TheVariants.{S16LE}
use Rattle.flow_model.specs.Item.{Item, Buf, Ev, StreamStart, NewCaps, NewSegment, Gap, Eos}
use Rattle.flow_model.specs.Source.{time_segment}
use Rattle.el_src.specs.declared.ramp_src.Ramp.{Ramp}
use Rattle.flow_model.specs.Inherited.{tag_event as title_tag}

-- the time of a frame, in nanoseconds
abbrev pub frame_time : ℕ → ℕ → ℕ
frame_time rate frame = frame * 1000000000 / rate

-- how long so many frames from one on last: from the time of the first to the time of the one behind the last
abbrev pub frames_time : ℕ → ℕ → ℕ → ℕ
frames_time rate first count = frame_time rate (first + count) - frame_time rate first

-- the sample of a frame: its number modulo 2^16, as two's complement
abbrev pub frame_sample : ℕ → ℤ
frame_sample frame = twos_complement 2 (frame % 2 ^ 16)

-- a frame has its sample on every channel
abbrev pub frame_bytes : ℕ → ℕ → List ℕ
frame_bytes channels frame = repeat channels (sample_bytes S16LE (frame_sample frame))

-- so many frames from one on
abbrev pub frames_bytes : ℕ → ℕ → ℕ → List ℕ
frames_bytes channels first count = flat_map (frame_bytes channels) (range_with_len first count)

-- so many frames from one on as a buffer, and as a gap of the same times
abbrev pub frames_buffer : Ramp → ℕ → ℕ → Item
frames_buffer s first count = Buf (record {
  body = frames_bytes s.channels first count;
  pts = Some (frame_time s.rate first);
  duration = Some (frames_time s.rate first count);
  offset = Some first;
  discont = false;
})

abbrev pub frames_gap : Ramp → ℕ → ℕ → Item
frames_gap s first count = Ev (Gap (frame_time s.rate first) (frames_time s.rate first count))

-- whether piece k is a gap: the last of each so many is, where that number is not 0
abbrev pub is_gap : Ramp → ℕ → Bool
is_gap s k = nat_lt 0 s.gap_every && ((k + 1) % s.gap_every == 0)

-- so many frames from one on as piece k
abbrev pub piece : Ramp → ℕ → ℕ → ℕ → Item
piece s k first count = if is_gap s k then frames_gap s first count else frames_buffer s first count

-- the whole list before any seek: as many pieces as there are buffers, each of as many frames
abbrev pub ramp_list : Ramp → ℕ → List Item
ramp_list s id =
    Ev (StreamStart id) ∷ Ev (NewCaps (caps_of S16LE s.rate s.channels)) ∷ Ev (NewSegment (time_segment 0))
    ∷ (title_tag s.title ++ (map (λ k. piece s k (k * s.samples) s.samples) (range_with_len 0 s.buffers) ++ Ev Eos ∷ []))

-- how many frames there are
abbrev pub frame_count : Ramp → ℕ
frame_count s = s.buffers * s.samples

-- how many pieces there are from a frame on; the last may be shorter
abbrev pub piece_count : Ramp → ℕ → ℕ
piece_count s start = (frame_count s - start + s.samples - 1) / s.samples

-- piece k from a frame on
abbrev pub piece_at : Ramp → ℕ → ℕ → Item
piece_at s start k = piece s k (start + k * s.samples) (min s.samples (frame_count s - (start + k * s.samples)))

-- the pieces from piece k on
abbrev pub pieces_from : Ramp → ℕ → ℕ → List Item
pieces_from s start k = map (piece_at s start) (range_with_len k (piece_count s start - k))
