-- A whole WAV file that is read, and the frames of its data.
use Rattle.std.specs.Prelude.{ℕ, ◌*◌, ◌/◌, List, ◌∷◌, length, take, drop, map}
use Rattle.audio_info.specs.declared.info.Info.{Info}
use Rattle.wav_format.specs.declared.head.Head.{Head}
use Rattle.flow_model.specs.Item.{Item, Buf, Ev, Buffer, StreamStart, NewSegment}
use Rattle.flow_model.specs.Source.{bytes_segment}
use Rattle.flow_model.specs.Looking.{bytes_of}
use Rattle.el_parse.specs.Frames.{frame_width}
use Rattle.el_wav.specs.WavParseRule.{within}

-- what is fed of a file, up to its EOS: STREAM_START, the SEGMENT from its start, and its bytes in buffers
abbrev pub opened_file : ℕ → List Buffer → List Item
opened_file id bodies = Ev (StreamStart id) ∷ Ev (NewSegment (bytes_segment 0)) ∷ map Buf bodies

-- the bytes of the file, one body behind the other
abbrev pub file_bytes : List Buffer → List ℕ
file_bytes bodies = bytes_of (map Buf bodies)

-- the data of a file with this head
abbrev pub data_of : Head → List ℕ → List ℕ
data_of head bytes = within head.size 0 (drop head.start bytes)

-- bytes without a part of a frame at their end
abbrev pub whole_frames : Info → List ℕ → List ℕ
whole_frames info bytes = take (length bytes / frame_width info * frame_width info) bytes
