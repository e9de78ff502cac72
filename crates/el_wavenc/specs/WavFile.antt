-- A WAV file of the RIFF WAVE format, as what is put out for it: a head of 44 bytes, the data, and one zero byte
-- behind data of an odd size.
use Rattle.std.specs.Prelude.{ℕ, ◌+◌, ◌*◌, ◌%◌, ◌==◌, if◌then◌else◌, List, [], ◌∷◌, None, Some, false, unwrap_or}
use Rattle.gst_value.specs.Description.{Description}
use Rattle.gst_value.specs.declared.one.One.{One}
use Rattle.audio_info.specs.Media.{sample_of, rate_of, channels_of}
use Rattle.audio_info.specs.Packing.{sample_width}
use Rattle.audio_info.specs.declared.sample.Sample.{Sample}
use Rattle.audio_info.specs.declared.sample.Sample.TheVariants.{S8, U8, S16LE, S16BE, S24LE, S32LE, MuLaw, ALaw}
use Rattle.wav_format.specs.Written.{written}
use Rattle.wav_format.specs.declared.head.Head.{Head}
use Rattle.flow_model.specs.Item.{Item, Buf, Ev, NewSegment}
use Rattle.flow_model.specs.Source.{bytes_segment}

-- the length of the head, behind which the data stands
abbrev pub head_length : ℕ
head_length = 44

-- the most bytes of data whose RIFF size still has 32 bits
abbrev pub most_data : ℕ
most_data = 4294967258

-- a stream by its caps, and what they say of its frames
pub record Stream : Type 0 where
  pub caps : Description One
  pub format : Sample
  pub rate : ℕ
  pub channels : ℕ

abbrev pub stream_of : Description One → Stream
stream_of caps = record {
  caps = caps;
  format = unwrap_or (sample_of caps) U8;
  rate = unwrap_or (rate_of caps) 0;
  channels = unwrap_or (channels_of caps) 0;
}

-- the bytes of a frame
abbrev pub frame_width : Stream → ℕ
frame_width s = s.channels * sample_width s.format

-- the tag of a coding: PCM and the laws of G.711
abbrev pub tag_of : Sample → ℕ
tag_of S8 = 1
tag_of U8 = 1
tag_of S16LE = 1
tag_of S16BE = 1
tag_of S24LE = 1
tag_of S32LE = 1
tag_of MuLaw = 7
tag_of ALaw = 6

-- the head of a file of so many bytes of data
abbrev pub head_of : Stream → ℕ → Head
head_of s size = record {
  tag = tag_of s.format;
  channels = s.channels;
  rate = s.rate;
  bits = 8 * sample_width s.format;
  start = head_length;
  size = Some size;
}

-- bytes for a place of the file, without times
abbrev pub bytes_at : ℕ → List ℕ → Item
bytes_at place bytes = Buf (record { body = bytes; pts = None; duration = None; offset = Some place; discont = false })

-- the bytes of the head, and what is put out for them, at the beginning of the file
unfoldable pub head_bytes : Stream → ℕ → List ℕ
head_bytes s size = written (head_of s size) size

abbrev pub head_items : Stream → ℕ → List Item
head_items s size = Ev (NewSegment (bytes_segment 0)) ∷ bytes_at 0 (head_bytes s size) ∷ []

-- the zero byte behind data of an odd size, which that size does not count
abbrev pub padding : ℕ → List Item
padding size = if size % 2 == 0 then [] else bytes_at (head_length + size) (0 ∷ []) ∷ []
