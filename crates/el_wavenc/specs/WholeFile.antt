-- The file that a sink makes of what is put out.
use Rattle.std.specs.Prelude.{ℕ, ◌%◌, ◌==◌, if◌then◌else◌, List, [], ◌∷◌, ◌++◌, length}
use Rattle.flow_model.specs.Item.{Item}
use Rattle.flow_model.specs.Sticky.{since_flush_stop}
use Rattle.flow_model.specs.Call.{feeds, items}
use Rattle.flow_model.specs.Rule.{unfed, all_called}
use Rattle.flow_model.specs.Looking.{bytes_of}
use Rattle.el_wavenc.specs.WavFile.{Stream, head_bytes}
use Rattle.el_wavenc.specs.Encodes.{encodes}

-- the file of a stream with this data
abbrev pub wav_file : Stream → List ℕ → List ℕ
wav_file s data_bytes = head_bytes s (length data_bytes) ++ data_bytes ++ (if length data_bytes % 2 == 0 then [] else 0 ∷ [])

-- what is taken of items that are fed: all but those behind an EOS or a fault, up to the next FLUSH_STOP
abbrev pub taken : List Item → List Item
taken h = items (all_called encodes unfed (feeds h)).given

-- the bytes that were taken since the last FLUSH_STOP
abbrev pub data_taken : List Item → List ℕ
data_taken h = bytes_of (since_flush_stop (taken h))
