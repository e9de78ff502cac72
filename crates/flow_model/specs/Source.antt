-- The list of a file source: what is owed to the pad of a filesrc for the whole content of its file.
use Rattle.std.specs.Prelude.{◌≤◌, ℕ, ◌+◌, ◌-◌, ◌*◌, ◌/◌, false, List, [], ◌∷◌, ◌++◌, length, take, drop, map, Some, None}
use Rattle.std.specs.List.{range_with_len}
use Rattle.std.specs.Option.{ForSome}
use Rattle.flow_model.specs.Item.{Item, Buf, Ev, StreamStart, NewSegment, Eos, Segment, Bytes, Time}

-- a segment without a stop is in order
pub ordered_without_stop : (start : ℕ) → ForSome {T = ℕ} None (λ stop. start ≤ stop)
ordered_without_stop start = λ stop e. cc

-- the segment in bytes from a place on
abbrev pub bytes_segment : ℕ → Segment
bytes_segment start = record { format = Bytes; start = start; stop = None; time = start; base = 0; position = start; ordered = ordered_without_stop start }

-- how many blocks of a size there are from a place on; the last may be shorter
abbrev pub block_count : ℕ → ℕ → List ℕ → ℕ
block_count size start content = (length content - start + size - 1) / size

-- block k from a place on
abbrev pub block_at : ℕ → ℕ → List ℕ → ℕ → Item
block_at size start content k =
    Buf (record { body = take size (drop (start + k * size) content); pts = None; duration = None; offset = Some (start + k * size); discont = false })

-- the blocks from block k on
abbrev pub blocks_from : ℕ → ℕ → List ℕ → ℕ → List Item
blocks_from size start content k = map (block_at size start content) (range_with_len k (block_count size start content - k))

-- what is owed from a place on: the segment, the content in blocks, EOS
abbrev pub file_section : ℕ → ℕ → List ℕ → List Item
file_section size start content = Ev (NewSegment (bytes_segment start)) ∷ (blocks_from size start content 0 ++ Ev Eos ∷ [])

-- the whole list before any seek
abbrev pub file_list : ℕ → ℕ → List ℕ → List Item
file_list id size content = Ev (StreamStart id) ∷ file_section size 0 content

-- the segment in time from a time on
abbrev pub time_segment : ℕ → Segment
time_segment start = record { format = Time; start = start; stop = None; time = start; base = 0; position = start; ordered = ordered_without_stop start }
