-- What a filesink's file holds, by the list of the sink's pad.
use Rattle.std.specs.Prelude.{ℕ, ◌+◌, Bool, true, false, List, [], if◌then◌else◌, length, fold}
use Rattle.gst_outside.specs.Bytes.{written}
use Rattle.flow_model.specs.Item.{Item, Buf, Ev, NewSegment, Eos, Segment, Format, Bytes, Time, is_flush_stop}

-- a file that is being written: its bytes, the place of the next body, and whether the stream has ended
pub record Disk : Type 0 where
  pub bytes : List ℕ
  pub place : ℕ
  pub ended : Bool

abbrev pub empty_disk : Disk
empty_disk = record { bytes = []; place = 0; ended = false }

-- a segment in bytes sets the place to its start
abbrev pub at_segment : Disk → Segment → Format → Disk
at_segment d segment Bytes = record d { place = segment.start }
at_segment d segment Time = d

-- a body is written at the place, which rises by its length; EOS ends the stream; all else is passed over
abbrev pub rendered : Disk → Item → Disk
rendered d (Buf b) = record d { bytes = written d.bytes d.place b.body; place = d.place + length b.body }
rendered d (Ev (NewSegment segment)) = at_segment d segment segment.format
rendered d (Ev Eos) = record d { ended = true }
rendered d (Ev _) = d

-- FLUSH_STOP opens the stream again, and empties the file unless it is kept
abbrev pub reopened : Bool → Disk → Disk
reopened keep d = if keep then record d { ended = false } else empty_disk

-- what stands behind an EOS, up to the next FLUSH_STOP, is passed over
abbrev pub next_disk : Bool → Disk → Item → Disk
next_disk keep d x = if is_flush_stop x then reopened keep d else (if d.ended then d else rendered d x)

abbrev pub disk_after : Bool → List Item → Disk
disk_after keep list = fold (next_disk keep) empty_disk list

-- the bytes of the file, where keep says whether a flush keeps them
abbrev pub sink_bytes : Bool → List Item → List ℕ
sink_bytes keep list = (disk_after keep list).bytes
