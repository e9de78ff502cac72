-- For which lists a filesink stands: its file is what the list writes.
use Rattle.std.specs.Prelude.{◌≡◌, ◌≤◌, ℕ, ◌+◌, Bool, Option, List, length, take}
use Rattle.std.specs.Option.{ForSome}
use Rattle.gst_outside.specs.Bytes.{written}
use Rattle.flow_model.specs.Item.{Item, body_of}
use Rattle.flow_model.specs.SinkBytes.{Disk, disk_after}
use Rattle.el_sink.specs.declared.file_sink.FileSink.{FileSink}

-- what is written to
abbrev pub sink_of : {K : Type 0} → FileSink K → K
sink_of file = file.sink

-- the length of the file as it stands
abbrev pub length_of : {K : Type 0} → FileSink K → ℕ
length_of file = file.len

-- the file, where its bytes are told, and what the sink knows of it
pub record IsDisk {K : Type 0} (bytes_of : K → Option (List ℕ)) (file : FileSink K) (disk : Disk) : Type 0 where
  pub at : file.place ≡ disk.place
  pub over : file.ended ≡ disk.ended
  pub size : length_of file ≡ length disk.bytes
  pub told : ForSome (bytes_of (sink_of file)) (λ bytes. bytes ≡ disk.bytes)

-- the file behind a body
abbrev pub wrote : Disk → List ℕ → Disk
wrote disk body = record disk { bytes = written disk.bytes disk.place body; place = disk.place + length body }

-- the file where a write of a body failed: the front of the body stands at the place
pub record IsPartOf {K : Type 0} (bytes_of : K → Option (List ℕ)) (file : FileSink K) (disk : Disk) (body : List ℕ) : Type 0 where
  pub count : ℕ
  pub within : count ≤ length body
  pub size : length_of file ≡ length (written disk.bytes disk.place (take count body))
  pub told : ForSome (bytes_of (sink_of file)) (λ bytes. bytes ≡ written disk.bytes disk.place (take count body))

-- the sink was given the list, whose writes all went well
pub record Held {K : Type 0} (bytes_of : K → Option (List ℕ)) (keep : Bool) (file : FileSink K) (list : List Item) : Type 0 where
  pub keeps : file.keep ≡ keep
  pub disk : IsDisk bytes_of file (disk_after keep list)

-- the sink was given the list, and then an item of which a write or a cut failed
abbrev pub HeldPart : {K : Type 0} → (K → Option (List ℕ)) → Bool → FileSink K → List Item → Item → Type 0
HeldPart bytes_of keep file list x = IsPartOf bytes_of file (disk_after keep list) (body_of x)
