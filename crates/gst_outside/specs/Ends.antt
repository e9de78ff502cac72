-- Ends in memory.
use Rattle.std.specs.Prelude.{◌≡◌, ℕ, if◌then◌else◌, List, [], Result, is_ok}
use Rattle.gst_outside.specs.Calls.{new_calls}
use Rattle.gst_outside.specs.Causes.{raised}
use Rattle.gst_outside.specs.declared.mem_sink.MemSink.{MemSink}
use Rattle.gst_outside.specs.declared.mem_source.MemSource.{MemSource}

-- a source that nobody called, with the numbers of the reads and of the looks at its size that are to fail
abbrev pub new_source : List ℕ → List ℕ → List ℕ → List ℕ → MemSource
new_source location content reads sizes = record {
  location = location;
  content = content;
  faults = 0;
  reading = new_calls reads;
  sizing = new_calls sizes;
}

-- an empty sink that nobody called, with the numbers of the writes and of the cuts that are to fail
pub record IsNewSink (place : List ℕ) (size : ℕ) (writes cuts : List ℕ) (sink : MemSink) : Type 0 where
  pub location : sink.location ≡ place
  pub empty : sink.bytes.items ≡ []
  pub room : sink.room ≡ size
  pub faults : sink.faults ≡ 0
  pub writing : sink.writing ≡ new_calls writes
  pub cutting : sink.cutting ≡ new_calls cuts

-- how many calls failed, behind one more
abbrev pub faults_after : {T E : Type 0} → Result T E → ℕ → ℕ
faults_after result faults = if is_ok result then faults else raised faults

-- what a call of a sink leaves, which is to have these bytes where it does not fail
pub record AfterCall {T E : Type 0} (result : Result T E) (done : List ℕ) (before after : MemSink) : Type 0 where
  pub location : after.location ≡ before.location
  pub room : after.room ≡ before.room
  pub faults : after.faults ≡ faults_after result before.faults
  pub bytes : after.bytes.items ≡ (if is_ok result then done else before.bytes.items)
