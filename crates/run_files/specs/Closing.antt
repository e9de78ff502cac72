-- How ends are given back.
use Rattle.std.specs.Prelude.{◌≡◌, ◌-◌, ℕ, List, Option, None, Some, filter, find, length, option_map, sum_by}
use Rattle.gst_outside.specs.Causes.{plus}
use Rattle.gst_outside.specs.Places.{is_at}
use Rattle.gst_outside.specs.Seen.{Seen}
use Rattle.run_files.specs.Ends.{Known, is_sink_at}

-- how many calls of ends failed, and those of the ends at a location
abbrev pub fault_count : List Known → ℕ
fault_count ends = sum_by (λ end. end.faults) ends

abbrev pub faults_at : List ℕ → List Known → ℕ
faults_at location ends = fault_count (filter (λ end. is_at end.location location) ends)

-- the bytes of an end, or those that stood before where there is none
abbrev pub bytes_or : Option (List ℕ) → Option Known → Option (List ℕ)
bytes_or before None = before
bytes_or before (Some end) = end.bytes

-- These ends were given back. The output of a location has the bytes of the first sink there, or what stood there
-- before; all failures of the ends count.
pub record Closes (ends : List Known) (before after : Seen) : Type 0 where
  pub input : (l : List ℕ) → after.input l ≡ before.input l
  pub output : (l : List ℕ) → after.output l ≡ bytes_or (before.output l) (find (is_sink_at l) ends)
  pub faults_of : (l : List ℕ) → after.faults_of l ≡ option_map (λ n. plus n (faults_at l ends)) (before.faults_of l)
  pub refused_of : (l : List ℕ) → after.refused_of l ≡ before.refused_of l
  pub faults : after.faults ≡ plus before.faults (fault_count ends)
  pub count : after.ends ≡ before.ends - length ends
