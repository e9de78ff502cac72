-- Files in memory as a whole.
use Rattle.std.specs.Prelude.{◌≡◌, ℕ, List, [], Some, Result, OnOk}
use Rattle.gst_outside.specs.Calls.{new_calls}
use Rattle.gst_outside.specs.Seen.{AfterClosing, AfterOpening, Seen}
use Rattle.gst_outside.specs.Table.{IsOpened, faults_at, input_at, output_at, refused_at}
use Rattle.gst_outside.specs.declared.mem_files.MemFiles.{MemFiles}
use Rattle.gst_outside.specs.declared.opening.OpenEnd.{OpenEnd}

-- what they tell: all of it
abbrev pub mem_seen : MemFiles → Seen
mem_seen files = record {
  input = input_at files.table.items;
  output = output_at files.table.items;
  faults_of = faults_at files.table.items;
  refused_of = refused_at files.table.items;
  faults = files.faults;
  ends = files.ends;
}

-- nothing was said of them, and no opening is to fail
pub record AreNew (files : MemFiles) : Type 0 where
  pub table : files.table.items ≡ []
  pub faults : files.faults ≡ 0
  pub ends : files.ends ≡ 0
  pub reading : files.reading ≡ new_calls []
  pub writing : files.writing ≡ new_calls []

-- the counts of failures and of ends stay
pub record CountsStay (before after : MemFiles) : Type 0 where
  pub faults : after.faults ≡ before.faults
  pub ends : after.ends ≡ before.ends

-- the counts of openings stay, and which of them are to fail
pub record OpeningsStay (before after : MemFiles) : Type 0 where
  pub reading : after.reading ≡ before.reading
  pub writing : after.writing ≡ before.writing

-- nothing is changed but the openings that are to fail
pub record FilesStay (before after : MemFiles) : Type 0 where
  pub table : after.table.items ≡ before.table.items
  pub counts : CountsStay before after

-- nothing is changed but the table
pub record OnlyTable (before after : MemFiles) : Type 0 where
  pub counts : CountsStay before after
  pub openings : OpeningsStay before after

-- what an opening of a location leaves: where it gives an end, it counts as opened
pub record Opens {T : Type 0} (location : List ℕ) (result : Result T OpenEnd) (before after : MemFiles) : Type 0 where
  pub seen : AfterOpening location result (mem_seen before) (mem_seen after)
  pub opened : OnOk result (IsOpened after.table.items location)
  pub opened_stays : (l : List ℕ) → IsOpened before.table.items l → IsOpened after.table.items l

-- what the closing of an end with so many failures leaves, but for the output of its location
pub record Closes (location : List ℕ) (failures : ℕ) (before after : MemFiles) : Type 0 where
  pub seen : AfterClosing (Some location) failures (mem_seen before) (mem_seen after)
  pub opened_stays : (l : List ℕ) → IsOpened before.table.items l → IsOpened after.table.items l
  pub openings : OpeningsStay before after
