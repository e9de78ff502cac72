-- Files in memory by their locations.
use Rattle.std.specs.Prelude.{◌≡◌, ℕ, Bool, if◌then◌else◌, List, [], bytes_eq, is_some, unwrap_or, Option, Some, IsTrue}
use Rattle.std.specs.List.{find}
use Rattle.gst_outside.specs.Causes.{plus, raised}
use Rattle.gst_outside.specs.declared.mem_file.MemFile.{MemFile}
use Rattle.gst_outside.specs.declared.mem_file.TheConstants.{AMPLE_ROOM}

-- whether a file is the one at a location
abbrev pub is_of : List ℕ → MemFile → Bool
is_of location file = bytes_eq file.location location

-- the file at a location of which nothing was said: it is empty, with ample room, and no call on it fails
abbrev pub new_file : List ℕ → MemFile
new_file location = record {
  location = location;
  input = [];
  output = [];
  faults = 0;
  refused = 0;
  reads = [];
  sizes = [];
  room = AMPLE_ROOM;
  writes = [];
  cuts = [];
}

-- the file at a location
abbrev pub file_at : List MemFile → List ℕ → MemFile
file_at files location = unwrap_or (find (is_of location) files) (new_file location)

-- whether there is an entry for a location
abbrev pub has_file : List MemFile → List ℕ → Bool
has_file files location = is_some (find (is_of location) files)

-- what sources read at a location, what the sink that was closed last left there, the failures of the ends
-- that were closed there, and the openings that were refused
abbrev pub input_at : List MemFile → List ℕ → Option (List ℕ)
input_at files location = Some (file_at files location).input

abbrev pub output_at : List MemFile → List ℕ → Option (List ℕ)
output_at files location = Some (file_at files location).output

abbrev pub faults_at : List MemFile → List ℕ → Option ℕ
faults_at files location = Some (file_at files location).faults

abbrev pub refused_at : List MemFile → List ℕ → Option ℕ
refused_at files location = Some (file_at files location).refused

-- a location has an entry
abbrev pub IsOpened : List MemFile → List ℕ → Type 0
IsOpened files location = IsTrue (has_file files location)

-- the files stay, and no entry goes
pub record SameFiles (before after : List MemFile) : Type 0 where
  pub file : (l : List ℕ) → file_at after l ≡ file_at before l
  pub kept : (l : List ℕ) → IsOpened before l → IsOpened after l

-- the file at one location is changed, and no entry goes
pub record Changes (change : MemFile → MemFile) (location : List ℕ) (before after : List MemFile) : Type 0 where
  pub file : (l : List ℕ) → file_at after l ≡ (if bytes_eq location l then change (file_at before l) else file_at before l)
  pub kept : (l : List ℕ) → IsOpened before l → IsOpened after l

-- Changes of a file: what sources read, with the numbers of their calls that are to fail; the room of sinks, with those of
-- their calls; what a sink left; more failures of ends; one more refusal.
abbrev pub with_input : List ℕ → List ℕ → List ℕ → MemFile → MemFile
with_input input reads sizes file = record file { input = input; reads = reads; sizes = sizes }

abbrev pub with_sinks : ℕ → List ℕ → List ℕ → MemFile → MemFile
with_sinks room writes cuts file = record file { room = room; writes = writes; cuts = cuts }

abbrev pub with_output : List ℕ → MemFile → MemFile
with_output output file = record file { output = output }

abbrev pub with_faults : ℕ → MemFile → MemFile
with_faults faults file = record file { faults = plus file.faults faults }

abbrev pub with_refusal : MemFile → MemFile
with_refusal file = record file { refused = raised file.refused }
