-- What a fault says of the files, of what was read and of its text.
use Rattle.std.specs.Prelude.{◌≡◌, ℕ, List}
use Rattle.gst_outside.specs.Causes.{Rose}
use Rattle.gst_outside.specs.Seen.{Seen, ToldRose}
use Rattle.gst_outside.specs.declared.opening.OpenEnd.{OpenEnd}
use Rattle.gst_outside.specs.declared.opening.OpenEnd.TheVariants as endings
use Rattle.script_text.specs.Scripts.{IsRefused}
use Rattle.script_text.specs.declared.acts.Acts.{Acts}
use Rattle.script_text.specs.declared.fault.ScriptFault.{ScriptFault}
use Rattle.script_text.specs.declared.fault.ScriptFault.TheVariants as refusals
use Rattle.script_file.specs.Fronts.{IsReadAs}
use Rattle.script_file.specs.declared.fault.FileFault.{FileFault}
use Rattle.script_file.specs.declared.fault.FileFault.TheVariants.{Unopened, Unread as UnreadFile, BadScript, OutOfMemory}
use Rattle.script_file.specs.declared.fault.Unread.{Unread}
use Rattle.script_file.specs.declared.fault.Unread.TheVariants as reads

-- the opening failed, and the files counted it, also at the location
pub record IsRefusedAt (location : List ℕ) (before after : Seen) : Type 0 where
  pub all : Rose before.faults after.faults
  pub here : ToldRose (before.refused_of location) (after.refused_of location)

-- a read failed, by the counts of its source, and the files counted it, also at the location
pub record IsUnreadAt (location : List ℕ) (before after : Seen) (first last : ℕ) : Type 0 where
  pub source : Rose first last
  pub all : Rose before.faults after.faults
  pub here : ToldRose (before.faults_of location) (after.faults_of location)

-- why the file at a location gave no script of these acts
abbrev pub IsFileFault : Acts → List ℕ → Seen → Seen → FileFault → Type 0
IsFileFault acts location before after Unopened = IsRefusedAt location before after
IsFileFault acts location before after (UnreadFile first last) = IsUnreadAt location before after first last
IsFileFault acts location before after (BadScript line kind) = IsReadAs (before.input location) (λ text. IsRefused acts text line kind)
IsFileFault acts location before after OutOfMemory = Unit {0}

-- a read failed, and these are the counts of the source, unless memory was wanting
abbrev pub IsUnread : ℕ → ℕ → Unread → Type 0
IsUnread before after (reads.Failed first last) = (first ≡ before) × (last ≡ after) × Rose before after
IsUnread before after reads.OutOfMemory = Unit {0}

-- the faults for the answers of an opening, of the reads and of the text
abbrev pub refused_by : OpenEnd → FileFault
refused_by endings.Failed = Unopened
refused_by endings.OutOfMemory = OutOfMemory

abbrev pub unread_by : Unread → FileFault
unread_by (reads.Failed first last) = UnreadFile first last
unread_by reads.OutOfMemory = OutOfMemory

abbrev pub fault_of : ScriptFault → FileFault
fault_of (refusals.BadScript line kind) = BadScript line kind
fault_of refusals.OutOfMemory = OutOfMemory
