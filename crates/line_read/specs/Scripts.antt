-- The commands of the script that a program's words name, and why there are none.
use Rattle.std.specs.Prelude.{◌≡◌, ◌≢◌, ◌≤◌, ◌⊎◌, ℕ, List, [], Option, None, Some}
use Rattle.gst_outside.specs.Seen.{Seen}
use Rattle.run_report.specs.declared.report.Fault.TheVariants.{BadScript, OpenFault, ReadFault}
use Rattle.script_file.specs.Faults.{IsFileFault}
use Rattle.script_file.specs.Fronts.{IsReadAs}
use Rattle.script_file.specs.declared.fault.FileFault.{FileFault}
use Rattle.script_file.specs.declared.fault.FileFault.TheVariants.{Unopened, Unread, BadScript as BadText, OutOfMemory}
use Rattle.line_read.specs.declared.script.TheConstants.{RUN_ACTS}
use Rattle.script_text.specs.Scripts.{IsScript}
use Rattle.script_text.specs.declared.command.Command.{Command}
use Rattle.line_read.specs.Refusals.{refused, wanting}
use Rattle.line_read.specs.declared.refusal.Refusal.{Refusal}

-- without a script there are no commands; the file of a script has a text that says them, by the acts that a run can do
abbrev pub AreAsked : Option (List ℕ) → Seen → List Command → Type 0
AreAsked None before commands = commands ≡ []
AreAsked (Some location) before commands = IsReadAs (before.input location) (λ text. IsScript RUN_ACTS text commands)

-- The commands were read. Without a script no file was touched, and otherwise what files read and write stays.
pub record HasCommands (script : Option (List ℕ)) (before after : Seen) (commands : List Command) : Type 0 where
  pub asked : AreAsked script before commands
  pub untouched : script ≡ None → after ≡ before
  pub inputs : (l : List ℕ) → after.input l ≡ before.input l
  pub outputs : (l : List ℕ) → after.output l ≡ before.output l
  pub faults : before.faults ≤ after.faults

-- the refusal for a fault of the script's file
abbrev pub script_refusal : List ℕ → FileFault → Refusal
script_refusal location Unopened = refused 6 (OpenFault location)
script_refusal location (Unread before after) = refused 7 (ReadFault location before after)
script_refusal location (BadText line kind) = refused 5 (BadScript line kind)
script_refusal location OutOfMemory = wanting

-- The file that is named gave no script: it was not opened, or not read, or its text is none.
pub record RefusesScript (script : Option (List ℕ)) (before after : Seen) (refusal : Refusal) : Type 0 where
  pub location : List ℕ
  pub named : script ≡ Some location
  pub fault : FileFault
  pub found : fault ≢ OutOfMemory
  pub is_fault : IsFileFault RUN_ACTS location before after fault
  pub answer : refusal ≡ script_refusal location fault

-- a status of a report of a script that was not read
abbrev pub IsScriptStatus : ℕ → Type 0
IsScriptStatus status = (status ≡ 5) ⊎ ((status ≡ 6) ⊎ ((status ≡ 7) ⊎ (status ≡ 13)))
