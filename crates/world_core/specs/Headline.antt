-- What a run of words reports.
use Rattle.std.specs.Prelude.{◌≡◌, ◌⊎◌, ℕ, Bool, List, [], ◌∷◌, Option, length, option_map, take}
use Rattle.gst_outside.specs.Bytes.{written}
use Rattle.gst_outside.specs.Seen.{Seen}
use Rattle.line_read.specs.Refusals.{IsRefusal}
use Rattle.line_read.specs.Requests.{IsRequest}
use Rattle.line_read.specs.Scripts.{HasCommands, RefusesScript}
use Rattle.graph_core.specs.Graph.{made as made_in}
use Rattle.graph_core.specs.declared.graph.Graph.{Graph}
use Rattle.graph_parts.specs.Files.{WereTold}
use Rattle.line_read.specs.declared.refusal.Refusal.{Refusal}
use Rattle.line_read.specs.declared.request.Request.{Request}
use Rattle.script_text.specs.declared.command.Command.{Command}
use Rattle.world_core.specs.Evaluated.{IsEditedReport}
use Rattle.world_core.specs.Scripts.{AnswersScript, FailsInEdit}
use Rattle.world_core.specs.World.{FilesHold, IsUnwritten, IsWorldEnd, RunUnopened}
use Rattle.world_core.specs.declared.ended.WorldEnd.{WorldEnd}
use Rattle.run_words.specs.Said.{options_of}
use Rattle.world_core.specs.declared.outcome.Outcome.{Outcome}

-- what an outcome says of the run itself
abbrev pub world_end : Outcome → WorldEnd
world_end outcome = record { status = outcome.reported; report = outcome.report }

-- whether the words ask for a short report
abbrev pub is_quiet : List (List ℕ) → Bool
is_quiet words = (options_of words).quiet

-- the words ask for no run, and the files are as they were
pub record ReportsRefusal (words : List (List ℕ)) (before after : Seen) (end : WorldEnd) : Type 0 where
  pub refusal : Refusal
  pub is : IsRefusal words refusal
  pub status : end.status ≡ refusal.status
  pub fault : end.report.fault ≡ refusal.fault
  pub entries : end.report.entries ≡ []
  pub pads : end.report.pads ≡ []
  pub sinks : end.report.sinks ≡ []
  pub untouched : after ≡ before

-- the script of a request was not read, and what files read and write is as it was
pub record StopsAtScript (request : Request) (before after : Seen) (end : WorldEnd) : Type 0 where
  pub refusal : Refusal
  pub refuses : RefusesScript request.script before after refusal
  pub status : end.status ≡ refusal.status
  pub fault : end.report.fault ≡ refusal.fault
  pub entries : end.report.entries ≡ []
  pub pads : end.report.pads ≡ []
  pub sinks : end.report.sinks ≡ []
  pub inputs : (l : List ℕ) → after.input l ≡ before.input l
  pub outputs : (l : List ℕ) → after.output l ≡ before.output l

-- A run of a script that was read, and that began, has ended. With status 0 each command was answered. Where the contents of what the sources of the
-- line read are told, the entries answer the first commands lawfully, and the report tells the evaluation of the graph as its commands left it, but
-- where an element met a fault in an edit.
pub record CommandsEnded (graph : Graph) (commands : List Command) (before after : Seen) (end : WorldEnd) : Type 0 where
  pub all : end.status ≡ 0 → length end.report.entries ≡ length commands
  pub answered : (contents : ℕ → List ℕ) → WereTold (made_in graph) before contents → AnswersScript graph commands end.report.entries
  pub told : (contents : ℕ → List ℕ) → WereTold (made_in graph) before contents → IsEditedReport contents graph commands (FilesHold graph after) end ⊎ FailsInEdit end

-- a run of a launch line with these commands, which were read, ended so
abbrev pub EndsBy : Graph → List Command → Seen → Seen → WorldEnd → Type 0
EndsBy graph [] before after end = IsWorldEnd graph before after end
EndsBy graph (command ∷ commands) before after end = RunUnopened graph before after end ⊎ CommandsEnded graph (command ∷ commands) before after end

-- a request's run ended so, behind the reading of its script
pub record EndsRun (request : Request) (before after : Seen) (end : WorldEnd) : Type 0 where
  pub begun : Seen
  pub commands : List Command
  pub script : HasCommands request.script before begun commands
  pub ended : EndsBy request.graph commands begun after end

abbrev pub IsRun : Request → Seen → Seen → WorldEnd → Type 0
IsRun request before after end = StopsAtScript request before after end ⊎ EndsRun request before after end

-- the words ask for no run, or for one that ended so
abbrev pub IsReported : List (List ℕ) → Seen → Seen → WorldEnd → Type 0
IsReported words before after end = ReportsRefusal words before after end ⊎ ((request : Request) × IsRequest words request × IsRun request before after end)

-- a request's run went so, behind the reading of its script, where that has no commands
pub record RanBehind (request : Request) (before : Seen) (Went : Seen → Type 0) : Type 0 where
  pub begun : Seen
  pub commands : List Command
  pub script : HasCommands request.script before begun commands
  pub went : commands ≡ [] → Went begun

-- the request's script was not read, or its run went so
abbrev pub HasRun : Request → Seen → Seen → (Seen → Type 0) → Type 0
HasRun request before after Went = ((refusal : Refusal) × RefusesScript request.script before after refusal) ⊎ RanBehind request before Went

-- the words ask for no run, or for one that went so
abbrev pub HasGone : List (List ℕ) → Seen → Seen → (Request → Seen → Type 0) → Type 0
HasGone words before after Went = ((refusal : Refusal) × IsRefusal words refusal) ⊎ ((request : Request) × IsRequest words request × HasRun request before after (Went request))

-- no filesink of a line that the words ask for writes this location
abbrev pub IsUntouched : List (List ℕ) → List ℕ → Type 0
IsUntouched words location = (request : Request) → IsRequest words request → IsUnwritten request.graph location

-- a text that was written from place 0 on
abbrev pub Wrote : List ℕ → Option (List ℕ) → Option (List ℕ) → Type 0
Wrote text before after = after ≡ option_map (λ b. written b 0 text) before

-- a beginning of it was written
abbrev pub WrotePart : List ℕ → Option (List ℕ) → Option (List ℕ) → Type 0
WrotePart text before after = (n : ℕ) × Wrote (take n text) before after
