-- Why a program's words ask for no run.
use Rattle.std.specs.Prelude.{◌≡◌, ◌≢◌, ◌≤◌, ◌<◌, ◌⊎◌, ℕ, true, false, List, [], length}
use Rattle.launch_text.specs.Grammar.{IsLine}
use Rattle.launch_text.specs.Parsed.{Stopped}
use Rattle.launch_text.specs.Places.{IsPlace}
use Rattle.launch_text.specs.declared.fault.LineFault.{LineFault}
use Rattle.launch_text.specs.declared.fault.LineFault.TheVariants.{BadLine as BadText, OutOfMemory as LineMemory}
use Rattle.launch_text.specs.declared.fault.LineKind.{LineKind}
use Rattle.launch_text.specs.declared.fault.LineKind.TheVariants.{TooLong}
use Rattle.launch_text.specs.declared.tree.Tree.{Tree}
use Rattle.run_words.specs.Said.{line_words, takes_words}
use Rattle.run_words.specs.declared.fault.WordsFault.{WordsFault}
use Rattle.run_words.specs.declared.fault.WordsFault.TheVariants.{Words as BadWords, NoLine as LacksLine, OutOfMemory as WordsMemory}
use Rattle.graph_core.specs.Graph.{IsFault}
use Rattle.graph_core.specs.declared.fault.BuildFault.{BuildFault}
use Rattle.graph_core.specs.declared.fault.BuildFault.TheVariants.{NoSuch as Missing, BadValue as WrongValue, NameTaken as SameName, LocationTaken as SameLocation, TooMany as Limit, LinkRefused as NoLink, OutOfMemory}
use Rattle.run_report.specs.declared.report.Fault.{Fault}
use Rattle.run_report.specs.declared.report.Fault.TheVariants.{Nothing, Words, NoLine, BadLine, NoSuch, BadValue, NameTaken, LocationTaken, TooMany, LinkRefused}
use Rattle.line_read.specs.Lines.{HasLine, HasTree, line_of, longest}
use Rattle.line_read.specs.declared.refusal.Refusal.{Refusal}

-- the refusal with this status and this fault
abbrev pub refused : ℕ → Fault → Refusal
refused status fault = record { status = status; fault = fault }

-- the refusal for want of memory
abbrev pub wanting : Refusal
wanting = refused 13 Nothing

-- the refusal for a fault of the words
abbrev pub words_refusal : WordsFault → Refusal
words_refusal BadWords = refused 1 Words
words_refusal LacksLine = refused 1 NoLine
words_refusal WordsMemory = wanting

-- the refusal for a fault of the line's text
abbrev pub line_refusal : LineFault → Refusal
line_refusal (BadText place kind) = refused 2 (BadLine place kind)
line_refusal LineMemory = wanting

-- a fault of the line's graph as a report tells it
abbrev pub reported : BuildFault → Fault
reported (Missing name what) = NoSuch name what
reported (WrongValue name property) = BadValue name property
reported (SameName name) = NameTaken name
reported (SameLocation location) = LocationTaken location
reported (Limit count) = TooMany count
reported (NoLink a b ret) = LinkRefused a b ret
reported OutOfMemory = Nothing

-- a link that is refused has a status of its own
abbrev pub status_of : BuildFault → ℕ
status_of (NoLink a b ret) = 4
status_of OutOfMemory = 13
status_of _ = 3

-- the refusal for a fault of the line's graph
abbrev pub graph_refusal : BuildFault → Refusal
graph_refusal fault = refused (status_of fault) (reported fault)

-- the command does not take the words
pub record RefusesWords (words : List (List ℕ)) (refusal : Refusal) : Type 0 where
  pub untaken : takes_words words ≡ false
  pub answer : refusal ≡ refused 1 Words

-- the command takes the words, and none of them is of a line
pub record RefusesNoLine (words : List (List ℕ)) (refusal : Refusal) : Type 0 where
  pub taken : takes_words words ≡ true
  pub empty : line_words words ≡ []
  pub answer : refusal ≡ refused 1 NoLine

-- a line that is too long is refused at the limit, and another one where its text stops
abbrev pub StopsAt : List ℕ → ℕ → LineKind → Type 0
StopsAt line place kind =
    ((longest < length line) × (place ≡ longest) × (kind ≡ TooLong))
    ⊎ ((length line ≤ longest) × IsPlace line place × Stopped line place kind)

-- the words make a line that stands for no tree, or that is too long
pub record RefusesLine (words : List (List ℕ)) (refusal : Refusal) : Type 0 where
  pub place : ℕ
  pub kind : LineKind
  pub line : HasLine words
  pub none : (tree : Tree) → length (line_of words) ≤ longest → ¬ IsLine (line_of words) tree
  pub stops : StopsAt (line_of words) place kind
  pub answer : refusal ≡ refused 2 (BadLine place kind)

-- the line's tree has no graph
pub record RefusesGraph (words : List (List ℕ)) (refusal : Refusal) : Type 0 where
  pub tree : Tree
  pub fault : BuildFault
  pub has_tree : HasTree words tree
  pub is_fault : IsFault tree fault
  pub found : fault ≢ OutOfMemory
  pub answer : refusal ≡ graph_refusal fault

-- the first of these is told: the words, that there is no line, the line's text, its graph
abbrev pub IsRefusal : List (List ℕ) → Refusal → Type 0
IsRefusal words refusal = RefusesWords words refusal ⊎ (RefusesNoLine words refusal ⊎ (RefusesLine words refusal ⊎ RefusesGraph words refusal))

-- a status of a report without a run
abbrev pub IsRefusalStatus : ℕ → Type 0
IsRefusalStatus status = (status ≡ 1) ⊎ ((status ≡ 2) ⊎ ((status ≡ 3) ⊎ ((status ≡ 4) ⊎ (status ≡ 13))))
