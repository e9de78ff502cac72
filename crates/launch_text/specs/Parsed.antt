-- What `parse` answers.
use Rattle.std.specs.Prelude.{◌≡◌, ℕ, ◌+◌, ◌-◌, true, List, [], Some, Result, Ok, Err, length}
use Rattle.std.specs.List.{list_all}
use Rattle.launch_text.specs.Kinds.{is_bracket, kind_of}
use Rattle.launch_text.specs.Places.{front_of, spot_of}
use Rattle.launch_text.specs.Reading.{IsStuck, Passed, Splits, State, first_word, tree_of}
use Rattle.launch_text.specs.Words.{is_start}
use Rattle.launch_text.specs.declared.fault.LineFault.{LineFault}
use Rattle.launch_text.specs.declared.fault.LineFault.TheVariants.{BadLine, OutOfMemory as NoMemory}
use Rattle.launch_text.specs.declared.fault.LineKind.{LineKind}
use Rattle.launch_text.specs.declared.fault.Refusal.{Refusal}
use Rattle.launch_text.specs.declared.fault.Refusal.TheVariants.{Stuck, OutOfMemory}
use Rattle.launch_text.specs.declared.front.Spot.{Spot}
use Rattle.launch_text.specs.declared.tree.Tree.{Tree}

-- the place of a word that can't stand at a spot within so many brackets
abbrev pub place_of : List ℕ → List ℕ → Spot → ℕ → List ℕ → ℕ
place_of text rest spot depth word = length text - length rest + length (front_of spot depth word)

-- a text that is read up to a rest, which begins with no white space and can't go on
pub record Stopped (text : List ℕ) (place : ℕ) (kind : LineKind) : Type 0 where
  pub rest : List ℕ
  pub state : State
  pub passed : Passed text rest state
  pub start : is_start rest ≡ true
  pub stuck : IsStuck state rest
  pub placed : place ≡ place_of text rest (spot_of state.1) (length state.0.outer) (first_word rest)
  pub why : (words : List (List ℕ)) → Splits words text [] → kind ≡ kind_of (length text) place (spot_of state.1) (length state.0.outer) (first_word rest) (list_all is_bracket words)

-- what is told of a text
abbrev pub Told : List ℕ → Result Tree LineFault → Type 0
Told text (Ok tree) = (words : List (List ℕ)) × Splits words text [] × (tree_of words ≡ Some tree)
Told text (Err (BadLine place kind)) = Stopped text place kind
Told text (Err NoMemory) = Unit {0}

-- the fault of a refusal at a place
abbrev pub Faults : Refusal → ℕ → LineFault → Type 0
Faults Stuck wanted (BadLine place kind) = place ≡ wanted
Faults Stuck wanted NoMemory = ⊥
Faults OutOfMemory wanted fault = fault ≡ NoMemory

-- the fault of a refusal of this kind
abbrev pub Why : Refusal → LineKind → LineFault → Type 0
Why Stuck wanted (BadLine place kind) = kind ≡ wanted
Why Stuck wanted NoMemory = ⊥
Why OutOfMemory wanted fault = Unit {0}

-- the text has this tree, unless memory is wanting
abbrev pub Answers : Result Tree LineFault → Tree → Type 0
Answers (Ok tree) wanted = tree ≡ wanted
Answers (Err (BadLine place kind)) wanted = ⊥
Answers (Err NoMemory) wanted = Unit {0}
