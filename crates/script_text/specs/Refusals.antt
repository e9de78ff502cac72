-- What is told where something is wrong.
use Rattle.std.specs.Prelude.{◌≡◌, ℕ, Option, Some, None, Result, Ok, Err}
use Rattle.text_words.specs.declared.fault.WordFault.{WordFault}
use Rattle.text_words.specs.declared.fault.WordFault.TheVariants.{Misspelt, OutOfMemory as WordMemory}
use Rattle.script_text.specs.declared.fault.Refusal.{Refusal}
use Rattle.script_text.specs.declared.fault.Refusal.TheVariants.{Bad, OutOfMemory as LineMemory}
use Rattle.script_text.specs.declared.fault.ScriptFault.{ScriptFault}
use Rattle.script_text.specs.declared.fault.ScriptFault.TheVariants.{BadScript, OutOfMemory}
use Rattle.script_text.specs.declared.fault.ScriptKind.{ScriptKind}

-- first one part and then another: the first that is wrong is told
abbrev pub and_then : {V W : Type 0} → Result V ScriptKind → (V → Result W ScriptKind) → Result W ScriptKind
and_then (Ok v) f = f v
and_then (Err kind) f = Err kind

-- what is wrong with it, if anything is, and else the answer
abbrev pub unless : {V : Type 0} → Option ScriptKind → Result V ScriptKind → Result V ScriptKind
unless None answer = answer
unless (Some kind) answer = Err kind

-- what a function gave that tells what is wrong, unless memory was wanting
abbrev pub Answers : {X V : Type 0} → (X → V) → Result X Refusal → Result V ScriptKind → Type 0
Answers view (Ok x) answer = answer ≡ Ok (view x)
Answers view (Err (Bad kind)) answer = answer ≡ Err kind
Answers view (Err LineMemory) answer = Unit {0}

-- a misspelt word is wrong in this way
abbrev pub refusal_of : ScriptKind → WordFault → Refusal
refusal_of kind Misspelt = Bad kind
refusal_of kind WordMemory = LineMemory

-- the fault of a line
abbrev pub fault_at : ℕ → Refusal → ScriptFault
fault_at line (Bad kind) = BadScript line kind
fault_at line LineMemory = OutOfMemory
