-- Why words are refused.
use Rattle.std.specs.Prelude.{◌≡◌, ℕ, Bool, true, false, cond, List, [], ⊤}
use Rattle.clap.specs.Takes.{takes}
use Rattle.clap.specs.Values.{kind_of}
use Rattle.clap.specs.declared.error.Error.{Error}
use Rattle.clap.specs.declared.error.kind.ErrorKind.{ErrorKind}
use Rattle.clap.specs.declared.error.kind.ErrorKind.TheVariants as kind
use Rattle.run_words.specs.Command.{the_app}
use Rattle.run_words.specs.declared.fault.WordsFault.{WordsFault}
use Rattle.run_words.specs.declared.fault.WordsFault.TheVariants.{Words, NoLine, OutOfMemory}

abbrev pub is_memory : ErrorKind → Bool
is_memory kind.OutOfMemory = true
is_memory _ = false

-- memory ran out, or the words are at fault
abbrev pub fault_of : Error → WordsFault
fault_of refusal = cond (is_memory (kind_of refusal)) OutOfMemory Words

-- the command refuses the words, or memory is wanted
abbrev pub RefusedFor : List (List ℕ) → WordsFault → Type 0
RefusedFor words Words = takes the_app words ≡ false
RefusedFor words NoLine = ⊥
RefusedFor words OutOfMemory = ⊤

-- there are no words of a line, or memory is wanted
abbrev pub LacksLine : List (List ℕ) → WordsFault → Type 0
LacksLine words Words = ⊥
LacksLine words NoLine = words ≡ []
LacksLine words OutOfMemory = ⊤
