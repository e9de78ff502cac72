-- What a function that reads a part of a text answers.
use Rattle.std.specs.Prelude.{◌≡◌, ℕ, List, Result, Ok, Err, Option, Some, None}
use Rattle.caps_text.specs.declared.fault.Misspelt.{Misspelt}
use Rattle.caps_text.specs.declared.fault.Refusal.{Refusal}
use Rattle.caps_text.specs.declared.fault.Refusal.TheVariants.{Misspelt as Misspelling, TooMany, OutOfMemory}

-- why a part is not read: no text of it goes on with what stands here, or there are too many of a kind
pub data Stop : Type 0 where
  misspelt : List ℕ → Stop
  many : Stop

-- a value with what stands behind it
abbrev pub Answer : Type 0 → Type 0
Answer V = Result (V × List ℕ) Stop

-- first one part and then another
infixl 10 ◌>>=◌
abbrev pub ◌>>=◌ : {V W : Type 0} → Answer V → (V × List ℕ → Answer W) → Answer W
(Ok x) >>= f = f x
(Err e) >>= f = Err e

-- a part that may be refused for its spelling alone
abbrev pub found : {V : Type 0} → Option V → List ℕ → Answer V
found None rest = Err (misspelt rest)
found (Some v) rest = Ok (v, rest)

-- what a function gave that takes no memory, where this is left to be read
abbrev pub Reads : {X V : Type 0} → (X → V) → Result X Misspelt → List ℕ → Answer V → Type 0
Reads view (Ok x) rest answer = answer ≡ Ok (view x, rest)
Reads view (Err e) rest answer = answer ≡ Err (misspelt rest)

abbrev pub Refuses : {V : Type 0} → Refusal → List ℕ → Answer V → Type 0
Refuses Misspelling rest answer = answer ≡ Err (misspelt rest)
Refuses TooMany rest answer = answer ≡ Err many
Refuses OutOfMemory rest answer = Unit {0}

-- what a function gave, unless memory was wanting
abbrev pub Gives : {X V : Type 0} → (X → V) → Result X Refusal → List ℕ → Answer V → Type 0
Gives view (Ok x) rest answer = answer ≡ Ok (view x, rest)
Gives view (Err e) rest answer = Refuses e rest answer
