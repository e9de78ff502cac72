-- What comes of a list whose members are taken one after the other.
use Rattle.std.specs.Prelude.{List, [], ◌∷◌, ◌++◌, Result, Ok, Err}

-- Each member makes one thing more, by what was made before it, and that is all; or a member is refused, and the fault
-- of the first that is refused is the answer.
pub data Comes {X Y F : Type 0} (Makes : List Y → X → Y → Type 0) (Refuses : List Y → X → F → Type 0) : List Y → List X → Result (List Y) F → Type 0 where
  all : (made : List Y) → Comes Makes Refuses made [] (Ok made)
  more : (made : List Y) (x : X) (y : Y) (xs : List X) (answer : Result (List Y) F) → Makes made x y → Comes Makes Refuses (made ++ y ∷ []) xs answer → Comes Makes Refuses made (x ∷ xs) answer
  stop : (made : List Y) (x : X) (xs : List X) (fault : F) → Refuses made x fault → Comes Makes Refuses made (x ∷ xs) (Err fault)
