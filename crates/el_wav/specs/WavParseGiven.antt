-- Which bytes a reader of a head is given.
use Rattle.std.specs.Prelude.{◌≡◌, ◌≤◌, ◌<◌, ◌-◌, ◌⊎◌, ◌++◌, ⊤, ℕ, List, length, take}
use Rattle.wav_format.specs.declared.head.Head.{Head}
use Rattle.wav_format.specs.declared.head.HeadAnswer.{HeadAnswer}
use Rattle.wav_format.specs.declared.head.HeadAnswer.TheVariants.{Whole, NeedMore, Bad}
use Rattle.wav_format.specs.declared.reader.HeadReader.{HeadReader}
use Rattle.wav_format.specs.Gathered.{WasGiven}

-- a reader that had bytes was given some at the front of more, and none behind the head
abbrev pub GivenInHead : Head → List ℕ → List ℕ → HeadReader → Type 0
GivenInHead head before more reader = (count : ℕ) × WasGiven reader (before ++ take count more) × (length (before ++ take count more) ≤ head.start)

-- a reader with this answer is given no more of the bytes that are left
abbrev pub IsDone : HeadAnswer → ℕ → Type 0
IsDone answer left = (left ≡ 0) ⊎ ((head : Head) × (answer ≡ Whole head))

-- so many bytes may follow the ones it has
abbrev pub MayFollow : HeadAnswer → ℕ → ℕ → Type 0
MayFollow (Whole head) count part = ⊥
MayFollow (NeedMore n) count part = (part ≤ 1) ⊎ (part ≤ n - count)
MayFollow (Bad place kind) count part = ⊤

-- A reader of so many bytes with this answer is given such a part of those that are left.
pub record IsNext (answer : HeadAnswer) (count left part : ℕ) : Type 0 where
  pub some : 0 < part
  pub within : part ≤ left
  pub follows : MayFollow answer count part
