-- Bodies that wait at a sink pad, as what is left of them, and as what is left behind a look ahead.
use Rattle.std.specs.Prelude.{ℕ, ◌==◌, Bool, true, false, ◌&&◌, List, [], ◌∷◌, ◌++◌, Option, None, Some, if◌then◌else◌, nat_lt, nat_le, length, drop}

pub record Line : Type 0 where
  pub rest : List (List ℕ)
  pub ahead : List (List ℕ)

-- where the look ahead stands at the first body
abbrev pub line_of : List (List ℕ) → Line
line_of bs = record { rest = bs; ahead = bs }

abbrev pub nothing : Line
nothing = line_of []

-- with a body behind the others
abbrev pub pushed : Line → List ℕ → Line
pushed l b = record { rest = l.rest ++ b ∷ []; ahead = l.ahead ++ b ∷ [] }

-- past so many bytes of the first body
abbrev pub past : ℕ → List (List ℕ) → List (List ℕ)
past n [] = []
past n (b ∷ bs) = if nat_le (length b) n then bs else drop n b ∷ bs

abbrev pub passed : ℕ → Line → Line
passed n l = record { rest = l.rest; ahead = past n l.ahead }

abbrev pub first_of : List (List ℕ) → Option (List ℕ)
first_of [] = None
first_of (b ∷ bs) = Some b

abbrev pub is_none : {A : Type 0} → List A → Bool
is_none [] = true
is_none (x ∷ xs) = false

-- the bodies without so many bytes of the first
abbrev pub cut : ℕ → List (List ℕ) → List (List ℕ)
cut n [] = []
cut n (b ∷ bs) = drop n b ∷ bs

-- so many bytes, where there is a body
abbrev pub gone_of : ℕ → List (List ℕ) → ℕ
gone_of n [] = 0
gone_of n (b ∷ bs) = n

-- of the first body some bytes are left; none is empty
abbrev pub some_left : ℕ → List (List ℕ) → Bool
some_left n [] = n == 0
some_left n (b ∷ bs) = nat_lt n (length b)

abbrev pub all_some : List (List ℕ) → Bool
all_some [] = true
all_some (b ∷ bs) = if nat_lt 0 (length b) then all_some bs else false

-- bodies of which so many bytes are gone, and a look ahead that has passed so many bodies and bytes of the next
abbrev pub holds : ℕ → ℕ → ℕ → List (List ℕ) → Bool
holds gone bodies bytes bs = some_left gone bs && (some_left bytes (drop bodies bs) && (all_some bs && nat_le bodies (length bs)))
