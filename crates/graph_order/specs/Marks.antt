-- Elements that are marked, and what links lead to from them.
use Rattle.std.specs.Prelude.{◌≡◌, ℕ, Bool, true, false, not, List, [], ◌∷◌, get_or, suc, if◌then◌else◌}
use Rattle.graph_order.specs.Links.{Way}
use Rattle.graph_order.specs.declared.link.Link.{Link}

abbrev pub is_marked : List Bool → ℕ → Bool
is_marked marks e = get_or marks e false

-- how many are not marked
abbrev pub unmarked : List Bool → ℕ
unmarked [] = 0
unmarked (true ∷ marks) = unmarked marks
unmarked (false ∷ marks) = suc (unmarked marks)

-- each marked element is one to which a way leads from a
abbrev pub AllReached : List Link → ℕ → List Bool → Type 0
AllReached links a marks = (e : ℕ) → is_marked marks e ≡ true → Way links a e

-- no link leads from a marked element to one that is not
abbrev pub IsClosed : List Link → List Bool → Type 0
IsClosed [] marks = Unit {0}
IsClosed (link ∷ links) marks = (is_marked marks link.from ≡ true → is_marked marks link.to ≡ true) × IsClosed links marks

-- the marked elements, or the others
abbrev pub is_chosen : List Bool → Bool → ℕ → Bool
is_chosen marks wanted e = if wanted then is_marked marks e else not (is_marked marks e)
