-- What a source gives.
use Rattle.std.specs.Prelude.{◌≡◌, ℕ, ◌+◌, List, [], ◌∷◌, ◌++◌, Option, Some, None, Result, Ok, Err}
use Rattle.flow_model.specs.Item.{Item}
use Rattle.flow_model.specs.declared.refusal.Unread.{Unread}

-- one item more was given; or all that is owed had been
abbrev pub Gives : (List Item → List Item → Type 0) → List Item → List Item → Option Item → Type 0
Gives gave owed given (Some x) = gave owed (given ++ x ∷ [])
Gives gave owed given None = gave owed given × (owed ≡ given)

abbrev pub count_after : Result (Option Item) Unread → ℕ → ℕ
count_after (Ok (Some x)) n = n + 1
count_after (Ok None) n = n
count_after (Err unread) n = n
