-- What is owed for beginnings of the pads' lists begins what is owed for the whole lists.
use Rattle.std.specs.Prelude.{◌≡◌, ◌⊎◌, ℕ, List}
use Rattle.flow_model.specs.Prefix.{IsPrefix, ArePrefixes}
use Rattle.flow_model.specs.Call.{Call}
use Rattle.el_mix.specs.Reopened.{reopenings}
use Rattle.el_mix.specs.Mixes.{mixes}
use Rattle.el_mix.specs.Order.{InOrder, FedInOrder}

-- That is so where in each section of which items are left out the pads were fed in order.
abbrev pub OwesBeginnings : Type 0
OwesBeginnings = (inputs whole : List (List Call)) → ArePrefixes inputs whole
    → ((j : ℕ) → (reopenings j inputs ≡ reopenings j whole) ⊎ InOrder (reopenings j inputs))
    → (port j : ℕ) → IsPrefix (mixes inputs port j) (mixes whole port j)

-- So pads that were fed in order may be fed more, whatever it is.
abbrev pub OwesInOrder : Type 0
OwesInOrder = (inputs : List (List Call)) → FedInOrder inputs → (whole : List (List Call)) → ArePrefixes inputs whole
    → (port j : ℕ) → IsPrefix (mixes inputs port j) (mixes whole port j)
