-- The order in which an element that mixes channels is fed: a pad has no items before each lower pad has CAPS or had EOS.
use Rattle.std.specs.Prelude.{◌≡◌, ◌⊎◌, ℕ, suc, true, List, [], ◌∷◌}
use Rattle.flow_model.specs.Item.{Item, is_eos}
use Rattle.flow_model.specs.Call.{Call, items}
use Rattle.el_mix.specs.Reopened.{has_section, reopenings}
use Rattle.el_mix.specs.Mixed.{has}
use Rattle.el_mix.specs.Agreed.{is_there, pad_caps}
use Rattle.el_mix.specs.Mixes.{is_start}

-- a pad has CAPS, inherited ones counted, or had EOS
abbrev pub IsKnown : List Item → Type 0
IsKnown xs = (is_there (pad_caps xs) ≡ true) ⊎ (has is_eos xs ≡ true)

-- some pad had SEGMENT or EOS
abbrev pub AnyStarted : List (List Item) → Type 0
AnyStarted [] = ⊥
AnyStarted (xs ∷ xss) = (has is_start xs ≡ true) ⊎ AnyStarted xss

-- below each pad that had SEGMENT or EOS the pads are known
abbrev pub InOrder : List (List Item) → Type 0
InOrder [] = Unit {0}
InOrder (xs ∷ xss) = (AnyStarted xss → IsKnown xs) × InOrder xss

-- each pad was given the FLUSH_STOP that ends section j
abbrev pub AllPast : ℕ → List (List Call) → Type 0
AllPast j [] = Unit {0}
AllPast j (calls ∷ inputs) = (has_section (suc j) (items calls) ≡ true) × AllPast j inputs

-- In each section that is not over the pads were fed in order.
abbrev pub FedInOrder : List (List Call) → Type 0
FedInOrder inputs = (j : ℕ) → AllPast j inputs ⊎ InOrder (reopenings j inputs)
