-- A rule that owes each item for itself, whatever was set before.
use Rattle.std.specs.Prelude.{◌≡◌, false, List, [], ◌∷◌}
use Rattle.flow_model.specs.Item.{Item, is_flush_stop}
use Rattle.flow_model.specs.Call.{Call, Feed, Act, Set, Setting}
use Rattle.flow_model.specs.Rule.{Rule}

-- an item behind a setting, on the only sink pad
abbrev pub behind_setting : Setting → Item → List (List Call)
behind_setting setting x = (Act (Set setting) ∷ Feed x ∷ []) ∷ []

abbrev pub PassesEach : Rule → Type 0
PassesEach rule = (setting : Setting) (x : Item) → is_flush_stop x ≡ false → rule (behind_setting setting x) 0 0 ≡ x ∷ []
