-- EOS in the first section of what an element took.
use Rattle.std.specs.Prelude.{◌≡◌, true, List, [], ◌∷◌}
use Rattle.flow_model.specs.Section.{section}
use Rattle.flow_model.specs.Call.{Call, items}
use Rattle.flow_model.specs.Over.{list_ended}

-- it stands there at each sink pad
abbrev pub FirstEnded : List (List Call) → Type 0
FirstEnded [] = Unit {0}
FirstEnded (cs ∷ css) = (list_ended (section 0 (items cs)) ≡ true) × FirstEnded css
