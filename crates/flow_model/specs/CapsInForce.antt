-- The caps in force: those of the last CAPS of a list.
use Rattle.std.specs.Prelude.{List, ◌∷◌, Option, None, Some}
use Rattle.gst_value.specs.Description.{Description}
use Rattle.gst_value.specs.declared.one.One.{One}
use Rattle.flow_model.specs.Item.{Item, Ev, NewCaps, is_caps}
use Rattle.flow_model.specs.Sticky.{latest}

-- the caps of the first item, where it is CAPS
abbrev pub caps_of : List Item → Option (Description One)
caps_of (Ev (NewCaps caps) ∷ xs) = Some caps
caps_of _ = None

-- the caps of the last CAPS of a list
abbrev pub caps_in_force : List Item → Option (Description One)
caps_in_force h = caps_of (latest is_caps h)

-- the caps in force behind an item
abbrev pub caps_behind : Option (Description One) → Item → Option (Description One)
caps_behind caps (Ev (NewCaps new)) = Some new
caps_behind caps x = caps
