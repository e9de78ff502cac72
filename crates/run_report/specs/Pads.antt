-- Pads and places in a text.
use Rattle.std.specs.Prelude.{ℕ, List, [], ◌∷◌, ◌++◌, codes}
use Rattle.std.specs.Fmt.{decimal}
use Rattle.gst_value.specs.declared.name.PadName.{PadName}
use Rattle.script_text.specs.declared.answer.Place.{Place}

abbrev pub newline : List ℕ
newline = 10 ∷ []

-- a pad's name, as `identity0.src`
abbrev pub pad_text : PadName → List ℕ
pad_text pad = pad.element ++ codes "." ++ pad.pad

-- a place of a command, as ` identity0.src=5`
abbrev pub place_text : Place → List ℕ
place_text place = codes " " ++ pad_text place.pad ++ codes "=" ++ decimal place.items
