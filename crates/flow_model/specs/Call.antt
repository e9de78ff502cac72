-- What an element is given, in order: items, and between them what control does to it.
use Rattle.std.specs.Prelude.{Bool, ℕ, suc, ◌==◌, List, [], ◌∷◌, ◌++◌, if◌then◌else◌}
use Rattle.gst_caps.specs.declared.caps.Caps.{Caps}
use Rattle.flow_model.specs.Item.{Item}

-- what a running element is given: the caps of a filter, the caps that a converter is allowed to put out, or whether a valve
-- drops what it is given
pub data Setting : Type 0 where
  Filter : (caps : Caps) → Setting
  Allowed : (caps : Caps) → Setting
  Drops : (drops : Bool) → Setting

-- Control's marks: the element is drained, or a property of it is set.
pub data Mark : Type 0 where
  Drain : Mark
  Set : (setting : Setting) → Mark

pub data Call : Type 0 where
  Feed : (item : Item) → Call
  Act : (mark : Mark) → Call

-- the items alone
abbrev pub items : List Call → List Item
items [] = []
items (Feed x ∷ cs) = x ∷ items cs
items (Act m ∷ cs) = items cs

abbrev pub feeds : List Item → List Call
feeds [] = []
feeds (x ∷ xs) = Feed x ∷ feeds xs

-- the marks at a place, in their order
abbrev pub marks_at : ℕ → List (ℕ × Mark) → List Call
marks_at place [] = []
marks_at place (m ∷ ms) = if m.0 == place then Act m.1 ∷ marks_at place ms else marks_at place ms

-- the items from a place on, with the marks before each and behind the last
abbrev pub with_marks : List (ℕ × Mark) → ℕ → List Item → List Call
with_marks marks place [] = marks_at place marks
with_marks marks place (x ∷ xs) = marks_at place marks ++ Feed x ∷ with_marks marks (suc place) xs
