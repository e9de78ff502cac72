-- What is made of elements before a file is open.
use Rattle.std.specs.Prelude.{◌≡◌, ℕ, List, Some, length, slice_get}
use Rattle.el_settings.specs.Asked.{title_of}
use Rattle.el_set.specs.Made.{IsFilterFor, IsJoinFor}
use Rattle.el_settings.specs.declared.settings.Settings.{Settings}
use Rattle.graph_core.specs.Elements.{Made}
use Rattle.graph_parts.specs.declared.blank.Blank.{Blank}
use Rattle.graph_parts.specs.declared.blanks.Blanks.{Blanks}

-- the filter of these settings or the element with several sink pads, which was fed nothing, and the title of a source
abbrev pub IsBlankFor : Settings → Blank → Type 0
IsBlankFor settings blank = IsFilterFor settings blank.filter × IsJoinFor settings blank.join × (blank.title ≡ title_of settings)

abbrev pub BlankAt : List Made → ℕ → Blank → Type 0
BlankAt made e blank = (m : Made) → slice_get made e ≡ Some m → IsBlankFor m.settings blank

-- One for each element, by number.
pub record AreBlanks (made : List Made) (blanks : List Blank) : Type 0 where
  pub count : length blanks ≡ length made
  pub each : (e : ℕ) (blank : Blank) → slice_get blanks e ≡ Some blank → BlankAt made e blank

abbrev pub blanks_in : {S K : Type 0} → Blanks S K → List Blank
blanks_in all = all.blanks.items
