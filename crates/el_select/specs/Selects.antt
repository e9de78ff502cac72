-- For which selections and lists an element that selects one of its sink pads stands.
use Rattle.std.specs.Prelude.{◌≡◌, ℕ, Bool, true, false, List, [], ◌∷◌, ◌++◌, length, Option, None, Some, Ok, slice_get}
use Rattle.gst_item.specs.declared.out.Out.{Out}
use Rattle.flow_model.specs.Item.{Item}
use Rattle.flow_model.specs.Sticky.{in_force, stickies, has_flush_stop}
use Rattle.flow_model.specs.Section.{counted}
use Rattle.flow_model.specs.Call.{Call, Feed, items}
use Rattle.flow_model.specs.Feeding.{has_eos, on_pad}
use Rattle.flow_model.specs.SinkPads.{InSection, push_calls}
use Rattle.el_join.specs.Sections.{open_section}
use Rattle.el_join.specs.Concats.{has_end}
use Rattle.el_select.specs.declared.pad.Pad.{Pad}
use Rattle.el_select.specs.declared.fault.SelectFault.{SelectFault}
use Rattle.el_select.specs.declared.fault.SelectFault.TheVariants.{AfterEos, OutOfMemory}
use Rattle.el_select.specs.declared.selector.Selector.{Selector}
use Rattle.el_select.specs.Selections.{Selection, active_behind, list_of, select_rule, select_answers, lengths_of, AreSelections}

-- how many sink pads it has
abbrev pub sink_pads : Selector → ℕ
sink_pads element = length element.pads.items

-- whether a sink pad had EOS since the last FLUSH_STOP, and whether the active one had: then EOS was passed on
abbrev pub ended_of : Option Pad → Bool
ended_of None = false
ended_of (Some p) = p.ended

abbrev pub has_ended : ℕ → Selector → Bool
has_ended pad element = ended_of (slice_get element.pads.items pad)

abbrev pub is_over : Selector → Bool
is_over element = has_ended element.active element

-- why a pad is not selected: EOS was passed on, or else memory is wanting
abbrev pub IsRefused : Bool → SelectFault → Type 0
IsRefused over AfterEos = over ≡ true
IsRefused over OutOfMemory = over ≡ false

-- A sink pad knows the sticky events in force of what counts of its list, and whether EOS was fed since the last FLUSH_STOP.
pub record Knows (p : Pad) (calls : List Call) : Type 0 where
  pub sticky : p.sticky ≡ in_force (counted (items calls))
  pub ended : has_eos calls ≡ p.ended

abbrev pub KnowEach : List Pad → List (List Call) → Type 0
KnowEach [] [] = Unit {0}
KnowEach [] (cs ∷ css) = ⊥
KnowEach (p ∷ ps) [] = ⊥
KnowEach (p ∷ ps) (cs ∷ css) = Knows p cs × KnowEach ps css

-- The sticky events in force of a sink pad were put out.
pub record PutsSticky (p : Pad) (out out' : List Out) : Type 0 where
  pub more : List Item
  pub outs : out' ≡ out ++ on_pad 0 more
  pub free : has_flush_stop more ≡ false
  pub owed : (calls : List Call) → Knows p calls → more ≡ stickies (counted (items calls))

-- It knows what its sink pads were given, and which one is active behind the selections. They can have been made.
pub record Remembers (element : Selector) (selections : List Selection) (took : List (List Call)) : Type 0 where
  pub each : KnowEach element.pads.items took
  pub level : InSection (open_section took) took
  pub active : element.active ≡ active_behind 0 selections
  pub made : AreSelections selections took

-- Its sink pads were given these calls, with these selections in between, and in the section that is open it put out these items: all
-- that is owed there.
pub record Selects (element : Selector) (selections : List Selection) (took : List (List Call)) (put : List Item) : Type 0 where
  pub remembers : Remembers element selections took
  pub owed : select_rule selections took 0 (open_section took) ≡ put
  pub over : has_end put ≡ is_over element

-- It put out these items for an item on a sink pad: what the rule owes more.
pub record SelectPuts (old new : Selector) (pad : ℕ) (item : Item) (out out' : List Out) : Type 0 where
  pub more : List Item
  pub outs : out' ≡ out ++ on_pad 0 more
  pub free : has_flush_stop more ≡ false
  pub owed : (selections : List Selection) (took : List (List Call)) (put : List Item) → Selects old selections took put
      → select_answers selections took pad item ≡ Ok more
  pub stands : (selections : List Selection) (took : List (List Call)) (put : List Item) → Selects old selections took put
      → Selects new selections (push_calls pad (Feed item ∷ []) took) (put ++ more)

-- A pad was selected behind all that the pads were given. It put out these items: the sticky events in force of that pad.
pub record SelectsPad (old new : Selector) (pad : ℕ) (out out' : List Out) : Type 0 where
  pub more : List Item
  pub outs : out' ≡ out ++ on_pad 0 more
  pub free : has_flush_stop more ≡ false
  pub owed : (selections : List Selection) (took : List (List Call)) (put : List Item) → Selects old selections took put
      → more ≡ stickies (counted (list_of pad took))
  pub stands : (selections : List Selection) (took : List (List Call)) (put : List Item) → Selects old selections took put
      → Selects new (selections ++ record { pad = pad; places = lengths_of took } ∷ []) took (put ++ more)
