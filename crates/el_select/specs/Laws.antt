-- How what is owed goes on with more items, with a selection, with EOS and with a flush.
use Rattle.std.specs.Prelude.{◌≡◌, ◌<◌, ℕ, suc, true, false, List, [], ◌∷◌, ◌++◌, length, Ok}
use Rattle.flow_model.specs.Item.{Item, Ev, FlushStop, is_flush_stop}
use Rattle.flow_model.specs.Call.{Call, Feed}
use Rattle.flow_model.specs.Prefix.{IsPrefix, ArePrefixes}
use Rattle.flow_model.specs.Sticky.{stickies}
use Rattle.flow_model.specs.Section.{counted}
use Rattle.flow_model.specs.Feeding.{has_eos}
use Rattle.flow_model.specs.SinkPads.{calls_at, push_calls, push_each}
use Rattle.el_join.specs.Sections.{open_section}
use Rattle.el_join.specs.Concats.{has_end}
use Rattle.el_select.specs.declared.selector.Selector.{Selector}
use Rattle.el_select.specs.Selections.{Selection, list_of, select_rule, select_answers, lengths_of, AreSelections}
use Rattle.el_select.specs.Selects.{Remembers, Selects}

-- What is owed for beginnings of the pads' lists that reach each place of the selections begins what is owed for the whole.
abbrev pub SelectsInOrder : Type 0
SelectsInOrder = (selections : List Selection) (took more : List (List Call)) → ArePrefixes took more → AreSelections selections took
    → (port j : ℕ) → IsPrefix (select_rule selections took port j) (select_rule selections more port j)

-- What was put out in the section that is open is all that is owed there.
abbrev pub PutsAll : Type 0
PutsAll = (element : Selector) (selections : List Selection) (took : List (List Call)) (put : List Item) → Selects element selections took put
    → (port : ℕ) → select_rule selections took port (open_section took) ≡ put

-- With one more item the same section is open, what is owed in those that are over stays, and in the open one what is answered
-- to the item is owed more.
pub record OnlyOpenGrows : Type 0 where
  pub same : (pad : ℕ) (x : Item) (took : List (List Call)) → is_flush_stop x ≡ false → open_section (push_calls pad (Feed x ∷ []) took) ≡ open_section took
  pub over : (element : Selector) (selections : List Selection) (took : List (List Call)) → Remembers element selections took
      → (pad : ℕ) (x : Item) (port j : ℕ) → j < open_section took
      → select_rule selections (push_calls pad (Feed x ∷ []) took) port j ≡ select_rule selections took port j
  pub now : (element : Selector) (selections : List Selection) (took : List (List Call)) (put : List Item) → Selects element selections took put
      → (pad : ℕ) (x : Item) (more : List Item) → select_answers selections took pad x ≡ Ok more → (port : ℕ)
      → select_rule selections (push_calls pad (Feed x ∷ []) took) port (open_section took) ≡ select_rule selections took port (open_section took) ++ more

-- A selection behind all that the pads were given leaves what is owed in the sections that are over. Where EOS was not passed on, the
-- sticky events of its pad are owed more in the one that is open.
pub record SelectionGrows : Type 0 where
  pub over : (element : Selector) (selections : List Selection) (took : List (List Call)) → Remembers element selections took
      → (pad port j : ℕ) → j < open_section took
      → select_rule (selections ++ record { pad = pad; places = lengths_of took } ∷ []) took port j ≡ select_rule selections took port j
  pub now : (element : Selector) (selections : List Selection) (took : List (List Call)) (put : List Item) → Selects element selections took put
      → has_end put ≡ false → (pad port : ℕ)
      → select_rule (selections ++ record { pad = pad; places = lengths_of took } ∷ []) took port (open_section took)
      ≡ select_rule selections took port (open_section took) ++ stickies (counted (list_of pad took))

-- Where EOS came on each sink pad, the section that is open has EOS.
abbrev pub HandsEosOn : Type 0
HandsEosOn = (element : Selector) (selections : List Selection) (took : List (List Call)) (put : List Item) → Selects element selections took put
    → 0 < length took → ((pad : ℕ) → pad < length took → has_eos (calls_at pad took) ≡ true)
    → (port : ℕ) → has_end (select_rule selections took port (open_section took)) ≡ true

-- A flush ends the section that is open, what was owed there stays, and in the next one nothing is owed.
pub record FlushEnds : Type 0 where
  pub over : (element : Selector) (selections : List Selection) (took : List (List Call)) → Remembers element selections took
      → (number port j : ℕ) → j < suc (open_section took)
      → select_rule selections (push_each (Feed (Ev (FlushStop number)) ∷ []) took) port j ≡ select_rule selections took port j
  pub nothing : (element : Selector) (selections : List Selection) (took : List (List Call)) → Remembers element selections took
      → (number port : ℕ) → select_rule selections (push_each (Feed (Ev (FlushStop number)) ∷ []) took) port (suc (open_section took)) ≡ []
