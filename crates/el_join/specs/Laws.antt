-- How what is owed goes on with one more item, with EOS and with a flush, what was put out of it, and which pad is wanted.
use Rattle.std.specs.Prelude.{◌≡◌, ◌<◌, ℕ, suc, true, false, List, [], ◌∷◌, ◌++◌, length, None, Some, Ok}
use Rattle.flow_model.specs.Item.{Item, Ev, FlushStop, is_flush_stop}
use Rattle.flow_model.specs.Call.{Call, Feed}
use Rattle.flow_model.specs.Prefix.{IsPrefix, ArePrefixes}
use Rattle.flow_model.specs.Feeding.{has_eos}
use Rattle.flow_model.specs.SinkPads.{calls_at, push_calls, push_each}
use Rattle.el_join.specs.declared.concat.Concat.{Concat}
use Rattle.el_join.specs.Sections.{open_section}
use Rattle.el_join.specs.Concats.{has_end, concat_rule, concat_answers}
use Rattle.el_join.specs.Joins.{Remembers, Joins, sink_pads, wanted}

-- What was put out in the section that is open is all that is owed there, and begins what is owed there whatever the sink
-- pads are given further.
pub record PutsInOrder : Type 0 where
  pub all : (element : Concat) (took : List (List Call)) (put : List Item) → Joins element took put → (port : ℕ)
      → concat_rule took port (open_section took) ≡ put
  pub begins : (element : Concat) (took more : List (List Call)) (put : List Item) → Joins element took put → ArePrefixes took more
      → (port : ℕ) → IsPrefix put (concat_rule more port (open_section took))

-- With one more item the same section is open, what is owed in those that are over stays, and in the open one what is answered
-- to the item is owed more.
pub record OnlyOpenGrows : Type 0 where
  pub same : (pad : ℕ) (x : Item) (took : List (List Call)) → is_flush_stop x ≡ false → open_section (push_calls pad (Feed x ∷ []) took) ≡ open_section took
  pub over : (element : Concat) (took : List (List Call)) → Remembers element took → (pad : ℕ) (x : Item) (port j : ℕ) → j < open_section took
      → concat_rule (push_calls pad (Feed x ∷ []) took) port j ≡ concat_rule took port j
  pub now : (element : Concat) (took : List (List Call)) (put : List Item) → Joins element took put → (pad : ℕ) (x : Item) (more : List Item)
      → concat_answers took pad x ≡ Ok more → (port : ℕ)
      → concat_rule (push_calls pad (Feed x ∷ []) took) port (open_section took) ≡ concat_rule took port (open_section took) ++ more

-- Where EOS came on each sink pad, the section that is open has EOS.
abbrev pub HandsEosOn : Type 0
HandsEosOn = (element : Concat) (took : List (List Call)) (put : List Item) → Joins element took put → 0 < length took
    → ((pad : ℕ) → pad < length took → has_eos (calls_at pad took) ≡ true) → (port : ℕ) → has_end (concat_rule took port (open_section took)) ≡ true

-- The pad that is wanted is there; where none is, EOS came on each.
pub record WantsOpenPads : Type 0 where
  pub pads : (element : Concat) (took : List (List Call)) (put : List Item) → Joins element took put → length took ≡ sink_pads element
  pub within : (element : Concat) (pad : ℕ) → wanted element ≡ Some pad → pad < sink_pads element
  pub none : (element : Concat) (took : List (List Call)) (put : List Item) → Joins element took put → wanted element ≡ None
      → (pad : ℕ) → pad < length took → has_eos (calls_at pad took) ≡ true

-- A flush ends the section that is open, what was owed there stays, and in the next one nothing is owed.
pub record FlushEnds : Type 0 where
  pub over : (element : Concat) (took : List (List Call)) → Remembers element took → (number port j : ℕ) → j < suc (open_section took)
      → concat_rule (push_each (Feed (Ev (FlushStop number)) ∷ []) took) port j ≡ concat_rule took port j
  pub nothing : (element : Concat) (took : List (List Call)) → Remembers element took → (number port : ℕ)
      → concat_rule (push_each (Feed (Ev (FlushStop number)) ∷ []) took) port (suc (open_section took)) ≡ []
