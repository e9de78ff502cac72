-- How what crossed the pad of a source ends where what it reads can't be read. A source has one pad.
use Rattle.std.specs.Prelude.{◌≡◌, ℕ, true, false, List, [], ◌∷◌, ◌++◌, Some, slice_get}
use Rattle.std.specs.List.{list_all}
use Rattle.flow_model.specs.Item.{Item, Ev, Eos, is_buffer, eos_among}
use Rattle.flow_model.specs.declared.refusal.Unread.{Unread}
use Rattle.flow_model.specs.declared.refusal.Unread.TheVariants.{Failed, OutOfMemory}
use Rattle.el_set.specs.Made.{list_of}
use Rattle.el_settings.specs.declared.settings.Settings.{Settings}
use Rattle.graph_core.specs.Allowed.{first_pad}
use Rattle.graph_core.specs.Elements.{Made}
use Rattle.graph_tasks.specs.Owed.{went_from}

-- EOS did not cross it, and buffers alone are still owed there, and EOS behind them: what crossed it ends before a buffer,
-- or before the EOS.
pub record IsCutShort (contents : ℕ → List ℕ) (h : ℕ → List Item) (e : ℕ) (settings : Settings) : Type 0 where
  pub eos : eos_among (went_from h (first_pad e)) ≡ false
  pub left : List Item
  pub buffers : list_all is_buffer left ≡ true
  pub owed : list_of settings e (contents e) ≡ went_from h (first_pad e) ++ (left ++ Ev Eos ∷ [])

-- so it is where a read failed; want of memory says nothing
abbrev pub UnreadAt : (ℕ → List ℕ) → List Made → (ℕ → List Item) → ℕ → Unread → Type 0
UnreadAt contents made h n (Failed before after) = (element : Made) → slice_get made n ≡ Some element → IsCutShort contents h n element.settings
UnreadAt contents made h n OutOfMemory = Unit {0}
