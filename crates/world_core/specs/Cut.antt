-- What crossed the pad of a source whose file can't be read. A source has one pad.
use Rattle.std.specs.Prelude.{◌≡◌, ℕ, false, List, [], ◌∷◌, ◌++◌, take}
use Rattle.flow_model.specs.Item.{Item, Ev, Eos, eos_among}
use Rattle.el_set.specs.Made.{list_of}
use Rattle.el_settings.specs.declared.settings.Settings.{Settings}
use Rattle.graph_core.specs.Allowed.{first_pad}
use Rattle.graph_tasks.specs.Owed.{went_from}

-- It has no EOS. With one behind it, it is what the source owes for the content of its file up to a place.
pub record IsCutBefore (contents : ℕ → List ℕ) (h : ℕ → List Item) (e : ℕ) (settings : Settings) : Type 0 where
  pub eos : eos_among (went_from h (first_pad e)) ≡ false
  pub place : ℕ
  pub crossed : list_of settings e (take place (contents e)) ≡ went_from h (first_pad e) ++ Ev Eos ∷ []
