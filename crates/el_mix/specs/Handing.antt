-- How EOS is handed on, and which pad is wanted.
use Rattle.std.specs.Prelude.{◌≡◌, ◌<◌, ℕ, true, List, length, None, Some}
use Rattle.flow_model.specs.Item.{Item, is_eos}
use Rattle.flow_model.specs.Call.{Call}
use Rattle.flow_model.specs.Feeding.{has_eos}
use Rattle.flow_model.specs.SinkPads.{calls_at}
use Rattle.el_mix.specs.declared.mix.Mix.{Mix}
use Rattle.el_mix.specs.Mixed.{has}
use Rattle.el_mix.specs.Mixes.{mixes}
use Rattle.el_mix.specs.Relation.{Mixes, sink_pads, section_of, wanted, lower_known}

-- Where EOS came on each sink pad, the section that is open has EOS.
abbrev pub HandsEosOn : Type 0
HandsEosOn = (element : Mix) (took : List (List Call)) (put : List Item) → Mixes element took put → 0 < length took
    → ((pad : ℕ) → pad < length took → has_eos (calls_at pad took) ≡ true) → (port : ℕ) → has is_eos (mixes took port (section_of took)) ≡ true

-- The pad that is wanted is there, and each lower one has CAPS or had EOS; where none is wanted, EOS came on each.
pub record WantsOpenPads : Type 0 where
  pub pads : (element : Mix) (took : List (List Call)) (put : List Item) → Mixes element took put → length took ≡ sink_pads element
  pub within : (element : Mix) (pad : ℕ) → wanted element ≡ Some pad → pad < sink_pads element
  pub order : (element : Mix) (took : List (List Call)) (put : List Item) (pad : ℕ) → Mixes element took put → wanted element ≡ Some pad
      → lower_known pad element ≡ true
  pub none : (element : Mix) (took : List (List Call)) (put : List Item) → Mixes element took put → wanted element ≡ None
      → (pad : ℕ) → pad < length took → has_eos (calls_at pad took) ≡ true
