-- Elements that are fed from inlets are no sinks, and no sources.
use Rattle.std.proofs.Common.{◌≡◌, ◌||◌, true, false, List, [], ◌∷◌, refl}
use Rattle.flow_model.specs.Call.{Feed}
use Rattle.flow_model.specs.Item.{Item, Ev, Eos}
use Rattle.el_settings.specs.Asked.{is_queue, is_sink, is_source, makes_sinks}
use Rattle.el_settings.specs.declared.settings.Settings.{Settings}
use Rattle.el_settings.specs.declared.settings.Settings.TheVariants.{Concat, Interleave, Queue}
use Rattle.el_set.specs.Denoted.{rule_of}

pub some_item : {x : Item} {xs : List Item} → x ∷ xs ≡ [] → ⊥
some_item e = cc

-- the rule of an element that is fed from inlets owes something for an EOS
pub inlets_owe : (s : Settings) → (is_queue s || makes_sinks s) ≡ true → rule_of s ((Feed (Ev Eos) ∷ []) ∷ []) 0 0 ≡ [] → ⊥
inlets_owe (Queue s) is none = some_item none
inlets_owe (Interleave pads) is none = some_item none
inlets_owe (Concat pads) is none = some_item none
inlets_owe _ is none = cc

pub inlets_no_sink : (s : Settings) → (is_queue s || makes_sinks s) ≡ true → is_sink s ≡ false
inlets_no_sink (Queue s) is = refl
inlets_no_sink (Interleave pads) is = refl
inlets_no_sink (Concat pads) is = refl
inlets_no_sink _ is = absurd (cc)

pub inlets_no_source : (s : Settings) → (is_queue s || makes_sinks s) ≡ true → is_source s ≡ false
inlets_no_source (Queue s) is = refl
inlets_no_source (Interleave pads) is = refl
inlets_no_source (Concat pads) is = refl
inlets_no_source _ is = absurd (cc)
