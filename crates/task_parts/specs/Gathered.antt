-- The pads of an element, and what it put out and is not there yet.
use Rattle.std.specs.Prelude.{◌≡◌, ◌<◌, ◌&&◌, ◌||◌, ℕ, zero, suc, Bool, true, false, not, List, [], ◌∷◌, Some, nat_lt, slice_get}
use Rattle.flow_model.specs.Takes.{on_port}
use Rattle.gst_item.specs.declared.out.Out.{Out}
use Rattle.flow_model.specs.Item.{is_flush_stop}
use Rattle.task_pads.specs.declared.pad.Pad.{Pad}
use Rattle.task_pads.specs.Behind.{leads_on}
use Rattle.task_pads.specs.Pads.{waiting_of, rest_of}

-- each of them is for a source pad that is there, and none is FLUSH_STOP
abbrev pub are_within : ℕ → List Out → Bool
are_within ports [] = true
are_within ports (o ∷ os) = nat_lt o.pad ports && (not (is_flush_stop o.item) && are_within ports os)

-- where nothing waits at a pad, nothing was put out that is to go there
abbrev pub AreFilled : {O : Type 0} → List (Pad O) → List Out → Type 0
AreFilled {O = O} pads out = (port : ℕ) (pad : Pad O) → slice_get pads port ≡ Some pad → waiting_of pad ≡ [] → on_port port out ≡ []

abbrev pub is_nothing : {A : Type 0} → List A → Bool
is_nothing [] = true
is_nothing (x ∷ xs) = false

-- nothing waits at the pads
abbrev pub pads_idle : {O : Type 0} → List (Pad O) → Bool
pads_idle [] = true
pads_idle (pad ∷ pads) = is_nothing (waiting_of pad) && pads_idle pads

-- nothing waits at the first pads, so many of them
abbrev pub pads_idle_below : {O : Type 0} → ℕ → List (Pad O) → Bool
pads_idle_below zero pads = true
pads_idle_below (suc count) [] = true
pads_idle_below (suc count) (pad ∷ pads) = is_nothing (waiting_of pad) && pads_idle_below count pads

abbrev pub AreIdleBelow : {O : Type 0} → ℕ → List (Pad O) → Type 0
AreIdleBelow {O = O} count pads = (port : ℕ) (pad : Pad O) → port < count → slice_get pads port ≡ Some pad → waiting_of pad ≡ []

abbrev pub are_linked : {O : Type 0} → List (Pad O) → Bool
are_linked [] = false
are_linked (pad ∷ pads) = leads_on (rest_of pad).behind || are_linked pads

-- a pad other than that of a port is linked
abbrev pub linked_else : {O : Type 0} → ℕ → List (Pad O) → Bool
linked_else port [] = false
linked_else zero (pad ∷ pads) = are_linked pads
linked_else (suc port) (pad ∷ pads) = leads_on (rest_of pad).behind || linked_else port pads
