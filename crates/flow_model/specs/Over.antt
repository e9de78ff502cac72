-- When a run is over, EOS has come to each live element.
use Rattle.std.specs.Prelude.{◌≡◌, ℕ, Bool, true, List, [], ◌∷◌}
use Rattle.flow_model.specs.Item.{Item}
use Rattle.flow_model.specs.Call.{Call}
use Rattle.flow_model.specs.Sticky.{in_force}
use Rattle.flow_model.specs.Feeding.{has_eos}
use Rattle.flow_model.specs.Link.{Span, Linked}
use Rattle.flow_model.specs.Eval.{Plan}
use Rattle.flow_model.specs.Account.{GoesForward, IsMember}
use Rattle.flow_model.specs.Moment.{Moment, CellStands}
use Rattle.flow_model.specs.Whole.{IsOver}
use Rattle.gst_item.specs.Item.{has_item}

-- EOS has come in a list, since its last FLUSH_STOP
abbrev pub list_ended : List Item → Bool
list_ended list = has_item (in_force list).eos

-- EOS has come at each sink pad
abbrev pub AllEnded : List (List Call) → Type 0
AllEnded [] = Unit {0}
AllEnded (cs ∷ css) = (has_eos cs ≡ true) × AllEnded css

-- Where an element took EOS at each of its sink pads, it owes EOS to each of its source pads for what it took; a source owes
-- it. Nothing is said of what else it may take, since a rule that meets a fault owes no EOS.
abbrev pub PassesEos : Moment → ℕ → Type 0
PassesEos m e = AllEnded (m.took e) → (p : ℕ) → m.plan.owner p ≡ e → list_ended (m.plan.rule e (m.took e) (m.plan.port p) 0) ≡ true

-- each sink pad is linked from the start, and to a live element
abbrev pub FromStart : (ℕ → Bool) → Plan → List (List Span) → Type 0
FromStart live plan [] = Unit {0}
FromStart live plan (ss ∷ sss) = ((p : ℕ) × (ss ≡ Linked p 0 [] ∷ []) × (live (plan.owner p) ≡ true)) × FromStart live plan sss

-- what a live element has at a moment of a graph to which nothing was done
pub record IsLive (live : ℕ → Bool) (m : Moment) (e : ℕ) : Type 0 where
  pub linked : FromStart live m.plan (m.plan.sinks e)
  pub passes : PassesEos m e

-- Where a run is over and no seek cut a pad, each live element took EOS at each of its sink pads.
abbrev pub EosComes : Type 0
EosComes = (m : Moment) (forward : List ℕ) (live : ℕ → Bool) → GoesForward m.plan [] forward → ((e : ℕ) → IsMember e forward → CellStands m e) → IsOver m forward
    → ((p : ℕ) → (m.plan.log p).cuts ≡ []) → ((e : ℕ) → IsMember e forward → live e ≡ true → IsLive live m e)
    → (e : ℕ) → IsMember e forward → live e ≡ true → AllEnded (m.took e)
