-- What a refusal in three words stands for.
use Rattle.std.specs.Prelude.{◌≡◌, ◌⊎◌}
use Rattle.flow_model.specs.declared.fault.ElementFault.{ElementFault}
use Rattle.flow_model.specs.declared.fault.ElementFault.TheVariants as elements
use Rattle.flow_model.specs.declared.refusal.Refusal.{Refusal}
use Rattle.flow_model.specs.declared.refusal.Refusal.TheVariants.{Fault, Unwritten}
use Rattle.flow_model.specs.declared.refusal.Why.{Why}
use Rattle.flow_model.specs.declared.refusal.Why.TheVariants as whys

abbrev pub refusal_of : Why → Refusal
refusal_of (whys.Caps mismatch) = Fault (elements.NotNegotiated mismatch.value.offered mismatch.value.wanted)
refusal_of (whys.Stream place kind) = Fault (elements.BadStream place kind)
refusal_of (whys.TooLong a b) = Fault (elements.TooLong a b)
refusal_of whys.OutOfMemory = Fault elements.OutOfMemory
refusal_of (whys.Unwritten before after) = Unwritten before after

-- It tells of a fault of an element's rule; where that is of caps, want of memory may be told in its place.
abbrev pub TellsOf : ElementFault → Refusal → Type 0
TellsOf (elements.NotNegotiated offered wanted) refusal = (refusal ≡ Fault (elements.NotNegotiated offered wanted)) ⊎ (refusal ≡ Fault elements.OutOfMemory)
TellsOf (elements.BadStream place kind) refusal = refusal ≡ Fault (elements.BadStream place kind)
TellsOf (elements.TooLong a b) refusal = refusal ≡ Fault (elements.TooLong a b)
TellsOf elements.OutOfMemory refusal = refusal ≡ Fault elements.OutOfMemory
