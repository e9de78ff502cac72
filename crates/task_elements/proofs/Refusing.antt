-- What a refusal in three words says of a fault.
use Rattle.std.proofs.Common.{ℕ, List, Option, inl, inr, refl}
use Rattle.flow_model.specs.declared.fault.ElementFault.{ElementFault}
use Rattle.flow_model.specs.declared.fault.ElementFault.TheVariants.{NotNegotiated, BadStream, TooLong, OutOfMemory}
use Rattle.flow_model.specs.Item.{Item}
use Rattle.flow_model.specs.Call.{Call}
use Rattle.flow_model.specs.Failures.{IsWriteCause}
use Rattle.flow_model.specs.Moment.{Behavior}
use Rattle.flow_model.specs.Refuses.{RefusesBy}
use Rattle.flow_model.specs.Why.{TellsOf}
use Rattle.flow_model.specs.declared.refusal.Refusal.{Refusal}
use Rattle.flow_model.specs.declared.refusal.Refusal.TheVariants.{Fault}

-- it tells what the element answers, or want of memory
pub told_refusal : (behavior : Behavior) (took : List (List Call)) (pad : ℕ) (x : Item) (fault : ElementFault) (refusal : Refusal)
    → TellsOf fault refusal → RefusesBy behavior took pad x (Fault fault) → RefusesBy behavior took pad x refusal
told_refusal behavior took pad x (NotNegotiated offered wanted) refusal (inl same) why = rw same why
told_refusal behavior took pad x (NotNegotiated offered wanted) refusal (inr want) why = rw want tt
told_refusal behavior took pad x (BadStream place kind) refusal same why = rw same why
told_refusal behavior took pad x (TooLong a b) refusal same why = rw same why
told_refusal behavior took pad x OutOfMemory refusal same why = rw same tt

-- and it counts as no failed write
pub told_cause : (fault : ElementFault) (refusal : Refusal) (count : Option ℕ) → TellsOf fault refusal → IsWriteCause count count refusal
told_cause (NotNegotiated offered wanted) refusal count (inl same) = rw same refl
told_cause (NotNegotiated offered wanted) refusal count (inr want) = rw want refl
told_cause (BadStream place kind) refusal count same = rw same refl
told_cause (TooLong a b) refusal count same = rw same refl
told_cause OutOfMemory refusal count same = rw same refl
