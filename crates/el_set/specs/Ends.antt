-- Elements put out EOS where they were fed it, and nothing behind it.
use Rattle.std.specs.Prelude.{◌≡◌, ◌≢◌, false, List, [], ◌∷◌, ◌++◌, Err}
use Rattle.flow_model.specs.Item.{Item, eos_among}
use Rattle.flow_model.specs.Sticky.{has_flush_stop}
use Rattle.flow_model.specs.Prefix.{IsPrefix}
use Rattle.flow_model.specs.Call.{feeds}
use Rattle.flow_model.specs.Rule.{Response, Fault, owed_for}
use Rattle.flow_model.specs.Feeding.{next_owed}
use Rattle.flow_model.specs.Section.{IsPlain}

-- At no item of a list a rule meets a fault.
abbrev pub MeetsNoFault : Response → List Item → Type 0
MeetsNoFault respond list = (front : List Item) (x : Item) (fault : Fault) → IsPrefix (front ++ x ∷ []) list → next_owed respond (feeds front) x ≢ Err fault

-- Of a rule alone, for each list without FLUSH_STOP: nothing is owed behind an EOS, and where no fault is met an EOS
-- is owed exactly where there is one in the list.
pub record EndsWithEos (respond : Response) : Type 0 where
  pub plain : (list : List Item) → has_flush_stop list ≡ false → IsPlain (owed_for respond (feeds list))
  pub eos : (list : List Item) → has_flush_stop list ≡ false → MeetsNoFault respond list → eos_among (owed_for respond (feeds list)) ≡ eos_among list

-- what is owed for a list at the end of a row of rules, each of which is fed all that the one before it owes
abbrev pub owed_along : List Response → List Item → List Item
owed_along [] list = list
owed_along (respond ∷ more) list = owed_along more (owed_for respond (feeds list))

-- none of them meets a fault
abbrev pub MeetNoFaults : List Response → List Item → Type 0
MeetNoFaults [] list = Unit {0}
MeetNoFaults (respond ∷ more) list = MeetsNoFault respond list × MeetNoFaults more (owed_for respond (feeds list))

-- Along a row of rules, for each list with nothing behind an EOS: nothing is owed behind an EOS, and where no fault is
-- met an EOS is owed exactly where there is one in the list.
pub record RowEndsWithEos (rules : List Response) : Type 0 where
  pub plain : (list : List Item) → IsPlain list → IsPlain (owed_along rules list)
  pub eos : (list : List Item) → IsPlain list → MeetNoFaults rules list → eos_among (owed_along rules list) ≡ eos_among list
