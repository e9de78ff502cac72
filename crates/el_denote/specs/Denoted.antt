-- What an element owes for whole lists, and the first fault of its rule.
use Rattle.std.specs.Prelude.{◌≡◌, List, [], ◌∷◌, replicate, Option, None, Some, Result, Ok, Err, if◌then◌else◌}
use Rattle.flow_model.specs.declared.fault.ElementFault.{ElementFault}
use Rattle.flow_model.specs.Item.{Item, is_flush_stop}
use Rattle.flow_model.specs.Call.{feeds}
use Rattle.flow_model.specs.Rule.{Response, Fault, Fed, unfed, fed_item, all_called, owed_for}
use Rattle.flow_model.specs.Feeding.{IsFaultOf}
use Rattle.el_settings.specs.declared.settings.Settings.{Settings}
use Rattle.el_settings.specs.Values.{or_else}
use Rattle.el_settings.specs.Asked.{source_pads}
use Rattle.el_set.specs.Denoted.{response_of}

abbrev pub fault_of : Result (List Item) Fault → Option Fault
fault_of (Ok owed) = None
fault_of (Err fault) = Some fault

-- a FLUSH_STOP has no fault, nor an item whose section is over
abbrev pub fault_at : Response → Fed → Item → Option Fault
fault_at respond s x = if is_flush_stop x then None else (if s.over then None else fault_of (respond s x))

abbrev pub first_fault_from : Response → Fed → List Item → Option Fault
first_fault_from respond s [] = None
first_fault_from respond s (x ∷ xs) = or_else (fault_at respond s x) (first_fault_from respond (fed_item respond s x) xs)

abbrev pub first_fault : Response → List Item → Option Fault
first_fault respond items = first_fault_from respond unfed items

-- the fault of one more item
abbrev pub next_fault : Response → List Item → Item → Option Fault
next_fault respond items x = fault_at respond (all_called respond unfed (feeds items)) x

-- an element's fault is the first of its rule; memory may be wanting
abbrev pub answered : Option Fault → Result (List Item) Fault
answered None = Ok []
answered (Some fault) = Err fault

-- the list of the only sink pad
abbrev pub only_input : List (List Item) → List Item
only_input [] = []
only_input (items ∷ more) = items

abbrev pub IsOwed : Response → List Item → Result (List Item) ElementFault → Type 0
IsOwed respond items (Ok owed) = (first_fault respond items ≡ None) × (owed ≡ owed_for respond (feeds items))
IsOwed respond items (Err fault) = IsFaultOf (answered (first_fault respond items)) fault

abbrev pub IsDenoted : Settings → List (List Item) → Result (List (List Item)) ElementFault → Type 0
IsDenoted settings inputs (Ok outputs) =
    (first_fault (response_of settings) (only_input inputs) ≡ None)
    × (outputs ≡ replicate (source_pads settings) (owed_for (response_of settings) (feeds (only_input inputs))))
IsDenoted settings inputs (Err fault) = IsFaultOf (answered (first_fault (response_of settings) (only_input inputs))) fault
