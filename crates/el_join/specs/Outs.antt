-- Items that are to be put out.
use Rattle.std.specs.Prelude.{◌≡◌, List, [], ◌∷◌, map, Option, None, Some, Result, Ok, Err}
use Rattle.gst_item.specs.declared.out.Out.{Out}
use Rattle.flow_model.specs.declared.fault.ElementFault.{ElementFault}
use Rattle.flow_model.specs.declared.fault.ElementFault.TheVariants.{NotNegotiated as Refused, BadStream as Broken, TooLong as Passing, OutOfMemory as Wanting}
use Rattle.flow_model.specs.Item.{Item}
use Rattle.flow_model.specs.Rule.{Fault, TooLong}

-- the items alone
abbrev pub items_of : List Out → List Item
items_of outs = map (λ (o : Out). o.item) outs

-- the first fault
abbrev pub fault_in : List (Result Item Fault) → Option Fault
fault_in [] = None
fault_in (Ok x ∷ rs) = fault_in rs
fault_in (Err fault ∷ rs) = Some fault

-- a fault is the first one, or want of memory
abbrev pub IsDue : Option Fault → ElementFault → Type 0
IsDue found (Refused offered wanted) = ⊥
IsDue found (Broken place kind) = ⊥
IsDue found (Passing a b) = found ≡ Some (TooLong a b)
IsDue found Wanting = Unit {0}
