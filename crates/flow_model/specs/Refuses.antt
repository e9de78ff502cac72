-- Why an element refuses an item.
use Rattle.std.specs.Prelude.{ℕ, List}
use Rattle.flow_model.specs.Item.{Item}
use Rattle.flow_model.specs.Call.{Call}
use Rattle.flow_model.specs.Feeding.{IsFaultOf}
use Rattle.flow_model.specs.Moment.{Behavior}
use Rattle.flow_model.specs.declared.refusal.Refusal.{Refusal}
use Rattle.flow_model.specs.declared.refusal.Refusal.TheVariants.{Fault, Unwritten}

-- A fault is the one that the element answers to the item, or want of memory. Of a failed write the counts tell.
abbrev pub RefusesBy : Behavior → List (List Call) → ℕ → Item → Refusal → Type 0
RefusesBy behavior took pad x (Fault fault) = IsFaultOf (behavior.answers took pad x) fault
RefusesBy behavior took pad x (Unwritten before after) = Unit {0}
