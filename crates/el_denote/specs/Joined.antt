-- What an element with several sink pads owes for whole lists, one for each of them, and the first fault of its rule.
use Rattle.std.specs.Prelude.{◌≡◌, ℕ, List, [], ◌∷◌, ◌++◌, map, replicate, Option, None, Result, Ok, Err}
use Rattle.flow_model.specs.declared.fault.ElementFault.{ElementFault}
use Rattle.flow_model.specs.Item.{Item}
use Rattle.flow_model.specs.Call.{Call, feeds}
use Rattle.flow_model.specs.Rule.{Fault, Answers}
use Rattle.flow_model.specs.Feeding.{IsFaultOf}
use Rattle.el_settings.specs.declared.settings.Settings.{Settings}
use Rattle.el_settings.specs.Values.{or_else}
use Rattle.el_settings.specs.Asked.{sink_pads}
use Rattle.el_set.specs.Denoted.{rule_of, answers_of}
use Rattle.el_denote.specs.Denoted.{fault_of, answered}
use Rattle.el_denote.specs.Turns.{Turn, Give, Flush, turned, most_stops, turns_to, woven}

-- the fault of the first item that is refused behind what the pads were given
abbrev pub refused : Answers → List (List Call) → Turn → Option Fault
refused answers given (Give pad item) = fault_of (answers given pad item)
refused answers given (Flush number) = None

abbrev pub first_refused : Answers → List (List Call) → List Turn → Option Fault
first_refused answers given [] = None
first_refused answers given (t ∷ ts) = or_else (refused answers given t) (first_refused answers (turned given t) ts)

abbrev pub nothing_given : Settings → List (List Call)
nothing_given settings = replicate (sink_pads settings) []

-- what the rule owes in section j for the whole lists
abbrev pub owed_in : Settings → List (List Item) → ℕ → List Item
owed_in settings inputs j = rule_of settings (map feeds inputs) 0 j

abbrev pub first_fault_in : Settings → List Turn → Option Fault
first_fault_in settings turns = first_refused (answers_of settings) (nothing_given settings) turns

-- Of the one source pad: section by section what the rule owes there, where no item is refused, and else the first fault, or want of
-- memory. A list with fewer FLUSH_STOPs is flushed with the others behind its end.
abbrev pub IsJoined : Settings → List (List Item) → Result (List Item) ElementFault → Type 0
IsJoined settings inputs (Ok owed) =
    (first_fault_in settings (turns_to (most_stops inputs) inputs) ≡ None)
    × (owed ≡ woven (owed_in settings inputs) inputs (most_stops inputs) ++ owed_in settings inputs (most_stops inputs))
IsJoined settings inputs (Err fault) = IsFaultOf (answered (first_fault_in settings (turns_to (most_stops inputs) inputs))) fault

-- the list of the one source pad
abbrev pub AreJoined : Settings → List (List Item) → Result (List (List Item)) ElementFault → Type 0
AreJoined settings inputs (Ok outputs) = (owed : List Item) × (outputs ≡ owed ∷ []) × IsJoined settings inputs (Ok owed)
AreJoined settings inputs (Err fault) = IsJoined settings inputs (Err fault)
