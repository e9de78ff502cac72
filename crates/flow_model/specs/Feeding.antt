-- What an element with one sink pad answers to an item, and what it puts out.
use Rattle.std.specs.Prelude.{◌≡◌, ℕ, Bool, List, [], ◌∷◌, Result, Ok, Err, if◌then◌else◌, map}
use Rattle.gst_item.specs.declared.flow.Flow.{Flow}
use Rattle.gst_item.specs.declared.flow.Flow.TheVariants.{Ok as Taken, Eos as BehindEos}
use Rattle.gst_item.specs.declared.out.Out.{Out}
use Rattle.flow_model.specs.declared.fault.ElementFault.{ElementFault}
use Rattle.flow_model.specs.declared.fault.ElementFault.TheVariants.{NotNegotiated as Refused, BadStream as Broken, TooLong as Passing, OutOfMemory as Wanting}
use Rattle.flow_model.specs.Item.{Item}
use Rattle.flow_model.specs.Sticky.{in_force}
use Rattle.flow_model.specs.Call.{Call, items}
use Rattle.flow_model.specs.Rule.{Response, Fault, NotNegotiated, BadStream, TooLong, unfed, all_called}
use Rattle.gst_item.specs.Item.{has_item}

-- whether EOS was fed since the last FLUSH_STOP
abbrev pub has_eos : List Call → Bool
has_eos calls = has_item (in_force (items calls)).eos

-- behind EOS an item is answered with that, up to the next FLUSH_STOP
abbrev pub flow_behind : List Call → Flow
flow_behind calls = if has_eos calls then BehindEos else Taken

-- what an element that passes an item puts out: the item where it was taken, and nothing else
abbrev pub passed : Flow → Item → List Item
passed Taken x = x ∷ []
passed _ x = []

-- items that are to cross the source pad of a number
abbrev pub on_pad : ℕ → List Item → List Out
on_pad pad xs = map (λ x. record { pad = pad; item = x }) xs

-- what is owed for an item that is fed behind these calls; behind EOS it is nothing
abbrev pub next_owed : Response → List Call → Item → Result (List Item) Fault
next_owed respond calls x = if (all_called respond unfed calls).over then Ok [] else respond (all_called respond unfed calls) x

-- An element's fault is that of its rule. Memory may be wanting at any item.
abbrev pub IsFaultOf : Result (List Item) Fault → ElementFault → Type 0
IsFaultOf owed (Refused offered wanted) = owed ≡ Err (NotNegotiated offered wanted)
IsFaultOf owed (Broken place kind) = owed ≡ Err (BadStream place kind)
IsFaultOf owed (Passing a b) = owed ≡ Err (TooLong a b)
IsFaultOf owed Wanting = Unit {0}
