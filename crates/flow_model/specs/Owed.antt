-- What a rule owes for any call, and what is read off it.
use Rattle.std.specs.Prelude.{List, [], Result, Ok, Err, filter}
use Rattle.flow_model.specs.Item.{Item, Ev, Eos}
use Rattle.flow_model.specs.Call.{Call, Feed, Act, Drain, Set}
use Rattle.flow_model.specs.Rule.{Response, Fault, not_eos}
use Rattle.flow_model.specs.Feeding.{next_owed}

-- what a drain owes: what EOS would, without the EOS
abbrev pub without_eos : Result (List Item) Fault → Result (List Item) Fault
without_eos (Ok owed) = Ok (filter not_eos owed)
without_eos (Err fault) = Err fault

abbrev pub drain_owed : Response → List Call → Result (List Item) Fault
drain_owed respond calls = without_eos (next_owed respond calls (Ev Eos))

-- What is owed for a call behind other calls: for an item what the rule says, and for a drain what it would say of
-- EOS, without the EOS. A setting owes nothing.
abbrev pub owed_at : Response → List Call → Call → Result (List Item) Fault
owed_at respond calls (Feed x) = next_owed respond calls x
owed_at respond calls (Act Drain) = drain_owed respond calls
owed_at respond calls (Act (Set setting)) = Ok []

-- the items of an answer, and none where it is a fault
abbrev pub answered : Result (List Item) Fault → List Item
answered (Ok ys) = ys
answered (Err fault) = []
