-- Whether a stream has ended, and what a sink answers to an item.
use Rattle.std.specs.Prelude.{Bool, true, false, List, if◌then◌else◌, fold}
use Rattle.gst_item.specs.declared.flow.Flow.{Flow}
use Rattle.gst_item.specs.declared.flow.Flow.TheVariants.{Ok as Taken, Eos as BehindEos}
use Rattle.flow_model.specs.Item.{Item, is_flush_stop, is_eos}

-- FLUSH_STOP opens a stream again, and EOS ends it
abbrev pub next_ended : Bool → Item → Bool
next_ended ended x = if is_flush_stop x then false else (if ended then true else is_eos x)

-- whether EOS came since the last FLUSH_STOP
abbrev pub has_ended : List Item → Bool
has_ended list = fold next_ended false list

-- behind EOS an item is answered with that, unless it is a FLUSH_STOP
abbrev pub flow_for : Bool → Item → Flow
flow_for ended x = if is_flush_stop x then Taken else (if ended then BehindEos else Taken)

abbrev pub flow_behind : List Item → Item → Flow
flow_behind list x = flow_for (has_ended list) x
