-- The rule of a filter of caps.
use Rattle.std.specs.Prelude.{Bool, true, false, List, [], ◌∷◌, Option, None, Some, Result, Ok, Err, if◌then◌else◌}
use Rattle.gst_caps.specs.Accepts.{accepts}
use Rattle.gst_value.specs.Description.{Description}
use Rattle.gst_caps.specs.declared.caps.Caps.{Caps}
use Rattle.gst_caps.specs.declared.caps.Caps.TheVariants.{Any, Of}
use Rattle.gst_value.specs.declared.one.One.{One}
use Rattle.flow_model.specs.Item.{Item, Buf, Ev, NewCaps}
use Rattle.flow_model.specs.Call.{Call, Feed, Act, Drain, Set, Filter, Allowed, Drops, items}
use Rattle.flow_model.specs.Rule.{Fault, NotNegotiated, Response}
use Rattle.flow_model.specs.CapsInForce.{caps_in_force}

-- the filter in force: the one that was set last, and the first one where none was set
abbrev pub filter_in : Caps → List Call → Caps
filter_in filter [] = filter
filter_in filter (Feed x ∷ calls) = filter_in filter calls
filter_in filter (Act Drain ∷ calls) = filter_in filter calls
filter_in filter (Act (Set (Filter caps)) ∷ calls) = filter_in caps calls
filter_in filter (Act (Set (Allowed caps)) ∷ calls) = filter_in filter calls
filter_in filter (Act (Set (Drops drops)) ∷ calls) = filter_in filter calls

-- whether a filter takes a buffer: it accepts its caps, and only all caps take one without
abbrev pub takes_buffer : Caps → Option (Description One) → Bool
takes_buffer filter (Some caps) = accepts filter caps
takes_buffer Any None = true
takes_buffer (Of structures) None = false

-- What a filter owes for an item, by the caps in force. CAPS that it does not accept and a buffer that it does
-- not take are faults, and all else passes.
abbrev pub filter_answer : Caps → Option (Description One) → Item → Result (List Item) Fault
filter_answer filter caps (Ev (NewCaps new)) = if accepts filter new then Ok (Ev (NewCaps new) ∷ []) else Err (NotNegotiated (Some new) filter)
filter_answer filter caps (Buf buffer) = if takes_buffer filter caps then Ok (Buf buffer ∷ []) else Err (NotNegotiated caps filter)
filter_answer filter caps x = Ok (x ∷ [])

-- the rule of a filter that begins with these caps
abbrev pub filters : Caps → Response
filters first fed x = filter_answer (filter_in first fed.given) (caps_in_force (items fed.given)) x
