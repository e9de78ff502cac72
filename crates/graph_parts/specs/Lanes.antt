-- The lanes into the sink pads of a graph's elements that are fed from inlets. A lane has the number of the sink pad that it
-- leads to: 64 times its element's, and the pad's own.
use Rattle.std.specs.Prelude.{◌≡◌, ◌==◌, ◌||◌, ◌*◌, ◌%◌, ℕ, Bool, true, List, [], Option, None, Some, if◌then◌else◌, filter, filter_map, is_some, length, map, nat_lt, slice_get}
use Rattle.std.specs.List.{range_with_len}
use Rattle.std.specs.Option.{option_map, option_map_or}
use Rattle.flow_model.specs.Item.{Item}
use Rattle.el_settings.specs.Asked.{limits_of, makes_sinks}
use Rattle.el_settings.specs.declared.settings.QueueSettings.{QueueSettings}
use Rattle.el_settings.specs.declared.settings.Settings.{Settings}
use Rattle.graph_core.specs.Elements.{Made}
use Rattle.graph_core.specs.GraphPlan.{most_pads, owner_of}
use Rattle.graph_pads.specs.Links.{source_before}
use Rattle.graph_pads.specs.declared.pad.PadLink.{PadLink}
use Rattle.graph_pads.specs.declared.pad.PadPlace.{PadPlace}
use Rattle.lane_core.specs.Lane.{Lane, lane_of}
use Rattle.lane_core.specs.Room.{Limits}

-- the most items that a queue holds
abbrev pub most_held : ℕ
most_held = 16384

-- how many items a queue holds: without a limit, or above the most, it is the most
abbrev pub room_of : QueueSettings → ℕ
room_of settings = if (settings.buffers == 0) || nat_lt most_held settings.buffers then most_held else settings.buffers

-- and a lane into an element whose sink pads links make
abbrev pub join_room : ℕ
join_room = 16

abbrev pub room_by : Settings → Option ℕ
room_by settings = if makes_sinks settings then Some join_room else option_map room_of (limits_of settings)

-- the sink pad of a number
abbrev pub sink_of : ℕ → PadPlace
sink_of d = record { element = owner_of d; pad = d % most_pads }

-- how many items the lane of a number holds, where its sink pad is one of an element that is fed from inlets and is linked
abbrev pub lane_room : List Made → List PadLink → ℕ → Option ℕ
lane_room made links d =
    if is_some (source_before links (sink_of d)) then option_map_or (λ (m : Made). room_by m.settings) (slice_get made (owner_of d)) None else None

abbrev pub has_lane : List Made → List PadLink → ℕ → Bool
has_lane made links d = is_some (lane_room made links d)

-- how many lanes have lower numbers
abbrev pub lane_place : List Made → List PadLink → ℕ → ℕ
lane_place made links d = length (filter (has_lane made links) (range_with_len 0 d))

-- the end at which items are taken is there exactly where there is a lane, and received nothing
abbrev pub InletAt : {I : Type 0} → (I → ℕ) → (I → List Item → Type 0) → List Made → List PadLink → ℕ → Option I → Type 0
InletAt place received made links d None = lane_room made links d ≡ None
InletAt place received made links d (Some inlet) = (has_lane made links d ≡ true) × (place inlet ≡ lane_place made links d) × received inlet []

-- and so is the end at which they are put, with the lane's room; nothing was sent
abbrev pub OutletAt : {O : Type 0} → (O → ℕ) → (O → Limits) → (O → ℕ) → (O → List Item → Type 0) → List Made → List PadLink → ℕ → Option O → Type 0
OutletAt place limits count sent made links d None = lane_room made links d ≡ None
OutletAt place limits count sent made links d (Some outlet) =
    (lane_room made links d ≡ Some (limits outlet).items) × (place outlet ≡ lane_place made links d) × (count outlet ≡ 0) × sent outlet []

-- the numbers of all sink pads that there can be, and the rooms of the lanes, in the order of these
abbrev pub sink_numbers : List Made → ℕ
sink_numbers made = length made * most_pads

abbrev pub lane_rooms : List Made → List PadLink → List ℕ
lane_rooms made links = filter_map (lane_room made links) (range_with_len 0 (sink_numbers made))

-- A table of empty lanes for a graph, and by their numbers the ends of each.
pub record AreLanes {I O : Type 0} (place_in : I → ℕ) (received : I → List Item → Type 0) (place_out : O → ℕ) (limits : O → Limits) (count : O → ℕ) (sent : O → List Item → Type 0)
    (made : List Made) (links : List PadLink) (table : List Lane) (inlets : List (Option I)) (outlets : List (Option O)) : Type 0 where
  pub table_is : table ≡ map (lane_of []) (lane_rooms made links)
  pub inlet_count : length inlets ≡ sink_numbers made
  pub outlet_count : length outlets ≡ sink_numbers made
  pub inlet : (d : ℕ) (end : Option I) → slice_get inlets d ≡ Some end → InletAt place_in received made links d end
  pub outlet : (d : ℕ) (end : Option O) → slice_get outlets d ≡ Some end → OutletAt place_out limits count sent made links d end
