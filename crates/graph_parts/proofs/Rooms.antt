-- The rooms of lanes, counted up over the numbers of sink pads.
use Rattle.std.proofs.Common.{◌≡◌, ◌+◌, ℕ, List, [], ◌++◌, filter_map, length, map, option_to_list, sym, ap, ◌∙◌}
use Rattle.std.specs.List.{range_with_len}
use Rattle.std.proofs.lemmas.List.{map-append, length-map}
use Rattle.graph_core.specs.Elements.{Made}
use Rattle.graph_pads.specs.declared.pad.PadLink.{PadLink}
use Rattle.lane_core.specs.Lane.{Lane, lane_of}
use Rattle.graph_parts.specs.Lanes.{lane_place, lane_room}
use Rattle.gst_value.proofs.Places.{rooms_counted, rooms_more}

module _ (made : List Made) (links : List PadLink) where
  -- the table of the lanes of lower numbers
  abbrev pub table_before : ℕ → List Lane
  table_before n = map (lane_of []) (filter_map (lane_room made links) (range_with_len 0 n))

  -- the lane of this number comes behind them
  pub table_size : (n : ℕ) → length (table_before n) ≡ lane_place made links n
  table_size n = length-map (filter_map (lane_room made links) (range_with_len 0 n)) (lane_of []) ∙ sym (rooms_counted (lane_room made links) (range_with_len 0 n))

  pub table_more : (n : ℕ) → table_before n ++ map (lane_of []) (option_to_list (lane_room made links n)) ≡ table_before (n + 1)
  table_more n = sym (ap (map (lane_of [])) (rooms_more (lane_room made links) n) ∙ map-append (lane_of []) (filter_map (lane_room made links) (range_with_len 0 n)) (option_to_list (lane_room made links n)))
