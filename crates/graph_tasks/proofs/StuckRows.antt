-- The rows of the heads of a graph's tasks, where each holds the lane into its sink pad or nothing.
use Rattle.std.proofs.Common.{◌≡◌, ◌<◌, ◌||◌, ℕ, Bool, true, false, if◌then◌else◌, List, [], ◌∷◌, Option, None, Some, inl, inr, refl, sym, ap, ◌∙◌, subst, arith}
use Rattle.std.specs.Prelude.{is_some, slice_get}
use Rattle.std.specs.Option.{option_map, option_map_or}
use Rattle.inlet_row.specs.declared.feeding.Feeding.{Feeding}
use Rattle.inlet_row.specs.declared.feeding.Feeding.TheVariants.{Lane as OfLane}
use Rattle.inlet_row.specs.declared.row.InletRow.{InletRow}
use Rattle.inlet_row.specs.Row.{feeds_of}
use Rattle.el_settings.specs.Asked.{is_queue, limits_of, makes_sinks}
use Rattle.el_settings.specs.declared.settings.QueueSettings.{QueueSettings}
use Rattle.el_settings.specs.declared.settings.Settings.{Settings}
use Rattle.el_settings.proofs.Roles.{queue_limits}
use Rattle.graph_core.specs.Elements.{Made, has}
use Rattle.graph_core.specs.GraphPlan.{pad_id, sink_count, sink_at as place_at}
use Rattle.graph_pads.specs.Links.{source_before}
use Rattle.graph_pads.specs.declared.pad.PadLink.{PadLink}
use Rattle.graph_pads.specs.declared.pad.PadPlace.{PadPlace}
use Rattle.el_settings.proofs.Padded.{few_sinks}
use Rattle.graph_parts.specs.Links.{has_inlets}
use Rattle.graph_parts.specs.Lanes.{has_lane, room_by, room_of}
use Rattle.net_turns.specs.Alone.{HoldsAlone}
use Rattle.net_turns.specs.Rests.{AwaitsLane}
use Rattle.graph_tasks.specs.Stalled.{lane_at, lane_into}
use Rattle.graph_tasks.proofs.Came.{place_again}

-- an element that is fed from inlets has room in its lanes
room_told : (s : Settings) → has_inlets s ≡ true → is_some (room_by s) ≡ true
room_told s is = go (makes_sinks s) refl is
  where
    some_of : (found : Option QueueSettings) → is_some (option_map room_of found) ≡ is_some found
    some_of None = refl
    some_of (Some own) = refl

    queue_only : (b : Bool) → (b || false) ≡ true → b ≡ true
    queue_only true e = refl
    queue_only false e = e

    go : (b : Bool) → makes_sinks s ≡ b → has_inlets s ≡ true → is_some (room_by s) ≡ true
    go true joins fed = rw joins refl
    go false single fed = rw single (some_of (limits_of s) ∙ queue_limits s ∙ queue_only (is_queue s) (rw single at fed))

-- so there is a lane exactly where a sink pad of it is linked
lane_by : (links : List PadLink) (found : Option Made) (before : Option PadPlace) → option_map_or (λ (m : Made). has_inlets m.settings) found false ≡ true
    → is_some (if is_some before then option_map_or (λ (m : Made). room_by m.settings) found None else None) ≡ is_some before
lane_by links None before fed = absurd (cc)
lane_by links (Some m) None fed = refl
lane_by links (Some m) (Some source) fed = room_told m.settings fed

pub lane_told : (made : List Made) (links : List PadLink) (n pad : ℕ) → pad < 64 → has has_inlets made n ≡ true
    → has_lane made links (pad_id (place_at n pad)) ≡ is_some (source_before links (place_at n pad))
lane_told made links n pad few fed =
    ap (λ (place : PadPlace). is_some (if is_some (source_before links place) then option_map_or (λ (m : Made). room_by m.settings) (slice_get made place.element) None else None))
    (place_again (place_at n pad) few)
    ∙ lane_by links (slice_get made n) (source_before links (place_at n pad)) fed

-- an element has few sink pads
pub few_pads : (found : Option Made) (pad : ℕ) → pad < sink_count found → pad < 64
few_pads None pad w = absurd (omega (arith, w))
few_pads (Some m) pad w = let few = few_sinks m.settings in omega (arith, w, few)

module _ {I : Type 0} (made : List Made) (links : List PadLink) (n pad : ℕ) (few : pad < 64) (fed : has has_inlets made n ≡ true) (row : InletRow I)
    (alone : HoldsAlone (lane_at made links n pad) row) where
  lane_is : (b : Bool) → is_some (source_before links (place_at n pad)) ≡ b → HoldsAlone (if b then Some (pad_id (place_at n pad)) else None) row
  lane_is b is = subst (λ (c : Bool). HoldsAlone (if c then Some (pad_id (place_at n pad)) else None) row) (lane_told made links n pad few fed ∙ is) alone

  -- the row of a sink pad that is not linked is empty
  pub row_none : source_before links (place_at n pad) ≡ None → feeds_of row ≡ []
  row_none at = lane_is false (ap is_some at)

  -- and that of a linked one holds the lane into it
  pub row_lane : (source : PadPlace) → source_before links (place_at n pad) ≡ Some source → (inlet : I) × (feeds_of row ≡ OfLane (pad_id (place_at n pad)) inlet ∷ [])
  row_lane source at = lane_is true (ap is_some at)

  -- for that it waits
  pub row_awaits : (lane : ℕ) → AwaitsLane (feeds_of row) lane → lane ≡ lane_into links (place_at n pad)
  row_awaits lane awaits = go (source_before links (place_at n pad)) refl awaits
    where
      same : {j k : ℕ} {a b : I} {fs gs : List (Feeding I)} → OfLane j a ∷ fs ≡ OfLane k b ∷ gs → j ≡ k
      same e = cc

      some_not : {f : Feeding I} {fs : List (Feeding I)} → f ∷ fs ≡ [] → ⊥
      some_not e = cc

      go : (found : Option PadPlace) → source_before links (place_at n pad) ≡ found → AwaitsLane (feeds_of row) lane
          → lane ≡ option_map_or (λ (source : PadPlace). pad_id (place_at n pad)) found 4294967295
      go None at (inl a) = absurd (some_not (sym a.1 ∙ row_none at))
      go None at (inr a) = a.1
      go (Some source) at (inl a) = same (sym a.1 ∙ (row_lane source at).1)
      go (Some source) at (inr a) = absurd (some_not (sym (row_lane source at).1 ∙ a.0))
