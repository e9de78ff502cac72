-- A pad leads where the graph tells, over the lane that was made for it.
use Rattle.std.proofs.Common.{◌≡◌, ◌<◌, ◌⊎◌, ◌≢◌, ◌||◌, ℕ, Bool, true, false, cond, List, [], ◌∷◌, ◌++◌, Option, None, Some, is_some, length-set, refl, sym, ap, ◌∙◌, subst, inl, inr, arith}
use Rattle.std.specs.Prelude.{slice_get, slice_index_or, slice_set}
use Rattle.std.specs.Option.{option_map, option_map_or}
use Rattle.std.proofs.lemmas.List.{append-nil}
use Rattle.std.proofs.lemmas.Option.{slice_get-get_or}
use Rattle.flow_model.specs.Account.{IsMember}
use Rattle.el_settings.specs.Asked.{is_queue, limits_of, makes_sinks}
use Rattle.el_settings.specs.declared.settings.QueueSettings.{QueueSettings}
use Rattle.el_settings.specs.declared.settings.Settings.{Settings}
use Rattle.el_settings.proofs.Roles.{queue_limits}
use Rattle.graph_core.specs.Elements.{Made, has}
use Rattle.graph_core.specs.GraphPlan.{owner_of, pad_id, sink_at as place_at}
use Rattle.graph_pads.specs.Links.{sink_behind, source_before}
use Rattle.graph_pads.specs.declared.pad.PadLink.{PadLink}
use Rattle.graph_pads.specs.declared.pad.PadPlace.{PadPlace}
use Rattle.graph_core.proofs.NumberedPads.{owner_at, pad_at_number}
use Rattle.graph_parts.specs.Links.{has_inlets}
use Rattle.graph_parts.specs.declared.bag.BagLink.{BagLink}
use Rattle.graph_parts.specs.declared.bag.BagLink.TheVariants.{Nothing, Element, Lane}
use Rattle.graph_parts.proofs.Trees.{sink_there}
use Rattle.graph_parts.specs.Lanes.{OutletAt, join_room, lane_room, room_by, room_of, sink_numbers, sink_of}
use Rattle.graph_parts.proofs.LaneSlots.{slot_of_set}
use Rattle.lane_core.specs.declared.ends.Outlet as outlets
use Rattle.task_pads.specs.Behind.{end_in, goes, lane_end, WentIn}
use Rattle.task_pads.specs.Pads.{HasCrossed, crossed_count, number_of, probe_of, rest_of, waiting_of}
use Rattle.task_pads.specs.declared.pad.Behind.{Behind}
use Rattle.task_pads.specs.declared.pad.Pad.{Pad}
use Rattle.graph_tasks.specs.Tasks.{IsLaneTo, LeadsTo}
use Rattle.graph_tasks.specs.Wiring.{AreLinks, IsBehind, IsNumbered, OutletsLeft, PadGiven, PadMade, lane_to, over_lane, without_lane}
use Rattle.graph_tasks.proofs.Numbers.{few_pads, few_sink, number_within, with_pad}
use Rattle.graph_parts.proofs.Onces.{in_front, in_back}

-- an element that is fed from inlets has a lane, where something is linked to it
has_room : (s : Settings) → has_inlets s ≡ true → room_by s ≡ None → ⊥
has_room s fed none = by (makes_sinks s) (is_queue s) (limits_of s) (queue_limits s) fed none
  where
    by : (joins queue : Bool) (limits : Option QueueSettings) → is_some limits ≡ queue → (queue || joins) ≡ true → cond joins (Some join_room) (option_map room_of limits) ≡ None → ⊥
    by true queue limits is fed none = absurd (cc)
    by false true None is fed none = absurd (cc)
    by false false None is fed none = absurd (cc)
    by false queue (Some own) is fed none = absurd (cc)

room_where : (before : Option PadPlace) (found : Option Made) (p : PadPlace) → before ≡ Some p → option_map_or (λ (m : Made). has_inlets m.settings) found false ≡ true
    → cond (is_some before) (option_map_or (λ (m : Made). room_by m.settings) found None) None ≡ None → ⊥
room_where None found p is queue none = absurd (cc)
room_where (Some q) None p is queue none = absurd (cc)
room_where (Some q) (Some m) p is queue none = has_room m.settings queue none

module _ (made : List Made) (links : List PadLink) (are : AreLinks made links) where
  -- such an element has a lane to each sink pad that is linked
  pub linked_room : (source sink : PadPlace) → sink_behind links source ≡ Some sink → has has_inlets made sink.element ≡ true → lane_room made links (pad_id sink) ≡ None → ⊥
  linked_room source sink at is none =
      let few = few_sink made links are.all source sink at in
      room_where (source_before links (sink_of (pad_id sink))) (slice_get made (owner_of (pad_id sink))) source (ap (source_before links) (pad_at_number sink few) ∙ are.once.there source sink at)
      (subst (λ (n : ℕ). has has_inlets made n ≡ true) (sym (owner_at sink few)) is) none

  -- and the pad has a number
  pub lane_numbered : (n port : ℕ) (leads : BagLink) (gone : List ℕ) → PadGiven made links n port leads gone → IsNumbered made leads
  lane_numbered n port Nothing gone given = tt
  lane_numbered n port (Element d i) gone given = tt
  lane_numbered n port (Lane d i) gone given = let w = sink_there made links are.all (place_at n port) (place_at d i) given.link.0 in (with_pad made d i w, few_pads made d i w)

module _ {O L : Type 0} (o : outlets.Ghosts O L) (made : List Made) (links : List PadLink) where
  -- the end of a lane that a pad leads over
  end_found : (gone : List ℕ) (ends : List (Option O)) → OutletsLeft o made links gone ends → (d : ℕ) → d < sink_numbers made → (IsMember d gone → ⊥)
      → OutletAt o.place o.limits o.count o.sent made links d (slice_index_or ends d None)
  end_found gone ends left d there fresh = left.at d (slice_index_or ends d None) (slice_get-get_or ends d None (omega (arith, there, left.size))) fresh

  lane_by : (d i : ℕ) (pad : Pad O) (found : Option O) → (lane_room made links (pad_id (place_at d i)) ≡ None → ⊥) → OutletAt o.place o.limits o.count o.sent made links (pad_id (place_at d i)) found
      → pad.behind ≡ over_lane (pad_id (place_at d i)) d i found
      → IsLaneTo o made links (place_at d i) pad
  lane_by d i pad None room at is = absurd (room at)
  lane_by d i pad (Some outlet) room at is = record {
    goes = ap goes is;
    end = lane_end o outlet;
    is = ap (end_in o) is;
    place = at.1;
    room = at.0;
    count = at.2;
    sent = subst (λ (b : Behind O). WentIn o b []) (sym is) at.3;
  }

  pad_leads : (gone : List ℕ) (ends : List (Option O)) → OutletsLeft o made links gone ends → (n port : ℕ) (leads : BagLink) → PadGiven made links n port leads gone → (pad : Pad O)
      → IsBehind leads ends pad.behind → LeadsTo o made links pad (sink_behind links (place_at n port))
  pad_leads gone ends left n port Nothing given pad is = subst (λ (found : Option PadPlace). LeadsTo o made links pad found) (sym given.link) (LeadsTo.nothing is)
  pad_leads gone ends left n port (Element d i) given pad is =
      subst (λ (found : Option PadPlace). LeadsTo o made links pad found) (sym given.link.0) (LeadsTo.element (place_at d i) given.link.1 is)
  pad_leads gone ends left n port (Lane d i) given pad is =
      subst (λ (found : Option PadPlace). LeadsTo o made links pad found) (sym given.link.0)
      (LeadsTo.lane (place_at d i) given.link.1
      (lane_by d i pad (slice_index_or ends (pad_id (place_at d i)) None) (linked_room made links given.links_are (place_at n port) (place_at d i) given.link.0 given.link.1)
      (end_found gone ends left (pad_id (place_at d i)) (number_within made d i (sink_there made links given.links_are.all (place_at n port) (place_at d i) given.link.0)) (given.apart (pad_id (place_at d i)) (inl refl))) is))

  -- what is left behind it
  pub outlets_less : (gone : List ℕ) (ends left : List (Option O)) → OutletsLeft o made links gone ends → (leads : BagLink) → left ≡ without_lane leads ends → OutletsLeft o made links (gone ++ lane_to leads) left
  outlets_less gone ends left were Nothing is = rw (append-nil gone, is) were
  outlets_less gone ends left were (Element d i) is = rw (append-nil gone, is) were
  outlets_less gone ends left were (Lane d i) is = one_less (pad_id (place_at d i)) is
    where
      by : (d e : ℕ) (end : Option O) → (IsMember e (gone ++ d ∷ []) → ⊥) → ((e ≡ d) × (end ≡ None)) ⊎ ((e ≢ d) × (slice_get ends e ≡ Some end)) → OutletAt o.place o.limits o.count o.sent made links e end
      by d e end fresh (inl here) = absurd (fresh (in_back e gone (d ∷ []) (inl here.0)))
      by d e end fresh (inr other) = were.at e end other.1 (λ m. fresh (in_front e gone (d ∷ []) m))

      one_less : (d : ℕ) → left ≡ slice_set ends d None → OutletsLeft o made links (gone ++ d ∷ []) left
      one_less d is = subst (λ (es : List (Option O)). OutletsLeft o made links (gone ++ d ∷ []) es) (sym is) (record {
        size = length-set ends d None ∙ were.size;
        at = λ e end at fresh. by d e end fresh (slot_of_set ends d None e end at);
      })

  pub pad_made : (gone : List ℕ) (ends left : List (Option O)) (n port : ℕ) (leads : BagLink) (pad : Pad O) (behind : Behind O) → OutletsLeft o made links gone ends → PadGiven made links n port leads gone
      → number_of pad ≡ pad_id (place_at n port) → HasCrossed pad [] → crossed_count pad ≡ 0 → waiting_of pad ≡ [] → probe_of pad ≡ None → (rest_of pad).behind ≡ behind → IsBehind leads ends behind
      → left ≡ without_lane leads ends → PadMade o made links n port leads gone pad left
  pad_made gone ends left n port leads pad behind were given number fresh counted idle unprobed same is less = record {
    is = record {
      number = number;
      fresh = fresh;
      counted = counted;
      idle = idle;
      unprobed = unprobed;
      leads = pad_leads gone ends were n port leads given pad (subst (λ (b : Behind O). IsBehind leads ends b) (sym same) is);
    };
    left = outlets_less gone ends left were leads less;
  }
