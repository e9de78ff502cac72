-- Pads that lead to what is behind an element from elsewhere in its task, as flags tell it.
use Rattle.std.proofs.Common.{◌≡◌, ◌⊎◌, ℕ, Bool, true, false, List, length, map, Some, refl, sym, ap, ◌∙◌, subst, inl, inr}
use Rattle.std.specs.Prelude.{slice_get}
use Rattle.lane_core.specs.declared.ends.Outlet as outlets
use Rattle.flow_model.specs.declared.element.TaskElement as elements
use Rattle.flow_model.specs.declared.source.TaskSource as sources
use Rattle.task_pads.specs.Behind.{inside}
use Rattle.task_pads.specs.declared.pad.Pad.{Pad}
use Rattle.task_pads.specs.Pads.{goes_of}
use Rattle.task_parts.specs.declared.head.Head.{Head}
use Rattle.task_parts.specs.declared.head.Head.TheVariants.{Source, Inlets}
use Rattle.task_parts.specs.declared.part.Part.{Part}
use Rattle.task_parts.specs.Shape.{all_within, head_shape, head_within, is_closed, part_shape, shape_of}
use Rattle.task_parts.proofs.Tries.{named_in}
use Rattle.net_task.specs.Frame.{PartFrame, Wire, WireAt, IsWire, of_part as wire_part, of_head as wire_head, frame_in, head_frame, head_wire, part_frame, wire_of}
use Rattle.gst_value.proofs.Basics.{and_left, none_some, some_same}
use Rattle.gst_value.proofs.Places.{map_got}
use Rattle.net_groups.specs.Behind.{FlaggedAt, HasFlag, IsBehind, itself, IsElsewhere, at_other, at_source, IsEntered, OtherAt, SourceLeads, TellBehind}
use Rattle.net_groups.proofs.Flags.{flag_of}
use Rattle.net_groups.proofs.Wiring.{PartOf, inside_part, number_part, pad_wire}

module _ {S E I O L : Type 0} {s : sources.Ghosts S} {e : elements.Ghosts E} (o : outlets.Ghosts O L) (head : Head S I O s) (parts : List (Part E O e)) (flags : List Bool) (element : ℕ) (size : length flags ≡ length parts)
    (tell : TellBehind parts element flags) (closed : is_closed (shape_of head parts) ≡ true) where
  -- what has a flag is behind the element, and what is behind it has one
  behind_flagged : (n : ℕ) → HasFlag parts flags n → IsBehind parts element n
  behind_flagged n h = subst (λ (m : ℕ). IsBehind parts element m) h.1.number (tell.behind h.0 h.1.part h.1.at h.1.flag)

  flagged_behind : (n : ℕ) → PartOf parts n → IsBehind parts element n → HasFlag parts flags n
  flagged_behind n q behind = go (flag_of parts element flags q.place q.part size q.at)
    where
      go : (slice_get flags q.place ≡ Some true) ⊎ (slice_get flags q.place ≡ Some false) → HasFlag parts flags n
      go (inl flag) = (q.place, record { part = q.part; at = q.at; flag = flag; number = q.number })
      go (inr flag) = absurd (tell.others q.place q.part q.at flag (subst (λ (m : ℕ). IsBehind parts element m) (sym q.number) behind))

  -- ---- such a pad was found

  pub source_enters : SourceLeads parts flags head → IsEntered (frame_in o head parts) parts element
  source_enters h = go head refl h
    where
      go : (one : Head S I O s) → head ≡ one → SourceLeads parts flags one → IsEntered (frame_in o head parts) parts element
      go (Source one) is z =
          let at = ap (λ (h : Head S I O s). head_wire (head_frame o h)) is in
          record { wire = wire_of o one.pad; is = wire_head at; to = z.0; port = z.1; leads = z.2; behind = behind_flagged z.0 z.3; from = inr (at_source at) }
      go (Inlets one) is z = absurd z

  pub other_enters : (place : ℕ) → OtherAt parts flags place → IsEntered (frame_in o head parts) parts element
  other_enters place z =
      let w = pad_wire o head parts place z.port z.part z.lead.lead.pad z.at z.lead.lead.at in
      record {
        wire = wire_of o z.lead.lead.pad;
        is = wire_part place z.port w;
        to = z.lead.number;
        port = z.lead.lead.sink;
        leads = z.lead.lead.leads;
        behind = behind_flagged z.lead.number z.lead.flag;
        from = inr (at_other place z.port w (tell.others place z.part z.at z.flag));
      }

  pub flagged_enters : (place : ℕ) → FlaggedAt parts flags element place → IsEntered (frame_in o head parts) parts element
  flagged_enters place z = record {
    wire = wire_of o z.lead.pad;
    is = wire_part place z.port (pad_wire o head parts place z.port z.part z.lead.pad z.at z.lead.at);
    to = element;
    port = z.lead.sink;
    leads = z.lead.leads;
    behind = itself;
    from = inl refl;
  }

  -- ---- there is none

  module _ (no_source : SourceLeads parts flags head → ⊥) (no_other : (place : ℕ) → OtherAt parts flags place → ⊥) (no_flagged : (place : ℕ) → FlaggedAt parts flags element place → ⊥) (z : IsEntered (frame_in o head parts) parts element) where
    by_source : head_wire (head_frame o head) ≡ Some z.wire → ⊥
    by_source at = go head refl at
      where
        go : (one : Head S I O s) → head ≡ one → head_wire (head_frame o one) ≡ Some z.wire → ⊥
        go (Source one) is at =
            let leads : goes_of one.pad ≡ inside z.to z.port = ap (λ (w : Wire). w.leads) (some_same at) ∙ z.leads in
            let within = subst (λ (h : Head S I O s). head_within (map part_shape parts) (head_shape h) ≡ true) is (and_left (head_within (map part_shape parts) (head_shape head)) (all_within (map part_shape parts) (map part_shape parts)) closed) in
            let q = number_part parts z.to (named_in (map part_shape parts) (goes_of one.pad) z.to z.port leads within) in
            no_source (subst (λ (h : Head S I O s). SourceLeads parts flags h) (sym is) (z.to, z.port, leads, flagged_behind z.to q z.behind))
        go (Inlets one) is at = none_some at

    -- where the element of the pad has a flag the pad leads to the first one
    by_part : (j k : ℕ) (w : WireAt (frame_in o head parts) j k z.wire) → (IsBehind parts element w.part.number → z.to ≡ element) → ⊥
    by_part j k w first =
        let a = map_got (part_frame o) parts j w.part w.at in
        let b = map_got (wire_of o) a.0.pads.items k z.wire (ap (λ (one : PartFrame). slice_get one.wires k) (sym a.2) ∙ w.pad_at) in
        go a.0 a.1 b.0 b.1 (ap (λ (x : Wire). x.leads) (sym b.2) ∙ z.leads) (λ behind. first (subst (λ (n : ℕ). IsBehind parts element n) (sym (ap (λ (p : PartFrame). p.number) a.2)) behind)) (flag_of parts element flags j a.0 size a.1)
      where
        go : (part : Part E O e) → slice_get parts j ≡ Some part → (pad : Pad O) → slice_get part.pads.items k ≡ Some pad → goes_of pad ≡ inside z.to z.port → (IsBehind parts element part.number → z.to ≡ element)
            → (slice_get flags j ≡ Some true) ⊎ (slice_get flags j ≡ Some false) → ⊥
        go part at pad pad_at leads first (inl flag) =
            no_flagged j (record { part = part; at = at; flag = flag; port = k; lead = record { pad = pad; at = pad_at; sink = z.port; leads = leads ∙ ap (λ (n : ℕ). inside n z.port) (first (tell.behind j part at flag)) } })
        go part at pad pad_at leads first (inr flag) =
            no_other j (record {
              part = part;
              at = at;
              flag = flag;
              port = k;
              lead = record {
                number = z.to;
                lead = record { pad = pad; at = pad_at; sink = z.port; leads = leads };
                flag = flagged_behind z.to (inside_part head parts closed j k z.to z.port part pad at pad_at leads) z.behind;
              };
            })

    pub never_entered : ⊥
    never_entered = go z.from
      where
        of_any : z.to ≡ element → IsWire (frame_in o head parts) z.wire → ⊥
        of_any same (wire_part j k w) = by_part j k w (λ behind. same)
        of_any same (wire_head at) = by_source at

        elsewhere : IsElsewhere (frame_in o head parts) parts element z.wire → ⊥
        elsewhere (at_source at) = by_source at
        elsewhere (at_other j k w other) = by_part j k w (λ behind. absurd (other behind))

        go : (z.to ≡ element) ⊎ IsElsewhere (frame_in o head parts) parts element z.wire → ⊥
        go (inl same) = of_any same z.is
        go (inr from) = elsewhere from
