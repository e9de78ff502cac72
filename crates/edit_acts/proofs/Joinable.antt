-- In a run the task of a free sink pad is joined to that of a source pad without a link, and then the pad can be linked.
use Rattle.std.proofs.Common.{◌≡◌, ◌++◌, ◌||◌, ℕ, Bool, true, false, eqb, List, [], ◌∷◌, map, Option, refl, sym, ap, ◌∙◌, subst, inl, inr}
use Rattle.std.specs.Prelude.{slice_get}
use Rattle.std.proofs.lemmas.List.{map-append}
use Rattle.flow_model.specs.Link.{Span}
use Rattle.lane_core.specs.Lane.{Lane}
use Rattle.lane_core.specs.declared.ends.Inlet as inlets
use Rattle.lane_core.specs.declared.ends.Outlet as outlets
use Rattle.flow_model.specs.Edit.{IsFree}
use Rattle.flow_model.specs.Moment.{Moment}
use Rattle.flow_model.specs.declared.element.TaskElement as elements
use Rattle.flow_model.specs.declared.source.TaskSource as sources
use Rattle.inlet_row.specs.declared.row.InletRow.{InletRow}
use Rattle.task_parts.specs.Shape.{PartShape, has_number, head_shape, head_within, part_shape}
use Rattle.task_parts.specs.declared.head.Head.{Head}
use Rattle.task_parts.specs.declared.head.Head.TheVariants.{Source, Inlets}
use Rattle.task_parts.specs.declared.part.Part.{Part}
use Rattle.net_task.specs.declared.task.Task.{Task}
use Rattle.net_task.specs.Frame.{HeadFrame, PartFrame, Wire, IsWire, by_inlets, by_source, frame_in, frame_of, head_frame, head_wire, of_head, of_part, part_frame, wire_of}
use Rattle.net_task.specs.Ties.{HeadTied, Ties, nothing_lost}
use Rattle.net_turns.specs.Net.{HasElement, HasRow, IsFed, NetStands, Owns, part, source as of_source}
use Rattle.net_turns.proofs.Facts.{fed_owned, own_pad}
use Rattle.net_groups.specs.Joined.{CannotJoin, IsApart, IsJoined}
use Rattle.net_groups.specs.Places.{FedAt, HasPad, PadOf}
use Rattle.task_edits.specs.Places.{HasNoPad}
use Rattle.net_edits.specs.Inside.{CanLinkIn, LacksOne, NoneHasBoth}
use Rattle.net_edits.specs.Nets.{NoneHas}
use Rattle.gst_value.proofs.Basics.{and_left, some_same}
use Rattle.gst_value.proofs.Places.{map_get, map_got}
use Rattle.graph_core.specs.GraphPlan.{pad_id}
use Rattle.graph_core.specs.Links.{Leads, ways}
use Rattle.graph_core.proofs.NumberedPads.{owner_at}
use Rattle.graph_order.specs.Links.{Way}
use Rattle.graph_pads.specs.declared.pad.PadPlace.{PadPlace}
use Rattle.graph_edits.specs.Edited.{Edited}
use Rattle.edit_core.specs.Ways.{IsRun}
use Rattle.edit_core.proofs.Ways.{joins_apart}
use Rattle.edit_acts.specs.Linking.{MayLink, sink_in}
use Rattle.edit_acts.proofs.Appended.{appended, wire_second}
use Rattle.edit_acts.proofs.Loose.{element_way, pad_nowhere, sink_free, sink_loose}
use Rattle.edit_acts.proofs.Placed.{IsFound, joined_found, joined_here}

-- ---- the joined task has the pad and the element

number_first : (n : ℕ) (xs ys : List PartShape) → has_number n xs ≡ true → has_number n (xs ++ ys) ≡ true
number_first n [] ys there = absurd cc
number_first n (x ∷ xs) ys there = go (eqb x.number n) there (number_first n xs ys)
  where
    go : (b : Bool) → (b || has_number n xs) ≡ true → (has_number n xs ≡ true → has_number n (xs ++ ys) ≡ true) → (b || has_number n (xs ++ ys)) ≡ true
    go true there rest = refl
    go false there rest = rest there

module _ {S E I O L : Type 0} {s : sources.Ghosts S} {e : elements.Ghosts E} (o : outlets.Ghosts O L) where
  -- a pad of a frame is one of the task
  not_without : (head : Head S I O s) (parts : List (Part E O e)) (pad : ℕ) → HasNoPad head parts pad → (wire : Wire) → IsWire (frame_in o head parts) wire → wire.number ≡ pad → ⊥
  not_without head parts pad none wire (of_part j k w) number =
      let a = map_got (part_frame o) parts j w.part w.at in
      let b = map_got (wire_of o) a.0.pads.items k wire (ap (λ (one : PartFrame). slice_get one.wires k) (sym a.2) ∙ w.pad_at) in
      none.1 j a.0 a.1 k b.0 b.1 (ap (λ (x : Wire). x.number) (sym b.2) ∙ number)
  not_without (Source head) parts pad none wire (of_head at) number = none.0 (ap (λ (x : Wire). x.number) (some_same at) ∙ number)
  not_without (Inlets head) parts pad none wire (of_head at) number = absurd cc

module _ {S E I O L : Type 0} {s : sources.Ghosts S} {e : elements.Ghosts E} {i : inlets.Ghosts I L O} {o : outlets.Ghosts O L} (tasks mid : List (Task S E I O L s e i o)) (pad element : ℕ) (j : IsJoined tasks mid pad element) where
  -- the task whose head feeds the element has it
  gave_has : has_number element (map part_shape j.merged.gave.parts.items) ≡ true
  gave_has = go j.merged.gave.head (ap (λ (t : Task S E I O L s e i o). t.head) (some_same (sym j.merged.from_at ∙ j.fed.fed.at)) ∙ j.fed.fed.head_is) (and_left _ _ j.merged.gave.closed)
    where
      fed_number : Head S I O s → ℕ
      fed_number (Source head) = 0
      fed_number (Inlets head) = head.number

      go : (head : Head S I O s) → head ≡ Inlets j.fed.head → head_within (map part_shape j.merged.gave.parts.items) (head_shape head) ≡ true → has_number element (map part_shape j.merged.gave.parts.items) ≡ true
      go (Source head) is within = absurd cc
      go (Inlets head) is within = subst (λ (n : ℕ). has_number n (map part_shape j.merged.gave.parts.items) ≡ true) (ap fed_number is ∙ j.fed.number) within

  joined_has : has_number element (map part_shape j.merged.is.parts.items) ≡ true
  joined_has =
      ap (λ (ps : List (Part E O e)). has_number element (map part_shape ps)) j.merged.parts
      ∙ ap (has_number element) (map-append part_shape j.merged.gave.parts.items j.merged.was.parts.items)
      ∙ number_first element (map part_shape j.merged.gave.parts.items) (map part_shape j.merged.was.parts.items) gave_has

  joined_wire : IsWire (frame_of j.merged.is) j.has.has.wire
  joined_wire =
      wire_second (frame_of j.merged.gave) (frame_of j.merged.was) (frame_of j.merged.is) (appended tasks mid j.from j.to j.merged) j.has.has.wire
      (subst (λ (t : Task S E I O L s e i o). IsWire (frame_of t) j.has.has.wire) (some_same (sym j.has.at ∙ j.merged.to_at)) j.has.has.is)

  pub both_there : NoneHasBoth mid pad element → ⊥
  both_there none = let here = joined_here tasks mid pad element j in go (none here.0 j.merged.is here.2)
    where
      go : LacksOne j.merged.is pad element → ⊥
      go (inl no_pad) = not_without o j.merged.is.head j.merged.is.parts.items pad no_pad j.has.has.wire joined_wire j.has.has.number_is
      go (inr no_element) = absurd (let clash : true ≡ false = sym joined_has ∙ no_element in cc)

-- ---- where tasks stand

module _ {S E I O L : Type 0} {s : sources.Ghosts S} {e : elements.Ghosts E} {i : inlets.Ghosts I L O} {o : outlets.Ghosts O L} (m : Moment) (tasks : List (Task S E I O L s e i o)) (tells : Option (List Lane)) (net : NetStands m tasks tells) (k p : ℕ)
    (owns : Owns tasks k (m.plan.owner p)) where
  -- the task of an element has its pads
  owner_has : PadOf tasks k p
  owner_has = record { task = owns.task; at = owns.at; has = go owns.has }
    where
      tied : Ties owns.task m
      tied = net.tied k owns.task owns.at

      number_of_source : HeadFrame → ℕ
      number_of_source (by_source n file wire) = n
      number_of_source (by_inlets n rows) = 0

      of_a_source : (head : Head S I O s) → owns.task.head ≡ head → HeadTied i o nothing_lost m head owns.task.parts.items → (file : Option (Option (List ℕ))) (wire : Wire)
          → head_frame o head ≡ by_source (m.plan.owner p) file wire → HasPad (frame_of owns.task) p
      of_a_source (Source head) is t file wire frame = record {
        wire = wire_of o head.pad;
        is = of_head (ap (λ (h : Head S I O s). head_wire (head_frame o h)) is);
        number_is = sym (t.mine p (sym (ap number_of_source frame)));
      }
      of_a_source (Inlets head) is t file wire frame = absurd cc

      go : HasElement (frame_of owns.task) (m.plan.owner p) → HasPad (frame_of owns.task) p
      go (part place one at number) =
          let a = map_got (part_frame o) owns.task.parts.items place one at in
          let pad = (tied.parts_tied.each place a.0 a.1).mine p (sym number ∙ ap (λ (q : PartFrame). q.number) a.2) in
          record {
            wire = wire_of o pad.pad;
            is = of_part place (m.plan.port p) (record { part = part_frame o a.0; at = map_get (part_frame o) owns.task.parts.items place a.0 a.1; pad_at = map_get (wire_of o) a.0.pads.items (m.plan.port p) pad.pad pad.at });
            number_is = pad.number;
          }
      go (of_source file wire is) = of_a_source owns.task.head refl tied.head_tied file wire is

  pub some_has : NoneHas tasks p → ⊥
  some_has none = not_without o owner_has.task.head owner_has.task.parts.items p (none k owner_has.task owner_has.at) owner_has.has.wire owner_has.has.is owner_has.has.number_is

-- ---- in a run

module _ {S E I O L : Type 0} {s : sources.Ghosts S} {e : elements.Ghosts E} {i : inlets.Ghosts I L O} {o : outlets.Ghosts O L} (g : Edited) (m : Moment) (tasks : List (Task S E I O L s e i o)) (tells : Option (List Lane))
    (run : IsRun g m tasks tells) (source sink : PadPlace) (may : MayLink g source sink) where
  -- the task of the source pad
  source_task : m.plan.owner (pad_id source) ≡ source.element → (k : ℕ) × PadOf tasks k (pad_id source)
  source_task own =
      let z = run.are.owned source.element may.source_there may.awake in
      (z.0, owner_has m tasks tells run.net z.0 (pad_id source) (subst (λ (n : ℕ). Owns tasks z.0 n) (sym own) z.1))

  -- the links that were made lead from the element of the sink pad to no task of the source pad
  never_both : (k : ℕ) → FedAt tasks k sink.element → PadOf tasks k (pad_id source) → ⊥
  never_both k fed has =
      let own = own_pad m tasks tells run.net k has.task has.at has.has.wire (pad_id source) has.has.is has.has.number_is in
      let same : own.task ≡ fed.fed.task = some_same (sym own.at ∙ fed.fed.at) in
      let owner : m.plan.owner (pad_id source) ≡ source.element = sym (run.owners (pad_id source) (m.plan.owner (pad_id source)) refl (run.are.there k (m.plan.owner (pad_id source)) own)) ∙ owner_at source may.low in
      let way = element_way g m tasks tells run k fed.head fed.fed (m.plan.owner (pad_id source)) (subst (λ (t : Task S E I O L s e i o). HasElement (frame_of t) (m.plan.owner (pad_id source))) same own.has) in
      may.forward (subst (λ (a : ℕ). Way (ways g.ever) a source.element) fed.number (subst (λ (b : ℕ). Way (ways g.ever) fed.head.number b) owner way))

  never_lane : IsApart tasks (pad_id source) sink.element
  never_lane = joins_apart s e i o g m tasks tells sink.element (pad_id source) run (λ way. may.forward (subst (λ (b : ℕ). Leads g.ever sink.element b) (owner_at source may.low) way))

  -- so nothing speaks against the join
  pub joins : m.plan.owner (pad_id source) ≡ source.element → CannotJoin tasks (pad_id source) sink.element → ⊥
  joins own (CannotJoin.no_head none) = let fed = (sink_loose g m tasks tells run sink may.within may.free may.bare may.sink_there).0 in none fed.0 fed.1
  joins own (CannotJoin.no_pad none) = let has = source_task own in none has.0 has.1
  joins own (CannotJoin.one_task k fed has) = never_both k fed has
  joins own (CannotJoin.lane_between k j head fed has is_fed two (p, place, from, port, sends)) =
      never_lane k j head fed has is_fed two sends.out.wire (record { task = sends.task; at = sends.at; is = sends.out.is }) sends.out.lane port from sends.out.leads
  joins own (CannotJoin.lane_there k (p, place, from, port, sends)) =
      let there = run.are.lanes k sends.task sends.out.wire sends.out.lane sink.element port from sends.at sends.out.is sends.out.leads in
      absurd (let clash : true ≡ false = sym there.1 ∙ may.bare in cc)

  -- behind the join the pad can be linked
  module _ (mid : List (Task S E I O L s e i o)) (j : IsJoined tasks mid (pad_id source) sink.element) where
    no_row : (k : ℕ) (row : InletRow I) → HasRow mid k sink.element sink.pad row → ⊥
    no_row k row w = go (joined_found tasks mid (pad_id source) sink.element j k w.fed.task w.fed.at)
      where
        -- no other head feeds the element
        other : (x : ℕ) → IsFed tasks x w.head → (x ≡ j.from → ⊥) → ⊥
        other x fed apart = apart (run.net.wired.once x j.from sink.element
            (subst (λ (n : ℕ). Owns tasks x n) w.number (fed_owned tasks x w.head fed))
            (subst (λ (n : ℕ). Owns tasks j.from n) j.fed.number (fed_owned tasks j.from j.fed.head j.fed.fed)))

        go : IsFound tasks mid (pad_id source) sink.element j k w.fed.task → ⊥
        go (inl z) = other j.to (record { task = j.merged.was; at = j.merged.to_at; head_is = sym j.merged.head ∙ ap (λ (t : Task S E I O L s e i o). t.head) (sym z.1) ∙ w.fed.head_is }) (λ same. j.apart (sym same))
        go (inr z) = other z.0 (record { task = w.fed.task; at = z.2.at; head_is = w.fed.head_is }) z.2.not_from

    pub joined_can : CanLinkIn m mid (pad_id source) (sink_in sink)
    joined_can = record {
      nowhere = pad_nowhere g m tasks tells run source may.low may.loose j.to j.has;
      free = subst (λ (sss : List (List Span)). IsFree sink.pad sss) (sym (run.sinks sink.element may.sink_there)) (sink_free g m tasks tells run sink may.within may.free);
      no_row = no_row;
    }
