-- In a run a pad leads inside of its task to one element, which can be split off once the link of the pad was undone; and the tasks have the
-- elements of the graph then.
use Rattle.std.proofs.Common.{◌≡◌, ◌⊎◌, ℕ, Bool, true, false, List, Option, Some, length, refl, sym, ap, ◌∙◌, subst, inl, inr, arith}
use Rattle.std.specs.Prelude.{slice_get}
use Rattle.flow_model.specs.Eval.{Plan}
use Rattle.lane_core.specs.Lane.{Lane}
use Rattle.lane_core.specs.declared.ends.Inlet as inlets
use Rattle.lane_core.specs.declared.ends.Outlet as outlets
use Rattle.flow_model.specs.Edit.{IsFree, undone}
use Rattle.flow_model.specs.Moment.{Moment}
use Rattle.flow_model.specs.Standing.{LinksAt}
use Rattle.flow_model.specs.Step.{Leads}
use Rattle.flow_model.specs.declared.element.TaskElement as elements
use Rattle.flow_model.specs.declared.source.TaskSource as sources
use Rattle.task_pads.specs.Behind.{Goes, inside, nowhere, over}
use Rattle.task_pads.specs.declared.pad.Pad.{Pad}
use Rattle.task_pads.specs.Pads.{goes_of}
use Rattle.task_parts.specs.declared.head.Head.{Head}
use Rattle.task_parts.specs.declared.head.Head.TheVariants.{Source, Inlets}
use Rattle.task_parts.specs.declared.part.Part.{Part}
use Rattle.gst_value.proofs.Basics.{some_same}
use Rattle.gst_value.proofs.Places.{found_at, map_get, map_got}
use Rattle.net_task.specs.declared.task.Task.{Task}
use Rattle.net_task.specs.Frame.{HeadFrame, IsWire, PartFrame, Wire, WireAt, by_source, frame_in, frame_of, head_frame, head_wire, part_frame, wire_of}
use Rattle.net_task.specs.Ties.{LeadsAs}
use Rattle.net_turns.specs.Net.{HasElement, IsFed, NetStands, Owns}
use Rattle.net_turns.proofs.Facts.{inside_no_row, inside_owned, leads_nowhere, leads_once, wire_owned}
use Rattle.task_edits.specs.Inside.{IsPadOf, LeadsElsewhere, NotInside}
use Rattle.task_edits.specs.Places.{HasNoPad}
use Rattle.task_edits.specs.declared.inside.Inside.{Inside}
use Rattle.net_edits.specs.Inside.{HasInside}
use Rattle.net_edits.proofs.Ended.{undo_frees}
use Rattle.net_groups.specs.Behind.{IsBehind, IsElsewhere, IsTree, StepsTo}
use Rattle.net_groups.specs.Places.{HasWire, IsPartOf}
use Rattle.net_groups.specs.Splits.{CannotSplit, IsSplit, IsTreeIn, NamesBehind, StaysLed, TookItems, number_in}
use Rattle.net_groups.proofs.Taken.{held_size}
use Rattle.el_settings.specs.Asked.{is_source}
use Rattle.graph_core.specs.Elements.{has}
use Rattle.graph_edits.specs.Edited.{Edited, is_there}
use Rattle.graph_edits.specs.Refused.{has_lanes}
use Rattle.edit_core.specs.Tasks.{AreTasksOf, IsReachedIn, number_of_head}
use Rattle.edit_core.specs.Trees.{LeadsToFirst}
use Rattle.edit_core.specs.Ways.{InnerTookItems, IsRun}
use Rattle.edit_core.proofs.Inner.{some}
use Rattle.edit_core.proofs.Trees.{trees_stand, wire_leads, wire_leads_as}
use Rattle.edit_core.proofs.Ways.{inner_pads_are_first, sinks_tell}
use Rattle.edit_acts.specs.Undoing.{LeadsNoneInside}
use Rattle.edit_acts.proofs.Cut.{LeadsBy}
use Rattle.edit_acts.proofs.Made.{are_again, made_both}
use Rattle.edit_acts.proofs.Parted.{split_made, split_reached}
use Rattle.edit_acts.proofs.Reached.{reached_or_behind, same_number, still_reached}
use Rattle.edit_acts.proofs.Spans.{undone_took}
use Rattle.edit_acts.proofs.Unlinked.{AreCut, CutAt, cut_made, owns_back, owns_on, wire_back}

true_false : true ≡ false → ⊥
true_false same = cc

leads_not : (n port : ℕ) → nowhere ≡ inside n port → ⊥
leads_not n port same = cc

-- a pad of a task is one of its wires
module _ {S E I O L : Type 0} {s : sources.Ghosts S} {e : elements.Ghosts E} (o : outlets.Ghosts O L) where
  pub pad_is_wire : (head : Head S I O s) (parts : List (Part E O e)) (pad : Pad O) → IsPadOf head parts pad → IsWire (frame_in o head parts) (wire_of o pad)
  pad_is_wire head parts pad (IsPadOf.of_source source is same) = IsWire.of_head (ap (λ (h : Head S I O s). head_wire (head_frame o h)) is ∙ ap (λ (q : Pad O). Some (wire_of o q)) same)
  pad_is_wire head parts pad (IsPadOf.of_part place port part at pad_at) =
      IsWire.of_part place port (record { part = part_frame o part; at = map_get (part_frame o) parts place part at; pad_at = map_get (wire_of o) part.pads.items port pad pad_at })

  no_wire : (head : Head S I O s) (parts : List (Part E O e)) (number : ℕ) → HasNoPad head parts number → (wire : Wire) → IsWire (frame_in o head parts) wire → wire.number ≡ number → ⊥
  no_wire (Source source) parts number none wire (IsWire.of_head is) same = none.0 (ap (λ (w : Wire). w.number) (some_same is) ∙ same)
  no_wire (Inlets fed) parts number none wire (IsWire.of_head is) same = cc
  no_wire head parts number none wire (IsWire.of_part j k w) same =
      let z = map_got (part_frame o) parts j w.part w.at in
      let y = map_got (wire_of o) z.0.pads.items k wire (ap (λ (f : PartFrame). slice_get f.wires k) (sym z.2) ∙ w.pad_at) in
      none.1 j z.0 z.1 k y.0 y.1 (ap (λ (x : Wire). x.number) (sym y.2) ∙ same)

module _ {S E I O L : Type 0} {s : sources.Ghosts S} {e : elements.Ghosts E} {i : inlets.Ghosts I L O} {o : outlets.Ghosts O L} where
  -- the element to which a pad leads inside of its task took items alone
  pub inner_took : (tasks : List (Task S E I O L s e i o)) (pad place : ℕ) (to : Inside) (m : Moment) → InnerTookItems m tasks → HasInside tasks pad place to → TookItems m to.element 1
  inner_took tasks pad place to m took h = took place h.task (wire_of o h.leads.pad) to.element to.pad h.at (pad_is_wire o h.task.head h.task.parts.items h.leads.pad h.leads.is) h.leads.leads

module _ {S E I O L : Type 0} {s : sources.Ghosts S} {e : elements.Ghosts E} {i : inlets.Ghosts I L O} {o : outlets.Ghosts O L} (g : Edited) (m : Moment) (tasks : List (Task S E I O L s e i o)) (tells : Option (List Lane))
    (run : IsRun g m tasks tells) where
  module _ (k : ℕ) (task : Task S E I O L s e i o) (at : slice_get tasks k ≡ Some task) (wire : Wire) (is : IsWire (frame_of task) wire) (n port : ℕ) (leads : wire.leads ≡ inside n port) where
    pub linked : Leads m.plan wire.number n port
    linked = wire_leads i o m task.head task.parts.items (run.net.tied k task at) wire is n port leads

    pub first : (is_there g n ≡ true) × (has_lanes g n ≡ false) × (port ≡ 0)
    first = run.are.inner k task wire n port at is leads

    inner_owned : Owns tasks k n
    inner_owned = let w = wire_owned m tasks tells run.net k task wire at is in inside_owned tasks k task w.0 n port at w.1 (ap (λ (x : Wire). x.leads) (sym w.2) ∙ leads)

    no_source : has is_source g.made n ≡ false
    no_source = sinks_tell (slice_get g.made n) (length (g.spans n)) (run.links.counted n) (some wire.number port (g.spans n) (subst (LinksAt wire.number port) (run.sinks n first.0) linked.here))

    -- the element is not what the head of the task names
    not_head : number_of_head (frame_of task).head ≡ n → ⊥
    not_head same = go task.head refl
      where
        go : (head : Head S I O s) → task.head ≡ head → ⊥
        go (Source source) is_head =
            let frame : (frame_of task).head ≡ by_source source.number (s.file source.source) (wire_of o source.pad) = ap (λ (h : Head S I O s). head_frame o h) is_head in
            let number : source.number ≡ n = ap (λ (h : HeadFrame). number_of_head h) (sym frame) ∙ same in
            true_false (sym (run.are.sources k task source.number (s.file source.source) (wire_of o source.pad) at frame) ∙ ap (λ (a : ℕ). has is_source g.made a) number ∙ no_source)
        go (Inlets fed) is_head =
            let number : fed.number ≡ n = ap (λ (h : Head S I O s). number_of_head (head_frame o h)) (sym is_head) ∙ same in
            let is_fed : IsFed tasks k fed = record { task = task; at = at; head_is = is_head } in
            let rows = run.net.each k fed is_fed in
            let size = held_size m.history (m.took n) (m.held n) (m.plan.sinks n) (run.net.cells n).input in
            let there = some wire.number port (m.plan.sinks n) linked.here in
            let low = first.2 in
            let held : length (m.held fed.number) ≡ length (m.held n) = ap (λ (a : ℕ). length (m.held a)) number in
            let row = found_at fed.rows.items port (omega (arith, rows, size, there, low, held)) in
            let w = wire_owned m tasks tells run.net k task wire at is in
            inside_no_row m tasks tells run.net k k n port task w.0 row.0 at w.1 (ap (λ (x : Wire). x.leads) (sym w.2) ∙ leads) (record { head = fed; fed = is_fed; number = number; at = row.1 })

  module _ (pad : ℕ) where
    -- a pad that leads elsewhere leads to no element of its task
    pub elsewhere : (place : ℕ) (one : Task S E I O L s e i o) → slice_get tasks place ≡ Some one → LeadsElsewhere one.head one.parts.items pad
        → (k : ℕ) (task : Task S E I O L s e i o) → slice_get tasks k ≡ Some task → (b : ℕ) → LeadsBy pad (frame_of task) b → ⊥
    elsewhere place one one_at other k task at b by = go (goes_of other.pad) refl
      where
        here : Leads m.plan pad b by.port
        here = subst (λ (p : ℕ). Leads m.plan p b by.port) by.number (linked k task at by.wire by.is b by.port by.leads)

        other_is : IsWire (frame_of one) (wire_of o other.pad)
        other_is = pad_is_wire o one.head one.parts.items other.pad other.is

        led : LeadsAs m pad (goes_of other.pad)
        led = subst (λ (p : ℕ). LeadsAs m p (goes_of other.pad)) other.number_is (wire_leads_as i o m one.head one.parts.items (run.net.tied place one one_at) (wire_of o other.pad) other_is)

        go : (leads : Goes) → goes_of other.pad ≡ leads → ⊥
        go nowhere same = leads_nowhere m.plan pad b by.port here (subst (LeadsAs m pad) same led)
        go (inside n port) same = other.elsewhere (record { element = n; pad = port }) same
        go (over lane n port from) same =
            let is_n : b ≡ n = (leads_once m.plan pad b by.port n port here (subst (LeadsAs m pad) same led)).0 in
            let lanes = (run.are.lanes place one (wire_of o other.pad) lane n port from one_at other_is same).1 in
            let none = (first k task at by.wire by.is b by.port by.leads).1 in
            true_false (sym lanes ∙ ap (has_lanes g) (sym is_n) ∙ none)

    -- where the pad leads to no element of its task
    pub none_leads : LeadsNoneInside tasks pad → (k : ℕ) (task : Task S E I O L s e i o) → slice_get tasks k ≡ Some task → (b : ℕ) → LeadsBy pad (frame_of task) b → ⊥
    none_leads none k task at b by = go (none k task at)
      where
        go : NotInside task.head task.parts.items pad → ⊥
        go (inl no_pad) = no_wire o task.head task.parts.items pad no_pad by.wire by.is by.number
        go (inr other) = elsewhere k task at other k task at b by

    module _ (mid : List (Task S E I O L s e i o)) (cut : AreCut pad tasks mid) where
      -- the tasks have the elements without a split then
      pub kept_are : LeadsNoneInside tasks pad → AreTasksOf g mid
      kept_are none = are_again g tasks mid (cut_made pad tasks mid cut) run.are (λ k task n at has.
          let y = cut.back k task at in
          still_reached pad (frame_of y.was) (frame_of task) y.cut.frame (none_leads none k y.was y.at) n (run.are.reached k y.was n y.at (y.cut.frame.has n has)))

      module _ (place : ℕ) (to : Inside) (h : HasInside tasks pad place to) where
        abbrev wire : Wire
        wire = wire_of o h.leads.pad

        is_wire : IsWire (frame_of h.task) wire
        is_wire = pad_is_wire o h.task.head h.task.parts.items h.leads.pad h.leads.is

        here : Leads m.plan pad to.element to.pad
        here = subst (λ (p : ℕ). Leads m.plan p to.element to.pad) h.leads.number_is (linked place h.task h.at wire is_wire to.element to.pad h.leads.leads)

        inner : (is_there g to.element ≡ true) × (has_lanes g to.element ≡ false) × (to.pad ≡ 0)
        inner = first place h.task h.at wire is_wire to.element to.pad h.leads.leads

        owns : Owns tasks place to.element
        owns = inner_owned place h.task h.at wire is_wire to.element to.pad h.leads.leads

        only : (k : ℕ) (task : Task S E I O L s e i o) → slice_get tasks k ≡ Some task → (b : ℕ) → LeadsBy pad (frame_of task) b → b ≡ to.element
        only k task at b by = (leads_once m.plan pad b by.port to.element to.pad (subst (λ (p : ℕ). Leads m.plan p b by.port) by.number (linked k task at by.wire by.is b by.port by.leads)) here).0

        part_owned : (k : ℕ) → IsPartOf mid k to.element → Owns tasks k to.element
        part_owned k q = owns_back pad tasks mid cut k to.element (record { task = q.task; at = q.at; has = HasElement.part q.place (part_frame o q.is.part) (map_get (part_frame o) q.task.parts.items q.place q.is.part q.is.at) q.is.number_is })

        same_place : (k : ℕ) → IsPartOf mid k to.element → k ≡ place
        same_place k q = run.net.wired.once k place to.element (part_owned k q) owns

        -- it is one of the elements of a task, and not a source
        has_part : ((k : ℕ) → IsPartOf mid k to.element → ⊥) → ⊥
        has_part none = go own.has
          where
            own : Owns mid place to.element
            own = owns_on pad tasks mid cut place to.element owns

            go : HasElement (frame_of own.task) to.element → ⊥
            go (HasElement.part x one at number) =
                let z = map_got (part_frame o) own.task.parts.items x one at in
                none place (record { task = own.task; at = own.at; place = x; is = record { part = z.0; at = z.1; number_is = ap (λ (f : PartFrame). f.number) (sym z.2) ∙ number } })
            go (HasElement.source file source is) =
                let y = (cut_made pad tasks mid cut).sources place to.element (record { task = own.task; at = own.at; is = record { file = file; wire = source; is = is } }) in
                true_false (sym (run.are.sources y.0 y.1.task to.element y.1.is.file y.1.is.wire y.1.at y.1.is.is) ∙ no_source place h.task h.at wire is_wire to.element to.pad h.leads.leads)

        -- what the head of a task names is not behind it
        not_behind : (k : ℕ) → NamesBehind mid k to.element → ⊥
        not_behind k (q, behind) = go (number_in q.task.head) refl behind
          where
            y : CutAt pad tasks k q.task
            y = cut.back k q.task q.at

            head : number_of_head (frame_of y.was).head ≡ number_in q.task.head
            head = sym y.cut.frame.head ∙ same_number o q.task.head q.task.parts.items q.task.head

            go : (b : ℕ) → b ≡ number_in q.task.head → IsBehind q.task.parts.items to.element b → ⊥
            go b same IsBehind.itself =
                let one : h.task ≡ y.was = some_same (sym h.at ∙ ap (λ (x : ℕ). slice_get tasks x) (sym (same_place k q)) ∙ y.at) in
                not_head k y.was y.at wire (subst (λ (t : Task S E I O L s e i o). IsWire (frame_of t) wire) one is_wire) to.element to.pad h.leads.leads (head ∙ sym same)
            go b same (IsBehind.further a next more step) = by (y.cut.frame.wires (wire_of o step.lead.pad) (IsWire.of_part step.place step.port (record {
              part = part_frame o step.part;
              at = map_get (part_frame o) q.task.parts.items step.place step.part step.at;
              pad_at = map_get (wire_of o) step.part.pads.items step.port step.lead.pad step.lead.at;
            })))
              where
                by : IsWire (frame_of y.was) (wire_of o step.lead.pad) ⊎ (goes_of step.lead.pad ≡ nowhere) → ⊥
                by (inl is) = not_head k y.was y.at (wire_of o step.lead.pad) is next step.lead.sink step.lead.leads (head ∙ sym same)
                by (inr none) = leads_not next step.lead.sink (sym none ∙ step.lead.leads)

        module _ (m' : Moment) (stands : NetStands m' mid tells) (eos : Bool) (plan : m'.plan ≡ undone pad (length (m.history pad)) eos m.plan) where
          to_first : LeadsToFirst mid
          to_first k task at one is n port leads = go (wire_back pad tasks mid cut k one (record { task = task; at = at; is = is }))
            where
              go : HasWire tasks k one ⊎ (one.leads ≡ nowhere) → port ≡ 0
              go (inl w) = (first k w.task w.at one w.is n port leads).2
              go (inr none) = absurd (leads_not n port (sym none ∙ leads))

          free : IsFree 0 (m'.plan.sinks to.element)
          free = subst (λ (p : Plan). IsFree 0 (p.sinks to.element)) (sym plan)
              (undo_frees m.history pad (length (m.history pad)) eos 0 (m.plan.sinks to.element) (run.net.cells to.element).standing (subst (λ (x : ℕ). LinksAt pad x (m.plan.sinks to.element)) inner.2 here.here))

          tree : IsTreeIn mid to.element
          tree = trees_stand s e i o m' mid tells to.element stands to_first free

          -- no pad leads from elsewhere to what is behind it
          not_entered : (k : ℕ) → StaysLed mid k to.element → ⊥
          not_entered k (q, z) = go z.to refl z.from z.behind
            where
              t : IsTree (frame_of q.task) to.element
              t = tree k q

              pad_at : (a b : ℕ) (step : StepsTo q.task.parts.items a b) → WireAt (frame_of q.task) step.place step.port (wire_of o step.lead.pad)
              pad_at a b step = record {
                part = part_frame o step.part;
                at = map_get (part_frame o) q.task.parts.items step.place step.part step.at;
                pad_at = map_get (wire_of o) step.part.pads.items step.port step.lead.pad step.lead.at;
              }

              leads : (b : ℕ) → b ≡ z.to → z.wire.leads ≡ inside b z.port
              leads b same = z.leads ∙ ap (λ (n : ℕ). inside n z.port) (sym same)

              go : (b : ℕ) → b ≡ z.to → (z.to ≡ to.element) ⊎ IsElsewhere (frame_of q.task) q.task.parts.items to.element z.wire → IsBehind q.task.parts.items to.element b → ⊥
              go b same (inl is) behind = t.unfed z.wire z.port z.is (leads to.element (sym is))
              go b same (inr from) IsBehind.itself = t.unfed z.wire z.port z.is (leads to.element same)
              go b same (inr (IsElsewhere.at_source is)) (IsBehind.further a next more step) =
                  t.source step.place step.port next step.lead.sink z.port (wire_of o step.lead.pad) z.wire (pad_at a next step) is step.lead.leads (leads next same)
              go b same (inr (IsElsewhere.at_other j l w other)) (IsBehind.further a next more step) =
                  let places = t.once j l step.place step.port next z.port step.lead.sink z.wire (wire_of o step.lead.pad) w (pad_at a next step) (leads next same) step.lead.leads in
                  let one : w.part ≡ part_frame o step.part = some_same (sym w.at ∙ ap (λ (x : ℕ). slice_get (frame_of q.task).parts x) places.0 ∙ (pad_at a next step).at) in
                  other (subst (IsBehind q.task.parts.items to.element) (sym (ap (λ (f : PartFrame). f.number) one ∙ step.number)) more)

          -- so it can be split off
          pub can_split : CannotSplit mid to.element → ⊥
          can_split (inl none) = has_part none
          can_split (inr (inl (k, names))) = not_behind k names
          can_split (inr (inr (k, led))) = not_entered k led

          pub took_then : TookItems m' to.element 1
          took_then = undone_took m m' pad (length (m.history pad)) eos to.element 1 plan (inner_took tasks pad place to m (inner_pads_are_first s e i o g m tasks tells run).1 h)

          -- and once it was, the tasks have the elements
          pub split_are : (tasks' : List (Task S E I O L s e i o)) (pads : ℕ) → IsSplit mid tasks' to.element pads → AreTasksOf g tasks'
          split_are tasks' pads (j, q, z) = are_again g tasks tasks' (made_both tasks mid tasks' (cut_made pad tasks mid cut) (split_made mid tasks' j to.element pads z)) run.are (split_reached mid tasks' j to.element pads z within others)
            where
              within : (n : ℕ) → HasElement (frame_of z.was) n → IsReachedIn (frame_of z.was) n ⊎ IsBehind z.was.parts.items to.element n
              within n has =
                  let y = cut.back j z.was z.at in
                  reached_or_behind o z.was.head z.was.parts.items to.element z.ahead pad (frame_of y.was) y.cut.frame (only j y.was y.at) n (run.are.reached j y.was n y.at (y.cut.frame.has n has))

              others : (k : ℕ) (task : Task S E I O L s e i o) (n : ℕ) → (k ≡ j → ⊥) → slice_get mid k ≡ Some task → HasElement (frame_of task) n → IsReachedIn (frame_of task) n
              others k task n other at has =
                  let y = cut.back k task at in
                  still_reached pad (frame_of y.was) (frame_of task) y.cut.frame (none y) n (run.are.reached k y.was n y.at (y.cut.frame.has n has))
                where
                  none : (y : CutAt pad tasks k task) → (b : ℕ) → LeadsBy pad (frame_of y.was) b → ⊥
                  none y b by =
                      let own = subst (λ (x : ℕ). Owns tasks k x) (only k y.was y.at b by) (inner_owned k y.was y.at by.wire by.is b by.port by.leads) in
                      other (run.net.wired.once k place to.element own owns ∙ sym (same_place j q))
