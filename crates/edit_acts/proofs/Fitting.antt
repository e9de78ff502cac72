-- In a run in which pads may be linked over a lane, nothing speaks against it.
use Rattle.std.proofs.Common.{◌≡◌, ◌<◌, ◌∙◌, ℕ, suc, true, List, Option, length, refl, sym, ap, subst, arith}
use Rattle.std.proofs.lemmas.List.{length-map}
use Rattle.flow_model.specs.Call.{Call}
use Rattle.flow_model.specs.Link.{Span, input_of}
use Rattle.gst_value.proofs.Basics.{some_same}
use Rattle.gst_value.proofs.Places.{found_at, map_got}
use Rattle.lane_core.specs.Lane.{Lane}
use Rattle.lane_core.specs.declared.ends.Inlet as inlets
use Rattle.lane_core.specs.declared.ends.Outlet as outlets
use Rattle.flow_model.specs.Edit.{IsFree}
use Rattle.flow_model.specs.Moment.{Moment}
use Rattle.flow_model.specs.Split.{AreSplit, none, pad}
use Rattle.flow_model.specs.Step.{LeadsNowhere}
use Rattle.flow_model.specs.declared.element.TaskElement as elements
use Rattle.flow_model.specs.declared.source.TaskSource as sources
use Rattle.task_pads.specs.Pads.{number_of}
use Rattle.task_pads.specs.declared.pad.Pad.{Pad}
use Rattle.task_parts.specs.declared.head.Head.{Head}
use Rattle.task_parts.specs.declared.head.Head.TheVariants.{Source, Inlets}
use Rattle.task_parts.specs.declared.part.Part.{Part}
use Rattle.net_task.specs.declared.task.Task.{Task}
use Rattle.net_task.specs.Frame.{HeadFrame, IsWire, PartFrame, Wire, by_inlets, by_source, frame_in, frame_of, head_frame, part_frame, wire_of}
use Rattle.net_task.specs.Ties.{HeadTied, Ties, nothing_lost}
use Rattle.net_turns.specs.Net.{HasElement, Owns, part, source as of_source}
use Rattle.net_turns.proofs.Facts.{own_pad, sends_leads}
use Rattle.task_edits.specs.Inside.{IsPadOf}
use Rattle.task_edits.specs.Places.{HasNoPad, HeadHasNot}
use Rattle.task_edits.proofs.Absent.{has_not}
use Rattle.task_edits.proofs.Insides.{has_pad_of}
use Rattle.net_edits.specs.Nets.{TaskHas}
use Rattle.net_edits.specs.Over.{CannotJoin, TaskFeeds}
use Rattle.net_edits.specs.declared.over.NewLink.{NewLink}
use Rattle.net_edits.proofs.Parted.{pad_is_wire}
use Rattle.net_edits.proofs.Pushed.{free_alone}
use Rattle.graph_core.specs.GraphPlan.{pad_id}
use Rattle.graph_core.specs.Links.{ways}
use Rattle.graph_order.specs.Links.{Way}
use Rattle.graph_pads.specs.declared.pad.PadPlace.{PadPlace}
use Rattle.graph_edits.specs.Edited.{Edited, is_there}
use Rattle.graph_edits.specs.Refused.{has_lanes}
use Rattle.edit_core.specs.Ways.{IsRun}
use Rattle.edit_acts.specs.Over.{CanLinkOver, IsAhead, LeadsTo, MayLinkOver}
use Rattle.edit_acts.proofs.Loose.{element_way, pad_nowhere, sink_free}

-- a sink pad of an element that is there and that lanes feed
pub record IsFedSink (g : Edited) (sink : PadPlace) : Type 0 where
  pub there : is_there g sink.element ≡ true
  pub within : sink.pad < length (g.spans sink.element)
  pub lanes : has_lanes g sink.element ≡ true

split_size : {ts hs ws : List (List Call)} → AreSplit ts hs ws → length hs ≡ length ws
split_size none = refl
split_size (pad e s) = ap suc (split_size s)

abbrev number_in : HeadFrame → ℕ
number_in (by_source n file wire) = n
number_in (by_inlets n rows) = n

module _ {S E I O L : Type 0} {s : sources.Ghosts S} {e : elements.Ghosts E} (o : outlets.Ghosts O L) where
  -- where no pad of its frame is one, a task has it not
  not_in : (head : Head S I O s) (parts : List (Part E O e)) (p : ℕ) → ((wire : Wire) → IsWire (frame_in o head parts) wire → wire.number ≡ p → ⊥) → HasNoPad head parts p
  not_in head parts p lacks = (go head refl, λ place one at port q q_at same. lacks (wire_of o q) (pad_is_wire o head parts q (IsPadOf.of_part place port one at q_at)) same)
    where
      go : (h : Head S I O s) → head ≡ h → HeadHasNot h p
      go (Source h) is = λ same. lacks (wire_of o h.pad) (pad_is_wire o head parts h.pad (IsPadOf.of_source h is refl)) same
      go (Inlets h) is = tt

module _ {S E I O L : Type 0} {s : sources.Ghosts S} {e : elements.Ghosts E} {i : inlets.Ghosts I L O} {o : outlets.Ghosts O L} where
  -- a task that has an element has each of its pads
  pad_in : (m : Moment) (task : Task S E I O L s e i o) (n p : ℕ) → Ties task m → m.plan.owner p ≡ n → HasElement (frame_of task) n → (q : Pad O) × IsPadOf task.head task.parts.items q × (number_of q ≡ p)
  pad_in m task n p tied own (part place one at number) =
      let a = map_got (part_frame o) task.parts.items place one at in
      let z = (tied.parts_tied.each place a.0 a.1).mine p (own ∙ (sym number ∙ ap (λ (f : PartFrame). f.number) a.2)) in
      (z.pad, IsPadOf.of_part place (m.plan.port p) a.0 a.1 z.at, z.number)
  pad_in m task n p tied own (of_source file wire is) = go task.head refl
    where
      go : (head : Head S I O s) → task.head ≡ head → (q : Pad O) × IsPadOf task.head task.parts.items q × (number_of q ≡ p)
      go (Inlets head) at = absurd (let clash : by_inlets head.number (length head.rows.items) ≡ by_source n file wire = ap (λ (h : Head S I O s). head_frame o h) (sym at) ∙ is in cc)
      go (Source head) at =
          let here : HeadTied i o nothing_lost m (Source head) task.parts.items = subst (λ (h : Head S I O s). HeadTied i o nothing_lost m h task.parts.items) at tied.head_tied in
          let number : head.number ≡ n = ap number_in (ap (λ (h : Head S I O s). head_frame o h) (sym at) ∙ is) in
          (head.pad, IsPadOf.of_source head at refl, sym (here.mine p (own ∙ sym number)))

  module _ (g : Edited) (m : Moment) (tasks : List (Task S E I O L s e i o)) (tells : Option (List Lane)) (source sink : PadPlace) (run : IsRun g m tasks tells) (fed : IsFedSink g sink) (ahead : IsAhead g m source sink) where
    -- the task of the source pad
    owns : (k : ℕ) × Owns tasks k source.element
    owns = run.are.owned source.element ahead.there ahead.awake

    pad_there : (q : Pad O) × IsPadOf owns.1.task.head owns.1.task.parts.items q × (number_of q ≡ pad_id source)
    pad_there = pad_in m owns.1.task source.element (pad_id source) (run.net.tied owns.0 owns.1.task owns.1.at) ahead.owned owns.1.has

    -- the row of the sink pad
    row_there : (k : ℕ) × TaskFeeds tasks sink.element sink.pad k
    row_there =
        let z = run.are.fed sink.element fed.there fed.lanes in
        let many : length (m.held z.1.number) ≡ length z.1.rows.items = run.net.each z.0 z.1 z.2 in
        let held : length (m.held sink.element) ≡ length (m.plan.sinks sink.element) = split_size (run.net.cells sink.element).input ∙ length-map (m.plan.sinks sink.element) (input_of m.history) in
        let size : length (m.plan.sinks sink.element) ≡ length (g.spans sink.element) = ap (λ (sss : List (List Span)). length sss) (run.sinks sink.element fed.there) in
        let same : length (m.held z.1.number) ≡ length (m.held sink.element) = ap (λ (n : ℕ). length (m.held n)) z.3 in
        let low = fed.within in
        let row = found_at z.1.rows.items sink.pad (omega (arith, many, held, size, same, low)) in
        (z.0, (row.0, record { head = z.1; fed = z.2; number = z.3; at = row.1 }))

    -- no task has both
    never_both : (k : ℕ) → TaskHas tasks (pad_id source) k → TaskFeeds tasks sink.element sink.pad k → ⊥
    never_both k has feeds = has_not has.task.head has.task.parts.items (pad_id source) has.has (not_in o has.task.head has.task.parts.items (pad_id source) lacks)
      where
        lacks : (wire : Wire) → IsWire (frame_of has.task) wire → wire.number ≡ pad_id source → ⊥
        lacks wire is number =
            let own = own_pad m tasks tells run.net k has.task has.at wire (pad_id source) is number in
            let same : own.task ≡ feeds.1.fed.task = some_same (sym own.at ∙ feeds.1.fed.at) in
            let element : HasElement (frame_of feeds.1.fed.task) source.element =
            subst (λ (n : ℕ). HasElement (frame_of feeds.1.fed.task) n) ahead.owned (subst (λ (t : Task S E I O L s e i o). HasElement (frame_of t) (m.plan.owner (pad_id source))) same own.has) in
            ahead.forward (subst (λ (n : ℕ). Way (ways g.ever) n source.element) feeds.1.number (element_way g m tasks tells run k feeds.1.head feeds.1.fed source.element element))

    pub joins : CannotJoin tasks (pad_id source) sink.element sink.pad → ⊥
    joins (CannotJoin.no_pad lacks) = has_not owns.1.task.head owns.1.task.parts.items (pad_id source) (has_pad_of owns.1.task.head owns.1.task.parts.items pad_there.0 (pad_id source) pad_there.1 pad_there.2) (lacks owns.0 owns.1.task owns.1.at)
    joins (CannotJoin.no_row lacks) = let z = row_there in lacks z.0 z.1.0 z.1.1
    joins (CannotJoin.one_task k has feeds) = never_both k has feeds

  module _ (g : Edited) (m : Moment) (tasks : List (Task S E I O L s e i o)) (tells : Option (List Lane)) (source sink : PadPlace) (to : NewLink I O) (run : IsRun g m tasks tells) (may : MayLinkOver g source sink) (ahead : IsAhead g m source sink)
      (leads : LeadsTo to sink) where
    abbrev fed : IsFedSink g sink
    fed = record { there = may.sink_there; within = may.within; lanes = may.fed }

    abbrev own : (k : ℕ) × Owns tasks k source.element
    own = owns g m tasks tells source sink run fed ahead

    pad_found : (q : Pad O) × IsPadOf own.1.task.head own.1.task.parts.items q × (number_of q ≡ pad_id source)
    pad_found = pad_there g m tasks tells source sink run fed ahead

    free : IsFree sink.pad (m.plan.sinks sink.element)
    free = subst (λ (sss : List (List Span)). IsFree sink.pad sss) (sym (run.sinks sink.element may.sink_there)) (sink_free g m tasks tells run sink may.within may.free)

    nowhere : LeadsNowhere m.plan (pad_id source)
    nowhere =
        pad_nowhere g m tasks tells run source may.low may.loose own.0
        (record { task = own.1.task; at = own.1.at; has = record { wire = wire_of o pad_found.0; is = pad_is_wire o own.1.task.head own.1.task.parts.items pad_found.0 pad_found.1; number_is = pad_found.2 } })

    to_free : IsFree to.pad (m.plan.sinks to.element)
    to_free = subst (λ (k : ℕ). IsFree k (m.plan.sinks to.element)) (sym leads.pad) (subst (λ (n : ℕ). IsFree sink.pad (m.plan.sinks n)) (sym leads.element) free)

    can_link : CanLinkOver m tasks (pad_id source) to
    can_link = record {
      joins = λ why. joins g m tasks tells source sink run fed ahead (subst (λ (n : ℕ). CannotJoin tasks (pad_id source) n sink.pad) leads.element (subst (λ (k : ℕ). CannotJoin tasks (pad_id source) to.element k) leads.pad why));
      nowhere = nowhere;
      free = to_free;
      none_sends = λ k p place from x. free_alone p to.pad (m.plan.sinks to.element) to_free (sends_leads m tasks tells run.net k p place from to.element to.pad x).here;
    }

pub runs_link_over : {S E I O L : Type 0} {s : sources.Ghosts S} {e : elements.Ghosts E} {i : inlets.Ghosts I L O} {o : outlets.Ghosts O L} (g : Edited) (m : Moment) (tasks : List (Task S E I O L s e i o)) (tells : Option (List Lane)) (source sink : PadPlace) (to : NewLink I O)
    → IsRun g m tasks tells → MayLinkOver g source sink → IsAhead g m source sink → LeadsTo to sink → CanLinkOver m tasks (pad_id source) to
runs_link_over g m tasks tells source sink to run may ahead leads = can_link g m tasks tells source sink to run may ahead leads
