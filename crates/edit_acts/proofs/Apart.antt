-- A pad that is to be linked elsewhere does not lead to the element of the sink pad already.
use Rattle.std.proofs.Common.{◌≡◌, ◌<◌, ℕ, Bool, true, false, List, Option, length, sym, ap, ◌∙◌, subst, arith}
use Rattle.std.specs.Global.{Vec}
use Rattle.std.specs.Prelude.{slice_get}
use Rattle.lane_core.specs.Lane.{Lane}
use Rattle.lane_core.specs.declared.ends.Inlet as inlets
use Rattle.lane_core.specs.declared.ends.Outlet as outlets
use Rattle.flow_model.specs.Moment.{Moment}
use Rattle.flow_model.specs.Standing.{LinksAt, links_from}
use Rattle.flow_model.specs.declared.element.TaskElement as elements
use Rattle.flow_model.specs.declared.source.TaskSource as sources
use Rattle.net_task.specs.declared.task.Task.{Task}
use Rattle.net_task.specs.Frame.{wire_of}
use Rattle.net_edits.specs.Inside.{HasInside}
use Rattle.task_edits.specs.declared.inside.Inside.{Inside}
use Rattle.graph_core.specs.GraphPlan.{most_pads, pad_id, sink_at}
use Rattle.graph_edits.specs.declared.graph.EditedGraph.{EditedGraph}
use Rattle.graph_pads.specs.Links.{source_before}
use Rattle.graph_pads.specs.declared.pad.PadPlace.{PadPlace}
use Rattle.graph_edits.specs.Edited.{Edited, spans_at}
use Rattle.graph_edits.specs.Lawful.{IsLinkable}
use Rattle.graph_edits.proofs.Keeping.{not_taken}
use Rattle.graph_edits.proofs.LinksStanding.{links_stay_exact, no_some}
use Rattle.edit_core.specs.Notes.{IsCurrent}
use Rattle.edit_core.specs.Ways.{IsRun}
use Rattle.edit_core.specs.declared.feeds.Feeds.{Feeds}
use Rattle.edit_core.proofs.Standing.{few_sinks}
use Rattle.edit_core.proofs.Ways.{at_port}
use Rattle.graph_edits.specs.Names.{source_when}
use Rattle.graph_edits.specs.Refused.{has_lanes}
use Rattle.edit_acts.specs.Relinked.{IsToRelink}
use Rattle.edit_acts.specs.Undoing.{HasRoomToUndo, SplitsNot}
use Rattle.edit_acts.specs.declared.undoing.UndoRoom.{UndoRoom}
use Rattle.edit_acts.specs.declared.undoing.UndoRoom.TheVariants.{Whole, Split}
use Rattle.edit_acts.proofs.Carried.{pads}
use Rattle.edit_acts.proofs.Relinks.{deed_linkable}
use Rattle.edit_acts.proofs.Undone.{first, linked, pad_is_wire}

module _ {S E I O L : Type 0} {s : sources.Ghosts S} {e : elements.Ghosts E} {i : inlets.Ghosts I L O} {o : outlets.Ghosts O L} (graph : EditedGraph) (feeds : Feeds) (tasks : List (Task S E I O L s e i o))
    (g : Edited) (m : Moment) (tells : Option (List Lane)) (source sink : PadPlace) (items : ℕ) {fed : Bool} (w : IsToRelink graph feeds tasks g m tells source sink items fed) where
  abbrev now : IsCurrent graph feeds tasks g m tells
  now = w.controlled.current

  abbrev run : IsRun g m tasks tells
  run = w.controlled.run

  pub linkable : IsLinkable g m.history source sink
  linkable = (deed_linkable g m.history (source_when g w.when) w.act source sink now.stand w.to_do.deed_is).0

  pub within : sink.pad < length (g.spans sink.element)
  within = (deed_linkable g m.history (source_when g w.when) w.act source sink now.stand w.to_do.deed_is).1

  pub low : source.pad < most_pads
  low = (pads graph feeds tasks g m tells source sink items w).low

  -- an element that no lanes feed has one sink pad
  first_sink : has_lanes g sink.element ≡ false → sink.pad ≡ 0
  first_sink bare = let few = few_sinks (slice_get g.made sink.element) bare in let counted = now.stand.counted sink.element in let there = within in omega (arith, few, counted, there)

  module _ (pad : ℕ) (number : pad ≡ pad_id source) where
    not_behind : (place : ℕ) (to : Inside) → HasInside tasks pad place to → to.element ≡ sink.element → ⊥
    not_behind place to h same =
        let is = pad_is_wire o h.task.head h.task.parts.items h.leads.pad h.leads.is in
        let inner = first g m tasks tells run place h.task h.at (wire_of o h.leads.pad) is to.element to.pad h.leads.leads in
        let leads = linked g m tasks tells run place h.task h.at (wire_of o h.leads.pad) is to.element to.pad h.leads.leads in
        let here : links_from (pad_id source) (spans_at g (sink_at to.element to.pad)) ≡ true =
        at_port (pad_id source) to.pad (g.spans to.element)
        (subst (λ (n : ℕ). LinksAt n to.pad (g.spans to.element)) (h.leads.number_is ∙ number) (subst (LinksAt (wire_of o h.leads.pad).number to.pad) (run.sinks to.element inner.0) leads.here)) in
        let before = (links_stay_exact.exact m.history g now.kept now.stand (sink_at to.element to.pad)).back source low here in
        let bare : has_lanes g sink.element ≡ false = subst (λ (n : ℕ). has_lanes g n ≡ false) same inner.1 in
        let place_is : sink_at to.element to.pad ≡ sink = ap (λ (n : ℕ). sink_at n to.pad) same ∙ ap (λ (n : ℕ). sink_at sink.element n) (inner.2 ∙ sym (first_sink bare)) in
        no_some (sym before ∙ ap (source_before g.links) place_is ∙ not_taken g sink linkable.free)

    -- so the task is not split at that element
    pub is_apart : (all : Vec (Task S E I O L s e i o)) → all.items ≡ tasks → (room : UndoRoom E I O e) → HasRoomToUndo all pad room → SplitsNot room sink.element
    is_apart all all_are Whole has = tt
    is_apart all all_are (Split element room) has = not_behind has.place (record { element = element; pad = has.sink }) (subst (λ (ts : List (Task S E I O L s e i o)). HasInside ts pad has.place (record { element = element; pad = has.sink })) all_are has.leads)
