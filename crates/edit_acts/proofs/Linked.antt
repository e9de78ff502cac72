-- A run in which two tasks were joined, and linked then, goes on with the edited graph.
use Rattle.std.proofs.Common.{ℕ, eqb, if◌then◌else◌, List, [], Option, length, sym, ap, ◌∙◌, subst, arith}
use Rattle.flow_model.specs.Item.{Item}
use Rattle.flow_model.specs.Link.{Linked, Span}
use Rattle.lane_core.specs.Lane.{Lane}
use Rattle.lane_core.specs.declared.ends.Inlet as inlets
use Rattle.lane_core.specs.declared.ends.Outlet as outlets
use Rattle.flow_model.specs.Edit.{linked_inside, push_span}
use Rattle.flow_model.specs.Moment.{Moment}
use Rattle.flow_model.specs.declared.element.TaskElement as elements
use Rattle.flow_model.specs.declared.source.TaskSource as sources
use Rattle.net_task.specs.declared.task.Task.{Task}
use Rattle.net_turns.specs.Net.{NetStands}
use Rattle.net_groups.specs.Joined.{CannotJoin, IsJoined, IsUnfed}
use Rattle.task_edits.specs.declared.inside.Inside.{Inside}
use Rattle.net_edits.specs.Inside.{CanLinkIn, IsLinkedOpened, StandLinked}
use Rattle.graph_core.specs.GraphPlan.{pad_id}
use Rattle.graph_pads.specs.declared.pad.PadPlace.{PadPlace}
use Rattle.graph_edits.specs.Edited.{Edited, linked_at}
use Rattle.graph_edits.proofs.Keeping.{linked_kept}
use Rattle.graph_edits.proofs.LinksStanding.{linked_stand}
use Rattle.edit_core.specs.Ways.{IsRun}
use Rattle.edit_acts.specs.Linking.{GoesOnLinked, MayLink, MayLinkAt, sink_in}
use Rattle.edit_acts.proofs.Graphs.{linked_made, linked_unmarked}
use Rattle.edit_acts.proofs.Joinable.{joined_can, joins}
use Rattle.edit_acts.proofs.Kept.{linked_tasks}
use Rattle.edit_acts.proofs.Loose.{sink_loose}

module _ {S E I O L : Type 0} {s : sources.Ghosts S} {e : elements.Ghosts E} {i : inlets.Ghosts I L O} {o : outlets.Ghosts O L} (g : Edited) (m : Moment) (tasks mid tasks' : List (Task S E I O L s e i o)) (tells : Option (List Lane))
    (run : IsRun g m tasks tells) (source sink : PadPlace) (may : MayLink g source sink) (j : IsJoined tasks mid (pad_id source) sink.element) (items : List Item) (l : IsLinkedOpened mid tasks' (pad_id source) (sink_in sink) items) where
  linked_run : (out : ℕ → List Item) → NetStands (linked_inside (pad_id source) sink.element sink.pad out m) tasks' tells
      → IsRun (linked_at source (length (m.history (pad_id source))) sink g) (linked_inside (pad_id source) sink.element sink.pad out m) tasks' tells
  linked_run out net = record {
    net = net;
    are = linked_tasks g m tasks mid tasks' tells run source sink may j items l (length (m.history (pad_id source)));
    sinks = λ a there.
        ap (λ (sss : List (List Span)). if eqb a sink.element then push_span sink.pad (Linked (pad_id source) (length (m.history (pad_id source))) []) sss else sss) (run.sinks a there);
    owners = run.owners;
    kept = linked_kept m.history g source (length (m.history (pad_id source))) sink (omega arith) may.free run.kept;
    links = linked_stand g source (length (m.history (pad_id source))) sink may.low may.within may.free run.links;
    made = linked_made g source (length (m.history (pad_id source))) sink run.made;
    unmarked = linked_unmarked g source (length (m.history (pad_id source))) sink run.unmarked;
  }

module _ {S E I O L : Type 0} {s : sources.Ghosts S} {e : elements.Ghosts E} {i : inlets.Ghosts I L O} {o : outlets.Ghosts O L} (g : Edited) (m : Moment) (tasks : List (Task S E I O L s e i o)) (tells : Option (List Lane))
    (run : IsRun g m tasks tells) (source sink : PadPlace) (pad : ℕ) (to : Inside) (opening : List Item) (at : MayLinkAt g m source sink pad to opening) where
  -- the pads as tasks name them are those of the graph
  in_graph : (P : ℕ → Inside → Type 0) → P pad to → P (pad_id source) (sink_in sink)
  in_graph P p = subst (λ (q : ℕ). P q (sink_in sink)) at.pad_is (subst (λ (t : Inside). P pad t) at.to_is p)

  in_tasks : (P : ℕ → Inside → Type 0) → P (pad_id source) (sink_in sink) → P pad to
  in_tasks P p = subst (λ (t : Inside). P pad t) (sym at.to_is) (subst (λ (q : ℕ). P q (sink_in sink)) (sym at.pad_is) p)

  -- nothing speaks against the join
  pub is_joined : CannotJoin tasks pad to.element → ⊥
  is_joined cannot = joins g m tasks tells run source sink at.may (ap m.plan.owner (sym at.pad_is) ∙ at.owned) (in_graph (λ p t. CannotJoin tasks p t.element) cannot)

  pub is_unfed : IsUnfed tasks to.element
  is_unfed = in_tasks (λ p t. IsUnfed tasks t.element) (sink_loose g m tasks tells run sink at.may.within at.may.free at.may.bare at.may.sink_there).1

  -- behind it the pad is linked
  module _ (mid tasks' : List (Task S E I O L s e i o)) (joined : IsJoined tasks mid pad to.element) where
    j : IsJoined tasks mid (pad_id source) sink.element
    j = in_graph (λ p t. IsJoined tasks mid p t.element) joined

    pub goes_on : IsLinkedOpened mid tasks' pad to opening → (CanLinkIn m mid pad to → StandLinked m tasks' tells pad to) → GoesOnLinked g m tasks' tells source sink
    goes_on linked stand =
        let l = in_graph (λ p t. IsLinkedOpened mid tasks' p t opening) linked in
        let z = in_graph (λ p t. StandLinked m tasks' tells p t) (stand (in_tasks (λ p t. CanLinkIn m mid p t) (joined_can g m tasks tells run source sink at.may mid j))) in
        record { out = z.out; links = z.links; run = linked_run g m tasks mid tasks' tells run source sink at.may j opening l z.out z.stands }
