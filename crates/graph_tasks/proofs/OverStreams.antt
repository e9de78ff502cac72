-- How streams go on in a graph, so that the steps that its tasks answered tell whether its run is over.
use Rattle.std.proofs.Common.{◌≡◌, ◌<◌, ◌+◌, ◌⊎◌, ℕ, zero, suc, Bool, true, false, List, [], ◌∷◌, Option, None, Some, map, refl, sym, ap}
use Rattle.std.proofs.Common.{◌∙◌, subst, inl, inr, arith}
use Rattle.std.specs.Prelude.{slice_get}
use Rattle.std.specs.List.{range_with_len}
use Rattle.gst_outside.specs.declared.sink.Sink as sinks
use Rattle.flow_model.specs.Account.{GoesForward, IsMember}
use Rattle.flow_model.specs.Eval.{Plan}
use Rattle.flow_model.specs.Feeding.{has_eos as calls_ended}
use Rattle.flow_model.specs.Item.{Item, eos_among}
use Rattle.flow_model.specs.Link.{Span, Linked, input_of}
use Rattle.flow_model.proofs.Links.{link_input}
use Rattle.lane_core.specs.Lane.{Lane}
use Rattle.lane_core.specs.declared.ends.Inlet as inlets
use Rattle.lane_core.specs.declared.ends.Outlet as outlets
use Rattle.flow_model.specs.Moment.{Moment}
use Rattle.flow_model.specs.Over.{list_ended, AllEnded, FromStart}
use Rattle.flow_model.proofs.Splits.{split_all}
use Rattle.flow_model.specs.declared.element.TaskElement as elements
use Rattle.flow_model.specs.declared.source.TaskSource as sources
use Rattle.el_settings.proofs.Roles.{end_sinks}
use Rattle.graph_core.specs.Allowed.{first_pad}
use Rattle.graph_core.specs.Elements.{Made}
use Rattle.graph_core.specs.Graph.{IsGraph, is_live, made as made_in, links as links_in, forward as forward_in}
use Rattle.graph_core.specs.GraphPlan.{before_it, line_plan, pad_id, sink_at, sink_count, spans_from}
use Rattle.graph_pads.specs.Links.{source_before}
use Rattle.graph_core.specs.Live.{Live}
use Rattle.graph_core.specs.declared.graph.Graph.{Graph}
use Rattle.graph_pads.specs.declared.pad.PadLink.{PadLink}
use Rattle.graph_pads.specs.declared.pad.PadPlace.{PadPlace}
use Rattle.launch_text.specs.declared.tree.Tree.{Tree}
use Rattle.graph_parts.specs.Pads.{at_pads, is_pad, pad_owner}
use Rattle.graph_parts.specs.Plans.{moment_plan}
use Rattle.graph_parts.proofs.Sources.{in_order, linked_there, moment_goes, place_is_pad}
use Rattle.graph_parts.proofs.Wholes.{pads_have_numbers}
use Rattle.graph_parts.specs.BagLaws.{StandsIn}
use Rattle.graph_parts.specs.declared.bag.Bag.{Bag}
use Rattle.graph_parts.proofs.Apart.{bags_are_there}
use Rattle.task_elements.specs.declared.element.StreamElement.{StreamElement}
use Rattle.task_parts.specs.declared.head.InletHead.{InletHead}
use Rattle.net_task.specs.declared.task.Task.{Task}
use Rattle.net_turns.specs.Ends.{AreFromStart, LinesEnd, NothingLeft, StepsTellOver, StreamsGoOn, TakesOne}
use Rattle.net_turns.specs.Net.{IsFed}
use Rattle.gst_value.proofs.Basics.{no_true}
use Rattle.graph_tasks.specs.Over.{LinesTellOver, RunsTellOver, joins_in}
use Rattle.graph_tasks.specs.Owed.{AreOver}
use Rattle.graph_tasks.specs.Runs.{RunsAt, crossed_in}
use Rattle.graph_tasks.specs.Written.{AreStreams}
use Rattle.graph_tasks.proofs.EndedEos.{ended_has}
use Rattle.graph_tasks.proofs.EndedLines.{are_lines}
use Rattle.graph_tasks.proofs.EndedLive.{in_bag}
use Rattle.graph_tasks.proofs.EndedLoose.{cells_at}
use Rattle.graph_tasks.proofs.EndedOver.{passes}
use Rattle.graph_tasks.proofs.OverHeads.{join_head, single_row}
use Rattle.graph_tasks.proofs.OverLinked.{one_linked}
use Rattle.graph_tasks.proofs.OverQuiet.{dead_held}
use Rattle.graph_tasks.proofs.OverWants.{join_wants, single_wants}
use Rattle.flow_model.proofs.Items.{items_feeds as items_of}

-- sink pads that are linked from the start, each to a live element
from_start : (live : ℕ → Bool) (plan : Plan) (f : ℕ → List Span) (start n : ℕ)
    → ((k : ℕ) → k < start + n → (p : ℕ) × (f k ≡ Linked p 0 [] ∷ []) × (live (plan.owner p) ≡ true))
    → FromStart live plan (map f (range_with_len start n))
from_start live plan f start zero each = tt
from_start live plan f start (suc n) each = (each start (omega arith), from_start live plan f (start + 1) n (λ k w. each k (omega (arith, w))))

-- or to nothing
each_start : (links : List PadLink) (e : ℕ) (ks : List ℕ) → AreFromStart (map (λ (k : ℕ). spans_from (source_before links (sink_at e k))) ks)
each_start links e [] = tt
each_start links e (k ∷ ks) = (one (source_before links (sink_at e k)), each_start links e ks)
  where
    one : (found : Option PadPlace) → (spans_from found ≡ []) ⊎ ((p : ℕ) × (spans_from found ≡ Linked p 0 [] ∷ []))
    one None = inl refl
    one (Some source) = inr (pad_id source, refl)

-- EOS came through a sink pad where it crossed the pad before it
came_ended : (made : List Made) (h : ℕ → List Item) (found : Option PadPlace) → ((source : PadPlace) → found ≡ Some source → is_pad made (pad_id source) ≡ true)
    → calls_ended (input_of h (spans_from found)) ≡ true → eos_among (before_it (at_pads made h) found) ≡ true
came_ended made h None pads ended = absurd (cc)
came_ended made h (Some source) pads ended =
    let crossed : list_ended (h (pad_id source)) ≡ true
    = sym (ap list_ended (items_of (h (pad_id source)))) ∙ sym (ap calls_ended (link_input h (pad_id source))) ∙ ended
    in rw (pads source refl) (ended_has (h (pad_id source)) crossed)

module _ {S K I O L : Type 0} (k : sinks.Ghosts K) {s : sources.Ghosts S} {e : elements.Ghosts (StreamElement K)} {i : inlets.Ghosts I L O}
    {o : outlets.Ghosts O L} (streams : AreStreams k e)
    (tree : Tree) (contents : ℕ → List ℕ) (graph : Graph) (bags : List Bag) (m : Moment) (tasks : List (Task S (StreamElement K) I O L s e i o))
    (tells : Option (List Lane)) (is : IsGraph tree graph) (at : RunsAt contents graph bags m tasks tells) where
  live_of : (n : ℕ) → is_live graph n ≡ true → Live (made_in graph) (links_in graph) n
  live_of n marked = at.sound.live.0 n marked

  live_among : (n : ℕ) → is_live graph n ≡ true → IsMember n (forward_in graph)
  live_among n marked =
      let bag : (j : ℕ) × StandsIn bags j n = in_bag tree graph is at.sound at.once bags at.bags_are.are n (live_of n marked) in
      in_order graph at.sound n (bags_are_there (made_in graph) (links_in graph) bags at.sound.pads at.bags_are.are bag.0 n bag.1)

  live_linked : (n : ℕ) → Live (made_in graph) (links_in graph) n → joins_in graph n ≡ false
      → FromStart (is_live graph) (moment_plan contents graph) ((moment_plan contents graph).sinks n)
  unfolding line_plan
  live_linked n live single = from_start (is_live graph) (moment_plan contents graph) (λ j. spans_from (source_before (links_in graph) (sink_at n j))) 0
      (sink_count (slice_get (made_in graph) n)) each
    where
      each : (j : ℕ) → j < 0 + sink_count (slice_get (made_in graph) n)
          → (p : ℕ) × (spans_from (source_before (links_in graph) (sink_at n j)) ≡ Linked p 0 [] ∷ []) × (is_live graph (pad_owner (made_in graph) p) ≡ true)
      each j w =
          let l = one_linked tree graph is at.sound at.once n live single j (omega (arith, w)) in
          let number = pads_have_numbers (made_in graph) l.source (linked_there (made_in graph) (links_in graph) at.sound.pads (sink_at n j) l.source l.at) in
          (pad_id l.source, ap spans_from l.at, ap (is_live graph) number.owner ∙ at.sound.live.1 l.source.element l.live)

  any_linked : (n : ℕ) → AreFromStart ((moment_plan contents graph).sinks n)
  unfolding line_plan
  any_linked n = each_start (links_in graph) n (range_with_len 0 (sink_count (slice_get (made_in graph) n)))

  -- the head of a task that joins no streams takes them from one row
  pub takes_one : (number : ℕ) (head : InletHead I) → IsFed tasks number head → joins_in graph head.number ≡ false → TakesOne e m head
  takes_one number head fed single = record {
    one = single_row contents graph bags m tasks tells at number head fed single;
    linked = subst (λ (plan : Plan). AreFromStart (plan.sinks head.number)) (sym at.plan) (any_linked head.number);
    wants = λ port w. single_wants k streams contents graph bags m tasks tells at head.number port single w;
  }

  go_on : StreamsGoOn (is_live graph) (joins_in graph) m tasks (forward_in graph)
  go_on = record {
    goes = subst (λ (plan : Plan). GoesForward plan [] (forward_in graph)) (sym at.plan) (moment_goes contents graph at.sound);
    among = live_among;
    passes = λ n marked. passes k streams tree contents graph bags m tasks tells is at n marked;
    linked = λ n marked single. subst (λ (plan : Plan). FromStart (is_live graph) plan (plan.sinks n)) (sym at.plan) (live_linked n (live_of n marked) single);
    single = takes_one;
    heads = λ n marked joins. join_head contents graph bags m tasks tells at n joins;
    joined = λ n marked joins. subst (λ (plan : Plan). AreFromStart (plan.sinks n)) (sym at.plan) (any_linked n);
    wants = join_wants k streams contents graph bags m tasks tells at;
    quiet = λ n dead joins. dead_held contents graph m at.sound at.once (cells_at contents graph bags m tasks tells at) n dead;
  }

  -- EOS came to each live sink where each live element took it and nothing is left
  sink_ended : NothingLeft m → ((n : ℕ) → is_live graph n ≡ true → AllEnded (m.took n)) → AreOver graph (crossed_in graph m)
  unfolding line_plan
  sink_ended left ended d a there sink live =
      let one : sink_count (slice_get (made_in graph) d) ≡ 1 = ap sink_count there ∙ end_sinks a.settings sink in
      let came = subst (λ (n : ℕ). AllEnded
      (map (input_of m.history) (map (λ j. spans_from (source_before (links_in graph) (sink_at d j))) (range_with_len 0 n)))) one
      (subst AllEnded (split_all (left.empty d) (cells_at contents graph bags m tasks tells at d).input) (ended d live)) in
      came_ended (made_in graph) m.history (source_before (links_in graph) (first_pad d))
      (λ source found. place_is_pad (made_in graph) source (linked_there (made_in graph) (links_in graph) at.sound.pads (first_pad d) source found)) came.0

pub runs_tell_over : {S K I O L : Type 0} (k : sinks.Ghosts K) (s : sources.Ghosts S) (e : elements.Ghosts (StreamElement K)) (i : inlets.Ghosts I L O)
    (o : outlets.Ghosts O L) → StepsTellOver s e i o → RunsTellOver k s e i o
runs_tell_over k s e i o steps_tell_over streams tree contents graph bags m tasks steps tells is at rests =
    let streams_go = go_on k streams tree contents graph bags m tasks tells is at in
    let told = steps_tell_over (is_live graph) (joins_in graph) m tasks steps tells (forward_in graph) rests streams_go in (
      λ over. let h = told.0 over in (h.0, sink_ended k streams tree contents graph bags m tasks tells is at h.0.left h.1),
      told.1,
      told.2,
    )

pub lines_tell_over : {S K I O L : Type 0} (k : sinks.Ghosts K) (s : sources.Ghosts S) (e : elements.Ghosts (StreamElement K)) (i : inlets.Ghosts I L O)
    (o : outlets.Ghosts O L) → LinesEnd s e i o → LinesTellOver k s e i o
lines_tell_over k s e i o lines_end streams tree contents graph bags m tasks steps tells is at rests none = record {
  idle = lines_end m tasks steps tells rests
      (are_lines contents graph bags m tasks tells at
      (λ number head fed. takes_one k streams tree contents graph bags m tasks tells is at number head fed (none head.number)));
  ended = λ number task task_at live joins. absurd (no_true (sym (none _) ∙ joins));
}
