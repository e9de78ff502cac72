-- Where no task of a graph can move, each is stuck for the reason that it answered.
use Rattle.std.proofs.Common.{◌≡◌, ◌≢◌, ◌<◌, ◌*◌, ◌+◌, ℕ, Bool, true, false, if◌then◌else◌, List, Option, None, Some, length, refl, sym, ap, ◌∙◌, subst, arith}
use Rattle.std.specs.Prelude.{slice_get}
use Rattle.std.specs.Option.{option_map, unwrap_or}
use Rattle.gst_outside.specs.declared.sink.Sink as sinks
use Rattle.flow_model.specs.Item.{Item}
use Rattle.lane_core.specs.Lane.{Lane}
use Rattle.lane_core.specs.declared.ends.Inlet as inlets
use Rattle.lane_core.specs.declared.ends.Outlet as outlets
use Rattle.inlet_row.specs.Row.{feeds_of, received_of}
use Rattle.inlet_row.specs.declared.feeding.Feeding.{Feeding}
use Rattle.inlet_row.specs.declared.row.InletRow.{InletRow}
use Rattle.flow_model.specs.Moment.{Moment}
use Rattle.flow_model.specs.Split.{AreEmpty}
use Rattle.flow_model.specs.declared.element.TaskElement as elements
use Rattle.flow_model.specs.declared.source.TaskSource as sources
use Rattle.el_settings.specs.Asked.{is_source}
use Rattle.el_settings.proofs.Roles.{source_no_sink}
use Rattle.graph_core.specs.Graph.{made as made_in, links as links_in}
use Rattle.graph_core.specs.GraphPlan.{before_it, pad_id, sink_count, sink_at as place_at}
use Rattle.graph_core.specs.declared.graph.Graph.{Graph}
use Rattle.graph_pads.specs.Links.{source_before}
use Rattle.graph_pads.specs.declared.pad.PadLink.{PadLink}
use Rattle.graph_pads.specs.declared.pad.PadPlace.{PadPlace}
use Rattle.graph_parts.specs.Links.{has_inlets}
use Rattle.graph_parts.specs.declared.bag.Bag.{Bag}
use Rattle.graph_parts.specs.Lanes.{has_lane}
use Rattle.task_elements.specs.declared.element.StreamElement.{StreamElement}
use Rattle.task_parts.specs.declared.head.Head.{Head}
use Rattle.task_parts.specs.declared.head.Head.TheVariants.{Source, Inlets}
use Rattle.task_parts.specs.declared.step.Step.{Step}
use Rattle.net_task.specs.declared.task.Task.{Task}
use Rattle.net_task.specs.Counted.{received_by}
use Rattle.net_task.specs.Frame.{frame_of, head_frame}
use Rattle.net_turns.specs.Alone.{HoldLanes}
use Rattle.net_turns.specs.Ends.{head_number}
use Rattle.net_turns.specs.Net.{IsFed}
use Rattle.net_turns.specs.Rests.{TaskRests}
use Rattle.graph_tasks.specs.Owed.{came_to, went_from}
use Rattle.graph_tasks.specs.Runs.{RunStands, RunsAt}
use Rattle.graph_tasks.specs.Stalled.{TasksAreStuck, lane_at}
use Rattle.graph_tasks.proofs.BlamedFrames.{bag_of, source_is}
use Rattle.graph_tasks.proofs.FedElements.{IsAsked, asked_at}
use Rattle.graph_tasks.proofs.FedHeads.{head_fed}
use Rattle.graph_tasks.proofs.InOrder.{runs_stand}
use Rattle.graph_tasks.proofs.OverHeads.{row_count}
use Rattle.graph_tasks.proofs.StuckCounts.{received_one, received_row}
use Rattle.graph_tasks.proofs.StuckLanes.{lane_counted}
use Rattle.graph_tasks.proofs.StuckReasons.{sink_there, stuck_at}
use Rattle.graph_tasks.proofs.StuckRows.{few_pads, row_lane, row_none}
use Rattle.graph_tasks.proofs.StuckTaken.{are_taken}
use Rattle.graph_tasks.proofs.StuckWaits.{took}
use Rattle.gst_value.proofs.Basics.{some_same}
use Rattle.gst_value.proofs.Places.{found_at as got_within}
use Rattle.graph_core.specs.Elements.{has}

-- how many items were taken from the lane into a sink pad, where it is linked
abbrev lane_count : List PadLink → (ℕ → List Item) → PadPlace → Option ℕ
lane_count links took sink = option_map (λ (source : PadPlace). length (went_from took source)) (source_before links sink)

-- so many of those that came
came_count : (links : List PadLink) (took : ℕ → List Item) (sink : PadPlace) → unwrap_or (lane_count links took sink) 0 ≡ length (came_to links took sink)
came_count links took sink = go (source_before links sink)
  where
    go : (found : Option PadPlace) → unwrap_or (option_map (λ (source : PadPlace). length (went_from took source)) found) 0 ≡ length (before_it took found)
    go None = refl
    go (Some source) = refl

-- lanes of two sink pads of an element have two numbers
other_lane : (b : Bool) (n k pad : ℕ) → k ≢ pad → (if b then Some (pad_id (place_at n k)) else None) ≢ Some (pad_id (place_at n pad))
other_lane true n k pad ne e = let same : n * 64 + k ≡ n * 64 + pad = some_same e in ne (omega (arith, same))
other_lane false n k pad ne e = cc

module _ {S E I O L : Type 0} {s : sources.Ghosts S} {e : elements.Ghosts E} {i : inlets.Ghosts I L O} {o : outlets.Ghosts O L}
    (contents : ℕ → List ℕ) (graph : Graph) (bags : List Bag) (m : Moment) (tasks : List (Task S E I O L s e i o)) (tells : Option (List Lane))
    (at : RunsAt contents graph bags m tasks tells) (run : RunStands contents graph m)
    (hold : HoldLanes (lane_at (made_in graph) (links_in graph)) tasks) (counts : (inlet : I) (got : List Item) → i.received inlet got → length got ≡ i.count inlet) where
  -- nothing stands in the inlets of an element that has none
  inner : (n : ℕ) → has has_inlets (made_in graph) n ≡ false → AreEmpty (m.held n)
  inner n none = at.net.others n (λ k head fed same. not (sym (ap (has has_inlets (made_in graph)) same ∙ none) ∙ head_fed contents graph bags m tasks tells at k head fed))
    where
      not : false ≡ true → ⊥
      not e = cc

  -- how many items a task received from the lane into a sink pad of its head
  counted_at : (number : ℕ) (task : Task S E I O L s e i o) (pad : ℕ) → slice_get tasks number ≡ Some task → (head : Head S I O s) → task.head ≡ head
      → pad < sink_count (slice_get (made_in graph) (head_number (head_frame o head)))
      → received_by i (pad_id (place_at (head_number (head_frame o head)) pad)) head
      ≡ lane_count (links_in graph) (took contents graph bags m tasks tells at run) (place_at (head_number (head_frame o head)) pad)
  counted_at number task pad task_at (Source head) is w =
      let b = bag_of (made_in graph) (links_in graph) bags tasks at.bags_are.are at.have number task task_at in
      let source = source_is (made_in graph) (links_in graph) bags number (frame_of task) at.sound.pads at.bags_are.are b head.number _ _ (ap (λ h. head_frame o h) is) in
      let one : IsAsked is_source (slice_get (made_in graph) head.number) = asked_at is_source (slice_get (made_in graph) head.number) source.0 in
      let none = source_no_sink one.element.settings one.is in
      let count = ap sink_count one.at in
      absurd (omega (arith, w, none, count))
  counted_at number task pad task_at (Inlets head) is w =
      received_row i (lane_at (made_in graph) (links_in graph) head.number) lane pad head.rows.items row.0 (λ k one here. hold number head k one fed here) row.1
      (λ k ne. other_lane (has_lane (made_in graph) (links_in graph) (pad_id (place_at head.number k))) head.number k pad ne)
      ∙ go (source_before (links_in graph) (place_at head.number pad)) refl
    where
      fed : IsFed tasks number head
      fed = record { task = task; at = task_at; head_is = is }

      lane : ℕ
      lane = pad_id (place_at head.number pad)

      row : (row : InletRow I) × (slice_get head.rows.items pad ≡ Some row)
      row = let rows = row_count contents graph bags m tasks tells at number head fed in got_within head.rows.items pad (omega (arith, w, rows))

      few : pad < 64
      few = few_pads (slice_get (made_in graph) head.number) pad w

      go : (found : Option PadPlace) → source_before (links_in graph) (place_at head.number pad) ≡ found
          → received_of i lane (feeds_of row.0) ≡ option_map (λ (source : PadPlace). length (went_from (took contents graph bags m tasks tells at run) source)) found
      go None linked =
          ap (λ (fs : List (Feeding I)). received_of i lane fs)
          (row_none (made_in graph) (links_in graph) head.number pad few (head_fed contents graph bags m tasks tells at number head fed) row.0 (hold number head pad row.0 fed row.1) linked)
      go (Some source) linked =
          let alone = row_lane (made_in graph) (links_in graph) head.number pad few (head_fed contents graph bags m tasks tells at number head fed) row.0
          (hold number head pad row.0 fed row.1) source linked in
          ap (λ (fs : List (Feeding I)). received_of i lane fs) alone.1 ∙ received_one i lane alone.0
          ∙ ap (λ (count : ℕ). Some count)
          (lane_counted contents graph bags m tasks tells at run hold counts number head fed pad w row.0 row.1 source linked alone.0 alone.1)

pub tasks_are_stuck : {S K I O L : Type 0} (k : sinks.Ghosts K) (s : sources.Ghosts S) (e : elements.Ghosts (StreamElement K)) (i : inlets.Ghosts I L O)
    (o : outlets.Ghosts O L) → ((inlet : I) (got : List Item) → i.received inlet got → length got ≡ i.count inlet) → TasksAreStuck k s e i o
tasks_are_stuck k s e i o counts streams contents graph bags m tasks steps tells at hold rests =
    let run : RunStands contents graph m = runs_stand k s e i o streams contents graph bags m tasks tells at in
    record {
      took = took contents graph bags m tasks tells at run;
      taken = are_taken contents graph m at.sound at.once run (λ source sink linked. sink_there graph at.sound at.once source sink linked)
          (λ n none. inner contents graph bags m tasks tells at run hold counts n none);
      stuck = λ number task step task_at step_at.
          let one = rests.rests number task tt task_at in
          let why : TaskRests tells m task step = subst (λ (own : Step). TaskRests tells m task own) (some_same (sym one.1 ∙ step_at)) one.2 in
          stuck_at k streams contents graph bags m tasks tells at run hold number task task_at step why;
      counted = λ number task pad task_at w.
          ap (λ (count : Option ℕ). unwrap_or count 0) (counted_at contents graph bags m tasks tells at run hold counts number task pad task_at task.head refl w)
          ∙ came_count (links_in graph) (took contents graph bags m tasks tells at run) (place_at (head_number (frame_of task).head) pad);
    }
