-- What is told of tasks that cannot go on is true of what crossed the pads of their graph.
use Rattle.std.proofs.Common.{◌≡◌, ◌<◌, ◌+◌, ◌⊎◌, ℕ, zero, suc, Bool, true, false, List, [], ◌∷◌, Some, refl, sym, ap, ◌∙◌, subst, inl, inr, ⊎_elim, arith}
use Rattle.std.specs.Prelude.{map, slice_get}
use Rattle.std.specs.List.{range_with_len}
use Rattle.std.specs.Option.{unwrap_or}
use Rattle.std.proofs.lemmas.Option.{same_Some}
use Rattle.flow_model.specs.Moment.{Moment}
use Rattle.flow_model.specs.declared.element.TaskElement as elements
use Rattle.flow_model.specs.declared.source.TaskSource as givers
use Rattle.el_settings.specs.Asked.{makes_sinks}
use Rattle.graph_parts.specs.Bags.{AreHeadBags, heads_in}
use Rattle.graph_parts.specs.declared.bag.Bag.{Bag}
use Rattle.graph_core.specs.Elements.{Made, has}
use Rattle.graph_core.specs.Graph.{is_live, made as made_in, links as links_in}
use Rattle.graph_core.specs.GraphPlan.{pad_id, sink_count, sink_at as place_at}
use Rattle.graph_core.specs.declared.graph.Graph.{Graph}
use Rattle.graph_pads.specs.declared.pad.PadPlace.{PadPlace}
use Rattle.graph_tasks.specs.Frames.{HaveBags}
use Rattle.graph_tasks.specs.Over.{JoinsNone, joins_in}
use Rattle.graph_tasks.specs.Runs.{crossed_in}
use Rattle.graph_tasks.specs.Stalled.{AreStuck, taken_count}
use Rattle.lane_core.specs.declared.ends.Inlet as inlets
use Rattle.lane_core.specs.declared.ends.Outlet as outlets
use Rattle.net_task.specs.Counted.{received_by}
use Rattle.net_task.specs.Frame.{frame_of}
use Rattle.net_task.specs.declared.task.Task.{Task}
use Rattle.net_turns.specs.Ends.{TellsOver, head_number}
use Rattle.script_text.specs.declared.answer.Place.{Place}
use Rattle.run_report.specs.declared.report.StalledTask.{StalledTask}
use Rattle.task_parts.specs.declared.step.Step.{Step}
use Rattle.world_core.specs.Stalled.{AreStalledTasks, IsStalled, IsStalledTask, TellsTasks, place_told, places_of, stalled_task}
use Rattle.world_core.proofs.StuckRuns.{over_told}
use Rattle.world_core.proofs.TaskHeads.{head_task, heads_count}

-- what is the same at the numbers of a range makes one list of them
same_there : {B : Type 0} (f g : ℕ → B) (start n : ℕ) → ((k : ℕ) → k < start + n → f k ≡ g k) → map f (range_with_len start n) ≡ map g (range_with_len start n)
same_there f g start zero same = refl
same_there f g start (suc n) same =
    rw (same start (omega arith), same_there f g (start + 1) n (λ k w. same k (omega (arith, w)))) refl

-- two counts that are the same at the sink pads of an element tell the same of them
places_same : (made : List Made) (count other : PadPlace → ℕ) (n : ℕ)
    → ((pad : ℕ) → pad < sink_count (slice_get made n) → count (place_at n pad) ≡ other (place_at n pad)) → places_of made count n ≡ places_of made other n
places_same made count other n same =
    same_there (λ pad. place_told made count (place_at n pad)) (λ pad. place_told made other (place_at n pad)) 0 (sink_count (slice_get made n))
    (λ pad w. ap (told (place_at n pad)) (same pad (omega (arith, w))))
  where
    told : PadPlace → ℕ → Place
    told sink count = place_told made (λ s. count) sink

-- An element joins streams, or none does.
find_join : (made : List Made) → ((n : ℕ) × (has makes_sinks made n ≡ true)) ⊎ ((n : ℕ) → has makes_sinks made n ≡ false)
find_join [] = inr (λ n. refl)
find_join (m ∷ ms) = go (makes_sinks m.settings) refl (find_join ms)
  where
    apart : makes_sinks m.settings ≡ false → ((n : ℕ) → has makes_sinks ms n ≡ false) → (n : ℕ) → has makes_sinks (m ∷ ms) n ≡ false
    apart is none zero = is
    apart is none (suc n) = none n

    go : (b : Bool) → makes_sinks m.settings ≡ b → ((n : ℕ) × (has makes_sinks ms n ≡ true)) ⊎ ((n : ℕ) → has makes_sinks ms n ≡ false)
        → ((n : ℕ) × (has makes_sinks (m ∷ ms) n ≡ true)) ⊎ ((n : ℕ) → has makes_sinks (m ∷ ms) n ≡ false)
    go true is rest = inl (0, is)
    go false is (inl later) = inl (suc later.0, later.1)
    go false is (inr none) = inr (apart is none)

some_join : (made : List Made) → (((n : ℕ) → has makes_sinks made n ≡ false) → ⊥) → (n : ℕ) × (has makes_sinks made n ≡ true)
some_join made some = ⊎_elim (λ found. found) (λ none. absurd (some none)) (find_join made)

module _ {S E I O L : Type 0} {s : givers.Ghosts S} {e : elements.Ghosts E} {i : inlets.Ghosts I L O} {o : outlets.Ghosts O L}
    (contents : ℕ → List ℕ) (graph : Graph) (m : Moment) (bags : List Bag) (tasks : List (Task S E I O L s e i o)) (steps : List Step)
    (have : HaveBags (made_in graph) (links_in graph) bags tasks) (bags_are : AreHeadBags (made_in graph) (links_in graph) bags)
    (stuck : AreStuck contents graph m tasks steps)
    (answered : (k : ℕ) (task : Task S E I O L s e i o) → slice_get tasks k ≡ Some task → (step : Step) × (slice_get steps k ≡ Some step)) where
  -- what is told of one task
  task_told : (k : ℕ) (task : Task S E I O L s e i o) (step : Step) → slice_get tasks k ≡ Some task → slice_get steps k ≡ Some step
      → IsStalledTask contents (made_in graph) (links_in graph) (crossed_in graph m) stuck.took (head_number (frame_of task).head) (stalled_task (made_in graph) task step)
  task_told k task step at to = record {
    named = refl;
    step = step;
    stuck = stuck.stuck k task step at to;
    reason = refl;
    taken = places_same (made_in graph) (λ sink. unwrap_or (received_by i (pad_id sink) task.head) 0) (taken_count (links_in graph) stuck.took) (head_number (frame_of task).head)
        (λ pad w. stuck.counted k task pad at w);
  }

  module _ (told : List StalledTask) (tells : TellsTasks (made_in graph) tasks steps told) where
    tasks_told : AreStalledTasks contents (made_in graph) (links_in graph) (crossed_in graph m) stuck.took told
    tasks_told = record { count = tells.count ∙ sym (heads_count (made_in graph) (links_in graph) bags tasks have bags_are); each = each }
      where
        each : (k head : ℕ) (entry : StalledTask) → slice_get (heads_in (made_in graph)) k ≡ Some head → slice_get told k ≡ Some entry
            → IsStalledTask contents (made_in graph) (links_in graph) (crossed_in graph m) stuck.took head entry
        each k head entry at to =
            let own = head_task (made_in graph) (links_in graph) bags tasks have bags_are k head at in
            let step = answered k own.0 own.1 in
            subst (λ (x : StalledTask). IsStalledTask contents (made_in graph) (links_in graph) (crossed_in graph m) stuck.took head x)
            (same_Some (stalled_task (made_in graph) own.0 step.0) entry (sym (tells.each k own.0 step.0 own.1 step.1) ∙ to))
            (subst (λ (n : ℕ). IsStalledTask contents (made_in graph) (links_in graph) (crossed_in graph m) stuck.took n (stalled_task (made_in graph) own.0 step.0)) own.2
            (task_told k own.0 step.0 own.1 step.1))

    -- so the run is stalled where their steps do not tell that it is over, which they do where no streams are joined
    pub run_is_stalled : (TellsOver (is_live graph) (joins_in graph) tasks steps → ⊥) → (JoinsNone graph → TellsOver (is_live graph) (joins_in graph) tasks steps)
        → IsStalled contents graph (crossed_in graph m) told
    run_is_stalled none lines = record {
      took = stuck.took;
      taken = stuck.taken;
      tasks_are = tasks_told;
      not_over = λ over. none (over_told contents graph (crossed_in graph m) stuck.took bags tasks steps have bags_are stuck.stuck answered over);
      joins = some_join (made_in graph) (λ apart. none (lines apart));
    }
