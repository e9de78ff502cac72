-- At a moment of the run of a graph's tasks each element took lists for which it owes a beginning of what it owes for more.
use Rattle.std.proofs.Common.{◌≡◌, ◌⊎◌, ℕ, Bool, true, false, List, [], Option, None, Some, refl, sym, ap, ◌∙◌, subst, inl, inr}
use Rattle.std.specs.Prelude.{slice_get}
use Rattle.std.specs.Option.{option_map_or}
use Rattle.flow_model.specs.Call.{Call}
use Rattle.flow_model.specs.Eval.{Plan}
use Rattle.flow_model.specs.Item.{Item}
use Rattle.flow_model.specs.Prefix.{IsPrefix, nothing}
use Rattle.gst_outside.specs.declared.sink.Sink as sinks
use Rattle.lane_core.specs.Lane.{Lane}
use Rattle.lane_core.specs.declared.ends.Inlet as inlets
use Rattle.lane_core.specs.declared.ends.Outlet as outlets
use Rattle.flow_model.specs.Moment.{Moment, behavior_at}
use Rattle.flow_model.specs.Opening.{no_calls}
use Rattle.flow_model.specs.Whole.{OwesInOrder}
use Rattle.flow_model.specs.declared.element.TaskElement as elements
use Rattle.flow_model.specs.declared.source.TaskSource as sources
use Rattle.el_settings.specs.Asked.{Begins, Ends, Gathers, Passes, Place, Splits, begins, gathers, is_source, makes_sinks, place_of}
use Rattle.graph_core.specs.Elements.{Made, has}
use Rattle.graph_core.specs.Graph.{made as made_in, links as links_in}
use Rattle.graph_core.specs.declared.graph.Graph.{Graph}
use Rattle.graph_parts.specs.BagLaws.{StandsIn}
use Rattle.graph_parts.specs.declared.bag.Bag.{Bag}
use Rattle.graph_parts.specs.Plans.{moment_plan}
use Rattle.graph_parts.proofs.Rules.{owes_none_at_first, rules_go_on}
use Rattle.task_elements.specs.declared.element.StreamElement.{StreamElement}
use Rattle.task_elements.proofs.RuleLaws.{owes_in_order}
use Rattle.net_task.specs.declared.task.Task.{Task}
use Rattle.graph_tasks.specs.Ended.{RunsStand}
use Rattle.graph_tasks.specs.Runs.{RunsAt}
use Rattle.graph_tasks.specs.Written.{AreStreams}
use Rattle.graph_tasks.proofs.EndedBags.{HasOwn, own_part, own_source, IsLoose, in_bag_or_loose, stands_own}
use Rattle.graph_tasks.proofs.EndedLoose.{loose_gives, loose_took}

-- no link makes a sink pad of a source
source_alone : (found : Option Made) → option_map_or (λ (m : Made). is_source m.settings) found false ≡ true
    → option_map_or (λ (m : Made). makes_sinks m.settings) found false ≡ true → ⊥
source_alone None is makes = cc
source_alone (Some m) is makes = go (place_of m.settings) is makes
  where
    go : (place : Place) → begins place ≡ true → gathers place ≡ true → ⊥
    go Begins is makes = cc
    go Passes is makes = cc
    go Splits is makes = cc
    go Gathers is makes = cc
    go Ends is makes = cc

module _ {S K I O L : Type 0} (k : sinks.Ghosts K) (s : sources.Ghosts S) (e : elements.Ghosts (StreamElement K)) (i : inlets.Ghosts I L O)
    (o : outlets.Ghosts O L) (streams : AreStreams k e)
    (contents : ℕ → List ℕ) (graph : Graph) (bags : List Bag) (m : Moment) (tasks : List (Task S (StreamElement K) I O L s e i o))
    (tells : Option (List Lane)) (at : RunsAt contents graph bags m tasks tells) where
  -- an element of a task stands for what it took
  of_task : (n : ℕ) → has makes_sinks (made_in graph) n ≡ true → (place : ℕ) (task : Task S (StreamElement K) I O L s e i o) → slice_get tasks place ≡ Some task
      → HasOwn (made_in graph) task n → OwesInOrder (m.plan.rule n) (m.took n)
  of_task n makes place task task_at (own_part j part part_at same) =
      let stood = ((at.net.tied place task task_at).parts_tied.each j part part_at).stood in
      let stands = streams.stands part.element (behavior_at m part.number) (m.took part.number) stood in
      subst (λ (d : ℕ). OwesInOrder (m.plan.rule d) (m.took d)) same
      (owes_in_order k.bytes part.element (behavior_at m part.number) (m.took part.number) stands)
  of_task n makes place task task_at (own_source head head_at same source) = absurd (source_alone (slice_get (made_in graph) n) source makes)

  -- one of no task took nothing, and owes nothing for that
  of_none : (n : ℕ) → IsLoose bags n → OwesInOrder (m.plan.rule n) (m.took n)
  of_none n loose = λ whole ahead port j. subst (λ (owed : List Item). IsPrefix owed (m.plan.rule n whole port j)) (sym (none port j)) nothing
    where
      none : (port j : ℕ) → m.plan.rule n (m.took n) port j ≡ []
      none port j =
          ap (λ (took : List (List Call)). m.plan.rule n took port j) (loose_took contents graph bags m tasks tells at n loose)
          ∙ ap (λ (pl : Plan). pl.rule n (no_calls (moment_plan contents graph) n) port j) at.plan
          ∙ owes_none_at_first contents graph n port j (loose_gives contents graph bags m tasks tells at n loose)

  pub in_order : (n : ℕ) → OwesInOrder (m.plan.rule n) (m.took n)
  in_order n = go (has makes_sinks (made_in graph) n) refl (in_bag_or_loose bags n)
    where
      go : (b : Bool) → has makes_sinks (made_in graph) n ≡ b → ((place : ℕ) × StandsIn bags place n) ⊎ IsLoose bags n → OwesInOrder (m.plan.rule n) (m.took n)
      go false none where_is = subst (λ (pl : Plan). OwesInOrder (pl.rule n) (m.took n)) (sym at.plan) (rules_go_on contents graph n (m.took n) none)
      go true makes (inl t) =
          let one = stands_own (made_in graph) (links_in graph) bags tasks at.have at.bags_are.are t.0 n t.1 in
          of_task n makes t.0 one.task one.at one.own
      go true makes (inr loose) = of_none n loose

pub runs_stand : {S K I O L : Type 0} (k : sinks.Ghosts K) (s : sources.Ghosts S) (e : elements.Ghosts (StreamElement K)) (i : inlets.Ghosts I L O)
    (o : outlets.Ghosts O L) → RunsStand k s e i o
runs_stand k s e i o streams contents graph bags m tasks tells at =
    record { plan = at.plan; answers = at.answers; cells = at.net.cells; in_order = in_order k s e i o streams contents graph bags m tasks tells at }
