-- The tasks of a run that begins are ready, and where the contents of files were told they stand where it begins.
use Rattle.std.proofs.Common.{ℕ, List, Option, Some, refl, sym, subst}
use Rattle.flow_model.specs.declared.element.TaskElement as elements
use Rattle.flow_model.specs.declared.source.TaskSource as givers
use Rattle.graph_core.specs.Graph.{made as made_in, links as links_in}
use Rattle.graph_core.specs.declared.graph.Graph.{Graph}
use Rattle.graph_tasks.specs.Frames.{HaveBags}
use Rattle.graph_tasks.specs.Runs.{RunsAt}
use Rattle.graph_parts.specs.Files.{WereTold}
use Rattle.graph_parts.specs.Plans.{moment_answers, moment_plan}
use Rattle.graph_tasks.proofs.Readied.{tasks_are_ready}
use Rattle.graph_tasks.proofs.Starts.{tasks_start}
use Rattle.graph_core.specs.LinkedOnce.{AreOnce}
use Rattle.graph_core.proofs.LinkedOnce.{linked_once}
use Rattle.gst_outside.specs.Seen.{Seen}
use Rattle.gst_outside.specs.declared.sink.Sink as sinks
use Rattle.gst_outside.specs.declared.source.Source as sources
use Rattle.lane_core.specs.Lane.{Lane}
use Rattle.lane_core.specs.declared.ends.Inlet as inlets
use Rattle.lane_core.specs.declared.ends.Outlet as outlets
use Rattle.flow_model.specs.Opening.{opening}
use Rattle.net_task.specs.declared.task.Task.{Task}
use Rattle.net_turns.specs.Net.{NetReady, NetStands}
use Rattle.run_files.specs.declared.end.End.{End}
use Rattle.task_elements.specs.declared.element.StreamElement.{StreamElement}
use Rattle.task_elements.specs.declared.source.StreamSource.{StreamSource}
use Rattle.world_core.specs.Start.{IsStarted}
use Rattle.world_core.proofs.AtHand.{MakesStreams}
use Rattle.graph_tasks.proofs.Bagged.{tasks_have}
use Rattle.world_core.proofs.Standing.{elements_stand, sources_stand}

module _ {S K I O L : Type 0} {giver : givers.Ghosts (StreamSource S)} {taker : elements.Ghosts (StreamElement K)}
    {i : inlets.Ghosts I L O} {o : outlets.Ghosts O L}
    (s : sources.Ghosts S) (k : sinks.Ghosts K) (graph : Graph) (first : List (Task (StreamSource S) (StreamElement K) I O L giver taker i o))
    (rest : List (Option (StreamElement K))) (left : List (Option (End S K))) (tells : Option (List Lane)) (before : Seen)
    (started : IsStarted s k graph first rest left tells before) where
  -- each pad of the graph is linked once
  pub started_once : AreOnce (links_in graph)
  started_once = linked_once started.tree graph started.is

  pub started_ready : NetReady first tells
  started_ready =
      subst (λ (t : Option (List Lane)). NetReady first t) (sym started.told)
      (tasks_are_ready giver taker i o graph started.bags started.elements_in started.sources_in first started.table started.sound started_once started.bags_are.are
      started.tasks_are)

  -- there is a task for each bag
  pub started_bags : HaveBags (made_in graph) (links_in graph) started.bags first
  started_bags = tasks_have i o (made_in graph) (links_in graph) started.elements_in started.sources_in started.bags first started.table started.tasks_are

  module _ (are : MakesStreams s k giver taker) (contents : ℕ → List ℕ) (were : WereTold (made_in graph) before contents) where
    started_net : NetStands (opening (moment_plan contents graph) (moment_answers graph)) first (Some started.table)
    started_net =
        tasks_start giver taker i o contents graph started.bags started.elements_in started.sources_in first started.table started.sound started_once
        started.bags_are.are started.tasks_are
        (elements_stand s k are graph started.ends before started.opened started.opens started.elements_in started.sources_in left started.filled contents)
        (sources_stand s k are graph started.ends before started.opened started.opens started.elements_in started.sources_in left started.filled contents were)

    pub started_at : RunsAt contents graph started.bags (opening (moment_plan contents graph) (moment_answers graph)) first tells
    started_at = record {
      sound = started.sound;
      once = started_once;
      bags_are = started.bags_are;
      have = started_bags;
      plan = refl;
      answers = refl;
      net = subst (λ (t : Option (List Lane)). NetStands (opening (moment_plan contents graph) (moment_answers graph)) first t) (sym started.told) started_net;
    }
