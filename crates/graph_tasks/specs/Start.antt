-- Where the run of a graph begins its tasks stand.
use Rattle.std.specs.Prelude.{◌≡◌, ℕ, true, false, List, [], Option, Some, slice_get}
use Rattle.lane_core.specs.Lane.{Lane}
use Rattle.lane_core.specs.declared.ends.Inlet as inlets
use Rattle.lane_core.specs.declared.ends.Outlet as outlets
use Rattle.flow_model.specs.Moment.{behavior_at}
use Rattle.flow_model.specs.Opening.{opening}
use Rattle.flow_model.specs.declared.element.TaskElement as elements
use Rattle.flow_model.specs.declared.source.TaskSource as sources
use Rattle.graph_core.specs.Graph.{IsSound, made as made_in, links as links_in}
use Rattle.graph_core.specs.declared.graph.Graph.{Graph}
use Rattle.graph_core.specs.LinkedOnce.{AreOnce}
use Rattle.graph_parts.specs.Plans.{moment_plan, moment_answers}
use Rattle.graph_parts.specs.MomentLaws.{given_by}
use Rattle.graph_parts.specs.Bags.{AreBags}
use Rattle.el_settings.specs.Asked.{is_source}
use Rattle.graph_parts.specs.declared.bag.Bag.{Bag}
use Rattle.net_task.specs.declared.task.Task.{Task}
use Rattle.net_turns.specs.Net.{NetStands}
use Rattle.graph_tasks.specs.Tasks.{AreTasks, IsOf}
use Rattle.graph_core.specs.Elements.{has}

-- each element that is no source stands for what it does where a run begins, and took nothing
abbrev pub ElementsStand : {E : Type 0} → elements.Ghosts E → (ℕ → List ℕ) → Graph → List (Option E) → Type 0
ElementsStand {E = E} e contents graph ends = (n : ℕ) (element : E) → has is_source (made_in graph) n ≡ false → IsOf ends n element
    → let m = opening (moment_plan contents graph) (moment_answers graph) in e.stands element (behavior_at m n) (m.took n)

-- each source owes its list, and gave nothing
abbrev pub SourcesStand : {S : Type 0} → sources.Ghosts S → (ℕ → List ℕ) → Graph → List (Option S) → Type 0
SourcesStand {S = S} s contents graph files = (n : ℕ) (source : S) → has is_source (made_in graph) n ≡ true → IsOf files n source
    → s.gave source (given_by (slice_get (made_in graph) n) n (contents n)) []

-- Tasks of a graph, with elements and sources that stand so, stand where its run begins.
abbrev pub TasksStart : {S E I O L : Type 0} (s : sources.Ghosts S) (e : elements.Ghosts E) (i : inlets.Ghosts I L O) (o : outlets.Ghosts O L) → Type 0
TasksStart {S = S} {E = E} {I = I} {O = O} {L = L} s e i o =
    (contents : ℕ → List ℕ) (graph : Graph) (bags : List Bag) (ends : List (Option E)) (files : List (Option S)) (tasks : List (Task S E I O L s e i o)) (table : List Lane)
    → IsSound graph → AreOnce (links_in graph) → AreBags (made_in graph) (links_in graph) bags
    → AreTasks i o (made_in graph) (links_in graph) ends files bags tasks table → ElementsStand e contents graph ends → SourcesStand s contents graph files
    → NetStands (opening (moment_plan contents graph) (moment_answers graph)) tasks (Some table)
