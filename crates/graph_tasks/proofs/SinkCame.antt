-- A sink of a graph took all that came to it: it is no head, so nothing stands in an inlet of it.
use Rattle.std.proofs.Common.{◌≡◌, ℕ, zero, suc, List, [], ◌∷◌, map, sym, ap, ◌∙◌}
use Rattle.std.specs.Prelude.{slice_get}
use Rattle.std.specs.List.{range_with_len}
use Rattle.flow_model.specs.Call.{Call, feeds}
use Rattle.flow_model.specs.Item.{Item}
use Rattle.flow_model.specs.Rule.{only}
use Rattle.flow_model.specs.Moment.{Moment}
use Rattle.flow_model.specs.Split.{AreEmpty}
use Rattle.graph_core.specs.Graph.{IsSound, made as made_in, links as links_in}
use Rattle.graph_core.specs.Allowed.{first_pad}
use Rattle.graph_core.specs.GraphPlan.{sink_count, sink_at as place_at}
use Rattle.graph_core.specs.declared.graph.Graph.{Graph}
use Rattle.graph_tasks.specs.Owed.{came_to}
use Rattle.graph_tasks.specs.Runs.{RunStands, crossed_in}
use Rattle.graph_tasks.proofs.Awaited.{took_all}
use Rattle.graph_tasks.proofs.SinkFiles.{feeds_same}
use Rattle.gst_value.proofs.Places.{nil_cons}

-- where an element has one list, that is what came to its first sink pad
one_list : (f : ℕ → List Item) (count : ℕ) (calls : List Call) → map feeds (map f (range_with_len 0 count)) ≡ calls ∷ [] → feeds (f 0) ≡ calls
one_list f zero calls is = absurd (nil_cons is)
one_list f (suc n) calls is = ap only is

-- An element that has one list took all that came to it, where nothing stands in an inlet of it.
pub came_whole : (contents : ℕ → List ℕ) (graph : Graph) (m : Moment) → IsSound graph → RunStands contents graph m → (n : ℕ) → AreEmpty (m.held n)
    → (list : List Item) → m.took n ≡ feeds list ∷ [] → came_to (links_in graph) (crossed_in graph m) (first_pad n) ≡ list
came_whole contents graph m sound run n empty list took =
    feeds_same (came_to (links_in graph) (crossed_in graph m) (first_pad n)) list
    (one_list (λ j. came_to (links_in graph) (crossed_in graph m) (place_at n j)) (sink_count (slice_get (made_in graph) n)) (feeds list)
    (sym (took_all contents graph m sound run n empty) ∙ took))
