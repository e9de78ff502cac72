-- Where the run of a graph begins its tasks stand.
use Rattle.std.proofs.Common.{◌≡◌, ◌++◌, ℕ, Bool, true, false, List, [], Option, Some, refl, sym, ap, ◌∙◌, subst, arith}
use Rattle.std.specs.Prelude.{slice_get}
use Rattle.std.proofs.lemmas.List.{length-map}
use Rattle.std.proofs.lemmas.Option.{slice_get_within}
use Rattle.flow_model.specs.Call.{feeds}
use Rattle.flow_model.specs.Item.{Item}
use Rattle.lane_core.specs.Lane.{Lane}
use Rattle.lane_core.specs.declared.ends.Inlet as inlets
use Rattle.lane_core.specs.declared.ends.Outlet as outlets
use Rattle.flow_model.specs.declared.element.TaskElement as elements
use Rattle.flow_model.specs.declared.source.TaskSource as sources
use Rattle.graph_core.specs.Graph.{made as made_in, links as links_in}
use Rattle.graph_core.specs.declared.graph.Graph.{Graph}
use Rattle.graph_core.specs.GraphPlan.{pad_id, sink_at as place_at}
use Rattle.el_settings.specs.Asked.{is_source}
use Rattle.graph_parts.specs.declared.bag.Bag.{Bag}
use Rattle.graph_parts.specs.Pads.{pad_owner}
use Rattle.graph_parts.specs.Plans.{moment_plan}
use Rattle.graph_parts.proofs.Rules.{moment_stands, moment_starts, owes_none_behind, sections_are_one, sources_wait}
use Rattle.inlet_row.specs.declared.feeding.Feeding.{Feeding}
use Rattle.inlet_row.specs.declared.row.InletRow.{InletRow}
use Rattle.inlet_row.specs.Row.{GaveInAll, GaveOf, RowBetween, held, items_of, row_holds}
use Rattle.net_task.specs.declared.task.Task.{Task}
use Rattle.net_turns.specs.Net.{HasRow, IsPlain, ListAt, NetStands, Owns, RowStands}
use Rattle.graph_tasks.specs.Tasks.{IsRowOf}
use Rattle.graph_tasks.specs.Start.{TasksStart}
use Rattle.graph_tasks.proofs.Lists.{all_empty, list_none, none_behind, none_taken}
use Rattle.graph_tasks.proofs.Graphs.{gives_none, source_head}
use Rattle.graph_tasks.proofs.Pads.{start}
use Rattle.graph_tasks.proofs.Given.{IsBegun}
use Rattle.graph_tasks.proofs.Tied.{sinks_count, tied}
use Rattle.graph_tasks.proofs.Readies.{for_table, lane_empty}
use Rattle.graph_tasks.proofs.Heads.{fed_rows, source_owned}
use Rattle.graph_tasks.proofs.Readied.{net_ready}
use Rattle.graph_core.specs.Elements.{has}

-- nothing was done to the graph but links
is_plain : (contents : ℕ → List ℕ) (graph : Graph) → IsPlain (moment_plan contents graph)
is_plain contents graph =
    record {
      uncut = (moment_starts contents graph).uncut;
      calm = λ n port took. sections_are_one contents graph n took port 0;
      closed = owes_none_behind contents graph;
    }

module _ {S E I O L : Type 0} {s : sources.Ghosts S} {e : elements.Ghosts E} {i : inlets.Ghosts I L O} {o : outlets.Ghosts O L}
    {contents : ℕ → List ℕ} {graph : Graph} {bags : List Bag} {ends : List (Option E)} {files : List (Option S)} {tasks : List (Task S E I O L s e i o)} {table : List Lane}
    (g : IsBegun i o contents graph bags ends files tasks table) where
  -- a row gave nothing, and its lane holds nothing
  row_between : (n port : ℕ) (row : InletRow I) → IsRowOf i (made_in graph) (links_in graph) n port row → RowBetween i (Some table) (λ place. []) row []
  row_between n port row (IsRowOf.unlinked none feeds) =
      subst (λ (fs : List (Feeding I)). GaveInAll (GaveOf i (Some table) (λ place. [])) fs []) (sym feeds) (record { past = []; lane = []; whole = refl; front = refl; behind = tt })
  row_between n port row (IsRowOf.linked inlet has_it feeds place received) =
      let lane = lane_empty g.known (pad_id (place_at n port)) has_it in
      subst (λ (fs : List (Feeding I)). GaveInAll (GaveOf i (Some table) (λ place. [])) fs []) (sym feeds)
      (record {
        past = [];
        lane = [];
        whole = refl;
        front = (
          received,
          omega arith,
          for_table (λ t. (found : Lane) × (slice_get t (i.place inlet) ≡ Some found) × (◌≡◌ {A = List Item} [] ([] ++ found.items))) (lane.lane, ap (slice_get table) place ∙ lane.at, sym lane.empty),
        );
        behind = tt;
      })

  row_empty : (n port : ℕ) (row : InletRow I) → IsRowOf i (made_in graph) (links_in graph) n port row → row_holds i table row ≡ []
  row_empty n port row (IsRowOf.unlinked none feeds) = ap (held i table) feeds
  row_empty n port row (IsRowOf.linked inlet has_it feeds place received) =
      let lane = lane_empty g.known (pad_id (place_at n port)) has_it in
      ap (held i table) feeds ∙ ap (λ (found : Option Lane). items_of found ++ []) (ap (slice_get table) place ∙ lane.at) ∙ ap (λ (xs : List Item). xs ++ []) lane.empty

  row_stands : (k n port : ℕ) (row : InletRow I) → HasRow tasks k n port row → RowStands i table (λ place. []) (start contents graph) n port row
  row_stands k n port row x =
      let rows = fed_rows g.known k x.head x.fed in
      let is = rows.rows port row x.at in
      let w = slice_get_within x.head.rows.items port row x.at in
      let count = rows.count in
      let size = sinks_count contents graph x.head.number in
      let none = subst (λ (m : ℕ). ListAt port ((start contents graph).took m) []) x.number (list_none port ((moment_plan contents graph).sinks x.head.number) (omega (arith, w, count, size))) in
      record {
        got = [];
        took = none;
        between = row_between x.head.number port row is;
        holds = subst (λ (xs : List Item). ListAt port ((start contents graph).held n) (feeds xs)) (sym (row_empty x.head.number port row is)) none;
      }

  -- what waits at a pad waits at one of a task
  loose : (p : ℕ) → ((k : ℕ) → Owns tasks k ((moment_plan contents graph).owner p) → ⊥) → (start contents graph).waits p ≡ []
  loose p none = go (has is_source (made_in graph) (pad_owner (made_in graph) p)) refl
    where
      go : (b : Bool) → has is_source (made_in graph) (pad_owner (made_in graph) p) ≡ b → (start contents graph).waits p ≡ []
      go true is = let t = source_owned g.known (pad_owner (made_in graph) p) (source_head (made_in graph) (pad_owner (made_in graph) p) is) is in absurd (none t.0 t.1)
      go false is = sources_wait contents graph p ∙ gives_none (made_in graph) (pad_owner (made_in graph) p) (contents (pad_owner (made_in graph) p)) is

  net_stands : NetStands (start contents graph) tasks (Some table)
  net_stands = let net = net_ready g.known in record {
    plain = is_plain contents graph;
    tied = tied g;
    ready = net.ready;
    wired = net.wired;
    cells = moment_stands contents graph;
    first = λ n. (none_taken ((moment_plan contents graph).sinks n), none_taken ((moment_plan contents graph).sinks n));
    table = table;
    told = refl;
    sents = λ place. [];
    sent = λ k p place from n port x. sym (none_behind from [] refl);
    rows = row_stands;
    each = λ k head fed. length-map ((moment_plan contents graph).sinks head.number) (λ spans. []) ∙ sinks_count contents graph head.number ∙ sym (fed_rows g.known k head fed).count;
    others = λ n other. all_empty ((moment_plan contents graph).sinks n);
    loose = loose;
  }

pub tasks_start : {S E I O L : Type 0} (s : sources.Ghosts S) (e : elements.Ghosts E) (i : inlets.Ghosts I L O) (o : outlets.Ghosts O L) → TasksStart s e i o
tasks_start s e i o contents graph bags ends files tasks table sound once are made_of stood gave =
    net_stands (record { known = record { sound = sound; once = once; are = are; made_of = made_of }; stood = stood; gave = gave })
