-- A row of a task has room for more now: control has the run as it was.
use Rattle.std.proofs.Common.{◌≡◌, ◌≢◌, ◌⊎◌, ℕ, List, [], Option, Some, append-nil, refl, sym, ap, ◌∙◌, subst, inl, inr, true, false}
use Rattle.std.specs.Prelude.{slice_get}
use Rattle.inlet_row.specs.Row.{ForLanes, feeds_of}
use Rattle.inlet_row.specs.declared.feeding.Feeding.{Feeding}
use Rattle.inlet_row.specs.declared.row.InletRow.{InletRow}
use Rattle.lane_core.specs.Lane.{Lane}
use Rattle.lane_core.specs.declared.ends.Inlet as inlets
use Rattle.lane_core.specs.declared.ends.Outlet as outlets
use Rattle.flow_model.specs.Moment.{Moment}
use Rattle.flow_model.specs.declared.element.TaskElement as elements
use Rattle.flow_model.specs.declared.source.TaskSource as sources
use Rattle.task_parts.specs.declared.head.Head.{Head}
use Rattle.task_parts.specs.declared.head.Head.TheVariants.{Source, Inlets}
use Rattle.task_parts.specs.declared.head.InletHead.{InletHead}
use Rattle.task_edits.specs.Leads.{NoInlet}
use Rattle.net_task.specs.declared.task.Task.{Task}
use Rattle.net_task.specs.Frame.{IsWire, TaskFrame}
use Rattle.net_turns.specs.Net.{HasElement, HasRow, IsFed, NetStands}
use Rattle.net_edits.specs.Over.{AreKept, IsGrownAt, IsNewLane, NoneIsOf}
use Rattle.net_edits.specs.declared.over.NewLink.{NewLink}
use Rattle.net_edits.proofs.NetGrown.{RowBack, fed_forth, fed_now, owns_back, owns_forth, row_back, row_before, rows_unused, task_back}
use Rattle.graph_edits.specs.declared.graph.EditedGraph.{EditedGraph}
use Rattle.graph_edits.specs.Edited.{Edited, is_there}
use Rattle.graph_edits.specs.Refused.{has_lanes}
use Rattle.edit_core.specs.Tasks.{AreTasksOf, IsReachedIn}
use Rattle.edit_core.specs.Ways.{IsRun}
use Rattle.edit_core.specs.declared.feeds.Feeds.{Feeds}
use Rattle.edit_acts.specs.Controlled.{IsControlled}
use Rattle.edit_acts.proofs.Asleep.{bare_of}
use Rattle.edit_acts.proofs.Owned.{fresh}

module _ {S E I O L : Type 0} {s : sources.Ghosts S} {e : elements.Ghosts E} {i : inlets.Ghosts I L O} {o : outlets.Ghosts O L} where
  module _ (tasks tasks' : List (Task S E I O L s e i o)) (place port : ℕ) (z : IsGrownAt tasks tasks' place port []) where
    same_feeds : feeds_of z.grew.grew.grown ≡ feeds_of z.grew.grew.row
    same_feeds = z.grew.grew.feeds ∙ append-nil (feeds_of z.grew.grew.row)

    grown_are : (g : Edited) → AreTasksOf g tasks → AreTasksOf g tasks'
    grown_are g are = record {
      there = λ k n own. are.there k n (owns_back tasks tasks' place port [] z k n own);
      owned = λ n there awake. let y = are.owned n there awake in (y.0, owns_forth tasks tasks' place port [] z y.0 n y.1);
      awake = λ k n own. are.awake k n (owns_back tasks tasks' place port [] z k n own);
      fed = fed;
      inner = λ k task wire n port' at is leads. let w = task_back tasks tasks' place port [] z k task at in are.inner k w.0 wire n port' w.1 (subst (λ (f : TaskFrame). IsWire f wire) (sym w.2) is) leads;
      lanes = λ k task wire lane n port' from at is leads. let w = task_back tasks tasks' place port [] z k task at in are.lanes k w.0 wire lane n port' from w.1 (subst (λ (f : TaskFrame). IsWire f wire) (sym w.2) is) leads;
      sources = λ k task n file wire at head. let w = task_back tasks tasks' place port [] z k task at in are.sources k w.0 n file wire w.1 (ap (λ (f : TaskFrame). f.head) w.2 ∙ head);
      bare = bare;
      reached = λ k task n at own.
          let w = task_back tasks tasks' place port [] z k task at in
          subst (λ (f : TaskFrame). IsReachedIn f n) w.2 (are.reached k w.0 n w.1 (subst (λ (f : TaskFrame). HasElement f n) (sym w.2) own));
    }
      where
        fed : (n : ℕ) → is_there g n ≡ true → has_lanes g n ≡ true → (k : ℕ) × (head : InletHead I) × IsFed tasks' k head × (head.number ≡ n)
        fed n there lanes = let y = are.fed n there lanes in go y.0 y.1 y.3 (fed_forth tasks tasks' place port [] z y.0 y.1 y.2)
          where
            go : (k : ℕ) (head : InletHead I) → head.number ≡ n → ((k ≡ place) × (head ≡ z.grew.old)) ⊎ ((k ≡ place → ⊥) × IsFed tasks' k head) → (k : ℕ) × (head : InletHead I) × IsFed tasks' k head × (head.number ≡ n)
            go k head number (inl y) = (place, z.grew.new, fed_now tasks tasks' place port [] z, z.grew.grew.number ∙ (ap (λ (h : InletHead I). h.number) (sym y.1) ∙ number))
            go k head number (inr y) = (k, head, y.1, number)

        bare : (k n p : ℕ) (row : InletRow I) → HasRow tasks' k n p row → has_lanes g n ≡ false → feeds_of row ≡ []
        bare k n p row has none = go (row_back tasks tasks' place port [] z k n p row has)
          where
            go : RowBack tasks tasks' place port [] z k n p row → feeds_of row ≡ []
            go (RowBack.grown_row a number b same) =
                ap (λ (r : InletRow I). feeds_of r) same ∙ same_feeds
                ∙ are.bare place z.grew.old.number port z.grew.grew.row (row_before tasks tasks' place port [] z) (subst (λ (a : ℕ). has_lanes g a ≡ false) number none)
            go (RowBack.other_row unlike before) = are.bare k n p row before none

    -- no task has a lane that none had
    grown_none : (at : ℕ) → NoneIsOf tasks at → NoneIsOf tasks' at
    grown_none at none = record {
      no_pad = λ k task wire there is into. let w = task_back tasks tasks' place port [] z k task there in none.no_pad k w.0 wire w.1 (subst (λ (f : TaskFrame). IsWire f wire) (sym w.2) is) into;
      no_row = λ k task there. by k task there task.head refl;
    }
      where
        free : (k n p : ℕ) (row : InletRow I) → RowBack tasks tasks' place port [] z k n p row → ForLanes (λ inlet. at ≢ i.place inlet) (feeds_of row)
        free k n p row (RowBack.grown_row a number b same) =
            subst (λ (feeds : List (Feeding I)). ForLanes (λ inlet. at ≢ i.place inlet) feeds) (sym (ap (λ (r : InletRow I). feeds_of r) same ∙ same_feeds))
            (rows_unused tasks at none place z.grew.old.number port z.grew.grew.row (row_before tasks tasks' place port [] z))
        free k n p row (RowBack.other_row unlike before) = rows_unused tasks at none k n p row before

        by : (k : ℕ) (task : Task S E I O L s e i o) → slice_get tasks' k ≡ Some task → (head : Head S I O s) → task.head ≡ head → NoInlet i task.head at
        by k task there (Source head) is = subst (λ (h : Head S I O s). NoInlet i h at) (sym is) tt
        by k task there (Inlets head) is = subst (λ (h : Head S I O s). NoInlet i h at) (sym is)
            (λ p row row_at. free k head.number p row (row_back tasks tasks' place port [] z k head.number p row (record { head = head; fed = record { task = task; at = there; head_is = is }; number = refl; at = row_at })))

  kept_none : (tasks tasks' : List (Task S E I O L s e i o)) → AreKept tasks tasks' → (at : ℕ) → NoneIsOf tasks at → NoneIsOf tasks' at
  kept_none tasks tasks' (inl same) at none = subst (λ (ts : List (Task S E I O L s e i o)). NoneIsOf ts at) (sym same) none
  kept_none tasks tasks' (inr (place, port, z)) at none = grown_none tasks tasks' place port z at none

  -- a lane that is new stays so
  pub new_among : (tasks tasks' : List (Task S E I O L s e i o)) (tells : Option (List Lane)) (to : NewLink I O) → ((at : ℕ) → NoneIsOf tasks at → NoneIsOf tasks' at) → IsNewLane tells tasks to → IsNewLane tells tasks' to
  new_among tasks tasks' tells to stay new = record { one_place = new.one_place; of_table = new.of_table; empty = new.empty; unsent = new.unsent; unreceived = new.unreceived; unused = stay (o.place to.outlet) new.unused }

  pub kept_new : (tasks tasks' : List (Task S E I O L s e i o)) → AreKept tasks tasks' → (tells : Option (List Lane)) (to : NewLink I O) → IsNewLane tells tasks to → IsNewLane tells tasks' to
  kept_new tasks tasks' kept tells to new = new_among tasks tasks' tells to (kept_none tasks tasks' kept) new

  kept_are : (g : Edited) (tasks tasks' : List (Task S E I O L s e i o)) → AreKept tasks tasks' → AreTasksOf g tasks → AreTasksOf g tasks'
  kept_are g tasks tasks' (inl same) are = subst (λ (ts : List (Task S E I O L s e i o)). AreTasksOf g ts) (sym same) are
  kept_are g tasks tasks' (inr (place, port, z)) are = grown_are tasks tasks' place port z g are

  kept_run : (g : Edited) (m : Moment) (tasks tasks' : List (Task S E I O L s e i o)) (tells : Option (List Lane)) → AreKept tasks tasks' → NetStands m tasks' tells → IsRun g m tasks tells → IsRun g m tasks' tells
  kept_run g m tasks tasks' tells kept net run = record {
    net = net;
    are = kept_are g tasks tasks' kept run.are;
    sinks = run.sinks;
    owners = run.owners;
    kept = run.kept;
    links = run.links;
    made = run.made;
    unmarked = run.unmarked;
  }

  -- Control has the run.
  pub kept_controlled : (graph : EditedGraph) (feeds : Feeds) (tasks tasks' : List (Task S E I O L s e i o)) (g : Edited) (m : Moment) (tells : Option (List Lane)) → AreKept tasks tasks' → NetStands m tasks' tells
      → IsControlled graph feeds tasks g m tells → IsControlled graph feeds tasks' g m tells
  kept_controlled graph feeds tasks tasks' g m tells kept net w =
      let run = kept_run g m tasks tasks' tells kept net w.run in
      record {
        current = record {
          edited = w.current.edited;
          feeds_are = w.current.feeds_are;
          net = net;
          fresh = fresh g m tasks' tells run w.pads (bare_of graph feeds tasks g m tells w);
          kept = w.current.kept;
          stand = w.current.stand;
          made = w.current.made;
          ends = w.current.ends;
          named = w.current.named;
        };
        run = run;
        pads = w.pads;
        sinks = w.sinks;
      }
