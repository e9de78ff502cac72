-- Tasks of which a row may have more room than it had are those of the run still, and control has that.
use Rattle.std.proofs.Common.{◌≡◌, ◌⊎◌, ℕ, false, List, [], Option, Some, append-nil, sym, ap, ◌∙◌, subst, inl, inr}
use Rattle.std.specs.Prelude.{slice_get}
use Rattle.lane_core.specs.Lane.{Lane}
use Rattle.lane_core.specs.declared.ends.Inlet as inlets
use Rattle.lane_core.specs.declared.ends.Outlet as outlets
use Rattle.flow_model.specs.Moment.{Moment}
use Rattle.flow_model.specs.declared.element.TaskElement as elements
use Rattle.flow_model.specs.declared.source.TaskSource as sources
use Rattle.inlet_row.specs.Row.{feeds_of}
use Rattle.inlet_row.specs.declared.row.InletRow.{InletRow}
use Rattle.task_parts.specs.declared.head.InletHead.{InletHead}
use Rattle.task_parts.proofs.Lists.{each_set}
use Rattle.gst_value.proofs.Places.{set_at}
use Rattle.net_task.specs.declared.task.Task.{Task}
use Rattle.net_task.specs.Frame.{IsWire, TaskFrame}
use Rattle.net_turns.specs.Net.{HasElement, HasRow, IsFed, NetStands}
use Rattle.net_edits.specs.Over.{AreKept, IsGrownAt}
use Rattle.net_groups.proofs.Regrouped.{fed_same}
use Rattle.graph_edits.specs.declared.graph.EditedGraph.{EditedGraph}
use Rattle.graph_edits.specs.Edited.{Edited}
use Rattle.graph_edits.specs.Refused.{has_lanes}
use Rattle.edit_core.specs.Tasks.{AreTasksOf, IsReachedIn}
use Rattle.edit_core.specs.Ways.{IsRun}
use Rattle.edit_core.specs.declared.feeds.Feeds.{Feeds}
use Rattle.edit_acts.specs.Controlled.{IsControlled}
use Rattle.edit_acts.proofs.Asleep.{bare_of}
use Rattle.edit_acts.proofs.Grown.{From, fed_on, from, to}
use Rattle.edit_acts.proofs.Owned.{fresh}

module _ {S E I O L : Type 0} {s : sources.Ghosts S} {e : elements.Ghosts E} {i : inlets.Ghosts I L O} {o : outlets.Ghosts O L} where
  module _ (g : Edited) (tasks tasks' : List (Task S E I O L s e i o)) (are : AreTasksOf g tasks) (receiver port : ℕ) (z : IsGrownAt tasks tasks' receiver port []) where
    -- the head whose row has more room is fed as it was
    is_fed : IsFed tasks' receiver z.grew.new
    is_fed = record { task = z.is; at = ap (λ (ts : List (Task S E I O L s e i o)). slice_get ts receiver) z.set ∙ set_at tasks receiver z.was z.is z.at; head_is = z.grew.fed }

    module _ (n : ℕ) (none : has_lanes g n ≡ false) where
      old_bare : z.grew.old.number ≡ n → (p : ℕ) (row : InletRow I) → slice_get z.grew.old.rows.items p ≡ Some row → feeds_of row ≡ []
      old_bare number p row at = are.bare receiver n p row (record { head = z.grew.old; fed = record { task = z.was; at = z.at; head_is = z.grew.was_fed }; number = number; at = at }) none

      new_bare : z.grew.new.number ≡ n → (p : ℕ) (row : InletRow I) → slice_get z.grew.new.rows.items p ≡ Some row → feeds_of row ≡ []
      new_bare number =
          let was : z.grew.old.number ≡ n = sym z.grew.grew.number ∙ number in
          each_set z.grew.old.rows.items z.grew.new.rows.items port z.grew.grew.grown (λ p row. feeds_of row ≡ []) (λ p row. feeds_of row ≡ []) z.grew.grew.set (old_bare was) (λ p row other at bare. bare)
          (z.grew.grew.feeds ∙ append-nil (feeds_of z.grew.grew.row) ∙ old_bare was port z.grew.grew.row z.grew.grew.at)

      bare : (k p : ℕ) (row : InletRow I) → HasRow tasks' k n p row → feeds_of row ≡ []
      bare k p row w = go (from tasks tasks' receiver port [] z k w.fed.task w.fed.at)
        where
          go : From tasks tasks' receiver port [] z k w.fed.task → feeds_of row ≡ []
          go y = by y.which
            where
              by : (w.fed.task ≡ y.was) ⊎ (k ≡ receiver) → feeds_of row ≡ []
              by (inl same) =
                  are.bare k n p row (record { head = w.head; fed = record { task = y.was; at = y.at; head_is = ap (λ (t : Task S E I O L s e i o). t.head) (sym same) ∙ w.fed.head_is }; number = w.number; at = w.at }) none
              by (inr same) =
                  let head : w.head ≡ z.grew.new = fed_same tasks' k receiver w.head z.grew.new w.fed is_fed same in
                  new_bare (ap (λ (h : InletHead I). h.number) (sym head) ∙ w.number) p row (ap (λ (h : InletHead I). slice_get h.rows.items p) (sym head) ∙ w.at)

    grown_are : AreTasksOf g tasks'
    grown_are = record {
      there = λ k n own.
          let y = from tasks tasks' receiver port [] z k own.task own.at in
          are.there k n (record { task = y.was; at = y.at; has = subst (λ (t : TaskFrame). HasElement t n) y.frame own.has });
      awake = λ k n own.
          let y = from tasks tasks' receiver port [] z k own.task own.at in
          are.awake k n (record { task = y.was; at = y.at; has = subst (λ (t : TaskFrame). HasElement t n) y.frame own.has });
      owned = λ n there awake.
          let own = are.owned n there awake in
          let y = to tasks tasks' receiver port [] z own.0 own.1.task own.1.at in
          (own.0, record { task = y.is; at = y.at; has = subst (λ (t : TaskFrame). HasElement t n) (sym y.frame) own.1.has });
      fed = λ n there lanes.
          let f = are.fed n there lanes in
          let y = fed_on tasks tasks' receiver port [] z f.0 n (record { head = f.1; fed = f.2; number = f.3 }) in
          (f.0, y.head, y.fed, y.number);
      inner = λ k task wire n p at is leads.
          let y = from tasks tasks' receiver port [] z k task at in
          are.inner k y.was wire n p y.at (subst (λ (t : TaskFrame). IsWire t wire) y.frame is) leads;
      lanes = λ k task wire lane n p start at is leads.
          let y = from tasks tasks' receiver port [] z k task at in
          are.lanes k y.was wire lane n p start y.at (subst (λ (t : TaskFrame). IsWire t wire) y.frame is) leads;
      sources = λ k task n file wire at head.
          let y = from tasks tasks' receiver port [] z k task at in
          are.sources k y.was n file wire y.at (ap (λ (t : TaskFrame). t.head) (sym y.frame) ∙ head);
      bare = λ k n p row has none. bare n none k p row has;
      reached = λ k task n at has.
          let y = from tasks tasks' receiver port [] z k task at in
          subst (λ (t : TaskFrame). IsReachedIn t n) (sym y.frame) (are.reached k y.was n y.at (subst (λ (t : TaskFrame). HasElement t n) y.frame has));
    }

  kept_are : (g : Edited) (tasks tasks' : List (Task S E I O L s e i o)) → AreTasksOf g tasks → AreKept tasks tasks' → AreTasksOf g tasks'
  kept_are g tasks tasks' are (inl same) = subst (λ (ts : List (Task S E I O L s e i o)). AreTasksOf g ts) (sym same) are
  kept_are g tasks tasks' are (inr z) = grown_are g tasks tasks' are z.0 z.1 z.2

  -- where they stand as they did control has the run as it was
  pub stays_controlled : (graph : EditedGraph) (feeds : Feeds) (tasks tasks' : List (Task S E I O L s e i o)) (g : Edited) (m : Moment) (tells : Option (List Lane)) → AreKept tasks tasks' → NetStands m tasks' tells
      → IsControlled graph feeds tasks g m tells → IsControlled graph feeds tasks' g m tells
  stays_controlled graph feeds tasks tasks' g m tells kept stands w = record {
    current = record {
      edited = w.current.edited;
      feeds_are = w.current.feeds_are;
      net = stands;
      fresh = fresh g m tasks' tells run w.pads (bare_of graph feeds tasks g m tells w);
      kept = w.current.kept;
      stand = w.current.stand;
      made = w.current.made;
      ends = w.current.ends;
      named = w.current.named;
    };
    run = run;
    pads = w.pads;
    sinks = w.sinks;
  }
    where
      run : IsRun g m tasks' tells
      run = record {
        net = stands;
        are = kept_are g tasks tasks' w.run.are kept;
        sinks = w.run.sinks;
        owners = w.run.owners;
        kept = w.run.kept;
        links = w.run.links;
        made = w.run.made;
        unmarked = w.run.unmarked;
      }
