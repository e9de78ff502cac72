-- All that stands of a net but its elements and what was done to its graph.
use Rattle.std.proofs.Common.{◌≡◌, ◌≢◌, ℕ, List, [], drop, length, Option, Some}
use Rattle.std.specs.Prelude.{slice_get}
use Rattle.flow_model.specs.Item.{Item}
use Rattle.flow_model.specs.SinkPads.{InSection}
use Rattle.lane_core.specs.Lane.{Lane}
use Rattle.lane_core.specs.declared.ends.Inlet as inlets
use Rattle.lane_core.specs.declared.ends.Outlet as outlets
use Rattle.inlet_row.specs.declared.row.InletRow.{InletRow}
use Rattle.flow_model.specs.Moment.{CellStands, Moment}
use Rattle.flow_model.specs.Split.{AreEmpty}
use Rattle.flow_model.specs.declared.element.TaskElement as elements
use Rattle.flow_model.specs.declared.source.TaskSource as sources
use Rattle.task_parts.specs.declared.head.InletHead.{InletHead}
use Rattle.net_task.specs.declared.task.Task.{Task}
use Rattle.net_task.specs.Ready.{IsReady}
use Rattle.net_task.specs.Ties.{Ties}
use Rattle.net_turns.specs.Net.{AreWired, HasRow, IsFed, IsPlain, NetStands, Owns, RowStands, SendsInto}

module _ {S E I O L : Type 0} {s : sources.Ghosts S} {e : elements.Ghosts E} {i : inlets.Ghosts I L O} {o : outlets.Ghosts O L} where
  pub record Laid (m : Moment) (tasks : List (Task S E I O L s e i o)) (tells : Option (List Lane)) (table : List Lane) (sents : ℕ → List Item) : Type 0 where
    pub tied : (k : ℕ) (task : Task S E I O L s e i o) → slice_get tasks k ≡ Some task → Ties task m
    pub ready : (k : ℕ) (task : Task S E I O L s e i o) → slice_get tasks k ≡ Some task → IsReady tells task
    pub wired : AreWired tasks
    pub first : (n : ℕ) → InSection 0 (m.took n) × InSection 0 (m.held n)
    pub told : tells ≡ Some table
    pub sent : (k p place from n port : ℕ) → SendsInto tasks k p place from n port → sents place ≡ drop from (m.history p)
    pub rows : (k n port : ℕ) (row : InletRow I) → HasRow tasks k n port row → RowStands i table sents m n port row
    pub each : (k : ℕ) (head : InletHead I) → IsFed tasks k head → length (m.held head.number) ≡ length head.rows.items
    pub others : (n : ℕ) → ((k : ℕ) (head : InletHead I) → IsFed tasks k head → head.number ≢ n) → AreEmpty (m.held n)
    pub loose : (p : ℕ) → ((k : ℕ) → Owns tasks k (m.plan.owner p) → ⊥) → m.waits p ≡ []

  pub laid_of : (m : Moment) (tasks : List (Task S E I O L s e i o)) (tells : Option (List Lane)) (n : NetStands m tasks tells) → Laid m tasks tells n.table n.sents
  laid_of m tasks tells n = record { tied = n.tied; ready = n.ready; wired = n.wired; first = n.first; told = n.told; sent = n.sent; rows = n.rows; each = n.each; others = n.others; loose = n.loose }

  -- where the elements stand too, and nothing was done to the graph but links, the net stands
  pub net_of : (m : Moment) (tasks : List (Task S E I O L s e i o)) (tells : Option (List Lane)) (table : List Lane) (sents : ℕ → List Item) → Laid m tasks tells table sents → IsPlain m.plan → ((n : ℕ) → CellStands m n) → NetStands m tasks tells
  net_of m tasks tells table sents laid plain cells = record {
    plain = plain;
    tied = laid.tied;
    ready = laid.ready;
    wired = laid.wired;
    cells = cells;
    first = laid.first;
    table = table;
    told = laid.told;
    sents = sents;
    sent = laid.sent;
    rows = laid.rows;
    each = laid.each;
    others = laid.others;
    loose = laid.loose;
  }
