-- Tasks that are made of others have the elements of the graph as these have them, where their heads reach all of it.
use Rattle.std.proofs.Common.{◌≡◌, ◌⊎◌, ℕ, true, false, List, [], Option, Some, sym, ◌∙◌, inl, inr}
use Rattle.std.specs.Prelude.{slice_get}
use Rattle.lane_core.specs.declared.ends.Inlet as inlets
use Rattle.lane_core.specs.declared.ends.Outlet as outlets
use Rattle.flow_model.specs.declared.element.TaskElement as elements
use Rattle.flow_model.specs.declared.source.TaskSource as sources
use Rattle.inlet_row.specs.Row.{feeds_of}
use Rattle.inlet_row.specs.declared.row.InletRow.{InletRow}
use Rattle.task_pads.specs.Behind.{inside, nowhere, over}
use Rattle.net_task.specs.declared.task.Task.{Task}
use Rattle.net_task.specs.Frame.{TaskFrame, Wire, by_source, frame_of}
use Rattle.net_turns.specs.Net.{HasElement, HasRow, Owns}
use Rattle.net_groups.specs.Places.{FedAt, HasWire}
use Rattle.graph_edits.specs.Edited.{Edited, is_there}
use Rattle.graph_edits.specs.Refused.{has_lanes}
use Rattle.edit_core.specs.Tasks.{AreTasksOf, IsReachedIn}

not_over : (lane n port from : ℕ) → nowhere ≡ over lane n port from → ⊥
not_over lane n port from same = cc

-- a task is that of a source
pub record IsSource (frame : TaskFrame) (n : ℕ) : Type 0 where
  pub file : Option (Option (List ℕ))
  pub wire : Wire
  pub is : frame.head ≡ by_source n file wire

module _ {S E I O L : Type 0} {s : sources.Ghosts S} {e : elements.Ghosts E} {i : inlets.Ghosts I L O} {o : outlets.Ghosts O L} where
  -- the task at a place is that of a source
  pub record HasSource (tasks : List (Task S E I O L s e i o)) (k n : ℕ) : Type 0 where
    pub task : Task S E I O L s e i o
    pub at : slice_get tasks k ≡ Some task
    pub is : IsSource (frame_of task) n

  -- a row stood so in one of the tasks, or nothing stands in it, or a pad leads over a lane to its element
  pub data IsRowOf (tasks : List (Task S E I O L s e i o)) (n port : ℕ) (row : InletRow I) : Type 0 where
    of_old : (j : ℕ) → HasRow tasks j n port row → IsRowOf tasks n port row
    of_none : feeds_of row ≡ [] → IsRowOf tasks n port row
    of_lanes : (j lane to from : ℕ) (wire : Wire) → HasWire tasks j wire → wire.leads ≡ over lane n to from → IsRowOf tasks n port row

  -- Each element, head and row is of one of the tasks, and each pad leads as one of them did, or nowhere.
  pub record AreMadeOf (tasks tasks' : List (Task S E I O L s e i o)) : Type 0 where
    pub owns : (k n : ℕ) → Owns tasks' k n → (j : ℕ) × Owns tasks j n
    pub kept : (k n : ℕ) → Owns tasks k n → (j : ℕ) × Owns tasks' j n
    pub fed : (k n : ℕ) → FedAt tasks k n → (j : ℕ) × FedAt tasks' j n
    pub wires : (k : ℕ) (wire : Wire) → HasWire tasks' k wire → ((j : ℕ) × HasWire tasks j wire) ⊎ (wire.leads ≡ nowhere)
    pub sources : (k n : ℕ) → HasSource tasks' k n → (j : ℕ) × HasSource tasks j n
    pub rows : (k n port : ℕ) (row : InletRow I) → HasRow tasks' k n port row → IsRowOf tasks n port row

  -- the head of each task reaches all of it
  abbrev pub AllReached : List (Task S E I O L s e i o) → Type 0
  AllReached tasks = (k : ℕ) (task : Task S E I O L s e i o) (n : ℕ) → slice_get tasks k ≡ Some task → HasElement (frame_of task) n → IsReachedIn (frame_of task) n

  pub made_both : (one two three : List (Task S E I O L s e i o)) → AreMadeOf one two → AreMadeOf two three → AreMadeOf one three
  made_both one two three a b = record {
    owns = λ k n own. let y = b.owns k n own in a.owns y.0 n y.1;
    kept = λ k n own. let y = a.kept k n own in b.kept y.0 n y.1;
    fed = λ k n fed. let y = a.fed k n fed in b.fed y.0 n y.1;
    wires = λ k wire has. wires wire (b.wires k wire has);
    sources = λ k n has. let y = b.sources k n has in a.sources y.0 n y.1;
    rows = λ k n port row has. rows n port row (b.rows k n port row has);
  }
    where
      wires : (wire : Wire) → ((j : ℕ) × HasWire two j wire) ⊎ (wire.leads ≡ nowhere) → ((j : ℕ) × HasWire one j wire) ⊎ (wire.leads ≡ nowhere)
      wires wire (inl y) = a.wires y.0 wire y.1
      wires wire (inr none) = inr none

      rows : (n port : ℕ) (row : InletRow I) → IsRowOf two n port row → IsRowOf one n port row
      rows n port row (IsRowOf.of_old j has) = a.rows j n port row has
      rows n port row (IsRowOf.of_none none) = IsRowOf.of_none none
      rows n port row (IsRowOf.of_lanes j lane to from wire has leads) = go (a.wires j wire has)
        where
          go : ((x : ℕ) × HasWire one x wire) ⊎ (wire.leads ≡ nowhere) → IsRowOf one n port row
          go (inl y) = IsRowOf.of_lanes y.0 lane to from wire y.1 leads
          go (inr none) = absurd (not_over lane n to from (sym none ∙ leads))

  module _ (g : Edited) (tasks tasks' : List (Task S E I O L s e i o)) (made : AreMadeOf tasks tasks') (are : AreTasksOf g tasks) where
    inner : (wire : Wire) (n port : ℕ) → wire.leads ≡ inside n port → ((j : ℕ) × HasWire tasks j wire) ⊎ (wire.leads ≡ nowhere) → (is_there g n ≡ true) × (has_lanes g n ≡ false) × (port ≡ 0)
    inner wire n port leads (inl y) = are.inner y.0 y.1.task wire n port y.1.at y.1.is leads
    inner wire n port leads (inr none) = absurd (clash (sym none ∙ leads))
      where
        clash : nowhere ≡ inside n port → ⊥
        clash same = cc

    lanes : (wire : Wire) (lane n port from : ℕ) → wire.leads ≡ over lane n port from → ((j : ℕ) × HasWire tasks j wire) ⊎ (wire.leads ≡ nowhere) → (is_there g n ≡ true) × (has_lanes g n ≡ true)
    lanes wire lane n port from leads (inl y) = are.lanes y.0 y.1.task wire lane n port from y.1.at y.1.is leads
    lanes wire lane n port from leads (inr none) = absurd (not_over lane n port from (sym none ∙ leads))

    bare : (n port : ℕ) (row : InletRow I) → has_lanes g n ≡ false → IsRowOf tasks n port row → feeds_of row ≡ []
    bare n port row none (IsRowOf.of_old j has) = are.bare j n port row has none
    bare n port row none (IsRowOf.of_none is) = is
    bare n port row none (IsRowOf.of_lanes j lane to from wire has leads) = absurd (clash (sym (are.lanes j has.task wire lane n to from has.at has.is leads).1 ∙ none))
      where
        clash : true ≡ false → ⊥
        clash same = cc

    -- tasks made of those of a graph are its tasks, where their heads reach all of them
    pub are_again : AllReached tasks' → AreTasksOf g tasks'
    are_again reached = record {
      there = λ k n own. let y = made.owns k n own in are.there y.0 n y.1;
      awake = λ k n own. let y = made.owns k n own in are.awake y.0 n y.1;
      owned = λ n there awake. let y = are.owned n there awake in made.kept y.0 n y.1;
      fed = λ n there has. let y = are.fed n there has in let x = made.fed y.0 n (record { head = y.1; fed = y.2; number = y.3 }) in (x.0, x.1.head, x.1.fed, x.1.number);
      inner = λ k task wire n port at is leads. inner wire n port leads (made.wires k wire (record { task = task; at = at; is = is }));
      lanes = λ k task wire lane n port from at is leads. lanes wire lane n port from leads (made.wires k wire (record { task = task; at = at; is = is }));
      sources = λ k task n file wire at head.
          let y = made.sources k n (record { task = task; at = at; is = record { file = file; wire = wire; is = head } }) in
          are.sources y.0 y.1.task n y.1.is.file y.1.is.wire y.1.at y.1.is.is;
      bare = λ k n port row has none. bare n port row none (made.rows k n port row has);
      reached = reached;
    }
