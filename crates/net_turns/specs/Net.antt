-- Tasks that lanes join, at a moment of their run. A task has a number, its place among the tasks, and a lane is known by
-- its place in the table.
use Rattle.std.specs.Prelude.{◌≡◌, ◌≢◌, ◌++◌, ℕ, zero, suc, false, List, [], ◌∷◌, Option, Some, drop, length, slice_get}
use Rattle.flow_model.specs.Item.{Item}
use Rattle.flow_model.specs.Call.{Call, feeds}
use Rattle.flow_model.specs.Eval.{Plan}
use Rattle.flow_model.specs.Prefix.{IsPrefix}
use Rattle.gst_item.specs.Sticky.{has_flush_stop}
use Rattle.lane_core.specs.Lane.{Lane}
use Rattle.lane_core.specs.declared.ends.Inlet as inlets
use Rattle.lane_core.specs.declared.ends.Outlet as outlets
use Rattle.pad_core.specs.Crossing.{has_ended}
use Rattle.flow_model.specs.Moment.{Moment, CellStands}
use Rattle.flow_model.specs.Split.{AreEmpty}
use Rattle.flow_model.specs.SinkPads.{InSection}
use Rattle.flow_model.specs.declared.element.TaskElement as elements
use Rattle.flow_model.specs.declared.source.TaskSource as sources
use Rattle.inlet_row.specs.declared.row.InletRow.{InletRow}
use Rattle.inlet_row.specs.Row.{ForLanes, RowBetween, feeds_of, row_holds}
use Rattle.task_pads.specs.Behind.{over}
use Rattle.task_parts.specs.declared.head.Head.TheVariants.{Inlets}
use Rattle.task_parts.specs.declared.head.InletHead.{InletHead}
use Rattle.net_task.specs.declared.task.Task.{Task}
use Rattle.net_task.specs.Frame.{by_source, PartFrame, TaskFrame, Wire, IsWire, frame_of}
use Rattle.net_task.specs.Ready.{EndsWith, IsReady, LeadsInto}
use Rattle.net_task.specs.Ties.{Ties}

-- A graph to which nothing was done but links: no seek cut a pad, no rule owes FLUSH_STOP in its first section, and none
-- owes an item behind an EOS there.
pub record IsPlain (plan : Plan) : Type 0 where
  pub uncut : (p : ℕ) → (plan.log p).cuts ≡ []
  pub calm : (e port : ℕ) (took : List (List Call)) → has_flush_stop (plan.rule e took port 0) ≡ false
  pub closed : (e port : ℕ) (took : List (List Call)) (front : List Item) (last : Item) → plan.rule e took port 0 ≡ front ++ last ∷ [] → has_ended front ≡ false

-- The graph stays, and what each element answers. More crosses each source pad, and more is put out there.
pub record GoesOn (m m' : Moment) : Type 0 where
  pub plan : m'.plan ≡ m.plan
  pub answers : m'.answers ≡ m.answers
  pub crossed : (p : ℕ) → IsPrefix (m.history p) (m'.history p)
  pub due : (p : ℕ) → IsPrefix (m.history p ++ m.waits p) (m'.history p ++ m'.waits p)

-- an element is one of a task, or its source
pub data HasElement (frame : TaskFrame) (n : ℕ) : Type 0 where
  part : (place : ℕ) (one : PartFrame) → slice_get frame.parts place ≡ Some one → one.number ≡ n → HasElement frame n
  source : (file : Option (Option (List ℕ))) (wire : Wire) → frame.head ≡ by_source n file wire → HasElement frame n

-- A pad of a task leads over the lane of a place, made at a place of the pad, to a sink pad of an element.
pub record LaneOut (frame : TaskFrame) (p place from n i : ℕ) : Type 0 where
  pub wire : Wire
  pub is : IsWire frame wire
  pub number : wire.number ≡ p
  pub lane : ℕ
  pub leads : wire.leads ≡ over lane n i from
  pub into : LeadsInto wire place

-- this is the list at sink pad i
abbrev pub ListAt : ℕ → List (List Call) → List Call → Type 0
ListAt i [] calls = ⊥
ListAt zero (one ∷ css) calls = one ≡ calls
ListAt (suc i) (one ∷ css) calls = ListAt i css calls

module _ {I L O : Type 0} (i : inlets.Ghosts I L O) where
  -- What the row of a sink pad gave was taken there, what its lanes hold stands there, and each of its lanes stands between
  -- what was sent into it and what it gave.
  pub record RowStands (t : List Lane) (sents : ℕ → List Item) (m : Moment) (n port : ℕ) (row : InletRow I) : Type 0 where
    pub got : List Item
    pub took : ListAt port (m.took n) (feeds got)
    pub between : RowBetween i (Some t) sents row got
    pub holds : ListAt port (m.held n) (feeds (row_holds i t row))

module _ {S E I O L : Type 0} {s : sources.Ghosts S} {e : elements.Ghosts E} {i : inlets.Ghosts I L O} {o : outlets.Ghosts O L} where
  -- the head of a task is fed from inlets
  pub record IsFed (tasks : List (Task S E I O L s e i o)) (k : ℕ) (head : InletHead I) : Type 0 where
    pub task : Task S E I O L s e i o
    pub at : slice_get tasks k ≡ Some task
    pub head_is : task.head ≡ Inlets head

  -- the row of a sink pad of the element of that head
  pub record HasRow (tasks : List (Task S E I O L s e i o)) (k n port : ℕ) (row : InletRow I) : Type 0 where
    pub head : InletHead I
    pub fed : IsFed tasks k head
    pub number : head.number ≡ n
    pub at : slice_get head.rows.items port ≡ Some row

  -- a pad of a task leads over a lane
  pub record SendsInto (tasks : List (Task S E I O L s e i o)) (k p place from n port : ℕ) : Type 0 where
    pub task : Task S E I O L s e i o
    pub at : slice_get tasks k ≡ Some task
    pub out : LaneOut (frame_of task) p place from n port

  -- an element is one of the task at a place
  pub record Owns (tasks : List (Task S E I O L s e i o)) (k n : ℕ) : Type 0 where
    pub task : Task S E I O L s e i o
    pub at : slice_get tasks k ≡ Some task
    pub has : HasElement (frame_of task) n

  -- How tasks are wired: each element is of one task, each lane has one end of each kind, and where a pad leads into one,
  -- that is the last that stands in the row of the sink pad to which it leads.
  pub record AreWired (tasks : List (Task S E I O L s e i o)) : Type 0 where
    pub once : (k j n : ℕ) → Owns tasks k n → Owns tasks j n → k ≡ j
    pub one_sends : (k j p q place from from' n n' port port' : ℕ) → SendsInto tasks k p place from n port → SendsInto tasks j q place from' n' port' → (k ≡ j) × (p ≡ q)
    pub one_takes : (k j n n' port port' : ℕ) (one other : InletRow I) → HasRow tasks k n port one → HasRow tasks j n' port' other → k ≢ j
        → ForLanes (λ inlet. ForLanes (λ second. i.place second ≢ i.place inlet) (feeds_of other)) (feeds_of one)
    pub paired : (k p place from n port : ℕ) → SendsInto tasks k p place from n port → (r : ℕ) × (row : InletRow I) × HasRow tasks r n port row × EndsWith i row place

  -- Tasks are ready to be stepped: they are wired, and the lanes of each are of the table. It hangs on no moment.
  pub record NetReady (tasks : List (Task S E I O L s e i o)) (tells : Option (List Lane)) : Type 0 where
    pub wired : AreWired tasks
    pub ready : (k : ℕ) (task : Task S E I O L s e i o) → slice_get tasks k ≡ Some task → IsReady tells task

  -- Tasks stand at a moment: each is tied to it, each element stands there, and what its inlets hold is what the table tells.
  pub record NetStands (m : Moment) (tasks : List (Task S E I O L s e i o)) (tells : Option (List Lane)) : Type 0 where
    pub plain : IsPlain m.plan
    pub tied : (k : ℕ) (task : Task S E I O L s e i o) → slice_get tasks k ≡ Some task → Ties task m
    pub ready : (k : ℕ) (task : Task S E I O L s e i o) → slice_get tasks k ≡ Some task → IsReady tells task
    pub wired : AreWired tasks
    pub cells : (n : ℕ) → CellStands m n
    pub first : (n : ℕ) → InSection 0 (m.took n) × InSection 0 (m.held n)
    pub table : List Lane
    pub told : tells ≡ Some table
    pub sents : ℕ → List Item
    pub sent : (k p place from n port : ℕ) → SendsInto tasks k p place from n port → sents place ≡ drop from (m.history p)
    pub rows : (k n port : ℕ) (row : InletRow I) → HasRow tasks k n port row → RowStands i table sents m n port row
    -- a head has a row for each sink pad, and nothing stands in an inlet of another element
    pub each : (k : ℕ) (head : InletHead I) → IsFed tasks k head → length (m.held head.number) ≡ length head.rows.items
    pub others : (n : ℕ) → ((k : ℕ) (head : InletHead I) → IsFed tasks k head → head.number ≢ n) → AreEmpty (m.held n)
    -- nothing waits at a pad of an element that is of no task
    pub loose : (p : ℕ) → ((k : ℕ) → Owns tasks k (m.plan.owner p) → ⊥) → m.waits p ≡ []

  -- Tasks have come to a moment from another.
  pub record NetGoes (m : Moment) (tasks : List (Task S E I O L s e i o)) (tells : Option (List Lane)) : Type 0 where
    pub now : Moment
    pub goes_on : GoesOn m now
    pub net : NetStands now tasks tells
