-- How control links a source pad of a run elsewhere, inside of its task or over a lane.
use Rattle.std.specs.Prelude.{◌≡◌, ◌<◌, ℕ, Bool, false, List, Option, length}
use Rattle.std.specs.Global.{Vec}
use Rattle.flow_model.specs.Item.{Item}
use Rattle.gst_item.specs.Item.{has_item}
use Rattle.gst_item.specs.Sticky.{stickies}
use Rattle.lane_core.specs.Lane.{Lane}
use Rattle.lane_core.specs.declared.ends.Inlet as inlets
use Rattle.lane_core.specs.declared.ends.Outlet as outlets
use Rattle.net_edits.specs.Over.{IsNewLane, OpensNow}
use Rattle.net_edits.specs.declared.inside.EditFault.{EditFault}
use Rattle.net_edits.specs.declared.inside.EditFault.TheVariants as faults
use Rattle.net_edits.specs.declared.over.NewLink.{NewLink}
use Rattle.flow_model.specs.Edit.{LinksInside, linked_inside, linked_over, unlinked}
use Rattle.flow_model.specs.Moment.{Moment}
use Rattle.flow_model.specs.Standing.{is_linked}
use Rattle.flow_model.specs.declared.element.TaskElement as elements
use Rattle.flow_model.specs.declared.source.TaskSource as sources
use Rattle.net_task.specs.declared.task.Task.{Task}
use Rattle.net_turns.specs.Net.{NetStands, Owns}
use Rattle.net_turns.specs.declared.net.Stopped.{Stopped}
use Rattle.task_edits.specs.declared.openings.Opening.{Opening}
use Rattle.graph_core.specs.GraphPlan.{most_pads, pad_id}
use Rattle.graph_edits.specs.Graph.{IsEdited}
use Rattle.graph_edits.specs.declared.graph.EditedGraph.{EditedGraph}
use Rattle.graph_pads.specs.Links.{sink_behind}
use Rattle.graph_pads.specs.declared.pad.PadPlace.{PadPlace}
use Rattle.script_text.specs.declared.answer.Place.{Place}
use Rattle.script_text.specs.declared.command.Act.{Act}
use Rattle.script_text.specs.declared.command.When.{When}
use Rattle.graph_edits.specs.Edited.{Edited, relinked_at, spans_at, unlinked_at}
use Rattle.graph_edits.specs.Ended.{EndsOpen}
use Rattle.graph_edits.specs.Growing.{IsKept, LinksStand}
use Rattle.graph_edits.specs.Lawful.{command}
use Rattle.graph_edits.specs.Plans.{is_asleep}
use Rattle.graph_edits.specs.Refused.{has_lanes}
use Rattle.edit_core.specs.Deciding.{IsToDo}
use Rattle.edit_core.specs.Feeds.{AreFeeds}
use Rattle.edit_core.specs.Ways.{IsRun}
use Rattle.edit_core.specs.declared.deciding.Deed.TheVariants.{Relink}
use Rattle.edit_core.specs.declared.feeds.Feeds.{Feeds}
use Rattle.edit_acts.specs.Controlled.{IsControlled}
use Rattle.edit_acts.specs.Linking.{HasRoomToLink, IsLinkedShort, opening_of, sink_in}
use Rattle.edit_acts.specs.Over.{LeadsTo}
use Rattle.edit_acts.specs.Undoing.{HasRoomToUndo, SplitsNot}
use Rattle.edit_acts.specs.declared.linking.LinkRoom.{LinkRoom}
use Rattle.edit_acts.specs.declared.relinking.Prepared.{Prepared}

-- the moment at which a pad was linked elsewhere, where the element behind it put this out for what it was given first
abbrev pub relinked : PadPlace → PadPlace → (ℕ → List Item) → Moment → Moment
relinked source sink out m = linked_inside (pad_id source) sink.element sink.pad out (unlinked (pad_id source) m)

-- the moment at which it was linked elsewhere over a lane
abbrev pub relinked_over : PadPlace → PadPlace → Moment → Moment
relinked_over source sink m = linked_over (pad_id source) sink.element sink.pad (unlinked (pad_id source) m)

module _ {S E I O L : Type 0} {s : sources.Ghosts S} {e : elements.Ghosts E} {i : inlets.Ghosts I L O} {o : outlets.Ghosts O L} where
  -- A source pad is to be linked elsewhere now: its element is awake, and lanes feed the other element, or none do.
  pub record IsToRelink (graph : EditedGraph) (feeds : Feeds) (tasks : List (Task S E I O L s e i o)) (g : Edited) (m : Moment) (tells : Option (List Lane)) (source sink : PadPlace) (items : ℕ) (fed : Bool) : Type 0 where
    pub controlled : IsControlled graph feeds tasks g m tells
    pub when : When
    pub act : Act
    pub places : List Place
    pub to_do : IsToDo g m (command when act) (Relink source sink) items places
    pub awake : is_asleep g source.element ≡ false
    pub lanes : has_lanes g sink.element ≡ fed

  -- The run goes on at the moment at which the pad was linked so.
  pub record RunsRelinked (feeds' : Feeds) (tasks' : List (Task S E I O L s e i o)) (g : Edited) (m : Moment) (tells : Option (List Lane)) (source sink : PadPlace) (items : ℕ) : Type 0 where
    pub out : ℕ → List Item
    pub links : LinksInside (unlinked (pad_id source) m) (pad_id source) sink.element sink.pad out
    pub run : IsRun (relinked_at source items sink g) (relinked source sink out m) tasks' tells
    pub feeds : AreFeeds feeds' (relinked_at source items sink g) m.history

  -- control has that run
  pub record IsRelinked (graph' : EditedGraph) (feeds' : Feeds) (tasks' : List (Task S E I O L s e i o)) (g : Edited) (m : Moment) (tells : Option (List Lane)) (source sink : PadPlace) (items : ℕ) : Type 0 where
    pub out : ℕ → List Item
    pub links : LinksInside (unlinked (pad_id source) m) (pad_id source) sink.element sink.pad out
    pub controlled : IsControlled graph' feeds' tasks' (relinked_at source items sink g) (relinked source sink out m) tells

  -- The link was undone. When the pad was linked the element refused one of the sticky events.
  pub record IsRelinkedShort (tasks' : List (Task S E I O L s e i o)) (g : Edited) (m : Moment) (tells : Option (List Lane)) (source sink : PadPlace) (items : ℕ) (stopped : Stopped) : Type 0 where
    pub mid : List (Task S E I O L s e i o)
    pub run : IsRun (unlinked_at source items false g) (unlinked (pad_id source) m) mid tells
    pub short : IsLinkedShort mid tasks' (pad_id source) (sink_in sink) (stickies (m.history (pad_id source))) stopped

  -- The graph has the new link then, and so does what control keeps.
  pub record FailsShort (graph' : EditedGraph) (feeds' : Feeds) (tasks' : List (Task S E I O L s e i o)) (g : Edited) (m : Moment) (tells : Option (List Lane)) (source sink : PadPlace) (items : ℕ) (stopped : Stopped) : Type 0 where
    pub short : IsRelinkedShort tasks' g m tells source sink items stopped
    pub edited : IsEdited graph' (relinked_at source items sink g)
    pub feeds : AreFeeds feeds' (relinked_at source items sink g) m.history

  -- where memory was wanting control has the run as it was
  abbrev pub RelinkFails : EditedGraph → Feeds → List (Task S E I O L s e i o) → EditedGraph → Feeds → List (Task S E I O L s e i o) → PadPlace → PadPlace → ℕ → EditFault → Type 0
  RelinkFails graph feeds tasks graph' feeds' tasks' source sink items faults.OutOfMemory = (g : Edited) (m : Moment) (tells : Option (List Lane)) → IsControlled graph feeds tasks g m tells → IsControlled graph' feeds' tasks' g m tells
  RelinkFails graph feeds tasks graph' feeds' tasks' source sink items (faults.Failed stopped) =
      (g : Edited) (m : Moment) (tells : Option (List Lane)) → IsToRelink graph feeds tasks g m tells source sink items false → FailsShort graph' feeds' tasks' g m tells source sink items stopped

  -- the sticky events of what crossed a pad are given first
  abbrev pub OpensWith : List (Task S E I O L s e i o) → ℕ → List Item → Type 0
  OpensWith tasks pad opening = (m : Moment) (tells : Option (List Lane)) (k : ℕ) → NetStands m tasks tells → Owns tasks k (m.plan.owner pad) → opening ≡ stickies (m.history pad)

  -- Room was taken to undo the link of the source pad, before the tasks change. The element of the sink pad is not split off.
  pub record IsPrepared (tasks : Vec (Task S E I O L s e i o)) (source sink : PadPlace) (p : Prepared E I O e) : Type 0 where
    pub number : p.pad ≡ pad_id source
    pub undo : HasRoomToUndo tasks p.pad p.undo
    pub apart : SplitsNot p.undo sink.element

  -- Room was taken for a link to the element inside of the task of the pad, and what that gives first was read.
  pub record IsToLink (tasks : List (Task S E I O L s e i o)) (pad element : ℕ) (link : LinkRoom E O e) : Type 0 where
    pub room : HasRoomToLink tasks pad element link
    pub opens : OpensWith tasks pad (opening_of link)

  -- The run goes on at the moment at which the pad was linked elsewhere over a lane.
  pub record RunsRelinkedOver (feeds' : Feeds) (tasks' : List (Task S E I O L s e i o)) (g : Edited) (m : Moment) (tells : Option (List Lane)) (source sink : PadPlace) (items : ℕ) : Type 0 where
    pub run : IsRun (relinked_at source items sink g) (relinked_over source sink m) tasks' tells
    pub feeds : AreFeeds feeds' (relinked_at source items sink g) m.history

  -- A lane is new to the tasks and leads to the sink pad, and what the link over it gives first was read at the source pad.
  pub record HasLane (m : Moment) (tasks : List (Task S E I O L s e i o)) (tells : Option (List Lane)) (pad : ℕ) (sink : PadPlace) (to : NewLink I O) (opening : Opening) : Type 0 where
    pub new : IsNewLane tells tasks to
    pub leads : LeadsTo to sink
    pub opens : OpensNow m pad opening

-- the graph stands for the edited one that has the new link, and the link before it was told
pub record HasNewLink (graph graph' : EditedGraph) (source sink : PadPlace) (before : Option PadPlace) : Type 0 where
  pub edited : (g : Edited) (place : ℕ) → IsEdited graph g → IsEdited graph' (relinked_at source place sink g)
  pub was : (g : Edited) → IsEdited graph g → before ≡ sink_behind g.links source

-- The link of a source pad, if any, is to be undone and the pad linked to a free sink pad, when so many items have crossed it.
pub record IsToKeep (g : Edited) (h : ℕ → List Item) (source sink : PadPlace) (before : Option PadPlace) (pad items : ℕ) (opened : Bool) : Type 0 where
  pub kept : IsKept h g
  pub stand : LinksStand g
  pub ends : EndsOpen h g
  pub few : source.pad < most_pads
  pub number : pad ≡ pad_id source
  pub all : items ≡ length (h pad)
  pub was : before ≡ sink_behind g.links source
  pub free : is_linked (spans_at (unlinked_at source items false g) sink) ≡ false
  pub opens : opened ≡ has_item (stickies (h pad))
