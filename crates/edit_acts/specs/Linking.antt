-- A source pad of a run is linked inside of a task.
use Rattle.std.specs.Prelude.{◌≡◌, ◌<◌, ℕ, true, false, List, Option, None, length}
use Rattle.flow_model.specs.Item.{Item}
use Rattle.gst_item.specs.Sticky.{has_flush_stop, stickies}
use Rattle.lane_core.specs.Lane.{Lane}
use Rattle.lane_core.specs.declared.ends.Inlet as inlets
use Rattle.lane_core.specs.declared.ends.Outlet as outlets
use Rattle.flow_model.specs.Edit.{LinksInside, linked_inside}
use Rattle.flow_model.specs.Moment.{Moment}
use Rattle.flow_model.specs.declared.element.TaskElement as elements
use Rattle.flow_model.specs.declared.source.TaskSource as sources
use Rattle.net_task.specs.declared.task.Task.{Task}
use Rattle.net_turns.specs.declared.net.Stopped.{Stopped}
use Rattle.net_groups.specs.Joined.{HasRoomToJoin, IsJoined}
use Rattle.task_edits.specs.declared.inside.Inside.{Inside}
use Rattle.net_edits.specs.Inside.{IsLinkedOpened, NotLinkedOpened}
use Rattle.graph_core.specs.GraphPlan.{most_pads, pad_id}
use Rattle.graph_core.specs.Links.{Leads}
use Rattle.graph_pads.specs.Links.{sink_behind, source_before}
use Rattle.graph_pads.specs.declared.pad.PadPlace.{PadPlace}
use Rattle.graph_edits.specs.Edited.{Edited, is_there, linked_at}
use Rattle.graph_edits.specs.Plans.{is_asleep}
use Rattle.graph_edits.specs.Refused.{has_lanes}
use Rattle.edit_core.specs.Ways.{IsRun}
use Rattle.edit_acts.specs.declared.linking.LinkRoom.{LinkRoom}

-- a sink pad of an edited graph, as tasks name it
abbrev pub sink_in : PadPlace → Inside
sink_in sink = record { element = sink.element; pad = sink.pad }

-- A source pad, of an element that is awake, and a sink pad, of one that no lanes feed, are there and have no link. No links that ever were
-- made lead from the second element to the first.
pub record MayLink (g : Edited) (source sink : PadPlace) : Type 0 where
  pub source_there : is_there g source.element ≡ true
  pub awake : is_asleep g source.element ≡ false
  pub low : source.pad < most_pads
  pub loose : sink_behind g.links source ≡ None
  pub sink_there : is_there g sink.element ≡ true
  pub within : sink.pad < length (g.spans sink.element)
  pub free : source_before g.links sink ≡ None
  pub bare : has_lanes g sink.element ≡ false
  pub forward : ¬ Leads g.ever sink.element source.element

-- They are the pads of these numbers, the first is one of its element at the moment, and these are the sticky events of what crossed it.
pub record MayLinkAt (g : Edited) (m : Moment) (source sink : PadPlace) (pad : ℕ) (to : Inside) (opening : List Item) : Type 0 where
  pub may : MayLink g source sink
  pub pad_is : pad ≡ pad_id source
  pub to_is : to ≡ sink_in sink
  pub owned : m.plan.owner pad ≡ source.element
  pub opening_is : opening ≡ stickies (m.history pad)

-- what a link gives first
abbrev pub opening_of : {E O : Type 0} {e : elements.Ghosts E} → LinkRoom E O e → List Item
opening_of room = room.opening

module _ {S E I O L : Type 0} {s : sources.Ghosts S} {e : elements.Ghosts E} {i : inlets.Ghosts I L O} {o : outlets.Ghosts O L} where
  -- there is room to join the task of the element to that of the pad, and no flush is among what the link gives first
  pub record HasRoomToLink (tasks : List (Task S E I O L s e i o)) (pad element : ℕ) (room : LinkRoom E O e) : Type 0 where
    pub join : HasRoomToJoin tasks pad element room.join
    pub calm : has_flush_stop room.opening ≡ false

  -- The task of the element was joined to that of the pad. Then the pad was linked, and the element took the items.
  pub record IsLinked (tasks tasks' : List (Task S E I O L s e i o)) (pad : ℕ) (to : Inside) (items : List Item) : Type 0 where
    pub mid : List (Task S E I O L s e i o)
    pub joined : IsJoined tasks mid pad to.element
    pub linked : IsLinkedOpened mid tasks' pad to items

  -- The same, but that the element refused one of the items.
  pub record IsLinkedShort (tasks tasks' : List (Task S E I O L s e i o)) (pad : ℕ) (to : Inside) (items : List Item) (fault : Stopped) : Type 0 where
    pub mid : List (Task S E I O L s e i o)
    pub joined : IsJoined tasks mid pad to.element
    pub stopped : NotLinkedOpened mid tasks' pad to items fault

  -- The run goes on at the moment at which the pad was linked, with the graph that has the link.
  pub record GoesOnLinked (g : Edited) (m : Moment) (tasks : List (Task S E I O L s e i o)) (tells : Option (List Lane)) (source sink : PadPlace) : Type 0 where
    pub out : ℕ → List Item
    pub links : LinksInside m (pad_id source) sink.element sink.pad out
    pub run : IsRun (linked_at source (length (m.history (pad_id source))) sink g) (linked_inside (pad_id source) sink.element sink.pad out m) tasks tells
