-- A source pad of a run is linked over a new lane.
use Rattle.std.specs.Prelude.{◌≡◌, ◌<◌, ℕ, true, false, List, None, Option, length}
use Rattle.lane_core.specs.Lane.{Lane}
use Rattle.lane_core.specs.declared.ends.Inlet as inlets
use Rattle.lane_core.specs.declared.ends.Outlet as outlets
use Rattle.flow_model.specs.Edit.{IsFree, linked_over}
use Rattle.flow_model.specs.Moment.{Moment}
use Rattle.flow_model.specs.Step.{LeadsNowhere}
use Rattle.flow_model.specs.declared.element.TaskElement as elements
use Rattle.flow_model.specs.declared.source.TaskSource as sources
use Rattle.net_task.specs.declared.task.Task.{Task}
use Rattle.net_turns.specs.Net.{NetStands}
use Rattle.task_edits.specs.declared.openings.Opening.{Opening}
use Rattle.net_edits.specs.Over.{CannotJoin, IsLinkedOver, NoneSends}
use Rattle.net_edits.specs.declared.over.NewLink.{NewLink}
use Rattle.graph_core.specs.GraphPlan.{most_pads, pad_id}
use Rattle.graph_core.specs.Links.{Leads}
use Rattle.graph_pads.specs.Links.{sink_behind, source_before}
use Rattle.graph_pads.specs.declared.pad.PadPlace.{PadPlace}
use Rattle.graph_edits.specs.Edited.{Edited, is_there, linked_at}
use Rattle.graph_edits.specs.Plans.{is_asleep}
use Rattle.graph_edits.specs.Refused.{has_lanes}
use Rattle.edit_core.specs.Ways.{IsRun}

-- A source pad has no link, and a sink pad of an element that lanes feed is there and has none.
pub record MayLinkOver (g : Edited) (source sink : PadPlace) : Type 0 where
  pub low : source.pad < most_pads
  pub loose : sink_behind g.links source ≡ None
  pub sink_there : is_there g sink.element ≡ true
  pub within : sink.pad < length (g.spans sink.element)
  pub free : source_before g.links sink ≡ None
  pub fed : has_lanes g sink.element ≡ true

-- the new lane leads to the sink pad
pub record LeadsTo {I O : Type 0} (to : NewLink I O) (sink : PadPlace) : Type 0 where
  pub element : to.element ≡ sink.element
  pub pad : to.pad ≡ sink.pad

-- The source pad is one of an element that is there at the moment and awake, and no links that ever were made lead to that from the element of the sink pad.
pub record IsAhead (g : Edited) (m : Moment) (source sink : PadPlace) : Type 0 where
  pub there : is_there g source.element ≡ true
  pub awake : is_asleep g source.element ≡ false
  pub owned : m.plan.owner (pad_id source) ≡ source.element
  pub forward : ¬ Leads g.ever sink.element source.element

-- Nothing speaks against the link, and the tasks stand and are ready behind it, once the lane is new.
pub record CanLinkOver {S E I O L : Type 0} {s : sources.Ghosts S} {e : elements.Ghosts E} {i : inlets.Ghosts I L O} {o : outlets.Ghosts O L} (m : Moment) (tasks : List (Task S E I O L s e i o)) (pad : ℕ) (to : NewLink I O) : Type 0 where
  pub joins : CannotJoin tasks pad to.element to.pad → ⊥
  pub nowhere : LeadsNowhere m.plan pad
  pub free : IsFree to.pad (m.plan.sinks to.element)
  pub none_sends : NoneSends tasks to.element to.pad

-- So it is with the pads of a run.
abbrev pub RunsLinkOver : {S E I O L : Type 0} → sources.Ghosts S → elements.Ghosts E → inlets.Ghosts I L O → outlets.Ghosts O L → Type 0
RunsLinkOver {S} {E} {I} {O} {L} s e i o = (g : Edited) (m : Moment) (tasks : List (Task S E I O L s e i o)) (tells : Option (List Lane)) (source sink : PadPlace) (to : NewLink I O)
    → IsRun g m tasks tells → MayLinkOver g source sink → IsAhead g m source sink → LeadsTo to sink → CanLinkOver m tasks (pad_id source) to

-- A run in which a pad was linked so goes on with the edited graph that has the link.
abbrev pub LinkingOverKeepsRun : {S E I O L : Type 0} → sources.Ghosts S → elements.Ghosts E → inlets.Ghosts I L O → outlets.Ghosts O L → Type 0
LinkingOverKeepsRun {S} {E} {I} {O} {L} s e i o = (g : Edited) (m : Moment) (tasks tasks' : List (Task S E I O L s e i o)) (tells : Option (List Lane)) (source sink : PadPlace) (to : NewLink I O) (opening : Opening)
    → IsRun g m tasks tells → MayLinkOver g source sink → LeadsTo to sink → IsLinkedOver tasks tasks' (pad_id source) to opening
    → NetStands (linked_over (pad_id source) sink.element sink.pad m) tasks' tells
    → IsRun (linked_at source (length (m.history (pad_id source))) sink g) (linked_over (pad_id source) sink.element sink.pad m) tasks' tells
