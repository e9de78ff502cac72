-- What is known of the next command of a run, so that what it names is looked up once.
use Rattle.std.specs.Prelude.{◌≡◌, ◌<◌, ℕ, Bool, true, false, List, Some, if◌then◌else◌, length, slice_get}
use Rattle.lane_core.specs.declared.ends.Inlet as inlets
use Rattle.lane_core.specs.declared.ends.Outlet as outlets
use Rattle.flow_model.specs.declared.element.TaskElement as elements
use Rattle.flow_model.specs.declared.source.TaskSource as sources
use Rattle.gst_value.specs.declared.name.PadName.{PadName}
use Rattle.graph_core.specs.GraphPlan.{pad_id}
use Rattle.graph_pads.specs.declared.pad.Direction.TheVariants.{Source}
use Rattle.graph_pads.specs.declared.pad.PadPlace.{PadPlace}
use Rattle.script_text.specs.declared.command.Command.{Command}
use Rattle.script_text.specs.declared.command.When.TheVariants as whens
use Rattle.task_edits.specs.declared.seeing.SeenPad.{SeenPad}
use Rattle.graph_edits.specs.Edited.{Edited}
use Rattle.graph_edits.specs.Graph.{IsEdited}
use Rattle.graph_edits.specs.Lawful.{is_all_there}
use Rattle.graph_edits.specs.Names.{pad_named}
use Rattle.graph_edits.specs.declared.graph.EditedGraph.{EditedGraph}
use Rattle.edit_core.specs.Judging.{has_ended_before, stands_at}
use Rattle.world_core.specs.Running.{KeepsScript, view_of}
use Rattle.world_core.specs.declared.running.Running.{Running}
use Rattle.world_core.specs.declared.watching.Watch.{Watch}
use Rattle.world_core.specs.declared.watching.Watch.TheVariants.{Unasked, Open, At}

-- how many commands are looked up that are not answered yet: the next one, or none
abbrev pub looked_up : Watch → ℕ
looked_up Unasked = 0
looked_up Open = 1
looked_up (At pad n) = 1

-- the stream that is seen has not ended before the buffer of this number, and the buffer does not stand there
abbrev pub waits_yet : ℕ → SeenPad → Bool
waits_yet n seen = if has_ended_before n seen then false else if stands_at n seen then false else true

-- All that a command names is there, and it waits for the buffer of this number at the source pad of this number.
pub record AwaitsBuffer (graph : EditedGraph) (c : Command) (pad n : ℕ) : Type 0 where
  pub name : PadName
  pub when_is : c.when ≡ whens.At name n
  pub there : (g : Edited) → IsEdited graph g → is_all_there g c ≡ true
  pub at : (g : Edited) → IsEdited graph g → (source : PadPlace) × (pad_named Source g name ≡ Some source) × (pad ≡ pad_id source)

-- what is to be known of a command that was looked up
abbrev pub IsWatchOf : EditedGraph → Command → Watch → Type 0
IsWatchOf graph c Unasked = ⊥
IsWatchOf graph c Open = Unit {0}
IsWatchOf graph c (At pad n) = AwaitsBuffer graph c pad n

-- what is known of the command behind so many is so
abbrev pub WatchStands : EditedGraph → List Command → ℕ → Watch → Type 0
WatchStands graph commands answered Unasked = Unit {0}
WatchStands graph commands answered Open = Unit {0}
WatchStands graph commands answered (At pad n) = (c : Command) × (slice_get commands answered ≡ Some c) × AwaitsBuffer graph c pad n

module _ {S E I O L : Type 0} {s : sources.Ghosts S} {e : elements.Ghosts E} {i : inlets.Ghosts I L O} {o : outlets.Ghosts O L} where
  -- what a run knows of its next command is so
  abbrev pub IsWatched : Running S E I O L s e i o → Type 0
  IsWatched run = WatchStands run.graph run.script.items (length run.entries.items) run.watch

  -- What the next command names was looked up, and nothing else changed.
  pub record HasLookedUp (was is : Running S E I O L s e i o) : Type 0 where
    pub some : length was.entries.items < length was.script.items
    pub unasked : was.watch ≡ Unasked
    pub asked : looked_up is.watch ≡ 1
    pub view : view_of is ≡ view_of was
    pub probing : is.probing ≡ was.probing
    pub keeps : KeepsScript was is
