-- What control has of a run at a moment, and how it goes on when the link of a source pad is undone.
use Rattle.std.specs.Prelude.{◌≡◌, ℕ, Bool, true, false, List, Option, Some}
use Rattle.lane_core.specs.Lane.{Lane}
use Rattle.lane_core.specs.declared.ends.Inlet as inlets
use Rattle.lane_core.specs.declared.ends.Outlet as outlets
use Rattle.flow_model.specs.Edit.{unlinked}
use Rattle.flow_model.specs.Moment.{Moment}
use Rattle.flow_model.specs.declared.element.TaskElement as elements
use Rattle.flow_model.specs.declared.source.TaskSource as sources
use Rattle.net_task.specs.declared.task.Task.{Task}
use Rattle.graph_core.specs.GraphPlan.{IsIn, pad_id}
use Rattle.graph_edits.specs.declared.graph.EditedGraph.{EditedGraph}
use Rattle.graph_pads.specs.declared.pad.Direction.TheVariants.{Source}
use Rattle.graph_pads.specs.declared.pad.PadLink.{PadLink}
use Rattle.graph_pads.specs.declared.pad.PadPlace.{PadPlace}
use Rattle.gst_value.specs.declared.name.PadName.{PadName}
use Rattle.script_text.specs.declared.answer.Place.{Place}
use Rattle.script_text.specs.declared.command.Act.{Act}
use Rattle.script_text.specs.declared.command.When.{When}
use Rattle.graph_edits.specs.Edited.{Edited, is_there, unlinked_at}
use Rattle.graph_edits.specs.Lawful.{command}
use Rattle.graph_edits.specs.Names.{pad_named}
use Rattle.edit_core.specs.Deciding.{IsToDo}
use Rattle.edit_core.specs.Notes.{IsCurrent}
use Rattle.edit_core.specs.Ways.{IsRun}
use Rattle.edit_core.specs.declared.deciding.Deed.TheVariants.{Unlink}
use Rattle.edit_core.specs.declared.feeds.Feeds.{Feeds}

-- Source pads that are named are those of their elements.
pub record AreOwned (g : Edited) (m : Moment) : Type 0 where
  pub owned : (pad : PadName) (source : PadPlace) → pad_named Source g pad ≡ Some source → m.plan.owner (pad_id source) ≡ source.element

-- the element of each sink pad that is linked is there
abbrev pub SinksAreThere : Edited → Type 0
SinksAreThere g = (link : PadLink) → IsIn link g.links → is_there g link.sink.element ≡ true

module _ {S E I O L : Type 0} {s : sources.Ghosts S} {e : elements.Ghosts E} {i : inlets.Ghosts I L O} {o : outlets.Ghosts O L} where
  -- The tasks are a run of the edited graph, and what control keeps stands for it.
  pub record IsControlled (graph : EditedGraph) (feeds : Feeds) (tasks : List (Task S E I O L s e i o)) (g : Edited) (m : Moment) (tells : Option (List Lane)) : Type 0 where
    pub current : IsCurrent graph feeds tasks g m tells
    pub run : IsRun g m tasks tells
    pub pads : AreOwned g m
    pub sinks : SinksAreThere g

  -- The link of a source pad is to be undone now, with EOS or without.
  pub record IsToUnlink (graph : EditedGraph) (feeds : Feeds) (tasks : List (Task S E I O L s e i o)) (g : Edited) (m : Moment) (tells : Option (List Lane)) (source sink : PadPlace) (eos : Bool) (items : ℕ) : Type 0 where
    pub controlled : IsControlled graph feeds tasks g m tells
    pub when : When
    pub act : Act
    pub places : List Place
    pub to_do : IsToDo g m (command when act) (Unlink source sink eos) items places

  -- control has the run in which it was undone without EOS
  abbrev pub IsUnlinked : EditedGraph → Feeds → List (Task S E I O L s e i o) → Edited → Moment → Option (List Lane) → PadPlace → ℕ → Type 0
  IsUnlinked graph feeds tasks g m tells source items = IsControlled graph feeds tasks (unlinked_at source items false g) (unlinked (pad_id source) m) tells
