-- What one pass along the links finds of each element, and what it rests on.
use Rattle.std.specs.Prelude.{◌≡◌, ◌↔◌, ◌<◌, ◌&&◌, ◌||◌, ◌==◌, ℕ, Bool, true, false, not, List, Option, None, Some, get_or, length, option_and_then}
use Rattle.std.specs.Option.{option_map_or}
use Rattle.flow_model.specs.Item.{Item}
use Rattle.launch_text.specs.declared.tree.Tree.{Tree}
use Rattle.lane_core.specs.Lane.{Lane}
use Rattle.lane_core.specs.declared.ends.Inlet as inlets
use Rattle.lane_core.specs.declared.ends.Outlet as outlets
use Rattle.flow_model.specs.Moment.{Moment}
use Rattle.flow_model.specs.declared.element.TaskElement as elements
use Rattle.flow_model.specs.declared.source.TaskSource as sources
use Rattle.net_task.specs.declared.task.Task.{Task}
use Rattle.net_turns.specs.Net.{NetStands}
use Rattle.graph_core.specs.Graph.{IsGraph, IsSound, links as links_in, made as made_in}
use Rattle.graph_core.specs.GraphPlan.{IsIn, owner_of}
use Rattle.graph_core.specs.declared.graph.Graph.{Graph}
use Rattle.graph_edits.specs.Graph.{IsEdited}
use Rattle.graph_edits.specs.declared.graph.EditedGraph.{EditedGraph}
use Rattle.graph_pads.specs.Links.{source_before}
use Rattle.graph_pads.specs.declared.pad.Direction.TheVariants.{Source}
use Rattle.graph_pads.specs.declared.pad.PadLink.{PadLink}
use Rattle.graph_pads.specs.declared.pad.PadPlace.{PadPlace}
use Rattle.gst_value.specs.declared.name.PadName.{PadName}
use Rattle.script_text.specs.declared.answer.Answer.{Answer}
use Rattle.script_text.specs.declared.command.Command.{Command}
use Rattle.edit_core.specs.Judging.{AreFresh}
use Rattle.graph_edits.specs.Edited.{Edited, unedited}
use Rattle.graph_edits.specs.Ended.{EndsOpen}
use Rattle.graph_edits.specs.Growing.{IsKept, LinksStand}
use Rattle.graph_edits.specs.Lawful.{IsAnswered}
use Rattle.graph_edits.specs.Names.{pad_named}
use Rattle.graph_edits.specs.Refused.{HasFeeder, HasHead, IsReached, first_of}
use Rattle.edit_core.specs.Whole.{AreMade}
use Rattle.edit_core.specs.Feeds.{AreFeeds}
use Rattle.edit_core.specs.declared.feeds.Feeds.{Feeds}
use Rattle.edit_core.specs.declared.notes.Note.{Note}

-- ---- what the links that stand are like

-- the source pad of each link has a name by which it is found
abbrev pub AreNamed : Edited → Type 0
AreNamed g = (source sink : PadPlace) → source_before g.links sink ≡ Some source → (name : PadName) × (pad_named Source g name ≡ Some source)

-- What control keeps stands for the graph and the moment, and the graph's links are in order.
pub record IsCurrent {S E I O L : Type 0} {s : sources.Ghosts S} {e : elements.Ghosts E} {i : inlets.Ghosts I L O} {o : outlets.Ghosts O L}
    (graph : EditedGraph) (feeds : Feeds) (tasks : List (Task S E I O L s e i o)) (g : Edited) (m : Moment) (tells : Option (List Lane)) : Type 0 where
  pub edited : IsEdited graph g
  pub feeds_are : AreFeeds feeds g m.history
  pub net : NetStands m tasks tells
  pub fresh : AreFresh g m tasks
  pub kept : IsKept m.history g
  pub stand : LinksStand g
  pub made : AreMade g
  pub ends : EndsOpen m.history g
  pub named : AreNamed g

-- ---- notes

-- nothing is found
abbrev pub no_note : Note
no_note = record { head = None; feeder = None; is_reached = false }

-- a head is its own head and its own feeder
abbrev pub head_note : ℕ → Bool → Note
head_note e reached = record { head = Some e; feeder = Some e; is_reached = reached }

abbrev pub note_of : List Note → ℕ → Note
note_of notes e = get_or notes e no_note

-- what is found of an element that is no head: by the source pad linked to it, and by the one that gave it something first
abbrev pub plain_note : List Note → Option PadPlace → Option ℕ → Bool → Note
plain_note notes before giver is_start = record {
  head = option_and_then (λ (source : PadPlace). (note_of notes source.element).head) before;
  feeder = option_and_then (λ p. (note_of notes (owner_of p)).feeder) giver;
  is_reached = is_start || option_map_or (λ (source : PadPlace). (note_of notes source.element).is_reached) before false;
}

-- A note tells of an element its head, its feeder, and whether it is reached from another one.
pub record IsNoted (g : Edited) (h : ℕ → List Item) (start e : ℕ) (note : Note) : Type 0 where
  pub head : (x : ℕ) → HasHead g e x ↔ (note.head ≡ Some x)
  pub feeder : (x : ℕ) → HasFeeder g h e x ↔ (note.feeder ≡ Some x)
  pub reached : IsReached g start e ↔ (note.is_reached ≡ true)

-- all from which links ever led to an element are noted
abbrev pub AreNotedBefore : Edited → (ℕ → List Item) → ℕ → List Note → ℕ → Type 0
AreNotedBefore g h start notes e = (link : PadLink) → IsIn link g.ever → link.sink.element ≡ e → IsNoted g h start link.source.element (note_of notes link.source.element)

-- all elements are
pub record AreNoted (g : Edited) (h : ℕ → List Item) (start : ℕ) (notes : List Note) : Type 0 where
  pub count : length notes ≡ length g.made
  pub each : (e : ℕ) → e < length g.made → IsNoted g h start e (note_of notes e)

-- what feeds the task of an element
abbrev pub task_feeder : Note → Option ℕ
task_feeder note = first_of note.head note.feeder

-- an element that is reached has another feeder
abbrev pub is_foreign : ℕ → Note → Bool
is_foreign own note = note.is_reached && option_map_or (λ feeder. not (feeder == own)) note.feeder false

-- ---- laws

-- The source pads of links have names from the start, in the graph of a launch line, and behind each answer.
pub record StaysNamed : Type 0 where
  pub begins : (tree : Tree) (graph : Graph) → IsGraph tree graph → IsSound graph → AreNamed (unedited (made_in graph) (links_in graph))
  pub answered : (h owed : ℕ → List Item) (g after : Edited) (c : Command) (a : Answer) → IsAnswered g h owed c a after → LinksStand g → AreNamed g → AreNamed after
