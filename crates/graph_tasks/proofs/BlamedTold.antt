-- What is known of a fault of a task without the contents of files.
use Rattle.std.proofs.Common.{◌≡◌, ◌<◌, ℕ, List, Some, length, refl, sym, ap, ◌∙◌, subst}
use Rattle.std.specs.Prelude.{slice_get}
use Rattle.lane_core.specs.declared.ends.Inlet as inlets
use Rattle.lane_core.specs.declared.ends.Outlet as outlets
use Rattle.flow_model.specs.declared.element.TaskElement as elements
use Rattle.flow_model.specs.declared.source.TaskSource as sources
use Rattle.flow_model.specs.declared.refusal.Unread.{Unread}
use Rattle.graph_core.specs.Graph.{IsSound, made as made_in, links as links_in}
use Rattle.graph_core.specs.declared.graph.Graph.{Graph}
use Rattle.graph_parts.specs.declared.bag.Bag.{Bag}
use Rattle.task_parts.specs.declared.fault.TaskFault.{TaskFault}
use Rattle.task_parts.specs.declared.fault.TaskFault.TheVariants.{NotLinked}
use Rattle.task_parts.specs.declared.head.Head.{Head}
use Rattle.task_parts.specs.declared.head.Head.TheVariants.{Inlets, Source}
use Rattle.task_parts.specs.declared.part.Part.{Part}
use Rattle.net_task.specs.declared.task.Task.{Task}
use Rattle.net_task.specs.Failed.{Causes, IsUnread, by_element, by_source, full_at, full_head, memory, unlinked}
use Rattle.net_task.specs.Frame.{TaskFrame, frame_of, head_frame, part_frame}
use Rattle.graph_tasks.specs.Blamed.{CausesAreTold, IsTold, full, no_memory, not_linked, refused, unread}
use Rattle.graph_tasks.proofs.BlamedFrames.{HasBag, bag_of, part_there, source_there, wire_alone, wire_there}
use Rattle.gst_value.proofs.Places.{map_get}

module _ {S E I O L : Type 0} {s : sources.Ghosts S} {e : elements.Ghosts E} {i : inlets.Ghosts I L O} {o : outlets.Ghosts O L} (graph : Graph)
    (bags : List Bag) (sound : IsSound graph)
    (are : Rattle.graph_parts.specs.Bags.AreBags (made_in graph) (links_in graph) bags) (place : ℕ) (before after : Task S E I O L s e i o)
    (b : HasBag (made_in graph) (links_in graph) bags place (frame_of before)) (framed : frame_of after ≡ frame_of before) where
  -- an element of the task behind the fault is one of the graph
  is_part : (j : ℕ) (part : Part E O e) → slice_get after.parts.items j ≡ Some part → part.number < length (made_in graph)
  is_part j part at =
      part_there (made_in graph) (links_in graph) bags place (frame_of before) sound.pads are b j (part_frame o part)
      (ap (λ (f : TaskFrame). slice_get f.parts j) (sym framed) ∙ map_get (part_frame o) after.parts.items j part at)

  is_source : (n : ℕ) (why : Unread) (head head' : Head S I O s) → before.head ≡ head → IsUnread head head' n why → n < length (made_in graph)
  is_source n why (Source old) (Source new) is unread_at =
      subst (λ (k : ℕ). k < length (made_in graph)) unread_at.0
      (source_there (made_in graph) (links_in graph) bags place (frame_of before) sound.pads are b old.number (s.file old.source) _ (ap (head_frame o) is))
  is_source n why (Source old) (Inlets new) is unread_at = absurd unread_at
  is_source n why (Inlets old) head' is unread_at = absurd unread_at

  pub told : (fault : TaskFault) → Causes o (frame_of before) before.head after.head before.parts.items after.parts.items fault
      → IsTold (made_in graph) (links_in graph) before after fault
  told fault (by_element n refusal r) = refused n refusal (subst (λ (k : ℕ). k < length (made_in graph)) r.number (is_part r.place r.is r.is_at)) r
  told fault (by_source n why unread_at) = unread n why (is_source n why before.head after.head refl unread_at) unread_at
  told fault (unlinked wire counted is leads) =
      let w = wire_there (made_in graph) (links_in graph) bags place (frame_of before) sound.pads are b wire is in
      subst (λ (p : ℕ). IsTold (made_in graph) (links_in graph) before after (NotLinked p counted)) (sym w.is)
      (not_linked w.source counted w.element w.at w.few (wire_alone (made_in graph) (links_in graph) wire w leads))
  told fault (full_at j part at) = full part.number (part_there (made_in graph) (links_in graph) bags place (frame_of before) sound.pads are b j part at)
  told fault (full_head n file wire is) = full n (source_there (made_in graph) (links_in graph) bags place (frame_of before) sound.pads are b n file wire is)
  told fault memory = no_memory

pub causes_are_told : {S E I O L : Type 0} (s : sources.Ghosts S) (e : elements.Ghosts E) (i : inlets.Ghosts I L O) (o : outlets.Ghosts O L)
    → CausesAreTold s e i o
causes_are_told s e i o graph bags tasks sound are have place before after fault at framed cause =
    told graph bags sound are place before after (bag_of (made_in graph) (links_in graph) bags tasks are have place before at) framed fault cause
