-- How many items crossed a source pad, by what was counted.
use Rattle.std.proofs.Common.{◌≡◌, ◌<◌, ℕ, true, List, Option, Some, length, sym, ap, ◌∙◌}
use Rattle.std.specs.Prelude.{slice_get}
use Rattle.std.specs.Option.{option_map_or}
use Rattle.flow_model.specs.declared.element.TaskElement as elements
use Rattle.flow_model.specs.declared.source.TaskSource as sources
use Rattle.graph_parts.specs.BagLaws.{StandsIn}
use Rattle.graph_parts.specs.declared.bag.Bag.{Bag}
use Rattle.graph_core.specs.Graph.{made as made_in, links as links_in}
use Rattle.graph_core.specs.declared.graph.Graph.{Graph}
use Rattle.graph_tasks.specs.Ended.{IsQuiet}
use Rattle.graph_tasks.specs.Frames.{HaveBags}
use Rattle.graph_tasks.specs.Runs.{crossed_in}
use Rattle.graph_tasks.specs.Written.{TaskCrossed}
use Rattle.graph_parts.specs.Counts.{TasksCounted}
use Rattle.graph_parts.specs.Put.{PutBack}
use Rattle.graph_parts.specs.declared.counts.Count.{Count}
use Rattle.graph_parts.specs.Pads.{is_pad}
use Rattle.lane_core.specs.declared.ends.Inlet as inlets
use Rattle.lane_core.specs.declared.ends.Outlet as outlets
use Rattle.flow_model.specs.Moment.{Moment}
use Rattle.net_task.specs.declared.task.Task.{Task}
use Rattle.world_core.specs.Prepared.{HasRoom}
use Rattle.world_core.proofs.Counted.{count_at}

-- how many items are counted at a number
abbrev pub items_at : List Count → ℕ → ℕ
items_at counts p = option_map_or (λ (c : Count). c.items) (slice_get counts p) 0

module _ {S E I O L : Type 0} {s : sources.Ghosts S} {e : elements.Ghosts E} {i : inlets.Ghosts I L O} {o : outlets.Ghosts O L}
    (graph : Graph) (bags : List Bag) (m : Moment) (last : List (Task S E I O L s e i o)) (none counts : List Count) (zeros : List ℕ)
    (room : HasRoom (length (made_in graph)) none zeros) (counted : PutBack (TasksCounted last) none counts) (have : HaveBags (made_in graph) (links_in graph) bags last)
    (crossed : (place : ℕ) (task : Task S E I O L s e i o) → slice_get last place ≡ Some task → TaskCrossed m task)
    (quiet : (n : ℕ) → n < length (made_in graph) → ((k : ℕ) → StandsIn bags k n → ⊥) → IsQuiet graph m n) where
  -- so many items crossed the source pad
  pub items_are : (p : ℕ) → is_pad (made_in graph) p ≡ true → length (crossed_in graph m p) ≡ items_at counts p
  items_are p pad =
      let count = count_at graph bags m last none counts zeros room counted have crossed quiet p pad in
      sym (ap (λ (found : Option Count). option_map_or (λ (c : Count). c.items) found 0) count.1 ∙ count.2.items_are)
