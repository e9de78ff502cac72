-- A run of a graph that cannot go on, for the reasons that its tasks answered, is not over where they do not tell that it is.
use Rattle.std.proofs.Common.{◌≡◌, ℕ, true, false, List, [], ◌∷◌, ◌++◌, Some, refl, sym, ap, ◌∙◌, subst, arith}
use Rattle.std.specs.Prelude.{slice_get}
use Rattle.std.proofs.lemmas.List.{length-append}
use Rattle.flow_model.specs.Item.{Item, eos_among}
use Rattle.flow_model.specs.Prefix.{IsPrefix}
use Rattle.flow_model.proofs.Prefixes.{prefix_length}
use Rattle.flow_model.specs.declared.element.TaskElement as elements
use Rattle.flow_model.specs.declared.source.TaskSource as givers
use Rattle.graph_parts.specs.Bags.{AreHeadBags}
use Rattle.graph_parts.specs.Links.{is_head}
use Rattle.graph_parts.specs.declared.bag.Bag.{Bag}
use Rattle.graph_core.specs.Graph.{is_live, made as made_in, links as links_in}
use Rattle.graph_core.specs.declared.graph.Graph.{Graph}
use Rattle.graph_tasks.specs.Frames.{HaveBags}
use Rattle.graph_tasks.specs.Over.{joins_in}
use Rattle.graph_tasks.specs.Owed.{went_from}
use Rattle.graph_tasks.specs.Stalled.{IsStuck, ended, needs_item, needs_room}
use Rattle.lane_core.specs.declared.ends.Inlet as inlets
use Rattle.lane_core.specs.declared.ends.Outlet as outlets
use Rattle.net_task.specs.Frame.{frame_of}
use Rattle.net_task.specs.declared.task.Task.{Task}
use Rattle.net_turns.specs.Ends.{TellsOver, head_number, is_idle}
use Rattle.task_parts.specs.declared.step.Step.{Step}
use Rattle.task_parts.specs.declared.step.Step.TheVariants as steps_of
use Rattle.world_core.specs.Over.{IsOver}
use Rattle.world_core.proofs.TaskHeads.{is_task_head}
use Rattle.graph_core.specs.Elements.{has}

-- nothing more is owed than all
no_more : (xs : List Item) (x : Item) → IsPrefix (xs ++ x ∷ []) xs → ⊥
no_more xs x more = let size = length-append xs (x ∷ []) in let less = prefix_length more in absurd (omega (arith, size, less))

module _ (contents : ℕ → List ℕ) (graph : Graph) (h took : ℕ → List Item) (over : IsOver contents graph h took) where
  -- no item waits where the run is over
  none_due : (head : ℕ) → has is_head (made_in graph) head ≡ true → (step : Step) → IsStuck contents (made_in graph) (links_in graph) h took head step → is_idle step ≡ true
  none_due head is step (needs_item pad within rests same not_ended) = refl
  none_due head is step (needs_room source sink item room reaches linked due has_room full) =
      absurd (no_more (went_from h source) item
      (subst (λ (owed : List Item). IsPrefix (went_from h source ++ item ∷ []) owed) (sym (over.idle head is source due.element reaches due.at due.there)) due.next))
  none_due head is step (ended rests all) = refl

  -- a head that is live and joins streams has ended
  has_ended : (head : ℕ) → has is_head (made_in graph) head ≡ true → is_live graph head ≡ true → joins_in graph head ≡ true → (step : Step)
      → IsStuck contents (made_in graph) (links_in graph) h took head step → step ≡ steps_of.Ended
  has_ended head is live joins step (needs_item pad within rests same not_ended) =
      absurd (no (sym not_ended ∙ ap eos_among (sym same) ∙ over.ended head pad is live within))
    where
      no : false ≡ true → ⊥
      no e = cc
  has_ended head is live joins step (needs_room source sink item room reaches linked due has_room full) =
      absurd (no_more (went_from h source) item
      (subst (λ (owed : List Item). IsPrefix (went_from h source ++ item ∷ []) owed) (sym (over.idle head is source due.element reaches due.at due.there)) due.next))
  has_ended head is live joins step (ended rests all) = refl

module _ {S E I O L : Type 0} {s : givers.Ghosts S} {e : elements.Ghosts E} {i : inlets.Ghosts I L O} {o : outlets.Ghosts O L}
    (contents : ℕ → List ℕ) (graph : Graph) (h took : ℕ → List Item) (bags : List Bag) (tasks : List (Task S E I O L s e i o)) (steps : List Step)
    (have : HaveBags (made_in graph) (links_in graph) bags tasks) (bags_are : AreHeadBags (made_in graph) (links_in graph) bags)
    (stuck : (k : ℕ) (task : Task S E I O L s e i o) (step : Step) → slice_get tasks k ≡ Some task → slice_get steps k ≡ Some step
    → IsStuck contents (made_in graph) (links_in graph) h took (head_number (frame_of task).head) step)
    (answered : (k : ℕ) (task : Task S E I O L s e i o) → slice_get tasks k ≡ Some task → (step : Step) × (slice_get steps k ≡ Some step)) where
  -- where it is over the steps tell so
  pub over_told : IsOver contents graph h took → TellsOver (is_live graph) (joins_in graph) tasks steps
  over_told over = record {
    idle = λ k task step at to.
        none_due contents graph h took over (head_number (frame_of task).head) (is_task_head (made_in graph) (links_in graph) bags tasks have bags_are k task at) step
        (stuck k task step at to);
    ended = λ k task at live joins.
        let step = answered k task at in
        step.1
        ∙ ap Some
        (has_ended contents graph h took over (head_number (frame_of task).head) (is_task_head (made_in graph) (links_in graph) bags tasks have bags_are k task at)
        live joins step.0 (stuck k task step.0 at step.1));
  }
