-- The head of a graph's task that is fed from inlets is an element that is fed from inlets.
use Rattle.std.proofs.Common.{◌≡◌, ◌<◌, ◌≤◌, ◌⊎◌, ℕ, true, List, Option, None, Some, get_or, length, sym, ap, subst, inl, inr, arith}
use Rattle.std.specs.Prelude.{slice_get}
use Rattle.std.proofs.lemmas.Option.{slice_get_cases, slice_get_within}
use Rattle.lane_core.specs.Lane.{Lane}
use Rattle.lane_core.specs.declared.ends.Inlet as inlets
use Rattle.lane_core.specs.declared.ends.Outlet as outlets
use Rattle.flow_model.specs.Moment.{Moment}
use Rattle.flow_model.specs.declared.element.TaskElement as elements
use Rattle.flow_model.specs.declared.source.TaskSource as sources
use Rattle.graph_core.specs.Elements.{Made, has}
use Rattle.graph_core.specs.Graph.{made as made_in, links as links_in}
use Rattle.graph_core.specs.declared.graph.Graph.{Graph}
use Rattle.graph_pads.specs.declared.pad.PadLink.{PadLink}
use Rattle.graph_parts.specs.Bags.{IsBag, IsHead, head_number}
use Rattle.graph_parts.specs.Links.{has_inlets, is_head}
use Rattle.graph_parts.specs.declared.bag.Bag.{Bag}
use Rattle.graph_parts.specs.declared.bag.BagHead.{BagHead}
use Rattle.graph_parts.specs.declared.bag.BagHead.TheVariants as bags
use Rattle.task_parts.specs.declared.head.InletHead.{InletHead}
use Rattle.net_task.specs.Frame.{HeadFrame, by_inlets, frame_of, head_frame}
use Rattle.net_task.specs.declared.task.Task.{Task}
use Rattle.net_turns.specs.Net.{IsFed}
use Rattle.graph_parts.proofs.Apart.{alone_head, loose_no_head}
use Rattle.graph_tasks.specs.Frames.{IsHeadFrame}
use Rattle.graph_tasks.specs.Runs.{RunsAt}
use Rattle.graph_tasks.proofs.BlamedFrames.{all_at}

-- where one stands at a place of a list, one stands at that of another that is as long
pub also_at : {A B : Type 0} (xs : List A) (ys : List B) (k : ℕ) (y : B) → length ys ≡ length xs → slice_get ys k ≡ Some y
    → (x : A) × (k < length xs) × (slice_get xs k ≡ Some x)
also_at {A} xs ys k y size at = go (slice_get_cases xs k).1
  where
    go : ((x : A) × (k < length xs) × (slice_get xs k ≡ Some x) × (get_or xs k x ≡ x)) ⊎ ((length xs ≤ k) × (slice_get xs k ≡ None))
        → (x : A) × (k < length xs) × (slice_get xs k ≡ Some x)
    go (inl t) = (t.0, t.1, t.2)
    go (inr f) = absurd (let within = slice_get_within ys k y at in omega (arith, within, f.0, size))

head_by : (made : List Made) (links : List PadLink) (number rows : ℕ) (head : BagHead) → IsHead made links head → has is_head made (head_number head) ≡ true → IsHeadFrame made links head (by_inlets number rows)
    → has has_inlets made number ≡ true
head_by made links number rows (bags.Source own) is begins frame = absurd frame
head_by made links number rows (bags.Inlets e) (inl fed) begins frame = subst (λ (n : ℕ). has has_inlets made n ≡ true) (sym frame.0) fed
head_by made links number rows (bags.Inlets e) (inr loose) begins frame = absurd (loose_no_head made links e loose begins)

module _ {S E I O L : Type 0} {s : sources.Ghosts S} {e : elements.Ghosts E} {i : inlets.Ghosts I L O} {o : outlets.Ghosts O L}
    (contents : ℕ → List ℕ) (graph : Graph) (bags : List Bag) (m : Moment) (tasks : List (Task S E I O L s e i o)) (tells : Option (List Lane))
    (runs : RunsAt contents graph bags m tasks tells) where
  -- a task that begins with rows of inlets does so with such an element
  pub frame_fed : (k : ℕ) (task : Task S E I O L s e i o) → slice_get tasks k ≡ Some task → (number rows : ℕ) → (frame_of task).head ≡ by_inlets number rows
      → has has_inlets (made_in graph) number ≡ true
  frame_fed k task at number rows is =
      let found = also_at bags tasks k task runs.have.count at in
      let bag = all_at (IsBag (made_in graph) (links_in graph)) bags runs.bags_are.are.are k found.0 found.2 in
      let frame = (runs.have.each k found.0 task found.2 at).head in
      head_by (made_in graph) (links_in graph) number rows found.0.head bag.head (alone_head (made_in graph) (links_in graph) bags runs.bags_are k found.0 found.2)
      (subst (λ (f : HeadFrame). IsHeadFrame (made_in graph) (links_in graph) found.0.head f) is frame)

  pub head_fed : (k : ℕ) (head : InletHead I) → IsFed tasks k head → has has_inlets (made_in graph) head.number ≡ true
  head_fed k head fed = frame_fed k fed.task fed.at head.number (length head.rows.items) (ap (head_frame o) fed.head_is)
