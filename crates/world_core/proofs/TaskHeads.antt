-- The heads of a graph's tasks, in their order.
use Rattle.std.proofs.Common.{◌≡◌, ℕ, suc, true, List, [], ◌∷◌, Some, length, map, refl, sym, ap, ◌∙◌, arith}
use Rattle.std.specs.Prelude.{slice_get}
use Rattle.std.proofs.lemmas.Option.{slice_get_within}
use Rattle.flow_model.specs.declared.element.TaskElement as elements
use Rattle.flow_model.specs.declared.source.TaskSource as givers
use Rattle.graph_parts.specs.Bags.{AreHeadBags, head_number as bag_number, head_of, heads_in}
use Rattle.graph_parts.specs.Links.{is_head}
use Rattle.graph_parts.specs.declared.bag.Bag.{Bag}
use Rattle.graph_parts.specs.declared.bag.BagHead.{BagHead}
use Rattle.graph_parts.specs.declared.bag.BagHead.TheVariants as bags_of
use Rattle.graph_parts.proofs.Apart.{alone_head, heads_alone, heads_have_bags}
use Rattle.graph_core.specs.Elements.{Made, has}
use Rattle.graph_pads.specs.declared.pad.PadLink.{PadLink}
use Rattle.graph_tasks.specs.Frames.{HaveBags, IsHeadFrame}
use Rattle.lane_core.specs.declared.ends.Inlet as inlets
use Rattle.lane_core.specs.declared.ends.Outlet as outlets
use Rattle.net_task.specs.Frame.{HeadFrame, by_inlets, by_source, frame_of}
use Rattle.net_task.specs.declared.task.Task.{Task}
use Rattle.net_turns.specs.Ends.{head_number}
use Rattle.gst_value.proofs.Places.{found_at as got_within, map_got}

-- the head of the task of a bag is that of the bag
frame_number : (made : List Made) (links : List PadLink) (bag : BagHead) (frame : HeadFrame) → IsHeadFrame made links bag frame → head_number frame ≡ bag_number bag
frame_number made links (bags_of.Source cell) (by_source number file wire) is = is.0
frame_number made links (bags_of.Inlets n) (by_inlets number rows) is = is.0
frame_number made links (bags_of.Source cell) (by_inlets number rows) is = absurd is
frame_number made links (bags_of.Inlets n) (by_source number file wire) is = absurd is

module _ {S E I O L : Type 0} {s : givers.Ghosts S} {e : elements.Ghosts E} {i : inlets.Ghosts I L O} {o : outlets.Ghosts O L}
    (made : List Made) (links : List PadLink) (bags : List Bag) (tasks : List (Task S E I O L s e i o)) (have : HaveBags made links bags tasks)
    (bags_are : AreHeadBags made links bags) where
  abbrev number_in : Task S E I O L s e i o → ℕ
  number_in task = head_number (frame_of task).head

  number_is : (k : ℕ) (bag : Bag) (task : Task S E I O L s e i o) → slice_get bags k ≡ Some bag → slice_get tasks k ≡ Some task → number_in task ≡ head_of bag
  number_is k bag task at to = frame_number made links bag.head (frame_of task).head (have.each k bag task at to).head

  -- there are as many as tasks
  pub heads_count : length (heads_in made) ≡ length tasks
  heads_count = ap length (sym (heads_alone made links bags bags_are)) ∙ map_size head_of bags ∙ sym have.count
    where
      map_size : (f : Bag → ℕ) (xs : List Bag) → length (map f xs) ≡ length xs
      map_size f [] = refl
      map_size f (x ∷ xs) = ap suc (map_size f xs)

  -- a task begins with a head
  pub is_task_head : (k : ℕ) (task : Task S E I O L s e i o) → slice_get tasks k ≡ Some task → has is_head made (number_in task) ≡ true
  is_task_head k task to =
      let within = slice_get_within tasks k task to in
      let bag = got_within bags k (omega (arith, within, have.count)) in
      ap (has is_head made) (number_is k bag.0 task bag.1 to) ∙ alone_head made links bags bags_are k bag.0 bag.1

  -- the one at a place is that of the task there
  pub head_task : (k head : ℕ) → slice_get (heads_in made) k ≡ Some head
      → (task : Task S E I O L s e i o) × (slice_get tasks k ≡ Some task) × (number_in task ≡ head)
  head_task k head at =
      let bag = map_got head_of bags k head (ap (λ (hs : List ℕ). slice_get hs k) (heads_alone made links bags bags_are) ∙ at) in
      let within = slice_get_within bags k bag.0 bag.1 in
      let task = got_within tasks k (omega (arith, within, have.count)) in
      (task.0, task.1, number_is k bag.0 task.0 bag.1 task.1 ∙ sym bag.2)

  -- and each has a task
  pub task_with : (head : ℕ) → has is_head made head ≡ true
      → (k : ℕ) × (task : Task S E I O L s e i o) × (slice_get tasks k ≡ Some task) × (number_in task ≡ head)
  task_with head is =
      let bag = heads_have_bags made links bags bags_are.are head is in
      let within = slice_get_within bags bag.number bag.bag bag.is in
      let task = got_within tasks bag.number (omega (arith, within, have.count)) in
      (bag.number, task.0, task.1, number_is bag.number bag.bag task.0 bag.is task.1 ∙ bag.head)
