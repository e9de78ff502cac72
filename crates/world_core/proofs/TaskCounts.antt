-- What tasks have counted: at the numbers of the source pads of their elements, what crossed them.
use Rattle.std.proofs.Common.{◌≡◌, ◌⊎◌, ◌<◌, ℕ, zero, suc, List, [], ◌∷◌, ◌++◌, Some, length, map, refl, sym, ap, ap₂, ◌∙◌, subst, inl, inr, arith}
use Rattle.std.specs.Prelude.{slice_get}
use Rattle.std.specs.Option.{option_map}
use Rattle.std.proofs.lemmas.List.{length-map}
use Rattle.std.proofs.lemmas.Option.{slice_get-map, slice_get_within}
use Rattle.flow_model.specs.declared.element.TaskElement as elements
use Rattle.flow_model.specs.declared.source.TaskSource as sources
use Rattle.flow_model.specs.Account.{IsMember}
use Rattle.flow_model.specs.Item.{Item, buffers}
use Rattle.graph_parts.specs.Bags.{cells, head_cells, number_of as number_in}
use Rattle.graph_parts.specs.BagLaws.{StandsIn}
use Rattle.graph_parts.specs.Links.{source_count}
use Rattle.graph_parts.specs.declared.bag.Bag.{Bag}
use Rattle.graph_parts.specs.declared.bag.BagHead.{BagHead}
use Rattle.graph_parts.specs.declared.bag.BagHead.TheVariants as bags
use Rattle.graph_core.specs.Elements.{Made}
use Rattle.graph_pads.specs.declared.pad.PadLink.{PadLink}
use Rattle.graph_tasks.specs.Frames.{HaveBags, IsFrameOf, IsHeadFrame, IsPartFrame}
use Rattle.graph_tasks.specs.Written.{HeadCrossed, PadsCrossed, TaskCrossed}
use Rattle.graph_parts.specs.Counts.{HeadCounted, IsCountOf, PartCounted, TaskCounted, TasksCounted}
use Rattle.graph_parts.specs.declared.counts.Count.{Count}
use Rattle.lane_core.specs.declared.ends.Inlet as inlets
use Rattle.lane_core.specs.declared.ends.Outlet as outlets
use Rattle.graph_core.specs.GraphPlan.{pad_id, sink_at as place_at}
use Rattle.flow_model.specs.Moment.{Moment}
use Rattle.net_task.specs.Frame.{frame_of, head_frame, part_frame, wire_of}
use Rattle.net_task.specs.declared.task.Task.{Task}
use Rattle.task_pads.specs.Pads.{HasCrossed, crossed_count, number_of}
use Rattle.task_pads.specs.declared.pad.Pad.{Pad}
use Rattle.task_parts.specs.declared.head.Head.{Head}
use Rattle.task_parts.specs.declared.head.Head.TheVariants.{Source, Inlets}
use Rattle.task_parts.specs.declared.part.Part.{Part}
use Rattle.gst_value.proofs.Places.{found_at as get_within}

-- a number among those of a list is that of one of it
member_at : {A : Type 0} (f : A → ℕ) (xs : List A) (d : ℕ) → IsMember d (map f xs) → (k : ℕ) × (x : A) × (slice_get xs k ≡ Some x) × (f x ≡ d)
member_at f [] d none = absurd none
member_at f (x ∷ xs) d (inl same) = (zero, x, refl, sym same)
member_at f (x ∷ xs) d (inr further) = let found = member_at f xs d further in (suc found.0, found.1, found.2, found.3)

member_of_two : {A : Type 0} (f : A → ℕ) (xs ys : List A) (d : ℕ) → IsMember d (map f (xs ++ ys)) → IsMember d (map f xs) ⊎ IsMember d (map f ys)
member_of_two f [] ys d is = inr is
member_of_two f (x ∷ xs) ys d (inl same) = inl (inl same)
member_of_two f (x ∷ xs) ys d (inr further) = by (member_of_two f xs ys d further)
  where
    by : IsMember d (map f xs) ⊎ IsMember d (map f ys) → IsMember d (map f (x ∷ xs)) ⊎ IsMember d (map f ys)
    by (inl one) = inl (inr one)
    by (inr other) = inr other

-- a count tells of a list how long it is, and how many buffers it has
pub record IsTold (x : Count) (h : List Item) : Type 0 where
  pub items_are : x.items ≡ length h
  pub buffers_are : x.buffers ≡ buffers h

told_by : {O : Type 0} (pad : Pad O) (x : Count) (h : ℕ → List Item) (p : ℕ) → IsCountOf pad x → HasCrossed pad (h (number_of pad)) → number_of pad ≡ p
    → IsTold x (h p)
told_by pad x h p count crossed number = record {
  items_are = count.crossed ∙ crossed.crossed ∙ ap (λ (n : ℕ). length (h n)) number;
  buffers_are = count.told (h (number_of pad)) crossed ∙ ap (λ (n : ℕ). buffers (h n)) number;
}

pub count_by : {O : Type 0} (pad : Pad O) (h : List Item) → HasCrossed pad h → (x : Count) × IsCountOf pad x
count_by pad h crossed = (
  record { items = crossed_count pad; buffers = buffers h },
  record { crossed = refl; told = λ other also. sym crossed.buffers ∙ also.buffers },
)

-- what the pads of a task counted at a number is what crossed that
module _ (m : Moment) where
  part_told : {E O : Type 0} {e : elements.Ghosts E} (part : Part E O e) → PadsCrossed m part → (p : ℕ) (x : Count) → PartCounted part p x → IsTold x (m.history p)
  part_told part crossed p x counted = told_by counted.one x m.history p counted.inside.1 (crossed counted.place counted.one counted.at) counted.inside.0

  head_told : {S I O : Type 0} {s : sources.Ghosts S} (head : Head S I O s) → HeadCrossed m head → (p : ℕ) (x : Count) → HeadCounted head p x → IsTold x (m.history p)
  head_told (Source head) crossed p x counted = told_by head.pad x m.history p counted.1 crossed counted.0
  head_told (Inlets head) crossed p x counted = absurd counted

  module _ {S E I O L : Type 0} {s : sources.Ghosts S} {e : elements.Ghosts E} {i : inlets.Ghosts I L O} {o : outlets.Ghosts O L} where
    task_told : (task : Task S E I O L s e i o) → TaskCrossed m task → (p : ℕ) (x : Count) → TaskCounted task p x → IsTold x (m.history p)
    task_told task crossed p x (inl counted) = head_told task.head crossed.head p x counted
    task_told task crossed p x (inr counted) = part_told counted.one (crossed.parts counted.place counted.one counted.at) p x counted.inside

    pub counted_told : (tasks : List (Task S E I O L s e i o))
        → ((place : ℕ) (task : Task S E I O L s e i o) → slice_get tasks place ≡ Some task → TaskCrossed m task)
        → (p : ℕ) (x : Count) → TasksCounted tasks p x → IsTold x (m.history p)
    counted_told tasks crossed p x counted = task_told counted.one (crossed counted.place counted.one counted.at) p x counted.inside

-- and they count at the number of each source pad of their elements
module _ (made : List Made) (links : List PadLink) (m : Moment) where
  module _ {E O L : Type 0} {e : elements.Ghosts E} (o : outlets.Ghosts O L) where
    part_there : (n port : ℕ) (part : Part E O e) → IsPartFrame made links n (part_frame o part) → PadsCrossed m part → port < source_count made n
        → (x : Count) × PartCounted part (pad_id (place_at n port)) x
    part_there n port part frame crossed some =
        let pad = get_within part.pads.items port (subst (λ (k : ℕ). port < k) (sym frame.all ∙ length-map part.pads.items (wire_of o)) some) in
        let wire = frame.wires port (wire_of o pad.0) (slice_get-map (wire_of o) part.pads.items port ∙ ap (option_map (wire_of o)) pad.1) in
        let count = count_by pad.0 (m.history (number_of pad.0)) (crossed port pad.0 pad.1) in
        (count.0, record { place = port; one = pad.0; at = pad.1; inside = (wire.number, count.1) })

  module _ {S I O L : Type 0} {s : sources.Ghosts S} (o : outlets.Ghosts O L) where
    head_there : (bagged : BagHead) (head : Head S I O s) → IsHeadFrame made links bagged (head_frame o head) → HeadCrossed m head
        → (d port : ℕ) → IsMember d (map number_in (head_cells bagged)) → port < source_count made d → (x : Count) × HeadCounted head (pad_id (place_at d port)) x
    head_there (bags.Source cell) (Source head) frame crossed d port (inl same) some =
        let first : port ≡ 0 = let one = frame.1 in let w = subst (λ (n : ℕ). port < source_count made n) same some in omega (arith, one, w) in
        let count = count_by head.pad (m.history (number_of head.pad)) crossed in
        (count.0, (frame.2.number ∙ ap₂ (λ (n k : ℕ). pad_id (place_at n k)) (sym same) (sym first), count.1))
    head_there (bags.Source cell) (Source head) frame crossed d port (inr none) some = absurd none
    head_there (bags.Source cell) (Inlets head) frame crossed d port among some = absurd frame
    head_there (bags.Inlets n) head frame crossed d port among some = absurd among

  module _ {S E I O L : Type 0} {s : sources.Ghosts S} {e : elements.Ghosts E} {i : inlets.Ghosts I L O} {o : outlets.Ghosts O L} where
    task_there : (bag : Bag) (task : Task S E I O L s e i o) → IsFrameOf made links bag (frame_of task) → TaskCrossed m task
        → (d port : ℕ) → port < source_count made d → IsMember d (map number_in (cells bag)) → (x : Count) × TaskCounted task (pad_id (place_at d port)) x
    task_there bag task frame crossed d port some among = by (member_of_two number_in bag.elements.items (head_cells bag.head) d among)
      where
        by : IsMember d (map number_in bag.elements.items) ⊎ IsMember d (map number_in (head_cells bag.head))
            → (x : Count) × TaskCounted task (pad_id (place_at d port)) x
        by (inl inner) =
            let cell = member_at number_in bag.elements.items d inner in
            let within = slice_get_within bag.elements.items cell.0 cell.1 cell.2 in
            let count = sym frame.count ∙ length-map task.parts.items (part_frame o) in
            let part = get_within task.parts.items cell.0 (subst (λ (n : ℕ). cell.0 < n) count within) in
            let at = slice_get-map (part_frame o) task.parts.items cell.0 ∙ ap (option_map (part_frame o)) part.1 in
            let own = subst (λ (n : ℕ). IsPartFrame made links n (part_frame o part.0)) cell.3 (frame.parts cell.0 cell.1 (part_frame o part.0) cell.2 at) in
            let found = part_there o d port part.0 own (crossed.parts cell.0 part.0 part.1) some in
            (found.0, inr (record { place = cell.0; one = part.0; at = part.1; inside = found.1 }))
        by (inr head) = let count = head_there o bag.head task.head frame.head crossed.head d port head some in (count.0, inl count.1)

    pub counted_there : (all : List Bag) (tasks : List (Task S E I O L s e i o)) → HaveBags made links all tasks
        → ((place : ℕ) (task : Task S E I O L s e i o) → slice_get tasks place ≡ Some task → TaskCrossed m task)
        → (d port k : ℕ) → port < source_count made d → StandsIn all k d → (x : Count) × TasksCounted tasks (pad_id (place_at d port)) x
    counted_there all tasks have crossed d port k some in_bag =
        let task = get_within tasks k (subst (λ (n : ℕ). k < n) (sym have.count) (slice_get_within all k in_bag.bag in_bag.is)) in
        let count = task_there in_bag.bag task.0 (have.each k in_bag.bag task.0 in_bag.is task.1) (crossed k task.0 task.1) d port some in_bag.among in
        (count.0, record { place = k; one = task.0; at = task.1; inside = count.1 })
