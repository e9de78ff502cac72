-- The elements and pads of a task of a graph, by its frame.
use Rattle.std.proofs.Common.{◌≡◌, ◌<◌, ◌++◌, ℕ, zero, suc, Bool, true, false, if◌then◌else◌, List, [], ◌∷◌, All, Option, None, Some, length, map, refl, sym, ap, ◌∙◌, subst, inl, inr, arith}
use Rattle.std.specs.Prelude.{slice_get}
use Rattle.std.proofs.lemmas.Option.{slice_get_within}
use Rattle.flow_model.specs.Account.{IsMember}
use Rattle.lane_core.specs.declared.ends.Inlet as inlets
use Rattle.lane_core.specs.declared.ends.Outlet as outlets
use Rattle.flow_model.specs.declared.element.TaskElement as elements
use Rattle.flow_model.specs.declared.source.TaskSource as sources
use Rattle.el_settings.specs.Asked.{source_pads, is_source}
use Rattle.graph_core.specs.Elements.{Made, has}
use Rattle.graph_core.specs.Links.{HasPads}
use Rattle.graph_pads.specs.Links.{sink_behind}
use Rattle.graph_pads.specs.declared.pad.PadLink.{PadLink}
use Rattle.graph_pads.specs.declared.pad.PadPlace.{PadPlace}
use Rattle.graph_parts.specs.Bags.{AreBags, IsBag, IsHead, head_cells, number_of, numbers}
use Rattle.graph_parts.specs.Links.{has_inlets, link_to, source_count}
use Rattle.graph_parts.specs.declared.bag.Bag.{Bag}
use Rattle.graph_parts.specs.declared.bag.BagElement.{BagElement}
use Rattle.graph_parts.specs.declared.bag.BagHead.{BagHead}
use Rattle.graph_parts.specs.declared.bag.BagHead.TheVariants.{Inlets, Source}
use Rattle.graph_parts.specs.declared.bag.BagLink.TheVariants.{Element, Lane}
use Rattle.graph_parts.proofs.Apart.{bags_are_there}
use Rattle.graph_core.specs.GraphPlan.{pad_id, sink_at as place_at}
use Rattle.task_pads.specs.Behind.{inside, nowhere}
use Rattle.net_task.specs.declared.task.Task.{Task}
use Rattle.net_task.specs.Frame.{HeadFrame, IsWire, PartFrame, TaskFrame, Wire, by_inlets, by_source, frame_of, head_wire, of_head, of_part}
use Rattle.graph_tasks.proofs.Awaited.{element_at}
use Rattle.graph_tasks.specs.Frames.{HaveBags, IsFrameOf, IsHeadFrame, IsPartFrame, IsWireOf, goes_by}
use Rattle.gst_value.proofs.Basics.{some_same, none_some}
use Rattle.gst_value.proofs.Places.{found_at as got_within}

pub all_at : {A : Type 0} (P : A → Type 0) (xs : List A) → All P xs → (k : ℕ) (x : A) → slice_get xs k ≡ Some x → P x
all_at P [] all k x at = absurd (none_some at)
all_at P (y ∷ xs) all zero x at = subst P (some_same at) (all 0 y (omega arith))
all_at P (y ∷ xs) all (suc k) x at = all_at P xs (λ j d w. all (suc j) d (omega (arith, w))) k x at

-- an element of a bag, and the source at its head, are among its numbers
pub member_at : (xs : List BagElement) (k : ℕ) (cell : BagElement) → slice_get xs k ≡ Some cell → (more : List BagElement)
    → IsMember cell.element (map number_of (xs ++ more))
member_at [] k cell at more = absurd (none_some at)
member_at (x ∷ xs) zero cell at more = inl (ap number_of (sym (some_same at)))
member_at (x ∷ xs) (suc k) cell at more = inr (member_at xs k cell at more)

pub member_last : (xs : List BagElement) (own : BagElement) → IsMember own.element (map number_of (xs ++ own ∷ []))
member_last [] own = inl refl
member_last (x ∷ xs) own = inr (member_last xs own)

-- the bag of a task
pub record HasBag (made : List Made) (links : List PadLink) (bags : List Bag) (place : ℕ) (frame : TaskFrame) : Type 0 where
  pub bag : Bag
  pub at : slice_get bags place ≡ Some bag
  pub is : IsBag made links bag
  pub of : IsFrameOf made links bag frame

pub bag_of : {S E I O L : Type 0} {s : sources.Ghosts S} {e : elements.Ghosts E} {i : inlets.Ghosts I L O} {o : outlets.Ghosts O L}
    (made : List Made) (links : List PadLink) (bags : List Bag) (tasks : List (Task S E I O L s e i o)) → AreBags made links bags
    → HaveBags made links bags tasks
    → (place : ℕ) (task : Task S E I O L s e i o) → slice_get tasks place ≡ Some task → HasBag made links bags place (frame_of task)
bag_of made links bags tasks are have place task at =
    let count = have.count in
    let few = slice_get_within tasks place task at in
    let b = got_within bags place (omega (arith, few, count)) in
    record { bag = b.0; at = b.1; is = all_at (IsBag made links) bags are.are place b.0 b.1; of = have.each place b.0 task b.1 at }

-- a pad that leads where its link goes is not linked where it leads nowhere
not_linked : (made : List Made) (found : Option PadPlace) → goes_by (link_to made found) ≡ nowhere → found ≡ None
not_linked made None goes = refl
not_linked made (Some sink) goes = go (has has_inlets made sink.element) goes
  where
    go : (b : Bool) → goes_by (if b then Lane sink.element sink.pad else Element sink.element sink.pad) ≡ nowhere → Some sink ≡ None
    go true is = absurd cc
    go false is = absurd cc

-- one that leads to an element of its own task leads to none that is fed from inlets
inner_leads : (made : List Made) (found : Option PadPlace) (n pad : ℕ) → goes_by (link_to made found) ≡ inside n pad → has has_inlets made n ≡ false
inner_leads made None n pad goes = absurd cc
inner_leads made (Some sink) n pad goes = go (has has_inlets made sink.element) refl goes
  where
    go : (b : Bool) → has has_inlets made sink.element ≡ b → goes_by (if b then Lane sink.element sink.pad else Element sink.element sink.pad) ≡ inside n pad
        → has has_inlets made n ≡ false
    go true is same = absurd cc
    go false is same = let one : sink.element ≡ n = cc in subst (λ (e : ℕ). has has_inlets made e ≡ false) one is

-- A pad of a task is one of an element of the graph, and leads where its link goes.
pub record HasWire (made : List Made) (links : List PadLink) (wire : Wire) : Type 0 where
  pub source : PadPlace
  pub element : Made
  pub at : slice_get made source.element ≡ Some element
  pub few : source.pad < source_pads element.settings
  pub is : wire.number ≡ pad_id source
  pub leads : wire.leads ≡ goes_by (link_to made (sink_behind links source))

wire_is : (made : List Made) (links : List PadLink) (n port : ℕ) (wire : Wire) → port < source_count made n → IsWireOf made links n port wire
    → HasWire made links wire
wire_is made links n port wire few is =
    let one = element_at made (place_at n port) few in
    record { source = place_at n port; element = one.element; at = one.at; few = one.few; is = is.number; leads = is.leads }

-- that pad is not linked where it leads nowhere
pub wire_alone : (made : List Made) (links : List PadLink) (wire : Wire) (w : HasWire made links wire) → wire.leads ≡ nowhere
    → sink_behind links w.source ≡ None
wire_alone made links wire w leads = not_linked made (sink_behind links w.source) (sym w.leads ∙ leads)

-- and where it leads to an element of its task, that is not fed from inlets
pub wire_inner : (made : List Made) (links : List PadLink) (wire : Wire) (w : HasWire made links wire) (n pad : ℕ) → wire.leads ≡ inside n pad
    → has has_inlets made n ≡ false
wire_inner made links wire w n pad leads = inner_leads made (sink_behind links w.source) n pad (sym w.leads ∙ leads)

module _ (made : List Made) (links : List PadLink) (bags : List Bag) (place : ℕ) (frame : TaskFrame) (all : All (HasPads made) links)
    (are : AreBags made links bags) (b : HasBag made links bags place frame) where
  member_there : (n : ℕ) → IsMember n (numbers b.bag) → n < length made
  member_there n among = bags_are_there made links bags all are place n (record { bag = b.bag; is = b.at; among = among })

  -- an element of a task, with that of its bag
  pub cell_at : (j : ℕ) (part : PartFrame) → slice_get frame.parts j ≡ Some part → (cell : BagElement) × (slice_get b.bag.elements.items j ≡ Some cell)
      × IsPartFrame made links cell.element part
  cell_at j part at =
      let few = slice_get_within frame.parts j part at in
      let count = b.of.count in
      let c = got_within b.bag.elements.items j (omega (arith, few, count)) in
      (c.0, c.1, b.of.parts j c.0 part c.1 at)

  -- is there in the graph
  pub part_there : (j : ℕ) (part : PartFrame) → slice_get frame.parts j ≡ Some part → part.number < length made
  part_there j part at =
      let c = cell_at j part at in
      subst (λ (n : ℕ). n < length made) (sym c.2.number) (member_there c.0.element (member_at b.bag.elements.items j c.0 c.1 (head_cells b.bag.head)))

  -- and so is the source of a task
  pub source_there : (n : ℕ) (file : Option (Option (List ℕ))) (wire : Wire) → frame.head ≡ by_source n file wire → n < length made
  source_there n file wire is = go b.bag.head refl (subst (IsHeadFrame made links b.bag.head) is b.of.head)
    where
      go : (own : BagHead) → b.bag.head ≡ own → IsHeadFrame made links own (by_source n file wire) → n < length made
      go (Source cell) same of =
          subst (λ (k : ℕ). k < length made) (sym of.0)
          (member_there cell.element (subst (λ (h : BagHead). IsMember cell.element (map number_of (b.bag.elements.items ++ head_cells h))) (sym same)
          (member_last b.bag.elements.items cell)))
      go (Inlets k) same of = absurd of

  -- it is a source of the graph, with one source pad
  pub source_is : (n : ℕ) (file : Option (Option (List ℕ))) (wire : Wire) → frame.head ≡ by_source n file wire
      → (has is_source made n ≡ true) × (source_count made n ≡ 1)
  source_is n file wire is = go b.bag.head (subst (IsHeadFrame made links b.bag.head) is b.of.head) b.is.head
    where
      go : (own : BagHead) → IsHeadFrame made links own (by_source n file wire) → IsHead made links own → (has is_source made n ≡ true) × (source_count made n ≡ 1)
      go (Source cell) of head = subst (λ (j : ℕ). (has is_source made j ≡ true) × (source_count made j ≡ 1)) (sym of.0) (head, of.1)
      go (Inlets k) of head = absurd of

  -- a pad of a task is one of the graph
  pub wire_there : (wire : Wire) → IsWire frame wire → HasWire made links wire
  wire_there wire (of_part j port w) =
      let c = cell_at j w.part w.at in
      let few = slice_get_within w.part.wires port wire w.pad_at in
      let count = c.2.all in
      wire_is made links c.0.element port wire (omega (arith, few, count)) (c.2.wires port wire w.pad_at)
  wire_there wire (of_head is) = go frame.head is b.bag.head b.of.head
    where
      go : (head : HeadFrame) → head_wire head ≡ Some wire → (own : BagHead) → IsHeadFrame made links own head → HasWire made links wire
      go (by_source number file one) same (Source cell) of =
          let count = of.1 in
          wire_is made links cell.element 0 wire (omega (arith, count)) (subst (IsWireOf made links cell.element 0) (some_same same) of.2)
      go (by_source number file one) same (Inlets k) of = absurd of
      go (by_inlets number rows) same own of = absurd (none_some same)
