-- The tasks of bags: which of them an element is of.
use Rattle.std.proofs.Common.{◌≡◌, ◌⊎◌, ℕ, zero, suc, List, [], ◌∷◌, ◌++◌, None, Some, length, map, refl, sym, ap, ◌∙◌, subst, inl, inr, arith}
use Rattle.std.proofs.Common.{true, false, eqb}
use Rattle.std.specs.Prelude.{slice_get}
use Rattle.std.proofs.lemmas.Bool.Decides.{eqb_tells}
use Rattle.std.proofs.lemmas.Option.{same_Some, slice_get_within}
use Rattle.flow_model.specs.Account.{IsMember}
use Rattle.lane_core.specs.declared.ends.Inlet as inlets
use Rattle.lane_core.specs.declared.ends.Outlet as outlets
use Rattle.flow_model.specs.declared.element.TaskElement as elements
use Rattle.flow_model.specs.declared.source.TaskSource as sources
use Rattle.graph_core.specs.Elements.{Made, has}
use Rattle.graph_pads.specs.declared.pad.PadLink.{PadLink}
use Rattle.graph_parts.specs.Bags.{AreBags, IsBag, IsHead, head_cells, head_number, head_of, number_of, numbers}
use Rattle.graph_parts.specs.BagLaws.{StandsIn}
use Rattle.graph_parts.specs.Links.{source_count, Reaches}
use Rattle.el_settings.specs.Asked.{is_source}
use Rattle.graph_parts.specs.declared.bag.Bag.{Bag}
use Rattle.graph_parts.specs.declared.bag.BagElement.{BagElement}
use Rattle.graph_parts.specs.declared.bag.BagHead.{BagHead}
use Rattle.graph_parts.specs.declared.bag.BagHead.TheVariants as starts
use Rattle.task_parts.specs.declared.head.Head.{Head}
use Rattle.task_parts.specs.declared.head.Head.TheVariants as heads
use Rattle.task_parts.specs.declared.head.InletHead.{InletHead}
use Rattle.task_parts.specs.declared.head.SourceHead.{SourceHead}
use Rattle.task_parts.specs.declared.part.Part.{Part}
use Rattle.net_task.specs.declared.task.Task.{Task}
use Rattle.net_task.specs.Frame.{by_inlets, frame_of, head_frame, part_frame, wire_of}
use Rattle.net_turns.specs.Net.{IsFed}
use Rattle.graph_tasks.specs.Frames.{HaveBags, IsFrameOf, IsHeadFrame}
use Rattle.graph_tasks.proofs.BlamedFrames.{all_at}
use Rattle.gst_value.proofs.Places.{found_at as got_within, map_get as get_map}

pub map_length : {A B : Type 0} (f : A → B) (xs : List A) → length (map f xs) ≡ length xs
map_length f [] = refl
map_length f (x ∷ xs) = ap suc (map_length f xs)

-- the elements of a bag, and the source at its head behind them
pub among_front : (xs ys : List BagElement) (k : ℕ) (cell : BagElement) → slice_get xs k ≡ Some cell → IsMember cell.element (map number_of (xs ++ ys))
among_front [] ys k cell is = absurd (cc)
among_front (x ∷ xs) ys zero cell is = inl (sym (ap number_of (same_Some _ _ is)))
among_front (x ∷ xs) ys (suc k) cell is = inr (among_front xs ys k cell is)

pub among_back : (xs ys : List BagElement) (n : ℕ) → IsMember n (map number_of ys) → IsMember n (map number_of (xs ++ ys))
among_back [] ys n m = m
among_back (x ∷ xs) ys n m = inr (among_back xs ys n m)

among_either : (xs ys : List BagElement) (n : ℕ) → IsMember n (map number_of (xs ++ ys))
    → ((k : ℕ) × (cell : BagElement) × (slice_get xs k ≡ Some cell) × (cell.element ≡ n)) ⊎ IsMember n (map number_of ys)
among_either [] ys n m = inr m
among_either (x ∷ xs) ys n (inl same) = inl (zero, x, refl, sym same)
among_either (x ∷ xs) ys n (inr m) = go (among_either xs ys n m)
  where
    go : ((k : ℕ) × (cell : BagElement) × (slice_get xs k ≡ Some cell) × (cell.element ≡ n)) ⊎ IsMember n (map number_of ys)
        → ((k : ℕ) × (cell : BagElement) × (slice_get (x ∷ xs) k ≡ Some cell) × (cell.element ≡ n)) ⊎ IsMember n (map number_of ys)
    go (inl t) = inl (suc t.0, t.1, t.2, t.3)
    go (inr m) = inr m

-- the bag at a place is one of the graph, and its head is one of its elements
pub bag_is : (made : List Made) (links : List PadLink) (bags : List Bag) → AreBags made links bags → (k : ℕ) (bag : Bag) → slice_get bags k ≡ Some bag
    → IsBag made links bag
bag_is made links bags are k bag at = all_at (IsBag made links) bags are.are k bag at

pub head_among : (made : List Made) (links : List PadLink) (bag : Bag) → IsBag made links bag → IsMember (head_of bag) (numbers bag)
head_among made links bag is = is.whole (head_of bag) Reaches.itself

-- an element stands in a bag, or in none
member_or_not : (n : ℕ) (xs : List ℕ) → IsMember n xs ⊎ (IsMember n xs → ⊥)
member_or_not n [] = inr (λ m. m)
member_or_not n (x ∷ xs) = go (eqb_tells n x) (member_or_not n xs)
  where
    neither : (n ≡ x → ⊥) → (IsMember n xs → ⊥) → IsMember n (x ∷ xs) → ⊥
    neither other none (inl same) = other same
    neither other none (inr m) = none m

    go : ((eqb n x ≡ true) × (n ≡ x)) ⊎ ((eqb n x ≡ false) × (n ≡ x → ⊥)) → IsMember n xs ⊎ (IsMember n xs → ⊥)
        → IsMember n (x ∷ xs) ⊎ (IsMember n (x ∷ xs) → ⊥)
    go (inl t) rest = inl (inl t.1)
    go (inr f) (inl m) = inl (inr m)
    go (inr f) (inr none) = inr (neither f.1 none)

abbrev pub IsLoose : List Bag → ℕ → Type 0
IsLoose bags n = (k : ℕ) → StandsIn bags k n → ⊥

pub in_bag_or_loose : (bags : List Bag) (n : ℕ) → ((k : ℕ) × StandsIn bags k n) ⊎ IsLoose bags n
in_bag_or_loose [] n = inr (λ k s. none s.is)
  where
    none : {bag : Bag} {A : Type 0} → None ≡ Some bag → A
    none e = absurd (cc)
in_bag_or_loose (b ∷ bs) n = go (member_or_not n (numbers b)) (in_bag_or_loose bs n)
  where
    neither : (IsMember n (numbers b) → ⊥) → IsLoose bs n → (k : ℕ) → StandsIn (b ∷ bs) k n → ⊥
    neither none loose zero s = none (subst (λ (bag : Bag). IsMember n (numbers bag)) (sym (same_Some _ _ s.is)) s.among)
    neither none loose (suc k) s = loose k (record { bag = s.bag; is = s.is; among = s.among })

    go : IsMember n (numbers b) ⊎ (IsMember n (numbers b) → ⊥) → ((k : ℕ) × StandsIn bs k n) ⊎ IsLoose bs n
        → ((k : ℕ) × StandsIn (b ∷ bs) k n) ⊎ IsLoose (b ∷ bs) n
    go (inl m) rest = inl (zero, record { bag = b; is = refl; among = m })
    go (inr none) (inl t) = inl (suc t.0, record { bag = t.1.bag; is = t.1.is; among = t.1.among })
    go (inr none) (inr loose) = inr (neither none loose)

module _ {S E I O L : Type 0} {s : sources.Ghosts S} {e : elements.Ghosts E} {i : inlets.Ghosts I L O} {o : outlets.Ghosts O L} where
  -- an element is one of a task, with its number, or its source
  pub data HasOwn (made : List Made) (task : Task S E I O L s e i o) (n : ℕ) : Type 0 where
    own_part : (place : ℕ) (part : Part E O e) → slice_get task.parts.items place ≡ Some part → part.number ≡ n → HasOwn made task n
    own_source : (head : SourceHead S O s) → task.head ≡ heads.Source head → head.number ≡ n → has is_source made n ≡ true → HasOwn made task n

  -- it is so of the task at this place
  pub record OwnsOne (made : List Made) (tasks : List (Task S E I O L s e i o)) (k n : ℕ) : Type 0 where
    pub task : Task S E I O L s e i o
    pub at : slice_get tasks k ≡ Some task
    pub own : HasOwn made task n

module _ {S E I O L : Type 0} {s : sources.Ghosts S} {e : elements.Ghosts E} {i : inlets.Ghosts I L O} {o : outlets.Ghosts O L}
    (made : List Made) (links : List PadLink) (bags : List Bag) (tasks : List (Task S E I O L s e i o)) (have : HaveBags made links bags tasks) where
  -- the bag of the task at a place, and the task of the bag
  pub bag_of : (k : ℕ) (task : Task S E I O L s e i o) → slice_get tasks k ≡ Some task
      → (bag : Bag) × (slice_get bags k ≡ Some bag) × IsFrameOf made links bag (frame_of task)
  bag_of k task at =
      let w = slice_get_within tasks k task at in
      let count = have.count in
      let b = got_within bags k (omega (arith, w, count)) in
      (b.0, b.1, have.each k b.0 task b.1 at)

  -- an element of a task has as many pads as that of the graph
  pub part_own : (k : ℕ) (task : Task S E I O L s e i o) → slice_get tasks k ≡ Some task → (place : ℕ) (part : Part E O e) → slice_get task.parts.items place ≡ Some part
      → length (map (wire_of o) part.pads.items) ≡ source_count made part.number
  part_own k task task_at place part at =
      let b = bag_of k task task_at in
      let count = b.2.count in
      let size = map_length (part_frame o) task.parts.items in
      let w = slice_get_within task.parts.items place part at in
      let c = got_within b.0.elements.items place (omega (arith, w, count, size)) in
      let is = b.2.parts place c.0 (part_frame o part) c.1 (get_map (part_frame o) task.parts.items place part at) in
      subst (λ (d : ℕ). length (map (wire_of o) part.pads.items) ≡ source_count made d) (sym is.number) is.all

  pub task_of : (k : ℕ) (bag : Bag) → slice_get bags k ≡ Some bag
      → (task : Task S E I O L s e i o) × (slice_get tasks k ≡ Some task) × IsFrameOf made links bag (frame_of task)
  task_of k bag at =
      let w = slice_get_within bags k bag at in
      let count = have.count in
      let t = got_within tasks k (omega (arith, w, count)) in
      (t.0, t.1, have.each k bag t.0 at t.1)

  -- a head that is fed from inlets is the head of its bag
  pub fed_number : (head : BagHead) (own : Head S I O s) (fed : InletHead I) → own ≡ heads.Inlets fed → IsHeadFrame made links head (head_frame o own)
      → head_number head ≡ fed.number
  fed_number head own fed is frame = go head (subst (λ (h : Head S I O s). IsHeadFrame made links head (head_frame o h)) is frame)
    where
      go : (head : BagHead) → IsHeadFrame made links head (by_inlets fed.number (length fed.rows.items)) → head_number head ≡ fed.number
      go (starts.Source cell) none = absurd none
      go (starts.Inlets n) frame = sym frame.0

  pub fed_bag : AreBags made links bags → (k : ℕ) (head : InletHead I) → IsFed tasks k head → StandsIn bags k head.number
  fed_bag are k head fed =
      let b = bag_of k fed.task fed.at in
      record {
        bag = b.0;
        is = b.1;
        among = subst (λ (n : ℕ). IsMember n (numbers b.0)) (fed_number b.0.head fed.task.head head fed.head_is b.2.head)
            (head_among made links b.0 (bag_is made links bags are k b.0 b.1));
      }

  -- an element in a bag is one of the bag's task
  by_head : (head : BagHead) → IsHead made links head → (task : Task S E I O L s e i o) (own : Head S I O s) → task.head ≡ own
      → IsHeadFrame made links head (head_frame o own)
      → (n : ℕ) → IsMember n (map number_of (head_cells head)) → HasOwn made task n
  by_head (starts.Source cell) is task (heads.Source own) at frame n (inl same) =
      own_source own at (frame.0 ∙ sym same) (subst (λ (d : ℕ). has is_source made d ≡ true) (sym same) is)
  by_head (starts.Source cell) is task (heads.Source own) at frame n (inr none) = absurd none
  by_head (starts.Source cell) is task (heads.Inlets own) at frame n m = absurd frame
  by_head (starts.Inlets h) is task own at frame n m = absurd m

  by_frame : (bag : Bag) → IsBag made links bag → (task : Task S E I O L s e i o) → IsFrameOf made links bag (frame_of task) → (n : ℕ)
      → ((place : ℕ) × (cell : BagElement) × (slice_get bag.elements.items place ≡ Some cell) × (cell.element ≡ n))
      ⊎ IsMember n (map number_of (head_cells bag.head)) → HasOwn made task n
  by_frame bag is task frame n (inl t) =
      let count = frame.count in
      let size = map_length (part_frame o) task.parts.items in
      let w = slice_get_within bag.elements.items t.0 t.1 t.2 in
      let p = got_within task.parts.items t.0 (omega (arith, w, count, size)) in
      own_part t.0 p.0 p.1 ((frame.parts t.0 t.1 (part_frame o p.0) t.2 (get_map (part_frame o) task.parts.items t.0 p.0 p.1)).number ∙ t.3)
  by_frame bag is task frame n (inr m) = by_head bag.head is.head task task.head refl frame.head n m

  pub stands_own : AreBags made links bags → (k n : ℕ) → StandsIn bags k n → OwnsOne made tasks k n
  stands_own are k n stands =
      let t = task_of k stands.bag stands.is in
      let is = bag_is made links bags are k stands.bag stands.is in
      record {
        task = t.0;
        at = t.1;
        own = by_frame stands.bag is t.0 t.2 n
            (among_either stands.bag.elements.items (head_cells stands.bag.head) n stands.among);
      }
