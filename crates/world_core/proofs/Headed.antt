-- Where the sources at the heads of tasks that were stepped come from.
use Rattle.std.proofs.Common.{◌≡◌, ◌||◌, ℕ, Bool, true, false, List, Option, Some, length, refl, sym, ap, ◌∙◌, subst, inl, arith}
use Rattle.std.specs.Prelude.{slice_get}
use Rattle.std.specs.Option.{option_map_or}
use Rattle.std.proofs.lemmas.Option.{same_Some, slice_get_within}
use Rattle.flow_model.specs.declared.element.TaskElement as elements
use Rattle.flow_model.specs.declared.source.TaskSource as givers
use Rattle.flow_model.specs.Account.{IsMember}
use Rattle.graph_parts.specs.Bags.{AreBags, IsBag, IsHead, Once, head_number}
use Rattle.graph_parts.specs.Links.{has_inlets, is_head}
use Rattle.el_settings.specs.Asked.{is_source}
use Rattle.graph_parts.specs.declared.bag.Bag.{Bag}
use Rattle.graph_parts.specs.declared.bag.BagElement.{BagElement}
use Rattle.graph_parts.specs.declared.bag.BagHead.{BagHead}
use Rattle.graph_parts.specs.declared.bag.BagHead.TheVariants as bags_of
use Rattle.graph_parts.proofs.Apart.{heads_have_bags}
use Rattle.graph_core.specs.Elements.{Made, has}
use Rattle.graph_pads.specs.declared.pad.PadLink.{PadLink}
use Rattle.graph_tasks.specs.Tasks.{AreTasks, IsHeadOf, IsOf}
use Rattle.graph_tasks.specs.Wired.{AreWired, IsWiredHead, source_in, source_numbers}
use Rattle.graph_tasks.specs.declared.wired_task.WiredHead.{WiredHead}
use Rattle.graph_tasks.specs.declared.wired_task.WiredHead.TheVariants as plans_of
use Rattle.graph_tasks.specs.declared.wired_task.WiredTask.{WiredTask}
use Rattle.graph_tasks.proofs.Bags.{fed_no_source}
use Rattle.lane_core.specs.Lane.{Lane}
use Rattle.lane_core.specs.declared.ends.Inlet as inlets
use Rattle.lane_core.specs.declared.ends.Outlet as outlets
use Rattle.net_task.specs.Frame.{TaskFrame, head_frame}
use Rattle.net_task.specs.declared.task.Task.{Task}
use Rattle.net_turns.specs.Rests.{AllFramed}
use Rattle.task_parts.specs.declared.head.Head.{Head}
use Rattle.task_parts.specs.declared.head.Head.TheVariants.{Source, Inlets}
use Rattle.task_parts.specs.declared.head.SourceHead.{SourceHead}
use Rattle.world_core.proofs.Members.{flat_place}
use Rattle.graph_tasks.proofs.BlamedFrames.{all_at}
use Rattle.gst_value.proofs.Places.{found_at as got_within}

-- The source of a head was taken from under its number, and reads its file where it did.
pub record GivenFrom {S I O : Type 0} (s : givers.Ghosts S) (files : List (Option S)) (plans : List (WiredTask I O)) (k e : ℕ) (x : S) : Type 0 where
  pub plan : WiredTask I O
  pub at : slice_get plans k ≡ Some plan
  pub numbered : IsMember e (source_in plan.head)
  pub was : S
  pub stood : IsOf files e was
  pub same_file : s.file x ≡ s.file was

-- The source of a number stands at the head of a task.
pub record HeadAt {S E I O L : Type 0} {s : givers.Ghosts S} {e : elements.Ghosts E} {i : inlets.Ghosts I L O} {o : outlets.Ghosts O L}
    (tasks : List (Task S E I O L s e i o)) (k n : ℕ) : Type 0 where
  pub task : Task S E I O L s e i o
  pub at : slice_get tasks k ≡ Some task
  pub own : SourceHead S O s
  pub is : task.head ≡ Source own
  pub number : own.number ≡ n

-- A head is that of a source.
record IsSource {S I O : Type 0} (s : givers.Ghosts S) (head : Head S I O s) (number : ℕ) (file : Option (Option (List ℕ))) : Type 0 where
  pub own : SourceHead S O s
  pub is : head ≡ Source own
  pub number_is : own.number ≡ number
  pub file_is : s.file own.source ≡ file

module _ {S I O L : Type 0} {s : givers.Ghosts S} (o : outlets.Ghosts O L) where
  -- a head with the frame of one of a source is one
  source_back : (own : SourceHead S O s) (head : Head S I O s) → head_frame o head ≡ head_frame {I = I} o (Source own)
      → IsSource s head own.number (s.file own.source)
  source_back own (Source other) same = record { own = other; is = refl; number_is = cc; file_is = cc }
  source_back own (Inlets other) same = absurd (cc)

one_source_head : {S I O : Type 0} {s : givers.Ghosts S} (own other : SourceHead S O s) → ◌≡◌ {A = Head S I O s} (Source own) (Source other) → own ≡ other
one_source_head own other same = cc

-- The head of a task at the start is that of its bag.
record IsGivenAt {S : Type 0} (files : List (Option S)) (bag : BagHead) (number : ℕ) (source : S) : Type 0 where
  pub cell : BagElement
  pub is : bag ≡ bags_of.Source cell
  pub number_is : number ≡ cell.element
  pub stood : IsOf files cell.element source

module _ {S I O L : Type 0} {s : givers.Ghosts S} (i : inlets.Ghosts I L O) (o : outlets.Ghosts O L) (made : List Made) (links : List PadLink) where
  given_at : (files : List (Option S)) (bag : BagHead) (head : Head S I O s) (own : SourceHead S O s) → IsHeadOf i o made links files bag head
      → head ≡ Source own
      → IsGivenAt files bag own.number own.source
  given_at files bag head own (IsHeadOf.from_source cell other number file given one pad) is =
      subst (λ (h : SourceHead S O s). IsGivenAt files (bags_of.Source cell) h.number h.source) same
      (record { cell = cell; is = refl; number_is = number; stood = file })
    where
      same : other ≡ own
      same = cc
  given_at files bag head own (IsHeadOf.from_inlets n other number count rows) is = absurd (cc)

  -- a bag that begins with a source has a task that does
  source_first : (files : List (Option S)) (bag : BagHead) (head : Head S I O s) (cell : BagElement) → IsHeadOf i o made links files bag head
      → bag ≡ bags_of.Source cell
      → (own : SourceHead S O s) × (head ≡ Source own) × (own.number ≡ cell.element)
  source_first files bag head cell (IsHeadOf.from_source other own number file given one pad) is = (own, refl, number ∙ ap (λ (c : BagElement). c.element) same)
    where
      same : other ≡ cell
      same = cc
  source_first files bag head cell (IsHeadOf.from_inlets n other number count rows) is = absurd (cc)

module _ {I O L : Type 0} (i : inlets.Ghosts I L O) (o : outlets.Ghosts O L) (made : List Made) (links : List PadLink) where
  -- and its plan has the number
  numbered_so : (bag : BagHead) (head : WiredHead I O) (cell : BagElement) → IsWiredHead i o made links bag head → bag ≡ bags_of.Source cell
      → IsMember cell.element (source_in head)
  numbered_so (bags_of.Source other) (plans_of.Source number pad) cell is same = inl (sym (is.0 ∙ ap (λ (c : BagElement). c.element) own))
    where
      own : other ≡ cell
      own = cc
  numbered_so (bags_of.Source other) (plans_of.Inlets number hint rows) cell is same = absurd is
  numbered_so (bags_of.Inlets n) (plans_of.Source number pad) cell is same = absurd is
  numbered_so (bags_of.Inlets n) (plans_of.Inlets number hint rows) cell is same = absurd (cc)

-- the bag of a source begins with it
source_bag : (made : List Made) (links : List PadLink) (e : ℕ) (m : Made) (head : BagHead) → slice_get made e ≡ Some m → is_source m.settings ≡ true → IsHead made links head
    → head_number head ≡ e
    → (cell : BagElement) × (head ≡ bags_of.Source cell) × (cell.element ≡ e)
source_bag made links e m (bags_of.Source cell) here pads is same = (cell, refl, same)
source_bag made links e m (bags_of.Inlets n) here pads is same =
    let source = ap (λ (x : Option Made). option_map_or (λ (m : Made). is_source m.settings) x false) here ∙ pads in
    absurd (no (sym (fed_no_source made links n is) ∙ ap (λ (k : ℕ). has is_source made k) same ∙ source))
  where
    no : false ≡ true → ⊥
    no e = cc

module _ {S E I O L : Type 0} {s : givers.Ghosts S} {e : elements.Ghosts E} (i : inlets.Ghosts I L O) (o : outlets.Ghosts O L)
    (made : List Made) (links : List PadLink) (ends : List (Option E)) (files : List (Option S)) (bags : List Bag)
    (first last : List (Task S E I O L s e i o)) (table : List Lane) (plans : List (WiredTask I O)) (are : AreTasks i o made links ends files bags first table)
    (wired : AreWired i o made links bags plans table) (framed : AllFramed first last) (count : length last ≡ length first) where
  pub given_from : (k n : ℕ) → (own : HeadAt last k n) → GivenFrom s files plans k n own.own.source
  given_from k n own =
      let w = slice_get_within last k own.task own.at in
      let before = got_within first k (omega (arith, w, count)) in
      let bag = got_within bags k (omega (arith, w, count, are.count)) in
      let plan = got_within plans k (omega (arith, w, count, are.count, wired.count)) in
      let is = are.each k bag.0 before.0 bag.1 before.1 in
      let made_so = wired.each k bag.0 plan.0 bag.1 plan.1 in
      let was =
      source_back o own.own before.0.head
      (sym (ap (λ (f : TaskFrame). f.head) (framed k before.0 own.task before.1 own.at)) ∙ ap (head_frame o) own.is) in
      let at = given_at i o made links files bag.0.head before.0.head was.own is.head was.is in
      let number : at.cell.element ≡ n = sym at.number_is ∙ was.number_is ∙ own.number in
      record {
        plan = plan.0;
        at = plan.1;
        numbered = subst (λ (d : ℕ). IsMember d (source_in plan.0.head)) number (numbered_so i o made links bag.0.head plan.0.head at.cell made_so.head at.is);
        was = was.own.source;
        stood = subst (λ (d : ℕ). IsOf files d was.own.source) number at.stood;
        same_file = sym was.file_is;
      }

  -- and each source of the graph is there
  pub head_there : AreBags made links bags → (n : ℕ) (m : Made) → slice_get made n ≡ Some m → is_source m.settings ≡ true → (k : ℕ) × HeadAt last k n
  head_there bags_are n m here pads =
      let is_one : has is_head made n ≡ true =
      ap (λ (x : Option Made). option_map_or (λ (m : Made). is_head m.settings) x false) here ∙ ap (λ (b : Bool). b || has_inlets m.settings) pads in
      let bag = heads_have_bags made links bags bags_are n is_one in
      let k = bag.number in
      let w = slice_get_within bags k bag.bag bag.is in
      let before = got_within first k (omega (arith, w, are.count)) in
      let after = got_within last k (omega (arith, w, are.count, count)) in
      let is = all_at (IsBag made links) bags bags_are.are k bag.bag bag.is in
      let cell = source_bag made links n m bag.bag.head here pads is.head bag.head in
      let was = source_first i o made links files bag.bag.head before.0.head cell.0 (are.each k bag.bag before.0 bag.is before.1).head cell.1 in
      let now =
      source_back o was.0 after.0.head
      (ap (λ (f : TaskFrame). f.head) (framed k before.0 after.0 before.1 after.1) ∙ ap (head_frame o) was.1) in
      (k, record { task = after.0; at = after.1; own = now.own; is = now.is; number = now.number_is ∙ was.2 ∙ cell.2 })

  -- a number has one source
  pub one_head : Once (source_numbers plans) → (k l n : ℕ) (own : HeadAt last k n) (other : HeadAt last l n) → own.own ≡ other.own
  one_head once k l n own other =
      let a = given_from k n own in
      let b = given_from l n other in
      let same : k ≡ l = flat_place (λ (task : WiredTask I O). source_in task.head) plans k l a.plan b.plan n once a.at a.numbered b.at b.numbered in
      let task : own.task ≡ other.task = same_Some own.task other.task (sym own.at ∙ ap (λ (j : ℕ). slice_get last j) same ∙ other.at) in
      one_source_head own.own other.own (sym own.is ∙ ap (λ (t : Task S E I O L s e i o). t.head) task ∙ other.is)
