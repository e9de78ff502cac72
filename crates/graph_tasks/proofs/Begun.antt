-- Tasks that are made of the wired tasks of a graph are its tasks.
use Rattle.std.proofs.Common.{◌≡◌, ℕ, zero, suc, true, List, [], ◌∷◌, Option, Some, length, map, refl, sym, ap, ap₂, ◌∙◌, subst, arith}
use Rattle.std.specs.Prelude.{slice_get}
use Rattle.std.specs.List.{AllZip}
use Rattle.std.proofs.lemmas.Option.{slice_get_within}
use Rattle.lane_core.specs.Lane.{Lane}
use Rattle.lane_core.specs.declared.ends.Inlet as inlets
use Rattle.lane_core.specs.declared.ends.Outlet as outlets
use Rattle.flow_model.specs.declared.element.TaskElement as elements
use Rattle.flow_model.specs.declared.source.TaskSource as sources
use Rattle.graph_core.specs.Elements.{Made}
use Rattle.graph_pads.specs.declared.pad.PadLink.{PadLink}
use Rattle.graph_parts.specs.declared.bag.Bag.{Bag}
use Rattle.graph_parts.specs.declared.bag.BagElement.{BagElement}
use Rattle.graph_parts.specs.declared.bag.BagHead.{BagHead}
use Rattle.graph_parts.specs.declared.bag.BagHead.TheVariants as bags_heads
use Rattle.task_pads.specs.declared.pad.Pad.{Pad}
use Rattle.task_pads.specs.Pads.{pad_shape}
use Rattle.task_parts.specs.declared.part.Part.{Part}
use Rattle.task_parts.specs.declared.head.Head.{Head}
use Rattle.task_parts.specs.declared.head.Head.TheVariants as heads
use Rattle.task_parts.specs.Shape.{HeadShape, PartShape, by_inlets, by_source, head_shape, is_closed, part_shape, shape_of}
use Rattle.net_task.specs.declared.task.Task.{Task}
use Rattle.graph_tasks.specs.Making.{IsHeadFrom, IsPartFrom, IsTaskFrom}
use Rattle.graph_tasks.specs.Tasks.{AreTasks, IsHeadOf, IsOf, IsPadOf, IsPartOf, IsTaskOf}
use Rattle.graph_tasks.specs.Wired.{AreWired, IsWiredHead, IsWiredPart, IsWiredTask, wired_head, wired_part, wired_shape}
use Rattle.graph_tasks.specs.declared.wired_task.WiredHead.{WiredHead}
use Rattle.graph_tasks.specs.declared.wired_task.WiredHead.TheVariants.{Source, Inlets}
use Rattle.graph_tasks.specs.declared.wired_task.WiredPart.{WiredPart}
use Rattle.graph_tasks.specs.declared.wired_task.WiredTask.{WiredTask}
use Rattle.gst_value.proofs.Basics.{some_same}
use Rattle.gst_value.proofs.Places.{found_at as got_within}

zip_size : {A B : Type 0} (P : A → B → Type 0) (xs : List A) (ys : List B) → AllZip P xs ys → length ys ≡ length xs
zip_size P [] [] all = refl
zip_size P [] (y ∷ ys) all = absurd all
zip_size P (x ∷ xs) [] all = absurd all
zip_size P (x ∷ xs) (y ∷ ys) all = ap suc (zip_size P xs ys all.1)

zip_at : {A B : Type 0} (P : A → B → Type 0) (xs : List A) (ys : List B) → AllZip P xs ys → (k : ℕ) (x : A) (y : B) → slice_get xs k ≡ Some x → slice_get ys k ≡ Some y → P x y
zip_at P [] ys all k x y at to = absurd (cc)
zip_at P (z ∷ xs) [] all k x y at to = absurd (cc)
zip_at P (z ∷ xs) (w ∷ ys) all zero x y at to = subst (λ b. P x b) (some_same to) (subst (λ a. P a w) (some_same at) all.0)
zip_at P (z ∷ xs) (w ∷ ys) all (suc k) x y at to = zip_at P xs ys all.1 k x y at to

zip_map : {A B C : Type 0} (P : A → B → Type 0) (f : A → C) (h : B → C) → ((x : A) (y : B) → P x y → h y ≡ f x) → (xs : List A) (ys : List B) → AllZip P xs ys → map h ys ≡ map f xs
zip_map P f h same [] [] all = refl
zip_map P f h same [] (y ∷ ys) all = absurd all
zip_map P f h same (x ∷ xs) [] all = absurd all
zip_map {C = C} P f h same (x ∷ xs) (y ∷ ys) all = ap₂ (λ (c : C) (cs : List C). c ∷ cs) (same x y all.0) (zip_map P f h same xs ys all.1)

-- the numbers of what is made are those of what it is made of, so it is closed where that is
part_as : {E O : Type 0} {e : elements.Ghosts E} (ends : List (Option E)) (wired : WiredPart O) (part : Part E O e) → IsPartFrom ends wired part → part_shape part ≡ wired_part wired
part_as ends wired part is = ap₂ (λ number pads. record { number = number; pads = pads }) is.number (ap (λ pads. map pad_shape pads.items) is.pads)

head_as : {S I O : Type 0} {s : sources.Ghosts S} (files : List (Option S)) (wired : WiredHead I O) (head : Head S I O s) → IsHeadFrom files wired head → head_shape head ≡ wired_head wired
head_as files (Source number pad) (heads.Source head) is = ap₂ by_source is.0 (ap pad_shape is.3)
head_as files (Inlets number hint rows) (heads.Inlets head) is = ap₂ by_inlets is.0 (ap (λ rows. length rows.items) is.1)
head_as files (Source number pad) (heads.Inlets head) is = absurd is
head_as files (Inlets number hint rows) (heads.Source head) is = absurd is

module _ {S E I O : Type 0} {s : sources.Ghosts S} {e : elements.Ghosts E} (ends : List (Option E)) (files : List (Option S)) where
  pub closed_as : (wired : WiredTask I O) (head : Head S I O s) (parts : List (Part E O e)) → IsHeadFrom files wired.head head → AllZip (IsPartFrom ends) wired.parts.items parts → is_closed (wired_shape wired) ≡ true
      → is_closed (shape_of head parts) ≡ true
  closed_as wired head parts is all closed =
      ap is_closed (ap₂ (λ (first : HeadShape) (shapes : List PartShape). record { head = first; parts = shapes }) (head_as files wired.head head is) (zip_map (IsPartFrom ends) wired_part part_shape (part_as ends) wired.parts.items parts all)) ∙ closed

module _ {S I O L : Type 0} {s : sources.Ghosts S} (i : inlets.Ghosts I L O) (o : outlets.Ghosts O L) (made : List Made) (links : List PadLink) (files : List (Option S)) where
  head_is : (bag : BagHead) (wired : WiredHead I O) (head : Head S I O s) → IsWiredHead i o made links bag wired → IsHeadFrom files wired head → IsHeadOf i o made links files bag head
  head_is (bags_heads.Source cell) (Source number pad) (heads.Source head) w is =
      IsHeadOf.from_source cell head (is.0 ∙ w.0) (subst (λ (n : ℕ). IsOf files n head.source) w.0 is.1) is.2 w.1 (subst (λ (p : Pad O). IsPadOf o made links cell.element 0 p) (sym is.3) w.2)
  head_is (bags_heads.Inlets n) (Inlets number hint rows) (heads.Inlets head) w is =
      IsHeadOf.from_inlets n head (is.0 ∙ w.0) (ap (λ rows. length rows.items) is.1 ∙ w.1) (λ k row at. w.2 k row (sym (ap (λ rows. slice_get rows.items k) is.1) ∙ at))
  head_is (bags_heads.Source cell) (Inlets number hint rows) head w is = absurd w
  head_is (bags_heads.Inlets n) (Source number pad) head w is = absurd w
  head_is (bags_heads.Source cell) (Source number pad) (heads.Inlets head) w is = absurd is
  head_is (bags_heads.Inlets n) (Inlets number hint rows) (heads.Source head) w is = absurd is

module _ {E O L : Type 0} {e : elements.Ghosts E} (o : outlets.Ghosts O L) (made : List Made) (links : List PadLink) (ends : List (Option E)) where
  part_is : (cell : BagElement) (wired : WiredPart O) (part : Part E O e) → IsWiredPart o made links cell wired → IsPartFrom ends wired part → IsPartOf o made links ends cell part
  part_is cell wired part w is = record {
    number = is.number ∙ w.number;
    element = subst (λ (n : ℕ). IsOf ends n part.element) w.number is.element;
    out = is.out;
    all = ap (λ pads. length pads.items) is.pads ∙ w.all;
    pads = λ k pad at. w.pads k pad (sym (ap (λ pads. slice_get pads.items k) is.pads) ∙ at);
  }

module _ {S E I O L : Type 0} {s : sources.Ghosts S} {e : elements.Ghosts E} (i : inlets.Ghosts I L O) (o : outlets.Ghosts O L) (made : List Made) (links : List PadLink) (ends : List (Option E)) (files : List (Option S)) where
  task_is : (bag : Bag) (wired : WiredTask I O) (task : Task S E I O L s e i o) → IsWiredTask i o made links bag wired → IsTaskFrom ends files wired task → IsTaskOf i o made links ends files bag task
  task_is bag wired task w is = record {
    head = head_is i o made links files bag.head wired.head task.head w.head is.head;
    count = zip_size (IsPartFrom ends) wired.parts.items task.parts.items is.parts ∙ w.count;
    parts = λ place cell part at to.
        let within = slice_get_within task.parts.items place part to in
        let size = zip_size (IsPartFrom ends) wired.parts.items task.parts.items is.parts in
        let one = got_within wired.parts.items place (omega (arith, within, size)) in
        part_is o made links ends cell one.0 part (w.parts place cell one.0 at one.1) (zip_at (IsPartFrom ends) wired.parts.items task.parts.items is.parts place one.0 part one.1 to);
  }

  pub tasks_are : (bags : List Bag) (wired : List (WiredTask I O)) (tasks : List (Task S E I O L s e i o)) (table : List Lane) → AllZip (IsTaskFrom ends files) wired tasks → AreWired i o made links bags wired table
      → AreTasks i o made links ends files bags tasks table
  tasks_are bags wired tasks table all w = record {
    count = zip_size (IsTaskFrom ends files) wired tasks all ∙ w.count;
    each = λ k bag task at to.
        let within = slice_get_within tasks k task to in
        let size = zip_size (IsTaskFrom ends files) wired tasks all in
        let one = got_within wired k (omega (arith, within, size)) in
        task_is bag one.0 task (w.each k bag one.0 at one.1) (zip_at (IsTaskFrom ends files) wired tasks all k one.0 task one.1 to);
    table_is = w.table_is;
  }
