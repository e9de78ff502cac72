-- The tasks of all bags, each element in one.
use Rattle.std.proofs.Common.{◌≡◌, ℕ, suc, List, [], ◌∷◌, ◌++◌, Option, Some, length, map, refl, sym, ap, ap₂, subst, arith}
use Rattle.std.specs.Prelude.{slice_get}
use Rattle.std.specs.List.{flat_map}
use Rattle.std.proofs.lemmas.List.{map-append}
use Rattle.flow_model.specs.Account.{IsMember}
use Rattle.graph_core.specs.Elements.{Made}
use Rattle.graph_pads.specs.declared.pad.PadLink.{PadLink}
use Rattle.graph_parts.specs.Bags.{Once, head_cells, number_of, numbers}
use Rattle.graph_parts.specs.declared.bag.Bag.{Bag}
use Rattle.graph_parts.specs.declared.bag.BagHead.{BagHead}
use Rattle.graph_parts.specs.declared.bag.BagHead.TheVariants as bags
use Rattle.graph_parts.proofs.Onces.{once_back, once_front, in_front, in_back}
use Rattle.graph_parts.specs.Lanes.{AreLanes}
use Rattle.lane_core.specs.Lane.{Lane}
use Rattle.lane_core.specs.declared.ends.Inlet as inlets
use Rattle.lane_core.specs.declared.ends.Outlet as outlets
use Rattle.graph_tasks.specs.Wired.{AreWired, IsWiredHead, number_in, part_numbers, source_in, source_numbers}
use Rattle.graph_tasks.specs.Wiring.{BagsGiven, BagsMade, InletsLeft, OutletsLeft}
use Rattle.graph_tasks.specs.declared.wired_task.WiredHead.{WiredHead}
use Rattle.graph_tasks.specs.declared.wired_task.WiredHead.TheVariants.{Source, Inlets}
use Rattle.graph_tasks.specs.declared.wired_task.WiredTask.{WiredTask}
use Rattle.graph_tasks.proofs.Closed.{maps_same}
use Rattle.graph_tasks.proofs.Flats.{flat_once}
use Rattle.graph_tasks.proofs.Targets.{all_once}

flats_same : {A B : Type 0} (f : A → List ℕ) (g : B → List ℕ) (xs : List A) (ys : List B) → length xs ≡ length ys
    → ((k : ℕ) (x : A) (y : B) → slice_get xs k ≡ Some x → slice_get ys k ≡ Some y → f x ≡ g y) → flat_map f xs ≡ flat_map g ys
flats_same f g [] [] size same = refl
flats_same f g [] (y ∷ ys) size same = absurd (omega (arith, size))
flats_same f g (x ∷ xs) [] size same = absurd (omega (arith, size))
flats_same f g (x ∷ xs) (y ∷ ys) size same =
    ap₂ (λ (ns ms : List ℕ). ns ++ ms) (same 0 x y refl refl) (flats_same f g xs ys (omega (arith, size)) (λ k a b at to. same (suc k) a b at to))

-- the numbers of a bag's elements but its source, and of its source
own_numbers : Bag → List ℕ
own_numbers bag = map number_of bag.elements.items

first_numbers : Bag → List ℕ
first_numbers bag = map number_of (head_cells bag.head)

numbers_are : (bag : Bag) → numbers bag ≡ own_numbers bag ++ first_numbers bag
unfolding own_numbers first_numbers
numbers_are bag = map-append number_of bag.elements.items (head_cells bag.head)

module _ {I O L : Type 0} (i : inlets.Ghosts I L O) (o : outlets.Ghosts O L) (made : List Made) (links : List PadLink) where
  source_same : (head : BagHead) (wired : WiredHead I O) → IsWiredHead i o made links head wired → source_in wired ≡ map number_of (head_cells head)
  source_same (bags.Source cell) (Source number pad) w = ap (λ (n : ℕ). n ∷ []) w.0
  source_same (bags.Inlets n) (Inlets number hint rows) w = refl
  source_same (bags.Source cell) (Inlets number hint rows) w = absurd w
  source_same (bags.Inlets n) (Source number pad) w = absurd w

  pub outlets_first : (table : List Lane) (ins : List (Option I)) (outs : List (Option O)) → AreLanes i.place i.received o.place o.limits o.count o.sent made links table ins outs → OutletsLeft o made links [] outs
  outlets_first table ins outs are = record { size = are.outlet_count; at = λ d end at fresh. are.outlet d end at }

  pub inlets_first : (table : List Lane) (ins : List (Option I)) (outs : List (Option O)) → AreLanes i.place i.received o.place o.limits o.count o.sent made links table ins outs → InletsLeft i made links [] ins
  inlets_first table ins outs are = record { size = are.inlet_count; at = λ n end at fresh. are.inlet n end at }

  module _ (bags : List Bag) (tasks : List (WiredTask I O)) (given : BagsGiven made links bags) (are : BagsMade i o made links bags tasks) where
    parts_are : part_numbers tasks ≡ flat_map own_numbers bags
    unfolding own_numbers
    parts_are =
        flats_same (λ (task : WiredTask I O). map number_in task.parts.items) own_numbers tasks bags are.count
        (λ k task bag at to.
        let w = are.each k bag task to at in
        maps_same number_in number_of task.parts.items bag.elements.items w.count (λ j part cell here there. (w.parts j cell part there here).number))

    sources_are : source_numbers tasks ≡ flat_map first_numbers bags
    unfolding first_numbers
    sources_are =
        flats_same (λ (task : WiredTask I O). source_in task.head) first_numbers tasks bags are.count (λ k task bag at to. source_same bag.head task.head (are.each k bag task to at).head)

    own_once : Once (flat_map own_numbers bags)
    own_once =
        flat_once own_numbers numbers (λ bag d m. subst (λ (ns : List ℕ). IsMember d ns) (sym (numbers_are bag)) (in_front d (own_numbers bag) (first_numbers bag) m))
        (λ bag once. once_front (own_numbers bag) (first_numbers bag) (subst Once (numbers_are bag) once)) bags (all_once made links bags given)

    first_once : Once (flat_map first_numbers bags)
    first_once =
        flat_once first_numbers numbers (λ bag d m. subst (λ (ns : List ℕ). IsMember d ns) (sym (numbers_are bag)) (in_back d (own_numbers bag) (first_numbers bag) m))
        (λ bag once. once_back (own_numbers bag) (first_numbers bag) (subst Once (numbers_are bag) once)) bags (all_once made links bags given)

    pub finished : (table : List Lane) (ins : List (Option I)) (outs : List (Option O)) → AreLanes i.place i.received o.place o.limits o.count o.sent made links table ins outs
        → AreWired i o made links bags tasks table
    finished table ins outs lanes = record {
      count = are.count;
      each = are.each;
      table_is = lanes.table_is;
      parts_once = subst Once (sym parts_are) own_once;
      sources_once = subst Once (sym sources_are) first_once;
    }
