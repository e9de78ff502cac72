-- Each element that a task of a bag names is one of it.
use Rattle.std.proofs.Common.{◌≡◌, ◌<◌, ◌⊎◌, ◌==◌, ◌||◌, ℕ, zero, suc, Bool, true, false, List, [], ◌∷◌, Option, None, Some, map, length, refl, sym, ap, ◌∙◌, subst, inl, inr, arith}
use Rattle.std.specs.Prelude.{slice_get}
use Rattle.std.specs.Option.{option_map_or}
use Rattle.std.proofs.lemmas.List.{map-append}
use Rattle.std.proofs.lemmas.Option.{slice_get_within}
use Rattle.flow_model.specs.Account.{IsMember}
use Rattle.el_settings.specs.Asked.{is_source, sink_pads}
use Rattle.el_settings.proofs.Roles.{source_no_sink}
use Rattle.graph_core.specs.Elements.{Made}
use Rattle.graph_pads.specs.Links.{sink_behind}
use Rattle.graph_pads.specs.declared.pad.PadLink.{PadLink}
use Rattle.graph_pads.specs.declared.pad.PadPlace.{PadPlace}
use Rattle.graph_parts.specs.Bags.{IsBag, IsHead, head_cells, head_number, head_of, number_of, numbers}
use Rattle.graph_parts.specs.Links.{source_count, LeadsInside, Reaches}
use Rattle.graph_parts.specs.declared.bag.Bag.{Bag}
use Rattle.graph_parts.specs.declared.bag.BagElement.{BagElement}
use Rattle.graph_parts.specs.declared.bag.BagHead.{BagHead}
use Rattle.graph_parts.specs.declared.bag.BagHead.TheVariants as bags
use Rattle.graph_parts.proofs.Onces.{in_either, in_front, in_back}
use Rattle.graph_parts.proofs.Trees.{sink_there, sinks_at}
use Rattle.lane_core.specs.declared.ends.Inlet as inlets
use Rattle.lane_core.specs.declared.ends.Outlet as outlets
use Rattle.task_pads.specs.Pads.{goes_of, pad_shape}
use Rattle.task_pads.specs.declared.pad.Pad.{Pad}
use Rattle.task_parts.specs.Shape.{PartShape, all_within, goes_within, has_number, head_within, is_closed, pads_within}
use Rattle.graph_tasks.specs.Tasks.{IsPadOf, LeadsTo}
use Rattle.graph_tasks.specs.Wired.{IsWiredHead, IsWiredPart, number_in, wired_head, wired_part, wired_shape}
use Rattle.graph_tasks.specs.Wiring.{AreLinks}
use Rattle.graph_tasks.specs.declared.wired_task.WiredHead.{WiredHead}
use Rattle.graph_tasks.specs.declared.wired_task.WiredHead.TheVariants.{Source, Inlets}
use Rattle.graph_tasks.specs.declared.wired_task.WiredPart.{WiredPart}
use Rattle.graph_tasks.specs.declared.wired_task.WiredTask.{WiredTask}
use Rattle.gst_value.proofs.Basics.{and_both as both_true, number_itself as same_number, or_true}
use Rattle.graph_core.specs.GraphPlan.{sink_at as place_at}

-- lists that are the same at each place
pub maps_same : {A B C : Type 0} (f : A → C) (g : B → C) (xs : List A) (ys : List B) → length xs ≡ length ys
    → ((k : ℕ) (x : A) (y : B) → slice_get xs k ≡ Some x → slice_get ys k ≡ Some y → f x ≡ g y) → map f xs ≡ map g ys
maps_same f g [] [] size same = refl
maps_same f g [] (y ∷ ys) size same = absurd (omega (arith, size))
maps_same f g (x ∷ xs) [] size same = absurd (omega (arith, size))
maps_same {C = C} f g (x ∷ xs) (y ∷ ys) size same =
    ap (λ (c : C). c ∷ map f xs) (same 0 x y refl refl) ∙ ap (λ (cs : List C). g y ∷ cs) (maps_same f g xs ys (omega (arith, size)) (λ k a b at to. same (suc k) a b at to))

module _ {O : Type 0} where
  member_has : (parts : List (WiredPart O)) (d : ℕ) → IsMember d (map number_in parts) → has_number d (map wired_part parts) ≡ true
  member_has [] d m = absurd m
  member_has (p ∷ ps) d (inl same) =
      ap (λ (n : ℕ). (n == d) || has_number d (map wired_part ps)) (sym same) ∙ ap (λ (b : Bool). b || has_number d (map wired_part ps)) (same_number d)
  member_has (p ∷ ps) d (inr m) = ap (λ (b : Bool). (p.number == d) || b) (member_has ps d m) ∙ or_true (p.number == d)

  pads_are_within : (shapes : List PartShape) (pads : List (Pad O)) → ((k : ℕ) (pad : Pad O) → slice_get pads k ≡ Some pad → goes_within shapes (goes_of pad) ≡ true) → pads_within shapes (map pad_shape pads) ≡ true
  pads_are_within shapes [] each = refl
  pads_are_within shapes (p ∷ ps) each =
      both_true (goes_within shapes (goes_of p)) (pads_within shapes (map pad_shape ps)) (each 0 p refl) (pads_are_within shapes ps (λ k pad at. each (suc k) pad at))

  parts_are_within : (shapes : List PartShape) (parts : List (WiredPart O)) → ((k : ℕ) (part : WiredPart O) → slice_get parts k ≡ Some part → pads_within shapes (map pad_shape part.pads.items) ≡ true)
      → all_within shapes (map wired_part parts) ≡ true
  parts_are_within shapes [] each = refl
  parts_are_within shapes (p ∷ ps) each =
      both_true (pads_within shapes (map pad_shape p.pads.items)) (all_within shapes (map wired_part ps)) (each 0 p refl) (parts_are_within shapes ps (λ k part at. each (suc k) part at))

-- a source has no sink pad
no_sink : (found : Option Made) (pad : ℕ) → option_map_or (λ (m : Made). is_source m.settings) found false ≡ true → pad < option_map_or (λ (m : Made). sink_pads m.settings) found 0 → ⊥
no_sink None pad is w = absurd (cc)
no_sink (Some m) pad is w = let none = source_no_sink m.settings is in omega (arith, none, w)

at_member : (xs : List BagElement) (k : ℕ) (x : BagElement) → slice_get xs k ≡ Some x → IsMember x.element (map number_of xs)
at_member [] k x is = absurd (cc)
at_member (y ∷ ys) zero x is = inl (ap number_of (same is))
  where
    same : Some y ≡ Some x → x ≡ y
    same h = cc
at_member (y ∷ ys) (suc k) x is = inr (at_member ys k x is)

module _ (made : List Made) (links : List PadLink) (are : AreLinks made links) (bag : Bag) (is : IsBag made links bag) where
  among : (d : ℕ) → IsMember d (numbers bag) → IsMember d (map number_of bag.elements.items) ⊎ IsMember d (map number_of (head_cells bag.head))
  among d m =
      in_either d (map number_of bag.elements.items) (map number_of (head_cells bag.head))
      (subst (λ (ns : List ℕ). IsMember d ns) (map-append number_of bag.elements.items (head_cells bag.head)) m)

  pub own_number : (k : ℕ) (cell : BagElement) → slice_get bag.elements.items k ≡ Some cell → IsMember cell.element (numbers bag)
  own_number k cell at =
      subst (λ (ns : List ℕ). IsMember cell.element ns) (sym (map-append number_of bag.elements.items (head_cells bag.head)))
      (in_front cell.element (map number_of bag.elements.items) (map number_of (head_cells bag.head)) (at_member bag.elements.items k cell at))

  -- over no lane nothing leads to the source of a bag
  no_source : (head : BagHead) → IsHead made links head → (a d : ℕ) → LeadsInside made links a d → IsMember d (map number_of (head_cells head)) → ⊥
  no_source (bags.Inlets n) kind a d l m = m
  no_source (bags.Source own) kind a d l (inr m) = m
  no_source (bags.Source own) kind a d l (inl same) =
      no_sink (slice_get made own.element) l.sink.pad kind
      (subst (λ (n : ℕ). l.sink.pad < sinks_at made n) (l.element ∙ same) (sink_there made links are.all (place_at a l.pad) l.sink l.linked))

  inside_own : (a d : ℕ) → IsMember a (numbers bag) → LeadsInside made links a d → IsMember d (map number_of bag.elements.items)
  inside_own a d m l = go (among d (is.whole d (Reaches.further a d (is.only a m) l)))
    where
      go : IsMember d (map number_of bag.elements.items) ⊎ IsMember d (map number_of (head_cells bag.head)) → IsMember d (map number_of bag.elements.items)
      go (inl n) = n
      go (inr n) = absurd (no_source bag.head is.head a d l n)

  module _ {I O L : Type 0} (i : inlets.Ghosts I L O) (o : outlets.Ghosts O L) (task : WiredTask I O) (head : IsWiredHead i o made links bag.head task.head)
      (count : length task.parts.items ≡ length bag.elements.items)
      (parts : (place : ℕ) (cell : BagElement) (part : WiredPart O) → slice_get bag.elements.items place ≡ Some cell → slice_get task.parts.items place ≡ Some part → IsWiredPart o made links cell part) where
    own_has : (d : ℕ) → IsMember d (map number_of bag.elements.items) → has_number d (map wired_part task.parts.items) ≡ true
    own_has d m =
        member_has task.parts.items d
        (subst (λ (ns : List ℕ). IsMember d ns)
        (sym (maps_same number_in number_of task.parts.items bag.elements.items count (λ k part cell at to. (parts k cell part to at).number))) m)

    pad_within : (a k : ℕ) (pad : Pad O) → IsMember a (numbers bag) → k < source_count made a → IsPadOf o made links a k pad → goes_within (map wired_part task.parts.items) (goes_of pad) ≡ true
    pad_within a k pad m there one = by (sink_behind links (place_at a k)) refl one.leads
      where
        by : (found : Option PadPlace) → sink_behind links (place_at a k) ≡ found → LeadsTo o made links pad found → goes_within (map wired_part task.parts.items) (goes_of pad) ≡ true
        by None at (LeadsTo.nothing goes) = ap (goes_within (map wired_part task.parts.items)) goes
        by (Some _) at (LeadsTo.element sink inner goes) =
            ap (goes_within (map wired_part task.parts.items)) goes
            ∙ own_has sink.element (inside_own a sink.element m (record { pad = k; there = there; sink = sink; linked = at; element = refl; inner = inner }))
        by (Some _) at (LeadsTo.lane sink fed to) = ap (goes_within (map wired_part task.parts.items)) to.goes

    part_within : (k : ℕ) (part : WiredPart O) (cell : BagElement) → slice_get task.parts.items k ≡ Some part → slice_get bag.elements.items k ≡ Some cell → pads_within (map wired_part task.parts.items) (map pad_shape part.pads.items) ≡ true
    part_within k part cell at to =
        let one = parts k cell part to at in
        pads_are_within (map wired_part task.parts.items) part.pads.items
        (λ j pad here. pad_within cell.element j pad (own_number k cell to) (let w = slice_get_within part.pads.items j pad here in omega (arith, w, one.all)) (one.pads j pad here))

    cell_for : (k : ℕ) (part : WiredPart O) → slice_get task.parts.items k ≡ Some part → (found : Option BagElement) → slice_get bag.elements.items k ≡ found → pads_within (map wired_part task.parts.items) (map pad_shape part.pads.items) ≡ true
    cell_for k part at (Some cell) to = part_within k part cell at to
    cell_for k part at None to = absurd (none_there bag.elements.items k to (let w = slice_get_within task.parts.items k part at in omega (arith, w, count)))
      where
        none_there : (xs : List BagElement) (k : ℕ) → slice_get xs k ≡ None → k < length xs → ⊥
        none_there [] k h w = omega (arith, w)
        none_there (x ∷ xs) zero h w = absurd (cc)
        none_there (x ∷ xs) (suc k) h w = none_there xs k h (omega (arith, w))

    first_within : (h : BagHead) (w : WiredHead I O) → bag.head ≡ h → IsWiredHead i o made links h w → head_within (map wired_part task.parts.items) (wired_head w) ≡ true
    first_within (bags.Source cell) (Source number pad) at wired =
        pad_within cell.element 0 pad
        (subst (λ (ns : List ℕ). IsMember cell.element ns) (sym (map-append number_of bag.elements.items (head_cells bag.head)))
        (in_back cell.element (map number_of bag.elements.items) (map number_of (head_cells bag.head))
        (subst (λ (h : BagHead). IsMember cell.element (map number_of (head_cells h))) (sym at) (inl refl))))
        (omega (arith, wired.1)) wired.2
    first_within (bags.Inlets n) (Inlets number hint rows) at wired =
        own_has number
        (go (among number (subst (λ (k : ℕ). IsMember k (numbers bag)) (is_head ∙ sym wired.0) (is.whole (head_of bag) Reaches.itself))))
      where
        is_head : head_of bag ≡ n
        is_head = ap head_number at

        go : IsMember number (map number_of bag.elements.items) ⊎ IsMember number (map number_of (head_cells bag.head)) → IsMember number (map number_of bag.elements.items)
        go (inl m) = m
        go (inr m) = absurd (subst (λ (h : BagHead). IsMember number (map number_of (head_cells h))) at m)
    first_within (bags.Source cell) (Inlets number hint rows) at wired = absurd wired
    first_within (bags.Inlets n) (Source number pad) at wired = absurd wired

    pub is_shape_closed : is_closed (wired_shape task) ≡ true
    is_shape_closed =
        both_true (head_within (map wired_part task.parts.items) (wired_head task.head)) (all_within (map wired_part task.parts.items) (map wired_part task.parts.items))
        (first_within bag.head task.head refl head)
        (parts_are_within (map wired_part task.parts.items) task.parts.items (λ k part at. cell_for k part at (slice_get bag.elements.items k) refl))
