-- That each element which a task names is one of it, where elements are put together.
use Rattle.std.proofs.Common.{◌≡◌, ◌++◌, ◌&&◌, ◌||◌, ℕ, Bool, true, false, eqb, List, [], ◌∷◌, map, refl, sym, subst}
use Rattle.std.proofs.lemmas.List.{map-append}
use Rattle.flow_model.specs.declared.element.TaskElement as elements
use Rattle.flow_model.specs.declared.source.TaskSource as sources
use Rattle.task_pads.specs.Behind.{Goes, nowhere, inside, over}
use Rattle.task_pads.specs.Pads.{PadShape}
use Rattle.task_parts.specs.declared.head.Head.{Head}
use Rattle.task_parts.specs.declared.part.Part.{Part}
use Rattle.task_parts.specs.Shape.{HeadShape, PartShape, all_within, by_source, by_inlets, goes_within, has_number, head_shape, head_within, is_closed, pads_within, part_shape, shape_of}
use Rattle.gst_value.proofs.Basics.{and_both, and_left, and_right, or_second}

-- these have all numbers of those
abbrev HaveAll : List PartShape → List PartShape → Type 0
HaveAll all all' = (n : ℕ) → has_number n all ≡ true → has_number n all' ≡ true

goes_more : (all all' : List PartShape) (g : Goes) → HaveAll all all' → goes_within all g ≡ true → goes_within all' g ≡ true
goes_more all all' nowhere more h = refl
goes_more all all' (inside n k) more h = more n h
goes_more all all' (over lane n k from) more h = refl

pads_more : (all all' : List PartShape) (pads : List PadShape) → HaveAll all all' → pads_within all pads ≡ true → pads_within all' pads ≡ true
pads_more all all' [] more h = refl
pads_more all all' (pad ∷ pads) more h =
    and_both (goes_within all' pad.goes) (pads_within all' pads) (goes_more all all' pad.goes more (and_left (goes_within all pad.goes) (pads_within all pads) h)) (pads_more all all' pads more (and_right (goes_within all pad.goes) (pads_within all pads) h))

all_more : (all all' parts : List PartShape) → HaveAll all all' → all_within all parts ≡ true → all_within all' parts ≡ true
all_more all all' [] more h = refl
all_more all all' (part ∷ parts) more h =
    and_both (pads_within all' part.pads) (all_within all' parts) (pads_more all all' part.pads more (and_left (pads_within all part.pads) (all_within all parts) h)) (all_more all all' parts more (and_right (pads_within all part.pads) (all_within all parts) h))

head_more : (all all' : List PartShape) (head : HeadShape) → HaveAll all all' → head_within all head ≡ true → head_within all' head ≡ true
head_more all all' (by_source number pad) more h = goes_more all all' pad.goes more h
head_more all all' (by_inlets number rows) more h = more number h

all_append : (all xs ys : List PartShape) → all_within all xs ≡ true → all_within all ys ≡ true → all_within all (xs ++ ys) ≡ true
all_append all [] ys h k = k
all_append all (x ∷ xs) ys h k = and_both (pads_within all x.pads) (all_within all (xs ++ ys)) (and_left (pads_within all x.pads) (all_within all xs) h) (all_append all xs ys (and_right (pads_within all x.pads) (all_within all xs) h) k)

first_has : (xs ys : List PartShape) → HaveAll xs (xs ++ ys)
first_has [] ys n h = absurd cc
first_has (x ∷ xs) ys n h = go (eqb x.number n) (first_has xs ys n) h
  where
    go : (b : Bool) → (has_number n xs ≡ true → has_number n (xs ++ ys) ≡ true) → (b || has_number n xs) ≡ true → (b || has_number n (xs ++ ys)) ≡ true
    go true more h = refl
    go false more h = more h

second_has : (xs ys : List PartShape) → HaveAll ys (xs ++ ys)
second_has [] ys n h = h
second_has (x ∷ xs) ys n h = or_second (eqb x.number n) (has_number n (xs ++ ys)) (second_has xs ys n h)

module _ {S E I O : Type 0} {s : sources.Ghosts S} {e : elements.Ghosts E} where
  -- the elements of one task and then those of another, with its head
  pub closed_joined : (ha hb : Head S I O s) (pa pb : List (Part E O e)) → is_closed (shape_of ha pa) ≡ true → is_closed (shape_of hb pb) ≡ true → is_closed (shape_of hb (pa ++ pb)) ≡ true
  closed_joined ha hb pa pb a b = subst (λ (all : List PartShape). (head_within all (head_shape hb) && all_within all all) ≡ true) (sym (map-append part_shape pa pb)) (
      and_both (head_within both (head_shape hb)) (all_within both both) (head_more second both (head_shape hb) (second_has first second) (and_left (head_within second (head_shape hb)) (all_within second second) b))
      (all_append both first second (all_more first both first (first_has first second) (and_right (head_within first (head_shape ha)) (all_within first first) a))
      (all_more second both second (second_has first second) (and_right (head_within second (head_shape hb)) (all_within second second) b))))
    where
      first : List PartShape
      first = map part_shape pa

      second : List PartShape
      second = map part_shape pb

      both : List PartShape
      both = first ++ second
