-- What waits at a pad.
use Rattle.std.proofs.Common.{◌≡◌, ◌≢◌, ◌<◌, ◌⊎◌, ℕ, Bool, true, false, eqb, if◌then◌else◌, List, [], ◌∷◌, ◌++◌, length, get_or, Option, Some, refl, sym, ap, ◌∙◌, subst, inl, inr, arith, append-nil}
use Rattle.std.specs.Prelude.{option_to_list}
use Rattle.std.proofs.lemmas.Bool.Decides.{eqb_tells}
use Rattle.std.proofs.lemmas.List.{map-append}
use Rattle.gst_item.specs.declared.out.Out.{Out}
use Rattle.gst_item.specs.Sticky.{has_flush_stop}
use Rattle.flow_model.specs.Item.{Item, is_flush_stop}
use Rattle.flow_model.specs.Takes.{on_port, AreWithin}
use Rattle.task_pads.specs.Behind.{item_of, items_of}
use Rattle.task_pads.specs.Put.{FirstNoFlush}
use Rattle.flow_model.proofs.Items.{none_first as first_free}

pub items_push : (outs : List Out) (out : Out) → items_of (outs ++ out ∷ []) ≡ items_of outs ++ out.item ∷ []
items_push outs out = map-append item_of outs (out ∷ [])

free_more : (x : Item) (xs : List Item) → is_flush_stop x ≡ false → has_flush_stop xs ≡ false → has_flush_stop (x ∷ xs) ≡ false
free_more x xs one free = rw one free

-- one more waits
pub push_free : (xs : List Item) (x : Item) → has_flush_stop xs ≡ false → is_flush_stop x ≡ false → has_flush_stop (xs ++ x ∷ []) ≡ false
push_free [] x free one = free_more x [] one refl
push_free (y ∷ ys) x free one = let e = first_free y ys free in free_more y (ys ++ x ∷ []) e.0 (push_free ys x e.1 one)

pub push_free_at : (outs outs' : List Out) (out : Out) → outs' ≡ outs ++ out ∷ [] → has_flush_stop (items_of outs) ≡ false → is_flush_stop out.item ≡ false → has_flush_stop (items_of outs') ≡ false
push_free_at outs outs' out e free one = ap (λ (xs : List Out). has_flush_stop (items_of xs)) e ∙ ap has_flush_stop (items_push outs out) ∙ push_free (items_of outs) out.item free one

-- what an element put out has no FLUSH_STOP
pub within_free : (ports : ℕ) (outs : List Out) → AreWithin ports outs → has_flush_stop (items_of outs) ≡ false
within_free ports [] w = refl
within_free ports (out ∷ outs) w = free_more out.item (items_of outs) w.1 (within_free ports outs w.2)

pub on_here : (one : Out) (rest : List Out) → on_port one.pad (one ∷ rest) ≡ one.item ∷ on_port one.pad rest
on_here one rest = go (eqb_tells one.pad one.pad)
  where
    go : ((eqb one.pad one.pad ≡ true) × (one.pad ≡ one.pad)) ⊎ ((eqb one.pad one.pad ≡ false) × (one.pad ≡ one.pad → ⊥)) → (if eqb one.pad one.pad then one.item ∷ on_port one.pad rest else on_port one.pad rest) ≡ one.item ∷ on_port one.pad rest
    go (inl t) = rw t.0 refl
    go (inr t) = absurd (t.1 refl)

pub on_other : (port : ℕ) (one : Out) (rest : List Out) → (one.pad ≡ port → ⊥) → on_port port (one ∷ rest) ≡ on_port port rest
on_other port one rest n = go (eqb_tells one.pad port)
  where
    go : ((eqb one.pad port ≡ true) × (one.pad ≡ port)) ⊎ ((eqb one.pad port ≡ false) × (one.pad ≡ port → ⊥)) → (if eqb one.pad port then one.item ∷ on_port port rest else on_port port rest) ≡ on_port port rest
    go (inl t) = absurd (n t.1)
    go (inr t) = rw t.0 refl

-- where an element has one pad, all goes there
pub on_only : (outs : List Out) → AreWithin 1 outs → on_port 0 outs ≡ items_of outs
on_only [] w = refl
on_only (out ∷ outs) w =
    let e : out.pad ≡ 0 = omega (arith, w.0) in
    subst (λ (k : ℕ). on_port k (out ∷ outs) ≡ items_of (out ∷ outs)) e
    (on_here out outs ∙ ap (λ (xs : List Item). out.item ∷ xs) (ap (λ (k : ℕ). on_port k outs) e ∙ on_only outs w.2))

-- the first left
pub popped : (outs outs' : List Out) (first : Option Out) (n : ℕ) → outs ≢ [] → n ≡ length outs → outs ≡ option_to_list first ++ outs' → ((d : Out) → 0 < n → first ≡ Some (get_or outs 0 d))
    → (x : Item) × (items_of outs ≡ x ∷ items_of outs')
popped [] outs' first n some size e value = absurd (some refl)
popped (out ∷ outs) outs' first n some size e value =
    let found : first ≡ Some out = value out (omega arith) in
    (out.item, ap items_of (e ∙ ap (λ (o : Option Out). option_to_list o ++ outs') found))

pub is_nil : {A : Type 0} (b : Bool) (n : ℕ) (xs : List A) → b ≡ eqb n 0 → n ≡ length xs → b ≡ true → xs ≡ []
is_nil b n xs e size t = go (eqb_tells n 0)
  where
    nil : {A : Type 0} (xs : List A) → length xs ≡ 0 → xs ≡ []
    nil [] z = refl
    nil (x ∷ xs) z = absurd (omega arith)

    go : ((eqb n 0 ≡ true) × (n ≡ 0)) ⊎ ((eqb n 0 ≡ false) × (n ≡ 0 → ⊥)) → xs ≡ []
    go (inl z) = nil xs (omega (arith, z.1, size))
    go (inr z) = absurd (let k : true ≡ false = sym t ∙ e ∙ z.0 in cc)

-- the first of a list that is not empty
pub first_at : (outs : List Out) (first : Out) → 0 < length outs → first ≡ get_or outs 0 first → (rest : List Out) × (outs ≡ first ∷ rest)
first_at [] first some e = absurd (omega arith)
first_at (out ∷ outs) first some e = (outs, ap (λ (x : Out). x ∷ outs) (sym e))

pub first_no_flush : (outs : List Out) (first : Out) (rest : List Out) → outs ≡ first ∷ rest → FirstNoFlush outs → is_flush_stop first.item ≡ false
first_no_flush outs first rest e n = subst FirstNoFlush e n

-- all that was put out waits at an idle pad
pub filled : (old outs new left : List Out) → old ≡ [] → AreWithin 1 outs → new ≡ outs → left ≡ [] → items_of new ++ on_port 0 left ≡ items_of old ++ on_port 0 outs
filled old outs new left none w same empty = rw (none, same, empty) (append-nil (items_of outs) ∙ sym (on_only outs w))
