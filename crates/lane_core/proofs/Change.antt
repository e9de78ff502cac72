-- One lane of a table is changed.
use Rattle.std.proofs.Common.{◌≡◌, ◌≢◌, ◌<◌, ℕ, zero, suc, List, [], ◌∷◌, ◌++◌, length, set, drop, get_or, Option, Some, None, MatchOption, refl, ap, sym, ◌∙◌, arith}
use Rattle.std.proofs.lemmas.Option.{get_or_from_slice_get}
use Rattle.gst_item.specs.declared.item.Item.{Item}
use Rattle.std.specs.List.{slice_get}
use Rattle.lane_core.specs.Lane.{Lane, lane_of, updated_table, table_with_item, table_without_first, table_without_items}

pub within : (t : List Lane) (n : ℕ) (s : Lane) → slice_get t n ≡ Some s → n < length t
within [] n s e = absurd cc
within (x ∷ xs) zero s e = omega arith
within (x ∷ xs) (suc n) s e = let h = within xs n s e in omega arith

-- a write at the place is the change
pub update_is : (f : Lane → Lane) (t : List Lane) (n : ℕ) (s new : Lane) → slice_get t n ≡ Some s → f s ≡ new → set t n new ≡ updated_table f n t
update_is f [] n s new e h = refl
update_is f (x ∷ xs) zero s new e h = let p : x ≡ s = cc in ap (λ y. y ∷ xs) (sym h ∙ ap f (sym p))
update_is f (x ∷ xs) (suc n) s new e h = ap (λ ys. x ∷ ys) (update_is f xs n s new e h)

pub update_none : (f : Lane → Lane) (t : List Lane) (n : ℕ) (s : Lane) → slice_get t n ≡ Some s → f s ≡ s → updated_table f n t ≡ t
update_none f [] n s e h = refl
update_none f (x ∷ xs) zero s e h = let p : x ≡ s = cc in ap (λ y. y ∷ xs) (ap f p ∙ (h ∙ sym p))
update_none f (x ∷ xs) (suc n) s e h = ap (λ ys. x ∷ ys) (update_none f xs n s e h)

pub updated_here : (f : Lane → Lane) (t : List Lane) (n : ℕ) (s : Lane) → slice_get t n ≡ Some s → slice_get (updated_table f n t) n ≡ Some (f s)
updated_here f [] n s e = absurd cc
updated_here f (x ∷ xs) zero s e = let p : x ≡ s = cc in ap (λ y. Some (f y)) p
updated_here f (x ∷ xs) (suc n) s e = updated_here f xs n s e

pub updated_else : (f : Lane → Lane) (t : List Lane) (n m : ℕ) → m ≢ n → slice_get (updated_table f n t) m ≡ slice_get t m
updated_else f [] n m h = refl
updated_else f (x ∷ xs) zero zero h = absurd (h refl)
updated_else f (x ∷ xs) zero (suc m) h = refl
updated_else f (x ∷ xs) (suc n) zero h = refl
updated_else f (x ∷ xs) (suc n) (suc m) h = updated_else f xs n m (λ e. h (ap suc e))

-- the element that was read is the lane there
read_is : (inside now : List Lane) (n : ℕ) (old s : Lane) → inside ≡ now → old ≡ get_or inside n old → slice_get now n ≡ Some s → old ≡ s
read_is inside now n old s same is e = is ∙ get_or_from_slice_get inside n s old (ap (λ t. slice_get t n) same ∙ e)

pub put_is : (inside now : List Lane) (n : ℕ) (x : Item) (old new : Lane) → inside ≡ now → old ≡ get_or inside n old → ((s : Lane) × (slice_get now n ≡ Some s) × (length s.items < s.room))
    → new ≡ lane_of (old.items ++ x ∷ []) old.room → set inside n new ≡ table_with_item x n now
put_is inside now n x old new same is at e =
    let here = read_is inside now n old at.0 same is at.1 in
    ap (λ t. set t n new) same ∙ update_is (λ s. lane_of (s.items ++ x ∷ []) s.room) now n at.0 new at.1 (ap (λ (s : Lane). lane_of (s.items ++ x ∷ []) s.room) (sym here) ∙ sym e)

pub take_is : (inside now : List Lane) (n : ℕ) (result : Option Item) (old new s : Lane) → inside ≡ now → old ≡ get_or inside n old → slice_get now n ≡ Some s → new.room ≡ old.room
    → MatchOption result ((old.items ≡ []) × (new.items ≡ [])) (λ x. old.items ≡ x ∷ new.items)
    → MatchOption result ((s.items ≡ []) × (set inside n new ≡ now)) (λ x. ((rest : List Item) × (s.items ≡ x ∷ rest)) × (set inside n new ≡ table_without_first n now))
take_is inside now n None old new s same is at room m =
    let here = read_is inside now n old s same is at in
    let new_is : new ≡ s = (λ i. lane_of (m.1 i) (room i)) ∙ (ap (λ (l : List Item). lane_of l old.room) (sym m.0) ∙ here) in
    (ap (λ (u : Lane). u.items) (sym here) ∙ m.0, ap (λ t. set t n new) same ∙ (update_is (λ u. u) now n s new at (sym new_is) ∙ update_none (λ u. u) now n s at refl))
take_is inside now n (Some x) old new s same is at room m =
    let here = read_is inside now n old s same is at in
    let items : s.items ≡ x ∷ new.items = ap (λ (u : Lane). u.items) (sym here) ∙ m in
    let f : Lane → Lane = λ u. lane_of (drop 1 u.items) u.room in
    let fs : f s ≡ new = λ i. lane_of (ap (drop 1) items i) ((ap (λ (u : Lane). u.room) (sym here) ∙ sym room) i) in
    ((new.items, items), ap (λ t. set t n new) same ∙ update_is f now n s new at fs)

pub pour_is : (inside now : List Lane) (n : ℕ) (old new : Lane) → inside ≡ now → old ≡ get_or inside n old → ((s : Lane) × (slice_get now n ≡ Some s))
    → new ≡ lane_of [] old.room → set inside n new ≡ table_without_items n now
pour_is inside now n old new same is at e =
    let here = read_is inside now n old at.0 same is at.1 in
    ap (λ t. set t n new) same ∙ update_is (λ s. lane_of [] s.room) now n at.0 new at.1 (ap (λ (s : Lane). lane_of [] s.room) (sym here) ∙ sym e)

pub poured_is : (inside now : List Lane) (n : ℕ) (old : Lane) (before after : List Item) → inside ≡ now → old ≡ get_or inside n old → after ≡ before ++ old.items → (s : Lane) → slice_get now n ≡ Some s
    → after ≡ before ++ s.items
poured_is inside now n old before after same is e s at = e ∙ ap (λ (u : Lane). before ++ u.items) (read_is inside now n old s same is at)
