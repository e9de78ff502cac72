-- What the spans of one sink pad say of its first giver.
use Rattle.std.proofs.Common.{◌≡◌, ◌⊎◌, ℕ, zero, suc, ◌<◌, ◌≤◌, ◌||◌, Bool, true, false, if◌then◌else◌, eqb, List, [], ◌∷◌, ◌++◌, None, Some, length, map, take, drop, refl, sym, ap, ◌∙◌, length-drop, inl, inr, arith}
use Rattle.std.specs.Prelude.{nat_lt}
use Rattle.std.proofs.Math.Seq.{take-length}
use Rattle.std.proofs.lemmas.Bool.{false≢true, ltb-false, ltb-true, true≢false}
use Rattle.std.proofs.lemmas.Bool.Decides.{eqb_tells}
use Rattle.flow_model.specs.Item.{Item, Ev, Eos}
use Rattle.flow_model.specs.Call.{Call, Feed as Fed, Act, Mark, feeds, items, marks_at, with_marks}
use Rattle.flow_model.specs.Link.{Span, Linked, WasLinked, Flushed, Given, between, span_calls}
use Rattle.flow_model.specs.Sticky.{stickies}
use Rattle.flow_model.proofs.Items.{items_feeds}
use Rattle.gst_item.specs.Item.{has_item}
use Rattle.flow_model.specs.Edit.{undo}
use Rattle.flow_model.specs.Standing.{is_linked, links_from}
use Rattle.graph_edits.specs.Growing.{AreWithin}
use Rattle.graph_edits.specs.Refused.{first_giver}
use Rattle.edit_core.proofs.Lists.{told}
use Rattle.edit_core.specs.Feeds.{IsBegun, closed, given_by}

-- ---- items

pub either_item : (xs ys : List Item) → has_item (xs ++ ys) ≡ (has_item xs || has_item ys)
either_item [] ys = refl
either_item (x ∷ xs) ys = refl

some_behind : (n : ℕ) (xs : List Item) → n < length xs → has_item (drop n xs) ≡ true
some_behind n [] low = absurd (omega (arith, low))
some_behind zero (x ∷ xs) low = refl
some_behind (suc n) (x ∷ xs) low = some_behind n xs (omega (arith, low))

none_behind : (n : ℕ) (xs : List Item) → length xs ≤ n → has_item (drop n xs) ≡ false
none_behind zero [] high = refl
none_behind (suc n) [] high = refl
none_behind zero (x ∷ xs) high = absurd (omega (arith, high))
none_behind (suc n) (x ∷ xs) high = none_behind n xs (omega (arith, high))

item_behind : (n : ℕ) (xs : List Item) → has_item (drop n xs) ≡ nat_lt n (length xs)
item_behind n xs = go (told (nat_lt n (length xs)))
  where
    go : (nat_lt n (length xs) ≡ true) ⊎ (nat_lt n (length xs) ≡ false) → has_item (drop n xs) ≡ nat_lt n (length xs)
    go (inl is) = some_behind n xs (ltb-true n (length xs) is) ∙ sym is
    go (inr not) = none_behind n xs (ltb-false n (length xs) not) ∙ sym not

item_between : (from : ℕ) (xs : List Item) → has_item (between from (length xs) xs) ≡ nat_lt from (length xs)
item_between from xs =
    ap has_item (ap (λ (n : ℕ). take n (drop from xs)) (sym (length-drop from xs)) ∙ take-length (drop from xs)) ∙ item_behind from xs

items_append : (cs ds : List Call) → items (cs ++ ds) ≡ items cs ++ items ds
items_append [] ds = refl
items_append (Fed x ∷ cs) ds = ap (λ zs. x ∷ zs) (items_append cs ds)
items_append (Act m ∷ cs) ds = items_append cs ds

no_items : (n : ℕ) (ms : List (ℕ × Mark)) → items (marks_at n ms) ≡ []
no_items n [] = refl
no_items n (m ∷ ms) = go (eqb m.0 n) (no_items n ms)
  where
    go : (b : Bool) → items (marks_at n ms) ≡ [] → items (if b then Act m.1 ∷ marks_at n ms else marks_at n ms) ≡ []
    go true e = e
    go false e = e

items_marked : (ms : List (ℕ × Mark)) (n : ℕ) (xs : List Item) → items (with_marks ms n xs) ≡ xs
items_marked ms n [] = no_items n ms
items_marked ms n (x ∷ xs) =
    items_append (marks_at n ms) (Fed x ∷ with_marks ms (suc n) xs)
    ∙ ap (λ zs. zs ++ x ∷ items (with_marks ms (suc n) xs)) (no_items n ms)
    ∙ ap (λ zs. x ∷ zs) (items_marked ms (suc n) xs)

-- what calls give behind sticky events
given_behind : (first : List Item) (rest : List Call) → has_item (items (feeds first ++ rest)) ≡ (has_item first || has_item (items rest))
given_behind first rest =
    ap has_item (items_append (feeds first) rest ∙ ap (λ zs. zs ++ items rest) (items_feeds first)) ∙ either_item first (items rest)

-- a link that stands gave something: sticky events at its beginning, or what crossed since
link_gives : (h : ℕ → List Item) (source from : ℕ) (marks : List (ℕ × Mark))
    → has_item (items (span_calls h (Linked source from marks))) ≡ (has_item (stickies (take from (h source))) || nat_lt from (length (h source)))
link_gives h source from marks =
    given_behind (stickies (take from (h source))) (with_marks marks from (drop from (h source)))
    ∙ ap (λ zs. has_item (stickies (take from (h source))) || has_item zs) (items_marked marks from (drop from (h source)))
    ∙ ap (λ b. has_item (stickies (take from (h source))) || b) (item_behind from (h source))

eos_items : (eos : Bool) → has_item (items (if eos then Fed (Ev Eos) ∷ [] else [])) ≡ eos
eos_items true = refl
eos_items false = refl

either_same : (a b c d : Bool) → a ≡ b → (b || (c || d)) ≡ ((a || c) || d)
either_same true true c d e = refl
either_same false false c d e = refl
either_same true false c d e = absurd (true≢false e)
either_same false true c d e = absurd (false≢true e)

-- and one that is undone, also where it is for the EOS alone
undone_gives : (h : ℕ → List Item) (source from to : ℕ) (eos : Bool) (marks : List (ℕ × Mark)) → to ≡ length (h source)
    → has_item (items (span_calls h (WasLinked source from to eos marks))) ≡ (has_item (stickies (take from (h source))) || (nat_lt from (length (h source)) || eos))
undone_gives h source from to eos marks all =
    let last = if eos then Fed (Ev Eos) ∷ [] else [] in
    let passed = with_marks marks from (between from to (h source)) in
    given_behind (stickies (take from (h source))) (passed ++ last)
    ∙ ap (λ b. has_item (stickies (take from (h source))) || b)
    (ap has_item (items_append passed last) ∙ either_item (items passed) (items last)
    ∙ ap (λ zs. has_item zs || has_item (items last)) (items_marked marks from (between from to (h source)))
    ∙ ap (λ n. has_item (between from n (h source)) || has_item (items last)) all
    ∙ ap (λ b. b || has_item (items last)) (item_between from (h source))
    ∙ ap (λ b. nat_lt from (length (h source)) || b) (eos_items eos))

-- ---- the spans of one sink pad

-- where no link stands all spans are closed
pub free_closed : (ss : List Span) → is_linked ss ≡ false → closed ss ≡ ss
free_closed [] e = refl
free_closed (Linked source from marks ∷ ss) e = absurd (true≢false e)
free_closed (WasLinked source from to eos marks ∷ ss) e = ap (λ zs. WasLinked source from to eos marks ∷ zs) (free_closed ss e)
free_closed (Flushed number ∷ ss) e = ap (λ zs. Flushed number ∷ zs) (free_closed ss e)
free_closed (Given calls ∷ ss) e = ap (λ zs. Given calls ∷ zs) (free_closed ss e)

-- the one that stands comes from the source pad of which it is told
own_source : (p source : ℕ) → (if eqb source p then true else false) ≡ true → source ≡ p
own_source p source e = go (eqb_tells source p) e
  where
    go : ((eqb source p ≡ true) × (source ≡ p)) ⊎ ((eqb source p ≡ false) × (source ≡ p → ⊥)) → (if eqb source p then true else false) ≡ true → source ≡ p
    go (inl t) e = t.1
    go (inr t) e = absurd (false≢true (rw t.0 at e))

module _ (h : ℕ → List Item) (p place : ℕ) (opened : Bool) where
  -- the first giver, where a link stands
  pub standing_giver : (ss : List Span) → AreWithin h ss → IsBegun h place opened ss → links_from p ss ≡ true
      → first_giver h ss ≡ given_by (first_giver h (closed ss)) p (opened || nat_lt place (length (h p)))
  standing_giver [] w b e = absurd (false≢true e)
  standing_giver (Linked source from marks ∷ ss) w b e =
      let same : source ≡ p = own_source p source (rw w.1 at e) in
      let gave : has_item (items (span_calls h (Linked source from marks))) ≡ (opened || nat_lt place (length (h p))) =
      link_gives h source from marks ∙ ap (λ (c : Bool). c || nat_lt from (length (h source))) (sym b.1)
      ∙ ap (λ (n : ℕ). opened || nat_lt n (length (h source))) (sym b.0) ∙ ap (λ (q : ℕ). opened || nat_lt place (length (h q))) same in
      rw w.1 (ap (λ (c : Bool). if c then Some source else None) gave ∙ ap (λ (q : ℕ). if opened || nat_lt place (length (h p)) then Some q else None) same)
  standing_giver (WasLinked source from to eos marks ∷ ss) w b e = go (has_item (items (span_calls h (WasLinked source from to eos marks)))) (standing_giver ss w.2 b e)
    where
      go : (c : Bool) → first_giver h ss ≡ given_by (first_giver h (closed ss)) p (opened || nat_lt place (length (h p)))
          → (if c then Some source else first_giver h ss) ≡ given_by (if c then Some source else first_giver h (closed ss)) p (opened || nat_lt place (length (h p)))
      go true rest = refl
      go false rest = rest
  standing_giver (Flushed number ∷ ss) w b e = standing_giver ss w b e
  standing_giver (Given calls ∷ ss) w b e = go (has_item (items calls)) (standing_giver ss w b e)
    where
      go : (c : Bool) → first_giver h ss ≡ given_by (first_giver h (closed ss)) p (opened || nat_lt place (length (h p)))
          → (if c then first_giver h ss else first_giver h ss) ≡ given_by (if c then first_giver h (closed ss) else first_giver h (closed ss)) p (opened || nat_lt place (length (h p)))
      go true rest = rest
      go false rest = rest

  -- it stays so where that link is undone when all has crossed
  pub undone_giver : (to : ℕ) (eos : Bool) → to ≡ length (h p) → (ss : List Span) → AreWithin h ss → IsBegun h place opened ss → links_from p ss ≡ true
      → first_giver h (closed (map (undo p to eos) ss)) ≡ given_by (first_giver h (closed ss)) p ((opened || nat_lt place to) || eos)
  undone_giver to eos all [] w b e = absurd (false≢true e)
  undone_giver to eos all (Linked source from marks ∷ ss) w b e = rw w.1 (go (eqb_tells source p) (rw w.1 at e))
    where
      gave : source ≡ p → has_item (items (span_calls h (WasLinked source from to eos marks))) ≡ ((opened || nat_lt place to) || eos)
      gave same =
          undone_gives h source from to eos marks (all ∙ ap (λ (q : ℕ). length (h q)) (sym same))
          ∙ ap (λ (n : ℕ). has_item (stickies (take from (h source))) || (nat_lt from n || eos)) (ap (λ (q : ℕ). length (h q)) same ∙ sym all)
          ∙ ap (λ (n : ℕ). has_item (stickies (take from (h source))) || (nat_lt n to || eos)) (sym b.0)
          ∙ either_same opened (has_item (stickies (take from (h source)))) (nat_lt place to) eos b.1

      go : ((eqb source p ≡ true) × (source ≡ p)) ⊎ ((eqb source p ≡ false) × (source ≡ p → ⊥)) → (if eqb source p then true else false) ≡ true
          → first_giver h (closed ((if eqb source p then WasLinked source from to eos marks else Linked source from marks) ∷ [])) ≡ given_by None p ((opened || nat_lt place to) || eos)
      go (inl t) e = rw t.0 (ap (λ (c : Bool). if c then Some source else None) (gave t.1) ∙ ap (λ (q : ℕ). if (opened || nat_lt place to) || eos then Some q else None) t.1)
      go (inr t) e = absurd (false≢true (rw t.0 at e))
  undone_giver to eos all (WasLinked source from till ended marks ∷ ss) w b e = go (has_item (items (span_calls h (WasLinked source from till ended marks)))) (undone_giver to eos all ss w.2 b e)
    where
      go : (c : Bool) → first_giver h (closed (map (undo p to eos) ss)) ≡ given_by (first_giver h (closed ss)) p ((opened || nat_lt place to) || eos)
          → (if c then Some source else first_giver h (closed (map (undo p to eos) ss))) ≡ given_by (if c then Some source else first_giver h (closed ss)) p ((opened || nat_lt place to) || eos)
      go true rest = refl
      go false rest = rest
  undone_giver to eos all (Flushed number ∷ ss) w b e = undone_giver to eos all ss w b e
  undone_giver to eos all (Given calls ∷ ss) w b e = go (has_item (items calls)) (undone_giver to eos all ss w b e)
    where
      go : (c : Bool) → first_giver h (closed (map (undo p to eos) ss)) ≡ given_by (first_giver h (closed ss)) p ((opened || nat_lt place to) || eos)
          → (if c then first_giver h (closed (map (undo p to eos) ss)) else first_giver h (closed (map (undo p to eos) ss)))
          ≡ given_by (if c then first_giver h (closed ss) else first_giver h (closed ss)) p ((opened || nat_lt place to) || eos)
      go true rest = rest
      go false rest = rest

  -- and then none stands
  pub undone_begun : (at to : ℕ) (eos begins : Bool) (ss : List Span) → AreWithin h ss → links_from p ss ≡ true → IsBegun h at begins (map (undo p to eos) ss)
  undone_begun at to eos begins [] w e = tt
  undone_begun at to eos begins (Linked source from marks ∷ ss) w e = rw w.1 (go (eqb source p) (rw w.1 at e))
    where
      go : (c : Bool) → (if c then true else false) ≡ true → IsBegun h at begins ((if c then WasLinked source from to eos marks else Linked source from marks) ∷ [])
      go true e = tt
      go false e = absurd (false≢true e)
  undone_begun at to eos begins (WasLinked source from till ended marks ∷ ss) w e = undone_begun at to eos begins ss w.2 e
  undone_begun at to eos begins (Flushed number ∷ ss) w e = undone_begun at to eos begins ss w e
  undone_begun at to eos begins (Given calls ∷ ss) w e = undone_begun at to eos begins ss w e

-- spans among which no link of a source pad stands stay as they are
pub undone_none : (p to : ℕ) (eos : Bool) (ss : List Span) → links_from p ss ≡ false → map (undo p to eos) ss ≡ ss
undone_none p to eos [] e = refl
undone_none p to eos (Linked source from marks ∷ ss) e = go (eqb source p) e (undone_none p to eos ss)
  where
    go : (c : Bool) → (if c then true else links_from p ss) ≡ false → (links_from p ss ≡ false → map (undo p to eos) ss ≡ ss)
        → (if c then WasLinked source from to eos marks else Linked source from marks) ∷ map (undo p to eos) ss ≡ Linked source from marks ∷ ss
    go true e rest = absurd (true≢false e)
    go false e rest = ap (λ zs. Linked source from marks ∷ zs) (rest e)
undone_none p to eos (WasLinked source from till ended marks ∷ ss) e = ap (λ zs. WasLinked source from till ended marks ∷ zs) (undone_none p to eos ss e)
undone_none p to eos (Flushed number ∷ ss) e = ap (λ zs. Flushed number ∷ zs) (undone_none p to eos ss e)
undone_none p to eos (Given calls ∷ ss) e = ap (λ zs. Given calls ∷ zs) (undone_none p to eos ss e)

-- ---- a link more

pub linked_closed : (p at : ℕ) (ss : List Span) → closed (ss ++ Linked p at [] ∷ []) ≡ closed ss
linked_closed p at [] = refl
linked_closed p at (Linked source from marks ∷ ss) = linked_closed p at ss
linked_closed p at (WasLinked source from to eos marks ∷ ss) = ap (λ zs. WasLinked source from to eos marks ∷ zs) (linked_closed p at ss)
linked_closed p at (Flushed number ∷ ss) = ap (λ zs. Flushed number ∷ zs) (linked_closed p at ss)
linked_closed p at (Given calls ∷ ss) = ap (λ zs. Given calls ∷ zs) (linked_closed p at ss)

pub linked_begun : (h : ℕ → List Item) (p at : ℕ) (opened : Bool) → opened ≡ has_item (stickies (take at (h p))) → (ss : List Span) → is_linked ss ≡ false → IsBegun h at opened (ss ++ Linked p at [] ∷ [])
linked_begun h p at opened is [] e = (refl, is, tt)
linked_begun h p at opened is (Linked source from marks ∷ ss) e = absurd (true≢false e)
linked_begun h p at opened is (WasLinked source from to eos marks ∷ ss) e = linked_begun h p at opened is ss e
linked_begun h p at opened is (Flushed number ∷ ss) e = linked_begun h p at opened is ss e
linked_begun h p at opened is (Given calls ∷ ss) e = linked_begun h p at opened is ss e

-- where none stands nothing is said of its beginning
pub free_begun : (h : ℕ → List Item) (place : ℕ) (opened : Bool) (ss : List Span) → is_linked ss ≡ false → IsBegun h place opened ss
free_begun h place opened [] e = tt
free_begun h place opened (Linked source from marks ∷ ss) e = absurd (true≢false e)
free_begun h place opened (WasLinked source from to eos marks ∷ ss) e = free_begun h place opened ss e
free_begun h place opened (Flushed number ∷ ss) e = free_begun h place opened ss e
free_begun h place opened (Given calls ∷ ss) e = free_begun h place opened ss e
