-- What spans give while histories grow.
use Rattle.std.proofs.Common.{◌≡◌, ℕ, suc, ◌-◌, ◌≤◌, Bool, true, false, if◌then◌else◌, eqb, List, [], ◌∷◌, ◌++◌, None, Some, length, take, drop, refl, sym, ap, ◌∙◌, subst, append_assoc, append-nil, length-drop, arith}
use Rattle.std.proofs.lemmas.Bool.{true≢false, false≢true}
use Rattle.std.proofs.lemmas.List.{drop-append-le, take-append-le}
use Rattle.flow_model.specs.Item.{Item, Ev, FlushStop, is_eos, is_flush_stop}
use Rattle.flow_model.specs.Call.{Call, Feed, Act, Mark, feeds, items, marks_at, with_marks}
use Rattle.flow_model.specs.Prefix.{IsPrefix}
use Rattle.flow_model.specs.Sticky.{stickies}
use Rattle.flow_model.specs.Link.{Span, Linked, WasLinked, Flushed, Given, span_calls, input_of}
use Rattle.flow_model.proofs.Counted.{since_all}
use Rattle.flow_model.proofs.Items.{items_feeds}
use Rattle.flow_model.proofs.Prefixes.{prefix_length, prefix_of_drop, rest_of, take_prefix}
use Rattle.gst_item.specs.Item.{has_item}
use Rattle.gst_item.specs.Sticky.{first_found, has_flush_stop, latest, since_flush_stop}
use Rattle.flow_model.specs.Standing.{is_linked}
use Rattle.pad_core.specs.Crossing.{has_ended}
use Rattle.graph_edits.specs.Growing.{AreWithin}
use Rattle.graph_edits.specs.Refused.{first_giver}

-- ---- streams without FLUSH_STOP behind what was there

-- what was found is found in more
found_more : (l l' c : List Item) → (has_item l ≡ true → has_item l' ≡ true) → has_item (first_found l c) ≡ true → has_item (first_found l' c) ≡ true
found_more [] [] c f e = e
found_more (y ∷ ys) [] c f e = absurd (false≢true (f refl))
found_more l (z ∷ zs) c f e = refl

latest_more : (passes : Item → Bool) (h ys : List Item) → has_item (latest passes h) ≡ true → has_item (latest passes (h ++ ys)) ≡ true
latest_more passes [] ys e = absurd (false≢true e)
latest_more passes (x ∷ xs) ys e = found_more (latest passes xs) (latest passes (xs ++ ys)) (if passes x then x ∷ [] else []) (latest_more passes xs ys) e

pub flush_more : (xs more : List Item) → has_flush_stop more ≡ false → has_flush_stop (xs ++ more) ≡ has_flush_stop xs
flush_more [] more calm = calm
flush_more (x ∷ xs) more calm = ap (λ (b : Bool). if is_flush_stop x then true else b) (flush_more xs more calm)

since_more : (xs more : List Item) → has_flush_stop more ≡ false → since_flush_stop (xs ++ more) ≡ since_flush_stop xs ++ more
since_more [] more calm = since_all more calm
since_more (x ∷ xs) more calm = rw (flush_more xs more calm, since_more xs more calm) (go (has_flush_stop xs) (is_flush_stop x))
  where
    go : (h f : Bool) → (if h then since_flush_stop xs ++ more else (if f then xs ++ more else x ∷ (xs ++ more))) ≡ (if h then since_flush_stop xs else (if f then xs else x ∷ xs)) ++ more
    go true f = refl
    go false true = refl
    go false false = refl

-- a stream that has ended stays so
pub ended_more : (xs more : List Item) → has_flush_stop more ≡ false → has_ended xs ≡ true → has_ended (xs ++ more) ≡ true
ended_more xs more calm e = subst (λ (l : List Item). has_item (latest is_eos l) ≡ true) (sym (since_more xs more calm)) (latest_more is_eos (since_flush_stop xs) more e)

pub calm_back : (xs more : List Item) → has_flush_stop (xs ++ more) ≡ false → has_flush_stop more ≡ false
calm_back [] more e = e
calm_back (x ∷ xs) more e = go (is_flush_stop x) e (calm_back xs more)
  where
    go : (b : Bool) → (if b then true else has_flush_stop (xs ++ more)) ≡ false → (has_flush_stop (xs ++ more) ≡ false → has_flush_stop more ≡ false) → has_flush_stop more ≡ false
    go true e rest = absurd (true≢false e)
    go false e rest = rest e

item_more : (xs more : List Item) → has_item xs ≡ true → has_item (xs ++ more) ≡ true
item_more [] more e = absurd (false≢true e)
item_more (x ∷ xs) more e = refl

-- ---- the items among calls

pub items_append : (cs ds : List Call) → items (cs ++ ds) ≡ items cs ++ items ds
items_append [] ds = refl
items_append (Feed x ∷ cs) ds = ap (λ zs. x ∷ zs) (items_append cs ds)
items_append (Act m ∷ cs) ds = items_append cs ds

no_items : (n : ℕ) (ms : List (ℕ × Mark)) → items (marks_at n ms) ≡ []
no_items n [] = refl
no_items n (m ∷ ms) = go (eqb m.0 n) (no_items n ms)
  where
    go : (b : Bool) → items (marks_at n ms) ≡ [] → items (if b then Act m.1 ∷ marks_at n ms else marks_at n ms) ≡ []
    go true e = e
    go false e = e

pub items_marked : (ms : List (ℕ × Mark)) (n : ℕ) (xs : List Item) → items (with_marks ms n xs) ≡ xs
items_marked ms n [] = no_items n ms
items_marked ms n (x ∷ xs) =
    items_append (marks_at n ms) (Feed x ∷ with_marks ms (suc n) xs)
    ∙ ap (λ zs. zs ++ x ∷ items (with_marks ms (suc n) xs)) (no_items n ms)
    ∙ ap (λ zs. x ∷ zs) (items_marked ms (suc n) xs)

-- what a link gives: the sticky events in force, and the items from its place on
pub link_items : (h : ℕ → List Item) (source from : ℕ) (marks : List (ℕ × Mark)) → items (span_calls h (Linked source from marks)) ≡ stickies (take from (h source)) ++ drop from (h source)
link_items h source from marks =
    let first = feeds (stickies (take from (h source))) in
    let rest = with_marks marks from (drop from (h source)) in
    items_append first rest
    ∙ ap (λ zs. zs ++ items rest) (items_feeds (stickies (take from (h source))))
    ∙ ap (λ zs. stickies (take from (h source)) ++ zs) (items_marked marks from (drop from (h source)))

-- calls behind which more items come
joined : (cs ds ds' : List Call) (more : List Item) → items ds' ≡ items ds ++ more → items (cs ++ ds') ≡ items (cs ++ ds) ++ more
joined cs ds ds' more e =
    items_append cs ds'
    ∙ ap (λ zs. items cs ++ zs) e
    ∙ sym (append_assoc (items cs) (items ds) more)
    ∙ ap (λ zs. zs ++ more) (sym (items_append cs ds))

-- ---- spans, where histories grow

module _ (h h' : ℕ → List Item) (longer : (p : ℕ) → IsPrefix (h p) (h' p)) where
  pub within_grows : (ss : List Span) → AreWithin h ss → AreWithin h' ss
  within_grows [] w = tt
  within_grows (Linked source from marks ∷ ss) w = let more = prefix_length (longer source) in let low = w.0 in (omega arith, w.1)
  within_grows (WasLinked source from to eos marks ∷ ss) w = let more = prefix_length (longer source) in let low = w.0 in let high = w.1 in (omega arith, omega arith, within_grows ss w.2)
  within_grows (Flushed number ∷ ss) w = within_grows ss w
  within_grows (Given calls ∷ ss) w = within_grows ss w

  -- a link that was undone gives what it gave
  was_same : (source from to : ℕ) (eos : Bool) (marks : List (ℕ × Mark)) → from ≤ length (h source) → to ≤ length (h source)
      → span_calls h' (WasLinked source from to eos marks) ≡ span_calls h (WasLinked source from to eos marks)
  was_same source from to eos marks low high =
      let room : to - from ≤ length (drop from (h source)) = rw length-drop (omega arith) in
      let same = take_prefix from (longer source) low in
      let part = take_prefix (to - from) (prefix_of_drop from (longer source)) room in
      rw (same, part) refl

  -- so do all spans among which no link stands
  pub unlinked_same : (ss : List Span) → AreWithin h ss → is_linked ss ≡ false → input_of h' ss ≡ input_of h ss
  unlinked_same [] w free = refl
  unlinked_same (Linked source from marks ∷ ss) w free = absurd (true≢false free)
  unlinked_same (WasLinked source from to eos marks ∷ ss) w free =
      ap (λ zs. zs ++ input_of h' ss) (was_same source from to eos marks w.0 w.1)
      ∙ ap (λ zs. span_calls h (WasLinked source from to eos marks) ++ zs) (unlinked_same ss w.2 free)
  unlinked_same (Flushed number ∷ ss) w free = ap (λ zs. Feed (Ev (FlushStop number)) ∷ zs) (unlinked_same ss w free)
  unlinked_same (Given calls ∷ ss) w free = ap (λ zs. calls ++ zs) (unlinked_same ss w free)

  -- a link that stands gives what crossed more
  link_more : (source from : ℕ) (marks : List (ℕ × Mark)) (more : List Item) → h source ++ more ≡ h' source → from ≤ length (h source)
      → items (span_calls h' (Linked source from marks)) ≡ items (span_calls h (Linked source from marks)) ++ more
  link_more source from marks more e low =
      link_items h' source from marks
      ∙ ap (λ (zs : List Item). stickies (take from zs) ++ drop from zs) (sym e)
      ∙ ap (λ (zs : List Item). stickies zs ++ drop from (h source ++ more)) (take-append-le from (h source) more low)
      ∙ ap (λ (zs : List Item). stickies (take from (h source)) ++ zs) (drop-append-le from (h source) more low)
      ∙ sym (append_assoc (stickies (take from (h source))) (drop from (h source)) more)
      ∙ ap (λ (zs : List Item). zs ++ more) (sym (link_items h source from marks))

  -- the first giver stays
  pub giver_stays : (ss : List Span) (giver : ℕ) → AreWithin h ss → first_giver h ss ≡ Some giver → first_giver h' ss ≡ Some giver
  giver_stays [] giver w e = e
  giver_stays (Linked source from marks ∷ ss) giver w e =
      rw w.1 (go (has_item (items (span_calls h (Linked source from marks)))) (has_item (items (span_calls h' (Linked source from marks)))) stays (rw w.1 at e))
    where
      stays : has_item (items (span_calls h (Linked source from marks))) ≡ true → has_item (items (span_calls h' (Linked source from marks))) ≡ true
      stays some =
          let r = rest_of (longer source) in
          subst (λ (zs : List Item). has_item zs ≡ true) (sym (link_more source from marks r.0 r.1 w.0)) (item_more (items (span_calls h (Linked source from marks))) r.0 some)

      go : (b b' : Bool) → (b ≡ true → b' ≡ true) → (if b then Some source else None) ≡ Some giver → (if b' then Some source else None) ≡ Some giver
      go true b' s e = rw (s refl) e
      go false b' s e = absurd (cc)
  giver_stays (WasLinked source from to eos marks ∷ ss) giver w e =
      subst (λ (cs : List Call). (if has_item (items cs) then Some source else first_giver h' ss) ≡ Some giver) (sym (was_same source from to eos marks w.0 w.1))
      (go (has_item (items (span_calls h (WasLinked source from to eos marks)))) e (giver_stays ss giver w.2))
    where
      go : (b : Bool) → (if b then Some source else first_giver h ss) ≡ Some giver → (first_giver h ss ≡ Some giver → first_giver h' ss ≡ Some giver) → (if b then Some source else first_giver h' ss) ≡ Some giver
      go true e rest = e
      go false e rest = rest e
  giver_stays (Flushed number ∷ ss) giver w e = giver_stays ss giver w e
  giver_stays (Given calls ∷ ss) giver w e = go (has_item (items calls)) e (giver_stays ss giver w)
    where
      go : (b : Bool) → (if b then first_giver h ss else first_giver h ss) ≡ Some giver → (first_giver h ss ≡ Some giver → first_giver h' ss ≡ Some giver)
          → (if b then first_giver h' ss else first_giver h' ss) ≡ Some giver
      go true e rest = rest e
      go false e rest = rest e

  module _ (unflushed : (p : ℕ) → has_flush_stop (h' p) ≡ false) where
    -- what a sink pad was given, it was given more behind it
    given_more : (ss : List Span) → AreWithin h ss → (more : List Item) × (has_flush_stop more ≡ false) × (items (input_of h' ss) ≡ items (input_of h ss) ++ more)
    given_more [] w = ([], refl, refl)
    given_more (Linked source from marks ∷ ss) w =
        let r = rest_of (longer source) in (
          r.0,
          calm_back (h source) r.0 (subst (λ (zs : List Item). has_flush_stop zs ≡ false) (sym r.1) (unflushed source)),
          rw w.1 (rw (append-nil (span_calls h' (Linked source from marks)), append-nil (span_calls h (Linked source from marks))) (link_more source from marks r.0 r.1 w.0)),
        )
    given_more (WasLinked source from to eos marks ∷ ss) w =
        let r = given_more ss w.2 in (
          r.0,
          r.1,
          ap (λ (zs : List Call). items (zs ++ input_of h' ss)) (was_same source from to eos marks w.0 w.1)
              ∙ joined (span_calls h (WasLinked source from to eos marks)) (input_of h ss) (input_of h' ss) r.0 r.2,
        )
    given_more (Flushed number ∷ ss) w = let r = given_more ss w in (r.0, r.1, ap (λ zs. Ev (FlushStop number) ∷ zs) r.2)
    given_more (Given calls ∷ ss) w = let r = given_more ss w in (r.0, r.1, joined calls (input_of h ss) (input_of h' ss) r.0 r.2)

    -- so it stays ended
    pub ended_stays : (ss : List Span) → AreWithin h ss → has_ended (items (input_of h ss)) ≡ true → has_ended (items (input_of h' ss)) ≡ true
    ended_stays ss w e =
        let r = given_more ss w in
        subst (λ (zs : List Item). has_ended zs ≡ true) (sym r.2) (ended_more (items (input_of h ss)) r.0 r.1 e)
