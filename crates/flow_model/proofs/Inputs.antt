-- How what the sink pads are given grows, where an item crosses one source pad or several.
use Rattle.std.proofs.Common.{◌≡◌, ◌⊎◌, ℕ, zero, suc, ◌-◌, ◌+◌, ◌≤◌, Bool, true, false, if◌then◌else◌, eqb, List, [], ◌∷◌, ◌++◌, length, take, drop, map, refl, sym, ap, ◌∙◌, inl, inr, append_assoc, append-nil, length-drop, arith}
use Rattle.std.proofs.lemmas.List.{take-append-le, drop-append-le}
use Rattle.std.proofs.lemmas.Bool.Decides.{eqb_tells}
use Rattle.flow_model.specs.Item.{Item, Ev, FlushStop}
use Rattle.flow_model.specs.Call.{Feed, Act, Mark, feeds, marks_at, with_marks}
use Rattle.flow_model.specs.Prefix.{IsPrefix}
use Rattle.flow_model.specs.Sticky.{stickies}
use Rattle.flow_model.specs.Link.{Span, Linked, WasLinked, Flushed, Given, span_calls, input_of}
use Rattle.flow_model.proofs.Prefixes.{prefix_by, take_prefix, prefix_of_drop, prefix_length}
use Rattle.flow_model.specs.Moment.{put_at}
use Rattle.flow_model.specs.SinkPads.{push_calls}
use Rattle.flow_model.specs.Standing.{MarksTo, Standing, AllStanding, links_from_one, links_from, LinksNowhere, LinksAt}

pub at_here : {A : Type 0} (n : ℕ) (a : A) (f : ℕ → A) → put_at n a f n ≡ a
at_here n a f = go (eqb_tells n n)
  where
    go : ((eqb n n ≡ true) × (n ≡ n)) ⊎ ((eqb n n ≡ false) × (n ≡ n → ⊥)) → put_at n a f n ≡ a
    go (inl t) = rw t.0 refl
    go (inr t) = absurd (t.1 refl)

pub at_other : {A : Type 0} (n : ℕ) (a : A) (f : ℕ → A) (k : ℕ) → (k ≡ n → ⊥) → put_at n a f k ≡ f k
at_other n a f k other = go (eqb_tells k n)
  where
    go : ((eqb k n ≡ true) × (k ≡ n)) ⊎ ((eqb k n ≡ false) × (k ≡ n → ⊥)) → put_at n a f k ≡ f k
    go (inl t) = absurd (other t.1)
    go (inr t) = rw t.0 refl

pub with_marks_push : (ms : List (ℕ × Mark)) (n : ℕ) (xs : List Item) (x : Item) → with_marks ms n (xs ++ x ∷ []) ≡ with_marks ms n xs ++ Feed x ∷ marks_at (suc (n + length xs)) ms
with_marks_push ms n [] x = let e : n + 0 ≡ n = omega arith in rw e refl
with_marks_push ms n (y ∷ xs) x =
    let e : suc n + length xs ≡ n + suc (length xs) = omega arith in
    ap (λ zs. marks_at n ms ++ Feed y ∷ zs) (with_marks_push ms (suc n) xs x ∙ ap (λ m. with_marks ms (suc n) xs ++ Feed x ∷ marks_at (suc m) ms) e)
    ∙ sym (append_assoc (marks_at n ms) (Feed y ∷ with_marks ms (suc n) xs) (Feed x ∷ marks_at (suc (n + suc (length xs))) ms))

-- behind a place there are no marks
pub none_past : (n : ℕ) (ms : List (ℕ × Mark)) → MarksTo n ms → marks_at (suc n) ms ≡ []
none_past n [] w = refl
none_past n (m ∷ ms) w = go (none_past n ms w.1) (eqb_tells m.0 (suc n))
  where
    go : marks_at (suc n) ms ≡ [] → ((eqb m.0 (suc n) ≡ true) × (m.0 ≡ suc n)) ⊎ ((eqb m.0 (suc n) ≡ false) × (m.0 ≡ suc n → ⊥)) → (if eqb m.0 (suc n) then Act m.1 ∷ marks_at (suc n) ms else marks_at (suc n) ms) ≡ []
    go later (inl t) = absurd (let low = w.0 in let same = t.1 in omega arith)
    go later (inr t) = rw t.0 later

pub marks_to : (n k : ℕ) (ms : List (ℕ × Mark)) → n ≤ k → MarksTo n ms → MarksTo k ms
marks_to n k [] le w = tt
marks_to n k (m ∷ ms) le w = (let low = w.0 in omega arith, marks_to n k ms le w.1)

-- where histories grow the links still stand
pub standing_grows : (h h' : ℕ → List Item) → ((p : ℕ) → IsPrefix (h p) (h' p)) → (ss : List Span) → Standing h ss → Standing h' ss
standing_grows h h' g [] s = tt
standing_grows h h' g (Linked source from marks ∷ ss) s = let more = prefix_length (g source) in let low = s.0 in (omega arith, marks_to _ _ marks more s.1, s.2)
standing_grows h h' g (WasLinked source from to eos marks ∷ ss) s = let more = prefix_length (g source) in let high = s.1 in (s.0, omega arith, standing_grows h h' g ss s.2)
standing_grows h h' g (Flushed number ∷ ss) s = standing_grows h h' g ss s
standing_grows h h' g (Given calls ∷ ss) s = standing_grows h h' g ss s

pub all_standing_grow : (h h' : ℕ → List Item) → ((p : ℕ) → IsPrefix (h p) (h' p)) → (sss : List (List Span)) → AllStanding h sss → AllStanding h' sss
all_standing_grow h h' g [] s = tt
all_standing_grow h h' g (ss ∷ sss) s = (standing_grows h h' g ss s.0, all_standing_grow h h' g sss s.1)

-- a link that was undone gives what it gave
was_same : (h h' : ℕ → List Item) → ((p : ℕ) → IsPrefix (h p) (h' p)) → (source from to : ℕ) (eos : Bool) (marks : List (ℕ × Mark)) → from ≤ to → to ≤ length (h source)
    → span_calls h' (WasLinked source from to eos marks) ≡ span_calls h (WasLinked source from to eos marks)
was_same h h' g source from to eos marks order high =
    let room : to - from ≤ length (drop from (h source)) = rw length-drop (omega arith) in
    let low : from ≤ length (h source) = omega arith in
    let same = take_prefix from (g source) low in
    let part = take_prefix (to - from) (prefix_of_drop from (g source)) room in
    rw (same, part) refl

-- An item crosses some source pads, each once.
module _ (h h' : ℕ → List Item) (crosses : ℕ → Bool) (x : Item) (more : (q : ℕ) → h' q ≡ h q ++ (if crosses q then x ∷ [] else [])) where
  pub all_longer : (q : ℕ) → IsPrefix (h q) (h' q)
  all_longer q = prefix_by (h q) (if crosses q then x ∷ [] else []) (sym (more q))

  -- what a standing link gives more
  link_more : (source from : ℕ) (marks : List (ℕ × Mark)) → crosses source ≡ true → from ≤ length (h source) → MarksTo (length (h source)) marks
      → span_calls h' (Linked source from marks) ≡ span_calls h (Linked source from marks) ++ Feed x ∷ []
  link_more source from marks c le to =
      let end : from + length (drop from (h source)) ≡ length (h source) = rw length-drop (omega arith) in
      let grown : h' source ≡ h source ++ x ∷ [] = more source ∙ ap (λ (b : Bool). h source ++ (if b then x ∷ [] else [])) c in
      rw (grown, take-append-le from (h source) (x ∷ []) le, drop-append-le from (h source) (x ∷ []) le, with_marks_push marks from (drop from (h source)) x, end, none_past (length (h source)) marks to)
      (sym (append_assoc (feeds (stickies (take from (h source)))) (with_marks marks from (drop from (h source))) (Feed x ∷ [])))

  link_same : (source from : ℕ) (marks : List (ℕ × Mark)) → crosses source ≡ false → span_calls h' (Linked source from marks) ≡ span_calls h (Linked source from marks)
  link_same source from marks c =
      let same : h' source ≡ h source = more source ∙ ap (λ (b : Bool). h source ++ (if b then x ∷ [] else [])) c ∙ append-nil (h source) in
      rw same refl

  -- what a sink pad is given behind that
  pub all_given_more : (ss : List Span) → Standing h ss → input_of h' ss ≡ input_of h ss ++ (if links_from_one crosses ss then Feed x ∷ [] else [])
  all_given_more [] s = refl
  all_given_more (Linked source from marks ∷ ss) s = rw s.2 (append-nil (span_calls h' (Linked source from marks)) ∙ go (crosses source) refl)
    where
      go : (b : Bool) → crosses source ≡ b → span_calls h' (Linked source from marks) ≡ (span_calls h (Linked source from marks) ++ []) ++ (if (if b then true else false) then Feed x ∷ [] else [])
      go true c = link_more source from marks c s.0 s.1 ∙ ap (λ zs. zs ++ Feed x ∷ []) (sym (append-nil (span_calls h (Linked source from marks))))
      go false c = link_same source from marks c ∙ sym (append-nil (span_calls h (Linked source from marks))) ∙ sym (append-nil (span_calls h (Linked source from marks) ++ []))
  all_given_more (WasLinked source from to eos marks ∷ ss) s =
      ap (λ zs. zs ++ input_of h' ss) (was_same h h' all_longer source from to eos marks s.0 s.1)
      ∙ ap (λ zs. span_calls h (WasLinked source from to eos marks) ++ zs) (all_given_more ss s.2)
      ∙ sym (append_assoc (span_calls h (WasLinked source from to eos marks)) (input_of h ss) (if links_from_one crosses ss then Feed x ∷ [] else []))
  all_given_more (Flushed number ∷ ss) s = ap (λ zs. Feed (Ev (FlushStop number)) ∷ zs) (all_given_more ss s)
  all_given_more (Given calls ∷ ss) s =
      ap (λ zs. calls ++ zs) (all_given_more ss s) ∙ sym (append_assoc calls (input_of h ss) (if links_from_one crosses ss then Feed x ∷ [] else []))

-- An item crosses one source pad.
module _ (h : ℕ → List Item) (p : ℕ) (x : Item) where
  -- the histories behind the crossing
  unfoldable pub now : ℕ → List Item
  now = put_at p (h p ++ x ∷ []) h

  crosses_one : (q : ℕ) → now q ≡ h q ++ (if eqb q p then x ∷ [] else [])
  unfolding now
  crosses_one q = go (eqb_tells q p)
    where
      go : ((eqb q p ≡ true) × (q ≡ p)) ⊎ ((eqb q p ≡ false) × (q ≡ p → ⊥)) → put_at p (h p ++ x ∷ []) h q ≡ h q ++ (if eqb q p then x ∷ [] else [])
      go (inl t) = rw (t.0, t.1) refl
      go (inr t) = rw t.0 (sym (append-nil (h q)))

  pub longer : (q : ℕ) → IsPrefix (h q) (now q)
  longer = all_longer h now (λ q. eqb q p) x crosses_one

  given_more : (ss : List Span) → Standing h ss → input_of now ss ≡ input_of h ss ++ (if links_from p ss then Feed x ∷ [] else [])
  given_more = all_given_more h now (λ q. eqb q p) x crosses_one

  pub crossing_elsewhere : (sss : List (List Span)) → AllStanding h sss → LinksNowhere p sss → map (input_of now) sss ≡ map (input_of h) sss
  crossing_elsewhere [] s n = refl
  crossing_elsewhere (ss ∷ sss) s n =
      ap (λ zs. zs ∷ map (input_of now) sss) (given_more ss s.0 ∙ ap (λ (b : Bool). input_of h ss ++ (if b then Feed x ∷ [] else [])) n.0 ∙ append-nil (input_of h ss))
      ∙ ap (λ zs. input_of h ss ∷ zs) (crossing_elsewhere sss s.1 n.1)

  pub crossing_here : (i : ℕ) (sss : List (List Span)) → AllStanding h sss → LinksAt p i sss → map (input_of now) sss ≡ push_calls i (Feed x ∷ []) (map (input_of h) sss)
  crossing_here i [] s l = absurd l
  crossing_here zero (ss ∷ sss) s l =
      ap (λ zs. zs ∷ map (input_of now) sss) (given_more ss s.0 ∙ ap (λ (b : Bool). input_of h ss ++ (if b then Feed x ∷ [] else [])) l.0)
      ∙ ap (λ zs. (input_of h ss ++ Feed x ∷ []) ∷ zs) (crossing_elsewhere sss s.1 l.1)
  crossing_here (suc i) (ss ∷ sss) s l =
      ap (λ zs. zs ∷ map (input_of now) sss) (given_more ss s.0 ∙ ap (λ (b : Bool). input_of h ss ++ (if b then Feed x ∷ [] else [])) l.0 ∙ append-nil (input_of h ss))
      ∙ ap (λ zs. input_of h ss ∷ zs) (crossing_here i sss s.1 l.1)
