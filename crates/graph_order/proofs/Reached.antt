-- Marks and ways.
use Rattle.std.proofs.Common.{◌≡◌, ◌<◌, ◌+◌, ℕ, zero, suc, Bool, true, false, List, [], ◌∷◌, length, get_or, take, refl, sym, ap, ◌∙◌, subst, inl, inr, arith, replicate, ◌⊎◌, ◌||◌}
use Rattle.std.specs.Prelude.{slice_set}
use Rattle.graph_order.specs.declared.link.Link.{Link}
use Rattle.graph_order.specs.Links.{IsLink, Way}
use Rattle.graph_order.specs.Marks.{is_marked, unmarked, AllReached, IsClosed}
use Rattle.gst_value.proofs.Basics.{neither as none_so_far}

-- what is marked behind one more mark
pub set_same : (marks : List Bool) (k : ℕ) → k < length marks → is_marked (slice_set marks k true) k ≡ true
set_same [] k w = absurd (omega arith)
set_same (m ∷ ms) zero w = refl
set_same (m ∷ ms) (suc k) w = set_same ms k (omega arith)

-- an element is marked behind one more mark only where it was, or is the one
pub set_only : (marks : List Bool) (k e : ℕ) → is_marked (slice_set marks k true) e ≡ true → (e ≡ k) ⊎ (is_marked marks e ≡ true)
set_only [] k e h = inr h
set_only (m ∷ ms) zero zero h = inl refl
set_only (m ∷ ms) zero (suc e) h = inr h
set_only (m ∷ ms) (suc k) zero h = inr h
set_only (m ∷ ms) (suc k) (suc e) h = go (set_only ms k e h)
  where
    go : (e ≡ k) ⊎ (is_marked ms e ≡ true) → (suc e ≡ suc k) ⊎ (is_marked ms e ≡ true)
    go (inl same) = inl (ap suc same)
    go (inr marked) = inr marked

pub set_fewer : (marks : List Bool) (k : ℕ) → k < length marks → is_marked marks k ≡ false → unmarked (slice_set marks k true) < unmarked marks
set_fewer [] k w h = absurd (omega arith)
set_fewer (true ∷ ms) zero w h = absurd (cc)
set_fewer (false ∷ ms) zero w h = omega arith
set_fewer (true ∷ ms) (suc k) w h = set_fewer ms k (omega arith) h
set_fewer (false ∷ ms) (suc k) w h = let less = set_fewer ms k (omega arith) h in omega (arith, less)

-- what a link leads to from an element that a way leads to
pub mark_reached : (links : List Link) (a from to : ℕ) (marks : List Bool) → IsLink from to links → is_marked marks from ≡ true → AllReached links a marks → AllReached links a (slice_set marks to true)
mark_reached links a from to marks link on h = λ e m. go e (set_only marks to e m)
  where
    go : (e : ℕ) → (e ≡ to) ⊎ (is_marked marks e ≡ true) → Way links a e
    go e (inl same) = subst (λ (x : ℕ). Way links a x) (sym same) (Way.more a from to (h from on) link)
    go e (inr m) = h e m

closed_at : (links : List Link) (marks : List Bool) (b c : ℕ) → IsClosed links marks → IsLink b c links → is_marked marks b ≡ true → is_marked marks c ≡ true
closed_at [] marks b c h at on = absurd at
closed_at (l ∷ ls) marks b c h (inl same) on = subst (λ (x : ℕ). is_marked marks x ≡ true) same.1 (h.0 (subst (λ (x : ℕ). is_marked marks x ≡ true) (sym same.0) on))
closed_at (l ∷ ls) marks b c h (inr at) on = closed_at ls marks b c h.1 at on

-- a way leads from a marked element to none but marked ones, where no link leads out
pub ways_marked : (links : List Link) (marks : List Bool) (a e : ℕ) → IsClosed links marks → is_marked marks a ≡ true → Way links a e → is_marked marks e ≡ true
ways_marked links marks a e h on (Way.none x) = on
ways_marked links marks a e h on (Way.more x b y way link) = closed_at links marks b e h link (ways_marked links marks a b h on way)

-- a link of a list
pub link_at : (links : List Link) (k : ℕ) (link : Link) → k < length links → link ≡ get_or links k link → IsLink link.from link.to links
link_at [] k link w e = absurd (omega arith)
link_at (l ∷ ls) zero link w e = inl (ap (λ (x : Link). x.from) (sym e), ap (λ (x : Link). x.to) (sym e))
link_at (l ∷ ls) (suc k) link w e = inr (link_at ls k link (omega arith) e)

pub closed_more : (links : List Link) (k : ℕ) (link : Link) (marks : List Bool) → k < length links → link ≡ get_or links k link → IsClosed (take k links) marks
    → (is_marked marks link.from ≡ true → is_marked marks link.to ≡ true) → IsClosed (take (k + 1) links) marks
closed_more links k link marks w e h one =
    let next : suc k ≡ k + 1 = omega arith in
    subst (λ (n : ℕ). IsClosed (take n links) marks) next (go links k w e h)
  where
    go : (ls : List Link) (j : ℕ) → j < length ls → link ≡ get_or ls j link → IsClosed (take j ls) marks → IsClosed (take (suc j) ls) marks
    go [] j w e h = absurd (omega arith)
    go (l ∷ ls) zero w e h = (subst (λ (x : Link). is_marked marks x.from ≡ true → is_marked marks x.to ≡ true) e one, tt)
    go (l ∷ ls) (suc j) w e h = (h.0, go ls j (omega arith) e h.1)

pub none_marked : (n e : ℕ) → is_marked (replicate n false) e ≡ false
none_marked zero e = refl
none_marked (suc n) zero = refl
none_marked (suc n) (suc e) = none_marked n e

-- what holds behind one link more
pub same_more : (was_new is_new : Bool) (first old new : List Bool) → (was_new ≡ false → old ≡ first) → (is_new ≡ false → new ≡ old) → (was_new || is_new) ≡ false → new ≡ first
same_more was_new is_new first old new was is none = let n = none_so_far was_new is_new none in is n.1 ∙ was n.0

pub fewer_more : (was_new is_new : Bool) (first old new : List Bool) → (was_new ≡ false → old ≡ first) → (was_new ≡ true → unmarked old < unmarked first) → (is_new ≡ false → new ≡ old)
    → (is_new ≡ true → unmarked new < unmarked old) → (was_new || is_new) ≡ true → unmarked new < unmarked first
fewer_more true true first old new same less is fewer some = let a = less refl in let b = fewer refl in omega (arith, a, b)
fewer_more true false first old new same less is fewer some = let a = less refl in let b = ap unmarked (is refl) in omega (arith, a, b)
fewer_more false true first old new same less is fewer some = let a = ap unmarked (same refl) in let b = fewer refl in omega (arith, a, b)
fewer_more false false first old new same less is fewer some = absurd (cc)

pub closed_with : (was_new is_new : Bool) (links : List Link) (k : ℕ) (link : Link) (old new : List Bool) → k < length links → link ≡ get_or links k link → (was_new ≡ false → IsClosed (take k links) old)
    → (is_new ≡ false → new ≡ old) → (is_new ≡ false → is_marked old link.from ≡ true → is_marked old link.to ≡ true) → (was_new || is_new) ≡ false → IsClosed (take (k + 1) links) new
closed_with was_new is_new links k link old new w e closed is one none =
    let n = none_so_far was_new is_new none in
    subst (λ (ms : List Bool). IsClosed (take (k + 1) links) ms) (sym (is n.1)) (closed_more links k link old w e (closed n.0) (one n.1))

-- what an index reads is the mark
pub marked_by : (marks : List Bool) (k : ℕ) (b : Bool) → k < length marks → b ≡ get_or marks k b → is_marked marks k ≡ b
marked_by [] k b w e = absurd (omega arith)
marked_by (m ∷ ms) zero b w e = sym e
marked_by (m ∷ ms) (suc k) b w e = marked_by ms k b (omega arith) e

-- one mark, and the way from it that has no links
pub start_reached : (links : List Link) (a : ℕ) (marks : List Bool) → ((e : ℕ) → is_marked marks e ≡ false) → AllReached links a (slice_set marks a true)
start_reached links a marks none = λ e m. go e (set_only marks a e m)
  where
    go : (e : ℕ) → (e ≡ a) ⊎ (is_marked marks e ≡ true) → Way links a e
    go e (inl same) = subst (λ (x : ℕ). Way links a x) (sym same) (Way.none a)
    go e (inr m) = let n = none e in absurd (cc)

pub get_or-irrelevant : {A : Type 0} (xs : List A) (k : ℕ) (a b : A) → k < length xs → get_or xs k a ≡ get_or xs k b
get_or-irrelevant [] k a b w = absurd (omega arith)
get_or-irrelevant (x ∷ xs) zero a b w = refl
get_or-irrelevant (x ∷ xs) (suc k) a b w = get_or-irrelevant xs k a b (omega arith)
