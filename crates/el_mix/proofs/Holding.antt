-- Bodies that wait, with a look ahead.
use Rattle.std.proofs.Common.{◌≡◌, ◌⊎◌, ◌<◌, ◌≤◌, ℕ, zero, suc, ◌+◌, ◌-◌, true, false, ◌&&◌, leb, List, [], ◌∷◌, ◌++◌, Some, None, length, take, drop, get_or, refl, sym, ap, ◌∙◌, subst, inl, inr, ◌^◌, length-append, length-drop, arith}
use Rattle.std.proofs.lemmas.Bool.{cases_lt, eqb-true, ltb-true, lt-ltb, leb-true, le-leb, lt-leb, and_from, and_parts}
use Rattle.std.proofs.Math.Seq.{take-append_seam}
use Rattle.std.proofs.lemmas.List.{drop-append-le, drop_more, drop_all, drop-drop, take_rest}
use Rattle.el_mix.specs.Line.{Line, line_of, pushed, past, passed, first_of, gone_of, cut, some_left, all_some, holds}
use Rattle.el_mix.proofs.Ends.{some_rest, some_more}
use Rattle.el_mix.proofs.Growing.{some_push}

abbrev Bodies : Type 0
Bodies = List (List ℕ)

pub record Holds (gone k a : ℕ) (bs : Bodies) : Type 0 where
  pub left : some_left gone bs ≡ true
  pub ahead : some_left a (drop k bs) ≡ true
  pub some : all_some bs ≡ true
  pub within : k ≤ length bs

pub holds_parts : (gone k a : ℕ) (bs : Bodies) → holds gone k a bs ≡ true → Holds gone k a bs
holds_parts gone k a bs e =
    let one = and_parts (some_left gone bs) (some_left a (drop k bs) && (all_some bs && leb k (length bs))) e in
    let two = and_parts (some_left a (drop k bs)) (all_some bs && leb k (length bs)) one.1 in
    let three = and_parts (all_some bs) (leb k (length bs)) two.1 in
    record { left = one.0; ahead = two.0; some = three.0; within = leb-true k (length bs) three.1 }

pub holds_from : (gone k a : ℕ) (bs : Bodies) → some_left gone bs ≡ true → some_left a (drop k bs) ≡ true → all_some bs ≡ true → k ≤ length bs → holds gone k a bs ≡ true
holds_from gone k a bs left ahead some within =
    and_from (some_left gone bs) _ left (and_from (some_left a (drop k bs)) _ ahead (and_from (all_some bs) _ some (le-leb k (length bs) within)))

-- one body more
cut_push : (n : ℕ) (bs : Bodies) (b : List ℕ) → some_left n bs ≡ true → cut n (bs ++ b ∷ []) ≡ cut n bs ++ b ∷ []
cut_push n [] b e = ap (λ k. drop k b ∷ []) (eqb-true n 0 e)
cut_push n (c ∷ cs) b e = refl

left_push : (n : ℕ) (bs : Bodies) (b : List ℕ) → some_left n bs ≡ true → 0 < length b → some_left n (bs ++ b ∷ []) ≡ true
left_push n [] b e h = let none = eqb-true n 0 e in lt-ltb n (length b) (omega (arith, none, h))
left_push n (c ∷ cs) b e h = e

pub push_holds : (gone k a : ℕ) (bs cs : Bodies) (b : List ℕ) → cs ≡ bs ++ b ∷ [] → 0 < length b → holds gone k a bs ≡ true → holds gone k a cs ≡ true
push_holds gone k a bs cs b is h e =
    let p = holds_parts gone k a bs e in
    let more = length-append bs (b ∷ []) in
    let within = p.within in
    rw is (holds_from gone k a (bs ++ b ∷ []) (left_push gone bs b p.left h)
    (subst (λ ds. some_left a ds ≡ true) (sym (drop-append-le k bs (b ∷ []) p.within)) (left_push a (drop k bs) b p.ahead h))
    (some_push bs b p.some h) (omega (arith, more, within)))

abbrev line : Bodies → Bodies → Line
line r s = record { rest = r; ahead = s }

-- what is seen of bodies of which so many bytes are gone, behind a look ahead past so many bodies and bytes of the next
abbrev pub line_at : ℕ → ℕ → ℕ → Bodies → Line
line_at gone k a bs = line (cut gone bs) (cut a (drop k bs))

pub push_view : (gone k a : ℕ) (bs cs : Bodies) (b : List ℕ) (now : Line) → cs ≡ bs ++ b ∷ [] → holds gone k a bs ≡ true → line_at gone k a bs ≡ now
    → line_at gone k a cs ≡ pushed now b
push_view gone k a bs cs b now is e view =
    let p = holds_parts gone k a bs e in
    line_is (cut gone cs) (cut gone bs ++ b ∷ []) (cut a (drop k cs)) (cut a (drop k bs) ++ b ∷ []) (rw is (cut_push gone bs b p.left))
    (rw is (ap (cut a) (drop-append-le k bs (b ∷ []) p.within) ∙ cut_push a (drop k bs) b p.ahead))
    ∙ ap (λ l. pushed l b) view
  where
    line_is : (r r' s s' : Bodies) → r ≡ r' → s ≡ s' → line r s ≡ line r' s'
    line_is r r' s s' e f = ap (λ z. line z s) e ∙ ap (line r') f

-- one body less
some_take : (n : ℕ) (bs : Bodies) → all_some bs ≡ true → all_some (take n bs) ≡ true
some_take zero bs e = refl
some_take (suc n) [] e = refl
some_take (suc n) (b ∷ bs) e = let s = some_rest b bs e in some_more b (take n bs) s.0 (some_take n bs s.1)

left_take : (gone n : ℕ) (bs : Bodies) → some_left gone bs ≡ true → some_left (gone_of gone (take n bs)) (take n bs) ≡ true
left_take gone zero bs e = refl
left_take gone (suc n) [] e = refl
left_take gone (suc n) (b ∷ bs) e = e

cut_take : (gone n : ℕ) (bs : Bodies) → cut (gone_of gone (take n bs)) (take n bs) ≡ take n (cut gone bs)
cut_take gone zero bs = refl
cut_take gone (suc n) [] = refl
cut_take gone (suc n) (b ∷ bs) = refl

length_cut : (gone : ℕ) (bs : Bodies) → length (cut gone bs) ≡ length bs
length_cut gone [] = refl
length_cut gone (b ∷ bs) = refl

pub pop_holds : (gone k a left n : ℕ) (bs cs : Bodies) → cs ≡ take n bs → left ≡ gone_of gone cs → holds gone k a bs ≡ true → holds left 0 left cs ≡ true
pop_holds gone k a left n bs cs is e h =
    let p = holds_parts gone k a bs h in
    let some_there : some_left left cs ≡ true = rw (e, is) (left_take gone n bs p.left) in
    holds_from left 0 left cs some_there some_there (rw is (some_take n bs p.some)) (omega arith)

pub pop_rest : (gone k a left n : ℕ) (bs cs rest : Bodies) (body : List ℕ) (now : Line) → cs ≡ take n bs → left ≡ gone_of gone cs → n ≡ length bs - 1
    → line_at gone k a bs ≡ now → now.rest ≡ rest ++ body ∷ [] → line_at left 0 left cs ≡ line_of rest
pop_rest gone k a left n bs cs rest body now is e less view whole =
    let all : cut gone bs ≡ rest ++ body ∷ [] = ap (λ (l : Line). l.rest) view ∙ whole in
    let more = length-append rest (body ∷ []) in
    let same : length bs ≡ length (rest ++ body ∷ []) = sym (length_cut gone bs) ∙ ap length all in
    let count : n ≡ length rest = omega (arith, less, more, same) in
    let told : cut left cs ≡ rest = rw (e, is) (cut_take gone n bs ∙ ap (take n) all ∙ ap (λ k. take k (rest ++ body ∷ [])) count ∙ take-append_seam rest (body ∷ [])) in
    ap line_of told

pub rewind_holds : (gone k a : ℕ) (bs : Bodies) → holds gone k a bs ≡ true → holds gone 0 gone bs ≡ true
rewind_holds gone k a bs e = let p = holds_parts gone k a bs e in holds_from gone 0 gone bs p.left p.left p.some (omega arith)

-- the first body ahead
at_place : (bs : Bodies) (k : ℕ) (b : List ℕ) → k < length bs → b ≡ get_or bs k b → drop k bs ≡ b ∷ drop (k + 1) bs
at_place bs k b lt is = drop_more bs k b lt ∙ ap (λ z. z ∷ drop (k + 1) bs) (sym is)

pub first_some : (gone k a : ℕ) (bs : Bodies) (b read : List ℕ) (now : Line) → k < length bs → b ≡ get_or bs k b → read ≡ b → line_at gone k a bs ≡ now
    → Some (take (length read - a) (drop a read)) ≡ first_of now.ahead
first_some gone k a bs b read now lt is same view =
    ap Some (take_rest read a ∙ ap (drop a) same) ∙ sym (ap (λ cs. first_of (cut a cs)) (at_place bs k b lt is)) ∙ ap (λ (l : Line). first_of l.ahead) view

pub first_small : (a : ℕ) (read : List ℕ) → length read < 2 ^ 31 → length (take (length read - a) (drop a read)) < 2 ^ 31
first_small a read small = let less = length-drop a read in subst (λ (zs : List ℕ). length zs < 2 ^ 31) (sym (take_rest read a)) (omega (arith, less, small))

-- where there is none
pub none_ahead : (bs : Bodies) (k n : ℕ) → n ≡ length bs → (k < n → false ≡ true) → length bs ≤ k
none_ahead bs k n is absent = go (cases_lt k n)
  where
    go : (k < n) ⊎ (n ≤ k) → length bs ≤ k
    go (inl lt) = absurd (cc (absent lt))
    go (inr le) = omega (arith, le, is)

pub first_none : (gone k a : ℕ) (bs : Bodies) (now : Line) → length bs ≤ k → line_at gone k a bs ≡ now → None ≡ first_of now.ahead
first_none gone k a bs now le view = sym (ap (λ cs. first_of (cut a cs)) (drop_all k bs le)) ∙ ap (λ (l : Line). first_of l.ahead) view

pub first_within : (gone k a : ℕ) (bs : Bodies) (b read : List ℕ) → holds gone k a bs ≡ true → k < length bs → b ≡ get_or bs k b → read ≡ b → a < length read
first_within gone k a bs b read e lt is same =
    let within : a < length b = ltb-true a (length b) (ap (some_left a) (sym (at_place bs k b lt is)) ∙ (holds_parts gone k a bs e).ahead) in
    subst (λ (zs : List ℕ). a < length zs) (sym same) within

-- past some bytes
cut_none : (bs : Bodies) → cut 0 bs ≡ bs
cut_none [] = refl
cut_none (b ∷ bs) = refl

some_drop : (k : ℕ) (bs : Bodies) → all_some bs ≡ true → all_some (drop k bs) ≡ true
some_drop zero bs e = e
some_drop (suc k) [] e = refl
some_drop (suc k) (b ∷ bs) e = some_drop k bs (some_rest b bs e).1

none_gone : (bs : Bodies) → all_some bs ≡ true → some_left 0 bs ≡ true
none_gone [] e = refl
none_gone (b ∷ bs) e = lt-ltb 0 (length b) (some_rest b bs e).0

pub pass_whole : (gone k a n : ℕ) (bs : Bodies) (b read : List ℕ) (now : Line) → k < length bs → b ≡ get_or bs k b → read ≡ b → length read - a ≤ n → line_at gone k a bs ≡ now
    → line_at gone (k + 1) 0 bs ≡ passed n now
pass_whole gone k a n bs b read now lt is same le view =
    let few = length-drop a b in
    let whole = ap length same in
    let told : leb (length (drop a b)) n ≡ true = le-leb (length (drop a b)) n (omega (arith, few, le, whole)) in
    let there : past n (cut a (drop k bs)) ≡ drop (k + 1) bs = ap (λ cs. past n (cut a cs)) (at_place bs k b lt is) ∙ rw told refl in
    ap (line (cut gone bs)) (cut_none (drop (k + 1) bs) ∙ sym there) ∙ ap (passed n) view

pub pass_part : (gone k a n : ℕ) (bs : Bodies) (b read : List ℕ) (now : Line) → k < length bs → b ≡ get_or bs k b → read ≡ b → n < length read - a → line_at gone k a bs ≡ now
    → line_at gone k (a + n) bs ≡ passed n now
pass_part gone k a n bs b read now lt is same less view =
    let few = length-drop a b in
    let whole = ap length same in
    let told : leb (length (drop a b)) n ≡ false = lt-leb (length (drop a b)) n (omega (arith, few, less, whole)) in
    let there : past n (cut a (drop k bs)) ≡ drop n (drop a b) ∷ drop (k + 1) bs = ap (λ cs. past n (cut a cs)) (at_place bs k b lt is) ∙ rw told refl in
    ap (line (cut gone bs)) (ap (cut (a + n)) (at_place bs k b lt is) ∙ ap (λ z. z ∷ drop (k + 1) bs) (sym (drop-drop n a b)) ∙ sym there) ∙ ap (passed n) view

pub pass_none : (gone k a n : ℕ) (bs : Bodies) (now : Line) → length bs ≤ k → line_at gone k a bs ≡ now → now ≡ passed n now
pass_none gone k a n bs now le view =
    let none : cut a (drop k bs) ≡ [] = ap (cut a) (drop_all k bs le) in
    sym view ∙ ap (line (cut gone bs)) (none ∙ sym (ap (past n) none)) ∙ ap (passed n) view

pub whole_holds : (gone k a : ℕ) (bs : Bodies) → holds gone k a bs ≡ true → k < length bs → holds gone (k + 1) 0 bs ≡ true
whole_holds gone k a bs e lt =
    let p = holds_parts gone k a bs e in
    holds_from gone (k + 1) 0 bs p.left (none_gone (drop (k + 1) bs) (some_drop (k + 1) bs p.some)) p.some (omega (arith, lt))

pub part_holds : (gone k a n : ℕ) (bs : Bodies) (b read : List ℕ) → holds gone k a bs ≡ true → k < length bs → b ≡ get_or bs k b → read ≡ b → n < length read - a
    → holds gone k (a + n) bs ≡ true
part_holds gone k a n bs b read e lt is same less =
    let p = holds_parts gone k a bs e in
    let whole = ap length same in
    holds_from gone k (a + n) bs p.left (ap (some_left (a + n)) (at_place bs k b lt is) ∙ lt-ltb (a + n) (length b) (omega (arith, less, whole))) p.some p.within

-- the bodies that were passed are gone
pub leave_holds : (gone k a : ℕ) (bs cs : Bodies) → holds gone k a bs ≡ true → cs ≡ drop k bs → holds a 0 a cs ≡ true
leave_holds gone k a bs cs e is =
    let p = holds_parts gone k a bs e in
    let left : some_left a cs ≡ true = subst (λ z. some_left a z ≡ true) (sym is) p.ahead in
    holds_from a 0 a cs left left (subst (λ z. all_some z ≡ true) (sym is) (some_drop k bs p.some)) (omega arith)

pub leave_view : (gone k a : ℕ) (bs cs : Bodies) (now : Line) → cs ≡ drop k bs → line_at gone k a bs ≡ now → line_at a 0 a cs ≡ line_of now.ahead
leave_view gone k a bs cs now is view = ap (λ ds. line_of (cut a ds)) is ∙ ap (λ (l : Line). line_of l.ahead) view

-- the bodies stay
pub stay_holds : (gone k a : ℕ) (bs cs : Bodies) → cs ≡ bs → holds gone k a bs ≡ true → holds gone k a cs ≡ true
stay_holds gone k a bs cs is e = rw is e

pub stay_view : (gone k a : ℕ) (bs cs : Bodies) (now : Line) → cs ≡ bs → line_at gone k a bs ≡ now → line_at gone k a cs ≡ now
stay_view gone k a bs cs now is view = ap (line_at gone k a) is ∙ view
