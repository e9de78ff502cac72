-- What control's commands do to what the sink pads are given, and to the links that stand.
use Rattle.std.proofs.Common.{◌≡◌, ◌⊎◌, ℕ, zero, suc, ◌+◌, ◌≤◌, Bool, true, false, if◌then◌else◌, eqb, List, [], ◌∷◌, ◌++◌, length, take, drop, map, refl, sym, ap, ◌∙◌, subst, inl, inr, append_assoc, append-nil, length-drop, arith}
use Rattle.std.proofs.lemmas.List.Concat.{flat_map-append}
use Rattle.std.proofs.lemmas.Bool.Decides.{eqb_tells}
use Rattle.std.proofs.Math.Seq.{take-length, drop-length}
use Rattle.flow_model.specs.Item.{Item, Ev, FlushStop, Eos}
use Rattle.flow_model.specs.Call.{Feed, Act, Mark, feeds, marks_at, with_marks}
use Rattle.flow_model.specs.Sticky.{stickies}
use Rattle.flow_model.specs.Link.{Span, Linked, WasLinked, Flushed, Given, between, span_calls, input_of}
use Rattle.flow_model.specs.SinkPads.{push_calls}
use Rattle.flow_model.specs.Standing.{MarksTo, Standing, AllStanding, links_from, LinksNowhere, LinksAt, is_linked}
use Rattle.flow_model.specs.Edit.{undo, act, push_span, IsFree}

-- what the last span gives comes last
pub input_last : (h : ℕ → List Item) (ss : List Span) (s : Span) → input_of h (ss ++ s ∷ []) ≡ input_of h ss ++ span_calls h s
input_last h ss s = flat_map-append (span_calls h) ss (s ∷ []) ∙ ap (λ zs. input_of h ss ++ zs) (append-nil (span_calls h s))

-- A link is undone where its pad stands. Without EOS each sink pad was given the same.
undo_one : (h : ℕ → List Item) (p : ℕ) (s : Span) → span_calls h (undo p (length (h p)) false s) ≡ span_calls h s
undo_one h p (Linked source from marks) = go (eqb_tells source p)
  where
    go : ((eqb source p ≡ true) × (source ≡ p)) ⊎ ((eqb source p ≡ false) × (source ≡ p → ⊥))
        → span_calls h (if eqb source p then WasLinked source from (length (h p)) false marks else Linked source from marks) ≡ span_calls h (Linked source from marks)
    go (inl t) =
        let same : length (h p) ≡ length (h source) = ap (λ a. length (h a)) (sym t.1) in
        let all : between from (length (h p)) (h source) ≡ drop from (h source) = ap (λ n. between from n (h source)) same ∙ rw (← length-drop from (h source), take-length) refl in
        rw t.0 (ap (λ zs. feeds (stickies (take from (h source))) ++ zs) (append-nil (with_marks marks from (between from (length (h p)) (h source))) ∙ ap (with_marks marks from) all))
    go (inr t) = rw t.0 refl
undo_one h p (WasLinked source from to eos marks) = refl
undo_one h p (Flushed number) = refl
undo_one h p (Given calls) = refl

undo_all : (h : ℕ → List Item) (p : ℕ) (ss : List Span) → input_of h (map (undo p (length (h p)) false) ss) ≡ input_of h ss
undo_all h p [] = refl
undo_all h p (s ∷ ss) = rw (undo_one h p s, undo_all h p ss) refl

pub undo_each : (h : ℕ → List Item) (p : ℕ) (sss : List (List Span)) → map (input_of h) (map (map (undo p (length (h p)) false)) sss) ≡ map (input_of h) sss
undo_each h p [] = refl
undo_each h p (ss ∷ sss) = rw (undo_all h p ss, undo_each h p sss) refl

-- with EOS the sink pad behind it is given that, and each other the same
eos_one : (h : ℕ → List Item) (p : ℕ) (source from : ℕ) (marks : List (ℕ × Mark)) → source ≡ p
    → span_calls h (WasLinked source from (length (h p)) true marks) ≡ span_calls h (WasLinked source from (length (h p)) false marks) ++ Feed (Ev Eos) ∷ []
eos_one h p source from marks e =
    let a = feeds (stickies (take from (h source))) in
    let b = with_marks marks from (between from (length (h p)) (h source)) in
    ap (λ zs. zs) (sym (append_assoc a b (Feed (Ev Eos) ∷ [])) ∙ ap (λ zs. (a ++ zs) ++ Feed (Ev Eos) ∷ []) (sym (append-nil b)))

eos_last : (h : ℕ → List Item) (p : ℕ) (ss : List Span) → Standing h ss → input_of h (map (undo p (length (h p)) true) ss) ≡ input_of h ss ++ (if links_from p ss then Feed (Ev Eos) ∷ [] else [])
eos_last h p [] s = refl
eos_last h p (Linked source from marks ∷ ss) s = rw s.2 (append-nil (span_calls h (undo p (length (h p)) true (Linked source from marks))) ∙ go (eqb_tells source p))
  where
    go : ((eqb source p ≡ true) × (source ≡ p)) ⊎ ((eqb source p ≡ false) × (source ≡ p → ⊥))
        → span_calls h (if eqb source p then WasLinked source from (length (h p)) true marks else Linked source from marks)
        ≡ (span_calls h (Linked source from marks) ++ []) ++ (if (if eqb source p then true else false) then Feed (Ev Eos) ∷ [] else [])
    go (inl t) =
        ap (λ (b : Bool). span_calls h (if b then WasLinked source from (length (h p)) true marks else Linked source from marks)) t.0
        ∙ eos_one h p source from marks t.1
        ∙ ap (λ zs. zs ++ Feed (Ev Eos) ∷ []) (ap (λ (b : Bool). span_calls h (if b then WasLinked source from (length (h p)) false marks else Linked source from marks)) (sym t.0) ∙ undo_one h p (Linked source from marks) ∙ sym (append-nil (span_calls h (Linked source from marks))))
        ∙ ap (λ (b : Bool). (span_calls h (Linked source from marks) ++ []) ++ (if (if b then true else false) then Feed (Ev Eos) ∷ [] else [])) (sym t.0)
    go (inr t) =
        ap (λ (b : Bool). span_calls h (if b then WasLinked source from (length (h p)) true marks else Linked source from marks)) t.0
        ∙ sym (append-nil (span_calls h (Linked source from marks)))
        ∙ sym (append-nil (span_calls h (Linked source from marks) ++ []))
        ∙ ap (λ (b : Bool). (span_calls h (Linked source from marks) ++ []) ++ (if (if b then true else false) then Feed (Ev Eos) ∷ [] else [])) (sym t.0)
eos_last h p (WasLinked source from to eos marks ∷ ss) s =
    ap (λ zs. span_calls h (WasLinked source from to eos marks) ++ zs) (eos_last h p ss s.2)
    ∙ sym (append_assoc (span_calls h (WasLinked source from to eos marks)) (input_of h ss) (if links_from p ss then Feed (Ev Eos) ∷ [] else []))
eos_last h p (Flushed number ∷ ss) s = ap (λ zs. Feed (Ev (FlushStop number)) ∷ zs) (eos_last h p ss s)
eos_last h p (Given calls ∷ ss) s = ap (λ zs. calls ++ zs) (eos_last h p ss s) ∙ sym (append_assoc calls (input_of h ss) (if links_from p ss then Feed (Ev Eos) ∷ [] else []))

pub eos_elsewhere : (h : ℕ → List Item) (p : ℕ) (sss : List (List Span)) → AllStanding h sss → LinksNowhere p sss → map (input_of h) (map (map (undo p (length (h p)) true)) sss) ≡ map (input_of h) sss
eos_elsewhere h p [] s n = refl
eos_elsewhere h p (ss ∷ sss) s n =
    ap (λ zs. zs ∷ map (input_of h) (map (map (undo p (length (h p)) true)) sss))
    (eos_last h p ss s.0 ∙ ap (λ (b : Bool). input_of h ss ++ (if b then Feed (Ev Eos) ∷ [] else [])) n.0 ∙ append-nil (input_of h ss))
    ∙ ap (λ zs. input_of h ss ∷ zs) (eos_elsewhere h p sss s.1 n.1)

pub eos_here : (h : ℕ → List Item) (p i : ℕ) (sss : List (List Span)) → AllStanding h sss → LinksAt p i sss
    → map (input_of h) (map (map (undo p (length (h p)) true)) sss) ≡ push_calls i (Feed (Ev Eos) ∷ []) (map (input_of h) sss)
eos_here h p i [] s l = absurd l
eos_here h p zero (ss ∷ sss) s l =
    ap (λ zs. zs ∷ map (input_of h) (map (map (undo p (length (h p)) true)) sss)) (eos_last h p ss s.0 ∙ ap (λ (b : Bool). input_of h ss ++ (if b then Feed (Ev Eos) ∷ [] else [])) l.0)
    ∙ ap (λ zs. (input_of h ss ++ Feed (Ev Eos) ∷ []) ∷ zs) (eos_elsewhere h p sss s.1 l.1)
eos_here h p (suc i) (ss ∷ sss) s l =
    ap (λ zs. zs ∷ map (input_of h) (map (map (undo p (length (h p)) true)) sss))
    (eos_last h p ss s.0 ∙ ap (λ (b : Bool). input_of h ss ++ (if b then Feed (Ev Eos) ∷ [] else [])) l.0 ∙ append-nil (input_of h ss))
    ∙ ap (λ zs. input_of h ss ∷ zs) (eos_here h p i sss s.1 l.1)

-- links that are undone stand in order
undo_standing : (h : ℕ → List Item) (p : ℕ) (eos : Bool) (ss : List Span) → Standing h ss → Standing h (map (undo p (length (h p)) eos) ss)
undo_standing h p eos [] s = tt
undo_standing h p eos (Linked source from marks ∷ ss) s = rw s.2 (go (eqb_tells source p))
  where
    go : ((eqb source p ≡ true) × (source ≡ p)) ⊎ ((eqb source p ≡ false) × (source ≡ p → ⊥))
        → Standing h ((if eqb source p then WasLinked source from (length (h p)) eos marks else Linked source from marks) ∷ [])
    go (inl t) = rw t.0 (subst (λ q. from ≤ length (h q)) t.1 s.0, subst (λ q. length (h q) ≤ length (h source)) t.1 (omega arith), tt)
    go (inr t) = rw t.0 (s.0, s.1, refl)
undo_standing h p eos (WasLinked source from to ended marks ∷ ss) s = (s.0, s.1, undo_standing h p eos ss s.2)
undo_standing h p eos (Flushed number ∷ ss) s = undo_standing h p eos ss s
undo_standing h p eos (Given calls ∷ ss) s = undo_standing h p eos ss s

pub undo_all_standing : (h : ℕ → List Item) (p : ℕ) (eos : Bool) (sss : List (List Span)) → AllStanding h sss → AllStanding h (map (map (undo p (length (h p)) eos)) sss)
undo_all_standing h p eos [] s = tt
undo_all_standing h p eos (ss ∷ sss) s = (undo_standing h p eos ss s.0, undo_all_standing h p eos sss s.1)

-- A link is made where its pad stands: the wanted sink pad is given the sticky events.
pub made : (h : ℕ → List Item) (ss : List Span) (p : ℕ) → input_of h (ss ++ Linked p (length (h p)) [] ∷ []) ≡ input_of h ss ++ feeds (stickies (h p))
made h ss p =
    input_last h ss (Linked p (length (h p)) [])
    ∙ ap (λ zs. input_of h ss ++ zs)
    (ap (λ zs. feeds (stickies zs) ++ with_marks [] (length (h p)) (drop (length (h p)) (h p))) (take-length (h p))
    ∙ ap (λ zs. feeds (stickies (h p)) ++ with_marks [] (length (h p)) zs) (drop-length (h p))
    ∙ append-nil (feeds (stickies (h p))))

pub made_here : (h : ℕ → List Item) (p i : ℕ) (sss : List (List Span)) → map (input_of h) (push_span i (Linked p (length (h p)) []) sss) ≡ push_calls i (feeds (stickies (h p))) (map (input_of h) sss)
made_here h p i [] = refl
made_here h p zero (ss ∷ sss) = ap (λ zs. zs ∷ map (input_of h) sss) (made h ss p)
made_here h p (suc i) (ss ∷ sss) = ap (λ zs. input_of h ss ∷ zs) (made_here h p i sss)

push_standing : (h : ℕ → List Item) (p : ℕ) (ss : List Span) → is_linked ss ≡ false → Standing h ss → Standing h (ss ++ Linked p (length (h p)) [] ∷ [])
push_standing h p [] f s = (omega arith, tt, refl)
push_standing h p (Linked source from marks ∷ ss) f s = absurd cc
push_standing h p (WasLinked source from to eos marks ∷ ss) f s = (s.0, s.1, push_standing h p ss f s.2)
push_standing h p (Flushed number ∷ ss) f s = push_standing h p ss f s
push_standing h p (Given calls ∷ ss) f s = push_standing h p ss f s

pub made_standing : (h : ℕ → List Item) (p i : ℕ) (sss : List (List Span)) → IsFree i sss → AllStanding h sss → AllStanding h (push_span i (Linked p (length (h p)) []) sss)
made_standing h p i [] f s = absurd f
made_standing h p zero (ss ∷ sss) f s = (push_standing h p ss f s.0, s.1)
made_standing h p (suc i) (ss ∷ sss) f s = (s.0, made_standing h p i sss f s.1)

-- Control acts on the element behind the standing link: it is given the mark.
marks_other : (ms : List (ℕ × Mark)) (n k : ℕ) (m : Mark) → suc k ≤ n → marks_at k (ms ++ (n, m) ∷ []) ≡ marks_at k ms
marks_other [] n k m less = go (eqb_tells n k)
  where
    go : ((eqb n k ≡ true) × (n ≡ k)) ⊎ ((eqb n k ≡ false) × (n ≡ k → ⊥)) → (if eqb n k then Act m ∷ [] else []) ≡ []
    go (inl t) = absurd (omega (arith, t.1, less))
    go (inr t) = rw t.0 refl
marks_other (d ∷ ms) n k m less = ap (λ zs. if eqb d.0 k then Act d.1 ∷ zs else zs) (marks_other ms n k m less)

marks_here : (ms : List (ℕ × Mark)) (n : ℕ) (m : Mark) → marks_at n (ms ++ (n, m) ∷ []) ≡ marks_at n ms ++ Act m ∷ []
marks_here [] n m = go (eqb_tells n n)
  where
    go : ((eqb n n ≡ true) × (n ≡ n)) ⊎ ((eqb n n ≡ false) × (n ≡ n → ⊥)) → (if eqb n n then Act m ∷ [] else []) ≡ Act m ∷ []
    go (inl t) = rw t.0 refl
    go (inr t) = absurd (t.1 refl)
marks_here (d ∷ ms) n m = ap (λ zs. if eqb d.0 n then Act d.1 ∷ zs else zs) (marks_here ms n m) ∙ go (eqb d.0 n)
  where
    go : (b : Bool) → (if b then Act d.1 ∷ (marks_at n ms ++ Act m ∷ []) else (marks_at n ms ++ Act m ∷ [])) ≡ (if b then Act d.1 ∷ marks_at n ms else marks_at n ms) ++ Act m ∷ []
    go true = refl
    go false = refl

with_mark_last : (ms : List (ℕ × Mark)) (n : ℕ) (xs : List Item) (m : Mark) → with_marks (ms ++ (n + length xs, m) ∷ []) n xs ≡ with_marks ms n xs ++ Act m ∷ []
with_mark_last ms n [] m = let e : n + 0 ≡ n = omega arith in rw e (marks_here ms n m)
with_mark_last ms n (x ∷ xs) m =
    let e : n + suc (length xs) ≡ suc n + length xs = omega arith in
    ap (λ k. with_marks (ms ++ (k, m) ∷ []) n (x ∷ xs)) e
    ∙ ap (λ zs. zs ++ Feed x ∷ with_marks (ms ++ (suc n + length xs, m) ∷ []) (suc n) xs) (marks_other ms (suc n + length xs) n m (omega arith))
    ∙ ap (λ zs. marks_at n ms ++ Feed x ∷ zs) (with_mark_last ms (suc n) xs m)
    ∙ sym (append_assoc (marks_at n ms) (Feed x ∷ with_marks ms (suc n) xs) (Act m ∷ []))

act_one : (h : ℕ → List Item) (p from : ℕ) (marks : List (ℕ × Mark)) (m : Mark) → from ≤ length (h p)
    → span_calls h (Linked p from (marks ++ (length (h p), m) ∷ [])) ≡ span_calls h (Linked p from marks) ++ Act m ∷ []
act_one h p from marks m le =
    let place : from + length (drop from (h p)) ≡ length (h p) = rw length-drop (omega arith) in
    ap (λ zs. feeds (stickies (take from (h p))) ++ zs)
    (subst (λ n. with_marks (marks ++ (n, m) ∷ []) from (drop from (h p)) ≡ with_marks marks from (drop from (h p)) ++ Act m ∷ []) place (with_mark_last marks from (drop from (h p)) m))
    ∙ sym (append_assoc (feeds (stickies (take from (h p)))) (with_marks marks from (drop from (h p))) (Act m ∷ []))

act_last : (h : ℕ → List Item) (p : ℕ) (m : Mark) (ss : List Span) → Standing h ss → input_of h (map (act p (length (h p)) m) ss) ≡ input_of h ss ++ (if links_from p ss then Act m ∷ [] else [])
act_last h p m [] s = refl
act_last h p m (Linked source from marks ∷ ss) s = rw s.2 (append-nil (span_calls h (act p (length (h p)) m (Linked source from marks))) ∙ go (eqb_tells source p))
  where
    go : ((eqb source p ≡ true) × (source ≡ p)) ⊎ ((eqb source p ≡ false) × (source ≡ p → ⊥))
        → span_calls h (if eqb source p then Linked source from (marks ++ (length (h p), m) ∷ []) else Linked source from marks)
        ≡ (span_calls h (Linked source from marks) ++ []) ++ (if (if eqb source p then true else false) then Act m ∷ [] else [])
    go (inl t) =
        ap (λ (b : Bool). span_calls h (if b then Linked source from (marks ++ (length (h p), m) ∷ []) else Linked source from marks)) t.0
        ∙ subst (λ q. span_calls h (Linked q from (marks ++ (length (h p), m) ∷ [])) ≡ span_calls h (Linked q from marks) ++ Act m ∷ []) (sym t.1) (act_one h p from marks m (subst (λ q. from ≤ length (h q)) t.1 s.0))
        ∙ ap (λ zs. zs ++ Act m ∷ []) (sym (append-nil (span_calls h (Linked source from marks))))
        ∙ ap (λ (b : Bool). (span_calls h (Linked source from marks) ++ []) ++ (if (if b then true else false) then Act m ∷ [] else [])) (sym t.0)
    go (inr t) =
        ap (λ (b : Bool). span_calls h (if b then Linked source from (marks ++ (length (h p), m) ∷ []) else Linked source from marks)) t.0
        ∙ sym (append-nil (span_calls h (Linked source from marks)))
        ∙ sym (append-nil (span_calls h (Linked source from marks) ++ []))
        ∙ ap (λ (b : Bool). (span_calls h (Linked source from marks) ++ []) ++ (if (if b then true else false) then Act m ∷ [] else [])) (sym t.0)
act_last h p m (WasLinked source from to eos marks ∷ ss) s =
    ap (λ zs. span_calls h (WasLinked source from to eos marks) ++ zs) (act_last h p m ss s.2)
    ∙ sym (append_assoc (span_calls h (WasLinked source from to eos marks)) (input_of h ss) (if links_from p ss then Act m ∷ [] else []))
act_last h p m (Flushed number ∷ ss) s = ap (λ zs. Feed (Ev (FlushStop number)) ∷ zs) (act_last h p m ss s)
act_last h p m (Given calls ∷ ss) s = ap (λ zs. calls ++ zs) (act_last h p m ss s) ∙ sym (append_assoc calls (input_of h ss) (if links_from p ss then Act m ∷ [] else []))

pub act_elsewhere : (h : ℕ → List Item) (p : ℕ) (m : Mark) (sss : List (List Span)) → AllStanding h sss → LinksNowhere p sss → map (input_of h) (map (map (act p (length (h p)) m)) sss) ≡ map (input_of h) sss
act_elsewhere h p m [] s n = refl
act_elsewhere h p m (ss ∷ sss) s n =
    ap (λ zs. zs ∷ map (input_of h) (map (map (act p (length (h p)) m)) sss)) (act_last h p m ss s.0 ∙ ap (λ (b : Bool). input_of h ss ++ (if b then Act m ∷ [] else [])) n.0 ∙ append-nil (input_of h ss))
    ∙ ap (λ zs. input_of h ss ∷ zs) (act_elsewhere h p m sss s.1 n.1)

pub act_here : (h : ℕ → List Item) (p i : ℕ) (m : Mark) (sss : List (List Span)) → AllStanding h sss → LinksAt p i sss
    → map (input_of h) (map (map (act p (length (h p)) m)) sss) ≡ push_calls i (Act m ∷ []) (map (input_of h) sss)
act_here h p i m [] s l = absurd l
act_here h p zero m (ss ∷ sss) s l =
    ap (λ zs. zs ∷ map (input_of h) (map (map (act p (length (h p)) m)) sss)) (act_last h p m ss s.0 ∙ ap (λ (b : Bool). input_of h ss ++ (if b then Act m ∷ [] else [])) l.0)
    ∙ ap (λ zs. (input_of h ss ++ Act m ∷ []) ∷ zs) (act_elsewhere h p m sss s.1 l.1)
act_here h p (suc i) m (ss ∷ sss) s l =
    ap (λ zs. zs ∷ map (input_of h) (map (map (act p (length (h p)) m)) sss)) (act_last h p m ss s.0 ∙ ap (λ (b : Bool). input_of h ss ++ (if b then Act m ∷ [] else [])) l.0 ∙ append-nil (input_of h ss))
    ∙ ap (λ zs. input_of h ss ∷ zs) (act_here h p i m sss s.1 l.1)

marks_with : (n : ℕ) (m : Mark) (ms : List (ℕ × Mark)) → MarksTo n ms → MarksTo n (ms ++ (n, m) ∷ [])
marks_with n m [] w = (omega arith, tt)
marks_with n m (d ∷ ms) w = (w.0, marks_with n m ms w.1)

act_standing : (h : ℕ → List Item) (p : ℕ) (m : Mark) (ss : List Span) → Standing h ss → Standing h (map (act p (length (h p)) m) ss)
act_standing h p m [] s = tt
act_standing h p m (Linked source from marks ∷ ss) s = rw s.2 (go (eqb_tells source p))
  where
    go : ((eqb source p ≡ true) × (source ≡ p)) ⊎ ((eqb source p ≡ false) × (source ≡ p → ⊥))
        → Standing h ((if eqb source p then Linked source from (marks ++ (length (h p), m) ∷ []) else Linked source from marks) ∷ [])
    go (inl t) = rw t.0 (s.0, subst (λ q. MarksTo (length (h source)) (marks ++ (length (h q), m) ∷ [])) t.1 (marks_with (length (h source)) m marks s.1), refl)
    go (inr t) = rw t.0 (s.0, s.1, refl)
act_standing h p m (WasLinked source from to ended marks ∷ ss) s = (s.0, s.1, act_standing h p m ss s.2)
act_standing h p m (Flushed number ∷ ss) s = act_standing h p m ss s
act_standing h p m (Given calls ∷ ss) s = act_standing h p m ss s

pub act_all_standing : (h : ℕ → List Item) (p : ℕ) (m : Mark) (sss : List (List Span)) → AllStanding h sss → AllStanding h (map (map (act p (length (h p)) m)) sss)
act_all_standing h p m [] s = tt
act_all_standing h p m (ss ∷ sss) s = (act_standing h p m ss s.0, act_all_standing h p m sss s.1)
