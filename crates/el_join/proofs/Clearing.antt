-- All pads changed, one after the other, and pads that are made.
use Rattle.std.proofs.Common.{◌≡◌, ◌≤◌, ◌+◌, ℕ, zero, suc, Some, List, [], ◌∷◌, ◌++◌, map, length, set, replicate, refl, sym, ap, ◌∙◌, subst, arith}
use Rattle.std.specs.Prelude.{slice_get}
use Rattle.std.proofs.lemmas.List.{length-map}
use Rattle.gst_item.specs.declared.out.Out.{Out}
use Rattle.el_join.specs.declared.pad.Pad.{Pad}
use Rattle.el_join.specs.Pads.{cleared}
use Rattle.el_join.specs.Joins.{facts_of, waiting_of}
use Rattle.el_join.specs.Passing.{Swaps, here, there}
use Rattle.el_join.proofs.Lines.{map_append}
use Rattle.el_join.proofs.Pouring.{facts_swap, waits_swap}
use Rattle.gst_value.proofs.Basics.{one_more}

-- each member from a place on changed
abbrev pub changed_from : {A : Type 0} → (A → A) → ℕ → List A → List A
changed_from g k [] = []
changed_from g zero (x ∷ xs) = g x ∷ changed_from g zero xs
changed_from g (suc k) (x ∷ xs) = x ∷ changed_from g k xs

changed_all : {A : Type 0} (g : A → A) (xs : List A) → changed_from g zero xs ≡ map g xs
changed_all g [] = refl
changed_all g (x ∷ xs) = ap (λ ys. g x ∷ ys) (changed_all g xs)

changed_next : {A : Type 0} (g : A → A) {k : ℕ} {x y : A} {xs ys : List A} → Swaps k x y xs ys → y ≡ g x → changed_from g (suc k) ys ≡ changed_from g k xs
changed_next g (here {xs = xs}) e = ap (λ z. z ∷ changed_from g zero xs) e
changed_next g (there {x = z} s) e = ap (λ ys. z ∷ ys) (changed_next g s e)

changed_end : {A : Type 0} (g : A → A) (k : ℕ) (xs : List A) → length xs ≤ k → changed_from g k xs ≡ xs
changed_end g k [] h = refl
changed_end g zero (x ∷ xs) h = absurd (omega (arith, h))
changed_end g (suc k) (x ∷ xs) h = ap (λ ys. x ∷ ys) (changed_end g k xs (omega (arith, h)))

abbrev pub nothing_waits : List Out → List Out
nothing_waits w = []

-- as far as a place
pub record Cleared (first pads : List Pad) (place : ℕ) : Type 0 where
  pub facts : changed_from cleared place (facts_of pads) ≡ map cleared (facts_of first)
  pub waiting : changed_from nothing_waits place (waiting_of pads) ≡ map nothing_waits (waiting_of first)

pub cleared_first : (pads : List Pad) → Cleared pads pads 0
cleared_first pads = record { facts = changed_all cleared (facts_of pads); waiting = changed_all nothing_waits (waiting_of pads) }

pub cleared_next : (first pads : List Pad) (place : ℕ) (p q : Pad) → Cleared first pads place → slice_get pads place ≡ Some p → q.facts ≡ cleared p.facts → q.waiting ≡ []
    → Cleared first (set pads place q) (place + 1)
cleared_next first pads place p q c at facts waits =
    subst (λ (k : ℕ). Cleared first (set pads place q) k) (sym (one_more place)) (record {
      facts = changed_next cleared (facts_swap place pads p q (cleared p.facts) at facts) refl ∙ c.facts;
      waiting = changed_next nothing_waits (waits_swap place pads p q [] at waits) refl ∙ c.waiting;
    })

pub cleared_facts : (first pads : List Pad) (place : ℕ) → Cleared first pads place → length pads ≤ place → facts_of pads ≡ map cleared (facts_of first)
cleared_facts first pads place c h = let n = length-map pads (λ (p : Pad). p.facts) in sym (changed_end cleared place (facts_of pads) (omega (arith, n, h))) ∙ c.facts

pub cleared_waiting : (first pads : List Pad) (place : ℕ) → Cleared first pads place → length pads ≤ place → waiting_of pads ≡ map nothing_waits (waiting_of first)
cleared_waiting first pads place c h =
    let n = length-map pads (λ (p : Pad). p.waiting) in sym (changed_end nothing_waits place (waiting_of pads) (omega (arith, n, h))) ∙ c.waiting

-- one more of the same
replicate_push : {A : Type 0} (n : ℕ) (x : A) → replicate n x ++ x ∷ [] ≡ replicate (suc n) x
replicate_push zero x = refl
replicate_push (suc n) x = ap (λ ys. x ∷ ys) (replicate_push n x)

pub made_next : {A : Type 0} (g : Pad → A) (n : ℕ) (pads more : List Pad) (p : Pad) (x : A) → map g pads ≡ replicate n x → more ≡ pads ++ p ∷ [] → g p ≡ x → map g more ≡ replicate (n + 1) x
made_next g n pads more p x same is at =
    ap (map g) is ∙ map_append g pads (p ∷ []) ∙ ap (λ ys. ys ++ g p ∷ []) same ∙ ap (λ y. replicate n x ++ y ∷ []) at ∙ replicate_push n x
    ∙ ap (λ (k : ℕ). replicate k x) (sym (one_more n))
