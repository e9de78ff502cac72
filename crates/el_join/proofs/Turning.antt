-- What waits at the pads, one pad after the other.
use Rattle.std.proofs.Common.{◌≡◌, ◌≤◌, ◌+◌, ℕ, zero, suc, Bool, if◌then◌else◌, Some, None, List, [], ◌∷◌, ◌++◌, map, length, set, refl, ap, ◌∙◌, length-append, Result, Ok, Err, arith}
use Rattle.std.specs.Prelude.{slice_get}
use Rattle.std.proofs.lemmas.List.{length-map}
use Rattle.gst_item.specs.declared.out.Out.{Out}
use Rattle.flow_model.specs.Item.{Item, Ev, Eos}
use Rattle.flow_model.specs.Rule.{Fault}
use Rattle.el_join.specs.declared.sums.Sums.{Sums}
use Rattle.el_join.specs.declared.pad.Pad.{Pad}
use Rattle.el_join.specs.Outs.{items_of, fault_in}
use Rattle.el_join.specs.Totals.{with_tally, raised, lifted}
use Rattle.el_join.specs.Passing.{later_from, going_from}
use Rattle.el_join.proofs.Swapping.{some_is}

-- behind a pad with EOS comes the next
abbrev pub later_behind : ℕ → Sums → List Pad → Pad → List (Result Item Fault)
later_behind k sums pads p = if p.facts.ended then later_from (suc k) (with_tally sums p.facts.tally) pads else []

abbrev pub going_behind : ℕ → Sums → List Pad → Pad → List Item
going_behind k sums pads p = if p.facts.ended then going_from (suc k) (with_tally sums p.facts.tally) pads else []

pub later_at : (k : ℕ) (sums : Sums) (pads : List Pad) (p : Pad) → slice_get pads k ≡ Some p
    → later_from k sums pads ≡ map (raised sums) (items_of p.waiting) ++ later_behind k sums pads p
later_at k sums [] p e = absurd (cc)
later_at zero sums (q ∷ pads) p e = ap (λ (r : Pad). map (raised sums) (items_of r.waiting) ++ later_behind zero sums (q ∷ pads) r) (some_is q p e)
later_at (suc k) sums (q ∷ pads) p e = later_at k sums pads p e

pub going_at : (k : ℕ) (sums : Sums) (pads : List Pad) (p : Pad) → slice_get pads k ≡ Some p
    → going_from k sums pads ≡ map (lifted sums) (items_of p.waiting) ++ going_behind k sums pads p
going_at k sums [] p e = absurd (cc)
going_at zero sums (q ∷ pads) p e = ap (λ (r : Pad). map (lifted sums) (items_of r.waiting) ++ going_behind zero sums (q ∷ pads) r) (some_is q p e)
going_at (suc k) sums (q ∷ pads) p e = going_at k sums pads p e

pub later_end : (k : ℕ) (sums : Sums) (pads : List Pad) → length pads ≤ k → later_from k sums pads ≡ Ok (Ev Eos) ∷ []
later_end zero sums [] h = refl
later_end (suc k) sums [] h = refl
later_end zero sums (p ∷ pads) h = absurd (omega (arith, h))
later_end (suc k) sums (p ∷ pads) h = later_end k sums pads (omega (arith, h))

pub going_end : (k : ℕ) (sums : Sums) (pads : List Pad) → length pads ≤ k → going_from k sums pads ≡ Ev Eos ∷ []
going_end zero sums [] h = refl
going_end (suc k) sums [] h = refl
going_end zero sums (p ∷ pads) h = absurd (omega (arith, h))
going_end (suc k) sums (p ∷ pads) h = going_end k sums pads (omega (arith, h))

-- what waits behind a pad is the same where the pad is exchanged
pub going_set : (k : ℕ) (sums : Sums) (pads : List Pad) (p q : Pad) → slice_get pads k ≡ Some p → going_from (suc k) sums (set pads k q) ≡ going_from (suc k) sums pads
going_set k sums [] p q e = absurd (cc)
going_set zero sums (r ∷ pads) p q e = refl
going_set (suc k) sums (r ∷ pads) p q e = going_set k sums pads p q e

-- the first fault of two lists
pub fault_behind : (rs qs : List (Result Item Fault)) → fault_in rs ≡ None → fault_in (rs ++ qs) ≡ fault_in qs
fault_behind [] qs e = refl
fault_behind (Ok x ∷ rs) qs e = fault_behind rs qs e
fault_behind (Err fault ∷ rs) qs e = absurd (cc)

pub fault_first : (rs qs : List (Result Item Fault)) (fault : Fault) → fault_in rs ≡ Some fault → fault_in (rs ++ qs) ≡ Some fault
fault_first [] qs fault e = absurd (cc)
fault_first (Ok x ∷ rs) qs fault e = fault_first rs qs fault e
fault_first (Err other ∷ rs) qs fault e = e

-- how many items go out
pub outs_length : (sums : Sums) (w : List Out) → length (map (lifted sums) (items_of w)) ≡ length w
outs_length sums w = length-map (items_of w) (lifted sums) ∙ length-map w (λ (o : Out). o.item)

pub going_length : (k : ℕ) (sums : Sums) (pads : List Pad) (p : Pad) → slice_get pads k ≡ Some p → (b : Bool) → p.facts.ended ≡ b
    → length (going_from k sums pads) ≡ length p.waiting + length (if b then going_from (suc k) (with_tally sums p.facts.tally) pads else [])
going_length k sums pads p at b e =
    ap length (going_at k sums pads p at)
    ∙ length-append (map (lifted sums) (items_of p.waiting)) (going_behind k sums pads p)
    ∙ ap (λ (n : ℕ). n + length (going_behind k sums pads p)) (outs_length sums p.waiting)
    ∙ ap (λ (t : Bool). length p.waiting + length (if t then going_from (suc k) (with_tally sums p.facts.tally) pads else [])) e
