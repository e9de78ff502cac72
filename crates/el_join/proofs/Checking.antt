-- How many items go out of what waits, and whether each fits.
use Rattle.std.proofs.Common.{◌≡◌, ◌≤◌, ◌+◌, ℕ, suc, Bool, true, false, if◌then◌else◌, Some, None, List, [], map, length, sym, ap, ◌∙◌, subst, refl, arith}
use Rattle.std.specs.Prelude.{slice_get}
use Rattle.flow_model.specs.Rule.{Fault}
use Rattle.el_join.specs.declared.sums.Sums.{Sums}
use Rattle.el_join.specs.declared.pad.Pad.{Pad}
use Rattle.el_join.specs.Outs.{items_of, fault_in}
use Rattle.el_join.specs.Totals.{with_tally, raised}
use Rattle.el_join.specs.Passing.{later_from, going_from}
use Rattle.el_join.proofs.Turning.{later_behind, later_at, later_end, going_end, going_length, fault_behind, fault_first}
use Rattle.gst_value.proofs.Basics.{one_more}

-- From a pad on, as far as a place: no fault was found, and so many items go out.
pub record Checked (pads : List Pad) (first : ℕ) (sums : Sums) (place : ℕ) (behind : Sums) (count : ℕ) : Type 0 where
  pub faults : fault_in (later_from first sums pads) ≡ fault_in (later_from place behind pads)
  pub counted : length (going_from first sums pads) ≡ count + length (going_from place behind pads)

pub checked_first : (pads : List Pad) (first : ℕ) (sums : Sums) → Checked pads first sums first sums 0
checked_first pads first sums = record { faults = refl; counted = omega arith }

module _ (pads : List Pad) (first : ℕ) (sums : Sums) (place : ℕ) (behind : Sums) (count : ℕ) (c : Checked pads first sums place behind count) where
  module _ (p : Pad) (at : slice_get pads place ≡ Some p) where
    pub checked_fault : (fault : Fault) → fault_in (map (raised behind) (items_of p.waiting)) ≡ Some fault → fault_in (later_from first sums pads) ≡ Some fault
    checked_fault fault found =
        c.faults ∙ ap fault_in (later_at place behind pads p at) ∙ fault_first (map (raised behind) (items_of p.waiting)) (later_behind place behind pads p) fault found

    module _ (fits : fault_in (map (raised behind) (items_of p.waiting)) ≡ None) where
      faults_behind : (b : Bool) → p.facts.ended ≡ b
          → fault_in (later_from first sums pads) ≡ fault_in (if b then later_from (suc place) (with_tally behind p.facts.tally) pads else [])
      faults_behind b e =
          c.faults ∙ ap fault_in (later_at place behind pads p at) ∙ fault_behind (map (raised behind) (items_of p.waiting)) (later_behind place behind pads p) fits
          ∙ ap (λ (t : Bool). fault_in (if t then later_from (suc place) (with_tally behind p.facts.tally) pads else [])) e

      pub checked_next : (sum : ℕ) (after : Sums) → p.facts.ended ≡ true → sum ≡ count + length p.waiting → after ≡ with_tally behind p.facts.tally → Checked pads first sums (place + 1) after sum
      checked_next sum after over is to =
          let n = going_length place behind pads p at true over in
          let k = c.counted in
          let m : length (going_from first sums pads) ≡ sum + length (going_from (suc place) (with_tally behind p.facts.tally) pads) = omega (arith, n, k, is) in
          subst (λ (j : ℕ). Checked pads first sums j after sum) (sym (one_more place))
          (subst (λ (s : Sums). Checked pads first sums (suc place) s sum) (sym to) (record { faults = faults_behind true over; counted = m }))

      pub stopped_fits : p.facts.ended ≡ false → fault_in (later_from first sums pads) ≡ None
      stopped_fits none = faults_behind false none

      pub stopped_count : (sum : ℕ) → p.facts.ended ≡ false → sum ≡ count + length p.waiting → sum ≡ length (going_from first sums pads)
      stopped_count sum none is =
          let n = going_length place behind pads p at false none in
          let k = c.counted in
          omega (arith, n, k, is)

  pub ended_fits : length pads ≤ place → fault_in (later_from first sums pads) ≡ None
  ended_fits h = c.faults ∙ ap fault_in (later_end place behind pads h)

  pub ended_count : (sum : ℕ) → length pads ≤ place → sum ≡ count + 1 → sum ≡ length (going_from first sums pads)
  ended_count sum h is =
      let n = ap length (going_end place behind pads h) in
      let k = c.counted in
      omega (arith, n, k, is)
