-- How many items the heads of a graph's tasks received from the lanes into their sink pads.
use Rattle.std.proofs.Common.{◌≡◌, ◌≢◌, ◌⊎◌, ◌+◌, ℕ, zero, suc, true, false, cond, eqb, List, [], ◌∷◌, Option, None, Some, inl, inr}
use Rattle.std.proofs.Common.{refl, sym, ap, ◌∙◌, subst, arith}
use Rattle.std.specs.Prelude.{slice_get}
use Rattle.std.proofs.lemmas.Bool.{eq-eqb}
use Rattle.std.proofs.lemmas.Bool.Decides.{eqb_tells}
use Rattle.lane_core.specs.declared.ends.Inlet as inlets
use Rattle.inlet_row.specs.Feed.{first_some, received_in}
use Rattle.inlet_row.specs.Row.{feeds_of, received_of}
use Rattle.inlet_row.specs.declared.feeding.Feeding.{Feeding}
use Rattle.inlet_row.specs.declared.feeding.Feeding.TheVariants.{Lane as OfLane}
use Rattle.inlet_row.specs.declared.row.InletRow.{InletRow}
use Rattle.task_parts.specs.Ends.{received_among}
use Rattle.net_turns.specs.Alone.{HoldsAlone}
use Rattle.gst_value.proofs.Basics.{some_same as same_some}

-- the lane of another number answers nothing
other_none : {I L O : Type 0} (i : inlets.Ghosts I L O) (lane number : ℕ) (inlet : I) → number ≢ lane → received_in i lane (OfLane number inlet) ≡ None
other_none i lane number inlet ne = go (eqb_tells number lane)
  where
    go : ((eqb number lane ≡ true) × (number ≡ lane)) ⊎ ((eqb number lane ≡ false) × (number ≡ lane → ⊥)) → cond (eqb number lane) (Some (i.count inlet)) None ≡ None
    go (inl t) = absurd (ne t.1)
    go (inr f) = rw f.0 refl

module _ {I L O : Type 0} (i : inlets.Ghosts I L O) (lanes : ℕ → Option ℕ) where
  -- a row of another sink pad answers nothing
  row_other : (lane : ℕ) (own : Option ℕ) (row : InletRow I) → own ≢ Some lane → HoldsAlone own row → received_of i lane (feeds_of row) ≡ None
  row_other lane None row ne alone = ap (λ (fs : List (Feeding I)). received_of i lane fs) alone
  row_other lane (Some number) row ne alone =
      ap (λ (fs : List (Feeding I)). received_of i lane fs) alone.1
      ∙ ap (λ (found : Option ℕ). first_some found None) (other_none i lane number alone.0 (λ same. ne (ap (λ (n : ℕ). Some n) same)))

  -- rows of other sink pads alone answer nothing
  all_other : (lane start : ℕ) (rows : List (InletRow I)) → ((k : ℕ) (row : InletRow I) → slice_get rows k ≡ Some row → HoldsAlone (lanes (start + k)) row)
      → ((k : ℕ) → lanes (start + k) ≢ Some lane) → received_among i lane rows ≡ None
  all_other lane start [] each none = refl
  all_other lane start (row ∷ rows) each none =
      let here : start + 0 ≡ start = omega arith in
      ap (λ (found : Option ℕ). first_some found (received_among i lane rows))
      (row_other lane (lanes (start + 0)) row (none 0) (each 0 row refl))
      ∙ all_other lane (start + 1) rows
      (λ k one at. let later : start + suc k ≡ start + 1 + k = omega arith in subst (λ (n : ℕ). HoldsAlone (lanes n) one) later (each (suc k) one at))
      (λ k same. let later : start + 1 + k ≡ start + suc k = omega arith in none (suc k) (ap lanes (sym later) ∙ same))

  first_of : (found : Option ℕ) (rest : Option ℕ) → rest ≡ None → first_some found rest ≡ found
  first_of None rest none = none
  first_of (Some n) rest none = refl

  -- so the row of a sink pad answers for its lane
  among_row : (lane start pad : ℕ) (rows : List (InletRow I)) (row : InletRow I) → ((k : ℕ) (row : InletRow I) → slice_get rows k ≡ Some row → HoldsAlone (lanes (start + k)) row)
      → slice_get rows pad ≡ Some row → ((k : ℕ) → k ≢ start + pad → lanes k ≢ Some lane) → received_among i lane rows ≡ received_of i lane (feeds_of row)
  among_row lane start pad [] row each at other = absurd (cc)
  among_row lane start zero (one ∷ rows) row each at other =
      first_of (received_of i lane (feeds_of one)) (received_among i lane rows)
      (all_other lane (start + 1) rows
      (λ k r here. let later : start + suc k ≡ start + 1 + k = omega arith in subst (λ (n : ℕ). HoldsAlone (lanes n) r) later (each (suc k) r here))
      (λ k. other (start + 1 + k) (λ same. omega (arith, same))))
      ∙ ap (λ (r : InletRow I). received_of i lane (feeds_of r)) (same_some at)
  among_row lane start (suc pad) (one ∷ rows) row each at other =
      ap (λ (found : Option ℕ). first_some found (received_among i lane rows))
      (row_other lane (lanes (start + 0)) one (other (start + 0) (λ same. omega (arith, same))) (each 0 one refl))
      ∙ among_row lane (start + 1) pad rows row
      (λ k r here. let later : start + suc k ≡ start + 1 + k = omega arith in subst (λ (n : ℕ). HoldsAlone (lanes n) r) later (each (suc k) r here)) at
      (λ k ne. other k (λ same. ne (let later : start + suc pad ≡ start + 1 + pad = omega arith in same ∙ later)))

  pub received_row : (lane pad : ℕ) (rows : List (InletRow I)) (row : InletRow I) → ((k : ℕ) (row : InletRow I) → slice_get rows k ≡ Some row → HoldsAlone (lanes k) row)
      → slice_get rows pad ≡ Some row → ((k : ℕ) → k ≢ pad → lanes k ≢ Some lane) → received_among i lane rows ≡ received_of i lane (feeds_of row)
  received_row lane pad rows row each at other =
      among_row lane 0 pad rows row (λ k r here. let same : k ≡ 0 + k = omega arith in subst (λ (n : ℕ). HoldsAlone (lanes n) r) same (each k r here)) at
      (λ k ne. other k (λ same. ne (let here : pad ≡ 0 + pad = omega arith in same ∙ here)))

-- a row that holds the lane of this number received what that did
pub received_one : {I L O : Type 0} (i : inlets.Ghosts I L O) (lane : ℕ) (inlet : I) → received_of i lane (OfLane lane inlet ∷ []) ≡ Some (i.count inlet)
received_one i lane inlet = rw (eq-eqb lane lane refl) refl
