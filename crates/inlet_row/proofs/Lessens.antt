-- A take that gives an item leaves fewer to give.
use Rattle.std.proofs.Common.{◌≡◌, ◌<◌, ◌≤◌, ◌+◌, ℕ, List, [], ◌∷◌, ◌++◌, Option, ap, ◌∙◌, inl, inr, arith}
use Rattle.lane_core.specs.declared.ends.Inlet as inlets
use Rattle.lane_core.specs.declared.ends.Take.TheVariants as took
use Rattle.lane_core.specs.Lane.{Lane}
use Rattle.inlet_row.specs.declared.feeding.Feeding.{Feeding}
use Rattle.inlet_row.specs.declared.feeding.Feeding.TheVariants.{Given, Lane as OfLane}
use Rattle.inlet_row.specs.Taken.{Taken, Item, Empty}
use Rattle.inlet_row.specs.declared.row.InletRow.{InletRow}
use Rattle.inlet_row.specs.Left.{Lessens, left_in, row_left}
use Rattle.inlet_row.specs.Row.{feeds_of}
use Rattle.inlet_row.specs.Take.{AsksLane, LosesGiven, Moves}

module _ {I L O : Type 0} (i : inlets.Ghosts I L O) where
  -- what is left of two rows one behind the other
  left_both : (front back : List (Feeding I)) → left_in i (front ++ back) ≡ left_in i front + left_in i back
  left_both [] back = omega arith
  left_both (Given x ∷ front) back = let r = left_both front back in omega (arith, r)
  left_both (OfLane number inlet ∷ front) back = let r = left_both front back in omega (arith, r)

  -- No lane takes more items than a put allows.
  module _ (bounded : (inlet : I) → i.count inlet ≤ 4611686018427387904) where
    asked_more : (tells tells' : Option (List Lane)) (row row' : InletRow I) (number : ℕ) (rest : List (Feeding I)) (x : _) → AsksLane i tells tells' row row' number rest (took.Item x) → row_left i row' < row_left i row
    asked_more tells tells' row row' number rest x f =
        let a = ap (left_in i) f.before ∙ left_both f.gone (OfLane number f.was ∷ rest) in
        let b = ap (left_in i) f.after in
        let c = f.took.answer.1 in
        let d = bounded f.is in
        omega (arith, a, b, c, d)

    asked_none : (tells tells' : Option (List Lane)) (row row' : InletRow I) (number : ℕ) (rest : List (Feeding I)) → AsksLane i tells tells' row row' number rest took.Empty → row_left i row' ≤ row_left i row
    asked_none tells tells' row row' number rest f =
        let a = ap (left_in i) f.before ∙ left_both f.gone (OfLane number f.was ∷ rest) in
        let b = ap (left_in i) f.after in
        let c = f.took.answer.1 in
        omega (arith, a, b, c)

    given_more : (tells : Option (List Lane)) (row row' : InletRow I) (x : _) → LosesGiven i tells row row' x → row_left i row' < row_left i row
    given_more tells row row' x f =
        let a = ap (left_in i) f.before ∙ left_both f.gone (Given x ∷ feeds_of row') in
        omega (arith, a)

    -- what a take of a row leaves
    pub moves_lessen : (tells tells' : Option (List Lane)) (row row' : InletRow I) (answer : Taken) → Moves i tells tells' row row' answer → Lessens (row_left i row) (row_left i row') answer
    moves_lessen tells tells' row row' (Item x) (inl f) = given_more tells row row' x f.0
    moves_lessen tells tells' row row' (Item x) (inr f) = asked_more tells tells' row row' f.0 f.1 x f.2
    moves_lessen tells tells' row row' (Empty number) (inl f) = asked_none tells tells' row row' number [] f
    moves_lessen tells tells' row row' (Empty number) (inr f) = let a = ap (left_in i) f.0 in let b = ap (left_in i) f.1 in omega (arith, a, b)
