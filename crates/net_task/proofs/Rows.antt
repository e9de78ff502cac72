-- The rows of a head, where one was asked for its next item.
use Rattle.std.proofs.Common.{◌≡◌, ◌≢◌, ◌≤◌, ◌⊎◌, ◌++◌, ◌+◌, ℕ, List, [], ◌∷◌, length, Some, Option, refl, sym, ap, ◌∙◌, subst, inl, inr, arith}
use Rattle.std.specs.Prelude.{slice_get, slice_set, sum_by}
use Rattle.std.proofs.lemmas.Bool.{cases_eq}
use Rattle.lane_core.specs.Lane.{IsIn, IsOf, Lane}
use Rattle.lane_core.specs.Room.{Limits}
use Rattle.lane_core.specs.declared.ends.Inlet as inlets
use Rattle.inlet_row.specs.declared.feeding.Feeding.{Feeding}
use Rattle.inlet_row.specs.declared.feeding.Feeding.TheVariants.{Given, Lane as OfLane}
use Rattle.inlet_row.specs.Taken.{Taken}
use Rattle.inlet_row.specs.Taken as takes
use Rattle.inlet_row.specs.declared.row.InletRow.{InletRow}
use Rattle.inlet_row.specs.Left.{Lessens, row_left}
use Rattle.inlet_row.specs.Row.{AreApart, ForLanes, RowIn, feeds_of}
use Rattle.inlet_row.specs.Take.{AsksLane, Moves}
use Rattle.inlet_row.proofs.Lessens.{moves_lessen}
use Rattle.task_parts.specs.declared.head.InletHead.{InletHead}
use Rattle.task_parts.specs.Passing.{AsksRow, InletsReady}
use Rattle.net_task.specs.Frame.{TaskFrame}
use Rattle.net_task.specs.Ready.{RowKept, RowsApart}
use Rattle.net_task.proofs.GoingOn.{asked_row}
use Rattle.task_pads.proofs.Lists.{set_length, set_there}
use Rattle.task_parts.proofs.Lists.{each_set}
use Rattle.net_task.proofs.Trying.{for_lanes}
use Rattle.gst_value.proofs.Basics.{some_same}
use Rattle.gst_value.proofs.Places.{set_at, sum_set}

-- a fact of each lane is one of each that stands behind
lanes_back : {I : Type 0} (P : I → Type 0) (front back : List (Feeding I)) → ForLanes P (front ++ back) → ForLanes P back
lanes_back P [] back l = l
lanes_back P (Given x ∷ front) back l = lanes_back P front back l
lanes_back P (OfLane number inlet ∷ front) back l = lanes_back P front back l.1

-- What a question to the rows of a head keeps.
pub record RowsKept {I L O : Type 0} (i : inlets.Ghosts I L O) (head head' : InletHead I) (tells tells' : Option (List Lane)) : Type 0 where
  pub number : head'.number ≡ head.number
  pub many : length head'.rows.items ≡ length head.rows.items
  pub rooms : (n : ℕ) (limits : Limits) (count : ℕ) → IsOf tells n limits count → IsOf tells' n limits count
  pub lanes : (n : ℕ) → IsIn tells n → IsIn tells' n
  pub on : (port : ℕ) (row' : InletRow I) → slice_get head'.rows.items port ≡ Some row' → (row : InletRow I) × (slice_get head.rows.items port ≡ Some row) × RowKept i row row'
  pub ready : InletsReady i tells head → InletsReady i tells' head'
  pub apart : (frame : TaskFrame) → RowsApart i frame head → RowsApart i frame head'

module _ {I L O : Type 0} (i : inlets.Ghosts I L O) where
  -- no row changed
  pub rows_kept : (head head' : InletHead I) (tells tells' : Option (List Lane)) → head'.number ≡ head.number → head'.rows ≡ head.rows → tells' ≡ tells → RowsKept i head head' tells tells'
  rows_kept head head' tells tells' number rows table = record {
    number = number;
    many = ap (λ (v : _). length v.items) rows;
    rooms = λ n limits count of. rw table of;
    lanes = λ n w. rw table w;
    on = λ port row at. (row, ap (λ (v : _). slice_get v.items port) (sym rows) ∙ at, record { places = λ n w. w; last = λ n w. w });
    ready = λ r port row at. rw table (r port row (ap (λ (v : _). slice_get v.items port) (sym rows) ∙ at));
    apart = λ frame a. record {
      each = λ port row at. a.each port row (ap (λ (v : _). slice_get v.items port) (sym rows) ∙ at);
      rows = λ j k one other at at' ne. a.rows j k one other (ap (λ (v : _). slice_get v.items j) (sym rows) ∙ at) (ap (λ (v : _). slice_get v.items k) (sym rows) ∙ at') ne;
      pads = λ j k place wire w l port row at. a.pads j k place wire w l port row (ap (λ (v : _). slice_get v.items port) (sym rows) ∙ at);
    };
  }

  module _ (Q : ℕ → Type 0) where
    abbrev AllAt : List (Feeding I) → Type 0
    AllAt feeds = ForLanes (λ inlet. Q (i.place inlet)) feeds

    asked_places : (tells tells' : Option (List Lane)) (row row' : InletRow I) (number : ℕ) (rest : List (Feeding I)) (said : _) → AsksLane i tells tells' row row' number rest said → AllAt (feeds_of row) → AllAt (feeds_of row')
    asked_places tells tells' row row' number rest said f l =
        let z = lanes_back (λ inlet. Q (i.place inlet)) f.gone (OfLane number f.was ∷ rest) (subst AllAt f.before l) in
        subst AllAt (sym f.after) (subst Q (sym f.took.same.1) z.0, z.1)

    -- each lane of a row that was asked has the place of one that it had
    moves_places : (tells tells' : Option (List Lane)) (row row' : InletRow I) (taken : Taken) → Moves i tells tells' row row' taken → AllAt (feeds_of row) → AllAt (feeds_of row')
    moves_places tells tells' row row' (takes.Item x) (inl f) l = lanes_back (λ inlet. Q (i.place inlet)) f.0.gone (Given x ∷ feeds_of row') (subst AllAt f.0.before l)
    moves_places tells tells' row row' (takes.Item x) (inr f) l = asked_places tells tells' row row' f.0 f.1 _ f.2 l
    moves_places tells tells' row row' (takes.Empty number) (inl f) l = asked_places tells tells' row row' number [] _ f l
    moves_places tells tells' row row' (takes.Empty number) (inr f) l = subst AllAt (sym f.1) tt

  module _ (head head' : InletHead I) (port : ℕ) (tells tells' : Option (List Lane)) (taken : Taken) (k : AsksRow i head head' port tells tells' taken) where
    -- the row at a place was one of these lanes
    pub record OldRow (place : ℕ) (row : InletRow I) : Type 0 where
      pub old : InletRow I
      pub at : slice_get head.rows.items place ≡ Some old
      pub how : (row ≡ old) ⊎ ((row ≡ k.is) × (old ≡ k.was))

    old_row : (place : ℕ) (row : InletRow I) → slice_get head'.rows.items place ≡ Some row → OldRow place row
    old_row place row at = go (cases_eq place port)
      where
        there : slice_get (slice_set head.rows.items port k.is) place ≡ Some row
        there = ap (λ (rs : List (InletRow I)). slice_get rs place) (sym k.set.set) ∙ at

        go : ((place ≡ port) ⊎ (place ≡ port → ⊥)) → OldRow place row
        go (inl same) = record {
          old = k.was;
          at = ap (slice_get head.rows.items) same ∙ k.set.at;
          how = inr (some_same (sym there ∙ ap (slice_get (slice_set head.rows.items port k.is)) same ∙ set_at head.rows.items port k.was k.is k.set.at), refl);
        }
        go (inr n) = record { old = row; at = sym (set_there head.rows.items port place k.is n) ∙ there; how = inl refl }

    sub_places : (Q : ℕ → Type 0) (place : ℕ) (row : InletRow I) → (z : OldRow place row) → ForLanes (λ inlet. Q (i.place inlet)) (feeds_of z.old) → ForLanes (λ inlet. Q (i.place inlet)) (feeds_of row)
    sub_places Q place row z l = go z.how
      where
        go : ((row ≡ z.old) ⊎ ((row ≡ k.is) × (z.old ≡ k.was))) → ForLanes (λ inlet. Q (i.place inlet)) (feeds_of row)
        go (inl same) = subst (λ (w : InletRow I). ForLanes (λ inlet. Q (i.place inlet)) (feeds_of w)) (sym same) l
        go (inr same) = subst (λ (w : InletRow I). ForLanes (λ inlet. Q (i.place inlet)) (feeds_of w)) (sym same.0)
            (moves_places Q tells tells' k.was k.is taken k.moves (subst (λ (w : InletRow I). ForLanes (λ inlet. Q (i.place inlet)) (feeds_of w)) same.1 l))

    -- the rows of the head go on
    asked_on : (port : ℕ) (row' : InletRow I) → slice_get head'.rows.items port ≡ Some row' → (row : InletRow I) × (slice_get head.rows.items port ≡ Some row) × RowKept i row row'
    asked_on place row' at = let z = old_row place row' at in (z.old, z.at, go z.old z.how)
      where
        go : (old : InletRow I) → ((row' ≡ old) ⊎ ((row' ≡ k.is) × (old ≡ k.was))) → RowKept i old row'
        go old (inl same) = subst (λ (w : InletRow I). RowKept i old w) (sym same) (record { places = λ n w. w; last = λ n w. w })
        go old (inr same) = subst (λ (w : InletRow I). RowKept i old w) (sym same.0) (subst (λ (w : InletRow I). RowKept i w k.is) (sym same.1) (asked_row i head head' port tells tells' taken k))

    pub asked_kept : RowsKept i head head' tells tells'
    asked_kept = record {
      number = k.set.number;
      many = ap length k.set.set ∙ set_length head.rows.items port k.is;
      rooms = k.stays.rooms;
      lanes = k.stays.lanes;
      on = asked_on;
      ready = λ r. each_set head.rows.items head'.rows.items port k.is (λ n row. RowIn i tells row) (λ n row. RowIn i tells' row) k.set.set r
          (λ n row ne at old. for_lanes (λ inlet. IsIn tells (i.place inlet)) (λ inlet. IsIn tells' (i.place inlet)) (λ inlet. k.stays.lanes (i.place inlet)) (feeds_of row) old) k.stays.within;
      apart = λ frame a. record {
        each = each_set head.rows.items head'.rows.items port k.is (λ n row. AreApart i row) (λ n row. AreApart i row) k.set.set a.each (λ n row ne at old. old) (k.stays.apart (a.each port k.was k.set.at));
        rows = λ j l one other at at' ne.
            let x = old_row j one at in
            let y = old_row l other at' in
            sub_places (λ n. ForLanes (λ second. i.place second ≢ n) (feeds_of other)) j one x
            (for_lanes (λ inlet. ForLanes (λ second. i.place second ≢ i.place inlet) (feeds_of y.old)) (λ inlet. ForLanes (λ second. i.place second ≢ i.place inlet) (feeds_of other))
            (λ inlet z. sub_places (λ n. n ≢ i.place inlet) l other y z) (feeds_of x.old) (a.rows j l x.old y.old x.at y.at ne));
        pads = λ j l place wire w into p row at. let x = old_row p row at in sub_places (λ n. place ≢ n) p row x (a.pads j l place wire w into p x.old x.at);
      };
    }

    -- how many items the rows can give yet
    pub asked_left : ((inlet : I) → i.count inlet ≤ 4611686018427387904) → Lessens (sum_by (λ row. row_left i row) head.rows.items) (sum_by (λ row. row_left i row) head'.rows.items) taken
    asked_left bounded =
        let a = sum_set (λ row. row_left i row) head.rows.items port k.was k.is k.set.at in
        let b = ap (λ (rs : List (InletRow I)). sum_by (λ row. row_left i row) rs) k.set.set in
        go taken (moves_lessen i bounded tells tells' k.was k.is taken k.moves) a b
      where
        go : (said : Taken) → Lessens (row_left i k.was) (row_left i k.is) said → sum_by (λ row. row_left i row) (slice_set head.rows.items port k.is) + row_left i k.was ≡ sum_by (λ row. row_left i row) head.rows.items + row_left i k.is
            → sum_by (λ row. row_left i row) head'.rows.items ≡ sum_by (λ row. row_left i row) (slice_set head.rows.items port k.is) → Lessens (sum_by (λ row. row_left i row) head.rows.items) (sum_by (λ row. row_left i row) head'.rows.items) said
        go (takes.Item x) l a b = omega (arith, l, a, b)
        go (takes.Empty number) l a b = omega (arith, l, a, b)
