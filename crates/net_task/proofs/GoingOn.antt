-- What a step leaves of the lanes of other tasks, and of its own inlets.
use Rattle.std.proofs.Common.{◌≡◌, ◌⊎◌, ◌++◌, ℕ, List, [], ◌∷◌, Option, sym, ap, ◌∙◌, subst, inl, inr}
use Rattle.lane_core.specs.Lane.{Lane}
use Rattle.lane_core.specs.declared.ends.Inlet as inlets
use Rattle.flow_model.specs.declared.source.TaskSource as sources
use Rattle.inlet_row.specs.declared.feeding.Feeding.{Feeding}
use Rattle.inlet_row.specs.declared.feeding.Feeding.TheVariants.{Given, Lane as OfLane}
use Rattle.inlet_row.specs.Taken.{Taken}
use Rattle.inlet_row.specs.Taken as takes
use Rattle.inlet_row.specs.declared.row.InletRow.{InletRow}
use Rattle.inlet_row.specs.Row.{feeds_of}
use Rattle.inlet_row.specs.Take.{AsksLane, HasPlace, Moves}
use Rattle.task_parts.specs.declared.head.Head.{Head}
use Rattle.task_parts.specs.declared.head.Head.TheVariants.{Source, Inlets}
use Rattle.task_parts.specs.declared.head.InletHead.{InletHead}
use Rattle.task_parts.specs.Passing.{AsksRow}
use Rattle.net_task.specs.Frame.{TaskFrame}
use Rattle.net_task.specs.Ready.{EndsWith, KeepsLanes, LanesGoOn, RowKept, RowsGoOn}

-- where the table is as it was
pub keeps_same : (frame : TaskFrame) (tells tells' : Option (List Lane)) → tells' ≡ tells → KeepsLanes frame tells tells'
keeps_same frame tells tells' same = record { lanes = λ n w. rw same w; rooms = λ n limits count none w. rw same w }

pub keeps_both : (frame : TaskFrame) (one two three : Option (List Lane)) → KeepsLanes frame one two → KeepsLanes frame two three → KeepsLanes frame one three
keeps_both frame one two three f g = record { lanes = λ n w. g.lanes n (f.lanes n w); rooms = λ n limits count none w. g.rooms n limits count none (f.rooms n limits count none w) }

module _ {I L O : Type 0} (i : inlets.Ghosts I L O) where
  row_same : (row : InletRow I) → RowKept i row row
  row_same row = record { places = λ n w. w; last = λ n w. w }

  place_back : (n : ℕ) (front back : List (Feeding I)) → HasPlace i n back → HasPlace i n (front ++ back)
  place_back n [] back w = w
  place_back n (Given x ∷ front) back w = place_back n front back w
  place_back n (OfLane number inlet ∷ front) back w = inr (place_back n front back w)

  -- the last of a list
  pub record Ends (xs : List (Feeding I)) (x : Feeding I) : Type 0 where
    pub front : List (Feeding I)
    pub whole : xs ≡ front ++ x ∷ []

  tail_same : (x y : Feeding I) (xs ys : List (Feeding I)) → x ∷ xs ≡ y ∷ ys → xs ≡ ys
  tail_same x y xs ys q = cc

  head_same : (x y : Feeding I) (xs ys : List (Feeding I)) → x ∷ xs ≡ y ∷ ys → x ≡ y
  head_same x y xs ys q = cc

  not_empty : (front : List (Feeding I)) (x : Feeding I) (xs : List (Feeding I)) → front ++ x ∷ xs ≡ [] → ⊥
  not_empty [] x xs q = cc
  not_empty (y ∷ front) x xs q = cc

  ends_back : (gone : List (Feeding I)) (y : Feeding I) (ys : List (Feeding I)) (x : Feeding I) → Ends (gone ++ y ∷ ys) x → Ends (y ∷ ys) x
  ends_back [] y ys x e = e
  ends_back (g ∷ gone) y ys x e = go (ends_back gone y ys x) e.front e.whole
    where
      go : (Ends (gone ++ y ∷ ys) x → Ends (y ∷ ys) x) → (front : List (Feeding I)) → g ∷ (gone ++ y ∷ ys) ≡ front ++ x ∷ [] → Ends (y ∷ ys) x
      go again [] q = absurd (not_empty gone y ys (tail_same g x (gone ++ y ∷ ys) [] q))
      go again (f ∷ front) q = again (record { front = front; whole = tail_same g f (gone ++ y ∷ ys) (front ++ x ∷ []) q })

  same_inlet : (number other : ℕ) (one two : I) → OfLane number one ≡ OfLane other two → one ≡ two
  same_inlet number other one two q = cc

  not_given : (x : _) (number : ℕ) (inlet : I) → Given x ≡ OfLane number inlet → ⊥
  not_given x number inlet q = cc

  asked_kept : (tells tells' : Option (List Lane)) (row row' : InletRow I) (number : ℕ) (rest : List (Feeding I)) (said : _) → AsksLane i tells tells' row row' number rest said → RowKept i row row'
  asked_kept tells tells' row row' number rest said f = record { places = places; last = last }
    where
      places : (n : ℕ) → HasPlace i n (feeds_of row') → HasPlace i n (feeds_of row)
      places n w = subst (HasPlace i n) (sym f.before) (place_back n f.gone (OfLane number f.was ∷ rest) (go (subst (HasPlace i n) f.after w)))
        where
          go : ((n ≡ i.place f.is) ⊎ HasPlace i n rest) → (n ≡ i.place f.was) ⊎ HasPlace i n rest
          go (inl q) = inl (q ∙ f.took.same.1)
          go (inr q) = inr q

      last : (n : ℕ) → EndsWith i row n → EndsWith i row' n
      last n w = go z.front z.whole
        where
          z : Ends (OfLane number f.was ∷ rest) (OfLane w.number w.inlet)
          z = ends_back f.gone (OfLane number f.was) rest (OfLane w.number w.inlet) (record { front = w.front; whole = sym f.before ∙ w.whole })

          go : (front : List (Feeding I)) → OfLane number f.was ∷ rest ≡ front ++ OfLane w.number w.inlet ∷ [] → EndsWith i row' n
          go [] q = record {
            front = [];
            number = number;
            inlet = f.is;
            whole = f.after ∙ ap (λ (zs : List (Feeding I)). OfLane number f.is ∷ zs) (tail_same (OfLane number f.was) (OfLane w.number w.inlet) rest [] q);
            place_is = f.took.same.1 ∙ ap i.place (same_inlet number w.number f.was w.inlet (head_same (OfLane number f.was) (OfLane w.number w.inlet) rest [] q)) ∙ w.place_is;
          }
          go (x ∷ front) q = record {
            front = OfLane number f.is ∷ front;
            number = w.number;
            inlet = w.inlet;
            whole = f.after ∙ ap (λ (zs : List (Feeding I)). OfLane number f.is ∷ zs) (tail_same (OfLane number f.was) x rest (front ++ OfLane w.number w.inlet ∷ []) q);
            place_is = w.place_is;
          }

  -- a row that was asked has no lane that it had not, and ends as it did
  moves_kept : (tells tells' : Option (List Lane)) (row row' : InletRow I) (taken : Taken) → Moves i tells tells' row row' taken → RowKept i row row'
  moves_kept tells tells' row row' (takes.Item x) (inl f) = record {
    places = λ n w. subst (HasPlace i n) (sym f.0.before) (place_back n f.0.gone (Given x ∷ feeds_of row') w);
    last = λ n w. last n w (ends_back f.0.gone (Given x) (feeds_of row') (OfLane w.number w.inlet) (record { front = w.front; whole = sym f.0.before ∙ w.whole }));
  }
    where
      last : (n : ℕ) (w : EndsWith i row n) → Ends (Given x ∷ feeds_of row') (OfLane w.number w.inlet) → EndsWith i row' n
      last n w z = go z.front z.whole
        where
          go : (front : List (Feeding I)) → Given x ∷ feeds_of row' ≡ front ++ OfLane w.number w.inlet ∷ [] → EndsWith i row' n
          go [] q = absurd (not_given x w.number w.inlet (head_same (Given x) (OfLane w.number w.inlet) (feeds_of row') [] q))
          go (y ∷ front) q = record { front = front; number = w.number; inlet = w.inlet; whole = tail_same (Given x) y (feeds_of row') (front ++ OfLane w.number w.inlet ∷ []) q; place_is = w.place_is }
  moves_kept tells tells' row row' (takes.Item x) (inr f) = asked_kept tells tells' row row' f.0 f.1 _ f.2
  moves_kept tells tells' row row' (takes.Empty number) (inl f) = asked_kept tells tells' row row' number [] _ f
  moves_kept tells tells' row row' (takes.Empty number) (inr f) = record {
    places = λ n w. absurd (subst (HasPlace i n) f.1 w);
    last = λ n w. absurd (not_empty w.front (OfLane w.number w.inlet) [] (sym w.whole ∙ f.0));
  }

  pub asked_row : (head head' : InletHead I) (port : ℕ) (tells tells' : Option (List Lane)) (taken : Taken) (k : AsksRow i head head' port tells tells' taken) → RowKept i k.was k.is
  asked_row head head' port tells tells' taken k = moves_kept tells tells' k.was k.is taken k.moves

module _ {S I L O : Type 0} {s : sources.Ghosts S} (i : inlets.Ghosts I L O) where
  pub rows_on : (head : Head S I O s) → RowsGoOn i head head
  rows_on (Source head) = tt
  rows_on (Inlets head) = λ port row at. (row, at, row_same i row)

  pub rows_both : (one two three : Head S I O s) → RowsGoOn i one two → RowsGoOn i two three → RowsGoOn i one three
  rows_both (Source one) (Source two) (Source three) f g = tt
  rows_both (Source one) (Source two) (Inlets three) f g = absurd g
  rows_both (Source one) (Inlets two) three f g = absurd f
  rows_both (Inlets one) (Source two) three f g = absurd f
  rows_both (Inlets one) (Inlets two) (Source three) f g = absurd g
  rows_both (Inlets one) (Inlets two) (Inlets three) f g = λ port row at.
      let y = g port row at in
      let x = f port y.0 y.1 in
      (x.0, x.1, record { places = λ n w. x.2.places n (y.2.places n w); last = λ n w. y.2.last n (x.2.last n w) })

  pub goes_both : (frame : TaskFrame) (one two three : Head S I O s) (a b c : Option (List Lane)) → LanesGoOn i frame one two a b → LanesGoOn i frame two three b c → LanesGoOn i frame one three a c
  goes_both frame one two three a b c f g = record { rows = rows_both one two three f.rows g.rows; table = keeps_both frame a b c f.table g.table }
