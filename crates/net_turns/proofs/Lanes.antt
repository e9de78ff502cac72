-- What a take of a row leaves of it, and of the others.
use Rattle.std.proofs.Common.{◌≡◌, ◌≢◌, ℕ, List, [], ◌∷◌, ◌++◌, drop, Option, Some, None, refl, sym, ap, ◌∙◌, subst, inl, inr}
use Rattle.std.specs.Prelude.{slice_get}
use Rattle.gst_item.specs.declared.item.Item as items
use Rattle.lane_core.specs.declared.ends.Inlet as inlets
use Rattle.lane_core.specs.Lane.{Lane, lane_of, table_without_first}
use Rattle.lane_core.proofs.Change.{updated_else}
use Rattle.inlet_row.specs.declared.feeding.Feeding.{Feeding}
use Rattle.inlet_row.specs.declared.feeding.Feeding.TheVariants.{Given, Lane as OfLane}
use Rattle.inlet_row.specs.Taken.{Item}
use Rattle.inlet_row.specs.declared.row.InletRow.{InletRow}
use Rattle.inlet_row.specs.Row.{ForLanes, GaveOf, RowBetween, feeds_of, row_holds}
use Rattle.inlet_row.specs.Take.{GivesOne, HasPlace, KeepsLanes, Moves}
use Rattle.inlet_row.proofs.Losing.{for_gone, for_map}
use Rattle.net_task.specs.Ready.{EndsWith}
use Rattle.net_turns.proofs.Rows.{gave_map, held_same}

-- what stands last in a list
abbrev pub last_of : {A : Type 0} → List A → Option A
last_of [] = None
last_of (x ∷ []) = Some x
last_of (x ∷ y ∷ xs) = last_of (y ∷ xs)

last_push : {A : Type 0} (xs : List A) (z : A) → last_of (xs ++ z ∷ []) ≡ Some z
last_push [] z = refl
last_push (x ∷ []) z = refl
last_push (x ∷ y ∷ xs) z = last_push (y ∷ xs) z

last_split : {A : Type 0} (xs : List A) (z : A) → last_of xs ≡ Some z → (front : List A) × (xs ≡ front ++ z ∷ [])
last_split [] z e = absurd cc
last_split {A = A} (x ∷ []) z e = ([], cc)
last_split {A = A} (x ∷ y ∷ xs) z e = let more = last_split (y ∷ xs) z e in (x ∷ more.0, ap (λ (l : List A). x ∷ l) more.1)

last_gone : {A : Type 0} (gone : List A) (y : A) (rest : List A) → last_of (gone ++ y ∷ rest) ≡ last_of (y ∷ rest)
last_gone [] y rest = refl
last_gone (x ∷ []) y rest = refl
last_gone (x ∷ z ∷ gone) y rest = last_gone (z ∷ gone) y rest

module _ {I : Type 0} where
  -- the inlet of a lane
  abbrev inlet_or : I → Option (Feeding I) → I
  inlet_or inlet None = inlet
  inlet_or inlet (Some (Given x)) = inlet
  inlet_or inlet (Some (OfLane n other)) = other

module _ {I L O : Type 0} (i : inlets.Ghosts I L O) where
  ends_by : (row : InletRow I) (place n : ℕ) (inlet : I) → last_of (feeds_of row) ≡ Some (OfLane n inlet) → i.place inlet ≡ place → EndsWith i row place
  ends_by row place n inlet e is = let split = last_split (feeds_of row) (OfLane n inlet) e in record { front = split.0; number = n; inlet = inlet; whole = split.1; place_is = is }

  last_is : (row : InletRow I) (place : ℕ) (ends : EndsWith i row place) → last_of (feeds_of row) ≡ Some (OfLane ends.number ends.inlet)
  last_is row place ends = ap (λ l. last_of l) ends.whole ∙ last_push ends.front (OfLane ends.number ends.inlet)

  -- only one lane stands last
  pub ends_once : (row : InletRow I) (place other : ℕ) → EndsWith i row place → EndsWith i row other → place ≡ other
  ends_once row place other a b =
      sym a.place_is ∙ (ap i.place (ap (inlet_or a.inlet) (sym (last_is row place a) ∙ last_is row other b)) ∙ b.place_is)

  ends_given : (feeds : List (Feeding I)) (x : items.Item) (n : ℕ) (inlet : I) → last_of (Given x ∷ feeds) ≡ Some (OfLane n inlet) → last_of feeds ≡ Some (OfLane n inlet)
  ends_given [] x n inlet e = absurd cc
  ends_given (feed ∷ feeds) x n inlet e = e

  -- the lane at the front answered
  ends_lane : (row' : InletRow I) (rest : List (Feeding I)) (number : ℕ) (was is : I) (place n : ℕ) (inlet : I) → feeds_of row' ≡ OfLane number is ∷ rest → i.place is ≡ i.place was
      → last_of (OfLane number was ∷ rest) ≡ Some (OfLane n inlet) → i.place inlet ≡ place → EndsWith i row' place
  ends_lane row' [] number was is place n inlet after same e at = ends_by row' place number is (ap (λ l. last_of l) after) (same ∙ (ap i.place (ap (inlet_or was) e) ∙ at))
  ends_lane row' (feed ∷ feeds) number was is place n inlet after same e at = ends_by row' place n inlet (ap (λ l. last_of l) after ∙ e) at

  -- what stands last stays
  pub ends_still : (tells tells' : Option (List Lane)) (row row' : InletRow I) (x : items.Item) (place : ℕ) → Moves i tells tells' row row' (Item x)
      → EndsWith i row place → EndsWith i row' place
  ends_still tells tells' row row' x place (inl (f, table)) ends =
      ends_by row' place ends.number ends.inlet
      (ends_given (feeds_of row') x ends.number ends.inlet (sym (ap (λ l. last_of l) f.before ∙ last_gone f.gone (Given x) (feeds_of row')) ∙ last_is row place ends)) ends.place_is
  ends_still tells tells' row row' x place (inr (number, rest, f)) ends =
      ends_lane row' rest number f.was f.is place ends.number ends.inlet f.after f.took.same.1
      (sym (ap (λ l. last_of l) f.before ∙ last_gone f.gone (OfLane number f.was) rest) ∙ last_is row place ends) ends.place_is

  -- what is so at the places of its lanes stays so
  pub places_still : (P : ℕ → Type 0) (tells tells' : Option (List Lane)) (row row' : InletRow I) (x : items.Item) → Moves i tells tells' row row' (Item x)
      → ForLanes (λ inlet. P (i.place inlet)) (feeds_of row)
      → ForLanes (λ inlet. P (i.place inlet)) (feeds_of row')
  places_still P tells tells' row row' x (inl (f, table)) h = for_gone (λ inlet. P (i.place inlet)) f.gone (Given x ∷ feeds_of row') (subst (λ (l : List (Feeding I)). ForLanes (λ inlet. P (i.place inlet)) l) f.before h)
  places_still P tells tells' row row' x (inr (number, rest, f)) h =
      let left = for_gone (λ inlet. P (i.place inlet)) f.gone (OfLane number f.was ∷ rest) (subst (λ (l : List (Feeding I)). ForLanes (λ inlet. P (i.place inlet)) l) f.before h) in
      subst (λ (l : List (Feeding I)). ForLanes (λ inlet. P (i.place inlet)) l) (sym f.after) (subst P (sym f.took.same.1) left.0, left.1)

  place_else : (place other : ℕ) (feeds : List (Feeding I)) → HasPlace i place feeds → ForLanes (λ inlet. other ≢ i.place inlet) feeds → other ≢ place
  place_else place other [] h n e = absurd h
  place_else place other (Given x ∷ feeds) h n e = place_else place other feeds h n e
  place_else place other (OfLane k inlet ∷ feeds) (inl here) n e = n.0 (e ∙ here)
  place_else place other (OfLane k inlet ∷ feeds) (inr more) n e = place_else place other feeds more n.1 e

  -- Another row, all of whose lanes have other places.
  module _ (t t' : List Lane) (was is : InletRow I) (x : items.Item) (stays : KeepsLanes i (Some t) (Some t') was is (Item x)) where
    lane_same : (place : ℕ) → ForLanes (λ inlet. place ≢ i.place inlet) (feeds_of was) → slice_get t' place ≡ slice_get t place
    lane_same place n = go stays.one
      where
        table : (u u' : List Lane) → Some u' ≡ Some u → slice_get u' place ≡ slice_get u place
        table u u' e = ap (λ (l : List Lane). slice_get l place) (cc)

        go : GivesOne i (Some t) (Some t') was (Item x) → slice_get t' place ≡ slice_get t place
        go (inl e) = table t t' e
        go (inr g) =
            table (table_without_first g.0 t) t' g.2
            ∙ updated_else (λ lane. lane_of (drop 1 lane.items) lane.room) t g.0 place (place_else g.0 place (feeds_of was) g.1 n)

    pub other_between : (sents : ℕ → List items.Item) (row : InletRow I) (got : List items.Item)
        → ForLanes (λ one. ForLanes (λ inlet. i.place one ≢ i.place inlet) (feeds_of was)) (feeds_of row)
        → RowBetween i (Some t) sents row got → RowBetween i (Some t') sents row got
    other_between sents row got n h =
        gave_map (GaveOf i (Some t) sents) (GaveOf i (Some t') sents) (feeds_of row) got
        (for_map (λ one. ForLanes (λ inlet. i.place one ≢ i.place inlet) (feeds_of was)) (λ one. (list : List items.Item) → GaveOf i (Some t) sents one list → GaveOf i (Some t') sents one list) (feeds_of row)
        (λ one apart list g. (g.0, g.1, stays.others (i.place one) (sents (i.place one)) list apart g.2)) n) h

    pub other_holds : (row : InletRow I) → ForLanes (λ one. ForLanes (λ inlet. i.place one ≢ i.place inlet) (feeds_of was)) (feeds_of row) → row_holds i t' row ≡ row_holds i t row
    other_holds row n =
        held_same i t t' (feeds_of row)
        (for_map (λ one. ForLanes (λ inlet. i.place one ≢ i.place inlet) (feeds_of was)) (λ one. slice_get t' (i.place one) ≡ slice_get t (i.place one)) (feeds_of row) (λ one apart. lane_same (i.place one) apart) n)
