-- What rows hold, and between what their lanes stand, where one lane of the table is changed.
use Rattle.std.proofs.Common.{◌≡◌, ◌≢◌, ◌≤◌, ◌^◌, ℕ, List, [], ◌∷◌, ◌++◌, length, drop, Option, Some, refl, sym, ap, ◌∙◌, subst, append_assoc, append-nil}
use Rattle.std.specs.Prelude.{slice_get}
use Rattle.gst_item.specs.declared.item.Item.{Item}
use Rattle.lane_core.specs.declared.ends.Inlet as inlets
use Rattle.lane_core.specs.declared.ends.Put.TheVariants.{Stored}
use Rattle.lane_core.specs.Lane.{Lane, lane_of, IsIn, IsBetween, table_with_item}
use Rattle.lane_core.proofs.Between.{put_keeps_between, put_keeps_others}
use Rattle.lane_core.proofs.Change.{updated_else, updated_here}
use Rattle.flow_model.specs.Moment.{put_at}
use Rattle.flow_model.proofs.Inputs.{at_here, at_other}
use Rattle.inlet_row.specs.declared.feeding.Feeding.{Feeding}
use Rattle.inlet_row.specs.declared.feeding.Feeding.TheVariants.{Given, Lane as OfLane}
use Rattle.inlet_row.specs.declared.row.InletRow.{InletRow}
use Rattle.inlet_row.specs.Row.{Apart, AreApart, ForLanes, GaveFirst, GaveInAll, GaveOf, RowBetween, RowIn, feeds_of, held, items_of, row_holds}
use Rattle.inlet_row.proofs.Losing.{for_both, for_gone, for_map}
use Rattle.net_task.specs.Ready.{EndsWith}

module _ {I : Type 0} where
  pub for_join : (P : I → Type 0) (xs ys : List (Feeding I)) → ForLanes P xs → ForLanes P ys → ForLanes P (xs ++ ys)
  for_join P [] ys h k = k
  for_join P (Given x ∷ xs) ys h k = for_join P xs ys h k
  for_join P (OfLane n inlet ∷ xs) ys h k = (h.0, for_join P xs ys h.1 k)

  for_behind : (P : I → Type 0) (feeds : List (Feeding I)) → ForLanes P feeds → ForLanes P (drop 1 feeds)
  for_behind P [] h = tt
  for_behind P (Given x ∷ feeds) h = h
  for_behind P (OfLane n inlet ∷ feeds) h = h.1

  -- a lane that gave a list gave it in another way too
  pub gave_map : (Gave Gave' : I → List Item → Type 0) (feeds : List (Feeding I)) (got : List Item)
      → ForLanes (λ inlet. (list : List Item) → Gave inlet list → Gave' inlet list) feeds → GaveInAll Gave feeds got
      → GaveInAll Gave' feeds got
  gave_map Gave Gave' feeds got f h = record {
    past = h.past;
    lane = h.lane;
    whole = h.whole;
    front = first feeds f h.front;
    behind = for_both (λ inlet. (list : List Item) → Gave inlet list → Gave' inlet list) (λ inlet. Gave inlet []) (λ inlet. Gave' inlet []) (drop 1 feeds) (λ inlet g was. g [] was)
        (for_behind (λ inlet. (list : List Item) → Gave inlet list → Gave' inlet list) feeds f) h.behind;
  }
    where
      first : (feeds : List (Feeding I)) → ForLanes (λ inlet. (list : List Item) → Gave inlet list → Gave' inlet list) feeds → GaveFirst Gave feeds h.lane → GaveFirst Gave' feeds h.lane
      first [] f e = e
      first (Given x ∷ feeds) f e = e
      first (OfLane n inlet ∷ feeds) f e = f.0 h.lane e

module _ {I L O : Type 0} (i : inlets.Ghosts I L O) where
  held_join : (t : List Lane) (xs ys : List (Feeding I)) → held i t (xs ++ ys) ≡ held i t xs ++ held i t ys
  held_join t [] ys = refl
  held_join t (Given x ∷ xs) ys = ap (λ l. x ∷ l) (held_join t xs ys)
  held_join t (OfLane n inlet ∷ xs) ys =
      ap (λ l. items_of (slice_get t (i.place inlet)) ++ l) (held_join t xs ys) ∙ sym (append_assoc (items_of (slice_get t (i.place inlet))) (held i t xs) (held i t ys))

  pub held_same : (t t' : List Lane) (feeds : List (Feeding I)) → ForLanes (λ inlet. slice_get t' (i.place inlet) ≡ slice_get t (i.place inlet)) feeds → held i t' feeds ≡ held i t feeds
  held_same t t' [] h = refl
  held_same t t' (Given x ∷ feeds) h = ap (λ l. x ∷ l) (held_same t t' feeds h)
  held_same t t' (OfLane n inlet ∷ feeds) h =
      ap (λ (one : Option Lane). items_of one ++ held i t' feeds) h.0 ∙ ap (λ l. items_of (slice_get t (i.place inlet)) ++ l) (held_same t t' feeds h.1)

  -- the lane that stands last has another place than those in front
  apart_last : (front : List (Feeding I)) (n : ℕ) (inlet : I) → Apart i (front ++ OfLane n inlet ∷ []) → ForLanes (λ other. i.place other ≢ i.place inlet) front
  apart_last [] n inlet h = tt
  apart_last (Given x ∷ front) n inlet h = apart_last front n inlet h
  apart_last (OfLane k one ∷ front) n inlet h = (λ e. (for_gone (λ other. i.place other ≢ i.place one) front (OfLane n inlet ∷ []) h.0).0 (sym e), apart_last front n inlet h.1)

  -- An item more is in the lane at a place.
  module _ (t : List Lane) (x : Item) (place : ℕ) (sents : ℕ → List Item) where
    abbrev pub sents_now : ℕ → List Item
    sents_now = put_at place (sents place ++ x ∷ []) sents

    gave_other : (inlet : I) → i.place inlet ≢ place → (list : List Item) → GaveOf i (Some t) sents inlet list → GaveOf i (Some (table_with_item x place t)) sents_now inlet list
    gave_other inlet n list h =
        let same = sym (at_other place (sents place ++ x ∷ []) sents (i.place inlet) n) in (
          h.0,
          subst (λ (l : List Item). length l ≤ 2 ^ 62) same h.1,
          subst (λ (l : List Item). IsBetween (Some (table_with_item x place t)) (i.place inlet) l list) same
              (put_keeps_others place (i.place inlet) x Stored (Some t) (Some (table_with_item x place t)) (sents (i.place inlet)) list n refl h.2),
        )

    gave_this : (inlet : I) → i.place inlet ≡ place → length (sents place ++ x ∷ []) ≤ 2 ^ 62 → (list : List Item) → GaveOf i (Some t) sents inlet list
        → GaveOf i (Some (table_with_item x place t)) sents_now inlet list
    gave_this inlet is few list h =
        let same = sym (ap sents_now is ∙ at_here place (sents place ++ x ∷ []) sents) in (
          h.0,
          subst (λ (l : List Item). length l ≤ 2 ^ 62) same few,
          subst (λ (l : List Item). IsBetween (Some (table_with_item x place t)) (i.place inlet) l list) same
              (subst (λ (k : ℕ). IsBetween (Some (table_with_item x place t)) k (sents place ++ x ∷ []) list) (sym is)
              (put_keeps_between place x Stored (Some t) (Some (table_with_item x place t)) (sents place) list refl
              (subst (λ (k : ℕ). IsBetween (Some t) k (sents k) list) is h.2))),
        )

    -- a row with no lane of the place
    pub between_apart : (row : InletRow I) (got : List Item) → ForLanes (λ inlet. i.place inlet ≢ place) (feeds_of row) → RowBetween i (Some t) sents row got
        → RowBetween i (Some (table_with_item x place t)) sents_now row got
    between_apart row got n h =
        gave_map (GaveOf i (Some t) sents) (GaveOf i (Some (table_with_item x place t)) sents_now) (feeds_of row) got
        (for_map (λ inlet. i.place inlet ≢ place) (λ inlet. (list : List Item) → GaveOf i (Some t) sents inlet list → GaveOf i (Some (table_with_item x place t)) sents_now inlet list) (feeds_of row) gave_other n) h

    same_apart : (feeds : List (Feeding I)) → ForLanes (λ inlet. i.place inlet ≢ place) feeds → held i (table_with_item x place t) feeds ≡ held i t feeds
    same_apart feeds n =
        held_same t (table_with_item x place t) feeds
        (for_map (λ inlet. i.place inlet ≢ place) (λ inlet. slice_get (table_with_item x place t) (i.place inlet) ≡ slice_get t (i.place inlet)) feeds
        (λ inlet other. updated_else (λ lane. lane_of (lane.items ++ x ∷ []) lane.room) t place (i.place inlet) other) n)

    pub holds_apart : (row : InletRow I) → ForLanes (λ inlet. i.place inlet ≢ place) (feeds_of row) → row_holds i (table_with_item x place t) row ≡ row_holds i t row
    holds_apart row n = same_apart (feeds_of row) n

    abbrev Goes : I → Type 0
    Goes inlet = (list : List Item) → GaveOf i (Some t) sents inlet list → GaveOf i (Some (table_with_item x place t)) sents_now inlet list

    -- the row whose last lane it is
    pub between_last : (row : InletRow I) (got : List Item) → EndsWith i row place → AreApart i row → length (sents place ++ x ∷ []) ≤ 2 ^ 62 → RowBetween i (Some t) sents row got
        → RowBetween i (Some (table_with_item x place t)) sents_now row got
    between_last row got ends apart few h = gave_map (GaveOf i (Some t) sents) (GaveOf i (Some (table_with_item x place t)) sents_now) (feeds_of row) got all h
      where
        others : ForLanes (λ inlet. i.place inlet ≢ place) ends.front
        others = subst (λ (k : ℕ). ForLanes (λ inlet. i.place inlet ≢ k) ends.front) ends.place_is (apart_last ends.front ends.number ends.inlet (subst (λ (l : List (Feeding I)). Apart i l) ends.whole apart))

        all : ForLanes Goes (feeds_of row)
        all =
            subst (λ (l : List (Feeding I)). ForLanes Goes l) (sym ends.whole)
            (for_join Goes ends.front (OfLane ends.number ends.inlet ∷ []) (for_map (λ inlet. i.place inlet ≢ place) Goes ends.front gave_other others) (gave_this ends.inlet ends.place_is few, tt))

    pub holds_last : (row : InletRow I) → EndsWith i row place → AreApart i row → RowIn i (Some t) row → row_holds i (table_with_item x place t) row ≡ row_holds i t row ++ x ∷ []
    holds_last row ends apart within =
        ap (λ l. held i now l) ends.whole
        ∙ (held_join now ends.front (OfLane ends.number ends.inlet ∷ [])
        ∙ (ap (λ l. l ++ held i now (OfLane ends.number ends.inlet ∷ [])) (same_apart ends.front others)
        ∙ (ap (λ l. held i t ends.front ++ l) last
        ∙ (sym (append_assoc (held i t ends.front) (held i t (OfLane ends.number ends.inlet ∷ [])) (x ∷ []))
        ∙ (ap (λ l. l ++ x ∷ []) (sym (held_join t ends.front (OfLane ends.number ends.inlet ∷ []))) ∙ ap (λ l. held i t l ++ x ∷ []) (sym ends.whole))))))
      where
        now : List Lane
        now = table_with_item x place t

        others : ForLanes (λ inlet. i.place inlet ≢ place) ends.front
        others = subst (λ (k : ℕ). ForLanes (λ inlet. i.place inlet ≢ k) ends.front) ends.place_is (apart_last ends.front ends.number ends.inlet (subst (λ (l : List (Feeding I)). Apart i l) ends.whole apart))

        there : ForLanes (λ inlet. IsIn (Some t) (i.place inlet)) (OfLane ends.number ends.inlet ∷ [])
        there = for_gone (λ inlet. IsIn (Some t) (i.place inlet)) ends.front (OfLane ends.number ends.inlet ∷ []) (subst (λ (l : List (Feeding I)). ForLanes (λ inlet. IsIn (Some t) (i.place inlet)) l) ends.whole within)

        lane : (one : Lane) × (slice_get t (i.place ends.inlet) ≡ Some one)
        lane = there.0 t refl

        last : held i (table_with_item x place t) (OfLane ends.number ends.inlet ∷ []) ≡ held i t (OfLane ends.number ends.inlet ∷ []) ++ x ∷ []
        last =
            let at = ap (λ k. slice_get now k) ends.place_is ∙ updated_here (λ one. lane_of (one.items ++ x ∷ []) one.room) t place lane.0 (ap (λ k. slice_get t k) (sym ends.place_is) ∙ lane.1) in
            ap (λ (l : Option Lane). items_of l ++ []) at
            ∙ (append-nil (lane.0.items ++ x ∷ []) ∙ sym (ap (λ (l : Option Lane). (items_of l ++ []) ++ x ∷ []) lane.1 ∙ ap (λ l. l ++ x ∷ []) (append-nil lane.0.items)))

  -- a row whose lanes have other places than those of one at whose end a lane stands
  pub ends_apart : (row other : InletRow I) (place : ℕ) → EndsWith i row place → ForLanes (λ inlet. ForLanes (λ second. i.place second ≢ i.place inlet) (feeds_of row)) (feeds_of other)
      → ForLanes (λ inlet. i.place inlet ≢ place) (feeds_of other)
  ends_apart row other place ends h =
      for_map (λ inlet. ForLanes (λ second. i.place second ≢ i.place inlet) (feeds_of row)) (λ inlet. i.place inlet ≢ place) (feeds_of other)
      (λ inlet apart same.
      (for_gone (λ second. i.place second ≢ i.place inlet) ends.front (OfLane ends.number ends.inlet ∷ [])
      (subst (λ (l : List (Feeding I)). ForLanes (λ second. i.place second ≢ i.place inlet) l) ends.whole apart)).0 (ends.place_is ∙ sym same)) h

  -- a lane that stands in a row has the place of one that does
  pub not_last : (row : InletRow I) (place : ℕ) → EndsWith i row place → ForLanes (λ inlet. place ≢ i.place inlet) (feeds_of row) → ⊥
  not_last row place ends h =
      (for_gone (λ inlet. place ≢ i.place inlet) ends.front (OfLane ends.number ends.inlet ∷ [])
      (subst (λ (l : List (Feeding I)). ForLanes (λ inlet. place ≢ i.place inlet) l) ends.whole h)).0 (sym ends.place_is)
