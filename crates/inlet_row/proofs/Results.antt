-- What a take means for the lists that a row gave, and for what it holds.
use Rattle.std.proofs.Common.{◌≡◌, ◌≢◌, ◌≤◌, ◌^◌, inl, inr, ℕ, List, [], ◌∷◌, ◌++◌, length, drop, Option, Some, refl, ap, sym, ◌∙◌, subst, append_assoc, append-nil}
use Rattle.std.specs.List.{slice_get}
use Rattle.gst_item.specs.declared.item.Item as items
use Rattle.lane_core.specs.declared.ends.Inlet as inlets
use Rattle.lane_core.specs.declared.ends.Take as takes
use Rattle.lane_core.specs.declared.ends.Take.TheVariants as took
use Rattle.lane_core.specs.Lane.{Lane, lane_of, IsIn, IsOf, IsBetween, table_without_first}
use Rattle.lane_core.specs.Moves.{list_after_take, table_after_take}
use Rattle.lane_core.proofs.Between.{take_keeps_between, take_keeps_others, take_keeps_lanes, take_keeps_room}
use Rattle.lane_core.proofs.Change.{updated_else, updated_here}
use Rattle.inlet_row.specs.declared.feeding.Feeding.{Feeding}
use Rattle.inlet_row.specs.declared.feeding.Feeding.TheVariants.{Given, Lane as OfLane}
use Rattle.inlet_row.specs.Taken.{Taken, Item, Empty}
use Rattle.inlet_row.specs.declared.row.InletRow.{InletRow}
use Rattle.inlet_row.specs.Row.{Apart, AreApart, ForLanes, GaveInAll, GaveOf, RowBetween, RowGave, RowIn, feeds_of, held, items_of, row_holds}
use Rattle.inlet_row.specs.Take.{AsksLane, GivesOne, HasPlace, HoldsAfter, KeepsLanes, Moves, Took, list_after}
use Rattle.inlet_row.proofs.Losing.{apart_gone, for_both, for_gone, for_map, has_place, held_gone, lose_all, lose_first, refused_holds}

whole_after : (past lane got : List items.Item) (said : takes.Take) → got ≡ past ++ lane → list_after_take got said ≡ past ++ list_after_take lane said
whole_after past lane got (took.Item x) e = ap (λ l. l ++ x ∷ []) e ∙ append_assoc past lane (x ∷ [])
whole_after past lane got took.Empty e = e

module _ {I : Type 0} where
  -- the lane at the front answered, and those behind it did nothing
  gave_on : (Gave Gave' : I → List items.Item → Type 0) (number : ℕ) (was is : I) (rest : List (Feeding I)) (got : List items.Item) (said : takes.Take) → ((lane : List items.Item) → Gave was lane → Gave' is (list_after_take lane said))
      → (ForLanes (λ e. Gave e []) rest → ForLanes (λ e. Gave' e []) rest) → GaveInAll Gave (OfLane number was ∷ rest) got → GaveInAll Gave' (OfLane number is ∷ rest) (list_after_take got said)
  gave_on Gave Gave' number was is rest got said here there h = record {
    past = h.past;
    lane = list_after_take h.lane said;
    whole = whole_after h.past h.lane got said h.whole;
    front = here h.lane h.front;
    behind = there h.behind;
  }

module _ {I L O : Type 0} (i : inlets.Ghosts I L O) where
  gave_item : (tells tells' : Option (List Lane)) (row row' : InletRow I) (number : ℕ) (rest : List (Feeding I)) (said : takes.Take) (got : List items.Item) → AsksLane i tells tells' row row' number rest said → RowGave i row got
      → RowGave i row' (list_after_take got said)
  gave_item tells tells' row row' number rest said got m h =
      let left = lose_all i.received m.gone (OfLane number m.was ∷ rest) got (subst (λ l. GaveInAll i.received l got) m.before h) in
      subst
      (λ l. GaveInAll i.received l (list_after_take got said))
      (sym m.after)
      (gave_on i.received i.received number m.was m.is rest got said (λ lane r. m.took.received lane r) (λ r. r) left)

  pub gave_after : (tells tells' : Option (List Lane)) (row row' : InletRow I) (answer : Taken) (got : List items.Item) → Moves i tells tells' row row' answer → RowGave i row got → RowGave i row' (list_after got answer)
  gave_after tells tells' row row' (Item x) got (inl m) h =
      lose_first i.received (Given x) (feeds_of row') got (got ++ x ∷ []) (lose_all i.received m.0.gone (Given x ∷ feeds_of row') got (subst (λ l. GaveInAll i.received l got) m.0.before h))
  gave_after tells tells' row row' (Item x) got (inr m) h = gave_item tells tells' row row' m.0 m.1 (took.Item x) got m.2 h
  gave_after tells tells' row row' (Empty number) got (inl m) h = gave_item tells tells' row row' number [] took.Empty got m h
  gave_after tells tells' row row' (Empty number) got (inr m) h = subst (λ l. GaveInAll i.received l got) (sym m.1) record { past = got; lane = []; whole = sym (append-nil got); front = refl; behind = tt }

  -- the lane that was asked stands between what was sent and what it gave then
  between_here : (tells tells' : Option (List Lane)) (sents : ℕ → List items.Item) (was is : I) (said : takes.Take) (lane : List items.Item) → Took i tells tells' was is said → GaveOf i tells sents was lane → GaveOf i tells' sents is (list_after_take lane said)
  between_here tells tells' sents was is said lane m g = (
    m.received lane g.0,
    subst (λ p. length (sents p) ≤ 2 ^ 62) (sym m.same.1) g.1,
    subst (λ p. IsBetween tells' p (sents p) (list_after_take lane said)) (sym m.same.1) (take_keeps_between (i.place was) said tells tells' (sents (i.place was)) lane m.table m.first g.2),
  )

  between_there : (tells tells' : Option (List Lane)) (sents : ℕ → List items.Item) (was is : I) (said : takes.Take) (e : I) → Took i tells tells' was is said → i.place e ≢ i.place was → GaveOf i tells sents e [] → GaveOf i tells' sents e []
  between_there tells tells' sents was is said e m apart g = (
    g.0,
    g.1,
    take_keeps_others (i.place was) (i.place e) said tells tells' (sents (i.place e)) [] apart m.table g.2,
  )

  between_item : (tells tells' : Option (List Lane)) (sents : ℕ → List items.Item) (row row' : InletRow I) (number : ℕ) (rest : List (Feeding I)) (said : takes.Take) (got : List items.Item) → AsksLane i tells tells' row row' number rest said → AreApart i row
      → RowBetween i tells sents row got → RowBetween i tells' sents row' (list_after_take got said)
  between_item tells tells' sents row row' number rest said got m apart h =
      let left = lose_all (GaveOf i tells sents) m.gone (OfLane number m.was ∷ rest) got (subst (λ l. GaveInAll (GaveOf i tells sents) l got) m.before h) in
      let others = apart_gone i m.gone (OfLane number m.was ∷ rest) (subst (λ l. Apart i l) m.before apart) in
      subst
      (λ l. GaveInAll (GaveOf i tells' sents) l (list_after_take got said))
      (sym m.after)
      (gave_on
      (GaveOf i tells sents)
      (GaveOf i tells' sents)
      number
      m.was
      m.is
      rest
      got
      said
      (λ lane g. between_here tells tells' sents m.was m.is said lane m.took g)
      (λ r. for_both (λ other. i.place other ≢ i.place m.was) (λ e. GaveOf i tells sents e []) (λ e. GaveOf i tells' sents e []) rest (λ e a g. between_there tells tells' sents m.was m.is said e m.took a g) others.0 r)
      left)

  pub between_after : (tells tells' : Option (List Lane)) (sents : ℕ → List items.Item) (row row' : InletRow I) (answer : Taken) (got : List items.Item) → Moves i tells tells' row row' answer → AreApart i row → RowBetween i tells sents row got
      → RowBetween i tells' sents row' (list_after got answer)
  between_after tells tells' sents row row' (Item x) got (inl m) apart h =
      let left = lose_all (GaveOf i tells sents) m.0.gone (Given x ∷ feeds_of row') got (subst (λ l. GaveInAll (GaveOf i tells sents) l got) m.0.before h) in
      subst (λ t. GaveInAll (GaveOf i t sents) (feeds_of row') (got ++ x ∷ [])) (sym m.1) (lose_first (GaveOf i tells sents) (Given x) (feeds_of row') got (got ++ x ∷ []) left)
  between_after tells tells' sents row row' (Item x) got (inr m) apart h = between_item tells tells' sents row row' m.0 m.1 (took.Item x) got m.2 apart h
  between_after tells tells' sents row row' (Empty number) got (inl m) apart h = between_item tells tells' sents row row' number [] took.Empty got m apart h
  between_after tells tells' sents row row' (Empty number) got (inr m) apart h =
      subst (λ l. GaveInAll (GaveOf i tells' sents) l got) (sym m.1) record { past = got; lane = []; whole = sym (append-nil got); front = refl; behind = tt }

  in_lane : (tells tells' : Option (List Lane)) (row row' : InletRow I) (number : ℕ) (rest : List (Feeding I)) (said : takes.Take) → AsksLane i tells tells' row row' number rest said → RowIn i tells row → RowIn i tells' row'
  in_lane tells tells' row row' number rest said m h =
      let left = for_gone (λ e. IsIn tells (i.place e)) m.gone (OfLane number m.was ∷ rest) (subst (λ l. ForLanes (λ e. IsIn tells (i.place e)) l) m.before h) in
      subst
      (λ l. ForLanes (λ e. IsIn tells' (i.place e)) l)
      (sym m.after) (
        subst (λ p. IsIn tells' p) (sym m.took.same.1) (take_keeps_lanes (i.place m.was) (i.place m.was) said tells tells' m.took.table left.0),
        for_map (λ e. IsIn tells (i.place e)) (λ e. IsIn tells' (i.place e)) rest (λ e b. take_keeps_lanes (i.place m.was) (i.place e) said tells tells' m.took.table b) left.1,
      )

  apart_lane : (tells tells' : Option (List Lane)) (row row' : InletRow I) (number : ℕ) (rest : List (Feeding I)) (said : takes.Take) → AsksLane i tells tells' row row' number rest said → AreApart i row → AreApart i row'
  apart_lane tells tells' row row' number rest said m h =
      let left = apart_gone i m.gone (OfLane number m.was ∷ rest) (subst (λ l. Apart i l) m.before h) in
      subst (λ l. Apart i l) (sym m.after) (subst (λ p. ForLanes (λ other. i.place other ≢ p) rest) (sym m.took.same.1) left.0, left.1)

  -- a place that no lane of the row has is not the one from which an item came
  elsewhere : (n place : ℕ) (feeds : List (Feeding I)) → ForLanes (λ e. n ≢ i.place e) feeds → HasPlace i place feeds → n ≢ place
  elsewhere n place [] h p = absurd p
  elsewhere n place (Given x ∷ feeds) h p = elsewhere n place feeds h p
  elsewhere n place (OfLane m e ∷ feeds) h (inl same) = λ q. h.0 (q ∙ same)
  elsewhere n place (OfLane m e ∷ feeds) h (inr p) = elsewhere n place feeds h.1 p

  -- what is left of the table where one lane of the row answered
  keeps : (tells tells' : Option (List Lane)) (row row' : InletRow I) (answer : Taken) (place : ℕ) (said : takes.Take) → GivesOne i tells tells' row answer → HasPlace i place (feeds_of row) → tells' ≡ table_after_take place said tells → RowIn i tells' row' → (AreApart i row → AreApart i row')
      → KeepsLanes i tells tells' row row' answer
  keeps tells tells' row row' answer place said one here table within apart = record {
    one = one;
    lanes = λ n h. take_keeps_lanes place n said tells tells' table h;
    rooms = λ n limits count h. take_keeps_room place n said limits count tells tells' table h;
    others = λ n sent got away h. take_keeps_others place n said tells tells' sent got (elsewhere n place (feeds_of row) away here) table h;
    within = within;
    apart = apart;
  }

  keeps_all : (tells tells' : Option (List Lane)) (row row' : InletRow I) (answer : Taken) → GivesOne i tells tells' row answer → tells' ≡ tells → RowIn i tells' row' → (AreApart i row → AreApart i row') → KeepsLanes i tells tells' row row' answer
  keeps_all tells tells' row row' answer one table within apart = record {
    one = one;
    lanes = λ n h. subst (λ t. IsIn t n) (sym table) h;
    rooms = λ n limits count h. subst (λ t. IsOf t n limits count) (sym table) h;
    others = λ n sent got away h. subst (λ t. IsBetween t n sent got) (sym table) h;
    within = within;
    apart = apart;
  }

  asked_place : (tells tells' : Option (List Lane)) (row row' : InletRow I) (number : ℕ) (rest : List (Feeding I)) (said : takes.Take) (m : AsksLane i tells tells' row row' number rest said) → HasPlace i (i.place m.was) (feeds_of row)
  asked_place tells tells' row row' number rest said m = subst (λ l. HasPlace i (i.place m.was) l) (sym m.before) (has_place i m.gone rest number m.was)

  pub keeps_lanes : (tells tells' : Option (List Lane)) (row row' : InletRow I) (answer : Taken) → Moves i tells tells' row row' answer → RowIn i tells row → KeepsLanes i tells tells' row row' answer
  keeps_lanes tells tells' row row' (Item x) (inl m) h =
      keeps_all
      tells
      tells'
      row
      row'
      (Item x)
      (inl m.1)
      m.1
      (subst (λ t. ForLanes (λ e. IsIn t (i.place e)) (feeds_of row')) (sym m.1) (for_gone (λ e. IsIn tells (i.place e)) m.0.gone (Given x ∷ feeds_of row') (subst (λ l. ForLanes (λ e. IsIn tells (i.place e)) l) m.0.before h)))
      (λ a. apart_gone i m.0.gone (Given x ∷ feeds_of row') (subst (λ l. Apart i l) m.0.before a))
  keeps_lanes tells tells' row row' (Item x) (inr m) h =
      let here = asked_place tells tells' row row' m.0 m.1 (took.Item x) m.2 in
      keeps
      tells
      tells'
      row
      row'
      (Item x)
      (i.place m.2.was)
      (took.Item x)
      (inr (i.place m.2.was, here, m.2.took.table, m.2.took.first))
      here
      m.2.took.table
      (in_lane tells tells' row row' m.0 m.1 (took.Item x) m.2 h)
      (λ a. apart_lane tells tells' row row' m.0 m.1 (took.Item x) m.2 a)
  keeps_lanes tells tells' row row' (Empty number) (inl m) h =
      keeps_all tells tells' row row' (Empty number) m.took.table m.took.table (in_lane tells tells' row row' number [] took.Empty m h) (λ a. apart_lane tells tells' row row' number [] took.Empty m a)
  keeps_lanes tells tells' row row' (Empty number) (inr m) h =
      keeps_all tells tells' row row' (Empty number) m.2 m.2 (subst (λ l. ForLanes (λ e. IsIn tells' (i.place e)) l) (sym m.1) tt) (λ a. subst (λ l. Apart i l) (sym m.1) tt)

  -- a take from another lane leaves what the row holds
  held_else : (t : List Lane) (place : ℕ) (feeds : List (Feeding I)) → ForLanes (λ e. i.place e ≢ place) feeds → held i (table_without_first place t) feeds ≡ held i t feeds
  held_else t place [] h = refl
  held_else t place (Given x ∷ feeds) h = ap (λ l. x ∷ l) (held_else t place feeds h)
  held_else t place (OfLane n e ∷ feeds) h =
      ap (λ s. items_of s ++ held i (table_without_first place t) feeds) (updated_else (λ lane. lane_of (drop 1 lane.items) lane.room) t place (i.place e) h.0) ∙ ap (λ l. items_of (slice_get t (i.place e)) ++ l) (held_else t place feeds h.1)

  held_here : (t : List Lane) (place place' : ℕ) (x : items.Item) (lane : Lane) (rest : List items.Item) → place' ≡ place → slice_get t place ≡ Some lane → lane.items ≡ x ∷ rest → items_of (slice_get t place) ≡ x ∷ items_of (slice_get (table_without_first place t) place')
  held_here t place place' x lane rest same at e =
      let after : items_of (slice_get (table_without_first place t) place') ≡ rest =
      ap (λ p. items_of (slice_get (table_without_first place t) p)) same ∙ (ap items_of (updated_here (λ s. lane_of (drop 1 s.items) s.room) t place lane at) ∙ ap (drop 1) e) in
      ap items_of at ∙ (e ∙ ap (λ l. x ∷ l) (sym after))

  pub holds_after : (t : List Lane) (sents : ℕ → List items.Item) (tells' : Option (List Lane)) (row row' : InletRow I) (answer : Taken) (got : List items.Item) → Moves i (Some t) tells' row row' answer → AreApart i row → RowBetween i (Some t) sents row got → HoldsAfter i t tells' row row' answer
  holds_after t sents tells' row row' (Item x) got (inl m) apart h =
      let all = subst (λ l. GaveInAll (GaveOf i (Some t) sents) l got) m.0.before h in
      (t, m.1, ap (λ l. held i t l) m.0.before ∙ held_gone i t sents m.0.gone (Given x ∷ feeds_of row') got m.0.refused all)
  holds_after t sents tells' row row' (Item x) got (inr m) apart h =
      let all = subst (λ l. GaveInAll (GaveOf i (Some t) sents) l got) m.2.before h in
      let others = apart_gone i m.2.gone (OfLane m.0 m.2.was ∷ m.1) (subst (λ l. Apart i l) m.2.before apart) in
      let place = i.place m.2.was in
      let at = m.2.took.first t refl in
      let before : row_holds i t row ≡ items_of (slice_get t place) ++ held i t m.1 = ap (λ l. held i t l) m.2.before ∙ held_gone i t sents m.2.gone (OfLane m.0 m.2.was ∷ m.1) got m.2.refused all in
      let here = held_here t place (i.place m.2.is) x at.0 at.1 m.2.took.same.1 at.2 at.3 in
      let after : row_holds i (table_without_first place t) row' ≡ items_of (slice_get (table_without_first place t) (i.place m.2.is)) ++ held i t m.1 =
      ap (λ l. held i (table_without_first place t) l) m.2.after ∙ ap (λ l. items_of (slice_get (table_without_first place t) (i.place m.2.is)) ++ l) (held_else t place m.1 others.0) in
      (table_without_first place t, m.2.took.table, before ∙ (ap (λ l. l ++ held i t m.1) here ∙ ap (λ l. x ∷ l) (sym after)))
  holds_after t sents tells' row row' (Empty number) got (inl m) apart h =
      let all = subst (λ l. GaveInAll (GaveOf i (Some t) sents) l got) m.before h in
      let left = lose_all (GaveOf i (Some t) sents) m.gone (OfLane number m.was ∷ []) got all in
      let none = refused_holds i t tells' sents m.was m.is left.lane m.took left.front in (
        m.took.table,
        ap (λ l. held i t l) m.before ∙ (held_gone i t sents m.gone (OfLane number m.was ∷ []) got m.refused all ∙ ap (λ l. l ++ []) none),
        ap (λ l. held i t l) m.after ∙ (ap (λ p. items_of (slice_get t p) ++ []) m.took.same.1 ∙ ap (λ l. l ++ []) none),
      )
  holds_after t sents tells' row row' (Empty number) got (inr m) apart h = (m.2, ap (λ l. held i t l) m.0, ap (λ l. held i t l) m.1)
