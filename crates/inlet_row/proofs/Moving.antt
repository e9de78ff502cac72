-- How a take comes by the next thing of a row.
use Rattle.std.proofs.Common.{◌≡◌, ◌<◌, ◌≤◌, ◌⊎◌, inl, inr, ℕ, List, [], ◌∷◌, ◌++◌, length, drop, Option, ap, sym, ◌∙◌, subst, arith, append_assoc}
use Rattle.gst_item.specs.declared.item.Item as items
use Rattle.lane_core.specs.declared.ends.Inlet as inlets
use Rattle.lane_core.specs.declared.ends.Take as takes
use Rattle.lane_core.specs.declared.ends.Take.TheVariants as took
use Rattle.lane_core.specs.Lane.{Lane, IsIn}
use Rattle.inlet_row.specs.declared.feeding.Feeding.{Feeding}
use Rattle.inlet_row.specs.declared.feeding.Feeding.TheVariants.{Given, Lane as OfLane}
use Rattle.inlet_row.specs.Taken.{Taken, Item, Empty}
use Rattle.inlet_row.specs.declared.row.InletRow.{InletRow}
use Rattle.inlet_row.specs.Row.{ForLanes, RowIn, feeds_of}
use Rattle.inlet_row.specs.Take.{AreRefused, AsksLane, First, Moves, Took, answer_of}
use Rattle.inlet_row.proofs.Losing.{refused_append}

-- lanes that refused a take are gone from the front, and something is left behind them
pub record Lost {I L O : Type 0} (i : inlets.Ghosts I L O) (tells : Option (List Lane)) (before after : List (Feeding I)) : Type 0 where
  pub gone : List (Feeding I)
  pub refused : AreRefused i tells gone
  pub whole : before ≡ gone ++ after
  pub some : (gone ≡ []) ⊎ (0 < length after)

-- between two rounds of the loop
pub record Between {I L O : Type 0} (i : inlets.Ghosts I L O) (tells tells' : Option (List Lane)) (row row' : InletRow I) : Type 0 where
  pub lost : Lost i tells (feeds_of row) (feeds_of row')
  pub table : tells' ≡ tells
  pub within : RowIn i tells row'

module _ {I L O : Type 0} (i : inlets.Ghosts I L O) where
  -- a lane that gave no item refused the take
  refused : (tells tells' : Option (List Lane)) (n number : ℕ) (was is : I) (said : takes.Take) → Empty number ≡ answer_of n said → Took i tells tells' was is said → (number ≡ n) × Took i tells tells' was is took.Empty
  refused tells tells' n number was is (took.Item x) e h = absurd cc
  refused tells tells' n number was is took.Empty e h = (cc, h)

  gave_item : (tells tells' : Option (List Lane)) (n : ℕ) (x : items.Item) (was is : I) (said : takes.Take) → Item x ≡ answer_of n said → Took i tells tells' was is said → Took i tells tells' was is (took.Item x)
  gave_item tells tells' n x was is (took.Item y) e h =
      let same : y ≡ x = cc in
      subst (λ (z : items.Item). Took i tells tells' was is (took.Item z)) same h
  gave_item tells tells' n x was is took.Empty e h = absurd cc

  -- a lane more has refused a take
  lost_more : (tells tells' : Option (List Lane)) (row feeds feeds' : List (Feeding I)) (number : ℕ) → Lost i tells row feeds → 1 < length feeds → First i tells tells' feeds feeds' (Empty number) → Lost i tells row (drop 1 feeds') × (tells' ≡ tells)
  lost_more tells tells' row [] feeds' number h many f = absurd (omega arith)
  lost_more tells tells' row (Given x ∷ feeds) feeds' number h many f = absurd cc
  lost_more tells tells' row (OfLane n was ∷ feeds) feeds' number h many f =
      let none = refused tells tells' n number was f.0 f.2.said f.2.answers f.2.took in
      let table : tells' ≡ tells = none.1.table in
      let rest : drop 1 feeds' ≡ feeds = ap (drop 1) f.1 in (
        subst
            (λ l. Lost i tells row l)
            (sym rest)
            record {
              gone = h.gone ++ OfLane n was ∷ [];
              refused = refused_append i tells h.gone (OfLane n was ∷ []) h.refused ((f.0, subst (λ t. Took i tells t was f.0 took.Empty) table none.1), tt);
              whole = h.whole ∙ sym (append_assoc h.gone (OfLane n was ∷ []) feeds);
              some = inr (omega arith);
            },
        table,
      )

  within_more : (tells tells' : Option (List Lane)) (feeds feeds' : List (Feeding I)) (number : ℕ) → First i tells tells' feeds feeds' (Empty number) → 1 < length feeds → ForLanes (λ inlet. IsIn tells (i.place inlet)) feeds → ForLanes (λ inlet. IsIn tells (i.place inlet)) (drop 1 feeds')
  within_more tells tells' [] feeds' number f many h = absurd (omega arith)
  within_more tells tells' (Given x ∷ feeds) feeds' number f many h = absurd cc
  within_more tells tells' (OfLane n was ∷ feeds) feeds' number f many h = subst (λ l. ForLanes (λ inlet. IsIn tells (i.place inlet)) (drop 1 l)) (sym f.1) h.1

  pub goes_on : (tells tells1 tells2 : Option (List Lane)) (row row1 row2 : InletRow I) (feeds : List (Feeding I)) (number : ℕ) → Between i tells tells1 row row1 → 1 < length (feeds_of row1) → First i tells1 tells2 (feeds_of row1) feeds (Empty number) → feeds_of row2 ≡ drop 1 feeds
      → Between i tells tells2 row row2
  goes_on tells tells1 tells2 row row1 row2 feeds number h many f e =
      let first : First i tells tells2 (feeds_of row1) feeds (Empty number) = subst (λ t. First i t tells2 (feeds_of row1) feeds (Empty number)) h.table f in
      let more = lost_more tells tells2 (feeds_of row) (feeds_of row1) feeds number h.lost many first in
      record {
        lost = subst (λ l. Lost i tells (feeds_of row) l) (sym e) more.0;
        table = more.1;
        within = subst (λ l. ForLanes (λ inlet. IsIn tells (i.place inlet)) l) (sym e) (within_more tells tells2 (feeds_of row1) feeds number first many h.within);
      }

  -- an item was found
  ends_some : (tells tells' : Option (List Lane)) (row row' : InletRow I) (feeds : List (Feeding I)) (x : items.Item) → Lost i tells (feeds_of row) feeds → First i tells tells' feeds (feeds_of row') (Item x) → Moves i tells tells' row row' (Item x)
  ends_some tells tells' row row' [] x h f = absurd cc
  ends_some tells tells' row row' (Given y ∷ feeds) x h f =
      let same : y ≡ x = cc in
      inl (record { gone = h.gone; refused = h.refused; before = h.whole ∙ ap (λ (z : items.Item). h.gone ++ Given z ∷ feeds) same ∙ ap (λ l. h.gone ++ Given x ∷ l) (sym f.0) }, f.2)
  ends_some tells tells' row row' (OfLane n was ∷ feeds) x h f =
      inr (n, feeds, record { gone = h.gone; refused = h.refused; was = was; is = f.0; before = h.whole; after = f.1; took = gave_item tells tells' n x was f.0 f.2.said f.2.answers f.2.took })

  none_gone : (gone : List (Feeding I)) → (gone ≡ []) ⊎ (0 < 0) → gone ≡ []
  none_gone gone (inl e) = e
  none_gone gone (inr less) = absurd (omega arith)

  -- there is none
  ends_none : (tells tells' : Option (List Lane)) (row row' : InletRow I) (feeds : List (Feeding I)) (number : ℕ) → Lost i tells (feeds_of row) feeds → length feeds ≤ 1 → First i tells tells' feeds (feeds_of row') (Empty number) → Moves i tells tells' row row' (Empty number)
  ends_none tells tells' row row' [] number h few f = inr (h.whole ∙ ap (λ l. l ++ []) (none_gone h.gone h.some), f.0, f.2, cc)
  ends_none tells tells' row row' (Given y ∷ feeds) number h few f = absurd cc
  ends_none tells tells' row row' (OfLane n was ∷ []) number h few f =
      let none = refused tells tells' n number was f.0 f.2.said f.2.answers f.2.took in
      inl (subst (λ m. AsksLane i tells tells' row row' m [] took.Empty) (sym none.0) record { gone = h.gone; refused = h.refused; was = was; is = f.0; before = h.whole; after = f.1; took = none.1 })
  ends_none tells tells' row row' (OfLane n was ∷ feed ∷ feeds) number h few f = absurd (omega arith)

  pub found : (tells tells1 tells2 : Option (List Lane)) (row row1 row2 : InletRow I) (x : items.Item) → Between i tells tells1 row row1 → First i tells1 tells2 (feeds_of row1) (feeds_of row2) (Item x) → Moves i tells tells2 row row2 (Item x)
  found tells tells1 tells2 row row1 row2 x h f = ends_some tells tells2 row row2 (feeds_of row1) x h.lost (subst (λ t. First i t tells2 (feeds_of row1) (feeds_of row2) (Item x)) h.table f)

  pub found_last : (tells tells1 tells2 : Option (List Lane)) (row row1 row2 : InletRow I) (answer : Taken) → Between i tells tells1 row row1 → length (feeds_of row1) ≤ 1 → First i tells1 tells2 (feeds_of row1) (feeds_of row2) answer → Moves i tells tells2 row row2 answer
  found_last tells tells1 tells2 row row1 row2 (Item x) h few f = found tells tells1 tells2 row row1 row2 x h f
  found_last tells tells1 tells2 row row1 row2 (Empty number) h few f = ends_none tells tells2 row row2 (feeds_of row1) number h.lost few (subst (λ t. First i t tells2 (feeds_of row1) (feeds_of row2) (Empty number)) h.table f)
