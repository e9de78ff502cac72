-- What becomes of a row where room is made, and where something is put behind all that stands in it.
use Rattle.std.specs.Prelude.{◌≡◌, ◌≢◌, ℕ, List, [], ◌∷◌, ◌++◌, Option, slice_get}
use Rattle.gst_item.specs.declared.item.Item.{Item}
use Rattle.lane_core.specs.declared.ends.Inlet as inlets
use Rattle.lane_core.specs.Lane.{Lane, IsIn}
use Rattle.inlet_row.specs.declared.row.InletRow.{InletRow}
use Rattle.inlet_row.specs.Row.{AreApart, ForLanes, GaveOf, RowBetween, RowGave, RowIn, feeds_of, items_of, row_holds}

module _ {I L O : Type 0} (i : inlets.Ghosts I L O) where
  -- the same stands in it
  pub record Stays (row row' : InletRow I) : Type 0 where
    pub gave : (got : List Item) → RowGave i row got → RowGave i row' got
    pub between : (tells : Option (List Lane)) (sents : ℕ → List Item) (got : List Item)
        → RowBetween i tells sents row got → RowBetween i tells sents row' got
    pub within : (tells : Option (List Lane)) → RowIn i tells row → RowIn i tells row'
    pub apart : AreApart i row → AreApart i row'
    pub holds : (t : List Lane) → row_holds i t row' ≡ row_holds i t row

  -- an item is behind: nothing was given of it, and the lanes are as they were
  pub record Gives (row row' : InletRow I) (item : Item) : Type 0 where
    pub gave : (got : List Item) → RowGave i row got → RowGave i row' got
    pub between : (tells : Option (List Lane)) (sents : ℕ → List Item) (got : List Item)
        → RowBetween i tells sents row got → RowBetween i tells sents row' got
    pub within : (tells : Option (List Lane)) → RowIn i tells row → RowIn i tells row'
    pub apart : AreApart i row → AreApart i row'
    pub holds : (t : List Lane) → row_holds i t row' ≡ row_holds i t row ++ item ∷ []

  -- a lane is behind that gave nothing
  pub record Links (row row' : InletRow I) (inlet : I) : Type 0 where
    pub gave : (got : List Item) → RowGave i row got → i.received inlet [] → RowGave i row' got
    pub between : (tells : Option (List Lane)) (sents : ℕ → List Item) (got : List Item)
        → RowBetween i tells sents row got → GaveOf i tells sents inlet [] → RowBetween i tells sents row' got
    pub within : (tells : Option (List Lane)) → RowIn i tells row → IsIn tells (i.place inlet) → RowIn i tells row'
    pub apart : AreApart i row → ForLanes (λ other. i.place inlet ≢ i.place other) (feeds_of row) → AreApart i row'
    pub holds : (t : List Lane) → row_holds i t row' ≡ row_holds i t row ++ items_of (slice_get t (i.place inlet))
