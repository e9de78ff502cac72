-- What contracts see of fixed caps, and of all that has a media type and fields.
use Rattle.std.specs.Prelude.{ℕ, ◌<◌, ◌^◌, List, length}
use Rattle.gst_value.specs.Names.{Each, Rises}
use Rattle.gst_value.specs.Values.{IsSingle}
use Rattle.gst_value.specs.declared.one.One.{One}

-- a media type, and fields in the order of their names
pub record Description (V : Type 0) : Type 0 where
  pub media : List ℕ
  pub fields : List (List ℕ × V)

-- what holds of fixed caps
pub record IsFixed (x : Description One) : Type 0 where
  pub ordered : Rises x.fields
  pub values : Each (λ f. IsSingle f.1) x.fields
  pub few : length x.fields < 2 ^ 32
