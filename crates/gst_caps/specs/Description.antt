-- What holds of each structure.
use Rattle.std.specs.Prelude.{◌≤◌, length}
use Rattle.gst_value.specs.Names.{Each, Rises}
use Rattle.gst_caps.specs.Values.{IsValue}
use Rattle.gst_caps.specs.declared.value.Value.{Value}
use Rattle.gst_value.specs.Description.{Description}

-- what holds of each structure
pub record IsStructure (s : Description Value) : Type 0 where
  pub ordered : Rises s.fields
  pub values : Each (λ f. IsValue f.1) s.fields
  pub few : length s.fields ≤ 64
