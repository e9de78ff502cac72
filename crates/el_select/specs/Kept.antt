-- The sticky events that a sink pad keeps.
use Rattle.std.specs.Prelude.{◌≡◌, List}
use Rattle.flow_model.specs.Item.{Item}
use Rattle.flow_model.specs.Sticky.{InForce, in_force}

-- Some list left them in force.
pub record IsLeft (s : InForce) : Type 0 where
  pub list : List Item
  pub left : s ≡ in_force list
