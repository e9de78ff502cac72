-- What becomes of the channels with one item more.
use Rattle.std.specs.Prelude.{◌≡◌, ℕ, List, Some, slice_get, slice_set}
use Rattle.gst_item.specs.declared.out.Out.{Out}
use Rattle.flow_model.specs.Item.{Item}
use Rattle.el_mix.specs.declared.channel.Channel.{Channel}
use Rattle.el_mix.specs.declared.position.Position.{Position}
use Rattle.el_mix.specs.Taking.{Took}
use Rattle.el_mix.specs.Standing.{Moves}

-- The channel of a place took an item, and what is owed then went out.
pub record Takes (old : Position) (cs : List Channel) (place : ℕ) (x : Item) (new : Position) (cs' : List Channel) (out out' : List Out) : Type 0 where
  pub before : Channel
  pub after : Channel
  pub here : slice_get cs place ≡ Some before
  pub took : Took before x after
  pub moves : Moves old (slice_set cs place after) new cs' out out'
