-- A filter that stands for some rule, and an element with several sink pads that stands for some lists.
use Rattle.std.specs.Prelude.{List}
use Rattle.flow_model.specs.Item.{Item}
use Rattle.flow_model.specs.Call.{Call}
use Rattle.flow_model.specs.Rule.{Response}
use Rattle.el_set.specs.declared.filter.FilterElement.{FilterElement}
use Rattle.el_set.specs.declared.join.JoinElement.{JoinElement}
use Rattle.el_set.specs.Joins.{JoinStands}
use Rattle.el_set.specs.Stands.{Stands}

pub record IsRuled (filter : FilterElement) : Type 0 where
  pub respond : Response
  pub calls : List Call
  pub put : List Item
  pub stands : Stands respond filter calls put

pub record IsJoined (join : JoinElement) : Type 0 where
  pub took : List (List Call)
  pub put : List Item
  pub stands : JoinStands join took put
