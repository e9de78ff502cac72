-- For which items an element that is fed one item after the other stands.
use Rattle.std.specs.Prelude.{◌≡◌, List, None}
use Rattle.gst_item.specs.declared.out.Out.{Out}
use Rattle.flow_model.specs.Item.{Item}
use Rattle.flow_model.specs.Call.{feeds}
use Rattle.flow_model.specs.Rule.{Response}
use Rattle.flow_model.specs.Feeding.{on_pad}
use Rattle.el_set.specs.declared.filter.FilterElement.{FilterElement}
use Rattle.el_denote.specs.Denoted.{first_fault}
use Rattle.el_set.specs.Stands.{Stands}

-- It has the rule, was fed the items, of which none was a fault, and this is what it put out.
pub record TookAll (respond : Response) (element : FilterElement) (items : List Item) (out : List Out) : Type 0 where
  pub put : List Item
  pub stands : Stands respond element (feeds items) put
  pub outs : out ≡ on_pad 0 put
  pub whole : first_fault respond items ≡ None
