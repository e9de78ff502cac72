use Rattle.std.proofs.Common.{◌++◌, List, ap, ◌∙◌, inr}
use Rattle.graph_parts.specs.Links.{inside}
use Rattle.graph_parts.specs.declared.bag.BagPad.{BagPad}
use Rattle.graph_parts.proofs.walk.go_on.Goals as goal

pub returns : goal.returns
returns c =
    inr
    (record {
      rest = c.pop.new.self.items;
      cell = record { element = c.in-Some.element; pads = c.in_ok-pads.pads };
      was = c.in-Some.ensures.items;
      pads = c.in_ok-pads.ensures;
      is_next = c.in_ok-put_inside.ensures ∙ ap (λ (pads : List BagPad). c.pop.new.self.items ++ inside pads) c.as_slice.ensures.value;
      is_found = c.in_ok-push.ensures.items;
    })
