-- What is put out goes behind what was put out before.
use Rattle.std.specs.Prelude.{◌≡◌, List, ◌++◌}
use Rattle.gst_item.specs.declared.out.Out.{Out}
use Rattle.flow_model.specs.Item.{Item}
use Rattle.flow_model.specs.Feeding.{on_pad}

-- some items, or none, were put out on the only source pad
abbrev pub Appends : List Out → List Out → Type 0
Appends before after = (more : List Item) × (after ≡ before ++ on_pad 0 more)
