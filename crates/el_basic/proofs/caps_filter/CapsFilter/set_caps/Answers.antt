use Rattle.std.proofs.Common.{refl}
use Rattle.el_basic.proofs.Filtering.{filtered_set}
use Rattle.el_basic.proofs.caps_filter.CapsFilter.set_caps.Goals as goal

pub returns : goal.returns
returns c = filtered_set c.args.self.now _ c.args.caps refl refl refl
