use Rattle.std.proofs.Common.{refl}
use Rattle.el_basic.proofs.Filtering.{filtered_flush}
use Rattle.el_basic.proofs.caps_filter.CapsFilter.flush.Goals as goal

pub returns : goal.returns
returns c = filtered_flush c.args.self.now _ refl refl refl
