use Rattle.std.proofs.Common.{[], ap, refl}
use Rattle.el_parse.specs.Splits.{Cutting}
use Rattle.el_parse.proofs.Grouping.{split_flush}
use Rattle.el_parse.proofs.split.Split.flush.Goals as goal

pub returns : goal.returns
returns c =
    split_flush c.args.self.now _ refl c.begin.ensures.frames
    (rw c.empty.ensures (ap (λ (q : Cutting). record q { held = []; got = 0; reached = 0 }) c.begin.ensures.come))
