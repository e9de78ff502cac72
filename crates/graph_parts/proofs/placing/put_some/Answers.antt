use Rattle.std.proofs.Common.{Option, set, sym, subst}
use Rattle.graph_parts.specs.Put.{PutBack}
use Rattle.graph_parts.specs.Single.{IsValue}
use Rattle.graph_parts.proofs.Putting.{put_value}
use Rattle.graph_parts.proofs.placing.put_some.Goals as goal

pub returns-then-place-len : goal.returns-then-place-len
returns-then-place-len g c =
    subst (λ (value : Option g.row.T.Denot). PutBack (IsValue c.args.place value) c.args.list.now.items (set c.args.list.now.items c.args.place c.in-Some.value)) (sym c.in-Some.is)
    (put_value c.args.list.now.items c.args.place c.in-Some.value)
