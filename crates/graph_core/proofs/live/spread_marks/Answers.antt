use Rattle.std.proofs.Common.{refl}
use Rattle.graph_core.specs.Live.{Spreads}
use Rattle.graph_core.proofs.Marking.{have_spread}
use Rattle.graph_core.proofs.live.spread_marks.Goals as goal

pub loop-init : goal.loop-init
loop-init c = record { size = refl; spreads = λ e on. Spreads.marked e on; stay = λ e on. on }

pub returns : goal.returns
returns c =
    have_spread c.args.links.now c.args.marks.now.items c.spread.new.marks.items (c.spread.ensures.spreads c.args.marks.now.items c.loop.invariant) (c.spread.ensures.closed c.loop-test.false)
