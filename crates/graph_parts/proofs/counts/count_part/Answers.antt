use Rattle.std.proofs.Common.{◌+◌, length, refl, sym, ap, ◌∙◌, arith}
use Rattle.std.specs.Prelude.{slice_get}
use Rattle.std.proofs.lemmas.Option.{slice_get_read}
use Rattle.graph_parts.specs.Counts.{PadCounted}
use Rattle.graph_parts.proofs.Putting.{Upto, put_all, put_joined, put_none, upto_joins, upto_none}
use Rattle.graph_parts.proofs.counts.count_part.Goals as goal

pub loop-place-init : goal.loop-place-init
loop-place-init g c = put_none (Upto PadCounted c.args.part.now.pads.items 0) c.args.counts.now.items (upto_none PadCounted c.args.part.now.pads.items)

pub loop-place-preserved : goal.loop-place-preserved
loop-place-preserved g c =
    put_joined (Upto PadCounted c.args.part.now.pads.items c.loop-place.place) (PadCounted c.index-pads-place.result) (Upto PadCounted c.args.part.now.pads.items (c.loop-place.place + 1))
    c.args.counts.now.items c.loop-place.counts.items c.count_pad.new.counts.items
    (upto_joins PadCounted c.args.part.now.pads.items c.loop-place.place c.index-pads-place.result
    (ap (λ xs. slice_get xs c.loop-place.place) (sym c.pads-pads.ensures)
    ∙ slice_get_read c.pads-pads.result.now (length c.pads-pads.result.now) c.loop-place.place c.index-pads-place.result refl c.loop-place-test.true c.index-pads-place.is))
    c.loop-place.invariant c.count_pad.ensures

pub returns : goal.returns
returns g c = put_all PadCounted c.args.part.now.pads.items c.loop-place.place c.args.counts.now.items c.loop-place.counts.items (omega (arith, ap length c.pads-pads.ensures, c.loop-place-test.false, c.loop-place.auto.place-end)) c.loop-place.invariant
