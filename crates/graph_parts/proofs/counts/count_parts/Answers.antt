use Rattle.std.proofs.Common.{◌+◌, length, refl, arith}
use Rattle.std.proofs.lemmas.Option.{slice_get_read}
use Rattle.graph_parts.specs.Counts.{PartCounted}
use Rattle.graph_parts.proofs.Putting.{Upto, put_all, put_joined, put_none, upto_joins, upto_none}
use Rattle.graph_parts.proofs.counts.count_parts.Goals as goal

pub loop-place-init : goal.loop-place-init
loop-place-init g c = put_none (Upto PartCounted c.args.parts.now 0) c.args.counts.now.items (upto_none PartCounted c.args.parts.now)

pub loop-place-preserved : goal.loop-place-preserved
loop-place-preserved g c =
    put_joined (Upto PartCounted c.args.parts.now c.loop-place.place) (PartCounted c.index-parts-place.result) (Upto PartCounted c.args.parts.now (c.loop-place.place + 1))
    c.args.counts.now.items c.loop-place.counts.items c.count_part.new.counts.items
    (upto_joins PartCounted c.args.parts.now c.loop-place.place c.index-parts-place.result (slice_get_read c.args.parts.now (length c.args.parts.now) c.loop-place.place c.index-parts-place.result refl c.loop-place-test.true c.index-parts-place.is))
    c.loop-place.invariant c.count_part.ensures

pub returns : goal.returns
returns g c = put_all PartCounted c.args.parts.now c.loop-place.place c.args.counts.now.items c.loop-place.counts.items (omega (arith, c.loop-place-test.false, c.loop-place.auto.place-end)) c.loop-place.invariant
