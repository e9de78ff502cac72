use Rattle.std.proofs.Common.{◌+◌, length, refl, arith}
use Rattle.std.proofs.lemmas.Option.{slice_get_read}
use Rattle.graph_parts.specs.Counts.{TaskCounted}
use Rattle.graph_parts.proofs.Putting.{Upto, put_all, put_joined, put_none, upto_joins, upto_none}
use Rattle.graph_parts.proofs.counts.count_pads.Goals as goal

pub loop-place-init : goal.loop-place-init
loop-place-init g c = put_none (Upto TaskCounted c.args.tasks.now 0) c.args.counts.now.items (upto_none TaskCounted c.args.tasks.now)

pub loop-place-preserved : goal.loop-place-preserved
loop-place-preserved g c =
    put_joined (Upto TaskCounted c.args.tasks.now c.loop-place.place) (TaskCounted c.index-tasks-place.result) (Upto TaskCounted c.args.tasks.now (c.loop-place.place + 1))
    c.args.counts.now.items c.loop-place.counts.items c.count_task.new.counts.items
    (upto_joins TaskCounted c.args.tasks.now c.loop-place.place c.index-tasks-place.result (slice_get_read c.args.tasks.now (length c.args.tasks.now) c.loop-place.place c.index-tasks-place.result refl c.loop-place-test.true c.index-tasks-place.is))
    c.loop-place.invariant c.count_task.ensures

pub returns : goal.returns
returns g c = put_all TaskCounted c.args.tasks.now c.loop-place.place c.args.counts.now.items c.loop-place.counts.items (omega (arith, c.loop-place-test.false, c.loop-place.auto.place-end)) c.loop-place.invariant
