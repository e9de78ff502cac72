use Rattle.std.proofs.Common.{ap}
use Rattle.edit_acts.proofs.Deeds.{eos_failed, eos_told, plain_told}
use Rattle.edit_acts.proofs.doing.undo_link.Goals as goal

pub returns-then-eos-clause-done : goal.returns-then-eos-clause-done
returns-then-eos-clause-done g c =
    eos_told c.args.graph.now c.args.feeds.now c.args.tasks.now.items c.args.source c.args.sink c.args.items
    c.unlink_eos.new.graph c.unlink_eos.new.feeds c.unlink_eos.new.tasks.items c.args.eos c.unlink_eos.result c.if-eos.true c.unlink_eos.ensures.run

pub returns-then-eos-clause-failed : goal.returns-then-eos-clause-failed
returns-then-eos-clause-failed g c =
    eos_failed c.args.graph.now c.args.feeds.now c.args.tasks.now.items c.args.source c.args.sink c.args.items
    c.unlink_eos.new.graph c.unlink_eos.new.feeds c.unlink_eos.new.tasks.items c.args.eos c.unlink_eos.result c.if-eos.true c.unlink_eos.ensures.faults

pub returns-in-Ok-clause-done : goal.returns-in-Ok-clause-done
returns-in-Ok-clause-done g c =
    plain_told c.args.graph.now c.args.feeds.now c.args.tasks.now.items c.args.source c.args.sink c.args.items
    c.unlink.new.graph c.unlink.new.feeds c.unlink.new.tasks.items c.args.eos c.in-Ok.done c.if-eos.false c.in-Ok.ensures.run

pub returns-in-Ok-clause-none : goal.returns-in-Ok-clause-none
returns-in-Ok-clause-none g c = λ is. let same = c.in-Ok.ensures.none is in (same.0, same.1, ap (λ (v : _). v.items) same.2)
