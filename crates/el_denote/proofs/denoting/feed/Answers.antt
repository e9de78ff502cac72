use Rattle.flow_model.specs.Call.{feeds}
use Rattle.el_denote.proofs.WholeLists.{took_fed, next_of}
use Rattle.el_denote.proofs.denoting.feed.Goals as goal

pub returns-in-Ok-clause-taken : goal.returns-in-Ok-clause-taken
returns-in-Ok-clause-taken c =
    took_fed c.args.element.now c.feed.new.self c.args.item.now _ c.args.out.now c.feed.new.out c.in_ok-copy.ensures c.requires c.in-Ok.ensures.fed

pub returns-in-Err-clause-fault : goal.returns-in-Err-clause-fault
returns-in-Err-clause-fault c = λ respond items p.
    next_of respond items c.args.item.now _ c.in-Err.fault c.in_ok-copy.ensures c.requires (c.in-Err.ensures.fault respond (feeds items) p.put p.stands)
