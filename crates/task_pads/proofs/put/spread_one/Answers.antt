use Rattle.task_pads.proofs.Waiting.{push_free_at, first_no_flush}
use Rattle.task_pads.proofs.put.spread_one.Goals as goal

pub invariant_of-pad-clause-no_flush : goal.invariant_of-pad-clause-no_flush
invariant_of-pad-clause-no_flush g c =
    push_free_at c.args.pad.now.waiting.items c.push_back_reserved.new.self.items c.in-Some.out c.push_back_reserved.ensures.items c.args.pad.now.no_flush (first_no_flush c.args.outs.now.items c.in-Some.out c.pop_front.new.self.items c.in-Some.ensures.items c.requires.no_flush)
