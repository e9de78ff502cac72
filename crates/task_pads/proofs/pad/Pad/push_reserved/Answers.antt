use Rattle.task_pads.proofs.Waiting.{push_free_at}
use Rattle.task_pads.proofs.pad.Pad.push_reserved.Goals as goal

pub invariant_of-self-clause-no_flush : goal.invariant_of-self-clause-no_flush
invariant_of-self-clause-no_flush g c =
    push_free_at c.args.self.now.waiting.items c.push_back_reserved.new.self.items (record { pad = 0; item = c.args.item }) c.push_back_reserved.ensures.items c.args.self.now.no_flush c.requires.no_flush
