use Rattle.std.proofs.Common.{true}
use Rattle.el_join.proofs.Free.{added_free}
use Rattle.el_join.proofs.waiting.Waiting.add.Goals as goal

pub invariant_of-self-2 : goal.invariant_of-self-2
invariant_of-self-2 c =
    added_free true c.self.inside.outs.items c.args.more.items c.append.new.self.items c.self.invariant c.requires.free c.in_ok-append.ensures.items
