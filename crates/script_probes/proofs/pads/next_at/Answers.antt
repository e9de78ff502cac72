-- The queue of one pad is without the probes that came first and are answered.
use Rattle.std.proofs.Common.{refl, cond, rules}
use Rattle.script_probes.specs.Queues.{unanswered}
use Rattle.script_probes.proofs.Maps.{lent_set}
use Rattle.script_probes.proofs.pads.next_at.Goals as goal

pub returns-in-Some-clause-rest : goal.returns-in-Some-clause-rest
returns-in-Some-clause-rest c =
    lent_set (λ b xs. cond b (unanswered c.args.answered xs) xs) (λ xs. refl) c.args.pad.now c.args.elements.now (c.get_mut.follows.lender c.next_in.new.pads) c.in-Some.pads.now c.next_in.new.pads c.as_str.result.now c.as_str-in-Some.result.now
    c.as_str.ensures c.as_str-in-Some.ensures c.in-Some.ensures.value ((c.get_mut.follows.holds c.next_in.new.pads).3 (search rules)) c.next_in.ensures.rest
