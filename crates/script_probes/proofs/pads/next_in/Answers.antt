-- The queue of one pad is without the probes that came first and are answered.
use Rattle.std.proofs.Common.{[], refl, cond, ap, ◌∙◌, rules}
use Rattle.std.specs.Option.{option_map_or}
use Rattle.std.specs.declared.alloc.Global.{Global}
use Rattle.std.specs.declared.collections.VecDeque.{VecDeque}
use Rattle.pad_core.specs.declared.probe.Probe.{Probe}
use Rattle.script_probes.specs.Queues.{unanswered}
use Rattle.script_probes.proofs.Maps.{queue_set}
use Rattle.script_probes.proofs.pads.next_in.Goals as goal

pub returns-in-Some-clause-rest : goal.returns-in-Some-clause-rest
returns-in-Some-clause-rest c =
    queue_set (λ b xs. cond b (unanswered c.args.answered xs) xs) (λ xs. refl) c.args.pad.now c.args.pads.now (c.get_mut.follows.lender c.first_unanswered.new.queue) c.first_unanswered.new.queue ((c.get_mut.follows.holds c.first_unanswered.new.queue).3 (search rules))
    (c.first_unanswered.ensures.rest ∙ ap (λ o. unanswered c.args.answered (option_map_or (λ (q : VecDeque Probe Global). q.items) o [])) c.in-Some.ensures.value)
