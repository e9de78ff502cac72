-- The first that is not answered of the probes that wait at the pad.
use Rattle.std.proofs.Common.{Option, List, Bool, cond, slice_get, subst, sym, ◌∙◌, ap}
use Rattle.pad_core.specs.declared.probe.Probe.{Probe}
use Rattle.script_probes.specs.Queues.{IsQueue, is_pad, queue_at, unanswered}
use Rattle.script_probes.specs.Stops.{IsStop}
use Rattle.script_probes.proofs.Waiting.{pad_itself, queue_goes, queue_later, stop_of_rest}
use Rattle.script_probes.proofs.probes.ScriptProbes.probe.Goals as goal

pub returns-clause-stop : goal.returns-clause-stop
returns-clause-stop c = λ commands before le stands.
    let pad = c.args.pad.now in
    let queue = queue_at c.args.self.now.elements c.args.pad.now in
    let rest = c.next_at.ensures.rest c.args.pad.now ∙ ap (λ (b : Bool). cond b (unanswered c.args.answered queue) queue) (pad_itself c.args.pad.now) in
    subst (λ (o : Option Probe). IsStop commands c.args.answered c.args.pad.now o) (sym (c.next_at.ensures.next ∙ ap (λ (l : List Probe). slice_get l 0) rest))
    (stop_of_rest commands c.args.pad.now c.args.answered queue (queue_later commands c.args.pad.now before c.args.answered queue le (stands.queues c.args.pad.now)))

pub returns-clause-stands : goal.returns-clause-stands
returns-clause-stands c = λ commands before le stands.
    record {
      queues = λ pad.
          subst (λ (queue : List Probe). IsQueue commands c.args.answered pad queue) (sym (c.next_at.ensures.rest pad))
          (queue_goes commands pad before c.args.answered (is_pad c.args.pad.now pad) (queue_at c.args.self.now.elements pad) le (stands.queues pad));
    }
