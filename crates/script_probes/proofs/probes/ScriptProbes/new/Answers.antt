-- The probes that wait at each pad are those of the commands.
use Rattle.std.proofs.Common.{◌<◌, All, List, length, subst, sym, ◌∙◌, ap, filter}
use Rattle.pad_core.specs.declared.probe.Probe.{Probe}
use Rattle.script_probes.specs.Queues.{IsQueue, is_at}
use Rattle.script_probes.proofs.Waiting.{commands_there, queue_first}
use Rattle.script_probes.proofs.probes.ScriptProbes.new.Goals as goal

pub at_pads-requires : goal.at_pads-requires
at_pads-requires c =
    subst (λ (stops : List Probe). All (λ (stop : Probe). stop.command < length c.args.commands.now) stops) (sym c.deref.ensures.value) (commands_there c.args.commands.now c.in_ok-stops.stops.items c.in_ok-stops.ensures.whole)

pub returns : goal.returns
returns c = record {
  queues = λ pad.
      subst (λ (queue : List Probe). IsQueue c.args.commands.now 0 pad queue) (sym (c.in_ok-at_pads.ensures pad ∙ ap (filter (is_at c.args.commands.now pad)) c.deref.ensures.value))
      (queue_first c.args.commands.now c.in_ok-stops.stops.items pad c.in_ok-stops.ensures.whole c.in_ok-stops.ensures.ordered);
}
