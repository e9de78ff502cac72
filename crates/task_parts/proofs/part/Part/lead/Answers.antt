use Rattle.std.proofs.Common.{refl, arith, ◌∙◌}
use Rattle.task_pads.proofs.Lists.{some_at}
use Rattle.task_parts.proofs.Idling.{below_set}
use Rattle.task_parts.proofs.part.Part.lead.Goals as goal

pub returns : goal.returns
returns g c = record {
  number = refl;
  element = refl;
  out = refl;
  was = c.index_mut.result.now;
  is = c.lead.new.self;
  at = some_at c.args.self.now.pads.items c.args.port c.index_mut.result.now (omega (arith, c.requires, c.args.self.now.pads.ok.0)) c.index_mut.ensures.value;
  set = refl;
  led = c.lead.ensures.led;
  gave = c.lead.ensures.was;
}

pub invariant_of-self-clause-idle : goal.invariant_of-self-clause-idle
invariant_of-self-clause-idle g c =
    below_set c.args.self.now.first c.args.port c.args.self.now.pads.items c.index_mut.result.now c.lead.new.self
    (some_at c.args.self.now.pads.items c.args.port c.index_mut.result.now (omega (arith, c.requires, c.args.self.now.pads.ok.0)) c.index_mut.ensures.value) (λ none. c.lead.ensures.led.waiting ∙ none) c.args.self.now.idle
