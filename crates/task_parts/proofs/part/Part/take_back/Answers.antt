use Rattle.std.proofs.Common.{refl, arith, ◌∙◌}
use Rattle.task_pads.proofs.Lists.{some_at}
use Rattle.task_parts.proofs.Idling.{below_set}
use Rattle.task_parts.proofs.part.Part.take_back.Goals as goal

pub take_back-requires-after_bounds : goal.take_back-requires-after_bounds
take_back-requires-after_bounds g c κs within =
    c.requires.back c.index_mut.result.now (some_at c.args.self.now.pads.items c.args.port c.index_mut.result.now (omega (arith, c.requires.port, c.args.self.now.pads.ok.0)) c.index_mut.ensures.value)

pub returns : goal.returns
returns g c = record {
  was = c.index_mut.result.now;
  is = c.take_back.new.self;
  pad = record {
    number = refl;
    element = refl;
    out = refl;
    at = some_at c.args.self.now.pads.items c.args.port c.index_mut.result.now (omega (arith, c.requires.port, c.args.self.now.pads.ok.0)) c.index_mut.ensures.value;
    set = refl;
    shape = c.take_back.ensures.shape;
  };
  history = c.take_back.ensures.history;
  counted = c.take_back.ensures.crossed;
  probe = c.take_back.ensures.probe;
  waiting = c.take_back.ensures.waiting;
  behind = c.take_back.ensures.behind;
}

pub invariant_of-self-clause-idle : goal.invariant_of-self-clause-idle
invariant_of-self-clause-idle g c =
    below_set c.args.self.now.first c.args.port c.args.self.now.pads.items c.index_mut.result.now c.take_back.new.self
    (some_at c.args.self.now.pads.items c.args.port c.index_mut.result.now (omega (arith, c.requires.port, c.args.self.now.pads.ok.0)) c.index_mut.ensures.value) (λ none. c.take_back.ensures.waiting ∙ none) c.args.self.now.idle
