use Rattle.std.proofs.Common.{refl, sym, subst, ◌∙◌, ◌≡◌, ℕ, true}
use Rattle.task_parts.specs.Gathered.{are_within}
use Rattle.task_parts.proofs.Turns.{fed_of}
use Rattle.task_parts.proofs.part.Part.feed.Goals as goal

pub eat-requires-clause-within : goal.eat-requires-clause-within
eat-requires-clause-within g c = subst (λ (n : ℕ). are_within n c.args.self.now.out ≡ true) (sym c.args.self.now.ports) c.args.self.now.within

pub invariant_of-self : goal.invariant_of-self
invariant_of-self g c = record {
  ports = c.eat.ensures.ports ∙ c.args.self.now.ports;
  within = subst (λ (n : ℕ). are_within n c.eat.new.out ≡ true) (c.eat.ensures.ports ∙ c.args.self.now.ports) c.eat.ensures.within;
  idle = c.args.self.now.idle;
}

pub returns-in-Ok-clause-fed : goal.returns-in-Ok-clause-fed
returns-in-Ok-clause-fed g c = fed_of c.args.self.now _ c.pour.new.self c.args.pad c.args.item refl refl c.in-Ok.ensures.took c.eat.ensures.never_falls c.eat.ensures.file c.pour.ensures.settled

pub returns-in-Ok-clause-shape : goal.returns-in-Ok-clause-shape
returns-in-Ok-clause-shape g c = c.pour.ensures.shape

pub returns-in-Err-clause-fell : goal.returns-in-Err-clause-fell
returns-in-Err-clause-fell g c = record {
  number = refl;
  pads = refl;
  out = c.in-Err.ensures.out;
  fell = c.in-Err.ensures.fell;
  refused = c.in-Err.ensures.refused;
  cause = c.in-Err.ensures.cause;
  never_falls = c.eat.ensures.never_falls;
  file = c.eat.ensures.file;
}

pub returns-in-Err-clause-shape : goal.returns-in-Err-clause-shape
returns-in-Err-clause-shape g c = refl
