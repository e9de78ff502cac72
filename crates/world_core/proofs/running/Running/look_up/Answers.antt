use Rattle.std.proofs.Common.{None, refl, arith}
use Rattle.world_core.proofs.Elements.{first_elements, same_elements}
use Rattle.world_core.proofs.running.Running.look_up.Goals as goal

pub returns-in-Ok-clause-looked : goal.returns-in-Ok-clause-looked
returns-in-Ok-clause-looked g c = (
  refl,
  record {
    some = omega (arith, c.requires.some, c.args.self.now.entries.ok.0, c.args.self.now.script.ok.0);
    unasked = c.requires.unasked;
    asked = c.in-Ok.ensures.0;
    view = refl;
    probing = refl;
    keeps = record { script = refl; turns = record { taking = refl; removed = refl } };
  },
)

pub returns-in-Ok-clause-elements : goal.returns-in-Ok-clause-elements
returns-in-Ok-clause-elements g c = same_elements c.args.self.now _ refl refl refl

pub returns-in-Err-clause-failed : goal.returns-in-Err-clause-failed
returns-in-Err-clause-failed g c = (
  refl,
  record {
    entries = refl;
    keeps = record { script = refl; turns = record { taking = refl; removed = refl } };
    room = None;
    lanes = refl;
    control = λ edited m has. has;
  },
)

pub returns-in-Err-clause-elements : goal.returns-in-Err-clause-elements
returns-in-Err-clause-elements g c = first_elements c.args.self.now
