use Rattle.el_set.proofs.Sources.{ramp_stops}
use Rattle.el_set.proofs.source.SourceElement.end.Goals as goal

pub returns-in-File-clause-gave : goal.returns-in-File-clause-gave
returns-in-File-clause-gave g c = rw c.in-File.is c.end.ensures.gave

pub returns-in-Ramp-clause-gave : goal.returns-in-Ramp-clause-gave
returns-in-Ramp-clause-gave g c = ramp_stops g.S.Source.content c.args.self.now c.in-Ramp.ramp c.end-in-Ramp.new.self c.in-Ramp.is c.end-in-Ramp.ensures.gave
