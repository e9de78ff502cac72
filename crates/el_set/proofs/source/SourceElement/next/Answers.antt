use Rattle.el_set.proofs.Sources.{file_gives, file_ends, file_short, file_stays, file_stays_read, ramp_ends, ramp_gives, ramp_short, ramp_stays}
use Rattle.el_set.proofs.source.SourceElement.next.Goals as goal

pub returns-in-File-clause-gave : goal.returns-in-File-clause-gave
returns-in-File-clause-gave g c = file_gives g.S.Source.content c.next.result c.args.self.now c.in-File.file c.next.new.self c.in-File.is c.next.ensures.gave

pub returns-in-File-clause-ended : goal.returns-in-File-clause-ended
returns-in-File-clause-ended g c = file_ends g.S.Source.content c.next.result c.args.self.now c.in-File.file c.in-File.is c.next.ensures.ended

pub returns-in-File-clause-kept : goal.returns-in-File-clause-kept
returns-in-File-clause-kept g c = file_stays g.S.Source.content c.next.result c.args.self.now c.in-File.file c.next.new.self c.in-File.is c.next.ensures.kept

pub returns-in-Ramp-clause-gave : goal.returns-in-Ramp-clause-gave
returns-in-Ramp-clause-gave g c = ramp_gives g.S.Source.content c.next-in-Ramp.result c.args.self.now c.in-Ramp.ramp c.next-in-Ramp.new.self c.in-Ramp.is c.next-in-Ramp.ensures.gave

pub returns-in-Ramp-clause-ended : goal.returns-in-Ramp-clause-ended
returns-in-Ramp-clause-ended g c = ramp_ends g.S.Source.content c.next-in-Ramp.result c.args.self.now c.in-Ramp.ramp c.in-Ramp.is c.next-in-Ramp.ensures.ended

pub returns-in-Ramp-clause-kept : goal.returns-in-Ramp-clause-kept
returns-in-Ramp-clause-kept g c = ramp_stays g.S.Source.content c.next-in-Ramp.result c.args.self.now c.in-Ramp.ramp c.next-in-Ramp.new.self c.in-Ramp.is c.next-in-Ramp.ensures.kept

pub returns-in-File-clause-faults_stay : goal.returns-in-File-clause-faults_stay
returns-in-File-clause-faults_stay g c = file_stays_read g.S.Source.faults c.next.result c.args.self.now c.in-File.file c.next.new.self c.in-File.is c.next.ensures.faults_stay

pub returns-in-File-clause-short : goal.returns-in-File-clause-short
returns-in-File-clause-short g c = file_short g.S.Source.content c.next.result c.args.self.now c.in-File.file c.in-File.is c.next.ensures.short

pub returns-in-Ramp-clause-short : goal.returns-in-Ramp-clause-short
returns-in-Ramp-clause-short g c = ramp_short g.S.Source.content c.next-in-Ramp.result c.args.self.now c.next-in-Ramp.ensures.cause
