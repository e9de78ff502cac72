use Rattle.task_elements.proofs.FirstEos.{first_goes_on, whole_goes_on}
use Rattle.task_elements.proofs.laws.eos_goes_on.Goals as goal

pub returns-clause-first : goal.returns-clause-first
returns-clause-first g c = first_goes_on g.K.Sink.bytes

pub returns-clause-whole : goal.returns-clause-whole
returns-clause-whole g c = whole_goes_on g.K.Sink.bytes
