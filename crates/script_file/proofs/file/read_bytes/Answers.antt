use Rattle.std.proofs.Common.{◌∙◌}
use Rattle.script_file.proofs.file.read_bytes.Goals as goal

pub returns-in-Ok-answer-clause-front : goal.returns-in-Ok-answer-clause-front
returns-in-Ok-answer-clause-front g c x is = c.in-Ok-answer.ensures.front x (c.in-Ok.ensures.content ∙ is)
