use Rattle.el_mix.proofs.Going.{buffers_go_on, next_buffer}
use Rattle.el_mix.proofs.buffers_go_on.Goals as goal

pub returns-clause-more : goal.returns-clause-more
returns-clause-more c = buffers_go_on

pub returns-clause-next : goal.returns-clause-next
returns-clause-next c = next_buffer
