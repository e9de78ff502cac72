-- A law of the grammar.
use Rattle.launch_text.proofs.Again.{line_again}
use Rattle.launch_text.proofs.laws.printed_again.Goals as goal

pub returns : goal.returns
returns c text tree h = line_again text tree h
