-- Both are laws of the grammar.
use Rattle.caps_text.proofs.AgainWhole.{caps_again, fixed_again}
use Rattle.caps_text.proofs.laws.printed_again.Goals as goal

pub returns-clause-caps : goal.returns-clause-caps
returns-clause-caps c text caps h = caps_again text caps h

pub returns-clause-fixed : goal.returns-clause-fixed
returns-clause-fixed c text x h = fixed_again text x h
