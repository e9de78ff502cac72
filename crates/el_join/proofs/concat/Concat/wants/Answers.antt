use Rattle.std.proofs.Common.{◌∙◌, arith}
use Rattle.el_join.proofs.Beginning.{wants_first, wanted_some, wanted_none}
use Rattle.el_join.proofs.concat.Concat.wants.Goals as goal

pub returns-then-self-len-clause-first : goal.returns-then-self-len-clause-first
returns-then-self-len-clause-first c = λ took put j.
    wanted_some c.args.self.now (omega (arith, c.if-self-len.true, c.len.ensures, c.args.self.now.pads.ok.0)) ∙ wants_first c.args.self.now took put j

pub returns-else-self-len-clause-first : goal.returns-else-self-len-clause-first
returns-else-self-len-clause-first c = λ took put j.
    wanted_none c.args.self.now (omega (arith, c.if-self-len.false, c.len.ensures, c.args.self.now.pads.ok.0)) ∙ wants_first c.args.self.now took put j
