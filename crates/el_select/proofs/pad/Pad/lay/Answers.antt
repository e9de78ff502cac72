use Rattle.flow_model.specs.Item.{Ev}
use Rattle.el_select.proofs.Keeping.{laid_plain, takes_laid}
use Rattle.el_select.proofs.Knowing.{knows_behind}
use Rattle.el_select.proofs.pad.Pad.lay.Goals as goal

pub returns-then-self : goal.returns-then-self
returns-then-self c = knows_behind c.args.self.now (Ev c.args.event) (laid_plain c.args.event c.requires).0 c.if-self.true

pub returns : goal.returns
returns c = takes_laid c.args.self.now c.remember.new.self c.args.event c.requires c.if-self.false c.remember.ensures.sticky c.remember.ensures.ended
