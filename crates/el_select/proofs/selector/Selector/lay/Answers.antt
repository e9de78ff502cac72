use Rattle.std.proofs.Common.{refl, arith}
use Rattle.el_select.proofs.Knowing.{pad_at}
use Rattle.el_select.proofs.Selecting.{remembers_laid}
use Rattle.el_select.proofs.selector.Selector.lay.Goals as goal

pub index_mut-requires : goal.index_mut-requires
index_mut-requires c = omega (arith, c.requires.pad, c.args.self.now.pads.ok.0)

pub returns-clause-laid : goal.returns-clause-laid
returns-clause-laid c =
    remembers_laid c.args.self.now _ c.args.pad c.args.event c.index_mut.result.now c.lay.new.self c.requires.inherited
    (pad_at c.args.self.now.pads c.args.pad c.index_mut.result.now c.requires.pad c.index_mut.ensures.value)
    refl refl c.lay.ensures
