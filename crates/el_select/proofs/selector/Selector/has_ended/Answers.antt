use Rattle.std.proofs.Common.{sym, ap, arith}
use Rattle.el_select.proofs.Knowing.{pad_at}
use Rattle.el_select.specs.Selects.{ended_of}
use Rattle.el_select.proofs.Telling.{ended_told}
use Rattle.el_select.proofs.selector.Selector.has_ended.Goals as goal

pub index-requires : goal.index-requires
index-requires c = omega (arith, c.requires, c.args.self.now.pads.ok.0)

pub returns-clause-ended : goal.returns-clause-ended
returns-clause-ended c =
    sym (ap ended_of (pad_at c.args.self.now.pads c.args.pad c.index.result.now c.requires.pad c.index.ensures))

pub returns-clause-told : goal.returns-clause-told
returns-clause-told c =
    ended_told c.args.self.now c.args.pad c.index.result.now
    (pad_at c.args.self.now.pads c.args.pad c.index.result.now c.requires.pad c.index.ensures)
