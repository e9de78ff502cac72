use Rattle.std.proofs.Common.{arith}
use Rattle.std.proofs.lemmas.Option.{slice_get_read}
use Rattle.el_join.specs.Pads.{laid}
use Rattle.el_join.proofs.Beginning.{remembers_laid}
use Rattle.el_join.proofs.Pouring.{facts_swap}
use Rattle.el_join.proofs.concat.Concat.lay.Goals as goal

pub index_mut-requires : goal.index_mut-requires
index_mut-requires c = omega (arith, c.requires.pad, c.args.self.now.pads.ok.0)

pub returns-clause-laid : goal.returns-clause-laid
returns-clause-laid c = λ took r.
    remembers_laid c.args.self.now _ c.args.pad c.index_mut.result.now.facts c.args.event c.requires.inherited
    (facts_swap c.args.pad c.args.self.now.pads.items c.index_mut.result.now c.lay.new.self (laid c.index_mut.result.now.facts c.args.event)
    (slice_get_read c.args.self.now.pads.items c.args.self.now.pads.len c.args.pad c.index_mut.result.now c.args.self.now.pads.ok.0 (omega (arith, c.requires.pad, c.args.self.now.pads.ok.0)) c.index_mut.ensures.value)
    c.lay.ensures.facts) took r
