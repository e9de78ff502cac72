use Rattle.std.proofs.Common.{refl, arith}
use Rattle.std.proofs.lemmas.List.{length-set}
use Rattle.std.proofs.lemmas.Option.{slice_get_read}
use Rattle.el_mix.proofs.Giving.{set_settled}
use Rattle.el_mix.proofs.Laying.{laid}
use Rattle.el_mix.proofs.mix.Mix.lay.Goals as goal

pub index_mut-requires : goal.index_mut-requires
index_mut-requires c = omega (arith, c.requires.pad, c.args.self.now.channels.ok.0)

pub invariant_of-self : goal.invariant_of-self
invariant_of-self c = record {
  few = c.args.self.now.few;
  settled = set_settled c.args.self.now.channels.items c.args.pad c.index_mut.result.now c.lay.new.self (slice_get_read c.args.self.now.channels.items c.args.self.now.channels.len c.args.pad c.index_mut.result.now c.args.self.now.channels.ok.0 (omega (arith, c.requires.pad, c.args.self.now.channels.ok.0)) c.index_mut.ensures.value)
      c.args.self.now.settled c.lay.ensures.waiting;
}

pub returns-clause-laid : goal.returns-clause-laid
returns-clause-laid c = λ took r.
    laid c.args.self.now _ c.args.pad c.args.event c.index_mut.result.now c.lay.new.self (slice_get_read c.args.self.now.channels.items c.args.self.now.channels.len c.args.pad c.index_mut.result.now c.args.self.now.channels.ok.0 (omega (arith, c.requires.pad, c.args.self.now.channels.ok.0)) c.index_mut.ensures.value)
    c.requires.inherited c.lay.ensures refl took r

pub returns-clause-pads : goal.returns-clause-pads
returns-clause-pads c = length-set c.args.self.now.channels.items c.args.pad c.lay.new.self
