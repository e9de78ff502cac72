use Rattle.std.proofs.Common.{refl, arith}
use Rattle.std.proofs.lemmas.Option.{slice_get_read}
use Rattle.el_join.proofs.Answering.{on_err}
use Rattle.el_join.proofs.Taking.{passed_on, passed_fault, concat_is, vec_back}
use Rattle.el_join.proofs.concat.Concat.pass.Goals as goal
use Rattle.gst_value.proofs.Results.{if_err}

pub index_mut-requires : goal.index_mut-requires
index_mut-requires c = omega (arith, c.requires.turn, c.args.self.now.pads.ok.0)

pub returns-clause-puts : goal.returns-clause-puts
returns-clause-puts c =
    passed_on c.pass.result c.args.self.now _ c.args.item c.index_mut.result.now c.pass.new.self c.args.out.now c.pass.new.out c.requires.no_flush c.requires.no_end c.requires.runs
    (slice_get_read c.args.self.now.pads.items c.args.self.now.pads.len c.args.self.now.turn c.index_mut.result.now c.args.self.now.pads.ok.0 (omega (arith, c.requires.turn, c.args.self.now.pads.ok.0)) c.index_mut.ensures.value)
    refl refl refl c.pass.ensures.out c.pass.ensures.fits c.pass.ensures.facts c.pass.ensures.waiting

pub returns-clause-stays : goal.returns-clause-stays
returns-clause-stays c =
    on_err c.pass.result _ _
    (λ same. (
      concat_is c.args.self.now _ _ _
          (vec_back c.args.self.now.pads c.args.self.now.turn c.index_mut.result.now c.pass.new.self
          (slice_get_read c.args.self.now.pads.items c.args.self.now.pads.len c.args.self.now.turn c.index_mut.result.now c.args.self.now.pads.ok.0 (omega (arith, c.requires.turn, c.args.self.now.pads.ok.0)) c.index_mut.ensures.value) same.0)
          refl refl _,
      same.1,
    ))
    c.pass.ensures.stays

pub returns-clause-fault : goal.returns-clause-fault
returns-clause-fault c =
    if_err c.pass.result _ _
    (λ fault due. passed_fault c.args.self.now c.args.item c.index_mut.result.now c.requires.no_flush c.requires.no_end c.requires.runs
    (slice_get_read c.args.self.now.pads.items c.args.self.now.pads.len c.args.self.now.turn c.index_mut.result.now c.args.self.now.pads.ok.0 (omega (arith, c.requires.turn, c.args.self.now.pads.ok.0)) c.index_mut.ensures.value) fault due)
    c.pass.ensures.fault
