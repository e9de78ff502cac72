use Rattle.std.proofs.Common.{refl, arith}
use Rattle.std.proofs.lemmas.Option.{slice_get_read}
use Rattle.el_join.proofs.Answering.{on_err}
use Rattle.el_join.proofs.Taking.{kept_on, concat_is, vec_back}
use Rattle.el_join.proofs.concat.Concat.keep.Goals as goal

pub index_mut-requires : goal.index_mut-requires
index_mut-requires c = omega (arith, c.requires.pad, c.args.self.now.pads.ok.0)

pub returns-clause-puts : goal.returns-clause-puts
returns-clause-puts c =
    kept_on c.keep.result c.args.self.now _ c.args.pad c.args.item c.index_mut.result.now c.keep.new.self c.requires.no_flush c.requires.runs c.requires.other
    (slice_get_read c.args.self.now.pads.items c.args.self.now.pads.len c.args.pad c.index_mut.result.now c.args.self.now.pads.ok.0 (omega (arith, c.requires.pad, c.args.self.now.pads.ok.0)) c.index_mut.ensures.value)
    refl refl refl c.keep.ensures.waiting c.keep.ensures.facts

pub returns-clause-stays : goal.returns-clause-stays
returns-clause-stays c =
    on_err c.keep.result _ _
    (λ same. concat_is c.args.self.now _ _ _
    (vec_back c.args.self.now.pads c.args.pad c.index_mut.result.now c.keep.new.self
    (slice_get_read c.args.self.now.pads.items c.args.self.now.pads.len c.args.pad c.index_mut.result.now c.args.self.now.pads.ok.0 (omega (arith, c.requires.pad, c.args.self.now.pads.ok.0)) c.index_mut.ensures.value) same)
    refl refl _)
    c.keep.ensures.stays
