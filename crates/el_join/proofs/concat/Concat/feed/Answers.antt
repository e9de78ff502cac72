use Rattle.std.proofs.Common.{sym, ◌∙◌, arith}
use Rattle.std.proofs.lemmas.Option.{slice_get_read}
use Rattle.el_join.proofs.Keeping.{puts_over, flow_over, flow_taken}
use Rattle.el_join.proofs.Taking.{no_eos_is}
use Rattle.el_join.proofs.concat.Concat.feed.Goals as goal
use Rattle.gst_value.proofs.Results.{handed_on}

pub index-requires : goal.index-requires
index-requires c = omega (arith, c.requires.pad, c.args.self.now.pads.ok.0)

pub returns-then-has_ended-clause-puts : goal.returns-then-has_ended-clause-puts
returns-then-has_ended-clause-puts c =
    puts_over c.args.self.now c.args.pad c.args.item c.index.result.now c.requires.no_flush (sym c.has_ended.ensures ∙ c.if-has_ended.true)
    (slice_get_read c.args.self.now.pads.items c.args.self.now.pads.len c.args.pad c.index.result.now c.args.self.now.pads.ok.0 (omega (arith, c.requires.pad, c.args.self.now.pads.ok.0)) c.index.ensures) c.args.out.now

pub returns-then-has_ended-clause-flow : goal.returns-then-has_ended-clause-flow
returns-then-has_ended-clause-flow c = λ took put j.
    flow_over c.args.self.now c.args.pad c.args.item c.index.result.now c.requires.no_flush (sym c.has_ended.ensures ∙ c.if-has_ended.true)
    (slice_get_read c.args.self.now.pads.items c.args.self.now.pads.len c.args.pad c.index.result.now c.args.self.now.pads.ok.0 (omega (arith, c.requires.pad, c.args.self.now.pads.ok.0)) c.index.ensures) took put j

pub take-requires-clause-runs : goal.take-requires-clause-runs
take-requires-clause-runs c =
    no_eos_is c.args.self.now c.args.pad c.index.result.now
    (slice_get_read c.args.self.now.pads.items c.args.self.now.pads.len c.args.pad c.index.result.now c.args.self.now.pads.ok.0 (omega (arith, c.requires.pad, c.args.self.now.pads.ok.0)) c.index.ensures)
    (sym c.has_ended.ensures ∙ c.if-has_ended.false)

pub returns-clause-puts : goal.returns-clause-puts
returns-clause-puts c = c.in_ok-take.ensures.puts

pub returns-clause-flow : goal.returns-clause-flow
returns-clause-flow c = λ took put j.
    flow_taken c.args.self.now c.args.pad c.index.result.now took put
    (slice_get_read c.args.self.now.pads.items c.args.self.now.pads.len c.args.pad c.index.result.now c.args.self.now.pads.ok.0 (omega (arith, c.requires.pad, c.args.self.now.pads.ok.0)) c.index.ensures)
    (sym c.has_ended.ensures ∙ c.if-has_ended.false) j

pub returns-in_err-take-clause-fault : goal.returns-in_err-take-clause-fault
returns-in_err-take-clause-fault c = handed_on c.from_residual.result c.in_err-take.field-0.0 _ c.from_residual.ensures.1 c.in_err-take.ensures.fault
