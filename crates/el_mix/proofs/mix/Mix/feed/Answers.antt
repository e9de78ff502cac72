use Rattle.std.proofs.Common.{true, false, refl, ◌∙◌, arith}
use Rattle.std.proofs.lemmas.Option.{slice_get_read}
use Rattle.flow_model.specs.declared.fault.ElementFault.TheVariants.{OutOfMemory as Wanting}
use Rattle.el_mix.proofs.Handing.{whatever}
use Rattle.el_mix.proofs.Lending.{mix_is}
use Rattle.el_mix.proofs.Giving.{open_at, same_settled, lent_length, lent_settled, takes_lent, puts_same}
use Rattle.el_mix.proofs.Laying.{puts_behind, flow_is}
use Rattle.el_mix.proofs.Answered.{puts_taken, fault_told}
use Rattle.el_mix.proofs.mix.Mix.feed.Goals as goal
use Rattle.gst_value.proofs.Results.{handed_on}

pub index-requires : goal.index-requires
index-requires c = omega (arith, c.requires.pad, c.args.self.now.channels.ok.0)

pub invariant_of-self : goal.invariant_of-self
invariant_of-self c = record { few = c.args.self.now.few; settled = c.args.self.now.settled }

pub returns-then-index-clause-puts : goal.returns-then-index-clause-puts
returns-then-index-clause-puts c =
    puts_same c.args.self.now c.args.pad c.args.item c.args.out.now
    (puts_behind c.args.self.now c.args.pad c.args.item c.args.out.now c.index.result.now (slice_get_read c.args.self.now.channels.items c.args.self.now.channels.len c.args.pad c.index.result.now c.args.self.now.channels.ok.0 (omega (arith, c.requires.pad, c.args.self.now.channels.ok.0)) c.index.ensures) c.if-index.true
    c.requires.no_flush c.requires.order) _ _

pub returns-then-index-clause-flow : goal.returns-then-index-clause-flow
returns-then-index-clause-flow c = λ took put h.
    flow_is c.args.self.now c.args.pad c.index.result.now true (slice_get_read c.args.self.now.channels.items c.args.self.now.channels.len c.args.pad c.index.result.now c.args.self.now.channels.ok.0 (omega (arith, c.requires.pad, c.args.self.now.channels.ok.0)) c.index.ensures) c.if-index.true took put h

pub judge-requires : goal.judge-requires
judge-requires c = record { pad = omega (arith, c.requires.pad, c.args.self.now.channels.ok.0, c.deref.ensures.len) }

pub returns-in_err-judge-clause-fault : goal.returns-in_err-judge-clause-fault
returns-in_err-judge-clause-fault c =
    handed_on c.from_residual.result c.in_err-judge.field-0.0 _ c.from_residual.ensures.1
    (λ took put m. fault_told c.args.self.now c.args.pad c.args.item c.index.result.now c.in_err-judge.field-0.0 c.requires.no_flush (slice_get_read c.args.self.now.channels.items c.args.self.now.channels.len c.args.pad c.index.result.now c.args.self.now.channels.ok.0 (omega (arith, c.requires.pad, c.args.self.now.channels.ok.0)) c.index.ensures) c.if-index.false
    ((rw c.deref.ensures.value at c.in_err-judge.ensures.fault) c.index.result.now (slice_get_read c.args.self.now.channels.items c.args.self.now.channels.len c.args.pad c.index.result.now c.args.self.now.channels.ok.0 (omega (arith, c.requires.pad, c.args.self.now.channels.ok.0)) c.index.ensures)) took put m)

pub take-requires-clause-pad : goal.take-requires-clause-pad
take-requires-clause-pad c = omega (arith, c.requires.pad, c.args.self.now.channels.ok.0, c.deref_mut.ensures.len)

pub take-requires-clause-few : goal.take-requires-clause-few
take-requires-clause-few c = omega (arith, c.args.self.now.few, c.deref_mut.ensures.len)

pub take-requires-clause-open : goal.take-requires-clause-open
take-requires-clause-open c = open_at c.args.self.now.channels.items c.deref_mut.result.now c.args.pad c.index.result.now c.deref_mut.ensures.value (slice_get_read c.args.self.now.channels.items c.args.self.now.channels.len c.args.pad c.index.result.now c.args.self.now.channels.ok.0 (omega (arith, c.requires.pad, c.args.self.now.channels.ok.0)) c.index.ensures) c.if-index.false

pub take-requires-clause-settled : goal.take-requires-clause-settled
take-requires-clause-settled c = same_settled c.args.self.now.channels.items c.deref_mut.result.now c.deref_mut.ensures.value c.args.self.now.settled

pub invariant_of-self-2 : goal.invariant_of-self-2
invariant_of-self-2 c = record {
  few = c.args.self.now.few;
  settled = lent_settled c.args.self.now.channels c.deref_mut.result.now c.take.new.channels c.deref_mut.ensures.value c.take.ensures.pads c.take.ensures.settled;
}

pub returns-in_err-take-clause-stays : goal.returns-in_err-take-clause-stays
returns-in_err-take-clause-stays c =
    whatever c.from_residual-in_err-take.result _
    (mix_is c.args.self.now c.take.new.channels c.take.new.at (c.in_err-take.ensures.stays.2 ∙ c.deref_mut.ensures.value) c.in_err-take.ensures.stays.0 _ _, c.in_err-take.ensures.stays.1)

pub returns-in_err-take-clause-fault : goal.returns-in_err-take-clause-fault
returns-in_err-take-clause-fault c = handed_on c.from_residual-in_err-take.result Wanting _ c.from_residual-in_err-take.ensures.1 (λ took put m. tt)

pub returns-in_err-take-clause-pads : goal.returns-in_err-take-clause-pads
returns-in_err-take-clause-pads c = lent_length c.args.self.now.channels c.deref_mut.result.now c.take.new.channels c.deref_mut.ensures.value c.take.ensures.pads

pub returns-clause-puts : goal.returns-clause-puts
returns-clause-puts c =
    puts_taken c.args.self.now _ c.args.pad c.args.item c.args.out.now c.take.new.out c.requires.no_flush c.requires.order
    (rw c.deref.ensures.value at c.in_ok-judge.ensures.ok) (rw c.deref.ensures.value at c.in_ok-judge.ensures.small)
    (open_at c.args.self.now.channels.items c.args.self.now.channels.items c.args.pad c.index.result.now refl (slice_get_read c.args.self.now.channels.items c.args.self.now.channels.len c.args.pad c.index.result.now c.args.self.now.channels.ok.0 (omega (arith, c.requires.pad, c.args.self.now.channels.ok.0)) c.index.ensures) c.if-index.false)
    (takes_lent c.args.self.now.at c.take.new.at c.args.self.now.channels c.deref_mut.result.now c.take.new.channels c.args.pad c.args.item c.args.out.now c.take.new.out c.deref_mut.ensures.value
    c.take.ensures.pads c.in_ok-take.ensures.takes)

pub returns-clause-flow : goal.returns-clause-flow
returns-clause-flow c = λ took put h.
    flow_is c.args.self.now c.args.pad c.index.result.now false (slice_get_read c.args.self.now.channels.items c.args.self.now.channels.len c.args.pad c.index.result.now c.args.self.now.channels.ok.0 (omega (arith, c.requires.pad, c.args.self.now.channels.ok.0)) c.index.ensures) c.if-index.false took put h

pub returns-clause-pads : goal.returns-clause-pads
returns-clause-pads c = lent_length c.args.self.now.channels c.deref_mut.result.now c.take.new.channels c.deref_mut.ensures.value c.take.ensures.pads
