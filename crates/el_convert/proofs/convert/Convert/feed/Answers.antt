use Rattle.std.proofs.Common.{[], sym, append-nil}
use Rattle.el_convert.proofs.Converting.{converted_behind, fault_known}
use Rattle.el_convert.proofs.Conversion.{weaken}
use Rattle.el_convert.proofs.Putting.{puts_if_taken, puts_behind, flow_taken}
use Rattle.el_convert.proofs.convert.Convert.feed.Goals as goal
use Rattle.gst_value.proofs.Results.{if_err as weaken_err}

pub returns-then-self-clause-fed : goal.returns-then-self-clause-fed
returns-then-self-clause-fed c = λ first calls put p.
    let did = converted_behind c.args.self.now c.args.item c.requires.no_flush c.if-self.true first calls put p in
    ([], did.0, sym (append-nil c.args.out.now), did.1)

pub returns-then-self-clause-puts : goal.returns-then-self-clause-puts
returns-then-self-clause-puts c = puts_behind c.args.self.now c.args.item c.args.out.now c.requires.no_flush c.if-self.true

pub returns-clause-fed : goal.returns-clause-fed
returns-clause-fed c =
    let by = c.take.ensures in
    weaken c.take.result _ _ (λ flow did. λ first calls put p. (did.more, did.owed first calls put p, did.outs, did.stands first calls put p))
    (puts_if_taken c.take.result c.args.self.now c.take.new.self c.args.item c.args.out.now c.take.new.out c.requires.no_flush c.if-self.false by.answer by.knows by.eos by.out)

pub returns-clause-flow : goal.returns-clause-flow
returns-clause-flow c = flow_taken c.take.result c.args.self.now c.if-self.false c.take.ensures.flow

pub returns-clause-puts : goal.returns-clause-puts
returns-clause-puts c =
    let by = c.take.ensures in
    puts_if_taken c.take.result c.args.self.now c.take.new.self c.args.item c.args.out.now c.take.new.out c.requires.no_flush c.if-self.false by.answer by.knows by.eos by.out

pub returns-clause-fault : goal.returns-clause-fault
returns-clause-fault c = weaken_err c.take.result _ _ (λ fault h. fault_known c.args.self.now c.args.item fault c.if-self.false h) c.take.ensures.fault
