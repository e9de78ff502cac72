use Rattle.el_law.proofs.Recoding.{recoded_behind}
use Rattle.el_law.proofs.Putting.{puts_behind, handed_out, handed_fed, handed_flow, handed_puts, handed_fault}
use Rattle.el_law.proofs.law.Law.feed.Goals as goal

pub returns-then-self-clause-fed : goal.returns-then-self-clause-fed
returns-then-self-clause-fed c = recoded_behind c.args.self.now c.args.item c.requires.no_flush c.if-self.true

pub returns-then-self-clause-puts : goal.returns-then-self-clause-puts
returns-then-self-clause-puts c = puts_behind c.args.self.now c.args.item c.args.out.now c.requires.no_flush c.if-self.true

pub returns-clause-out : goal.returns-clause-out
returns-clause-out c =
    let did = c.take.ensures in
    handed_out c.args.self.now c.args.item _ _ c.take.result did.flow did.out

pub returns-clause-fed : goal.returns-clause-fed
returns-clause-fed c =
    let did = c.take.ensures in
    handed_fed c.args.self.now c.take.new.self c.args.item c.take.result c.requires.no_flush c.if-self.false did.flow did.owed did.kind did.frame did.got did.eos

pub returns-clause-flow : goal.returns-clause-flow
returns-clause-flow c = handed_flow c.args.self.now c.take.result c.if-self.false c.take.ensures.flow

pub returns-clause-puts : goal.returns-clause-puts
returns-clause-puts c =
    let did = c.take.ensures in
    handed_puts c.args.self.now c.take.new.self c.args.item c.args.out.now c.take.new.out c.take.result c.requires.no_flush c.if-self.false did.owed did.kind did.frame did.got did.eos did.out

pub returns-clause-fault : goal.returns-clause-fault
returns-clause-fault c = handed_fault c.args.self.now c.args.item c.take.result c.if-self.false c.take.ensures.fault
