use Rattle.el_set.proofs.Following.{on_taken}
use Rattle.el_set.proofs.Joining.{concat_puts, mix_puts}
use Rattle.el_set.proofs.join.JoinElement.feed.Goals as goal

pub returns-in-Concat-clause-puts : goal.returns-in-Concat-clause-puts
returns-in-Concat-clause-puts c =
    on_taken c.feed.result (concat_puts c.args.self.now c.in-Concat.concat c.feed.new.self c.args.pad c.args.item c.args.out.now c.feed.new.out c.in-Concat.is c.feed.ensures.pads) c.feed.ensures.puts

pub returns-in-Concat-clause-fault : goal.returns-in-Concat-clause-fault
returns-in-Concat-clause-fault c = rw c.in-Concat.is c.feed.ensures.fault

pub returns-in-Mix-clause-puts : goal.returns-in-Mix-clause-puts
returns-in-Mix-clause-puts c =
    let did = c.feed-in-Mix in
    on_taken did.result (mix_puts c.args.self.now c.in-Mix.mix did.new.self c.args.pad c.args.item c.args.out.now did.new.out c.in-Mix.is did.ensures.pads) did.ensures.puts
