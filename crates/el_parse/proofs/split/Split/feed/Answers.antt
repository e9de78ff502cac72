use Rattle.std.proofs.Common.{[], sym, append-nil}
use Rattle.flow_model.specs.Owed.{answered}
use Rattle.el_parse.specs.Splits.{split_answer}
use Rattle.el_parse.specs.Regrouped.{come}
use Rattle.el_parse.proofs.Grouping.{split_item, split_behind}
use Rattle.el_parse.proofs.Putting.{split_puts, split_puts_behind}
use Rattle.el_parse.proofs.split.Split.feed.Goals as goal

pub returns-then-self-clause-fed : goal.returns-then-self-clause-fed
returns-then-self-clause-fed c = λ frames calls put p.
    let did = split_behind c.args.self.now c.args.item c.requires.no_flush c.if-self.true frames calls put p in
    ([], did.0, sym (append-nil c.args.out.now), did.1)

pub returns-clause-fed : goal.returns-clause-fed
returns-clause-fed c = λ frames calls put p.
    let by = c.in_ok-split.ensures in
    let did = split_item c.args.self.now c.split.new.self c.args.item c.requires.no_flush c.if-self.false by.answer by.come by.frames (by.eos c.if-self.false) frames calls put p in
    (answered (split_answer c.args.self.now.frames (come c.args.self.now) c.args.item), did.0, by.out, did.1)

pub returns-then-self-clause-puts : goal.returns-then-self-clause-puts
returns-then-self-clause-puts c = split_puts_behind c.args.self.now c.args.item c.args.out.now c.requires.no_flush c.if-self.true

pub returns-clause-puts : goal.returns-clause-puts
returns-clause-puts c =
    let by = c.in_ok-split.ensures in
    split_puts c.args.self.now c.split.new.self c.args.item _ _ c.requires.no_flush c.if-self.false by.answer by.come by.frames (by.eos c.if-self.false) by.out
