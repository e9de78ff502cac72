use Rattle.std.proofs.Common.{[], ◌++◌, ◌∙◌, ap, sym, append-nil}
use Rattle.flow_model.specs.Feeding.{on_pad}
use Rattle.flow_model.specs.Owed.{answered}
use Rattle.el_parse.specs.Splits.{rest}
use Rattle.el_parse.specs.Regrouped.{come}
use Rattle.el_parse.proofs.Grouping.{split_drained, split_drained_behind, on_three}
use Rattle.el_parse.proofs.Putting.{split_puts_rest, split_puts_none}
use Rattle.el_parse.proofs.split.Split.drain.Goals as goal

pub returns-then-self-clause-drained : goal.returns-then-self-clause-drained
returns-then-self-clause-drained c = λ frames calls put p.
    let did = split_drained_behind c.args.self.now c.if-self.true frames calls put p in
    ([], did.0, sym (append-nil c.args.out.now), did.1)

pub returns-clause-drained : goal.returns-clause-drained
returns-clause-drained c =
    let by = c.put_rest.ensures in
    on_three c.put_rest.result by.answer by.out by.come
    (λ answer out moved. λ frames calls put p.
    let did = split_drained c.args.self.now c.put_rest.new.self c.if-self.false answer moved by.frames by.ended frames calls put p in
    (answered (rest (come c.args.self.now)), did.0, out ∙ ap (λ ys. c.args.out.now ++ on_pad 0 ys) (append-nil (answered (rest (come c.args.self.now)))), did.1))

pub returns-then-self-clause-puts : goal.returns-then-self-clause-puts
returns-then-self-clause-puts c = split_puts_none c.args.self.now c.args.out.now c.if-self.true

pub returns-clause-puts : goal.returns-clause-puts
returns-clause-puts c =
    let by = c.put_rest.ensures in
    on_three c.put_rest.result by.answer by.out by.come
    (λ answer out moved. split_puts_rest c.args.self.now c.put_rest.new.self _ _ c.if-self.false answer moved by.frames by.ended out)
