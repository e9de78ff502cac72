use Rattle.std.specs.Option.{option_copied}
use Rattle.el_mix.proofs.Deciding.{fresh_ok, fresh_fault}
use Rattle.el_mix.proofs.judge.judge_by.Goals as goal

pub returns-clause-ok : goal.returns-clause-ok
returns-clause-ok c =
    fresh_ok c.judge_item-2.result c.args.reached (option_copied c.args.lowest) c.args.channel.now c.args.item.now c.if-channel.false c.in_ok-judge_inherited.ensures.ok
    c.judge_item-2.ensures.ok

pub returns-clause-fault : goal.returns-clause-fault
returns-clause-fault c =
    fresh_fault c.judge_item-2.result c.args.reached (option_copied c.args.lowest) c.args.channel.now c.args.item.now c.if-channel.false c.in_ok-judge_inherited.ensures.ok
    c.judge_item-2.ensures.fault
