use Rattle.el_mix.proofs.judge.judge_item.Goals as goal

pub returns-in-Buffer-clause-ok : goal.returns-in-Buffer-clause-ok
returns-in-Buffer-clause-ok c = rw c.in-Buffer.is c.judge_body.ensures.ok

pub returns-in-Buffer-clause-fault : goal.returns-in-Buffer-clause-fault
returns-in-Buffer-clause-fault c = rw c.in-Buffer.is c.judge_body.ensures.fault
