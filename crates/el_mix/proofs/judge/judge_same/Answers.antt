use Rattle.std.proofs.Common.{◌∙◌}
use Rattle.el_mix.proofs.Deciding.{due_is, same_first, other_refused}
use Rattle.el_mix.proofs.judge.judge_same.Goals as goal
use Rattle.gst_value.proofs.Results.{if_err, then_ok as on_ok}

pub returns-then-same_caps-clause-ok : goal.returns-then-same_caps-clause-ok
returns-then-same_caps-clause-ok c =
    on_ok c.judge_first.result _ _ (λ e. same_first c.args.lowest.now c.args.caps.now c.if-same_caps.ensures ∙ e) c.judge_first.ensures.ok

pub returns-then-same_caps-clause-fault : goal.returns-then-same_caps-clause-fault
returns-then-same_caps-clause-fault c =
    if_err c.judge_first.result _ _ (λ fault due. due_is _ _ fault (same_first c.args.lowest.now c.args.caps.now c.if-same_caps.ensures) due) c.judge_first.ensures.fault

pub returns-clause-fault : goal.returns-clause-fault
returns-clause-fault c =
    other_refused c.args.lowest.now c.args.caps.now c.in_ok-copy.field-0 c.in_ok-exactly.field-0 c.if-same_caps.ensures c.in_ok-copy.ensures c.in_ok-exactly.ensures
