use Rattle.std.proofs.Common.{Some, None, sym, ap, ◌∙◌, length}
use Rattle.flow_model.specs.Rule.{NotNegotiated}
use Rattle.el_mix.specs.Taking.{hears}
use Rattle.el_mix.proofs.Telling.{buffer_unheard}
use Rattle.el_mix.proofs.Deciding.{told_ok, told_fault}
use Rattle.el_mix.proofs.channel.Channel.judge_body.Goals as goal

pub returns-in-Some-clause-ok : goal.returns-in-Some-clause-ok
returns-in-Some-clause-ok c =
    told_ok c.judge_bytes.result c.args.reached c.args.self.now.progress.got _ (length c.args.body.now) (hears c.args.self.now) c.in-Some.info c.in-Some.ensures
    (ap length c.as_slice.ensures.bytes) c.judge_bytes.ensures.ok

pub returns-in-Some-clause-fault : goal.returns-in-Some-clause-fault
returns-in-Some-clause-fault c =
    told_fault c.judge_bytes.result c.args.reached c.args.self.now.progress.got _ (length c.args.body.now) (hears c.args.self.now) c.in-Some.info c.in-Some.ensures
    (ap length c.as_slice.ensures.bytes) c.judge_bytes.ensures.fault

pub returns-in_ok-mono_template-in-None-clause-fault : goal.returns-in_ok-mono_template-in-None-clause-fault
returns-in_ok-mono_template-in-None-clause-fault c = λ heard small.
    buffer_unheard c.args.reached c.args.self.now.progress.got (length c.args.body.now) (hears c.args.self.now) heard c.in-None.ensures
    ∙ ap (λ wanted. Some (NotNegotiated None wanted)) (sym c.in_ok-mono_template-in-None.ensures)
