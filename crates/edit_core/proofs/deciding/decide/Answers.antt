use Rattle.std.proofs.Common.{sym, subst}
use Rattle.edit_core.specs.Deciding.{IsRuled}
use Rattle.edit_core.specs.Judging.{IsVerdict}
use Rattle.edit_core.specs.declared.deciding.Ruling.{Ruling}
use Rattle.edit_core.specs.declared.judging.Verdict.{Verdict}
use Rattle.edit_core.proofs.Decided.{carry, nameless, passed_by}
use Rattle.edit_core.proofs.deciding.decide.Goals as goal

pub returns-in-Waits : goal.returns-in-Waits
returns-in-Waits g c = λ e m tells is names.
    subst (λ (v : Verdict). IsVerdict e m c.args.tasks.now c.args.command.now v) c.in-Waits.is (c.in_ok-judge.ensures e m tells is.edited is.net is.fresh)

pub returns-in-Missing : goal.returns-in-Missing
returns-in-Missing g c = λ e m tells is names.
    subst (λ (r : Ruling). IsRuled e m c.args.tasks.now c.args.command.now r) (sym c.missing.ensures)
    (nameless e m c.args.tasks.now c.args.command.now
    (subst (λ (v : Verdict). IsVerdict e m c.args.tasks.now c.args.command.now v) c.in-Missing.is (c.in_ok-judge.ensures e m tells is.edited is.net is.fresh)))

pub returns-in-Unreached : goal.returns-in-Unreached
returns-in-Unreached g c = λ e m tells is names.
    passed_by e m c.args.tasks.now c.args.command.now
    (subst (λ (v : Verdict). IsVerdict e m c.args.tasks.now c.args.command.now v) c.in-Unreached.is (c.in_ok-judge.ensures e m tells is.edited is.net is.fresh))

pub returns-in-Reached : goal.returns-in-Reached
returns-in-Reached g c = carry c.decide_at.result _ _ (λ ruling ruled e m tells is names.
    ruled e m tells is names
    (subst (λ (v : Verdict). IsVerdict e m c.args.tasks.now c.args.command.now v) c.in-Reached.is (c.in_ok-judge.ensures e m tells is.edited is.net is.fresh))) c.decide_at.ensures
