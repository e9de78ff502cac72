use Rattle.std.proofs.Common.{◌≡◌, ◌∙◌, ℕ, ap, sym, subst}
use Rattle.task_pads.specs.Behind.{goes, inside}
use Rattle.task_pads.specs.declared.pad.Behind.{Behind}
use Rattle.net_groups.specs.Behind.{HasFlagAt}
use Rattle.net_groups.proofs.behind.leads_flagged.Goals as goal

pub returns-in-Element-clause-none : goal.returns-in-Element-clause-none
returns-in-Element-clause-none g c = λ none n sink leads has.
    let same : inside c.in-Element.number c.in-Element.pad ≡ inside n sink = ap (λ (b : Behind _). goes b) (sym c.in-Element.is) ∙ leads in
    let number : c.in-Element.number ≡ n = cc in
    c.has_flag.ensures.none none has.0 (subst (λ (m : ℕ). HasFlagAt c.args.parts.now c.args.flags.now m has.0) (sym number) has.1)
