use Rattle.std.proofs.Common.{◌∙◌, ap, subst, sym}
use Rattle.task_pads.specs.Behind.{goes}
use Rattle.task_pads.specs.declared.pad.Behind.{Behind}
use Rattle.task_pads.specs.declared.pad.Pad.{Pad}
use Rattle.task_pads.specs.Pads.{goes_of}
use Rattle.task_parts.specs.declared.head.Head.{Head}
use Rattle.edit_acts.specs.Sent.{HeadSends}
use Rattle.edit_acts.proofs.sent.head_sends.Goals as goal

pub returns-in-Source-clause-sends : goal.returns-in-Source-clause-sends
returns-in-Source-clause-sends g c = λ is.
    let z = c.leads_over.ensures.led is in
    subst (λ (h : Head _ _ _ _). HeadSends h c.args.element c.args.pad) (sym c.in-Source.is)
    (z.0, z.1, ap (λ (p : Pad _). goes_of p) (sym c.pad.ensures) ∙ ap (λ (b : Behind _). goes b) (sym c.behind.ensures) ∙ z.2)
