use Rattle.std.proofs.Common.{subst, sym}
use Rattle.std.specs.Prelude.{IfSome}
use Rattle.task_pads.specs.declared.pad.Pad.{Pad}
use Rattle.task_parts.specs.declared.head.Head.{Head}
use Rattle.task_edits.specs.Leads.{HeadLeadsOver, PadLeadsOver}
use Rattle.task_edits.specs.declared.leading.Beyond.{Beyond}
use Rattle.task_edits.proofs.leading.head_over.Goals as goal

pub returns-in-Source-clause-leads : goal.returns-in-Source-clause-leads
returns-in-Source-clause-leads g c = subst (λ (h : Head _ _ _ _). IfSome c.pad_over.result (HeadLeadsOver h)) (sym c.in-Source.is) (subst (λ (p : Pad _). IfSome c.pad_over.result (PadLeadsOver p)) c.pad.ensures c.pad_over.ensures.leads)

pub returns-in-Source-clause-none : goal.returns-in-Source-clause-none
returns-in-Source-clause-none g c = λ none. subst (λ (h : Head _ _ _ _). (to : Beyond) → HeadLeadsOver h to → ⊥) (sym c.in-Source.is) (subst (λ (p : Pad _). (to : Beyond) → PadLeadsOver p to → ⊥) c.pad.ensures (c.pad_over.ensures.none none))
