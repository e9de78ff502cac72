use Rattle.std.proofs.Common.{◌≡◌, List, Some, ap, refl, subst, sym}
use Rattle.task_pads.specs.declared.pad.Behind.TheVariants.{Nothing}
use Rattle.task_parts.specs.declared.head.Head.{Head}
use Rattle.task_parts.specs.declared.part.Part.{Part}
use Rattle.task_edits.specs.Changes.{LedBy}
use Rattle.task_edits.specs.Places.{first_pad}
use Rattle.task_edits.proofs.Acts.{changed_as, changed_left, led_closed, unlinked_ready, unlinked_tied}
use Rattle.task_edits.proofs.leading.unlink.Goals as goal

pub new-requires-clause-closed : goal.new-requires-clause-closed
new-requires-clause-closed g c κs within =
    led_closed c.args.task.head c.lead_in-back.new.head c.args.task.parts.items c.lead_in-back.new.parts.items Nothing c.lead_in-back.result (c.lead_in-back.result ≡ Nothing) c.args.pad (λ all. refl)
    (changed_as (LedBy Nothing c.lead_in-back.result) (c.lead_in-back.result ≡ Nothing) c.args.pad c.args.task.head _ _ c.lead_in-back.new.head c.args.task.parts.items _ _ c.lead_in-back.new.parts.items c.into_parts-head.ensures.head (ap (λ (v : _). v.items) c.into_parts-head.ensures.parts) refl refl c.lead_in-back.ensures.changed)
    c.args.task.closed

pub returns-clause-changed : goal.returns-clause-changed
returns-clause-changed g c =
    changed_as (LedBy Nothing c.lead_in-back.result) (c.lead_in-back.result ≡ Nothing) c.args.pad c.args.task.head _ _ c.new.result.head c.args.task.parts.items _ _ c.new.result.parts.items c.into_parts-head.ensures.head (ap (λ (v : _). v.items) c.into_parts-head.ensures.parts) c.new.ensures.head
    (ap (λ (v : _). v.items) c.new.ensures.parts) c.lead_in-back.ensures.changed

pub returns-clause-ties : goal.returns-clause-ties
returns-clause-ties g c = λ m place eos t.
    unlinked_tied g.I.Inlet g.O.Outlet c.args.task.head c.new.result.head c.args.task.parts.items c.new.result.parts.items c.lead_in-back.result c.args.pad (returns-clause-changed g c) m place eos t

pub returns-clause-ready : goal.returns-clause-ready
returns-clause-ready g c = λ tells r.
    unlinked_ready g.I.Inlet g.O.Outlet tells c.args.task.head c.new.result.head c.args.task.parts.items c.new.result.parts.items c.lead_in-back.result c.args.pad (returns-clause-changed g c) r

pub returns-clause-moves : goal.returns-clause-moves
returns-clause-moves g c =
    changed_left g.I.Inlet c.args.task.head c.new.result.head c.args.task.parts.items c.new.result.parts.items (LedBy Nothing c.lead_in-back.result) (c.lead_in-back.result ≡ Nothing) c.args.pad (λ was is by. by.0.counted) (returns-clause-changed g c)

pub returns-clause-back : goal.returns-clause-back
returns-clause-back g c = λ one is.
    c.lead_in-back.ensures.back one
    (subst (λ (h : Head _ _ _ _). first_pad h c.into_parts-head.result.1.items c.args.pad ≡ Some one) (sym c.into_parts-head.ensures.head)
    (subst (λ (ps : List (Part _ _ _)). first_pad c.args.task.head ps c.args.pad ≡ Some one) (ap (λ (v : _). v.items) (sym c.into_parts-head.ensures.parts)) is))
