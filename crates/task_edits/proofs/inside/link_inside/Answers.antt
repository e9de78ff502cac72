use Rattle.std.proofs.Common.{◌≡◌, ap, refl, subst}
use Rattle.task_pads.specs.declared.pad.Behind.{Behind}
use Rattle.task_edits.specs.Changes.{Changed, LedBy}
use Rattle.task_edits.specs.Inside.{inside_behind}
use Rattle.task_edits.proofs.Acts.{changed_as, changed_left}
use Rattle.task_edits.proofs.Insides.{inside_closed, inside_ready, inside_tied}
use Rattle.task_edits.proofs.inside.link_inside.Goals as goal

pub new-requires-clause-closed : goal.new-requires-clause-closed
new-requires-clause-closed g c κs within =
    inside_closed g.I.Inlet g.O.Outlet c.args.task.head c.lead_in-back.new.head c.args.task.parts.items c.lead_in-back.new.parts.items c.args.to c.lead_in-back.result c.args.pad
    (changed_as (LedBy (inside_behind c.args.to) c.lead_in-back.result) (c.lead_in-back.result ≡ (inside_behind c.args.to)) c.args.pad c.args.task.head _ _ c.lead_in-back.new.head c.args.task.parts.items _ _ c.lead_in-back.new.parts.items c.into_parts-head.ensures.head (ap (λ (v : _). v.items) c.into_parts-head.ensures.parts) refl refl (subst (λ (b : Behind _). Changed (LedBy b c.lead_in-back.result) (c.lead_in-back.result ≡ b) c.args.pad c.into_parts-head.result.0 c.into_parts-head.result.1.items c.lead_in-back.new.head c.lead_in-back.new.parts.items) c.behind_of.ensures c.lead_in-back.ensures.changed))
    c.requires.there c.args.task.closed

pub returns-clause-changed : goal.returns-clause-changed
returns-clause-changed g c =
    changed_as (LedBy (inside_behind c.args.to) c.lead_in-back.result) (c.lead_in-back.result ≡ (inside_behind c.args.to)) c.args.pad c.args.task.head _ _ c.new.result.head c.args.task.parts.items _ _ c.new.result.parts.items c.into_parts-head.ensures.head (ap (λ (v : _). v.items) c.into_parts-head.ensures.parts) c.new.ensures.head
    (ap (λ (v : _). v.items) c.new.ensures.parts) (subst (λ (b : Behind _). Changed (LedBy b c.lead_in-back.result) (c.lead_in-back.result ≡ b) c.args.pad c.into_parts-head.result.0 c.into_parts-head.result.1.items c.lead_in-back.new.head c.lead_in-back.new.parts.items) c.behind_of.ensures c.lead_in-back.ensures.changed)

pub returns-clause-ties : goal.returns-clause-ties
returns-clause-ties g c = λ m from t can.
    inside_tied g.I.Inlet g.O.Outlet c.args.task.head c.new.result.head c.args.task.parts.items c.new.result.parts.items c.args.to c.lead_in-back.result c.args.pad (returns-clause-changed g c) m from t can

pub returns-clause-moves : goal.returns-clause-moves
returns-clause-moves g c =
    changed_left g.I.Inlet c.args.task.head c.new.result.head c.args.task.parts.items c.new.result.parts.items (LedBy (inside_behind c.args.to) c.lead_in-back.result) (c.lead_in-back.result ≡ (inside_behind c.args.to)) c.args.pad (λ was is by. by.0.counted) (returns-clause-changed g c)

pub returns-clause-ready : goal.returns-clause-ready
returns-clause-ready g c = λ tells r.
    inside_ready g.I.Inlet g.O.Outlet c.args.task.head c.new.result.head c.args.task.parts.items c.new.result.parts.items c.args.to c.lead_in-back.result c.args.pad (returns-clause-changed g c) tells r
