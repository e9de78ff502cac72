use Rattle.std.proofs.Common.{List, [], ◌∙◌, arith, subst, sym}
use Rattle.flow_model.specs.Item.{Event, Item}
use Rattle.task_edits.proofs.Feeds.{none_left}
use Rattle.task_edits.proofs.StickyLists.{SoFarSticky, sticky_begins, sticky_ends, sticky_next}
use Rattle.task_edits.proofs.stickies.as_items.Goals as goal

pub loop-event-init : goal.loop-event-init
loop-event-init c =
    subst (λ (items : List Item). SoFarSticky c.args.events items c.from_vec-rest.result.items) (sym c.new-items.ensures)
    (subst (λ (rest : List Event). SoFarSticky c.args.events [] rest) (sym (c.from_vec-rest.ensures.items ∙ c.into_vec.ensures)) (sticky_begins c.args.events))

pub loop-event-preserved : goal.loop-event-preserved
loop-event-preserved c =
    sticky_next c.args.events c.loop-event.items c.push_sticky.new.items c.in-Some.event c.pop_front.new.self.items c.in_ok-push_sticky.ensures
    (subst (λ (rest : List Event). SoFarSticky c.args.events c.loop-event.items rest) c.in-Some.ensures.items c.loop-event.invariant)

pub returns-clause-all : goal.returns-clause-all
returns-clause-all c = λ sticky.
    sticky_ends c.args.events c.loop-event.items
    (subst (λ (rest : List Event). SoFarSticky c.args.events c.loop-event.items rest) (none_left c.loop-event.rest.items (let none = c.in_default.ensures.cases.0 in omega (arith, none, c.loop-event.rest.ok.0))) c.loop-event.invariant) sticky

pub returns-clause-calm : goal.returns-clause-calm
returns-clause-calm c = c.loop-event.invariant.calm
