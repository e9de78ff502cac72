use Rattle.std.proofs.Common.{List, ◌∙◌, arith, subst, sym}
use Rattle.flow_model.specs.Item.{Item}
use Rattle.task_edits.proofs.Feeds.{SoFar, none_left, so_far_all, so_far_calm, so_far_more, so_far_none, so_far_stopped}
use Rattle.task_edits.proofs.feeding.feed_part.Goals as goal

pub loop-item-init : goal.loop-item-init
loop-item-init g c = subst (λ (rest : List Item). SoFar c.args.part.now c.args.part.now c.args.pad c.args.items rest) (sym (c.from_vec-rest.ensures.items ∙ c.into_vec.ensures)) (so_far_none c.args.part.now c.args.pad c.args.items c.requires.calm)

pub feed-requires-clause-no_flush : goal.feed-requires-clause-no_flush
feed-requires-clause-no_flush g c κs within =
    so_far_calm c.args.part.now c.loop-item.part c.args.pad c.args.items c.in-Some.item c.pop_front.new.self.items
    (subst (λ (rest : List Item). SoFar c.args.part.now c.loop-item.part c.args.pad c.args.items rest) c.in-Some.ensures.items c.loop-item.invariant)

pub loop-item-preserved : goal.loop-item-preserved
loop-item-preserved g c =
    so_far_more c.args.part.now c.loop-item.part c.feed.new.self c.args.pad c.args.items c.in-Some.item c.pop_front.new.self.items
    (subst (λ (rest : List Item). SoFar c.args.part.now c.loop-item.part c.args.pad c.args.items rest) c.in-Some.ensures.items c.loop-item.invariant) c.in-Ok.ensures.fed c.feed.ensures.shape

pub returns-in-Err-clause-stopped : goal.returns-in-Err-clause-stopped
returns-in-Err-clause-stopped g c =
    so_far_stopped c.args.part.now c.loop-item.part c.feed.new.self c.args.pad c.args.items c.in-Some.item c.pop_front.new.self.items c.in-Err.refusal
    (subst (λ (rest : List Item). SoFar c.args.part.now c.loop-item.part c.args.pad c.args.items rest) c.in-Some.ensures.items c.loop-item.invariant) c.in-Err.ensures.fell

pub returns-clause-took : goal.returns-clause-took
returns-clause-took g c =
    so_far_all c.args.part.now c.loop-item.part c.args.pad c.args.items
    (subst (λ (rest : List Item). SoFar c.args.part.now c.loop-item.part c.args.pad c.args.items rest) (none_left c.loop-item.rest.items (let none = c.in_default.ensures.cases.0 in omega (arith, none, c.loop-item.rest.ok.0))) c.loop-item.invariant)
