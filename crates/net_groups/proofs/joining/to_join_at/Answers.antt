use Rattle.std.proofs.Common.{arith, subst, sym}
use Rattle.std.proofs.lemmas.Option.{slice_get_within}
use Rattle.task_pads.proofs.Lists.{some_at}
use Rattle.task_parts.specs.declared.head.Head.{Head}
use Rattle.net_task.specs.Frame.{frame_of}
use Rattle.net_groups.specs.Joined.{lane_between, lane_there, one_task}
use Rattle.net_groups.specs.Lanes.{SendsToHead}
use Rattle.net_groups.specs.Places.{PadOf}
use Rattle.net_groups.proofs.Sending.{head_not_sent, head_sent, sends_into}
use Rattle.net_groups.proofs.joining.to_join_at.Goals as goal

pub bounds-tasks-from : goal.bounds-tasks-from
bounds-tasks-from g c = slice_get_within c.args.tasks.now c.args.from _ c.requires.fed.fed.at

pub offset_bounds-tasks-from : goal.offset_bounds-tasks-from
offset_bounds-tasks-from g c = let a = slice_get_within c.args.tasks.now c.args.from _ c.requires.fed.fed.at in omega (arith, a)

pub bounds-tasks-to : goal.bounds-tasks-to
bounds-tasks-to g c = slice_get_within c.args.tasks.now c.args.to _ c.requires.has.at

pub offset_bounds-tasks-to : goal.offset_bounds-tasks-to
offset_bounds-tasks-to g c = let a = slice_get_within c.args.tasks.now c.args.to _ c.requires.has.at in omega (arith, a)

pub returns-then-from-to-clause-none : goal.returns-then-from-to-clause-none
returns-then-from-to-clause-none g c = λ none. one_task c.args.from c.requires.fed (subst (λ (k : _). PadOf c.args.tasks.now k c.args.pad) (sym c.if-from-to.true) c.requires.has)

pub returns-then-sends_to_head-clause-none : goal.returns-then-sends_to_head-clause-none
returns-then-sends_to_head-clause-none g c = λ none.
    let z =
    head_sent c.args.tasks.now c.args.from c.args.to c.index-tasks-from.result c.index-tasks-to.result (some_at c.args.tasks.now c.args.from c.index-tasks-from.result (slice_get_within c.args.tasks.now c.args.from _ c.requires.fed.fed.at) c.index-tasks-from.is) (some_at c.args.tasks.now c.args.to c.index-tasks-to.result (slice_get_within c.args.tasks.now c.args.to _ c.requires.has.at) c.index-tasks-to.is)
    (subst (λ (h : Head _ _ _ _). SendsToHead (frame_of c.index-tasks-from.result) h) c.head.ensures (c.sends_to_head.ensures.sends c.if-sends_to_head.true)) in
    lane_between c.args.from c.args.to z.0 c.requires.fed c.requires.has z.1 c.if-from-to.false (sends_into c.args.tasks.now c.args.from z.0.number z.2)

pub returns-then-is_sent_to-clause-none : goal.returns-then-is_sent_to-clause-none
returns-then-is_sent_to-clause-none g c = λ none. let z = c.is_sent_to.ensures.sends c.if-is_sent_to.true in lane_there z.0 (sends_into c.args.tasks.now z.0 c.args.element z.1)

pub returns-clause-two : goal.returns-clause-two
returns-clause-two g c = record {
  fed = c.requires.fed;
  has = c.requires.has;
  two = c.if-from-to.false;
  between = head_not_sent c.args.tasks.now c.args.from c.args.to c.index-tasks-from.result c.index-tasks-to.result (some_at c.args.tasks.now c.args.from c.index-tasks-from.result (slice_get_within c.args.tasks.now c.args.from _ c.requires.fed.fed.at) c.index-tasks-from.is) (some_at c.args.tasks.now c.args.to c.index-tasks-to.result (slice_get_within c.args.tasks.now c.args.to _ c.requires.has.at) c.index-tasks-to.is)
      (λ sends. c.sends_to_head.ensures.none c.if-sends_to_head.false (subst (λ (h : Head _ _ _ _). SendsToHead (frame_of c.index-tasks-from.result) h) (sym c.head.ensures) sends));
  unsent = c.is_sent_to.ensures.none c.if-is_sent_to.false;
}
