use Rattle.std.proofs.Common.{List, refl, subst}
use Rattle.net_task.specs.declared.task.Task.{Task}
use Rattle.net_edits.specs.Nets.{NoneHas, TaskHas}
use Rattle.net_edits.specs.Over.{CannotJoin}
use Rattle.net_edits.proofs.Linked.{linked_ready, linked_stands}
use Rattle.net_edits.proofs.over.link_over.Goals as goal

pub returns-in_default-clause-none : goal.returns-in_default-clause-none
returns-in_default-clause-none g c = λ none. (CannotJoin.no_pad (subst (λ (ts : List (Task _ _ _ _ _ _ _ _ _)). NoneHas ts c.args.pad) c.as_slice.ensures.value (c.in_default.ensures.none refl)), refl)

pub returns-then-sender-room-clause-none : goal.returns-then-sender-room-clause-none
returns-then-sender-room-clause-none g c = λ none. (
  CannotJoin.one_task c.args.room.receiver
      (subst (TaskHas c.args.tasks.now.items c.args.pad) c.if-sender-room.true (subst (λ (ts : List (Task _ _ _ _ _ _ _ _ _)). TaskHas ts c.args.pad c.in-Some.sender) c.as_slice.ensures.value c.in-Some.ensures.there))
      (c.requires.room.row, c.requires.room.has),
  refl,
)

pub link_between-requires-clause-sends : goal.link_between-requires-clause-sends
link_between-requires-clause-sends g c κs within = subst (λ (ts : List (Task _ _ _ _ _ _ _ _ _)). TaskHas ts c.args.pad c.in-Some.sender) c.as_slice.ensures.value c.in-Some.ensures.there

pub returns-clause-stands : goal.returns-clause-stands
returns-clause-stands g c = λ done m tells n new nowhere free opened. linked_stands c.args.tasks.now.items c.link_between.new.tasks.items c.args.pad c.args.to c.link_between.ensures.linked tells new m n nowhere free opened

pub returns-clause-ready : goal.returns-clause-ready
returns-clause-ready g c = λ done tells n new none. linked_ready c.args.tasks.now.items c.link_between.new.tasks.items c.args.pad c.args.to c.link_between.ensures.linked tells new none n
