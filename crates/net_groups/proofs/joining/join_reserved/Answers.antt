use Rattle.std.proofs.Common.{List, ap, arith, length, refl, subst, sym, ◌∙◌}
use Rattle.std.proofs.lemmas.Option.{slice_get_within}
use Rattle.gst_value.proofs.Basics.{some_same}
use Rattle.net_task.specs.declared.task.Task.{Task}
use Rattle.net_groups.specs.Joined.{CanJoinAt, CannotJoin}
use Rattle.net_groups.proofs.Joins.{joined_ready, joined_stands, joins}
use Rattle.net_groups.proofs.joining.join_reserved.Goals as goal

pub merge-requires-clause-from : goal.merge-requires-clause-from
merge-requires-clause-from g c κs within = let low = slice_get_within c.args.tasks.now.items c.in-Some.two.from _ (subst (λ (ts : List (Task _ _ _ _ _ _ _ _ _)). CanJoinAt ts c.args.pad c.args.element c.in-Some.two.from c.in-Some.two.to) c.as_slice.ensures.value c.in-Some.ensures.two).fed.fed.at in let size = c.args.tasks.now.ok.0 in omega (arith, low, size)

pub merge-requires-clause-to : goal.merge-requires-clause-to
merge-requires-clause-to g c κs within = let low = slice_get_within c.args.tasks.now.items c.in-Some.two.to _ (subst (λ (ts : List (Task _ _ _ _ _ _ _ _ _)). CanJoinAt ts c.args.pad c.args.element c.in-Some.two.from c.in-Some.two.to) c.as_slice.ensures.value c.in-Some.ensures.two).has.at in let size = c.args.tasks.now.ok.0 in omega (arith, low, size)

pub merge-requires-clause-room : goal.merge-requires-clause-room
merge-requires-clause-room g c κs within = λ gave was from_at to_at.
    let can = (subst (λ (ts : List (Task _ _ _ _ _ _ _ _ _)). CanJoinAt ts c.args.pad c.args.element c.in-Some.two.from c.in-Some.two.to) c.as_slice.ensures.value c.in-Some.ensures.two) in
    let a = ap (λ (t : Task _ _ _ _ _ _ _ _ _). length t.parts.items) (some_same (sym can.fed.fed.at ∙ from_at)) in
    let b = ap (λ (t : Task _ _ _ _ _ _ _ _ _). length t.parts.items) (some_same (sym can.has.at ∙ to_at)) in
    let room = c.requires.room.both c.in-Some.two.from c.in-Some.two.to can.fed can.has in
    omega (arith, a, b, room)

pub returns-in-Some-clause-joined : goal.returns-in-Some-clause-joined
returns-in-Some-clause-joined g c = λ is. joins c.args.tasks.now.items c.merge.new.tasks.items c.args.pad c.args.element c.in-Some.two.from c.in-Some.two.to (subst (λ (ts : List (Task _ _ _ _ _ _ _ _ _)). CanJoinAt ts c.args.pad c.args.element c.in-Some.two.from c.in-Some.two.to) c.as_slice.ensures.value c.in-Some.ensures.two) c.merge.ensures.merged

pub returns-in-Some-clause-stands : goal.returns-in-Some-clause-stands
returns-in-Some-clause-stands g c = λ is. joined_stands c.args.tasks.now.items c.merge.new.tasks.items c.args.pad c.args.element c.in-Some.two.from c.in-Some.two.to (subst (λ (ts : List (Task _ _ _ _ _ _ _ _ _)). CanJoinAt ts c.args.pad c.args.element c.in-Some.two.from c.in-Some.two.to) c.as_slice.ensures.value c.in-Some.ensures.two) c.merge.ensures.merged

pub returns-in-Some-clause-ready : goal.returns-in-Some-clause-ready
returns-in-Some-clause-ready g c = λ is. joined_ready c.args.tasks.now.items c.merge.new.tasks.items c.args.pad c.args.element c.in-Some.two.from c.in-Some.two.to (subst (λ (ts : List (Task _ _ _ _ _ _ _ _ _)). CanJoinAt ts c.args.pad c.args.element c.in-Some.two.from c.in-Some.two.to) c.as_slice.ensures.value c.in-Some.ensures.two) c.merge.ensures.merged

pub returns-in-None-clause-none : goal.returns-in-None-clause-none
returns-in-None-clause-none g c = λ is. (subst (λ (ts : List (Task _ _ _ _ _ _ _ _ _)). CannotJoin ts c.args.pad c.args.element) c.as_slice.ensures.value (c.in-None.ensures.none refl), refl)
