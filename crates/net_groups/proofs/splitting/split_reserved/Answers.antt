use Rattle.std.proofs.Common.{List, ℕ, arith, refl, subst, sym}
use Rattle.net_task.specs.declared.task.Task.{Task}
use Rattle.net_groups.specs.Splits.{AreParting, CannotSplit, HasRoomBeside, IsPartedAt}
use Rattle.net_groups.proofs.Rooms.{can_part_at, parting_within, room_at, split_is, splits_ready, splits_stand}
use Rattle.net_groups.proofs.splitting.split_reserved.Goals as goal

pub part_off-requires-clause-place : goal.part_off-requires-clause-place
part_off-requires-clause-place g c κs within = let a = parting_within c.args.tasks.now.items c.args.element c.in-Some.parting (subst (λ (ts : List (Task _ _ _ _ _ _ _ _ _)). AreParting ts c.args.element c.in-Some.parting) c.as_slice.ensures.value c.in-Some.ensures.parting) in let size = c.args.tasks.now.ok.0 in omega (arith, a, size)

pub part_off-requires-clause-closed : goal.part_off-requires-clause-closed
part_off-requires-clause-closed g c κs within = can_part_at c.args.tasks.now.items c.args.element c.in-Some.parting (subst (λ (ts : List (Task _ _ _ _ _ _ _ _ _)). AreParting ts c.args.element c.in-Some.parting) c.as_slice.ensures.value c.in-Some.ensures.parting)

pub part_off-requires-clause-rooms : goal.part_off-requires-clause-rooms
part_off-requires-clause-rooms g c κs within = room_at c.args.tasks.now.items c.args.element c.in-Some.parting (subst (λ (ts : List (Task _ _ _ _ _ _ _ _ _)). AreParting ts c.args.element c.in-Some.parting) c.as_slice.ensures.value c.in-Some.ensures.parting)

pub returns-in-Some-clause-split : goal.returns-in-Some-clause-split
returns-in-Some-clause-split g c = λ is.
    split_is c.args.tasks.now.items c.args.element c.in-Some.parting (subst (λ (ts : List (Task _ _ _ _ _ _ _ _ _)). AreParting ts c.args.element c.in-Some.parting) c.as_slice.ensures.value c.in-Some.ensures.parting) c.part_off.new.tasks.items _
    (subst (λ (n : ℕ). IsPartedAt c.args.tasks.now.items c.part_off.new.tasks.items c.in-Some.parting.place c.in-Some.parting.flags.items c.args.element n) c.in-Some.ensures.pads c.part_off.ensures.parted)

pub returns-in-Some-clause-stands : goal.returns-in-Some-clause-stands
returns-in-Some-clause-stands g c = λ is.
    splits_stand c.args.tasks.now.items c.args.element c.in-Some.parting (subst (λ (ts : List (Task _ _ _ _ _ _ _ _ _)). AreParting ts c.args.element c.in-Some.parting) c.as_slice.ensures.value c.in-Some.ensures.parting) c.part_off.new.tasks.items _
    (subst (λ (n : ℕ). IsPartedAt c.args.tasks.now.items c.part_off.new.tasks.items c.in-Some.parting.place c.in-Some.parting.flags.items c.args.element n) c.in-Some.ensures.pads c.part_off.ensures.parted)

pub returns-in-Some-clause-ready : goal.returns-in-Some-clause-ready
returns-in-Some-clause-ready g c = λ is.
    splits_ready c.args.tasks.now.items c.args.element c.in-Some.parting (subst (λ (ts : List (Task _ _ _ _ _ _ _ _ _)). AreParting ts c.args.element c.in-Some.parting) c.as_slice.ensures.value c.in-Some.ensures.parting) c.part_off.new.tasks.items _
    (subst (λ (n : ℕ). IsPartedAt c.args.tasks.now.items c.part_off.new.tasks.items c.in-Some.parting.place c.in-Some.parting.flags.items c.args.element n) c.in-Some.ensures.pads c.part_off.ensures.parted)

pub returns-in-None-clause-none : goal.returns-in-None-clause-none
returns-in-None-clause-none g c = λ is. (subst (λ (ts : List (Task _ _ _ _ _ _ _ _ _)). CannotSplit ts c.args.element) c.as_slice.ensures.value (c.in-None.ensures.none refl), refl)

pub to_part-requires-clause-room : goal.to_part-requires-clause-room
to_part-requires-clause-room g c κs within = subst (λ (ts : List (Task _ _ _ _ _ _ _ _ _)). HasRoomBeside ts c.args.element c.args.room) (sym c.as_slice.ensures.value) c.requires.room.beside
