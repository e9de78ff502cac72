use Rattle.std.proofs.Common.{◌∙◌, ◌≤◌, ◌⊎◌, arith, length, refl, subst, sym, vec_capacity}
use Rattle.std.proofs.lemmas.Option.{slice_get_within}
use Rattle.gst_value.proofs.Basics.{some_same}
use Rattle.task_pads.proofs.Lists.{some_at}
use Rattle.net_task.specs.declared.task.Task.{Task}
use Rattle.net_task.specs.Frame.{frame_of}
use Rattle.net_groups.specs.Behind.{IsBehind, IsEntered}
use Rattle.net_groups.specs.Splits.{TakesApart, number_in}
use Rattle.net_groups.proofs.Rooms.{cannot_split}
use Rattle.net_groups.proofs.splitting.to_part_at.Goals as goal

pub flags_of-requires-clause-room : goal.flags_of-requires-clause-room
flags_of-requires-clause-room g c κs within = subst (λ (t : Task _ _ _ _ _ _ _ _ _). length t.parts.items ≤ vec_capacity c.args.room.flags) (sym (some_same (sym (some_at c.args.tasks.now c.args.place c.index-tasks-place.result (slice_get_within c.args.tasks.now c.args.place c.requires.part.task c.requires.part.at) c.index-tasks-place.is) ∙ c.requires.part.at))) (c.requires.room c.args.place c.requires.part).flags.1

pub flags_of-requires-clause-empty : goal.flags_of-requires-clause-empty
flags_of-requires-clause-empty g c κs within = (c.requires.room c.args.place c.requires.part).flags.0

pub returns-in-Some-clause-parting : goal.returns-in-Some-clause-parting
returns-in-Some-clause-parting g c = record {
  part = c.requires.part;
  apart = subst (λ (t : Task _ _ _ _ _ _ _ _ _). TakesApart t c.args.element c.in-Some.flags.items) (some_same (sym (some_at c.args.tasks.now c.args.place c.index-tasks-place.result (slice_get_within c.args.tasks.now c.args.place c.requires.part.task c.requires.part.at) c.index-tasks-place.is) ∙ c.requires.part.at)) c.in-Some.ensures.apart;
  room = (c.requires.room c.args.place c.requires.part).halves;
}

pub returns-in-None-clause-none : goal.returns-in-None-clause-none
returns-in-None-clause-none g c = λ none. cannot_split c.args.tasks.now c.args.element c.args.place c.requires.part (subst (λ (t : Task _ _ _ _ _ _ _ _ _). IsBehind t.parts.items c.args.element (number_in t.head) ⊎ IsEntered (frame_of t) t.parts.items c.args.element) (some_same (sym (some_at c.args.tasks.now c.args.place c.index-tasks-place.result (slice_get_within c.args.tasks.now c.args.place c.requires.part.task c.requires.part.at) c.index-tasks-place.is) ∙ c.requires.part.at)) (c.in-None.ensures.none refl))

pub bounds-tasks-place : goal.bounds-tasks-place
bounds-tasks-place g c = slice_get_within c.args.tasks.now c.args.place c.requires.part.task c.requires.part.at

pub offset_bounds-tasks-place : goal.offset_bounds-tasks-place
offset_bounds-tasks-place g c = let a = slice_get_within c.args.tasks.now c.args.place c.requires.part.task c.requires.part.at in omega (arith, a)
