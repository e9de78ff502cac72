use Rattle.std.proofs.Common.{ap}
use Rattle.net_groups.specs.Splits.{pads_of}
use Rattle.edit_acts.proofs.Ends.{ended_cut, inside_ends, inside_link}
use Rattle.edit_acts.proofs.Undoes.{ToldSplit, room_then, told_ready}
use Rattle.edit_acts.proofs.Files.{ended_files, files_same, files_then, not_ended_files, told_split}
use Rattle.edit_acts.proofs.ending.end_behind.Goals as goal

pub split_reserved-requires-clause-room : goal.split_reserved-requires-clause-room
split_reserved-requires-clause-room g c κs within =
    room_then c.args.pad c.args.tasks.now c.end_inside.new.tasks c.args.element c.args.room (ended_cut c.args.tasks.now.items c.end_inside.new.tasks.items c.args.pad (c.in-Ok-true.ensures.ended c.in-Ok-true.field-0-test)) c.end_inside.ensures.room c.end_inside.ensures.count c.requires.room.split

told : (g : _) (c : goal.After-split_reserved g) → ToldSplit c.split_reserved.result c.end_inside.new.tasks.items c.split_reserved.new.tasks.items c.args.element (pads_of c.args.room)
told g c = record {
  stands = c.split_reserved.ensures.stands;
  ready = c.split_reserved.ensures.ready;
  split = c.split_reserved.ensures.split;
  none = λ no. (c.split_reserved.ensures.none no).0;
  same = λ no. ap (λ (v : _). v.items) (c.split_reserved.ensures.none no).1;
}

pub returns-in-Ok-true-clause-runs : goal.returns-in-Ok-true-clause-runs
returns-in-Ok-true-clause-runs g c = λ is.
    inside_ends c.args.tasks.now.items c.end_inside.new.tasks.items c.split_reserved.new.tasks.items c.args.pad c.requires.room.place _ c.split_reserved.result _
    (ended_cut c.args.tasks.now.items c.end_inside.new.tasks.items c.args.pad (c.in-Ok-true.ensures.ended c.in-Ok-true.field-0-test)) (c.in-Ok-true.ensures.stands c.in-Ok-true.field-0-test) c.requires.room.leads c.requires.room.row (told g c)

pub returns-in-Ok-true-clause-ready : goal.returns-in-Ok-true-clause-ready
returns-in-Ok-true-clause-ready g c = λ tells ready. told_ready c.split_reserved.result c.end_inside.new.tasks.items c.split_reserved.new.tasks.items c.args.element _ (told g c) tells (c.end_inside.ensures.ready tells ready)

pub returns-in-Ok-false-clause-none : goal.returns-in-Ok-false-clause-none
returns-in-Ok-false-clause-none g c = λ is. (
  inside_link c.args.tasks.now.items c.args.pad c.requires.room.place _ c.requires.room.leads (c.in-Ok-false.ensures.none c.in-Ok-false.field-0-test).0,
  ap (λ (v : _). v.items) (c.in-Ok-false.ensures.none c.in-Ok-false.field-0-test).1,
)

pub returns-in-Ok-true-clause-files : goal.returns-in-Ok-true-clause-files
returns-in-Ok-true-clause-files g c =
    files_then c.args.tasks.now.items c.end_inside.new.tasks.items c.split_reserved.new.tasks.items
    (ended_files c.args.tasks.now.items c.end_inside.new.tasks.items c.args.pad (c.in-Ok-true.ensures.ended c.in-Ok-true.field-0-test))
    (told_split c.split_reserved.result c.end_inside.new.tasks.items c.split_reserved.new.tasks.items c.args.element _ (told g c))

pub returns-in-Ok-false-clause-files : goal.returns-in-Ok-false-clause-files
returns-in-Ok-false-clause-files g c = files_same c.args.tasks.now.items c.end_inside.new.tasks.items (ap (λ (v : _). v.items) (c.in-Ok-false.ensures.none c.in-Ok-false.field-0-test).1)

pub returns-in-Err-clause-files : goal.returns-in-Err-clause-files
returns-in-Err-clause-files g c = not_ended_files c.args.tasks.now.items c.end_inside.new.tasks.items c.args.pad c.in-Err.fault c.in-Err.ensures.faults
