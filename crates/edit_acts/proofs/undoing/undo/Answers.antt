use Rattle.std.proofs.Common.{◌≢◌, false, ap, refl, subst, sym}
use Rattle.net_groups.specs.Splits.{TookItems, pads_of}
use Rattle.edit_acts.specs.Undoing.{HasRoomBehind, LeadsNoneInside}
use Rattle.edit_acts.proofs.Fits.{cut_fits, split_fits}
use Rattle.edit_acts.proofs.Laned.{cut_none, cut_room, split_none, split_room}
use Rattle.edit_acts.proofs.RowsMore.{new_among}
use Rattle.edit_acts.proofs.Undoes.{ToldSplit, room_then, split_run, told_ready, told_stands, took_beside, whole_run}
use Rattle.edit_acts.proofs.Unlinked.{AreCut, told_cut}
use Rattle.edit_acts.proofs.Files.{files_then, told_split, told_unlinked}
use Rattle.edit_acts.proofs.undoing.undo.Goals as goal

pub split_reserved-requires-clause-room : goal.split_reserved-requires-clause-room
split_reserved-requires-clause-room g c κs within =
    let cut : AreCut c.args.pad c.args.tasks.now.items c.unlink.new.tasks.items = told_cut c.args.pad c.args.tasks.now c.unlink.new.tasks c.unlink.result c.unlink.ensures.undone c.unlink.ensures.none in
    let room : HasRoomBehind c.args.tasks.now c.args.pad c.in-Split.element c.in-Split.room = rw c.in-Split.is at c.requires.room in
    room_then c.args.pad c.args.tasks.now c.unlink.new.tasks c.in-Split.element c.in-Split.room cut c.unlink.ensures.room c.unlink.ensures.count room.split

told : (g : _) (c : goal.After-split_reserved g) → ToldSplit c.split_reserved.result c.unlink.new.tasks.items c.split_reserved.new.tasks.items c.in-Split.element (pads_of c.in-Split.room)
told g c = record {
  stands = c.split_reserved.ensures.stands;
  ready = c.split_reserved.ensures.ready;
  split = c.split_reserved.ensures.split;
  none = λ is. (c.split_reserved.ensures.none is).0;
  same = λ is. ap (λ (v : _). v.items) (c.split_reserved.ensures.none is).1;
}

pub returns-in-Split-clause-run : goal.returns-in-Split-clause-run
returns-in-Split-clause-run g c = λ graph m tells source w.
    let cut : AreCut c.args.pad c.args.tasks.now.items c.unlink.new.tasks.items = told_cut c.args.pad c.args.tasks.now c.unlink.new.tasks c.unlink.result c.unlink.ensures.undone c.unlink.ensures.none in
    let room : HasRoomBehind c.args.tasks.now c.args.pad c.in-Split.element c.in-Split.room = rw c.in-Split.is at c.requires.room in
    split_run graph m c.args.tasks.now.items tells c.args.pad source w c.unlink.new.tasks.items cut false _ refl refl (c.unlink.ensures.stands m tells w.run.net) room.place _ room.leads c.split_reserved.result c.split_reserved.new.tasks.items _ room.row
    (told g c)

pub returns-in-Split-clause-stands : goal.returns-in-Split-clause-stands
returns-in-Split-clause-stands g c = λ m tells stands took.
    let room : HasRoomBehind c.args.tasks.now c.args.pad c.in-Split.element c.in-Split.room = rw c.in-Split.is at c.requires.room in
    told_stands c.split_reserved.result c.unlink.new.tasks.items c.split_reserved.new.tasks.items c.in-Split.element _ (told g c) _ tells (c.unlink.ensures.stands m tells stands)
    (subst (TookItems _ c.in-Split.element) (sym room.row) (took_beside c.args.tasks.now.items c.args.pad room.place _ m _ false took room.leads refl))

pub returns-in-Split-clause-ready : goal.returns-in-Split-clause-ready
returns-in-Split-clause-ready g c = λ tells ready. told_ready c.split_reserved.result c.unlink.new.tasks.items c.split_reserved.new.tasks.items c.in-Split.element _ (told g c) tells (c.unlink.ensures.ready tells ready)

pub returns-in-Split-clause-join : goal.returns-in-Split-clause-join
returns-in-Split-clause-join g c = λ element join other has.
    let cut : AreCut c.args.pad c.args.tasks.now.items c.unlink.new.tasks.items = told_cut c.args.pad c.args.tasks.now c.unlink.new.tasks c.unlink.result c.unlink.ensures.undone c.unlink.ensures.none in
    let apart : c.in-Split.element ≢ element = rw c.in-Split.is at other in
    split_fits c.split_reserved.result c.unlink.new.tasks.items c.split_reserved.new.tasks.items c.in-Split.element _ (told g c) c.args.pad element join apart
    (cut_fits c.args.pad c.args.tasks.now.items c.unlink.new.tasks.items cut c.args.pad element join has)

pub returns-in-Split-clause-row : goal.returns-in-Split-clause-row
returns-in-Split-clause-row g c = λ place element port more has.
    let cut : AreCut c.args.pad c.args.tasks.now.items c.unlink.new.tasks.items = told_cut c.args.pad c.args.tasks.now c.unlink.new.tasks c.unlink.result c.unlink.ensures.undone c.unlink.ensures.none in
    split_room c.split_reserved.result c.unlink.new.tasks.items c.split_reserved.new.tasks.items c.in-Split.element _ (told g c) place element port more
    (cut_room c.args.pad c.args.tasks.now.items c.unlink.new.tasks.items cut place element port more has)

pub returns-in-Split-clause-lane : goal.returns-in-Split-clause-lane
returns-in-Split-clause-lane g c = λ tells to new.
    let cut : AreCut c.args.pad c.args.tasks.now.items c.unlink.new.tasks.items = told_cut c.args.pad c.args.tasks.now c.unlink.new.tasks c.unlink.result c.unlink.ensures.undone c.unlink.ensures.none in
    new_among c.args.tasks.now.items c.split_reserved.new.tasks.items tells to
    (λ at none. split_none c.split_reserved.result c.unlink.new.tasks.items c.split_reserved.new.tasks.items c.in-Split.element _ (told g c) at (cut_none c.args.pad c.args.tasks.now.items c.unlink.new.tasks.items cut at none)) new

pub returns-in_default-clause-run : goal.returns-in_default-clause-run
returns-in_default-clause-run g c = λ graph m tells source w.
    let cut : AreCut c.args.pad c.args.tasks.now.items c.unlink.new.tasks.items = told_cut c.args.pad c.args.tasks.now c.unlink.new.tasks c.unlink.result c.unlink.ensures.undone c.unlink.ensures.none in
    let none : LeadsNoneInside c.args.tasks.now.items c.args.pad = rw c.in_default.is at c.requires.room in
    whole_run graph m c.args.tasks.now.items tells c.args.pad source w c.unlink.new.tasks.items cut false _ refl refl (c.unlink.ensures.stands m tells w.run.net) none

pub returns-in_default-clause-stands : goal.returns-in_default-clause-stands
returns-in_default-clause-stands g c = λ m tells stands took. c.unlink.ensures.stands m tells stands

pub returns-in_default-clause-join : goal.returns-in_default-clause-join
returns-in_default-clause-join g c = λ element join other has.
    let cut : AreCut c.args.pad c.args.tasks.now.items c.unlink.new.tasks.items = told_cut c.args.pad c.args.tasks.now c.unlink.new.tasks c.unlink.result c.unlink.ensures.undone c.unlink.ensures.none in
    cut_fits c.args.pad c.args.tasks.now.items c.unlink.new.tasks.items cut c.args.pad element join has

pub returns-in_default-clause-row : goal.returns-in_default-clause-row
returns-in_default-clause-row g c = λ place element port more has.
    let cut : AreCut c.args.pad c.args.tasks.now.items c.unlink.new.tasks.items = told_cut c.args.pad c.args.tasks.now c.unlink.new.tasks c.unlink.result c.unlink.ensures.undone c.unlink.ensures.none in
    cut_room c.args.pad c.args.tasks.now.items c.unlink.new.tasks.items cut place element port more has

pub returns-in_default-clause-lane : goal.returns-in_default-clause-lane
returns-in_default-clause-lane g c = λ tells to new.
    let cut : AreCut c.args.pad c.args.tasks.now.items c.unlink.new.tasks.items = told_cut c.args.pad c.args.tasks.now c.unlink.new.tasks c.unlink.result c.unlink.ensures.undone c.unlink.ensures.none in
    new_among c.args.tasks.now.items c.unlink.new.tasks.items tells to (λ at none. cut_none c.args.pad c.args.tasks.now.items c.unlink.new.tasks.items cut at none) new

pub returns-in-Split-clause-files : goal.returns-in-Split-clause-files
returns-in-Split-clause-files g c =
    files_then c.args.tasks.now.items c.unlink.new.tasks.items c.split_reserved.new.tasks.items
    (told_unlinked c.args.pad c.args.tasks.now c.unlink.new.tasks c.unlink.result c.unlink.ensures.undone c.unlink.ensures.none)
    (told_split c.split_reserved.result c.unlink.new.tasks.items c.split_reserved.new.tasks.items c.in-Split.element _ (told g c))

pub returns-in_default-clause-files : goal.returns-in_default-clause-files
returns-in_default-clause-files g c = told_unlinked c.args.pad c.args.tasks.now c.unlink.new.tasks c.unlink.result c.unlink.ensures.undone c.unlink.ensures.none
