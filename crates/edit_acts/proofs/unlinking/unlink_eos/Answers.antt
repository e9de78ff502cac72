use Rattle.std.proofs.Common.{◌<◌, List, ap, length, refl, subst, sym, true, ◌∙◌}
use Rattle.std.specs.Prelude.{Err}
use Rattle.net_edits.specs.declared.inside.EditFault.{EditFault}
use Rattle.net_task.specs.declared.task.Task.{Task}
use Rattle.net_turns.specs.Net.{NetReady}
use Rattle.graph_core.specs.GraphPlan.{pad_id}
use Rattle.edit_acts.proofs.Carried.{has_again}
use Rattle.edit_acts.proofs.Controls.{few, has_link, is_made, link_is}
use Rattle.edit_acts.proofs.EosControls.{crossed, ends_short, is_ended, roomy_with, wanting}
use Rattle.edit_acts.specs.Files.{KeepFiles}
use Rattle.edit_acts.proofs.Files.{files_same}
use Rattle.edit_acts.proofs.unlinking.unlink_eos.Goals as goal

-- a source pad with a link has a number
pub returns-in_default-clause-run : goal.returns-in_default-clause-run
returns-in_default-clause-run g c = λ graph m tells w.
    let low = is_made c.args.graph.now c.args.feeds.now c.args.tasks.now.items graph m tells c.args.source c.args.sink true c.args.items w in
    let there = subst (λ made. c.args.source.element < length made) (sym w.controlled.current.edited.elements) low in
    let told = c.source_number.ensures.there there (few c.args.graph.now c.args.feeds.now c.args.tasks.now.items graph m tells c.args.source c.args.sink true c.args.items w) in
    absurd (c.in_default.not-Some (pad_id c.args.source) told)

pub returns-in-Err-clause-faults : goal.returns-in-Err-clause-faults
returns-in-Err-clause-faults g c = λ graph m tells w.
    has_again c.args.graph.now c.args.graph.now c.args.feeds.now c.args.tasks.now.items c.room_to_undo.new.tasks.items graph m tells c.room_to_undo.ensures.items w.current.edited w

pub returns-in-Ok-true-clause-run : goal.returns-in-Ok-true-clause-run
returns-in-Ok-true-clause-run g c = λ graph m tells w.
    let number = c.in-Some.ensures.number in
    let with = roomy_with c.args.graph.now c.args.feeds.now c.args.tasks.now.items graph m tells c.args.source c.args.sink c.args.items w c.in-Some.pad number c.room_to_undo.new.tasks.items c.room_to_undo.ensures.items in
    let ran = c.in-Ok-true.ensures.runs c.in-Ok-true.field-0-test graph m tells c.args.source with in
    let kept = c.undo_kept.ensures.feeds graph m.history w.controlled.current.feeds_are w.controlled.current.kept number
    (crossed c.args.graph.now c.args.feeds.now c.args.tasks.now.items graph m tells c.args.source c.args.sink c.args.items w c.in-Some.pad number)
    (link_is c.args.graph.now c.args.feeds.now c.args.tasks.now.items graph m tells c.args.source c.args.sink true c.args.items w) in (
      refl,
      is_ended c.args.graph.now c.args.feeds.now c.args.tasks.now.items graph m tells c.args.source c.args.sink c.args.items w c.in-Some.pad number
          c.undo_kept.new.graph c.undo_kept.new.feeds c.end.new.tasks.items (c.undo_kept.ensures.graph graph w.controlled.current.edited) kept ran,
    )

pub returns-in-Ok-true-clause-graph : goal.returns-in-Ok-true-clause-graph
returns-in-Ok-true-clause-graph g c = λ done graph edited. c.undo_kept.ensures.graph graph edited

pub returns-in-Ok-false-clause-run : goal.returns-in-Ok-false-clause-run
returns-in-Ok-false-clause-run g c = λ graph m tells w.
    let number = c.in-Some.ensures.number in
    let with = roomy_with c.args.graph.now c.args.feeds.now c.args.tasks.now.items graph m tells c.args.source c.args.sink c.args.items w c.in-Some.pad number c.room_to_undo.new.tasks.items c.room_to_undo.ensures.items in
    absurd ((c.in-Ok-false.ensures.none c.in-Ok-false.field-0-test).0 graph m tells c.args.source with
    (has_link c.args.graph.now c.args.feeds.now c.args.tasks.now.items graph m tells c.args.source c.args.sink true c.args.items w c.in-Some.pad number))

pub returns-in-Ok-false-clause-none : goal.returns-in-Ok-false-clause-none
returns-in-Ok-false-clause-none g c = λ done. (refl, refl, (c.in-Ok-false.ensures.none c.in-Ok-false.field-0-test).1 ∙ c.room_to_undo.ensures.items)

pub returns-in-Err-Failed-clause-faults : goal.returns-in-Err-Failed-clause-faults
returns-in-Err-Failed-clause-faults g c = λ graph m tells w.
    let number = c.in-Some.ensures.number in
    let kept = c.undo_kept-in-Err-Failed.ensures.feeds graph m.history w.controlled.current.feeds_are w.controlled.current.kept number
    (crossed c.args.graph.now c.args.feeds.now c.args.tasks.now.items graph m tells c.args.source c.args.sink c.args.items w c.in-Some.pad number)
    (link_is c.args.graph.now c.args.feeds.now c.args.tasks.now.items graph m tells c.args.source c.args.sink true c.args.items w) in
    let short = rw c.in-Err-Failed.field-0-is at c.in-Err-Failed.ensures.faults in
    ends_short c.args.graph.now c.args.feeds.now c.args.tasks.now.items graph m tells c.args.source c.args.sink c.args.items w c.in-Some.pad number
    c.undo_kept-in-Err-Failed.new.graph c.undo_kept-in-Err-Failed.new.feeds c.room_to_undo.new.tasks.items c.end.new.tasks.items c.in-Err-Failed.stopped c.room_to_undo.ensures.items short (c.undo_kept-in-Err-Failed.ensures.graph graph w.controlled.current.edited) kept

pub returns-in-Err-OutOfMemory-clause-faults : goal.returns-in-Err-OutOfMemory-clause-faults
returns-in-Err-OutOfMemory-clause-faults g c =
    let kept = rw c.in-Err-OutOfMemory.field-0-is at c.in-Err-OutOfMemory.ensures.faults in
    wanting c.args.graph.now c.args.feeds.now c.args.tasks.now.items c.room_to_undo.new.tasks.items c.end.new.tasks.items c.room_to_undo.ensures.items kept (c.end.ensures.stays (c.in-Err-OutOfMemory.is ∙ ap (λ (why : EditFault). Err why) c.in-Err-OutOfMemory.field-0-is))

pub returns-in-Ok-true-clause-ready : goal.returns-in-Ok-true-clause-ready
returns-in-Ok-true-clause-ready g c = λ tells ready. c.end.ensures.ready tells (subst (λ (ts : List (Task _ _ _ _ _ _ _ _ _)). NetReady ts tells) (sym c.room_to_undo.ensures.items) ready)

pub returns-in-Err-Failed-clause-ready : goal.returns-in-Err-Failed-clause-ready
returns-in-Err-Failed-clause-ready g c = λ tells ready. c.end.ensures.ready tells (subst (λ (ts : List (Task _ _ _ _ _ _ _ _ _)). NetReady ts tells) (sym c.room_to_undo.ensures.items) ready)

pub returns-in-Err-OutOfMemory-clause-ready : goal.returns-in-Err-OutOfMemory-clause-ready
returns-in-Err-OutOfMemory-clause-ready g c = λ tells ready. c.end.ensures.ready tells (subst (λ (ts : List (Task _ _ _ _ _ _ _ _ _)). NetReady ts tells) (sym c.room_to_undo.ensures.items) ready)

pub returns-in_default-clause-files : goal.returns-in_default-clause-files
returns-in_default-clause-files g c = files_same c.args.tasks.now.items c.args.tasks.now.items refl

pub returns-in-Err-clause-files : goal.returns-in-Err-clause-files
returns-in-Err-clause-files g c = files_same c.args.tasks.now.items c.room_to_undo.new.tasks.items c.room_to_undo.ensures.items

pub returns-in-Ok-true-clause-files : goal.returns-in-Ok-true-clause-files
returns-in-Ok-true-clause-files g c = subst (λ (ts : List (Task _ _ _ _ _ _ _ _ _)). KeepFiles ts c.end.new.tasks.items) c.room_to_undo.ensures.items c.end.ensures.files

pub returns-in-Ok-false-clause-files : goal.returns-in-Ok-false-clause-files
returns-in-Ok-false-clause-files g c = subst (λ (ts : List (Task _ _ _ _ _ _ _ _ _)). KeepFiles ts c.end.new.tasks.items) c.room_to_undo.ensures.items c.end.ensures.files

pub returns-in-Err-Failed-clause-files : goal.returns-in-Err-Failed-clause-files
returns-in-Err-Failed-clause-files g c = subst (λ (ts : List (Task _ _ _ _ _ _ _ _ _)). KeepFiles ts c.end.new.tasks.items) c.room_to_undo.ensures.items c.end.ensures.files

pub returns-in-Err-OutOfMemory-clause-files : goal.returns-in-Err-OutOfMemory-clause-files
returns-in-Err-OutOfMemory-clause-files g c = subst (λ (ts : List (Task _ _ _ _ _ _ _ _ _)). KeepFiles ts c.end.new.tasks.items) c.room_to_undo.ensures.items c.end.ensures.files
