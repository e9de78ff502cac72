use Rattle.std.proofs.Common.{false, ap, ◌∙◌}
use Rattle.gst_item.specs.Item.{has_item}
use Rattle.flow_model.specs.Edit.{unlinked}
use Rattle.graph_edits.specs.Edited.{unlinked_at}
use Rattle.edit_core.proofs.Decided.{carry}
use Rattle.edit_acts.proofs.Carried.{carry_fault, may_at, opening_now, run_undone, run_with, runs, short, to_keep}
use Rattle.edit_acts.proofs.Files.{files_then}
use Rattle.edit_acts.proofs.relinking.carry_out.Goals as goal

pub link-requires-clause-room : goal.link-requires-clause-room
link-requires-clause-room g c κs within =
    let ready = c.requires.prepared.1 in
    record { join = c.undo.ensures.join c.args.sink.element c.args.room.join ready.apart c.requires.room.room.join; calm = c.requires.room.room.calm }

pub returns-clause-run : goal.returns-clause-run
returns-clause-run g c = carry c.link.result _ _
    (λ done told graph edited m tells source ready was w.
    let mid = run_undone graph c.args.feeds.now c.args.tasks.now.items edited m tells source c.args.sink c.args.items w c.args.prepared.pad ready.number c.undo.new.tasks.items
    (c.undo.ensures.run edited m tells source (run_with graph c.args.feeds.now c.args.tasks.now.items edited m tells source c.args.sink c.args.items w c.args.prepared.pad ready.number)) in
    let linked = told (unlinked_at source c.args.items false edited) (unlinked c.args.prepared.pad m) tells source c.args.sink mid
    (may_at graph c.args.feeds.now c.args.tasks.now.items edited m tells source c.args.sink c.args.items w c.args.prepared.pad ready.number c.args.room c.requires.room) in
    let kept = c.keep.ensures edited m.history source w.controlled.current.feeds_are
    (to_keep graph c.args.feeds.now c.args.tasks.now.items edited m tells source c.args.sink c.args.items w c.args.prepared.pad ready.number c.args.prepared.before c.opens-opened.result c.undo.new.tasks.items mid was
    (c.opens-opened.ensures ∙ ap has_item (opening_now graph c.args.feeds.now c.args.tasks.now.items edited m tells source c.args.sink c.args.items w c.args.prepared.pad ready.number c.args.room c.requires.room))) in
    (linked.0, runs graph c.args.feeds.now c.args.tasks.now.items edited m tells source c.args.sink c.args.items w c.args.prepared.pad ready.number c.args.room c.requires.room c.keep.new.feeds c.link.new.tasks.items linked.1 kept))
    c.link.ensures.run

pub returns-clause-faults : goal.returns-clause-faults
returns-clause-faults g c = carry_fault c.link.result _ _
    (λ stopped told graph edited m tells source ready w.
    let mid = run_undone graph c.args.feeds.now c.args.tasks.now.items edited m tells source c.args.sink c.args.items w c.args.prepared.pad ready.number c.undo.new.tasks.items
    (c.undo.ensures.run edited m tells source (run_with graph c.args.feeds.now c.args.tasks.now.items edited m tells source c.args.sink c.args.items w c.args.prepared.pad ready.number)) in
    short graph c.args.feeds.now c.args.tasks.now.items edited m tells source c.args.sink c.args.items w c.args.prepared.pad ready.number c.args.room c.requires.room c.undo.new.tasks.items c.link.new.tasks.items stopped mid told)
    c.link.ensures.faults

pub returns-clause-kept : goal.returns-clause-kept
returns-clause-kept g c = λ graph edited m tells source ready was w.
    let mid = run_undone graph c.args.feeds.now c.args.tasks.now.items edited m tells source c.args.sink c.args.items w c.args.prepared.pad ready.number c.undo.new.tasks.items
    (c.undo.ensures.run edited m tells source (run_with graph c.args.feeds.now c.args.tasks.now.items edited m tells source c.args.sink c.args.items w c.args.prepared.pad ready.number)) in
    c.keep.ensures edited m.history source w.controlled.current.feeds_are
    (to_keep graph c.args.feeds.now c.args.tasks.now.items edited m tells source c.args.sink c.args.items w c.args.prepared.pad ready.number c.args.prepared.before c.opens-opened.result c.undo.new.tasks.items mid was
    (c.opens-opened.ensures ∙ ap has_item (opening_now graph c.args.feeds.now c.args.tasks.now.items edited m tells source c.args.sink c.args.items w c.args.prepared.pad ready.number c.args.room c.requires.room)))

pub returns-clause-ready : goal.returns-clause-ready
returns-clause-ready g c = λ tells ready. c.link.ensures.ready tells (c.undo.ensures.ready tells ready)

pub returns-clause-files : goal.returns-clause-files
returns-clause-files g c = files_then c.args.tasks.now.items c.undo.new.tasks.items c.link.new.tasks.items c.undo.ensures.files c.link.ensures.files
