use Rattle.std.proofs.Common.{refl, sym, subst}
use Rattle.std.specs.Prelude.{IfErr, IfOk}
use Rattle.flow_model.specs.Moment.{Moment}
use Rattle.edit_core.specs.declared.deciding.Deed.{Deed}
use Rattle.edit_core.specs.declared.deciding.Deed.TheVariants.{Relink, Unlink}
use Rattle.graph_edits.specs.Edited.{Edited}
use Rattle.edit_acts.specs.Deeds.{DeedFails, IsDone, IsDue, StaysFor, TakesFor, WasDone}
use Rattle.edit_acts.specs.declared.doing.Outcome.{Outcome}
use Rattle.edit_acts.specs.declared.doing.Outcome.TheVariants.{Undone}
use Rattle.edit_acts.proofs.Carrying.{on_err}
use Rattle.edit_acts.proofs.Deeds.{done_told, failed_told, none_told, nothing_asked, relink_failed, relink_told, stays_told}
use Rattle.edit_acts.proofs.Files.{done_files, files_none, files_same}
use Rattle.edit_acts.proofs.doing.do_deed.Goals as goal

pub returns-in-Relink-clause-done : goal.returns-in-Relink-clause-done
returns-in-Relink-clause-done g c =
    subst
    (λ (d : Deed). IfOk c.told.result
    (λ (outcome : Outcome _ _ _ _ _ _ _ _ _). (graph : Edited) (m : Moment) (tells : _) → IsDue c.args.graph.now c.args.feeds.now c.args.tasks.now.items graph m tells d c.args.items
    → WasDone outcome × IsDone c.relink.new.graph c.relink.new.feeds c.relink.new.tasks.items graph m tells d c.args.items))
    (sym c.in-Relink.is)
    (done_told c.args.graph.now c.args.feeds.now c.args.tasks.now.items c.args.items c.relink.new.graph c.relink.new.feeds c.relink.new.tasks.items (Relink c.in-Relink.source c.in-Relink.sink) c.told.result c.relink.result c.told.ensures
    (relink_told c.args.graph.now c.args.feeds.now c.args.tasks.now.items c.in-Relink.source c.in-Relink.sink c.args.items c.relink.new.graph c.relink.new.feeds c.relink.new.tasks.items c.relink.result c.relink.ensures.run))

pub returns-in-Relink-clause-taken : goal.returns-in-Relink-clause-taken
returns-in-Relink-clause-taken g c =
    subst (λ (d : Deed). IfOk c.told.result (TakesFor c.args.tasks.now.items c.relink.new.tasks.items d)) (sym c.in-Relink.is)
    (none_told c.args.graph.now c.args.feeds.now c.args.tasks.now.items c.args.items c.relink.new.graph c.relink.new.feeds c.relink.new.tasks.items (Relink c.in-Relink.source c.in-Relink.sink) c.told.result c.relink.result c.told.ensures)

pub returns-in-Relink-clause-failed : goal.returns-in-Relink-clause-failed
returns-in-Relink-clause-failed g c =
    subst (λ (d : Deed). IfErr c.told.result (DeedFails c.args.graph.now c.args.feeds.now c.args.tasks.now.items c.relink.new.graph c.relink.new.feeds c.relink.new.tasks.items d c.args.items)) (sym c.in-Relink.is)
    (failed_told c.args.graph.now c.args.feeds.now c.args.tasks.now.items c.args.items c.relink.new.graph c.relink.new.feeds c.relink.new.tasks.items (Relink c.in-Relink.source c.in-Relink.sink) c.told.result c.relink.result c.told.ensures
    (relink_failed c.args.graph.now c.args.feeds.now c.args.tasks.now.items c.in-Relink.source c.in-Relink.sink c.args.items c.relink.new.graph c.relink.new.feeds c.relink.new.tasks.items c.relink.result c.relink.ensures.faults))

pub returns-in-Unlink-clause-done : goal.returns-in-Unlink-clause-done
returns-in-Unlink-clause-done g c =
    subst
    (λ (d : Deed). IfOk c.told-in-Unlink.result
    (λ (outcome : Outcome _ _ _ _ _ _ _ _ _). (graph : Edited) (m : Moment) (tells : _) → IsDue c.args.graph.now c.args.feeds.now c.args.tasks.now.items graph m tells d c.args.items
    → WasDone outcome × IsDone c.undo_link.new.graph c.undo_link.new.feeds c.undo_link.new.tasks.items graph m tells d c.args.items))
    (sym c.in-Unlink.is)
    (done_told c.args.graph.now c.args.feeds.now c.args.tasks.now.items c.args.items c.undo_link.new.graph c.undo_link.new.feeds c.undo_link.new.tasks.items (Unlink c.in-Unlink.source c.in-Unlink.sink c.in-Unlink.eos) c.told-in-Unlink.result c.undo_link.result c.told-in-Unlink.ensures
    c.undo_link.ensures.done)

pub returns-in-Unlink-clause-taken : goal.returns-in-Unlink-clause-taken
returns-in-Unlink-clause-taken g c =
    subst (λ (d : Deed). IfOk c.told-in-Unlink.result (TakesFor c.args.tasks.now.items c.undo_link.new.tasks.items d)) (sym c.in-Unlink.is)
    (none_told c.args.graph.now c.args.feeds.now c.args.tasks.now.items c.args.items c.undo_link.new.graph c.undo_link.new.feeds c.undo_link.new.tasks.items (Unlink c.in-Unlink.source c.in-Unlink.sink c.in-Unlink.eos) c.told-in-Unlink.result c.undo_link.result c.told-in-Unlink.ensures)

pub returns-in-Unlink-clause-failed : goal.returns-in-Unlink-clause-failed
returns-in-Unlink-clause-failed g c =
    subst (λ (d : Deed). IfErr c.told-in-Unlink.result (DeedFails c.args.graph.now c.args.feeds.now c.args.tasks.now.items c.undo_link.new.graph c.undo_link.new.feeds c.undo_link.new.tasks.items d c.args.items)) (sym c.in-Unlink.is)
    (failed_told c.args.graph.now c.args.feeds.now c.args.tasks.now.items c.args.items c.undo_link.new.graph c.undo_link.new.feeds c.undo_link.new.tasks.items (Unlink c.in-Unlink.source c.in-Unlink.sink c.in-Unlink.eos) c.told-in-Unlink.result c.undo_link.result c.told-in-Unlink.ensures
    c.undo_link.ensures.failed)

pub returns-in-Remove-clause-done : goal.returns-in-Remove-clause-done
returns-in-Remove-clause-done g c =
    subst
    (λ (d : Deed). (graph : Edited) (m : Moment) (tells : _) → IsDue c.args.graph.now c.args.feeds.now c.args.tasks.now.items graph m tells d c.args.items
    → WasDone c.take_away.result × IsDone c.take_away.new.graph c.args.feeds.now c.take_away.new.tasks.items graph m tells d c.args.items)
    (sym c.in-Remove.is) (λ graph m tells w. c.take_away.ensures.done c.args.feeds.now graph m tells c.args.items w)

pub returns-in-Remove-clause-taken : goal.returns-in-Remove-clause-taken
returns-in-Remove-clause-taken g c = subst (λ (d : Deed). TakesFor c.args.tasks.now.items c.take_away.new.tasks.items d c.take_away.result) (sym c.in-Remove.is) c.take_away.ensures.taken

pub returns-in-Relink-clause-files : goal.returns-in-Relink-clause-files
returns-in-Relink-clause-files g c = done_files c.args.tasks.now.items c.relink.new.tasks.items c.told.result c.relink.result c.told.ensures c.relink.ensures.files

pub returns-in-Relink-clause-files_failed : goal.returns-in-Relink-clause-files_failed
returns-in-Relink-clause-files_failed g c = on_err c.told.result c.relink.ensures.files

pub returns-in-Unlink-clause-files : goal.returns-in-Unlink-clause-files
returns-in-Unlink-clause-files g c = done_files c.args.tasks.now.items c.undo_link.new.tasks.items c.told-in-Unlink.result c.undo_link.result c.told-in-Unlink.ensures c.undo_link.ensures.files

pub returns-in-Unlink-clause-files_failed : goal.returns-in-Unlink-clause-files_failed
returns-in-Unlink-clause-files_failed g c = on_err c.told-in-Unlink.result c.undo_link.ensures.files

pub returns-in-Add-clause-files : goal.returns-in-Add-clause-files
returns-in-Add-clause-files g c = files_none c.args.tasks.now.items c.args.tasks.now.items (files_same c.args.tasks.now.items c.args.tasks.now.items refl)

pub returns-in-Remove-clause-files : goal.returns-in-Remove-clause-files
returns-in-Remove-clause-files g c = c.take_away.ensures.files

pub returns-in-Relink-clause-stays : goal.returns-in-Relink-clause-stays
returns-in-Relink-clause-stays g c =
    subst (λ (d : Deed). IfOk c.told.result (StaysFor c.args.graph.now c.args.feeds.now c.args.tasks.now.items c.relink.new.graph c.relink.new.feeds c.relink.new.tasks.items d)) (sym c.in-Relink.is) (nothing_asked c.told.result)

pub returns-in-Unlink-clause-stays : goal.returns-in-Unlink-clause-stays
returns-in-Unlink-clause-stays g c =
    subst (λ (d : Deed). IfOk c.told-in-Unlink.result (StaysFor c.args.graph.now c.args.feeds.now c.args.tasks.now.items c.undo_link.new.graph c.undo_link.new.feeds c.undo_link.new.tasks.items d)) (sym c.in-Unlink.is)
    (stays_told c.args.graph.now c.args.feeds.now c.args.tasks.now.items c.args.items c.undo_link.new.graph c.undo_link.new.feeds c.undo_link.new.tasks.items (Unlink c.in-Unlink.source c.in-Unlink.sink c.in-Unlink.eos) c.told-in-Unlink.result c.undo_link.result c.told-in-Unlink.ensures
    c.undo_link.ensures.none)

pub returns-in-Add-clause-stays : goal.returns-in-Add-clause-stays
returns-in-Add-clause-stays g c =
    let undone : Outcome _ _ _ _ _ _ _ _ _ = Undone in
    subst (λ (d : Deed). StaysFor c.args.graph.now c.args.feeds.now c.args.tasks.now.items c.args.graph.now c.args.feeds.now c.args.tasks.now.items d undone) (sym c.in-Add.is) (refl, refl, refl)

pub returns-in-Remove-clause-stays : goal.returns-in-Remove-clause-stays
returns-in-Remove-clause-stays g c =
    subst (λ (d : Deed). StaysFor c.args.graph.now c.args.feeds.now c.args.tasks.now.items c.take_away.new.graph c.args.feeds.now c.take_away.new.tasks.items d c.take_away.result) (sym c.in-Remove.is) (c.take_away.ensures.stays c.args.feeds.now)
