use Rattle.std.proofs.Common.{◌≡◌, ◌<◌, ℕ, List, false, length, ap, refl, subst, sym, ◌∙◌}
use Rattle.graph_core.specs.GraphPlan.{pad_id}
use Rattle.flow_model.specs.Edit.{unlinked}
use Rattle.net_task.specs.declared.task.Task.{Task}
use Rattle.graph_edits.specs.Edited.{unlinked_at}
use Rattle.edit_core.specs.Ways.{IsRun}
use Rattle.net_turns.specs.Net.{NetReady}
use Rattle.edit_acts.specs.Undoing.{IsRunWith}
use Rattle.edit_acts.proofs.Controls.{few, is_made, is_unlinked, items_is, link_is, run_with}
use Rattle.edit_acts.specs.Files.{KeepFiles}
use Rattle.edit_acts.proofs.Files.{files_same}
use Rattle.edit_acts.proofs.unlinking.unlink.Goals as goal

-- a source pad with a link has a number
pub returns-in_default-clause-run : goal.returns-in_default-clause-run
returns-in_default-clause-run g c = λ graph m tells w.
    let low = is_made c.args.graph.now c.args.feeds.now c.args.tasks.now.items graph m tells c.args.source c.args.sink false c.args.items w in
    let there = subst (λ made. c.args.source.element < length made) (sym w.controlled.current.edited.elements) low in
    let told = c.source_number.ensures.there there (few c.args.graph.now c.args.feeds.now c.args.tasks.now.items graph m tells c.args.source c.args.sink false c.args.items w) in
    absurd (c.in_default.not-Some (pad_id c.args.source) told)

pub returns-clause-run : goal.returns-clause-run
returns-clause-run g c = λ graph m tells w.
    let number : c.in-Some.pad ≡ pad_id c.args.source = c.in-Some.ensures.number in
    let as_told : IsRunWith graph m c.args.tasks.now.items tells c.in-Some.pad c.args.source =
    subst (λ (p : ℕ). IsRunWith graph m c.args.tasks.now.items tells p c.args.source) (sym number)
    (run_with c.args.graph.now c.args.feeds.now c.args.tasks.now.items graph m tells c.args.source c.args.sink false c.args.items w) in
    let with_room : IsRunWith graph m c.room_to_undo.new.tasks.items tells c.in-Some.pad c.args.source =
    subst (λ (ts : List (Task _ _ _ _ _ _ _ _ _)). IsRunWith graph m ts tells c.in-Some.pad c.args.source) (sym c.in_ok-room.ensures.items) as_told in
    let ran = subst (λ (p : ℕ). IsRun (unlinked_at c.args.source (length (m.history p)) false graph) (unlinked p m) c.undo.new.tasks.items tells) number (c.undo.ensures.run graph m tells c.args.source with_room) in
    let crossed = items_is c.args.graph.now c.args.feeds.now c.args.tasks.now.items graph m tells c.args.source c.args.sink false c.args.items w in
    let kept = c.undo_kept.ensures.feeds graph m.history w.controlled.current.feeds_are w.controlled.current.kept number (crossed ∙ ap (λ (p : ℕ). length (m.history p)) (sym number))
    (link_is c.args.graph.now c.args.feeds.now c.args.tasks.now.items graph m tells c.args.source c.args.sink false c.args.items w) in (
      refl,
      is_unlinked c.args.graph.now c.args.feeds.now c.args.tasks.now.items graph m tells c.args.source c.args.sink false c.args.items w (unlinked (pad_id c.args.source) m) refl refl
          c.undo_kept.new.graph c.undo_kept.new.feeds c.undo.new.tasks.items (c.undo_kept.ensures.graph graph w.controlled.current.edited) kept ran,
    )

pub returns-clause-graph : goal.returns-clause-graph
returns-clause-graph g c = λ done graph edited. c.undo_kept.ensures.graph graph edited

pub returns-clause-ready : goal.returns-clause-ready
returns-clause-ready g c = λ tells ready. c.undo.ensures.ready tells (subst (λ (ts : List (Task _ _ _ _ _ _ _ _ _)). NetReady ts tells) (sym c.in_ok-room.ensures.items) ready)

pub returns-in_default-clause-files : goal.returns-in_default-clause-files
returns-in_default-clause-files g c = files_same c.args.tasks.now.items c.args.tasks.now.items refl

pub returns-in_err-room-clause-files : goal.returns-in_err-room-clause-files
returns-in_err-room-clause-files g c = files_same c.args.tasks.now.items c.room_to_undo.new.tasks.items c.room_to_undo.ensures.items

pub returns-clause-files : goal.returns-clause-files
returns-clause-files g c = subst (λ (ts : List (Task _ _ _ _ _ _ _ _ _)). KeepFiles ts c.undo.new.tasks.items) c.room_to_undo.ensures.items c.undo.ensures.files
