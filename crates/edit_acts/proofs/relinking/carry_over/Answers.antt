use Rattle.std.proofs.Common.{List, ap, sym, subst, ◌∙◌}
use Rattle.gst_item.specs.Item.{has_item}
use Rattle.net_task.specs.declared.task.Task.{Task}
use Rattle.net_turns.specs.Net.{NetReady}
use Rattle.net_edits.specs.Over.{NoneSends, opening_in}
use Rattle.edit_acts.proofs.Carried.{run_undone, run_with, to_keep}
use Rattle.edit_acts.proofs.Carrying.{ToldOver, none_over, over_ready, runs_over}
use Rattle.edit_acts.proofs.Ends.{either_way}
use Rattle.edit_acts.proofs.Files.{files_same, files_then, linked_over_files}
use Rattle.edit_acts.proofs.relinking.carry_over.Goals as goal

pub link_over-requires-clause-room : goal.link_over-requires-clause-room
link_over-requires-clause-room g c κs within = c.undo.ensures.row _ _ _ _ c.requires.room

told : (g : _) (c : goal.After-link_over g) → ToldOver c.link_over.result c.undo.new.tasks.items c.link_over.new.tasks.items c.args.prepared.pad c.args.to (opening_in c.args.room)
told g c = record { linked = c.link_over.ensures.linked; none = λ is. (c.link_over.ensures.none is).0; stands = c.link_over.ensures.stands; ready = c.link_over.ensures.ready; same = λ is. ap (λ (v : _). v.items) (c.link_over.ensures.none is).1 }

pub returns-clause-run : goal.returns-clause-run
returns-clause-run g c = λ graph edited m tells source ready was w lane.
    let mid = run_undone graph c.args.feeds.now c.args.tasks.now.items edited m tells source c.args.sink c.args.items w c.args.prepared.pad ready.number c.undo.new.tasks.items
    (c.undo.ensures.run edited m tells source (run_with graph c.args.feeds.now c.args.tasks.now.items edited m tells source c.args.sink c.args.items w c.args.prepared.pad ready.number)) in
    let ran = runs_over graph c.args.feeds.now c.args.tasks.now.items edited m tells source c.args.sink c.args.items w c.undo.new.tasks.items c.link_over.new.tasks.items c.args.to (opening_in c.args.room) c.link_over.result c.args.prepared.pad ready.number mid lane.leads
    (c.undo.ensures.lane tells c.args.to lane.new) lane.opens (told g c) in
    let kept = c.keep.ensures edited m.history source w.controlled.current.feeds_are
    (to_keep graph c.args.feeds.now c.args.tasks.now.items edited m tells source c.args.sink c.args.items w c.args.prepared.pad ready.number c.args.prepared.before c.opens-opened.result c.undo.new.tasks.items mid was
    (c.opens-opened.ensures ∙ ap has_item lane.opens.events)) in
    (ran.0, record { run = ran.1; feeds = kept })

pub returns-clause-ready : goal.returns-clause-ready
returns-clause-ready g c = λ tells ready new.
    over_ready c.undo.new.tasks.items c.link_over.new.tasks.items tells c.args.prepared.pad c.args.to (opening_in c.args.room) c.link_over.result (c.undo.ensures.ready tells ready) (c.undo.ensures.lane tells c.args.to new)
    (subst (λ (ts : List (Task _ _ _ _ _ _ _ _ _)). NoneSends ts c.args.to.element c.args.to.pad) c.as_slice.ensures.value (c.is_pad_sent_to.ensures.none c.if-is_pad_sent_to.false)) (told g c)

pub returns-clause-stays_ready : goal.returns-clause-stays_ready
returns-clause-stays_ready g c = λ is tells ready. subst (λ (ts : List (Task _ _ _ _ _ _ _ _ _)). NetReady ts tells) (sym ((told g c).same is)) (c.undo.ensures.ready tells ready)

pub returns-clause-files : goal.returns-clause-files
returns-clause-files g c =
    files_then c.args.tasks.now.items c.undo.new.tasks.items c.link_over.new.tasks.items c.undo.ensures.files
    (either_way c.link_over.result
    (λ is. linked_over_files c.undo.new.tasks.items c.link_over.new.tasks.items c.args.prepared.pad c.args.to (opening_in c.args.room) (c.link_over.ensures.linked is))
    (λ is. files_same c.undo.new.tasks.items c.link_over.new.tasks.items ((told g c).same is)))

pub returns-then-is_pad_sent_to-clause-run : goal.returns-then-is_pad_sent_to-clause-run
returns-then-is_pad_sent_to-clause-run g c = λ graph edited m tells source ready was w lane.
    let mid = run_undone graph c.args.feeds.now c.args.tasks.now.items edited m tells source c.args.sink c.args.items w c.args.prepared.pad ready.number c.undo.new.tasks.items
    (c.undo.ensures.run edited m tells source (run_with graph c.args.feeds.now c.args.tasks.now.items edited m tells source c.args.sink c.args.items w c.args.prepared.pad ready.number)) in
    let sent = c.is_pad_sent_to.ensures.sends c.if-is_pad_sent_to.true in
    let none = none_over graph c.args.feeds.now c.args.tasks.now.items edited m tells source c.args.sink c.args.items w c.undo.new.tasks.items c.args.to c.args.prepared.pad ready.number mid lane.leads in
    absurd (subst (λ (ts : List (Task _ _ _ _ _ _ _ _ _)). NoneSends ts c.args.to.element c.args.to.pad) (sym c.as_slice.ensures.value) none sent.0 sent.1.0 sent.1.1 sent.1.2 sent.1.3)

pub returns-then-is_pad_sent_to-clause-ready : goal.returns-then-is_pad_sent_to-clause-ready
returns-then-is_pad_sent_to-clause-ready g c = λ tells ready new. c.undo.ensures.ready tells ready

pub returns-then-is_pad_sent_to-clause-stays_ready : goal.returns-then-is_pad_sent_to-clause-stays_ready
returns-then-is_pad_sent_to-clause-stays_ready g c = λ is tells ready. c.undo.ensures.ready tells ready

pub returns-then-is_pad_sent_to-clause-files : goal.returns-then-is_pad_sent_to-clause-files
returns-then-is_pad_sent_to-clause-files g c = c.undo.ensures.files
