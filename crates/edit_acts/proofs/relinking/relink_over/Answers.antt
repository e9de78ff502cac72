use Rattle.std.proofs.Common.{ℕ, List, true, refl, subst, sym}
use Rattle.net_task.specs.declared.task.Task.{Task}
use Rattle.net_turns.specs.Net.{NetReady}
use Rattle.net_edits.specs.Over.{HasRoomOver, IsNewLane, OpensNow, opening_in}
use Rattle.edit_acts.specs.Relinked.{IsToRelink, relinked_over}
use Rattle.edit_acts.proofs.Apart.{low}
use Rattle.edit_acts.proofs.Carried.{has_again, has_relinked}
use Rattle.edit_acts.proofs.Carrying.{can_join, not_done, on_err, still_to_relink}
use Rattle.edit_acts.proofs.Deeds.{no_sink, no_source, relink_over_done, source_made}
use Rattle.edit_acts.proofs.RowsMore.{kept_controlled, kept_new}
use Rattle.edit_acts.specs.Files.{KeepFiles}
use Rattle.edit_acts.proofs.Files.{files_same, files_then, kept_files}
use Rattle.edit_acts.proofs.relinking.relink_over.Goals as goal

pub returns-in_default-clause-run : goal.returns-in_default-clause-run
returns-in_default-clause-run g c = λ graph m tells w new.
    absurd (c.in_default.not-Some _ (c.source_number.ensures.there (source_made c.args.graph.now c.args.feeds.now c.args.tasks.now.items graph m tells c.args.source c.args.sink c.args.items w)
    (low c.args.graph.now c.args.feeds.now c.args.tasks.now.items graph m tells c.args.source c.args.sink c.args.items w)))

pub returns-in_default-2-clause-run : goal.returns-in_default-2-clause-run
returns-in_default-2-clause-run g c = λ graph m tells w new.
    absurd (can_join c.args.graph.now c.args.feeds.now c.args.tasks.now.items graph m tells c.args.source c.args.sink c.args.items w c.in-Some.pad c.in-Some.ensures.number (c.in_ok-room.ensures.none c.in_default-2.is))

pub returns-in_err-room-clause-stays : goal.returns-in_err-room-clause-stays
returns-in_err-room-clause-stays g c = on_err c.from_residual.result
    (λ graph m tells w.
    kept_controlled c.args.graph.now c.args.feeds.now c.args.tasks.now.items c.room_to_link_over.new.tasks.items graph m tells c.room_to_link_over.ensures.kept (c.room_to_link_over.ensures.stays m tells w.run.net) w)

pub carry_over-requires-clause-room : goal.carry_over-requires-clause-room
carry_over-requires-clause-room g c κs within =
    let there = rw c.in-Some-2.is at c.in_ok-room.ensures.there in
    subst (λ (n : ℕ). HasRoomOver c.prepare.new.tasks.items n c.args.to.pad c.in-Some-2.room) (sym c.requires.leads.element)
    (subst (λ (k : ℕ). HasRoomOver c.prepare.new.tasks.items c.args.sink.element k c.in-Some-2.room) (sym c.requires.leads.pad)
    (subst (λ (ts : List (Task _ _ _ _ _ _ _ _ _)). HasRoomOver ts c.args.sink.element c.args.sink.pad c.in-Some-2.room) (sym c.prepare.ensures.tasks) there))

pub returns-in-Some-3-clause-run : goal.returns-in-Some-3-clause-run
returns-in-Some-3-clause-run g c = λ graph m tells w fresh.
    let ready = rw c.in-Some-3.is at c.in_ok-prepared.ensures.prepared in
    let number = rw c.in-Some-3.is at c.in_ok-prepared.ensures.pad in
    let new = rw c.in-Some-3.is at c.in_ok-prepared.ensures.link in
    let opens = rw c.in-Some-2.is at c.in_ok-room.ensures.opening in
    let net = c.room_to_link_over.ensures.stays m tells w.controlled.run.net in
    let still = still_to_relink c.args.graph.now c.args.feeds.now c.args.tasks.now.items graph m tells c.args.source c.args.sink c.args.items w c.room_to_link_over.new.tasks.items c.room_to_link_over.ensures.kept net in
    let lane = kept_new c.args.tasks.now.items c.room_to_link_over.new.tasks.items c.room_to_link_over.ensures.kept tells c.args.to fresh in
    let same = subst (λ (ts : List (Task _ _ _ _ _ _ _ _ _)). IsToRelink c.args.graph.now c.args.feeds.now ts graph m tells c.args.source c.args.sink c.args.items true) (sym c.prepare.ensures.tasks) still in
    let ran = c.carry_over.ensures.run c.args.graph.now graph m tells c.args.source ready (new.was graph w.controlled.current.edited) same
    (record {
      new = subst (λ (ts : List (Task _ _ _ _ _ _ _ _ _)). IsNewLane tells ts c.args.to) (sym c.prepare.ensures.tasks) lane;
      leads = c.requires.leads;
      opens = subst (λ (p : ℕ). OpensNow m p (opening_in c.in-Some-2.room)) (sym number) (opens m tells w.controlled.run.net);
    }) in (
      ran.0,
      has_relinked c.args.graph.now c.args.feeds.now c.args.tasks.now.items graph m tells c.args.source c.args.sink c.args.items w
          c.prepare.new.graph c.carry_over.new.feeds c.carry_over.new.tasks.items c.in-Some-3.prepared.before (relinked_over c.args.source c.args.sink m) new refl refl ran.1.run ran.1.feeds,
    )

pub returns-in-None-clause-run : goal.returns-in-None-clause-run
returns-in-None-clause-run g c = λ graph m tells w fresh.
    let net = c.room_to_link_over.ensures.stays m tells w.controlled.run.net in
    let still = still_to_relink c.args.graph.now c.args.feeds.now c.args.tasks.now.items graph m tells c.args.source c.args.sink c.args.items w c.room_to_link_over.new.tasks.items c.room_to_link_over.ensures.kept net in
    absurd (c.in_ok-prepared.ensures.none c.in-None.is c.args.feeds.now graph m tells c.args.items true still)

pub returns-in_err-prepared-clause-stays : goal.returns-in_err-prepared-clause-stays
returns-in_err-prepared-clause-stays g c = on_err c.from_residual-in_err-prepared.result
    (λ graph m tells w.
    has_again c.args.graph.now c.prepare.new.graph c.args.feeds.now c.room_to_link_over.new.tasks.items c.prepare.new.tasks.items graph m tells c.prepare.ensures.tasks (c.in_err-prepared.ensures.stays graph w.current.edited)
    (kept_controlled c.args.graph.now c.args.feeds.now c.args.tasks.now.items c.room_to_link_over.new.tasks.items graph m tells c.room_to_link_over.ensures.kept (c.room_to_link_over.ensures.stays m tells w.run.net) w))

pub returns-then-source-count-clause-run : goal.returns-then-source-count-clause-run
returns-then-source-count-clause-run g c = λ graph m tells w new.
    absurd (no_source c.args.graph.now c.args.feeds.now c.args.tasks.now.items graph m tells c.args.source c.args.sink c.args.items w c.count-count.result c.count-count.ensures.made c.if-source-count.true)

pub returns-then-sink-count-clause-run : goal.returns-then-sink-count-clause-run
returns-then-sink-count-clause-run g c = λ graph m tells w new.
    absurd (no_sink c.args.graph.now c.args.feeds.now c.args.tasks.now.items graph m tells c.args.source c.args.sink c.args.items w c.count-count.result c.count-count.ensures.made c.if-sink-count.true)

pub returns-in_default-2-clause-ready : goal.returns-in_default-2-clause-ready
returns-in_default-2-clause-ready g c = λ tells ready new. c.room_to_link_over.ensures.stays_ready tells ready

pub returns-in_default-2-clause-stays_ready : goal.returns-in_default-2-clause-stays_ready
returns-in_default-2-clause-stays_ready g c = λ other tells ready. c.room_to_link_over.ensures.stays_ready tells ready

pub returns-in_err-room-clause-ready : goal.returns-in_err-room-clause-ready
returns-in_err-room-clause-ready g c = λ tells ready new. c.room_to_link_over.ensures.stays_ready tells ready

pub returns-in_err-room-clause-stays_ready : goal.returns-in_err-room-clause-stays_ready
returns-in_err-room-clause-stays_ready g c = λ other tells ready. c.room_to_link_over.ensures.stays_ready tells ready

pub returns-in-Some-3-clause-ready : goal.returns-in-Some-3-clause-ready
returns-in-Some-3-clause-ready g c = λ tells ready fresh.
    let lane = kept_new c.args.tasks.now.items c.room_to_link_over.new.tasks.items c.room_to_link_over.ensures.kept tells c.args.to fresh in
    c.carry_over.ensures.ready tells (subst (λ (ts : List (Task _ _ _ _ _ _ _ _ _)). NetReady ts tells) (sym c.prepare.ensures.tasks) (c.room_to_link_over.ensures.stays_ready tells ready))
    (subst (λ (ts : List (Task _ _ _ _ _ _ _ _ _)). IsNewLane tells ts c.args.to) (sym c.prepare.ensures.tasks) lane)

pub returns-in-Some-3-clause-stays_ready : goal.returns-in-Some-3-clause-stays_ready
returns-in-Some-3-clause-stays_ready g c = λ other tells ready.
    c.carry_over.ensures.stays_ready (not_done c.carry_over.result _ refl other) tells
    (subst (λ (ts : List (Task _ _ _ _ _ _ _ _ _)). NetReady ts tells) (sym c.prepare.ensures.tasks) (c.room_to_link_over.ensures.stays_ready tells ready))

pub returns-in-None-clause-ready : goal.returns-in-None-clause-ready
returns-in-None-clause-ready g c = λ tells ready new.
    subst (λ (ts : List (Task _ _ _ _ _ _ _ _ _)). NetReady ts tells) (sym c.prepare.ensures.tasks) (c.room_to_link_over.ensures.stays_ready tells ready)

pub returns-in-None-clause-stays_ready : goal.returns-in-None-clause-stays_ready
returns-in-None-clause-stays_ready g c = λ other tells ready.
    subst (λ (ts : List (Task _ _ _ _ _ _ _ _ _)). NetReady ts tells) (sym c.prepare.ensures.tasks) (c.room_to_link_over.ensures.stays_ready tells ready)

pub returns-in_err-prepared-clause-ready : goal.returns-in_err-prepared-clause-ready
returns-in_err-prepared-clause-ready g c = λ tells ready new.
    subst (λ (ts : List (Task _ _ _ _ _ _ _ _ _)). NetReady ts tells) (sym c.prepare.ensures.tasks) (c.room_to_link_over.ensures.stays_ready tells ready)

pub returns-in_err-prepared-clause-stays_ready : goal.returns-in_err-prepared-clause-stays_ready
returns-in_err-prepared-clause-stays_ready g c = λ other tells ready.
    subst (λ (ts : List (Task _ _ _ _ _ _ _ _ _)). NetReady ts tells) (sym c.prepare.ensures.tasks) (c.room_to_link_over.ensures.stays_ready tells ready)

pub returns-in_default-clause-done : goal.returns-in_default-clause-done
returns-in_default-clause-done g c = λ graph m tells w new. let ran = returns-in_default-clause-run g c graph m tells w new in absurd (let same = ran.0 in cc)

pub returns-in_default-2-clause-done : goal.returns-in_default-2-clause-done
returns-in_default-2-clause-done g c = λ graph m tells w new. let ran = returns-in_default-2-clause-run g c graph m tells w new in absurd (let same = ran.0 in cc)

pub returns-in-None-clause-done : goal.returns-in-None-clause-done
returns-in-None-clause-done g c = λ graph m tells w new. let ran = returns-in-None-clause-run g c graph m tells w new in absurd (let same = ran.0 in cc)

pub returns-then-source-count-clause-done : goal.returns-then-source-count-clause-done
returns-then-source-count-clause-done g c = λ graph m tells w new. let ran = returns-then-source-count-clause-run g c graph m tells w new in absurd (let same = ran.0 in cc)

pub returns-then-sink-count-clause-done : goal.returns-then-sink-count-clause-done
returns-then-sink-count-clause-done g c = λ graph m tells w new. let ran = returns-then-sink-count-clause-run g c graph m tells w new in absurd (let same = ran.0 in cc)

pub returns-in-Some-3-clause-done : goal.returns-in-Some-3-clause-done
returns-in-Some-3-clause-done g c = λ graph m tells w fresh.
    relink_over_done c.args.graph.now c.args.feeds.now c.args.tasks.now.items graph m tells c.args.source c.args.sink c.args.items c.prepare.new.graph c.carry_over.new.feeds c.carry_over.new.tasks.items
    (returns-in-Some-3-clause-run g c graph m tells w fresh).1

pub returns-then-source-count-clause-files : goal.returns-then-source-count-clause-files
returns-then-source-count-clause-files g c = files_same c.args.tasks.now.items c.args.tasks.now.items refl

pub returns-then-sink-count-clause-files : goal.returns-then-sink-count-clause-files
returns-then-sink-count-clause-files g c = files_same c.args.tasks.now.items c.args.tasks.now.items refl

pub returns-in_default-clause-files : goal.returns-in_default-clause-files
returns-in_default-clause-files g c = files_same c.args.tasks.now.items c.args.tasks.now.items refl

pub returns-in_default-2-clause-files : goal.returns-in_default-2-clause-files
returns-in_default-2-clause-files g c = kept_files c.args.tasks.now.items c.room_to_link_over.new.tasks.items c.room_to_link_over.ensures.kept

pub returns-in_err-room-clause-files : goal.returns-in_err-room-clause-files
returns-in_err-room-clause-files g c = kept_files c.args.tasks.now.items c.room_to_link_over.new.tasks.items c.room_to_link_over.ensures.kept

pub returns-in-None-clause-files : goal.returns-in-None-clause-files
returns-in-None-clause-files g c =
    subst (λ (ts : List (Task _ _ _ _ _ _ _ _ _)). KeepFiles c.args.tasks.now.items ts) (sym c.prepare.ensures.tasks)
    (kept_files c.args.tasks.now.items c.room_to_link_over.new.tasks.items c.room_to_link_over.ensures.kept)

pub returns-in_err-prepared-clause-files : goal.returns-in_err-prepared-clause-files
returns-in_err-prepared-clause-files g c =
    subst (λ (ts : List (Task _ _ _ _ _ _ _ _ _)). KeepFiles c.args.tasks.now.items ts) (sym c.prepare.ensures.tasks)
    (kept_files c.args.tasks.now.items c.room_to_link_over.new.tasks.items c.room_to_link_over.ensures.kept)

pub returns-in-Some-3-clause-files : goal.returns-in-Some-3-clause-files
returns-in-Some-3-clause-files g c =
    files_then c.args.tasks.now.items c.room_to_link_over.new.tasks.items c.carry_over.new.tasks.items
    (kept_files c.args.tasks.now.items c.room_to_link_over.new.tasks.items c.room_to_link_over.ensures.kept)
    (subst (λ (ts : List (Task _ _ _ _ _ _ _ _ _)). KeepFiles ts c.carry_over.new.tasks.items) c.prepare.ensures.tasks c.carry_over.ensures.files)
