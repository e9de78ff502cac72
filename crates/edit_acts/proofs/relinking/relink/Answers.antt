use Rattle.std.proofs.Common.{ℕ, List, false, refl, subst, sym}
use Rattle.net_task.specs.declared.task.Task.{Task}
use Rattle.net_turns.specs.Net.{NetReady}
use Rattle.edit_acts.specs.Relinked.{IsToLink, IsToRelink}
use Rattle.edit_acts.proofs.Apart.{low}
use Rattle.edit_acts.proofs.Carried.{has_again, is_relinked}
use Rattle.edit_acts.proofs.Deeds.{no_sink, no_source, source_made}
use Rattle.edit_acts.specs.Files.{KeepFiles}
use Rattle.edit_acts.proofs.Files.{files_same}
use Rattle.edit_acts.proofs.relinking.relink.Goals as goal

pub returns-in_default-clause-run : goal.returns-in_default-clause-run
returns-in_default-clause-run g c = λ graph m tells w.
    absurd (c.in_default.not-Some _ (c.source_number.ensures.there (source_made c.args.graph.now c.args.feeds.now c.args.tasks.now.items graph m tells c.args.source c.args.sink c.args.items w)
    (low c.args.graph.now c.args.feeds.now c.args.tasks.now.items graph m tells c.args.source c.args.sink c.args.items w)))

pub carry_out-requires-clause-room : goal.carry_out-requires-clause-room
carry_out-requires-clause-room g c κs within =
    let link : IsToLink c.args.tasks.now.items c.in-Some.pad c.args.sink.element c.in-Ok.link =
    subst (λ (ts : List (Task _ _ _ _ _ _ _ _ _)). IsToLink ts c.in-Some.pad c.args.sink.element c.in-Ok.link) c.as_slice.ensures.value (record { room = c.in-Ok.ensures.room; opens = c.in-Ok.ensures.opening }) in
    let number = rw c.in-Ok-Some.field-0-is at c.in-Ok-Some.ensures.pad in
    subst (λ (p : ℕ). IsToLink c.prepare.new.tasks.items p c.args.sink.element c.in-Ok.link) (sym number)
    (subst (λ (ts : List (Task _ _ _ _ _ _ _ _ _)). IsToLink ts c.in-Some.pad c.args.sink.element c.in-Ok.link) (sym c.in-Ok-Some.ensures.tasks) link)

pub returns-in-Ok-carry_out-clause-run : goal.returns-in-Ok-carry_out-clause-run
returns-in-Ok-carry_out-clause-run g c = λ graph m tells w.
    let ready = rw c.in-Ok-Some.field-0-is at c.in-Ok-Some.ensures.prepared in
    let new = rw c.in-Ok-Some.field-0-is at c.in-Ok-Some.ensures.link in
    let same = subst (λ (ts : List (Task _ _ _ _ _ _ _ _ _)). IsToRelink c.args.graph.now c.args.feeds.now ts graph m tells c.args.source c.args.sink c.args.items false) (sym c.in-Ok-Some.ensures.tasks) w in
    let ran = c.in-Ok-carry_out.ensures.run c.args.graph.now graph m tells c.args.source ready (new.was graph w.controlled.current.edited) same in (
      ran.0,
      is_relinked c.args.graph.now c.args.feeds.now c.args.tasks.now.items graph m tells c.args.source c.args.sink c.args.items w
          c.prepare.new.graph c.carry_out.new.feeds c.carry_out.new.tasks.items c.in-Ok-Some.prepared.before new ran.1,
    )

pub returns-in-Err-carry_out-clause-faults : goal.returns-in-Err-carry_out-clause-faults
returns-in-Err-carry_out-clause-faults g c = λ graph m tells w.
    let ready = rw c.in-Ok-Some.field-0-is at c.in-Ok-Some.ensures.prepared in
    let same = subst (λ (ts : List (Task _ _ _ _ _ _ _ _ _)). IsToRelink c.args.graph.now c.args.feeds.now ts graph m tells c.args.source c.args.sink c.args.items false) (sym c.in-Ok-Some.ensures.tasks) w in
    let new = rw c.in-Ok-Some.field-0-is at c.in-Ok-Some.ensures.link in
    record {
      short = c.in-Err-carry_out.ensures.faults c.args.graph.now graph m tells c.args.source ready same;
      edited = new.edited graph c.args.items w.controlled.current.edited;
      feeds = c.carry_out.ensures.kept c.args.graph.now graph m tells c.args.source ready (new.was graph w.controlled.current.edited) same;
    }

pub returns-in-Ok-None-clause-run : goal.returns-in-Ok-None-clause-run
returns-in-Ok-None-clause-run g c = λ graph m tells w. absurd (c.in-Ok-None.ensures.none c.in-Ok-None.field-0-is c.args.feeds.now graph m tells c.args.items false w)

pub returns-in-Err-prepare-clause-faults : goal.returns-in-Err-prepare-clause-faults
returns-in-Err-prepare-clause-faults g c = λ graph m tells w.
    has_again c.args.graph.now c.prepare.new.graph c.args.feeds.now c.args.tasks.now.items c.prepare.new.tasks.items graph m tells c.in-Err-prepare.ensures.tasks (c.in-Err-prepare.ensures.stays graph w.current.edited) w

pub returns-in-Err-clause-faults : goal.returns-in-Err-clause-faults
returns-in-Err-clause-faults g c = λ graph m tells w. w

pub returns-in-Ok-carry_out-clause-ready : goal.returns-in-Ok-carry_out-clause-ready
returns-in-Ok-carry_out-clause-ready g c = λ tells ready. c.carry_out.ensures.ready tells (subst (λ (ts : List (Task _ _ _ _ _ _ _ _ _)). NetReady ts tells) (sym c.in-Ok-Some.ensures.tasks) ready)

pub returns-in-Err-carry_out-clause-ready : goal.returns-in-Err-carry_out-clause-ready
returns-in-Err-carry_out-clause-ready g c = λ tells ready. c.carry_out.ensures.ready tells (subst (λ (ts : List (Task _ _ _ _ _ _ _ _ _)). NetReady ts tells) (sym c.in-Ok-Some.ensures.tasks) ready)

pub returns-then-source-count-clause-run : goal.returns-then-source-count-clause-run
returns-then-source-count-clause-run g c = λ graph m tells w.
    absurd (no_source c.args.graph.now c.args.feeds.now c.args.tasks.now.items graph m tells c.args.source c.args.sink c.args.items w c.count-count.result c.count-count.ensures.made c.if-source-count.true)

pub returns-then-sink-count-clause-run : goal.returns-then-sink-count-clause-run
returns-then-sink-count-clause-run g c = λ graph m tells w.
    absurd (no_sink c.args.graph.now c.args.feeds.now c.args.tasks.now.items graph m tells c.args.source c.args.sink c.args.items w c.count-count.result c.count-count.ensures.made c.if-sink-count.true)

pub returns-then-source-count-clause-files : goal.returns-then-source-count-clause-files
returns-then-source-count-clause-files g c = files_same c.args.tasks.now.items c.args.tasks.now.items refl

pub returns-then-sink-count-clause-files : goal.returns-then-sink-count-clause-files
returns-then-sink-count-clause-files g c = files_same c.args.tasks.now.items c.args.tasks.now.items refl

pub returns-in_default-clause-files : goal.returns-in_default-clause-files
returns-in_default-clause-files g c = files_same c.args.tasks.now.items c.args.tasks.now.items refl

pub returns-in-Err-clause-files : goal.returns-in-Err-clause-files
returns-in-Err-clause-files g c = files_same c.args.tasks.now.items c.args.tasks.now.items refl

pub returns-in-Ok-carry_out-clause-files : goal.returns-in-Ok-carry_out-clause-files
returns-in-Ok-carry_out-clause-files g c = subst (λ (ts : List (Task _ _ _ _ _ _ _ _ _)). KeepFiles ts c.carry_out.new.tasks.items) c.in-Ok-Some.ensures.tasks c.carry_out.ensures.files

pub returns-in-Err-carry_out-clause-files : goal.returns-in-Err-carry_out-clause-files
returns-in-Err-carry_out-clause-files g c = subst (λ (ts : List (Task _ _ _ _ _ _ _ _ _)). KeepFiles ts c.carry_out.new.tasks.items) c.in-Ok-Some.ensures.tasks c.carry_out.ensures.files

pub returns-in-Ok-None-clause-files : goal.returns-in-Ok-None-clause-files
returns-in-Ok-None-clause-files g c = files_same c.args.tasks.now.items c.prepare.new.tasks.items c.in-Ok-None.ensures.tasks

pub returns-in-Err-prepare-clause-files : goal.returns-in-Err-prepare-clause-files
returns-in-Err-prepare-clause-files g c = files_same c.args.tasks.now.items c.prepare.new.tasks.items c.in-Err-prepare.ensures.tasks
