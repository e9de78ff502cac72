use Rattle.std.proofs.Common.{List, arith, refl, subst, sym, ◌∙◌}
use Rattle.gst_value.proofs.Basics.{some_same}
use Rattle.net_task.specs.declared.task.Task.{Task}
use Rattle.net_task.specs.Frame.{frame_of}
use Rattle.net_turns.specs.Net.{HasElement, Owns}
use Rattle.net_edits.specs.Adding.{NoneOwns}
use Rattle.edit_acts.proofs.Files.{files_none, files_same, out_files}
use Rattle.edit_acts.proofs.removing.take_out.Goals as goal

pub take_task-task-requires-clause-place : goal.take_task-task-requires-clause-place
take_task-task-requires-clause-place g c κs within = let low = c.in-Some.ensures.within in let len = c.as_slice.ensures.len in omega (arith, low, len)

pub returns-in-Some-clause-taken : goal.returns-in-Some-clause-taken
returns-in-Some-clause-taken g c =
    let own = subst (λ (ts : List (Task _ _ _ _ _ _ _ _ _)). Owns ts c.in-Some.place c.args.element) c.as_slice.ensures.value c.in-Some.ensures.there in
    record {
      at = c.take_task-task.ensures.task;
      has = subst (λ (t : Task _ _ _ _ _ _ _ _ _). HasElement (frame_of t) c.args.element) (some_same (sym own.at ∙ c.take_task-task.ensures.task)) own.has;
      rest = c.take_task-task.ensures.taken;
    }

pub returns-in-Some-clause-stands : goal.returns-in-Some-clause-stands
returns-in-Some-clause-stands g c = λ m tells cut stands can crossed. c.take_task-task.ensures.stands m tells c.args.element cut stands can crossed

pub returns-in-None-clause-taken : goal.returns-in-None-clause-taken
returns-in-None-clause-taken g c =
    (subst (λ (ts : List (Task _ _ _ _ _ _ _ _ _)). NoneOwns ts c.args.element) c.as_slice.ensures.value (c.in-None.ensures.none refl), refl)

pub returns-in-Some-clause-ready : goal.returns-in-Some-clause-ready
returns-in-Some-clause-ready g c = λ tells ready free.
    let own = subst (λ (ts : List (Task _ _ _ _ _ _ _ _ _)). Owns ts c.in-Some.place c.args.element) c.as_slice.ensures.value c.in-Some.ensures.there in
    let has = subst (λ (t : Task _ _ _ _ _ _ _ _ _). HasElement (frame_of t) c.args.element) (some_same (sym own.at ∙ c.take_task-task.ensures.task)) own.has in
    c.take_task-task.ensures.ready tells c.args.element ready (free.alone c.in-Some.place c.take_task-task.result c.take_task-task.ensures.task has)
    (λ k p lane from port s.
    free.unsent k (record { task = s.task; at = s.at; sends = record { wire = s.out.wire; is = s.out.is; lane = s.out.lane; port = port; from = from; leads = s.out.leads } }))

pub returns-in-Some-clause-files : goal.returns-in-Some-clause-files
returns-in-Some-clause-files g c = out_files c.args.tasks.now.items c.take_task-task.new.tasks.items c.in-Some.place c.take_task-task.result c.take_task-task.ensures.task c.take_task-task.ensures.taken

pub returns-in-None-clause-files : goal.returns-in-None-clause-files
returns-in-None-clause-files g c = files_none c.args.tasks.now.items c.args.tasks.now.items (files_same c.args.tasks.now.items c.args.tasks.now.items refl)
