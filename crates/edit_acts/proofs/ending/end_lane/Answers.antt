use Rattle.std.proofs.Common.{ap, subst, sym}
use Rattle.std.specs.Global.{Vec}
use Rattle.net_task.specs.declared.task.Task.{Task}
use Rattle.net_turns.specs.Net.{NetReady}
use Rattle.std.specs.Prelude.{Bool, Ok}
use Rattle.edit_acts.proofs.Ends.{either_way, over_ends, over_link}
use Rattle.edit_acts.proofs.Files.{ended_over_files, files_same, kept_files}
use Rattle.edit_acts.proofs.ending.end_lane.Goals as goal

pub returns-in-Ok-clause-runs : goal.returns-in-Ok-clause-runs
returns-in-Ok-clause-runs g c = λ is. over_ends c.args.tasks.now.items c.end_over.new.tasks.items c.args.pad c.requires.whole (c.in-Ok.ensures.ended (ap (λ (b : Bool). Ok b) is)) (c.in-Ok.ensures.stands (ap (λ (b : Bool). Ok b) is))

pub returns-in-Ok-clause-none : goal.returns-in-Ok-clause-none
returns-in-Ok-clause-none g c = λ is. (
  over_link c.args.tasks.now.items c.args.pad c.requires.whole (c.in-Ok.ensures.none (ap (λ (b : Bool). Ok b) is)).0,
  ap (λ (v : _). v.items) (c.in-Ok.ensures.none (ap (λ (b : Bool). Ok b) is)).1,
)

pub returns-in-Ok-clause-ready : goal.returns-in-Ok-clause-ready
returns-in-Ok-clause-ready g c = λ tells ready. either_way c.in-Ok.done
    (λ is. c.in-Ok.ensures.ready (ap (λ (b : Bool). Ok b) is) tells ready)
    (λ is. subst (λ (ts : Vec (Task _ _ _ _ _ _ _ _ _)). NetReady ts.items tells) (sym (c.in-Ok.ensures.none (ap (λ (b : Bool). Ok b) is)).1) ready)

pub returns-in-Ok-clause-files : goal.returns-in-Ok-clause-files
returns-in-Ok-clause-files g c = either_way c.in-Ok.done
    (λ is. ended_over_files c.args.tasks.now.items c.end_over.new.tasks.items c.args.pad (c.in-Ok.ensures.ended (ap (λ (b : Bool). Ok b) is)))
    (λ is. files_same c.args.tasks.now.items c.end_over.new.tasks.items (ap (λ (v : _). v.items) (c.in-Ok.ensures.none (ap (λ (b : Bool). Ok b) is)).1))

pub returns-in-Err-clause-files : goal.returns-in-Err-clause-files
returns-in-Err-clause-files g c = kept_files c.args.tasks.now.items c.end_over.new.tasks.items c.in-Err.ensures.kept
