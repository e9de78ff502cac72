use Rattle.std.proofs.Common.{◌+◌, List, ap, ◌∙◌, arith, sym, subst}
use Rattle.std.specs.List.{remove}
use Rattle.std.proofs.lemmas.List.Sums.{sum_by-remove}
use Rattle.net_task.specs.declared.task.Task.{Task}
use Rattle.net_task.specs.Fuel.{moves_left}
use Rattle.net_turns.specs.Turns.{net_left}
use Rattle.task_pads.proofs.Lists.{some_at}
use Rattle.net_edits.proofs.Added.{stands_less}
use Rattle.net_edits.proofs.Beside.{IsBeside, ready_less, removed}
use Rattle.net_edits.proofs.adding.take_task.Goals as goal

pub returns-clause-task : goal.returns-clause-task
returns-clause-task g c = some_at c.args.tasks.now.items c.args.place c.remove.result (omega (arith, c.requires.place, c.args.tasks.now.ok.0)) c.remove.ensures.value

pub returns-clause-stands : goal.returns-clause-stands
returns-clause-stands g c = λ m tells n cut stands can crossed.
    stands_less c.remove.new.self.items c.args.tasks.now.items c.args.place c.remove.result
    (subst (λ (ts : List (Task _ _ _ _ _ _ _ _ _)). IsBeside ts c.args.tasks.now.items c.args.place c.remove.result) (sym c.remove.ensures.items)
    (removed c.args.tasks.now.items c.args.place c.remove.result (some_at c.args.tasks.now.items c.args.place c.remove.result (omega (arith, c.requires.place, c.args.tasks.now.ok.0)) c.remove.ensures.value)))
    tells n m cut stands can crossed

pub returns-clause-ready : goal.returns-clause-ready
returns-clause-ready g c = λ tells n ready only none.
    ready_less c.remove.new.self.items c.args.tasks.now.items c.args.place c.remove.result
    (subst (λ (ts : List (Task _ _ _ _ _ _ _ _ _)). IsBeside ts c.args.tasks.now.items c.args.place c.remove.result) (sym c.remove.ensures.items)
    (removed c.args.tasks.now.items c.args.place c.remove.result (some_at c.args.tasks.now.items c.args.place c.remove.result (omega (arith, c.requires.place, c.args.tasks.now.ok.0)) c.remove.ensures.value)))
    tells n ready only none

pub returns-clause-moves : goal.returns-clause-moves
returns-clause-moves g c =
    ap (λ (ts : List (Task _ _ _ _ _ _ _ _ _)). net_left ts + moves_left c.remove.result) c.remove.ensures.items
    ∙ ap (λ (t : Task _ _ _ _ _ _ _ _ _). net_left (remove c.args.tasks.now.items c.args.place) + moves_left t) c.remove.ensures.value
    ∙ sum_by-remove (λ (t : Task _ _ _ _ _ _ _ _ _). moves_left t) c.args.tasks.now.items c.args.place c.remove.result (omega (arith, c.requires.place, c.args.tasks.now.ok.0))
