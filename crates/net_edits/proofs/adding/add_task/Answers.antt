use Rattle.std.proofs.Common.{List, ap, ◌∙◌, arith, sym, subst}
use Rattle.std.proofs.lemmas.List.Sums.{sum_by-insert}
use Rattle.net_task.specs.declared.task.Task.{Task}
use Rattle.net_task.specs.Fuel.{moves_left}
use Rattle.net_turns.specs.Turns.{net_left}
use Rattle.net_edits.proofs.Added.{stands_more}
use Rattle.net_edits.proofs.Beside.{IsBeside, inserted, ready_more}
use Rattle.net_edits.proofs.adding.add_task.Goals as goal

pub returns-clause-stands : goal.returns-clause-stands
returns-clause-stands g c = λ m m' tells n stands added none fresh plain ties ready cell.
    stands_more c.args.tasks.now.items c.insert_reserved.new.items.items c.args.place c.args.task
    (subst (λ (ts : List (Task _ _ _ _ _ _ _ _ _)). IsBeside c.args.tasks.now.items ts c.args.place c.args.task) (sym c.insert_reserved.ensures.items) (inserted c.args.tasks.now.items c.args.place c.args.task (omega (arith, c.requires.place, c.args.tasks.now.ok.0))))
    tells n m m' stands added none fresh plain ties ready cell

pub returns-clause-ready : goal.returns-clause-ready
returns-clause-ready g c = λ tells n ready none fresh own.
    ready_more c.args.tasks.now.items c.insert_reserved.new.items.items c.args.place c.args.task
    (subst (λ (ts : List (Task _ _ _ _ _ _ _ _ _)). IsBeside c.args.tasks.now.items ts c.args.place c.args.task) (sym c.insert_reserved.ensures.items) (inserted c.args.tasks.now.items c.args.place c.args.task (omega (arith, c.requires.place, c.args.tasks.now.ok.0))))
    tells n ready none fresh own

pub returns-clause-moves : goal.returns-clause-moves
returns-clause-moves g c =
    ap (λ (ts : List (Task _ _ _ _ _ _ _ _ _)). net_left ts) c.insert_reserved.ensures.items ∙ sum_by-insert (λ (t : Task _ _ _ _ _ _ _ _ _). moves_left t) c.args.tasks.now.items c.args.place c.args.task
