use Rattle.std.proofs.Common.{◌-◌, ℕ, ap, arith}
use Rattle.task_pads.proofs.Lists.{some_at}
use Rattle.net_edits.proofs.Swapped.{set_by_swap}
use Rattle.net_edits.proofs.over.exchange_at.Goals as goal

pub exchange-task-requires-clause-row : goal.exchange-task-requires-clause-row
exchange-task-requires-clause-row g c κs within = c.requires.row c.swap_remove-task.result (some_at c.args.tasks.now.items c.args.place c.swap_remove-task.result (omega (arith, c.requires.place, c.args.tasks.now.ok.0)) c.swap_remove-task.ensures.value)

pub returns-clause-exchanged : goal.returns-clause-exchanged
returns-clause-exchanged g c = record {
  was = c.swap_remove-task.result;
  is = c.exchange-task.result.0;
  at = some_at c.args.tasks.now.items c.args.place c.swap_remove-task.result (omega (arith, c.requires.place, c.args.tasks.now.ok.0)) c.swap_remove-task.ensures.value;
  set = set_by_swap c.args.tasks.now.items c.swap_remove-task.new.self.items c.push_reserved.new.self.items c.swap.new.self.items (c.args.tasks.now.len) c.args.place (c.len-last.result - 1) c.exchange-task.result.0 c.args.tasks.now.ok.0 c.requires.place (ap (λ (n : ℕ). n - 1) c.len-last.ensures) (let a = c.swap_remove-task.new.self.ok.0 in let b = c.swap_remove-task.ensures.len in omega (arith, a, b)) c.swap_remove-task.ensures.by_index
      c.push_reserved.ensures.items (let a = c.swap.new.self.ok.0 in let b = c.swap.ensures.len in let d = c.push_reserved.new.self.ok.0 in omega (arith, a, b, d)) c.swap.ensures.by_index;
  exchanged = c.exchange-task.ensures;
}

pub returns-clause-room : goal.returns-clause-room
returns-clause-room g c = let a = c.swap_remove-task.ensures.capacity in let b = c.push_reserved.ensures.capacity in let d = c.swap.ensures.capacity in omega (arith, a, b, d)
