use Rattle.std.proofs.Common.{◌∙◌, ◌-◌, ◌++◌, ◌∷◌, [], List, ℕ, ap, arith}
use Rattle.task_pads.proofs.Lists.{some_at}
use Rattle.net_task.specs.declared.task.Task.{Task}
use Rattle.net_groups.proofs.Swapped.{set_by_swap}
use Rattle.net_groups.proofs.splitting.take_out.Goals as goal

pub returns-clause-parted : goal.returns-clause-parted
returns-clause-parted g c = record {
  was = c.swap_remove-was.result;
  is = c.part-is.result.0;
  fresh = c.part-is.result.1;
  at = some_at c.args.tasks.now.items c.args.place c.swap_remove-was.result (omega (arith, c.requires.place, c.args.tasks.now.ok.0)) c.swap_remove-was.ensures.value;
  list = c.push_reserved-2.ensures.items ∙ ap (λ (ts : List (Task _ _ _ _ _ _ _ _ _)). ts ++ c.part-is.result.1 ∷ []) (set_by_swap c.args.tasks.now.items c.swap_remove-was.new.self.items c.push_reserved.new.self.items c.swap.new.self.items (c.args.tasks.now.len) c.args.place (c.len-last.result - 1) c.part-is.result.0 c.args.tasks.now.ok.0 c.requires.place (ap (λ (n : ℕ). n - 1) c.len-last.ensures) (let a = c.swap_remove-was.new.self.ok.0 in let b = c.swap_remove-was.ensures.len in omega (arith, a, b)) c.swap_remove-was.ensures.by_index
      c.push_reserved.ensures.items (let a = c.swap.new.self.ok.0 in let b = c.swap.ensures.len in let d = c.push_reserved.new.self.ok.0 in omega (arith, a, b, d)) c.swap.ensures.by_index);
  parted = c.part-is.ensures;
}
