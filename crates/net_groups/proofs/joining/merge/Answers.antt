use Rattle.std.proofs.Common.{◌-◌, ℕ, List, ap, sym, ◌∙◌, arith, vec_len}
use Rattle.std.specs.Prelude.{slice_get, slice_set}
use Rattle.task_pads.proofs.Lists.{some_at}
use Rattle.net_task.specs.declared.task.Task.{Task}
use Rattle.net_groups.proofs.Lists.{removed_at, set_removed, up_within}
use Rattle.net_groups.proofs.Swapped.{set_by_swap}
use Rattle.net_groups.proofs.joining.merge.Goals as goal

pub join_into-requires-clause-room : goal.join_into-requires-clause-room
join_into-requires-clause-room g c κs within =
    let room = c.requires.room c.remove-gave.result c.swap_remove-was.result (some_at c.args.tasks.now.items c.args.from c.remove-gave.result (omega (arith, c.requires.from, c.args.tasks.now.ok.0)) c.remove-gave.ensures.value) (removed_at c.args.tasks.now.items c.args.from c.place_without-to.result c.args.to c.swap_remove-was.result c.place_without-to.ensures (ap (λ (ts : List (Task _ _ _ _ _ _ _ _ _)). slice_get ts c.place_without-to.result) (sym c.remove-gave.ensures.items) ∙ some_at c.remove-gave.new.self.items c.place_without-to.result c.swap_remove-was.result (let u = up_within c.args.from c.place_without-to.result c.args.to (vec_len c.args.tasks.now) c.place_without-to.ensures c.requires.to c.requires.from in let a = c.remove-gave.new.self.ok.0 in let b = c.remove-gave.ensures.len in omega (arith, u, a, b)) c.swap_remove-was.ensures.value)) in
    let a = c.remove-gave.result.parts.ok.0 in
    let b = c.swap_remove-was.result.parts.ok.0 in
    omega (arith, room, a, b)

pub returns-clause-merged : goal.returns-clause-merged
returns-clause-merged g c = record {
  gave = c.remove-gave.result;
  was = c.swap_remove-was.result;
  is = c.join_into.result;
  from_at = some_at c.args.tasks.now.items c.args.from c.remove-gave.result (omega (arith, c.requires.from, c.args.tasks.now.ok.0)) c.remove-gave.ensures.value;
  to_at = removed_at c.args.tasks.now.items c.args.from c.place_without-to.result c.args.to c.swap_remove-was.result c.place_without-to.ensures (ap (λ (ts : List (Task _ _ _ _ _ _ _ _ _)). slice_get ts c.place_without-to.result) (sym c.remove-gave.ensures.items) ∙ some_at c.remove-gave.new.self.items c.place_without-to.result c.swap_remove-was.result (let u = up_within c.args.from c.place_without-to.result c.args.to (vec_len c.args.tasks.now) c.place_without-to.ensures c.requires.to c.requires.from in let a = c.remove-gave.new.self.ok.0 in let b = c.remove-gave.ensures.len in omega (arith, u, a, b)) c.swap_remove-was.ensures.value);
  list = set_by_swap c.remove-gave.new.self.items c.swap_remove-was.new.self.items c.push_reserved.new.self.items c.swap.new.self.items (c.remove-gave.new.self.len) c.place_without-to.result (c.len-last.result - 1) c.join_into.result c.remove-gave.new.self.ok.0
      (let u = up_within c.args.from c.place_without-to.result c.args.to (vec_len c.args.tasks.now) c.place_without-to.ensures c.requires.to c.requires.from in let b = c.remove-gave.ensures.len in omega (arith, u, b))
      (ap (λ (n : ℕ). n - 1) c.len-last.ensures) (let a = c.swap_remove-was.new.self.ok.0 in let b = c.swap_remove-was.ensures.len in omega (arith, a, b)) c.swap_remove-was.ensures.by_index
      c.push_reserved.ensures.items (let a = c.swap.new.self.ok.0 in let b = c.swap.ensures.len in let d = c.push_reserved.new.self.ok.0 in omega (arith, a, b, d)) c.swap.ensures.by_index
      ∙ ap (λ (ts : List (Task _ _ _ _ _ _ _ _ _)). slice_set ts c.place_without-to.result c.join_into.result) c.remove-gave.ensures.items ∙ set_removed c.args.tasks.now.items c.args.from c.place_without-to.result c.args.to c.join_into.result c.place_without-to.ensures;
  head = c.join_into.ensures.head;
  parts = c.join_into.ensures.parts;
}
