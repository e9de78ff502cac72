use Rattle.std.proofs.Common.{◌≡◌, ◌-◌, ◌∙◌, ℕ, ap, arith}
use Rattle.std.proofs.lemmas.Result.{IfErr-weaker, on_ok_weaker}
use Rattle.task_pads.proofs.Lists.{some_at}
use Rattle.task_pads.specs.declared.pad.Behind.TheVariants.{Nothing}
use Rattle.task_edits.specs.Changes.{LedBy}
use Rattle.task_edits.proofs.Insides.{changed_has}
use Rattle.net_edits.proofs.Both.{err_both, ok_both}
use Rattle.net_edits.proofs.Swapped.{set_by_swap}
use Rattle.net_edits.proofs.inside.end_at.Goals as goal

pub feed-task-requires-clause-there : goal.feed-task-requires-clause-there
feed-task-requires-clause-there g c κs within =
    changed_has (LedBy Nothing c.unlink-task.result.1) (c.unlink-task.result.1 ≡ Nothing) _ c.swap_remove-task.result.head c.unlink-task.result.0.head c.swap_remove-task.result.parts.items c.unlink-task.result.0.parts.items c.unlink-task.ensures.changed c.args.to.element
    (c.requires.there c.swap_remove-task.result (some_at c.args.tasks.now.items c.args.place c.swap_remove-task.result (omega (arith, c.requires.place, c.args.tasks.now.ok.0)) c.swap_remove-task.ensures.value))

pub returns-clause-ended : goal.returns-clause-ended
returns-clause-ended g c =
    on_ok_weaker c.feed-task.result.1
    (λ z.
    record {
      was = c.swap_remove-task.result;
      turned = c.unlink-task.result.0;
      is = c.feed-task.result.0;
      at = some_at c.args.tasks.now.items c.args.place c.swap_remove-task.result (omega (arith, c.requires.place, c.args.tasks.now.ok.0)) c.swap_remove-task.ensures.value;
      set = set_by_swap c.args.tasks.now.items c.swap_remove-task.new.self.items c.push_reserved.new.self.items c.swap.new.self.items (c.args.tasks.now.len) c.args.place (c.len-last.result - 1) c.feed-task.result.0 c.args.tasks.now.ok.0 c.requires.place (ap (λ (n : ℕ). n - 1) c.len-last.ensures) (let a = c.swap_remove-task.new.self.ok.0 in let b = c.swap_remove-task.ensures.len in omega (arith, a, b)) c.swap_remove-task.ensures.by_index
          c.push_reserved.ensures.items (let a = c.swap.new.self.ok.0 in let b = c.swap.ensures.len in let d = c.push_reserved.new.self.ok.0 in omega (arith, a, b, d)) c.swap.ensures.by_index;
      back = c.unlink-task.result.1;
      changed = c.unlink-task.ensures.changed;
      ties = c.unlink-task.ensures.ties;
      head = c.feed-task.ensures.head;
      frame = c.feed-task.ensures.frame;
      ready = λ tells r. c.feed-task.ensures.ready tells (c.unlink-task.ensures.ready tells r);
      moves = c.feed-task.ensures.moves ∙ c.unlink-task.ensures.moves;
      fed = record { took = z.0; stands = z.1 };
    }) (ok_both c.feed-task.result.1 _ _ c.feed-task.ensures.took c.feed-task.ensures.fed)

pub returns-clause-faults : goal.returns-clause-faults
returns-clause-faults g c =
    IfErr-weaker c.feed-task.result.1 _ _
    (λ fault z.
    record {
      was = c.swap_remove-task.result;
      turned = c.unlink-task.result.0;
      is = c.feed-task.result.0;
      at = some_at c.args.tasks.now.items c.args.place c.swap_remove-task.result (omega (arith, c.requires.place, c.args.tasks.now.ok.0)) c.swap_remove-task.ensures.value;
      set = set_by_swap c.args.tasks.now.items c.swap_remove-task.new.self.items c.push_reserved.new.self.items c.swap.new.self.items (c.args.tasks.now.len) c.args.place (c.len-last.result - 1) c.feed-task.result.0 c.args.tasks.now.ok.0 c.requires.place (ap (λ (n : ℕ). n - 1) c.len-last.ensures) (let a = c.swap_remove-task.new.self.ok.0 in let b = c.swap_remove-task.ensures.len in omega (arith, a, b)) c.swap_remove-task.ensures.by_index
          c.push_reserved.ensures.items (let a = c.swap.new.self.ok.0 in let b = c.swap.ensures.len in let d = c.push_reserved.new.self.ok.0 in omega (arith, a, b, d)) c.swap.ensures.by_index;
      back = c.unlink-task.result.1;
      changed = c.unlink-task.ensures.changed;
      ties = c.unlink-task.ensures.ties;
      head = c.feed-task.ensures.head;
      frame = c.feed-task.ensures.frame;
      ready = λ tells r. c.feed-task.ensures.ready tells (c.unlink-task.ensures.ready tells r);
      moves = c.feed-task.ensures.moves ∙ c.unlink-task.ensures.moves;
      fed = record { stopped = z.0; stands = z.1 };
    }) (err_both c.feed-task.result.1 _ _ c.feed-task.ensures.stopped c.feed-task.ensures.faults)

pub returns-clause-room : goal.returns-clause-room
returns-clause-room g c = let a = c.swap_remove-task.ensures.capacity in let b = c.push_reserved.ensures.capacity in let d = c.swap.ensures.capacity in omega (arith, a, b, d)
