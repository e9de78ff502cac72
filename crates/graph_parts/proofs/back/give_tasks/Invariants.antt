use Rattle.std.proofs.Common.{ℕ, List, Option}
use Rattle.graph_core.specs.Elements.{all_made}
use Rattle.run_files.specs.declared.end.End.{End}
use Rattle.graph_parts.specs.Back.{Gives, HasLength, HasPart, HasSource}
use Rattle.graph_parts.specs.Put.{Among, PutBack}
use Rattle.graph_parts.proofs.back.give_tasks.Given as goal

abbrev pub invariant-loop-task : goal.invariant-loop-task
invariant-loop-task g l = record {
  ends : (final : List (Option (End g.row.S.Denot g.row.K.Denot))) → PutBack (Gives (all_made l.elements) (HasSource l.tasks.items) (Among HasPart l.tasks.items)) l.ends.items final → PutBack (Gives (all_made l.elements) (HasSource l.fn.tasks.items) (Among HasPart l.fn.tasks.items)) l.fn.ends.items final;
  lengths : (final : List ℕ) → PutBack (HasLength (Among HasPart l.tasks.items)) l.lengths.items final → PutBack (HasLength (Among HasPart l.fn.tasks.items)) l.fn.lengths.items final;
}

abbrev pub decreases-loop-task : goal.decreases-loop-task
decreases-loop-task g l = goal.left-loop-task g l
