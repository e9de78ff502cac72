use Rattle.std.proofs.Common.{ℕ, List, Option}
use Rattle.graph_core.specs.Elements.{all_made}
use Rattle.run_files.specs.declared.end.End.{End}
use Rattle.graph_parts.specs.Back.{Gives, HasLength}
use Rattle.graph_parts.specs.Put.{PutBack}
use Rattle.graph_parts.specs.Single.{IsAt, IsNone}
use Rattle.graph_parts.proofs.back.give_rest.Given as goal

abbrev pub invariant-loop-slot : goal.invariant-loop-slot
invariant-loop-slot g l = record {
  ends : (final : List (Option (End g.row.S.Denot g.row.K.Denot))) → PutBack (Gives (all_made l.elements) IsNone (IsAt l.rest.items)) l.ends.items final → PutBack (Gives (all_made l.elements) IsNone (IsAt l.fn.rest.items)) l.fn.ends.items final;
  lengths : (final : List ℕ) → PutBack (HasLength (IsAt l.rest.items)) l.lengths.items final → PutBack (HasLength (IsAt l.fn.rest.items)) l.fn.lengths.items final;
}

abbrev pub decreases-loop-slot : goal.decreases-loop-slot
decreases-loop-slot g l = goal.left-loop-slot g l
