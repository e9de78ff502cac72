use Rattle.std.proofs.Common.{ℕ, List, Option}
use Rattle.graph_core.specs.Elements.{all_made}
use Rattle.run_files.specs.declared.end.End.{End}
use Rattle.graph_parts.specs.Back.{Gives, HasLength, IsPart}
use Rattle.graph_parts.specs.Put.{Among, PutBack}
use Rattle.graph_parts.specs.Single.{IsNone}
use Rattle.graph_parts.proofs.back.give_parts.Given as goal

-- what the parts that are left put into the lists makes of them what all parts make of the first ones
abbrev pub invariant-loop-part : goal.invariant-loop-part
invariant-loop-part g l = record {
  ends : (final : List (Option (End g.row.S.Denot g.row.K.Denot))) → PutBack (Gives (all_made l.elements) IsNone (Among IsPart l.parts.items)) l.ends.items final → PutBack (Gives (all_made l.elements) IsNone (Among IsPart l.fn.parts.items)) l.fn.ends.items final;
  lengths : (final : List ℕ) → PutBack (HasLength (Among IsPart l.parts.items)) l.lengths.items final → PutBack (HasLength (Among IsPart l.fn.parts.items)) l.fn.lengths.items final;
}

abbrev pub decreases-loop-part : goal.decreases-loop-part
decreases-loop-part g l = goal.left-loop-part g l
