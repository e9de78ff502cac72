use Rattle.std.proofs.Common.{◌≡◌, ℕ, Some, length}
use Rattle.std.specs.Prelude.{slice_get}
use Rattle.graph_core.specs.Graph.{made as made_in}
use Rattle.graph_parts.specs.declared.blank.Blank.{Blank}
use Rattle.graph_parts.specs.Blanks.{BlankAt}
use Rattle.graph_parts.proofs.blank.each_blank.Given as goal

abbrev pub invariant-loop-number : goal.invariant-loop-number
invariant-loop-number l = record {
  count : length l.blanks.items ≡ l.number;
  each : (e : ℕ) (blank : Blank) → slice_get l.blanks.items e ≡ Some blank → BlankAt (made_in l.graph) e blank;
}
