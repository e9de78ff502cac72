use Rattle.std.proofs.Common.{◌≤◌, ◌+◌}
use Rattle.std.specs.Prelude.{vec_capacity, vec_len}
use Rattle.std.specs.VecDeque.{deque_len}
use Rattle.graph_core.specs.Elements.{all_made}
use Rattle.graph_parts.proofs.BlanksLeft.{BlanksFrom}
use Rattle.graph_parts.proofs.Filling.{FilledTo}
use Rattle.graph_parts.proofs.blanks.Blanks.fill.Given as goal

abbrev pub invariant-loop-number : goal.invariant-loop-number
invariant-loop-number g l = record {
  from : BlanksFrom (all_made l.made) l.number l.blanks.items;
  to : FilledTo g.S.Source g.K.Sink (all_made l.made) l.fn.ends.items l.number l.elements.items l.sources.items l.left.items;
  elements : deque_len l.blanks + vec_len l.elements ≤ vec_capacity l.elements;
  sources : deque_len l.blanks + vec_len l.sources ≤ vec_capacity l.sources;
}
