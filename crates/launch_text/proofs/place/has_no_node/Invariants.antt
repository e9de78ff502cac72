use Rattle.std.proofs.Common.{◌≡◌, length, true}
use denote.Shadow.{shadow}
use denote.Text.{Utf8}
use Rattle.launch_text.specs.Kinds.{is_bracket}
use Rattle.launch_text.specs.Words.{is_start}
use Rattle.launch_text.proofs.Splitting.{LeftTo}
use Rattle.launch_text.proofs.place.has_no_node.Given as goal

abbrev pub invariant-loop-rest : goal.invariant-loop-rest
invariant-loop-rest l = record { start : is_start l.rest ≡ true; utf8 : shadow (Utf8 l.rest); left : LeftTo is_bracket l.line l.rest }

abbrev pub decreases-loop-rest : goal.decreases-loop-rest
decreases-loop-rest l = length l.rest
