use Rattle.std.proofs.Common.{◌≡◌, ◌++◌, Some, length}
use Rattle.text_words.specs.Left.{left}
use Rattle.text_words.specs.Values.{◌>>=◌}
use Rattle.script_text.specs.Commands.{props_of}
use Rattle.script_text.proofs.act.read_props.Given as goal

abbrev pub invariant-loop-word : goal.invariant-loop-word
invariant-loop-word l = (props_of (left l.words) >>= λ more. Some (l.props ++ more)) ≡ props_of (left l.fn.words)

abbrev pub decreases-loop-word : goal.decreases-loop-word
decreases-loop-word l = length (left l.words)
