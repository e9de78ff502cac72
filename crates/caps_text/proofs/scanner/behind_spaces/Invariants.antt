use Rattle.std.proofs.Common.{◌≡◌, length}
use denote.Shadow.{shadow}
use denote.Text.{Utf8}
use Rattle.caps_text.specs.Reading.{behind_spaces}
use Rattle.caps_text.proofs.scanner.behind_spaces.Given as goal

abbrev pub invariant-loop-behind : goal.invariant-loop-behind
invariant-loop-behind l = (behind_spaces l.rest ≡ behind_spaces l.fn.text) × shadow (Utf8 l.rest)

abbrev pub decreases-loop-behind : goal.decreases-loop-behind
decreases-loop-behind l = length l.rest
