use Rattle.std.proofs.Common.{◌≡◌, ◌≤◌, length, true}
use denote.Shadow.{shadow}
use denote.Text.{Utf8}
use Rattle.launch_text.specs.Reading.{Passed, held}
use Rattle.launch_text.specs.Words.{is_start}
use Rattle.launch_text.proofs.reading.read_line.Given as goal

abbrev pub invariant-loop-word : goal.invariant-loop-word
invariant-loop-word l = record { start : is_start l.rest ≡ true; utf8 : shadow (Utf8 l.rest); within : length l.rest ≤ length l.line; passed : Passed l.line l.rest (held l.parts, l.last) }

abbrev pub decreases-loop-word : goal.decreases-loop-word
decreases-loop-word l = length l.rest
