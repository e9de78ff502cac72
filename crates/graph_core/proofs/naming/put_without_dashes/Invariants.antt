use Rattle.std.proofs.Common.{◌≡◌, ◌++◌, length, string_bytes}
use denote.Text.{Utf8}
use denote.Shadow.{shadow}
use Rattle.graph_core.specs.Elements.{without_dashes}
use Rattle.graph_core.proofs.naming.put_without_dashes.Given as goal

abbrev pub invariant-loop-before : goal.invariant-loop-before
invariant-loop-before l = shadow (Utf8 l.rest) × (string_bytes l.into ++ without_dashes l.rest ≡ string_bytes l.fn.into ++ without_dashes l.fn.text)

abbrev pub decreases-loop-before : goal.decreases-loop-before
decreases-loop-before l = length l.rest
