use Rattle.std.proofs.Common.{◌≡◌, ◌∷◌, drop, map}
use Rattle.std.specs.String.{string_bytes}
use Rattle.launch_text.specs.Printed.{with_tokens}
use Rattle.launch_text.specs.Tokens.{kind, prop_token}
use Rattle.launch_text.proofs.printing.put_element.Given as goal

abbrev pub invariant-loop-prop : goal.invariant-loop-prop
invariant-loop-prop l = with_tokens (string_bytes l.into) (map prop_token (drop l.prop-index l.props)) ≡ with_tokens (string_bytes l.fn.into) (kind l.kind ∷ map prop_token l.props)
