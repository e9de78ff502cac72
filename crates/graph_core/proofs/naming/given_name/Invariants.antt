use Rattle.std.proofs.Common.{◌≡◌, take}
use Rattle.std.specs.Option.{option_map}
use Rattle.graph_core.specs.Elements.{given_name}
use Rattle.graph_core.proofs.naming.given_name.Given as goal

abbrev pub invariant-loop-prop : goal.invariant-loop-prop
invariant-loop-prop l = option_map (λ text. text.now) l.found ≡ given_name (take l.prop-index l.props)
