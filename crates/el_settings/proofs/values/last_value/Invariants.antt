use Rattle.std.proofs.Common.{◌≡◌, take}
use Rattle.std.specs.Option.{option_map}
use Rattle.el_settings.specs.Values.{last_value}
use Rattle.el_settings.proofs.values.last_value.Given as goal

abbrev pub invariant-loop-prop : goal.invariant-loop-prop
invariant-loop-prop l = option_map (λ text. text.now) l.found ≡ last_value l.name (take l.prop-index l.props)
