use Rattle.std.proofs.Common.{◌≡◌, true, take}
use Rattle.graph_edits.specs.Names.{is_kind_there}
use Rattle.graph_edits.proofs.properties.is_kind_there.Given as goal

-- the kind is there with the properties so far
abbrev pub invariant-loop-prop : goal.invariant-loop-prop
invariant-loop-prop l = is_kind_there l.kind (take l.prop-index l.props) ≡ true
