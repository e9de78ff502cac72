use Rattle.std.proofs.Common.{sym}
use Rattle.graph_edits.proofs.KindThere.{settled_there, valued_there}
use Rattle.graph_edits.proofs.properties.takes.Goals as goal

pub returns-in-Ok : goal.returns-in-Ok
returns-in-Ok c = sym (settled_there c.args.kind.now c.args.props.now c.in-Ok.field-0 c.in-Ok.ensures)

pub returns-in-Err-BadValue : goal.returns-in-Err-BadValue
returns-in-Err-BadValue c = sym (valued_there c.args.kind.now c.args.props.now _ c.requires (rw c.in-Err-BadValue.field-0-is at c.in-Err-BadValue.ensures))
