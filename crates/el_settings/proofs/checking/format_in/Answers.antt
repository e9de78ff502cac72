use Rattle.el_settings.proofs.Given.{format_is}
use Rattle.el_settings.proofs.checking.format_in.Goals as goal

pub returns : goal.returns
returns c = format_is c.args.kind c.args.name.now c.args.plain c.args.props.now c.format_or.result c.requires.row c.requires.taken c.format_or.ensures
