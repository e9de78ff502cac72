use Rattle.el_settings.proofs.Given.{number_is, number_within}
use Rattle.el_settings.proofs.checking.number_in.Goals as goal

pub returns-clause-given : goal.returns-clause-given
returns-clause-given c =
    number_is c.args.kind c.args.name.now c.args.least c.args.most 4294967296 c.args.plain c.args.props.now c.short_number_or.result c.requires.row c.requires.fits c.requires.taken
    c.short_number_or.ensures

pub returns-clause-some : goal.returns-clause-some
returns-clause-some c =
    let given = number_is c.args.kind c.args.name.now c.args.least c.args.most 4294967296 c.args.plain c.args.props.now c.short_number_or.result c.requires.row c.requires.fits c.requires.taken c.short_number_or.ensures in
    let within = number_within c.args.kind c.args.name.now c.args.least c.args.most c.args.plain c.args.props.now c.short_number_or.result c.requires.row c.requires.some c.requires.few c.requires.taken given in
    within.0

pub returns-clause-few : goal.returns-clause-few
returns-clause-few c =
    let given = number_is c.args.kind c.args.name.now c.args.least c.args.most 4294967296 c.args.plain c.args.props.now c.short_number_or.result c.requires.row c.requires.fits c.requires.taken c.short_number_or.ensures in
    let within = number_within c.args.kind c.args.name.now c.args.least c.args.most c.args.plain c.args.props.now c.short_number_or.result c.requires.row c.requires.some c.requires.few c.requires.taken given in
    within.1
