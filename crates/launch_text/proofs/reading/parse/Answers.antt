-- What the line gives.
use Rattle.launch_text.proofs.Parsing.{told_complete, told_sound}
use Rattle.launch_text.proofs.Placing.{told_kind, told_place}
use Rattle.launch_text.proofs.reading.parse.Goals as goal

pub returns-clause-complete : goal.returns-clause-complete
returns-clause-complete c tree short h = told_complete c.args.text.now c.read_line.result tree c.read_line.ensures h

pub returns-clause-sound : goal.returns-clause-sound
returns-clause-sound c = told_sound c.args.text.now c.read_line.result c.read_line.ensures

pub returns-clause-place : goal.returns-clause-place
returns-clause-place c place kind short e = told_place c.args.text.now c.read_line.result place kind c.read_line.ensures e

pub returns-clause-kind : goal.returns-clause-kind
returns-clause-kind c place kind short e = told_kind c.args.text.now c.read_line.result place kind c.read_line.ensures e
