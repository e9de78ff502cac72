use Rattle.el_parse.proofs.Parsing.{parsed_drain}
use Rattle.el_parse.proofs.Putting.{parser_puts_none}
use Rattle.el_parse.proofs.raw_parse.RawParse.drain.Goals as goal

pub returns-clause-drained : goal.returns-clause-drained
returns-clause-drained c = parsed_drain c.args.self.now

pub returns-clause-puts : goal.returns-clause-puts
returns-clause-puts c = parser_puts_none c.args.self.now c.args._out.now
