use Rattle.std.proofs.Common.{[], sym, append-nil}
use Rattle.el_parse.specs.Parses.{parse_answer}
use Rattle.flow_model.specs.Owed.{answered}
use Rattle.el_parse.specs.Parsed.{come}
use Rattle.el_parse.proofs.Parsing.{parsed_item, parsed_behind}
use Rattle.el_parse.proofs.Putting.{parser_puts, parser_puts_behind}
use Rattle.el_parse.proofs.raw_parse.RawParse.feed.Goals as goal

pub returns-then-self-clause-fed : goal.returns-then-self-clause-fed
returns-then-self-clause-fed c = λ info calls put p.
    let did = parsed_behind c.args.self.now c.args.item c.requires.no_flush c.if-self.true info calls put p in
    ([], did.0, sym (append-nil c.args.out.now), did.1)

pub returns-in-Ok-clause-fed : goal.returns-in-Ok-clause-fed
returns-in-Ok-clause-fed c = λ info calls put p.
    let by = c.in-Ok.ensures in
    let did = parsed_item c.args.self.now c.parse.new.self c.args.item c.requires.no_flush c.if-self.false by.answer by.come by.info (by.eos c.if-self.false) info calls put p in
    (answered (parse_answer c.args.self.now.info (come c.args.self.now) c.args.item), did.0, by.out, did.1)

pub returns-then-self-clause-puts : goal.returns-then-self-clause-puts
returns-then-self-clause-puts c = parser_puts_behind c.args.self.now c.args.item c.args.out.now c.requires.no_flush c.if-self.true

pub returns-in-Ok-clause-puts : goal.returns-in-Ok-clause-puts
returns-in-Ok-clause-puts c =
    let by = c.in-Ok.ensures in
    parser_puts c.args.self.now c.parse.new.self c.args.item _ _ c.requires.no_flush c.if-self.false by.answer by.come by.info (by.eos c.if-self.false) by.out
