-- The line ends before its line end, or with the text.
use Rattle.script_text.proofs.Lines.{first_rest, line_split, none_rest}
use Rattle.script_text.proofs.reading.split_line.Goals as goal

pub returns-in-Some-clause-lines : goal.returns-in-Some-clause-lines
returns-in-Some-clause-lines c = line_split c.args.bytes.now c.split_at.result.0.now c.split_at.result.1.now c.in-Some.rest.now c.line_length.result c.requires c.line_length.ensures c.split_at.ensures.front c.split_at.ensures.back (first_rest _ _ _ c.in-Some.ensures.cases)

pub returns-in-None-clause-lines : goal.returns-in-None-clause-lines
returns-in-None-clause-lines c = line_split c.args.bytes.now c.split_at.result.0.now c.split_at.result.1.now c.split_at.result.1.now c.line_length.result c.requires c.line_length.ensures c.split_at.ensures.front c.split_at.ensures.back (none_rest _ c.in-None.ensures.cases)
