use Rattle.std.proofs.Common.{refl}
use Rattle.el_parse.proofs.Parsing.{parsed_flush}
use Rattle.el_parse.proofs.raw_parse.RawParse.flush.Goals as goal

pub returns : goal.returns
returns c = parsed_flush c.args.self.now _ refl refl refl
