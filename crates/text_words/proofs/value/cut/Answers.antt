-- The first such character is one byte.
use Rattle.std.proofs.lemmas.Str.Pattern.{split_once_first}
use Rattle.text_words.proofs.Steps.{cut_is}
use Rattle.text_words.proofs.value.cut.Goals as goal

pub returns : goal.returns
returns c = cut_is c.args.mark c.args.word.now c.split_once.result (split_once_first c.args.mark c.args.word.now c.split_once.result c.split_once.ensures.cases c.requires)
