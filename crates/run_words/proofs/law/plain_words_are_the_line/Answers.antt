-- The law is a lemma.
use Rattle.run_words.proofs.Plain.{plain_words}
use Rattle.run_words.proofs.law.plain_words_are_the_line.Goals as goal

pub returns : goal.returns
returns c = plain_words
