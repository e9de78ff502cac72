-- The law is a lemma.
use Rattle.run_words.proofs.Written.{written_words}
use Rattle.run_words.proofs.law.written_words_are_read.Goals as goal

pub returns : goal.returns
returns c = written_words
