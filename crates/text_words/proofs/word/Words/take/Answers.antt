-- No byte is left behind the separators.
use Rattle.std.proofs.Common.{◌≡◌, ◌∙◌, [], sym}
use Rattle.text_words.specs.Words.{words_of}
use Rattle.text_words.proofs.Cutting.{no_words}
use Rattle.text_words.proofs.word.Words.take.Goals as goal

pub returns-then-is_empty : goal.returns-then-is_empty
returns-then-is_empty c =
    let none : words_of c.args.self.now.separator c.behind_separators-text.result.now ≡ [] = no_words c.args.self.now.separator c.behind_separators-text.result.now (sym c.is_empty.ensures ∙ c.if-is_empty.true) in
    (sym c.behind_separators-text.ensures.words ∙ none, none)
