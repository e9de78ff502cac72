-- A word ends at a separator, which is ASCII, or at the text's end.
use Rattle.std.proofs.Common.{◌≡◌, ◌∙◌, ◌∷◌, drop, take, sym, ap}
use Rattle.text_words.specs.Words.{plain, word_length, words_of}
use Rattle.text_words.proofs.Cutting.{first_word, word_boundary}
use Rattle.text_words.proofs.word.split_word.Goals as goal

pub split_at-requires : goal.split_at-requires
split_at-requires c = word_boundary c.args.separator c.args.text.now c.word_length.result c.word_length.ensures

pub returns : goal.returns
returns c =
    let s = c.args.separator in
    let x = c.args.text.now in
    let front : c.split_at.result.0.now ≡ take (word_length s plain x) x = c.split_at.ensures.front ∙ ap (λ n. take n x) c.word_length.ensures in
    let back : c.split_at.result.1.now ≡ drop (word_length s plain x) x = c.split_at.ensures.back ∙ ap (λ n. drop n x) c.word_length.ensures in
    first_word s x c.requires.start c.requires.some ∙ sym (ap (λ l. l ∷ words_of s c.split_at.result.1.now) front ∙ ap (λ l. take (word_length s plain x) x ∷ words_of s l) back)
