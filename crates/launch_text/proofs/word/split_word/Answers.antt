-- A word ends at white space, which is ASCII, or at the text's end.
use Rattle.std.proofs.Common.{◌≡◌, ◌<◌, ◌∙◌, arith, length, drop, take, sym, ap, subst}
use Rattle.text_words.specs.Words.{plain}
use Rattle.launch_text.specs.Words.{word_length}
use Rattle.launch_text.proofs.Cutting.{positive, shorter, word_boundary}
use Rattle.launch_text.proofs.word.split_word.Goals as goal

pub split_at-requires : goal.split_at-requires
split_at-requires c = word_boundary c.args.text.now c.word_length.result c.word_length.ensures

pub returns : goal.returns
returns c =
    let x = c.args.text.now in
    let some : 0 < length x = positive (length x) c.requires.some in
    let front : c.split_at.result.0.now ≡ take (word_length plain x) x = c.split_at.ensures.front ∙ ap (λ n. take n x) c.word_length.ensures in
    let back : c.split_at.result.1.now ≡ drop (word_length plain x) x = c.split_at.ensures.back ∙ ap (λ n. drop n x) c.word_length.ensures in
    record { word = front; behind = back; shorter = subst (λ l. length l < length x) (sym back) (shorter x c.requires.start some); within = omega (arith, c.split_at.ensures.front_len, c.split_at.ensures.back_len) }
