-- Separators are ASCII, so the text may be cut behind them.
use Rattle.std.proofs.Common.{◌≡◌, ◌∙◌, length, drop, ap}
use Rattle.std.specs.List.{take_while}
use Rattle.text_words.specs.Bytes.{separates}
use Rattle.text_words.specs.Words.{is_start, words_of}
use Rattle.text_words.proofs.Cutting.{behind_start, behind_words, front_boundary}
use Rattle.text_words.proofs.word.behind_separators.Goals as goal

pub split_at-requires : goal.split_at-requires
split_at-requires c = front_boundary c.args.separator c.args.text.now c.separators_length.result c.utf8.text c.separators_length.ensures

pub returns : goal.returns
returns c =
    let s = c.args.separator in
    let x = c.args.text.now in
    let e : c.split_at.result.1.now ≡ drop (length (take_while (separates s) x)) x = c.split_at.ensures.back ∙ ap (λ n. drop n x) c.separators_length.ensures in
    record { words = ap (words_of s) e ∙ behind_words s x; start = ap (is_start s) e ∙ behind_start s x }
