-- White space is ASCII, so the text may be cut behind it.
use Rattle.std.proofs.Common.{◌≡◌, ◌++◌, ◌∙◌, length, drop, sym, ap, arith}
use Rattle.std.specs.List.{take_while}
use Rattle.text_words.specs.Bytes.{is_white}
use Rattle.launch_text.specs.Words.{is_start}
use Rattle.text_words.specs.declared.word.Separator.TheVariants.{White}
use Rattle.text_words.proofs.Cutting.{front_boundary}
use Rattle.launch_text.proofs.Cutting.{behind_start, front_white}
use Rattle.launch_text.proofs.word.behind_white.Goals as goal

pub split_at-requires : goal.split_at-requires
split_at-requires c = front_boundary White c.args.text.now c.white_length.result c.utf8.text c.white_length.ensures

pub returns : goal.returns
returns c =
    let x = c.args.text.now in
    let e : c.split_at.result.1.now ≡ drop (length (take_while is_white x)) x = c.split_at.ensures.back ∙ ap (λ n. drop n x) c.white_length.ensures in
    let f = front_white x in
    record {
      cut = (f.0, f.1 ∙ ap (λ l. f.0 ++ l) (sym e), f.2);
      start = ap is_start e ∙ behind_start x;
      within = omega (arith, c.split_at.ensures.back_len);
    }
