-- The number is what `parse` reads, as no plus stands in front.
use Rattle.std.proofs.Common.{◌≢◌, get_or, sym, arith, ◌∙◌}
use Rattle.std.proofs.lemmas.Str.Pattern.{starts_char}
use Rattle.el_settings.proofs.number.read_number.Goals as goal
use Rattle.el_settings.proofs.Numbers.{number_read}

pub returns : goal.returns
returns c =
    let plus = starts_char 43 c.args.digits.now c.starts_with.result c.starts_with.ensures.cases (omega arith) (omega arith) in
    let plain : get_or c.args.digits.now 0 0 ≢ 43 = λ e. let both = sym (plus.1 e) ∙ c.if-starts_with.false in cc in
    rw c.ok.ensures.value (number_read c.args.digits.now c.parse.result c.parse.ensures.value.0 plain c.if-digits-gt-MOST_DIGITS.false)
