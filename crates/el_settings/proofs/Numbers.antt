-- What `parse` says of a text of 20 bytes or fewer that begins with no plus.
use Rattle.std.proofs.Common.{◌≢◌, ◌≤◌, ◌<◌, ◌^◌, ℕ, List, length, get_or, MatchOption, arith, sym}
use Rattle.std.specs.Prelude.{Result, Ok, Err}
use Rattle.std.specs.Result.{result_ok}
use Rattle.std.specs.Str.Parse.{ParsesUnsigned, AllDigits, digits_value}
use Rattle.std.proofs.lemmas.Str.Parse.{IsNumeralModel, numerals_by_value, tells_digits, parse_plain, digits_value_short}
use Rattle.el_settings.specs.Numbers.{IsNumber}

own : IsNumeralModel (AllDigits 10) (digits_value 10)
own = numerals_by_value _ tells_digits

pub number_read : {E : Type 0} (bs : List ℕ) (r : Result ℕ E) → ParsesUnsigned 128 10 bs r → get_or bs 0 0 ≢ 43 → length bs ≤ 20 → MatchOption (result_ok r) ((n : ℕ) → ¬ IsNumber bs n) (IsNumber bs)
number_read {E} bs (Ok x) h plain short =
    let p = parse_plain own {E = E} 128 bs (Ok x) h plain in
    ((p.0.1, p.0.0), short, sym p.1)
number_read {E} bs (Err e) h plain short =
    let p = parse_plain own {E = E} 128 bs (Err e) h plain in
    λ n is. let below : digits_value 10 bs < 10 ^ 20 = digits_value_short own bs 20 is.0.1 is.1 in
    p (is.0.1, is.0.0, omega arith)
