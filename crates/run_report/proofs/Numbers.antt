-- The numerals of numbers of two digits and more.
use Rattle.std.proofs.Common.{◌≡◌, ◌≤◌, ◌<◌, ◌^◌, ◌+◌, ◌/◌, ◌%◌, List, [], ◌∷◌, ◌++◌, ℕ, codes, ap, ◌∙◌, arith}
use Rattle.std.specs.Fmt.{decimal}
use Rattle.std.proofs.lemmas.Fmt.{decimal_step, decimal_digit}

-- the numeral of a number from that of its tenth
longer : (n : ℕ) (front : List ℕ) → 10 ≤ n → n < 2 ^ 64 → decimal (n / 10) ≡ front → decimal n ≡ front ++ (48 + n % 10) ∷ []
longer n front ten below tenth = decimal_step n ten below ∙ ap (λ ds. ds ++ (48 + n % 10) ∷ []) tenth

pub ten : decimal 10 ≡ codes "10"
ten = longer 10 _ (omega arith) (omega arith) (decimal_digit 1 (omega arith))

pub eleven : decimal 11 ≡ codes "11"
eleven = longer 11 _ (omega arith) (omega arith) (decimal_digit 1 (omega arith))

pub twelve : decimal 12 ≡ codes "12"
twelve = longer 12 _ (omega arith) (omega arith) (decimal_digit 1 (omega arith))

pub thirteen : decimal 13 ≡ codes "13"
thirteen = longer 13 _ (omega arith) (omega arith) (decimal_digit 1 (omega arith))

pub fifteen : decimal 15 ≡ codes "15"
fifteen = longer 15 _ (omega arith) (omega arith) (decimal_digit 1 (omega arith))

pub twenty : decimal 20 ≡ codes "20"
twenty = longer 20 _ (omega arith) (omega arith) (decimal_digit 2 (omega arith))

pub forty_three : decimal 43 ≡ codes "43"
forty_three = longer 43 _ (omega arith) (omega arith) (decimal_digit 4 (omega arith))

pub sixty_five : decimal 65 ≡ codes "65"
sixty_five = longer 65 _ (omega arith) (omega arith) (decimal_digit 6 (omega arith))

pub slow_rate : decimal 8000 ≡ codes "8000"
slow_rate = longer 8000 _ (omega arith) (omega arith) (longer 800 _ (omega arith) (omega arith) (longer 80 _ (omega arith) (omega arith) (decimal_digit 8 (omega arith))))

pub fast_rate : decimal 44100 ≡ codes "44100"
fast_rate = longer 44100 _ (omega arith) (omega arith) (longer 4410 _ (omega arith) (omega arith) (longer 441 _ (omega arith) (omega arith) (longer 44 _ (omega arith) (omega arith) (decimal_digit 4 (omega arith)))))

-- 2 ^ 40
pub count_limit : decimal 1099511627776 ≡ codes "1099511627776"
count_limit = longer 1099511627776 _ (omega arith) (omega arith) (longer 109951162777 _ (omega arith) (omega arith) (longer 10995116277 _ (omega arith) (omega arith) (longer 1099511627 _ (omega arith) (omega arith) (longer 109951162 _ (omega arith) (omega arith) (longer 10995116 _ (omega arith) (omega arith) (longer 1099511 _ (omega arith) (omega arith) (longer 109951 _ (omega arith) (omega arith) (longer 10995 _ (omega arith) (omega arith) (longer 1099 _ (omega arith) (omega arith) (longer 109 _ (omega arith) (omega arith) (longer 10 _ (omega arith) (omega arith) (decimal_digit 1 (omega arith)))))))))))))
