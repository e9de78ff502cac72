-- The first number that passes a test.
use Rattle.std.proofs.Common.{◌≡◌, ◌<◌, ◌≤◌, ◌⊎◌, ◌+◌, ℕ, Bool, true, false, cond, None, Some, length, get_or, nat_lt, position, ap, ◌∙◌, inl, inr, arith}
use Rattle.std.specs.List.{position_or_len, range_with_len}
use Rattle.std.proofs.lemmas.Bool.{lt-ltb, le-ltb}
use Rattle.std.proofs.lemmas.List.FromFn.{get_or-range_with_len, length-range_with_len}
use Rattle.std.proofs.lemmas.List.Sums.{position_or_len_is}
use Rattle.gst_value.proofs.Basics.{less_or_last}

module _ (test : ℕ → Bool) (count : ℕ) where
  number_at : (k : ℕ) → k < count → test (get_or (range_with_len 0 count) k 0) ≡ test k
  number_at k w = ap test (get_or-range_with_len 0 count k 0 w ∙ (let e : 0 + k ≡ k = omega arith in e))

  place_is : (n : ℕ) → n ≤ count → ((k : ℕ) → k < n → test k ≡ false) → (n < count → test n ≡ true) → position_or_len test (range_with_len 0 count) ≡ n
  place_is n within before here =
      position_or_len_is test (range_with_len 0 count) n 0 (omega (arith, within, length-range_with_len 0 count)) (λ k w. number_at k (omega (arith, w, within)) ∙ before k w)
      (λ w. let less : n < count = omega (arith, w, length-range_with_len 0 count) in number_at n less ∙ here less)

  found_by : (n : ℕ) → position_or_len test (range_with_len 0 count) ≡ n → position test (range_with_len 0 count) ≡ cond (nat_lt n count) (Some n) None
  found_by n is =
      ap (λ (i : ℕ). cond (nat_lt i (length (range_with_len 0 count))) (Some i) None) is ∙ ap (λ (l : ℕ). cond (nat_lt n l) (Some n) None) (length-range_with_len 0 count)

  pub first_found : (n : ℕ) → n < count → ((k : ℕ) → k < n → test k ≡ false) → test n ≡ true → position test (range_with_len 0 count) ≡ Some n
  first_found n within before here =
      found_by n (place_is n (omega (arith, within)) before (λ w. here)) ∙ (let less : nat_lt n count ≡ true = lt-ltb n count within in ap (λ (b : Bool). cond b (Some n) None) less)

  pub none_found : ((k : ℕ) → k < count → test k ≡ false) → position test (range_with_len 0 count) ≡ None
  none_found all =
      found_by count (place_is count (omega arith) all (λ w. absurd (omega (arith, w)))) ∙ (let less : nat_lt count count ≡ false = le-ltb count count (omega arith) in ap (λ (b : Bool). cond b (Some count) None) less)

-- one number more that does not
pub last_fails : (test : ℕ → Bool) (n : ℕ) → ((k : ℕ) → k < n → test k ≡ false) → test n ≡ false → (k : ℕ) → k < n + 1 → test k ≡ false
last_fails test n before here k w = by (less_or_last k n w)
  where
    by : (k < n) ⊎ (k ≡ n) → test k ≡ false
    by (inl less) = before k less
    by (inr same) = ap test same ∙ here
