-- What the loop that reads a source keeps.
use Rattle.std.proofs.Common.{◌≡◌, ℕ, ◌+◌, ◌≤◌, ◌<◌, List, ◌++◌, Option, length, take, drop, ap, sym, ◌∙◌, arith, length-append, length-take}
use Rattle.std.specs.Option.{ForSome}
use Rattle.std.proofs.lemmas.List.{take_all}
use Rattle.script_text.specs.Scripts.{longest}
use Rattle.script_file.specs.Fronts.{IsFront}
use Rattle.gst_value.proofs.Places.{take_apart}

-- these bytes stand in front of a content, where it is told
abbrev pub Begins : Option (List ℕ) → List ℕ → Type 0
Begins told bytes = ForSome told (λ c. bytes ≡ take (length bytes) c)

-- more bytes behind them
pub begins_more : (told : Option (List ℕ)) (bytes more : List ℕ) (n : ℕ) → Begins told bytes → length more ≡ length bytes + n
    → ForSome told (λ c. more ≡ bytes ++ take n (drop (length bytes) c)) → Begins told more
begins_more told bytes more n front count added c is =
    added c is
    ∙ ap (λ part. part ++ take n (drop (length bytes) c)) (front c is)
    ∙ sym (take_apart (length bytes) n c)
    ∙ ap (λ m. take m c) (sym count)

-- there are none behind them
pub front_all : (told : Option (List ℕ)) (bytes more : List ℕ) (n : ℕ) → Begins told more → n ≡ 0 → length more ≡ length bytes + n
    → ForSome told (λ c. length c ≤ length bytes) → ForSome told (IsFront more)
front_all told bytes more n front none count ends c is = record {
  front = front c is;
  whole = λ _. front c is ∙ take_all (length more) c (let e = ends c is in omega arith);
}

-- there are more than a script may have
pub front_long : (told : Option (List ℕ)) (bytes : List ℕ) → Begins told bytes → longest < length bytes → ForSome told (IsFront bytes)
front_long told bytes front long c is = record { front = front c is; whole = λ short. absurd (omega arith) }

-- a block that was lent and comes back has room as before
pub block_stays : (n : ℕ) (xs ys : List ℕ) → 0 < n → 0 < length ys → 0 < length (take n (ys ++ drop (length ys) xs))
block_stays n xs ys some room = omega (arith, length-take n (ys ++ drop (length ys) xs), length-append ys (drop (length ys) xs))
