-- Words at the front of bytes.
use Rattle.std.proofs.Common.{◌≡◌, ℕ, ◌<◌, ◌≤◌, true, List, length, take, get_or, sym, ◌∙◌, arith}
use Rattle.std.proofs.lemmas.List.{same_lists, length-take, get_or-take, get_or_default}
use Rattle.std.proofs.lemmas.Slice.Eq.{bytes_eq-Decides}
use Rattle.wav_format.specs.Cuts.{fronts}

-- two lists that do not differ below i
pub same_take : (xs ys : List ℕ) (i : ℕ) → i ≤ length xs → i ≤ length ys → ((k : ℕ) → k < i → get_or xs k 0 ≡ get_or ys k 0) → take i xs ≡ take i ys
same_take xs ys i hx hy same =
    same_lists (take i xs) (take i ys) (omega (arith, length-take i xs, length-take i ys)) (λ k d lt.
    let below : k < i = omega (arith, length-take i xs) in
    get_or-take i xs k d below ∙ get_or_default xs k d 0 (omega arith) ∙ same k below ∙ get_or_default ys k 0 d (omega arith) ∙ sym (get_or-take i ys k d below))

pub fronts_from : (word bytes : List ℕ) → ((k : ℕ) → k < length word → k < length bytes → get_or bytes k 0 ≡ get_or word k 0) → fronts word bytes ≡ true
fronts_from word bytes same =
    let w = length word in
    let n = length bytes in
    (bytes_eq-Decides (take w bytes) (take n word)).1 (same_lists (take w bytes) (take n word) (omega (arith, length-take w bytes, length-take n word)) (λ k d lt.
    let in_word : k < w = omega (arith, length-take w bytes) in
    let in_bytes : k < n = omega (arith, length-take w bytes) in
    get_or-take w bytes k d in_word ∙ get_or_default bytes k d 0 in_bytes ∙ same k in_word in_bytes ∙ get_or_default word k 0 d in_word ∙ sym (get_or-take n word k d in_bytes)))
