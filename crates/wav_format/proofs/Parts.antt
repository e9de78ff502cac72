-- The parts of the head that is written, one behind the other.
use Rattle.std.proofs.Common.{◌≡◌, ℕ, List, [], ◌++◌, length, drop, sym, ap, ◌∙◌, append_assoc, arith}
use Rattle.std.proofs.lemmas.List.{take_at, drop_at, drop_all, append-nil, length-append, length-drop}
use borrow.Rule.Slice.PartMut.{put_mid, post_of}

-- parts of 12, 24 and 8 bytes that are written over a list of 44
pub three_parts : (a b c into : List ℕ) → length a ≡ 12 → length b ≡ 24 → length into ≡ 44 → put_mid 36 8 (put_mid 12 24 (a ++ post_of 0 12 into) b) c ≡ a ++ b ++ c
three_parts a b c into la lb li =
    let rest = drop 12 into in
    let gone : drop 24 (drop 12 (a ++ rest)) ≡ drop 24 rest = ap (drop 24) (drop_at a rest 12 la) in
    let two : put_mid 12 24 (a ++ rest) b ≡ (a ++ b) ++ drop 24 rest =
    ap (λ (t : List ℕ). t ++ (b ++ drop 24 (drop 12 (a ++ rest)))) (take_at a rest 12 la)
    ∙ ap (λ (t : List ℕ). a ++ (b ++ t)) gone
    ∙ sym (append_assoc a b (drop 24 rest)) in
    let front : length (a ++ b) ≡ 36 = omega (arith, length-append a b) in
    let none : drop 8 (drop 36 ((a ++ b) ++ drop 24 rest)) ≡ [] =
    ap (drop 8) (drop_at (a ++ b) (drop 24 rest) 36 front) ∙ drop_all 8 (drop 24 rest) (omega (arith, length-drop 24 rest, length-drop 12 into)) in
    ap (λ (t : List ℕ). put_mid 36 8 t c) two
    ∙ ap (λ (t : List ℕ). t ++ (c ++ drop 8 (drop 36 ((a ++ b) ++ drop 24 rest)))) (take_at (a ++ b) (drop 24 rest) 36 front)
    ∙ ap (λ (t : List ℕ). (a ++ b) ++ (c ++ t)) none
    ∙ ap (λ (t : List ℕ). (a ++ b) ++ t) (append-nil c)

pub joined : (a b c x y z : List ℕ) → a ≡ x → b ≡ y → c ≡ z → a ++ b ++ c ≡ x ++ y ++ z
joined a b c x y z p q r = cc
