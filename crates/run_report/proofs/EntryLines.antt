-- The lines of the commands, one after another.
use Rattle.std.proofs.Common.{◌≡◌, ℕ, ◌+◌, ◌<◌, List, [], ◌∷◌, ◌++◌, length, take, get_or, append_assoc, append-nil, add-zero, ap, arith, ◌∙◌, sym, refl}
use Rattle.std.proofs.lemmas.List.{take_more, length-take}
use Rattle.run_report.specs.CountLines.{entry_line, entry_lines}
use Rattle.script_text.specs.declared.answer.Entry.{Entry}

pub entry_lines_more : (k : ℕ) (xs : List Entry) (x : Entry) → entry_lines k (xs ++ x ∷ []) ≡ entry_lines k xs ++ entry_line (k + length xs) x
entry_lines_more k [] x = rw (append-nil, add-zero) refl
entry_lines_more k (y ∷ ys) x =
    let hypothesis = entry_lines_more (k + 1) ys x in
    let number : k + 1 + length ys ≡ k + length (y ∷ ys) = omega arith in
    ap (λ (t : List ℕ). entry_line k y ++ t) hypothesis ∙ sym (append_assoc (entry_line k y) (entry_lines (k + 1) ys) (entry_line (k + 1 + length ys) x)) ∙ ap (λ (n : ℕ). entry_line k y ++ entry_lines (k + 1) ys ++ entry_line n x) number

-- one more line behind a text with the lines so far
pub text_with_more : (text lines longer : List ℕ) (xs : List Entry) (i : ℕ) (x : Entry) → i < length xs → lines ≡ text ++ entry_lines 1 (take i xs) → longer ≡ lines ++ entry_line (i + 1) (get_or xs i x) → longer ≡ text ++ entry_lines 1 (take (i + 1) xs)
text_with_more text lines longer xs i x below so_far more =
    let count : 1 + length (take i xs) ≡ i + 1 = omega (arith, length-take {A = Entry}) in
    let front = take_more xs i x below in
    let step = entry_lines_more 1 (take i xs) (get_or xs i x) in
    more ∙ ap (λ (t : List ℕ). t ++ entry_line (i + 1) (get_or xs i x)) so_far ∙ append_assoc text (entry_lines 1 (take i xs)) (entry_line (i + 1) (get_or xs i x)) ∙ ap (λ (n : ℕ). text ++ (entry_lines 1 (take i xs) ++ entry_line n (get_or xs i x))) (sym count) ∙ ap (λ (t : List ℕ). text ++ t) (sym step) ∙ ap (λ (front : List Entry). text ++ entry_lines 1 front) (sym front)
