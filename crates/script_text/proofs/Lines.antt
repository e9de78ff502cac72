-- The line at the front of a text.
use Rattle.std.proofs.Common.{◌≡◌, ◌∙◌, ℕ, suc, Bool, true, false, cond, not, eqb, List, [], ◌∷◌, inl, inr, refl, sym, ap, arith}
use Rattle.std.specs.Prelude.{drop, length, take}
use Rattle.std.specs.List.{IsFirstAndRest, take_while}
use Rattle.std.proofs.lemmas.Bool.Decides.{eqb_tells}
use Rattle.std.proofs.lemmas.List.Sums.{take_while-cons}
use Rattle.text_words.specs.Words.{onto}
use Rattle.script_text.specs.Lines.{in_line, lines}

-- what stands behind a line end
abbrev pub behind_end : List ℕ → List ℕ
behind_end [] = []
behind_end (b ∷ bs) = bs

abbrev line_end : List ℕ → ℕ
line_end x = length (take_while in_line x)

first_line : (b : ℕ) (bs : List ℕ) → lines (b ∷ bs) ≡ take (line_end (b ∷ bs)) (b ∷ bs) ∷ lines (behind_end (drop (line_end (b ∷ bs)) (b ∷ bs)))
first_line b [] = rw (take_while-cons in_line b []) (go (eqb b 10))
  where
    go : (t : Bool) → cond t ([] ∷ []) ((b ∷ []) ∷ []) ≡ take (length (cond (not t) (b ∷ take_while in_line []) [])) (b ∷ []) ∷ lines (behind_end (drop (length (cond (not t) (b ∷ take_while in_line []) [])) (b ∷ [])))
    go true = refl
    go false = refl
first_line b (d ∷ ds) = rw (take_while-cons in_line b (d ∷ ds)) (go (eqb b 10) (first_line d ds))
  where
    go : (t : Bool) → lines (d ∷ ds) ≡ take (line_end (d ∷ ds)) (d ∷ ds) ∷ lines (behind_end (drop (line_end (d ∷ ds)) (d ∷ ds)))
        → cond t ([] ∷ lines (d ∷ ds)) (onto b (lines (d ∷ ds)))
        ≡ take (length (cond (not t) (b ∷ take_while in_line (d ∷ ds)) [])) (b ∷ d ∷ ds) ∷ lines (behind_end (drop (length (cond (not t) (b ∷ take_while in_line (d ∷ ds)) [])) (b ∷ d ∷ ds)))
    go true ih = refl
    go false ih = ap (onto b) ih

pub line_split : (x line behind rest : List ℕ) (n : ℕ) → eqb (length x) 0 ≡ false → n ≡ line_end x → line ≡ take n x → behind ≡ drop n x → rest ≡ behind_end behind → lines x ≡ line ∷ lines rest
line_split [] line behind rest n some at l h r = absurd (no some)
  where
    no : true ≡ false → ⊥
    no e = cc
line_split (b ∷ bs) line behind rest n some at l h r =
    first_line b bs
    ∙ ap (λ m. take m (b ∷ bs) ∷ lines (behind_end (drop m (b ∷ bs)))) (sym at)
    ∙ ap (λ y. y ∷ lines (behind_end (drop n (b ∷ bs)))) (sym l)
    ∙ ap (λ y. line ∷ lines y) (sym (r ∙ ap behind_end h))

pub first_rest : (s : List ℕ) (x : ℕ) (rest : List ℕ) → IsFirstAndRest s x rest → rest ≡ behind_end s
first_rest s x rest h = sym (ap behind_end h.0)

pub none_rest : (s : List ℕ) → length s ≡ 0 → s ≡ behind_end s
none_rest [] h = refl
none_rest (b ∷ bs) h = absurd (omega (arith, h))

pub no_lines : (x : List ℕ) → eqb (length x) 0 ≡ true → lines x ≡ []
no_lines [] h = refl
no_lines (b ∷ bs) h = absurd (no (sym h ∙ not_zero))
  where
    no : true ≡ false → ⊥
    no e = cc

    not_zero : eqb (suc (length bs)) 0 ≡ false
    not_zero = elim (eqb_tells (suc (length bs)) 0) [ inl t ↦ absurd (omega (arith, t.1)) | inr t ↦ t.0 ]
