-- What is given out of what is held.
use Rattle.std.proofs.Common.{◌≡◌, ℕ, zero, suc, ◌+◌, ◌-◌, ◌≤◌, min, Bool, true, false, leb, leb-true, if◌then◌else◌, List, length, take, drop, refl, sym, ap, ◌∙◌, arith}
use Rattle.std.proofs.lemmas.List.{drop-drop, take-take, drop-take}

-- where the bytes of a content from a start on are held, a part of them from a place on is a part of the content
part_of_held : (c held : List ℕ) (len start place n : ℕ) → start ≤ place → n ≤ len - (place - start) → held ≡ take len (drop start c) → take n (drop (place - start) held) ≡ take n (drop place c)
part_of_held c held len start place zero behind few same = refl
part_of_held c held len start place (suc n) behind few same =
    let skipped : ℕ = place - start in
    let rest : ℕ = len - skipped in
    let whole : len ≡ skipped + rest = omega arith in
    ap (λ h. take (suc n) (drop skipped h)) same
    ∙ ap (λ l. take (suc n) (drop skipped (take l (drop start c)))) whole
    ∙ ap (take (suc n)) (drop-take skipped rest (drop start c))
    ∙ take-take (suc n) rest (drop skipped (drop start c)) few
    ∙ ap (take (suc n)) (drop-drop skipped start c)
    ∙ ap (λ p. take (suc n) (drop p c)) (omega arith)

given_when : (there : Bool) (c held into : List ℕ) (len start place room n : ℕ) → leb start place ≡ there → length held ≤ len → held ≡ take len (drop start c)
    → n ≡ (if there then min room (length held - (place - start)) else 0) → take n into ≡ take n (drop (place - start) held) → take n into ≡ take n (drop place c)
given_when true c held into len start place room n e size same count bytes =
    let behind = leb-true start place e in
    bytes ∙ part_of_held c held len start place n behind (omega arith) same
given_when false c held into len start place room n e size same count bytes =
    ap (λ k. take k into) count ∙ sym (ap (λ k. take k (drop place c)) count)

-- what is given out of what is held is what the content has at the place
pub given_bytes : (c held into : List ℕ) (len start place room n : ℕ) → length held ≤ len → held ≡ take len (drop start c)
    → n ≡ (if leb start place then min room (length held - (place - start)) else 0) → take n into ≡ take n (drop (place - start) held) → take n into ≡ take n (drop place c)
given_bytes c held into len start place room n = given_when (leb start place) c held into len start place room n refl
