-- Where a text is refused.
use Rattle.std.proofs.Common.{◌≡◌, ℕ, zero, suc, ◌<◌, ◌≤◌, ◌-◌, List, [], ◌∷◌, ◌++◌, length, take, None, Result, Ok, Err, IfErr, inl, inr, refl, sym, ap, ◌∙◌, subst, arith, append-nil, append_assoc, length-append, codes}
use Rattle.gst_value.specs.Description.{Description}
use Rattle.gst_caps.specs.declared.caps.Caps.{Caps}
use Rattle.gst_caps.specs.declared.caps.Caps.TheVariants.{Of}
use Rattle.gst_caps.specs.declared.value.Value.{Value}
use Rattle.caps_text.specs.Answers.{misspelt, many}
use Rattle.caps_text.specs.Grammar.{Structures_to}
use Rattle.caps_text.specs.Parsed.{Told}
use Rattle.caps_text.specs.Place.{BeginsSome, IsLongest, IsPlace, StandsUnlimited}
use Rattle.caps_text.specs.Reading.{read_structures}
use Rattle.caps_text.specs.declared.fault.CapsTextFault.{CapsTextFault}
use Rattle.caps_text.specs.declared.fault.CapsTextFault.TheVariants.{BadCaps, TooMany, OutOfMemory}
use Rattle.caps_text.proofs.Local.{Kept, Same_start, rest_is}
use Rattle.caps_text.proofs.LocalReaders.{local_structures}
use Rattle.caps_text.proofs.Loose.{Or_many}
use Rattle.caps_text.proofs.LooseWhole.{loose_structures}
use Rattle.caps_text.proofs.Parsing.{err_not_ok, read_any, read_empty}
use Rattle.caps_text.proofs.Viable.{stopped}
use Rattle.caps_text.proofs.ViableWhole.{viable_structures}
use Rattle.gst_value.proofs.Places.{take_front as taken}

-- a beginning that is longer goes on with the next byte
longer : (front rest : List ℕ) (n : ℕ) → length front < n → n ≤ length (front ++ rest) → (b : ℕ) × (bs y : List ℕ) × (rest ≡ b ∷ bs) × (take n (front ++ rest) ≡ front ++ b ∷ y)
longer [] [] n less most = absurd (omega (arith, less, most))
longer [] (b ∷ bs) zero less most = absurd (omega (arith, less))
longer [] (b ∷ bs) (suc n) less most = (b, bs, take n bs, refl, refl)
longer (c ∷ cs) rest zero less most = absurd (omega (arith, less))
longer (c ∷ cs) rest (suc n) less most = let ih = longer cs rest n (omega (arith, less)) (omega (arith, most)) in (ih.0, ih.1, ih.2, ih.3, ap (λ l. c ∷ l) ih.4)

-- a text that is refused for its spelling is none
refused_other : (word : List ℕ) (b : ℕ) (y text : List ℕ) → read_structures word ≡ Err (misspelt []) → text ≡ word → read_structures text ≡ Err (misspelt (b ∷ y)) → ⊥
refused_other word b y text e is h = let bad : b ∷ y ≡ [] = rest_is (b ∷ y) [] (stopped {V = List (Description Value)} (misspelt (b ∷ y)) (misspelt []) (sym h ∙ ap read_structures is ∙ e)) in cc

structures_refused : (text rest : List ℕ) (ss : List (Description Value)) → Structures_to None text ss → read_structures text ≡ Err (misspelt rest) → ⊥
structures_refused text rest ss h e = step (loose_structures text [] ss h tt)
  where
    whole : read_structures (text ++ []) ≡ Err (misspelt rest)
    whole = ap read_structures (append-nil text) ∙ e

    step : Or_many (read_structures (text ++ [])) (Ok (ss, [])) → ⊥
    step (inl k) = err_not_ok (misspelt rest) (ss, []) (sym whole ∙ k)
    step (inr k) = let bad : misspelt rest ≡ many = stopped {V = List (Description Value)} (misspelt rest) many (sym whole ∙ k) in cc

none_begins : (text rest y : List ℕ) (b : ℕ) → read_structures text ≡ Err (misspelt (b ∷ y)) → StandsUnlimited text → ⊥
none_begins text rest y b e (caps, inl h) = refused_other (codes "ANY") b y text read_any h.0 e
none_begins text rest y b e (caps, inr (inl h)) = refused_other (codes "EMPTY") b y text read_empty h.0 e
none_begins text rest y b e (caps, inr (inr h)) = structures_refused text (b ∷ y) h.0 h.1 e

-- the place of refusal is the length of the longest beginning that begins some text
longest : (text rest : List ℕ) → read_structures text ≡ Err (misspelt rest) → IsLongest text (length text - length rest)
longest text rest h =
    let v = viable_structures text rest h in
    let k = local_structures text rest None h in
    let place : length text - length rest ≡ length v.0 = let size = ap length v.3 ∙ length-append v.0 rest in omega (arith, size) in
    let other : length text - length rest ≡ length k.0 = let size = ap length k.1 ∙ length-append k.0 rest in omega (arith, size) in
    (omega arith, begins v place, λ n less most some. refused k other n less most some)
  where
    begins : (v : (front more : List ℕ) × (ss : List (Description Value)) × (text ≡ front ++ rest) × Structures_to None (front ++ more) ss) → length text - length rest ≡ length v.0 → BeginsSome (take (length text - length rest) text)
    begins v e =
        let front_is : take (length text - length rest) text ≡ v.0 = ap (λ n. take n text) e ∙ ap (take (length v.0)) v.3 ∙ taken v.0 rest in
        (v.1, subst (λ l. StandsUnlimited (l ++ v.1)) (sym front_is) (Of v.2, inr (inr (v.2, v.4, refl))))

    refused : (k : Kept read_structures text rest None) → length text - length rest ≡ length k.0 → (n : ℕ) → length text - length rest < n → n ≤ length text → BeginsSome (take n text) → ⊥
    refused k e n less most some =
        let l = longer k.0 rest n (subst (λ m. m < n) e less) (subst (λ t. n ≤ length t) k.1 most) in
        let is : take n text ++ some.0 ≡ k.0 ++ (l.0 ∷ (l.2 ++ some.0)) = ap (λ t. take n t ++ some.0) k.1 ∙ ap (λ t. t ++ some.0) l.4 ∙ append_assoc k.0 (l.0 ∷ l.2) some.0 in
        let reads : read_structures (take n text ++ some.0) ≡ Err (misspelt (l.0 ∷ (l.2 ++ some.0))) = ap read_structures is ∙ k.2 (l.0 ∷ (l.2 ++ some.0)) (subst (λ r. Same_start r (l.0 ∷ (l.2 ++ some.0))) (sym l.3) refl) in
        none_begins (take n text ++ some.0) rest (l.2 ++ some.0) l.0 reads some.1

pub told_place : (text : List ℕ) (r : Result Caps CapsTextFault) → Told text r (read_structures text) → IfErr r (IsPlace text)
told_place text (Ok caps) h = tt
told_place text (Err (BadCaps place)) h = (length text - length h.0, longest text h.0 h.1, h.2)
told_place text (Err (TooMany count)) h = tt
told_place text (Err OutOfMemory) h = tt
