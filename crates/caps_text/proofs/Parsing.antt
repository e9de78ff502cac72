-- Whole texts: what is answered is what the grammar says.
use Rattle.std.proofs.Common.{◌≡◌, ◌≢◌, ℕ, List, [], ◌++◌, length, Result, Ok, Err, IfOk, inl, inr, refl, sym, ap, ◌∙◌, subst, arith, append-nil, codes}
use Rattle.gst_value.specs.Description.{Description}
use Rattle.gst_caps.specs.declared.caps.Caps.{Caps}
use Rattle.gst_caps.specs.declared.caps.Caps.TheVariants.{Any, Of}
use Rattle.gst_caps.specs.declared.value.Value.{Value}
use Rattle.caps_text.specs.Answers.{Answer, Stop, misspelt, many}
use Rattle.caps_text.specs.Grammar.{IsCapsText, Structures}
use Rattle.caps_text.specs.Parsed.{AnswersCaps, Told}
use Rattle.caps_text.specs.Reading.{expect, read_head, read_media, read_structures, some_run}
use Rattle.caps_text.specs.declared.fault.CapsTextFault.{CapsTextFault}
use Rattle.caps_text.specs.declared.fault.CapsTextFault.TheVariants.{BadCaps, TooMany, OutOfMemory}
use Rattle.caps_text.proofs.Loops.{structures_all}
use Rattle.caps_text.proofs.Readers.{ok_is}
use Rattle.caps_text.proofs.Whole.{reads_structures}

-- the two words are no structures
pub read_any : read_structures (codes "ANY") ≡ Err (misspelt [])
unfolding read_structures read_head read_media some_run expect
read_any = refl

pub read_empty : read_structures (codes "EMPTY") ≡ Err (misspelt [])
unfolding read_structures read_head read_media some_run expect
read_empty = refl

structures_read : (text : List ℕ) (ss : List (Description Value)) → Structures text ss → read_structures text ≡ Ok (ss, [])
structures_read text ss h = ap read_structures (sym (append-nil text)) ∙ reads_structures.complete text [] ss h tt

pub err_not_ok : (e : Stop) (p : List (Description Value) × List ℕ) → ◌≡◌ {A = Answer (List (Description Value))} (Err e) (Ok p) → ⊥
err_not_ok e p h = cc

refused_word : (word text : List ℕ) (ss : List (Description Value)) → read_structures word ≡ Err (misspelt []) → text ≡ word → Structures text ss → ⊥
refused_word word text ss e is h = err_not_ok (misspelt []) (ss, []) (sym e ∙ ap read_structures (sym is) ∙ structures_read text ss h)

lengths_apart : (text : List ℕ) → text ≡ codes "ANY" → text ≡ codes "EMPTY" → ⊥
lengths_apart text e f = let g : 3 ≡ 5 = sym (ap length e) ∙ ap length f in omega (arith, g)

pub any_only : (text : List ℕ) (caps : Caps) → text ≡ codes "ANY" → IsCapsText text caps → Any ≡ caps
any_only text caps e (inl h) = sym h.1
any_only text caps e (inr (inl h)) = absurd (lengths_apart text e h.0)
any_only text caps e (inr (inr h)) = absurd (refused_word (codes "ANY") text h.0 read_any e h.1)

pub empty_only : (text : List ℕ) (caps : Caps) → text ≡ codes "EMPTY" → IsCapsText text caps → Of [] ≡ caps
empty_only text caps e (inl h) = absurd (lengths_apart text h.0 e)
empty_only text caps e (inr (inl h)) = sym h.1
empty_only text caps e (inr (inr h)) = absurd (refused_word (codes "EMPTY") text h.0 read_empty e h.1)

-- structures that were read are those of the text
pub told_found : (text : List ℕ) (r : Result Caps CapsTextFault) → Told text r (read_structures text) → IfOk r (λ caps. IsCapsText text caps)
told_found text (Err e) h = tt
told_found text (Ok caps) h =
    let f = reads_structures.sound text h.1 h.0 h.2 in
    let is : text ≡ f.0 = f.1 ∙ ap (λ l. f.0 ++ l) (structures_all text h.1 h.0 h.2) ∙ append-nil f.0 in
    inr (inr (h.0, subst (λ l. Structures l h.0) (sym is) f.2, h.3))

told_structures : (text : List ℕ) (r : Result Caps CapsTextFault) (ss : List (Description Value)) → Told text r (read_structures text) → read_structures text ≡ Ok (ss, []) → AnswersCaps r (Of ss)
told_structures text (Ok caps) ss h e =
    let is = ok_is (h.0, h.1) (ss, []) (sym h.2 ∙ e) in
    h.3 ∙ ap (λ p. Of p.0) is
told_structures text (Err (BadCaps place)) ss h e = err_not_ok (misspelt h.0) (ss, []) (sym h.1 ∙ e)
told_structures text (Err (TooMany count)) ss h e = err_not_ok many (ss, []) (sym h.0 ∙ e)
told_structures text (Err OutOfMemory) ss h e = tt

pub told_only : (text : List ℕ) (r : Result Caps CapsTextFault) (caps : Caps) → text ≢ codes "ANY" → text ≢ codes "EMPTY" → Told text r (read_structures text) → IsCapsText text caps → AnswersCaps r caps
told_only text r caps a e h (inl k) = absurd (a k.0)
told_only text r caps a e h (inr (inl k)) = absurd (e k.0)
told_only text r caps a e h (inr (inr k)) = subst (AnswersCaps r) (sym k.2) (told_structures text r k.0 h (structures_read text k.0 k.1))

-- a text stands for one caps
pub caps_one : (text : List ℕ) (a b : Caps) → IsCapsText text a → IsCapsText text b → a ≡ b
caps_one text a b (inl h) k = sym (any_only text a h.0 (inl h)) ∙ any_only text b h.0 k
caps_one text a b (inr (inl h)) k = sym (empty_only text a h.0 (inr (inl h))) ∙ empty_only text b h.0 k
caps_one text a b (inr (inr h)) (inl k) = sym (any_only text a k.0 (inr (inr h))) ∙ any_only text b k.0 (inl k)
caps_one text a b (inr (inr h)) (inr (inl k)) = sym (empty_only text a k.0 (inr (inr h))) ∙ empty_only text b k.0 (inr (inl k))
caps_one text a b (inr (inr h)) (inr (inr k)) =
    h.2 ∙ ap (λ p. Of p.0) (ok_is (h.0, []) (k.0, []) (sym (structures_read text h.0 h.1) ∙ structures_read text k.0 k.1)) ∙ sym k.2
