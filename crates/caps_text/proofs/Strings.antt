-- Readers of strings, truth values and the words of types.
use Rattle.std.proofs.Common.{◌≡◌, ◌≢◌, ℕ, Bool, true, false, cond, eqb, List, [], ◌∷◌, ◌++◌, Ok, inl, inr, ◌⊎◌, refl, sym, ap, ◌∙◌, subst, arith, append_assoc, append-nil, codes}
use Rattle.std.specs.List.{list_all}
use Rattle.std.proofs.lemmas.Bool.{ne_eqb, eqb-true, eqb-false}
use Rattle.std.proofs.lemmas.Bool.Decides.{eqb_tells}
use Rattle.caps_text.specs.Answers.{Answer, ◌>>=◌}
use Rattle.caps_text.specs.Bytes.{in_class}
use Rattle.caps_text.specs.Grammar.{Then, As, Is, Run, Quoted, Truth_value, Some_string, Type_word}
use Rattle.caps_text.specs.Kinds.{kind_text}
use Rattle.caps_text.specs.Reading.{after_byte, begins, expect, read_kind, read_kind_word, read_literal, read_quoted, read_string, read_string_from, read_truth, some_run}
use Rattle.caps_text.specs.declared.class.Class.TheVariants.{Word}
use Rattle.caps_text.specs.declared.kind.Kind.{Kind}
use Rattle.caps_text.specs.declared.kind.Kind.TheVariants.{Int as Whole, Bool as Either, Text as Words, Fraction as Ratio}
use Rattle.caps_text.proofs.Choices.{Behind, is_byte, reads_choice, reads_begun, reads_iff}
use Rattle.caps_text.proofs.Readers.{IsReader, Starts, nothing, ok_is, reads_then, reads_as, reads_any, stops_nothing}
use Rattle.caps_text.proofs.Words.{reads_byte, reads_literal, reads_run}
use Rattle.gst_value.proofs.Basics.{and_left}

-- what was read up to the closing quote
abbrev Closed : Bool → List ℕ → List ℕ → List ℕ → List ℕ → Type 0
Closed false so_far x t rest = (body content : List ℕ) × (x ≡ body ++ 34 ∷ rest) × Quoted body content × (t ≡ so_far ++ content)
Closed true so_far x t rest = (b : ℕ) × (body content : List ℕ) × (x ≡ b ∷ (body ++ 34 ∷ rest)) × Quoted body content × (t ≡ so_far ++ b ∷ content)

closed : (escaped : Bool) (so_far x t rest : List ℕ) → read_quoted escaped so_far x ≡ Ok (t, rest) → Closed escaped so_far x t rest
closed true so_far [] t rest h = absurd (cc)
closed false so_far [] t rest h = absurd (cc)
closed true so_far (b ∷ bs) t rest h =
    let ih = closed false (so_far ++ b ∷ []) bs t rest h in
    (b, ih.0, ih.1, ap (λ l. b ∷ l) ih.2, ih.3, ih.4 ∙ append_assoc so_far (b ∷ []) ih.1)
closed false so_far (b ∷ bs) t rest h = step (eqb b 34) refl h (closed true so_far bs t rest) (closed false (so_far ++ b ∷ []) bs t rest)
  where
    plain : b ≢ 34 → (s : Bool) → eqb b 92 ≡ s → cond s (read_quoted true so_far bs) (read_quoted false (so_far ++ b ∷ []) bs) ≡ Ok (t, rest) → (read_quoted true so_far bs ≡ Ok (t, rest) → Closed true so_far bs t rest) → (read_quoted false (so_far ++ b ∷ []) bs ≡ Ok (t, rest) → Closed false (so_far ++ b ∷ []) bs t rest) → Closed false so_far (b ∷ bs) t rest
    plain n true e k f g =
        let ih = f k in
        let is : b ≡ 92 = eqb-true b 92 e in
        (92 ∷ ih.0 ∷ ih.1, ih.0 ∷ ih.2, (λ i. is i ∷ ih.3 i), (ih.1, inr refl, ih.4), ih.5)
    plain n false e k f g =
        let ih = g k in
        (b ∷ ih.0, b ∷ ih.1, ap (λ l. b ∷ l) ih.2, (ih.0, inl (refl, n, eqb-false b 92 e), ih.3), ih.4 ∙ append_assoc so_far (b ∷ []) ih.1)

    step : (s : Bool) → eqb b 34 ≡ s → cond {A = Answer (List ℕ)} s (Ok (so_far, bs)) (cond (eqb b 92) (read_quoted true so_far bs) (read_quoted false (so_far ++ b ∷ []) bs)) ≡ Ok (t, rest) → (read_quoted true so_far bs ≡ Ok (t, rest) → Closed true so_far bs t rest) → (read_quoted false (so_far ++ b ∷ []) bs ≡ Ok (t, rest) → Closed false (so_far ++ b ∷ []) bs t rest) → Closed false so_far (b ∷ bs) t rest
    step true e k f g =
        let is = ok_is (so_far, bs) (t, rest) k in
        ([], [], (λ i. eqb-true b 34 e i ∷ (is i).1), refl, sym (ap (λ p. p.0) is) ∙ sym (append-nil so_far))
    step false e k f g = plain (eqb-false b 34 e) (eqb b 92) refl k f g

reopened : (body content so_far rest : List ℕ) → Quoted body content → read_quoted false so_far (body ++ 34 ∷ rest) ≡ Ok (so_far ++ content, rest)
reopened body [] so_far rest h = ap (λ l. read_quoted false so_far (l ++ 34 ∷ rest)) h ∙ ap (λ l. Ok (l, rest)) (sym (append-nil so_far))
reopened body (b ∷ bs) so_far rest h = step h.1 (reopened h.0 bs (so_far ++ b ∷ []) rest h.2)
  where
    again : read_quoted false (so_far ++ b ∷ []) (h.0 ++ 34 ∷ rest) ≡ Ok ((so_far ++ b ∷ []) ++ bs, rest) → read_quoted false (so_far ++ b ∷ []) (h.0 ++ 34 ∷ rest) ≡ Ok (so_far ++ b ∷ bs, rest)
    again ih = ih ∙ ap (λ l. Ok (l, rest)) (append_assoc so_far (b ∷ []) bs)

    step : ((body ≡ b ∷ h.0) × (b ≢ 34) × (b ≢ 92)) ⊎ (body ≡ 92 ∷ b ∷ h.0) → read_quoted false (so_far ++ b ∷ []) (h.0 ++ 34 ∷ rest) ≡ Ok ((so_far ++ b ∷ []) ++ bs, rest) → read_quoted false so_far (body ++ 34 ∷ rest) ≡ Ok (so_far ++ b ∷ bs, rest)
    step (inl p) ih =
        ap (λ l. read_quoted false so_far (l ++ 34 ∷ rest)) p.0
        ∙ ap (λ s. cond {A = Answer (List ℕ)} s (Ok (so_far, h.0 ++ 34 ∷ rest)) (cond (eqb b 92) (read_quoted true so_far (h.0 ++ 34 ∷ rest)) (read_quoted false (so_far ++ b ∷ []) (h.0 ++ 34 ∷ rest)))) (ne_eqb b 34 p.1)
        ∙ ap (λ s. cond {A = Answer (List ℕ)} s (read_quoted true so_far (h.0 ++ 34 ∷ rest)) (read_quoted false (so_far ++ b ∷ []) (h.0 ++ 34 ∷ rest))) (ne_eqb b 92 p.2)
        ∙ again ih
    step (inr p) ih = ap (λ l. read_quoted false so_far (l ++ 34 ∷ rest)) p ∙ again ih

-- what stands behind an opening quote
abbrev pub To_quote : List ℕ → List ℕ → Type 0
To_quote text t = (body : List ℕ) × (text ≡ body ++ 34 ∷ []) × Quoted body t

pub reads_to_quote : IsReader To_quote nothing (read_quoted false [])
reads_to_quote = record {
  sound = λ x rest v h. let c = closed false [] x v rest h in (c.0 ++ 34 ∷ [], c.2 ∙ sym (append_assoc c.0 (34 ∷ []) rest), (c.0, refl, subst (Quoted c.0) (sym c.4) c.3));
  complete = λ used rest v h stop. ap (λ l. read_quoted false [] (l ++ rest)) h.1 ∙ ap (read_quoted false []) (append_assoc h.0 (34 ∷ []) rest) ∙ reopened h.0 v [] rest h.2;
}

word_first : (b : ℕ) → in_class Word b ≡ true → eqb b 34 ≡ false
word_first b h = elim (eqb_tells b 34) [ inl t ↦ absurd (let bad : in_class Word 34 ≡ true = subst (λ n. in_class Word n ≡ true) t.1 h in cc) | inr t ↦ t.0 ]

pub word_apart : (used v : List ℕ) → Run Word used v → Starts (is_byte 34) used
word_apart [] v h = absurd (let some = h.1 in omega (arith, some))
word_apart (b ∷ bs) v h = word_first b (and_left (in_class Word b) (list_all (in_class Word) bs) h.2)

-- a string
pub reads_string : IsReader Some_string (in_class Word) read_string
unfolding read_string
reads_string = reads_iff (λ text t. Behind 34 To_quote text t ⊎ Run Word text t) Some_string (in_class Word) (λ x. read_string_from x (after_byte 34 x))
    (λ text t h. elim h [ inl q ↦ inr (q.2.0, q.1 ∙ ap (λ l. 34 ∷ l) q.2.1, q.2.2) | inr r ↦ inl r ])
    (λ text t h. elim h [ inl r ↦ inr r | inr q ↦ inl (q.0 ++ 34 ∷ [], q.1, (q.0, refl, q.2)) ])
    (reads_choice 34 To_quote (Run Word) (in_class Word) (read_quoted false []) (some_run Word) read_string_from (reads_any To_quote (in_class Word) (read_quoted false []) reads_to_quote) (reads_run Word) word_apart (λ x y. refl) (λ x. refl))

-- a text and nothing else, which stands for this value
abbrev pub Just : {V : Type 0} → List ℕ → V → List ℕ → V → Type 0
Just ws v = As (λ u. v) (Is ws)

pub reads_just : {V : Type 0} (ws : List ℕ) (v : V) → IsReader (Just ws v) nothing (λ x. read_literal ws x >>= λ a. Ok (v, a.1))
reads_just ws v = reads_as (λ u. v) (Is ws) nothing (read_literal ws) (reads_literal ws)

just_starts : {V : Type 0} (test : ℕ → Bool) (w : ℕ) (ws : List ℕ) (v : V) (used : List ℕ) (u : V) → test w ≡ false → Just (w ∷ ws) v used u → Starts test used
just_starts test w ws v used u e h = subst (Starts test) (sym h.1) e

-- true and false
pub reads_truth : IsReader Truth_value nothing read_truth
unfolding read_truth
reads_truth = reads_iff (λ text b. Just (codes "true") true text b ⊎ Just (codes "false") false text b) Truth_value nothing _
    (λ text b h. elim h [ inl p ↦ inl (p.1, p.2) | inr p ↦ inr (p.1, p.2) ])
    (λ text b h. elim h [ inl p ↦ inl (tt, p.0, p.1) | inr p ↦ inr (tt, p.0, p.1) ])
    (reads_begun 116 (Just (codes "true") true) (Just (codes "false") false) nothing (λ x. read_literal (codes "true") x >>= λ a. Ok (true, a.1)) (λ x. read_literal (codes "false") x >>= λ a. Ok (false, a.1)) (reads_just (codes "true") true) (reads_just (codes "false") false)
    (λ used v p. (codes "rue", p.1)) (λ used v p. just_starts (is_byte 116) 102 (codes "alse") false used v refl p))

-- the words of types
abbrev Of_int : List ℕ → Kind → Type 0
Of_int = Just (codes "int)") Whole

abbrev Of_string : List ℕ → Kind → Type 0
Of_string = Just (codes "string)") Words

abbrev Of_boolean : List ℕ → Kind → Type 0
Of_boolean = Just (codes "boolean)") Either

abbrev Of_fraction : List ℕ → Kind → Type 0
Of_fraction = Just (codes "fraction)") Ratio

abbrev Of_third : List ℕ → Kind → Type 0
Of_third text k = Of_boolean text k ⊎ Of_fraction text k

abbrev Of_second : List ℕ → Kind → Type 0
Of_second text k = Of_string text k ⊎ Of_third text k

abbrev Of_any : List ℕ → Kind → Type 0
Of_any text k = Of_int text k ⊎ Of_second text k

third_starts : (test : ℕ → Bool) (used : List ℕ) (k : Kind) → test 98 ≡ false → test 102 ≡ false → Of_third used k → Starts test used
third_starts test used k e f (inl p) = just_starts test 98 (codes "oolean)") Either used k e p
third_starts test used k e f (inr p) = just_starts test 102 (codes "raction)") Ratio used k f p

second_starts : (test : ℕ → Bool) (used : List ℕ) (k : Kind) → test 115 ≡ false → test 98 ≡ false → test 102 ≡ false → Of_second used k → Starts test used
second_starts test used k d e f (inl p) = just_starts test 115 (codes "tring)") Words used k d p
second_starts test used k d e f (inr p) = third_starts test used k e f p

reads_third : IsReader Of_third nothing (λ x. cond (begins 98 x) (read_literal (codes "boolean)") x >>= λ a. Ok (Either, a.1)) (read_literal (codes "fraction)") x >>= λ a. Ok (Ratio, a.1)))
reads_third = reads_begun 98 Of_boolean Of_fraction nothing (λ x. read_literal (codes "boolean)") x >>= λ a. Ok (Either, a.1)) (λ x. read_literal (codes "fraction)") x >>= λ a. Ok (Ratio, a.1)) (reads_just (codes "boolean)") Either) (reads_just (codes "fraction)") Ratio)
    (λ used v p. (codes "oolean)", p.1)) (λ used v p. just_starts (is_byte 98) 102 (codes "raction)") Ratio used v refl p)

reads_second : IsReader Of_second nothing (λ x. cond (begins 115 x) (read_literal (codes "string)") x >>= λ a. Ok (Words, a.1)) (cond (begins 98 x) (read_literal (codes "boolean)") x >>= λ a. Ok (Either, a.1)) (read_literal (codes "fraction)") x >>= λ a. Ok (Ratio, a.1))))
reads_second = reads_begun 115 Of_string Of_third nothing (λ x. read_literal (codes "string)") x >>= λ a. Ok (Words, a.1)) _ (reads_just (codes "string)") Words) reads_third
    (λ used v p. (codes "tring)", p.1)) (λ used v p. third_starts (is_byte 115) used v refl refl p)

reads_kind_word : IsReader Of_any nothing read_kind_word
unfolding read_kind_word
reads_kind_word = reads_begun 105 Of_int Of_second nothing (λ x. read_literal (codes "int)") x >>= λ a. Ok (Whole, a.1)) _ (reads_just (codes "int)") Whole) reads_second
    (λ used v p. (codes "nt)", p.1)) (λ used v p. second_starts (is_byte 105) used v refl refl refl p)

kind_to : (text : List ℕ) (kind : Kind) → Then (Is (40 ∷ [])) (λ s. Of_any) text kind → Type_word text kind
kind_to text kind h = h.3 ∙ ap (λ l. l ++ h.1) h.4 ∙ tail h.5
  where
    is_kind : (ws : List ℕ) (k : Kind) → (h.1 ≡ ws) → (kind ≡ k) → kind_text k ≡ 40 ∷ ws → 40 ∷ h.1 ≡ kind_text kind
    is_kind ws k e f g = ap (λ l. 40 ∷ l) e ∙ sym g ∙ ap kind_text (sym f)

    tail : Of_any h.1 kind → 40 ∷ h.1 ≡ kind_text kind
    tail (inl p) = is_kind (codes "int)") Whole p.1 p.2 refl
    tail (inr (inl p)) = is_kind (codes "string)") Words p.1 p.2 refl
    tail (inr (inr (inl p))) = is_kind (codes "boolean)") Either p.1 p.2 refl
    tail (inr (inr (inr p))) = is_kind (codes "fraction)") Ratio p.1 p.2 refl

kind_from : (text : List ℕ) (kind : Kind) → Type_word text kind → Then (Is (40 ∷ [])) (λ s. Of_any) text kind
kind_from text Whole h = (40 ∷ [], codes "int)", tt, h, refl, inl (tt, refl, refl))
kind_from text Words h = (40 ∷ [], codes "string)", tt, h, refl, inr (inl (tt, refl, refl)))
kind_from text Either h = (40 ∷ [], codes "boolean)", tt, h, refl, inr (inr (inl (tt, refl, refl))))
kind_from text Ratio h = (40 ∷ [], codes "fraction)", tt, h, refl, inr (inr (inr (tt, refl, refl))))

pub reads_kind : IsReader Type_word nothing read_kind
unfolding read_kind
reads_kind = reads_iff (Then (Is (40 ∷ [])) (λ s. Of_any)) Type_word nothing _ kind_to kind_from
    (reads_then (Is (40 ∷ [])) (λ s. Of_any) nothing nothing (expect 40) (λ s. read_kind_word) (reads_byte 40) (λ s. reads_kind_word) (λ v back w rest q stop. stops_nothing (back ++ rest)))
