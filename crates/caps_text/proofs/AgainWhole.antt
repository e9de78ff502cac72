-- What is printed stands for what was printed: structures and caps.
use Rattle.std.proofs.Common.{◌≡◌, ℕ, ◌≤◌, Bool, true, false, cond, List, [], ◌∷◌, ◌++◌, length, Some, None, inl, inr, refl, sym, ap, ◌∙◌, subst, arith, append_assoc, append-nil, length-append, codes, map}
use Rattle.std.specs.Cmp.Lexicographic.{slice_cmp}
use Rattle.std.specs.List.{filter, flat_map}
use Rattle.std.specs.Ordering.{is_lt, nat_cmp}
use Rattle.std.specs.Str.{bytes_eq}
use Rattle.std.specs.declared.cmp.Ordering.TheVariants.{Less}
use Rattle.std.proofs.lemmas.Slice.Eq.{bytes_eq-Decides}
use Rattle.gst_value.proofs.Lists.{Each-append, Each-filter}
use Rattle.gst_value.proofs.NamesInOrder.{Rises-fields_with, fields_with_step, same_not_before}
use Rattle.gst_caps.specs.Accepts.{value_at}
use Rattle.gst_value.specs.Description.{Description}
use Rattle.gst_value.specs.Names.{Each, Rises, is_before, fields_with}
use Rattle.gst_caps.specs.declared.caps.Caps.{Caps}
use Rattle.gst_caps.specs.declared.caps.Caps.TheVariants.{Any, Of}
use Rattle.gst_value.specs.declared.one.One.{One}
use Rattle.gst_caps.specs.declared.value.Value.{Value}
use Rattle.caps_text.specs.Grammar.{Then, Mark, Media_type, Field_name, Field, Head, Caps_step, IsCapsText, Repeated, last, more}
use Rattle.caps_text.specs.Printed.{caps_text, field_text, joined_behind, structure_text, typed_text, value_text}
use Rattle.caps_text.specs.Reading.{Made, again, bare, done, with_field}
use Rattle.caps_text.specs.Singles.{of_singles, single_field}
use Rattle.caps_text.proofs.AgainListed.{Fine_value, value_again, value_fine}

-- a field, and a structure, that some text stands for
abbrev Fine_field : List ℕ × Value → Type 0
Fine_field f = Field_name f.0 f.0 × Fine_value f.1

record Fine_structure (s : Description Value) : Type 0 where
  media : Media_type s.media s.media
  fields : Each Fine_field s.fields
  rises : Rises s.fields
  few : length s.fields ≤ 64

-- setting a field behind all others
each_at : {X : Type 0} (P : X → Type 0) (xs ys : List X) (x : X) → Each P (xs ++ x ∷ ys) → P x
each_at P [] ys x h = h.0
each_at P (z ∷ zs) ys x h = each_at P zs ys x h.1

rises_before : {X : Type 0} (before after : List (List ℕ × X)) (f : List ℕ × X) → Rises (before ++ f ∷ after) → Each (λ g. slice_cmp nat_cmp g.0 f.0 ≡ Less) before
rises_before [] after f h = tt
rises_before (g ∷ gs) after f h = (each_at (λ k. slice_cmp nat_cmp g.0 k.0 ≡ Less) gs after f h.0, rises_before gs after f h.1)

fields_with_last : {X : Type 0} (n : List ℕ) (v : X) (before : List (List ℕ × X)) → Each (λ g. slice_cmp nat_cmp g.0 n ≡ Less) before → fields_with n v before ≡ before ++ (n, v) ∷ []
fields_with_last n v [] h = refl
fields_with_last n v (g ∷ gs) h = fields_with_step n v g gs (ap is_lt h.0) ∙ ap (λ l. g ∷ l) (fields_with_last n v gs h.1)

value_none : {X : Type 0} (n : List ℕ) (before : List (List ℕ × X)) → Each (λ g. slice_cmp nat_cmp g.0 n ≡ Less) before → value_at n before ≡ None
value_none n [] h = refl
value_none n (g ∷ gs) h = step (bytes_eq g.0 n) refl (value_none n gs h.1)
  where
    step : (t : Bool) → bytes_eq g.0 n ≡ t → value_at n gs ≡ None → cond t (Some g.1) (value_at n gs) ≡ None
    step true e ih = absurd (let same = (bytes_eq-Decides g.0 n).0 e in let yes : is_before n n ≡ true = ap (λ l. is_before l n) (sym same) ∙ ap is_lt h.0 in let no : true ≡ false = sym yes ∙ same_not_before n in cc)
    step false e ih = ih

-- the marks that are printed
comma : Mark 44 (44 ∷ 32 ∷ []) tt
comma = ([], 44 ∷ 32 ∷ [], tt, refl, refl, (44 ∷ [], 32 ∷ [], tt, refl, refl, refl))

semicolon : Mark 59 (59 ∷ 32 ∷ []) tt
semicolon = ([], 59 ∷ 32 ∷ [], tt, refl, refl, (59 ∷ [], 32 ∷ [], tt, refl, refl, refl))

equals : Mark 61 (61 ∷ []) tt
equals = ([], 61 ∷ [], tt, refl, refl, (61 ∷ [], [], tt, refl, refl, refl))

of_parts : List ℕ → List (List ℕ × Value) → Description Value
of_parts media fields = record { media = media; fields = fields }

field_again : (media : List ℕ) (before after : List (List ℕ × Value)) (f : List ℕ × Value) → Fine_field f → Rises (before ++ f ∷ after) → length (before ++ f ∷ after) ≤ 64 → Then (Mark 44) (λ m. Field (of_parts media before)) (field_text value_text f) (of_parts media (before ++ f ∷ []))
unfolding of_parts
field_again media before after f fine rises few =
    let less = rises_before before after f rises in
    let is : of_parts media (before ++ f ∷ []) ≡ with_field (of_parts media before) f.0 f.1 = ap (of_parts media) (sym (fields_with_last f.0 f.1 before less)) in
    let n = length-append before (f ∷ after) in
    let m = length-append before (f ∷ []) in
    let fit : length (before ++ f ∷ []) ≤ 64 = omega (arith, few, n, m) in
    let split : field_text value_text f ≡ 44 ∷ 32 ∷ (f.0 ++ (61 ∷ value_text f.1)) = append_assoc (44 ∷ 32 ∷ f.0) (61 ∷ []) (value_text f.1) in (
      44 ∷ 32 ∷ [],
      f.0 ++ (61 ∷ value_text f.1),
      tt,
      split,
      comma,
      (
        f.0,
        61 ∷ value_text f.1,
        f.0,
        refl,
        fine.0,
        (value_none f.0 before less, (61 ∷ [], value_text f.1, tt, refl, equals, (f.1, value_again f.1 fine.1, is)), fit),
      ),
    )

fields_again : (whole : List (Description Value)) (media : List ℕ) (before after : List (List ℕ × Value)) (tail : List ℕ) (v : List (Description Value)) → Each Fine_field after → Rises (before ++ after) → length (before ++ after) ≤ 64 → Repeated Caps_step (whole, of_parts media (before ++ after)) tail v → Repeated Caps_step (whole, of_parts media before) (flat_map (field_text value_text) after ++ tail) v
fields_again whole media before [] tail v fine rises few later = subst (λ l. Repeated Caps_step (whole, of_parts media l) tail v) (append-nil before) later
fields_again whole media before (f ∷ fs) tail v fine rises few later =
    let join : (before ++ f ∷ []) ++ fs ≡ before ++ f ∷ fs = append_assoc before (f ∷ []) fs in
    let ih = fields_again whole media (before ++ f ∷ []) fs tail v fine.1 (subst Rises (sym join) rises) (subst (λ l. length l ≤ 64) (sym join) few) (subst (λ l. Repeated Caps_step (whole, of_parts media l) tail v) (sym join) later) in
    more (whole, of_parts media before) (whole, of_parts media (before ++ f ∷ [])) (field_text value_text f) (flat_map (field_text value_text) fs ++ tail) ((field_text value_text f ++ flat_map (field_text value_text) fs) ++ tail) v
    (append_assoc (field_text value_text f) (flat_map (field_text value_text) fs) tail)
    (inr (inl (of_parts media (before ++ f ∷ []), field_again media before fs f fine.0 rises few, refl))) ih

structures_again : (whole : List (Description Value)) (s : Description Value) (ss : List (Description Value)) → Fine_structure s → Each Fine_structure ss → length (whole ++ s ∷ ss) ≤ 64 → Repeated Caps_step (whole, bare s.media) (flat_map (field_text value_text) s.fields ++ joined_behind (codes "; ") (structure_text value_text) ss) (whole ++ s ∷ ss)
unfolding of_parts
structures_again whole s [] fine others few =
    let n = length-append whole (s ∷ []) in
    fields_again whole s.media [] s.fields [] (whole ++ s ∷ []) fine.fields fine.rises fine.few (last (whole, s) [] (whole ++ s ∷ []) (inl (refl, omega (arith, few, n), refl)))
structures_again whole s (t ∷ ts) fine others few =
    let tail = flat_map (field_text value_text) t.fields ++ joined_behind (codes "; ") (structure_text value_text) ts in
    let join : (whole ++ s ∷ []) ++ t ∷ ts ≡ whole ++ s ∷ t ∷ ts = append_assoc whole (s ∷ []) (t ∷ ts) in
    let n = length-append whole (s ∷ t ∷ ts) in
    let ih = structures_again (whole ++ s ∷ []) t ts others.0 others.1 (subst (λ l. length l ≤ 64) (sym join) few) in
    let split : joined_behind (codes "; ") (structure_text value_text) (t ∷ ts) ≡ (59 ∷ 32 ∷ t.media) ++ tail =
    append_assoc (59 ∷ 32 ∷ []) (t.media ++ flat_map (field_text value_text) t.fields) (joined_behind (codes "; ") (structure_text value_text) ts)
    ∙ ap (λ l. 59 ∷ 32 ∷ l) (append_assoc t.media (flat_map (field_text value_text) t.fields) (joined_behind (codes "; ") (structure_text value_text) ts)) in
    let here : Repeated Caps_step (whole, s) (joined_behind (codes "; ") (structure_text value_text) (t ∷ ts)) (whole ++ s ∷ t ∷ ts) =
    more (whole, s) (whole ++ s ∷ [], bare t.media) (59 ∷ 32 ∷ t.media) tail _ (whole ++ s ∷ t ∷ ts) split
    (inr (inr (bare t.media, (59 ∷ 32 ∷ [], t.media, tt, refl, semicolon, (t.media, others.0.media, refl)), omega (arith, few, n), refl)))
    (subst (λ l. Repeated Caps_step (whole ++ s ∷ [], bare t.media) tail l) join ih) in
    fields_again whole s.media [] s.fields (joined_behind (codes "; ") (structure_text value_text) (t ∷ ts)) (whole ++ s ∷ t ∷ ts) fine.fields fine.rises fine.few here

-- structures for which some text stands are fine
media_is : (text m : List ℕ) → Media_type text m → text ≡ m
media_is text m h =
    let s = h.5 in
    let b = s.5 in
    h.3 ∙ (λ i. sym h.4.0 i ++ s.3 i) ∙ (λ i. h.2 ++ (s.4 i ++ sym b.1.0 i)) ∙ sym (append_assoc h.2 (codes "/") b.0) ∙ sym b.2

head_fine : (text : List ℕ) (s : Description Value) → Head text s → Fine_structure s
head_fine text s h = subst Fine_structure (sym h.2) (record { media = subst (λ l. Media_type l h.0) (media_is text h.0 h.1) h.1; fields = tt; rises = tt; few = omega arith })

field_fine : (s t : Description Value) (text : List ℕ) → Fine_structure s → Field s text t → Fine_structure t
field_fine s t text f h =
    let rest = h.5 in
    let v = rest.1.5 in
    let name : Field_name h.2 h.2 = subst (λ l. Field_name l h.2) (sym h.4.0.0) h.4 in
    let fine : Fine_field (h.2, v.0) = (name, value_fine rest.1.1 v.0 v.1) in
    let fit : length (with_field s h.2 v.0).fields ≤ 64 = subst (λ d. length d.fields ≤ 64) v.2 rest.2 in
    subst Fine_structure (sym v.2) (record {
      media = f.media;
      fields = Each-append Fine_field (filter (λ g. is_before g.0 h.2) s.fields) _ (Each-filter Fine_field (λ g. is_before g.0 h.2) s.fields f.fields) (fine, Each-filter Fine_field (λ g. is_before h.2 g.0) s.fields f.fields);
      rises = Rises-fields_with h.2 v.0 s.fields f.rises;
      few = fit;
    })

caps_fine : (made : Made) (text : List ℕ) (all : List (Description Value)) → Repeated Caps_step made text all → Each Fine_structure made.0 → Fine_structure made.1 → Each Fine_structure all × (length all ≤ 64)
caps_fine _ _ _ (last s text v d) f g = ended d
  where
    ended : Caps_step s text (done v) → Each Fine_structure v × (length v ≤ 64)
    ended (inl h) =
        let e : done v ≡ done (s.0 ++ s.1 ∷ []) = h.2 in
        let is : v ≡ s.0 ++ s.1 ∷ [] = cc in
        let n = length-append s.0 (s.1 ∷ []) in
        subst (λ l. Each Fine_structure l × (length l ≤ 64)) (sym is) (Each-append Fine_structure s.0 (s.1 ∷ []) f (g, tt), omega (arith, n, h.1))
    ended (inr (inl h)) = absurd (let bad = h.2 in cc)
    ended (inr (inr h)) = absurd (let bad = h.3 in cc)
caps_fine _ _ _ (more s t front back text v e d later) f g = caps_fine t back v later (on d).0 (on d).1
  where
    on : Caps_step s front (again t) → Each Fine_structure t.0 × Fine_structure t.1
    on (inl h) = absurd (let bad = h.2 in cc)
    on (inr (inl h)) =
        let k : again t ≡ again (s.0, h.0) = h.2 in
        let is : t ≡ (s.0, h.0) = cc in
        subst (λ m. Each Fine_structure m.0 × Fine_structure m.1) (sym is) (f, field_fine s.1 h.0 h.1.1 g h.1.5)
    on (inr (inr h)) =
        let k : again t ≡ again (s.0 ++ s.1 ∷ [], h.0) = h.3 in
        let is : t ≡ (s.0 ++ s.1 ∷ [], h.0) = cc in
        subst (λ m. Each Fine_structure m.0 × Fine_structure m.1) (sym is) (Each-append Fine_structure s.0 (s.1 ∷ []) f (g, tt), head_fine h.1.1 h.0 h.1.5)

whole_again : (ss : List (Description Value)) → Each Fine_structure ss × (length ss ≤ 64) → IsCapsText (caps_text (Of ss)) (Of ss)
whole_again [] h = inr (inl (refl, refl))
whole_again (s ∷ ss) h = inr (inr (s ∷ ss, (s.media, flat_map (field_text value_text) s.fields ++ joined_behind (codes "; ") (structure_text value_text) ss, bare s.media, append_assoc s.media (flat_map (field_text value_text) s.fields) (joined_behind (codes "; ") (structure_text value_text) ss), (s.media, h.0.0.media, refl), structures_again [] s ss h.0.0 h.0.1 h.1), refl))

-- the text that is printed of caps for which some text stands, stands for them
pub caps_again : (text : List ℕ) (caps : Caps) → IsCapsText text caps → IsCapsText (caps_text caps) caps
caps_again text Any h = inl (refl, refl)
caps_again text (Of ss) (inl h) = absurd (let bad = h.1 in cc)
caps_again text (Of ss) (inr (inl h)) =
    let e : Of ss ≡ Of [] = h.1 in
    let is : ss ≡ [] = cc in
    subst (λ l. IsCapsText (caps_text (Of l)) (Of l)) (sym is) (inr (inl (refl, refl)))
caps_again text (Of ss) (inr (inr h)) =
    let e : Of ss ≡ Of h.0 = h.2 in
    let is : ss ≡ h.0 = cc in
    subst (λ l. IsCapsText (caps_text (Of l)) (Of l)) (sym is) (whole_again h.0 (caps_fine ([], h.1.2) h.1.1 h.0 h.1.5 tt (head_fine h.1.0 h.1.2 h.1.4)))

-- fixed caps are printed as the structure of their values
fields_same : (fs : List (List ℕ × One)) → flat_map (field_text typed_text) fs ≡ flat_map (field_text value_text) (map single_field fs)
fields_same [] = refl
fields_same (f ∷ fs) = ap (λ l. field_text typed_text f ++ l) (fields_same fs)

pub fixed_again : (text : List ℕ) (x : Description One) → IsCapsText text (Of (of_singles x ∷ [])) → IsCapsText (structure_text typed_text x) (Of (of_singles x ∷ []))
fixed_again text x h =
    let same : caps_text (Of (of_singles x ∷ [])) ≡ structure_text typed_text x = append-nil (structure_text value_text (of_singles x)) ∙ ap (λ l. x.media ++ l) (sym (fields_same x.fields)) in
    subst (λ l. IsCapsText l (Of (of_singles x ∷ []))) same (caps_again text (Of (of_singles x ∷ [])) h)
