-- What is printed stands for what was printed: values.
use Rattle.std.proofs.Common.{◌≡◌, ℕ, ◌≤◌, Bool, true, false, cond, List, [], ◌∷◌, ◌++◌, length, Option, Some, None, inl, inr, refl, sym, ap, ◌∙◌, subst, append_assoc, append-nil, codes}
use Rattle.std.specs.List.{list_any}
use Rattle.gst_caps.specs.Common.{as_value}
use Rattle.gst_value.specs.Common.{same}
use Rattle.gst_value.specs.declared.one.One.{One}
use Rattle.gst_caps.specs.declared.value.Value.{Value}
use Rattle.gst_caps.specs.declared.value.Value.TheVariants.{One as Single, Many}
use Rattle.caps_text.specs.Grammar.{Mark, Member, List_step, List_of, Plain_value, Field_value, Repeated, last, more}
use Rattle.caps_text.specs.Kinds.{kind_of, kind_text}
use Rattle.caps_text.specs.Printed.{joined, joined_behind, one_text, value_text}
use Rattle.caps_text.specs.Reading.{again, done, kept_member}
use Rattle.caps_text.specs.declared.kind.Kind.{Kind}
use Rattle.caps_text.proofs.Again.{Fine, member_fine, one_again}
use Rattle.caps_text.proofs.Valid.{member_kind}

-- members that are fine, of one type, and not among those before
abbrev pub Fresh : Kind → List One → List One → Type 0
Fresh kind so_far [] = Unit {0}
Fresh kind so_far (m ∷ ms) = Fine m × (kind_of m ≡ kind) × (list_any (λ k. same k m) so_far ≡ false) × (length (so_far ++ m ∷ []) ≤ 64) × Fresh kind (so_far ++ m ∷ []) ms

-- a value that some text stands for
abbrev pub Fine_value : Value → Type 0
Fine_value (Single one) = Fine one
Fine_value (Many []) = ⊥
Fine_value (Many (x ∷ [])) = ⊥
Fine_value (Many (x ∷ y ∷ ys)) = Fine x × Fresh (kind_of x) (x ∷ []) (y ∷ ys)

-- a comma and a space
comma : Mark 44 (44 ∷ 32 ∷ []) tt
comma = ([], 44 ∷ 32 ∷ [], tt, refl, refl, (44 ∷ [], 32 ∷ [], tt, refl, refl, refl))

members_again : (kind : Kind) (so_far others : List One) → Fresh kind so_far others → Repeated (List_step kind) so_far (joined_behind (codes ", ") one_text others ++ codes " }") (so_far ++ others)
members_again kind so_far [] f = subst (λ l. Repeated (List_step kind) so_far (codes " }") l) (sym (append-nil so_far)) (last so_far (codes " }") so_far (inl ((32 ∷ [], 125 ∷ [], tt, refl, refl, refl), refl)))
members_again kind so_far (m ∷ ms) f =
    let is : kept_member so_far m ≡ so_far ++ m ∷ [] = ap (λ t. cond {A = List One} t so_far (so_far ++ m ∷ [])) f.2 in
    let member = subst (λ k. Member (Some k) (one_text m) m) f.1 (one_again m f.0) in
    let step : List_step kind so_far (44 ∷ 32 ∷ one_text m) (again (so_far ++ m ∷ [])) = inr (m, (44 ∷ 32 ∷ [], one_text m, tt, refl, comma, member), subst (λ l. length l ≤ 64) (sym is) f.3, ap again (sym is)) in
    let ih = members_again kind (so_far ++ m ∷ []) ms f.4 in
    let split : joined_behind (codes ", ") one_text (m ∷ ms) ++ codes " }" ≡ (44 ∷ 32 ∷ one_text m) ++ (joined_behind (codes ", ") one_text ms ++ codes " }") = append_assoc (44 ∷ 32 ∷ one_text m) (joined_behind (codes ", ") one_text ms) (codes " }") in
    subst (λ l. Repeated (List_step kind) so_far (joined_behind (codes ", ") one_text (m ∷ ms) ++ codes " }") l) (append_assoc so_far (m ∷ []) ms)
    (more so_far (so_far ++ m ∷ []) (44 ∷ 32 ∷ one_text m) (joined_behind (codes ", ") one_text ms ++ codes " }") _ ((so_far ++ m ∷ []) ++ ms) split step ih)

list_text : One → List One → List ℕ
list_text x ms = codes "{ " ++ joined (codes ", ") one_text (x ∷ ms) ++ codes " }"

list_again : (x y : One) (ys : List One) → Fine x → Fresh (kind_of x) (x ∷ []) (y ∷ ys) → List_of (Some (kind_of x)) (list_text x (y ∷ ys)) (Many (x ∷ y ∷ ys))
unfolding list_text
list_again x y ys f fresh =
    let others = joined_behind (codes ", ") one_text (y ∷ ys) ++ codes " }" in
    let split : list_text x (y ∷ ys) ≡ 123 ∷ 32 ∷ (one_text x ++ others) = append_assoc (123 ∷ 32 ∷ one_text x) (joined_behind (codes ", ") one_text (y ∷ ys)) (codes " }") in
    (123 ∷ [], 32 ∷ (one_text x ++ others), tt, split, refl, (32 ∷ [], one_text x ++ others, tt, refl, refl, (one_text x, others, x, refl, one_again x f, (x ∷ y ∷ ys, members_again (kind_of x) (x ∷ []) (y ∷ ys) fresh, refl))))

-- a fine value is spelled by its text
pub value_again : (v : Value) → Fine_value v → Field_value (value_text v) v
unfolding list_text
value_again (Single one) f = inl (kind_text (kind_of one), one_text one, kind_of one, refl, refl, ([], one_text one, tt, refl, refl, inr (one, one_again one f, refl)))
value_again (Many []) f = absurd f
value_again (Many (x ∷ [])) f = absurd f
value_again (Many (x ∷ y ∷ ys)) f = inl (kind_text (kind_of x), list_text x (y ∷ ys), kind_of x, split, refl, ([], list_text x (y ∷ ys), tt, refl, refl, inl (list_again x y ys f.0 f.1)))
  where
    split : value_text (Many (x ∷ y ∷ ys)) ≡ kind_text (kind_of x) ++ list_text x (y ∷ ys)
    split = append_assoc (kind_text (kind_of x) ++ codes "{ ") (joined (codes ", ") one_text (x ∷ y ∷ ys)) (codes " }") ∙ append_assoc (kind_text (kind_of x)) (codes "{ ") (joined (codes ", ") one_text (x ∷ y ∷ ys) ++ codes " }") ∙ ap (λ l. kind_text (kind_of x) ++ l) (sym (append_assoc (codes "{ ") (joined (codes ", ") one_text (x ∷ y ∷ ys)) (codes " }")))

-- a value for which some text stands is fine
listed_fresh : (kind : Kind) (members all : List One) (text : List ℕ) → Repeated (List_step kind) members text all → (others : List One) × (all ≡ members ++ others) × Fresh kind members others
listed_fresh kind _ _ _ (last s text v d) = ended d
  where
    ended : List_step kind s text (done v) → (others : List One) × (v ≡ s ++ others) × Fresh kind s others
    ended (inl h) = let e : done v ≡ done s = h.1 in let is : v ≡ s = cc in ([], is ∙ sym (append-nil s), tt)
    ended (inr h) = absurd (let bad = h.3 in cc)
listed_fresh kind _ _ _ (more s t front back text v e d later) = on d (listed_fresh kind t v back later)
  where
    grown : (one : One) (c : Bool) → list_any (λ k. same k one) s ≡ c → Fine one → kind_of one ≡ kind → length (cond {A = List One} c s (s ++ one ∷ [])) ≤ 64 → (others : List One) × (v ≡ cond {A = List One} c s (s ++ one ∷ []) ++ others) × Fresh kind (cond {A = List One} c s (s ++ one ∷ [])) others → (others : List One) × (v ≡ s ++ others) × Fresh kind s others
    grown one true k f g few r = r
    grown one false k f g few r = (one ∷ r.0, r.1 ∙ append_assoc s (one ∷ []) r.0, (f, g, k, few, r.2))

    on : List_step kind s front (again t) → (others : List One) × (v ≡ t ++ others) × Fresh kind t others → (others : List One) × (v ≡ s ++ others) × Fresh kind s others
    on (inl h) r = absurd (let bad = h.1 in cc)
    on (inr h) r =
        let e : again t ≡ again (kept_member s h.0) = h.3 in
        let is : t ≡ kept_member s h.0 = cc in
        grown h.0 (list_any (λ k. same k h.0) s) refl (member_fine (Some kind) h.1.1 h.0 h.1.5) (member_kind kind h.1.1 h.0 h.1.5) h.2 (subst (λ l. (others : List One) × (v ≡ l ++ others) × Fresh kind l others) is r)

fine_list : (x : One) (others : List One) → Fine x → Fresh (kind_of x) (x ∷ []) others → Fine_value (as_value (x ∷ others))
fine_list x [] f fresh = f
fine_list x (y ∷ ys) f fresh = (f, fresh)

list_fine : (kind : Option Kind) (text : List ℕ) (v : Value) → List_of kind text v → Fine_value v
list_fine kind text v h =
    let first = h.5.5 in
    let all = first.5 in
    let r = listed_fresh (kind_of first.2) (first.2 ∷ []) all.0 first.1 all.1 in
    subst Fine_value (sym (all.2 ∙ ap as_value r.1)) (fine_list first.2 r.0 (member_fine kind first.0 first.2 first.4) r.2)

plain_fine : (kind : Option Kind) (text : List ℕ) (v : Value) → Plain_value kind text v → Fine_value v
plain_fine kind text v (inl h) = list_fine kind text v h
plain_fine kind text v (inr h) = subst Fine_value (sym h.2) (member_fine kind text h.0 h.1)

pub value_fine : (text : List ℕ) (v : Value) → Field_value text v → Fine_value v
value_fine text v (inl h) = plain_fine (Some h.2) h.5.1 v h.5.5
value_fine text v (inr h) = plain_fine None text v h
