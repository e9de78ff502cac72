-- What stands behind a longest front is in no line.
use Rattle.std.proofs.Common.{◌≡◌, ◌≢◌, ℕ, zero, suc, ◌<◌, ◌≤◌, Bool, true, false, cond, eqb, List, [], ◌∷◌, ◌++◌, length, Option, Some, None, inl, inr, ◌⊎◌, refl, sym, ap, ◌∙◌, subst, arith, append_assoc, length-append, codes}
use Rattle.std.specs.Prelude.{is_some, nat_lt}
use Rattle.std.specs.List.{list_all}
use Rattle.std.specs.Str.{bytes_eq}
use Rattle.std.proofs.lemmas.Bool.{cases_lt, lt-ltb, ltb-true}
use Rattle.std.proofs.lemmas.Bool.Decides.{eqb_tells}
use Rattle.std.proofs.lemmas.List.Folds.{list_all-append}
use Rattle.std.proofs.lemmas.Option.{none-some}
use Rattle.gst_value.specs.declared.name.Prop.{Prop}
use Rattle.text_words.specs.Bytes.{in_class, is_run}
use Rattle.text_words.specs.Values.{cut, property_of, ◌>>=◌}
use Rattle.text_words.specs.declared.class.Class.{Class}
use Rattle.text_words.specs.declared.class.Class.TheVariants.{Kind, Name, Property}
use Rattle.launch_text.specs.Places.{begins, behind_run, caps_before, caps_front, element_front, front_of, link_front, name_front, next_front, part_front, point_front, run_of, spot_of}
use Rattle.launch_text.specs.Printed.{reference_text}
use Rattle.launch_text.specs.Reading.{Held, State, begin_part, behind_element, behind_link, behind_reference, closed, closed_in, element_from, ended, go_on, innermost, linked_to, opened, reference_of, said, step_from}
use Rattle.launch_text.specs.Words.{begins_caps, is_pad}
use Rattle.launch_text.specs.declared.line.Last.{Last}
use Rattle.launch_text.specs.declared.line.Last.TheVariants.{Start, Bin, Chain, Element, Link, Caps, Reference}
use Rattle.launch_text.specs.declared.printing.Marked.TheVariants.{Caps as InCaps}
use Rattle.launch_text.specs.declared.tree.Node.{Node}
use Rattle.launch_text.specs.declared.tree.Node.TheVariants.{Element as ElementNode}
use Rattle.launch_text.proofs.Calm.{not_zero, run_all, run_some}
use Rattle.launch_text.proofs.Facts.{cut_sound, not_all, not_run, is_point, property_found, property_sound, reference_points, reference_sound, same_text}
use Rattle.gst_value.proofs.Basics.{no_true, and_left, and_right, and_both as both_true, not_false}

-- bytes of names
name_byte : (class : Class) (b : ℕ) → in_class class b ≡ true → in_class Name b ≡ true
name_byte Kind b h = grind arith
name_byte Name b h = h
name_byte Property b h = grind arith

abbrev names : List ℕ → Bool
names x = list_all (in_class Name) x

all_names : (class : Class) (x : List ℕ) → list_all (in_class class) x ≡ true → names x ≡ true
all_names class [] h = refl
all_names class (b ∷ bs) h = both_true (in_class Name b) (names bs) (name_byte class b (and_left (in_class class b) _ h)) (all_names class bs (and_right (in_class class b) _ h))

-- a front of a name is a front of a run
run_long : (t w : List ℕ) → names t ≡ true → length t ≤ length (run_of Name (t ++ w))
run_long [] w h = omega arith
run_long (b ∷ bs) w h =
    let ih = run_long bs w (and_right (in_class Name b) (names bs) h) in
    let e : run_of Name ((b ∷ bs) ++ w) ≡ b ∷ run_of Name (bs ++ w) = ap (λ t. cond t (b ∷ run_of Name (bs ++ w)) []) (and_left (in_class Name b) (names bs) h) in
    subst (λ l. suc (length bs) ≤ length l) (sym e) (omega (arith, ih))

name_more : (w : List ℕ) → length (run_of Name w) ≤ length (name_front w)
unfolding name_front
name_more w = go (length (run_of Name w)) refl
  where
    go : (n : ℕ) → length (run_of Name w) ≡ n → length (run_of Name w) ≤ length (cond (eqb (length (run_of Name w)) 0) [] (run_of Name w ++ point_front (behind_run Name w)))
    go zero e = omega (arith, e)
    go (suc n) e = subst (λ z. length (run_of Name w) ≤ length (cond z [] (run_of Name w ++ point_front (behind_run Name w)))) (sym (not_false (eqb (length (run_of Name w)) 0) (not_zero (length (run_of Name w)) (omega (arith, e))))) (omega (arith, length-append (run_of Name w) (point_front (behind_run Name w))))

-- a front of two parts round a byte ends in the first, or has the byte
abbrev Splits_at : ℕ → Class → List ℕ → List ℕ → List ℕ → List ℕ → Type 0
Splits_at mark class t v n q = (list_all (in_class class) t ≡ true) ⊎ ((t2 : List ℕ) × (t ≡ n ++ mark ∷ t2) × (t2 ++ v ≡ q))

splits_at : (mark : ℕ) (class : Class) (t v n q : List ℕ) → list_all (in_class class) n ≡ true → t ++ v ≡ n ++ mark ∷ q → Splits_at mark class t v n q
splits_at mark class [] v n q h e = inl refl
splits_at mark class (b ∷ bs) v [] q h e =
    let head : b ≡ mark = cc in
    let tail : bs ++ v ≡ q = cc in
    inr (bs, (λ i. head i ∷ bs), tail)
splits_at mark class (b ∷ bs) v (c ∷ cs) q h e =
    let head : b ≡ c = cc in
    let tail : bs ++ v ≡ cs ++ mark ∷ q = cc in
    elim (splits_at mark class bs v cs q (and_right (in_class class c) _ h) tail) [
      | inl k ↦ inl (both_true (in_class class b) (list_all (in_class class) bs) (ap (in_class class) head ∙ and_left (in_class class c) _ h) k)
      | inr k ↦ inr (k.0, (λ i. head i ∷ k.1 i), k.2)
    ]

run_stops : (n y : List ℕ) → names n ≡ true → (run_of Name (n ++ 46 ∷ y) ≡ n) × (behind_run Name (n ++ 46 ∷ y) ≡ 46 ∷ y)
run_stops [] y h = (refl, refl)
run_stops (b ∷ bs) y h =
    let ih = run_stops bs y (and_right (in_class Name b) (names bs) h) in
    let t = and_left (in_class Name b) (names bs) h in
    (ap (λ z. cond z (b ∷ run_of Name (bs ++ 46 ∷ y)) []) t ∙ ap (λ l. b ∷ l) ih.0, ap (λ z. cond z (behind_run Name (bs ++ 46 ∷ y)) (b ∷ (bs ++ 46 ∷ y))) t ∙ ih.1)

name_pointed : (n y : List ℕ) → 0 < length n → names n ≡ true → name_front (n ++ 46 ∷ y) ≡ n ++ 46 ∷ run_of Name y
unfolding name_front
name_pointed n y some h =
    let r = run_stops n y h in
    let t : eqb (length (run_of Name (n ++ 46 ∷ y))) 0 ≡ false = not_false (eqb (length (run_of Name (n ++ 46 ∷ y))) 0) (not_zero (length (run_of Name (n ++ 46 ∷ y))) (let same = ap length r.0 in omega (arith, same, some))) in
    ap (λ z. cond z [] (run_of Name (n ++ 46 ∷ y) ++ point_front (behind_run Name (n ++ 46 ∷ y)))) t ∙ ap (λ l. l ++ point_front (behind_run Name (n ++ 46 ∷ y))) r.0 ∙ ap (λ l. n ++ point_front l) r.1

names_front : (t v : List ℕ) → names (t ++ v) ≡ true → names t ≡ true
names_front t v h = and_left (names t) (names v) (sym (list_all-append (in_class Name) t v) ∙ h)

pointed_long : (t v w n q : List ℕ) → 0 < length n → names n ≡ true → names q ≡ true → t ++ v ≡ n ++ 46 ∷ q → length t ≤ length (name_front (t ++ w))
pointed_long t v w n q some h k e = elim (splits_at 46 Name t v n q h e) [
  | inl a ↦ omega (arith, run_long t w a, name_more (t ++ w))
  | inr a ↦ long a.0 a.1 (names_front a.0 v (ap names a.2 ∙ k))
]
  where
    long : (t2 : List ℕ) → t ≡ n ++ 46 ∷ t2 → names t2 ≡ true → length t ≤ length (name_front (t ++ w))
    long t2 is all =
        let front : name_front (t ++ w) ≡ n ++ 46 ∷ run_of Name (t2 ++ w) = ap (λ l. name_front (l ++ w)) is ∙ ap name_front (append_assoc n (46 ∷ t2) w) ∙ name_pointed n (t2 ++ w) some h in
        omega (arith, ap length front, ap length is, length-append n (46 ∷ t2), length-append n (46 ∷ run_of Name (t2 ++ w)), run_long t2 w all)

reference_long : (t v w name : List ℕ) (pad : Option (List ℕ)) → is_run Name name ≡ true → is_pad pad ≡ true → t ++ v ≡ reference_text name pad → length t ≤ length (name_front (t ++ w))
reference_long t v w name None h k e = pointed_long t v w name [] (run_some Name name h) (run_all Name name h) refl e
reference_long t v w name (Some pad) h k e = pointed_long t v w name pad (run_some Name name h) (run_all Name name h) (run_all Name pad k) e

-- what begins a part
data Begun (h : Held) (x : List ℕ) : Type 0 where
  bracket : x ≡ codes "(" → length h.outer < 16 → Begun h x
  one_kind : is_run Kind x ≡ true → Begun h x
  one_reference : (name : List ℕ) (pad : Option (List ℕ)) → x ≡ reference_text name pad → is_run Name name ≡ true → is_pad pad ≡ true → Begun h x

begun : (h : Held) (x : List ℕ) (s : State) → begin_part h x ≡ Some s → Begun h x
unfolding begin_part opened
begun h x s e = first (bytes_eq x (codes "(")) refl e
  where
    third : (o : Option Node) → reference_of x ≡ o → (o >>= λ n. Some (h, Reference n)) ≡ Some s → Begun h x
    third None f k = absurd (none-some s k)
    third (Some n) f k = let r = reference_sound x n f in one_reference r.name r.pad r.word r.name_is r.pad_is

    second : (t : Bool) → is_run Kind x ≡ t → cond t (Some (h, Element x [])) (reference_of x >>= λ n. Some (h, Reference n)) ≡ Some s → Begun h x
    second true f k = one_kind f
    second false f k = third (reference_of x) refl k

    inner : (t : Bool) → nat_lt (length h.outer) 16 ≡ t → bytes_eq x (codes "(") ≡ true → (cond t (Some (record { outer = h.outer ++ h.parts ∷ []; parts = []; nodes = h.nodes })) None >>= λ g. Some (g, Start)) ≡ Some s → Begun h x
    inner true f g k = bracket (same_text x (codes "(") g) (ltb-true (length h.outer) 16 f)
    inner false f g k = absurd (none-some s k)

    first : (t : Bool) → bytes_eq x (codes "(") ≡ t → cond t (opened h >>= λ g. Some (g, Start)) (cond (is_run Kind x) (Some (h, Element x [])) (reference_of x >>= λ n. Some (h, Reference n))) ≡ Some s → Begun h x
    first true f k = inner (nat_lt (length h.outer) 16) refl f k
    first false f k = second (is_run Kind x) refl k

-- the first byte of what begins a part
abbrev First_byte : ℕ → Type 0
First_byte b = (b ≡ 40) ⊎ (in_class Name b ≡ true)

name_first : (b : ℕ) (bs n y : List ℕ) → 0 < length n → names n ≡ true → b ∷ bs ≡ n ++ y → in_class Name b ≡ true
name_first b bs [] y some h e = absurd (omega (arith, some))
name_first b bs (c ∷ cs) y some h e = let head : b ≡ c = cc in ap (in_class Name) head ∙ and_left (in_class Name c) (names cs) h

begun_first : (h : Held) (b : ℕ) (bs : List ℕ) → Begun h (b ∷ bs) → First_byte b
begun_first h b bs (bracket e l) = inl (let head : b ≡ 40 = cc in head)
begun_first h b bs (one_kind r) = inr (name_byte Kind b (and_left (in_class Kind b) (list_all (in_class Kind) bs) (run_all Kind (b ∷ bs) r)))
begun_first h b bs (one_reference name None e r p) = inr (name_first b bs name (46 ∷ []) (run_some Name name r) (run_all Name name r) e)
begun_first h b bs (one_reference name (Some pad) e r p) = inr (name_first b bs name (46 ∷ pad) (run_some Name name r) (run_all Name name r) e)

not_first : (mark b : ℕ) → in_class Name mark ≡ false → mark ≢ 40 → First_byte b → eqb b mark ≡ false
not_first mark b e n (inl f) = elim (eqb_tells b mark) [ inl t ↦ absurd (n (sym t.1 ∙ f)) | inr t ↦ t.0 ]
not_first mark b e n (inr f) = elim (eqb_tells b mark) [ inl t ↦ absurd (no_true (sym e ∙ ap (in_class Name) (sym t.1) ∙ f)) | inr t ↦ t.0 ]

not_bracket : (b : ℕ) → in_class Name b ≡ true → eqb b 40 ≡ false
not_bracket b f = elim (eqb_tells b 40) [ inl t ↦ absurd (let bad : in_class Name 40 ≡ true = ap (in_class Name) (sym t.1) ∙ f in cc) | inr t ↦ t.0 ]

-- a text of one byte
one_byte : (mark : ℕ) (b : ℕ) (bs v : List ℕ) → (b ∷ bs) ++ v ≡ mark ∷ [] → (b ≡ mark) × (length bs ≡ 0)
one_byte mark b bs v e =
    let head : b ≡ mark = cc in
    let n : suc (length (bs ++ v)) ≡ 1 = ap length e in
    (head, omega (arith, n, length-append bs v))

begun_kind : (h : Held) (t v w : List ℕ) → Begun h (t ++ v) → 0 < length t → length t ≤ length (part_front (length h.outer) (t ++ w))
unfolding part_front
begun_kind h [] v w b some = absurd (omega (arith, some))
begun_kind h (b ∷ bs) v w (bracket e less) some =
    let o = one_byte 40 b bs v e in
    let is : eqb b 40 ≡ true = elim (eqb_tells b 40) [ inl t ↦ t.0 | inr t ↦ absurd (t.1 o.0) ] in
    subst (λ z. suc (length bs) ≤ length (cond z (cond (nat_lt (length h.outer) 16) (40 ∷ []) []) (name_front ((b ∷ bs) ++ w)))) (sym is) (subst (λ z. suc (length bs) ≤ length {A = ℕ} (cond z (40 ∷ []) [])) (sym (lt-ltb (length h.outer) 16 less)) (omega (arith, o.1)))
begun_kind h (b ∷ bs) v w (one_kind r) some =
    let all : names ((b ∷ bs) ++ v) ≡ true = all_names Kind ((b ∷ bs) ++ v) (run_all Kind ((b ∷ bs) ++ v) r) in
    let mine : names (b ∷ bs) ≡ true = names_front (b ∷ bs) v all in
    subst (λ z. suc (length bs) ≤ length (cond z (cond (nat_lt (length h.outer) 16) (40 ∷ []) []) (name_front ((b ∷ bs) ++ w)))) (sym (not_bracket b (and_left (in_class Name b) (names bs) mine))) (omega (arith, run_long (b ∷ bs) w mine, name_more ((b ∷ bs) ++ w)))
begun_kind h (b ∷ bs) v w (one_reference name pad e r p) some =
    let long : suc (length bs) ≤ length (name_front ((b ∷ bs) ++ w)) = reference_long (b ∷ bs) v w name pad r p e in
    subst (λ z. suc (length bs) ≤ length (cond z (cond (nat_lt (length h.outer) 16) (40 ∷ []) []) (name_front ((b ∷ bs) ++ w)))) (sym (not_bracket b (first pad e))) long
  where
    first : (pad : Option (List ℕ)) → b ∷ (bs ++ v) ≡ reference_text name pad → in_class Name b ≡ true
    first None k = name_first b (bs ++ v) name (46 ∷ []) (run_some Name name r) (run_all Name name r) k
    first (Some q) k = name_first b (bs ++ v) name (46 ∷ q) (run_some Name name r) (run_all Name name r) k

-- what follows a whole part
data Gone_on (h : Held) (x : List ℕ) : Type 0 where
  closing : x ≡ codes ")" → 0 < length h.outer → Gone_on h x
  beginning : Begun h x → Gone_on h x

gone_on : (h : Held) (x : List ℕ) (s : State) → go_on h x ≡ Some s → Gone_on h x
unfolding go_on closed
gone_on h x s e = first (bytes_eq x (codes ")")) refl e
  where
    some_outer : (xs : _) (p : _) → innermost xs ≡ Some p → 0 < length xs
    some_outer [] p k = absurd (none-some p k)
    some_outer (y ∷ ys) p k = omega arith

    inner : (o : _) → innermost h.outer ≡ o → bytes_eq x (codes ")") ≡ true → ((o >>= closed_in h) >>= λ g. Some (g, Bin)) ≡ Some s → Gone_on h x
    inner None f g k = absurd (none-some s k)
    inner (Some p) f g k = closing (same_text x (codes ")") g) (some_outer h.outer p f)

    first : (t : Bool) → bytes_eq x (codes ")") ≡ t → cond t (closed h >>= λ g. Some (g, Bin)) (begin_part h x) ≡ Some s → Gone_on h x
    first true f k = inner (innermost h.outer) refl f k
    first false f k = beginning (begun h x s k)

gone_on_long : (h : Held) (b : ℕ) (bs v w : List ℕ) → Gone_on h ((b ∷ bs) ++ v) → suc (length bs) ≤ length (next_front (length h.outer) ((b ∷ bs) ++ w))
unfolding next_front
gone_on_long h b bs v w (closing e some) =
    let o = one_byte 41 b bs v e in
    let is : eqb b 41 ≡ true = elim (eqb_tells b 41) [ inl t ↦ t.0 | inr t ↦ absurd (t.1 o.0) ] in
    let deep : eqb (length h.outer) 0 ≡ false = not_false (eqb (length h.outer) 0) (not_zero (length h.outer) some) in
    subst (λ z. suc (length bs) ≤ length (cond z (cond (eqb (length h.outer) 0) [] (41 ∷ [])) (part_front (length h.outer) ((b ∷ bs) ++ w)))) (sym is) (subst (λ z. suc (length bs) ≤ length {A = ℕ} (cond z [] (41 ∷ []))) (sym deep) (omega (arith, o.1)))
gone_on_long h b bs v w (beginning g) =
    subst (λ z. suc (length bs) ≤ length (cond z (cond (eqb (length h.outer) 0) [] (41 ∷ [])) (part_front (length h.outer) ((b ∷ bs) ++ w)))) (sym (not_first 41 b refl (λ e. omega (arith, e)) (begun_first h b (bs ++ v) g))) (begun_kind h (b ∷ bs) v w g (omega arith))

gone_on_first : (h : Held) (b : ℕ) (bs : List ℕ) → Gone_on h (b ∷ bs) → eqb b 33 ≡ false
gone_on_first h b bs (closing e some) = elim (eqb_tells b 33) [ inl t ↦ absurd (let head : b ≡ 41 = cc in let bad : 33 ≡ 41 = sym t.1 ∙ head in omega (arith, bad)) | inr t ↦ t.0 ]
gone_on_first h b bs (beginning g) = not_first 33 b refl (λ e. omega (arith, e)) (begun_first h b bs g)

-- what follows an element
data Followed (h : Held) (x : List ℕ) : Type 0 where
  property : (name spelling : List ℕ) → x ≡ name ++ 61 ∷ spelling → is_run Property name ≡ true → Followed h x
  link : x ≡ codes "!" → Followed h x
  next : Gone_on h x → Followed h x

followed : (h : Held) (k : List ℕ) (props : List Prop) (x : List ℕ) (s : State) → behind_element h k props x ≡ Some s → Followed (ended h (ElementNode k props)) x
unfolding behind_element
followed h k props x s e = first (property_of x) refl e
  where
    second : (t : Bool) → bytes_eq x (codes "!") ≡ t → cond t (Some (linked_to h (ElementNode k props))) (go_on (ended h (ElementNode k props)) x) ≡ Some s → Followed (ended h (ElementNode k props)) x
    second true f r = link (same_text x (codes "!") f)
    second false f r = next (gone_on (ended h (ElementNode k props)) x s r)

    first : (o : Option (List ℕ × List ℕ)) → property_of x ≡ o → element_from h k props x o ≡ Some s → Followed (ended h (ElementNode k props)) x
    first (Some p) f r = let q = property_sound x p f in property p.0 p.1 q.0 q.1
    first None f r = second (bytes_eq x (codes "!")) refl r

plain_name : (depth b : ℕ) (bs w : List ℕ) → names (b ∷ bs) ≡ true → suc (length bs) ≤ length (next_front depth ((b ∷ bs) ++ w))
unfolding next_front part_front
plain_name depth b bs w all =
    let f : in_class Name b ≡ true = and_left (in_class Name b) (names bs) all in
    subst (λ z. suc (length bs) ≤ length (cond z (cond (eqb depth 0) [] (41 ∷ [])) (part_front depth ((b ∷ bs) ++ w)))) (sym (not_first 41 b refl (λ e. omega (arith, e)) (inr f)))
    (subst (λ z. suc (length bs) ≤ length (cond z (cond (nat_lt depth 16) (40 ∷ []) []) (name_front ((b ∷ bs) ++ w)))) (sym (not_bracket b f)) (omega (arith, run_long (b ∷ bs) w all, name_more ((b ∷ bs) ++ w))))

abbrev Long : ℕ → ℕ → List ℕ → List ℕ → Bool → Type 0
Long depth b bs w t = suc (length bs) ≤ length (cond t ((b ∷ bs) ++ w) (cond (begins 33 ((b ∷ bs) ++ w)) (33 ∷ []) (next_front depth ((b ∷ bs) ++ w))))

abbrev Rest : ℕ → ℕ → List ℕ → List ℕ → Bool → Type 0
Rest depth b bs w t = suc (length bs) ≤ length (cond t (33 ∷ []) (next_front depth ((b ∷ bs) ++ w)))

followed_long : (h : Held) (b : ℕ) (bs v w : List ℕ) → Followed h ((b ∷ bs) ++ v) → suc (length bs) ≤ length (element_front (length h.outer) ((b ∷ bs) ++ w))
unfolding element_front
followed_long h b bs v w f = go (property_of ((b ∷ bs) ++ w)) refl
  where
    rest : property_of ((b ∷ bs) ++ w) ≡ None → Followed h ((b ∷ bs) ++ v) → Rest (length h.outer) b bs w (eqb b 33)
    rest none (property name spelling e r) = elim (splits_at 61 Property (b ∷ bs) v name spelling (run_all Property name r) e) [
      | inl a ↦ let all : names (b ∷ bs) ≡ true = all_names Property (b ∷ bs) a in subst (Rest (length h.outer) b bs w) (sym (not_first 33 b refl (λ q. omega (arith, q)) (inr (and_left (in_class Name b) (names bs) all)))) (plain_name (length h.outer) b bs w all)
      | inr a ↦ absurd (none-some (name, a.0 ++ w) (sym none ∙ ap property_of (ap (λ l. l ++ w) a.1 ∙ append_assoc name (61 ∷ a.0) w) ∙ property_found name (a.0 ++ w) r))
    ]
    rest none (link e) =
        let o = one_byte 33 b bs v e in
        let is : eqb b 33 ≡ true = elim (eqb_tells b 33) [ inl t ↦ t.0 | inr t ↦ absurd (t.1 o.0) ] in
        subst (Rest (length h.outer) b bs w) (sym is) (omega (arith, o.1))
    rest none (next g) = subst (Rest (length h.outer) b bs w) (sym (gone_on_first h b (bs ++ v) g)) (gone_on_long h b bs v w g)

    go : (o : Option (List ℕ × List ℕ)) → property_of ((b ∷ bs) ++ w) ≡ o → Long (length h.outer) b bs w (is_some (property_of ((b ∷ bs) ++ w)))
    go (Some p) e = subst (Long (length h.outer) b bs w) (sym (ap is_some e)) (omega (arith, length-append bs w))
    go None e = subst (Long (length h.outer) b bs w) (sym (ap is_some e)) (rest e f)

-- what follows a link
caps_same : (a y z : List ℕ) → begins_caps (a ++ 61 ∷ y) ≡ begins_caps (a ++ 61 ∷ z)
caps_same [] y z = refl
caps_same (b ∷ bs) y z = ap (λ t. cond (eqb b 47) true (cond (eqb b 61) false t)) (caps_same bs y z)

-- two texts with the same front
longer_front : (t w p q : List ℕ) (mark : ℕ) → t ++ w ≡ p ++ mark ∷ q → length p < length t → (t2 : List ℕ) × (t ≡ p ++ mark ∷ t2)
longer_front [] w p q mark e h = absurd (omega (arith, h))
longer_front (b ∷ bs) w [] q mark e h = let head : b ≡ mark = cc in (bs, (λ i. head i ∷ bs))
longer_front (b ∷ bs) w (c ∷ cs) q mark e h =
    let head : b ≡ c = cc in
    let tail : bs ++ w ≡ cs ++ mark ∷ q = cc in
    let r = longer_front bs w cs q mark tail (omega (arith, h)) in
    (r.0, (λ i. head i ∷ r.1 i))

linked_equals : (h : Held) (a y : List ℕ) (s : State) → begins_caps (a ++ 61 ∷ y) ≡ false → behind_link h (a ++ 61 ∷ y) ≡ Some s → ⊥
unfolding behind_link
linked_equals h a y s e k = go (reference_of (a ++ 61 ∷ y)) refl (sym (ap (λ t. cond t (Some (h, Element (a ++ 61 ∷ y) [])) (reference_of (a ++ 61 ∷ y) >>= λ n. Some (ended h n, Chain))) (not_run Kind a 61 y refl)) ∙ sym (ap (λ t. cond t (said InCaps (a ++ 61 ∷ y) >>= λ text. Some (h, Caps text)) (cond (is_run Kind (a ++ 61 ∷ y)) (Some (h, Element (a ++ 61 ∷ y) [])) (reference_of (a ++ 61 ∷ y) >>= λ n. Some (ended h n, Chain)))) e) ∙ k)
  where
    go : (o : Option Node) → reference_of (a ++ 61 ∷ y) ≡ o → (o >>= λ n. Some (ended h n, Chain)) ≡ Some s → ⊥
    go None f r = none-some s r
    go (Some n) f r = let q = reference_sound (a ++ 61 ∷ y) n f in no_true (sym (not_all is_point a 61 y refl) ∙ ap (list_all is_point) q.word ∙ reference_points q.name q.pad q.name_is q.pad_is)

linked_long : (h : Held) (t v w : List ℕ) (s : State) → behind_link h (t ++ v) ≡ Some s → length t ≤ length (caps_front (t ++ w))
unfolding caps_front
linked_long h t v w s e = go (begins_caps (t ++ w)) refl
  where
    whole : length t ≤ length (t ++ w)
    whole = omega (arith, length-append t w)

    inner : (o : Option (List ℕ × List ℕ)) → cut 61 (t ++ w) ≡ o → begins_caps (t ++ w) ≡ false → length t ≤ length (caps_before (t ++ w) o)
    inner None f g = whole
    inner (Some p) f g = elim (cases_lt (length p.0) (length t)) [
      | inl less ↦
          let r = longer_front t w p.0 p.1 61 (cut_sound 61 (t ++ w) p f) less in
          let is : t ++ v ≡ p.0 ++ 61 ∷ (r.0 ++ v) = ap (λ l. l ++ v) r.1 ∙ append_assoc p.0 (61 ∷ r.0) v in
          absurd (linked_equals h p.0 (r.0 ++ v) s (caps_same p.0 (r.0 ++ v) p.1 ∙ ap begins_caps (sym (cut_sound 61 (t ++ w) p f)) ∙ g) (ap (behind_link h) (sym is) ∙ e))
      | inr more ↦ more
    ]

    go : (z : Bool) → begins_caps (t ++ w) ≡ z → length t ≤ length (cond z (t ++ w) (caps_before (t ++ w) (cut 61 (t ++ w))))
    go true g = whole
    go false g = inner (cut 61 (t ++ w)) refl g

only_link : (h : Held) (n : Node) (x : List ℕ) (s : State) → behind_reference h n x ≡ Some s → x ≡ codes "!"
unfolding behind_reference
only_link h n x s e = go (bytes_eq x (codes "!")) refl e
  where
    go : (t : Bool) → bytes_eq x (codes "!") ≡ t → cond t (Some (linked_to h n)) None ≡ Some s → x ≡ codes "!"
    go true f k = same_text x (codes "!") f
    go false f k = absurd (none-some s k)

link_long : (b : ℕ) (bs v w : List ℕ) → (b ∷ bs) ++ v ≡ codes "!" → suc (length bs) ≤ length (link_front ((b ∷ bs) ++ w))
link_long b bs v w e =
    let o = one_byte 33 b bs v e in
    let is : eqb b 33 ≡ true = elim (eqb_tells b 33) [ inl t ↦ t.0 | inr t ↦ absurd (t.1 o.0) ] in
    subst (λ z. suc (length bs) ≤ length {A = ℕ} (cond z (33 ∷ []) [])) (sym is) (omega (arith, o.1))

-- a word that can stand there begins with no more of another one than its front
pub front_long : (h : Held) (last : Last) (t v w : List ℕ) (s : State) → step_from h last (t ++ v) ≡ Some s → length t ≤ length (front_of (spot_of last) (length h.outer) (t ++ w))
front_long h last [] v w s e = omega arith
front_long h Start (b ∷ bs) v w s e = begun_kind h (b ∷ bs) v w (begun h ((b ∷ bs) ++ v) s e) (omega arith)
front_long h Bin (b ∷ bs) v w s e = gone_on_long h b bs v w (gone_on h ((b ∷ bs) ++ v) s e)
front_long h Chain (b ∷ bs) v w s e = gone_on_long h b bs v w (gone_on h ((b ∷ bs) ++ v) s e)
front_long h (Element k props) (b ∷ bs) v w s e = followed_long (ended h (ElementNode k props)) b bs v w (followed h k props ((b ∷ bs) ++ v) s e)
front_long h Link (b ∷ bs) v w s e = linked_long h (b ∷ bs) v w s e
front_long h (Caps text) (b ∷ bs) v w s e = omega (arith, length-append bs w)
front_long h (Reference n) (b ∷ bs) v w s e = link_long b bs v w (only_link h n ((b ∷ bs) ++ v) s e)
