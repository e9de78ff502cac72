-- What was read of a caps text that is refused begins some caps text, limits aside.
use Rattle.std.proofs.Common.{◌≡◌, ℕ, zero, suc, ◌<◌, ◌+◌, Bool, true, false, cond, eqb, List, [], ◌∷◌, ◌++◌, length, Option, Some, None, Ok, Err, inl, inr, refl, sym, ap, ◌∙◌, arith, append_assoc, length-append, codes}
use Rattle.std.specs.Prelude.{is_some, nat_lt}
use Rattle.std.specs.List.{list_all}
use Rattle.std.specs.Str.{bytes_eq}
use Rattle.std.proofs.lemmas.List.Folds.{list_all-append}
use Rattle.std.proofs.lemmas.Slice.Eq.{bytes_eq-Decides}
use Rattle.gst_caps.specs.Accepts.{value_at}
use Rattle.gst_value.specs.Description.{Description}
use Rattle.gst_caps.specs.declared.value.Value.{Value}
use Rattle.caps_text.specs.Answers.{Answer, misspelt, many, ◌>>=◌}
use Rattle.caps_text.specs.Bytes.{in_class}
use Rattle.caps_text.specs.Grammar.{Then, As, Is, Spaces, Mark, Media_type, Field_name, List_step, List_step_to, List_of, List_to, Plain_value, Plain_value_to, Field_value, Field_value_to, Field, Field_to, Head, Caps_step, Caps_step_to, Structures_to, Repeated, last, more}
use Rattle.caps_text.specs.Kinds.{kind_of}
use Rattle.caps_text.specs.Reading.{Made, Next, again, done, after_byte, bare, behind_run, behind_spaces, caps_step, expect, few_fields, few_structures, letter_first, more_from, read_field, read_head, read_mark, read_media, read_more, read_name, read_structures, read_value, read_whole_value, repeat, run_of, with_field}
use Rattle.caps_text.specs.declared.class.Class.TheVariants.{Name}
use Rattle.caps_text.specs.declared.kind.Kind.{Kind}
use Rattle.caps_text.proofs.Listed.{reads_value}
use Rattle.caps_text.proofs.Local.{rest_is, lacks_none}
use Rattle.caps_text.proofs.LocalReaders.{finishing, starting}
use Rattle.caps_text.proofs.LooseWhole.{Any_fields, Any_structure, Any_structures, In_any_more, Set_any, naming, setting}
use Rattle.caps_text.proofs.Readers.{Reads_front}
use Rattle.caps_text.proofs.Viable.{Begins, Filled, IsSound, IsViable, fill_mark, fill_media, stopped, viable_as, viable_behind, viable_byte, viable_choice, viable_cond, viable_if, viable_mark, viable_media, viable_repeat, viable_then, viable_within}
use Rattle.caps_text.proofs.ViableValues.{fill_then, fill_value, viable_ended, viable_value, wider_step}
use Rattle.caps_text.proofs.Whole.{Outcome, all_bytes, caps_is_step, marked, one_field, one_structure, reads_head, too_many, value_ended}
use Rattle.caps_text.proofs.Words.{reads_byte, reads_mark, reads_name}
use Rattle.gst_value.proofs.Basics.{and_both as and-both}

-- what stands within the limit stands without it
wider_repeated : {S V : Type 0} (P Q : S → List ℕ → Next S V → Type 0) → ((s : S) (text : List ℕ) (n : Next S V) → P s text n → Q s text n) → (s : S) (text : List ℕ) (v : V) → Repeated P s text v → Repeated Q s text v
wider_repeated P Q f _ _ _ (last s text v d) = last s text v (f s text (done v) d)
wider_repeated P Q f _ _ _ (more s t front back text v e d later) = more s t front back text v e (f s front (again t) d) (wider_repeated P Q f t back v later)

wider_list : (kind : Option Kind) (text : List ℕ) (v : Value) → List_of kind text v → List_to None kind text v
wider_list kind text v h =
    let a = h.5 in
    let b = a.5 in
    let c = b.5 in
    (h.0, h.1, h.2, h.3, h.4, (a.0, a.1, a.2, a.3, a.4, (b.0, b.1, b.2, b.3, b.4, (c.0, wider_repeated (List_step (kind_of b.2)) (List_step_to None (kind_of b.2)) (wider_step (kind_of b.2)) (b.2 ∷ []) b.1 c.0 c.1, c.2))))

wider_plain : (kind : Option Kind) (text : List ℕ) (v : Value) → Plain_value kind text v → Plain_value_to None kind text v
wider_plain kind text v (inl h) = inl (wider_list kind text v h)
wider_plain kind text v (inr h) = inr h

pub wider_value : (text : List ℕ) (v : Value) → Field_value text v → Field_value_to None text v
wider_value text v (inl h) = let a = h.5 in inl (h.0, h.1, h.2, h.3, h.4, (a.0, a.1, a.2, a.3, a.4, wider_plain (Some h.2) a.1 v a.5))
wider_value text v (inr h) = inr (wider_plain None text v h)

whole_sound : IsSound (Field_value_to None) read_value
whole_sound x rest v h = let f = reads_value.sound x rest v h in (f.0, f.1, wider_value f.0 v f.2)

viable_whole_value : IsViable (Field_value_to None) read_whole_value
viable_whole_value = viable_ended (Field_value_to None) read_value read_whole_value value_ended whole_sound viable_value

-- a name that no field has
total : List (List ℕ × Value) → ℕ
total [] = 0
total (f ∷ fs) = length f.0 + total fs

unnamed : (name : List ℕ) (fs : List (List ℕ × Value)) → total fs < length name → value_at name fs ≡ None
unfolding total
unnamed name [] h = refl
unnamed name (f ∷ fs) h = step (bytes_eq f.0 name) refl (unnamed name fs (omega (arith, h)))
  where
    step : (t : Bool) → bytes_eq f.0 name ≡ t → value_at name fs ≡ None → cond t (Some f.1) (value_at name fs) ≡ None
    step true e ih = absurd (let same : length f.0 ≡ length name = ap length ((bytes_eq-Decides f.0 name).0 e) in omega (arith, same, h))
    step false e ih = ih

letters : ℕ → List ℕ
letters zero = []
letters (suc n) = 97 ∷ letters n

letters_length : (n : ℕ) → length (letters n) ≡ n
unfolding letters
letters_length zero = refl
letters_length (suc n) = ap suc (letters_length n)

letters_in : (n : ℕ) → list_all (in_class Name) (letters n) ≡ true
unfolding letters
letters_in zero = refl
letters_in (suc n) = letters_in n

-- a name with more letters behind it
abbrev New_name : List ℕ → List (List ℕ × Value) → Type 0
New_name name fs = (tail : List ℕ) × Field_name (name ++ tail) (name ++ tail) × (value_at (name ++ tail) fs ≡ None)

longer_first : (name tail : List ℕ) → letter_first name ≡ true → letter_first (name ++ tail) ≡ true
longer_first [] tail h = absurd (cc)
longer_first (b ∷ bs) tail h = h

new_name : (name : List ℕ) (fs : List (List ℕ × Value)) → 0 < length name → list_all (in_class Name) name ≡ true → letter_first name ≡ true → New_name name fs
new_name name fs some all first =
    let tail = letters (total fs) in
    let size = length-append name tail in
    let is = letters_length (total fs) in
    (tail, ((refl, omega (arith, some, size), list_all-append (in_class Name) name tail ∙ and-both (list_all (in_class Name) name) (list_all (in_class Name) tail) all (letters_in (total fs))), longer_first name tail first), unnamed (name ++ tail) fs (omega (arith, some, size, is)))

-- a field behind its name
fill_set : (s : Description Value) (name : List ℕ) → Filled (Set_any s name)
fill_set s name = fill_then (Mark 61) (λ m. As (with_field s name) (Field_value_to None)) (fill_mark 61) (λ used m p. fill_as)
  where
    fill_as : Filled (As (with_field s name) (Field_value_to None))
    fill_as = let f = fill_value in (f.0, with_field s name f.1, (f.1, f.2, refl))

viable_set : (s : Description Value) (name : List ℕ) → IsViable (Set_any s name) (setting s name)
viable_set s name = viable_then (Mark 61) (λ m. As (with_field s name) (Field_value_to None)) (read_mark 61) (λ m x. read_whole_value x >>= λ v. few_fields (with_field s name v.0) v.1) (reads_mark 61 refl).sound (viable_mark 61)
    (λ used m p. viable_within (too_many s name) (with_field s name) (Field_value_to None) read_whole_value viable_whole_value)
    (λ used m p. let f = fill_value in (f.0, with_field s name f.1, (f.1, f.2, refl)))

-- a field
named : (s : Description Value) (front tail : List ℕ) → Field_name (front ++ tail) (front ++ tail) → value_at (front ++ tail) s.fields ≡ None → (more : List ℕ) × (t : Description Value) × Field_to None s (front ++ more) t
named s front tail p e = let f = fill_set s (front ++ tail) in (tail ++ f.0, f.1, (front ++ tail, f.0, front ++ tail, sym (append_assoc front tail f.0), p, (e, f.2, tt)))

unread : (x rest : List ℕ) → read_name x ≡ Err (misspelt rest) → x ≡ rest
unfolding read_name
unread x rest h = step (letter_first x) h
  where
    step : (t : Bool) → cond {A = Answer (List ℕ)} t (Ok (run_of Name x, behind_run Name x)) (Err (misspelt x)) ≡ Err (misspelt rest) → x ≡ rest
    step true k = absurd (cc)
    step false k = rest_is x rest (stopped (misspelt x) (misspelt rest) k)

viable_field : (s : Description Value) → IsViable (Field_to None s) (read_field s)
unfolding read_field
viable_field s x rest h = step (read_name x) refl h
  where
    behind : (name y : List ℕ) → Reads_front Field_name x name y → (t : Bool) → is_some (value_at name s.fields) ≡ t → cond {A = Answer (Description Value)} t (Err (misspelt y)) (setting s name y) ≡ Err (misspelt rest) → Begins (Field_to None s) x rest
    behind name y f true e k =
        let n = new_name f.0 s.fields f.2.0.1 f.2.0.2 f.2.1 in
        let q = named s f.0 n.0 n.1 n.2 in
        (f.0, q.0, q.1, f.1 ∙ ap (λ l. f.0 ++ l) (rest_is y rest (stopped (misspelt y) (misspelt rest) k)), q.2)
    behind name y f false e k =
        let q = viable_set s name y rest k in
        (f.0 ++ q.0, q.1, q.2, f.1 ∙ ap (λ l. f.0 ++ l) q.3 ∙ sym (append_assoc f.0 q.0 rest), (f.0, q.0 ++ q.1, name, append_assoc f.0 q.0 q.1, f.2, (lacks_none (value_at name s.fields) e, q.4, tt)))

    step : (a : Answer (List ℕ)) → read_name x ≡ a → (a >>= λ n. naming s n.0 n.1) ≡ Err (misspelt rest) → Begins (Field_to None s) x rest
    step (Err d) e k =
        let n = new_name (codes "a") s.fields (omega arith) refl refl in
        let q = named s [] (codes "a" ++ n.0) n.1 n.2 in
        ([], q.0, q.1, unread x rest (e ∙ ap Err (stopped d (misspelt rest) k)), q.2)
    step (Ok a) e k = behind a.0 a.1 (reads_name.sound x a.1 a.0 e) (is_some (value_at a.0 s.fields)) refl k

fill_field : (s : Description Value) → Filled (Field_to None s)
fill_field s =
    let n = new_name (codes "a") s.fields (omega arith) refl refl in
    let q = named s [] (codes "a" ++ n.0) n.1 n.2 in
    (q.0, q.1, q.2)

-- structures
fill_head : Filled Head
fill_head = let f = fill_media in (f.0, bare f.1, (f.1, f.2, refl))

viable_head : IsViable Head read_head
unfolding read_head
viable_head = viable_as bare Media_type read_media viable_media

viable_fields : (made : Made) → IsViable {V = Outcome} (Any_fields made) (λ x. read_field made.1 (behind_spaces x) >>= λ s. Ok (again (made.0, s.0), s.1))
viable_fields made = viable_behind (As (one_field made) (Field_to None made.1)) (λ x. read_field made.1 x >>= λ s. Ok (again (made.0, s.0), s.1)) (viable_as (one_field made) (Field_to None made.1) (read_field made.1) (viable_field made.1)) (let f = fill_field made.1 in (f.0, one_field made f.1, (f.1, f.2, refl)))

fill_one : (made : Made) → Filled (As (one_structure made) Head)
fill_one made = let f = fill_head in (f.0, one_structure made f.1, (f.1, f.2, refl))

viable_structure : (made : Made) → IsViable (Any_structure made) (finishing made)
viable_structure made x rest h = step (nat_lt 63 (length made.0)) h
  where
    step : (t : Bool) → (cond {A = Answer (List (Description Value))} t (Err many) (Ok (made.0 ++ made.1 ∷ [], x)) >>= λ all. starting all.0 (behind_spaces all.1)) ≡ Err (misspelt rest) → Begins (Any_structure made) x rest
    step true k = absurd (let bad : many ≡ misspelt rest = stopped {V = Outcome} many (misspelt rest) k in cc)
    step false k = viable_behind (As (one_structure made) Head) (starting (made.0 ++ made.1 ∷ [])) (viable_as (one_structure made) Head read_head viable_head) (fill_one made) x rest k

viable_structures_more : (made : Made) → IsViable (Any_structures made) (λ x. expect 59 x >>= λ m. finishing made m.1)
viable_structures_more made = viable_then (Is (59 ∷ [])) (λ m. Any_structure made) (expect 59) (λ m x. finishing made x) (reads_byte 59).sound (viable_byte 59) (λ used m p. viable_structure made) (λ used m p. let f = fill_one made in (f.0, f.1, ([], f.0, tt, refl, refl, f.2)))

any_more : (made : Made) (text : List ℕ) (n : Outcome) → Then Spaces (λ s. In_any_more made) text n → Caps_step_to None made text n
any_more made text n h = go h.5
  where
    go : In_any_more made h.1 n → Caps_step_to None made text n
    go (inl b) =
        let t = b.2 in
        let f = t.5 in
        inr (inl (f.0, marked 44 (Field_to None made.1) h.0 t.0 t.1 text f.0 (h.3 ∙ ap (λ l. h.0 ++ l) (b.1 ∙ ap (λ l. 44 ∷ l) t.3)) h.4 t.4 f.1, f.2))
    go (inr b) =
        let t = b.5 in
        let f = t.5 in
        inr (inr (f.0, marked 59 Head h.0 t.0 t.1 text f.0 (h.3 ∙ ap (λ l. h.0 ++ l) (b.3 ∙ (λ i. b.4 i ++ t.3 i))) h.4 t.4 f.1, tt, f.2))

viable_more : (made : Made) → IsViable (Caps_step_to None made) (read_more made)
unfolding read_more
viable_more made = viable_if (Then Spaces (λ s. In_any_more made)) (Caps_step_to None made) (read_more made) (λ text n p. (n, any_more made text n p))
    (viable_behind (In_any_more made) (λ x. more_from made x (after_byte 44 x))
    (viable_choice 44 (Any_fields made) (In_any_more made) (λ x. read_field made.1 (behind_spaces x) >>= λ s. Ok (again (made.0, s.0), s.1)) (λ x. expect 59 x >>= λ m. finishing made m.1) (more_from made)
    (viable_fields made) (λ text n p. (n, inl (text, refl, p)))
    (viable_if (Any_structures made) (In_any_more made) (λ x. expect 59 x >>= λ m. finishing made m.1) (λ text n p. (n, inr p)) (viable_structures_more made)) (λ x y. refl) (λ x. refl))
    (let f = fill_one made in (59 ∷ f.0, f.1, inr (59 ∷ [], f.0, tt, refl, refl, ([], f.0, tt, refl, refl, f.2)))))

abbrev pub ending : List (Description Value) → Outcome
ending all = done all

viable_end : (made : Made) → IsViable {V = Outcome} (Caps_step_to None made) (λ x. few_structures made x >>= λ all. Ok (done all.0, all.1))
viable_end made x rest h = absurd (step (nat_lt 63 (length made.0)) h)
  where
    step : (t : Bool) → (cond {A = Answer (List (Description Value))} t (Err many) (Ok (made.0 ++ made.1 ∷ [], x)) >>= λ all. Ok (ending all.0, all.1)) ≡ Err (misspelt rest) → ⊥
    step true k = let bad : many ≡ misspelt rest = stopped {V = Outcome} many (misspelt rest) k in cc
    step false k = cc

viable_caps : (made : Made) → IsViable (Caps_step_to None made) (caps_step made)
unfolding caps_step
viable_caps made = viable_cond (Caps_step_to None made) (λ x. eqb (length x) 0) (λ x. few_structures made x >>= λ all. Ok (done all.0, all.1)) (read_more made) (viable_end made) (viable_more made)

wider_field : (s : Description Value) (text : List ℕ) (t : Description Value) → Field s text t → Field_to None s text t
wider_field s text t h = let r = h.5 in let m = r.1 in let a = m.5 in (h.0, h.1, h.2, h.3, h.4, (r.0, (m.0, m.1, m.2, m.3, m.4, (a.0, wider_value m.1 a.0 a.1, a.2)), tt))

pub wider_caps : (made : Made) (text : List ℕ) (n : Outcome) → Caps_step made text n → Caps_step_to None made text n
wider_caps made text n (inl h) = inl (h.0, tt, h.2)
wider_caps made text n (inr (inl h)) = let m = h.1 in inr (inl (h.0, (m.0, m.1, m.2, m.3, m.4, wider_field made.1 m.1 h.0 m.5), h.2))
wider_caps made text n (inr (inr h)) = inr (inr (h.0, h.1, tt, h.3))

caps_end : (made : Made) → (text : List ℕ) × (v : List (Description Value)) × Caps_step_to None made text (done v)
caps_end made = ([], made.0 ++ made.1 ∷ [], inl (refl, tt, refl))

pub viable_structures : IsViable (Structures_to None) read_structures
unfolding read_structures
viable_structures = viable_then Head (λ s. Repeated (Caps_step_to None) ([], s)) read_head (λ s x. repeat caps_step ([], s) x) reads_head.sound viable_head
    (λ used s p. viable_repeat Caps_step (Caps_step_to None) all_bytes caps_step caps_is_step wider_caps viable_caps caps_end ([], s))
    (λ used s p. ([], s ∷ [], last ([], s) [] (s ∷ []) (inl (refl, tt, refl))))
