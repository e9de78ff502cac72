-- Fields, structures and whole texts of the grammar without limits are read, or there are too many of a kind.
use Rattle.std.proofs.Common.{◌≡◌, ℕ, Bool, true, false, cond, eqb, List, [], ◌∷◌, ◌++◌, length, None, Ok, Err, inl, inr, ◌⊎◌, refl, sym, ap, ◌∙◌, subst, arith, length-append}
use Rattle.std.specs.Prelude.{is_some, nat_lt}
use Rattle.std.proofs.lemmas.Bool.{ne_eqb}
use Rattle.gst_caps.specs.Accepts.{value_at}
use Rattle.gst_value.specs.Description.{Description}
use Rattle.gst_caps.specs.declared.value.Value.{Value}
use Rattle.caps_text.specs.Answers.{Answer, misspelt, many, ◌>>=◌}
use Rattle.caps_text.specs.Bytes.{in_class}
use Rattle.caps_text.specs.Grammar.{Then, As, Is, Spaces, Mark, Field_name, Field_value_to, Field_to, Rest_of_field_to, Head, Caps_step_to, Structures_to, Repeated, last, more, is_space}
use Rattle.caps_text.specs.Reading.{Made, again, done, after_byte, behind_spaces, caps_step, expect, few_fields, few_structures, more_from, read_field, read_head, read_mark, read_more, read_name, read_structures, read_value, read_whole_value, repeat, with_field}
use Rattle.caps_text.specs.declared.class.Class.TheVariants.{Media, Name, Word}
use Rattle.caps_text.proofs.Choices.{Behind, is_byte}
use Rattle.caps_text.proofs.Ended.{ended, ended_here}
use Rattle.caps_text.proofs.Listed.{bind_cond}
use Rattle.caps_text.proofs.Loose.{IsLoose, IsLooseStep, Or_many, loose_as, loose_choice, loose_guarded, loose_if, loose_limited, loose_repeat, loose_same, loose_then, loose_within, of_reader, or_bind, or_from}
use Rattle.caps_text.proofs.LooseListed.{loose_value, value_opens}
use Rattle.caps_text.proofs.Readers.{Stops, Starts, nothing, reads_weaker, stops_nothing, starts_stop, starts_more}
use Rattle.caps_text.proofs.Whole.{Outcome, all_bytes, at_end, head_starts, name_starts, none_lacks, one_field, one_structure, reads_head, some_bytes, split_mark, stops_media, too_many, value_ended}
use Rattle.caps_text.proofs.Words.{reads_byte, reads_mark, reads_name, reads_spaces, skipping, starts_is, starts_mark}

-- a value up to where no byte of a word follows
loose_whole_value : IsLoose (Field_value_to None) (in_class Word) read_whole_value
loose_whole_value used rest v p stop = or_from (read_whole_value (used ++ rest)) (read_value (used ++ rest) >>= λ a. ended a.0 a.1) (Ok (v, rest)) (value_ended (used ++ rest)) (or_bind (read_value (used ++ rest)) (λ a. ended a.0 a.1) (v, rest) (Ok (v, rest)) (loose_value used rest v p stop) (inl (ended_here v rest stop)))

-- a field behind its name
abbrev pub Set_any : Description Value → List ℕ → List ℕ → Description Value → Type 0
Set_any s name = Then (Mark 61) (λ m. As (with_field s name) (Field_value_to None))

abbrev pub setting : Description Value → List ℕ → List ℕ → Answer (Description Value)
setting s name x = read_mark 61 x >>= λ e. read_whole_value e.1 >>= λ v. few_fields (with_field s name v.0) v.1

abbrev pub naming : Description Value → List ℕ → List ℕ → Answer (Description Value)
naming s name x = cond (is_some (value_at name s.fields)) (Err (misspelt x)) (setting s name x)

loose_set : (s : Description Value) (name : List ℕ) → IsLoose (Set_any s name) (in_class Word) (setting s name)
loose_set s name = loose_then (Mark 61) (λ m. As (with_field s name) (Field_value_to None)) is_space (in_class Word) (read_mark 61) (λ m x. read_whole_value x >>= λ v. few_fields (with_field s name v.0) v.1) (of_reader (Mark 61) is_space (read_mark 61) (reads_mark 61 refl))
    (λ m. loose_within (too_many s name) (with_field s name) (Field_value_to None) (in_class Word) read_whole_value loose_whole_value)
    (λ m back w rest q stop. starts_stop is_space back rest (value_opens back q.0 q.1))

loose_rest : (s : Description Value) (name : List ℕ) → IsLoose (Rest_of_field_to None s name) (in_class Word) (naming s name)
loose_rest s name = loose_if (λ text w. (is_some (value_at name s.fields) ≡ false) × Set_any s name text w) (Rest_of_field_to None s name) (in_class Word) (naming s name)
    (λ text w h. (none_lacks (value_at name s.fields) h.0, h.1))
    (loose_guarded (Set_any s name) (in_class Word) (setting s name) (is_some (value_at name s.fields)) misspelt (loose_set s name))

pub loose_field : (s : Description Value) → IsLoose (Field_to None s) (in_class Word) (read_field s)
unfolding read_field
loose_field s = loose_then Field_name (Rest_of_field_to None s) (in_class Name) (in_class Word) read_name (naming s) (of_reader Field_name (in_class Name) read_name reads_name) (λ name. loose_rest s name)
    (λ name back w rest q stop. starts_stop (in_class Name) back rest (starts_mark (in_class Name) 61 (λ m. As (with_field s name) (Field_value_to None)) back w refl refl q.1))

field_starts : (s : Description Value) (text : List ℕ) (t : Description Value) → Field_to None s text t → Starts is_space text
field_starts s text t h = subst (Starts is_space) (sym h.3) (starts_more is_space h.0 h.1 (name_starts h.0 h.2 h.4))

-- a comma and a field
abbrev pub Any_fields : Made → List ℕ → Outcome → Type 0
Any_fields made = Then Spaces (λ s. As (one_field made) (Field_to None made.1))

loose_fields : (made : Made) → IsLoose (Any_fields made) (in_class Word) (λ x. read_field made.1 (behind_spaces x) >>= λ s. Ok (again (made.0, s.0), s.1))
loose_fields made = loose_then Spaces (λ s. As (one_field made) (Field_to None made.1)) is_space (in_class Word) skipping (λ s x. read_field made.1 x >>= λ s. Ok (again (made.0, s.0), s.1)) (of_reader Spaces is_space skipping reads_spaces)
    (λ s. loose_as (one_field made) (Field_to None made.1) (in_class Word) (read_field made.1) (loose_field made.1))
    (λ s back w rest q stop. starts_stop is_space back rest (field_starts made.1 back q.0 q.1))

-- a semicolon and a structure
abbrev pub Any_structure : Made → List ℕ → Outcome → Type 0
Any_structure made = Then Spaces (λ s. As (one_structure made) Head)

abbrev pub Any_structures : Made → List ℕ → Outcome → Type 0
Any_structures made = Then (Is (59 ∷ [])) (λ m. Any_structure made)

loose_structure : (made : Made) → IsLoose (Any_structure made) (in_class Word) (λ x. read_head (behind_spaces x) >>= λ s. Ok (again (made.0 ++ made.1 ∷ [], s.0), s.1))
loose_structure made = loose_then Spaces (λ s. As (one_structure made) Head) is_space (in_class Word) skipping (λ s x. read_head x >>= λ s. Ok (again (made.0 ++ made.1 ∷ [], s.0), s.1)) (of_reader Spaces is_space skipping reads_spaces)
    (λ s. loose_as (one_structure made) Head (in_class Word) read_head (of_reader Head (in_class Word) read_head (reads_weaker Head (in_class Media) (in_class Word) read_head stops_media reads_head)))
    (λ s back w rest q stop. starts_stop is_space back rest (head_starts back q.0 q.1))

loose_limit : (made : Made) → IsLoose (Any_structure made) (in_class Word) (λ x. few_structures made x >>= λ all. read_head (behind_spaces all.1) >>= λ s. Ok (again (all.0, s.0), s.1))
loose_limit made = loose_same (Any_structure made) (in_class Word) (λ x. cond {A = Answer Outcome} (nat_lt 63 (length made.0)) (Err many) (read_head (behind_spaces x) >>= λ s. Ok (again (made.0 ++ made.1 ∷ [], s.0), s.1))) (λ x. few_structures made x >>= λ all. read_head (behind_spaces all.1) >>= λ s. Ok (again (all.0, s.0), s.1))
    (λ x. bind_cond (nat_lt 63 (length made.0)) (Err many) (Ok (made.0 ++ made.1 ∷ [], x)) (λ all. read_head (behind_spaces all.1) >>= λ s. Ok (again (all.0, s.0), s.1)))
    (loose_limited (nat_lt 63 (length made.0)) (Any_structure made) (in_class Word) (λ x. read_head (behind_spaces x) >>= λ s. Ok (again (made.0 ++ made.1 ∷ [], s.0), s.1)) (loose_structure made))

loose_structures_more : (made : Made) → IsLoose (Any_structures made) (in_class Word) (λ x. expect 59 x >>= λ m. few_structures made m.1 >>= λ all. read_head (behind_spaces all.1) >>= λ s. Ok (again (all.0, s.0), s.1))
loose_structures_more made = loose_then (Is (59 ∷ [])) (λ m. Any_structure made) nothing (in_class Word) (expect 59) (λ m x. few_structures made x >>= λ all. read_head (behind_spaces all.1) >>= λ s. Ok (again (all.0, s.0), s.1)) (of_reader (Is (59 ∷ [])) nothing (expect 59) (reads_byte 59)) (λ m. loose_limit made) (λ m back w rest q stop. stops_nothing (back ++ rest))

abbrev pub In_any_more : Made → List ℕ → Outcome → Type 0
In_any_more made text w = Behind 44 (Any_fields made) text w ⊎ Any_structures made text w

loose_in_more : (made : Made) → IsLoose (In_any_more made) (in_class Word) (λ x. more_from made x (after_byte 44 x))
loose_in_more made = loose_choice 44 (Any_fields made) (Any_structures made) (in_class Word) (λ x. read_field made.1 (behind_spaces x) >>= λ s. Ok (again (made.0, s.0), s.1)) (λ x. expect 59 x >>= λ m. few_structures made m.1 >>= λ all. read_head (behind_spaces all.1) >>= λ s. Ok (again (all.0, s.0), s.1)) (more_from made) (loose_fields made) (loose_structures_more made)
    (λ used v q. starts_is (is_byte 44) 59 [] (λ m. Any_structure made) used v refl q) (λ x y. refl) (λ x. refl)

in_more_starts : (made : Made) (text : List ℕ) (w : Outcome) → In_any_more made text w → Starts is_space text
in_more_starts made text w (inl h) = subst (Starts is_space) (sym h.1) refl
in_more_starts made text w (inr h) = starts_is is_space 59 [] (λ m. Any_structure made) text w refl h

-- the steps that are not the last
abbrev pub Goes_on_any : Made → List ℕ → Outcome → Type 0
Goes_on_any made text n =
    ((s : Description Value) × Then (Mark 44) (λ m. Field_to None made.1) text s × (n ≡ again (made.0, s)))
    ⊎ ((s : Description Value) × Then (Mark 59) (λ m. Head) text s × Unit {0} × (n ≡ again (made.0 ++ made.1 ∷ [], s)))

words_more : (made : Made) (text : List ℕ) (n : Outcome) → Goes_on_any made text n → Then Spaces (λ s. In_any_more made) text n
words_more made text n (inl h) =
    let t = h.1 in
    let mark = t.4 in
    (mark.0, 44 ∷ (mark.5.1 ++ t.1), tt, split_mark 44 t.0 t.1 text mark t.3, mark.4, inl (mark.5.1 ++ t.1, refl, (mark.5.1, t.1, tt, refl, mark.5.5, (h.0, t.5, h.2))))
words_more made text n (inr h) =
    let t = h.1 in
    let mark = t.4 in
    (mark.0, 59 ∷ (mark.5.1 ++ t.1), tt, split_mark 59 t.0 t.1 text mark t.3, mark.4, inr (59 ∷ [], mark.5.1 ++ t.1, tt, refl, refl, (mark.5.1, t.1, tt, refl, mark.5.5, (h.0, t.5, h.3))))

loose_goes_on : (made : Made) → IsLoose (Goes_on_any made) (in_class Word) (read_more made)
unfolding read_more
loose_goes_on made = loose_if (Then Spaces (λ s. In_any_more made)) (Goes_on_any made) (in_class Word) (read_more made) (words_more made)
    (loose_then Spaces (λ s. In_any_more made) is_space (in_class Word) skipping (λ s x. more_from made x (after_byte 44 x)) (of_reader Spaces is_space skipping reads_spaces) (λ s. loose_in_more made)
    (λ s back w rest q stop. starts_stop is_space back rest (in_more_starts made back w q)))

pub step_starts : (made t : Made) (text : List ℕ) → Caps_step_to None made text (again t) → Starts (in_class Word) text
step_starts made t text (inl h) = absurd (let bad = h.2 in cc)
step_starts made t text (inr (inl h)) = starts_mark (in_class Word) 44 (λ m. Field_to None made.1) text h.0 refl refl h.1
step_starts made t text (inr (inr h)) = starts_mark (in_class Word) 59 (λ m. Head) text h.0 refl refl h.1

caps_stop : (made : Made) (text rest : List ℕ) (v : List (Description Value)) → Repeated (Caps_step_to None) made text v → Stops all_bytes rest → Stops (in_class Word) (text ++ rest)
caps_stop _ _ rest _ (last s text v d) stop = ended d
  where
    ended : Caps_step_to None s text (done v) → Stops (in_class Word) (text ++ rest)
    ended (inl h) = let nil : text ++ rest ≡ [] = ap (λ l. l ++ rest) h.0 ∙ at_end rest stop in subst (Stops (in_class Word)) (sym nil) tt
    ended (inr (inl h)) = absurd (let bad = h.2 in cc)
    ended (inr (inr h)) = absurd (let bad = h.3 in cc)
caps_stop _ _ rest _ (more s t front back text v e d later) stop = subst (λ l. Stops (in_class Word) (l ++ rest)) (sym e) (starts_stop (in_class Word) (front ++ back) rest (starts_more (in_class Word) front back (step_starts s t front d)))

pub caps_goes_on : (made t : Made) (front back rest : List ℕ) → Caps_step_to None made front (again t) → Stops (in_class Word) (back ++ rest) → Or_many (caps_step made (front ++ (back ++ rest))) (Ok (again t, back ++ rest))
unfolding caps_step
caps_goes_on made t front back rest h stop =
    let some = some_bytes (in_class Word) front (step_starts made t front h) in
    let sum = length-append front (back ++ rest) in
    let full : eqb (length (front ++ (back ++ rest))) 0 ≡ false = ne_eqb (length (front ++ (back ++ rest))) 0 (λ e. omega (arith, e, some, sum)) in
    or_from (caps_step made (front ++ (back ++ rest))) (read_more made (front ++ (back ++ rest))) (Ok (again t, back ++ rest))
    (ap (λ b. cond {A = Answer Outcome} b (few_structures made (front ++ (back ++ rest)) >>= λ all. Ok (done all.0, all.1)) (read_more made (front ++ (back ++ rest)))) full)
    (loose_goes_on made front (back ++ rest) (again t) (on h) stop)
  where
    on : Caps_step_to None made front (again t) → Goes_on_any made front (again t)
    on (inl h) = absurd (let bad = h.2 in cc)
    on (inr p) = p

caps_ends : (made : Made) (front rest : List ℕ) (v : List (Description Value)) → Caps_step_to None made front (done v) → Stops all_bytes rest → Or_many (caps_step made (front ++ rest)) (Ok (done v, rest))
unfolding caps_step
caps_ends made front rest v (inl h) stop =
    let nil = at_end rest stop in
    let all : front ++ rest ≡ [] = ap (λ l. l ++ rest) h.0 ∙ nil in
    or_from (caps_step made (front ++ rest)) (few_structures made [] >>= λ all. Ok (done all.0, all.1)) (Ok (done v, rest))
    (ap (λ l. cond {A = Answer Outcome} (eqb (length l) 0) (few_structures made l >>= λ all. Ok (done all.0, all.1)) (read_more made l)) all)
    (or_bind (few_structures made []) (λ all. Ok (done all.0, all.1)) (made.0 ++ made.1 ∷ [], []) (Ok (done v, rest)) (limited (nat_lt 63 (length made.0))) (inl (λ i. Ok (sym h.2 i, sym nil i))))
  where
    limited : (t : Bool) → Or_many (cond {A = Answer (List (Description Value))} t (Err many) (Ok (made.0 ++ made.1 ∷ [], []))) (Ok (made.0 ++ made.1 ∷ [], []))
    limited true = inr refl
    limited false = inl refl
caps_ends made front rest v (inr (inl h)) stop = absurd (let bad = h.2 in cc)
caps_ends made front rest v (inr (inr h)) stop = absurd (let bad = h.3 in cc)

caps_is_loose : IsLooseStep (Caps_step_to None) all_bytes caps_step
caps_is_loose = record {
  passes = λ s t text h. some_bytes (in_class Word) text (step_starts s t text h);
  goes_on = λ s t front back rest v h later stop. caps_goes_on s t front back rest h (caps_stop t back rest v later stop);
  ends = λ s front rest v h stop. caps_ends s front rest v h stop;
}

pub loose_structures : IsLoose (Structures_to None) all_bytes read_structures
unfolding read_structures
loose_structures = loose_then Head (λ s. Repeated (Caps_step_to None) ([], s)) (in_class Media) all_bytes read_head (λ s x. repeat caps_step ([], s) x) (of_reader Head (in_class Media) read_head reads_head) (λ s. loose_repeat (Caps_step_to None) all_bytes caps_step caps_is_loose ([], s))
    (λ s back w rest q stop. stops_media (back ++ rest) (caps_stop ([], s) back rest w q stop))
