-- Readers of fields, structures and whole texts.
use Rattle.std.proofs.Common.{◌≡◌, ℕ, ◌<◌, ◌≤◌, Bool, true, false, cond, eqb, ◌&&◌, List, [], ◌∷◌, ◌++◌, length, Option, None, Ok, Err, inl, inr, ◌⊎◌, refl, sym, ap, ◌∙◌, subst, arith, append_assoc, length-append, ltb-false, le-ltb}
use Rattle.std.specs.Prelude.{is_some, nat_lt}
use Rattle.std.specs.List.{list_all}
use Rattle.std.proofs.lemmas.Bool.{ne_eqb}
use Rattle.gst_caps.specs.Accepts.{value_at}
use Rattle.gst_value.specs.Description.{Description}
use Rattle.gst_caps.specs.declared.value.Value.{Value}
use Rattle.caps_text.specs.Answers.{Answer, Stop, misspelt, many, ◌>>=◌}
use Rattle.caps_text.specs.Bytes.{in_class, is_letter}
use Rattle.caps_text.specs.Grammar.{Then, As, Is, Spaces, Mark, Run, Media_type, Field_name, Field_value, Field, Rest_of_field, Head, Caps_step, Structures, Repeated, last, more, is_space}
use Rattle.caps_text.specs.Reading.{Made, Next, again, done, after_byte, bare, behind_spaces, caps_step, expect, few_fields, few_structures, more_from, read_field, read_head, read_mark, read_media, read_more, read_name, read_structures, read_value, read_whole_value, repeat, with_field}
use Rattle.caps_text.specs.declared.class.Class.TheVariants.{Media, Name, Word}
use Rattle.caps_text.proofs.Choices.{Behind, is_byte, reads_choice, reads_iff}
use Rattle.caps_text.proofs.Ended.{ended, ended_is, reads_ended}
use Rattle.caps_text.proofs.Listed.{bind_cond, reads_same, reads_value, value_opens}
use Rattle.caps_text.proofs.Readers.{IsReader, Reads_front, Stops, Starts, nothing, ok_is, reads_then, reads_as, reads_weaker, stops_nothing, starts_stop, starts_more}
use Rattle.caps_text.proofs.Repeats.{Within, IsStep, reads_within, reads_repeat}
use Rattle.caps_text.proofs.Words.{reads_byte, reads_mark, reads_media, reads_name, reads_spaces, skipping, starts_is, starts_mark}
use Rattle.caps_text.proofs.Local.{lacks_none}
use Rattle.caps_text.proofs.Values.{no_length}

-- a part that is read unless something forbids it
module _ {V : Type 0} (P : List ℕ → V → Type 0) (test : ℕ → Bool) (r : List ℕ → Answer V) (first : IsReader P test r) (b : Bool) (e : List ℕ → Stop) where
  guarded_sound : (x rest : List ℕ) (v : V) → cond {A = Answer V} b (Err (e x)) (r x) ≡ Ok (v, rest) → Reads_front (λ text w. (b ≡ false) × P text w) x v rest
  guarded_sound x rest v h = step b refl h
    where
      step : (t : Bool) → b ≡ t → cond {A = Answer V} t (Err (e x)) (r x) ≡ Ok (v, rest) → Reads_front (λ text w. (b ≡ false) × P text w) x v rest
      step true k h = absurd (cc)
      step false k h = let f = first.sound x rest v h in (f.0, f.1, (k, f.2))

  guarded_complete : (used rest : List ℕ) (v : V) → (b ≡ false) × P used v → Stops test rest → cond {A = Answer V} b (Err (e (used ++ rest))) (r (used ++ rest)) ≡ Ok (v, rest)
  guarded_complete used rest v h stop = ap (λ t. cond {A = Answer V} t (Err (e (used ++ rest))) (r (used ++ rest))) h.0 ∙ first.complete used rest v h.1 stop

  pub reads_guarded : IsReader (λ text w. (b ≡ false) × P text w) test (λ x. cond {A = Answer V} b (Err (e x)) (r x))
  reads_guarded = record { sound = guarded_sound; complete = guarded_complete }

pub none_lacks : {V : Type 0} (o : Option V) → o ≡ None → is_some o ≡ false
none_lacks o h = ap is_some h

pub value_ended : (x : List ℕ) → read_whole_value x ≡ (read_value x >>= λ a. ended a.0 a.1)
unfolding read_whole_value
value_ended x = ended_is (read_value x)

pub reads_whole_value : IsReader Field_value (in_class Word) read_whole_value
reads_whole_value = reads_ended Field_value read_value read_whole_value value_ended reads_value

-- a field behind its name
abbrev pub too_many : Description Value → List ℕ → Value → Bool
too_many s name v = nat_lt 64 (length (with_field s name v).fields)

abbrev Set_field : Description Value → List ℕ → List ℕ → Description Value → Type 0
Set_field s name = Then (Mark 61) (λ m. Within (too_many s name) (with_field s name) Field_value)

reads_set : (s : Description Value) (name : List ℕ) → IsReader (Set_field s name) (in_class Word) (λ x. read_mark 61 x >>= λ e. read_whole_value e.1 >>= λ v. few_fields (with_field s name v.0) v.1)
reads_set s name = reads_then (Mark 61) (λ m. Within (too_many s name) (with_field s name) Field_value) is_space (in_class Word) (read_mark 61) (λ m x. read_whole_value x >>= λ v. few_fields (with_field s name v.0) v.1) (reads_mark 61 refl)
    (λ m. reads_within (too_many s name) (with_field s name) Field_value (in_class Word) read_whole_value reads_whole_value)
    (λ m back w rest q stop. starts_stop is_space back rest (value_opens back q.0 q.1))

reads_rest : (s : Description Value) (name : List ℕ) → IsReader (Rest_of_field s name) (in_class Word) (λ x. cond (is_some (value_at name s.fields)) (Err (misspelt x)) (read_mark 61 x >>= λ e. read_whole_value e.1 >>= λ v. few_fields (with_field s name v.0) v.1))
reads_rest s name = reads_iff (λ text w. (is_some (value_at name s.fields) ≡ false) × Set_field s name text w) (Rest_of_field s name) (in_class Word) _
    (λ text w h. let t = h.1 in let v = t.5 in (lacks_none (value_at name s.fields) h.0, (t.0, t.1, t.2, t.3, t.4, (v.0, v.1, v.3)), subst (λ d. length d.fields ≤ 64) (sym v.3) (ltb-false 64 (length (with_field s name v.0).fields) v.2)))
    (λ text w h. let t = h.1 in let v = t.5 in (none_lacks (value_at name s.fields) h.0, (t.0, t.1, t.2, t.3, t.4, (v.0, v.1, le-ltb 64 (length (with_field s name v.0).fields) (subst (λ d. length d.fields ≤ 64) v.2 h.2), v.2))))
    (reads_guarded (Set_field s name) (in_class Word) _ (reads_set s name) (is_some (value_at name s.fields)) misspelt)

pub reads_field : (s : Description Value) → IsReader (Field s) (in_class Word) (read_field s)
unfolding read_field
reads_field s = reads_then Field_name (Rest_of_field s) (in_class Name) (in_class Word) read_name (λ name x. cond (is_some (value_at name s.fields)) (Err (misspelt x)) (read_mark 61 x >>= λ e. read_whole_value e.1 >>= λ v. few_fields (with_field s name v.0) v.1)) reads_name (λ name. reads_rest s name)
    (λ name back w rest q stop. starts_stop (in_class Name) back rest (starts_mark (in_class Name) 61 (λ m. As (with_field s name) Field_value) back w refl refl q.1))

-- a media type
no_media : (b : ℕ) → in_class Word b ≡ false → in_class Media b ≡ false
no_media b h = grind arith

pub stops_media : (rest : List ℕ) → Stops (in_class Word) rest → Stops (in_class Media) rest
stops_media [] h = tt
stops_media (b ∷ bs) h = no_media b h

pub reads_head : IsReader Head (in_class Media) read_head
unfolding read_head
reads_head = reads_as bare Media_type (in_class Media) read_media reads_media

-- a structure's media type begins with no space
pub head_starts : (text : List ℕ) (s : Description Value) → Head text s → Starts is_space text
head_starts text s h = let m = h.1 in subst (Starts is_space) (sym m.3) (starts_more is_space m.0 m.1 (first m.0 m.2 m.4))
  where
    no_space : (b : ℕ) → in_class Media b ≡ true → is_space b ≡ false
    no_space b k = grind arith

    and-left : (a b : Bool) → (a && b) ≡ true → a ≡ true
    and-left true b k = refl
    and-left false b k = k

    first : (l run : List ℕ) → Run Media l run → Starts is_space l
    first [] run k = absurd (let some = k.1 in omega (arith, some))
    first (b ∷ bs) run k = no_space b (and-left (in_class Media b) (list_all (in_class Media) bs) k.2)

pub name_starts : (text name : List ℕ) → Field_name text name → Starts is_space text
name_starts [] name h = absurd (let some = h.0.1 in omega (arith, some))
name_starts (b ∷ bs) name h = no_space b h.1
  where
    no_space : (b : ℕ) → is_letter b ≡ true → is_space b ≡ false
    no_space b k = grind arith

field_starts : (s : Description Value) (text : List ℕ) (t : Description Value) → Field s text t → Starts is_space text
field_starts s text t h = subst (Starts is_space) (sym h.3) (starts_more is_space h.0 h.1 (name_starts h.0 h.2 h.4))

-- a comma and a field
abbrev pub Outcome : Type 0
Outcome = Next Made (List (Description Value))

abbrev pub one_field : Made → Description Value → Outcome
one_field made s = again (made.0, s)

abbrev pub one_structure : Made → Description Value → Outcome
one_structure made s = again (made.0 ++ made.1 ∷ [], s)

abbrev More_fields : Made → List ℕ → Outcome → Type 0
More_fields made = Then Spaces (λ s. As (one_field made) (Field made.1))

reads_more_fields : (made : Made) → IsReader (More_fields made) (in_class Word) (λ x. read_field made.1 (behind_spaces x) >>= λ s. Ok (again (made.0, s.0), s.1))
reads_more_fields made = reads_then Spaces (λ s. As (one_field made) (Field made.1)) is_space (in_class Word) skipping (λ s x. read_field made.1 x >>= λ s. Ok (again (made.0, s.0), s.1)) reads_spaces
    (λ s. reads_as (one_field made) (Field made.1) (in_class Word) (read_field made.1) (reads_field made.1))
    (λ s back w rest q stop. starts_stop is_space back rest (field_starts made.1 back q.0 q.1))

-- a semicolon and a structure
abbrev New_structure : Made → List ℕ → Outcome → Type 0
New_structure made = Then Spaces (λ s. As (one_structure made) Head)

abbrev More_structures : Made → List ℕ → Outcome → Type 0
More_structures made = Then (Is (59 ∷ [])) (λ m. λ text w. (nat_lt 63 (length made.0) ≡ false) × New_structure made text w)

reads_new_structure : (made : Made) → IsReader (New_structure made) (in_class Word) (λ x. read_head (behind_spaces x) >>= λ s. Ok (again (made.0 ++ made.1 ∷ [], s.0), s.1))
reads_new_structure made = reads_then Spaces (λ s. As (one_structure made) Head) is_space (in_class Word) skipping (λ s x. read_head x >>= λ s. Ok (again (made.0 ++ made.1 ∷ [], s.0), s.1)) reads_spaces
    (λ s. reads_as (one_structure made) Head (in_class Word) read_head (reads_weaker Head (in_class Media) (in_class Word) read_head stops_media reads_head))
    (λ s back w rest q stop. starts_stop is_space back rest (head_starts back q.0 q.1))

reads_limited : (made : Made) → IsReader (λ text w. (nat_lt 63 (length made.0) ≡ false) × New_structure made text w) (in_class Word) (λ x. few_structures made x >>= λ all. read_head (behind_spaces all.1) >>= λ s. Ok (again (all.0, s.0), s.1))
reads_limited made = reads_same (λ text w. (nat_lt 63 (length made.0) ≡ false) × New_structure made text w) (in_class Word) (λ x. cond {A = Answer Outcome} (nat_lt 63 (length made.0)) (Err many) (read_head (behind_spaces x) >>= λ s. Ok (again (made.0 ++ made.1 ∷ [], s.0), s.1))) _
    (λ x. bind_cond (nat_lt 63 (length made.0)) (Err many) (Ok (made.0 ++ made.1 ∷ [], x)) (λ all. read_head (behind_spaces all.1) >>= λ s. Ok (again (all.0, s.0), s.1)))
    (reads_guarded (New_structure made) (in_class Word) _ (reads_new_structure made) (nat_lt 63 (length made.0)) (λ x. many))

reads_more_structures : (made : Made) → IsReader (More_structures made) (in_class Word) (λ x. expect 59 x >>= λ m. few_structures made m.1 >>= λ all. read_head (behind_spaces all.1) >>= λ s. Ok (again (all.0, s.0), s.1))
reads_more_structures made = reads_then (Is (59 ∷ [])) (λ m. λ text w. (nat_lt 63 (length made.0) ≡ false) × New_structure made text w) nothing (in_class Word) (expect 59) (λ m x. few_structures made x >>= λ all. read_head (behind_spaces all.1) >>= λ s. Ok (again (all.0, s.0), s.1)) (reads_byte 59) (λ m. reads_limited made) (λ m back w rest q stop. stops_nothing (back ++ rest))

abbrev In_more : Made → List ℕ → Outcome → Type 0
In_more made text w = Behind 44 (More_fields made) text w ⊎ More_structures made text w

reads_in_more : (made : Made) → IsReader (In_more made) (in_class Word) (λ x. more_from made x (after_byte 44 x))
reads_in_more made = reads_choice 44 (More_fields made) (More_structures made) (in_class Word) (λ x. read_field made.1 (behind_spaces x) >>= λ s. Ok (again (made.0, s.0), s.1)) _ (more_from made) (reads_more_fields made) (reads_more_structures made)
    (λ used v q. starts_is (is_byte 44) 59 [] (λ m. λ text w. (nat_lt 63 (length made.0) ≡ false) × New_structure made text w) used v refl q) (λ x y. refl) (λ x. refl)

in_more_starts : (made : Made) (text : List ℕ) (w : Outcome) → In_more made text w → Starts is_space text
in_more_starts made text w (inl h) = subst (Starts is_space) (sym h.1) refl
in_more_starts made text w (inr h) = starts_is is_space 59 [] (λ m. λ text w. (nat_lt 63 (length made.0) ≡ false) × New_structure made text w) text w refl h

reads_more : (made : Made) → IsReader (Then Spaces (λ s. In_more made)) (in_class Word) (read_more made)
unfolding read_more
reads_more made = reads_then Spaces (λ s. In_more made) is_space (in_class Word) skipping (λ s x. more_from made x (after_byte 44 x)) reads_spaces (λ s. reads_in_more made)
    (λ s back w rest q stop. starts_stop is_space back rest (in_more_starts made back w q))

-- the steps that are not the last
abbrev Goes_on : Made → List ℕ → Outcome → Type 0
Goes_on made text n =
    ((s : Description Value) × Then (Mark 44) (λ m. Field made.1) text s × (n ≡ again (made.0, s)))
    ⊎ ((s : Description Value) × Then (Mark 59) (λ m. Head) text s × (length made.0 ≤ 63) × (n ≡ again (made.0 ++ made.1 ∷ [], s)))

-- a mark in front, taken apart and put together
pub marked : {W : Type 0} (m : ℕ) (P : List ℕ → W → Type 0) (spaces behind tail text : List ℕ) (w : W) → text ≡ spaces ++ (m ∷ (behind ++ tail)) → Spaces spaces tt → Spaces behind tt → P tail w → Then (Mark m) (λ u. P) text w
marked m P spaces behind tail text w e s t p =
    (spaces ++ (m ∷ behind), tail, tt, e ∙ sym (append_assoc spaces (m ∷ behind) tail), (spaces, m ∷ behind, tt, refl, s, (m ∷ [], behind, tt, refl, refl, t)), p)

more_words : (made : Made) (text : List ℕ) (n : Outcome) → Then Spaces (λ s. In_more made) text n → Goes_on made text n
more_words made text n h = go h.5
  where
    go : In_more made h.1 n → Goes_on made text n
    go (inl b) =
        let t = b.2 in
        let f = t.5 in
        inl (f.0, marked 44 (Field made.1) h.0 t.0 t.1 text f.0 (h.3 ∙ ap (λ l. h.0 ++ l) (b.1 ∙ ap (λ l. 44 ∷ l) t.3)) h.4 t.4 f.1, f.2)
    go (inr b) =
        let t = b.5.1 in
        let f = t.5 in
        inr (f.0, marked 59 Head h.0 t.0 t.1 text f.0 (h.3 ∙ ap (λ l. h.0 ++ l) (b.3 ∙ (λ i. b.4 i ++ t.3 i))) h.4 t.4 f.1, ltb-false 63 (length made.0) b.5.0, f.2)

pub split_mark : (m : ℕ) (front back text : List ℕ) (mark : Mark m front tt) → text ≡ front ++ back → text ≡ mark.0 ++ (m ∷ (mark.5.1 ++ back))
split_mark m front back text mark e =
    let inner = mark.5 in
    e ∙ ap (λ l. l ++ back) (mark.3 ∙ ap (λ l. mark.0 ++ l) (inner.3 ∙ ap (λ l. l ++ inner.1) inner.4)) ∙ append_assoc mark.0 (m ∷ inner.1) back

words_more : (made : Made) (text : List ℕ) (n : Outcome) → Goes_on made text n → Then Spaces (λ s. In_more made) text n
words_more made text n (inl h) =
    let t = h.1 in
    let mark = t.4 in
    (mark.0, 44 ∷ (mark.5.1 ++ t.1), tt, split_mark 44 t.0 t.1 text mark t.3, mark.4, inl (mark.5.1 ++ t.1, refl, (mark.5.1, t.1, tt, refl, mark.5.5, (h.0, t.5, h.2))))
words_more made text n (inr h) =
    let t = h.1 in
    let mark = t.4 in
    (mark.0, 59 ∷ (mark.5.1 ++ t.1), tt, split_mark 59 t.0 t.1 text mark t.3, mark.4, inr (59 ∷ [], mark.5.1 ++ t.1, tt, refl, refl, (le-ltb 63 (length made.0) h.2, (mark.5.1, t.1, tt, refl, mark.5.5, (h.0, t.5, h.3)))))

reads_goes_on : (made : Made) → IsReader (Goes_on made) (in_class Word) (read_more made)
reads_goes_on made = reads_iff (Then Spaces (λ s. In_more made)) (Goes_on made) (in_class Word) (read_more made) (more_words made) (words_more made) (reads_more made)

-- the end of the text, and the end of all
abbrev pub all_bytes : ℕ → Bool
all_bytes b = true

last_few : (made : Made) (x rest : List ℕ) (n : Outcome) (t : Bool) → nat_lt 63 (length made.0) ≡ t → (cond {A = Answer (List (Description Value))} t (Err many) (Ok (made.0 ++ made.1 ∷ [], x)) >>= λ all. Ok (done all.0, all.1)) ≡ Ok (n, rest) → (length made.0 ≤ 63) × (n ≡ done (made.0 ++ made.1 ∷ [])) × (x ≡ rest)
last_few made x rest n true e h = absurd (cc)
last_few made x rest n false e h = let is = ok_is (done (made.0 ++ made.1 ∷ []), x) (n, rest) h in (ltb-false 63 (length made.0) e, sym (ap (λ p. p.0) is), ap (λ p. p.1) is)

caps_sound : (made : Made) (x rest : List ℕ) (n : Outcome) → caps_step made x ≡ Ok (n, rest) → Reads_front (Caps_step made) x n rest
unfolding caps_step
caps_sound made x rest n h = go (eqb (length x) 0) refl h
  where
    go : (t : Bool) → eqb (length x) 0 ≡ t → cond {A = Answer Outcome} t (few_structures made x >>= λ all. Ok (done all.0, all.1)) (read_more made x) ≡ Ok (n, rest) → Reads_front (Caps_step made) x n rest
    go true e k = let l = last_few made x rest n (nat_lt 63 (length made.0)) refl k in ([], l.2, inl (refl, l.0, l.1))
    go false e k = let f = (reads_goes_on made).sound x rest n k in (f.0, f.1, elim f.2 [ inl p ↦ inr (inl p) | inr p ↦ inr (inr p) ])

-- the last step stands at the end of the text
pub done_reads : (made : Made) (x y : List ℕ) (v : List (Description Value)) → caps_step made x ≡ Ok (done v, y) → y ≡ []
unfolding caps_step
done_reads made x y v h = go (eqb (length x) 0) refl h
  where
    go : (t : Bool) → eqb (length x) 0 ≡ t → cond {A = Answer Outcome} t (few_structures made x >>= λ all. Ok (done all.0, all.1)) (read_more made x) ≡ Ok (done v, y) → y ≡ []
    go true e k = sym (last_few made x y (done v) (nat_lt 63 (length made.0)) refl k).2 ∙ no_length x e
    go false e k = absurd (no ((reads_goes_on made).sound x y (done v) k).2)
      where
        no : {text : List ℕ} → Goes_on made text (done v) → ⊥
        no (inl p) = let bad = p.2 in cc
        no (inr p) = let bad = p.3 in cc

step_starts : (made t : Made) (text : List ℕ) → Caps_step made text (again t) → Starts (in_class Word) text
step_starts made t text (inl h) = absurd (cc)
step_starts made t text (inr (inl h)) = starts_mark (in_class Word) 44 (λ m. Field made.1) text h.0 refl refl h.1
step_starts made t text (inr (inr h)) = starts_mark (in_class Word) 59 (λ m. Head) text h.0 refl refl h.1

pub at_end : (rest : List ℕ) → Stops all_bytes rest → rest ≡ []
at_end [] h = refl
at_end (b ∷ bs) h = absurd (cc)

caps_stop : (made : Made) (text rest : List ℕ) (v : List (Description Value)) → Repeated Caps_step made text v → Stops all_bytes rest → Stops (in_class Word) (text ++ rest)
caps_stop _ _ rest _ (last s text v d) stop = ended d
  where
    ended : Caps_step s text (done v) → Stops (in_class Word) (text ++ rest)
    ended (inl h) = let nil : text ++ rest ≡ [] = ap (λ l. l ++ rest) h.0 ∙ at_end rest stop in subst (Stops (in_class Word)) (sym nil) tt
    ended (inr (inl h)) = absurd (let bad = h.2 in cc)
    ended (inr (inr h)) = absurd (let bad = h.3 in cc)
caps_stop _ _ rest _ (more s t front back text v e d later) stop = subst (λ l. Stops (in_class Word) (l ++ rest)) (sym e) (starts_stop (in_class Word) (front ++ back) rest (starts_more (in_class Word) front back (step_starts s t front d)))

pub some_bytes : (test : ℕ → Bool) (l : List ℕ) → Starts test l → 0 < length l
some_bytes test [] s = absurd s
some_bytes test (b ∷ bs) s = omega arith

caps_goes_on : (made t : Made) (front back rest : List ℕ) → Caps_step made front (again t) → Stops (in_class Word) (back ++ rest) → caps_step made (front ++ (back ++ rest)) ≡ Ok (again t, back ++ rest)
unfolding caps_step
caps_goes_on made t front back rest h stop =
    let some = some_bytes (in_class Word) front (step_starts made t front h) in
    let sum = length-append front (back ++ rest) in
    let full : eqb (length (front ++ (back ++ rest))) 0 ≡ false = ne_eqb (length (front ++ (back ++ rest))) 0 (λ e. omega (arith, e, some, sum)) in
    ap (λ b. cond {A = Answer Outcome} b (few_structures made (front ++ (back ++ rest)) >>= λ all. Ok (done all.0, all.1)) (read_more made (front ++ (back ++ rest)))) full
    ∙ (reads_goes_on made).complete front (back ++ rest) (again t) (on h) stop
  where
    on : Caps_step made front (again t) → Goes_on made front (again t)
    on (inl h) = absurd (let bad = h.2 in cc)
    on (inr p) = p

caps_ends : (made : Made) (front rest : List ℕ) (v : List (Description Value)) → Caps_step made front (done v) → Stops all_bytes rest → caps_step made (front ++ rest) ≡ Ok (done v, rest)
unfolding caps_step
caps_ends made front rest v (inl h) stop =
    let nil = at_end rest stop in
    let all : front ++ rest ≡ [] = ap (λ l. l ++ rest) h.0 ∙ nil in
    ap (λ l. cond {A = Answer Outcome} (eqb (length l) 0) (few_structures made l >>= λ all. Ok (done all.0, all.1)) (read_more made l)) all
    ∙ ap (λ b. cond {A = Answer (List (Description Value))} b (Err many) (Ok (made.0 ++ made.1 ∷ [], [])) >>= λ all. Ok (done all.0, all.1)) (le-ltb 63 (length made.0) h.1)
    ∙ (λ i. Ok (sym h.2 i, sym nil i))
caps_ends made front rest v (inr (inl h)) stop = absurd (let bad = h.2 in cc)
caps_ends made front rest v (inr (inr h)) stop = absurd (let bad = h.3 in cc)

pub caps_is_step : IsStep Caps_step all_bytes caps_step
caps_is_step = record {
  sound = λ s x rest n h. caps_sound s x rest n h;
  passes = λ s t text h. some_bytes (in_class Word) text (step_starts s t text h);
  goes_on = λ s t front back rest v h later stop. caps_goes_on s t front back rest h (caps_stop t back rest v later stop);
  ends = λ s front rest v h stop. caps_ends s front rest v h stop;
}

pub reads_structures : IsReader Structures all_bytes read_structures
unfolding read_structures
reads_structures = reads_then Head (λ s. Repeated Caps_step ([], s)) (in_class Media) all_bytes read_head (λ s x. repeat caps_step ([], s) x) reads_head (λ s. reads_repeat Caps_step all_bytes caps_step caps_is_step ([], s))
    (λ s back w rest q stop. stops_media (back ++ rest) (caps_stop ([], s) back rest w q stop))
