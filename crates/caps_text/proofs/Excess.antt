-- Where there are too many of a kind, this is told.
use Rattle.std.proofs.Common.{◌≡◌, ℕ, ◌<◌, ◌≤◌, Bool, true, false, cond, eqb, List, [], ◌∷◌, ◌++◌, length, Option, Some, None, Ok, Err, inl, inr, refl, sym, ap, ◌∙◌, subst, arith, append_assoc, length-append, codes}
use Rattle.std.specs.Prelude.{is_some}
use Rattle.std.proofs.lemmas.Bool.{ne_eqb, lt-ltb}
use Rattle.gst_caps.specs.Accepts.{value_at}
use Rattle.gst_caps.specs.Common.{as_value}
use Rattle.gst_value.specs.Description.{Description}
use Rattle.gst_value.specs.declared.one.One.{One}
use Rattle.gst_caps.specs.declared.value.Value.{Value}
use Rattle.caps_text.specs.Answers.{Answer, misspelt, many, ◌>>=◌}
use Rattle.caps_text.specs.Bytes.{in_class}
use Rattle.caps_text.specs.Grammar.{Then, Is, Spaces, Mark, Member, Type_word, Field_name, List_step_to, Field_to, Caps_step, Caps_step_to, is_space}
use Rattle.caps_text.specs.Kinds.{kind_of}
use Rattle.caps_text.specs.Limits.{Passed, here, past, Open_list, Open_value, Excess_field, Excess_part, Ends_word, HasExcess}
use Rattle.caps_text.specs.Reading.{Made, again, done, after_byte, behind_spaces, begins, caps_step, few_fields, few_structures, list_step, more_from, read_field, read_head, read_kind, read_list, read_mark, read_member, read_members, read_more, read_name, read_structures, read_value, read_value_from, read_whole_value, repeat, with_field}
use Rattle.caps_text.specs.declared.class.Class.TheVariants.{Name, Word}
use Rattle.caps_text.specs.declared.kind.Kind.{Kind}
use Rattle.caps_text.proofs.Choices.{is_byte, lacks_byte, starts_apart}
use Rattle.caps_text.proofs.Ended.{ended}
use Rattle.caps_text.proofs.Listed.{from_typed, type_begins, value_split}
use Rattle.caps_text.proofs.LocalReaders.{finishing, starting}
use Rattle.caps_text.proofs.Loops.{list_again, list_few, list_refused}
use Rattle.caps_text.proofs.Loose.{IsLoose, Or_many, of_reader}
use Rattle.caps_text.proofs.LooseListed.{loose_step, step_stops}
use Rattle.caps_text.proofs.LooseWhole.{caps_goes_on, loose_field, naming, setting, step_starts}
use Rattle.caps_text.proofs.Readers.{Stops, Starts, nothing, ok_is, starts_stop, starts_more, stops_nothing}
use Rattle.caps_text.proofs.Repeats.{repeat_again, repeat_refused}
use Rattle.caps_text.proofs.Strings.{reads_kind}
use Rattle.caps_text.proofs.Values.{member_opens, reads_member, space_opens}
use Rattle.caps_text.proofs.Whole.{Outcome, all_bytes, caps_is_step, name_starts, none_lacks, reads_field, reads_head, some_bytes, split_mark, stops_media, value_ended}
use Rattle.caps_text.proofs.Words.{passes, reads_byte, reads_mark, reads_name, reads_spaces, skipping, starts_mark, starts_spaces}

-- a text with too many
abbrev pub IsOver : {V W : Type 0} → (List ℕ → W → Type 0) → (ℕ → Bool) → (List ℕ → Answer V) → Type 0
IsOver {V} {W} O test r = (used rest : List ℕ) (w : W) → O used w → Stops test rest → r (used ++ rest) ≡ Err many

pub over_bind : {V W : Type 0} (a : Answer V) (f : V × List ℕ → Answer W) (p : V × List ℕ) → Or_many a (Ok p) → f p ≡ Err many → (a >>= f) ≡ Err many
over_bind a f p (inl e) h = ap (λ a. a >>= f) e ∙ h
over_bind a f p (inr e) h = ap (λ a. a >>= f) e

-- one part, and then too many
pub over_then : {V W X : Type 0} (P : List ℕ → V → Type 0) (O : V → List ℕ → X → Type 0) (f g : ℕ → Bool) (r : List ℕ → Answer V) (s : V → List ℕ → Answer W) → IsLoose P f r → ((v : V) → IsOver (O v) g (s v)) → ((v : V) (back : List ℕ) (w : X) (rest : List ℕ) → O v back w → Stops g rest → Stops f (back ++ rest)) → IsOver (Then P O) g (λ x. r x >>= λ a. s a.0 a.1)
over_then P O f g r s first second apart used rest w h stop =
    let split : used ++ rest ≡ h.0 ++ (h.1 ++ rest) = ap (λ l. l ++ rest) h.3 ∙ append_assoc h.0 h.1 rest in
    ap (λ l. r l >>= λ a. s a.0 a.1) split ∙ over_bind (r (h.0 ++ (h.1 ++ rest))) (λ a. s a.0 a.1) (h.2, h.1 ++ rest) (first h.0 (h.1 ++ rest) h.2 h.4 (apart h.2 h.1 w rest h.5 stop)) (second h.2 h.1 rest w h.5 stop)

-- too many, and then nothing
pub over_first : {V W X : Type 0} (O : List ℕ → X → Type 0) (g : ℕ → Bool) (r : List ℕ → Answer V) (k : V × List ℕ → Answer W) → IsOver O g r → IsOver O g (λ x. r x >>= k)
over_first O g r k first used rest w h stop = ap (λ a. a >>= k) (first used rest w h stop)

-- members of a list
passed_stop : (kind : Kind) (start members : List One) (text rest : List ℕ) → Passed (List_step_to None kind) start text members → Stops (in_class Word) rest → Stops (in_class Word) (text ++ rest)
passed_stop kind _ _ _ rest (here s) stop = stop
passed_stop kind _ _ _ rest (past s t u front back text e d later) stop = subst (λ l. Stops (in_class Word) (l ++ rest)) (sym e) (starts_stop (in_class Word) (front ++ back) rest (starts_more (in_class Word) front back (step_stops kind s front (again t) d)))

members_over : (kind : Kind) (start members : List One) (text rest : List ℕ) → Passed (List_step_to None kind) start text members → length start ≤ 64 → 64 < length members → Stops (in_class Word) rest → repeat (list_step kind) start (text ++ rest) ≡ Err many
members_over kind _ _ _ rest (here s) few more stop = absurd (omega (arith, few, more))
members_over kind _ _ _ rest (past s t u front back text e d later) few more stop =
    let split : text ++ rest ≡ front ++ (back ++ rest) = ap (λ l. l ++ rest) e ∙ append_assoc front back rest in
    ap (repeat (list_step kind) s) split ∙ go (loose_step kind s front (back ++ rest) (again t) d (passed_stop kind t u back rest later stop)) (λ l. members_over kind t u back rest later l more stop)
  where
    go : Or_many (list_step kind s (front ++ (back ++ rest))) (Ok (again t, back ++ rest)) → (length t ≤ 64 → repeat (list_step kind) t (back ++ rest) ≡ Err many) → repeat (list_step kind) s (front ++ (back ++ rest)) ≡ Err many
    go (inl k) ih = list_again kind s t (front ++ (back ++ rest)) (back ++ rest) k ∙ ih (list_few kind s t (front ++ (back ++ rest)) (back ++ rest) k)
    go (inr k) ih = list_refused kind s (front ++ (back ++ rest)) many k

abbrev pub Too_long : (List ℕ → List One → Type 0) → List ℕ → List One → Type 0
Too_long P text members = P text members × (64 < length members)

abbrev Open_tail : Option Kind → List ℕ → List One → Type 0
Open_tail kind = Then Spaces (λ s. Then (Member kind) (λ first text members. Passed (List_step_to None (kind_of first)) (first ∷ []) text members × (64 < length members)))

over_members : (first : One) → IsOver (λ text members. Passed (List_step_to None (kind_of first)) (first ∷ []) text members × (64 < length members)) (in_class Word) (read_members first)
unfolding read_members
over_members first used rest members h stop = members_over (kind_of first) (first ∷ []) members used rest h.0 (omega arith) h.1 stop

over_list : (kind : Option Kind) → IsOver (Open_tail kind) (in_class Word) (read_list kind)
unfolding read_list
over_list kind = over_then Spaces (λ s. Then (Member kind) (λ first text members. Passed (List_step_to None (kind_of first)) (first ∷ []) text members × (64 < length members))) is_space (in_class Word) skipping (λ s x. read_member kind x >>= λ first. read_members first.0 first.1 >>= λ all. Ok (as_value all.0, all.1)) (of_reader Spaces is_space skipping reads_spaces)
    (λ s. over_then (Member kind) (λ first text members. Passed (List_step_to None (kind_of first)) (first ∷ []) text members × (64 < length members)) (in_class Word) (in_class Word) (read_member kind) (λ first x. read_members first x >>= λ all. Ok (as_value all.0, all.1)) (of_reader (Member kind) (in_class Word) (read_member kind) (reads_member kind))
    (λ first. over_first (λ text members. Passed (List_step_to None (kind_of first)) (first ∷ []) text members × (64 < length members)) (in_class Word) (read_members first) (λ all. Ok (as_value all.0, all.1)) (over_members first))
    (λ first back members rest q stop. passed_stop (kind_of first) (first ∷ []) members back rest q.0 stop))
    (λ s back members rest q stop. starts_stop is_space back rest (subst (Starts is_space) (sym q.3) (starts_more is_space q.0 q.1 (member_opens is_space kind q.0 q.2 space_opens refl q.4))))

-- a value
open_begins : (test : ℕ → Bool) (kind : Option Kind) (text : List ℕ) (members : List One) → test 123 ≡ false → Open_list kind text members → Starts test text
open_begins test kind text members e h = subst (Starts test) (sym (h.3 ∙ ap (λ l. l ++ h.1) h.4)) e

over_plain : (kind : Option Kind) → IsOver (Too_long (Open_list kind)) (in_class Word) (λ x. read_value_from kind x (after_byte 123 x))
over_plain kind used rest members h stop =
    let p = h.0 in
    let is : used ++ rest ≡ 123 ∷ (p.1 ++ rest) = ap (λ l. l ++ rest) (p.3 ∙ ap (λ l. l ++ p.1) p.4) in
    let s = p.5 in
    let f = s.5 in
    ap (λ l. read_value_from kind l (after_byte 123 l)) is
    ∙ ap (read_value_from kind (123 ∷ (p.1 ++ rest))) (passes 123 (p.1 ++ rest))
    ∙ over_list kind p.1 rest members (s.0, s.1, s.2, s.3, s.4, (f.0, f.1, f.2, f.3, f.4, (f.5, h.1))) stop

abbrev Open_typed : List ℕ → List One → Type 0
Open_typed = Then Type_word (λ kind. Then Spaces (λ s. Too_long (Open_list (Some kind))))

over_typed : IsOver Open_typed (in_class Word) from_typed
over_typed = over_then Type_word (λ kind. Then Spaces (λ s. Too_long (Open_list (Some kind)))) nothing (in_class Word) read_kind (λ kind x. read_value_from (Some kind) (behind_spaces x) (after_byte 123 (behind_spaces x))) (of_reader Type_word nothing read_kind reads_kind)
    (λ kind. over_then Spaces (λ s. Too_long (Open_list (Some kind))) is_space (in_class Word) skipping (λ s x. read_value_from (Some kind) x (after_byte 123 x)) (of_reader Spaces is_space skipping reads_spaces) (λ s. over_plain (Some kind))
    (λ s back members rest q stop. starts_stop is_space back rest (open_begins is_space (Some kind) back members refl q.0)))
    (λ kind back members rest q stop. stops_nothing (back ++ rest))

over_value : IsOver (Too_long Open_value) (in_class Word) read_value
over_value used rest members (inl h, more) stop =
    let b = type_begins h.0 h.2 h.4 in
    let is : used ++ rest ≡ 40 ∷ ((b.0 ++ h.1) ++ rest) = ap (λ l. l ++ rest) (h.3 ∙ ap (λ l. l ++ h.1) b.1) in
    let yes : begins 40 (used ++ rest) ≡ true = ap (begins 40) is ∙ ap is_some (passes 40 ((b.0 ++ h.1) ++ rest)) in
    let s = h.5 in
    value_split (used ++ rest)
    ∙ ap (λ t. cond t (from_typed (used ++ rest)) (read_value_from None (used ++ rest) (after_byte 123 (used ++ rest)))) yes
    ∙ over_typed used rest members (h.0, h.1, h.2, h.3, h.4, (s.0, s.1, s.2, s.3, s.4, (s.5, more))) stop
over_value used rest members (inr h, more) stop =
    let no : begins 40 (used ++ rest) ≡ false = ap is_some (lacks_byte 40 (used ++ rest) (starts_apart (is_byte 40) used rest (open_begins (is_byte 40) None used members refl h))) in
    value_split (used ++ rest)
    ∙ ap (λ t. cond t (from_typed (used ++ rest)) (read_value_from None (used ++ rest) (after_byte 123 (used ++ rest)))) no
    ∙ over_plain None used rest members (h, more) stop

over_whole_value : IsOver (Too_long Open_value) (in_class Word) read_whole_value
over_whole_value used rest members h stop = value_ended (used ++ rest) ∙ ap (λ a. a >>= λ a. ended a.0 a.1) (over_value used rest members h stop)

value_begins : (text : List ℕ) (members : List One) → Open_value text members → Starts is_space text
value_begins text members (inl h) = let b = type_begins h.0 h.2 h.4 in subst (Starts is_space) (sym (h.3 ∙ ap (λ l. l ++ h.1) b.1)) refl
value_begins text members (inr h) = open_begins is_space None text members refl h

-- a field
abbrev Open_setting : List ℕ → List One → Type 0
Open_setting = Then (Mark 61) (λ m. Too_long Open_value)

over_setting : (s : Description Value) (name : List ℕ) → IsOver Open_setting (in_class Word) (setting s name)
over_setting s name = over_then (Mark 61) (λ m. Too_long Open_value) is_space (in_class Word) (read_mark 61) (λ m x. read_whole_value x >>= λ v. few_fields (with_field s name v.0) v.1) (of_reader (Mark 61) is_space (read_mark 61) (reads_mark 61 refl))
    (λ m. over_first (Too_long Open_value) (in_class Word) read_whole_value (λ v. few_fields (with_field s name v.0) v.1) over_whole_value)
    (λ m back members rest q stop. starts_stop is_space back rest (value_begins back members q.0))

abbrev Open_rest : Description Value → List ℕ → List ℕ → List One → Type 0
Open_rest s name text members = (value_at name s.fields ≡ None) × Open_setting text members

over_naming : (s : Description Value) (name : List ℕ) → IsOver (Open_rest s name) (in_class Word) (naming s name)
over_naming s name used rest members h stop =
    ap (λ t. cond {A = Answer (Description Value)} t (Err (misspelt (used ++ rest))) (setting s name (used ++ rest))) (none_lacks (value_at name s.fields) h.0)
    ∙ over_setting s name used rest members h.1 stop

over_open : (s : Description Value) → IsOver (Then Field_name (Open_rest s)) (in_class Word) (read_field s)
unfolding read_field
over_open s = over_then Field_name (Open_rest s) (in_class Name) (in_class Word) read_name (naming s) (of_reader Field_name (in_class Name) read_name reads_name) (over_naming s)
    (λ name back members rest q stop. starts_stop (in_class Name) back rest (starts_mark (in_class Name) 61 (λ m. Too_long Open_value) back members refl refl q.1))

over_whole : (s : Description Value) → IsOver (λ text t. Field_to None s text t × (64 < length t.fields)) (in_class Word) (read_field s)
over_whole s used rest t h stop = step (loose_field s used rest t h.0 stop)
  where
    step : Or_many (read_field s (used ++ rest)) (Ok (t, rest)) → read_field s (used ++ rest) ≡ Err many
    step (inl k) = let f = (reads_field s).sound (used ++ rest) rest t k in let few : length t.fields ≤ 64 = f.2.5.2 in absurd (omega (arith, few, h.1))
    step (inr k) = k

over_field : (s : Description Value) → IsOver (Excess_field s) (in_class Word) (read_field s)
over_field s used rest u (inl h) stop =
    let n = h.1 in
    let v = n.5 in
    let m = v.1 in
    over_open s used rest h.0 (n.0, n.1, n.2, n.3, n.4, (v.0, (m.0, m.1, m.2, m.3, m.4, (m.5, h.2)))) stop
over_field s used rest u (inr h) stop = over_whole s used rest h.0 (h.1, h.2) stop

field_begins : (s : Description Value) (text : List ℕ) (u : Unit {0}) → Excess_field s text u → Starts is_space text
field_begins s text u (inl h) = let n = h.1 in subst (Starts is_space) (sym n.3) (starts_more is_space n.0 n.1 (name_starts n.0 n.2 n.4))
field_begins s text u (inr h) = let n = h.1 in subst (Starts is_space) (sym n.3) (starts_more is_space n.0 n.1 (name_starts n.0 n.2 n.4))

-- structures
full_step : (made : Made) (x : List ℕ) → 0 < length x → read_more made x ≡ Err many → caps_step made x ≡ Err many
unfolding caps_step
full_step made x some h = ap (λ t. cond {A = Answer Outcome} t (few_structures made x >>= λ all. Ok (done all.0, all.1)) (read_more made x)) (ne_eqb (length x) 0 (λ e. omega (arith, e, some))) ∙ h

more_over : (made : Made) (back rest : List ℕ) → Then (Mark 44) (λ m. Excess_field made.1) back tt → Stops (in_class Word) rest → read_more made (back ++ rest) ≡ Err many
unfolding read_more
more_over made back rest h stop =
    let mark = h.4 in
    let inner : List ℕ = mark.5.1 in
    let is : back ++ rest ≡ mark.0 ++ (44 ∷ (inner ++ (h.1 ++ rest))) = ap (λ l. l ++ rest) (split_mark 44 h.0 h.1 back mark h.3) ∙ append_assoc mark.0 (44 ∷ (inner ++ h.1)) rest ∙ ap (λ l. mark.0 ++ (44 ∷ l)) (append_assoc inner h.1 rest) in
    let gone : behind_spaces (back ++ rest) ≡ 44 ∷ (inner ++ (h.1 ++ rest)) = ap behind_spaces is ∙ ap (λ p. p.1) (ok_is (tt, behind_spaces (mark.0 ++ (44 ∷ (inner ++ (h.1 ++ rest))))) (tt, 44 ∷ (inner ++ (h.1 ++ rest))) (reads_spaces.complete mark.0 (44 ∷ (inner ++ (h.1 ++ rest))) tt mark.4 refl)) in
    let spaces : behind_spaces (inner ++ (h.1 ++ rest)) ≡ h.1 ++ rest = ap (λ p. p.1) (ok_is (tt, behind_spaces (inner ++ (h.1 ++ rest))) (tt, h.1 ++ rest) (reads_spaces.complete inner (h.1 ++ rest) tt mark.5.5 (starts_stop is_space h.1 rest (field_begins made.1 h.1 tt h.5)))) in
    ap (λ l. more_from made l (after_byte 44 l)) gone
    ∙ ap (more_from made (44 ∷ (inner ++ (h.1 ++ rest)))) (passes 44 (inner ++ (h.1 ++ rest)))
    ∙ ap (λ l. read_field made.1 l >>= λ s. Ok (again (made.0, s.0), s.1)) spaces
    ∙ ap (λ a. a >>= λ s. Ok (again (made.0, s.0), s.1)) (over_field made.1 h.1 rest tt h.5 stop)

full : (made : Made) (x : List ℕ) → 63 < length made.0 → few_structures made x ≡ Err many
full made x h = ap (λ t. cond {A = Answer (List (Description Value))} t (Err many) (Ok (made.0 ++ made.1 ∷ [], x))) (lt-ltb 63 (length made.0) h)

ends_over : (made : Made) (back rest : List ℕ) → 63 < length made.0 → Then Spaces (λ s. Is (codes ";")) back tt → read_more made (back ++ rest) ≡ Err many
unfolding read_more
ends_over made back rest full_is h =
    let is : back ++ rest ≡ h.0 ++ (59 ∷ rest) = ap (λ l. l ++ rest) (h.3 ∙ ap (λ l. h.0 ++ l) h.5) ∙ append_assoc h.0 (codes ";") rest in
    let gone : behind_spaces (back ++ rest) ≡ 59 ∷ rest = ap behind_spaces is ∙ ap (λ p. p.1) (ok_is (tt, behind_spaces (h.0 ++ (59 ∷ rest))) (tt, 59 ∷ rest) (reads_spaces.complete h.0 (59 ∷ rest) tt h.4 refl)) in
    ap (λ l. more_from made l (after_byte 44 l)) gone
    ∙ ap (more_from made (59 ∷ rest)) (lacks_byte 44 (59 ∷ rest) refl)
    ∙ ap (λ a. a >>= λ m. finishing made m.1) ((reads_byte 59).complete (59 ∷ []) rest tt refl (stops_nothing rest))
    ∙ ap (λ a. a >>= λ all. starting all.0 (behind_spaces all.1)) (full made rest full_is)

word_ends : (rest : List ℕ) → Ends_word rest → Stops (in_class Word) rest
word_ends [] h = tt
word_ends (b ∷ bs) h = h

last_over : (made : Made) (back rest : List ℕ) → Excess_part made back rest → caps_step made (back ++ rest) ≡ Err many
unfolding caps_step
last_over made back rest (inl (h, stop)) =
    let some = some_bytes nothing (back ++ rest) (starts_more nothing back rest (starts_mark nothing 44 (λ m. Excess_field made.1) back tt refl refl h)) in
    full_step made (back ++ rest) some (more_over made back rest h (word_ends rest stop))
last_over made back rest (inr (more, inl h)) =
    let size = length-append back rest in
    let parts = ap length h.3 ∙ length-append h.0 h.1 in
    let mark = ap length h.5 in
    full_step made (back ++ rest) (omega (arith, size, parts, mark)) (ends_over made back rest (omega (arith, more)) h)
last_over made back rest (inr (more, inr h)) =
    let nil : back ++ rest ≡ [] = λ i. h.0 i ++ h.1 i in
    ap (λ l. cond {A = Answer Outcome} (eqb (length l) 0) (few_structures made l >>= λ all. Ok (done all.0, all.1)) (read_more made l)) nil
    ∙ ap (λ a. a >>= λ all. Ok (done all.0, all.1)) (full made [] (omega (arith, more)))

last_stops : (made : Made) (back rest : List ℕ) → Excess_part made back rest → Stops (in_class Word) (back ++ rest)
last_stops made back rest (inl (h, stop)) = starts_stop (in_class Word) back rest (starts_mark (in_class Word) 44 (λ m. Excess_field made.1) back tt refl refl h)
last_stops made back rest (inr (more, inl h)) = starts_stop (in_class Word) back rest (subst (Starts (in_class Word)) (sym h.3) (starts_spaces (in_class Word) h.0 h.1 h.4 refl (subst (Starts (in_class Word)) (sym h.5) refl)))
last_stops made back rest (inr (more, inr h)) = let nil : back ++ rest ≡ [] = λ i. h.0 i ++ h.1 i in subst (Stops (in_class Word)) (sym nil) tt

caps_passed_stop : (start made : Made) (text behind : List ℕ) → Passed (Caps_step_to None) start text made → Stops (in_class Word) behind → Stops (in_class Word) (text ++ behind)
caps_passed_stop _ _ _ behind (here s) stop = stop
caps_passed_stop _ _ _ behind (past s t u front back text e d later) stop = subst (λ l. Stops (in_class Word) (l ++ behind)) (sym e) (starts_stop (in_class Word) (front ++ back) behind (starts_more (in_class Word) front back (step_starts s t front d)))

caps_over : (start made : Made) (text behind : List ℕ) → Passed (Caps_step_to None) start text made → Stops (in_class Word) behind → caps_step made behind ≡ Err many → repeat caps_step start (text ++ behind) ≡ Err many
caps_over _ _ _ behind (here s) stop h = repeat_refused caps_step s behind many h
caps_over _ _ _ behind (past s t u front back text e d later) stop h =
    let split : text ++ behind ≡ front ++ (back ++ behind) = ap (λ l. l ++ behind) e ∙ append_assoc front back behind in
    ap (repeat caps_step s) split ∙ go (caps_goes_on s t front back behind d (caps_passed_stop t u back behind later stop)) (caps_over t u back behind later stop h)
  where
    go : Or_many (caps_step s (front ++ (back ++ behind))) (Ok (again t, back ++ behind)) → repeat caps_step t (back ++ behind) ≡ Err many → repeat caps_step s (front ++ (back ++ behind)) ≡ Err many
    go (inl k) ih = repeat_again Caps_step all_bytes caps_step caps_is_step s t (front ++ (back ++ behind)) (back ++ behind) k ∙ ih
    go (inr k) ih = repeat_refused caps_step s (front ++ (back ++ behind)) many k

pub excess_told : (text : List ℕ) → HasExcess text → read_structures text ≡ Err many
unfolding read_structures
excess_told text (front, rest, e, h) =
    let p = h.4 in
    let behind = last_stops h.2 h.1 rest h.5 in
    let is : text ≡ p.0 ++ (p.1 ++ (h.1 ++ rest)) = e ∙ ap (λ l. l ++ rest) h.3 ∙ append_assoc h.0 h.1 rest ∙ ap (λ l. l ++ (h.1 ++ rest)) p.3 ∙ append_assoc p.0 p.1 (h.1 ++ rest) in
    ap (λ l. read_head l >>= λ s. repeat caps_step ([], s.0) s.1) is
    ∙ ap (λ a. a >>= λ s. repeat caps_step ([], s.0) s.1) (reads_head.complete p.0 (p.1 ++ (h.1 ++ rest)) p.2 p.4 (stops_media (p.1 ++ (h.1 ++ rest)) (caps_passed_stop ([], p.2) h.2 p.1 (h.1 ++ rest) p.5 behind)))
    ∙ caps_over ([], p.2) h.2 p.1 (h.1 ++ rest) p.5 behind (last_over h.2 h.1 rest h.5)
