-- Lists and values of the grammar without limits are read, or there are too many members.
use Rattle.std.proofs.Common.{◌≡◌, ℕ, ◌<◌, Bool, false, cond, List, [], ◌∷◌, ◌++◌, length, Option, Some, None, Ok, inl, inr, ◌⊎◌, refl, sym, ap, ◌∙◌, subst, arith, append_assoc}
use Rattle.gst_caps.specs.Common.{as_value}
use Rattle.gst_value.specs.declared.one.One.{One}
use Rattle.gst_caps.specs.declared.value.Value.{Value}
use Rattle.gst_caps.specs.declared.value.Value.TheVariants.{One as Single}
use Rattle.caps_text.specs.Answers.{◌>>=◌}
use Rattle.caps_text.specs.Bytes.{in_class}
use Rattle.caps_text.specs.Grammar.{Then, As, Is, Spaces, Member, List_step_to, Plain_value_to, Type_word, Field_value_to, Repeated, last, more, is_space}
use Rattle.caps_text.specs.Kinds.{kind_of}
use Rattle.caps_text.specs.Reading.{Next, again, done, after_byte, behind_spaces, begins, expect, kept_member, list_step, list_step_from, read_kind, read_list, read_member, read_members, read_value, read_value_from, read_whole_member, within_limit}
use Rattle.caps_text.specs.declared.class.Class.TheVariants.{Word}
use Rattle.caps_text.specs.declared.kind.Kind.{Kind}
use Rattle.caps_text.proofs.Choices.{Behind, is_byte}
use Rattle.caps_text.proofs.Ended.{reads_whole_member}
use Rattle.caps_text.proofs.Listed.{Only, from_typed, list_ends, over_limit, reads_only, step_to, type_begins, value_split}
use Rattle.caps_text.proofs.Loose.{IsLoose, IsLooseStep, loose_as, loose_begun, loose_choice, loose_if, loose_repeat, loose_same, loose_then, loose_within, of_reader}
use Rattle.caps_text.proofs.Readers.{Stops, Starts, nothing, reads_any, stops_nothing, starts_stop, starts_more}
use Rattle.caps_text.proofs.Strings.{reads_kind}
use Rattle.caps_text.proofs.Values.{Opens_none, byte_opens, member_opens, reads_member, space_opens}
use Rattle.caps_text.proofs.Words.{reads_byte, reads_spaces, skipping, starts_is, starts_mark, starts_spaces}

-- a member more
abbrev pub More_members : Kind → List One → List ℕ → Next (List One) (List One) → Type 0
More_members kind members = Then (Is (44 ∷ [])) (λ m. Then Spaces (λ s. As (step_to members) (Member (Some kind))))

abbrev pub In_any_step : Kind → List One → List ℕ → Next (List One) (List One) → Type 0
In_any_step kind members text n = Behind 125 (Only (done members)) text n ⊎ More_members kind members text n

loose_more : (kind : Kind) (members : List One) → IsLoose (More_members kind members) (in_class Word) (λ x. expect 44 x >>= λ m. read_whole_member (Some kind) (behind_spaces m.1) >>= λ one. within_limit (kept_member members one.0) one.1)
loose_more kind members = loose_then (Is (44 ∷ [])) (λ m. Then Spaces (λ s. As (step_to members) (Member (Some kind)))) nothing (in_class Word) (expect 44) (λ m x. read_whole_member (Some kind) (behind_spaces x) >>= λ one. within_limit (kept_member members one.0) one.1) (of_reader (Is (44 ∷ [])) nothing (expect 44) (reads_byte 44))
    (λ m. loose_then Spaces (λ s. As (step_to members) (Member (Some kind))) is_space (in_class Word) skipping (λ s x. read_whole_member (Some kind) x >>= λ one. within_limit (kept_member members one.0) one.1) (of_reader Spaces is_space skipping reads_spaces)
    (λ s. loose_within (over_limit members) (step_to members) (Member (Some kind)) (in_class Word) (read_whole_member (Some kind)) (of_reader (Member (Some kind)) (in_class Word) (read_whole_member (Some kind)) (reads_whole_member (Some kind))))
    (λ s back w rest q stop. starts_stop is_space back rest (member_opens is_space (Some kind) back q.0 space_opens refl q.1)))
    (λ m back w rest q stop. stops_nothing (back ++ rest))

loose_in_step : (kind : Kind) (members : List One) → IsLoose (In_any_step kind members) (in_class Word) (λ x. list_step_from kind members x (after_byte 125 x))
loose_in_step kind members = loose_choice 125 (Only (done members)) (More_members kind members) (in_class Word) (λ x. Ok (done members, x)) (λ x. expect 44 x >>= λ m. read_whole_member (Some kind) (behind_spaces m.1) >>= λ one. within_limit (kept_member members one.0) one.1) (list_step_from kind members)
    (of_reader (Only (done members)) (in_class Word) (λ x. Ok (done members, x)) (reads_any (Only (done members)) (in_class Word) (λ x. Ok (done members, x)) (reads_only (done members)))) (loose_more kind members)
    (λ used v q. starts_is (is_byte 125) 44 [] (λ m. Then Spaces (λ s. As (step_to members) (Member (Some kind)))) used v refl q) (λ x y. refl) (λ x. refl)

in_step_starts : (kind : Kind) (members : List One) (text : List ℕ) (n : Next (List One) (List One)) → In_any_step kind members text n → Starts is_space text
in_step_starts kind members text n (inl h) = subst (Starts is_space) (sym h.1) refl
in_step_starts kind members text n (inr h) = starts_is is_space 44 [] (λ m. Then Spaces (λ s. As (step_to members) (Member (Some kind)))) text n refl h

words_step : (kind : Kind) (members : List One) (text : List ℕ) (n : Next (List One) (List One)) → List_step_to None kind members text n → Then Spaces (λ s. In_any_step kind members) text n
words_step kind members text n (inl h) = let s = h.0 in (s.0, s.1, tt, s.3, s.4, inl ([], s.5, (refl, h.1)))
words_step kind members text n (inr h) =
    let t = h.1 in
    let mark = t.4 in
    let inner = mark.5 in
    let split : text ≡ mark.0 ++ (44 ∷ (inner.1 ++ t.1)) = t.3 ∙ ap (λ l. l ++ t.1) (mark.3 ∙ ap (λ l. mark.0 ++ l) (inner.3 ∙ ap (λ l. l ++ inner.1) inner.4)) ∙ append_assoc mark.0 (44 ∷ inner.1) t.1 in
    (mark.0, 44 ∷ (inner.1 ++ t.1), tt, split, mark.4, inr (44 ∷ [], inner.1 ++ t.1, tt, refl, refl, (inner.1, t.1, tt, refl, inner.5, (h.0, t.5, h.3))))

pub loose_step : (kind : Kind) (members : List One) → IsLoose (List_step_to None kind members) (in_class Word) (list_step kind members)
unfolding list_step
loose_step kind members = loose_if (Then Spaces (λ s. In_any_step kind members)) (List_step_to None kind members) (in_class Word) (list_step kind members) (words_step kind members)
    (loose_then Spaces (λ s. In_any_step kind members) is_space (in_class Word) skipping (λ s x. list_step_from kind members x (after_byte 125 x)) (of_reader Spaces is_space skipping reads_spaces) (λ s. loose_in_step kind members)
    (λ s back w rest q stop. starts_stop is_space back rest (in_step_starts kind members back w q)))

-- what follows a member in a list does not go on with its word
pub step_stops : (kind : Kind) (members : List One) (text : List ℕ) (n : Next (List One) (List One)) → List_step_to None kind members text n → Starts (in_class Word) text
step_stops kind members text n (inl h) = let s = h.0 in subst (Starts (in_class Word)) (sym s.3) (starts_spaces (in_class Word) s.0 s.1 s.4 refl (subst (Starts (in_class Word)) (sym s.5) refl))
step_stops kind members text n (inr h) = starts_mark (in_class Word) 44 (λ m. Member (Some kind)) text h.0 refl refl h.1

rest_stops : (kind : Kind) (members : List One) (text rest : List ℕ) (v : List One) → Repeated (List_step_to None kind) members text v → Stops (in_class Word) (text ++ rest)
rest_stops kind _ _ rest _ (last s text v d) = starts_stop (in_class Word) text rest (step_stops kind s text (done v) d)
rest_stops kind _ _ rest _ (more s t front back text v e d later) = subst (λ l. Stops (in_class Word) (l ++ rest)) (sym e) (starts_stop (in_class Word) (front ++ back) rest (starts_more (in_class Word) front back (step_stops kind s front (again t) d)))

some_step : (kind : Kind) (members : List One) (text : List ℕ) (n : Next (List One) (List One)) → List_step_to None kind members text n → 0 < length text
some_step kind members text n h = some text (step_stops kind members text n h)
  where
    some : (l : List ℕ) → Starts (in_class Word) l → 0 < length l
    some [] s = absurd s
    some (b ∷ bs) s = omega arith

step_ends : (kind : Kind) (members : List One) (front rest : List ℕ) (v : List One) → List_step_to None kind members front (done v) → list_step kind members (front ++ rest) ≡ Ok (done v, rest)
step_ends kind members front rest v (inl h) = list_ends kind members front rest v (inl h)
step_ends kind members front rest v (inr h) = absurd (let bad = h.3 in cc)

list_is_loose : (kind : Kind) → IsLooseStep (List_step_to None kind) nothing (list_step kind)
list_is_loose kind = record {
  passes = λ s t text h. some_step kind s text (again t) h;
  goes_on = λ s t front back rest v h later stop. loose_step kind s front (back ++ rest) (again t) h (rest_stops kind t back rest v later);
  ends = λ s front rest v h stop. inl (step_ends kind s front rest v h);
}

loose_members : (first : One) → IsLoose (Repeated (List_step_to None (kind_of first)) (first ∷ [])) nothing (read_members first)
unfolding read_members
loose_members first = loose_repeat (List_step_to None (kind_of first)) nothing (list_step (kind_of first)) (list_is_loose (kind_of first)) (first ∷ [])

-- a list behind its opening bracket
abbrev pub Any_members : Option Kind → List ℕ → Value → Type 0
Any_members kind = Then (Member kind) (λ first. As as_value (Repeated (List_step_to None (kind_of first)) (first ∷ [])))

abbrev pub Any_tail : Option Kind → List ℕ → Value → Type 0
Any_tail kind = Then Spaces (λ s. Any_members kind)

loose_first : (kind : Option Kind) → IsLoose (Any_members kind) nothing (λ x. read_member kind x >>= λ first. read_members first.0 first.1 >>= λ all. Ok (as_value all.0, all.1))
loose_first kind = loose_then (Member kind) (λ first. As as_value (Repeated (List_step_to None (kind_of first)) (first ∷ []))) (in_class Word) nothing (read_member kind) (λ first x. read_members first x >>= λ all. Ok (as_value all.0, all.1)) (of_reader (Member kind) (in_class Word) (read_member kind) (reads_member kind))
    (λ first. loose_as as_value (Repeated (List_step_to None (kind_of first)) (first ∷ [])) nothing (read_members first) (loose_members first))
    (λ first back w rest q stop. rest_stops (kind_of first) (first ∷ []) back rest q.0 q.1)

first_starts : (kind : Option Kind) (text : List ℕ) (v : Value) → Any_members kind text v → Starts is_space text
first_starts kind text v h = subst (Starts is_space) (sym h.3) (starts_more is_space h.0 h.1 (member_opens is_space kind h.0 h.2 space_opens refl h.4))

loose_list : (kind : Option Kind) → IsLoose (Any_tail kind) nothing (read_list kind)
unfolding read_list
loose_list kind = loose_then Spaces (λ s. Any_members kind) is_space nothing skipping (λ s x. read_member kind x >>= λ first. read_members first.0 first.1 >>= λ all. Ok (as_value all.0, all.1)) (of_reader Spaces is_space skipping reads_spaces) (λ s. loose_first kind)
    (λ s back w rest q stop. starts_stop is_space back rest (first_starts kind back w q))

-- a value behind its type, or without one
loose_plain : (kind : Option Kind) → IsLoose (Plain_value_to None kind) (in_class Word) (λ x. read_value_from kind x (after_byte 123 x))
loose_plain kind = loose_if (λ text v. Behind 123 (Any_tail kind) text v ⊎ As Single (Member kind) text v) (Plain_value_to None kind) (in_class Word) (λ x. read_value_from kind x (after_byte 123 x))
    (λ text v h. elim h [ inl l ↦ inl (l.1, l.3 ∙ ap (λ k. k ++ l.1) l.4, l.5) | inr s ↦ inr s ])
    (loose_choice 123 (Any_tail kind) (As Single (Member kind)) (in_class Word) (read_list kind) (λ x. read_member kind x >>= λ a. Ok (Single a.0, a.1)) (read_value_from kind)
    (λ used rest v p stop. loose_list kind used rest v p (stops_nothing rest)) (loose_as Single (Member kind) (in_class Word) (read_member kind) (of_reader (Member kind) (in_class Word) (read_member kind) (reads_member kind)))
    (λ used v q. member_opens (is_byte 123) kind used q.0 (byte_opens 123 refl refl) refl q.1) (λ x y. refl) (λ x. refl))

plain_opens : (test : ℕ → Bool) (kind : Option Kind) (text : List ℕ) (v : Value) → Opens_none test → test 91 ≡ false → test 123 ≡ false → Plain_value_to None kind text v → Starts test text
plain_opens test kind text v o e f (inl h) = subst (Starts test) (sym (h.3 ∙ ap (λ k. k ++ h.1) h.4)) f
plain_opens test kind text v o e f (inr h) = member_opens test kind text h.0 o e h.1

abbrev pub Typed_any : List ℕ → Value → Type 0
Typed_any = Then Type_word (λ kind. Then Spaces (λ s. Plain_value_to None (Some kind)))

loose_typed : IsLoose Typed_any (in_class Word) from_typed
loose_typed = loose_then Type_word (λ kind. Then Spaces (λ s. Plain_value_to None (Some kind))) nothing (in_class Word) read_kind (λ kind x. read_value_from (Some kind) (behind_spaces x) (after_byte 123 (behind_spaces x))) (of_reader Type_word nothing read_kind reads_kind)
    (λ kind. loose_then Spaces (λ s. Plain_value_to None (Some kind)) is_space (in_class Word) skipping (λ s x. read_value_from (Some kind) x (after_byte 123 x)) (of_reader Spaces is_space skipping reads_spaces) (λ s. loose_plain (Some kind))
    (λ s back w rest q stop. starts_stop is_space back rest (plain_opens is_space (Some kind) back w space_opens refl refl q)))
    (λ kind back w rest q stop. stops_nothing (back ++ rest))

typed_begins : (text : List ℕ) (v : Value) → Typed_any text v → (back : List ℕ) × (text ≡ 40 ∷ back)
typed_begins text v h = let b = type_begins h.0 h.2 h.4 in (b.0 ++ h.1, h.3 ∙ ap (λ l. l ++ h.1) b.1)

pub loose_value : IsLoose (Field_value_to None) (in_class Word) read_value
loose_value = loose_same (Field_value_to None) (in_class Word) (λ x. cond (begins 40 x) (from_typed x) (read_value_from None x (after_byte 123 x))) read_value value_split
    (loose_begun 40 Typed_any (Plain_value_to None None) (in_class Word) from_typed (λ x. read_value_from None x (after_byte 123 x)) loose_typed (loose_plain None) typed_begins
    (λ used v q. plain_opens (is_byte 40) None used v (byte_opens 40 refl refl) refl refl q))

pub value_opens : (text : List ℕ) (v : Value) → Field_value_to None text v → Starts is_space text
value_opens text v (inl h) = let b = typed_begins text v h in subst (Starts is_space) (sym b.1) refl
value_opens text v (inr h) = plain_opens is_space None text v space_opens refl refl h
