-- Readers of lists and of values with their types.
use Rattle.std.proofs.Common.{◌≡◌, ℕ, ◌<◌, ◌≤◌, Bool, true, false, cond, List, [], ◌∷◌, ◌++◌, length, Option, Some, None, Ok, Err, inl, inr, ◌⊎◌, refl, sym, ap, ◌∙◌, subst, arith, append_assoc, codes, ltb-false, le-ltb}
use Rattle.std.specs.Prelude.{nat_lt}
use Rattle.gst_caps.specs.Common.{as_value}
use Rattle.gst_value.specs.declared.one.One.{One}
use Rattle.gst_caps.specs.declared.value.Value.{Value}
use Rattle.gst_caps.specs.declared.value.Value.TheVariants.{One as Single}
use Rattle.caps_text.specs.Answers.{Answer, ◌>>=◌}
use Rattle.caps_text.specs.Bytes.{in_class}
use Rattle.caps_text.specs.Grammar.{Then, As, Is, Spaces, Mark, Member, List_step, Plain_value, Type_word, Field_value, Repeated, last, more, is_space}
use Rattle.caps_text.specs.Kinds.{kind_of}
use Rattle.caps_text.specs.Reading.{Next, again, done, after_byte, behind_spaces, begins, expect, kept_member, list_step, list_step_from, read_kind, read_list, read_member, read_members, read_type, read_value, read_value_from, read_whole_member, within_limit}
use Rattle.caps_text.specs.declared.class.Class.TheVariants.{Word}
use Rattle.caps_text.specs.declared.kind.Kind.{Kind}
use Rattle.caps_text.specs.declared.kind.Kind.TheVariants.{Int as Whole, Bool as Either, Text as Words, Fraction as Quotients}
use Rattle.caps_text.proofs.Choices.{Behind, is_byte, reads_choice, reads_begun, reads_iff}
use Rattle.caps_text.proofs.Ended.{reads_whole_member}
use Rattle.caps_text.proofs.Readers.{IsReader, Stops, Starts, nothing, ok_is, reads_then, reads_as, reads_any, stops_nothing, starts_stop, starts_more}
use Rattle.caps_text.proofs.Repeats.{Within, IsStep, reads_within, reads_repeat}
use Rattle.caps_text.proofs.Strings.{reads_kind}
use Rattle.caps_text.proofs.Values.{Opens_none, byte_opens, member_opens, reads_member, space_opens}
use Rattle.caps_text.proofs.Words.{passes, reads_byte, reads_spaces, skipping, starts_is, starts_mark, starts_spaces}

-- nothing more, and this
abbrev pub Only : {V : Type 0} → V → List ℕ → V → Type 0
Only v text w = (text ≡ []) × (w ≡ v)

pub reads_only : {V : Type 0} (v : V) → IsReader (Only v) nothing (λ x. Ok (v, x))
reads_only v = record {
  sound = λ x rest w h. let e = ok_is (v, x) (w, rest) h in ([], ap (λ p. p.1) e, (refl, sym (ap (λ p. p.0) e)));
  complete = λ used rest w h stop. λ i. Ok (sym h.1 i, h.0 i ++ rest);
}

-- a member more
abbrev pub over_limit : List One → One → Bool
over_limit members one = nat_lt 64 (length (kept_member members one))

abbrev pub step_to : List One → One → Next (List One) (List One)
step_to members one = again (kept_member members one)

abbrev One_more : Kind → List One → List ℕ → Next (List One) (List One) → Type 0
One_more kind members = Then (Is (44 ∷ [])) (λ m. Then Spaces (λ s. Within (over_limit members) (step_to members) (Member (Some kind))))

abbrev In_step : Kind → List One → List ℕ → Next (List One) (List One) → Type 0
In_step kind members text n = Behind 125 (Only (done members)) text n ⊎ One_more kind members text n

member_starts : (kind : Option Kind) (members : List One) (text : List ℕ) (n : Next (List One) (List One)) → Within (over_limit members) (step_to members) (Member kind) text n → Starts is_space text
member_starts kind members text n h = member_opens is_space kind text h.0 space_opens refl h.1

reads_one_more : (kind : Kind) (members : List One) → IsReader (One_more kind members) (in_class Word) (λ x. expect 44 x >>= λ m. read_whole_member (Some kind) (behind_spaces m.1) >>= λ one. within_limit (kept_member members one.0) one.1)
reads_one_more kind members = reads_then (Is (44 ∷ [])) (λ m. Then Spaces (λ s. Within (over_limit members) (step_to members) (Member (Some kind)))) nothing (in_class Word) (expect 44) (λ m x. read_whole_member (Some kind) (behind_spaces x) >>= λ one. within_limit (kept_member members one.0) one.1) (reads_byte 44)
    (λ m. reads_then Spaces (λ s. Within (over_limit members) (step_to members) (Member (Some kind))) is_space (in_class Word) skipping (λ s x. read_whole_member (Some kind) x >>= λ one. within_limit (kept_member members one.0) one.1) reads_spaces
    (λ s. reads_within (over_limit members) (step_to members) (Member (Some kind)) (in_class Word) (read_whole_member (Some kind)) (reads_whole_member (Some kind)))
    (λ s back w rest q stop. starts_stop is_space back rest (member_starts (Some kind) members back w q)))
    (λ m back w rest q stop. stops_nothing (back ++ rest))

reads_in_step : (kind : Kind) (members : List One) → IsReader (In_step kind members) (in_class Word) (λ x. list_step_from kind members x (after_byte 125 x))
reads_in_step kind members = reads_choice 125 (Only (done members)) (One_more kind members) (in_class Word) (λ x. Ok (done members, x)) (λ x. expect 44 x >>= λ m. read_whole_member (Some kind) (behind_spaces m.1) >>= λ one. within_limit (kept_member members one.0) one.1) (list_step_from kind members)
    (reads_any (Only (done members)) (in_class Word) (λ x. Ok (done members, x)) (reads_only (done members))) (reads_one_more kind members)
    (λ used v q. starts_is (is_byte 125) 44 [] (λ m. Then Spaces (λ s. Within (over_limit members) (step_to members) (Member (Some kind)))) used v refl q) (λ x y. refl) (λ x. refl)

in_step_starts : (kind : Kind) (members : List One) (text : List ℕ) (n : Next (List One) (List One)) → In_step kind members text n → Starts is_space text
in_step_starts kind members text n (inl h) = subst (Starts is_space) (sym h.1) refl
in_step_starts kind members text n (inr h) = starts_is is_space 44 [] (λ m. Then Spaces (λ s. Within (over_limit members) (step_to members) (Member (Some kind)))) text n refl h

reads_list_step : (kind : Kind) (members : List One) → IsReader (Then Spaces (λ s. In_step kind members)) (in_class Word) (list_step kind members)
unfolding list_step
reads_list_step kind members = reads_then Spaces (λ s. In_step kind members) is_space (in_class Word) skipping (λ s x. list_step_from kind members x (after_byte 125 x)) reads_spaces (λ s. reads_in_step kind members)
    (λ s back w rest q stop. starts_stop is_space back rest (in_step_starts kind members back w q))

not_over : (n : ℕ) → nat_lt 64 n ≡ false → n ≤ 64
not_over n h = ltb-false 64 n h

is_within : (n : ℕ) → n ≤ 64 → nat_lt 64 n ≡ false
is_within n h = le-ltb 64 n h

step_words : (kind : Kind) (members : List One) (text : List ℕ) (n : Next (List One) (List One)) → Then Spaces (λ s. In_step kind members) text n → List_step kind members text n
step_words kind members text n h = go h.5
  where
    go : In_step kind members h.1 n → List_step kind members text n
    go (inl b) = inl ((h.0, h.1, tt, h.3, h.4, b.1 ∙ ap (λ l. 125 ∷ l) b.2.0), b.2.1)
    go (inr b) =
        let s = b.5 in
        let w = s.5 in
        let mark : Mark 44 (h.0 ++ (44 ∷ s.0)) tt = (h.0, 44 ∷ s.0, tt, refl, h.4, (44 ∷ [], s.0, tt, refl, refl, s.4)) in
        let split : text ≡ (h.0 ++ 44 ∷ s.0) ++ s.1 = h.3 ∙ ap (λ l. h.0 ++ l) (b.3 ∙ (λ i. b.4 i ++ s.3 i)) ∙ sym (append_assoc h.0 (44 ∷ s.0) s.1) in
        inr (w.0, (h.0 ++ 44 ∷ s.0, s.1, tt, split, mark, w.1), not_over (length (kept_member members w.0)) w.2, w.3)

words_step : (kind : Kind) (members : List One) (text : List ℕ) (n : Next (List One) (List One)) → List_step kind members text n → Then Spaces (λ s. In_step kind members) text n
words_step kind members text n (inl h) = let s = h.0 in (s.0, s.1, tt, s.3, s.4, inl ([], s.5, (refl, h.1)))
words_step kind members text n (inr h) =
    let t = h.1 in
    let mark = t.4 in
    let inner = mark.5 in
    let split : text ≡ mark.0 ++ (44 ∷ (inner.1 ++ t.1)) = t.3 ∙ ap (λ l. l ++ t.1) (mark.3 ∙ ap (λ l. mark.0 ++ l) (inner.3 ∙ ap (λ l. l ++ inner.1) inner.4)) ∙ append_assoc mark.0 (44 ∷ inner.1) t.1 in
    (mark.0, 44 ∷ (inner.1 ++ t.1), tt, split, mark.4, inr (44 ∷ [], inner.1 ++ t.1, tt, refl, refl, (inner.1, t.1, tt, refl, inner.5, (h.0, t.5, is_within (length (kept_member members h.0)) h.2, h.3))))

reads_step : (kind : Kind) (members : List One) → IsReader (List_step kind members) (in_class Word) (list_step kind members)
reads_step kind members = reads_iff (Then Spaces (λ s. In_step kind members)) (List_step kind members) (in_class Word) (list_step kind members) (step_words kind members) (words_step kind members) (reads_list_step kind members)

-- the end of a list may stand before everything
pub list_ends : (kind : Kind) (members : List One) (front rest v : List _) → List_step kind members front (done v) → list_step kind members (front ++ rest) ≡ Ok (done v, rest)
unfolding list_step
list_ends kind members front rest v (inl h) =
    let s = h.0 in
    let split : front ++ rest ≡ s.0 ++ (125 ∷ rest) = ap (λ l. l ++ rest) (s.3 ∙ ap (λ l. s.0 ++ l) s.5) ∙ append_assoc s.0 (125 ∷ []) rest in
    let gone : behind_spaces (front ++ rest) ≡ 125 ∷ rest = ap (λ p. p.1) (ok_is (tt, behind_spaces (front ++ rest)) (tt, 125 ∷ rest) (ap skipping split ∙ reads_spaces.complete s.0 (125 ∷ rest) tt s.4 refl)) in
    ap (λ l. list_step_from kind members l (after_byte 125 l)) gone ∙ ap (list_step_from kind members (125 ∷ rest)) (passes 125 rest) ∙ ap (λ n. Ok (n, rest)) (sym h.1)
list_ends kind members front rest v (inr h) = absurd (cc)

-- what follows a member in a list does not go on with its word
step_stops : (kind : Kind) (members : List One) (text : List ℕ) (n : Next (List One) (List One)) → List_step kind members text n → Starts (in_class Word) text
step_stops kind members text n (inl h) = let s = h.0 in subst (Starts (in_class Word)) (sym s.3) (starts_spaces (in_class Word) s.0 s.1 s.4 refl (subst (Starts (in_class Word)) (sym s.5) refl))
step_stops kind members text n (inr h) = starts_mark (in_class Word) 44 (λ m. Member (Some kind)) text h.0 refl refl h.1

rest_stops : (kind : Kind) (members : List One) (text rest : List ℕ) (v : List One) → Repeated (List_step kind) members text v → Stops (in_class Word) (text ++ rest)
rest_stops kind _ _ rest _ (last s text v d) = starts_stop (in_class Word) text rest (step_stops kind s text (done v) d)
rest_stops kind _ _ rest _ (more s t front back text v e d later) = subst (λ l. Stops (in_class Word) (l ++ rest)) (sym e) (starts_stop (in_class Word) (front ++ back) rest (starts_more (in_class Word) front back (step_stops kind s front (again t) d)))

some_step : (kind : Kind) (members : List One) (text : List ℕ) (n : Next (List One) (List One)) → List_step kind members text n → 0 < length text
some_step kind members text n h = some text (step_stops kind members text n h)
  where
    some : (l : List ℕ) → Starts (in_class Word) l → 0 < length l
    some [] s = absurd s
    some (b ∷ bs) s = omega arith

pub list_is_step : (kind : Kind) → IsStep (List_step kind) nothing (list_step kind)
list_is_step kind = record {
  sound = λ s x rest n h. (reads_step kind s).sound x rest n h;
  passes = λ s t text h. some_step kind s text (again t) h;
  goes_on = λ s t front back rest v h later stop. (reads_step kind s).complete front (back ++ rest) (again t) h (rest_stops kind t back rest v later);
  ends = λ s front rest v h stop. list_ends kind s front rest v h;
}

reads_members : (first : One) → IsReader (Repeated (List_step (kind_of first)) (first ∷ [])) nothing (read_members first)
unfolding read_members
reads_members first = reads_repeat (List_step (kind_of first)) nothing (list_step (kind_of first)) (list_is_step (kind_of first)) (first ∷ [])

-- a list behind its opening bracket
abbrev First_member : Option Kind → List ℕ → Value → Type 0
First_member kind = Then (Member kind) (λ first. As as_value (Repeated (List_step (kind_of first)) (first ∷ [])))

abbrev List_tail : Option Kind → List ℕ → Value → Type 0
List_tail kind = Then Spaces (λ s. First_member kind)

members_stop : (kind : Kind) (start : List One) (text : List ℕ) (v : Value) (rest : List ℕ) → As as_value (Repeated (List_step kind) start) text v → Stops (in_class Word) (text ++ rest)
members_stop kind start text v rest h = rest_stops kind start text rest h.0 h.1

reads_first_member : (kind : Option Kind) → IsReader (First_member kind) nothing (λ x. read_member kind x >>= λ first. read_members first.0 first.1 >>= λ all. Ok (as_value all.0, all.1))
reads_first_member kind = reads_then (Member kind) (λ first. As as_value (Repeated (List_step (kind_of first)) (first ∷ []))) (in_class Word) nothing (read_member kind) (λ first x. read_members first x >>= λ all. Ok (as_value all.0, all.1)) (reads_member kind)
    (λ first. reads_as as_value (Repeated (List_step (kind_of first)) (first ∷ [])) nothing (read_members first) (reads_members first))
    (λ first back w rest q stop. members_stop (kind_of first) (first ∷ []) back w rest q)

first_starts : (kind : Option Kind) (text : List ℕ) (v : Value) → First_member kind text v → Starts is_space text
first_starts kind text v h = subst (Starts is_space) (sym h.3) (starts_more is_space h.0 h.1 (member_opens is_space kind h.0 h.2 space_opens refl h.4))

reads_list : (kind : Option Kind) → IsReader (List_tail kind) nothing (read_list kind)
unfolding read_list
reads_list kind = reads_then Spaces (λ s. First_member kind) is_space nothing skipping (λ s x. read_member kind x >>= λ first. read_members first.0 first.1 >>= λ all. Ok (as_value all.0, all.1)) reads_spaces (λ s. reads_first_member kind)
    (λ s back w rest q stop. starts_stop is_space back rest (first_starts kind back w q))

-- a value behind its type, or without one
reads_plain_parts : (kind : Option Kind) → IsReader (λ text v. Behind 123 (List_tail kind) text v ⊎ As Single (Member kind) text v) (in_class Word) (λ x. read_value_from kind x (after_byte 123 x))
reads_plain_parts kind = reads_choice 123 (List_tail kind) (As Single (Member kind)) (in_class Word) (read_list kind) (λ x. read_member kind x >>= λ a. Ok (Single a.0, a.1)) (read_value_from kind)
    (reads_any (List_tail kind) (in_class Word) (read_list kind) (reads_list kind)) (reads_as Single (Member kind) (in_class Word) (read_member kind) (reads_member kind))
    (λ used v q. member_opens (is_byte 123) kind used q.0 (byte_opens 123 refl refl) refl q.1) (λ x y. refl) (λ x. refl)

reads_plain : (kind : Option Kind) → IsReader (Plain_value kind) (in_class Word) (λ x. read_value_from kind x (after_byte 123 x))
reads_plain kind = reads_iff (λ text v. Behind 123 (List_tail kind) text v ⊎ As Single (Member kind) text v) (Plain_value kind) (in_class Word) _
    (λ text v h. elim h [ inl b ↦ inl (123 ∷ [], b.0, tt, b.1, refl, b.2) | inr s ↦ inr s ])
    (λ text v h. elim h [ inl l ↦ inl (l.1, l.3 ∙ ap (λ k. k ++ l.1) l.4, l.5) | inr s ↦ inr s ])
    (reads_plain_parts kind)

plain_opens : (test : ℕ → Bool) (kind : Option Kind) (text : List ℕ) (v : Value) → Opens_none test → test 91 ≡ false → test 123 ≡ false → Plain_value kind text v → Starts test text
plain_opens test kind text v o e f (inl h) = subst (Starts test) (sym (h.3 ∙ ap (λ k. k ++ h.1) h.4)) f
plain_opens test kind text v o e f (inr h) = member_opens test kind text h.0 o e h.1

-- the same reader
pub reads_same : {V : Type 0} (P : List ℕ → V → Type 0) (test : ℕ → Bool) (r s : List ℕ → Answer V) → ((x : List ℕ) → s x ≡ r x) → IsReader P test r → IsReader P test s
reads_same P test r s e first = record {
  sound = λ x rest v h. first.sound x rest v (sym (e x) ∙ h);
  complete = λ used rest v p stop. e (used ++ rest) ∙ first.complete used rest v p stop;
}

pub bind_cond : {V W : Type 0} (t : Bool) (a b : Answer V) (f : V × List ℕ → Answer W) → (cond t a b >>= f) ≡ cond t (a >>= f) (b >>= f)
bind_cond true a b f = refl
bind_cond false a b f = refl

pub bind_bind : {U V W : Type 0} (a : Answer U) (f : U × List ℕ → Answer V) (g : V × List ℕ → Answer W) → ((a >>= f) >>= g) ≡ (a >>= λ p. f p >>= g)
bind_bind (Ok p) f g = refl
bind_bind (Err e) f g = refl

-- a value behind a type
abbrev Typed_value : List ℕ → Value → Type 0
Typed_value = Then Type_word (λ kind. Then Spaces (λ s. Plain_value (Some kind)))

abbrev pub from_typed : List ℕ → Answer Value
from_typed x = read_kind x >>= λ a. read_value_from (Some a.0) (behind_spaces a.1) (after_byte 123 (behind_spaces a.1))

reads_typed : IsReader Typed_value (in_class Word) from_typed
reads_typed = reads_then Type_word (λ kind. Then Spaces (λ s. Plain_value (Some kind))) nothing (in_class Word) read_kind (λ kind x. read_value_from (Some kind) (behind_spaces x) (after_byte 123 (behind_spaces x))) reads_kind
    (λ kind. reads_then Spaces (λ s. Plain_value (Some kind)) is_space (in_class Word) skipping (λ s x. read_value_from (Some kind) x (after_byte 123 x)) reads_spaces (λ s. reads_plain (Some kind))
    (λ s back w rest q stop. starts_stop is_space back rest (plain_opens is_space (Some kind) back w space_opens refl refl q)))
    (λ kind back w rest q stop. stops_nothing (back ++ rest))

pub type_begins : (text : List ℕ) (kind : Kind) → Type_word text kind → (back : List ℕ) × (text ≡ 40 ∷ back)
type_begins text Whole h = (codes "int)", h)
type_begins text Either h = (codes "boolean)", h)
type_begins text Words h = (codes "string)", h)
type_begins text Quotients h = (codes "fraction)", h)

typed_begins : (text : List ℕ) (v : Value) → Typed_value text v → (back : List ℕ) × (text ≡ 40 ∷ back)
typed_begins text v h = let b = type_begins h.0 h.2 h.4 in (b.0 ++ h.1, h.3 ∙ ap (λ l. l ++ h.1) b.1)

pub value_split : (x : List ℕ) → read_value x ≡ cond (begins 40 x) (from_typed x) (read_value_from None x (after_byte 123 x))
unfolding read_value read_type
value_split x = bind_cond (begins 40 x) (read_kind x >>= λ a. Ok (Some a.0, behind_spaces a.1)) (Ok (None, x)) (λ a. read_value_from a.0 a.1 (after_byte 123 a.1))
    ∙ ap (λ a. cond (begins 40 x) a (read_value_from None x (after_byte 123 x))) (bind_bind (read_kind x) (λ a. Ok (Some a.0, behind_spaces a.1)) (λ a. read_value_from a.0 a.1 (after_byte 123 a.1)))

pub reads_value : IsReader Field_value (in_class Word) read_value
reads_value = reads_same Field_value (in_class Word) (λ x. cond (begins 40 x) (from_typed x) (read_value_from None x (after_byte 123 x))) read_value value_split
    (reads_begun 40 Typed_value (Plain_value None) (in_class Word) from_typed (λ x. read_value_from None x (after_byte 123 x)) reads_typed (reads_plain None) typed_begins
    (λ used v q. plain_opens (is_byte 40) None used v (byte_opens 40 refl refl) refl refl q))

pub value_opens : (text : List ℕ) (v : Value) → Field_value text v → Starts is_space text
value_opens text v (inl h) = let b = typed_begins text v h in subst (Starts is_space) (sym b.1) refl
value_opens text v (inr h) = plain_opens is_space None text v space_opens refl refl h
