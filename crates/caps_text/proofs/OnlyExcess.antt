-- That there are too many of a kind is told only where there are.
use Rattle.std.proofs.Common.{◌≡◌, ℕ, zero, suc, ◌<◌, ◌≤◌, ◌+◌, Bool, true, false, cond, eqb, List, [], ◌∷◌, ◌++◌, length, Option, Some, None, Result, Ok, Err, inl, inr, ◌⊎◌, refl, sym, ap, ◌∙◌, subst, arith, append_assoc, append-nil, codes}
use Rattle.std.specs.Prelude.{is_some, nat_lt}
use Rattle.std.proofs.lemmas.Bool.{ltb-true}
use Rattle.gst_caps.specs.Accepts.{value_at}
use Rattle.gst_caps.specs.Common.{as_value}
use Rattle.gst_value.specs.Description.{Description}
use Rattle.gst_caps.specs.declared.caps.Caps.{Caps}
use Rattle.gst_value.specs.declared.one.One.{One}
use Rattle.gst_caps.specs.declared.value.Value.{Value}
use Rattle.gst_caps.specs.declared.value.Value.TheVariants.{One as Single}
use Rattle.caps_text.specs.Answers.{Answer, Stop, misspelt, many, ◌>>=◌}
use Rattle.caps_text.specs.Bytes.{in_class}
use Rattle.caps_text.specs.Grammar.{Then, Spaces, Mark, Member, Type_word, Field_name, Field_value_to, List_step, List_step_to, Caps_step, Caps_step_to}
use Rattle.caps_text.specs.Kinds.{kind_of}
use Rattle.caps_text.specs.Limits.{Passed, here, past, Open_list, Open_value, Excess_field, Excess_part, Ends_word, HasExcess, TellsExcess}
use Rattle.caps_text.specs.Parsed.{Told}
use Rattle.caps_text.specs.Reading.{Made, Next, again, done, after_byte, begins, behind_spaces, caps_step, expect, few_fields, few_structures, kept_member, list_step, list_step_from, more_from, read_field, read_head, read_kind, read_list, read_mark, read_member, read_members, read_more, read_name, read_structures, read_value, read_value_from, read_whole_member, read_whole_value, repeat, with_field, within_limit}
use Rattle.caps_text.specs.declared.class.Class.TheVariants.{Word}
use Rattle.caps_text.specs.declared.fault.CapsTextFault.{CapsTextFault}
use Rattle.caps_text.specs.declared.fault.CapsTextFault.TheVariants.{BadCaps, TooMany, OutOfMemory}
use Rattle.caps_text.specs.declared.kind.Kind.{Kind}
use Rattle.caps_text.proofs.Ended.{ended, ended_ok, member_ended, reads_whole_member}
use Rattle.caps_text.proofs.Excess.{Too_long, excess_told}
use Rattle.caps_text.proofs.Listed.{from_typed, list_is_step, value_split}
use Rattle.caps_text.proofs.LocalReaders.{finishing, starting}
use Rattle.caps_text.proofs.LooseWhole.{naming, setting}
use Rattle.caps_text.proofs.Never.{IsNever, never_byte, never_bind, never_ended, never_head, never_kind, never_mark, never_member, never_name, never_ok}
use Rattle.caps_text.proofs.Parsing.{read_any, read_empty}
use Rattle.caps_text.proofs.Readers.{Reads_front, Stops, nothing}
use Rattle.caps_text.proofs.Repeats.{repeat_again, repeat_done, repeat_refused, shorter}
use Rattle.caps_text.proofs.Strings.{reads_kind}
use Rattle.caps_text.proofs.Tokens.{after_byte_is}
use Rattle.caps_text.proofs.Values.{reads_member, no_length}
use Rattle.caps_text.proofs.Viable.{IsSound, stopped}
use Rattle.caps_text.proofs.ViableValues.{wider_step}
use Rattle.caps_text.proofs.ViableWhole.{wider_caps, wider_value, ending as finished}
use Rattle.caps_text.proofs.Whole.{Outcome, all_bytes, caps_is_step, marked, reads_head, reads_whole_value, value_ended}
use Rattle.caps_text.proofs.Words.{reads_byte, reads_mark, reads_name, reads_spaces, skipping}
use Rattle.caps_text.proofs.Local.{lacks_none}

-- a front with too many, which ends a word
abbrev Reaches : {W : Type 0} → (List ℕ → W → Type 0) → List ℕ → Type 0
Reaches {W} O x = (front rest : List ℕ) × (w : W) × (x ≡ front ++ rest) × Ends_word rest × O front w

abbrev IsMany : {V W : Type 0} → (List ℕ → W → Type 0) → (List ℕ → Answer V) → Type 0
IsMany O r = (x : List ℕ) → r x ≡ Err many → Reaches O x

-- where a part and another are refused for a limit
bind_many : {V W : Type 0} (a : Answer V) (f : V × List ℕ → Answer W) → (a >>= f) ≡ Err many → (a ≡ Err many) ⊎ ((p : V × List ℕ) × (a ≡ Ok p) × (f p ≡ Err many))
bind_many (Ok p) f h = inr (p, refl, h)
bind_many {V} {W} (Err d) f h = inl (ap Err (stopped {V = W} d many h))

many_then : {V W X : Type 0} (P : List ℕ → V → Type 0) (O : V → List ℕ → X → Type 0) (r : List ℕ → Answer V) (s : V → List ℕ → Answer W) → IsSound P r → IsNever r → ((v : V) → IsMany (O v) (s v)) → IsMany (Then P O) (λ x. r x >>= λ a. s a.0 a.1)
many_then P O r s sound never second x h = go (bind_many (r x) (λ a. s a.0 a.1) h)
  where
    go : (r x ≡ Err many) ⊎ ((p : _ × List ℕ) × (r x ≡ Ok p) × (s p.0 p.1 ≡ Err many)) → Reaches (Then P O) x
    go (inl k) = absurd (never x k)
    go (inr (p, e, k)) =
        let one = sound x p.1 p.0 e in
        let two = second p.0 p.1 k in
        (one.0 ++ two.0, two.1, two.2, one.1 ∙ ap (λ l. one.0 ++ l) two.3 ∙ sym (append_assoc one.0 two.0 two.1), two.4, (one.0, two.0, p.0, refl, one.2, two.5))

many_first : {V W X : Type 0} (O : List ℕ → X → Type 0) (r : List ℕ → Answer V) (k : V × List ℕ → Answer W) → ((p : V × List ℕ) → k p ≡ Err many → ⊥) → IsMany O r → IsMany O (λ x. r x >>= k)
many_first O r k never first x h = elim (bind_many (r x) k h) [ inl e ↦ first x e | inr p ↦ absurd (never p.0 p.2) ]

many_if : {V W X : Type 0} (O : List ℕ → W → Type 0) (Q : List ℕ → X → Type 0) (r : List ℕ → Answer V) → ((text : List ℕ) (w : W) → O text w → (x : X) × Q text x) → IsMany O r → IsMany Q r
many_if O Q r into first x h = let one = first x h in let q = into one.0 one.2 one.5 in (one.0, one.1, q.0, one.3, one.4, q.1)

word_ends : (rest : List ℕ) → Stops (in_class Word) rest → Ends_word rest
word_ends [] h = tt
word_ends (b ∷ bs) h = h

-- one member too many
limit_passed : (members : List One) (rest : List ℕ) → within_limit members rest ≡ Err many → 64 < length members
limit_passed members rest h = step (nat_lt 64 (length members)) refl h
  where
    step : (t : Bool) → nat_lt 64 (length members) ≡ t → cond {A = Answer (Next (List One) (List One))} t (Err many) (Ok (again members, rest)) ≡ Err many → 64 < length members
    step true e k = ltb-true 64 (length members) e
    step false e k = absurd (cc)

member_many : (kind : Kind) (members : List One) (x : List ℕ) → (read_whole_member (Some kind) x >>= λ one. within_limit (kept_member members one.0) one.1) ≡ Err many → (front rest : List ℕ) × (one : One) × (x ≡ front ++ rest) × Ends_word rest × Member (Some kind) front one × (64 < length (kept_member members one))
member_many kind members x h = go (bind_many (read_whole_member (Some kind) x) (λ one. within_limit (kept_member members one.0) one.1) h)
  where
    never_whole : read_whole_member (Some kind) x ≡ Err many → ⊥
    never_whole k = never_bind (read_member (Some kind)) ended (never_member (Some kind)) never_ended x (sym (member_ended (Some kind) x) ∙ k)

    stops : (p : One × List ℕ) → read_whole_member (Some kind) x ≡ Ok p → Ends_word p.1
    stops p k = at (bind_many_ok (read_member (Some kind) x) (sym (member_ended (Some kind) x) ∙ k))
      where
        bind_many_ok : (a : Answer One) → (a >>= λ a. ended a.0 a.1) ≡ Ok p → (q : One × List ℕ) × (ended q.0 q.1 ≡ Ok p)
        bind_many_ok (Ok q) e = (q, e)
        bind_many_ok (Err d) e = absurd (cc)

        at : (q : One × List ℕ) × (ended q.0 q.1 ≡ Ok p) → Ends_word p.1
        at (q, e) = let o = ended_ok q.0 p.0 q.1 p.1 e in subst Ends_word o.1 (word_ends q.1 o.2)

    go : (read_whole_member (Some kind) x ≡ Err many) ⊎ ((p : One × List ℕ) × (read_whole_member (Some kind) x ≡ Ok p) × (within_limit (kept_member members p.0) p.1 ≡ Err many)) → (front rest : List ℕ) × (one : One) × (x ≡ front ++ rest) × Ends_word rest × Member (Some kind) front one × (64 < length (kept_member members one))
    go (inl k) = absurd (never_whole k)
    go (inr (p, e, k)) = let s = (reads_whole_member (Some kind)).sound x p.1 p.0 e in (s.0, p.1, p.0, s.1, stops p e, s.2, limit_passed (kept_member members p.0) p.1 k)

abbrev Long_step : Kind → List One → List ℕ → Type 0
Long_step kind members x = (front rest : List ℕ) × (next : List One) × (x ≡ front ++ rest) × Ends_word rest × List_step_to None kind members front (again next) × (64 < length next)

step_many : (kind : Kind) (members : List One) (x : List ℕ) → list_step kind members x ≡ Err many → Long_step kind members x
unfolding list_step
step_many kind members x h = go (after_byte 125 (behind_spaces x)) h
  where
    spaces : Reads_front Spaces x tt (behind_spaces x)
    spaces = reads_spaces.sound x (behind_spaces x) tt refl

    behind : (p : Unit {0} × List ℕ) → expect 44 (behind_spaces x) ≡ Ok p → (read_whole_member (Some kind) (behind_spaces p.1) >>= λ one. within_limit (kept_member members one.0) one.1) ≡ Err many → Long_step kind members x
    behind p e k =
        let c = (reads_byte 44).sound (behind_spaces x) p.1 tt e in
        let s = reads_spaces.sound p.1 (behind_spaces p.1) tt refl in
        let m = member_many kind members (behind_spaces p.1) k in
        let tail : behind_spaces x ≡ 44 ∷ ((s.0 ++ m.0) ++ m.1) = c.1 ∙ ap (λ l. l ++ p.1) c.2 ∙ ap (λ l. 44 ∷ l) (s.1 ∙ ap (λ l. s.0 ++ l) m.3 ∙ sym (append_assoc s.0 m.0 m.1)) in (
          spaces.0 ++ (44 ∷ (s.0 ++ m.0)),
          m.1,
          kept_member members m.2,
          spaces.1 ∙ ap (λ l. spaces.0 ++ l) tail ∙ sym (append_assoc spaces.0 (44 ∷ (s.0 ++ m.0)) m.1),
          m.4,
          inr (m.2, marked 44 (Member (Some kind)) spaces.0 s.0 m.0 (spaces.0 ++ (44 ∷ (s.0 ++ m.0))) m.2 refl spaces.2 s.2 m.5, tt, refl),
          m.6,
        )

    comma : (expect 44 (behind_spaces x) ≡ Err many) ⊎ ((p : Unit {0} × List ℕ) × (expect 44 (behind_spaces x) ≡ Ok p) × ((read_whole_member (Some kind) (behind_spaces p.1) >>= λ one. within_limit (kept_member members one.0) one.1) ≡ Err many)) → Long_step kind members x
    comma (inl k) = absurd (never_byte 44 (behind_spaces x) k)
    comma (inr (p, e, k)) = behind p e k

    go : (o : Option (List ℕ)) → list_step_from kind members (behind_spaces x) o ≡ Err many → Long_step kind members x
    go (Some y) k = absurd (cc)
    go None k = comma (bind_many (expect 44 (behind_spaces x)) (λ m. read_whole_member (Some kind) (behind_spaces m.1) >>= λ one. within_limit (kept_member members one.0) one.1) k)

-- a list up to there
abbrev Long_rest : Kind → List One → List ℕ → List One → Type 0
Long_rest kind start text members = Passed (List_step_to None kind) start text members × (64 < length members)

members_many : (n : ℕ) (kind : Kind) (s : List One) (x : List ℕ) → length x < n → repeat (list_step kind) s x ≡ Err many → Reaches (Long_rest kind s) x
members_many zero kind s x less h = absurd (omega (arith, less))
members_many (suc n) kind s x less h = go (list_step kind s x) refl (λ t y l k. members_many n kind t y (omega (arith, l, less)) k)
  where
    on : (next : Next (List One) (List One)) (z : List ℕ) → list_step kind s x ≡ Ok (next, z) → ((t : List One) (y : List ℕ) → length y < length x → repeat (list_step kind) t y ≡ Err many → Reaches (Long_rest kind t) y) → Reaches (Long_rest kind s) x
    on (done v) z e ih = absurd (let bad : Ok (v, z) ≡ Err many = sym (repeat_done (list_step kind) s v x z e) ∙ h in cc)
    on (again t) z e ih =
        let two = ih t z (shorter (List_step kind) nothing (list_step kind) (list_is_step kind) s t x z e) (sym (repeat_again (List_step kind) nothing (list_step kind) (list_is_step kind) s t x z e) ∙ h) in
        let one = (list_is_step kind).sound s x z (again t) e in
        (one.0 ++ two.0, two.1, two.2, one.1 ∙ ap (λ l. one.0 ++ l) two.3 ∙ sym (append_assoc one.0 two.0 two.1), two.4, (past s t two.2 one.0 two.0 (one.0 ++ two.0) refl (wider_step kind s one.0 (again t) one.2) two.5.0, two.5.1))

    go : (a : Answer (Next (List One) (List One))) → list_step kind s x ≡ a → ((t : List One) (y : List ℕ) → length y < length x → repeat (list_step kind) t y ≡ Err many → Reaches (Long_rest kind t) y) → Reaches (Long_rest kind s) x
    go (Err d) e ih =
        let one = step_many kind s x (e ∙ ap Err (stopped {V = List One} d many (sym (repeat_refused (list_step kind) s x d e) ∙ h))) in
        (one.0, one.1, one.2, one.3, one.4, (past s one.2 one.2 one.0 [] one.0 (sym (append-nil one.0)) one.5 (here one.2), one.6))
    go (Ok p) e ih = on p.0 p.1 e ih

many_members : (first : One) → IsMany (Long_rest (kind_of first) (first ∷ [])) (read_members first)
unfolding read_members
many_members first x h = members_many (length x + 1) (kind_of first) (first ∷ []) x (omega arith) h

many_list : (kind : Option Kind) → IsMany (Then Spaces (λ s. Then (Member kind) (λ first. Long_rest (kind_of first) (first ∷ [])))) (read_list kind)
unfolding read_list
many_list kind = many_then Spaces (λ s. Then (Member kind) (λ first. Long_rest (kind_of first) (first ∷ []))) skipping (λ s x. read_member kind x >>= λ first. read_members first.0 first.1 >>= λ all. Ok (as_value all.0, all.1)) reads_spaces.sound (never_ok (λ x. (tt, behind_spaces x)))
    (λ s. many_then (Member kind) (λ first. Long_rest (kind_of first) (first ∷ [])) (read_member kind) (λ first x. read_members first x >>= λ all. Ok (as_value all.0, all.1)) (reads_member kind).sound (never_member kind)
    (λ first. many_first (Long_rest (kind_of first) (first ∷ [])) (read_members first) (λ all. Ok (as_value all.0, all.1)) (λ p k. cc) (many_members first)))

-- values
many_plain : (kind : Option Kind) → IsMany (Too_long (Open_list kind)) (λ x. read_value_from kind x (after_byte 123 x))
many_plain kind x h = go (after_byte 123 x) refl h
  where
    go : (o : Option (List ℕ)) → after_byte 123 x ≡ o → read_value_from kind x o ≡ Err many → Reaches (Too_long (Open_list kind)) x
    go (Some y) e k =
        let l = many_list kind y k in
        let s = l.5 in
        let f = s.5 in
        (123 ∷ l.0, l.1, l.2, after_byte_is 123 x y e ∙ ap (λ z. 123 ∷ z) l.3, l.4, ((123 ∷ [], l.0, tt, refl, refl, (s.0, s.1, s.2, s.3, s.4, (f.0, f.1, f.2, f.3, f.4, f.5.0))), f.5.1))
    go None e k = absurd (never_bind (read_member kind) (λ v x. Ok (Single v, x)) (never_member kind) (λ v. never_ok (λ x. (Single v, x))) x k)

many_typed : IsMany (Then Type_word (λ kind. Then Spaces (λ s. Too_long (Open_list (Some kind))))) from_typed
many_typed = many_then Type_word (λ kind. Then Spaces (λ s. Too_long (Open_list (Some kind)))) read_kind (λ kind x. read_value_from (Some kind) (behind_spaces x) (after_byte 123 (behind_spaces x))) reads_kind.sound never_kind
    (λ kind. many_then Spaces (λ s. Too_long (Open_list (Some kind))) skipping (λ s x. read_value_from (Some kind) x (after_byte 123 x)) reads_spaces.sound (never_ok (λ x. (tt, behind_spaces x))) (λ s. many_plain (Some kind)))

many_value : IsMany (Too_long Open_value) read_value
many_value x h = go (begins 40 x) (sym (value_split x) ∙ h)
  where
    go : (t : Bool) → cond t (from_typed x) (read_value_from None x (after_byte 123 x)) ≡ Err many → Reaches (Too_long Open_value) x
    go true k = let l = many_typed x k in let t = l.5 in let s = t.5 in (l.0, l.1, l.2, l.3, l.4, (inl (t.0, t.1, t.2, t.3, t.4, (s.0, s.1, s.2, s.3, s.4, s.5.0)), s.5.1))
    go false k = let l = many_plain None x k in (l.0, l.1, l.2, l.3, l.4, (inr l.5.0, l.5.1))

many_whole_value : IsMany (Too_long Open_value) read_whole_value
many_whole_value x h = many_first (Too_long Open_value) read_value (λ a. ended a.0 a.1) (λ p k. never_ended p.0 p.1 k) many_value x (sym (value_ended x) ∙ h)

-- fields
abbrev Excess_value : Description Value → List ℕ → List ℕ → Unit {0} → Type 0
Excess_value s name text u = ((members : List One) × Open_value text members × (64 < length members)) ⊎ ((v : Value) × Field_value_to None text v × (64 < length (with_field s name v).fields))

fields_passed : (s : Description Value) (rest : List ℕ) → few_fields s rest ≡ Err many → 64 < length s.fields
fields_passed s rest h = step (nat_lt 64 (length s.fields)) refl h
  where
    step : (t : Bool) → nat_lt 64 (length s.fields) ≡ t → cond {A = Answer (Description Value)} t (Err many) (Ok (s, rest)) ≡ Err many → 64 < length s.fields
    step true e k = ltb-true 64 (length s.fields) e
    step false e k = absurd (cc)

value_stops : (x : List ℕ) (p : Value × List ℕ) → read_whole_value x ≡ Ok p → Ends_word p.1
value_stops x p k = at (of (read_value x) (sym (value_ended x) ∙ k))
  where
    of : (a : Answer Value) → (a >>= λ a. ended a.0 a.1) ≡ Ok p → (q : Value × List ℕ) × (ended q.0 q.1 ≡ Ok p)
    of (Ok q) e = (q, e)
    of (Err d) e = absurd (cc)

    at : (q : Value × List ℕ) × (ended q.0 q.1 ≡ Ok p) → Ends_word p.1
    at (q, e) = let o = ended_ok q.0 p.0 q.1 p.1 e in subst Ends_word o.1 (word_ends q.1 o.2)

many_set_value : (s : Description Value) (name : List ℕ) → IsMany (Excess_value s name) (λ x. read_whole_value x >>= λ v. few_fields (with_field s name v.0) v.1)
many_set_value s name x h = go (bind_many (read_whole_value x) (λ v. few_fields (with_field s name v.0) v.1) h)
  where
    go : (read_whole_value x ≡ Err many) ⊎ ((p : Value × List ℕ) × (read_whole_value x ≡ Ok p) × (few_fields (with_field s name p.0) p.1 ≡ Err many)) → Reaches (Excess_value s name) x
    go (inl k) = let l = many_whole_value x k in (l.0, l.1, tt, l.3, l.4, inl (l.2, l.5.0, l.5.1))
    go (inr (p, e, k)) = let f = reads_whole_value.sound x p.1 p.0 e in (f.0, p.1, tt, f.1, value_stops x p e, inr (p.0, wider_value f.0 p.0 f.2, fields_passed (with_field s name p.0) p.1 k))

many_setting : (s : Description Value) (name : List ℕ) → IsMany (Then (Mark 61) (λ m. Excess_value s name)) (setting s name)
many_setting s name = many_then (Mark 61) (λ m. Excess_value s name) (read_mark 61) (λ m x. read_whole_value x >>= λ v. few_fields (with_field s name v.0) v.1) (reads_mark 61 refl).sound (never_mark 61) (λ m. many_set_value s name)

abbrev New_excess : Description Value → List ℕ → List ℕ → Unit {0} → Type 0
New_excess s name text u = (value_at name s.fields ≡ None) × Then (Mark 61) (λ m. Excess_value s name) text u

many_naming : (s : Description Value) (name : List ℕ) → IsMany (New_excess s name) (naming s name)
many_naming s name x h = go (is_some (value_at name s.fields)) refl h
  where
    go : (t : Bool) → is_some (value_at name s.fields) ≡ t → cond {A = Answer (Description Value)} t (Err (misspelt x)) (setting s name x) ≡ Err many → Reaches (New_excess s name) x
    go true e k = absurd (let bad : misspelt x ≡ many = stopped {V = Description Value} (misspelt x) many k in cc)
    go false e k = let l = many_setting s name x k in (l.0, l.1, l.2, l.3, l.4, (lacks_none (value_at name s.fields) e, l.5))

field_words : (s : Description Value) (text : List ℕ) (u : Unit {0}) → Then Field_name (New_excess s) text u → Excess_field s text u
field_words s text u h = go h.5.1.5
  where
    go : Excess_value s h.2 h.5.1.1 u → Excess_field s text u
    go (inl v) = let m = h.5.1 in inl (v.0, (h.0, h.1, h.2, h.3, h.4, (h.5.0, (m.0, m.1, m.2, m.3, m.4, v.1))), v.2)
    go (inr v) = let m = h.5.1 in inr (with_field s h.2 v.0, (h.0, h.1, h.2, h.3, h.4, (h.5.0, (m.0, m.1, m.2, m.3, m.4, (v.0, v.1, refl)), tt)), v.2)

many_field : (s : Description Value) → IsMany (Excess_field s) (read_field s)
unfolding read_field
many_field s = many_if (Then Field_name (New_excess s)) (Excess_field s) (read_field s) (λ text u p. (u, field_words s text u p)) (many_then Field_name (New_excess s) read_name (naming s) reads_name.sound never_name (many_naming s))

-- structures
structures_passed : (made : Made) (rest : List ℕ) → few_structures made rest ≡ Err many → 64 ≤ length made.0
structures_passed made rest h = step (nat_lt 63 (length made.0)) refl h
  where
    step : (t : Bool) → nat_lt 63 (length made.0) ≡ t → cond {A = Answer (List (Description Value))} t (Err many) (Ok (made.0 ++ made.1 ∷ [], rest)) ≡ Err many → 64 ≤ length made.0
    step true e k = let l = ltb-true 63 (length made.0) e in omega (arith, l)
    step false e k = absurd (cc)

abbrev Part_here : Made → List ℕ → Type 0
Part_here made x = (back rest : List ℕ) × (x ≡ back ++ rest) × Excess_part made back rest

more_many : (made : Made) (x : List ℕ) → read_more made x ≡ Err many → Part_here made x
unfolding read_more
more_many made x h = go (after_byte 44 (behind_spaces x)) refl h
  where
    spaces : Reads_front Spaces x tt (behind_spaces x)
    spaces = reads_spaces.sound x (behind_spaces x) tt refl

    field : (y : List ℕ) → behind_spaces x ≡ 44 ∷ y → (read_field made.1 (behind_spaces y) ≡ Err many) ⊎ ((p : Description Value × List ℕ) × (read_field made.1 (behind_spaces y) ≡ Ok p) × (◌≡◌ {A = Answer Outcome} (Ok (again (made.0, p.0), p.1)) (Err many))) → Part_here made x
    field y e (inl k) =
        let s = reads_spaces.sound y (behind_spaces y) tt refl in
        let f = many_field made.1 (behind_spaces y) k in
        let tail : behind_spaces x ≡ 44 ∷ ((s.0 ++ f.0) ++ f.1) = e ∙ ap (λ l. 44 ∷ l) (s.1 ∙ ap (λ l. s.0 ++ l) f.3 ∙ sym (append_assoc s.0 f.0 f.1)) in (
          spaces.0 ++ (44 ∷ (s.0 ++ f.0)),
          f.1,
          spaces.1 ∙ ap (λ l. spaces.0 ++ l) tail ∙ sym (append_assoc spaces.0 (44 ∷ (s.0 ++ f.0)) f.1),
          inl (marked 44 (Excess_field made.1) spaces.0 s.0 f.0 (spaces.0 ++ (44 ∷ (s.0 ++ f.0))) tt refl spaces.2 s.2 f.5, f.4),
        )
    field y e (inr p) = absurd (let bad = p.2 in cc)

    never_start : (all : List (Description Value)) → IsNever (λ y. starting all (behind_spaces y))
    never_start all y k = never_bind read_head (λ s z. Ok (again (all, s), z)) never_head (λ s. never_ok (λ z. (again (all, s), z))) (behind_spaces y) k

    ended_here : (y : List ℕ) → expect 59 (behind_spaces x) ≡ Ok (tt, y) → finishing made y ≡ Err many → Part_here made x
    ended_here y e k =
        let c = (reads_byte 59).sound (behind_spaces x) y tt e in
        let semi : behind_spaces x ≡ 59 ∷ y = c.1 ∙ ap (λ l. l ++ y) c.2 in (
          spaces.0 ++ (59 ∷ []),
          y,
          spaces.1 ∙ ap (λ l. spaces.0 ++ l) semi ∙ sym (append_assoc spaces.0 (59 ∷ []) y),
          inr (over (bind_many (few_structures made y) (λ all. starting all.0 (behind_spaces all.1)) k), inl (spaces.0, 59 ∷ [], tt, refl, spaces.2, refl)),
        )
      where
        over : (few_structures made y ≡ Err many) ⊎ ((p : List (Description Value) × List ℕ) × (few_structures made y ≡ Ok p) × (starting p.0 (behind_spaces p.1) ≡ Err many)) → 64 ≤ length made.0
        over (inl k) = structures_passed made y k
        over (inr (p, e, k)) = absurd (never_start p.0 p.1 k)

    semicolon : (expect 59 (behind_spaces x) ≡ Err many) ⊎ ((p : Unit {0} × List ℕ) × (expect 59 (behind_spaces x) ≡ Ok p) × (finishing made p.1 ≡ Err many)) → Part_here made x
    semicolon (inl k) = absurd (never_byte 59 (behind_spaces x) k)
    semicolon (inr (p, e, k)) = ended_here p.1 e k

    go : (o : Option (List ℕ)) → after_byte 44 (behind_spaces x) ≡ o → more_from made (behind_spaces x) o ≡ Err many → Part_here made x
    go (Some y) e k = field y (after_byte_is 44 (behind_spaces x) y e) (bind_many (read_field made.1 (behind_spaces y)) (λ s. Ok (again (made.0, s.0), s.1)) k)
    go None e k = semicolon (bind_many (expect 59 (behind_spaces x)) (λ m. finishing made m.1) k)

caps_many : (made : Made) (x : List ℕ) → caps_step made x ≡ Err many → Part_here made x
unfolding caps_step
caps_many made x h = go (eqb (length x) 0) refl h
  where
    over : (few_structures made x ≡ Err many) ⊎ ((p : List (Description Value) × List ℕ) × (few_structures made x ≡ Ok p) × (◌≡◌ {A = Answer Outcome} (Ok (finished p.0, p.1)) (Err many))) → 64 ≤ length made.0
    over (inl k) = structures_passed made x k
    over (inr p) = absurd (let bad = p.2 in cc)

    go : (t : Bool) → eqb (length x) 0 ≡ t → cond {A = Answer Outcome} t (few_structures made x >>= λ all. Ok (finished all.0, all.1)) (read_more made x) ≡ Err many → Part_here made x
    go true e k = ([], [], no_length x e, inr (over (bind_many (few_structures made x) (λ all. Ok (finished all.0, all.1)) k), inr (refl, refl)))
    go false e k = more_many made x k

abbrev Rest_here : Made → List ℕ → Type 0
Rest_here start x = (front back rest : List ℕ) × (made : Made) × (x ≡ front ++ (back ++ rest)) × Passed (Caps_step_to None) start front made × Excess_part made back rest

rest_many : (n : ℕ) (s : Made) (x : List ℕ) → length x < n → repeat caps_step s x ≡ Err many → Rest_here s x
rest_many zero s x less h = absurd (omega (arith, less))
rest_many (suc n) s x less h = go (caps_step s x) refl (λ t y l k. rest_many n t y (omega (arith, l, less)) k)
  where
    on : (next : Outcome) (z : List ℕ) → caps_step s x ≡ Ok (next, z) → ((t : Made) (y : List ℕ) → length y < length x → repeat caps_step t y ≡ Err many → Rest_here t y) → Rest_here s x
    on (done v) z e ih = absurd (let bad : Ok (v, z) ≡ Err many = sym (repeat_done caps_step s v x z e) ∙ h in cc)
    on (again t) z e ih =
        let two = ih t z (shorter Caps_step all_bytes caps_step caps_is_step s t x z e) (sym (repeat_again Caps_step all_bytes caps_step caps_is_step s t x z e) ∙ h) in
        let one = caps_is_step.sound s x z (again t) e in
        (one.0 ++ two.0, two.1, two.2, two.3, one.1 ∙ ap (λ l. one.0 ++ l) two.4 ∙ sym (append_assoc one.0 two.0 (two.1 ++ two.2)), past s t two.3 one.0 two.0 (one.0 ++ two.0) refl (wider_caps s one.0 (again t) one.2) two.5, two.6)

    go : (a : Answer Outcome) → caps_step s x ≡ a → ((t : Made) (y : List ℕ) → length y < length x → repeat caps_step t y ≡ Err many → Rest_here t y) → Rest_here s x
    go (Err d) e ih =
        let one = caps_many s x (e ∙ ap Err (stopped {V = List (Description Value)} d many (sym (repeat_refused caps_step s x d e) ∙ h))) in
        ([], one.0, one.1, s, one.2, here s, one.3)
    go (Ok p) e ih = on p.0 p.1 e ih

only_excess : (text : List ℕ) → read_structures text ≡ Err many → HasExcess text
unfolding read_structures
only_excess text h = go (bind_many (read_head text) (λ s. repeat caps_step ([], s.0) s.1) h)
  where
    go : (read_head text ≡ Err many) ⊎ ((p : Description Value × List ℕ) × (read_head text ≡ Ok p) × (repeat caps_step ([], p.0) p.1 ≡ Err many)) → HasExcess text
    go (inl k) = absurd (never_head text k)
    go (inr (p, e, k)) =
        let one = reads_head.sound text p.1 p.0 e in
        let two = rest_many (length p.1 + 1) ([], p.0) p.1 (omega arith) k in
        let is : text ≡ ((one.0 ++ two.0) ++ two.1) ++ two.2 = one.1 ∙ ap (λ l. one.0 ++ l) two.4 ∙ sym (append_assoc one.0 two.0 (two.1 ++ two.2)) ∙ sym (append_assoc (one.0 ++ two.0) two.1 two.2) in
        ((one.0 ++ two.0) ++ two.1, two.2, is, (one.0 ++ two.0, two.1, two.3, refl, (one.0, two.0, p.0, refl, one.2, two.5), two.6))

many_no : {V : Type 0} (p : V) → ◌≡◌ {A = Result V Stop} (Ok p) (Err many) → ⊥
many_no p h = cc

pub told_excess : (text : List ℕ) (r : Result Caps CapsTextFault) → Told text r (read_structures text) → TellsExcess text r
told_excess text (Ok caps) h = λ e. many_no (h.0, h.1) (sym h.2 ∙ excess_told text e)
told_excess text (Err (BadCaps place)) h = λ e. let bad : misspelt h.0 ≡ many = stopped {V = List (Description Value)} (misspelt h.0) many (sym h.1 ∙ excess_told text e) in cc
told_excess text (Err (TooMany count)) h = (h.1, only_excess text h.0)
told_excess text (Err OutOfMemory) h = tt

-- the two words have no structures
word_few : (word text : List ℕ) → read_structures word ≡ Err (misspelt []) → text ≡ word → HasExcess text → ⊥
word_few word text e is h = let bad : misspelt [] ≡ many = stopped {V = List (Description Value)} (misspelt []) many (sym e ∙ ap read_structures (sym is) ∙ excess_told text h) in cc

pub any_few : (text : List ℕ) → text ≡ codes "ANY" → HasExcess text → ⊥
any_few text is h = word_few (codes "ANY") text read_any is h

pub empty_few : (text : List ℕ) → text ≡ codes "EMPTY" → HasExcess text → ⊥
empty_few text is h = word_few (codes "EMPTY") text read_empty is h
