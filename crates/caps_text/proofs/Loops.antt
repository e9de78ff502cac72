-- The two loops: a step of each passes a byte or is the last.
use Rattle.std.proofs.Common.{◌≡◌, ℕ, ◌<◌, ◌≤◌, ◌+◌, cond, List, [], ◌∷◌, length, zero, suc, Result, Ok, Err, inl, inr, sym, ap, ◌∙◌, subst, arith, length-append}
use Rattle.gst_value.specs.Description.{Description}
use Rattle.gst_value.specs.declared.one.One.{One}
use Rattle.gst_caps.specs.declared.value.Value.{Value}
use Rattle.caps_text.specs.Answers.{Answer, Gives, Refuses, Stop, many, misspelt, ◌>>=◌}
use Rattle.caps_text.specs.declared.fault.Refusal.{Refusal}
use Rattle.caps_text.specs.declared.fault.Refusal.TheVariants.{Misspelt as Misspelling, TooMany, OutOfMemory}
use Rattle.caps_text.specs.Grammar.{List_step, Caps_step}
use Rattle.caps_text.specs.Reading.{Made, Next, again, done, caps_step, few_structures, follow, kept_member, list_step, read_head, read_more, read_structures, repeat}
use Rattle.std.proofs.lemmas.Bool.{ne_eqb}
use Rattle.caps_text.specs.declared.kind.Kind.{Kind}
use Rattle.caps_text.proofs.Listed.{list_is_step}
use Rattle.caps_text.proofs.Readers.{bind_ok, nothing, ok_is}
use Rattle.caps_text.proofs.Repeats.{repeat_again, repeat_done, repeat_refused}
use Rattle.caps_text.proofs.Whole.{caps_is_step, all_bytes, done_reads}

-- one member more
pub list_again : (kind : Kind) (members more : List One) (x y : List ℕ) → list_step kind members x ≡ Ok (again more, y) → repeat (list_step kind) members x ≡ repeat (list_step kind) more y
list_again kind members more x y h = repeat_again (List_step kind) nothing (list_step kind) (list_is_step kind) members more x y h

pub list_few : (kind : Kind) (members more : List One) (x y : List ℕ) → list_step kind members x ≡ Ok (again more, y) → length more ≤ 64
list_few kind members more x y h = few ((list_is_step kind).sound members x y (again more) h).2
  where
    few : {text : List ℕ} → List_step kind members text (again more) → length more ≤ 64
    few (inl p) = absurd (let bad = p.1 in cc)
    few (inr p) = let e : again more ≡ again (kept_member members p.0) = p.3 in let is : more ≡ kept_member members p.0 = cc in subst (λ l. length l ≤ 64) (sym is) p.2

pub list_shorter : (kind : Kind) (members more : List One) (x y : List ℕ) → list_step kind members x ≡ Ok (again more, y) → length y < length x
list_shorter kind members more x y h =
    let f = (list_is_step kind).sound members x y (again more) h in
    let some = (list_is_step kind).passes members more f.0 f.2 in
    let sum = length-append f.0 y in
    subst (λ l. length y < length l) (sym f.1) (omega (arith, some, sum))

-- one part of the structures more
full_step : (made : Made) (x : List ℕ) (a : Answer (Next Made (List (Description Value)))) → 0 < length x → read_more made x ≡ a → caps_step made x ≡ a
unfolding caps_step
full_step made [] a some h = absurd (omega (arith, some))
full_step made (b ∷ bs) a some h = ap (λ t. cond {A = Answer (Next Made (List (Description Value)))} t (few_structures made (b ∷ bs) >>= λ all. Ok (done all.0, all.1)) (read_more made (b ∷ bs))) (ne_eqb (length (b ∷ bs)) 0 (λ e. omega (arith, e))) ∙ h

pub caps_again : (made more : Made) (x y : List ℕ) → 0 < length x → read_more made x ≡ Ok (again more, y) → repeat caps_step made x ≡ repeat caps_step more y
caps_again made more x y some h = repeat_again Caps_step all_bytes caps_step caps_is_step made more x y (full_step made x (Ok (again more, y)) some h)

pub caps_refused : (made : Made) (x : List ℕ) (e : Stop) → 0 < length x → read_more made x ≡ Err e → repeat caps_step made x ≡ Err e
caps_refused made x e some h = repeat_refused caps_step made x e (full_step made x (Err e) some h)

pub caps_shorter : (made more : Made) (x y : List ℕ) → 0 < length x → read_more made x ≡ Ok (again more, y) → length y < length x
caps_shorter made more x y some h =
    let f = caps_is_step.sound made x y (again more) (full_step made x (Ok (again more, y)) some h) in
    let less = caps_is_step.passes made more f.0 f.2 in
    let sum = length-append f.0 y in
    subst (λ l. length y < length l) (sym f.1) (omega (arith, less, sum))

pub caps_finished : (made : Made) (x : List ℕ) (all : List (Description Value)) (y : List ℕ) → length x ≡ 0 → few_structures made x ≡ Ok (all, y) → repeat caps_step made x ≡ Ok (all, y)
unfolding caps_step
caps_finished made [] all y none h = repeat_done caps_step made all [] y (ap (λ a. a >>= λ p. Ok (done p.0, p.1)) h)
caps_finished made (b ∷ bs) all y none h = absurd (omega (arith, none))

caps_over : (made : Made) (x : List ℕ) (e : Stop) → length x ≡ 0 → few_structures made x ≡ Err e → repeat caps_step made x ≡ Err e
unfolding caps_step
caps_over made [] e none h = repeat_refused caps_step made [] e (ap (λ a. a >>= λ p. Ok (done p.0, p.1)) h)
caps_over made (b ∷ bs) e none h = absurd (omega (arith, none))

-- a refusal is handed on
pub refused_too : {A B : Type 0} (e : Refusal) (rest : List ℕ) (a : Answer A) (b : Answer B) → ((s : Stop) → a ≡ Err s → b ≡ Err s) → Refuses e rest a → Refuses e rest b
refused_too Misspelling rest a b f h = f (misspelt rest) h
refused_too TooMany rest a b f h = f many h
refused_too OutOfMemory rest a b f h = tt

pub list_refused : (kind : Kind) (members : List One) (x : List ℕ) (e : Stop) → list_step kind members x ≡ Err e → repeat (list_step kind) members x ≡ Err e
list_refused kind members x e h = repeat_refused (list_step kind) members x e h

pub list_done : (kind : Kind) (members all : List One) (x y : List ℕ) → list_step kind members x ≡ Ok (done all, y) → repeat (list_step kind) members x ≡ Ok (all, y)
list_done kind members all x y h = repeat_done (list_step kind) members all x y h

-- the end of the text
pub gives_end : (r : Result (List (Description Value)) Refusal) (made : Made) (x : List ℕ) → length x ≡ 0 → Gives (λ z. z) r x (few_structures made x) → Gives (λ z. z) r x (repeat caps_step made x)
gives_end (Ok all) made x none h = caps_finished made x all x none h
gives_end (Err e) made x none h = refused_too e x (few_structures made x) (repeat caps_step made x) (λ s k. caps_over made x s none k) h

pub gives_same : {A B : Type 0} (f : A → B) (r : Result A Refusal) (rest : List ℕ) (a b : Answer B) → a ≡ b → Gives f r rest a → Gives f r rest b
gives_same f r rest a b e h = subst (Gives f r rest) e h

-- all of the text is read
all_read : (n : ℕ) (made : Made) (x rest : List ℕ) (v : List (Description Value)) → follow caps_step n x (again made) ≡ Ok (v, rest) → rest ≡ []
all_read zero made x rest v h = absurd (cc)
all_read (suc n) made x rest v h =
    let b = bind_ok (caps_step made x) (λ a. follow caps_step n a.1 a.0) (v, rest) h in
    go b.0.0 b.0.1 b.1 b.2 (λ t y k. all_read n t y rest v k)
  where
    go : (next : Next Made (List (Description Value))) (y : List ℕ) → caps_step made x ≡ Ok (next, y) → follow caps_step n y next ≡ Ok (v, rest) → ((t : Made) (z : List ℕ) → follow caps_step n z (again t) ≡ Ok (v, rest) → rest ≡ []) → rest ≡ []
    go (done w) y one k ih = sym (ap (λ p. p.1) (ok_is (w, y) (v, rest) k)) ∙ done_reads made x y w one
    go (again t) y one k ih = ih t y k

pub structures_all : (x rest : List ℕ) (v : List (Description Value)) → read_structures x ≡ Ok (v, rest) → rest ≡ []
unfolding read_structures repeat
structures_all x rest v h =
    let b = bind_ok (read_head x) (λ s. repeat caps_step ([], s.0) s.1) (v, rest) h in
    all_read (length b.0.1 + 1) ([], b.0.0) b.0.1 rest v b.2
