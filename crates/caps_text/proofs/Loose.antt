-- What a text stands for, limits aside, is read, or there are too many of a kind.
use Rattle.std.proofs.Common.{◌≡◌, ℕ, zero, suc, ◌<◌, ◌+◌, Bool, true, false, cond, List, ◌∷◌, ◌++◌, length, Option, Some, None, Ok, Err, inl, inr, ◌⊎◌, refl, sym, ap, ◌∙◌, subst, arith, append_assoc, length-append}
use Rattle.std.specs.Prelude.{is_some}
use Rattle.caps_text.specs.Answers.{Answer, Stop, many, ◌>>=◌}
use Rattle.caps_text.specs.Grammar.{Then, As, Repeated, last, more}
use Rattle.caps_text.specs.Reading.{Next, again, done, after_byte, begins, follow, repeat}
use Rattle.caps_text.proofs.Choices.{Behind, is_byte, lacks_byte, starts_apart}
use Rattle.caps_text.proofs.Readers.{IsReader, Stops, Starts}
use Rattle.caps_text.proofs.Words.{passes}

-- this answer, or too many
abbrev pub Or_many : {V : Type 0} → Answer V → Answer V → Type 0
Or_many a b = (a ≡ b) ⊎ (a ≡ Err many)

abbrev pub IsLoose : {V : Type 0} → (List ℕ → V → Type 0) → (ℕ → Bool) → (List ℕ → Answer V) → Type 0
IsLoose {V} P test r = (used rest : List ℕ) (v : V) → P used v → Stops test rest → Or_many (r (used ++ rest)) (Ok (v, rest))

pub or_from : {V : Type 0} (a b c : Answer V) → a ≡ b → Or_many b c → Or_many a c
or_from a b c e (inl h) = inl (e ∙ h)
or_from a b c e (inr h) = inr (e ∙ h)

pub or_bind : {V W : Type 0} (a : Answer V) (f : V × List ℕ → Answer W) (p : V × List ℕ) (b : Answer W) → Or_many a (Ok p) → Or_many (f p) b → Or_many (a >>= f) b
or_bind a f p b (inl e) h = or_from (a >>= f) (f p) b (ap (λ a. a >>= f) e) h
or_bind a f p b (inr e) h = inr (ap (λ a. a >>= f) e)

pub of_reader : {V : Type 0} (P : List ℕ → V → Type 0) (test : ℕ → Bool) (r : List ℕ → Answer V) → IsReader P test r → IsLoose P test r
of_reader P test r first used rest v p stop = inl (first.complete used rest v p stop)

pub loose_then : {V W : Type 0} (P : List ℕ → V → Type 0) (Q : V → List ℕ → W → Type 0) (f g : ℕ → Bool) (r : List ℕ → Answer V) (s : V → List ℕ → Answer W) → IsLoose P f r → ((v : V) → IsLoose (Q v) g (s v)) → ((v : V) (back : List ℕ) (w : W) (rest : List ℕ) → Q v back w → Stops g rest → Stops f (back ++ rest)) → IsLoose (Then P Q) g (λ x. r x >>= λ a. s a.0 a.1)
loose_then P Q f g r s first second apart used rest w h stop =
    let split : used ++ rest ≡ h.0 ++ (h.1 ++ rest) = ap (λ l. l ++ rest) h.3 ∙ append_assoc h.0 h.1 rest in
    or_from (r (used ++ rest) >>= λ a. s a.0 a.1) (r (h.0 ++ (h.1 ++ rest)) >>= λ a. s a.0 a.1) (Ok (w, rest)) (ap (λ l. r l >>= λ a. s a.0 a.1) split)
    (or_bind (r (h.0 ++ (h.1 ++ rest))) (λ a. s a.0 a.1) (h.2, h.1 ++ rest) (Ok (w, rest)) (first h.0 (h.1 ++ rest) h.2 h.4 (apart h.2 h.1 w rest h.5 stop)) (second h.2 h.1 rest w h.5 stop))

pub loose_as : {V W : Type 0} (f : V → W) (P : List ℕ → V → Type 0) (test : ℕ → Bool) (r : List ℕ → Answer V) → IsLoose P test r → IsLoose (As f P) test (λ x. r x >>= λ a. Ok (f a.0, a.1))
loose_as f P test r first used rest w h stop = or_bind (r (used ++ rest)) (λ a. Ok (f a.0, a.1)) (h.0, rest) (Ok (w, rest)) (first used rest h.0 h.1 stop) (inl (ap (λ z. Ok (z, rest)) (sym h.2)))

or_cond : {V : Type 0} (t : Bool) (a : Answer V) → Or_many (cond t (Err many) a) a
or_cond true a = inr refl
or_cond false a = inl refl

or_more : {V : Type 0} (a b c : Answer V) → b ≡ c → Or_many a b → Or_many a c
or_more a b c e (inl h) = inl (h ∙ e)
or_more a b c e (inr h) = inr h

pub loose_within : {V W : Type 0} (over : V → Bool) (f : V → W) (P : List ℕ → V → Type 0) (test : ℕ → Bool) (r : List ℕ → Answer V) → IsLoose P test r → IsLoose (As f P) test (λ x. r x >>= λ a. cond (over a.0) (Err many) (Ok (f a.0, a.1)))
loose_within over f P test r first used rest w h stop = or_bind (r (used ++ rest)) (λ a. cond (over a.0) (Err many) (Ok (f a.0, a.1))) (h.0, rest) (Ok (w, rest)) (first used rest h.0 h.1 stop) (or_more (cond (over h.0) (Err many) (Ok (f h.0, rest))) (Ok (f h.0, rest)) (Ok (w, rest)) (ap (λ z. Ok (z, rest)) (sym h.2)) (or_cond (over h.0) (Ok (f h.0, rest))))

-- where too many were before, nothing is read
pub loose_limited : {V : Type 0} (t : Bool) (P : List ℕ → V → Type 0) (test : ℕ → Bool) (r : List ℕ → Answer V) → IsLoose P test r → IsLoose P test (λ x. cond t (Err many) (r x))
loose_limited true P test r first used rest v p stop = inr refl
loose_limited false P test r first used rest v p stop = first used rest v p stop

pub loose_guarded : {V : Type 0} (P : List ℕ → V → Type 0) (test : ℕ → Bool) (r : List ℕ → Answer V) (b : Bool) (e : List ℕ → Stop) → IsLoose P test r → IsLoose (λ text w. (b ≡ false) × P text w) test (λ x. cond {A = Answer V} b (Err (e x)) (r x))
loose_guarded {V} P test r b e first used rest v h stop = or_from (cond {A = Answer V} b (Err (e (used ++ rest))) (r (used ++ rest))) (r (used ++ rest)) (Ok (v, rest)) (ap (λ t. cond {A = Answer V} t (Err (e (used ++ rest))) (r (used ++ rest))) h.0) (first used rest v h.1 stop)

pub loose_choice : {V : Type 0} (m : ℕ) (P Q : List ℕ → V → Type 0) (test : ℕ → Bool) (r s : List ℕ → Answer V) (from : List ℕ → Option (List ℕ) → Answer V) → IsLoose P test r → IsLoose Q test s → ((used : List ℕ) (v : V) → Q used v → Starts (is_byte m) used) → ((x y : List ℕ) → from x (Some y) ≡ r y) → ((x : List ℕ) → from x None ≡ s x) → IsLoose (λ text w. Behind m P text w ⊎ Q text w) test (λ x. from x (after_byte m x))
loose_choice m P Q test r s from first second apart is else used rest v (inl h) stop =
    or_from (from (used ++ rest) (after_byte m (used ++ rest))) (r (h.0 ++ rest)) (Ok (v, rest))
    (ap (λ l. from (l ++ rest) (after_byte m (l ++ rest))) h.1 ∙ ap (from (m ∷ (h.0 ++ rest))) (passes m (h.0 ++ rest)) ∙ is (m ∷ (h.0 ++ rest)) (h.0 ++ rest))
    (first h.0 rest v h.2 stop)
loose_choice m P Q test r s from first second apart is else used rest v (inr h) stop =
    or_from (from (used ++ rest) (after_byte m (used ++ rest))) (s (used ++ rest)) (Ok (v, rest))
    (ap (from (used ++ rest)) (lacks_byte m (used ++ rest) (starts_apart (is_byte m) used rest (apart used v h))) ∙ else (used ++ rest))
    (second used rest v h stop)

pub loose_begun : {V : Type 0} (m : ℕ) (P Q : List ℕ → V → Type 0) (test : ℕ → Bool) (r s : List ℕ → Answer V) → IsLoose P test r → IsLoose Q test s → ((used : List ℕ) (v : V) → P used v → (back : List ℕ) × (used ≡ m ∷ back)) → ((used : List ℕ) (v : V) → Q used v → Starts (is_byte m) used) → IsLoose (λ text w. P text w ⊎ Q text w) test (λ x. cond (begins m x) (r x) (s x))
loose_begun m P Q test r s first second with apart used rest v (inl h) stop =
    let b = with used v h in
    let yes : begins m (used ++ rest) ≡ true = ap (λ l. is_some (after_byte m (l ++ rest))) b.1 ∙ ap is_some (passes m (b.0 ++ rest)) in
    or_from (cond (begins m (used ++ rest)) (r (used ++ rest)) (s (used ++ rest))) (r (used ++ rest)) (Ok (v, rest)) (ap (λ t. cond t (r (used ++ rest)) (s (used ++ rest))) yes) (first used rest v h stop)
loose_begun m P Q test r s first second with apart used rest v (inr h) stop =
    let no : begins m (used ++ rest) ≡ false = ap is_some (lacks_byte m (used ++ rest) (starts_apart (is_byte m) used rest (apart used v h))) in
    or_from (cond (begins m (used ++ rest)) (r (used ++ rest)) (s (used ++ rest))) (s (used ++ rest)) (Ok (v, rest)) (ap (λ t. cond t (r (used ++ rest)) (s (used ++ rest))) no) (second used rest v h stop)

-- the same part in other words, and the same reader
pub loose_if : {V : Type 0} (P Q : List ℕ → V → Type 0) (test : ℕ → Bool) (r : List ℕ → Answer V) → ((text : List ℕ) (v : V) → Q text v → P text v) → IsLoose P test r → IsLoose Q test r
loose_if P Q test r back first used rest v q stop = first used rest v (back used v q) stop

pub loose_same : {V : Type 0} (P : List ℕ → V → Type 0) (test : ℕ → Bool) (r s : List ℕ → Answer V) → ((x : List ℕ) → s x ≡ r x) → IsLoose P test r → IsLoose P test s
loose_same P test r s e first used rest v p stop = or_from (s (used ++ rest)) (r (used ++ rest)) (Ok (v, rest)) (e (used ++ rest)) (first used rest v p stop)

-- a step again and again
pub record IsLooseStep {S V : Type 0} (Step : S → List ℕ → Next S V → Type 0) (end : ℕ → Bool) (step : S → List ℕ → Answer (Next S V)) : Type 0 where
  pub passes : (s t : S) (text : List ℕ) → Step s text (again t) → 0 < length text
  pub goes_on : (s t : S) (front back rest : List ℕ) (v : V) → Step s front (again t) → Repeated Step t back v → Stops end rest → Or_many (step s (front ++ (back ++ rest))) (Ok (again t, back ++ rest))
  pub ends : (s : S) (front rest : List ℕ) (v : V) → Step s front (done v) → Stops end rest → Or_many (step s (front ++ rest)) (Ok (done v, rest))

module _ {S V : Type 0} (Step : S → List ℕ → Next S V → Type 0) (end : ℕ → Bool) (step : S → List ℕ → Answer (Next S V)) (is : IsLooseStep Step end step) where
  follow_loose : (n : ℕ) (s : S) (used rest : List ℕ) (v : V) → Repeated Step s used v → Stops end rest → length (used ++ rest) < n → Or_many (follow step n (used ++ rest) (again s)) (Ok (v, rest))
  follow_loose zero s used rest v h stop less = absurd (omega (arith, less))
  follow_loose (suc n) _ _ rest _ (last s text v d) stop less = or_bind (step s (text ++ rest)) (λ p. follow step n p.1 p.0) (done v, rest) (Ok (v, rest)) (is.ends s text rest v d stop) (inl refl)
  follow_loose (suc n) _ _ rest _ (more s t front back text v e d later) stop less =
      let split : text ++ rest ≡ front ++ (back ++ rest) = ap (λ l. l ++ rest) e ∙ append_assoc front back rest in
      let some = is.passes s t front d in
      let sum = length-append front (back ++ rest) in
      let fewer : length (front ++ (back ++ rest)) < suc n = subst (λ l. length l < suc n) split less in
      or_from (step s (text ++ rest) >>= λ p. follow step n p.1 p.0) (step s (front ++ (back ++ rest)) >>= λ p. follow step n p.1 p.0) (Ok (v, rest)) (ap (λ l. step s l >>= λ p. follow step n p.1 p.0) split)
      (or_bind (step s (front ++ (back ++ rest))) (λ p. follow step n p.1 p.0) (again t, back ++ rest) (Ok (v, rest)) (is.goes_on s t front back rest v d later stop) (follow_loose n t back rest v later stop (omega (arith, some, sum, fewer))))

  pub loose_repeat : (s : S) → IsLoose (Repeated Step s) end (repeat step s)
  unfolding repeat
  loose_repeat s used rest v h stop = follow_loose (length (used ++ rest) + 1) s used rest v h stop (omega arith)
