-- Readers with a limit, and readers of a step again and again.
use Rattle.std.proofs.Common.{◌≡◌, ℕ, zero, suc, ◌<◌, ◌+◌, Bool, true, false, cond, List, ◌++◌, length, Ok, Err, refl, sym, ap, ◌∙◌, subst, arith, append_assoc, length-append}
use Rattle.caps_text.specs.Answers.{Answer, Stop, many, ◌>>=◌}
use Rattle.caps_text.specs.Grammar.{Repeated, last, more}
use Rattle.caps_text.specs.Reading.{Next, again, done, follow, repeat}
use Rattle.caps_text.proofs.Readers.{IsReader, Reads_front, Stops, ok_is, bind_ok}

-- a part whose value is within a limit
abbrev pub Within : {V W : Type 0} → (V → Bool) → (V → W) → (List ℕ → V → Type 0) → List ℕ → W → Type 0
Within {V} over f P text w = (v : V) × P text v × (over v ≡ false) × (w ≡ f v)

module _ {V W : Type 0} (over : V → Bool) (f : V → W) (P : List ℕ → V → Type 0) (test : ℕ → Bool) (r : List ℕ → Answer V) (first : IsReader P test r) where
  within_sound : (x rest : List ℕ) (w : W) → (r x >>= λ a. cond (over a.0) (Err many) (Ok (f a.0, a.1))) ≡ Ok (w, rest) → Reads_front (Within over f P) x w rest
  within_sound x rest w h =
      let b = bind_ok (r x) (λ a. cond (over a.0) (Err many) (Ok (f a.0, a.1))) (w, rest) h in
      let one = first.sound x b.0.1 b.0.0 b.1 in
      step b.0.0 b.0.1 (over b.0.0) refl one b.2
    where
      step : (v : V) (y : List ℕ) (t : Bool) → over v ≡ t → Reads_front P x v y → cond {A = Answer W} t (Err many) (Ok (f v, y)) ≡ Ok (w, rest) → Reads_front (Within over f P) x w rest
      step v y true e one k = absurd (cc)
      step v y false e one k = let is = ok_is (f v, y) (w, rest) k in (one.0, one.1 ∙ ap (λ p. one.0 ++ p.1) is, (v, one.2, e, sym (ap (λ p. p.0) is)))

  within_complete : (used rest : List ℕ) (w : W) → Within over f P used w → Stops test rest → (r (used ++ rest) >>= λ a. cond (over a.0) (Err many) (Ok (f a.0, a.1))) ≡ Ok (w, rest)
  within_complete used rest w h stop =
      ap (λ a. a >>= λ p. cond {A = Answer W} (over p.0) (Err many) (Ok (f p.0, p.1))) (first.complete used rest h.0 h.1 stop)
      ∙ ap (λ t. cond {A = Answer W} t (Err many) (Ok (f h.0, rest))) h.2
      ∙ ap (λ z. Ok (z, rest)) (sym h.3)

  pub reads_within : IsReader (Within over f P) test (λ x. r x >>= λ a. cond (over a.0) (Err many) (Ok (f a.0, a.1)))
  reads_within = record { sound = within_sound; complete = within_complete }

-- a step again and again
pub record IsStep {S V : Type 0} (Step : S → List ℕ → Next S V → Type 0) (end : ℕ → Bool) (step : S → List ℕ → Answer (Next S V)) : Type 0 where
  pub sound : (s : S) (x rest : List ℕ) (n : Next S V) → step s x ≡ Ok (n, rest) → Reads_front (Step s) x n rest
  pub passes : (s t : S) (text : List ℕ) → Step s text (again t) → 0 < length text
  pub goes_on : (s t : S) (front back rest : List ℕ) (v : V) → Step s front (again t) → Repeated Step t back v → Stops end rest → step s (front ++ (back ++ rest)) ≡ Ok (again t, back ++ rest)
  pub ends : (s : S) (front rest : List ℕ) (v : V) → Step s front (done v) → Stops end rest → step s (front ++ rest) ≡ Ok (done v, rest)

module _ {S V : Type 0} (Step : S → List ℕ → Next S V → Type 0) (end : ℕ → Bool) (step : S → List ℕ → Answer (Next S V)) (is : IsStep Step end step) where
  follow_sound : (n : ℕ) (s : S) (x rest : List ℕ) (v : V) → follow step n x (again s) ≡ Ok (v, rest) → Reads_front (Repeated Step s) x v rest
  follow_sound zero s x rest v h = absurd (cc)
  follow_sound (suc n) s x rest v h =
      let b = bind_ok (step s x) (λ a. follow step n a.1 a.0) (v, rest) h in
      go b.0.0 b.0.1 (is.sound s x b.0.1 b.0.0 b.1) b.2 (λ t y k. follow_sound n t y rest v k)
    where
      go : (next : Next S V) (y : List ℕ) → Reads_front (Step s) x next y → follow step n y next ≡ Ok (v, rest) → ((t : S) (z : List ℕ) → follow step n z (again t) ≡ Ok (v, rest) → Reads_front (Repeated Step t) z v rest) → Reads_front (Repeated Step s) x v rest
      go (done w) y one k ih =
          let e = ok_is (w, y) (v, rest) k in
          (one.0, one.1 ∙ ap (λ p. one.0 ++ p.1) e, last s one.0 v (subst (λ z. Step s one.0 (done z)) (ap (λ p. p.0) e) one.2))
      go (again t) y one k ih =
          let two = ih t y k in
          (one.0 ++ two.0, one.1 ∙ ap (λ l. one.0 ++ l) two.1 ∙ sym (append_assoc one.0 two.0 rest), more s t one.0 two.0 (one.0 ++ two.0) v refl one.2 two.2)

  follow_complete : (n : ℕ) (s : S) (used rest : List ℕ) (v : V) → Repeated Step s used v → Stops end rest → length (used ++ rest) < n → follow step n (used ++ rest) (again s) ≡ Ok (v, rest)
  follow_complete zero s used rest v h stop less = absurd (omega (arith, less))
  follow_complete (suc n) _ _ rest _ (last s text v d) stop less = ap (λ a. a >>= λ p. follow step n p.1 p.0) (is.ends s text rest v d stop)
  follow_complete (suc n) _ _ rest _ (more s t front back text v e d later) stop less =
      let split : text ++ rest ≡ front ++ (back ++ rest) = ap (λ l. l ++ rest) e ∙ append_assoc front back rest in
      let some = is.passes s t front d in
      let sum = length-append front (back ++ rest) in
      let fewer : length (front ++ (back ++ rest)) < suc n = subst (λ l. length l < suc n) split less in
      ap (λ l. step s l >>= λ p. follow step n p.1 p.0) split
      ∙ ap (λ a. a >>= λ p. follow step n p.1 p.0) (is.goes_on s t front back rest v d later stop)
      ∙ follow_complete n t back rest v later stop (omega (arith, some, sum, fewer))

  pub reads_repeat : (s : S) → IsReader (Repeated Step s) end (repeat step s)
  unfolding repeat
  reads_repeat s = record {
    sound = λ x rest v h. follow_sound (length x + 1) s x rest v h;
    complete = λ used rest v h stop. follow_complete (length (used ++ rest) + 1) s used rest v h stop (omega arith);
  }

  -- more steps are allowed than needed
  pub shorter : (s t : S) (x y : List ℕ) → step s x ≡ Ok (again t, y) → length y < length x
  shorter s t x y h =
      let f = is.sound s x y (again t) h in
      let some = is.passes s t f.0 f.2 in
      let sum = length-append f.0 y in
      subst (λ l. length y < length l) (sym f.1) (omega (arith, some, sum))

  enough : (m n : ℕ) (s : S) (x : List ℕ) → length x < m → length x < n → follow step m x (again s) ≡ follow step n x (again s)
  enough zero n s x h k = absurd (omega (arith, h))
  enough (suc m) zero s x h k = absurd (omega (arith, k))
  enough (suc m) (suc n) s x h k = go (step s x) refl (λ t y l p q. enough m n t y p q)
    where
      go : (a : Answer (Next S V)) → step s x ≡ a → ((t : S) (y : List ℕ) → length y < length x → length y < m → length y < n → follow step m y (again t) ≡ follow step n y (again t)) → (a >>= λ p. follow step m p.1 p.0) ≡ (a >>= λ p. follow step n p.1 p.0)
      go (Err e) h ih = refl
      go (Ok p) e ih = by p.0 p.1 e
        where
          by : (next : Next S V) (y : List ℕ) → step s x ≡ Ok (next, y) → follow step m y next ≡ follow step n y next
          by (done w) y e = refl
          by (again t) y e = let l = shorter s t x y e in ih t y l (omega (arith, l, h)) (omega (arith, l, k))

  pub repeat_again : (s t : S) (x y : List ℕ) → step s x ≡ Ok (again t, y) → repeat step s x ≡ repeat step t y
  unfolding repeat
  repeat_again s t x y h =
      let l = shorter s t x y h in
      let suc_is : length x + 1 ≡ suc (length x) = omega arith in
      ap (λ n. follow step n x (again s)) suc_is ∙ ap (λ a. a >>= λ p. follow step (length x) p.1 p.0) h ∙ enough (length x) (length y + 1) t y l (omega arith)

pub repeat_done : {S V : Type 0} (step : S → List ℕ → Answer (Next S V)) (s : S) (v : V) (x y : List ℕ) → step s x ≡ Ok (done v, y) → repeat step s x ≡ Ok (v, y)
unfolding repeat
repeat_done step s v x y h =
    let suc_is : length x + 1 ≡ suc (length x) = omega arith in
    ap (λ n. follow step n x (again s)) suc_is ∙ ap (λ a. a >>= λ p. follow step (length x) p.1 p.0) h

pub repeat_refused : {S V : Type 0} (step : S → List ℕ → Answer (Next S V)) (s : S) (x : List ℕ) (e : Stop) → step s x ≡ Err e → repeat step s x ≡ Err e
unfolding repeat
repeat_refused step s x e h =
    let suc_is : length x + 1 ≡ suc (length x) = omega arith in
    ap (λ n. follow step n x (again s)) suc_is ∙ ap (λ a. a >>= λ p. follow step (length x) p.1 p.0) h
