-- Readers of parts: what they read is in the grammar, and nothing in it is refused.
use Rattle.std.proofs.Common.{◌≡◌, ℕ, Bool, false, List, [], ◌∷◌, ◌++◌, Option, Some, None, Result, Ok, Err, refl, sym, ap, ◌∙◌, append_assoc}
use Rattle.caps_text.specs.Answers.{Answer, ◌>>=◌, found}
use Rattle.caps_text.specs.Grammar.{Then, As, Sure}

pub ok_is : {A B : Type 0} (x y : A) → ◌≡◌ {A = Result A B} (Ok x) (Ok y) → x ≡ y
ok_is x y h = cc

pub bind_ok : {V W : Type 0} (a : Answer V) (f : V × List ℕ → Answer W) (y : W × List ℕ) → (a >>= f) ≡ Ok y → (p : V × List ℕ) × (a ≡ Ok p) × (f p ≡ Ok y)
bind_ok (Ok p) f y h = (p, refl, h)
bind_ok (Err e) f y h = absurd (cc)

-- what a front that was read stands for
abbrev pub Reads_front : {V : Type 0} → (List ℕ → V → Type 0) → List ℕ → V → List ℕ → Type 0
Reads_front P x v rest = (used : List ℕ) × (x ≡ used ++ rest) × P used v

-- the rest does not go on with a byte of this kind
abbrev pub Stops : (ℕ → Bool) → List ℕ → Type 0
Stops test [] = Unit {0}
Stops test (b ∷ bs) = test b ≡ false

-- a text begins with a byte that is not of this kind
abbrev pub Starts : (ℕ → Bool) → List ℕ → Type 0
Starts test [] = ⊥
Starts test (b ∷ bs) = test b ≡ false

abbrev pub nothing : ℕ → Bool
nothing b = false

-- what is read is a front of the text that stands for the value, and a text that stands for a value is read where what
-- follows does not go on with a byte of this kind
pub record IsReader {V : Type 0} (P : List ℕ → V → Type 0) (test : ℕ → Bool) (read : List ℕ → Answer V) : Type 0 where
  pub sound : (x rest : List ℕ) (v : V) → read x ≡ Ok (v, rest) → Reads_front P x v rest
  pub complete : (used rest : List ℕ) (v : V) → P used v → Stops test rest → read (used ++ rest) ≡ Ok (v, rest)

pub stops_nothing : (rest : List ℕ) → Stops nothing rest
stops_nothing [] = tt
stops_nothing (b ∷ bs) = refl

pub starts_stop : (test : ℕ → Bool) (back rest : List ℕ) → Starts test back → Stops test (back ++ rest)
starts_stop test [] rest h = absurd h
starts_stop test (b ∷ bs) rest h = h

pub starts_more : (test : ℕ → Bool) (xs ys : List ℕ) → Starts test xs → Starts test (xs ++ ys)
starts_more test [] ys h = absurd h
starts_more test (x ∷ xs) ys h = h

-- one part and then another, which begins with no byte with which the first could go on
module _ {V W : Type 0} (P : List ℕ → V → Type 0) (Q : V → List ℕ → W → Type 0) (f g : ℕ → Bool) (r : List ℕ → Answer V) (s : V → List ℕ → Answer W) (first : IsReader P f r) (second : (v : V) → IsReader (Q v) g (s v)) (apart : (v : V) (back : List ℕ) (w : W) (rest : List ℕ) → Q v back w → Stops g rest → Stops f (back ++ rest)) where
  then_sound : (x rest : List ℕ) (w : W) → (r x >>= λ a. s a.0 a.1) ≡ Ok (w, rest) → Reads_front (Then P Q) x w rest
  then_sound x rest w h =
      let b = bind_ok (r x) (λ a. s a.0 a.1) (w, rest) h in
      let one = first.sound x b.0.1 b.0.0 b.1 in
      let two = (second b.0.0).sound b.0.1 rest w b.2 in
      (one.0 ++ two.0, one.1 ∙ ap (λ l. one.0 ++ l) two.1 ∙ sym (append_assoc one.0 two.0 rest), (one.0, two.0, b.0.0, refl, one.2, two.2))

  then_complete : (used rest : List ℕ) (w : W) → Then P Q used w → Stops g rest → (r (used ++ rest) >>= λ a. s a.0 a.1) ≡ Ok (w, rest)
  then_complete used rest w h stop =
      let split : used ++ rest ≡ h.0 ++ (h.1 ++ rest) = ap (λ l. l ++ rest) h.3 ∙ append_assoc h.0 h.1 rest in
      let one = first.complete h.0 (h.1 ++ rest) h.2 h.4 (apart h.2 h.1 w rest h.5 stop) in
      rw split (rw one ((second h.2).complete h.1 rest w h.5 stop))

  pub reads_then : IsReader (Then P Q) g (λ x. r x >>= λ a. s a.0 a.1)
  reads_then = record { sound = then_sound; complete = then_complete }

module _ {V W : Type 0} (f : V → W) (P : List ℕ → V → Type 0) (test : ℕ → Bool) (r : List ℕ → Answer V) (first : IsReader P test r) where
  as_sound : (x rest : List ℕ) (w : W) → (r x >>= λ a. Ok (f a.0, a.1)) ≡ Ok (w, rest) → Reads_front (As f P) x w rest
  as_sound x rest w h =
      let b = bind_ok (r x) (λ a. Ok (f a.0, a.1)) (w, rest) h in
      let e = ok_is (f b.0.0, b.0.1) (w, rest) b.2 in
      let one = first.sound x b.0.1 b.0.0 b.1 in
      (one.0, one.1 ∙ ap (λ p. one.0 ++ p.1) e, (b.0.0, one.2, sym (ap (λ p. p.0) e)))

  as_complete : (used rest : List ℕ) (w : W) → As f P used w → Stops test rest → (r (used ++ rest) >>= λ a. Ok (f a.0, a.1)) ≡ Ok (w, rest)
  as_complete used rest w h stop = rw (first.complete used rest h.0 h.1 stop) (ap (λ z. Ok (z, rest)) (sym h.2))

  pub reads_as : IsReader (As f P) test (λ x. r x >>= λ a. Ok (f a.0, a.1))
  reads_as = record { sound = as_sound; complete = as_complete }

pub found_ok : {W : Type 0} (o : Option W) (rest : List ℕ) (p : W × List ℕ) → found o rest ≡ Ok p → (o ≡ Some p.0) × (rest ≡ p.1)
found_ok None rest p h = absurd (cc)
found_ok (Some w) rest p h = let e = ok_is (w, rest) p h in (ap (λ q. Some q.0) e, ap (λ q. q.1) e)

module _ {V W : Type 0} (f : V → Option W) (P : List ℕ → V → Type 0) (test : ℕ → Bool) (r : List ℕ → Answer V) (first : IsReader P test r) where
  sure_sound : (x rest : List ℕ) (w : W) → (r x >>= λ a. found (f a.0) a.1) ≡ Ok (w, rest) → Reads_front (Sure f P) x w rest
  sure_sound x rest w h =
      let b = bind_ok (r x) (λ a. found (f a.0) a.1) (w, rest) h in
      let e = found_ok (f b.0.0) b.0.1 (w, rest) b.2 in
      let one = first.sound x b.0.1 b.0.0 b.1 in
      (one.0, one.1 ∙ ap (λ l. one.0 ++ l) e.1, (b.0.0, one.2, e.0))

  sure_complete : (used rest : List ℕ) (w : W) → Sure f P used w → Stops test rest → (r (used ++ rest) >>= λ a. found (f a.0) a.1) ≡ Ok (w, rest)
  sure_complete used rest w h stop = rw (first.complete used rest h.0 h.1 stop) (rw h.2 refl)

  pub reads_sure : IsReader (Sure f P) test (λ x. r x >>= λ a. found (f a.0) a.1)
  reads_sure = record { sound = sure_sound; complete = sure_complete }

-- what follows may be known to stop at more
pub reads_weaker : {V : Type 0} (P : List ℕ → V → Type 0) (f g : ℕ → Bool) (r : List ℕ → Answer V) → ((rest : List ℕ) → Stops g rest → Stops f rest) → IsReader P f r → IsReader P g r
reads_weaker P f g r h first = record { sound = first.sound; complete = λ used rest v p stop. first.complete used rest v p (h rest stop) }

pub reads_any : {V : Type 0} (P : List ℕ → V → Type 0) (g : ℕ → Bool) (r : List ℕ → Answer V) → IsReader P nothing r → IsReader P g r
reads_any P g r first = record { sound = first.sound; complete = λ used rest v p stop. first.complete used rest v p (stops_nothing rest) }
