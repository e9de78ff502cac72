-- Readers that choose by the first byte.
use Rattle.std.proofs.Common.{◌≡◌, ℕ, Bool, true, false, cond, eqb, List, [], ◌∷◌, ◌++◌, Option, Some, None, Ok, inl, inr, ◌⊎◌, refl, sym, ap, ◌∙◌}
use Rattle.std.specs.Prelude.{is_some}
use Rattle.caps_text.specs.Answers.{Answer}
use Rattle.caps_text.specs.Reading.{after_byte, begins}
use Rattle.caps_text.proofs.Readers.{IsReader, Reads_front, Stops, Starts}
use Rattle.caps_text.proofs.Tokens.{after_byte_is}
use Rattle.caps_text.proofs.Words.{passes}

-- this byte
abbrev pub is_byte : ℕ → ℕ → Bool
is_byte m b = eqb b m

pub lacks_byte : (m : ℕ) (x : List ℕ) → Stops (is_byte m) x → after_byte m x ≡ None
lacks_byte m [] h = refl
lacks_byte m (b ∷ bs) h = ap (λ t. cond t (Some bs) None) h

pub starts_apart : (test : ℕ → Bool) (used rest : List ℕ) → Starts test used → Stops test (used ++ rest)
starts_apart test [] rest h = absurd h
starts_apart test (b ∷ bs) rest h = h

-- what a text stands for behind a byte
abbrev pub Behind : {V : Type 0} → ℕ → (List ℕ → V → Type 0) → List ℕ → V → Type 0
Behind m P text v = (back : List ℕ) × (text ≡ m ∷ back) × P back v

-- behind a byte one part, and without it another
module _ {V : Type 0} (m : ℕ) (P Q : List ℕ → V → Type 0) (test : ℕ → Bool) (r s : List ℕ → Answer V) (from : List ℕ → Option (List ℕ) → Answer V) (first : IsReader P test r) (second : IsReader Q test s) (apart : (used : List ℕ) (v : V) → Q used v → Starts (is_byte m) used) (is : (x y : List ℕ) → from x (Some y) ≡ r y) (else : (x : List ℕ) → from x None ≡ s x) where
  choice_sound : (x rest : List ℕ) (v : V) → from x (after_byte m x) ≡ Ok (v, rest) → Reads_front (λ text w. Behind m P text w ⊎ Q text w) x v rest
  choice_sound x rest v h = step (after_byte m x) refl h
    where
      step : (o : Option (List ℕ)) → after_byte m x ≡ o → from x o ≡ Ok (v, rest) → Reads_front (λ text w. Behind m P text w ⊎ Q text w) x v rest
      step (Some y) e k = let f = first.sound y rest v (sym (is x y) ∙ k) in (m ∷ f.0, after_byte_is m x y e ∙ ap (λ l. m ∷ l) f.1, inl (f.0, refl, f.2))
      step None e k = let f = second.sound x rest v (sym (else x) ∙ k) in (f.0, f.1, inr f.2)

  choice_complete : (used rest : List ℕ) (v : V) → Behind m P used v ⊎ Q used v → Stops test rest → from (used ++ rest) (after_byte m (used ++ rest)) ≡ Ok (v, rest)
  choice_complete used rest v (inl h) stop =
      ap (λ l. from (l ++ rest) (after_byte m (l ++ rest))) h.1
      ∙ ap (from (m ∷ (h.0 ++ rest))) (passes m (h.0 ++ rest))
      ∙ is (m ∷ (h.0 ++ rest)) (h.0 ++ rest)
      ∙ first.complete h.0 rest v h.2 stop
  choice_complete used rest v (inr h) stop =
      ap (from (used ++ rest)) (lacks_byte m (used ++ rest) (starts_apart (is_byte m) used rest (apart used v h)))
      ∙ else (used ++ rest)
      ∙ second.complete used rest v h stop

  pub reads_choice : IsReader (λ text w. Behind m P text w ⊎ Q text w) test (λ x. from x (after_byte m x))
  reads_choice = record { sound = choice_sound; complete = choice_complete }

-- a part that begins with a byte, and another that does not
module _ {V : Type 0} (m : ℕ) (P Q : List ℕ → V → Type 0) (test : ℕ → Bool) (r s : List ℕ → Answer V) (first : IsReader P test r) (second : IsReader Q test s) (with : (used : List ℕ) (v : V) → P used v → (back : List ℕ) × (used ≡ m ∷ back)) (apart : (used : List ℕ) (v : V) → Q used v → Starts (is_byte m) used) where
  begun_sound : (x rest : List ℕ) (v : V) → cond (begins m x) (r x) (s x) ≡ Ok (v, rest) → Reads_front (λ text w. P text w ⊎ Q text w) x v rest
  begun_sound x rest v h = step (begins m x) h
    where
      step : (t : Bool) → cond t (r x) (s x) ≡ Ok (v, rest) → Reads_front (λ text w. P text w ⊎ Q text w) x v rest
      step true k = let f = first.sound x rest v k in (f.0, f.1, inl f.2)
      step false k = let f = second.sound x rest v k in (f.0, f.1, inr f.2)

  begun_complete : (used rest : List ℕ) (v : V) → P used v ⊎ Q used v → Stops test rest → cond (begins m (used ++ rest)) (r (used ++ rest)) (s (used ++ rest)) ≡ Ok (v, rest)
  begun_complete used rest v (inl h) stop =
      let b = with used v h in
      let yes : begins m (used ++ rest) ≡ true = ap (λ l. is_some (after_byte m (l ++ rest))) b.1 ∙ ap is_some (passes m (b.0 ++ rest)) in
      ap (λ t. cond t (r (used ++ rest)) (s (used ++ rest))) yes ∙ first.complete used rest v h stop
  begun_complete used rest v (inr h) stop =
      let no : begins m (used ++ rest) ≡ false = ap is_some (lacks_byte m (used ++ rest) (starts_apart (is_byte m) used rest (apart used v h))) in
      ap (λ t. cond t (r (used ++ rest)) (s (used ++ rest))) no ∙ second.complete used rest v h stop

  pub reads_begun : IsReader (λ text w. P text w ⊎ Q text w) test (λ x. cond (begins m x) (r x) (s x))
  reads_begun = record { sound = begun_sound; complete = begun_complete }

-- the same part in other words
pub reads_iff : {V : Type 0} (P Q : List ℕ → V → Type 0) (test : ℕ → Bool) (r : List ℕ → Answer V) → ((text : List ℕ) (v : V) → P text v → Q text v) → ((text : List ℕ) (v : V) → Q text v → P text v) → IsReader P test r → IsReader Q test r
reads_iff P Q test r to back first = record {
  sound = λ x rest v h. let f = first.sound x rest v h in (f.0, f.1, to f.0 v f.2);
  complete = λ used rest v q stop. first.complete used rest v (back used v q) stop;
}
