-- Members and values up to where no byte of a word follows.
use Rattle.std.proofs.Common.{◌≡◌, ℕ, Bool, true, false, cond, List, [], ◌∷◌, ◌++◌, Option, Ok, Err, refl, sym, ap, ◌∙◌}
use Rattle.caps_text.specs.Answers.{Answer, misspelt, ◌>>=◌}
use Rattle.caps_text.specs.Bytes.{in_class}
use Rattle.caps_text.specs.Grammar.{Member}
use Rattle.caps_text.specs.Reading.{begins_run, end_word, read_member, read_whole_member}
use Rattle.caps_text.specs.declared.class.Class.TheVariants.{Word}
use Rattle.caps_text.specs.declared.kind.Kind.{Kind}
use Rattle.caps_text.proofs.Readers.{IsReader, Reads_front, Stops, ok_is, bind_ok}
use Rattle.caps_text.proofs.Values.{reads_member}

abbrev pub ended : {V : Type 0} → V → List ℕ → Answer V
ended v x = cond (begins_run Word x) (Err (misspelt x)) (Ok (v, x))

pub ended_is : {V : Type 0} (a : Answer V) → (a >>= λ a. end_word a.1 >>= λ e. Ok (a.0, e.1)) ≡ (a >>= λ a. ended a.0 a.1)
unfolding end_word
ended_is (Err d) = refl
ended_is (Ok p) = go (begins_run Word p.1)
  where
    go : (t : Bool) → (cond {A = Answer (Unit {0})} t (Err (misspelt p.1)) (Ok (tt, p.1)) >>= λ e. Ok (p.0, e.1)) ≡ cond t (Err (misspelt p.1)) (Ok (p.0, p.1))
    go true = refl
    go false = refl

pub ended_ok : {V : Type 0} (v w : V) (x rest : List ℕ) → ended v x ≡ Ok (w, rest) → (v ≡ w) × (x ≡ rest) × Stops (in_class Word) x
ended_ok v w [] rest h = let e = ok_is (v, []) (w, rest) h in (ap (λ p. p.0) e, ap (λ p. p.1) e, tt)
ended_ok {V} v w (b ∷ bs) rest h = go (in_class Word b) refl h
  where
    go : (t : Bool) → in_class Word b ≡ t → cond {A = Answer V} t (Err (misspelt (b ∷ bs))) (Ok (v, b ∷ bs)) ≡ Ok (w, rest) → (v ≡ w) × (b ∷ bs ≡ rest) × (in_class Word b ≡ false)
    go true e k = absurd (cc)
    go false e k = let is = ok_is (v, b ∷ bs) (w, rest) k in (ap (λ p. p.0) is, ap (λ p. p.1) is, e)

pub ended_here : {V : Type 0} (v : V) (rest : List ℕ) → Stops (in_class Word) rest → ended v rest ≡ Ok (v, rest)
ended_here v [] h = refl
ended_here {V} v (b ∷ bs) h = ap (λ t. cond {A = Answer V} t (Err (misspelt (b ∷ bs))) (Ok (v, b ∷ bs))) h

module _ {V : Type 0} (P : List ℕ → V → Type 0) (r s : List ℕ → Answer V) (is : (x : List ℕ) → s x ≡ (r x >>= λ a. ended a.0 a.1)) (first : IsReader P (in_class Word) r) where
  ended_sound : (x rest : List ℕ) (v : V) → s x ≡ Ok (v, rest) → Reads_front P x v rest
  ended_sound x rest v h =
      let b = bind_ok (r x) (λ a. ended a.0 a.1) (v, rest) (sym (is x) ∙ h) in
      let e = ended_ok b.0.0 v b.0.1 rest b.2 in
      first.sound x rest v (b.1 ∙ (λ i. Ok (e.0 i, e.1 i)))

  ended_complete : (used rest : List ℕ) (v : V) → P used v → Stops (in_class Word) rest → s (used ++ rest) ≡ Ok (v, rest)
  ended_complete used rest v p stop = is (used ++ rest) ∙ ap (λ a. a >>= λ a. ended a.0 a.1) (first.complete used rest v p stop) ∙ ended_here v rest stop

  pub reads_ended : IsReader P (in_class Word) s
  reads_ended = record { sound = ended_sound; complete = ended_complete }

pub member_ended : (kind : Option Kind) (x : List ℕ) → read_whole_member kind x ≡ (read_member kind x >>= λ a. ended a.0 a.1)
unfolding read_whole_member
member_ended kind x = ended_is (read_member kind x)

pub reads_whole_member : (kind : Option Kind) → IsReader (Member kind) (in_class Word) (read_whole_member kind)
reads_whole_member kind = reads_ended (Member kind) (read_member kind) (read_whole_member kind) (member_ended kind) (reads_member kind)
