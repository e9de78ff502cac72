-- One line more of a text, and the commands that it says.
use Rattle.std.proofs.Common.{◌≡◌, ◌∙◌, ◌+◌, ◌<◌, ◌⊎◌, ℕ, zero, suc, Bool, true, false, cond, not, List, [], ◌∷◌, ◌++◌, Option, Some, None, Result, Ok, Err, inl, inr, refl, sym, ap, subst, arith, append-nil, length-append}
use Rattle.std.specs.Prelude.{length, slice_get, take}
use Rattle.std.proofs.lemmas.List.{take_all, take-append-le}
use Rattle.std.proofs.lemmas.List.Elements.{filter-append}
use Rattle.std.proofs.lemmas.Option.{same_Some as same_some}
use Rattle.script_text.specs.Lines.{is_passed_over, spoken}
use Rattle.script_text.specs.Refusals.{and_then}
use Rattle.script_text.specs.Scripts.{AreCommands, IsBadLine, line_answer, step}
use Rattle.script_text.specs.declared.acts.Acts.{Acts}
use Rattle.script_text.specs.declared.command.Command.{Command}
use Rattle.script_text.specs.declared.fault.ScriptKind.{ScriptKind}

none_some : {X : Type 0} (y : X) (o : Option X) → o ≡ None → o ≡ Some y → ⊥
none_some y o e f = cc

-- the last of a list, or one before it
snoc_get : {X : Type 0} (xs : List X) (x : X) (place : ℕ) (y : X) → slice_get (xs ++ x ∷ []) place ≡ Some y → ((place < length xs) × (slice_get xs place ≡ Some y)) ⊎ ((place ≡ length xs) × (y ≡ x))
snoc_get [] x zero y h = inr (refl, sym (same_some x y h))
snoc_get [] x (suc n) y h = absurd (none_some y None refl h)
snoc_get (z ∷ zs) x zero y h = inl (omega arith, h)
snoc_get (z ∷ zs) x (suc n) y h = elim (snoc_get zs x n y h) [ inl t ↦ inl (omega (arith, t.0), t.1) | inr t ↦ inr (ap suc t.0, t.1) ]

spoken_passed : (front : List (List ℕ)) (line : List ℕ) → is_passed_over line ≡ true → spoken (front ++ line ∷ []) ≡ spoken front
spoken_passed front line e = filter-append (λ l. not (is_passed_over l)) front (line ∷ []) ∙ (rw e (append-nil (spoken front)))

spoken_said : (front : List (List ℕ)) (line : List ℕ) → is_passed_over line ≡ false → spoken (front ++ line ∷ []) ≡ spoken front ++ line ∷ []
spoken_said front line e = filter-append (λ l. not (is_passed_over l)) front (line ∷ []) ∙ (rw e refl)

one_more : {X : Type 0} (xs : List X) (x : X) → length (xs ++ x ∷ []) ≡ length xs + 1
one_more xs x = length-append xs (x ∷ [])

module _ (acts : Acts) where
  -- what a text says depends on the lines alone that are not passed over
  same_spoken : (a b : List (List ℕ)) (cs : List Command) → spoken a ≡ spoken b → AreCommands acts b cs → AreCommands acts a cs
  same_spoken a b cs e h = record {
    count = h.count ∙ ap length (sym e);
    each = λ place line command g k. h.each place line command (ap (λ s. slice_get s place) (sym e) ∙ g) k;
  }

  pub grow_passed : (front : List (List ℕ)) (cs : List Command) (line : List ℕ) → AreCommands acts front cs → is_passed_over line ≡ true → AreCommands acts (front ++ line ∷ []) cs
  grow_passed front cs line h e = same_spoken (front ++ line ∷ []) front cs (spoken_passed front line e) h

  pub grow_said : (front : List (List ℕ)) (cs : List Command) (line : List ℕ) (c : Command) → AreCommands acts front cs → is_passed_over line ≡ false → line_answer acts cs line ≡ Ok c → AreCommands acts (front ++ line ∷ []) (cs ++ c ∷ [])
  grow_said front cs line c h e answer = record {
    count = one_more cs c ∙ ap (λ n. n + 1) h.count ∙ sym (ap length (spoken_said front line e) ∙ one_more (spoken front) line);
    each = λ place l command g k. each place l command (ap (λ s. slice_get s place) (sym (spoken_said front line e)) ∙ g) k;
  }
    where
      old : (place : ℕ) (l : List ℕ) (command : Command) → place < length cs → slice_get (spoken front) place ≡ Some l → slice_get cs place ≡ Some command → line_answer acts (take place (cs ++ c ∷ [])) l ≡ Ok command
      old place l command less g k = ap (λ t. line_answer acts t l) (take-append-le place cs (c ∷ []) (omega (arith, less))) ∙ h.each place l command g k

      new : (place : ℕ) (l : List ℕ) (command : Command) → place ≡ length cs → l ≡ line → command ≡ c → line_answer acts (take place (cs ++ c ∷ [])) l ≡ Ok command
      new place l command at le ce =
          ap (λ n. line_answer acts (take n (cs ++ c ∷ [])) l) at
          ∙ ap (λ t. line_answer acts t l) (take-append-le (length cs) cs (c ∷ []) (omega arith) ∙ take_all (length cs) cs (omega arith))
          ∙ ap (line_answer acts cs) le ∙ answer ∙ ap Ok (sym ce)

      each : (place : ℕ) (l : List ℕ) (command : Command) → slice_get (spoken front ++ line ∷ []) place ≡ Some l → slice_get (cs ++ c ∷ []) place ≡ Some command → line_answer acts (take place (cs ++ c ∷ [])) l ≡ Ok command
      each place l command g k = elim (snoc_get (spoken front) line place l g) [
        | inl t ↦ elim (snoc_get cs c place command k) [ inl u ↦ old place l command u.0 t.1 u.1 | inr u ↦ absurd (omega (arith, t.0, u.0, h.count)) ]
        | inr t ↦ elim (snoc_get cs c place command k) [ inl u ↦ absurd (omega (arith, t.0, u.0, h.count)) | inr u ↦ new place l command u.0 t.1 u.1 ]
      ]

  -- no line says nothing
  pub at_first : AreCommands acts [] []
  at_first = record { count = refl; each = λ place line command g k. absurd (none_some line None refl g) }

  -- one step of a reader
  pub grown : (front : List (List ℕ)) (line : List ℕ) (old new : List Command) → AreCommands acts front old → step acts old line ≡ Ok new → AreCommands acts (front ++ line ∷ []) new
  grown front line old new h e = go (is_passed_over line) refl (line_answer acts old line) refl e
    where
      same_ok : (x y : List Command) (r : Result (List Command) ScriptKind) → r ≡ Ok x → r ≡ Ok y → x ≡ y
      same_ok x y r f g = cc

      bad : (kind : ScriptKind) (r : Result (List Command) ScriptKind) → r ≡ Err kind → r ≡ Ok new → ⊥
      bad kind r f g = cc

      go : (t : Bool) → is_passed_over line ≡ t → (r : Result Command ScriptKind) → line_answer acts old line ≡ r → cond t (Ok old) (and_then r (λ command. Ok (old ++ command ∷ []))) ≡ Ok new → AreCommands acts (front ++ line ∷ []) new
      go true p r q f = subst (AreCommands acts (front ++ line ∷ [])) (same_ok old new (Ok old) refl f) (grow_passed front old line h p)
      go false p (Ok c) q f = subst (AreCommands acts (front ++ line ∷ [])) (same_ok (old ++ c ∷ []) new (Ok (old ++ c ∷ [])) refl f) (grow_said front old line c h p q)
      go false p (Err kind) q f = absurd (bad kind (Err kind) refl f)

  pub stopped : (text front more : List (List ℕ)) (line : List ℕ) (old : List Command) (number : ℕ) (kind : ScriptKind) → text ≡ front ++ line ∷ more → number ≡ length front + 1 → AreCommands acts front old → step acts old line ≡ Err kind → IsBadLine acts text number kind
  stopped text front more line old number kind parts counted h e = go (is_passed_over line) refl (line_answer acts old line) refl e
    where
      good : (x : List Command) (r : Result (List Command) ScriptKind) → r ≡ Ok x → r ≡ Err kind → ⊥
      good x r f g = cc

      same_kind : (k : ScriptKind) (r : Result (List Command) ScriptKind) → r ≡ Err k → r ≡ Err kind → k ≡ kind
      same_kind k r f g = cc

      go : (t : Bool) → is_passed_over line ≡ t → (r : Result Command ScriptKind) → line_answer acts old line ≡ r → cond t (Ok old) (and_then r (λ command. Ok (old ++ command ∷ []))) ≡ Err kind → IsBadLine acts text number kind
      go true p r q f = absurd (good old (Ok old) refl f)
      go false p (Ok c) q f = absurd (good (old ++ c ∷ []) (Ok (old ++ c ∷ [])) refl f)
      go false p (Err k) q f = record { before = front; bad = line; behind = more; commands = old; parts = parts; counted = counted; said = h; spoken = p; answer = q ∙ ap Err (same_kind k (Err k) refl f) }
