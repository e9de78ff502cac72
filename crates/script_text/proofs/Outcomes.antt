-- The one answer for the lines of a text.
use Rattle.std.proofs.Common.{◌≡◌, ◌∙◌, ◌+◌, ◌≤◌, ◌⊎◌, ℕ, suc, Bool, true, false, cond, not, List, [], ◌∷◌, ◌++◌, Some, Result, Ok, Err, inl, inr, refl, sym, ap, subst, arith, append-nil, append_assoc, length-append}
use Rattle.std.specs.Prelude.{length, slice_get, take}
use Rattle.std.proofs.lemmas.Bool.{cases_lt}
use Rattle.script_text.specs.Laws.{EachHasOne, NeverBoth, OneRefusal, OneScript}
use Rattle.script_text.specs.Lines.{is_passed_over, lines, spoken}
use Rattle.script_text.specs.Scripts.{AreCommands, IsBadLine, IsRefused, IsScript, line_answer, longest}
use Rattle.script_text.specs.declared.acts.Acts.{Acts}
use Rattle.script_text.specs.declared.command.Command.{Command}
use Rattle.script_text.specs.declared.fault.ScriptKind.{ScriptKind}
use Rattle.script_text.specs.declared.fault.ScriptKind.TheVariants.{TooLong}
use Rattle.script_text.proofs.Growing.{at_first, grow_passed, grow_said}

-- the commands, or the line that is wrong
abbrev Outcome : Type 0
Outcome = Result (List Command) (ℕ × ScriptKind)

abbrev behind_answer : Result Command ScriptKind → (Command → Outcome) → ℕ → Outcome
behind_answer (Ok c) f n = f c
behind_answer (Err kind) f n = Err (n, kind)

shifted : (front : List (List ℕ)) (l : List ℕ) (ls : List (List ℕ)) → front ++ l ∷ ls ≡ (front ++ l ∷ []) ++ ls
shifted front l ls = sym (append_assoc front (l ∷ []) ls)

counted_on : (n : ℕ) (front : List (List ℕ)) (l : List ℕ) → n ≡ length front + 1 → suc n ≡ length (front ++ l ∷ []) + 1
counted_on n front l e = let k = length-append front (l ∷ []) in omega (arith, e, k)

same_ok : (x y : List Command) (r : Outcome) → r ≡ Ok x → r ≡ Ok y → x ≡ y
same_ok x y r f g = cc

no_both : (x : List Command) (p : ℕ × ScriptKind) (r : Outcome) → r ≡ Ok x → r ≡ Err p → ⊥
no_both x p r f g = cc

same_err : (p q : ℕ × ScriptKind) (r : Outcome) → r ≡ Err p → r ≡ Err q → p ≡ q
same_err p q r f g = cc

module _ (acts : Acts) where
  -- what lines from the nth on say behind these earlier commands
  abbrev outcome : List Command → ℕ → List (List ℕ) → Outcome
  outcome earlier n [] = Ok earlier
  outcome earlier n (l ∷ ls) = cond (is_passed_over l) (outcome earlier (suc n) ls) (behind_answer (line_answer acts earlier l) (λ c. outcome (earlier ++ c ∷ []) (suc n) ls) n)

  -- ---- what an outcome says

  ok_said : (earlier : List Command) (n : ℕ) (ls front : List (List ℕ)) (cs : List Command) → AreCommands acts front earlier → outcome earlier n ls ≡ Ok cs → AreCommands acts (front ++ ls) cs
  ok_said earlier n [] front cs h e = subst (λ t. AreCommands acts t cs) (sym (append-nil front)) (subst (AreCommands acts front) (same_ok earlier cs (Ok earlier) refl e) h)
  ok_said earlier n (l ∷ ls) front cs h e = subst (λ t. AreCommands acts t cs) (sym (shifted front l ls)) (go (λ a b x. ok_said a b ls x cs) (is_passed_over l) refl (line_answer acts earlier l) refl e)
    where
      go : ((a : List Command) (b : ℕ) (x : List (List ℕ)) → AreCommands acts x a → outcome a b ls ≡ Ok cs → AreCommands acts (x ++ ls) cs)
          → (t : Bool) → is_passed_over l ≡ t → (r : Result Command ScriptKind) → line_answer acts earlier l ≡ r
          → cond t (outcome earlier (suc n) ls) (behind_answer r (λ c. outcome (earlier ++ c ∷ []) (suc n) ls) n) ≡ Ok cs → AreCommands acts ((front ++ l ∷ []) ++ ls) cs
      go ih true p r q f = ih earlier (suc n) (front ++ l ∷ []) (grow_passed acts front earlier l h p) f
      go ih false p (Ok c) q f = ih (earlier ++ c ∷ []) (suc n) (front ++ l ∷ []) (grow_said acts front earlier l c h p q) f
      go ih false p (Err kind) q f = absurd (no_both cs (n, kind) (Err (n, kind)) f refl)

  err_said : (earlier : List Command) (n : ℕ) (ls front : List (List ℕ)) (m : ℕ) (kind : ScriptKind) → AreCommands acts front earlier → n ≡ length front + 1 → outcome earlier n ls ≡ Err (m, kind) → IsBadLine acts (front ++ ls) m kind
  err_said earlier n [] front m kind h k e = absurd (no_both earlier (m, kind) (Ok earlier) refl e)
  err_said earlier n (l ∷ ls) front m kind h k e = go (λ a b x. err_said a b ls x m kind) (is_passed_over l) refl (line_answer acts earlier l) refl e
    where
      go : ((a : List Command) (b : ℕ) (x : List (List ℕ)) → AreCommands acts x a → b ≡ length x + 1 → outcome a b ls ≡ Err (m, kind) → IsBadLine acts (x ++ ls) m kind)
          → (t : Bool) → is_passed_over l ≡ t → (r : Result Command ScriptKind) → line_answer acts earlier l ≡ r
          → cond t (outcome earlier (suc n) ls) (behind_answer r (λ c. outcome (earlier ++ c ∷ []) (suc n) ls) n) ≡ Err (m, kind) → IsBadLine acts (front ++ l ∷ ls) m kind
      go ih true p r q f = subst (λ t. IsBadLine acts t m kind) (sym (shifted front l ls)) (ih earlier (suc n) (front ++ l ∷ []) (grow_passed acts front earlier l h p) (counted_on n front l k) f)
      go ih false p (Ok c) q f = subst (λ t. IsBadLine acts t m kind) (sym (shifted front l ls)) (ih (earlier ++ c ∷ []) (suc n) (front ++ l ∷ []) (grow_said acts front earlier l c h p q) (counted_on n front l k) f)
      go ih false p (Err own) q f =
          let same = same_err (n, own) (m, kind) (Err (n, own)) refl f in
          record { before = front; bad = l; behind = ls; commands = earlier; parts = refl; counted = sym (ap (λ s. s.0) same) ∙ k; said = h; spoken = p; answer = q ∙ ap (λ s. Err s.1) same }

  -- ---- what is said has that outcome

  -- commands behind earlier ones
  record Follows (earlier : List Command) (text : List (List ℕ)) (commands : List Command) : Type 0 where
    count : length commands ≡ length text
    each : (place : ℕ) (line : List ℕ) (command : Command) → slice_get text place ≡ Some line → slice_get commands place ≡ Some command → line_answer acts (earlier ++ take place commands) line ≡ Ok command

  -- the first of them, and the others
  record First (earlier : List Command) (line : List ℕ) (text : List (List ℕ)) (commands : List Command) : Type 0 where
    command : Command
    others : List Command
    parts : commands ≡ command ∷ others
    answer : line_answer acts earlier line ≡ Ok command
    follow : Follows (earlier ++ command ∷ []) text others

  first_of : (earlier : List Command) (line : List ℕ) (text : List (List ℕ)) (commands : List Command) → Follows earlier (line ∷ text) commands → First earlier line text commands
  first_of earlier line text [] h = absurd (omega (arith, h.count))
  first_of earlier line text (c ∷ cs) h = record {
    command = c;
    others = cs;
    parts = refl;
    answer = ap (λ t. line_answer acts t line) (sym (append-nil earlier)) ∙ h.each 0 line c refl refl;
    follow = record {
      count = omega (arith, h.count);
      each = λ place l d g k. ap (λ t. line_answer acts t l) (append_assoc earlier (c ∷ []) (take place cs)) ∙ h.each (suc place) l d g k;
    };
  }

  none_follow : (earlier commands : List Command) → Follows earlier [] commands → commands ≡ []
  none_follow earlier [] h = refl
  none_follow earlier (c ∷ cs) h = absurd (omega (arith, h.count))

  follow_on : (earlier : List Command) (n : ℕ) (l : List ℕ) (ls : List (List ℕ)) (rest : List (List ℕ)) (commands : List Command) → Follows earlier (spoken (l ∷ ls)) commands
      → (result : Outcome)
      → (passed : is_passed_over l ≡ true → Follows earlier (spoken ls) commands → outcome earlier (suc n) rest ≡ result)
      → (said : (f : First earlier l (spoken ls) commands) → outcome (earlier ++ f.command ∷ []) (suc n) rest ≡ result)
      → outcome earlier n (l ∷ rest) ≡ result
  follow_on earlier n l ls rest commands h result passed said = go (is_passed_over l) refl h
    where
      go : (t : Bool) → is_passed_over l ≡ t → Follows earlier (cond (not t) (l ∷ spoken ls) (spoken ls)) commands
          → cond t (outcome earlier (suc n) rest) (behind_answer (line_answer acts earlier l) (λ c. outcome (earlier ++ c ∷ []) (suc n) rest) n) ≡ result
      go true p f = passed p f
      go false p f = let one = first_of earlier l (spoken ls) commands f in ap (λ r. behind_answer r (λ c. outcome (earlier ++ c ∷ []) (suc n) rest) n) one.answer ∙ said one

  said_ok : (earlier : List Command) (n : ℕ) (ls : List (List ℕ)) (commands : List Command) → Follows earlier (spoken ls) commands → outcome earlier n ls ≡ Ok (earlier ++ commands)
  said_ok earlier n [] commands h = ap Ok (sym (ap (λ t. earlier ++ t) (none_follow earlier commands h) ∙ append-nil earlier))
  said_ok earlier n (l ∷ ls) commands h =
      follow_on earlier n l ls ls commands h (Ok (earlier ++ commands)) (λ p f. said_ok earlier (suc n) ls commands f)
      (λ f. said_ok (earlier ++ f.command ∷ []) (suc n) ls f.others f.follow ∙ ap Ok (append_assoc earlier (f.command ∷ []) f.others ∙ ap (λ t. earlier ++ t) (sym f.parts)))

  said_err : (earlier : List Command) (n : ℕ) (before : List (List ℕ)) (bad : List ℕ) (behind : List (List ℕ)) (commands : List Command) (kind : ScriptKind) → Follows earlier (spoken before) commands → is_passed_over bad ≡ false → line_answer acts (earlier ++ commands) bad ≡ Err kind → outcome earlier n (before ++ bad ∷ behind) ≡ Err (n + length before, kind)
  said_err earlier n [] bad behind commands kind h p e =
      let at_end : earlier ++ commands ≡ earlier = ap (λ t. earlier ++ t) (none_follow earlier commands h) ∙ append-nil earlier in
      let here : n ≡ n + 0 = omega arith in
      ap (λ t. cond t (outcome earlier (suc n) behind) (behind_answer (line_answer acts earlier bad) (λ c. outcome (earlier ++ c ∷ []) (suc n) behind) n)) p
      ∙ ap (λ r. behind_answer r (λ c. outcome (earlier ++ c ∷ []) (suc n) behind) n) (ap (λ t. line_answer acts t bad) (sym at_end) ∙ e)
      ∙ ap (λ m. Err (m, kind)) here
  said_err earlier n (l ∷ before) bad behind commands kind h p e =
      let further : suc n + length before ≡ n + suc (length before) = omega arith in
      follow_on earlier n l before (before ++ bad ∷ behind) commands h (Err (n + suc (length before), kind))
      (λ q f. said_err earlier (suc n) before bad behind commands kind f p e ∙ ap (λ m. Err (m, kind)) further)
      (λ f. said_err (earlier ++ f.command ∷ []) (suc n) before bad behind f.others kind f.follow p (ap (λ t. line_answer acts t bad) (append_assoc earlier (f.command ∷ []) f.others ∙ ap (λ t. earlier ++ t) (sym f.parts)) ∙ e) ∙ ap (λ m. Err (m, kind)) further)

  -- ---- whole texts

  all_follow : (text : List (List ℕ)) (commands : List Command) → AreCommands acts text commands → Follows [] (spoken text) commands
  all_follow text commands h = record { count = h.count; each = λ place line command g k. h.each place line command g k }

  script_outcome : (text : List (List ℕ)) (commands : List Command) → AreCommands acts text commands → outcome [] 1 text ≡ Ok commands
  script_outcome text commands h = said_ok [] 1 text commands (all_follow text commands h)

  bad_outcome : (text : List (List ℕ)) (line : ℕ) (kind : ScriptKind) → IsBadLine acts text line kind → outcome [] 1 text ≡ Err (line, kind)
  bad_outcome text line kind h =
      let place : 1 + length h.before ≡ line = omega (arith, h.counted) in
      ap (outcome [] 1) h.parts ∙ said_err [] 1 h.before h.bad h.behind h.commands kind (all_follow h.before h.commands h.said) h.spoken h.answer ∙ ap (λ m. Err (m, kind)) place

pub each_has_one : EachHasOne
each_has_one acts text = elim (cases_lt longest (length text)) [
  | inl long ↦ inr (0, TooLong, inl (record { long = long; counted = refl; answer = refl }))
  | inr short ↦ go short (outcome acts [] 1 (lines text)) refl
]
  where
    go : length text ≤ longest → (r : Outcome) → outcome acts [] 1 (lines text) ≡ r → ((commands : List Command) × IsScript acts text commands) ⊎ ((line : ℕ) × (kind : ScriptKind) × IsRefused acts text line kind)
    go short (Ok cs) e = inl (cs, record { short = short; said = ok_said acts [] 1 (lines text) [] cs (at_first acts) e })
    go short (Err p) e = inr (p.0, p.1, inr (record { short = short; is_bad = err_said acts [] 1 (lines text) [] p.0 p.1 (at_first acts) (omega arith) e }))

pub never_both : NeverBoth
never_both acts text commands line kind h (inl long) = omega (arith, h.short, long.long)
never_both acts text commands line kind h (inr bad) = no_both commands (line, kind) (outcome acts [] 1 (lines text)) (script_outcome acts (lines text) commands h.said) (bad_outcome acts (lines text) line kind bad.is_bad)

pub one_script : OneScript
one_script acts text one other h k = same_ok one other (outcome acts [] 1 (lines text)) (script_outcome acts (lines text) one h.said) (script_outcome acts (lines text) other k.said)

pub one_refusal : OneRefusal
one_refusal acts text line other kind more (inl h) (inl k) = (h.counted ∙ sym k.counted, h.answer ∙ sym k.answer)
one_refusal acts text line other kind more (inl h) (inr k) = absurd (omega (arith, h.long, k.short))
one_refusal acts text line other kind more (inr h) (inl k) = absurd (omega (arith, k.long, h.short))
one_refusal acts text line other kind more (inr h) (inr k) =
    let same = same_err (line, kind) (other, more) (outcome acts [] 1 (lines text)) (bad_outcome acts (lines text) line kind h.is_bad) (bad_outcome acts (lines text) other more k.is_bad) in
    (ap (λ s. s.0) same, ap (λ s. s.1) same)
