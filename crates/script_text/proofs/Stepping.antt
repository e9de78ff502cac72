-- What one line does.
use Rattle.std.proofs.Common.{◌≡◌, ◌∙◌, ◌+◌, ◌<◌, ◌≤◌, ℕ, Bool, true, false, cond, ◌&&◌, List, [], ◌∷◌, ◌++◌, Result, Ok, Err, refl, sym, ap, subst, arith}
use Rattle.std.specs.Prelude.{String, length, nat_lt}
use Rattle.std.specs.BTreeMap.{BTreeMap}
use Rattle.std.specs.Str.{IsUtf8, is_utf8}
use Rattle.std.specs.declared.alloc.Global.{Global}
use Rattle.std.proofs.lemmas.Str.{IsUtf8-from_is_utf8, is_utf8-from_IsUtf8}
use Rattle.text_words.specs.Words.{words_of}
use Rattle.text_words.specs.declared.word.Separator.TheVariants.{Space}
use Rattle.script_text.specs.Commands.{command_of}
use Rattle.script_text.specs.Latest.{IsLatest, last_of}
use Rattle.script_text.specs.Lines.{is_passed_over, says_nothing}
use Rattle.script_text.specs.Refusals.{Answers, and_then, fault_at}
use Rattle.script_text.specs.Scripts.{AreCommands, IsFault, in_order, line_answer, step}
use Rattle.script_text.specs.declared.acts.Acts.{Acts}
use Rattle.script_text.specs.declared.command.Command.{Command}
use Rattle.script_text.specs.declared.fault.Refusal.{Refusal}
use Rattle.script_text.specs.declared.fault.Refusal.TheVariants.{Bad, OutOfMemory}
use Rattle.script_text.specs.declared.fault.ScriptFault.{ScriptFault}
use Rattle.script_text.specs.declared.fault.ScriptKind.{ScriptKind}
use Rattle.script_text.specs.declared.fault.ScriptKind.TheVariants.{NotText, TooLong}
use Rattle.script_text.proofs.Growing.{stopped}

-- ---- whether a line is text

is_text : (line : List ℕ) → IsUtf8 line → is_utf8 line ≡ true
is_text line h = is_utf8-from_IsUtf8 line h

no_text : (line : List ℕ) → ¬ (IsUtf8 line) → is_utf8 line ≡ false
no_text line h = go (is_utf8 line) refl
  where
    go : (t : Bool) → is_utf8 line ≡ t → t ≡ false
    go true e = absurd (h (IsUtf8-from_is_utf8 line e))
    go false e = refl

passes : (line : List ℕ) (t u : Bool) → is_utf8 line ≡ t → says_nothing line ≡ u → is_passed_over line ≡ (t && u)
passes line t u e f = ap (λ x. x && says_nothing line) e ∙ ap (λ x. t && x) f

abbrev put : List Command → Command → Result (List Command) ScriptKind
put old command = Ok (old ++ command ∷ [])

module _ (acts : Acts) where
  answers : (old : List Command) (line : List ℕ) (t u : Bool) → is_utf8 line ≡ t → nat_lt (length old) 4096 ≡ u
      → line_answer acts old line ≡ cond t (cond u (and_then (command_of acts (words_of Space line)) (in_order old)) (Err TooLong)) (Err NotText)
  unfolding line_answer
  answers old line t u e f =
      ap (λ x. cond x (cond (nat_lt (length old) 4096) (and_then (command_of acts (words_of Space line)) (in_order old)) (Err TooLong)) (Err NotText)) e
      ∙ ap (λ x. cond t (cond x (and_then (command_of acts (words_of Space line)) (in_order old)) (Err TooLong)) (Err NotText)) f

  stepped : (old : List Command) (line : List ℕ) (t : Bool) (r : Result Command ScriptKind) → is_passed_over line ≡ t → line_answer acts old line ≡ r → step acts old line ≡ cond t (Ok old) (and_then r (put old))
  stepped old line t r e f = ap (λ x. cond x (Ok old) (and_then (line_answer acts old line) (put old))) e ∙ ap (λ x. cond t (Ok old) (and_then x (put old))) f

  pub step_no_text : (old : List Command) (line : List ℕ) → ¬ (IsUtf8 line) → step acts old line ≡ Err NotText
  step_no_text old line h =
      let bad = no_text line h in
      stepped old line false (Err NotText) (passes line false (says_nothing line) bad refl) (answers old line false (nat_lt (length old) 4096) bad refl)

  pub step_passed : (old : List Command) (line text : List ℕ) → text ≡ line → IsUtf8 line → says_nothing text ≡ true → step acts old line ≡ Ok old
  step_passed old line text same h e = stepped old line true (line_answer acts old line) (passes line true true (is_text line h) (ap says_nothing (sym same) ∙ e)) refl

  pub step_long : (old : List Command) (line text : List ℕ) → text ≡ line → IsUtf8 line → says_nothing text ≡ false → 4096 ≤ length old → step acts old line ≡ Err TooLong
  step_long old line text same h e many = stepped old line false (Err TooLong) (passes line true false (is_text line h) (ap says_nothing (sym same) ∙ e)) (answers old line true false (is_text line h) full)
    where
      full : nat_lt (length old) 4096 ≡ false
      full = grind (arith, many)

  step_said : (old : List Command) (line text : List ℕ) → text ≡ line → IsUtf8 line → says_nothing text ≡ false → length old < 4096
      → step acts old line ≡ and_then (and_then (command_of acts (words_of Space text)) (in_order old)) (put old)
  step_said old line text same h e few =
      stepped old line false (and_then (command_of acts (words_of Space line)) (in_order old)) (passes line true false (is_text line h) (ap says_nothing (sym same) ∙ e)) (answers old line true true (is_text line h) room)
      ∙ ap (λ t. and_then (and_then (command_of acts (words_of Space t)) (in_order old)) (put old)) (sym same)
    where
      room : nat_lt (length old) 4096 ≡ true
      room = grind (arith, few)

  pub step_command : (old : List Command) (line text : List ℕ) (command : Command) → text ≡ line → IsUtf8 line → says_nothing text ≡ false → length old < 4096 → command_of acts (words_of Space text) ≡ Ok command
      → step acts old line ≡ and_then (in_order old command) (put old)
  step_command old line text command same h e few f = step_said old line text same h e few ∙ ap (λ r. and_then (and_then r (in_order old)) (put old)) f

  pub step_refused : {X V : Type 0} (view : X → Command) (see : V → List Command) (old : List Command) (line text : List ℕ) (refusal : Refusal) → text ≡ line → IsUtf8 line → says_nothing text ≡ false → length old < 4096
      → Answers view (Err refusal) (command_of acts (words_of Space text)) → Answers see (Err refusal) (step acts old line)
  step_refused view see old line text (Bad kind) same h e few f = step_said old line text same h e few ∙ ap (λ r. and_then (and_then r (in_order old)) (put old)) f
  step_refused view see old line text OutOfMemory same h e few f = tt

-- an answer that is the same
pub moved : {X : Type 0} (see : X → List Command) (result : Result X Refusal) (one other : Result (List Command) ScriptKind) → one ≡ other → Answers see result other → Answers see result one
moved see result one other e h = subst (Answers see result) (sym e) h

-- ---- all lines

pub first_latest : (latest : BTreeMap (String Global) ℕ) → latest.entries ≡ [] → IsLatest latest []
first_latest latest e pad buffers = sym (ap (nat_lt buffers) none ∙ never)
  where
    none : last_of latest pad ≡ 0
    none = rw e refl

    never : nat_lt buffers 0 ≡ false
    never = grind arith

-- a line is at fault behind the lines before it
pub faulted : {X : Type 0} (acts : Acts) (see : X → List Command) (text front more : List (List ℕ)) (line : List ℕ) (old : List Command) (number : ℕ) (refusal : Refusal) (fault : ScriptFault) → text ≡ front ++ line ∷ more → number ≡ length front + 1
    → AreCommands acts front old → Answers see (Err refusal) (step acts old line) → fault ≡ fault_at number refusal → IsFault acts text fault
faulted acts see text front more line old number refusal fault parts counted said answer is = subst (IsFault acts text) (sym is) (go refusal answer)
  where
    go : (r : Refusal) → Answers see (Err r) (step acts old line) → IsFault acts text (fault_at number r)
    go (Bad kind) a = stopped acts text front more line old number kind parts counted said a
    go OutOfMemory a = tt
