-- Where no act is done, no line says a command.
use Rattle.std.proofs.Common.{◌≡◌, ◌∙◌, ℕ, suc, Bool, true, false, cond, List, [], ◌∷◌, Option, Some, None, Result, Ok, Err, refl, sym, ap, arith}
use Rattle.std.specs.Prelude.{length, nat_lt, ok_or, slice_get, take}
use Rattle.std.specs.Str.{is_utf8}
use Rattle.text_words.specs.Values.{◌>>=◌}
use Rattle.text_words.specs.Words.{words_of}
use Rattle.text_words.specs.declared.word.Separator.TheVariants.{Space}
use Rattle.script_text.specs.Commands.{act_of, command_of, does, done_act, fitted, when_of}
use Rattle.script_text.specs.Laws.{HasNoCommands}
use Rattle.script_text.specs.Lines.{lines, spoken}
use Rattle.script_text.specs.Refusals.{and_then}
use Rattle.script_text.specs.Scripts.{in_order, line_answer}
use Rattle.script_text.specs.declared.acts.TheConstants.Acts.{NONE}
use Rattle.script_text.specs.declared.command.Act.{Act}
use Rattle.script_text.specs.declared.command.Act.TheVariants.{Relink, Unlink, Add, Remove}
use Rattle.script_text.specs.declared.command.Command.{Command}
use Rattle.script_text.specs.declared.command.When.{When}
use Rattle.script_text.specs.declared.fault.ScriptKind.{ScriptKind}
use Rattle.script_text.specs.declared.fault.ScriptKind.TheVariants.{NotText, TooLong, BadAct}

not_both : (kind : ScriptKind) (command : Command) (r : Result Command ScriptKind) → r ≡ Err kind → r ≡ Ok command → ⊥
not_both kind command r f g = cc

none_done : (words : List (List ℕ)) → done_act NONE words ≡ None
none_done words = go (act_of words)
  where
    go : (o : Option Act) → (o >>= λ act. cond (does NONE act) (Some act) None) ≡ None
    go None = refl
    go (Some (Relink sink)) = refl
    go (Some (Unlink eos)) = refl
    go (Some (Add kind props)) = refl
    go (Some (Remove element)) = refl

no_command : (words : List (List ℕ)) (command : Command) → command_of NONE words ≡ Ok command → ⊥
unfolding command_of
no_command words command e = go (when_of words) e
  where
    go : (r : Result (When × List (List ℕ)) ScriptKind) → and_then r (λ w. and_then (ok_or (done_act NONE w.1) BadAct) (fitted w.0)) ≡ Ok command → ⊥
    go (Err kind) f = not_both kind command (Err kind) refl f
    go (Ok w) f = not_both BadAct command (Err BadAct) refl (sym (ap (λ o. and_then (ok_or o BadAct) (fitted w.0)) (none_done w.1)) ∙ f)

no_line : (earlier : List Command) (line : List ℕ) (command : Command) → line_answer NONE earlier line ≡ Ok command → ⊥
unfolding line_answer
no_line earlier line command e = go (is_utf8 line) (nat_lt (length earlier) 4096) (command_of NONE (words_of Space line)) refl e
  where
    go : (t u : Bool) (r : Result Command ScriptKind) → command_of NONE (words_of Space line) ≡ r → cond t (cond u (and_then r (in_order earlier)) (Err TooLong)) (Err NotText) ≡ Ok command → ⊥
    go false u r is f = not_both NotText command (Err NotText) refl f
    go true false r is f = not_both TooLong command (Err TooLong) refl f
    go true true (Err kind) is f = not_both kind command (Err kind) refl f
    go true true (Ok other) is f = no_command (words_of Space line) other is

pub none_said : HasNoCommands NONE
none_said text [] h = refl
none_said text (c ∷ cs) h = absurd (go (spoken (lines text)) h.said.count h.said.each)
  where
    go : (ls : List (List ℕ)) → suc (length cs) ≡ length ls
        → ((place : ℕ) (line : List ℕ) (command : Command) → slice_get ls place ≡ Some line → slice_get (c ∷ cs) place ≡ Some command → line_answer NONE (take place (c ∷ cs)) line ≡ Ok command) → ⊥
    go [] n each = omega (arith, n)
    go (l ∷ ls) n each = no_line [] l c (each 0 l c refl refl)
