-- What the commands of a script that was read name, and how a run of them has ended.
use Rattle.std.proofs.Common.{◌≡◌, ◌≢◌, ◌<◌, ◌⊎◌, ◌∙◌, ℕ, Bool, true, false, cond, All, inl, inr, List, [], ◌∷◌, Option, Some, None, Result, Ok, Err, refl, sym, ap, subst, arith, eqb, length}
use Rattle.std.specs.Prelude.{nat_lt, ok_or, take}
use Rattle.std.specs.Str.{is_utf8}
use Rattle.std.proofs.lemmas.Bool.Decides.{eqb_tells}
use Rattle.std.proofs.lemmas.Option.{slice_get-get_or}
use Rattle.edit_core.specs.Deciding.{names_its_pad}
use Rattle.graph_core.specs.declared.graph.Graph.{Graph}
use Rattle.gst_outside.specs.Seen.{Seen}
use Rattle.gst_value.proofs.Places.{found_at}
use Rattle.line_read.specs.Scripts.{AreAsked}
use Rattle.line_read.specs.declared.script.TheConstants.{RUN_ACTS}
use Rattle.script_text.specs.Commands.{command_of, done_act, fitted, when_of}
use Rattle.script_text.specs.Lines.{lines, spoken}
use Rattle.script_text.specs.Refusals.{and_then}
use Rattle.script_text.specs.Scripts.{IsScript, goes_back, in_order, line_answer}
use Rattle.script_text.specs.declared.acts.Acts.{Acts}
use Rattle.script_text.specs.declared.command.Act.{Act}
use Rattle.script_text.specs.declared.command.Act.TheVariants.{Relink, Unlink, Add, Remove}
use Rattle.script_text.specs.declared.command.Command.{Command}
use Rattle.script_text.specs.declared.command.When.{When}
use Rattle.script_text.specs.declared.command.When.TheVariants.{At, NowPad, Now}
use Rattle.script_text.specs.declared.fault.ScriptKind.{ScriptKind}
use Rattle.script_text.specs.declared.fault.ScriptKind.TheVariants.{NotText, TooLong, BadAct, NeedsPad, StrayPad, Backwards}
use Rattle.text_words.specs.Words.{words_of}
use Rattle.text_words.specs.declared.word.Separator.TheVariants.{Space}
use Rattle.world_core.specs.Headline.{EndsBy}
use Rattle.world_core.specs.Scripts.{IsScriptEnd, ScriptEnded}
use Rattle.world_core.specs.World.{FilesHold, IsWorldEnd, RunUnopened}
use Rattle.world_core.specs.declared.ended.WorldEnd.{WorldEnd}

-- ---- what they name

-- an answer that is no command
no_answer : {X : Type 0} (kind : ScriptKind) (x : X) (r : Result X ScriptKind) → r ≡ Err kind → r ≡ Ok x → ⊥
no_answer kind x r f g = cc

same_command : (one other : Command) (r : Result Command ScriptKind) → r ≡ Ok one → r ≡ Ok other → one ≡ other
same_command one other r f g = cc

named_as : (one other : Command) → one ≡ other → names_its_pad one ≡ true → names_its_pad other ≡ true
named_as one other is named = subst (λ (c : Command). names_its_pad c ≡ true) is named

-- an act at a pad has one that is named, where the two fit
fits_named : (command : Command) (when : When) (act : Act) → fitted when act ≡ Ok command → names_its_pad command ≡ true
fits_named command (At pad buffers) (Relink sink) e = named_as _ command (same_command _ command _ refl e) refl
fits_named command (At pad buffers) (Unlink eos) e = named_as _ command (same_command _ command _ refl e) refl
fits_named command (At pad buffers) (Add kind props) e = named_as _ command (same_command _ command _ refl e) refl
fits_named command (At pad buffers) (Remove element) e = named_as _ command (same_command _ command _ refl e) refl
fits_named command (NowPad pad) (Relink sink) e = named_as _ command (same_command _ command _ refl e) refl
fits_named command (NowPad pad) (Unlink eos) e = named_as _ command (same_command _ command _ refl e) refl
fits_named command (NowPad pad) (Add kind props) e = absurd (no_answer StrayPad command (Err StrayPad) refl e)
fits_named command (NowPad pad) (Remove element) e = absurd (no_answer StrayPad command (Err StrayPad) refl e)
fits_named command Now (Relink sink) e = absurd (no_answer NeedsPad command (Err NeedsPad) refl e)
fits_named command Now (Unlink eos) e = absurd (no_answer NeedsPad command (Err NeedsPad) refl e)
fits_named command Now (Add kind props) e = named_as _ command (same_command _ command _ refl e) refl
fits_named command Now (Remove element) e = named_as _ command (same_command _ command _ refl e) refl

words_named : (acts : Acts) (words : List (List ℕ)) (command : Command) → command_of acts words ≡ Ok command → names_its_pad command ≡ true
unfolding command_of
words_named acts words command e = by (when_of words) e
  where
    behind : (when : When) (o : Option Act) → and_then (ok_or o BadAct) (fitted when) ≡ Ok command → names_its_pad command ≡ true
    behind when None f = absurd (no_answer BadAct command (Err BadAct) refl f)
    behind when (Some act) f = fits_named command when act f

    by : (r : Result (When × List (List ℕ)) ScriptKind) → and_then r (λ w. and_then (ok_or (done_act acts w.1) BadAct) (fitted w.0)) ≡ Ok command
        → names_its_pad command ≡ true
    by (Err kind) f = absurd (no_answer kind command (Err kind) refl f)
    by (Ok w) f = behind w.0 (done_act acts w.1) f

line_named : (acts : Acts) (earlier : List Command) (line : List ℕ) (command : Command) → line_answer acts earlier line ≡ Ok command → names_its_pad command ≡ true
unfolding line_answer
line_named acts earlier line command e = by (is_utf8 line) (nat_lt (length earlier) 4096) (command_of acts (words_of Space line)) refl e
  where
    ordered : (other : Command) (t : Bool) → cond t (Err Backwards) (Ok other) ≡ Ok command → other ≡ command
    ordered other true f = absurd (no_answer Backwards command (Err Backwards) refl f)
    ordered other false f = same_command other command (Ok other) refl f

    by : (t u : Bool) (r : Result Command ScriptKind) → command_of acts (words_of Space line) ≡ r
        → cond t (cond u (and_then r (in_order earlier)) (Err TooLong)) (Err NotText) ≡ Ok command → names_its_pad command ≡ true
    by false u r is f = absurd (no_answer NotText command (Err NotText) refl f)
    by true false r is f = absurd (no_answer TooLong command (Err TooLong) refl f)
    by true true (Err kind) is f = absurd (no_answer kind command (Err kind) refl f)
    by true true (Ok other) is f = named_as other command (ordered other (goes_back earlier other.when) f) (words_named acts (words_of Space line) other is)

-- each command of a script that acts on a pad names it
pub all_named : (acts : Acts) (text : List ℕ) (commands : List Command) → IsScript acts text commands → All (λ c. names_its_pad c ≡ true) commands
all_named acts text commands script place other within =
    let line = found_at (spoken (lines text)) place (subst (λ (n : ℕ). place < n) script.said.count within) in
    line_named acts (take place commands) line.0 _ (script.said.each place line.0 _ line.1 (slice_get-get_or commands place other within))

-- so do those that a request asks for
pub asked_named : (script : Option (List ℕ)) (before : Seen) (commands : List Command) → AreAsked script before commands → All (λ c. names_its_pad c ≡ true) commands
asked_named None before [] asked = λ place other within. absurd (omega (arith, within))
asked_named None before (c ∷ cs) asked = absurd cc
asked_named (Some location) before commands asked = all_named RUN_ACTS asked.0.0 commands asked.0.1

-- ---- how a run of them ends

true_false : true ≡ false → ⊥
true_false e = cc

none_counted : (given : List Command) → eqb (length given) 0 ≡ true → given ≡ []
none_counted [] e = refl
none_counted (c ∷ cs) e = by (eqb_tells (length (c ∷ cs)) 0)
  where
    by : ((eqb (length (c ∷ cs)) 0 ≡ true) × (length (c ∷ cs) ≡ 0)) ⊎ ((eqb (length (c ∷ cs)) 0 ≡ false) × (length (c ∷ cs) ≢ 0)) → c ∷ cs ≡ []
    by (inl t) = absurd (let w = t.1 in omega (arith, w))
    by (inr t) = absurd (true_false (sym e ∙ t.0))

-- whether there are commands, as it is asked
pub no_commands : (given lent : List Command) (t : Bool) → lent ≡ given → t ≡ eqb (length lent) 0 → t ≡ true → given ≡ []
no_commands given lent t same is none = sym same ∙ none_counted lent (sym is ∙ none)

pub some_commands : (given lent : List Command) (t : Bool) → lent ≡ given → t ≡ eqb (length lent) 0 → t ≡ false → given ≢ []
some_commands given lent t same is some none = true_false (sym (is ∙ ap (λ (l : List Command). eqb (length l) 0) (same ∙ none)) ∙ some)

-- without commands it is a run of the line
pub ends_by_turns : (graph : Graph) (commands : List Command) (before after : Seen) (end : WorldEnd) → commands ≡ [] → IsWorldEnd graph before after end
    → EndsBy graph commands before after end
ends_by_turns graph [] before after end none ended = ended
ends_by_turns graph (c ∷ cs) before after end none ended = absurd cc

-- and with some it is one of a script, each command of which names its pad
pub ends_by_script : (graph : Graph) (commands : List Command) (before after : Seen) (end : WorldEnd) → commands ≢ [] → All (λ c. names_its_pad c ≡ true) commands
    → IsScriptEnd graph commands before after end → EndsBy graph commands before after end
ends_by_script graph [] before after end some named ended = absurd (some refl)
ends_by_script graph (c ∷ cs) before after end some named ended = by ended
  where
    by : RunUnopened graph before after end ⊎ ScriptEnded graph (c ∷ cs) before (FilesHold graph after) end → EndsBy graph (c ∷ cs) before after end
    by (inl unopened) = inl unopened
    by (inr ran) = inr (record { all = ran.all; answered = λ contents told. ran.answered contents told named; told = λ contents told. ran.told contents told named })
