-- Worked rows of scripts.
use Rattle.std.specs.Prelude.{◌≡◌, ◌++◌, ◌∷◌, [], ℕ, List, Ok, Err, codes, false, true}
use Rattle.gst_value.specs.declared.name.PadName.{PadName}
use Rattle.text_words.specs.Words.{words_of}
use Rattle.text_words.specs.declared.word.Separator.TheVariants.{Space}
use Rattle.script_text.specs.Commands.{command_of}
use Rattle.script_text.specs.Lines.{lines, says_nothing}
use Rattle.script_text.specs.Scripts.{goes_back}
use Rattle.script_text.specs.declared.acts.TheConstants.Acts
use Rattle.script_text.specs.declared.command.Act.TheVariants.{Unlink, Add}
use Rattle.script_text.specs.declared.command.Command.{Command}
use Rattle.script_text.specs.declared.command.When.TheVariants.{At, Now}
use Rattle.script_text.specs.declared.fault.ScriptKind.TheVariants.{BadWhen, BadNumber, BadAct, NeedsPad, StrayPad}

abbrev pub pad : List ℕ → List ℕ → PadName
pad element name = record { element = element; pad = name }

-- unlink eos, when so many buffers have passed i.src
abbrev pub unlinking : ℕ → Command
unlinking buffers = record { when = At (pad (codes "i") (codes "src")) buffers; act = Unlink true }

pub record ScriptRows : Type 0 where
  -- two lines of which the second has no line end, and an empty one between
  pub lines_row : lines (codes "ab" ++ 10 ∷ 10 ∷ codes "c") ≡ codes "ab" ∷ [] ∷ codes "c" ∷ []
  -- a line end at the end begins no line more
  pub end_row : lines (codes "ab" ++ 10 ∷ []) ≡ codes "ab" ∷ []
  -- spaces, a comment, and what is none
  pub blank_row : says_nothing (codes "  ") ≡ true
  pub comment_row : says_nothing (codes "# now") ≡ true
  pub indented_row : says_nothing (codes " # now") ≡ false
  -- a pad, a number of buffers and an act
  pub at_row : command_of Acts.ALL (words_of Space (codes "at i.src 007 unlink eos")) ≡ Ok (unlinking 7)
  -- a value in quotes
  pub add_row : command_of Acts.ALL (words_of Space (codes "now add queue name=" ++ 34 ∷ codes "a b" ++ 34 ∷ []))
      ≡ Ok (record { when = Now; act = Add (codes "queue") (record { name = codes "name"; value = codes "a b" } ∷ []) })
  -- what is wrong is told in this order
  pub when_row : command_of Acts.ALL (words_of Space (codes "at isrc x flip")) ≡ Err BadWhen
  pub number_row : command_of Acts.ALL (words_of Space (codes "at i.src x flip")) ≡ Err BadNumber
  pub act_row : command_of Acts.ALL (words_of Space (codes "now i.src flip")) ≡ Err BadAct
  pub needs_row : command_of Acts.ALL (words_of Space (codes "now unlink")) ≡ Err NeedsPad
  pub stray_row : command_of Acts.ALL (words_of Space (codes "now i.src remove e")) ≡ Err StrayPad
  -- an act that is not done is told as an unknown one is
  pub undone_row : command_of Acts.NONE (words_of Space (codes "now i.src unlink")) ≡ Err BadAct
  pub undone_number_row : command_of Acts.NONE (words_of Space (codes "at i.src x relink b.sink")) ≡ Err BadNumber
  -- a smaller number of buffers of the same pad goes back, and an equal one does not
  pub back_row : goes_back (unlinking 5 ∷ []) (unlinking 4).when ≡ true
  pub equal_row : goes_back (unlinking 5 ∷ []) (unlinking 5).when ≡ false
