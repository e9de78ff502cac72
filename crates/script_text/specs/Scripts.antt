-- Scripts, and texts that are none.
use Rattle.std.specs.Prelude.{◌≡◌, ◌+◌, ◌<◌, ◌≤◌, ◌⊎◌, ℕ, Bool, false, cond, ◌&&◌, List, [], ◌∷◌, ◌++◌, Some, Result, Ok, Err, length, nat_lt, slice_get, take}
use Rattle.std.specs.List.{list_any}
use Rattle.std.specs.Str.{bytes_eq, is_utf8}
use Rattle.text_words.specs.Words.{words_of}
use Rattle.text_words.specs.declared.word.Separator.TheVariants.{Space}
use Rattle.script_text.specs.Commands.{command_of, spelled}
use Rattle.script_text.specs.Lines.{is_passed_over, lines, spoken}
use Rattle.script_text.specs.Refusals.{and_then}
use Rattle.script_text.specs.declared.acts.Acts.{Acts}
use Rattle.script_text.specs.declared.command.Command.{Command}
use Rattle.script_text.specs.declared.command.When.{When}
use Rattle.script_text.specs.declared.command.When.TheVariants.{At, NowPad, Now}
use Rattle.script_text.specs.declared.fault.ScriptFault.{ScriptFault}
use Rattle.script_text.specs.declared.fault.ScriptFault.TheVariants.{BadScript, OutOfMemory}
use Rattle.script_text.specs.declared.fault.ScriptKind.{ScriptKind}
use Rattle.script_text.specs.declared.fault.ScriptKind.TheVariants.{NotText, TooLong, Backwards}

-- the longest text, in bytes
abbrev pub longest : ℕ
longest = 1048576

-- the most commands
abbrev pub most_commands : ℕ
most_commands = 4096

-- ---- one line

-- waits for more than so many buffers of the pad
abbrev pub waits_beyond : List ℕ → ℕ → When → Bool
waits_beyond pad buffers (At other more) = bytes_eq (spelled other) pad && nat_lt buffers more
waits_beyond pad buffers (NowPad other) = false
waits_beyond pad buffers Now = false

-- an earlier command waits for more buffers of the same pad
abbrev pub goes_back : List Command → When → Bool
goes_back earlier (At pad buffers) = list_any (λ command. waits_beyond (spelled pad) buffers command.when) earlier
goes_back earlier (NowPad pad) = false
goes_back earlier Now = false

abbrev pub in_order : List Command → Command → Result Command ScriptKind
in_order earlier command = cond (goes_back earlier command.when) (Err Backwards) (Ok command)

-- what a line that is not passed over says behind these earlier commands
unfoldable pub line_answer : Acts → List Command → List ℕ → Result Command ScriptKind
line_answer acts earlier line =
    cond (is_utf8 line)
    (cond (nat_lt (length earlier) most_commands) (and_then (command_of acts (words_of Space line)) (in_order earlier)) (Err TooLong))
    (Err NotText)

-- the commands behind one line more
abbrev pub step : Acts → List Command → List ℕ → Result (List Command) ScriptKind
step acts earlier line = cond (is_passed_over line) (Ok earlier) (and_then (line_answer acts earlier line) (λ command. Ok (earlier ++ command ∷ [])))

-- ---- all lines

-- each line that is not passed over says the command at its place behind the earlier ones
pub record AreCommands (acts : Acts) (text : List (List ℕ)) (commands : List Command) : Type 0 where
  pub count : length commands ≡ length (spoken text)
  pub each : (place : ℕ) (line : List ℕ) (command : Command) → slice_get (spoken text) place ≡ Some line → slice_get commands place ≡ Some command
      → line_answer acts (take place commands) line ≡ Ok command

-- the text is not too long, and its lines say the commands
pub record IsScript (acts : Acts) (text : List ℕ) (commands : List Command) : Type 0 where
  pub short : length text ≤ longest
  pub said : AreCommands acts (lines text) commands

-- the lines before it say commands, behind which it is wrong
pub record IsBadLine (acts : Acts) (text : List (List ℕ)) (line : ℕ) (kind : ScriptKind) : Type 0 where
  pub before : List (List ℕ)
  pub bad : List ℕ
  pub behind : List (List ℕ)
  pub commands : List Command
  pub parts : text ≡ before ++ bad ∷ behind
  pub counted : line ≡ length before + 1
  pub said : AreCommands acts before commands
  pub spoken : is_passed_over bad ≡ false
  pub answer : line_answer acts commands bad ≡ Err kind

-- the text is too long, which is told of line 0
pub record IsTooLong (text : List ℕ) (line : ℕ) (kind : ScriptKind) : Type 0 where
  pub long : longest < length text
  pub counted : line ≡ 0
  pub answer : kind ≡ TooLong

-- the text is not too long, and a line of it is wrong
pub record HasBadLine (acts : Acts) (text : List ℕ) (line : ℕ) (kind : ScriptKind) : Type 0 where
  pub short : length text ≤ longest
  pub is_bad : IsBadLine acts (lines text) line kind

-- the text is no script
abbrev pub IsRefused : Acts → List ℕ → ℕ → ScriptKind → Type 0
IsRefused acts text line kind = IsTooLong text line kind ⊎ HasBadLine acts text line kind

-- the fault is that of the text, unless memory was wanting
abbrev pub IsRefusal : Acts → List ℕ → ScriptFault → Type 0
IsRefusal acts text (BadScript line kind) = IsRefused acts text line kind
IsRefusal acts text OutOfMemory = Unit {0}

-- the fault of the lines, unless memory was wanting
abbrev pub IsFault : Acts → List (List ℕ) → ScriptFault → Type 0
IsFault acts text (BadScript line kind) = IsBadLine acts text line kind
IsFault acts text OutOfMemory = Unit {0}
