-- The command that words say.
use Rattle.std.specs.Prelude.{◌^◌, ◌==◌, ℕ, Bool, true, false, cond, List, [], ◌∷◌, ◌++◌, Option, Some, None, Result, Ok, Err, codes, ok_or}
use Rattle.std.specs.List.{list_any}
use Rattle.std.specs.Str.{bytes_eq}
use Rattle.gst_value.specs.declared.name.PadName.{PadName}
use Rattle.gst_value.specs.declared.name.Prop.{Prop}
use Rattle.text_words.specs.Bytes.{is_run}
use Rattle.text_words.specs.Values.{number_of, pad_of, prop_of, ◌>>=◌}
use Rattle.text_words.specs.declared.class.Class.TheVariants.{Kind, Name}
use Rattle.script_text.specs.Refusals.{and_then, unless}
use Rattle.script_text.specs.declared.acts.Acts.{Acts}
use Rattle.script_text.specs.declared.command.Act.{Act}
use Rattle.script_text.specs.declared.command.Act.TheVariants.{Relink, Unlink, Add, Remove}
use Rattle.script_text.specs.declared.command.Command.{Command}
use Rattle.script_text.specs.declared.command.When.{When}
use Rattle.script_text.specs.declared.command.When.TheVariants.{At, NowPad, Now}
use Rattle.script_text.specs.declared.fault.ScriptKind.{ScriptKind}
use Rattle.script_text.specs.declared.fault.ScriptKind.TheVariants.{BadWhen, BadNumber, BadAct, NeedsPad, StrayPad}

-- ---- when

-- what numbers of buffers are below
abbrev pub buffers_end : ℕ
buffers_end = 2 ^ 63

-- at PAD N, without the word `at` and the pad
abbrev pub buffers_of : PadName → List (List ℕ) → Result (When × List (List ℕ)) ScriptKind
buffers_of pad [] = Err BadNumber
buffers_of pad (word ∷ words) = and_then (ok_or (number_of buffers_end word) BadNumber) (λ buffers. Ok (At pad buffers, words))

-- at PAD N, without the word `at`
abbrev pub at_of : List (List ℕ) → Result (When × List (List ℕ)) ScriptKind
at_of [] = Err BadWhen
at_of (word ∷ words) = and_then (ok_or (pad_of word) BadWhen) (λ pad. buffers_of pad words)

abbrev pub has_point : List ℕ → Bool
has_point word = list_any (λ b. b == 46) word

-- now PAD and now, without the word `now`: a word with a point is a pad
abbrev pub now_of : List (List ℕ) → Result (When × List (List ℕ)) ScriptKind
now_of [] = Ok (Now, [])
now_of (word ∷ words) = cond (has_point word) (and_then (ok_or (pad_of word) BadWhen) (λ pad. Ok (NowPad pad, words))) (Ok (Now, word ∷ words))

-- when a command is done, and the words behind that
unfoldable pub when_of : List (List ℕ) → Result (When × List (List ℕ)) ScriptKind
when_of [] = Err BadWhen
when_of (word ∷ words) = cond (bytes_eq word (codes "at")) (at_of words) (cond (bytes_eq word (codes "now")) (now_of words) (Err BadWhen))

-- ---- what

-- one word alone
abbrev pub only : List (List ℕ) → Option (List ℕ)
only [] = None
only (word ∷ []) = Some word
only (word ∷ other ∷ words) = None

-- relink PAD, without the word `relink`
abbrev pub relink_of : List (List ℕ) → Option Act
relink_of words = only words >>= λ word. pad_of word >>= λ pad. Some (Relink pad)

-- unlink and unlink eos, without the word `unlink`
abbrev pub unlink_of : List (List ℕ) → Option Act
unlink_of [] = Some (Unlink false)
unlink_of (word ∷ []) = cond (bytes_eq word (codes "eos")) (Some (Unlink true)) None
unlink_of (word ∷ other ∷ words) = None

-- each word is a property
abbrev pub props_of : List (List ℕ) → Option (List Prop)
props_of [] = Some []
props_of (word ∷ words) = prop_of word >>= λ prop. props_of words >>= λ props. Some (prop ∷ props)

abbrev pub has_name : List Prop → Bool
has_name props = list_any (λ prop. bytes_eq prop.name (codes "name")) props

-- an element of this kind, of which one property is the name
abbrev pub added : List ℕ → List Prop → Option Act
added kind props = cond (has_name props) (Some (Add kind props)) None

-- add KIND PROP.., without the word `add`
abbrev pub add_of : List (List ℕ) → Option Act
add_of [] = None
add_of (kind ∷ words) = cond (is_run Kind kind) (props_of words >>= added kind) None

-- remove ELEMENT, without the word `remove`
abbrev pub remove_of : List (List ℕ) → Option Act
remove_of words = only words >>= λ word. cond (is_run Name word) (Some (Remove word)) None

-- what a command does, by its first word
unfoldable pub act_of : List (List ℕ) → Option Act
act_of [] = None
act_of (word ∷ words) =
    cond (bytes_eq word (codes "relink")) (relink_of words)
    (cond (bytes_eq word (codes "unlink")) (unlink_of words)
    (cond (bytes_eq word (codes "add")) (add_of words)
    (cond (bytes_eq word (codes "remove")) (remove_of words) None)))

-- the act is one of these
abbrev pub does : Acts → Act → Bool
does acts (Relink sink) = acts.relink
does acts (Unlink eos) = acts.unlink
does acts (Add kind props) = acts.add
does acts (Remove element) = acts.remove

-- what a command does, which is one of these acts
abbrev pub done_act : Acts → List (List ℕ) → Option Act
done_act acts words = act_of words >>= λ act. cond (does acts act) (Some act) None

-- ---- both

-- an act that is done at a pad
abbrev pub is_pad_act : Act → Bool
is_pad_act (Relink sink) = true
is_pad_act (Unlink eos) = true
is_pad_act (Add kind props) = false
is_pad_act (Remove element) = false

-- behind `now` an act at a pad needs one, and another has none
abbrev pub misfit : When → Act → Option ScriptKind
misfit (At pad buffers) act = None
misfit (NowPad pad) act = cond (is_pad_act act) None (Some StrayPad)
misfit Now act = cond (is_pad_act act) (Some NeedsPad) None

abbrev pub fitted : When → Act → Result Command ScriptKind
fitted when act = unless (misfit when act) (Ok (record { when = when; act = act }))

-- the command that the words of a line say by themselves, where its act is one of these
unfoldable pub command_of : Acts → List (List ℕ) → Result Command ScriptKind
command_of acts words = and_then (when_of words) (λ w. and_then (ok_or (done_act acts w.1) BadAct) (fitted w.0))

-- a pad's name in one text
abbrev pub spelled : PadName → List ℕ
spelled pad = pad.element ++ 46 ∷ pad.pad
