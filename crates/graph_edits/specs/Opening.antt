-- Opening commands: those before which no command waits for a buffer. They are answered before anything crosses a pad.
use Rattle.std.specs.Prelude.{◌≡◌, ◌<◌, ℕ, suc, Bool, true, false, All, List, [], ◌∷◌, if◌then◌else◌, Some, slice_get}
use Rattle.script_text.specs.declared.answer.Answer.{Answer}
use Rattle.script_text.specs.declared.answer.Answer.TheVariants.{Done, Unreached, Refused}
use Rattle.script_text.specs.declared.answer.Entry.{Entry}
use Rattle.script_text.specs.declared.answer.Place.{Place}
use Rattle.script_text.specs.declared.answer.Reason.{Reason}
use Rattle.script_text.specs.declared.answer.Reason.TheVariants.{AfterEos, FedElsewhere}
use Rattle.script_text.specs.declared.command.Act.{Act}
use Rattle.script_text.specs.declared.command.Act.TheVariants.{Relink, Unlink, Add, Remove}
use Rattle.script_text.specs.declared.command.Command.{Command}
use Rattle.script_text.specs.declared.command.When.{When}
use Rattle.script_text.specs.declared.command.When.TheVariants.{At, NowPad, Now}
use Rattle.graph_edits.specs.Lawful.{places_of}

-- the command waits for a buffer
abbrev pub waits_for_buffer : When → Bool
waits_for_buffer (At pad buffers) = true
waits_for_buffer (NowPad pad) = false
waits_for_buffer Now = false

-- the command lets an item reach a sink pad by itself
abbrev pub gives_eos : Act → Bool
gives_eos (Relink sink) = false
gives_eos (Unlink eos) = eos
gives_eos (Add kind props) = false
gives_eos (Remove element) = false

-- how many commands of a script are answered while nothing has crossed a pad: the opening ones, up to and with the first that gives an EOS
abbrev pub still_opening : List Command → ℕ
still_opening [] = 0
still_opening (c ∷ script) = if waits_for_buffer c.when then 0 else suc (if gives_eos c.act then 0 else still_opening script)

-- where nothing has crossed a pad, no stream has ended, and no element was fed
abbrev pub is_opening_reason : Reason → Bool
is_opening_reason AfterEos = false
is_opening_reason FedElsewhere = false
is_opening_reason _ = true

abbrev pub is_opening_answer : Answer → Bool
is_opening_answer (Done places) = true
is_opening_answer Unreached = false
is_opening_answer (Refused reason places) = is_opening_reason reason

-- so their places are 0
pub record IsAtStart (entry : Entry) : Type 0 where
  pub places : All (λ (place : Place). place.items ≡ 0) (places_of entry.answer)
  pub answer : is_opening_answer entry.answer ≡ true

abbrev pub AreAtStart : List Command → List Entry → Type 0
AreAtStart script entries = (k : ℕ) (entry : Entry) → k < still_opening script → slice_get entries k ≡ Some entry → IsAtStart entry
