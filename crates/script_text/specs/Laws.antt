-- A text is a script, or it is refused for one fault.
use Rattle.std.specs.Prelude.{◌≡◌, ◌⊎◌, ℕ, List, []}
use Rattle.script_text.specs.Scripts.{IsRefused, IsScript}
use Rattle.script_text.specs.declared.acts.Acts.{Acts}
use Rattle.script_text.specs.declared.command.Command.{Command}
use Rattle.script_text.specs.declared.fault.ScriptKind.{ScriptKind}

-- each text is a script or refused
abbrev pub EachHasOne : Type 0
EachHasOne = (acts : Acts) (text : List ℕ) → ((commands : List Command) × IsScript acts text commands) ⊎ ((line : ℕ) × (kind : ScriptKind) × IsRefused acts text line kind)

-- and not both
abbrev pub NeverBoth : Type 0
NeverBoth = (acts : Acts) (text : List ℕ) (commands : List Command) (line : ℕ) (kind : ScriptKind) → IsScript acts text commands → ¬ IsRefused acts text line kind

-- a text says commands of one list
abbrev pub OneScript : Type 0
OneScript = (acts : Acts) (text : List ℕ) (one other : List Command) → IsScript acts text one → IsScript acts text other → one ≡ other

-- a text is refused for one fault of one line
abbrev pub OneRefusal : Type 0
OneRefusal = (acts : Acts) (text : List ℕ) (line other : ℕ) (kind more : ScriptKind) → IsRefused acts text line kind → IsRefused acts text other more → (line ≡ other) × (kind ≡ more)

-- where only these acts are done, a script has no commands
abbrev pub HasNoCommands : Acts → Type 0
HasNoCommands acts = (text : List ℕ) (commands : List Command) → IsScript acts text commands → commands ≡ []
