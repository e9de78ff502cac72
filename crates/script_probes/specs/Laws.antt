-- What holds of the stops of a script.
use Rattle.std.specs.Prelude.{◌≡◌, ◌≤◌, ℕ, List, Option}
use Rattle.gst_value.specs.declared.name.PadName.{PadName}
use Rattle.pad_core.specs.declared.probe.Probe.{Probe}
use Rattle.script_text.specs.declared.command.Command.{Command}
use Rattle.script_probes.specs.Stands.{StandsFor}
use Rattle.script_probes.specs.Stops.{IsStop}
use Rattle.script_probes.specs.declared.probes.ScriptProbes.{ScriptProbes}

-- a pad has one stop, or none
abbrev pub OneStop : Type 0
OneStop = (commands : List Command) (answered : ℕ) (pad : PadName) (one other : Option Probe) → IsStop commands answered pad one → IsStop commands answered pad other → one ≡ other

-- probes that stand for commands of which some are answered do so when more are
abbrev pub StandsLater : Type 0
StandsLater = (probes : ScriptProbes) (commands : List Command) (before answered : ℕ) → before ≤ answered → StandsFor probes commands before → StandsFor probes commands answered
