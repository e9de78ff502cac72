-- Which commands the probes of a script stand for.
use Rattle.std.specs.Prelude.{ℕ, List}
use Rattle.gst_value.specs.declared.name.PadName.{PadName}
use Rattle.script_text.specs.declared.command.Command.{Command}
use Rattle.script_probes.specs.Queues.{IsQueue, queue_at}
use Rattle.script_probes.specs.declared.probes.ScriptProbes.{ScriptProbes}

-- they are those of these commands, so many of which are answered
pub record StandsFor (probes : ScriptProbes) (commands : List Command) (answered : ℕ) : Type 0 where
  pub queues : (pad : PadName) → IsQueue commands answered pad (queue_at probes.elements pad)
