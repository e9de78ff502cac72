-- The probes of a script.
use Rattle.std.specs.Prelude.{◌<◌, ◌≤◌, ◌^◌, ℕ, suc, List, length}
use Rattle.pad_core.specs.declared.probe.Probe.{Probe}
use Rattle.script_probes.specs.Stands.{StandsFor}
use Rattle.script_probes.specs.declared.probes.ScriptProbes.{ScriptProbes}
use Rattle.script_text.specs.declared.command.Command.{Command}

-- These are the probes of a script of which so many commands are answered, or were when they were last asked; and numbers of 32 bits count its commands.
pub record StandFor (probes : ScriptProbes) (commands : List Command) (answered : ℕ) : Type 0 where
  pub last : ℕ
  pub passed : last ≤ answered
  pub stands : StandsFor probes commands last
  pub few : length commands < 2 ^ 32

-- a probe by the number that its command has in a report
abbrev pub numbered : Probe → Probe
numbered probe = record { command = suc probe.command; buffers = probe.buffers }
