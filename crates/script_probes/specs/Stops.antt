-- Which command stops the next buffer at a pad.
use Rattle.std.specs.Prelude.{◌≡◌, ◌⊎◌, ◌<◌, ◌≤◌, ◌++◌, ℕ, suc, List, [], ◌∷◌, Option, None, Some, slice_get}
use Rattle.std.specs.Option.{option_map}
use Rattle.gst_value.specs.Names.{Each}
use Rattle.gst_value.specs.declared.name.PadName.{PadName}
use Rattle.pad_core.specs.declared.probe.Probe.{Probe}
use Rattle.script_text.specs.declared.command.Command.{Command}
use Rattle.script_text.specs.declared.command.When.{When}
use Rattle.script_text.specs.declared.command.When.TheVariants.{At, NowPad, Now}

-- when the command at a place is done
abbrev pub when_at : List Command → ℕ → Option When
when_at commands place = option_map (λ (command : Command). command.when) (slice_get commands place)

-- the command of the probe waits at this pad, for as many buffers as the probe says
abbrev pub WaitsAt : List Command → PadName → Probe → Type 0
WaitsAt commands pad probe = when_at commands probe.command ≡ Some (At pad probe.buffers)

-- and it is none of so many commands that are answered
abbrev pub StillWaits : List Command → ℕ → PadName → Probe → Type 0
StillWaits commands answered pad probe = WaitsAt commands pad probe × (answered ≤ probe.command)

-- a probe stops no later than another: behind fewer buffers, or behind as many, and its command is not the later one
abbrev pub StopsFirst : Probe → Probe → Type 0
StopsFirst probe other = (probe.buffers < other.buffers) ⊎ ((probe.buffers ≡ other.buffers) × (probe.command ≤ other.command))

-- the probe of a pad when so many commands are answered: of those that still wait there the one that stops first
abbrev pub IsStop : List Command → ℕ → PadName → Option Probe → Type 0
IsStop commands answered pad (Some probe) = StillWaits commands answered pad probe × ((other : Probe) → StillWaits commands answered pad other → StopsFirst probe other)
IsStop commands answered pad None = (probe : Probe) → ¬ StillWaits commands answered pad probe

-- ---- lists of probes

abbrev pub IsMember : Probe → List Probe → Type 0
IsMember probe [] = ⊥
IsMember probe (x ∷ xs) = (x ≡ probe) ⊎ IsMember probe xs

-- each stops no later than those behind it
abbrev pub InOrder : List Probe → Type 0
InOrder [] = Unit {0}
InOrder (probe ∷ probes) = Each (StopsFirst probe) probes × InOrder probes

-- the probe of the command at a place, where that waits for buffers
abbrev pub stop_at : ℕ → When → List Probe
stop_at place (At pad buffers) = (record { command = place; buffers = buffers }) ∷ []
stop_at place (NowPad pad) = []
stop_at place Now = []

-- the probes of commands that stand from a place on, in their order
abbrev pub stops_of : ℕ → List Command → List Probe
stops_of place [] = []
stops_of place (command ∷ commands) = stop_at place command.when ++ stops_of (suc place) commands

-- the probes of commands, in any order
pub record AreStops (commands : List Command) (stops : List Probe) : Type 0 where
  pub each : Each (λ stop. (pad : PadName) × WaitsAt commands pad stop) stops
  pub all : (pad : PadName) (stop : Probe) → WaitsAt commands pad stop → IsMember stop stops
