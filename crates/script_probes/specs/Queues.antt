-- The probes that wait at each pad.
use Rattle.std.specs.Prelude.{◌&&◌, ℕ, Bool, false, cond, List, [], ◌∷◌, Option, None, Some, String, nat_lt}
use Rattle.std.specs.Option.{option_map_or}
use Rattle.std.specs.Str.{bytes_eq}
use Rattle.std.specs.declared.collections.VecDeque.{VecDeque}
use Rattle.std.specs.declared.alloc.Global.{Global}
use Rattle.indexmap.specs.IndexMap.{IndexMap, get_by_text}
use Rattle.gst_value.specs.Names.{Each}
use Rattle.gst_value.specs.declared.name.PadName.{PadName}
use Rattle.pad_core.specs.declared.probe.Probe.{Probe}
use Rattle.script_text.specs.declared.command.Command.{Command}
use Rattle.script_text.specs.declared.command.When.{When}
use Rattle.script_text.specs.declared.command.When.TheVariants.{At, NowPad, Now}
use Rattle.script_probes.specs.Stops.{IsMember, InOrder, StillWaits, WaitsAt, when_at}

abbrev pub is_pad : PadName → PadName → Bool
is_pad pad other = bytes_eq pad.element other.element && bytes_eq pad.pad other.pad

-- the probes that wait at the pad of this name, in the order in which they stop
abbrev pub queue_in : {S : Type 0} → IndexMap (String Global) (VecDeque Probe Global) S → List ℕ → List Probe
queue_in pads pad = option_map_or (λ (queue : VecDeque Probe Global). queue.items) (get_by_text pads pad) []

-- the same of a pad of one of the elements
abbrev pub queue_at : {R S : Type 0} → IndexMap (String Global) (IndexMap (String Global) (VecDeque Probe Global) R) S → PadName → List Probe
queue_at elements pad = option_map_or (λ pads. queue_in pads pad.pad) (get_by_text elements pad.element) []

-- the probes once those that come first and whose commands are answered are gone
abbrev pub unanswered : ℕ → List Probe → List Probe
unanswered answered [] = []
unanswered answered (probe ∷ probes) = cond (nat_lt probe.command answered) (unanswered answered probes) (probe ∷ probes)

-- whether a command waits at this pad
abbrev pub waits_at : PadName → Option When → Bool
waits_at pad None = false
waits_at pad (Some (At other buffers)) = is_pad other pad
waits_at pad (Some (NowPad other)) = false
waits_at pad (Some Now) = false

-- whether the command of a probe waits at this pad
abbrev pub is_at : List Command → PadName → Probe → Bool
is_at commands pad probe = waits_at pad (when_at commands probe.command)

-- The probes that wait at a pad when so many commands are answered. Some of the answered ones may be among them.
pub record IsQueue (commands : List Command) (answered : ℕ) (pad : PadName) (queue : List Probe) : Type 0 where
  pub each : Each (WaitsAt commands pad) queue
  pub all : (probe : Probe) → StillWaits commands answered pad probe → IsMember probe queue
  pub ordered : InOrder queue
