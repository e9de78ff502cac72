-- How control sets the probes of a script at the pads of a run.
use Rattle.std.specs.Prelude.{◌≡◌, ◌⊎◌, ◌-◌, ◌+◌, ℕ, List, Option, None, Some, if◌then◌else◌, length, nat_lt, slice_get}
use Rattle.std.specs.Option.{option_map}
use Rattle.lane_core.specs.declared.ends.Inlet as inlets
use Rattle.lane_core.specs.declared.ends.Outlet as outlets
use Rattle.flow_model.specs.Moment.{Moment}
use Rattle.flow_model.specs.declared.element.TaskElement as elements
use Rattle.flow_model.specs.declared.source.TaskSource as sources
use Rattle.gst_value.specs.declared.name.PadName.{PadName}
use Rattle.net_task.specs.declared.task.Task.{Task}
use Rattle.graph_core.specs.GraphPlan.{pad_id}
use Rattle.graph_pads.specs.declared.pad.Direction.TheVariants.{Source}
use Rattle.graph_pads.specs.declared.pad.PadPlace.{PadPlace}
use Rattle.pad_core.specs.declared.probe.Probe.{Probe}
use Rattle.script_probes.specs.Stops.{IsStop}
use Rattle.script_text.specs.declared.command.Command.{Command}
use Rattle.script_text.specs.declared.command.When.{When}
use Rattle.script_text.specs.declared.command.When.TheVariants.{At, NowPad, Now}
use Rattle.graph_edits.specs.Edited.{Edited}
use Rattle.graph_edits.specs.Graph.{IsEdited}
use Rattle.graph_edits.specs.Names.{pad_named}
use Rattle.net_edits.specs.Nets.{IsProbed, NoneHas}
use Rattle.edit_acts.specs.Scripted.{Has, KeepsControl}
use Rattle.world_core.specs.Answering.{ActsOn, NothingCanBeDone}
use Rattle.world_core.specs.Probes.{StandFor, numbered}
use Rattle.world_core.specs.Running.{KeepsScript, commands_left, view_of}
use Rattle.world_core.specs.Watching.{HasLookedUp, looked_up}
use Rattle.world_core.specs.declared.running.Running.{Running}

module _ {S E I O L : Type 0} {s : sources.Ghosts S} {e : elements.Ghosts E} {i : inlets.Ghosts I L O} {o : outlets.Ghosts O L} where
  -- control has the probes of the script, as it is answered so far
  abbrev pub AreProbes : Running S E I O L s e i o → Type 0
  AreProbes run = StandFor run.probing.probes run.script.items (length run.entries.items)

  -- how many times a probe is still to be set at the most: once for each command at first, and once behind each answer
  abbrev pub probes_left : Running S E I O L s e i o → ℕ
  probes_left run = (length run.script.items + length run.script.items) - run.probing.count

  -- how many commands are still to be looked up and to be answered, and how many times a probe is to be set
  abbrev pub acts_left : Running S E I O L s e i o → ℕ
  acts_left run = ((commands_left run + commands_left run) - looked_up run.watch) + probes_left run

  -- The place of the next command whose pad is to get a probe: each one at first, and then each that was answered.
  abbrev pub unprobed : Running S E I O L s e i o → Option ℕ
  unprobed run =
      if nat_lt run.probing.count (length run.script.items) then Some run.probing.count
      else (if nat_lt (run.probing.count - length run.script.items) (length run.entries.items) then Some (run.probing.count - length run.script.items) else None)

  -- The pad of this name has the probe of the first command that waits there, of those that are still to come; or it has none. Where no element has the pad,
  -- or no task has it, all stays.
  abbrev pub PadIsProbed : List Command → ℕ → PadName → List (Task S E I O L s e i o) → List (Task S E I O L s e i o) → Option PadPlace → Type 0
  PadIsProbed commands answered pad was is None = is ≡ was
  PadIsProbed commands answered pad was is (Some source) =
      (stop : Option Probe) × IsStop commands answered pad stop × (IsProbed was is (pad_id source) (option_map numbered stop) ⊎ (NoneHas was (pad_id source) × (is ≡ was)))

  -- so it is with the pad at which a command waits
  abbrev pub IsProbedFor : Edited → List Command → ℕ → List (Task S E I O L s e i o) → List (Task S E I O L s e i o) → When → Type 0
  IsProbedFor g commands answered was is (At pad n) = PadIsProbed commands answered pad was is (pad_named Source g pad)
  IsProbedFor g commands answered was is (NowPad pad) = is ≡ was
  IsProbedFor g commands answered was is Now = is ≡ was

  -- The pad of the command at a place got its probe, and nothing else changed.
  pub record HasProbed (was is : Running S E I O L s e i o) (place : ℕ) : Type 0 where
    pub next : unprobed was ≡ Some place
    pub counted : is.probing.count ≡ was.probing.count + 1
    pub command : Command
    pub at : slice_get was.script.items place ≡ Some command
    pub probed : (g : Edited) → IsEdited was.graph g → IsProbedFor g was.script.items (length was.entries.items) was.tasks.items is.tasks.items command.when
    pub has : (g : Edited) (m : Moment) → Has (view_of was) g m → Has (view_of is) g m
    pub control : KeepsControl (view_of was) (view_of is)
    pub lanes : is.lanes ≡ was.lanes
    pub watch : is.watch ≡ was.watch
    pub keeps : KeepsScript was is

  -- Control did what was next: a pad got its probe; or all have theirs, and the next command was looked up or answered.
  abbrev pub HasActed : Running S E I O L s e i o → Running S E I O L s e i o → Type 0
  HasActed was is = ((place : ℕ) × HasProbed was is place) ⊎ ((unprobed was ≡ None) × (HasLookedUp was is ⊎ ActsOn was is))

  -- All pads have their probes, and no command is left, or the next one can't be answered yet.
  abbrev pub Waits : Running S E I O L s e i o → Type 0
  Waits run = (unprobed run ≡ None) × NothingCanBeDone run
