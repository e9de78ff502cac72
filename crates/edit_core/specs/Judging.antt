-- When the next command can be answered, by the graph as the commands before it left it and by what stands at the source pads.
use Rattle.std.specs.Prelude.{◌≡◌, ◌==◌, ◌&&◌, ◌++◌, ℕ, Bool, true, false, nat_le, List, [], Option, None, Some, if◌then◌else◌, length}
use Rattle.flow_model.specs.Item.{Item}
use Rattle.lane_core.specs.declared.ends.Inlet as inlets
use Rattle.lane_core.specs.declared.ends.Outlet as outlets
use Rattle.flow_model.specs.Moment.{Moment}
use Rattle.flow_model.specs.declared.element.TaskElement as elements
use Rattle.flow_model.specs.declared.source.TaskSource as sources
use Rattle.net_task.specs.declared.task.Task.{Task}
use Rattle.graph_core.specs.GraphPlan.{pad_id}
use Rattle.graph_pads.specs.declared.pad.Direction.TheVariants.{Source}
use Rattle.graph_pads.specs.declared.pad.PadPlace.{PadPlace}
use Rattle.gst_value.specs.declared.name.PadName.{PadName}
use Rattle.script_text.specs.declared.command.Act.{Act}
use Rattle.script_text.specs.declared.command.Command.{Command}
use Rattle.script_text.specs.declared.command.When.{When}
use Rattle.script_text.specs.declared.command.When.TheVariants.{At, NowPad, Now}
use Rattle.graph_edits.specs.Edited.{Edited}
use Rattle.graph_edits.specs.Lawful.{IsUnreached, Reaches, command, is_all_there}
use Rattle.graph_edits.specs.Names.{pad_named}
use Rattle.net_edits.specs.Nets.{NoneHas}
use Rattle.net_edits.specs.Seeing.{SeesPad}
use Rattle.task_edits.specs.declared.seeing.SeenPad.{SeenPad}
use Rattle.edit_core.specs.declared.judging.Verdict.{Verdict}
use Rattle.edit_core.specs.declared.judging.Verdict.TheVariants.{Waits, Missing, Unreached, Reached}

-- the stream at a pad has ended before its buffer of this number, or the buffer stands there
abbrev pub has_ended_before : ℕ → SeenPad → Bool
has_ended_before n seen = seen.has_ended && nat_le seen.buffers n

abbrev pub is_true : Option Bool → Bool
is_true None = false
is_true (Some b) = b

abbrev pub stands_at : ℕ → SeenPad → Bool
stands_at n seen = (seen.buffers == n) && is_true seen.first_is_buffer

-- what comes of a command whose pad is seen so
abbrev pub verdict_of : When → SeenPad → Verdict
verdict_of (At pad n) seen = if has_ended_before n seen then Unreached else if stands_at n seen then Reached seen.items else Waits
verdict_of (NowPad pad) seen = if seen.has_ended then Unreached else Reached seen.items
verdict_of Now seen = Reached 0

-- what is owed to a source pad by then: what crossed it and what was put out and waits there
abbrev pub owed_then : Moment → ℕ → List Item
owed_then m p = m.history p ++ m.waits p

-- so many items have crossed the source pad that a command names, and none where it names none
abbrev pub IsLast : (ℕ → List Item) → Option PadPlace → ℕ → Type 0
IsLast h None items = items ≡ 0
IsLast h (Some source) items = items ≡ length (h (pad_id source))

module _ {S E I O L : Type 0} {s : sources.Ghosts S} {e : elements.Ghosts E} {i : inlets.Ghosts I L O} {o : outlets.Ghosts O L} where
  -- nothing has crossed a pad that is there and that no task has
  abbrev pub AreFresh : Edited → Moment → List (Task S E I O L s e i o) → Type 0
  AreFresh g m tasks = (pad : PadName) (source : PadPlace) → pad_named Source g pad ≡ Some source → NoneHas tasks (pad_id source) → m.history (pad_id source) ≡ []

  -- A verdict on the next command holds at a moment. It waits where its buffer does not stand at its pad and the stream there has not ended before it.
  pub data IsVerdict (g : Edited) (m : Moment) (tasks : List (Task S E I O L s e i o)) : Command → Verdict → Type 0 where
    missing : (c : Command) → is_all_there g c ≡ false → IsVerdict g m tasks c Missing
    unreached : (c : Command) → is_all_there g c ≡ true → IsUnreached g m.history c.when → IsVerdict g m tasks c Unreached
    reached : (c : Command) (p : Option PadPlace) (items : ℕ) → is_all_there g c ≡ true → Reaches g m.history (owed_then m) c.when p items → IsLast m.history p items
        → IsVerdict g m tasks c (Reached items)
    waits : (pad : PadName) (n : ℕ) (act : Act) (source : PadPlace) (seen : SeenPad) → is_all_there g (command (At pad n) act) ≡ true → pad_named Source g pad ≡ Some source
        → SeesPad tasks (pad_id source) seen → has_ended_before n seen ≡ false → stands_at n seen ≡ false → IsVerdict g m tasks (command (At pad n) act) Waits
