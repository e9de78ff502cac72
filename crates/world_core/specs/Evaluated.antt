-- A run of a script by the evaluation of its graph: the tasks that were set aside, and what its report tells.
use Rattle.std.specs.Prelude.{◌≡◌, ◌≢◌, ◌⊎◌, ◌<◌, ◌++◌, ℕ, true, false, All, List, [], ◌∷◌, Option, None, Some, length, option_map, slice_get, take}
use Rattle.flow_model.specs.Eval.{Plan, eval}
use Rattle.flow_model.specs.Item.{Item, body_of}
use Rattle.flow_model.specs.Moment.{Behavior, Moment, behavior_at}
use Rattle.flow_model.specs.Prefix.{IsPrefix}
use Rattle.flow_model.specs.Refuses.{RefusesBy}
use Rattle.flow_model.specs.SinkBytes.{disk_after, sink_bytes}
use Rattle.flow_model.specs.Step.{Leads}
use Rattle.flow_model.specs.declared.refusal.Refusal.{Refusal}
use Rattle.flow_model.specs.declared.element.TaskElement as elements
use Rattle.flow_model.specs.declared.source.TaskSource as sources
use Rattle.el_set.specs.Made.{keeps_flushed}
use Rattle.el_settings.specs.Asked.{is_sink, is_source, writes}
use Rattle.el_settings.specs.declared.settings.Settings.{Settings}
use Rattle.graph_core.specs.Allowed.{first_pad}
use Rattle.graph_core.specs.Elements.{Made, has}
use Rattle.graph_core.specs.GraphPlan.{owner_of, pad_id}
use Rattle.graph_core.specs.declared.graph.Graph.{Graph}
use Rattle.graph_edits.specs.Edited.{Edited, is_there}
use Rattle.graph_edits.specs.Lawful.{AreAnswered, NeverFall, owed_by}
use Rattle.graph_edits.specs.Live.{IsLive}
use Rattle.graph_edits.specs.Plans.{IsOrder, edited_plan, items_at}
use Rattle.graph_edits.specs.Refused.{IsAfterEos}
use Rattle.graph_pads.specs.Links.{source_before}
use Rattle.graph_pads.specs.declared.pad.PadPlace.{PadPlace}
use Rattle.gst_outside.specs.Bytes.{written}
use Rattle.graph_parts.specs.Files.{opening_of}
use Rattle.graph_parts.specs.Pads.{is_pad}
use Rattle.graph_tasks.specs.Written.{TaskCrossed}
use Rattle.inlet_row.specs.Row.{feeds_of}
use Rattle.inlet_row.specs.declared.row.InletRow.{InletRow}
use Rattle.lane_core.specs.declared.ends.Inlet as inlets
use Rattle.lane_core.specs.declared.ends.Outlet as outlets
use Rattle.net_task.specs.Frame.{IsWire, Wire, frame_of}
use Rattle.net_task.specs.declared.task.Task.{Task}
use Rattle.net_turns.specs.Net.{HasRow}
use Rattle.net_turns.specs.Rests.{NetRests}
use Rattle.net_turns.specs.declared.net.Stopped.{Stopped}
use Rattle.run_files.specs.declared.end.Opening.TheVariants.{Write}
use Rattle.run_report.specs.declared.report.Fault.TheVariants as faults
use Rattle.run_report.specs.declared.report.Report.{Report}
use Rattle.script_text.specs.declared.answer.Answer.TheVariants.{Done}
use Rattle.script_text.specs.declared.answer.Entry.{Entry}
use Rattle.script_text.specs.declared.answer.Place.{Place}
use Rattle.script_text.specs.declared.command.Command.{Command}
use Rattle.world_core.specs.declared.ended.WorldEnd.{WorldEnd}
use Rattle.task_parts.specs.Fault.{refusal_fault}
use Rattle.task_parts.specs.declared.fault.TaskFault.{TaskFault}
use Rattle.task_parts.specs.declared.part.Part.{Part}
use Rattle.turn_loop.specs.Turns.{HasEnded, HasFailed}
use Rattle.turn_loop.specs.declared.taking.TakesTurns as turns
use Rattle.turn_order.specs.declared.order.Order.{Order}
use Rattle.turn_order.specs.declared.turns.Turns.{Turns}
use Rattle.edit_core.specs.Deciding.{names_its_pad}
use Rattle.edit_acts.specs.Evaluated.{IsEvaluated, OweInOrder}
use Rattle.edit_acts.specs.Scripted.{ScriptRun}
use Rattle.world_core.specs.Begins.{line_graph}
use Rattle.world_core.specs.Running.{tells_of, view_of}
use Rattle.world_core.specs.Told.{pad_entries, sink_entries}
use Rattle.world_core.specs.declared.running.RunFault.{RunFault}
use Rattle.world_core.specs.declared.running.RunFault.TheVariants.{Stopped as AtFault}
use Rattle.world_core.specs.declared.running.Running.{Running}

-- ---- what a report tells

-- the plan of an edited graph with the counts of what crossed its source pads
abbrev pub plan_at : (ℕ → List ℕ) → Edited → List ℕ → (ℕ → List Item) → Plan
plan_at contents g forward h = edited_plan contents g forward (λ q. length (h q))

-- the bytes of a filesink's file are those of all that its links gave it
abbrev pub IsWrittenBy : Edited → (ℕ → List Item) → (ℕ → List ℕ) → ℕ → Type 0
IsWrittenBy g h bytes d = (m : Made) → slice_get g.made d ≡ Some m → writes m.settings ≡ true → bytes d ≡ sink_bytes (keeps_flushed m.settings) (items_at g h (first_pad d))

-- Behind the bytes of all that its links gave a filesink stands a beginning of the body of the next item that is owed to the source pad that is linked to it.
pub record IsPartWrittenBy (contents : ℕ → List ℕ) (g : Edited) (forward : List ℕ) (h : ℕ → List Item) (bytes : ℕ → List ℕ) (d : ℕ) (settings : Settings) : Type 0 where
  pub source : PadPlace
  pub linked : source_before g.links (first_pad d) ≡ Some source
  pub item : Item
  pub next : IsPrefix (h (pad_id source) ++ item ∷ []) (owed_by (plan_at contents g forward h) h (pad_id source))
  pub part : ℕ
  pub bytes_are : let disk = disk_after (keeps_flushed settings) (items_at g h (first_pad d)) in bytes d ≡ written disk.bytes disk.place (take part (body_of item))

-- a write of a filesink failed, and the report tells it; a part of an item stands in its file then
pub record HasFailedToWrite (contents : ℕ → List ℕ) (g : Edited) (forward : List ℕ) (h : ℕ → List Item) (bytes : ℕ → List ℕ) (report : Report) (d : ℕ) : Type 0 where
  pub element : Made
  pub at : slice_get g.made d ≡ Some element
  pub location : List ℕ
  pub opens : opening_of element.settings ≡ Some (Write location)
  pub first : ℕ
  pub second : ℕ
  pub fault : report.fault ≡ faults.WriteFault location first second
  pub part : IsPartWrittenBy contents g forward h bytes d element.settings

-- Nothing is left: all that is owed to the source pads of elements that are there has crossed them, and EOS came to each sink that is live.
pub record AreWhole (contents : ℕ → List ℕ) (g : Edited) (forward : List ℕ) (h : ℕ → List Item) : Type 0 where
  pub crossed : (p : ℕ) → is_pad g.made p ≡ true → is_there g (owner_of p) ≡ true → owed_by (plan_at contents g forward h) h p ≡ h p
  pub ended : (d : ℕ) → has is_sink g.made d ≡ true → IsLive g d → IsAfterEos g h (first_pad d)

-- The counts of a report are those of the histories that the evaluation gives of the graph as its commands left it, cut at these counts: one pass over all elements that ever
-- were, with every link made and undone at the place that the entries name. By these histories the entries answer the first commands lawfully, one after the
-- other, and of one pad no later place is below an earlier one. And each filesink that ever was holds the bytes of all that its links gave it, but one of which a write failed. With
-- status 0 no fault is told, and nothing is left: the evaluation is that on the whole inputs.
pub record IsEditedReport (contents : ℕ → List ℕ) (graph : Graph) (script : List Command) (Holds : (ℕ → List ℕ) → Type 0) (end : WorldEnd) : Type 0 where
  pub last : Edited
  pub forward : List ℕ
  pub order : IsOrder last forward
  pub h : ℕ → List Item
  pub evaluated : (p : ℕ) → is_pad last.made p ≡ true → eval (plan_at contents last forward h) p ≡ h p
  pub answered : AreAnswered h (owed_by (plan_at contents last forward h) h) (line_graph graph) script end.report.entries last
  pub falls : NeverFall end.report.entries
  pub pads : end.report.pads ≡ pad_entries last.made h
  pub bytes : ℕ → List ℕ
  pub sinks : end.report.sinks ≡ sink_entries last.made bytes
  pub files : Holds bytes
  pub written : (d : ℕ) → IsWrittenBy last h bytes d ⊎ HasFailedToWrite contents last forward h bytes end.report d
  pub faultless : end.status ≡ 0 → end.report.fault ≡ faults.Nothing
  pub whole : end.status ≡ 0 → AreWhole contents last forward h

-- the last of the commands that were answered was done
pub record EndsWithDone (entries : List Entry) : Type 0 where
  pub before : List Entry
  pub places : List Place
  pub are : entries ≡ before ++ record { answer = Done places } ∷ []

-- ---- tasks that were set aside

-- a source pad of an element that was taken away
abbrev pub IsGonePad : Edited → Moment → ℕ → Type 0
IsGonePad g m p = (is_pad g.made p ≡ true) × (is_there g (m.plan.owner p) ≡ false)

module _ {S E I O L : Type 0} {s : sources.Ghosts S} {e : elements.Ghosts E} {i : inlets.Ghosts I L O} {o : outlets.Ghosts O L} where
  -- the pads of tasks counted what crossed them
  abbrev pub AreCounted : Moment → List (Task S E I O L s e i o) → Type 0
  AreCounted m tasks = (place : ℕ) (task : Task S E I O L s e i o) → slice_get tasks place ≡ Some task → TaskCrossed m task

  -- one of tasks has the source pad of a number
  pub record HasPad (tasks : List (Task S E I O L s e i o)) (p : ℕ) : Type 0 where
    pub place : ℕ
    pub task : Task S E I O L s e i o
    pub at : slice_get tasks place ≡ Some task
    pub wire : Wire
    pub is : IsWire (frame_of task) wire
    pub number : wire.number ≡ p

  -- an element of these tasks
  pub record IsPartOf (tasks : List (Task S E I O L s e i o)) (part : Part E O e) : Type 0 where
    pub place : ℕ
    pub task : Task S E I O L s e i o
    pub at : slice_get tasks place ≡ Some task
    pub within : ℕ
    pub is : slice_get task.parts.items within ≡ Some part

  -- Where an item was that an element refused: it waited first at a source pad that leads to this sink pad of the element; or the head of its task took it from the row of that sink pad, in
  -- which something stood.
  pub data WasAt (m : Moment) (tasks : List (Task S E I O L s e i o)) (n port : ℕ) (x : Item) : Type 0 where
    at_pad : (p : ℕ) (rest : List Item) → m.waits p ≡ x ∷ rest → Leads m.plan p n port → WasAt m tasks n port x
    in_row : (k : ℕ) (row : InletRow I) → HasRow tasks k n port row → feeds_of row ≢ [] → WasAt m tasks n port x

  -- an element of a task refused an item, which is the fault that the task met; these are the tasks before that
  pub record HasFallen (m : Moment) (tasks : List (Task S E I O L s e i o)) (met : Option TaskFault) (part : Part E O e) : Type 0 where
    pub refusal : Refusal
    pub is : met ≡ Some (refusal_fault part.number refusal)
    pub pad : ℕ
    pub item : Item
    pub fell : e.fell part.element (behavior_at m part.number) (m.took part.number) pad item
    pub why : RefusesBy (behavior_at m part.number) (m.took part.number) pad item refusal
    pub was_at : WasAt m tasks part.number pad item

  -- Tasks were set aside with the elements that were taken away: they have these, and the pads of these and no other ones, which counted what
  -- crossed them, and their elements stand for what they took.
  pub record AreSetAside (g : Edited) (m : Moment) (removed : List (Task S E I O L s e i o)) : Type 0 where
    pub counted : AreCounted m removed
    pub gone : (p : ℕ) → HasPad removed p → IsGonePad g m p
    pub each : (p : ℕ) → IsGonePad g m p → HasPad removed p
    pub elements : (a : ℕ) → a < length g.made → is_there g a ≡ false → has is_source g.made a ≡ false → (part : Part E O e) × IsPartOf removed part × (part.number ≡ a)
    pub parts : (part : Part E O e) → IsPartOf removed part → (part.number < length g.made) × (is_there g part.number ≡ false) × ((behavior : Behavior) × e.stands part.element behavior (m.took part.number))

  -- A run of a script, with the tasks that it has set aside.
  pub record IsRunOf (contents : ℕ → List ℕ) (script : List Command) (first : Edited) (run : Running S E I O L s e i o) : Type 0 where
    pub evaluated : IsEvaluated contents script first (view_of run)
    pub aside : AreSetAside evaluated.scripted.g evaluated.scripted.m run.removed.items

  -- None of its tasks can move, for the reasons that they answered.
  pub record IsAtRest (was : ScriptRun s e i o) (m : Moment) (run : Running S E I O L s e i o) : Type 0 where
    pub tasks : was.tasks ≡ run.tasks.items
    pub tells : was.tells ≡ tells_of run
    pub rests : NetRests (λ k. Unit {0}) m was.tasks run.steps.items was.tells

  -- What is known of such a run where it has stopped, at a fault or without one: at a moment of it its pads counted what crossed them, and its elements stand for what they
  -- took, but for one that refused an item. Its tasks have the frames that they had. Where no fault was met none can move, for the reasons that they answered.
  pub record IsRunAt (contents : ℕ → List ℕ) (script : List Command) (first : Edited) (met : Option TaskFault) (run : Running S E I O L s e i o) : Type 0 where
    pub was : ScriptRun s e i o
    pub of : IsEvaluated contents script first was
    pub aside : AreSetAside of.scripted.g of.scripted.m run.removed.items
    pub graph : run.graph ≡ was.graph
    pub entries : run.entries.items ≡ was.entries
    pub counted : AreCounted of.scripted.m run.tasks.items
    pub each : (p : ℕ) → HasPad was.tasks p → HasPad run.tasks.items p
    pub frames : (place : ℕ) → option_map (λ (task : Task S E I O L s e i o). frame_of task) (slice_get run.tasks.items place) ≡ option_map (λ (task : Task S E I O L s e i o). frame_of task) (slice_get was.tasks place)
    pub parts : (part : Part E O e) → IsPartOf run.tasks.items part → e.stands part.element (behavior_at of.scripted.m part.number) (of.scripted.m.took part.number) ⊎ HasFallen of.scripted.m was.tasks met part
    pub rests : met ≡ None → IsAtRest was of.scripted.m run

-- Where a run by turns has ended, or a task met a fault, so it is with it, where each command that acts on a pad names one. Where an element met one in an edit the
-- command of that was done.
pub record RunsAreEvaluated {S E I O L : Type 0} {s : sources.Ghosts S} {e : elements.Ghosts E} {i : inlets.Ghosts I L O} {o : outlets.Ghosts O L}
    (t : turns.Ghosts (Running S E I O L s e i o) RunFault) : Type 0 where
  pub ended : OweInOrder e → (order : Order) (start : ℕ) (was is : Running S E I O L s e i o) (next : Turns) (contents : ℕ → List ℕ) (script : List Command) (first : Edited)
      → HasEnded t order start was next is → All (λ c. names_its_pad c ≡ true) script → IsRunOf contents script first was → IsRunAt contents script first None is
  pub stopped : OweInOrder e → (order : Order) (start : ℕ) (was is : Running S E I O L s e i o) (next : Turns) (contents : ℕ → List ℕ) (script : List Command) (first : Edited) (stop : Stopped)
      → HasFailed t order start was next is (AtFault stop) → All (λ c. names_its_pad c ≡ true) script → IsRunOf contents script first was
      → IsRunAt contents script first (Some stop.fault) is ⊎ EndsWithDone is.entries.items
