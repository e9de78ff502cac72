-- How a run of a script begins: what its tasks are made of is there, and made of that it fits the evaluation of its graph.
use Rattle.std.proofs.Common.{◌≡◌, ◌∙◌, ◌<◌, ◌^◌, ℕ, Bool, true, if◌then◌else◌, List, [], Option, Some, Result, Ok, Err, IfOk, arith, drop, length, sym, ap, subst}
use Rattle.std.proofs.lemmas.Bool.{lt-ltb, true≢false}
use Rattle.flow_model.specs.Moment.{Moment}
use Rattle.flow_model.specs.declared.element.TaskElement as elements
use Rattle.flow_model.specs.declared.source.TaskSource as givers
use Rattle.graph_core.specs.Elements.{Made, limit}
use Rattle.graph_core.specs.Graph.{made as made_in, links as links_in}
use Rattle.graph_core.specs.GraphPlan.{owner_of}
use Rattle.graph_core.specs.declared.graph.Graph.{Graph}
use Rattle.graph_core.proofs.LinkedOnce.{linked_once}
use Rattle.graph_edits.specs.Edited.{Edited, is_there}
use Rattle.graph_edits.specs.Graph.{IsEdited}
use Rattle.graph_edits.specs.declared.graph.EditedGraph.{EditedGraph}
use Rattle.graph_pads.specs.declared.pad.PadLink.{PadLink}
use Rattle.graph_parts.specs.Files.{GraphOpens, WereTold}
use Rattle.graph_parts.specs.Filled.{AreFilled}
use Rattle.graph_parts.specs.Pads.{is_pad}
use Rattle.graph_parts.specs.declared.bag.Bag.{Bag}
use Rattle.graph_tasks.specs.Plan.{AreThere, without}
use Rattle.graph_tasks.specs.Tasks.{AreTasks}
use Rattle.graph_tasks.specs.Wired.{AreWired, part_numbers}
use Rattle.graph_tasks.specs.declared.wired_task.WiredTask.{WiredTask}
use Rattle.graph_tasks.proofs.Hands.{elements_are_there}
use Rattle.graph_tasks.proofs.Readied.{tasks_are_ready}
use Rattle.gst_outside.specs.Seen.{Seen}
use Rattle.gst_value.proofs.Basics.{none_some}
use Rattle.gst_outside.specs.declared.sink.Sink as sinks
use Rattle.gst_outside.specs.declared.source.Source as sources
use Rattle.lane_core.specs.Lane.{Lane}
use Rattle.lane_core.specs.declared.ends.Inlet as inlets
use Rattle.lane_core.specs.declared.ends.Outlet as outlets
use Rattle.net_task.specs.declared.task.Task.{Task}
use Rattle.net_turns.specs.Net.{NetReady}
use Rattle.run_files.specs.declared.end.End.{End}
use Rattle.script_probes.specs.Stands.{StandsFor}
use Rattle.script_probes.specs.declared.probes.ScriptProbes.{ScriptProbes}
use Rattle.script_text.specs.declared.answer.Entry.{Entry}
use Rattle.script_text.specs.declared.command.Command.{Command}
use Rattle.task_elements.specs.declared.element.StreamElement.{StreamElement}
use Rattle.task_elements.specs.declared.source.StreamSource.{StreamSource}
use Rattle.edit_core.specs.Feeds.{AreFeeds}
use Rattle.edit_core.specs.Whole.{owner_in}
use Rattle.edit_core.specs.declared.feeds.Feeds.{Feeds}
use Rattle.world_core.specs.Begins.{IsBegun, RunsBegin, line_graph}
use Rattle.world_core.specs.Evaluated.{AreSetAside, IsRunOf}
use Rattle.world_core.specs.Probes.{StandFor}
use Rattle.world_core.specs.Probing.{AreProbes}
use Rattle.world_core.specs.Running.{tells_of, view_of}
use Rattle.world_core.specs.Scripts.{AreAllPlanned, IsControlOf, ScriptBegins}
use Rattle.world_core.specs.Watching.{IsWatched}
use Rattle.world_core.specs.World.{IsBuilt}
use Rattle.world_core.specs.declared.running.Running.{Running}
use Rattle.world_core.specs.declared.scripted.Control.{Control}
use Rattle.world_core.specs.declared.watching.Watch.TheVariants.{Unasked}
use Rattle.world_core.proofs.AtHand.{MakesStreams, at_hand}
use Rattle.world_core.proofs.Counted.{pad_within}
use Rattle.world_core.proofs.Standing.{elements_stand, sources_stand}
use Rattle.world_core.proofs.Watched.{nothing_known}

-- where nothing was done to a graph each element that has a pad is there
all_there : (graph : Graph) (g : Edited) → g ≡ line_graph graph → (p q : ℕ) → q ≡ owner_in g.made p → is_pad g.made p ≡ true → is_there g q ≡ true
all_there graph g same p q own pad =
    let line_pad : is_pad (made_in graph) p ≡ true = ap (λ (h : Edited). is_pad h.made p) (sym same) ∙ pad in
    let owner : q ≡ owner_of p = own ∙ ap (λ (h : Edited). owner_in h.made p) same ∙ ap (λ (b : Bool). if b then owner_of p else limit) line_pad in
    ap (λ (h : Edited). is_there h q) same ∙ ap (is_there (line_graph graph)) owner ∙ lt-ltb (owner_of p) (length (made_in graph)) (pad_within (made_in graph) p line_pad).0

-- so where no task was set aside, its run is one of the script
module _ {S E I O L : Type 0} {s : givers.Ghosts S} {e : elements.Ghosts E} {i : inlets.Ghosts I L O} {o : outlets.Ghosts O L} where
  none_aside : (graph : Graph) (g : Edited) (m : Moment) → g ≡ line_graph graph → ((p : ℕ) → m.plan.owner p ≡ owner_in g.made p) → AreSetAside {s = s} {e = e} {i = i} {o = o} g m []
  none_aside graph g m same owners = record {
    counted = λ place task at. absurd (none_some at);
    gone = λ p has. absurd (none_some has.at);
    each = λ p gone. absurd (true≢false (sym (all_there graph g same p (m.plan.owner p) (owners p) gone.0) ∙ gone.1));
    elements = λ a low gone none.
        absurd (true≢false (sym (ap (λ (h : Edited). is_there h a) same ∙ lt-ltb a (length (made_in graph)) (subst (λ (h : Edited). a < length h.made) same low)) ∙ gone));
    parts = λ part is. absurd (none_some is.at);
  }

  begun_run : (contents : ℕ → List ℕ) (script : List Command) (graph : Graph) (run : Running S E I O L s e i o) → IsBegun contents script graph (view_of run) → run.removed.items ≡ []
      → IsRunOf contents script (line_graph graph) run
  begun_run contents script graph run begun none = record {
    evaluated = begun.evaluated;
    aside =
        subst (λ (removed : List (Task S E I O L s e i o)). AreSetAside begun.evaluated.scripted.g begun.evaluated.scripted.m removed) (sym none)
        (none_aside graph begun.evaluated.scripted.g begun.evaluated.scripted.m begun.undone begun.evaluated.fits.owner);
  }

module _ {S K I O L : Type 0} (giver : givers.Ghosts (StreamSource S)) (taker : elements.Ghosts (StreamElement K))
    (i : inlets.Ghosts I L O) (o : outlets.Ghosts O L)
    (s : sources.Ghosts S) (k : sinks.Ghosts K) (graph : Graph) (built : IsBuilt graph) (wired : List (WiredTask I O)) (table : List Lane)
    (planned : AreAllPlanned i o graph wired table) (ends : List (Option (End S K))) (before opened : Seen)
    (opens : GraphOpens s k (made_in graph) ends before opened)
    (elements_in : List (Option (StreamElement K))) (sources_in : List (Option (StreamSource S))) (left : List (Option (End S K)))
    (filled : AreFilled s k (made_in graph) ends elements_in sources_in left) (are : MakesStreams s k giver taker) where
  -- what tasks are made of is there
  pub script_there : AreThere giver taker wired elements_in sources_in
  script_there =
      elements_are_there giver taker i o graph planned.bags elements_in sources_in wired table built.sound (linked_once built.tree graph built.line)
      planned.bags_are.are planned.wired (at_hand s k (made_in graph) ends before opened opens elements_in sources_in left filled giver taker are)

  -- and the tasks of a run that begins are made of it
  module _ (law : RunsBegin giver taker i o) (script : List Command) (run : Running (StreamSource S) (StreamElement K) I O L giver taker i o)
      (so : (made : List Made) (links : List PadLink) (bags : List Bag) (lanes : List Lane) → AreWired i o made links bags wired lanes
      → AreTasks i o made links elements_in sources_in bags run.tasks.items lanes) (told : tells_of run ≡ Some table)
      (edited : IsEdited run.graph (line_graph graph)) (feeds_are : AreFeeds run.feeds (line_graph graph) (λ p. [])) (script_is : run.script.items ≡ script)
      (unanswered : run.entries.items ≡ []) (probes : AreProbes run) (watched : IsWatched run) where
    begun_so : (contents : ℕ → List ℕ) → WereTold (made_in graph) before contents → IsBegun contents script graph (view_of run)
    begun_so contents were =
        subst
        (λ (entries : List Entry). IsBegun contents script graph
        (record { graph = run.graph; feeds = run.feeds; tasks = run.tasks.items; tells = tells_of run; commands = drop (length entries) run.script.items; entries = entries }))
        (sym unanswered)
        (subst
        (λ (commands : List Command). IsBegun contents script graph
        (record { graph = run.graph; feeds = run.feeds; tasks = run.tasks.items; tells = tells_of run; commands = commands; entries = [] }))
        (sym script_is)
        (subst
        (λ (tells : Option (List Lane)). IsBegun contents script graph
        (record { graph = run.graph; feeds = run.feeds; tasks = run.tasks.items; tells = tells; commands = script; entries = [] }))
        (sym told)
        (law contents built.tree graph planned.bags elements_in sources_in run.tasks.items table run.graph run.feeds script built.line built.sound planned.bags_are
        (so (made_in graph) (links_in graph) planned.bags table planned.wired)
        (elements_stand s k are graph ends before opened opens elements_in sources_in left filled contents)
        (sources_stand s k are graph ends before opened opens elements_in sources_in left filled contents were) edited feeds_are)))

    pub script_begins : (rest : List (Option (StreamElement K))) → rest ≡ without (part_numbers wired) elements_in → run.removed.items ≡ []
        → ScriptBegins s k graph script run rest left before
    script_begins rest rest_is none_removed = record {
      tree = built.tree;
      is = built.line;
      sound = built.sound;
      ends = ends;
      opened = opened;
      opens = opens;
      elements_in = elements_in;
      sources_in = sources_in;
      filled = filled;
      bags = planned.bags;
      bags_are = planned.bags_are;
      table = table;
      told = told;
      wired = wired;
      wired_are = planned.wired;
      tasks_are = so (made_in graph) (links_in graph) planned.bags table planned.wired;
      rest_is = rest_is;
      edited = edited;
      script_is = script_is;
      probes = probes;
      watched = watched;
      none_removed = none_removed;
      evaluated = λ contents were. begun_run contents script graph run (begun_so contents were) none_removed;
    }

  -- its probes are those of the script
  probes_so : (script : List Command) (control : Control) → IsControlOf graph script control → (run : Running (StreamSource S) (StreamElement K) I O L giver taker i o)
      → run.script ≡ control.script → run.entries ≡ control.entries → run.probing.probes ≡ control.probes → AreProbes run
  probes_so script control is run script_are entries_are probes_are =
      subst (λ (probes : ScriptProbes). StandFor probes run.script.items (length run.entries.items)) (sym probes_are)
      (subst (λ (commands : List Command). StandFor control.probes commands (length run.entries.items)) (sym (ap (λ commands. commands.items) script_are ∙ is.script_is))
      (subst (λ (entries : List Entry). StandFor control.probes script (length entries)) (sym (ap (λ entries. entries.items) entries_are ∙ is.unanswered)) is.probes))

  -- as control was prepared
  pub begins_so : RunsBegin giver taker i o → (script : List Command) (control : Control) → IsControlOf graph script control → (tasks : List (Task (StreamSource S) (StreamElement K) I O L giver taker i o))
      → ((made : List Made) (links : List PadLink) (bags : List Bag) (lanes : List Lane) → AreWired i o made links bags wired lanes → AreTasks i o made links elements_in sources_in bags tasks lanes)
      → (run : Running (StreamSource S) (StreamElement K) I O L giver taker i o) → run.tasks.items ≡ tasks → tells_of run ≡ Some table → run.graph ≡ control.graph → run.feeds ≡ control.feeds
      → run.script ≡ control.script → run.entries ≡ control.entries → run.probing.probes ≡ control.probes → run.watch ≡ Unasked → run.removed.items ≡ [] → (rest : List (Option (StreamElement K))) → rest ≡ without (part_numbers wired) elements_in
      → ScriptBegins s k graph script run rest left before
  begins_so law script control is tasks so run tasks_are told graph_is feeds_are script_are entries_are probes_are unasked none_removed rest rest_is =
      script_begins law script run
      (λ made links bags lanes w. subst (λ (ts : List (Task (StreamSource S) (StreamElement K) I O L giver taker i o)). AreTasks i o made links elements_in sources_in bags ts lanes) (sym tasks_are) (so made links bags lanes w))
      told (subst (λ (edited : EditedGraph). IsEdited edited (line_graph graph)) (sym graph_is) is.edited)
      (subst (λ (feeds : Feeds). AreFeeds feeds (line_graph graph) (λ p. [])) (sym feeds_are) is.feeds) (ap (λ commands. commands.items) script_are ∙ is.script_is)
      (ap (λ entries. entries.items) entries_are ∙ is.unanswered) (probes_so script control is run script_are entries_are probes_are) (nothing_known run unasked) rest rest_is none_removed

-- The tasks of a run of a script that begins are ready, and so are its probes and what is known of its next command.
pub script_ready : {S K I O L : Type 0} {giver : givers.Ghosts (StreamSource S)} {taker : elements.Ghosts (StreamElement K)} {i : inlets.Ghosts I L O} {o : outlets.Ghosts O L}
    (s : sources.Ghosts S) (k : sinks.Ghosts K) (graph : Graph) (script : List Command) (run : Running (StreamSource S) (StreamElement K) I O L giver taker i o)
    (rest : List (Option (StreamElement K))) (left : List (Option (End S K))) (before : Seen) → ScriptBegins s k graph script run rest left before
    → NetReady run.tasks.items (tells_of run) × AreProbes run × IsWatched run
script_ready {giver = giver} {taker = taker} {i = i} {o = o} s k graph script run rest left before begins =
    let ready =
    subst (λ (t : Option (List Lane)). NetReady run.tasks.items t) (sym begins.told)
    (tasks_are_ready giver taker i o graph begins.bags begins.elements_in begins.sources_in run.tasks.items begins.table begins.sound (linked_once begins.tree graph begins.is)
    begins.bags_are.are begins.tasks_are) in
    (ready, begins.probes, begins.watched)

-- Probes that stand for commands none of which are answered are those of the script.
pub stand_first : {W : Type 0} (commands : List Command) (found : Result ScriptProbes W) → length commands < 2 ^ 32 → IfOk found (λ probes. StandsFor probes commands 0)
    → IfOk found (λ probes. StandFor probes commands 0)
stand_first commands (Ok probes) few told = record { last = 0; passed = omega (arith); stands = told; few = few }
stand_first commands (Err none) few told = tt
