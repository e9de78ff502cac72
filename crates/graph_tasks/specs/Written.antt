-- What the files of sinks hold at a moment of a graph's run, and behind a fault.
use Rattle.std.specs.Prelude.{◌≡◌, ℕ, Bool, List, Option, Some, length, slice_get, take}
use Rattle.std.specs.Option.{ForSome}
use Rattle.gst_outside.specs.Bytes.{written}
use Rattle.gst_outside.specs.declared.sink.Sink as sinks
use Rattle.flow_model.specs.Item.{Item, body_of}
use Rattle.flow_model.specs.SinkBytes.{disk_after, sink_bytes}
use Rattle.lane_core.specs.Lane.{Lane}
use Rattle.lane_core.specs.declared.ends.Inlet as inlets
use Rattle.lane_core.specs.declared.ends.Outlet as outlets
use Rattle.flow_model.specs.Moment.{Moment}
use Rattle.flow_model.specs.declared.element.TaskElement as elements
use Rattle.flow_model.specs.declared.source.TaskSource as sources
use Rattle.graph_core.specs.Allowed.{first_pad}
use Rattle.graph_core.specs.Graph.{made as made_in, links as links_in}
use Rattle.graph_core.specs.declared.graph.Graph.{Graph}
use Rattle.graph_parts.specs.declared.bag.Bag.{Bag}
use Rattle.task_elements.specs.Stands.{StreamFell, StreamStands, faults_in, file_in, len_in, pads_of, wanted_of}
use Rattle.task_elements.specs.declared.element.StreamElement.{StreamElement}
use Rattle.task_pads.specs.Pads.{HasCrossed, number_of}
use Rattle.task_pads.specs.declared.pad.Pad.{Pad}
use Rattle.task_parts.specs.declared.fault.TaskFault.{TaskFault}
use Rattle.task_parts.specs.declared.fault.TaskFault.TheVariants.{OutOfMemory, WriteFault}
use Rattle.task_parts.specs.declared.head.Head.{Head}
use Rattle.task_parts.specs.declared.head.Head.TheVariants.{Source, Inlets}
use Rattle.task_parts.specs.declared.part.Part.{Part}
use Rattle.net_task.specs.declared.task.Task.{Task}
use Rattle.net_task.specs.Failed.{Failed}
use Rattle.net_task.specs.Frame.{frame_of}
use Rattle.graph_tasks.specs.Owed.{IsAwaited, came_to}
use Rattle.graph_tasks.specs.Runs.{RunsAt, crossed_in}

-- The element of a task is one of streams: it stands as these do, its failures are those of what it writes, it has as many source
-- pads, and it wants the same sink pad.
pub record AreStreams {K : Type 0} (k : sinks.Ghosts K) (e : elements.Ghosts (StreamElement K)) : Type 0 where
  pub stands : (element : StreamElement K) (behavior : _) (took : _) → e.stands element behavior took → StreamStands k.bytes element behavior took
  pub fell : (element : StreamElement K) (behavior : _) (took : _) (pad : ℕ) (x : Item) → e.fell element behavior took pad x
      → StreamFell k.bytes element behavior took pad x
  pub failures : (element : StreamElement K) → e.failures element ≡ faults_in k.faults element
  pub ports : (element : StreamElement K) → e.ports element ≡ pads_of element
  pub wanted : (element : StreamElement K) → e.wanted element ≡ wanted_of element

module _ {K : Type 0} (k : sinks.Ghosts K) where
  -- a file has this length, and these bytes where they are told
  pub record HoldsBytes (element : StreamElement K) (file : K) (bytes : List ℕ) : Type 0 where
    pub size : len_in element ≡ Some (length bytes)
    pub told : ForSome (k.bytes file) (λ is. is ≡ bytes)

  -- where an element writes a file, that holds all that came to it; a flush did not come, so it is one whether that keeps bytes
  abbrev pub HasAll : StreamElement K → List Item → Type 0
  HasAll element list = (keep : Bool) (file : K) → file_in element ≡ Some file → HoldsBytes element file (sink_bytes keep list)

  -- and then a beginning of the body of an item more
  abbrev pub HasPart : StreamElement K → List Item → Item → Type 0
  HasPart element list x = (keep : Bool) (file : K) → file_in element ≡ Some file
      → (count : ℕ) × HoldsBytes element file (written (disk_after keep list).bytes (disk_after keep list).place (take count (body_of x)))

module _ {O : Type 0} where
  -- the pads of an element counted what crossed them
  abbrev pub PadsCrossed : {E : Type 0} {e : elements.Ghosts E} → Moment → Part E O e → Type 0
  PadsCrossed m part = (port : ℕ) (pad : Pad O) → slice_get part.pads.items port ≡ Some pad → HasCrossed pad (m.history (number_of pad))

  -- and so did the pad of a source
  abbrev pub HeadCrossed : {S I : Type 0} {s : sources.Ghosts S} → Moment → Head S I O s → Type 0
  HeadCrossed m (Source head) = HasCrossed head.pad (m.history (number_of head.pad))
  HeadCrossed m (Inlets head) = Unit {0}

module _ {S E I O L : Type 0} {s : sources.Ghosts S} {e : elements.Ghosts E} {i : inlets.Ghosts I L O} {o : outlets.Ghosts O L} where
  -- all pads of a task counted what crossed them
  pub record TaskCrossed (m : Moment) (task : Task S E I O L s e i o) : Type 0 where
    pub parts : (place : ℕ) (part : Part E O e) → slice_get task.parts.items place ≡ Some part → PadsCrossed m part
    pub head : HeadCrossed m task.head

-- What the file of an element holds behind a fault of its task: all that came to it; or its own write failed, and a part of the
-- next item stands there too; or memory was wanting.
pub data IsBehind {K : Type 0} (k : sinks.Ghosts K) (contents : ℕ → List ℕ) (graph : Graph) (m : Moment) (fault : TaskFault)
    (n : ℕ) (element : StreamElement K) : Type 0 where
  all : HasAll k element (came_to (links_in graph) (crossed_in graph m) (first_pad n)) → IsBehind k contents graph m fault n element
  part : (before after : ℕ) (x : Item) → fault ≡ WriteFault n before after
      → IsAwaited contents (made_in graph) (links_in graph) (crossed_in graph m) (first_pad n) x
      → HasPart k element (came_to (links_in graph) (crossed_in graph m) (first_pad n)) x → IsBehind k contents graph m fault n element
  no_memory : fault ≡ OutOfMemory → IsBehind k contents graph m fault n element

-- what is known of a task behind its fault
pub record StandsBehind {S K I O L : Type 0} {s : sources.Ghosts S} {e : elements.Ghosts (StreamElement K)} {i : inlets.Ghosts I L O} {o : outlets.Ghosts O L}
    (k : sinks.Ghosts K) (contents : ℕ → List ℕ) (graph : Graph) (m : Moment) (fault : TaskFault) (task : Task S (StreamElement K) I O L s e i o) : Type 0 where
  pub crossed : TaskCrossed m task
  pub files : (place : ℕ) (part : Part (StreamElement K) O e) → slice_get task.parts.items place ≡ Some part
      → IsBehind k contents graph m fault part.number part.element

-- what is known of one that met none
pub record StandsWhole {S K I O L : Type 0} {s : sources.Ghosts S} {e : elements.Ghosts (StreamElement K)} {i : inlets.Ghosts I L O} {o : outlets.Ghosts O L}
    (k : sinks.Ghosts K) (graph : Graph) (m : Moment) (task : Task S (StreamElement K) I O L s e i o) : Type 0 where
  pub crossed : TaskCrossed m task
  pub files : (place : ℕ) (part : Part (StreamElement K) O e) → slice_get task.parts.items place ≡ Some part
      → HasAll k part.element (came_to (links_in graph) (crossed_in graph m) (first_pad part.number))

module _ {S K I O L : Type 0} (k : sinks.Ghosts K) (s : sources.Ghosts S) (e : elements.Ghosts (StreamElement K))
    (i : inlets.Ghosts I L O) (o : outlets.Ghosts O L) where
  -- At any moment each file holds all that came to its sink.
  abbrev pub TasksStandWhole : Type 0
  TasksStandWhole = AreStreams k e → (contents : ℕ → List ℕ) (graph : Graph) (bags : List Bag) (m : Moment)
      (tasks : List (Task S (StreamElement K) I O L s e i o)) (tells : Option (List Lane)) → RunsAt contents graph bags m tasks tells
      → (place : ℕ) (task : Task S (StreamElement K) I O L s e i o) → slice_get tasks place ≡ Some task → StandsWhole k graph m task

  -- And so it is behind a fault, which changes no frame, but for the file of which a write failed.
  abbrev pub TasksStandBehind : Type 0
  TasksStandBehind = AreStreams k e → (contents : ℕ → List ℕ) (graph : Graph) (bags : List Bag) (m : Moment)
      (tasks : List (Task S (StreamElement K) I O L s e i o)) (tells over : Option (List Lane)) → RunsAt contents graph bags m tasks tells
      → (place : ℕ) (before after : Task S (StreamElement K) I O L s e i o) (fault : TaskFault) → slice_get tasks place ≡ Some before
      → frame_of after ≡ frame_of before → Failed tells over before after m fault → StandsBehind k contents graph m fault after
