-- The tasks of a graph at a moment of its run, and behind a fault: their counts, and what the files of their sinks hold.
use Rattle.std.proofs.Common.{◌≡◌, ℕ, Bool, true, false, if◌then◌else◌, List, [], ◌∷◌, Option, Some, Ok, refl, sym, ap, ◌∙◌, subst, inl, inr}
use Rattle.std.specs.Prelude.{slice_get}
use Rattle.flow_model.specs.declared.fault.ElementFault.{ElementFault}
use Rattle.flow_model.specs.declared.fault.ElementFault.TheVariants.{NotNegotiated, BadStream, TooLong, OutOfMemory}
use Rattle.gst_outside.specs.declared.sink.Sink as sinks
use Rattle.flow_model.specs.Item.{Item}
use Rattle.flow_model.specs.Call.{Call, feeds}
use Rattle.flow_model.specs.Rule.{only, passes}
use Rattle.flow_model.specs.Feeding.{IsFaultOf, next_owed}
use Rattle.lane_core.specs.Lane.{Lane}
use Rattle.lane_core.specs.declared.ends.Inlet as inlets
use Rattle.lane_core.specs.declared.ends.Outlet as outlets
use Rattle.flow_model.specs.Moment.{Behavior, Moment, behavior_at}
use Rattle.flow_model.specs.declared.element.TaskElement as elements
use Rattle.flow_model.specs.declared.source.TaskSource as sources
use Rattle.flow_model.specs.declared.refusal.Refusal.{Refusal}
use Rattle.flow_model.specs.declared.refusal.Refusal.TheVariants.{Fault, Unwritten}
use Rattle.flow_model.specs.Refuses.{RefusesBy}
use Rattle.flow_model.specs.Eval.{Plan}
use Rattle.flow_model.specs.Step.{Leads}
use Rattle.graph_core.specs.Allowed.{first_pad}
use Rattle.graph_core.specs.Graph.{made as made_in, links as links_in}
use Rattle.graph_core.specs.declared.graph.Graph.{Graph}
use Rattle.graph_parts.specs.Links.{has_inlets}
use Rattle.graph_parts.specs.declared.bag.Bag.{Bag}
use Rattle.task_elements.specs.Stands.{StreamFell, takes_all}
use Rattle.task_elements.specs.declared.element.StreamElement.{StreamElement}
use Rattle.task_elements.specs.declared.element.StreamElement.TheVariants as kinds
use Rattle.task_pads.specs.Pads.{HasCrossed, number_of}
use Rattle.task_parts.specs.Fault.{refusal_fault}
use Rattle.task_parts.specs.declared.fault.TaskFault.{TaskFault}
use Rattle.task_parts.specs.declared.fault.TaskFault.TheVariants as faults
use Rattle.task_parts.specs.declared.head.Head.{Head}
use Rattle.task_parts.specs.declared.head.Head.TheVariants.{Source, Inlets}
use Rattle.task_parts.specs.declared.part.Part.{Part}
use Rattle.net_task.specs.Failed.{FailsAs, GaveUp, IsOfHead, Origin, StandsOrFell, at_head}
use Rattle.net_task.specs.Frame.{frame_of, head_frame}
use Rattle.net_task.specs.Ties.{AreTied, Stands, nothing_lost}
use Rattle.net_task.specs.declared.task.Task.{Task}
use Rattle.graph_tasks.specs.Owed.{IsAwaited, came_to}
use Rattle.graph_tasks.specs.Runs.{RunStands, RunsAt, crossed_in}
use Rattle.graph_tasks.specs.Written.{AreStreams, HasAll, HasPart, HeadCrossed, IsBehind, PadsCrossed, StandsBehind, StandsWhole, TaskCrossed, TasksStandBehind}
use Rattle.graph_tasks.specs.Written.{TasksStandWhole}
use Rattle.graph_tasks.proofs.Awaited.{awaited}
use Rattle.graph_tasks.proofs.Came.{leads_from}
use Rattle.graph_tasks.proofs.FedElements.{no_sink, only_first}
use Rattle.graph_tasks.proofs.FedHeads.{frame_fed, head_fed}
use Rattle.graph_tasks.proofs.InOrder.{runs_stand}
use Rattle.graph_tasks.proofs.SinkCame.{came_whole}
use Rattle.graph_tasks.proofs.SinkFiles.{has_all, has_part}
use Rattle.gst_value.proofs.Basics.{none_some, false_of as not_so}
use Rattle.graph_core.specs.Elements.{has}
use Rattle.graph_core.specs.GraphPlan.{sink_at as place_at}

-- one that passes all has no fault but want of memory
passes_none : (calls : List Call) (x : Item) (fault : ElementFault) → IsFaultOf (next_owed passes calls x) fault → fault ≡ OutOfMemory
passes_none calls x fault is = go _ fault is
  where
    go : (over : Bool) (f : ElementFault) → IsFaultOf (if over then Ok [] else Ok (x ∷ [])) f → f ≡ OutOfMemory
    go true (NotNegotiated offered wanted) e = absurd (cc)
    go false (NotNegotiated offered wanted) e = absurd (cc)
    go true (BadStream place kind) e = absurd (cc)
    go false (BadStream place kind) e = absurd (cc)
    go true (TooLong a b) e = absurd (cc)
    go false (TooLong a b) e = absurd (cc)
    go over OutOfMemory e = refl

module _ {S E I O L : Type 0} {s : sources.Ghosts S} {e : elements.Ghosts E} (i : inlets.Ghosts I L O) (o : outlets.Ghosts O L) where
  module _ (Stood : Part E O e → Type 0) (lost : ℕ → List Item) (m behind : Moment) (same : behind.history ≡ m.history) where
    -- the pads of what is tied to a moment counted what crossed them, and so it is at one with these histories
    parts_crossed : (head : Head S I O s) (parts : List (Part E O e)) → AreTied i o Stood lost behind head parts
        → (place : ℕ) (part : Part E O e) → slice_get parts place ≡ Some part → PadsCrossed m part
    parts_crossed head parts tied place part at port pad there =
        subst (λ (h : ℕ → List Item). HasCrossed pad (h (number_of pad))) same ((tied.parts_tied.each place part at).pads port pad there).linked.crossed

    head_crossed : (head : Head S I O s) (parts : List (Part E O e)) → AreTied i o Stood lost behind head parts → HeadCrossed m head
    head_crossed (Source head) parts tied = subst (λ (h : ℕ → List Item). HasCrossed head.pad (h (number_of head.pad))) same tied.head_tied.linked.crossed
    head_crossed (Inlets head) parts tied = tt

    all_crossed : (task : Task S E I O L s e i o) → AreTied i o Stood lost behind task.head task.parts.items → TaskCrossed m task
    all_crossed task tied = record {
      parts = parts_crossed task.head task.parts.items tied;
      head = head_crossed task.head task.parts.items tied;
    }

module _ {S K I O L : Type 0} (k : sinks.Ghosts K) (s : sources.Ghosts S) (e : elements.Ghosts (StreamElement K))
    (i : inlets.Ghosts I L O) (o : outlets.Ghosts O L) (streams : AreStreams k e)
    (contents : ℕ → List ℕ) (graph : Graph) (bags : List Bag) (m : Moment) (tasks : List (Task S (StreamElement K) I O L s e i o)) (tells : Option (List Lane))
    (runs : RunsAt contents graph bags m tasks tells) where
  -- what came to an element
  abbrev came : ℕ → List Item
  came n = came_to (links_in graph) (crossed_in graph m) (first_pad n)

  run : RunStands contents graph m
  run = runs_stand k s e i o streams contents graph bags m tasks tells runs

  -- a sink is no element that is fed from inlets
  not_fed : (n : ℕ) → behavior_at m n ≡ takes_all → has has_inlets (made_in graph) n ≡ true → ⊥
  not_fed n is inlets = no_sink contents graph m runs.plan n inlets is

  -- what waits first at a pad that leads to a sink is awaited at its only sink pad
  awaited_first : (p n pad : ℕ) (x : Item) (rest : List Item) → m.waits p ≡ x ∷ rest → Leads m.plan p n pad → behavior_at m n ≡ takes_all
      → IsAwaited contents (made_in graph) (links_in graph) (crossed_in graph m) (first_pad n) x
  awaited_first p n pad x rest waits leads is =
      let few = (leads_from contents graph runs.sound p n pad (subst (λ (pl : Plan). Leads pl p n pad) runs.plan leads)).few in
      subst (λ (d : ℕ). IsAwaited contents (made_in graph) (links_in graph) (crossed_in graph m) (place_at n d) x)
      (only_first (slice_get (made_in graph) n) pad (not_so _ (λ fed. not_fed n is fed)) few)
      (awaited contents graph m runs.sound run p n pad x rest waits leads)

  -- so it took all that came to it
  took_all : (n : ℕ) → behavior_at m n ≡ takes_all → (list : List Item) → m.took n ≡ feeds list ∷ [] → came n ≡ list
  took_all n is list took =
      let apart = runs.net.others n (λ j head fed same.
      not_fed n is (subst (λ (a : ℕ). has has_inlets (made_in graph) a ≡ true) same (head_fed contents graph bags m tasks tells runs j head fed))) in
      came_whole contents graph m runs.sound run n apart list took

  -- an element of a task holds all that came to it
  holds_all : (part : Part (StreamElement K) O e) → Stands m part → HasAll k part.element (came part.number)
  holds_all part stands =
      has_all k (behavior_at m part.number) (m.took part.number) (runs.net.first part.number).0 (came part.number) (took_all part.number)
      part.element (streams.stands part.element (behavior_at m part.number) (m.took part.number) stands)

  pub stands_whole : (place : ℕ) (task : Task S (StreamElement K) I O L s e i o) → slice_get tasks place ≡ Some task → StandsWhole k graph m task
  stands_whole place task at =
      let tied = runs.net.tied place task at in
      record {
        crossed = all_crossed i o (Stands m) nothing_lost m m refl task tied;
        files = λ number part there. holds_all part (tied.parts_tied.each number part there).stood;
      }

  -- where all its elements stand behind a fault, all their files hold all
  all_stand : (fault : TaskFault) (task : Task S (StreamElement K) I O L s e i o) → AreTied i o (Stands m) nothing_lost m task.head task.parts.items
      → StandsBehind k contents graph m fault task
  all_stand fault task tied = record {
    crossed = all_crossed i o (Stands m) nothing_lost m m refl task tied;
    files = λ place part there. IsBehind.all (holds_all part (tied.parts_tied.each place part there).stood);
  }

  module _ (n pad : ℕ) (x : Item) (refusal : Refusal) (why : RefusesBy (behavior_at m n) (m.took n) pad x refusal)
      (awaits : behavior_at m n ≡ takes_all → IsAwaited contents (made_in graph) (links_in graph) (crossed_in graph m) (first_pad n) x) where
    -- a sink has no fault but want of memory, so a write of it failed
    refused_so : (number : ℕ) (element : StreamElement K) (number_is : number ≡ n) → behavior_at m number ≡ takes_all → HasPart k element (came number) x
        → (r : Refusal)
        → RefusesBy (behavior_at m n) (m.took n) pad x r → IsBehind k contents graph m (refusal_fault n r) number element
    refused_so number element same is part (Fault fault) by =
        let answers = ap (λ (b : Behavior). b.answers (m.took n) pad x) (subst (λ (a : ℕ). behavior_at m a ≡ takes_all) same is) in
        let memory = passes_none (only (m.took n)) x fault (subst (λ r. IsFaultOf r fault) answers by) in
        IsBehind.no_memory (ap (λ (f : ElementFault). refusal_fault n (Fault f)) memory)
    refused_so number element same is part (Unwritten before after) by =
        let first = awaits (subst (λ (a : ℕ). behavior_at m a ≡ takes_all) same is) in
        IsBehind.part before after x (ap (λ (a : ℕ). faults.WriteFault a before after) (sym same))
        (subst (λ (a : ℕ). IsAwaited contents (made_in graph) (links_in graph) (crossed_in graph m) (first_pad a) x) (sym same) first) part

    fell_so : (number : ℕ) (same : number ≡ n) (element : StreamElement K) → StreamFell k.bytes element (behavior_at m number) (m.took number) pad x
        → IsBehind k contents graph m (refusal_fault n refusal) number element
    fell_so number same (kinds.Sink sink) fell =
        refused_so number (kinds.Sink sink) same fell.behavior_is
        (has_part k (behavior_at m number) (m.took number) (runs.net.first number).0 (came number) (took_all number) x sink fell) refusal why
    fell_so number same _ fell = IsBehind.all (λ keep file is. absurd (none_some is))

    part_behind : (part : Part (StreamElement K) O e) → StandsOrFell n pad x m part
        → IsBehind k contents graph m (refusal_fault n refusal) part.number part.element
    part_behind part (inl stands) = IsBehind.all (holds_all part stands)
    part_behind part (inr (same, fell)) =
        fell_so part.number same part.element (streams.fell part.element (behavior_at m part.number) (m.took part.number) pad x fell)

  module _ (place : ℕ) (before after : Task S (StreamElement K) I O L s e i o) (at : slice_get tasks place ≡ Some before)
      (framed : frame_of after ≡ frame_of before) where
    -- the element of a head is fed from inlets
    of_head : (n : ℕ) (head : Head S I O s) → after.head ≡ head → IsOfHead at_head n head → has has_inlets (made_in graph) n ≡ true
    of_head n (Source head) is of = absurd of
    of_head n (Inlets head) is of =
        subst (λ (a : ℕ). has has_inlets (made_in graph) a ≡ true) of
        (frame_fed contents graph bags m tasks tells runs place before at head.number _ (sym (ap (λ f. f.head) framed) ∙ ap (head_frame o) is))

    gave_up : (n pad : ℕ) (x : Item) (refusal : Refusal) → RefusesBy (behavior_at m n) (m.took n) pad x refusal
        → (origin : Origin) (behind : Moment) (lost : ℕ → List Item) → GaveUp m n pad x origin behind lost → IsOfHead origin n after.head
        → AreTied i o (StandsOrFell n pad x behind) lost behind after.head after.parts.items → StandsBehind k contents graph m (refusal_fault n refusal) after
    gave_up n pad x refusal why origin behind lost (GaveUp.by_pad p rest waits leads) of tied =
        record {
          crossed = all_crossed i o (StandsOrFell n pad x behind) lost m behind refl after tied;
          files = λ number part there. part_behind n pad x refusal why (awaited_first p n pad x rest waits leads) part (tied.parts_tied.each number part there).stood;
        }
    gave_up n pad x refusal why origin behind lost (GaveUp.by_source p rest waits leads) of tied =
        record {
          crossed = all_crossed i o (StandsOrFell n pad x behind) lost m behind refl after tied;
          files = λ number part there. part_behind n pad x refusal why (awaited_first p n pad x rest waits leads) part (tied.parts_tied.each number part there).stood;
        }
    gave_up n pad x refusal why origin behind lost GaveUp.by_inlet of tied =
        record {
          crossed = all_crossed i o (StandsOrFell n pad x behind) lost m behind refl after tied;
          files = λ number part there.
              part_behind n pad x refusal why (λ is. absurd (not_fed n is (of_head n after.head refl of))) part (tied.parts_tied.each number part there).stood;
        }

    fails_so : (over : Option (List Lane)) (origin : Origin) (fault : TaskFault)
        → FailsAs i o tells over m before.head after.head before.parts.items after.parts.items origin fault → StandsBehind k contents graph m fault after
    fails_so over origin fault (FailsAs.refused at n pad x refusal left goes refuses) =
        gave_up n pad x refusal refuses.why at left.behind left.lost left.gave_up left.of_head left.tied
    fails_so over origin fault (FailsAs.unread n why tied is short) = all_stand fault after tied.0
    fails_so over origin fault (FailsAs.not_linked p x rest tied waits buffer nowhere) = all_stand fault after tied.0
    fails_so over origin fault (FailsAs.at_limit p x rest tied waits many) = all_stand fault after tied.0
    fails_so over origin fault (FailsAs.no_memory at tied) = all_stand fault after tied.0

module _ {S K I O L : Type 0} (k : sinks.Ghosts K) (s : sources.Ghosts S) (e : elements.Ghosts (StreamElement K))
    (i : inlets.Ghosts I L O) (o : outlets.Ghosts O L) where
  pub tasks_stand_whole : TasksStandWhole k s e i o
  tasks_stand_whole streams contents graph bags m tasks tells runs = stands_whole k s e i o streams contents graph bags m tasks tells runs

  pub tasks_stand_behind : TasksStandBehind k s e i o
  tasks_stand_behind streams contents graph bags m tasks tells over runs place before after fault at framed failed =
      fails_so k s e i o streams contents graph bags m tasks tells runs place before after at framed over failed.origin fault failed.fails
