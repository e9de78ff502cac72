-- A run that stopped, by the laws of its graph.
use Rattle.std.proofs.Common.{None, ◌≡◌, ◌≢◌, ◌⊎◌, ℕ, suc, true, false, eqb, List, [], ◌∷◌, Option, Some, length, refl, sym, ap, ◌∙◌, subst, inl, inr}
use Rattle.std.specs.Prelude.{slice_get}
use Rattle.std.specs.Option.{option_map}
use Rattle.std.proofs.lemmas.Bool.Decides.{eqb_tells}
use Rattle.std.proofs.lemmas.Option.{none-some, same_Some}
use Rattle.el_set.specs.Gives.{source_file}
use Rattle.flow_model.specs.declared.element.TaskElement as elements
use Rattle.flow_model.specs.declared.source.TaskSource as givers
use Rattle.graph_parts.specs.declared.bag.Bag.{Bag}
use Rattle.flow_model.specs.Item.{Item}
use Rattle.graph_core.specs.Graph.{is_live, made as made_in, links as links_in}
use Rattle.graph_core.specs.declared.graph.Graph.{Graph}
use Rattle.graph_tasks.specs.Frames.{HaveBags, IsFrameOf}
use Rattle.graph_tasks.specs.Over.{joins_in}
use Rattle.graph_tasks.specs.Runs.{RunStands, RunsAt, crossed_in}
use Rattle.graph_tasks.specs.Stalled.{lane_at}
use Rattle.graph_tasks.specs.Written.{IsBehind, StandsBehind, StandsWhole, TaskCrossed}
use Rattle.graph_parts.specs.Files.{WereTold}
use Rattle.graph_parts.specs.Plans.{moment_answers, moment_plan}
use Rattle.graph_core.specs.LinkedOnce.{AreOnce}
use Rattle.gst_outside.specs.Seen.{Seen}
use Rattle.gst_outside.specs.declared.sink.Sink as sinks
use Rattle.gst_outside.specs.declared.source.Source as sources
use Rattle.lane_core.specs.Lane.{Lane}
use Rattle.lane_core.specs.declared.ends.Inlet as inlets
use Rattle.lane_core.specs.declared.ends.Outlet as outlets
use Rattle.flow_model.specs.Moment.{Moment}
use Rattle.flow_model.specs.Opening.{opening}
use Rattle.net_task.specs.Frame.{TaskFrame, frame_of}
use Rattle.net_task.specs.declared.task.Task.{Task}
use Rattle.net_turns.specs.Alone.{HoldLanes}
use Rattle.net_turns.specs.Ends.{TellsOver}
use Rattle.net_turns.specs.Rests.{NetEnded, NetFaulted}
use Rattle.run_files.specs.Ends.{known_ends}
use Rattle.run_files.specs.declared.end.End.{End}
use Rattle.run_report.specs.declared.report.StalledTask.{StalledTask}
use Rattle.task_elements.specs.Stands.{file_in}
use Rattle.task_elements.specs.declared.element.StreamElement.{StreamElement}
use Rattle.task_elements.specs.declared.source.StreamSource.{StreamSource}
use Rattle.task_parts.specs.declared.fault.TaskFault.{TaskFault}
use Rattle.task_parts.specs.declared.step.Step.{Step}
use Rattle.world_core.specs.Ended.{EndsEos, EndsStalled, TellsRun}
use Rattle.world_core.specs.Laws.{Laws}
use Rattle.world_core.specs.Ran.{KnownHold, stop_fault, stop_status}
use Rattle.world_core.specs.Stalled.{TellsTasks}
use Rattle.world_core.specs.Stopped.{HasRun}
use Rattle.world_core.specs.declared.ended.WorldEnd.{WorldEnd}
use Rattle.world_core.specs.declared.report.Stop.{Stop}
use Rattle.world_core.specs.declared.report.Stop.TheVariants as stops
use Rattle.world_core.proofs.Faulted.{IsFaulted}
use Rattle.world_core.proofs.Files.{have_bags}
use Rattle.world_core.proofs.Held.{RestHasCame, whole_held}
use Rattle.world_core.proofs.OverRuns.{run_is_over}
use Rattle.world_core.proofs.Settled.{IsSettled, IsTold, all_bytes, all_written, rendered}
use Rattle.world_core.proofs.StallTold.{run_is_stalled}

-- lists that have something at the same places are as long
same_length : {A B : Type 0} (xs : List A) (ys : List B) → ((n : ℕ) (x : A) → slice_get xs n ≡ Some x → (y : B) × (slice_get ys n ≡ Some y))
    → ((n : ℕ) (y : B) → slice_get ys n ≡ Some y → (x : A) × (slice_get xs n ≡ Some x)) → length xs ≡ length ys
same_length [] [] there back = refl
same_length [] (y ∷ ys) there back = let x = back 0 y refl in absurd (none-some x.0 x.1)
same_length (x ∷ xs) [] there back = let y = there 0 x refl in absurd (none-some y.0 y.1)
same_length (x ∷ xs) (y ∷ ys) there back = ap suc (same_length xs ys (λ n z at. there (suc n) z at) (λ n z at. back (suc n) z at))

module _ {S K I O L : Type 0} {giver : givers.Ghosts (StreamSource S)} {taker : elements.Ghosts (StreamElement K)} {i : inlets.Ghosts I L O} {o : outlets.Ghosts O L} where
  -- one task of a run met a fault, which left its frame, and the others stayed
  pub record OneFaulted (last : List (Task (StreamSource S) (StreamElement K) I O L giver taker i o)) : Type 0 where
    pub place : ℕ
    pub was : List (Task (StreamSource S) (StreamElement K) I O L giver taker i o)
    pub before : Task (StreamSource S) (StreamElement K) I O L giver taker i o
    pub after : Task (StreamSource S) (StreamElement K) I O L giver taker i o
    pub others : (n : ℕ) → n ≢ place → slice_get last n ≡ slice_get was n
    pub at : slice_get was place ≡ Some before
    pub at_after : slice_get last place ≡ Some after
    pub frame : frame_of after ≡ frame_of before

module _ {S K I O L : Type 0} {giver : givers.Ghosts (StreamSource S)} {taker : elements.Ghosts (StreamElement K)} {i : inlets.Ghosts I L O} {o : outlets.Ghosts O L}
    (graph : Graph) (bags : List Bag) where
  -- the tasks have the bags that they have behind the fault of one of them, which left its frame
  pub bags_before : (last : List (Task (StreamSource S) (StreamElement K) I O L giver taker i o)) (f : OneFaulted last)
      → HaveBags (made_in graph) (links_in graph) bags last → HaveBags (made_in graph) (links_in graph) bags f.was
  bags_before last f have = record { count = size ∙ have.count; each = each }
    where
      here_or : (n : ℕ) → ((eqb n f.place ≡ true) × (n ≡ f.place)) ⊎ ((eqb n f.place ≡ false) × (n ≡ f.place → ⊥))
      here_or n = eqb_tells n f.place

      there : (n : ℕ) (x : Task (StreamSource S) (StreamElement K) I O L giver taker i o) → slice_get f.was n ≡ Some x → (y : Task (StreamSource S) (StreamElement K) I O L giver taker i o) × (slice_get last n ≡ Some y)
      there n x at = by (here_or n)
        where
          by : ((eqb n f.place ≡ true) × (n ≡ f.place)) ⊎ ((eqb n f.place ≡ false) × (n ≡ f.place → ⊥)) → (y : Task (StreamSource S) (StreamElement K) I O L giver taker i o) × (slice_get last n ≡ Some y)
          by (inl (told_so, same)) = (f.after, ap (slice_get last) same ∙ f.at_after)
          by (inr (told_not, apart)) = (x, f.others n apart ∙ at)

      back : (n : ℕ) (y : Task (StreamSource S) (StreamElement K) I O L giver taker i o) → slice_get last n ≡ Some y → (x : Task (StreamSource S) (StreamElement K) I O L giver taker i o) × (slice_get f.was n ≡ Some x)
      back n y at = by (here_or n)
        where
          by : ((eqb n f.place ≡ true) × (n ≡ f.place)) ⊎ ((eqb n f.place ≡ false) × (n ≡ f.place → ⊥)) → (x : Task (StreamSource S) (StreamElement K) I O L giver taker i o) × (slice_get f.was n ≡ Some x)
          by (inl (told_so, same)) = (f.before, ap (slice_get f.was) same ∙ f.at)
          by (inr (told_not, apart)) = (y, sym (f.others n apart) ∙ at)

      size : length f.was ≡ length last
      size = same_length f.was last there back

      each : (n : ℕ) (bag : Bag) (task : Task (StreamSource S) (StreamElement K) I O L giver taker i o) → slice_get bags n ≡ Some bag → slice_get f.was n ≡ Some task
          → IsFrameOf (made_in graph) (links_in graph) bag (frame_of task)
      each n bag task at to = by (here_or n)
        where
          by : ((eqb n f.place ≡ true) × (n ≡ f.place)) ⊎ ((eqb n f.place ≡ false) × (n ≡ f.place → ⊥)) → IsFrameOf (made_in graph) (links_in graph) bag (frame_of task)
          by (inl (told_so, same)) =
              let one : f.before ≡ task = same_Some f.before task (sym f.at ∙ ap (slice_get f.was) (sym same) ∙ to) in
              subst (λ (frame : TaskFrame). IsFrameOf (made_in graph) (links_in graph) bag frame) (f.frame ∙ ap (λ (t : Task (StreamSource S) (StreamElement K) I O L giver taker i o). frame_of t) one)
              (have.each n bag f.after at (ap (slice_get last) same ∙ f.at_after))
          by (inr (told_not, apart)) = have.each n bag task at (f.others n apart ∙ to)

module _ {S K I O L : Type 0} {giver : givers.Ghosts (StreamSource S)} {taker : elements.Ghosts (StreamElement K)} {i : inlets.Ghosts I L O} {o : outlets.Ghosts O L}
    (k : sinks.Ghosts K) (laws : Laws giver taker i o k) (contents : ℕ → List ℕ) (graph : Graph) (bags : List Bag) where
  stands_at : (m : Moment) (tasks : List (Task (StreamSource S) (StreamElement K) I O L giver taker i o)) (tells : Option (List Lane)) → RunsAt contents graph bags m tasks tells
      → RunStands contents graph m
  stands_at m tasks tells at = laws.runs laws.streams contents graph bags m tasks tells at

  settled_at : (m : Moment) (tasks last : List (Task (StreamSource S) (StreamElement K) I O L giver taker i o)) (tells : Option (List Lane)) → RunsAt contents graph bags m tasks tells
      → ((place : ℕ) (task : Task (StreamSource S) (StreamElement K) I O L giver taker i o) → slice_get last place ≡ Some task → TaskCrossed m task)
      → IsSettled contents graph bags m last
  settled_at m tasks last tells at crossed = record {
    evaluated = laws.evaluated contents graph m at.sound (stands_at m tasks tells at);
    crossed = crossed;
    quiet = λ n within loose. laws.quiet contents graph bags m tasks tells at n within loose;
    limited = laws.limited contents graph bags m tasks tells at;
  }

  -- a task that is well stands so behind the fault of another
  behind_whole : (m : Moment) (fault : TaskFault) (task : Task (StreamSource S) (StreamElement K) I O L giver taker i o) → StandsWhole k graph m task → StandsBehind k contents graph m fault task
  behind_whole m fault task whole = record { crossed = whole.crossed; files = λ place part at. IsBehind.all (whole.files place part at) }

module _ {S K I O L : Type 0} {giver : givers.Ghosts (StreamSource S)} {taker : elements.Ghosts (StreamElement K)} {i : inlets.Ghosts I L O} {o : outlets.Ghosts O L}
    (s : sources.Ghosts S) (k : sinks.Ghosts K) (laws : Laws giver taker i o k) (graph : Graph) (first last : List (Task (StreamSource S) (StreamElement K) I O L giver taker i o))
    (rest : List (Option (StreamElement K))) (left : List (Option (End S K))) (tells : Option (List Lane)) (before : Seen)
    (run : HasRun s k graph first last rest left tells before) (once : AreOnce (links_in graph))
    (rested : (contents : ℕ → List ℕ) (m : Moment) → IsSettled contents graph run.started.bags m last → RestHasCame k graph last rest m) where
  -- the moment at which a run met a fault
  pub is_faulted : (contents : ℕ → List ℕ) (place : ℕ) (fault : TaskFault) → NetFaulted (opening (moment_plan contents graph) (moment_answers graph)) last place fault
      → IsFaulted k contents graph run.started.bags last rest fault
  is_faulted contents place fault f =
      record { m = f.last; settled = settled; behind = behind; others = rested contents f.last settled; blamed = laws.blamed laws.streams contents graph run.started.bags f.last f.was f.tells f.over at place f.before f.after fault f.at f.frame f.failed }
    where
      have : HaveBags (made_in graph) (links_in graph) run.started.bags f.was
      have = bags_before graph run.started.bags last (record { place = place; was = f.was; before = f.before; after = f.after; others = f.others; at = f.at; at_after = f.at_after; frame = f.frame })
          (have_bags s k graph first last rest left tells before run)

      at : RunsAt contents graph run.started.bags f.last f.was f.tells
      at = record {
        sound = run.started.sound;
        once = once;
        bags_are = run.started.bags_are;
        have = have;
        plan = f.goes_on.plan;
        answers = f.goes_on.answers;
        net = f.net;
      }

      behind : (n : ℕ) (task : Task (StreamSource S) (StreamElement K) I O L giver taker i o) → slice_get last n ≡ Some task → StandsBehind k contents graph f.last fault task
      behind n task to = by (eqb_tells n place)
        where
          by : ((eqb n place ≡ true) × (n ≡ place)) ⊎ ((eqb n place ≡ false) × (n ≡ place → ⊥)) → StandsBehind k contents graph f.last fault task
          by (inl (told_so, same)) =
              subst (λ (t : Task (StreamSource S) (StreamElement K) I O L giver taker i o). StandsBehind k contents graph f.last fault t)
              (same_Some f.after task (sym f.at_after ∙ ap (slice_get last) (sym same) ∙ to))
              (laws.behind laws.streams contents graph run.started.bags f.last f.was f.tells f.over at place f.before f.after fault f.at f.frame f.failed)
          by (inr (told_not, apart)) =
              behind_whole k laws contents graph run.started.bags f.last fault task
              (laws.stand laws.streams contents graph run.started.bags f.last f.was f.tells at n task (sym (f.others n apart) ∙ to))

      settled : IsSettled contents graph run.started.bags f.last last
      settled = settled_at k laws contents graph run.started.bags f.last f.was last f.tells at (λ n task to. (behind n task to).crossed)

  -- what is told of a run in which no task can move
  module _ (taken : (x : StreamElement K) → taker.file x ≡ option_map k.location (file_in x)) (given : (x : StreamSource S) → giver.file x ≡ option_map s.location (source_file x.source))
      (ends : List (Option (End S K))) (end : WorldEnd) (stop : Stop) (told : IsTold graph last rest left ends stop end) (steps : List Step) (over : Option (List Lane))
      (ended : (contents : ℕ → List ℕ) → WereTold (made_in graph) before contents → NetEnded (opening (moment_plan contents graph) (moment_answers graph)) last steps over) where
    abbrev have : HaveBags (made_in graph) (links_in graph) run.started.bags last
    have = have_bags s k graph first last rest left tells before run

    rest_at : (contents : ℕ → List ℕ) → (e : NetEnded (opening (moment_plan contents graph) (moment_answers graph)) last steps over)
        → RunsAt contents graph run.started.bags e.last last over
    rest_at contents e = record {
      sound = run.started.sound;
      once = once;
      bags_are = run.started.bags_are;
      have = have;
      plan = e.goes_on.plan;
      answers = e.goes_on.answers;
      net = e.rests.net;
    }

    rest_told : (Cause : (ℕ → List ℕ) → (ℕ → List Item) → (ℕ → List ℕ) → Type 0)
        → ((contents : ℕ → List ℕ) → WereTold (made_in graph) before contents → (e : NetEnded (opening (moment_plan contents graph) (moment_answers graph)) last steps over)
        → RunsAt contents graph run.started.bags e.last last over → Cause contents (crossed_in graph e.last) (all_bytes graph e.last))
        → TellsRun graph before (KnownHold graph (known_ends s k ends)) end.report Cause
    rest_told Cause causes contents were =
        let e = ended contents were in
        let at = rest_at contents e in
        let whole : (n : ℕ) (task : Task (StreamSource S) (StreamElement K) I O L giver taker i o) → slice_get last n ≡ Some task → StandsWhole k graph e.last task
        = λ n task to. laws.stand laws.streams contents graph run.started.bags e.last last over at n task to in
        let settled = settled_at k laws contents graph run.started.bags e.last last last over at (λ n task to. (whole n task to).crossed) in
        rendered s k graph first last rest left tells before run taken given ends stop end told contents e.last settled (all_bytes graph e.last)
        (whole_held k graph last rest e.last whole (rested contents e.last settled)) (Cause contents) (causes contents were e at)

    -- where the steps tell that it is over, it is
    pub is_over : stop ≡ stops.Over → TellsOver (is_live graph) (joins_in graph) last steps → EndsEos graph before (KnownHold graph (known_ends s k ends)) end
    is_over is tells_over = record {
      status = told.tells.status ∙ ap stop_status is;
      fault = told.tells.fault ∙ ap (stop_fault (made_in graph)) is;
      tells = rest_told _ (λ contents were e at.
          let stands = stands_at k laws contents graph run.started.bags e.last last over at in
          let net = (laws.over laws.streams run.started.tree contents graph run.started.bags e.last last steps over run.started.is at e.rests).0 tells_over in (
            all_written graph e.last,
            laws.whole contents graph e.last run.started.sound stands net.0.left,
            run_is_over contents graph e.last run.started.sound stands net.0.left run.started.bags last have run.started.bags_are net.0.ended net.1,
          ));
    }

    -- and else it is stalled
    pub is_stalled : (tasks : List StalledTask) → stop ≡ stops.Stalled None tasks → (TellsOver (is_live graph) (joins_in graph) last steps → ⊥)
        → TellsTasks (made_in graph) last steps tasks
        → ((contents : ℕ → List ℕ) → WereTold (made_in graph) before contents → HoldLanes (lane_at (made_in graph) (links_in graph)) last)
        → EndsStalled graph before (KnownHold graph (known_ends s k ends)) end
    is_stalled tasks is none tells_tasks rows = record {
      status = told.tells.status ∙ ap stop_status is;
      tasks = tasks;
      fault = told.tells.fault ∙ ap (stop_fault (made_in graph)) is;
      tells = rest_told _ (λ contents were e at. (
        all_written graph e.last,
        run_is_stalled contents graph e.last run.started.bags last steps have run.started.bags_are
            (laws.stuck laws.streams contents graph run.started.bags e.last last steps over at (rows contents were) e.rests)
            (λ n task to. let answered = e.rests.rests n task tt to in (answered.0, answered.1))
            tasks tells_tasks none
            (laws.lines laws.streams run.started.tree contents graph run.started.bags e.last last steps over run.started.is at e.rests),
      ));
    }
