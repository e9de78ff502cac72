-- A run that stopped, at the moment at which it did, and what is told of it.
use Rattle.std.proofs.Common.{[], ◌≡◌, ◌<◌, ◌≤◌, ℕ, Bool, true, false, All, List, Option, Some, length, sym, ap, ◌∙◌, subst}
use Rattle.std.specs.Prelude.{slice_get}
use Rattle.std.specs.Option.{option_map, option_map_or}
use Rattle.el_set.specs.Gives.{source_file}
use Rattle.el_set.specs.Made.{keeps_flushed}
use Rattle.flow_model.specs.declared.element.TaskElement as elements
use Rattle.flow_model.specs.declared.source.TaskSource as givers
use Rattle.flow_model.specs.Eval.{eval}
use Rattle.flow_model.specs.Item.{Item}
use Rattle.flow_model.specs.SinkBytes.{sink_bytes}
use Rattle.graph_parts.specs.BagLaws.{StandsIn}
use Rattle.graph_parts.specs.declared.bag.Bag.{Bag}
use Rattle.graph_core.specs.Elements.{Made}
use Rattle.graph_core.specs.Allowed.{first_pad}
use Rattle.graph_core.specs.Graph.{made as made_in, links as links_in}
use Rattle.graph_core.specs.declared.graph.Graph.{Graph}
use Rattle.graph_tasks.specs.Ended.{IsQuiet}
use Rattle.graph_tasks.specs.Owed.{AreWritten, came_to}
use Rattle.graph_tasks.specs.Runs.{crossed_in}
use Rattle.graph_tasks.specs.Written.{HoldsBytes, TaskCrossed}
use Rattle.graph_parts.specs.Back.{GivesBack, HasElement, Wrote}
use Rattle.graph_parts.specs.Counts.{TasksCounted}
use Rattle.graph_parts.specs.Files.{OpensAt}
use Rattle.graph_parts.specs.Put.{PutBack}
use Rattle.graph_parts.specs.declared.counts.Count.{Count}
use Rattle.graph_parts.specs.Pads.{is_pad}
use Rattle.gst_outside.specs.Seen.{Seen}
use Rattle.gst_outside.specs.declared.sink.Sink as sinks
use Rattle.gst_outside.specs.declared.source.Source as sources
use Rattle.lane_core.specs.Lane.{Lane}
use Rattle.lane_core.specs.declared.ends.Inlet as inlets
use Rattle.lane_core.specs.declared.ends.Outlet as outlets
use Rattle.graph_core.specs.GraphPlan.{graph_plan}
use Rattle.flow_model.specs.Moment.{Moment}
use Rattle.net_task.specs.declared.task.Task.{Task}
use Rattle.run_files.specs.Ends.{known_end, known_ends}
use Rattle.run_files.specs.declared.end.End.{End}
use Rattle.run_files.specs.declared.end.End.TheVariants.{Snk}
use Rattle.run_files.specs.declared.end.Opening.TheVariants.{Write}
use Rattle.run_report.specs.declared.report.PadCount.{PadCount}
use Rattle.task_elements.specs.Stands.{file_in}
use Rattle.task_elements.specs.declared.element.StreamElement.{StreamElement}
use Rattle.task_elements.specs.declared.source.StreamSource.{StreamSource}
use Rattle.world_core.specs.Ended.{IsRendered, most_items}
use Rattle.world_core.specs.Prepared.{HasRoom}
use Rattle.world_core.specs.Ran.{KnownHold, TellsEnd}
use Rattle.world_core.specs.Stopped.{HasRun}
use Rattle.world_core.specs.declared.ended.WorldEnd.{WorldEnd}
use Rattle.world_core.specs.declared.report.Stop.{Stop}
use Rattle.world_core.proofs.Counted.{counts_are, lengths_by, limits_are}
use Rattle.world_core.proofs.Files.{element_there, have_bags, known_sink, length_there, written_file}
use Rattle.graph_parts.proofs.OwnFiles.{writer}

module _ {S K I O L : Type 0} {giver : givers.Ghosts (StreamSource S)} {taker : elements.Ghosts (StreamElement K)} {i : inlets.Ghosts I L O} {o : outlets.Ghosts O L} where
  -- what crossed the pads is what the evaluation gives, and what the pads counted; and nothing crossed those of other elements
  pub record IsSettled (contents : ℕ → List ℕ) (graph : Graph) (bags : List Bag) (m : Moment) (last : List (Task (StreamSource S) (StreamElement K) I O L giver taker i o)) : Type 0 where
    pub evaluated : (p : ℕ) → eval (graph_plan contents graph (λ q. length (crossed_in graph m q))) p ≡ crossed_in graph m p
    pub crossed : (place : ℕ) (task : Task (StreamSource S) (StreamElement K) I O L giver taker i o) → slice_get last place ≡ Some task → TaskCrossed m task
    pub quiet : (n : ℕ) → n < length (made_in graph) → ((j : ℕ) → StandsIn bags j n → ⊥) → IsQuiet graph m n
    pub limited : (p : ℕ) → is_pad (made_in graph) p ≡ true → length (m.history p) ≤ 1099511627776

  -- what was counted and given back, and what is told of it
  pub record IsTold (graph : Graph) (last : List (Task (StreamSource S) (StreamElement K) I O L giver taker i o)) (rest : List (Option (StreamElement K))) (left ends : List (Option (End S K)))
      (stop : Stop) (end : WorldEnd) : Type 0 where
    pub none : List Count
    pub counts : List Count
    pub zeros : List ℕ
    pub lengths : List ℕ
    pub room : HasRoom (length (made_in graph)) none zeros
    pub counted : PutBack (TasksCounted last) none counts
    pub wrote : PutBack (Wrote last rest) zeros lengths
    pub back : PutBack (GivesBack (made_in graph) last rest) left ends
    pub tells : TellsEnd (made_in graph) stop counts lengths [] end

  -- the files of elements that write some hold these bytes
  abbrev pub AreHeld : sinks.Ghosts K → Graph → List (Task (StreamSource S) (StreamElement K) I O L giver taker i o) → List (Option (StreamElement K)) → (ℕ → List ℕ) → Type 0
  AreHeld k graph last rest bytes = (d : ℕ) (location : List ℕ) (x : StreamElement K) (file : K) → OpensAt (made_in graph) d (Write location) → HasElement last rest d x
      → file_in x ≡ Some file → HoldsBytes k x file (bytes d)

-- whether a flush keeps what the element of a number wrote
abbrev pub keep_of : List Made → ℕ → Bool
keep_of made d = option_map_or (λ (m : Made). keeps_flushed m.settings) (slice_get made d) false

-- the bytes of all that came to each element
abbrev pub all_bytes : Graph → Moment → ℕ → List ℕ
all_bytes graph m d = sink_bytes (keep_of (made_in graph) d) (came_to (links_in graph) (crossed_in graph m) (first_pad d))

-- those are what is written
pub all_written : (graph : Graph) (m : Moment) → AreWritten (made_in graph) (links_in graph) (crossed_in graph m) (all_bytes graph m)
all_written graph m d one at writes = ap (λ found. sink_bytes (option_map_or (λ (y : Made). keeps_flushed y.settings) found false) (came_to (links_in graph) (crossed_in graph m) (first_pad d))) at

module _ {S K I O L : Type 0} {giver : givers.Ghosts (StreamSource S)} {taker : elements.Ghosts (StreamElement K)} {i : inlets.Ghosts I L O} {o : outlets.Ghosts O L}
    (s : sources.Ghosts S) (k : sinks.Ghosts K) (graph : Graph) (first last : List (Task (StreamSource S) (StreamElement K) I O L giver taker i o))
    (rest : List (Option (StreamElement K))) (left : List (Option (End S K))) (tells : Option (List Lane)) (before : Seen)
    (run : HasRun s k graph first last rest left tells before)
    (taken : (x : StreamElement K) → taker.file x ≡ option_map k.location (file_in x)) (given : (x : StreamSource S) → giver.file x ≡ option_map s.location (source_file x.source))
    (ends : List (Option (End S K))) (stop : Stop) (end : WorldEnd) (told : IsTold graph last rest left ends stop end) where
  -- the ends hold the bytes
  ends_hold : (bytes : ℕ → List ℕ) → AreHeld k graph last rest bytes → KnownHold graph (known_ends s k ends) bytes
  ends_hold bytes held d one location at writes =
      let opens : OpensAt (made_in graph) d (Write location) = record { element = one; at = at; opens = writes } in
      let x = element_there s k graph first last rest left tells before run d one at (writer one.settings location writes).no_source in
      let file = written_file s k graph first last rest left tells before run taken d location x.0 opens x.1 in (
        known_end s k (Snk file.0),
        known_sink s k graph first last rest left tells before run taken given ends told.back d location x.0 file.0 opens x.1 file.1,
        (held d location x.0 file.0 opens x.1 file.1).told,
      )

  -- and the lengths are theirs
  lengths_hold : (bytes : ℕ → List ℕ) → AreHeld k graph last rest bytes → (d : ℕ) (location : List ℕ) → OpensAt (made_in graph) d (Write location)
      → slice_get told.lengths d ≡ Some (length (bytes d))
  lengths_hold bytes held d location opens =
      let x = element_there s k graph first last rest left tells before run d opens.element opens.at (writer opens.element.settings location opens.opens).no_source in
      let file = written_file s k graph first last rest left tells before run taken d location x.0 opens x.1 in
      length_there s k graph first last rest left tells before run taken told.none told.zeros told.lengths told.room told.wrote d location x.0 opens x.1
      ∙ (held d location x.0 file.0 opens x.1 file.1).size

  -- what is told is the evaluation
  pub rendered : (contents : ℕ → List ℕ) (m : Moment) → IsSettled contents graph run.started.bags m last → (bytes : ℕ → List ℕ) → AreHeld k graph last rest bytes
      → (Cause : (ℕ → List Item) → (ℕ → List ℕ) → Type 0) → Cause (crossed_in graph m) bytes
      → IsRendered contents graph (KnownHold graph (known_ends s k ends)) end.report Cause
  rendered contents m settled bytes held Cause cause =
      let pads = told.tells.pads_are
      ∙ counts_are graph run.started.bags m last told.none told.counts told.zeros told.room told.counted
      (have_bags s k graph first last rest left tells before run) settled.crossed settled.quiet in
      record {
        h = crossed_in graph m;
        evaluated = λ p within. settled.evaluated p;
        pads = pads;
        limit = subst (λ (counts : List PadCount). All (λ (count : PadCount). count.items ≤ most_items) counts) (sym pads) (limits_are graph m settled.limited);
        bytes = bytes;
        sinks = told.tells.sinks_are ∙ lengths_by (made_in graph) told.lengths bytes (lengths_hold bytes held);
        files = ends_hold bytes held;
        cause = cause;
      }
