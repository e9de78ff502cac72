-- The next command is answered, or control can't go on.
use Rattle.std.proofs.Common.{◌≡◌, ◌≢◌, ◌<◌, ◌≤◌, ◌+◌, ℕ, Bool, true, List, Option, None, Some, drop, get_or, length, refl, sym, ap, ◌∙◌, subst}
use Rattle.std.specs.Prelude.{Result, Ok, Err, IfErr, IfOk, OnOk, slice_get}
use Rattle.std.proofs.lemmas.List.{drop_all}
use Rattle.std.proofs.lemmas.Option.{slice_get_read}
use Rattle.flow_model.proofs.Prefixes.{prefix_refl}
use Rattle.lane_core.specs.Lane.{Lane}
use Rattle.lane_core.specs.declared.ends.Inlet as inlets
use Rattle.lane_core.specs.declared.ends.Outlet as outlets
use Rattle.flow_model.specs.Moment.{Moment}
use Rattle.flow_model.specs.declared.element.TaskElement as elements
use Rattle.flow_model.specs.declared.source.TaskSource as sources
use Rattle.net_task.specs.declared.task.Task.{Task}
use Rattle.net_edits.specs.declared.inside.EditFault.{EditFault}
use Rattle.net_edits.specs.declared.inside.EditFault.TheVariants as edit_faults
use Rattle.net_turns.specs.Net.{NetReady}
use Rattle.net_turns.specs.declared.net.Stopped.{Stopped}
use Rattle.script_text.specs.declared.answer.Answer.{Answer}
use Rattle.script_text.specs.declared.answer.Answer.TheVariants.{Done, Refused, Unreached}
use Rattle.script_text.specs.declared.answer.Place.{Place}
use Rattle.script_text.specs.declared.command.Command.{Command}
use Rattle.graph_edits.specs.Edited.{Edited}
use Rattle.edit_core.specs.Deciding.{DeedsAreAnswers, IsAnsweredNow, IsRuled, IsToDo, made_by, names_its_pad}
use Rattle.edit_core.specs.Judging.{owed_then}
use Rattle.edit_core.specs.Notes.{IsCurrent}
use Rattle.edit_core.specs.declared.deciding.Deed.{Deed}
use Rattle.edit_core.specs.declared.deciding.Deed.TheVariants as deeds
use Rattle.edit_core.specs.declared.deciding.Ruling.{Ruling}
use Rattle.edit_core.specs.declared.deciding.Ruling.TheVariants.{Waits, Answered, ToDo}
use Rattle.edit_core.specs.declared.feeds.Feeds.{Feeds}
use Rattle.graph_edits.specs.Graph.{IsEdited}
use Rattle.graph_edits.specs.declared.graph.EditedGraph.{EditedGraph}
use Rattle.edit_acts.proofs.Planning.{plan_stays}
use Rattle.edit_acts.specs.Controlled.{IsControlled}
use Rattle.edit_acts.specs.Deeds.{CanBeDone, DeedFails, IsDone, IsDue, WasDone}
use Rattle.edit_acts.specs.declared.doing.Outcome.{Outcome}
use Rattle.edit_acts.specs.Scripted.{IsExact}
use Rattle.edit_acts.proofs.Planning.{plan_stays}
use Rattle.world_core.specs.Answering.{ActFails, ActsOn, CanBeAnswered, CarryFails, Controls, Decides, HasLanes, IsCarriedOut, IsEntered, IsNext, NothingCanBeDone, RulesNext, SetsAside, TellsNothingDone, room_for}
use Rattle.world_core.specs.Running.{tells_of}
use Rattle.world_core.specs.declared.running.RunFault.{RunFault}
use Rattle.world_core.specs.declared.running.RunFault.TheVariants as faults
use Rattle.world_core.specs.declared.running.Running.{Running}
use Rattle.world_core.proofs.Left.{left_behind, next_of}
use Rattle.world_core.proofs.MoreLanes.{can_be_done, same_done}

-- what is answered without a deed is exact
exact_of : (g : Edited) (m : Moment) (c : Command) (answer : Answer) → IsAnsweredNow g m c answer → IsExact g m c answer
exact_of g m c (Done places) now = absurd now.place
exact_of g m c Unreached now = tt
exact_of g m c (Refused reason places) now = (now.place, now.first)

-- and nothing is told as done
nothing_done : (g : Edited) (m : Moment) (c : Command) (answer : Answer) → IsAnsweredNow g m c answer → TellsNothingDone answer
nothing_done g m c (Done places) now = now.place
nothing_done g m c Unreached now = tt
nothing_done g m c (Refused reason places) now = tt

-- what control can do is no addition
no_addition : (g : Edited) (deed : Deed) → CanBeAnswered g deed → deed ≢ deeds.Add
no_addition g deed can is = subst (λ (d : Deed). CanBeAnswered g d) is can

-- ---- results

pub done_of : {P : Type 0} (r : Result Bool RunFault) → r ≡ Ok true → IfOk r (λ done. (done ≡ true) × P) → P
done_of (Ok done) is told = told.1
done_of (Err fault) is told = absurd cc

pub aside_of : {P : Type 0} (r : Result Bool RunFault) → r ≡ Ok true → OnOk r P → P
aside_of (Ok done) is told = told
aside_of (Err fault) is told = absurd cc

-- what is so anyhow is so where a call did not fail
pub always : {A E P : Type 0} (r : Result A E) → P → OnOk r P
always (Ok done) p = p
always (Err fault) p = tt

module _ {S E I O L : Type 0} {s : sources.Ghosts S} {e : elements.Ghosts E} {i : inlets.Ghosts I L O} {o : outlets.Ghosts O L} where
  -- what is decided of the command that is found behind those that were answered
  pub next_at : (run : Running S E I O L s e i o) (script : List Command) (place : ℕ) (command : Command) → script ≡ run.script.items → place ≡ length run.entries.items → place < length script
      → command ≡ get_or script place command → IsNext run command
  next_at run script place command same is low at =
      ap (λ (k : ℕ). slice_get run.script.items k) (sym is) ∙ ap (λ (cs : List Command). slice_get cs place) (sym same) ∙ slice_get_read script (length script) place command refl low at

  pub decided : (run : Running S E I O L s e i o) (command : Command) (tasks : List (Task S E I O L s e i o)) (ruling : Ruling) → tasks ≡ run.tasks.items
      → ((g : Edited) (m : Moment) (tells : Option (List Lane)) → IsCurrent run.graph run.feeds tasks g m tells → names_its_pad command ≡ true → IsRuled g m tasks command ruling) → Decides run command ruling
  decided run command tasks ruling same decides =
      subst
      (λ (ts : List (Task S E I O L s e i o)). (g : Edited) (m : Moment) (tells : Option (List Lane)) → IsCurrent run.graph run.feeds ts g m tells → names_its_pad command ≡ true → IsRuled g m ts command ruling)
      same decides

  pub none_left : (run : Running S E I O L s e i o) (script : List Command) (place : ℕ) → script ≡ run.script.items → place ≡ length run.entries.items → length script ≤ place → RulesNext run None
  none_left run script place same is past =
      drop_all (length run.entries.items) run.script.items (subst (λ (k : ℕ). length run.script.items ≤ k) is (subst (λ (cs : List Command). length cs ≤ place) same past))

  -- what was told of the next command, where it is some
  pub ruled : (run : Running S E I O L s e i o) (told : Option Ruling) (ruling : Ruling) → told ≡ Some ruling → RulesNext run told → RulesNext run (Some ruling)
  ruled run told ruling is next = subst (λ (o : Option Ruling). RulesNext run o) is next

  same_ruling : (run : Running S E I O L s e i o) (told ruling : Ruling) → told ≡ ruling → RulesNext run (Some told) → RulesNext run (Some ruling)
  same_ruling run told ruling is next = subst (λ (r : Ruling). RulesNext run (Some r)) is next

  -- what control asks for is due where control can do it
  pub due : (run : Running S E I O L s e i o) (g : Edited) (m : Moment) (command : Command) (deed : Deed) (items : ℕ) (places : List Place) → Controls run g m → IsToDo g m command deed items places → CanBeDone g deed
      → IsDue run.graph run.feeds run.tasks.items g m (tells_of run) deed items
  due run g m command deed items places has to_do can = record { controlled = has; can = can; command = command; places = places; to_do = to_do }

  pub ready_behind : (was is : Running S E I O L s e i o) (tasks : List (Task S E I O L s e i o)) → ((tells : Option (List Lane)) → NetReady was.tasks.items tells → NetReady tasks tells) → is.tasks.items ≡ tasks
      → is.lanes ≡ was.lanes → NetReady was.tasks.items (tells_of was) → NetReady is.tasks.items (tells_of is)
  ready_behind was is tasks stays same lanes ready =
      subst (λ (tells : Option (List Lane)). NetReady is.tasks.items tells) (ap o.tells (sym lanes))
      (subst (λ (ts : List (Task S E I O L s e i o)). NetReady ts (tells_of was)) (sym same) (stays (tells_of was) ready))

  -- what makes no lane was done, with the lanes as they are
  pub done_here : (was is : Running S E I O L s e i o) (graph : EditedGraph) (feeds : Feeds) (tasks : List (Task S E I O L s e i o)) (deed : Deed) (items : ℕ) (places : List Place) (outcome : Outcome S E I O L s e i o)
      → ((g : Edited) → IsEdited was.graph g → CanBeAnswered g deed) → ((g : Edited) → IsEdited was.graph g → room_for g deed ≡ None)
      → ((g : Edited) (m : Moment) (tells : Option (List Lane)) → IsDue was.graph was.feeds was.tasks.items g m tells deed items → WasDone outcome × IsDone graph feeds tasks g m tells deed items)
      → is.graph ≡ graph → is.feeds ≡ feeds → is.tasks.items ≡ tasks → is.lanes ≡ was.lanes
      → (g : Edited) (m : Moment) (command : Command) → Controls was g m → IsToDo g m command deed items places
      → CanBeAnswered g deed × IsDone is.graph is.feeds is.tasks.items g m (tells_of is) deed items
  done_here was is graph feeds tasks deed items places outcome can none made graph_is feeds_are tasks_are lanes_are g m command has to_do =
      let able = can g has.current.edited in
      let done = made g m (tells_of was) (due was g m command deed items places has to_do (can_be_done g deed able (none g has.current.edited))) in
      (able, same_done is graph feeds tasks (tells_of was) g m deed items graph_is feeds_are tasks_are (ap o.tells lanes_are) done.1)

  pub lanes_here : (was is : Running S E I O L s e i o) (deed : Deed) → ((g : Edited) → IsEdited was.graph g → room_for g deed ≡ None) → is.lanes ≡ was.lanes
      → (g : Edited) → IsEdited was.graph g → HasLanes (room_for g deed) was is
  lanes_here was is deed none same g edited = subst (λ (room : Option ℕ). HasLanes room was is) (sym (none g edited)) same

  -- where memory was wanting control has the run as it was
  pub out_of_memory : (was : Running S E I O L s e i o) (graph : EditedGraph) (feeds : Feeds) (tasks : List (Task S E I O L s e i o)) (deed : Deed) (items : ℕ) (fault : EditFault) → fault ≡ edit_faults.OutOfMemory
      → DeedFails was.graph was.feeds was.tasks.items graph feeds tasks deed items fault → (g : Edited) (m : Moment) → Controls was g m → IsControlled graph feeds tasks g m (tells_of was)
  out_of_memory was graph feeds tasks deed items fault is told g m has =
      (subst (λ (f : EditFault). DeedFails was.graph was.feeds was.tasks.items graph feeds tasks deed items f) is told) g m (tells_of was) has

  -- where an element met a fault the graph has the deed
  pub short : (was : Running S E I O L s e i o) (graph : EditedGraph) (feeds : Feeds) (tasks : List (Task S E I O L s e i o)) (deed : Deed) (items : ℕ) (places : List Place) (fault : EditFault) (stopped : Stopped)
      → fault ≡ edit_faults.Failed stopped → DeedFails was.graph was.feeds was.tasks.items graph feeds tasks deed items fault → ((g : Edited) → IsEdited was.graph g → CanBeAnswered g deed)
      → ((g : Edited) → IsEdited was.graph g → room_for g deed ≡ None) → (graph' : EditedGraph) → graph' ≡ graph
      → (g : Edited) (m : Moment) (command : Command) → Controls was g m → IsToDo g m command deed items places → CanBeAnswered g deed × IsEdited graph' (made_by deed items g)
  short was graph feeds tasks deed items places fault stopped is told can none graph' same g m command has to_do =
      let able = can g has.current.edited in
      let now = due was g m command deed items places has to_do (can_be_done g deed able (none g has.current.edited)) in
      let edited = (subst (λ (f : EditFault). DeedFails was.graph was.feeds was.tasks.items graph feeds tasks deed items f) is told) g m (tells_of was) now in
      (able, subst (λ (made : EditedGraph). IsEdited made (made_by deed items g)) (sym same) edited)

  -- the run is the same where what control has of it is
  same_control : (was is : Running S E I O L s e i o) (answer : Answer) → IsEntered was is answer → (g : Edited) (m : Moment) → Controls was g m → Controls is g m
  same_control was is answer entered g m has =
      subst (λ (tells : Option (List Lane)). IsControlled is.graph is.feeds is.tasks.items g m tells) (ap o.tells (sym entered.lanes))
      (subst (λ (tasks : List (Task S E I O L s e i o)). IsControlled is.graph is.feeds tasks g m (tells_of was)) (sym (ap (λ ts. ts.items) entered.tasks))
      (subst (λ (feeds : Feeds). IsControlled is.graph feeds was.tasks.items g m (tells_of was)) (sym entered.feeds)
      (subst (λ (graph : EditedGraph). IsControlled graph was.feeds was.tasks.items g m (tells_of was)) (sym entered.graph) has)))

  -- ---- the next command is answered, and nothing is done

  answered_so : (was is : Running S E I O L s e i o) (command : Command) (answer : Answer) → IsNext was command → Decides was command (Answered answer) → IsEntered was is answer → ActsOn was is
  answered_so was is command answer next decides entered = record {
    acted = record {
      command = command;
      entry = record { answer = answer };
      next = left_behind was.script.items is.script.items was.entries.items is.entries.items command (record { answer = answer }) next entered.keeps.script entered.entered;
      entered = entered.entered;
      answered = λ g m names has.
          let now = decides g m (tells_of was) has.current names in
          record {
            next = g;
            now = m;
            lawful = now.lawful;
            exact = exact_of g m command answer now;
            crossed = refl;
            owner = refl;
            owed = λ p there. (there, prefix_refl (owed_then m p));
            plan = plan_stays g m;
            has = same_control was is answer entered g m has;
          };
    };
    script = entered.keeps.script;
    deed = None;
    lanes = λ g edited. entered.lanes;
    asks = λ g m names has. nothing_done g m command answer (decides g m (tells_of was) has.current names);
    aside = entered.keeps.turns;
  }

  pub answered : (was is : Running S E I O L s e i o) (told : Ruling) (answer : Answer) → told ≡ Answered answer → RulesNext was (Some told) → IsEntered was is answer → ActsOn was is
  answered was is told answer same next entered = let ruled = same_ruling was told (Answered answer) same next in answered_so was is ruled.0 answer ruled.1 ruled.2 entered

  -- ---- it is done

  done_so : DeedsAreAnswers → (was is : Running S E I O L s e i o) (command : Command) (deed : Deed) (items : ℕ) (places : List Place) → IsNext was command → Decides was command (ToDo deed items places)
      → IsCarriedOut was is deed items places → SetsAside was is deed → ActsOn was is
  done_so law was is command deed items places next decides carried aside = record {
    acted = record {
      command = command;
      entry = record { answer = Done places };
      next = left_behind was.script.items is.script.items was.entries.items is.entries.items command (record { answer = Done places }) next carried.script carried.entered;
      entered = carried.entered;
      answered = λ g m names has.
          let to_do = decides g m (tells_of was) has.current names in
          let made = carried.done g m command has to_do in
          record {
            next = made_by deed items g;
            now = made.1.now;
            lawful = law g m command.when command.act deed items places (no_addition g deed made.0) to_do;
            exact = (items, to_do.reached);
            crossed = made.1.crossed;
            owner = made.1.owner;
            owed = made.1.owed;
            plan = made.1.plan;
            has = made.1.controlled;
          };
    };
    script = carried.script;
    deed = Some deed;
    lanes = carried.lanes;
    asks = λ g m names has. (items, places, decides g m (tells_of was) has.current names, refl);
    aside = aside;
  }

  pub done : DeedsAreAnswers → (was is : Running S E I O L s e i o) (told : Ruling) (deed : Deed) (items : ℕ) (places : List Place) → told ≡ ToDo deed items places → RulesNext was (Some told)
      → IsCarriedOut was is deed items places → SetsAside was is deed → ActsOn was is
  done law was is told deed items places same next carried aside =
      let ruled = same_ruling was told (ToDo deed items places) same next in done_so law was is ruled.0 deed items places ruled.1 ruled.2 carried aside

  -- ---- it can't be answered yet

  waits : (run : Running S E I O L s e i o) (command : Command) → IsNext run command → Decides run command Waits → NothingCanBeDone run
  waits run command next decides = NothingCanBeDone.waits command (drop (length run.entries.items + 1) run.script.items) (next_of run.script.items (length run.entries.items) command next)
      (λ g m names has. decides g m (tells_of run) has.current names)

  pub waits_so : (run : Running S E I O L s e i o) (told : Ruling) → told ≡ Waits → RulesNext run (Some told) → NothingCanBeDone run
  waits_so run told same next = let ruled = same_ruling run told Waits same next in waits run ruled.0 ruled.1 ruled.2

  -- ---- a fault

  fails_so : DeedsAreAnswers → (was is : Running S E I O L s e i o) (command : Command) (deed : Deed) (items : ℕ) (places : List Place) → IsNext was command → Decides was command (ToDo deed items places)
      → (fault : RunFault) → CarryFails was is deed items places fault → ActFails was is fault
  fails_so law was is command deed items places next decides (faults.Stopped stopped) short = record {
    command = command;
    rest = drop (length was.entries.items + 1) was.script.items;
    places = places;
    next = next_of was.script.items (length was.entries.items) command next;
    entered = short.entered;
    lanes = short.lanes;
    answered = λ g m names has.
        let to_do = decides g m (tells_of was) has.current names in
        let made = short.edited g m command has to_do in
        (made_by deed items g, law g m command.when command.act deed items places (no_addition g deed made.0) to_do, (items, to_do.reached), made.1);
  }
  fails_so law was is command deed items places next decides faults.OutOfMemory stays = stays
  fails_so law was is command deed items places next decides faults.Undone undone = record {
    command = command;
    rest = drop (length was.entries.items + 1) was.script.items;
    next = next_of was.script.items (length was.entries.items) command next;
    asks = λ g m names has.
        let to_do = decides g m (tells_of was) has.current names in
        (deed, items, places, to_do, λ can. undone g m command has to_do can);
  }

  pub fails : DeedsAreAnswers → (was is : Running S E I O L s e i o) (told : Ruling) (deed : Deed) (items : ℕ) (places : List Place) → told ≡ ToDo deed items places → RulesNext was (Some told)
      → (fault : RunFault) → CarryFails was is deed items places fault → ActFails was is fault
  fails law was is told deed items places same next fault why =
      let ruled = same_ruling was told (ToDo deed items places) same next in fails_so law was is ruled.0 deed items places ruled.1 ruled.2 fault why

  -- ---- by the deed that is asked for

  module _ (was is : Running S E I O L s e i o) (deed asked : Deed) (items : ℕ) (places : List Place) (same : deed ≡ asked) (r : Result Bool RunFault) where
    pub done_for : IfOk r (λ done. (done ≡ true) × IsCarriedOut was is asked items places) → IfOk r (λ done. (done ≡ true) × IsCarriedOut was is deed items places)
    done_for told = subst (λ (d : Deed). IfOk r (λ done. (done ≡ true) × IsCarriedOut was is d items places)) (sym same) told

    pub fails_for : IfErr r (CarryFails was is asked items places) → IfErr r (CarryFails was is deed items places)
    fails_for told = subst (λ (d : Deed). IfErr r (CarryFails was is d items places)) (sym same) told

    pub aside_for : SetsAside was is asked → OnOk r (SetsAside was is deed)
    aside_for told = always r (subst (λ (d : Deed). SetsAside was is d) (sym same) told)
