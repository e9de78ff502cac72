-- A run with one lane more in its table, and the lane that a deed makes.
use Rattle.std.proofs.Common.{◌≡◌, ◌||◌, ℕ, Bool, true, false, List, Option, None, Some, if◌then◌else◌, is_some, refl, sym, ap, ◌∙◌, subst}
use Rattle.std.specs.Prelude.{option_and_then, slice_get}
use Rattle.std.proofs.lemmas.Bool.{false≢true}
use Rattle.std.specs.Option.{option_map, option_map_or}
use Rattle.flow_model.specs.Moment.{Moment}
use Rattle.flow_model.specs.declared.element.TaskElement as elements
use Rattle.flow_model.specs.declared.source.TaskSource as sources
use Rattle.lane_core.specs.Lane.{Lane}
use Rattle.lane_core.specs.declared.ends.Inlet as inlets
use Rattle.lane_core.specs.declared.ends.Outlet as outlets
use Rattle.el_settings.specs.Asked.{is_queue, limits_of, makes_sinks}
use Rattle.el_settings.specs.declared.settings.QueueSettings.{QueueSettings}
use Rattle.el_settings.proofs.Roles.{queue_limits}
use Rattle.graph_core.specs.Elements.{Made}
use Rattle.graph_parts.specs.Lanes.{join_room, room_by, room_of}
use Rattle.graph_pads.specs.declared.pad.PadPlace.{PadPlace}
use Rattle.net_edits.specs.NewLanes.{AreMade, LaneIsNew, LaneMoreReady, LaneMoreStands, with_lane}
use Rattle.net_edits.specs.Over.{IsNewLane}
use Rattle.net_edits.specs.declared.over.NewLink.{NewLink}
use Rattle.net_task.specs.declared.task.Task.{Task}
use Rattle.net_turns.specs.Net.{NetReady}
use Rattle.script_text.specs.declared.answer.Place.{Place}
use Rattle.script_text.specs.declared.command.Command.{Command}
use Rattle.graph_edits.specs.Edited.{Edited}
use Rattle.graph_edits.specs.Graph.{IsEdited}
use Rattle.graph_edits.specs.Refused.{has_lanes}
use Rattle.graph_edits.specs.declared.graph.EditedGraph.{EditedGraph}
use Rattle.edit_core.specs.Deciding.{IsToDo}
use Rattle.edit_core.specs.declared.deciding.Deed.{Deed}
use Rattle.edit_core.specs.declared.deciding.Deed.TheVariants.{Relink, Unlink, Add, Remove}
use Rattle.edit_core.specs.declared.feeds.Feeds.{Feeds}
use Rattle.edit_acts.specs.Controlled.{IsControlled}
use Rattle.edit_acts.specs.Deeds.{CanBeDone, IsDone}
use Rattle.edit_acts.specs.Relinked.{IsToRelink}
use Rattle.world_core.specs.Answering.{CanBeAnswered, Controls, room_for, room_into}
use Rattle.world_core.specs.Running.{tells_of}
use Rattle.world_core.specs.declared.running.Running.{Running}

-- ---- the lane of a deed

room_fed : (joins : Bool) (limits : Option QueueSettings) (queue : Bool) → is_some limits ≡ queue → is_some (if joins then Some join_room else option_map room_of limits) ≡ (queue || joins)
room_fed true limits true e = refl
room_fed true limits false e = refl
room_fed false (Some limits) true e = refl
room_fed false (Some limits) false e = absurd cc
room_fed false None true e = absurd cc
room_fed false None false e = refl

-- lanes feed an element exactly where it is told how many items one to it holds
fed_where : (found : Option Made) → is_some (option_and_then (λ (made : Made). room_by made.settings) found)
    ≡ (option_map_or (λ (made : Made). is_queue made.settings) found false || option_map_or (λ (made : Made). makes_sinks made.settings) found false)
fed_where None = refl
fed_where (Some made) = room_fed (makes_sinks made.settings) (limits_of made.settings) (is_queue made.settings) (queue_limits made.settings)

fed_by : (g : Edited) (e room : ℕ) → room_into g e ≡ Some room → has_lanes g e ≡ true
fed_by g e room is = sym (fed_where (slice_get g.made e)) ∙ ap (λ (o : Option ℕ). is_some o) is

bare_by : (g : Edited) (e : ℕ) → room_into g e ≡ None → has_lanes g e ≡ false
bare_by g e is = sym (fed_where (slice_get g.made e)) ∙ ap (λ (o : Option ℕ). is_some o) is

-- what makes no lane control does in the tasks as they are
pub can_be_done : (g : Edited) (deed : Deed) → CanBeAnswered g deed → room_for g deed ≡ None → CanBeDone g deed
can_be_done g (Relink source sink) can none = (can, bare_by g sink.element none)
can_be_done g (Unlink source sink eos) can none = tt
can_be_done g Add can none = can
can_be_done g (Remove element) can none = tt

-- ---- a lane more

module _ {S E I O L : Type 0} {s : sources.Ghosts S} {e : elements.Ghosts E} {i : inlets.Ghosts I L O} {o : outlets.Ghosts O L} where
  -- control has the run with it
  controlled_more : LaneMoreStands s e i o → (graph : EditedGraph) (feeds : Feeds) (tasks : List (Task S E I O L s e i o)) (g : Edited) (m : Moment) (table : List Lane) (room : ℕ)
      → IsControlled graph feeds tasks g m (Some table) → IsControlled graph feeds tasks g m (Some (with_lane room table))
  controlled_more law graph feeds tasks g m table room has = record {
    current = record {
      edited = has.current.edited;
      feeds_are = has.current.feeds_are;
      net = law m tasks table room has.current.net;
      fresh = has.current.fresh;
      kept = has.current.kept;
      stand = has.current.stand;
      made = has.current.made;
      ends = has.current.ends;
      named = has.current.named;
    };
    run = record {
      net = law m tasks table room has.run.net;
      are = has.run.are;
      sinks = has.run.sinks;
      owners = has.run.owners;
      kept = has.run.kept;
      links = has.run.links;
      made = has.run.made;
      unmarked = has.run.unmarked;
    };
    pads = has.pads;
    sinks = has.sinks;
  }

  -- a run that is the same in what a deed changes is that in which the deed was done
  pub same_done : (is : Running S E I O L s e i o) (graph : EditedGraph) (feeds : Feeds) (tasks : List (Task S E I O L s e i o)) (tells : Option (List Lane)) (g : Edited) (m : Moment) (deed : Deed) (items : ℕ)
      → is.graph ≡ graph → is.feeds ≡ feeds → is.tasks.items ≡ tasks → tells_of is ≡ tells → IsDone graph feeds tasks g m tells deed items → IsDone is.graph is.feeds is.tasks.items g m (tells_of is) deed items
  same_done is graph feeds tasks tells g m deed items graph_is feeds_are tasks_are tells_are done =
      subst (λ (t : Option (List Lane)). IsDone is.graph is.feeds is.tasks.items g m t deed items) (sym tells_are)
      (subst (λ (ts : List (Task S E I O L s e i o)). IsDone is.graph is.feeds ts g m tells deed items) (sym tasks_are)
      (subst (λ (f : Feeds). IsDone is.graph f tasks g m tells deed items) (sym feeds_are)
      (subst (λ (made : EditedGraph). IsDone made feeds tasks g m tells deed items) (sym graph_is) done)))

  module _ (was : Running S E I O L s e i o) (table : List Lane) (told : tells_of was ≡ Some table) (room : ℕ) (tells : Option (List Lane)) (more : tells ≡ Some (with_lane room table)) where
    pub controls_more : LaneMoreStands s e i o → (g : Edited) (m : Moment) → Controls was g m → IsControlled was.graph was.feeds was.tasks.items g m tells
    controls_more law g m has =
        subst (λ (t : Option (List Lane)). IsControlled was.graph was.feeds was.tasks.items g m t) (sym more)
        (controlled_more law was.graph was.feeds was.tasks.items g m table room (subst (λ (t : Option (List Lane)). IsControlled was.graph was.feeds was.tasks.items g m t) told has))

    pub ready_more : LaneMoreReady s e i o → NetReady was.tasks.items (tells_of was) → NetReady was.tasks.items tells
    ready_more law ready =
        subst (λ (t : Option (List Lane)). NetReady was.tasks.items t) (sym more) (law was.tasks.items table room (subst (λ (t : Option (List Lane)). NetReady was.tasks.items t) told ready))

    -- both its ends are new to the tasks
    pub new_to : LaneIsNew s e i o → NetReady was.tasks.items (tells_of was) → (to : NewLink I O) → AreMade s e i o table room to → IsNewLane tells was.tasks.items to
    new_to law ready to made =
        subst (λ (t : Option (List Lane)). IsNewLane t was.tasks.items to) (sym more) (law was.tasks.items table room to (subst (λ (t : Option (List Lane)). NetReady was.tasks.items t) told ready) made)

    -- and a pad may be linked over it
    pub to_relink : LaneMoreStands s e i o → (source sink : PadPlace) → ((g : Edited) → IsEdited was.graph g → CanBeAnswered g (Relink source sink))
        → ((g : Edited) → IsEdited was.graph g → room_into g sink.element ≡ Some room) → (g : Edited) (m : Moment) (command : Command) (items : ℕ) (places : List Place) → Controls was g m
        → IsToDo g m command (Relink source sink) items places → IsToRelink was.graph was.feeds was.tasks.items g m tells source sink items true
    to_relink law source sink can fed g m command items places has to_do = record {
      controlled = controls_more law g m has;
      when = command.when;
      act = command.act;
      places = places;
      to_do = to_do;
      awake = can g has.current.edited;
      lanes = fed_by g sink.element room (fed g has.current.edited);
    }

    -- ---- a link over it

    -- What a link over it asks of the run is so, and what comes of the link is there behind the entry.
    module _ (to : NewLink I O) (made : AreMade s e i o table room to) (stands : LaneMoreStands s e i o) (readies : LaneMoreReady s e i o) (news : LaneIsNew s e i o) (ready : NetReady was.tasks.items (tells_of was))
        (source sink : PadPlace) (can : (g : Edited) → IsEdited was.graph g → CanBeAnswered g (Relink source sink)) (fed : (g : Edited) → IsEdited was.graph g → room_into g sink.element ≡ Some room)
        (items : ℕ) (places : List Place) (is : Running S E I O L s e i o) (graph : EditedGraph) (feeds : Feeds) (tasks : List (Task S E I O L s e i o)) where
      pub over_ready : ((tells : Option (List Lane)) → NetReady was.tasks.items tells → IsNewLane tells was.tasks.items to → NetReady tasks tells) → is.tasks.items ≡ tasks → tells_of is ≡ tells
          → NetReady is.tasks.items (tells_of is)
      over_ready linked tasks_are tells_are =
          subst (λ (t : Option (List Lane)). NetReady is.tasks.items t) (sym tells_are)
          (subst (λ (ts : List (Task S E I O L s e i o)). NetReady ts tells) (sym tasks_are) (linked tells (ready_more readies ready) (new_to news ready to made)))

      pub over_done : ((g : Edited) (m : Moment) (tells : Option (List Lane)) → IsToRelink was.graph was.feeds was.tasks.items g m tells source sink items true → IsNewLane tells was.tasks.items to
          → IsDone graph feeds tasks g m tells (Relink source sink) items) → is.graph ≡ graph → is.feeds ≡ feeds → is.tasks.items ≡ tasks → tells_of is ≡ tells
          → (g : Edited) (m : Moment) (command : Command) → Controls was g m → IsToDo g m command (Relink source sink) items places
          → CanBeAnswered g (Relink source sink) × IsDone is.graph is.feeds is.tasks.items g m (tells_of is) (Relink source sink) items
      over_done linked graph_is feeds_are tasks_are tells_are g m command has to_do = (
        can g has.current.edited,
        same_done is graph feeds tasks tells g m (Relink source sink) items graph_is feeds_are tasks_are tells_are
            (linked g m tells (to_relink stands source sink can fed g m command items places has to_do) (new_to news ready to made)),
      )

      -- where it is not done none of this is so
      pub over_undone : {P : Edited → Moment → Option (List Lane) → Type 0} (done : Bool) → done ≡ false
          → ((g : Edited) (m : Moment) (tells : Option (List Lane)) → IsToRelink was.graph was.feeds was.tasks.items g m tells source sink items true → IsNewLane tells was.tasks.items to → (done ≡ true) × P g m tells)
          → (g : Edited) (m : Moment) (command : Command) → Controls was g m → IsToDo g m command (Relink source sink) items places → ⊥
      over_undone done not linked g m command has to_do =
          false≢true (sym not ∙ (linked g m tells (to_relink stands source sink can fed g m command items places has to_do) (new_to news ready to made)).0)
