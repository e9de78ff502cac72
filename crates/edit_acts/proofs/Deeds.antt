-- Control has the run behind a deed that was done.
use Rattle.std.proofs.Common.{◌≡◌, ◌≤◌, ◌<◌, ◌++◌, ℕ, Bool, true, false, List, [], ◌∷◌, Option, None, Some, if◌then◌else◌, length, nat_lt, position, inl, inr, refl, sym, ap, subst, arith}
use Rattle.std.specs.List.{list_any}
use Rattle.std.proofs.lemmas.Bool.{false≢true, ltb-true}
use Rattle.std.specs.Prelude.{◌==◌, Result, Ok, Err, IfErr, IfOk, option_and_then}
use Rattle.std.proofs.lemmas.Option.{slice_get_within}
use Rattle.flow_model.specs.Call.{Feed}
use Rattle.flow_model.specs.Item.{Item, Ev, Eos}
use Rattle.flow_model.proofs.Prefixes.{prefix_refl}
use Rattle.gst_value.specs.declared.name.PadName.{PadName}
use Rattle.gst_value.proofs.Basics.{none_some, some_same}
use Rattle.graph_core.specs.GraphPlan.{IsIn, pad_id}
use Rattle.graph_pads.specs.declared.pad.PadLink.{PadLink}
use Rattle.graph_core.specs.Elements.{Made, is_named}
use Rattle.graph_edits.specs.Graph.{made}
use Rattle.graph_edits.specs.declared.graph.EditedGraph.{EditedGraph}
use Rattle.graph_pads.specs.declared.pad.Direction.{Direction}
use Rattle.graph_pads.specs.declared.pad.Direction.TheVariants.{Source, Sink}
use Rattle.graph_pads.specs.declared.pad.PadPlace.{PadPlace}
use Rattle.lane_core.specs.Lane.{Lane}
use Rattle.lane_core.specs.declared.ends.Inlet as inlets
use Rattle.lane_core.specs.declared.ends.Outlet as outlets
use Rattle.flow_model.specs.Edit.{ended_inside, ended_over, linked, opening_calls, undone, unlinked}
use Rattle.flow_model.specs.Moment.{Moment}
use Rattle.flow_model.specs.Step.{planned}
use Rattle.flow_model.specs.SinkPads.{push_calls}
use Rattle.flow_model.specs.declared.element.TaskElement as elements
use Rattle.flow_model.specs.declared.source.TaskSource as sources
use Rattle.net_task.specs.declared.task.Task.{Task}
use Rattle.net_edits.specs.Adding.{frozen}
use Rattle.net_edits.specs.declared.inside.EditFault.{EditFault}
use Rattle.net_edits.specs.declared.inside.EditFault.TheVariants as faults
use Rattle.script_text.specs.declared.command.Act.{Act}
use Rattle.script_text.specs.declared.command.When.TheVariants.{At, NowPad, Now}
use Rattle.script_text.specs.declared.command.When.{When}
use Rattle.graph_edits.specs.Edited.{Edited, is_there, link_between, relinked_at, unlinked_at, without}
use Rattle.graph_edits.specs.Names.{pad_named, source_when}
use Rattle.edit_core.specs.Deciding.{IsDeed}
use Rattle.edit_core.specs.Judging.{owed_then}
use Rattle.edit_core.specs.declared.deciding.Deed.{Deed}
use Rattle.edit_core.specs.declared.deciding.Deed.TheVariants.{Relink, Remove, Unlink}
use Rattle.edit_core.specs.declared.feeds.Feeds.{Feeds}
use Rattle.edit_core.proofs.Finding.{found_element, found_of}
use Rattle.edit_acts.specs.Controlled.{IsControlled, IsToUnlink, IsUnlinked, SinksAreThere}
use Rattle.edit_acts.specs.Ending.{EndsAt}
use Rattle.edit_acts.specs.Removed.{IsRemoved, IsToRemove}
use Rattle.edit_acts.specs.declared.removing.TakenOut.{TakenOut}
use Rattle.edit_acts.specs.Unlinked.{EndFails, IsEnded}
use Rattle.edit_acts.specs.Relinked.{IsRelinked, IsToRelink, RelinkFails, relinked, relinked_over}
use Rattle.edit_acts.specs.Deeds.{DeedFails, IsDone, IsDue, StaysUndone, TakesNone, WasDone, outcome_of}
use Rattle.edit_acts.specs.declared.doing.Outcome.{Outcome}
use Rattle.edit_acts.proofs.Gone.{element_there, was_there}
use Rattle.edit_acts.proofs.Planning.{asleep_plan, frozen_plan, relinked_plan, undone_plan}
use Rattle.edit_acts.proofs.StillOwed.{fed_owes, frozen_owes}

pub nothing_asked : {A E : Type 0} (r : Result A E) → IfOk r (λ _. Unit {0})
nothing_asked (Ok a) = tt
nothing_asked (Err e) = tt

-- the element of a pad that is named is one of those that were made
named_low : (direction : Direction) (g : Edited) (name : PadName) (place : PadPlace) → pad_named direction g name ≡ Some place → place.element < length g.made
named_low direction g name place e =
    let found = found_of direction g name place e in
    subst (λ (k : ℕ). k < length g.made) (found_element direction name.pad found.element found.made place found.pad) (slice_get_within g.made found.element found.made found.at)

source_low : (g : Edited) (when : When) (source : PadPlace) → source_when g when ≡ Some source → source.element < length g.made
source_low g (At pad n) source e = named_low Source g pad source e
source_low g (NowPad pad) source e = named_low Source g pad source e
source_low g Now source e = absurd (none_some e)

ends_low : (g : Edited) (h : ℕ → List Item) (when : When) (act : Act) (source sink : PadPlace) → IsDeed g h (source_when g when) act (Relink source sink) → (source.element < length g.made) × (sink.element < length g.made)
ends_low g h when _ _ _ (IsDeed.relinks name source sink told named linkable unfed) = (source_low g when source told, named_low Sink g name sink named)

-- an element that is to be taken away is there
deed_there : (g : Edited) (h : ℕ → List Item) (p : Option PadPlace) (act : Act) (element : ℕ) → IsDeed g h p act (Remove element) → is_there g element ≡ true
deed_there g h p _ _ (IsDeed.removes name element named free) = element_there g name element named

-- a pad was linked to an element that is there
sink_stays : (g : Edited) (source sink : PadPlace) (items : ℕ) → SinksAreThere (relinked_at source items sink g) → is_there g sink.element ≡ true
sink_stays g source sink items there = there (link_between source sink) (last (without source g.links))
  where
    last : (links : List PadLink) → IsIn (link_between source sink) (links ++ link_between source sink ∷ [])
    last [] = inl refl
    last (link ∷ links) = inr (last links)

element_low : (g : Edited) (h : ℕ → List Item) (p : Option PadPlace) (act : Act) (element : ℕ) → IsDeed g h p act (Remove element) → element < length g.made
element_low g h p _ _ (IsDeed.removes name element named free) = by (position (is_named name) g.made) refl named
  where
    there_low : (b : Bool) → (if b then false else nat_lt element (length g.made)) ≡ true → element < length g.made
    there_low true e = absurd (false≢true e)
    there_low false e = ltb-true element (length g.made) e

    by_there : (k : ℕ) (b : Bool) → is_there g k ≡ b → (if b then Some k else None) ≡ Some element → element < length g.made
    by_there k true there e = there_low (list_any (λ gone. gone == element) g.removed) (subst (λ (n : ℕ). is_there g n ≡ true) (some_same e) there)
    by_there k false there e = absurd (none_some e)

    by : (o : Option ℕ) → position (is_named name) g.made ≡ o → option_and_then (λ k. if is_there g k then Some k else None) o ≡ Some element → element < length g.made
    by None at e = absurd (none_some e)
    by (Some k) at e = by_there k (is_there g k) refl e

module _ {S E I O L : Type 0} {s : sources.Ghosts S} {e : elements.Ghosts E} {i : inlets.Ghosts I L O} {o : outlets.Ghosts O L} (graph : EditedGraph) (feeds : Feeds) (tasks : List (Task S E I O L s e i o))
    (g : Edited) (m : Moment) (tells : Option (List Lane)) where
  size : IsControlled graph feeds tasks g m tells → length (made graph) ≡ length g.made
  size w = ap (λ (made : List Made). length made) w.current.edited.elements

  module _ (source sink : PadPlace) (items : ℕ) {fed : Bool} (w : IsToRelink graph feeds tasks g m tells source sink items fed) where
    pub source_made : source.element < length (made graph)
    source_made = let same = size w.controlled in let within = (ends_low g m.history w.when w.act source sink w.to_do.deed_is).0 in omega (arith, same, within)

    pub no_source : (count : ℕ) → count ≡ length (made graph) → count ≤ source.element → ⊥
    no_source count is past =
        let same = size w.controlled in let within = (ends_low g m.history w.when w.act source sink w.to_do.deed_is).0 in omega (arith, is, past, same, within)

    pub no_sink : (count : ℕ) → count ≡ length (made graph) → count ≤ sink.element → ⊥
    no_sink count is past =
        let same = size w.controlled in let within = (ends_low g m.history w.when w.act source sink w.to_do.deed_is).1 in omega (arith, is, past, same, within)

  pub no_element : (element : ℕ) → IsToRemove graph feeds tasks g m tells element → (count : ℕ) → count ≡ length (made graph) → count ≤ element → ⊥
  no_element element w count is past =
      let same = size w.controlled in let within = element_low g m.history (source_when g w.when) w.act element w.to_do.deed_is in omega (arith, is, past, same, within)

module _ {S E I O L : Type 0} {s : sources.Ghosts S} {e : elements.Ghosts E} {i : inlets.Ghosts I L O} {o : outlets.Ghosts O L} (graph : EditedGraph) (feeds : Feeds) (tasks : List (Task S E I O L s e i o))
    (g : Edited) (m : Moment) (tells : Option (List Lane)) where
  -- ---- an element is taken away

  module _ (element items : ℕ) (w : IsDue graph feeds tasks g m tells (Remove element) items) where
    pub to_remove : IsToRemove graph feeds tasks g m tells element
    to_remove = record { controlled = w.controlled; when = w.command.when; act = w.command.act; items = items; places = w.places; to_do = w.to_do }

    removed_there : is_there g element ≡ true
    removed_there = deed_there g m.history (source_when g w.command.when) w.command.act element w.to_do.deed_is

    pub remove_done : (graph' : EditedGraph) (tasks' : List (Task S E I O L s e i o)) (told : Option (TakenOut S E I O L s e i o)) → IsRemoved graph' feeds tasks' g m tells element told
        → IsDone graph' feeds tasks' g m tells (Remove element) items
    remove_done graph' tasks' None r = record {
      now = m;
      crossed = refl;
      owner = refl;
      owed = λ p there. ((was_there g element (m.plan.owner p) there).0, prefix_refl (owed_then m p));
      plan = asleep_plan g m element removed_there r.0;
      controlled = r.1;
    }
    remove_done graph' tasks' (Some out) r = record {
      now = frozen element r.cut m;
      crossed = refl;
      owner = refl;
      owed = λ p there. let z = was_there g element (m.plan.owner p) there in (z.0, frozen_owes m element r.cut p z.1);
      plan = frozen_plan g m element r.cut removed_there r.is_cut;
      controlled = r.controlled;
    }

module _ {S E I O L : Type 0} {s : sources.Ghosts S} {e : elements.Ghosts E} {i : inlets.Ghosts I L O} {o : outlets.Ghosts O L} (graph : EditedGraph) (feeds : Feeds) (tasks : List (Task S E I O L s e i o))
    (g : Edited) (m : Moment) (tells : Option (List Lane)) (source sink : PadPlace) (items : ℕ) where
  -- ---- a pad is linked elsewhere

  module _ (w : IsDue graph feeds tasks g m tells (Relink source sink) items) where
    pub to_relink : IsToRelink graph feeds tasks g m tells source sink items false
    to_relink = record { controlled = w.controlled; when = w.command.when; act = w.command.act; places = w.places; to_do = w.to_do; awake = w.can.0; lanes = w.can.1 }

    pub relink_done : (graph' : EditedGraph) (feeds' : Feeds) (tasks' : List (Task S E I O L s e i o)) → IsRelinked graph' feeds' tasks' g m tells source sink items
        → IsDone graph' feeds' tasks' g m tells (Relink source sink) items
    relink_done graph' feeds' tasks' r = record {
      now = relinked source sink r.out m;
      crossed = refl;
      owner = refl;
      owed = λ p there. (
        there,
        fed_owes (planned (linked (pad_id source) (length (m.history (pad_id source))) sink.element sink.pad (unlinked (pad_id source) m).plan) (unlinked (pad_id source) m)) sink.element
            (push_calls sink.pad (opening_calls (pad_id source) m) (m.took sink.element)) r.out p,
      );
      plan = relinked_plan g m (relinked source sink r.out m) source sink items (pad_id source) (length (m.history (pad_id source))) (sink_stays g source sink items r.controlled.sinks) refl;
      controlled = r.controlled;
    }

  pub relink_over_done : (graph' : EditedGraph) (feeds' : Feeds) (tasks' : List (Task S E I O L s e i o)) → IsControlled graph' feeds' tasks' (relinked_at source items sink g) (relinked_over source sink m) tells
      → IsDone graph' feeds' tasks' g m tells (Relink source sink) items
  relink_over_done graph' feeds' tasks' controlled = record {
    now = relinked_over source sink m;
    crossed = refl;
    owner = refl;
    owed = λ p there. (there, prefix_refl (m.history p ++ m.waits p));
    plan = relinked_plan g m (relinked_over source sink m) source sink items (pad_id source) (length (m.history (pad_id source))) (sink_stays g source sink items controlled.sinks) refl;
    controlled = controlled;
  }

  -- ---- a link is undone

  pub to_unlink : (eos : Bool) → IsDue graph feeds tasks g m tells (Unlink source sink eos) items → IsToUnlink graph feeds tasks g m tells source sink eos items
  to_unlink eos w = record { controlled = w.controlled; when = w.command.when; act = w.command.act; places = w.places; to_do = w.to_do }

  pub unlink_done : (graph' : EditedGraph) (feeds' : Feeds) (tasks' : List (Task S E I O L s e i o)) → IsControlled graph' feeds' tasks' (unlinked_at source items false g) (unlinked (pad_id source) m) tells
      → IsDone graph' feeds' tasks' g m tells (Unlink source sink false) items
  unlink_done graph' feeds' tasks' controlled = record {
    now = unlinked (pad_id source) m;
    crossed = refl;
    owner = refl;
    owed = λ p there. (there, prefix_refl (m.history p ++ m.waits p));
    plan = undone_plan g m (unlinked (pad_id source) m) source items (pad_id source) (length (m.history (pad_id source))) false false refl;
    controlled = controlled;
  }

  end_done : (graph' : EditedGraph) (feeds' : Feeds) (tasks' : List (Task S E I O L s e i o)) (now : Moment) → EndsAt m (pad_id source) now → IsControlled graph' feeds' tasks' (unlinked_at source items true g) now tells
      → IsDone graph' feeds' tasks' g m tells (Unlink source sink true) items
  end_done graph' feeds' tasks' _ (EndsAt.inside element port out ends) controlled = record {
    now = ended_inside (pad_id source) element port out m;
    crossed = refl;
    owner = refl;
    owed = λ p there. (there, fed_owes (planned (undone (pad_id source) (length (m.history (pad_id source))) true m.plan) m) element (push_calls port (Feed (Ev Eos) ∷ []) (m.took element)) out p);
    plan = undone_plan g m (ended_inside (pad_id source) element port out m) source items (pad_id source) (length (m.history (pad_id source))) true true refl;
    controlled = controlled;
  }
  end_done graph' feeds' tasks' _ (EndsAt.over element port leads) controlled = record {
    now = ended_over (pad_id source) element port m;
    crossed = refl;
    owner = refl;
    owed = λ p there. (there, prefix_refl (m.history p ++ m.waits p));
    plan = undone_plan g m (ended_over (pad_id source) element port m) source items (pad_id source) (length (m.history (pad_id source))) true true refl;
    controlled = controlled;
  }

  pub eos_done : (graph' : EditedGraph) (feeds' : Feeds) (tasks' : List (Task S E I O L s e i o)) → IsEnded graph' feeds' tasks' g m tells source items
      → IsDone graph' feeds' tasks' g m tells (Unlink source sink true) items
  eos_done graph' feeds' tasks' r = end_done graph' feeds' tasks' r.now r.ends r.controlled

module _ {S E I O L : Type 0} {s : sources.Ghosts S} {e : elements.Ghosts E} {i : inlets.Ghosts I L O} {o : outlets.Ghosts O L} (graph : EditedGraph) (feeds : Feeds) (tasks : List (Task S E I O L s e i o))
    (source sink : PadPlace) (items : ℕ) (graph' : EditedGraph) (feeds' : Feeds) (tasks' : List (Task S E I O L s e i o)) where
  -- ---- what was not done whole

  relink_fails : (fault : EditFault) → RelinkFails graph feeds tasks graph' feeds' tasks' source sink items fault → DeedFails graph feeds tasks graph' feeds' tasks' (Relink source sink) items fault
  relink_fails faults.OutOfMemory told = told
  relink_fails (faults.Failed stopped) told = λ g m tells w. (told g m tells (to_relink graph feeds tasks g m tells source sink items w)).edited

  end_fails : (fault : EditFault) → EndFails graph feeds tasks graph' feeds' tasks' source sink items fault → DeedFails graph feeds tasks graph' feeds' tasks' (Unlink source sink true) items fault
  end_fails faults.OutOfMemory told = told
  end_fails (faults.Failed stopped) told = λ g m tells w. (told g m tells (to_unlink graph feeds tasks g m tells source sink items true w)).edited

  eos_failed_so : {A : Type 0} (r : Result A EditFault) → IfErr r (EndFails graph feeds tasks graph' feeds' tasks' source sink items) → IfErr r (DeedFails graph feeds tasks graph' feeds' tasks' (Unlink source sink true) items)
  eos_failed_so (Ok done) told = tt
  eos_failed_so (Err fault) told = end_fails fault told

  pub eos_failed : {A : Type 0} (eos : Bool) (r : Result A EditFault) → eos ≡ true → IfErr r (EndFails graph feeds tasks graph' feeds' tasks' source sink items)
      → IfErr r (DeedFails graph feeds tasks graph' feeds' tasks' (Unlink source sink eos) items)
  eos_failed true r is told = eos_failed_so r told
  eos_failed false r is told = absurd cc

  -- ---- what was done

  pub eos_told : (eos : Bool) (r : Result Bool EditFault) → eos ≡ true
      → IfOk r (λ done. (g : Edited) (m : Moment) (tells : Option (List Lane)) → IsToUnlink graph feeds tasks g m tells source sink true items → (done ≡ true) × IsEnded graph' feeds' tasks' g m tells source items)
      → IfOk r (λ done. (g : Edited) (m : Moment) (tells : Option (List Lane)) → IsDue graph feeds tasks g m tells (Unlink source sink eos) items → (done ≡ true) × IsDone graph' feeds' tasks' g m tells (Unlink source sink eos) items)
  eos_told true (Ok done) is told = λ g m tells w.
      let ran = told g m tells (to_unlink graph feeds tasks g m tells source sink items true w) in
      (ran.0, eos_done graph feeds tasks g m tells source sink items graph' feeds' tasks' ran.1)
  eos_told true (Err fault) is told = tt
  eos_told false r is told = absurd cc

  pub plain_told : (eos done : Bool) → eos ≡ false
      → ((g : Edited) (m : Moment) (tells : Option (List Lane)) → IsToUnlink graph feeds tasks g m tells source sink false items → (done ≡ true) × IsUnlinked graph' feeds' tasks' g m tells source items)
      → (g : Edited) (m : Moment) (tells : Option (List Lane)) → IsDue graph feeds tasks g m tells (Unlink source sink eos) items → (done ≡ true) × IsDone graph' feeds' tasks' g m tells (Unlink source sink eos) items
  plain_told false done is told g m tells w =
      let ran = told g m tells (to_unlink graph feeds tasks g m tells source sink items false w) in
      (ran.0, unlink_done graph feeds tasks g m tells source sink items graph' feeds' tasks' ran.1)
  plain_told true done is told g m tells w = absurd cc

  pub relink_told : (r : Result Bool EditFault)
      → IfOk r (λ done. (g : Edited) (m : Moment) (tells : Option (List Lane)) → IsToRelink graph feeds tasks g m tells source sink items false → (done ≡ true) × IsRelinked graph' feeds' tasks' g m tells source sink items)
      → IfOk r (λ done. (g : Edited) (m : Moment) (tells : Option (List Lane)) → IsDue graph feeds tasks g m tells (Relink source sink) items → (done ≡ true) × IsDone graph' feeds' tasks' g m tells (Relink source sink) items)
  relink_told (Ok done) told = λ g m tells w.
      let ran = told g m tells (to_relink graph feeds tasks g m tells source sink items w) in
      (ran.0, relink_done graph feeds tasks g m tells source sink items w graph' feeds' tasks' ran.1)
  relink_told (Err fault) told = tt

  pub relink_failed : {A : Type 0} (r : Result A EditFault) → IfErr r (RelinkFails graph feeds tasks graph' feeds' tasks' source sink items) → IfErr r (DeedFails graph feeds tasks graph' feeds' tasks' (Relink source sink) items)
  relink_failed (Ok done) told = tt
  relink_failed (Err fault) told = relink_fails fault told

-- ---- what a deed that takes no task out came to

module _ {S E I O L : Type 0} {s : sources.Ghosts S} {e : elements.Ghosts E} {i : inlets.Ghosts I L O} {o : outlets.Ghosts O L} (graph : EditedGraph) (feeds : Feeds) (tasks : List (Task S E I O L s e i o))
    (items : ℕ) (graph' : EditedGraph) (feeds' : Feeds) (tasks' : List (Task S E I O L s e i o)) (deed : Deed) where
  -- where it was done so it is
  abbrev DoneWhere : Bool → Type 0
  DoneWhere done = (g : Edited) (m : Moment) (tells : Option (List Lane)) → IsDue graph feeds tasks g m tells deed items → (done ≡ true) × IsDone graph' feeds' tasks' g m tells deed items

  abbrev DidWhere : Outcome S E I O L s e i o → Type 0
  DidWhere outcome = (g : Edited) (m : Moment) (tells : Option (List Lane)) → IsDue graph feeds tasks g m tells deed items → WasDone outcome × IsDone graph' feeds' tasks' g m tells deed items

  did : (r : Result Bool EditFault) → IfOk r DoneWhere → IfOk (outcome_of {s = s} {e = e} {i = i} {o = o} r) DidWhere
  did (Ok true) told = λ g m tells w. (tt, (told g m tells w).1)
  did (Ok false) told = λ g m tells w. absurd (false≢true (told g m tells w).0)
  did (Err fault) told = tt

  failed : (r : Result Bool EditFault) → IfErr r (DeedFails graph feeds tasks graph' feeds' tasks' deed items) → IfErr (outcome_of {s = s} {e = e} {i = i} {o = o} r) (DeedFails graph feeds tasks graph' feeds' tasks' deed items)
  failed (Ok true) told = tt
  failed (Ok false) told = tt
  failed (Err fault) told = told

  took_none : (r : Result Bool EditFault) → IfOk (outcome_of {s = s} {e = e} {i = i} {o = o} r) TakesNone
  took_none (Ok true) = tt
  took_none (Ok false) = tt
  took_none (Err fault) = tt

  stays : (r : Result Bool EditFault) → IfOk r (λ done. done ≡ false → (graph' ≡ graph) × (feeds' ≡ feeds) × (tasks' ≡ tasks)) → IfOk (outcome_of {s = s} {e = e} {i = i} {o = o} r) (StaysUndone graph feeds tasks graph' feeds' tasks')
  stays (Ok true) told = tt
  stays (Ok false) told = told refl
  stays (Err fault) told = tt

  module _ (out : Result (Outcome S E I O L s e i o) EditFault) (r : Result Bool EditFault) (is : out ≡ outcome_of r) where
    pub done_told : IfOk r DoneWhere → IfOk out DidWhere
    done_told told = subst (λ (x : Result (Outcome S E I O L s e i o) EditFault). IfOk x DidWhere) (sym is) (did r told)

    pub failed_told : IfErr r (DeedFails graph feeds tasks graph' feeds' tasks' deed items) → IfErr out (DeedFails graph feeds tasks graph' feeds' tasks' deed items)
    failed_told told = subst (λ (x : Result (Outcome S E I O L s e i o) EditFault). IfErr x (DeedFails graph feeds tasks graph' feeds' tasks' deed items)) (sym is) (failed r told)

    pub none_told : IfOk out TakesNone
    none_told = subst (λ (x : Result (Outcome S E I O L s e i o) EditFault). IfOk x TakesNone) (sym is) (took_none r)

    pub stays_told : IfOk r (λ done. done ≡ false → (graph' ≡ graph) × (feeds' ≡ feeds) × (tasks' ≡ tasks)) → IfOk out (StaysUndone graph feeds tasks graph' feeds' tasks')
    stays_told told = subst (λ (x : Result (Outcome S E I O L s e i o) EditFault). IfOk x (StaysUndone graph feeds tasks graph' feeds' tasks')) (sym is) (stays r told)
