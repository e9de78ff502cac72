-- A source pad is linked elsewhere over a lane in all that control has of a run.
use Rattle.std.proofs.Common.{◌≡◌, ℕ, Bool, true, false, List, Option, length, refl, sym, subst}
use Rattle.std.specs.Prelude.{Result, Ok, Err, OnErr}
use Rattle.lane_core.specs.Lane.{Lane}
use Rattle.lane_core.specs.declared.ends.Inlet as inlets
use Rattle.lane_core.specs.declared.ends.Outlet as outlets
use Rattle.flow_model.specs.Edit.{IsFree, linked_over, unlinked}
use Rattle.flow_model.specs.Moment.{Moment}
use Rattle.flow_model.specs.Step.{LeadsNowhere}
use Rattle.flow_model.specs.declared.element.TaskElement as elements
use Rattle.flow_model.specs.declared.source.TaskSource as sources
use Rattle.net_task.specs.declared.task.Task.{Task}
use Rattle.net_turns.specs.Net.{NetReady, NetStands}
use Rattle.task_edits.specs.declared.openings.Opening.{Opening}
use Rattle.net_edits.specs.Over.{AreKept, CannotJoin, IsLinkedOver, IsNewLane, NoneSends, OpensNow}
use Rattle.net_edits.specs.declared.over.NewLink.{NewLink}
use Rattle.graph_core.specs.GraphPlan.{pad_id}
use Rattle.graph_edits.specs.declared.graph.EditedGraph.{EditedGraph}
use Rattle.graph_pads.specs.declared.pad.PadPlace.{PadPlace}
use Rattle.graph_edits.specs.Edited.{Edited, linked_at, relinked_at, unlinked_at}
use Rattle.edit_core.specs.Ways.{IsRun}
use Rattle.edit_core.specs.declared.feeds.Feeds.{Feeds}
use Rattle.edit_acts.specs.Over.{CanLinkOver, LeadsTo, MayLinkOver}
use Rattle.edit_acts.specs.Relinked.{IsToRelink, relinked_over}
use Rattle.edit_acts.proofs.Apart.{within}
use Rattle.edit_acts.proofs.Carried.{items_is, owner, pads}
use Rattle.edit_acts.proofs.Fitting.{joins, runs_link_over}
use Rattle.edit_acts.proofs.Overs.{linked_over_runs}
use Rattle.edit_acts.proofs.Relinks.{is_ahead, may_link_over}
use Rattle.edit_acts.proofs.RowsMore.{kept_controlled}

-- what holds whatever came holds where a fault did
pub on_err : {A E : Type 0} (r : Result A E) {P : Type 0} → P → OnErr r P
on_err (Ok a) p = tt
on_err (Err e) p = p

-- what was not done
pub not_done : {E : Type 0} (done : Bool) (r : Result Bool E) → r ≡ Ok done → (r ≡ Ok true → ⊥) → done ≡ false
not_done true r is other = absurd (other is)
not_done false r is other = refl

module _ {S E I O L : Type 0} {s : sources.Ghosts S} {e : elements.Ghosts E} {i : inlets.Ghosts I L O} {o : outlets.Ghosts O L} where
  -- what a call that links a pad over a lane told
  pub record ToldOver (done : Bool) (mid tasks' : List (Task S E I O L s e i o)) (pad : ℕ) (to : NewLink I O) (opening : Opening) : Type 0 where
    pub linked : done ≡ true → IsLinkedOver mid tasks' pad to opening
    pub none : done ≡ false → CannotJoin mid pad to.element to.pad
    pub stands : done ≡ true → (m : Moment) (tells : Option (List Lane)) → NetStands m mid tells → IsNewLane tells mid to → LeadsNowhere m.plan pad → IsFree to.pad (m.plan.sinks to.element) → OpensNow m pad opening
        → NetStands (linked_over pad to.element to.pad m) tasks' tells
    pub ready : done ≡ true → (tells : Option (List Lane)) → NetReady mid tells → IsNewLane tells mid to → NoneSends mid to.element to.pad → NetReady tasks' tells
    pub same : done ≡ false → tasks' ≡ mid

  -- The tasks stay ready where no pad leads over a lane to the sink pad yet.
  pub over_ready : (mid tasks' : List (Task S E I O L s e i o)) (tells : Option (List Lane)) (pad : ℕ) (to : NewLink I O) (opening : Opening) (done : Bool) → NetReady mid tells → IsNewLane tells mid to → NoneSends mid to.element to.pad
      → ToldOver done mid tasks' pad to opening → NetReady tasks' tells
  over_ready mid tasks' tells pad to opening false ready new none told = subst (λ (ts : List (Task S E I O L s e i o)). NetReady ts tells) (sym (told.same refl)) ready
  over_ready mid tasks' tells pad to opening true ready new none told = told.ready refl tells ready new none

  -- It was done, and the run goes on.
  over_runs : (g : Edited) (m : Moment) (mid tasks' : List (Task S E I O L s e i o)) (tells : Option (List Lane)) (source sink : PadPlace) (to : NewLink I O) (opening : Opening) (done : Bool) → IsRun g m mid tells → MayLinkOver g source sink
      → CanLinkOver m mid (pad_id source) to → LeadsTo to sink → IsNewLane tells mid to → OpensNow m (pad_id source) opening → ToldOver done mid tasks' (pad_id source) to opening
      → (done ≡ true) × IsRun (linked_at source (length (m.history (pad_id source))) sink g) (linked_over (pad_id source) sink.element sink.pad m) tasks' tells
  over_runs g m mid tasks' tells source sink to opening false run may can leads new opens told = absurd (can.joins (told.none refl))
  over_runs g m mid tasks' tells source sink to opening true run may can leads new opens told =
      let net = told.stands refl m tells run.net new can.nowhere can.free opens in (
        refl,
        linked_over_runs g m mid tasks' tells source sink to opening run may leads (told.linked refl)
            (subst (λ (k : ℕ). NetStands (linked_over (pad_id source) sink.element k m) tasks' tells) leads.pad (subst (λ (n : ℕ). NetStands (linked_over (pad_id source) n to.pad m) tasks' tells) leads.element net)),
      )

  module _ (graph : EditedGraph) (feeds : Feeds) (tasks : List (Task S E I O L s e i o)) (g : Edited) (m : Moment) (tells : Option (List Lane)) (source sink : PadPlace) (items : ℕ) (w : IsToRelink graph feeds tasks g m tells source sink items true) where
    module _ (mid : List (Task S E I O L s e i o)) (to : NewLink I O) where
      can_over : IsRun (unlinked_at source items false g) (unlinked (pad_id source) m) mid tells → LeadsTo to sink → CanLinkOver (unlinked (pad_id source) m) mid (pad_id source) to
      can_over run leads =
          let there = pads graph feeds tasks g m tells source sink items w in
          let may = may_link_over (unlinked_at source items false g) source sink there w.lanes in
          let ahead = is_ahead (unlinked_at source items false g) (unlinked (pad_id source) m) source sink there (owner graph feeds tasks g m tells source sink items w) in
          runs_link_over (unlinked_at source items false g) (unlinked (pad_id source) m) mid tells source sink to run may ahead leads

      -- No pad leads over a lane to the sink pad then.
      pub none_over : (pad : ℕ) → pad ≡ pad_id source → IsRun (unlinked_at source items false g) (unlinked pad m) mid tells → LeadsTo to sink → NoneSends mid to.element to.pad
      none_over pad number run leads = (can_over (subst (λ (p : ℕ). IsRun (unlinked_at source items false g) (unlinked p m) mid tells) number run) leads).none_sends

    module _ (mid tasks' : List (Task S E I O L s e i o)) (to : NewLink I O) (opening : Opening) (done : Bool) where
      run_over : IsRun (unlinked_at source items false g) (unlinked (pad_id source) m) mid tells → LeadsTo to sink → IsNewLane tells mid to → OpensNow m (pad_id source) opening → ToldOver done mid tasks' (pad_id source) to opening
          → (done ≡ true) × IsRun (relinked_at source items sink g) (relinked_over source sink m) tasks' tells
      run_over run leads new opens told =
          let there = pads graph feeds tasks g m tells source sink items w in
          let may = may_link_over (unlinked_at source items false g) source sink there w.lanes in
          let ran =
          over_runs (unlinked_at source items false g) (unlinked (pad_id source) m) mid tasks' tells source sink to opening done run may (can_over mid to run leads) leads new
          (record { events = opens.events; from = opens.from }) told in
          (ran.0, subst (λ (n : ℕ). IsRun (linked_at source n sink (unlinked_at source items false g)) (relinked_over source sink m) tasks' tells) (sym (items_is graph feeds tasks g m tells source sink items w)) ran.1)

      -- The run goes on at the moment at which the pad was linked elsewhere.
      pub runs_over : (pad : ℕ) → pad ≡ pad_id source → IsRun (unlinked_at source items false g) (unlinked pad m) mid tells → LeadsTo to sink → IsNewLane tells mid to → OpensNow m pad opening → ToldOver done mid tasks' pad to opening
          → (done ≡ true) × IsRun (relinked_at source items sink g) (relinked_over source sink m) tasks' tells
      runs_over pad number run leads new opens told =
          run_over (subst (λ (p : ℕ). IsRun (unlinked_at source items false g) (unlinked p m) mid tells) number run) leads new (subst (λ (p : ℕ). OpensNow m p opening) number opens)
          (subst (λ (p : ℕ). ToldOver done mid tasks' p to opening) number told)

    -- the tasks with the pads are found
    pub can_join : (pad : ℕ) → pad ≡ pad_id source → CannotJoin tasks pad sink.element sink.pad → ⊥
    can_join pad number why =
        let there = pads graph feeds tasks g m tells source sink items w in
        joins g m tasks tells source sink w.controlled.run
        (record { there = there.sink_there; within = within graph feeds tasks g m tells source sink items w; lanes = w.lanes })
        (record { there = there.source_there; awake = w.awake; owned = owner graph feeds tasks g m tells source sink items w; forward = there.forward })
        (subst (λ (p : ℕ). CannotJoin tasks p sink.element sink.pad) number why)

    -- a row that has room for more changes nothing of it
    pub still_to_relink : (tasks' : List (Task S E I O L s e i o)) → AreKept tasks tasks' → NetStands m tasks' tells → IsToRelink graph feeds tasks' g m tells source sink items true
    still_to_relink tasks' kept net = record {
      controlled = kept_controlled graph feeds tasks tasks' g m tells kept net w.controlled;
      when = w.when;
      act = w.act;
      places = w.places;
      to_do = w.to_do;
      awake = w.awake;
      lanes = w.lanes;
    }
