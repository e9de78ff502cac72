-- A run goes on with what control has of it, where its tasks were stepped.
use Rattle.std.proofs.Common.{◌≡◌, ◌++◌, ℕ, Bool, true, false, List, [], ◌∷◌, Option, refl, sym, ap, ◌∙◌, subst, append-nil}
use Rattle.std.proofs.lemmas.Bool.{true≢false}
use Rattle.flow_model.specs.Eval.{Plan}
use Rattle.flow_model.specs.Item.{Item}
use Rattle.flow_model.specs.Sticky.{has_flush_stop}
use Rattle.flow_model.proofs.Prefixes.{rest_of}
use Rattle.lane_core.specs.Lane.{Lane}
use Rattle.lane_core.specs.declared.ends.Inlet as inlets
use Rattle.lane_core.specs.declared.ends.Outlet as outlets
use Rattle.pad_core.specs.Crossing.{has_ended}
use Rattle.flow_model.specs.Moment.{Moment}
use Rattle.flow_model.specs.declared.element.TaskElement as elements
use Rattle.flow_model.specs.declared.source.TaskSource as sources
use Rattle.task_parts.specs.declared.step.Step.{Step}
use Rattle.net_task.specs.declared.task.Task.{Task}
use Rattle.net_turns.specs.Net.{GoesOn, NetGoes, NetStands}
use Rattle.net_turns.specs.Rests.{NetEnded}
use Rattle.net_turns.specs.Turns.{AreTried, IsStepped, StepsKeepNet}
use Rattle.net_turns.proofs.Growing.{goes_both, stays_so}
use Rattle.net_edits.proofs.Endings.{crossed_calm, crossed_closed, not_ended}
use Rattle.graph_core.specs.GraphPlan.{pad_id}
use Rattle.graph_edits.specs.declared.graph.EditedGraph.{EditedGraph}
use Rattle.graph_edits.specs.Edited.{Edited}
use Rattle.graph_edits.specs.Growing.{GrowsTo}
use Rattle.graph_edits.proofs.Ended.{stays_open}
use Rattle.graph_edits.proofs.Keeping.{stays_kept}
use Rattle.graph_edits.proofs.Staying.{growth_joins}
use Rattle.edit_core.specs.Feeds.{FeedsStay}
use Rattle.edit_core.specs.Judging.{owed_then}
use Rattle.edit_core.specs.Tasks.{AreTasksOf}
use Rattle.edit_core.specs.Ways.{IsRun}
use Rattle.edit_core.specs.declared.feeds.Feeds.{Feeds}
use Rattle.edit_core.proofs.Stepped.{steps_keep_tasks}
use Rattle.edit_acts.specs.Controlled.{AreOwned, IsControlled}
use Rattle.edit_acts.specs.Stepping.{FaultsKeepControl, GoesOnControlled, StepsKeepControl, TrialFaultsKeepControl, TrialsKeepControl}
use Rattle.edit_acts.proofs.Asleep.{bare_of, bare_on}
use Rattle.edit_acts.proofs.Owned.{fresh}

module _ {S E I O L : Type 0} {s : sources.Ghosts S} {e : elements.Ghosts E} {i : inlets.Ghosts I L O} {o : outlets.Ghosts O L} (m now : Moment) (goes : GoesOn m now) (tasks : List (Task S E I O L s e i o)) (tells : Option (List Lane)) (net : NetStands now tasks tells) where
  calm : (p : ℕ) → has_flush_stop (now.history p) ≡ false
  calm p = crossed_calm now p net.plain (net.cells (now.plan.owner p))

  -- behind EOS nothing crosses
  over : (p : ℕ) → has_ended (m.history p) ≡ true → now.history p ≡ m.history p
  over p ended = by (rest_of (goes.crossed p)).0 (rest_of (goes.crossed p)).1
    where
      by : (rest : List Item) → m.history p ++ rest ≡ now.history p → now.history p ≡ m.history p
      by [] is = sym is ∙ append-nil (m.history p)
      by (x ∷ rest) is =
          let yet = not_ended (m.history p) rest x (subst (λ (l : List Item). has_flush_stop l ≡ false) (sym is) (calm p))
          (λ front last same. crossed_closed now p net.plain (net.cells (now.plan.owner p)) front last (sym is ∙ same)) in
          absurd (true≢false (sym ended ∙ yet))

  grown : GrowsTo m.history (owed_then m) now.history (owed_then now)
  grown = record { crossed = goes.crossed; due = goes.due; over = over; unflushed = calm }

module _ {S E I O L : Type 0} {s : sources.Ghosts S} {e : elements.Ghosts E} {i : inlets.Ghosts I L O} {o : outlets.Ghosts O L} (graph : EditedGraph) (feeds : Feeds) (tasks tasks' : List (Task S E I O L s e i o))
    (g : Edited) (m : Moment) (tells tells' : Option (List Lane)) (w : IsControlled graph feeds tasks g m tells) where
  -- where the tasks stand at a later moment, with the elements of the graph, control has the run there
  module _ (feeds_stay : FeedsStay) (next : NetGoes m tasks' tells') (are : AreTasksOf g tasks') where
    grows : GrowsTo m.history (owed_then m) next.now.history (owed_then next.now)
    grows = grown m next.now next.goes_on tasks' tells' next.net

    run : IsRun g next.now tasks' tells'
    run = record {
      net = next.net;
      are = are;
      sinks = λ a there. ap (λ (plan : Plan). plan.sinks a) next.goes_on.plan ∙ w.run.sinks a there;
      owners = λ p a own there. w.run.owners p a (ap (λ (plan : Plan). plan.owner p) (sym next.goes_on.plan) ∙ own) there;
      kept = stays_kept.grows m.history (owed_then m) next.now.history (owed_then next.now) g grows w.run.kept;
      links = w.run.links;
      made = w.run.made;
      unmarked = w.run.unmarked;
    }

    pads : AreOwned g next.now
    pads = record { owned = λ pad source named. ap (λ (plan : Plan). plan.owner (pad_id source)) next.goes_on.plan ∙ w.pads.owned pad source named }

    goes_controlled : GoesOnControlled graph feeds tasks' g m tells'
    goes_controlled = record {
      now = next.now;
      goes_on = next.goes_on;
      grows = grows;
      controlled = record {
        current = record {
          edited = w.current.edited;
          feeds_are = feeds_stay.grows m.history (owed_then m) next.now.history (owed_then next.now) g feeds grows w.current.kept w.current.feeds_are;
          net = next.net;
          fresh = fresh g next.now tasks' tells' run pads
              (bare_on g m tasks tells w.run w.pads (bare_of graph feeds tasks g m tells w) next.now next.goes_on tasks' tells' next.net);
          kept = run.kept;
          stand = w.current.stand;
          made = w.current.made;
          ends = stays_open.grows m.history (owed_then m) next.now.history (owed_then next.now) g grows w.current.kept w.current.ends;
          named = w.current.named;
        };
        run = run;
        pads = pads;
        sinks = w.sinks;
      };
    }

pub steps_keep_control : {S E I O L : Type 0} (s : sources.Ghosts S) (e : elements.Ghosts E) (i : inlets.Ghosts I L O) (o : outlets.Ghosts O L)
    → StepsKeepNet s e i o → FeedsStay → StepsKeepControl s e i o
steps_keep_control s e i o keep_net feeds_stay graph feeds tasks tasks' g m tells tells' place step w stepped =
    goes_controlled graph feeds tasks tasks' g m tells tells' w feeds_stay (keep_net m tasks tasks' tells tells' place step w.run.net stepped)
    (steps_keep_tasks s e i o g m tasks tasks' tells tells' place step w.run.net stepped w.run.are)

-- ---- steps in a row

module _ {S E I O L : Type 0} {s : sources.Ghosts S} {e : elements.Ghosts E} {i : inlets.Ghosts I L O} {o : outlets.Ghosts O L} (graph : EditedGraph) (feeds : Feeds) (tasks : List (Task S E I O L s e i o)) (g : Edited) (m : Moment) (tells : Option (List Lane))
    (w : IsControlled graph feeds tasks g m tells) where
  -- nothing was done yet
  none_done : GoesOnControlled graph feeds tasks g m tells
  none_done = record { now = m; goes_on = stays_so m; grows = growth_joins.none m.history (owed_then m) w.current.ends.unflushed; controlled = w }

  -- one step more
  one_more : StepsKeepControl s e i o → (was is : List (Task S E I O L s e i o)) (before behind : Option (List Lane)) (place : ℕ) (step : Step)
      → GoesOnControlled graph feeds was g m before → IsStepped place step was is before behind → GoesOnControlled graph feeds is g m behind
  one_more keep was is before behind place step first stepped =
      let then = keep graph feeds was is g first.now before behind place step first.controlled stepped in
      record {
        now = then.now;
        goes_on = goes_both first.goes_on then.goes_on;
        grows = growth_joins.both m.history (owed_then m) first.now.history (owed_then first.now) then.now.history (owed_then then.now) first.grows then.grows;
        controlled = then.controlled;
      }

  all_tried : StepsKeepControl s e i o → (place : ℕ) (moved : Bool) (is : List (Task S E I O L s e i o)) (behind : Option (List Lane)) → AreTried tasks tells place moved is behind
      → GoesOnControlled graph feeds is g m behind
  all_tried keep _ _ _ _ AreTried.none = none_done
  all_tried keep _ _ _ _ (AreTried.one place moved step was is before behind tried stepped) = one_more keep was is before behind place step (all_tried keep place moved was before tried) stepped

-- Where each was tried and none can move, control has the run at the moment at which they rest.
pub rest_controlled : {S E I O L : Type 0} {s : sources.Ghosts S} {e : elements.Ghosts E} {i : inlets.Ghosts I L O} {o : outlets.Ghosts O L} → FeedsStay → TrialsKeepControl s e i o → (graph : EditedGraph) (feeds : Feeds)
    (tasks tasks' : List (Task S E I O L s e i o)) (g : Edited) (m : Moment) (tells tells' : Option (List Lane)) (place : ℕ) (moved : Bool) (steps : List Step) → IsControlled graph feeds tasks g m tells
    → AreTried tasks tells place moved tasks' tells' → (ended : NetEnded m tasks' steps tells') → (goes : GoesOnControlled graph feeds tasks' g m tells') × (goes.now ≡ ended.last)
unfolding goes_controlled
rest_controlled feeds_stay trials graph feeds tasks tasks' g m tells tells' place moved steps w tried ended = (
  goes_controlled graph feeds tasks tasks' g m tells tells' w feeds_stay (record { now = ended.last; goes_on = ended.goes_on; net = ended.rests.net })
      (trials graph feeds tasks tasks' g m tells tells' place moved w tried).controlled.run.are,
  refl,
)

pub trials_keep_control : {S E I O L : Type 0} (s : sources.Ghosts S) (e : elements.Ghosts E) (i : inlets.Ghosts I L O) (o : outlets.Ghosts O L)
    → StepsKeepControl s e i o → TrialsKeepControl s e i o
trials_keep_control s e i o keep graph feeds tasks tasks' g m tells tells' place moved w tried = all_tried graph feeds tasks g m tells w keep place moved tasks' tells' tried

-- ---- faults

pub faults_keep_control : {S E I O L : Type 0} (s : sources.Ghosts S) (e : elements.Ghosts E) (i : inlets.Ghosts I L O) (o : outlets.Ghosts O L) → FaultsKeepControl s e i o
faults_keep_control s e i o graph feeds tasks tasks' g m tells place fault w met = record { was = tasks; tells = tells; goes = none_done graph feeds tasks g m tells w; met = met }

pub trial_faults_keep_control : {S E I O L : Type 0} (s : sources.Ghosts S) (e : elements.Ghosts E) (i : inlets.Ghosts I L O) (o : outlets.Ghosts O L)
    → TrialsKeepControl s e i o → TrialFaultsKeepControl s e i o
trial_faults_keep_control s e i o keep graph feeds tasks tasks' g m tells fault w met = record {
  was = met.was;
  tells = met.tells;
  goes = keep graph feeds tasks met.was g m tells met.tells met.place met.moved w met.tried;
  met = met.met;
}
