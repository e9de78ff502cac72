-- Nets behind many steps.
use Rattle.std.proofs.Common.{◌≡◌, ◌≢◌, ◌<◌, ◌≤◌, ◌+◌, ℕ, List, length, Option, Some, Bool, true, false, ◌||◌, refl, sym, ap, ◌∙◌, subst, ⊎_elim, arith}
use Rattle.std.specs.Prelude.{slice_get, slice_set}
use Rattle.std.proofs.lemmas.Bool.{cases_eq}
use Rattle.std.proofs.lemmas.Option.{slice_get_within}
use Rattle.lane_core.specs.Lane.{Lane}
use Rattle.lane_core.specs.declared.ends.Inlet as inlets
use Rattle.lane_core.specs.declared.ends.Outlet as outlets
use Rattle.flow_model.specs.Moment.{Moment}
use Rattle.flow_model.specs.declared.element.TaskElement as elements
use Rattle.flow_model.specs.declared.source.TaskSource as sources
use Rattle.task_parts.specs.declared.fault.TaskFault.{TaskFault}
use Rattle.task_parts.specs.declared.step.Step.{Step}
use Rattle.net_task.specs.declared.task.Task.{Task}
use Rattle.net_turns.specs.Net.{GoesOn, NetGoes, NetStands}
use Rattle.net_turns.specs.Rests.{NetAdvanced, NetEnded, NetFaulted, NetRests, NetStepped, TaskRests, has_moved}
use Rattle.net_turns.specs.Turns.{Burned, IsStepped}
use Rattle.net_turns.proofs.Growing.{goes_both, stays_so}
use Rattle.net_turns.proofs.Places.{set_there, set_within}
use Rattle.net_turns.proofs.Stepping.{OutletLaws, net_goes, net_same, net_stays, net_went, net_why}
use Rattle.gst_value.proofs.Basics.{some_same}

-- what steps use up together
pub burned_both : (one two : Bool) (a b c : ℕ) → Burned one a b → Burned two b c → Burned (one || two) a c
burned_both true true a b c x y = omega (arith, x, y)
burned_both true false a b c x y = omega (arith, x, y)
burned_both false true a b c x y = omega (arith, x, y)
burned_both false false a b c x y = omega (arith, x, y)

module _ {S E I O L : Type 0} {s : sources.Ghosts S} {e : elements.Ghosts E} {i : inlets.Ghosts I L O} {o : outlets.Ghosts O L} where
  pub goes_same : (m : Moment) (tasks : List (Task S E I O L s e i o)) (tells : Option (List Lane)) → NetStands m tasks tells → NetGoes m tasks tells
  goes_same m tasks tells net = record { now = m; goes_on = stays_so m; net = net }

  pub goes_more : (a b : Moment) (tasks : List (Task S E I O L s e i o)) (tells : Option (List Lane)) → GoesOn a b → NetGoes b tasks tells → NetGoes a tasks tells
  goes_more a b tasks tells x y = record { now = y.now; goes_on = goes_both x y.goes_on; net = y.net }

  pub ended_more : (a b : Moment) (tasks : List (Task S E I O L s e i o)) (steps : List Step) (tells : Option (List Lane)) → GoesOn a b → NetEnded b tasks steps tells → NetEnded a tasks steps tells
  ended_more a b tasks steps tells x y = record { last = y.last; goes_on = goes_both x y.goes_on; rests = y.rests }

  -- a step behind others met a fault
  pub faulted_more : (a b : Moment) (tasks : List (Task S E I O L s e i o)) (place : ℕ) (fault : TaskFault) → GoesOn a b → NetFaulted b tasks place fault → NetFaulted a tasks place fault
  faulted_more a b tasks place fault x y = record {
    last = y.last;
    goes_on = goes_both x y.goes_on;
    was = y.was;
    tells = y.tells;
    net = y.net;
    others = y.others;
    before = y.before;
    at = y.at;
    after = y.after;
    at_after = y.at_after;
    frame = y.frame;
    over = y.over;
    failed = y.failed;
  }

  -- moved or not, the net goes on
  pub goes_any : (IsTried : ℕ → Type 0) (moved : Bool) (m : Moment) (tasks : List (Task S E I O L s e i o)) (steps : List Step) (tells : Option (List Lane))
      → NetStepped IsTried moved m tasks steps tells → NetGoes m tasks tells
  goes_any IsTried true m tasks steps tells h = h
  goes_any IsTried false m tasks steps tells h = goes_same m tasks tells h.net

  -- no task was tried yet
  pub none_tried : (m : Moment) (tasks : List (Task S E I O L s e i o)) (steps : List Step) (tells : Option (List Lane)) → NetStands m tasks tells → NetStepped (λ k. k < 0) false m tasks steps tells
  none_tried m tasks steps tells net = record { net = net; rests = λ k task w at. absurd (omega (arith, w)) }

  -- one more was tried, and did not move; what it answered was written down
  module _ (place : ℕ) (step : Step) (m : Moment) (tasks tasks' : List (Task S E I O L s e i o)) (steps : List Step) (tells tells' : Option (List Lane)) (there : place < length steps)
      (h : NetRests (λ k. k < place) m tasks steps tells) (stepped : IsStepped place step tasks tasks' tells tells') (none : has_moved step ≡ false) where
    here : (k : ℕ) (task : Task S E I O L s e i o) → slice_get tasks' k ≡ Some task → k ≡ place
        → (own : Step) × (slice_get (slice_set steps place step) k ≡ Some own) × TaskRests tells' m task own
    here k task at is = (
      step,
      ap (λ j. slice_get (slice_set steps place step) j) is ∙ set_within steps place step there,
      subst (λ (t : Task S E I O L s e i o). TaskRests tells' m t step) (some_same (sym stepped.at_after ∙ ap (λ j. slice_get tasks' j) (sym is) ∙ at))
          (net_why m tasks tasks' tells tells' place step h.net stepped none),
    )

    before : (k : ℕ) (task : Task S E I O L s e i o) → k < place + 1 → slice_get tasks' k ≡ Some task → k ≢ place
        → (own : Step) × (slice_get (slice_set steps place step) k ≡ Some own) × TaskRests tells' m task own
    before k task w at ne =
        let was = h.rests k task (omega (arith, w, ne)) (sym (stepped.others k ne) ∙ at) in (
          was.0,
          set_there steps place k step ne ∙ was.1,
          subst (λ (u : Option (List Lane)). TaskRests u m task was.0) (sym (net_same m tasks tasks' tells tells' place step h.net stepped none)) was.2,
        )

    rests_more : NetRests (λ k. k < place + 1) m tasks' (slice_set steps place step) tells'
    rests_more = record {
      net = net_stays m tasks tasks' tells tells' place step h.net stepped none;
      rests = λ k task w at. ⊎_elim (λ is. here k task at is) (λ ne. before k task w at ne) (cases_eq k place);
    }

  -- one more was tried
  pub more_tried : OutletLaws o → (place : ℕ) (moved : Bool) (step : Step) (m : Moment) (tasks tasks' : List (Task S E I O L s e i o)) (steps : List Step) (tells tells' : Option (List Lane))
      → place < length steps → NetStepped (λ k. k < place) moved m tasks steps tells → IsStepped place step tasks tasks' tells tells'
      → NetStepped (λ k. k < place + 1) (moved || has_moved step) m tasks' (slice_set steps place step) tells'
  more_tried laws place true step m tasks tasks' steps tells tells' there h stepped = goes_more m h.now tasks' tells' h.goes_on (net_goes laws h.now tasks tasks' tells tells' place step h.net stepped)
  more_tried laws place false step m tasks tasks' steps tells tells' there h stepped = by (has_moved step) refl
    where
      by : (moved : Bool) → has_moved step ≡ moved → NetStepped (λ k. k < place + 1) (has_moved step) m tasks' (slice_set steps place step) tells'
      by true did =
          subst (λ (b : Bool). NetStepped (λ k. k < place + 1) b m tasks' (slice_set steps place step) tells') (sym did) (net_went laws m tasks tasks' tells tells' place step h.net stepped did)
      by false none =
          subst (λ (b : Bool). NetStepped (λ k. k < place + 1) b m tasks' (slice_set steps place step) tells') (sym none) (rests_more place step m tasks tasks' steps tells tells' there h stepped none)

  -- all were tried
  pub all_tried : (place : ℕ) (moved : Bool) (m : Moment) (tasks : List (Task S E I O L s e i o)) (steps : List Step) (tells : Option (List Lane)) → length tasks ≤ place
      → NetStepped (λ k. k < place) moved m tasks steps tells
      → NetAdvanced moved m tasks steps tells
  all_tried place true m tasks steps tells w h = h
  all_tried place false m tasks steps tells w h = record {
    last = m;
    goes_on = stays_so m;
    rests = record { net = h.net; rests = λ k task tried at. let within = slice_get_within tasks k task at in h.rests k task (omega (arith, within, w)) at };
  }

  -- without tasks nothing is to be done
  pub none_ended : (m : Moment) (tasks : List (Task S E I O L s e i o)) (steps : List Step) (tells : Option (List Lane)) → length tasks ≡ 0 → NetStands m tasks tells → NetEnded m tasks steps tells
  none_ended m tasks steps tells none net = record {
    last = m;
    goes_on = stays_so m;
    rests = record { net = net; rests = λ k task tried at. let within = slice_get_within tasks k task at in absurd (omega (arith, within, none)) };
  }
