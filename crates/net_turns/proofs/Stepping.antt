-- A net behind a step of one of its tasks.
use Rattle.std.proofs.Common.{◌≡◌, ◌≢◌, ◌≤◌, ◌+◌, ◌^◌, ℕ, List, length, Option, Some, Bool, true, false, refl, sym, ap, ◌∙◌, subst, ⊎_elim, arith}
use Rattle.std.specs.Prelude.{slice_get, slice_set}
use Rattle.std.proofs.lemmas.Bool.{cases_eq, false≢true}
use Rattle.flow_model.specs.Item.{Item}
use Rattle.lane_core.specs.Lane.{Lane}
use Rattle.lane_core.specs.declared.ends.Inlet as inlets
use Rattle.lane_core.specs.declared.ends.Outlet as outlets
use Rattle.flow_model.specs.Moment.{Moment}
use Rattle.flow_model.specs.declared.element.TaskElement as elements
use Rattle.flow_model.specs.declared.source.TaskSource as sources
use Rattle.task_parts.specs.declared.fault.TaskFault.{TaskFault}
use Rattle.task_parts.specs.declared.step.Step.{Step}
use Rattle.task_parts.specs.declared.step.Step.TheVariants.{Moved, NeedsItem, NeedsRoom, AtProbe, Ended}
use Rattle.net_task.specs.declared.task.Task.{Task}
use Rattle.net_task.specs.Frame.{frame_of}
use Rattle.net_task.specs.Fuel.{Burns, moves_left}
use Rattle.net_turns.specs.Net.{NetGoes, NetStands}
use Rattle.net_turns.specs.Rests.{AllFramed, NetFaulted, TaskRests, has_moved}
use Rattle.net_turns.specs.Turns.{Burned, HasMet, IsStepped, TaskStepped, net_left}
use Rattle.net_turns.proofs.Growing.{stays_so}
use Rattle.net_turns.proofs.Places.{set_there, some_before}
use Rattle.net_turns.proofs.Resting.{rested_same, rested_stands, rested_why}
use Rattle.net_turns.proofs.Moved.{net_step}
use Rattle.gst_value.proofs.Basics.{some_same}
use Rattle.gst_value.proofs.Places.{set_here, sum_set}

-- what the laws of an outlet say: its count is the length of what was sent, and no lane takes more than a put allows
pub record OutletLaws {O L : Type 0} (o : outlets.Ghosts O L) : Type 0 where
  pub counts : (outlet : O) (was : List Item) → o.sent outlet was → length was ≡ o.count outlet
  pub bounded : (outlet : O) → o.count outlet ≤ 2 ^ 62

pub burned_by : (step : Step) (before after was is : ℕ) → is + before ≡ was + after → Burns before after step → Burned (has_moved step) was is
burned_by Moved before after was is e b = omega (arith, e, b)
burned_by (NeedsItem lane) before after was is e b = omega (arith, e, b)
burned_by (NeedsRoom lane) before after was is e b = omega (arith, e, b)
burned_by (AtProbe command) before after was is e b = omega (arith, e, b)
burned_by Ended before after was is e b = omega (arith, e, b)

module _ {S E I O L : Type 0} {s : sources.Ghosts S} {e : elements.Ghosts E} {i : inlets.Ghosts I L O} {o : outlets.Ghosts O L} where
  -- the net goes on where the task moved
  went_by : OutletLaws o → (m : Moment) (tasks tasks' : List (Task S E I O L s e i o)) (tells tells' : Option (List Lane)) (place : ℕ) (before after : Task S E I O L s e i o) (step : Step) → NetStands m tasks tells
      → slice_get tasks place ≡ Some before → ((k : ℕ) → k ≢ place → slice_get tasks' k ≡ slice_get tasks k) → slice_get tasks' place ≡ Some after
      → has_moved step ≡ true → TaskStepped tells tells' before after step → NetGoes m tasks' tells'
  went_by laws m tasks tasks' tells tells' place before after Moved net at others at_after did h =
      net_step laws.counts laws.bounded m tasks tasks' tells tells' place before after net at others at_after h.ready h.frame (λ when tied. h.steps when tied)
  went_by laws m tasks tasks' tells tells' place before after (NeedsItem lane) net at others at_after did h = absurd (false≢true did)
  went_by laws m tasks tasks' tells tells' place before after (NeedsRoom lane) net at others at_after did h = absurd (false≢true did)
  went_by laws m tasks tasks' tells tells' place before after (AtProbe command) net at others at_after did h = absurd (false≢true did)
  went_by laws m tasks tasks' tells tells' place before after Ended net at others at_after did h = absurd (false≢true did)

  pub net_went : OutletLaws o → (m : Moment) (was is : List (Task S E I O L s e i o)) (tells tells' : Option (List Lane)) (place : ℕ) (step : Step) → NetStands m was tells
      → IsStepped place step was is tells tells' → has_moved step ≡ true → NetGoes m is tells'
  net_went laws m was is tells tells' place step net h did = went_by laws m was is tells tells' place h.before h.after step net h.at h.others h.at_after did h.stepped

  -- where it did not move the net stands where it stood, the lanes are as they were, and the task cannot move
  module _ (m : Moment) (was is : List (Task S E I O L s e i o)) (tells tells' : Option (List Lane)) (place : ℕ) (step : Step) (net : NetStands m was tells)
      (h : IsStepped place step was is tells tells') (none : has_moved step ≡ false) where
    pub net_stays : NetStands m is tells'
    net_stays = rested_stands m was is tells tells' place h.before h.after net h.at h.others h.at_after h.stepped.ready h.stepped.frame step h.stepped none

    pub net_same : tells' ≡ tells
    net_same = rested_same m was is tells tells' place h.before h.after net h.at h.others h.at_after h.stepped.ready h.stepped.frame step h.stepped none

    pub net_why : TaskRests tells' m h.after step
    net_why = rested_why m was is tells tells' place h.before h.after net h.at h.others h.at_after h.stepped.ready h.stepped.frame step h.stepped none

  -- moved or not, the net goes on
  pub net_goes : OutletLaws o → (m : Moment) (was is : List (Task S E I O L s e i o)) (tells tells' : Option (List Lane)) (place : ℕ) (step : Step) → NetStands m was tells
      → IsStepped place step was is tells tells' → NetGoes m is tells'
  net_goes laws m was is tells tells' place step net h = by (has_moved step) refl
    where
      by : (moved : Bool) → has_moved step ≡ moved → NetGoes m is tells'
      by true did = net_went laws m was is tells tells' place step net h did
      by false none = record { now = m; goes_on = stays_so m; net = net_stays m was is tells tells' place step net h none }

  pub net_faulted : (m : Moment) (was is : List (Task S E I O L s e i o)) (tells : Option (List Lane)) (place : ℕ) (fault : TaskFault) → NetStands m was tells
      → HasMet place fault was is tells → NetFaulted m is place fault
  net_faulted m was is tells place fault net h = record {
    last = m;
    goes_on = stays_so m;
    was = was;
    tells = tells;
    net = net;
    others = h.others;
    before = h.before;
    at = h.at;
    after = h.after;
    at_after = h.at_after;
    frame = h.frame;
    over = h.over;
    failed = h.failed m (net.tied place h.before h.at);
  }

  -- frames stay over steps
  pub framed_same : (tasks : List (Task S E I O L s e i o)) → AllFramed tasks tasks
  framed_same tasks k before after x y = ap (λ u. frame_of u) (some_same (sym y ∙ x))

  pub framed_trans : (a b c : List (Task S E I O L s e i o)) → length b ≡ length a → AllFramed a b → AllFramed b c → AllFramed a c
  framed_trans a b c same x y k before after at at' =
      some_before b a k before (frame_of after ≡ frame_of before) (sym same) at (λ middle here. y k middle after here at' ∙ x k before middle at here)

  pub framed_set : (tasks : List (Task S E I O L s e i o)) (place : ℕ) (was is : Task S E I O L s e i o) → slice_get tasks place ≡ Some was → frame_of is ≡ frame_of was
      → AllFramed tasks (slice_set tasks place is)
  framed_set tasks place was is at f k before after x y =
      ⊎_elim
      (λ here.
      let one : before ≡ was = some_same (sym x ∙ ap (λ j. slice_get tasks j) here ∙ at) in
      let two : after ≡ is = set_here tasks place after is (subst (λ (j : ℕ). slice_get (slice_set tasks place is) j ≡ Some after) here y) in
      ap (λ u. frame_of u) two ∙ f ∙ ap (λ u. frame_of u) (sym one))
      (λ ne. ap (λ u. frame_of u) (some_same (sym y ∙ set_there tasks place k is ne ∙ x)))
      (cases_eq k place)

  -- what a step uses up
  pub net_burned : (tasks : List (Task S E I O L s e i o)) (place : ℕ) (was is : Task S E I O L s e i o) (step : Step) → slice_get tasks place ≡ Some was
      → Burns (moves_left was) (moves_left is) step
      → Burned (has_moved step) (net_left tasks) (net_left (slice_set tasks place is))
  net_burned tasks place was is step at b =
      burned_by step (moves_left was) (moves_left is) (net_left tasks) (net_left (slice_set tasks place is)) (sum_set (λ (task : Task S E I O L s e i o). moves_left task) tasks place was is at) b
