-- What a run is where the link of a pad was undone with EOS, and where it has none.
use Rattle.std.proofs.Common.{◌≡◌, ◌⊎◌, ℕ, Bool, true, false, List, Option, Some, refl, ap, subst, inl, inr}
use Rattle.std.specs.Prelude.{slice_get}
use Rattle.lane_core.specs.Lane.{Lane}
use Rattle.lane_core.specs.declared.ends.Inlet as inlets
use Rattle.lane_core.specs.declared.ends.Outlet as outlets
use Rattle.flow_model.specs.Moment.{Moment}
use Rattle.flow_model.specs.Step.{LeadsNowhere}
use Rattle.flow_model.specs.declared.element.TaskElement as elements
use Rattle.flow_model.specs.declared.source.TaskSource as sources
use Rattle.task_pads.specs.Behind.{Goes, LaneEnd, end_in, goes, inside, lane_end, nowhere, over}
use Rattle.task_pads.specs.declared.pad.Behind.{Behind}
use Rattle.task_pads.specs.declared.pad.Behind.TheVariants as behinds
use Rattle.task_pads.specs.declared.pad.Pad.{Pad}
use Rattle.task_pads.specs.Pads.{goes_of, rest_of}
use Rattle.net_task.specs.declared.task.Task.{Task}
use Rattle.net_task.specs.Frame.{IsWire, frame_of, room_in, wire_of}
use Rattle.net_task.specs.Ties.{LeadsAs}
use Rattle.net_turns.specs.Net.{NetStands, SendsInto}
use Rattle.task_edits.specs.Inside.{IsPadOf}
use Rattle.task_edits.specs.declared.inside.Inside.{Inside}
use Rattle.task_edits.specs.declared.leading.Beyond.{Beyond}
use Rattle.net_edits.specs.Ending.{CannotEnd, IsEndedOver, StandEndedOver}
use Rattle.net_edits.specs.Inside.{FedAll, HasInside, IsEndedInside, NoneInside, StandEnded, TiesUndone, eos_alone}
use Rattle.net_edits.specs.Nets.{NoneHas}
use Rattle.net_edits.specs.Over.{NoneFeeds}
use Rattle.graph_edits.specs.Edited.{Edited}
use Rattle.edit_core.specs.Ways.{IsRun}
use Rattle.edit_core.proofs.Trees.{wire_leads_as}
use Rattle.edit_acts.specs.Ending.{EndsAt, HasNoLink, RunsEnd}
use Rattle.edit_acts.specs.Undoing.{LeadsNoneInside}
use Rattle.edit_acts.proofs.Grown.{ended_over_are}
use Rattle.edit_acts.proofs.Having.{link_leads}
use Rattle.edit_acts.proofs.Runs.{run_on}
use Rattle.edit_acts.proofs.Undoes.{ToldSplit, split_run}
use Rattle.edit_acts.proofs.Undone.{elsewhere, none_leads, pad_is_wire}
use Rattle.edit_acts.proofs.Unlinked.{AreCut, turned_cut}

-- where a pad leads over a lane there is an outlet
over_outlet : {O L : Type 0} (o : outlets.Ghosts O L) (behind : Behind O) (lane n port from : ℕ) → goes behind ≡ over lane n port from → (outlet : O) × (end_in o behind ≡ Some (lane_end o outlet))
over_outlet o behinds.Nothing lane n port from same = absurd cc
over_outlet o (behinds.Element number hint pad) lane n port from same = absurd cc
over_outlet o (behinds.Lane number element pad start outlet) lane n port from same = (outlet, refl)

module _ {S E I O L : Type 0} {s : sources.Ghosts S} {e : elements.Ghosts E} {i : inlets.Ghosts I L O} {o : outlets.Ghosts O L} where
  -- ---- inside of a task

  pub ended_cut : (tasks mid : List (Task S E I O L s e i o)) (pad : ℕ) → IsEndedInside tasks mid pad → AreCut pad tasks mid
  ended_cut tasks mid pad z = turned_cut pad z.place tasks mid (TiesUndone pad) (FedAll z.to eos_alone) z.done

  pub inside_ends : (tasks mid tasks' : List (Task S E I O L s e i o)) (pad place : ℕ) (to : Inside) (done : Bool) (pads : ℕ) → AreCut pad tasks mid
      → ((m : Moment) (tells : Option (List Lane)) → NetStands m tasks tells → StandEnded m mid tells pad) → HasInside tasks pad place to → pads ≡ 1 → ToldSplit done mid tasks' to.element pads → RunsEnd tasks tasks' pad
  inside_ends tasks mid tasks' pad place to done pads cut stands leads one told g m tells source w =
      let z = stands m tells w.run.net in
      record {
        now = _;
        ends = EndsAt.inside z.to.element z.to.pad z.out z.ends;
        run = split_run g m tasks tells pad source w mid cut true _ refl refl z.stands place to leads done tasks' pads one told;
      }

  -- a pad that leads inside of its task in a run does so
  pub inside_link : (tasks : List (Task S E I O L s e i o)) (pad place : ℕ) (to : Inside) → HasInside tasks pad place to → NoneInside tasks pad → HasNoLink tasks pad
  inside_link tasks pad place to h (inl none) g m tells source w link = link_leads g m tasks tells pad source w link (inl none)
  inside_link tasks pad place to h (inr (k, other)) g m tells source w link = elsewhere g m tasks tells w.run pad k other.task other.at other.leads place h.task h.at to.element (record {
    wire = wire_of o h.leads.pad;
    is = pad_is_wire o h.task.head h.task.parts.items h.leads.pad h.leads.is;
    number = h.leads.number_is;
    port = to.pad;
    leads = h.leads.leads;
  })

  -- ---- over a lane

  pub over_ends : (tasks tasks' : List (Task S E I O L s e i o)) (pad : ℕ) → LeadsNoneInside tasks pad → IsEndedOver tasks tasks' pad
      → ((m : Moment) (tells : Option (List Lane)) → NetStands m tasks tells → StandEndedOver m tasks' tells pad) → RunsEnd tasks tasks' pad
  over_ends tasks tasks' pad none z stands g m tells source w =
      let y = stands m tells w.run.net in
      record {
        now = _;
        ends = EndsAt.over y.to.element y.to.pad y.leads;
        run = run_on g m tasks tells pad source w true _ refl refl tasks' y.stands (ended_over_are g m tasks tasks' tells w.run pad z none);
      }

  module _ (tasks : List (Task S E I O L s e i o)) (pad : ℕ) (none : LeadsNoneInside tasks pad) (g : Edited) (m : Moment) (tells : Option (List Lane)) (run : IsRun g m tasks tells) where
    module _ (place : ℕ) (task : Task S E I O L s e i o) (at : slice_get tasks place ≡ Some task) (q : Pad O) (is : IsPadOf task.head task.parts.items q) (number : (wire_of o q).number ≡ pad) where
      own : IsWire (frame_of task) (wire_of o q)
      own = pad_is_wire o task.head task.parts.items q is

      led : LeadsAs m pad (goes_of q)
      led = subst (λ (p : ℕ). LeadsAs m p (goes_of q)) number (wire_leads_as i o m task.head task.parts.items (run.net.tied place task at) (wire_of o q) own)

      leads_nothing : ((to : Beyond) (lane from : ℕ) → goes_of q ≡ over lane to.element to.pad from → ⊥) → LeadsNowhere m.plan pad
      leads_nothing not_over = go (goes_of q) refl
        where
          go : (leads : Goes) → goes_of q ≡ leads → LeadsNowhere m.plan pad
          go nowhere same = subst (LeadsAs m pad) same led
          go (inside n port) same = absurd (none_leads g m tasks tells run pad none place task at n (record { wire = wire_of o q; is = own; number = number; port = port; leads = same }))
          go (over lane n port from) same = absurd (not_over (record { element = n; pad = port }) lane from same)

      has_row : (to : Beyond) (lane from : ℕ) → goes_of q ≡ over lane to.element to.pad from → NoneFeeds tasks to.element to.pad → ⊥
      has_row to lane from leads feeds =
          let y = over_outlet o (rest_of q).behind lane to.element to.pad from leads in
          let sends : SendsInto tasks place pad (lane_end o y.0).place from to.element to.pad =
          record {
            task = task;
            at = at;
            out = record { wire = wire_of o q; is = own; number = number; lane = lane; leads = leads; into = record { room = _; room_is = ap (λ (end : Option LaneEnd). room_in end) y.1; place_is = refl } };
          } in
          let z = run.net.wired.paired place pad (lane_end o y.0).place from to.element to.pad sends in
          feeds z.0 z.1 z.2

    over_none : CannotEnd tasks pad → NoneHas tasks pad ⊎ LeadsNowhere m.plan pad
    over_none (CannotEnd.no_pad nothing) = inl nothing
    over_none (CannotEnd.no_lane place h) = inr (leads_nothing place h.task h.at h.leads.pad h.leads.is h.leads.number_is (λ to lane from same. h.leads.none to (lane, from, same)))
    over_none (CannotEnd.no_row place to h feeds) = absurd (has_row place h.task h.at h.leads.pad h.leads.is h.leads.number_is to h.leads.leads.0 h.leads.leads.1 h.leads.leads.2 feeds)

  pub over_link : (tasks : List (Task S E I O L s e i o)) (pad : ℕ) → LeadsNoneInside tasks pad → CannotEnd tasks pad → HasNoLink tasks pad
  over_link tasks pad none why g m tells source w link = link_leads g m tasks tells pad source w link (over_none tasks pad none g m tells w.run why)

-- what holds where something was done, and where nothing was
pub either_way : {A : Type 0} (done : Bool) → (done ≡ true → A) → (done ≡ false → A) → A
either_way true done_so left_so = done_so refl
either_way false done_so left_so = left_so refl
