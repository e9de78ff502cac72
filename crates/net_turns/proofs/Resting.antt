-- A step that did not move: the net stands where it stood, and the task cannot move there.
use Rattle.std.proofs.Common.{◌≡◌, ◌≢◌, ℕ, List, length, Option, Some, false, refl, sym, ap, ◌∙◌, subst, ⊎_elim}
use Rattle.std.specs.Prelude.{slice_get}
use Rattle.std.proofs.lemmas.Bool.{cases_eq, true≢false}
use Rattle.lane_core.specs.Lane.{Lane}
use Rattle.lane_core.specs.declared.ends.Inlet as inlets
use Rattle.lane_core.specs.declared.ends.Outlet as outlets
use Rattle.flow_model.specs.Moment.{Moment}
use Rattle.flow_model.specs.declared.element.TaskElement as elements
use Rattle.flow_model.specs.declared.source.TaskSource as sources
use Rattle.task_parts.specs.declared.head.Head.{Head}
use Rattle.task_parts.specs.declared.head.Head.TheVariants.{Source, Inlets}
use Rattle.task_parts.specs.declared.step.Step.{Step}
use Rattle.task_parts.specs.declared.step.Step.TheVariants.{Moved, NeedsItem, NeedsRoom, AtProbe, Ended}
use Rattle.net_task.specs.declared.task.Task.{Task}
use Rattle.net_task.specs.Frame.{TaskFrame, frame_in, frame_of}
use Rattle.net_task.specs.Moves.{Steps}
use Rattle.net_task.specs.Ready.{HeadApart, IsReady}
use Rattle.net_task.specs.Reasons.{AllRest, OneHolds, Why}
use Rattle.net_task.specs.Ties.{Ties}
use Rattle.net_turns.specs.Net.{NetStands}
use Rattle.net_turns.specs.Rests.{HeadEnded, IsHeldUp, TaskRests, has_moved}
use Rattle.net_turns.specs.Turns.{TaskStepped}
use Rattle.net_turns.proofs.Behind.{none_behind_eos}
use Rattle.net_turns.proofs.Rested.{HeadKeeps, fed_back, fed_on, owns_on, row_back, sends_back, wired_kept}
use Rattle.net_turns.proofs.Reasoned.{HeadStands, gave_all, heads_kept, heads_lacking, lacks}
use Rattle.net_turns.proofs.Reasoned as reasoned
use Rattle.gst_value.proofs.Basics.{some_same}

module _ {S I O L : Type 0} {s : sources.Ghosts S} (i : inlets.Ghosts I L O) where
  apart_of : (t : List Lane) (tells : Option (List Lane)) (told : tells ≡ Some t) (frame : TaskFrame) (head : Head S I O s) → HeadApart i frame head → reasoned.HeadApart s i t tells told head
  apart_of t tells told frame (Source head) h = tt
  apart_of t tells told frame (Inlets head) h = h.each

module _ {S E I O L : Type 0} {s : sources.Ghosts S} {e : elements.Ghosts E} {i : inlets.Ghosts I L O} {o : outlets.Ghosts O L} where
  -- what stands of a task whose step did not move
  pub record Still (t : List Lane) (tells tells' : Option (List Lane)) (before after : Task S E I O L s e i o) (m : Moment) : Type 0 where
    pub tied : Ties after m
    pub same : tells' ≡ tells
    pub heads : HeadKeeps {s = s} i t before.head after.head

  pub still : (t : List Lane) (tells tells' : Option (List Lane)) (before after : Task S E I O L s e i o) (m : Moment) (step : Step) → tells ≡ Some t → IsReady tells before
      → has_moved step ≡ false
      → Steps tells tells' before after m step → Why tells before after m step → Still t tells tells' before after m
  still t tells tells' before after m Moved told ready none h why = absurd (true≢false none)
  still t tells tells' before after m (NeedsItem lane) told ready none h why = record {
    tied = h.0;
    same = h.1;
    heads = heads_lacking s i t tells told before.head after.head after.parts.items lane (apart_of i t tells told (frame_in o before.head before.parts.items) before.head ready.head_apart) why.1;
  }
  still t tells tells' before after m (NeedsRoom lane) told ready none h why = record { tied = h.0; same = h.1; heads = heads_kept s i t tells told before.head after.head h.2 }
  still t tells tells' before after m (AtProbe command) told ready none h why = record { tied = h.0; same = h.1; heads = heads_kept s i t tells told before.head after.head h.2 }
  still t tells tells' before after m Ended told ready none h why = record { tied = h.0; same = h.1; heads = heads_kept s i t tells told before.head after.head h.2 }

module _ {S E I O L : Type 0} {s : sources.Ghosts S} {e : elements.Ghosts E} {i : inlets.Ghosts I L O} {o : outlets.Ghosts O L}
    (m : Moment) (tasks tasks' : List (Task S E I O L s e i o)) (tells tells' : Option (List Lane)) (place : ℕ) (before after : Task S E I O L s e i o) (net : NetStands m tasks tells)
    (at : slice_get tasks place ≡ Some before) (others : (k : ℕ) → k ≢ place → slice_get tasks' k ≡ slice_get tasks k) (at_after : slice_get tasks' place ≡ Some after)
    (ready : IsReady tells' after) (frame : frame_of after ≡ frame_of before) where
  stands_still : Still net.table tells tells' before after m → NetStands m tasks' tells'
  stands_still st = record {
    plain = net.plain;
    tied = λ k task here.
        ⊎_elim (λ same. subst (λ (u : Task S E I O L s e i o). Ties u m) (some_same (sym at_after ∙ ap (λ j. slice_get tasks' j) (sym same) ∙ here)) st.tied)
        (λ ne. net.tied k task (sym (others k ne) ∙ here)) (cases_eq k place);
    ready = λ k task here.
        ⊎_elim (λ same. subst (λ (u : Task S E I O L s e i o). IsReady tells' u) (some_same (sym at_after ∙ ap (λ j. slice_get tasks' j) (sym same) ∙ here)) ready)
        (λ ne. subst (λ (u : Option (List Lane)). IsReady u task) (sym st.same) (net.ready k task (sym (others k ne) ∙ here))) (cases_eq k place);
    wired = wired_kept net.table tasks tasks' place before after at others at_after frame st.heads net.wired;
    cells = net.cells;
    first = net.first;
    table = net.table;
    told = st.same ∙ net.told;
    sents = net.sents;
    sent = λ k p lane from n port a. net.sent k p lane from n port (sends_back net.table tasks tasks' place before after at others at_after frame st.heads k p lane from n port a);
    rows = λ k n port row a.
        let x = row_back net.table tasks tasks' place before after at others at_after frame st.heads k n port row a in
        x.2.stands net.sents m n port (net.rows k n port x.0 x.1);
    each = λ k head a.
        let f = fed_back net.table tasks tasks' place before after at others at_after frame st.heads k head a in
        ap (λ n. length (m.held n)) f.1.number ∙ net.each k f.0 f.1.fed ∙ sym f.1.count;
    others = λ n none. net.others n (λ k head a same.
        let f = fed_on net.table tasks tasks' place before after at others at_after frame st.heads k head a in
        none k f.0 f.1.fed_now (f.1.number ∙ same));
    loose = λ p none. net.loose p (λ k own. none k (owns_on net.table tasks tasks' place before after at others at_after frame st.heads k (m.plan.owner p) own));
  }

  rows_stand : (head : Head S I O s) → before.head ≡ head → HeadStands {s = s} i net.table m net.sents head
  rows_stand (Source head) is = tt
  rows_stand (Inlets head) is = λ port row here. net.rows place head.number port row (record { head = head; fed = record { task = before; at = at; head_is = is }; number = refl; at = here })

  -- no item waits behind an EOS
  not_behind : OneHolds tells m (frame_of before) Ended → ⊥
  not_behind held = none_behind_eos m held.0.number held.2.item held.2.rest net.plain (net.cells (m.plan.owner held.0.number)) held.2.waits held.2.held

  gave : AllRest m (frame_of before) × HeadEnded e m (frame_of before).head → TaskRests tells m after Ended
  gave h = subst (λ (f : TaskFrame). AllRest m f × HeadEnded e m f.head) (sym frame) h

  reasons : (step : Step) → has_moved step ≡ false → Ties after m → Why tells before after m step → TaskRests tells m after step
  reasons Moved none tied why = absurd (true≢false none)
  reasons (NeedsItem lane) none tied why =
      let ready_was = net.ready place before at in (
        subst (λ (f : TaskFrame). AllRest m f) (sym frame) why.0,
        lacks i o net.table tells net.told m net.sents after.parts.items tied.parts_tied before.head after.head lane
            (apart_of i net.table tells net.told (frame_in o before.head before.parts.items) before.head ready_was.head_apart) (rows_stand before.head refl) why.1,
      )
  reasons (NeedsRoom lane) none tied why = subst (λ (f : TaskFrame). IsHeldUp tells m f (NeedsRoom lane)) (sym frame) (why.holds, why.parts)
  reasons (AtProbe command) none tied why = subst (λ (f : TaskFrame). IsHeldUp tells m f (AtProbe command)) (sym frame) (why.holds, why.parts)
  reasons Ended none tied why =
      ⊎_elim (λ over. gave (over.0, gave_all i o net.table tells net.told m net.sents after.parts.items tied.parts_tied before.head over.1))
      (λ stuck. absurd (not_behind stuck.holds)) why

  module _ (step : Step) (stepped : TaskStepped tells tells' before after step) (none : has_moved step ≡ false) where
    stays : Still net.table tells tells' before after m
    stays =
        still net.table tells tells' before after m step net.told (net.ready place before at) none (stepped.steps m (net.tied place before at)) (stepped.why m (net.tied place before at))

    -- the net stands
    pub rested_stands : NetStands m tasks' tells'
    rested_stands = stands_still stays

    -- the lanes are as they were
    pub rested_same : tells' ≡ tells
    rested_same = stays.same

    -- and the task rests
    pub rested_why : TaskRests tells' m after step
    rested_why = subst (λ (u : Option (List Lane)). TaskRests u m after step) (sym stays.same) (reasons step none stays.tied (stepped.why m (net.tied place before at)))
