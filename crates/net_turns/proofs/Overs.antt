-- Whether the run of a net that cannot move is over, by what its tasks answered.
use Rattle.std.proofs.Common.{◌≡◌, ℕ, Bool, true, false, List, [], length, Option, Some, None, refl, sym, ap, ◌∙◌, subst, arith}
use Rattle.std.specs.Prelude.{slice_get}
use Rattle.std.proofs.lemmas.Bool.{false≢true}
use Rattle.lane_core.specs.Lane.{Lane}
use Rattle.lane_core.specs.declared.ends.Inlet as inlets
use Rattle.lane_core.specs.declared.ends.Outlet as outlets
use Rattle.flow_model.specs.Moment.{Moment}
use Rattle.flow_model.specs.Over.{AllEnded}
use Rattle.flow_model.specs.Split.{AreEmpty}
use Rattle.flow_model.specs.declared.element.TaskElement as elements
use Rattle.flow_model.specs.declared.source.TaskSource as sources
use Rattle.task_parts.specs.declared.head.Head.{Head}
use Rattle.task_parts.specs.declared.head.Head.TheVariants.{Source, Inlets}
use Rattle.task_parts.specs.declared.head.InletHead.{InletHead}
use Rattle.task_parts.specs.declared.part.Part.{Part}
use Rattle.task_parts.specs.declared.step.Step.{Step}
use Rattle.task_parts.specs.declared.step.Step.TheVariants.{Moved, NeedsItem, NeedsRoom, AtProbe, Ended}
use Rattle.net_task.specs.declared.task.Task.{Task}
use Rattle.net_task.specs.Frame.{HeadFrame, TaskFrame, by_inlets, by_source, frame_of, head_frame}
use Rattle.net_task.specs.Reasons.{OneHolds}
use Rattle.net_turns.specs.Ends.{HeadIsOver, NetIsOver, NothingLeft, StepsTellOver, StreamsGoOn, TakesOne, TellsOver, head_number, is_idle}
use Rattle.net_turns.specs.Net.{IsFed, ListAt}
use Rattle.net_turns.specs.Rests.{HeadEnded, HeadLacks, Lacks, NetRests, TaskRests, Wants}
use Rattle.net_turns.proofs.EosComing.{eos_came, inlets_empty}
use Rattle.net_turns.proofs.Left.{cons_not, left_by, one_empty, rests_at, wants_ended, wants_first}
use Rattle.gst_value.proofs.Basics.{none_some, some_same}

module _ {S E I O L : Type 0} {s : sources.Ghosts S} {e : elements.Ghosts E} {i : inlets.Ghosts I L O} {o : outlets.Ghosts O L}
    (live joins : ℕ → Bool) (m : Moment) (tasks : List (Task S E I O L s e i o)) (steps : List Step) (tells : Option (List Lane)) (forward : List ℕ)
    (rests : NetRests (λ k. Unit {0}) m tasks steps tells) (streams : StreamsGoOn live joins m tasks forward) where
  fed_frame : (k : ℕ) (head : InletHead I) → (fed : IsFed tasks k head) → (frame_of fed.task).head ≡ by_inlets head.number (length head.rows.items)
  fed_frame k head fed = ap (λ h. head_frame o h) fed.head_is

  module _ (told : TellsOver live joins tasks steps) where
    -- the element of a live head that joins streams had EOS at each sink pad, since it wants no more
    joined : (n : ℕ) → live n ≡ true → joins n ≡ true → AllEnded (m.took n)
    joined n alive joining =
        let h = streams.heads n alive joining in
        let fed = h.2 in
        let frame = fed_frame h.0 h.1 fed in
        let number : n ≡ head_number (frame_of fed.task).head = sym (ap head_number frame ∙ h.3) in
        let one = rests_at m tasks steps tells rests h.0 fed.task fed.at in
        let done = told.ended h.0 fed.task fed.at (subst (λ (d : ℕ). live d ≡ true) number alive) (subst (λ (d : ℕ). joins d ≡ true) number joining) in
        let why : TaskRests tells m fed.task Ended = subst (λ (step : Step). TaskRests tells m fed.task step) (some_same (sym one.1 ∙ done)) one.2 in
        let wants : Wants e m h.1.number None = subst (λ (f : HeadFrame). HeadEnded e m f) frame why.1 in
        (streams.wants n None joining (subst (λ (d : ℕ). Wants e m d None) h.3 wants)).0 refl

    -- the one row of another head is empty
    single_none : (k : ℕ) (head : InletHead I) (fed : IsFed tasks k head) → joins head.number ≡ false → (step : Step) → is_idle step ≡ true → TaskRests tells m fed.task step → AreEmpty (m.held head.number)
    single_none k head fed apart Moved calm h = absurd h
    single_none k head fed apart (NeedsItem lane) calm h =
        let lacks : Lacks e m head fed.task.parts.items lane = subst (λ (own : Head S I O s). HeadLacks e m own fed.task.parts.items lane) fed.head_is h.1 in
        let single : TakesOne e m head = streams.single k head fed apart in
        let one = single.one in
        let first : lacks.port ≡ 0 = wants_first (single.wants (Some lacks.port) lacks.wants) in
        one_empty (m.held head.number) (rests.net.each k head fed ∙ one)
        (subst (λ (port : ℕ). ListAt port (m.held head.number) []) first (lacks.empty (omega (arith, first, one))))
    single_none k head fed apart (NeedsRoom lane) calm h = absurd (false≢true calm)
    single_none k head fed apart (AtProbe command) calm h = absurd (false≢true calm)
    single_none k head fed apart Ended calm h =
        let single : TakesOne e m head = streams.single k head fed apart in
        inlets_empty m rests.net.cells rests.net.plain head.number single.linked
        (wants_ended None refl (single.wants None (subst (λ (f : HeadFrame). HeadEnded e m f) (fed_frame k head fed) h.1)))

    calm_at : (k : ℕ) (task : Task S E I O L s e i o) (at : slice_get tasks k ≡ Some task) → is_idle (rests_at m tasks steps tells rests k task at).0 ≡ true
    calm_at k task at = let one = rests_at m tasks steps tells rests k task at in told.idle k task one.0 at one.1

    rows_none : (k : ℕ) (head : InletHead I) → IsFed tasks k head → AreEmpty (m.held head.number)
    rows_none k head fed = by (joins head.number) (live head.number) refl refl
      where
        by : (joining alive : Bool) → joins head.number ≡ joining → live head.number ≡ alive → AreEmpty (m.held head.number)
        by false alive apart is = let one = rests_at m tasks steps tells rests k fed.task fed.at in single_none k head fed apart one.0 (calm_at k fed.task fed.at) one.2
        by true false joining is = streams.quiet head.number is joining
        by true true joining is = inlets_empty m rests.net.cells rests.net.plain head.number (streams.joined head.number is joining) (joined head.number is joining)

    left : NothingLeft m
    left = left_by m tasks steps tells rests calm_at rows_none

    all_came : (n : ℕ) → live n ≡ true → AllEnded (m.took n)
    all_came n alive =
        eos_came live joins m rests.net.cells rests.net.plain.uncut left streams.passes streams.linked joined forward streams.goes n (streams.among n alive) alive

    head_over : (head : HeadFrame) → live (head_number head) ≡ true → HeadIsOver m head
    head_over (by_source n file wire) alive = λ p own. left.idle p
    head_over (by_inlets n rows) alive = all_came n alive

    told_over : NetIsOver live m tasks
    told_over = record { left = left; ended = λ k task at alive. head_over (frame_of task).head alive }

  module _ (over : NetIsOver live m tasks) where
    holds_not : (frame : TaskFrame) (step : Step) → OneHolds tells m frame step → ⊥
    holds_not frame step held = cons_not held.2.waits (over.left.idle held.0.number)

    idle_by : (task : Task S E I O L s e i o) (step : Step) → TaskRests tells m task step → is_idle step ≡ true
    idle_by task Moved h = absurd h
    idle_by task (NeedsItem lane) h = refl
    idle_by task (NeedsRoom lane) h = absurd (holds_not (frame_of task) (NeedsRoom lane) h.0)
    idle_by task (AtProbe command) h = absurd (holds_not (frame_of task) (AtProbe command) h.0)
    idle_by task Ended h = refl

    lacks_not : (head : Head S I O s) (parts : List (Part E O e)) (lane : ℕ) → joins (head_number (head_frame o head)) ≡ true → HeadIsOver m (head_frame o head) → HeadLacks e m head parts lane → ⊥
    lacks_not (Source head) parts lane joining done h = h
    lacks_not (Inlets head) parts lane joining done h = none_some (sym ((streams.wants head.number (Some h.port) joining h.wants).1 done))

    ended_by : (task : Task S E I O L s e i o) (step : Step) → joins (head_number (frame_of task).head) ≡ true → HeadIsOver m (frame_of task).head → TaskRests tells m task step → step ≡ Ended
    ended_by task Moved joining done h = absurd h
    ended_by task (NeedsItem lane) joining done h = absurd (lacks_not task.head task.parts.items lane joining done h.1)
    ended_by task (NeedsRoom lane) joining done h = absurd (holds_not (frame_of task) (NeedsRoom lane) h.0)
    ended_by task (AtProbe command) joining done h = absurd (holds_not (frame_of task) (AtProbe command) h.0)
    ended_by task Ended joining done h = refl

    over_told : TellsOver live joins tasks steps
    over_told = record {
      idle = λ k task step at there.
          let one = rests_at m tasks steps tells rests k task at in
          subst (λ (own : Step). is_idle own ≡ true) (some_same (sym one.1 ∙ there)) (idle_by task one.0 one.2);
      ended = λ k task at alive joining.
          let one = rests_at m tasks steps tells rests k task at in
          one.1 ∙ ap (λ (step : Step). Some step) (ended_by task one.0 joining (over.ended k task at alive) one.2);
    }

pub steps_tell_over : {S E I O L : Type 0} (s : sources.Ghosts S) (e : elements.Ghosts E) (i : inlets.Ghosts I L O) (o : outlets.Ghosts O L) → StepsTellOver s e i o
steps_tell_over s e i o live joins m tasks steps tells forward rests streams = (
  λ told. (told_over live joins m tasks steps tells forward rests streams told, all_came live joins m tasks steps tells forward rests streams told),
  λ not. record { rests = rests; is_not_over = λ over. not (over_told live joins m tasks steps tells forward rests streams over) },
  λ over. over_told live joins m tasks steps tells forward rests streams over,
)
