-- A task behind its fault, and the other ones of its run: they counted what crossed their pads, and their elements stand for what they took, but for one that refused an item.
use Rattle.std.proofs.Common.{◌≡◌, ◌≢◌, ◌⊎◌, ◌++◌, ℕ, List, [], ◌∷◌, Option, Some, refl, sym, ap, ◌∙◌, subst, inl, inr}
use Rattle.std.specs.Prelude.{slice_get}
use Rattle.std.specs.Option.{option_map}
use Rattle.std.proofs.lemmas.Bool.{cases_eq}
use Rattle.flow_model.specs.Call.{Call}
use Rattle.flow_model.specs.Item.{Item}
use Rattle.flow_model.specs.Moment.{Behavior, Moment, behavior_at}
use Rattle.flow_model.specs.Refuses.{RefusesBy}
use Rattle.flow_model.specs.declared.element.TaskElement as elements
use Rattle.flow_model.specs.declared.source.TaskSource as sources
use Rattle.gst_value.proofs.Basics.{some_same}
use Rattle.inlet_row.specs.Row.{feeds_of}
use Rattle.inlet_row.specs.Take.{Moves}
use Rattle.inlet_row.specs.Taken as takes
use Rattle.inlet_row.specs.declared.feeding.Feeding.{Feeding}
use Rattle.inlet_row.specs.declared.row.InletRow.{InletRow}
use Rattle.lane_core.specs.Lane.{Lane}
use Rattle.lane_core.specs.declared.ends.Inlet as inlets
use Rattle.lane_core.specs.declared.ends.Outlet as outlets
use Rattle.net_task.specs.Failed.{FailsAs, GaveUp, Left, Origin, StandsOrFell, WasFor}
use Rattle.net_task.specs.Frame.{IsWire, TaskFrame, frame_in, frame_of}
use Rattle.net_task.specs.Moves.{TookFrom}
use Rattle.net_task.specs.Ties.{Stands, nothing_lost}
use Rattle.net_task.specs.declared.task.Task.{Task}
use Rattle.net_turns.specs.Turns.{HasMet}
use Rattle.script_text.specs.declared.command.Command.{Command}
use Rattle.task_parts.specs.Fault.{refusal_fault}
use Rattle.task_parts.specs.Passing.{RowAsked}
use Rattle.task_parts.specs.declared.fault.TaskFault.{TaskFault}
use Rattle.task_parts.specs.declared.head.Head.{Head}
use Rattle.task_parts.specs.declared.head.Head.TheVariants.{Source, Inlets}
use Rattle.task_parts.specs.declared.head.InletHead.{InletHead}
use Rattle.task_parts.specs.declared.part.Part.{Part}
use Rattle.edit_acts.specs.Evaluated.{IsEvaluated}
use Rattle.edit_acts.specs.Scripted.{ScriptRun}
use Rattle.graph_edits.specs.Edited.{Edited}
use Rattle.graph_tasks.specs.Written.{TaskCrossed}
use Rattle.world_core.specs.Evaluated.{AreCounted, HasFallen, HasPad, IsPartOf, WasAt}
use Rattle.world_core.proofs.AsideRuns.{tied_crossed}

-- what is given up has crossed no pad
gave_up_same : (m : Moment) (n pad : ℕ) (x : Item) (origin : Origin) (behind : Moment) (lost : ℕ → List Item) → GaveUp m n pad x origin behind lost → behind.history ≡ m.history
gave_up_same m n pad x _ _ _ (GaveUp.by_pad p rest waits leads) = refl
gave_up_same m n pad x _ _ _ (GaveUp.by_source p rest waits leads) = refl
gave_up_same m n pad x _ _ _ GaveUp.by_inlet = refl

-- and is of no element
took_same : (m : Moment) (n pad : ℕ) (x : Item) (origin : Origin) (behind : Moment) (lost : ℕ → List Item) → GaveUp m n pad x origin behind lost → (Stood : Behavior → List (List Call) → Type 0) (a : ℕ)
    → Stood (behavior_at behind a) (behind.took a) → Stood (behavior_at m a) (m.took a)
took_same m n pad x _ _ _ (GaveUp.by_pad p rest waits leads) Stood a stood = stood
took_same m n pad x _ _ _ (GaveUp.by_source p rest waits leads) Stood a stood = stood
took_same m n pad x _ _ _ GaveUp.by_inlet Stood a stood = stood

-- something stood in a row that gave an item
something_stood : {I : Type 0} (before gone behind : List (Feeding I)) (first : Feeding I) → before ≡ gone ++ first ∷ behind → before ≡ [] → ⊥
something_stood before [] behind first is none = absurd (let clash : [] ≡ first ∷ behind = sym none ∙ is in cc)
something_stood before (one ∷ gone) behind first is none = absurd (let clash : [] ≡ one ∷ (gone ++ first ∷ behind) = sym none ∙ is in cc)

module _ {S E I O L : Type 0} {s : sources.Ghosts S} {e : elements.Ghosts E} {i : inlets.Ghosts I L O} {o : outlets.Ghosts O L} where
  -- where the item was that an element of a task refused
  module _ (m : Moment) (tells over : Option (List Lane)) (tasks : List (Task S E I O L s e i o)) (place : ℕ) (before : Task S E I O L s e i o) (at : slice_get tasks place ≡ Some before) (n port : ℕ) (x : Item) where
    row_moved : (row row' : InletRow I) → Moves i tells over row row' (takes.Item x) → feeds_of row ≢ []
    row_moved row row' (inl (gives, same)) none = something_stood (feeds_of row) gives.gone (feeds_of row') _ gives.before none
    row_moved row row' (inr (number, rest, asks)) none = something_stood (feeds_of row) asks.gone rest _ asks.before none

    asked_at : (head head' : InletHead I) → before.head ≡ Inlets head → head.number ≡ n → RowAsked i head head' port tells over (takes.Item x) → WasAt m tasks n port x
    asked_at head head' is number (inl asks) =
        WasAt.in_row place asks.was (record { head = head; fed = record { task = before; at = at; head_is = is }; number = number; at = asks.set.at }) (row_moved asks.was asks.is asks.moves)
    asked_at head head' is number (inr none) = absurd (let clash = none.empty in cc)

    taken_at : (head head' : Head S I O s) → before.head ≡ head → TookFrom i head head' n port x tells over → WasAt m tasks n port x
    taken_at (Inlets head) (Inlets head') is took = asked_at head head' is took.0 took.1
    taken_at (Source head) head' is took = absurd took
    taken_at (Inlets head) (Source head') is took = absurd took

    was_at : (frame : TaskFrame) (head' : Head S I O s) (origin : Origin) (behind : Moment) (lost : ℕ → List Item) → GaveUp m n port x origin behind lost → WasFor i tells over frame before.head head' origin n port x
        → WasAt m tasks n port x
    was_at frame head' _ _ _ (GaveUp.by_pad p rest waits leads) was = WasAt.at_pad p rest waits leads
    was_at frame head' _ _ _ (GaveUp.by_source p rest waits leads) was = WasAt.at_pad p rest waits leads
    was_at frame head' _ _ _ GaveUp.by_inlet was = taken_at before.head head' refl was

  -- a task behind its fault counted what crossed its pads
  module _ (m : Moment) (tells over : Option (List Lane)) (before after : Task S E I O L s e i o) where
    behind_fault : (origin : _) (fault : TaskFault) → FailsAs i o tells over m before.head after.head before.parts.items after.parts.items origin fault → TaskCrossed m after
    behind_fault _ _ (FailsAs.refused origin n pad x refusal left was refuses) = of_left left
      where
        of_left : Left i o m origin after.head after.parts.items n pad x → TaskCrossed m after
        of_left l = tied_crossed _ l.lost m l.behind (gave_up_same m n pad x origin l.behind l.lost l.gave_up) after l.tied
    behind_fault _ _ (FailsAs.unread n why stay unread short) = tied_crossed (λ part. Stands m part) nothing_lost m m refl after stay.0
    behind_fault _ _ (FailsAs.not_linked p x rest stay waits buffer none) = tied_crossed (λ part. Stands m part) nothing_lost m m refl after stay.0
    behind_fault _ _ (FailsAs.at_limit p x rest stay waits full) = tied_crossed (λ part. Stands m part) nothing_lost m m refl after stay.0
    behind_fault _ _ (FailsAs.no_memory origin stay) = tied_crossed (λ part. Stands m part) nothing_lost m m refl after stay.0

    -- and its elements stand for what they took, but for one that refused an item
    module _ (tasks : List (Task S E I O L s e i o)) (place : ℕ) (at_before : slice_get tasks place ≡ Some before) (j : ℕ) (part : Part E O e) (at : slice_get after.parts.items j ≡ Some part) where
      abbrev StandsNow : Type 0
      StandsNow = e.stands part.element (behavior_at m part.number) (m.took part.number)

      part_behind : (origin : _) (fault : TaskFault) → FailsAs i o tells over m before.head after.head before.parts.items after.parts.items origin fault → StandsNow ⊎ HasFallen m tasks (Some fault) part
      part_behind _ _ (FailsAs.refused origin n pad x refusal left was refuses) = of_left left
        where
          fell : WasAt m tasks n pad x → part.number ≡ n → e.fell part.element (behavior_at m part.number) (m.took part.number) pad x → HasFallen m tasks (Some (refusal_fault n refusal)) part
          fell stood number is = record {
            refusal = refusal;
            is = ap (λ (a : ℕ). Some (refusal_fault a refusal)) (sym number);
            pad = pad;
            item = x;
            fell = is;
            why = subst (λ (a : ℕ). RefusesBy (behavior_at m a) (m.took a) pad x refusal) (sym number) refuses.why;
            was_at = subst (λ (a : ℕ). WasAt m tasks a pad x) (sym number) stood;
          }

          by_gave : (behind : Moment) (lost : ℕ → List Item) → GaveUp m n pad x origin behind lost → StandsOrFell n pad x behind part → StandsNow ⊎ HasFallen m tasks (Some (refusal_fault n refusal)) part
          by_gave behind lost gave (inl stands) = inl (took_same m n pad x origin behind lost gave (λ b took. e.stands part.element b took) part.number stands)
          by_gave behind lost gave (inr is) =
              inr (fell (was_at m tells over tasks place before at_before n pad x (frame_in o after.head after.parts.items) after.head origin behind lost gave was) is.0
              (took_same m n pad x origin behind lost gave (λ b took. e.fell part.element b took pad x) part.number is.1))

          of_left : Left i o m origin after.head after.parts.items n pad x → StandsNow ⊎ HasFallen m tasks (Some (refusal_fault n refusal)) part
          of_left l = by_gave l.behind l.lost l.gave_up (l.tied.parts_tied.each j part at).stood
      part_behind _ _ (FailsAs.unread n why stay unread short) = inl (stay.0.parts_tied.each j part at).stood
      part_behind _ _ (FailsAs.not_linked p x rest stay waits buffer none) = inl (stay.0.parts_tied.each j part at).stood
      part_behind _ _ (FailsAs.at_limit p x rest stay waits full) = inl (stay.0.parts_tied.each j part at).stood
      part_behind _ _ (FailsAs.no_memory origin stay) = inl (stay.0.parts_tied.each j part at).stood

module _ {S E I O L : Type 0} {s : sources.Ghosts S} {e : elements.Ghosts E} {i : inlets.Ghosts I L O} {o : outlets.Ghosts O L} {contents : ℕ → List ℕ} {script : List Command} {first : Edited} where
  module _ (was : ScriptRun s e i o) (w : IsEvaluated contents script first was) (last : List (Task S E I O L s e i o)) (place : ℕ) (fault : TaskFault) (met : HasMet place fault was.tasks last was.tells) where
    pub counted_behind : AreCounted w.scripted.m last
    counted_behind k task at = by (cases_eq k place)
      where
        ties : (j : ℕ) (t : Task S E I O L s e i o) → slice_get was.tasks j ≡ Some t → TaskCrossed w.scripted.m t
        ties j t there = tied_crossed (λ part. Stands w.scripted.m part) nothing_lost w.scripted.m w.scripted.m refl t (w.scripted.has.run.net.tied j t there)

        by : (k ≡ place) ⊎ (k ≡ place → ⊥) → TaskCrossed w.scripted.m task
        by (inl same) =
            let failed = met.failed w.scripted.m (w.scripted.has.run.net.tied place met.before met.at) in
            subst (λ (t : Task S E I O L s e i o). TaskCrossed w.scripted.m t) (some_same (sym met.at_after ∙ ap (slice_get last) (sym same) ∙ at))
            (behind_fault w.scripted.m was.tells met.over met.before met.after failed.origin fault failed.fails)
        by (inr other) = ties k task (sym (met.others k other) ∙ at)

    abbrev framed : Option (Task S E I O L s e i o) → Option TaskFrame
    framed one = option_map (λ (task : Task S E I O L s e i o). frame_of task) one

    pub frames_behind : (k : ℕ) → framed (slice_get last k) ≡ framed (slice_get was.tasks k)
    frames_behind k = by (cases_eq k place)
      where
        by : (k ≡ place) ⊎ (k ≡ place → ⊥) → framed (slice_get last k) ≡ framed (slice_get was.tasks k)
        by (inl same) = ap (λ (n : ℕ). framed (slice_get last n)) same ∙ ap framed met.at_after ∙ ap Some met.frame ∙ sym (ap framed met.at) ∙ ap (λ (n : ℕ). framed (slice_get was.tasks n)) (sym same)
        by (inr other) = ap framed (met.others k other)

    pub parts_behind : (part : Part E O e) → IsPartOf last part → e.stands part.element (behavior_at w.scripted.m part.number) (w.scripted.m.took part.number) ⊎ HasFallen w.scripted.m was.tasks (Some fault) part
    parts_behind part is = by (cases_eq is.place place)
      where
        by : (is.place ≡ place) ⊎ (is.place ≡ place → ⊥) → e.stands part.element (behavior_at w.scripted.m part.number) (w.scripted.m.took part.number) ⊎ HasFallen w.scripted.m was.tasks (Some fault) part
        by (inl same) =
            let failed = met.failed w.scripted.m (w.scripted.has.run.net.tied place met.before met.at) in
            let task = some_same (sym is.at ∙ ap (slice_get last) same ∙ met.at_after) in
            part_behind w.scripted.m was.tells met.over met.before met.after was.tasks place met.at is.within part
            (subst (λ (t : Task S E I O L s e i o). slice_get t.parts.items is.within ≡ Some part) task is.is) failed.origin fault failed.fails
        by (inr other) =
            let tied = w.scripted.has.run.net.tied is.place is.task (sym (met.others is.place other) ∙ is.at) in
            inl (tied.parts_tied.each is.within part is.is).stood

    pub each_behind : (p : ℕ) → HasPad was.tasks p → HasPad last p
    each_behind p pad = by (cases_eq pad.place place)
      where
        by : (pad.place ≡ place) ⊎ (pad.place ≡ place → ⊥) → HasPad last p
        by (inl same) = record {
          place = place;
          task = met.after;
          at = met.at_after;
          wire = pad.wire;
          is = subst (λ (f : TaskFrame). IsWire f pad.wire) (ap (λ (t : Task S E I O L s e i o). frame_of t) (some_same (sym pad.at ∙ ap (slice_get was.tasks) same ∙ met.at)) ∙ sym met.frame) pad.is;
          number = pad.number;
        }
        by (inr other) = record { place = pad.place; task = pad.task; at = met.others pad.place other ∙ pad.at; wire = pad.wire; is = pad.is; number = pad.number }
