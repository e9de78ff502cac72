-- A step changes no frame of a task and puts nothing into a row, so the tasks have the elements as before.
use Rattle.std.proofs.Common.{◌≡◌, ◌⊎◌, ℕ, List, Option, Some, refl, sym, ap, ◌∙◌, subst, inl, inr}
use Rattle.std.specs.Prelude.{slice_get}
use Rattle.std.proofs.lemmas.Bool.{cases_eq}
use Rattle.lane_core.specs.Lane.{Lane}
use Rattle.lane_core.specs.declared.ends.Inlet as inlets
use Rattle.lane_core.specs.declared.ends.Outlet as outlets
use Rattle.flow_model.specs.Moment.{Moment}
use Rattle.flow_model.specs.declared.element.TaskElement as elements
use Rattle.flow_model.specs.declared.source.TaskSource as sources
use Rattle.task_parts.specs.declared.head.Head.{Head}
use Rattle.task_parts.specs.declared.head.Head.TheVariants.{Source, Inlets}
use Rattle.task_parts.specs.declared.head.InletHead.{InletHead}
use Rattle.task_parts.specs.declared.step.Step.{Step}
use Rattle.net_task.specs.declared.task.Task.{Task}
use Rattle.net_task.specs.Frame.{HeadFrame, TaskFrame, IsWire, by_inlets, frame_of, head_frame}
use Rattle.net_turns.specs.Net.{HasElement, IsFed, NetStands, Owns}
use Rattle.net_turns.specs.Turns.{IsStepped}
use Rattle.net_edits.specs.Adding.{HoldsNothingNew}
use Rattle.net_edits.proofs.Empties.{holds_nothing}
use Rattle.gst_value.proofs.Basics.{some_same}
use Rattle.graph_edits.specs.Edited.{Edited}
use Rattle.edit_core.specs.Tasks.{AreTasksOf, IsReachedIn, StepsKeepTasks}

module _ {S E I O L : Type 0} {s : sources.Ghosts S} {e : elements.Ghosts E} {i : inlets.Ghosts I L O} {o : outlets.Ghosts O L} where
  -- the task at a place before a step, or behind it, with the same frame
  record Framed (tasks : List (Task S E I O L s e i o)) (k : ℕ) (task' : Task S E I O L s e i o) : Type 0 where
    task : Task S E I O L s e i o
    at : slice_get tasks k ≡ Some task
    frame : frame_of task' ≡ frame_of task

  module _ (tasks tasks' : List (Task S E I O L s e i o)) (tells tells' : Option (List Lane)) (place : ℕ) (step : Step) (stepped : IsStepped place step tasks tasks' tells tells') where
    before : (k : ℕ) (task' : Task S E I O L s e i o) → slice_get tasks' k ≡ Some task' → Framed tasks k task'
    before k task' at = by (cases_eq k place)
      where
        by : (k ≡ place) ⊎ (k ≡ place → ⊥) → Framed tasks k task'
        by (inl same) =
            let is : stepped.after ≡ task' = some_same (sym stepped.at_after ∙ ap (λ (x : ℕ). slice_get tasks' x) (sym same) ∙ at) in
            record { task = stepped.before; at = ap (λ (x : ℕ). slice_get tasks x) same ∙ stepped.at; frame = ap (λ (t : Task S E I O L s e i o). frame_of t) (sym is) ∙ stepped.stepped.frame }
        by (inr other) = record { task = task'; at = sym (stepped.others k other) ∙ at; frame = refl }

    behind : (k : ℕ) (task : Task S E I O L s e i o) → slice_get tasks k ≡ Some task → Framed tasks' k task
    behind k task at = by (cases_eq k place)
      where
        by : (k ≡ place) ⊎ (k ≡ place → ⊥) → Framed tasks' k task
        by (inl same) =
            let is : stepped.before ≡ task = some_same (sym stepped.at ∙ ap (λ (x : ℕ). slice_get tasks x) (sym same) ∙ at) in
            record { task = stepped.after; at = ap (λ (x : ℕ). slice_get tasks' x) same ∙ stepped.at_after; frame = ap (λ (t : Task S E I O L s e i o). frame_of t) (sym is) ∙ sym stepped.stepped.frame }
        by (inr other) = record { task = task; at = stepped.others k other ∙ at; frame = refl }

    owns_before : (k n : ℕ) → Owns tasks' k n → Owns tasks k n
    owns_before k n own = let b = before k own.task own.at in record { task = b.task; at = b.at; has = subst (λ (f : TaskFrame). HasElement f n) b.frame own.has }

    owns_behind : (k n : ℕ) → Owns tasks k n → Owns tasks' k n
    owns_behind k n own = let b = behind k own.task own.at in record { task = b.task; at = b.at; has = subst (λ (f : TaskFrame). HasElement f n) b.frame own.has }

    -- a head that is fed from inlets is so behind the step
    inlets_stay : (head' : Head S I O s) (n size : ℕ) → by_inlets n size ≡ head_frame o head' → (head : InletHead I) × (head' ≡ Inlets head) × (head.number ≡ n)
    inlets_stay (Source source) n size same = absurd cc
    inlets_stay (Inlets head) n size same = (head, refl, sym (ap number same))
      where
        number : HeadFrame → ℕ
        number (by_inlets k size) = k
        number other = 0

    fed_behind : (k : ℕ) (head : InletHead I) → IsFed tasks k head → (head' : InletHead I) × IsFed tasks' k head' × (head'.number ≡ head.number)
    fed_behind k head fed =
        let b = behind k fed.task fed.at in
        let same = sym (ap (λ (h : Head S I O s). head_frame o h) fed.head_is) ∙ ap (λ (f : TaskFrame). f.head) b.frame in
        let found = inlets_stay b.task.head head.number _ same in
        (found.0, record { task = b.task; at = b.at; head_is = found.1 }, found.2)

    module _ (g : Edited) (m : Moment) (stands : NetStands m tasks tells) (nothing_new : HoldsNothingNew s e i o) (are : AreTasksOf g tasks) where
      pub steps_keep : AreTasksOf g tasks'
      steps_keep = record {
        there = λ k n own. are.there k n (owns_before k n own);
        awake = λ k n own. are.awake k n (owns_before k n own);
        owned = λ n there awake. let z = are.owned n there awake in (z.0, owns_behind z.0 n z.1);
        fed = λ n there has. let z = are.fed n there has in let f = fed_behind z.0 z.1 z.2 in (z.0, f.0, f.1, f.2 ∙ z.3);
        inner = λ k task wire n port at is leads. let b = before k task at in are.inner k b.task wire n port b.at (subst (λ (f : TaskFrame). IsWire f wire) b.frame is) leads;
        lanes = λ k task wire lane n port from at is leads. let b = before k task at in are.lanes k b.task wire lane n port from b.at (subst (λ (f : TaskFrame). IsWire f wire) b.frame is) leads;
        sources = λ k task n file wire at head. let b = before k task at in are.sources k b.task n file wire b.at (sym (ap (λ (f : TaskFrame). f.head) b.frame) ∙ head);
        bare = λ k n port row has none. let z = nothing_new m tasks tasks' tells tells' place step stands stepped k n port row has in z.2.empty (are.bare k n port z.0 z.1 none);
        reached = λ k task n at has. let b = before k task at in
            subst (λ (f : TaskFrame). IsReachedIn f n) (sym b.frame) (are.reached k b.task n b.at (subst (λ (f : TaskFrame). HasElement f n) b.frame has));
      }

pub steps_keep_tasks : {S E I O L : Type 0} (s : sources.Ghosts S) (e : elements.Ghosts E) (i : inlets.Ghosts I L O) (o : outlets.Ghosts O L) → StepsKeepTasks s e i o
steps_keep_tasks s e i o g m tasks tasks' tells tells' place step stands stepped are = steps_keep tasks tasks' tells tells' place step stepped g m stands (holds_nothing s e i o) are
