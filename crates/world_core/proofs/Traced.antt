-- Where the elements and sources of tasks that were stepped come from.
use Rattle.std.proofs.Common.{◌≡◌, ℕ, List, Option, Some, length, map, sym, ap, ap₂, ◌∙◌, subst, arith}
use Rattle.std.specs.Prelude.{slice_get}
use Rattle.std.proofs.lemmas.Option.{same_Some, slice_get_within}
use Rattle.flow_model.specs.declared.element.TaskElement as elements
use Rattle.flow_model.specs.declared.source.TaskSource as givers
use Rattle.flow_model.specs.Account.{IsMember}
use Rattle.graph_parts.specs.Bags.{Once}
use Rattle.graph_parts.specs.declared.bag.Bag.{Bag}
use Rattle.graph_core.specs.Elements.{Made}
use Rattle.graph_pads.specs.declared.pad.PadLink.{PadLink}
use Rattle.graph_tasks.specs.Tasks.{AreTasks, IsOf}
use Rattle.graph_tasks.specs.Wired.{AreWired, number_in, part_numbers}
use Rattle.graph_tasks.specs.declared.wired_task.WiredTask.{WiredTask}
use Rattle.lane_core.specs.Lane.{Lane}
use Rattle.lane_core.specs.declared.ends.Inlet as inlets
use Rattle.lane_core.specs.declared.ends.Outlet as outlets
use Rattle.net_task.specs.Frame.{PartFrame, TaskFrame, frame_of, part_frame}
use Rattle.net_task.specs.declared.task.Task.{Task}
use Rattle.net_turns.specs.Rests.{AllFramed}
use Rattle.task_parts.specs.declared.part.Part.{Part}
use Rattle.world_core.proofs.Members.{flat_got, flat_once, flat_place}
use Rattle.flow_model.proofs.Items.{get_member, member_got}
use Rattle.graph_parts.proofs.Apart.{place_once}
use Rattle.gst_value.proofs.Places.{found_at as got_within, map_get as get_map, map_got}

-- An element of a task was taken from under its number, and writes its file where it did.
pub record TakenFrom {I O E : Type 0} (e : elements.Ghosts E) (ends : List (Option E)) (plans : List (WiredTask I O)) (k j d : ℕ) (x : E) : Type 0 where
  pub plan : WiredTask I O
  pub at : slice_get plans k ≡ Some plan
  pub numbered : slice_get (map number_in plan.parts.items) j ≡ Some d
  pub was : E
  pub stood : IsOf ends d was
  pub same_file : e.file x ≡ e.file was

-- An element of tasks stands at this place.
pub record PartAt {S E I O L : Type 0} {s : givers.Ghosts S} {e : elements.Ghosts E} {i : inlets.Ghosts I L O} {o : outlets.Ghosts O L}
    (tasks : List (Task S E I O L s e i o)) (k j d : ℕ) : Type 0 where
  pub task : Task S E I O L s e i o
  pub at : slice_get tasks k ≡ Some task
  pub part : Part E O e
  pub inner : slice_get task.parts.items j ≡ Some part
  pub number : part.number ≡ d

module _ {S E I O L : Type 0} {s : givers.Ghosts S} {e : elements.Ghosts E} {i : inlets.Ghosts I L O} {o : outlets.Ghosts O L} where
  -- two tasks with one frame have the same parts
  pub part_back : (after before : Task S E I O L s e i o) (j : ℕ) (part : Part E O e) → frame_of after ≡ frame_of before → slice_get after.parts.items j ≡ Some part
      → (was : Part E O e) × (slice_get before.parts.items j ≡ Some was) × (part_frame o part ≡ part_frame o was)
  part_back after before j part same here =
      map_got (part_frame o) before.parts.items j (part_frame o part)
      (sym (ap (λ (f : TaskFrame). slice_get f.parts j) same) ∙ get_map (part_frame o) after.parts.items j part here)

module _ {S E I O L : Type 0} {s : givers.Ghosts S} {e : elements.Ghosts E} (i : inlets.Ghosts I L O) (o : outlets.Ghosts O L)
    (made : List Made) (links : List PadLink) (ends : List (Option E)) (files : List (Option S)) (bags : List Bag)
    (first last : List (Task S E I O L s e i o)) (table : List Lane) (plans : List (WiredTask I O)) (are : AreTasks i o made links ends files bags first table)
    (wired : AreWired i o made links bags plans table) (framed : AllFramed first last) (count : length last ≡ length first) where
  pub taken_from : (k j d : ℕ) → (own : PartAt last k j d) → TakenFrom e ends plans k j d own.part.element
  taken_from k j d own =
      let w = slice_get_within last k own.task own.at in
      let before = got_within first k (omega (arith, w, count)) in
      let bag = got_within bags k (omega (arith, w, count, are.count)) in
      let plan = got_within plans k (omega (arith, w, count, are.count, wired.count)) in
      let is = are.each k bag.0 before.0 bag.1 before.1 in
      let made_so = wired.each k bag.0 plan.0 bag.1 plan.1 in
      let part = part_back own.task before.0 j own.part (framed k before.0 own.task before.1 own.at) own.inner in
      let inner = slice_get_within before.0.parts.items j part.0 part.1 in
      let cell = got_within bag.0.elements.items j (omega (arith, inner, is.count)) in
      let own_plan = got_within plan.0.parts.items j (omega (arith, inner, is.count, made_so.count)) in
      let from = is.parts j cell.0 part.0 cell.1 part.1 in
      let number : cell.0.element ≡ d = sym from.number ∙ sym (ap (λ (f : PartFrame). f.number) part.2) ∙ own.number in
      record {
        plan = plan.0;
        at = plan.1;
        numbered =
            get_map number_in plan.0.parts.items j own_plan.0 own_plan.1
            ∙ ap (λ (n : ℕ). Some n) ((made_so.parts j cell.0 own_plan.0 cell.1 own_plan.1).number ∙ number);
        was = part.0.element;
        stood = subst (λ (n : ℕ). IsOf ends n part.0.element) number from.element;
        same_file = ap (λ (f : PartFrame). f.file) part.2;
      }

  -- and for each number of an element there is one
  pub part_there : (d : ℕ) → IsMember d (part_numbers plans) → (k : ℕ) × (j : ℕ) × PartAt last k j d
  part_there d m =
      let in_plan = flat_got (λ (task : WiredTask I O). map number_in task.parts.items) plans d m in
      let k = in_plan.0 in
      let plan = in_plan.1 in
      let place = member_got (map number_in plan.parts.items) d in_plan.3 in
      let j = place.0 in
      let own = map_got number_in plan.parts.items j d place.1 in
      let w = slice_get_within plans k plan in_plan.2 in
      let bag = got_within bags k (omega (arith, w, wired.count)) in
      let before = got_within first k (omega (arith, w, wired.count, are.count)) in
      let after = got_within last k (omega (arith, w, wired.count, are.count, count)) in
      let is = are.each k bag.0 before.0 bag.1 before.1 in
      let made_so = wired.each k bag.0 plan bag.1 in_plan.2 in
      let inner = slice_get_within plan.parts.items j own.0 own.1 in
      let cell = got_within bag.0.elements.items j (omega (arith, inner, made_so.count)) in
      let part = got_within before.0.parts.items j (omega (arith, inner, made_so.count, is.count)) in
      let same = framed k before.0 after.0 before.1 after.1 in
      let now = part_back before.0 after.0 j part.0 (sym same) part.1 in
      let number : cell.0.element ≡ d = sym (made_so.parts j cell.0 own.0 cell.1 own.1).number ∙ sym own.2 in (
        k,
        j,
        record {
          task = after.0;
          at = after.1;
          part = now.0;
          inner = now.1;
          number = sym (ap (λ (f : PartFrame). f.number) now.2) ∙ (is.parts j cell.0 part.0 cell.1 part.1).number ∙ number;
        },
      )

  -- a number has one part
  pub one_part : Once (part_numbers plans) → (k j l m d : ℕ) (own : PartAt last k j d) (other : PartAt last l m d) → own.part ≡ other.part
  one_part once k j l m d own other =
      let a = taken_from k j d own in
      let b = taken_from l m d other in
      let numbers : WiredTask I O → List ℕ = λ task. map number_in task.parts.items in
      let same : k ≡ l =
      flat_place numbers plans k l a.plan b.plan d once a.at (get_member (numbers a.plan) j d a.numbered) b.at
      (get_member (numbers b.plan) m d b.numbered) in
      let plan : b.plan ≡ a.plan = same_Some b.plan a.plan (sym b.at ∙ ap (λ (n : ℕ). slice_get plans n) (sym same) ∙ a.at) in
      let inner : j ≡ m =
      place_once (numbers a.plan) j m d (flat_once numbers plans k a.plan once a.at) a.numbered
      (subst (λ (p : WiredTask I O). slice_get (numbers p) m ≡ Some d) plan b.numbered) in
      let task : own.task ≡ other.task = same_Some own.task other.task (sym own.at ∙ ap (λ (n : ℕ). slice_get last n) same ∙ other.at) in
      same_Some own.part other.part (sym own.inner ∙ ap₂ (λ (t : Task S E I O L s e i o) (n : ℕ). slice_get t.parts.items n) task inner ∙ other.inner)
