-- The tasks but that of an element are those of the graph without it, where no link touches it.
use Rattle.std.proofs.Common.{◌≡◌, ◌≢◌, ℕ, true, false, List, Option, Some, sym, ap, ◌∙◌, subst}
use Rattle.std.specs.Prelude.{slice_get}
use Rattle.std.specs.List.{remove}
use Rattle.flow_model.specs.Item.{Item}
use Rattle.lane_core.specs.Lane.{Lane}
use Rattle.lane_core.specs.declared.ends.Inlet as inlets
use Rattle.lane_core.specs.declared.ends.Outlet as outlets
use Rattle.flow_model.specs.Moment.{Moment}
use Rattle.flow_model.specs.declared.element.TaskElement as elements
use Rattle.flow_model.specs.declared.source.TaskSource as sources
use Rattle.task_pads.specs.Behind.{inside, over}
use Rattle.task_parts.specs.declared.head.InletHead.{InletHead}
use Rattle.gst_value.proofs.Basics.{some_same}
use Rattle.net_task.specs.declared.task.Task.{Task}
use Rattle.net_task.specs.Frame.{IsWire, Wire, frame_of}
use Rattle.net_turns.specs.Net.{HasElement, IsFed, NetStands, Owns}
use Rattle.net_turns.proofs.Facts.{fed_owned}
use Rattle.net_edits.specs.Adding.{NoneOwns}
use Rattle.net_groups.proofs.Lists.{removed_back, removed_on}
use Rattle.graph_edits.specs.Edited.{Edited, is_there, without_element}
use Rattle.graph_edits.specs.Growing.{IsKept}
use Rattle.graph_edits.specs.Lawful.{has_link}
use Rattle.graph_edits.specs.Plans.{is_asleep}
use Rattle.graph_edits.specs.Refused.{has_lanes}
use Rattle.edit_core.specs.Tasks.{AreTasksOf}
use Rattle.edit_core.specs.Ways.{IsRun}
use Rattle.edit_acts.specs.Removed.{IsTakenOut}
use Rattle.edit_acts.specs.declared.removing.TakenOut.{TakenOut}
use Rattle.edit_acts.proofs.Alone.{inside_link, only, over_link}
use Rattle.edit_acts.proofs.Gone.{not_sink, still_there, was_there}

module _ {S E I O L : Type 0} {s : sources.Ghosts S} {e : elements.Ghosts E} {i : inlets.Ghosts I L O} {o : outlets.Ghosts O L} where
  -- the task of a place is one of a list, and has not the element
  pub record OtherAt (tasks : List (Task S E I O L s e i o)) (n x : ℕ) (task : Task S E I O L s e i o) : Type 0 where
    pub at : slice_get tasks x ≡ Some task
    pub not : HasElement (frame_of task) n → ⊥

  -- The tasks are those of a list that have not the element.
  pub record AreOthers (tasks tasks' : List (Task S E I O L s e i o)) (n : ℕ) : Type 0 where
    pub back : (k : ℕ) (task : Task S E I O L s e i o) → slice_get tasks' k ≡ Some task → (x : ℕ) × OtherAt tasks n x task
    pub on : (x : ℕ) (task : Task S E I O L s e i o) → OtherAt tasks n x task → (k : ℕ) × (slice_get tasks' k ≡ Some task)

  -- where none has it they are all
  pub none_others : (tasks : List (Task S E I O L s e i o)) (n : ℕ) → NoneOwns tasks n → AreOthers tasks tasks n
  none_others tasks n none = record {
    back = λ k task at. (k, record { at = at; not = λ has. none k (record { task = task; at = at; has = has }) });
    on = λ x task other. (x, other.at);
  }

  -- the one that has it was taken out
  pub taken_others : (tasks tasks' : List (Task S E I O L s e i o)) (n : ℕ) (out : TakenOut S E I O L s e i o) → ((k j : ℕ) → Owns tasks k n → Owns tasks j n → k ≡ j) → IsTakenOut tasks tasks' n out → AreOthers tasks tasks' n
  taken_others tasks tasks' n out once taken = subst (λ (ts : List (Task S E I O L s e i o)). AreOthers tasks ts n) (sym taken.rest) (record { back = back; on = on })
    where
      owns : Owns tasks out.place n
      owns = record { task = out.task; at = taken.at; has = taken.has }

      back : (k : ℕ) (one : Task S E I O L s e i o) → slice_get (remove tasks out.place) k ≡ Some one → (x : ℕ) × OtherAt tasks n x one
      back k one at =
          let z = removed_back tasks out.place k one at in
          (z.0, record { at = z.2; not = λ has. z.3 (once z.0 out.place (record { task = one; at = z.2; has = has }) owns) })

      on : (x : ℕ) (one : Task S E I O L s e i o) → OtherAt tasks n x one → (k : ℕ) × (slice_get (remove tasks out.place) k ≡ Some one)
      on x one other =
          let z = removed_on tasks out.place x one other.at
          (λ same. other.not (subst (λ (t : Task S E I O L s e i o). HasElement (frame_of t) n) (some_same (sym taken.at ∙ ap (λ (y : ℕ). slice_get tasks y) (sym same) ∙ other.at)) taken.has)) in
          (z.0, z.2)

  module _ (g : Edited) (m : Moment) (tasks tasks' : List (Task S E I O L s e i o)) (tells : Option (List Lane)) (run : IsRun g m tasks tells) (n : ℕ) (none : has_link g n ≡ false) (others : AreOthers tasks tasks' n) where
    -- each element of the tasks is another, and was of one
    pub owns_back : (k b : ℕ) → Owns tasks' k b → ((x : ℕ) × Owns tasks x b) × (b ≡ n → ⊥)
    owns_back k b own =
        let z = others.back k own.task own.at in
        ((z.0, record { task = own.task; at = z.1.at; has = own.has }), λ same. z.1.not (subst (λ (a : ℕ). HasElement (frame_of own.task) a) same own.has))

    -- the task of another element has not this one
    apart : (x b : ℕ) (task : Task S E I O L s e i o) → slice_get tasks x ≡ Some task → HasElement (frame_of task) b → (b ≡ n → ⊥) → HasElement (frame_of task) n → ⊥
    apart x b task at has other own = other (only g m tasks tells run n none x task at own b has)

    owned : (b : ℕ) → is_there (without_element n g) b ≡ true → is_asleep g b ≡ false → (k : ℕ) × Owns tasks' k b
    owned b there awake =
        let was = was_there g n b there in
        let own = run.are.owned b was.0 awake in
        let z = others.on own.0 own.1.task (record { at = own.1.at; not = apart own.0 b own.1.task own.1.at own.1.has was.1 }) in
        (z.0, record { task = own.1.task; at = z.1; has = own.1.has })

    fed : (b : ℕ) → is_there (without_element n g) b ≡ true → has_lanes g b ≡ true → (k : ℕ) × (head : InletHead I) × IsFed tasks' k head × (head.number ≡ b)
    fed b there lanes =
        let was = was_there g n b there in
        let f = run.are.fed b was.0 lanes in
        let own = fed_owned tasks f.0 f.1 f.2 in
        let has : HasElement (frame_of f.2.task) b =
        subst (λ (a : ℕ). HasElement (frame_of f.2.task) a) f.3 (subst (λ (t : Task S E I O L s e i o). HasElement (frame_of t) f.1.number) (some_same (sym own.at ∙ f.2.at)) own.has) in
        let z = others.on f.0 f.2.task (record { at = f.2.at; not = apart f.0 b f.2.task f.2.at has was.1 }) in
        (z.0, f.1, record { task = f.2.task; at = z.1; head_is = f.2.head_is }, f.3)

    inner : (k : ℕ) (task : Task S E I O L s e i o) (wire : Wire) (b port : ℕ) → slice_get tasks' k ≡ Some task → IsWire (frame_of task) wire → wire.leads ≡ inside b port
        → (is_there (without_element n g) b ≡ true) × (has_lanes g b ≡ false) × (port ≡ 0)
    inner k task wire b port at is leads =
        let z = others.back k task at in
        let was = run.are.inner z.0 task wire b port z.1.at is leads in
        let link = inside_link g m tasks tells run z.0 task z.1.at wire is b port leads in
        (still_there g n b (λ same. not_sink g n link.0 none link.1 (link.3 ∙ same)) was.0, was.1, was.2)

    lanes : (k : ℕ) (task : Task S E I O L s e i o) (wire : Wire) (lane b port from : ℕ) → slice_get tasks' k ≡ Some task → IsWire (frame_of task) wire → wire.leads ≡ over lane b port from
        → (is_there (without_element n g) b ≡ true) × (has_lanes g b ≡ true)
    lanes k task wire lane b port from at is leads =
        let z = others.back k task at in
        let was = run.are.lanes z.0 task wire lane b port from z.1.at is leads in
        let link = over_link g m tasks tells run z.0 task z.1.at wire is b port lane from leads in
        (still_there g n b (λ same. not_sink g n link.0 none link.1 (link.3 ∙ same)) was.0, was.1)

    others_are : AreTasksOf (without_element n g) tasks'
    others_are = record {
      there = λ k b own. let z = owns_back k b own in still_there g n b z.1 (run.are.there z.0.0 b z.0.1);
      awake = λ k b own. let z = owns_back k b own in run.are.awake z.0.0 b z.0.1;
      owned = owned;
      fed = fed;
      inner = inner;
      lanes = lanes;
      sources = λ k task b file wire at head. let z = others.back k task at in run.are.sources z.0 task b file wire z.1.at head;
      bare = λ k b port row has lanes.
          let z = others.back k has.fed.task has.fed.at in
          run.are.bare z.0 b port row (record { head = has.head; fed = record { task = has.fed.task; at = z.1.at; head_is = has.fed.head_is }; number = has.number; at = has.at }) lanes;
      reached = λ k task b at has. let z = others.back k task at in run.are.reached z.0 task b z.1.at has;
    }

    -- They are a run of that graph, at a moment that tells of each other element what this one did.
    pub others_run : (m' : Moment) → m'.history ≡ m.history → m'.plan.owner ≡ m.plan.owner → ((a : ℕ) → a ≢ n → m'.plan.sinks a ≡ m.plan.sinks a) → NetStands m' tasks' tells → IsRun (without_element n g) m' tasks' tells
    others_run m' history owner sinks net = record {
      net = net;
      are = others_are;
      sinks = λ a there. let was = was_there g n a there in sinks a was.1 ∙ run.sinks a was.0;
      owners = λ p a own there. run.owners p a (ap (λ (f : ℕ → ℕ). f p) (sym owner) ∙ own) (was_there g n a there).0;
      kept = subst (λ (h : ℕ → List Item). IsKept h (without_element n g)) (sym history) (record { within = run.kept.within; linked = run.kept.linked });
      links = record { counted = run.links.counted; single = run.links.single; stands = run.links.stands };
      made = run.made;
      unmarked = run.unmarked;
    }
