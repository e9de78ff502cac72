-- The tasks that have a row of a sink pad, and what becomes of it.
use Rattle.std.proofs.Common.{◌≡◌, ℕ, List, Some, get_or, refl, sym, ◌∙◌, subst}
use Rattle.std.specs.Prelude.{slice_get}
use Rattle.std.proofs.lemmas.Option.{slice_get_within}
use Rattle.gst_value.proofs.Basics.{some_same}
use Rattle.gst_value.proofs.Places.{found_at}
use Rattle.lane_core.specs.declared.ends.Inlet as inlets
use Rattle.lane_core.specs.declared.ends.Outlet as outlets
use Rattle.inlet_row.specs.declared.row.InletRow.{InletRow}
use Rattle.flow_model.specs.declared.element.TaskElement as elements
use Rattle.flow_model.specs.declared.source.TaskSource as sources
use Rattle.task_parts.proofs.Lists.{at_get}
use Rattle.task_parts.specs.declared.head.Head.{Head}
use Rattle.task_parts.specs.declared.head.Head.TheVariants.{Source, Inlets}
use Rattle.task_parts.specs.declared.head.InletHead.{InletHead}
use Rattle.task_parts.specs.declared.part.Part.{Part}
use Rattle.net_task.specs.declared.task.Task.{Task}
use Rattle.net_turns.specs.Net.{HasRow}
use Rattle.task_edits.specs.Openings.{OpensAt}
use Rattle.task_edits.specs.Places.{HasPad}
use Rattle.task_edits.specs.declared.openings.Opening.{Opening}
use Rattle.net_edits.specs.Nets.{TaskHas}
use Rattle.net_edits.specs.Over.{FeedsPad, HasRowOf, HeadExchanged, InletsExchanged, NoneFeeds, TaskExchanged, TaskFeeds}

module _ {S E I O L : Type 0} {s : sources.Ghosts S} {e : elements.Ghosts E} {i : inlets.Ghosts I L O} {o : outlets.Ghosts O L} where
  pub feeds_row : (tasks : List (Task S E I O L s e i o)) (place element port : ℕ) (task : Task S E I O L s e i o) → slice_get tasks place ≡ Some task → FeedsPad task.head element port → TaskFeeds tasks element port place
  feeds_row tasks place element port task at f = go task.head refl f
    where
      go : (head : Head S I O s) → task.head ≡ head → FeedsPad head element port → TaskFeeds tasks element port place
      go (Source head) is h = absurd h
      go (Inlets head) is h = let row = found_at head.rows.items port h.1 in (row.0, record { head = head; fed = record { task = task; at = at; head_is = is }; number = h.0; at = row.1 })

  row_feeds : (tasks : List (Task S E I O L s e i o)) (place element port : ℕ) (row : InletRow I) (h : HasRow tasks place element port row) → FeedsPad h.fed.task.head element port
  row_feeds tasks place element port row h = subst (λ (x : Head S I O s). FeedsPad x element port) (sym h.fed.head_is) (h.number, slice_get_within h.head.rows.items port row h.at)

  pub none_feeds : (tasks : List (Task S E I O L s e i o)) (element port : ℕ) → ((k : ℕ) (task : Task S E I O L s e i o) → slice_get tasks k ≡ Some task → FeedsPad task.head element port → ⊥) → NoneFeeds tasks element port
  none_feeds tasks element port none k row h = none k h.fed.task h.fed.at (row_feeds tasks k element port row h)

  -- the task that feeds a sink pad has a row of it
  pub feeds_has : (tasks : List (Task S E I O L s e i o)) (place element port : ℕ) → TaskFeeds tasks element port place → (task : Task S E I O L s e i o) → slice_get tasks place ≡ Some task → HasRowOf task.head port
  feeds_has tasks place element port f task at = go task.head (row_feeds_of task at)
    where
      row_feeds_of : (task : Task S E I O L s e i o) → slice_get tasks place ≡ Some task → FeedsPad task.head element port
      row_feeds_of task at = subst (λ (x : Task S E I O L s e i o). FeedsPad x.head element port) (some_same (sym f.1.fed.at ∙ at)) (row_feeds tasks place element port f.0 f.1)

      go : (head : Head S I O s) → FeedsPad head element port → HasRowOf head port
      go (Source head) h = h
      go (Inlets head) h = h.1

module _ {S I O : Type 0} {s : sources.Ghosts S} where
  -- a head one of whose rows is another
  pub record HeadsExchanged (head head' : Head S I O s) (port : ℕ) (row back : InletRow I) : Type 0 where
    pub old : InletHead I
    pub new : InletHead I
    pub was_fed : head ≡ Inlets old
    pub fed : head' ≡ Inlets new
    pub rows : InletsExchanged old new port row back

  pub heads_exchanged : (head head' : Head S I O s) (port : ℕ) (row back : InletRow I) → HeadExchanged head head' port row back → HeadsExchanged head head' port row back
  heads_exchanged (Source head) head' port row back h = absurd h
  heads_exchanged (Inlets head) (Source head') port row back h = absurd h
  heads_exchanged (Inlets head) (Inlets head') port row back h = record { old = head; new = head'; was_fed = refl; fed = refl; rows = h }

module _ {S E I O L : Type 0} {s : sources.Ghosts S} {e : elements.Ghosts E} {i : inlets.Ghosts I L O} {o : outlets.Ghosts O L} where
  -- so it is with the task that is made of it
  pub task_exchanged : (was is : Task S E I O L s e i o) (head head' : Head S I O s) (parts : List (Part E O e)) (port : ℕ) (row back : InletRow I) → head ≡ was.head → is.head ≡ head' → parts ≡ was.parts.items → is.parts.items ≡ parts
      → HeadExchanged head head' port row back → TaskExchanged was is port row back
  task_exchanged was is head head' parts port row back before now parts_before parts_now h =
      let z = heads_exchanged head head' port row back h in record { old = z.old; new = z.new; was_fed = sym before ∙ z.was_fed; fed = now ∙ z.fed; rows = z.rows; parts = parts_now ∙ parts_before }

module _ {S E I O L : Type 0} {s : sources.Ghosts S} {e : elements.Ghosts E} {i : inlets.Ghosts I L O} {o : outlets.Ghosts O L} where
  -- the opening is that of the task that has the pad
  pub opens_there : (tasks : List (Task S E I O L s e i o)) (place pad : ℕ) (has : TaskHas tasks pad place) (task : Task S E I O L s e i o) (opening : Opening) → task ≡ get_or tasks place task → OpensAt task.head task.parts.items pad opening
      → OpensAt has.task.head has.task.parts.items pad opening
  opens_there tasks place pad has task opening is opens =
      subst (λ (x : Task S E I O L s e i o). OpensAt x.head x.parts.items pad opening) (at_get tasks place has.task task has.at is) opens

  -- what was read there is the task with the pad
  pub pad_read : (tasks : List (Task S E I O L s e i o)) (place pad : ℕ) (has : TaskHas tasks pad place) (task : Task S E I O L s e i o) → task ≡ get_or tasks place task → HasPad task.head task.parts.items pad
  pad_read tasks place pad has task is = subst (λ (x : Task S E I O L s e i o). HasPad x.head x.parts.items pad) (sym (at_get tasks place has.task task has.at is)) has.has
