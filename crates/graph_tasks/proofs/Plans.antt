-- Tasks that are made of the wired tasks of a plan, one behind the other.
use Rattle.std.proofs.Common.{◌≡◌, ℕ, zero, suc, List, [], ◌∷◌, ◌++◌, Option, Some, length, map, refl, sym, ap, ◌∙◌, subst, inl}
use Rattle.std.specs.Prelude.{slice_get}
use Rattle.std.specs.List.{AllZip}
use Rattle.flow_model.specs.Account.{IsMember}
use Rattle.lane_core.specs.declared.ends.Inlet as inlets
use Rattle.lane_core.specs.declared.ends.Outlet as outlets
use Rattle.flow_model.specs.declared.element.TaskElement as elements
use Rattle.flow_model.specs.declared.source.TaskSource as sources
use Rattle.graph_parts.specs.Bags.{Once}
use Rattle.graph_parts.proofs.Onces.{once_apart, once_back, once_front, in_front, in_back}
use Rattle.task_parts.specs.declared.head.Head.{Head}
use Rattle.task_parts.specs.declared.head.Head.TheVariants as heads
use Rattle.net_task.specs.declared.task.Task.{Task}
use Rattle.graph_tasks.specs.Making.{IsHeadFrom, IsTaskFrom}
use Rattle.graph_tasks.specs.Plan.{AreThere, HeadAt, IsThere, without}
use Rattle.graph_tasks.specs.Wired.{number_in, part_numbers, source_in, source_numbers}
use Rattle.graph_tasks.specs.declared.wired_task.WiredHead.{WiredHead}
use Rattle.graph_tasks.specs.declared.wired_task.WiredHead.TheVariants.{Source, Inlets}
use Rattle.graph_tasks.specs.declared.wired_task.WiredTask.{WiredTask}
use Rattle.graph_tasks.proofs.Takes.{without_more, without_none, without_stays, without_stood}
use Rattle.graph_tasks.proofs.Fillings.{at_end, element_stays, part_among, parts_stood, zip_done, zip_each}
use Rattle.gst_value.proofs.Places.{nil_append as nil}

module _ {S I O : Type 0} {s : sources.Ghosts S} where
  head_stood : (ns : List ℕ) (files : List (Option S)) (wired : WiredHead I O) (head : Head S I O s) → IsHeadFrom (without ns files) wired head → IsHeadFrom files wired head
  head_stood ns files (Source number pad) (heads.Source head) is = (is.0, without_stood ns files number head.source is.1, is.2, is.3)
  head_stood ns files (Inlets number hint rows) (heads.Inlets head) is = is
  head_stood ns files (Source number pad) (heads.Inlets head) is = absurd is
  head_stood ns files (Inlets number hint rows) (heads.Source head) is = absurd is

module _ {S E I O L : Type 0} {s : sources.Ghosts S} {e : elements.Ghosts E} {i : inlets.Ghosts I L O} {o : outlets.Ghosts O L} where
  task_stood : (ns ms : List ℕ) (ends : List (Option E)) (files : List (Option S)) (wired : WiredTask I O) (task : Task S E I O L s e i o) → IsTaskFrom (without ns ends) (without ms files) wired task → IsTaskFrom ends files wired task
  task_stood ns ms ends files wired task is = record {
    head = head_stood ms files wired.head task.head is.head;
    parts = parts_stood ns ends wired.parts.items task.parts.items is.parts;
  }

module _ {I O : Type 0} where
  among_parts : (tasks : List (WiredTask I O)) (k : ℕ) (task : WiredTask I O) (d : ℕ) → slice_get tasks k ≡ Some task → IsMember d (map number_in task.parts.items) → IsMember d (part_numbers tasks)
  among_parts [] k task d at m = absurd (cc)
  among_parts (t ∷ ts) zero task d at m = in_front d (map number_in t.parts.items) (part_numbers ts) (subst (λ (one : WiredTask I O). IsMember d (map number_in one.parts.items)) (same at) m)
    where
      same : Some t ≡ Some task → task ≡ t
      same e = cc
  among_parts (t ∷ ts) (suc k) task d at m = in_back d (map number_in t.parts.items) (part_numbers ts) (among_parts ts k task d at m)

  among_sources : (tasks : List (WiredTask I O)) (k : ℕ) (task : WiredTask I O) (d : ℕ) → slice_get tasks k ≡ Some task → IsMember d (source_in task.head) → IsMember d (source_numbers tasks)
  among_sources [] k task d at m = absurd (cc)
  among_sources (t ∷ ts) zero task d at m = in_front d (source_in t.head) (source_numbers ts) (subst (λ (one : WiredTask I O). IsMember d (source_in one.head)) (same at) m)
    where
      same : Some t ≡ Some task → task ≡ t
      same e = cc
  among_sources (t ∷ ts) (suc k) task d at m = in_back d (source_in t.head) (source_numbers ts) (among_sources ts k task d at m)

module _ {S : Type 0} (s : sources.Ghosts S) where
  head_stays : {I O : Type 0} (ns : List ℕ) (files : List (Option S)) (head : WiredHead I O) → ((d : ℕ) → IsMember d (source_in head) → IsMember d ns → ⊥) → HeadAt s files head → HeadAt s (without ns files) head
  head_stays ns files (Source number pad) other at = record { source = at.source; at = without_stays ns files number at.source (other number (inl refl)) at.at; fresh = at.fresh }
  head_stays ns files (Inlets number hint rows) other at = tt

module _ {S E I O : Type 0} (s : sources.Ghosts S) (e : elements.Ghosts E) where
  -- one task is made; what the others are made of is there still
  pub tasks_left : (first : WiredTask I O) (rest : List (WiredTask I O)) (ends : List (Option E)) (files : List (Option S)) → AreThere s e (first ∷ rest) ends files
      → AreThere s e rest (without (map number_in first.parts.items) ends) (without (source_in first.head) files)
  tasks_left first rest ends files are = record {
    each = each;
    parts_once = once_back (map number_in first.parts.items) (part_numbers rest) are.parts_once;
    sources_once = once_back (source_in first.head) (source_numbers rest) are.sources_once;
  }
    where
      each : (k : ℕ) (task : WiredTask I O) → slice_get rest k ≡ Some task → IsThere s e (without (map number_in first.parts.items) ends) (without (source_in first.head) files) task
      each k task at =
          let is = are.each (suc k) task at in
          record {
            closed = is.closed;
            parts = λ j part here.
                element_stays e (map number_in first.parts.items) ends part.number (length part.pads.items)
                (λ m. once_apart (map number_in first.parts.items) (part_numbers rest) are.parts_once part.number m
                (among_parts rest k task part.number at (part_among task.parts.items j part here)))
                (is.parts j part here);
            head =
                head_stays s (source_in first.head) files task.head
                (λ d m n. once_apart (source_in first.head) (source_numbers rest) are.sources_once d n (among_sources rest k task d at m))
                is.head;
          }

-- What is known within the making of tasks: what those that are left are made of is there, and with them all are made.
pub record TasksSoon {S E I O L : Type 0} (s : sources.Ghosts S) (e : elements.Ghosts E) (i : inlets.Ghosts I L O) (o : outlets.Ghosts O L) (all : List (WiredTask I O)) (start : List (Option E)) (files : List (Option S))
    (rest : List (WiredTask I O)) (now : List (Option E)) (later : List (Option S)) (tasks : List (Task S E I O L s e i o)) : Type 0 where
  pub there : AreThere s e rest now later
  pub elements_left : without (part_numbers rest) now ≡ without (part_numbers all) start
  pub sources_left : without (source_numbers rest) later ≡ without (source_numbers all) files
  pub goes_on : (more : List (Task S E I O L s e i o)) → AllZip (IsTaskFrom now later) rest more → AllZip (IsTaskFrom start files) all (tasks ++ more)

module _ {S E I O L : Type 0} (s : sources.Ghosts S) (e : elements.Ghosts E) (i : inlets.Ghosts I L O) (o : outlets.Ghosts O L) (all : List (WiredTask I O)) (start : List (Option E)) (files : List (Option S)) where
  pub tasks_begin : (tasks : List (Task S E I O L s e i o)) → tasks ≡ [] → AreThere s e all start files → TasksSoon s e i o all start files all start files tasks
  tasks_begin tasks none there = record {
    there = there;
    elements_left = refl;
    sources_left = refl;
    goes_on = λ more zip. subst (λ (ts : List (Task S E I O L s e i o)). AllZip (IsTaskFrom start files) all (ts ++ more)) (sym none) zip;
  }

  module _ (first : WiredTask I O) (rest rest' : List (WiredTask I O)) (now : List (Option E)) (later : List (Option S)) (tasks : List (Task S E I O L s e i o)) (is : rest ≡ first ∷ rest')
      (so : TasksSoon s e i o all start files rest now later tasks) where
    they_are : AreThere s e (first ∷ rest') now later
    they_are = subst (λ (ts : List (WiredTask I O)). AreThere s e ts now later) is so.there

    pub first_there : IsThere s e now later first
    first_there = they_are.each 0 first refl

    pub first_once : Once (map number_in first.parts.items)
    first_once = once_front (map number_in first.parts.items) (part_numbers rest') they_are.parts_once

    pub tasks_step : (now' : List (Option E)) (later' : List (Option S)) (tasks' : List (Task S E I O L s e i o)) (one : Task S E I O L s e i o) → now' ≡ without (map number_in first.parts.items) now
        → later' ≡ without (source_in first.head) later → IsTaskFrom now later first one → tasks' ≡ tasks ++ one ∷ [] → TasksSoon s e i o all start files rest' now' later' tasks'
    tasks_step now' later' tasks' one taken given from more = record {
      there =
          subst (λ (ends : List (Option E)). AreThere s e rest' ends later') (sym taken)
          (subst (λ (ends : List (Option S)). AreThere s e rest' (without (map number_in first.parts.items) now) ends) (sym given) (tasks_left s e first rest' now later they_are));
      elements_left =
          ap (without (part_numbers rest')) taken ∙ sym (without_more (map number_in first.parts.items) (part_numbers rest') now)
          ∙ ap (λ (ts : List (WiredTask I O)). without (part_numbers ts) now) (sym is) ∙ so.elements_left;
      sources_left =
          ap (without (source_numbers rest')) given ∙ sym (without_more (source_in first.head) (source_numbers rest') later)
          ∙ ap (λ (ts : List (WiredTask I O)). without (source_numbers ts) later) (sym is) ∙ so.sources_left;
      goes_on = λ soon zip.
          subst (λ (ts : List (Task S E I O L s e i o)). AllZip (IsTaskFrom start files) all ts) (at_end tasks soon one ∙ ap (λ (ts : List (Task S E I O L s e i o)). ts ++ soon) (sym more))
          (so.goes_on (one ∷ soon)
          (subst (λ (ts : List (WiredTask I O)). AllZip (IsTaskFrom now later) ts (one ∷ soon)) (sym is) (from, stood soon zip)));
    }
      where
        stood : (soon : List (Task S E I O L s e i o)) → AllZip (IsTaskFrom now' later') rest' soon → AllZip (IsTaskFrom now later) rest' soon
        stood soon zip =
            zip_each (IsTaskFrom (without (map number_in first.parts.items) now) (without (source_in first.head) later)) (IsTaskFrom now later) (task_stood (map number_in first.parts.items) (source_in first.head) now later) rest' soon
            (subst (λ (ends : List (Option E)). AllZip (IsTaskFrom ends (without (source_in first.head) later)) rest' soon) taken
            (subst (λ (ends : List (Option S)). AllZip (IsTaskFrom now' ends) rest' soon) given zip))

  module _ (rest : List (WiredTask I O)) (now : List (Option E)) (later : List (Option S)) (tasks : List (Task S E I O L s e i o)) (none : rest ≡ []) (so : TasksSoon s e i o all start files rest now later tasks) where
    pub tasks_end : AllZip (IsTaskFrom start files) all tasks
    tasks_end = subst (λ (ts : List (Task S E I O L s e i o)). AllZip (IsTaskFrom start files) all ts) (nil tasks) (so.goes_on [] (zip_done (IsTaskFrom now later) rest none))

    pub elements_end : now ≡ without (part_numbers all) start
    elements_end = sym (without_none now) ∙ ap (λ (ts : List (WiredTask I O)). without (part_numbers ts) now) (sym none) ∙ so.elements_left

    pub sources_end : later ≡ without (source_numbers all) files
    sources_end = sym (without_none later) ∙ ap (λ (ts : List (WiredTask I O)). without (source_numbers ts) later) (sym none) ∙ so.sources_left
