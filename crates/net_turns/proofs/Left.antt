-- What is left in a net that cannot move, by what its tasks answered.
use Rattle.std.proofs.Common.{◌≡◌, ℕ, true, List, [], ◌∷◌, length, Option, Some, None, ◌⊎◌, inl, inr, refl, sym, ◌∙◌, subst, ⊎_elim, arith}
use Rattle.std.specs.Prelude.{slice_get}
use Rattle.std.proofs.lemmas.Bool.{false≢true}
use Rattle.flow_model.specs.Item.{Item}
use Rattle.flow_model.specs.Call.{Call}
use Rattle.lane_core.specs.Lane.{Lane}
use Rattle.lane_core.specs.declared.ends.Inlet as inlets
use Rattle.lane_core.specs.declared.ends.Outlet as outlets
use Rattle.flow_model.specs.Moment.{Moment}
use Rattle.flow_model.specs.Split.{AreEmpty}
use Rattle.flow_model.specs.declared.element.TaskElement as elements
use Rattle.flow_model.specs.declared.source.TaskSource as sources
use Rattle.task_parts.specs.declared.head.Head.{Head}
use Rattle.task_parts.specs.declared.head.Head.TheVariants.{Source, Inlets}
use Rattle.task_parts.specs.declared.head.InletHead.{InletHead}
use Rattle.task_parts.specs.declared.part.Part.{Part}
use Rattle.task_parts.specs.declared.step.Step.{Step}
use Rattle.task_parts.specs.declared.step.Step.TheVariants.{Moved, NeedsItem, NeedsRoom, AtProbe, Ended}
use Rattle.net_task.specs.declared.task.Task.{Task}
use Rattle.net_task.specs.Frame.{HeadFrame, TaskFrame, Wire, by_source, by_inlets, frame_of, head_frame}
use Rattle.net_task.specs.Reasons.{AllRest, OwnerRests}
use Rattle.net_turns.specs.Ends.{NothingLeft, is_idle}
use Rattle.net_turns.specs.Net.{HasElement, part, source, IsFed, ListAt}
use Rattle.net_turns.specs.Rests.{HeadEnded, HeadLacks, NetRests, TaskRests}
use Rattle.gst_value.proofs.Basics.{none_some, some_same}

pub cons_not : {A : Type 0} {x : A} {xs ys : List A} → ys ≡ x ∷ xs → ys ≡ [] → ⊥
cons_not e f = cc

-- whether nothing stands in the inlets of an element can be told
pub empty_or_not : (hs : List (List Call)) → AreEmpty hs ⊎ (AreEmpty hs → ⊥)
empty_or_not [] = inl tt
empty_or_not ([] ∷ hs) = ⊎_elim (λ yes'. inl (refl, yes')) (λ not. inr (λ h. not h.1)) (empty_or_not hs)
empty_or_not ((c ∷ cs) ∷ hs) = inr (λ h. cons_nil h.0)
  where
    cons_nil : {c : Call} {cs : List Call} → c ∷ cs ≡ [] → ⊥
    cons_nil e = cc

-- what a head with one row wants, by whether it is an item
pub wants_first : {A : Type 0} {port : ℕ} → (Some port ≡ Some 0) ⊎ ((Some port ≡ None) × A) → port ≡ 0
wants_first (inl is) = some_same is
wants_first (inr none) = absurd (none_some (sym none.0))

pub wants_ended : {A : Type 0} (port : Option ℕ) → port ≡ None → (port ≡ Some 0) ⊎ ((port ≡ None) × A) → A
wants_ended port none (inl is) = absurd (none_some (sym none ∙ is))
wants_ended port none (inr ended) = ended.1

-- the one inlet is empty
pub one_empty : (hs : List (List Call)) → length hs ≡ 1 → ListAt 0 hs [] → AreEmpty hs
one_empty [] one h = tt
one_empty (cs ∷ []) one h = (h, tt)
one_empty (cs ∷ ds ∷ hs) one h = absurd (omega (arith, one))

module _ {S E I O L : Type 0} {s : sources.Ghosts S} {e : elements.Ghosts E} {i : inlets.Ghosts I L O} {o : outlets.Ghosts O L}
    (m : Moment) (tasks : List (Task S E I O L s e i o)) (steps : List Step) (tells : Option (List Lane)) (rests : NetRests (λ k. Unit {0}) m tasks steps tells) where
  -- what a task answered, and why it cannot move
  pub rests_at : (k : ℕ) (task : Task S E I O L s e i o) → slice_get tasks k ≡ Some task → (step : Step) × (slice_get steps k ≡ Some step) × TaskRests tells m task step
  rests_at k task at = rests.rests k task tt at

  -- nothing waits at the pads of an element of a task that is idle
  idle_by : (p : ℕ) (frame : TaskFrame) → HasElement frame (m.plan.owner p) → AllRest m frame → ((n : ℕ) (file : Option (Option (List ℕ))) (wire : Wire) → frame.head ≡ by_source n file wire → OwnerRests m n) → m.waits p ≡ []
  idle_by p frame (part place one here number) all own = all place one here p (sym number)
  idle_by p frame (source file wire is) all own = own (m.plan.owner p) file wire is p refl

  lacks_not : (head : Head S I O s) (parts : List (Part E O e)) (lane n : ℕ) (file : Option (Option (List ℕ))) (wire : Wire) → HeadLacks e m head parts lane → head_frame o head ≡ by_source n file wire → ⊥
  lacks_not (Source head) parts lane n file wire h is = h
  lacks_not (Inlets head) parts lane n file wire h is = other is
    where
      other : {k rows : ℕ} → by_inlets k rows ≡ by_source n file wire → ⊥
      other e = cc

  pub idle_at : (p : ℕ) (task : Task S E I O L s e i o) → HasElement (frame_of task) (m.plan.owner p) → (step : Step) → is_idle step ≡ true → TaskRests tells m task step → m.waits p ≡ []
  idle_at p task has Moved calm h = absurd h
  idle_at p task has (NeedsItem lane) calm h = idle_by p (frame_of task) has h.0 (λ n file wire is. absurd (lacks_not task.head task.parts.items lane n file wire h.1 is))
  idle_at p task has (NeedsRoom lane) calm h = absurd (false≢true calm)
  idle_at p task has (AtProbe command) calm h = absurd (false≢true calm)
  idle_at p task has Ended calm h = idle_by p (frame_of task) has h.0 (λ n file wire is. subst (λ (f : HeadFrame). HeadEnded e m f) is h.1)

  module _ (calm : (k : ℕ) (task : Task S E I O L s e i o) (at : slice_get tasks k ≡ Some task) → is_idle (rests_at k task at).0 ≡ true)
      (empty : (k : ℕ) (head : InletHead I) → IsFed tasks k head → AreEmpty (m.held head.number)) where
    waits_not : (p : ℕ) (waits : List Item) → m.waits p ≡ waits → waits ≡ []
    waits_not p [] is = refl
    waits_not p (x ∷ xs) is =
        absurd (cons_not is (rests.net.loose p (λ k own. let one = rests_at k own.task own.at in cons_not is (idle_at p own.task own.has one.0 (calm k own.task own.at) one.2))))

    empty_all : (n : ℕ) → AreEmpty (m.held n)
    empty_all n =
        ⊎_elim (λ h. h)
        (λ not. absurd (not (rests.net.others n (λ k head fed same. not (subst (λ (a : ℕ). AreEmpty (m.held a)) same (empty k head fed))))))
        (empty_or_not (m.held n))

    pub left_by : NothingLeft m
    left_by = record { idle = λ p. waits_not p (m.waits p) refl; empty = empty_all }
