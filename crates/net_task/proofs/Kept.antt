-- Elements that tries leave as they were, and so the counts of failed calls before the step.
use Rattle.std.proofs.Common.{◌≡◌, ◌≢◌, ℕ, List, Option, refl, ap, ◌∙◌, subst}
use Rattle.lane_core.specs.Lane.{Lane}
use Rattle.lane_core.specs.declared.ends.Inlet as inlets
use Rattle.lane_core.specs.declared.ends.Outlet as outlets
use Rattle.flow_model.specs.Failures.{IsWriteCause}
use Rattle.flow_model.specs.Moment.{Moment, behavior_at}
use Rattle.flow_model.specs.declared.element.TaskElement as elements
use Rattle.flow_model.specs.declared.refusal.Refusal.{Refusal}
use Rattle.flow_model.specs.declared.source.TaskSource as sources
use Rattle.flow_model.specs.Item.{Item}
use Rattle.task_parts.specs.declared.fault.TaskFault.{TaskFault}
use Rattle.task_parts.specs.declared.head.Head.{Head}
use Rattle.task_parts.specs.declared.part.Part.{Part}
use Rattle.task_parts.specs.declared.step.Tried.{Tried}
use Rattle.task_parts.specs.declared.step.Tried.TheVariants as tried
use Rattle.task_parts.specs.Moved.{PartSet}
use Rattle.net_task.specs.Answers.{tried_both}
use Rattle.net_task.specs.Failed.{Causes, FailsAs, HasRefused, Origin, Refuses, at_limit, by_element, by_source, full_at, full_head, memory, no_memory, not_linked, refused, unlinked, unread}
use Rattle.net_task.specs.Frame.{TaskFrame}
use Rattle.net_task.specs.Tries.{ElementsStay, elements_of}
use Rattle.task_pads.proofs.Lists.{map_set}
use Rattle.task_parts.proofs.Lists.{map_back}

module _ {E O : Type 0} {e : elements.Ghosts E} where
  -- what waits at an element is another now
  pub kept_set : (parts parts' : List (Part E O e)) (place : ℕ) (was is : Part E O e) → PartSet parts parts' place was is → is.element ≡ was.element → elements_of parts' ≡ elements_of parts
  kept_set parts parts' place was is set same = ap (λ (ps : List (Part E O e)). elements_of ps) set.set ∙ map_set (λ (p : Part E O e). p.element) parts place was is set.at same

  pub kept_stays : (parts parts' : List (Part E O e)) (answer : Tried) → elements_of parts' ≡ elements_of parts → ElementsStay parts parts' answer
  kept_stays parts parts' tried.Moved same = tt
  kept_stays parts parts' tried.Idle same = same
  kept_stays parts parts' (tried.Stuck step) same = same

  pub stays_kept : (parts parts' : List (Part E O e)) (answer : Tried) → answer ≢ tried.Moved → ElementsStay parts parts' answer → elements_of parts' ≡ elements_of parts
  stays_kept parts parts' tried.Moved n same = absurd (n refl)
  stays_kept parts parts' tried.Idle n same = same
  stays_kept parts parts' (tried.Stuck step) n same = same

  -- over two tries
  pub stays_both : (old mid new : List (Part E O e)) (first next : Tried) → first ≢ tried.Moved → ElementsStay old mid first → ElementsStay mid new next → ElementsStay old new (tried_both first next)
  stays_both old mid new tried.Moved next n f g = absurd (n refl)
  stays_both old mid new tried.Idle tried.Moved n f g = tt
  stays_both old mid new tried.Idle tried.Idle n f g = g ∙ f
  stays_both old mid new tried.Idle (tried.Stuck step) n f g = g ∙ f
  stays_both old mid new (tried.Stuck one) tried.Moved n f g = tt
  stays_both old mid new (tried.Stuck one) tried.Idle n f g = g ∙ f
  stays_both old mid new (tried.Stuck one) (tried.Stuck step) n f g = g ∙ f

  module _ (old mid new : List (Part E O e)) (same : elements_of mid ≡ elements_of old) where
    -- an element that refused an item is at its place as it was before the tries that left it
    abbrev pub refused_since : (n : ℕ) (refusal : Refusal) → HasRefused mid new n refusal → HasRefused old new n refusal
    refused_since n refusal r =
        let z = map_back (λ (p : Part E O e). p.element) old mid same r.place r.was r.was_at in
        record {
          place = r.place;
          was = z.0;
          is = r.is;
          was_at = z.1;
          is_at = r.is_at;
          number = r.number;
          cause = subst (λ (x : E). IsWriteCause (e.failures x) (e.failures r.is.element) refusal) z.2 r.cause;
        }

    pub refuses_since : (m : Moment) (n pad : ℕ) (x : Item) (refusal : Refusal) → Refuses m mid new n pad x refusal → Refuses m old new n pad x refusal
    refuses_since m n pad x refusal r = record {
      by = refused_since n refusal r.by;
      stood = subst (λ (y : E). e.stands y (behavior_at m n) (m.took n)) (map_back (λ (p : Part E O e). p.element) old mid same r.by.place r.by.was r.by.was_at).2 r.stood;
      why = r.why;
    }

-- a fault that was met behind tries which left each element
pub caused_since : {S E I O L : Type 0} {s : sources.Ghosts S} {e : elements.Ghosts E} (o : outlets.Ghosts O L) (frame : TaskFrame) (head head' : Head S I O s) (old mid new : List (Part E O e)) (fault : TaskFault) → elements_of mid ≡ elements_of old
    → Causes o frame head head' mid new fault → Causes o frame head head' old new fault
caused_since o frame head head' old mid new _ same (by_element n refusal r) = by_element n refusal (refused_since old mid new same n refusal r)
caused_since o frame head head' old mid new _ same (by_source n why u) = by_source n why u
caused_since o frame head head' old mid new _ same (unlinked wire place w l) = unlinked wire place w l
caused_since o frame head head' old mid new _ same (full_at place part at) = full_at place part at
caused_since o frame head head' old mid new _ same (full_head n file wire at) = full_head n file wire at
caused_since o frame head head' old mid new _ same memory = memory

pub failed_since : {S E I O L : Type 0} {s : sources.Ghosts S} {e : elements.Ghosts E} (i : inlets.Ghosts I L O) (o : outlets.Ghosts O L) (tells tells' : Option (List Lane)) (m : Moment) (head head' : Head S I O s) (old mid new : List (Part E O e)) (origin : Origin) (fault : TaskFault)
    → elements_of mid ≡ elements_of old → FailsAs i o tells tells' m head head' mid new origin fault → FailsAs i o tells tells' m head head' old new origin fault
failed_since i o tells tells' m head head' old mid new _ _ same (refused origin n pad x refusal l f r) = refused origin n pad x refusal l f (refuses_since old mid new same m n pad x refusal r)
failed_since i o tells tells' m head head' old mid new _ _ same (unread n why a u h) = unread n why a u h
failed_since i o tells tells' m head head' old mid new _ _ same (not_linked p x rest a w b n) = not_linked p x rest a w b n
failed_since i o tells tells' m head head' old mid new _ _ same (at_limit p x rest a w l) = at_limit p x rest a w l
failed_since i o tells tells' m head head' old mid new _ _ same (no_memory origin a) = no_memory origin a
