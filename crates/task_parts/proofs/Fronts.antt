-- The elements before a place stay as they were, or nothing waits at them.
use Rattle.std.proofs.Common.{◌≡◌, ◌<◌, ◌≤◌, ◌⊎◌, ℕ, true, List, length, map, Some, sym, ap, ◌∙◌, subst, inl, inr, arith}
use Rattle.std.specs.Prelude.{slice_get, slice_set, Result, Ok, Err}
use Rattle.std.proofs.lemmas.Bool.{cases_eq}
use Rattle.std.proofs.lemmas.List.{length-map}
use Rattle.flow_model.specs.Item.{Item}
use Rattle.flow_model.specs.declared.element.TaskElement as elements
use Rattle.flow_model.specs.declared.refusal.Refusal.{Refusal}
use Rattle.task_pads.specs.declared.pad.Pad.{Pad}
use Rattle.task_parts.specs.declared.part.Part.{Part}
use Rattle.task_parts.specs.declared.step.Tried.{Tried}
use Rattle.task_parts.specs.declared.fault.TaskFault.{TaskFault}
use Rattle.task_parts.specs.Idle.{part_idle}
use Rattle.task_parts.specs.Moved.{HandedBack, HandedIn, HandedOn, HandedOut, KeepsFront, PartSet}
use Rattle.task_parts.specs.Passing.{RowFed, RowFeeds}
use Rattle.task_parts.specs.Shape.{PartShape, part_shape}
use Rattle.task_pads.proofs.Lists.{set_there}

module _ {E O : Type 0} {e : elements.Ghosts E} where
  -- nothing waits at the element at a place, where that stands before another place
  abbrev pub IdleAt : List (Part E O e) → ℕ → ℕ → Type 0
  IdleAt parts to from = (part : Part E O e) → slice_get parts to ≡ Some part → to < from → part_idle part ≡ true

  pub same_length : (parts parts' : List (Part E O e)) → map part_shape parts' ≡ map part_shape parts → length parts' ≡ length parts
  same_length parts parts' shape = sym (length-map parts' part_shape) ∙ ap (λ (shapes : List PartShape). length shapes) shape ∙ length-map parts part_shape

  pub idle_of : (parts parts' : List (Part E O e)) (to from : ℕ) → parts ≡ parts' → IdleAt parts to from → IdleAt parts' to from
  idle_of parts parts' to from same idle = subst (λ (ps : List (Part E O e)). IdleAt ps to from) same idle

  -- no other element changed
  front_by : (from from' to : ℕ) (parts parts' : List (Part E O e)) → from' ≤ from → IdleAt parts' to from' → ((k : ℕ) → k < from' → (k ≡ to → ⊥) → slice_get parts' k ≡ slice_get parts k) → KeepsFront from from' parts parts'
  front_by from from' to parts parts' lower idle same = record { lower = lower; front = λ k part w at. stays k part w at (cases_eq k to) }
    where
      stays : (k : ℕ) (part : Part E O e) → k < from' → slice_get parts' k ≡ Some part → ((k ≡ to) ⊎ (k ≡ to → ⊥)) → (slice_get parts k ≡ Some part) ⊎ (part_idle part ≡ true)
      stays k part w at (inl i) = inr (idle part (ap (slice_get parts') (sym i) ∙ at) (omega (arith, i, w)))
      stays k part w at (inr ne) = inl (sym (same k w ne) ∙ at)

  part_else : (place : ℕ) (parts parts' : List (Part E O e)) (was is : Part E O e) → PartSet parts parts' place was is → (k : ℕ) → (k ≡ place → ⊥) → slice_get parts' k ≡ slice_get parts k
  part_else place parts parts' was is s k ne = ap (λ (ps : List (Part E O e)). slice_get ps k) s.set ∙ set_there parts place k is ne

  pub front_same : (from : ℕ) (parts : List (Part E O e)) → KeepsFront from from parts parts
  front_same from parts = record { lower = omega arith; front = λ k part w at. inl at }

  pub front_set : (from place : ℕ) (parts : List (Part E O e)) (part : Part E O e) → from ≤ place → KeepsFront from from parts (slice_set parts place part)
  front_set from place parts part w = record { lower = omega arith; front = λ k one z at. inl (sym (set_there parts place k part (λ q. omega (arith, w, z, q))) ∙ at) }

  pub front_handed : (from from' place port to sink : ℕ) (parts parts' : List (Part E O e)) (part : Part E O e) → from ≤ place → from' ≤ from → IdleAt parts' to from' → HandedOn (slice_set parts place part) parts' place port to sink → KeepsFront from from' parts parts'
  front_handed from from' place port to sink parts parts' part w lower idle h =
      front_by from from' to parts parts' lower idle (λ k z ne. part_else to h.between parts' h.eater h.ate h.fed k ne
      ∙ part_else place (slice_set parts place part) h.between h.giver h.gave h.given k (λ q. omega (arith, w, lower, z, q)) ∙ set_there parts place k part (λ q. omega (arith, w, lower, z, q)))

  pub front_back : (from from' place port to sink : ℕ) (refusal : Refusal) (parts parts' : List (Part E O e)) (part : Part E O e) → from ≤ place → from' ≤ from → IdleAt parts' to from' → HandedBack (slice_set parts place part) parts' place port to sink refusal → KeepsFront from from' parts parts'
  front_back from from' place port to sink refusal parts parts' part w lower idle h =
      front_by from from' to parts parts' lower idle (λ k z ne. part_else place h.behind parts' h.again h.is h.back k (λ q. omega (arith, w, lower, z, q)) ∙ part_else to h.between h.behind h.eater h.ate h.fed k ne
      ∙ part_else place (slice_set parts place part) h.between h.giver h.gave h.given k (λ q. omega (arith, w, lower, z, q)) ∙ set_there parts place k part (λ q. omega (arith, w, lower, z, q)))

  pub front_in : (from from' to sink : ℕ) (old new : Pad O) (parts parts' : List (Part E O e)) → from' ≤ from → IdleAt parts' to from' → HandedIn old new parts parts' to sink → KeepsFront from from' parts parts'
  front_in from from' to sink old new parts parts' lower idle h = front_by from from' to parts parts' lower idle (λ k z ne. part_else to parts parts' h.eater h.ate h.fed k ne)

  pub front_out : (from from' to sink : ℕ) (refusal : Refusal) (old new : Pad O) (parts parts' : List (Part E O e)) → from' ≤ from → IdleAt parts' to from' → HandedOut old new parts parts' to sink refusal → KeepsFront from from' parts parts'
  front_out from from' to sink refusal old new parts parts' lower idle h = front_by from from' to parts parts' lower idle (λ k z ne. part_else to parts parts' h.eater h.ate h.fed k ne)

  pub front_fed : (from from' to port : ℕ) (x : Item) (parts parts' : List (Part E O e)) (r : Result Tried TaskFault) → from' ≤ from → IdleAt parts' to from' → RowFed parts parts' to port x r → KeepsFront from from' parts parts'
  front_fed from from' to port x parts parts' r lower idle (inl f) = front_by from from' to parts parts' lower idle (λ k z ne. ap (λ (ps : List (Part E O e)). slice_get ps k) f.1)
  front_fed from from' to port x parts parts' r lower idle (inr f) = go r f.1
    where
      go : (z : Result Tried TaskFault) → RowFeeds parts parts' to port x z → KeepsFront from from' parts parts'
      go (Ok answer) g = front_by from from' to parts parts' lower idle (λ k z ne. part_else to parts parts' g.1 g.2 g.3 k ne)
      go (Err fault) g = front_by from from' to parts parts' lower idle (λ k z ne. part_else to parts parts' g.1 g.2 g.3 k ne)
