-- Elements at which nothing waits.
use Rattle.std.specs.Prelude.{◌&&◌, ℕ, zero, suc, Bool, true, List, [], ◌∷◌}
use Rattle.flow_model.specs.declared.element.TaskElement as elements
use Rattle.task_parts.specs.declared.part.Part.{Part}
use Rattle.task_parts.specs.Gathered.{is_nothing, pads_idle}

module _ {E O : Type 0} {e : elements.Ghosts E} where
  -- nothing waits at its pads, and nothing that it put out is to go there
  abbrev pub part_idle : Part E O e → Bool
  part_idle part = is_nothing part.out && pads_idle part.pads.items

  -- so it is with all before a place
  abbrev pub idle_before : ℕ → List (Part E O e) → Bool
  idle_before zero parts = true
  idle_before (suc n) [] = true
  idle_before (suc n) (part ∷ parts) = part_idle part && idle_before n parts
