-- Places of the elements of a task.
use Rattle.std.specs.Prelude.{◌≡◌, ℕ, List, Some, slice_get}
use Rattle.flow_model.specs.declared.element.TaskElement as elements
use Rattle.task_parts.specs.declared.part.Part.{Part}

module _ {E O : Type 0} {e : elements.Ghosts E} where
  -- the element of a number stands at the place
  pub record IsAt (parts : List (Part E O e)) (number place : ℕ) : Type 0 where
    pub part : Part E O e
    pub at : slice_get parts place ≡ Some part
    pub number_is : part.number ≡ number
