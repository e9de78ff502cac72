-- An item goes from a pad of one element of a task to another element.
use Rattle.std.specs.Prelude.{◌≡◌, ◌≢◌, ◌≤◌, ◌<◌, ◌⊎◌, ◌+◌, ◌++◌, ◌∷◌, ℕ, true, List, [], Some, slice_get, slice_set}
use Rattle.flow_model.specs.Item.{Item}
use Rattle.flow_model.specs.declared.element.TaskElement as elements
use Rattle.flow_model.specs.declared.refusal.Refusal.{Refusal}
use Rattle.task_pads.specs.declared.pad.Pad.{Pad}
use Rattle.task_pads.specs.Pads.{CanTakeBack, HasCrossed, crossed_count, probe_of, rest_of, waiting_of}
use Rattle.task_pads.specs.Put.{IsTaken}
use Rattle.task_parts.specs.declared.part.Part.{Part}
use Rattle.task_parts.specs.Idle.{part_idle}
use Rattle.task_parts.specs.Part.{PartFed, PartFell, PartGave, PartTookBack}

module _ {E O : Type 0} {e : elements.Ghosts E} where
  -- an item waits at a pad, whose last crossing can be taken back
  pub record CanGive (parts : List (Part E O e)) (from port : ℕ) : Type 0 where
    pub part : Part E O e
    pub at : slice_get parts from ≡ Some part
    pub pad : Pad O
    pub pad_at : slice_get part.pads.items port ≡ Some pad
    pub waits : waiting_of pad ≢ []
    pub back : CanTakeBack pad

  -- one element is another now
  pub record PartSet (parts parts' : List (Part E O e)) (place : ℕ) (was is : Part E O e) : Type 0 where
    pub at : slice_get parts place ≡ Some was
    pub set : parts' ≡ slice_set parts place is

  -- The item was taken from the pad, and then the element at another place took it.
  pub record HandedOn (parts parts' : List (Part E O e)) (from port to pad : ℕ) : Type 0 where
    pub item : Item
    pub giver : Part E O e
    pub gave : Part E O e
    pub between : List (Part E O e)
    pub given : PartSet parts between from giver gave
    pub taken : PartGave giver gave port (Some item)
    pub eater : Part E O e
    pub ate : Part E O e
    pub fed : PartSet between parts' to eater ate
    pub took : PartFed eater ate pad item

  -- The element refused it, and the crossing of the pad was taken back.
  pub record HandedBack (parts parts' : List (Part E O e)) (from port to pad : ℕ) (refusal : Refusal) : Type 0 where
    pub item : Item
    pub giver : Part E O e
    pub gave : Part E O e
    pub between : List (Part E O e)
    pub given : PartSet parts between from giver gave
    pub taken : PartGave giver gave port (Some item)
    pub eater : Part E O e
    pub ate : Part E O e
    pub behind : List (Part E O e)
    pub fed : PartSet between behind to eater ate
    pub fell : PartFell eater ate pad item refusal
    pub again : Part E O e
    pub is : Part E O e
    pub back : PartSet behind parts' from again is
    pub took_back : PartTookBack again is port

  -- The item was taken from a pad that is no element's of these, and then the element at a place took it.
  pub record HandedIn (old new : Pad O) (parts parts' : List (Part E O e)) (to sink : ℕ) : Type 0 where
    pub item : Item
    pub rest : rest_of new ≡ rest_of old
    pub taken : IsTaken old new (Some item)
    pub eater : Part E O e
    pub ate : Part E O e
    pub fed : PartSet parts parts' to eater ate
    pub took : PartFed eater ate sink item

  -- The element refused it, and the crossing of the pad was taken back.
  pub record HandedOut (old new : Pad O) (parts parts' : List (Part E O e)) (to sink : ℕ) (refusal : Refusal) : Type 0 where
    pub item : Item
    pub between : Pad O
    pub rest : rest_of between ≡ rest_of old
    pub taken : IsTaken old between (Some item)
    pub history : (h : List Item) (x : Item) → HasCrossed between (h ++ x ∷ []) → HasCrossed new h
    pub counted : crossed_count new + 1 ≡ crossed_count between
    pub probe : probe_of new ≡ probe_of between
    pub waiting : waiting_of new ≡ waiting_of between
    pub behind : (rest_of new).behind ≡ (rest_of between).behind
    pub eater : Part E O e
    pub ate : Part E O e
    pub fed : PartSet parts parts' to eater ate
    pub fell : PartFell eater ate sink item refusal

  -- Each element before a place is as it was, or nothing waits at it; that place is no later one than it was.
  pub record KeepsFront (from from' : ℕ) (parts parts' : List (Part E O e)) : Type 0 where
    pub lower : from' ≤ from
    pub front : (k : ℕ) (part : Part E O e) → k < from' → slice_get parts' k ≡ Some part → (slice_get parts k ≡ Some part) ⊎ (part_idle part ≡ true)
