-- The elements of one task and then those of another, by their frames.
use Rattle.std.proofs.Common.{◌≡◌, ◌⊎◌, ◌<◌, ◌+◌, ◌++◌, ℕ, List, length, map, Some, sym, ap, ◌∙◌, inl, inr}
use Rattle.std.specs.Prelude.{slice_get}
use Rattle.std.proofs.lemmas.List.{map-append}
use Rattle.lane_core.specs.declared.ends.Inlet as inlets
use Rattle.lane_core.specs.declared.ends.Outlet as outlets
use Rattle.flow_model.specs.declared.element.TaskElement as elements
use Rattle.flow_model.specs.declared.source.TaskSource as sources
use Rattle.task_parts.specs.declared.head.Head.{Head}
use Rattle.task_parts.specs.declared.part.Part.{Part}
use Rattle.net_task.specs.declared.task.Task.{Task}
use Rattle.net_task.specs.Frame.{HeadFrame, PartFrame, TaskFrame, Wire, IsWire, by_inlets, by_source, frame_of, head_frame, head_wire, of_head as wire_head, of_part as wire_part, part_frame}
use Rattle.net_turns.specs.Net.{HasElement, part, source}
use Rattle.net_groups.specs.Joined.{IsMerged}
use Rattle.net_groups.proofs.Lists.{append_back, append_first, append_second}
use Rattle.net_groups.proofs.Wiring.{IsOf, is_wire, named, of_part as of_element, of_source}
use Rattle.edit_core.specs.Tasks.{LeadsOn}

-- the elements of one frame and then those of another, with its head
pub record Appended (a b c : TaskFrame) : Type 0 where
  pub parts : c.parts ≡ a.parts ++ b.parts
  pub head : c.head ≡ b.head

module _ (a b c : TaskFrame) (j : Appended a b c) where
  -- an element of the whole is one of the first, or of the second, farther on
  abbrev Is : ℕ → PartFrame → Type 0
  Is x one = ((x < length a.parts) × (slice_get a.parts x ≡ Some one)) ⊎ ((y : ℕ) × (x ≡ length a.parts + y) × (slice_get b.parts y ≡ Some one))

  part_back : (x : ℕ) (one : PartFrame) → slice_get c.parts x ≡ Some one → Is x one
  part_back x one at = append_back a.parts b.parts x one (ap (λ (ps : List PartFrame). slice_get ps x) (sym j.parts) ∙ at)

  part_first : (x : ℕ) (one : PartFrame) → slice_get a.parts x ≡ Some one → slice_get c.parts x ≡ Some one
  part_first x one at = ap (λ (ps : List PartFrame). slice_get ps x) j.parts ∙ append_first a.parts b.parts x one at

  part_second : (x : ℕ) (one : PartFrame) → slice_get b.parts x ≡ Some one → slice_get c.parts (length a.parts + x) ≡ Some one
  part_second x one at = ap (λ (ps : List PartFrame). slice_get ps (length a.parts + x)) j.parts ∙ append_second a.parts b.parts x one at

  -- a pad with its element
  pub of_back : (n : ℕ) (wire : Wire) → IsOf c n wire → IsOf a n wire ⊎ IsOf b n wire
  of_back n wire (of_element x k w number) = go (part_back x w.part w.at)
    where
      go : Is x w.part → IsOf a n wire ⊎ IsOf b n wire
      go (inl z) = inl (of_element x k (record { part = w.part; at = z.1; pad_at = w.pad_at }) number)
      go (inr z) = inr (of_element z.0 k (record { part = w.part; at = z.2; pad_at = w.pad_at }) number)
  of_back n wire (of_source file is) = inr (of_source file (sym j.head ∙ is))

  pub wire_back : (wire : Wire) → IsWire c wire → IsWire a wire ⊎ IsWire b wire
  wire_back wire is = let own = named c wire is in go own.0 (of_back own.0 wire own.1)
    where
      go : (n : ℕ) → IsOf a n wire ⊎ IsOf b n wire → IsWire a wire ⊎ IsWire b wire
      go n (inl z) = inl (is_wire a n wire z)
      go n (inr z) = inr (is_wire b n wire z)

  pub has_back : (n : ℕ) → HasElement c n → HasElement a n ⊎ HasElement b n
  has_back n (part x one at number) = go (part_back x one at)
    where
      go : Is x one → HasElement a n ⊎ HasElement b n
      go (inl z) = inl (part x one z.1 number)
      go (inr z) = inr (part z.0 one z.2 number)
  has_back n (source file wire is) = inr (source file wire (sym j.head ∙ is))

  -- a pad, and an element, of the second
  pub wire_second : (wire : Wire) → IsWire b wire → IsWire c wire
  wire_second wire (wire_part x k w) = wire_part (length a.parts + x) k (record { part = w.part; at = part_second x w.part w.at; pad_at = w.pad_at })
  wire_second wire (wire_head at) = wire_head (ap (λ (h : HeadFrame). head_wire h) j.head ∙ at)

  pub has_second : (n : ℕ) → HasElement b n → HasElement c n
  has_second n (part x one at number) = part (length a.parts + x) one (part_second x one at) number
  has_second n (source file wire is) = source file wire (j.head ∙ is)

  pub on_second : (n next : ℕ) → LeadsOn b n next → LeadsOn c n next
  on_second n next (LeadsOn.of_source port file wire is leads) = LeadsOn.of_source port file wire (j.head ∙ is) leads
  on_second n next (LeadsOn.of_part x k port one wire at wire_at number leads) = LeadsOn.of_part (length a.parts + x) k port one wire (part_second x one at) wire_at number leads

  -- one of the first, whose head is no source
  module _ (m rows : ℕ) (fed : a.head ≡ by_inlets m rows) where
    pub has_first : (n : ℕ) → HasElement a n → HasElement c n
    has_first n (part x one at number) = part x one (part_first x one at) number
    has_first n (source file wire is) = absurd (let same : by_inlets m rows ≡ by_source n file wire = sym fed ∙ is in cc)

    pub on_first : (n next : ℕ) → LeadsOn a n next → LeadsOn c n next
    on_first n next (LeadsOn.of_source port file wire is leads) = absurd (let same : by_inlets m rows ≡ by_source n file wire = sym fed ∙ is in cc)
    on_first n next (LeadsOn.of_part x k port one wire at wire_at number leads) = LeadsOn.of_part x k port one wire (part_first x one at) wire_at number leads

module _ {S E I O L : Type 0} {s : sources.Ghosts S} {e : elements.Ghosts E} {i : inlets.Ghosts I L O} {o : outlets.Ghosts O L} (tasks tasks' : List (Task S E I O L s e i o)) (from to : ℕ) where
  -- such is the task that two become
  pub appended : (j : IsMerged tasks tasks' from to) → Appended (frame_of j.gave) (frame_of j.was) (frame_of j.is)
  appended j = record {
    parts = ap (λ (ps : List (Part E O e)). map (part_frame o) ps) j.parts ∙ map-append (part_frame o) j.gave.parts.items j.was.parts.items;
    head = ap (λ (h : Head S I O s). head_frame o h) j.head;
  }
