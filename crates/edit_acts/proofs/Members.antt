-- Which elements a task has, by its head and its parts.
use Rattle.std.proofs.Common.{◌≡◌, ℕ, zero, suc, true, false, eqb, List, [], ◌∷◌, Some, map, refl, sym, ap, ◌∙◌, subst}
use Rattle.std.specs.Prelude.{slice_get}
use Rattle.std.proofs.lemmas.Bool.{true≢false}
use Rattle.lane_core.specs.declared.ends.Outlet as outlets
use Rattle.flow_model.specs.declared.element.TaskElement as elements
use Rattle.flow_model.specs.declared.source.TaskSource as sources
use Rattle.task_parts.specs.Shape.{has_number, part_shape}
use Rattle.task_parts.specs.declared.head.Head.{Head}
use Rattle.task_parts.specs.declared.head.Head.TheVariants.{Source, Inlets}
use Rattle.task_parts.specs.declared.part.Part.{Part}
use Rattle.gst_value.proofs.Basics.{number_itself, or_first, or_second, some_same}
use Rattle.gst_value.proofs.Places.{map_get, map_got}
use Rattle.net_task.specs.Frame.{HeadFrame, PartFrame, frame_in, part_frame, wire_of}
use Rattle.net_edits.specs.Adding.{IsOnly}
use Rattle.net_turns.specs.Net.{HasElement}
use Rattle.edit_core.specs.Tasks.{number_of_head}
use Rattle.edit_acts.specs.Removed.{IsSourceOf}

module _ {E O : Type 0} {e : elements.Ghosts E} where
  has_it : (parts : List (Part E O e)) (j : ℕ) (part : Part E O e) → slice_get parts j ≡ Some part → has_number part.number (map part_shape parts) ≡ true
  has_it [] j part at = absurd cc
  has_it (one ∷ parts) zero part at = or_first (eqb one.number part.number) (has_number part.number (map part_shape parts)) (ap (λ (p : Part E O e). eqb p.number part.number) (some_same at) ∙ number_itself part.number)
  has_it (one ∷ parts) (suc j) part at = or_second (eqb one.number part.number) (has_number part.number (map part_shape parts)) (has_it parts j part at)

module _ {S E I O L : Type 0} {s : sources.Ghosts S} {e : elements.Ghosts E} (o : outlets.Ghosts O L) where
  pub source_has : (head : Head S I O s) (parts : List (Part E O e)) (n : ℕ) → IsSourceOf head n → HasElement (frame_in o head parts) n
  source_has (Source head) parts n same =
      let it : Head S I O s = Source head in
      subst (λ (k : ℕ). HasElement (frame_in o it parts) k) same (HasElement.source (s.file head.source) (wire_of o head.pad) refl)
  source_has (Inlets head) parts n none = absurd none

  pub has_it_not : (head : Head S I O s) (parts : List (Part E O e)) (n : ℕ) → (IsSourceOf head n → ⊥) → has_number n (map part_shape parts) ≡ false → HasElement (frame_in o head parts) n → ⊥
  has_it_not (Source head) parts n other none (HasElement.source file wire is) = other (ap (λ (h : HeadFrame). number_of_head h) is)
  has_it_not (Inlets head) parts n other none (HasElement.source file wire is) = cc
  has_it_not head parts n other none (HasElement.part j one at number) =
      let found = map_got (part_frame o) parts j one at in
      let own : found.0.number ≡ n = ap (λ (f : PartFrame). f.number) (sym found.2) ∙ number in
      true≢false (sym (ap (λ (k : ℕ). has_number k (map part_shape parts)) (sym own) ∙ has_it parts j found.0 found.1) ∙ none)

  pub part_there : (head : Head S I O s) (parts : List (Part E O e)) (j : ℕ) (part : Part E O e) → slice_get parts j ≡ Some part → HasElement (frame_in o head parts) part.number
  part_there head parts j part at = HasElement.part j (part_frame o part) (map_get (part_frame o) parts j part at) refl

  -- where each has one number there is no other
  pub only_one : (head : Head S I O s) (parts : List (Part E O e)) (n : ℕ) → ((k : ℕ) → IsSourceOf head k → k ≡ n) → ((j : ℕ) (part : Part E O e) → slice_get parts j ≡ Some part → part.number ≡ n) → IsOnly (frame_in o head parts) n
  only_one (Source head) parts n source each k (HasElement.source file wire is) = source k (ap (λ (h : HeadFrame). number_of_head h) is)
  only_one (Inlets head) parts n source each k (HasElement.source file wire is) = absurd cc
  only_one head parts n source each k (HasElement.part j one at number) =
      let found = map_got (part_frame o) parts j one at in
      let own : found.0.number ≡ k = ap (λ (f : PartFrame). f.number) (sym found.2) ∙ number in
      sym own ∙ each j found.0 found.1
