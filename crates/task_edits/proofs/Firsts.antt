-- The first pad of a number is the one that was found, and none where no pad has it.
use Rattle.std.proofs.Common.{◌≡◌, ◌<◌, ◌⊎◌, ℕ, zero, suc, eqb, true, false, if◌then◌else◌, List, [], ◌∷◌, Option, None, Some, refl, sym, ap, ◌∙◌, inl, inr, arith}
use Rattle.std.specs.Prelude.{◌≢◌, slice_get}
use Rattle.std.proofs.lemmas.Bool.Decides.{eqb_tells}
use Rattle.gst_value.proofs.Basics.{some_same}
use Rattle.flow_model.specs.declared.element.TaskElement as elements
use Rattle.flow_model.specs.declared.source.TaskSource as sources
use Rattle.task_pads.specs.Pads.{number_of}
use Rattle.task_pads.specs.declared.pad.Behind.{Behind}
use Rattle.task_pads.specs.declared.pad.Pad.{Pad}
use Rattle.task_parts.specs.declared.head.Head.{Head}
use Rattle.task_parts.specs.declared.head.Head.TheVariants.{Source, Inlets}
use Rattle.task_parts.specs.declared.part.Part.{Part}
use Rattle.task_edits.specs.Changes.{HeadChanged, LedBy, PartChanged}
use Rattle.task_edits.specs.Places.{FirstAt, HasNoPad, HeadHasNot, NoPart, NoPort, first_pad, first_part, first_port, or_next}
use Rattle.task_edits.specs.declared.places.PadAt.TheVariants as ats

module _ {O : Type 0} where
  -- one that has the number stands first, and one that has it not is passed over
  here : (pad : Pad O) (other : Option (Pad O)) (number : ℕ) → number_of pad ≡ number → (if eqb (number_of pad) number then Some pad else other) ≡ Some pad
  here pad other number same = go (eqb_tells (number_of pad) number)
    where
      go : ((eqb (number_of pad) number ≡ true) × (number_of pad ≡ number)) ⊎ ((eqb (number_of pad) number ≡ false) × (number_of pad ≡ number → ⊥)) → (if eqb (number_of pad) number then Some pad else other) ≡ Some pad
      go (inl t) = rw t.0 refl
      go (inr t) = absurd (t.1 same)

  past : (pad : Pad O) (other : Option (Pad O)) (number : ℕ) → number_of pad ≢ number → (if eqb (number_of pad) number then Some pad else other) ≡ other
  past pad other number not = go (eqb_tells (number_of pad) number)
    where
      go : ((eqb (number_of pad) number ≡ true) × (number_of pad ≡ number)) ⊎ ((eqb (number_of pad) number ≡ false) × (number_of pad ≡ number → ⊥)) → (if eqb (number_of pad) number then Some pad else other) ≡ other
      go (inl t) = absurd (not t.1)
      go (inr t) = rw t.0 refl

  pub port_found : (pads : List (Pad O)) (number port : ℕ) (pad : Pad O) → slice_get pads port ≡ Some pad → number_of pad ≡ number → ((j : ℕ) (one : Pad O) → j < port → slice_get pads j ≡ Some one → number_of one ≢ number) → first_port pads number ≡ Some pad
  port_found [] number port pad at same earlier = absurd cc
  port_found (one ∷ pads) number zero pad at same earlier = let is : one ≡ pad = some_same at in here one (first_port pads number) number (ap (λ (p : Pad O). number_of p) is ∙ same) ∙ ap Some is
  port_found (one ∷ pads) number (suc port) pad at same earlier =
      past one (first_port pads number) number (earlier zero one (omega arith) refl) ∙ port_found pads number port pad at same (λ j other less there. earlier (suc j) other (omega (arith, less)) there)

  port_none : (pads : List (Pad O)) (number : ℕ) → NoPort pads number → first_port pads number ≡ None
  port_none [] number none = refl
  port_none (one ∷ pads) number none = past one (first_port pads number) number (none zero one refl) ∙ port_none pads number (λ port pad at. none (suc port) pad at)

module _ {E O : Type 0} {e : elements.Ghosts E} where
  pub part_found : (parts : List (Part E O e)) (number place : ℕ) (part : Part E O e) (pad : Pad O) → slice_get parts place ≡ Some part → first_port part.pads.items number ≡ Some pad
      → ((j : ℕ) (one : Part E O e) → j < place → slice_get parts j ≡ Some one → NoPort one.pads.items number) → first_part parts number ≡ Some pad
  part_found [] number place part pad at found earlier = absurd cc
  part_found (one ∷ parts) number zero part pad at found earlier =
      ap (λ (first : Option (Pad O)). or_next first (first_part parts number)) (ap (λ (p : Part E O e). first_port p.pads.items number) (some_same at) ∙ found)
  part_found (one ∷ parts) number (suc place) part pad at found earlier =
      ap (λ (first : Option (Pad O)). or_next first (first_part parts number)) (port_none one.pads.items number (earlier zero one (omega arith) refl))
      ∙ part_found parts number place part pad at found (λ j other less there. earlier (suc j) other (omega (arith, less)) there)

  part_none : (parts : List (Part E O e)) (number : ℕ) → NoPart parts number → first_part parts number ≡ None
  part_none [] number none = refl
  part_none (one ∷ parts) number none =
      ap (λ (first : Option (Pad O)). or_next first (first_part parts number)) (port_none one.pads.items number (none zero one refl)) ∙ part_none parts number (λ place part at. none (suc place) part at)

module _ {S E I O : Type 0} {s : sources.Ghosts S} {e : elements.Ghosts E} where
  -- where the pad of the source has not the number, the first of the elements is found
  past_head : (head : Head S I O s) (parts : List (Part E O e)) (number : ℕ) → HeadHasNot head number → first_pad head parts number ≡ first_part parts number
  past_head (Source head) parts number none = past head.pad (first_part parts number) number none
  past_head (Inlets head) parts number none = refl

  pub pad_none : (head : Head S I O s) (parts : List (Part E O e)) (number : ℕ) → HasNoPad head parts number → first_pad head parts number ≡ None
  pad_none head parts number none = past_head head parts number none.0 ∙ part_none parts number none.1

  -- where the first pad of the number led, once the one that was found leads elsewhere
  pub head_back : (head head' : Head S I O s) (parts : List (Part E O e)) (number : ℕ) (behind back : Behind O) → FirstAt head parts number ats.Source → HeadChanged (LedBy behind back) head head' → (one : Pad O) → first_pad head parts number ≡ Some one → back ≡ one.behind
  head_back (Source old) (Source new) parts number behind back first changed one is = changed.0.1 ∙ ap (λ (p : Pad O). p.behind) (some_same (sym first ∙ is))
  head_back (Source old) (Inlets new) parts number behind back first changed one is = absurd changed
  head_back (Inlets old) head' parts number behind back first changed one is = absurd first

  pub part_back : (head : Head S I O s) (parts : List (Part E O e)) (number place port : ℕ) (behind back : Behind O) (old new : Part E O e) → FirstAt head parts number (ats.Part place port) → slice_get parts place ≡ Some old → PartChanged (LedBy behind back) port old new
      → (one : Pad O) → first_pad head parts number ≡ Some one → back ≡ one.behind
  part_back head parts number place port behind back old new first at (was, now, pad, by) one is = by.1 ∙ ap (λ (p : Pad O). p.behind) (some_same (sym (first old was at pad.at) ∙ is))
