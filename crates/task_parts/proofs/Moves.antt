-- An item goes from a pad to an element.
use Rattle.std.proofs.Common.{◌≡◌, ◌<◌, ◌⊎◌, ℕ, List, length, get_or, Some, None, Option, sym, ap, ◌∙◌, subst, inl, inr, arith}
use Rattle.std.specs.Prelude.{slice_get, slice_set}
use Rattle.std.proofs.lemmas.Bool.{cases_eq}
use Rattle.std.proofs.lemmas.Option.{slice_get_within}
use Rattle.flow_model.specs.Item.{Item}
use Rattle.flow_model.specs.declared.element.TaskElement as elements
use Rattle.task_pads.specs.declared.pad.Pad.{Pad}
use Rattle.task_pads.specs.Pads.{IsLoose, Rest, waiting_of}
use Rattle.task_parts.specs.declared.part.Part.{Part}
use Rattle.task_parts.specs.Moved.{CanGive}
use Rattle.task_parts.specs.Part.{CanTakeBackAt, PartGave}
use Rattle.task_pads.proofs.Lists.{set_length, set_there}
use Rattle.task_parts.proofs.Lists.{at_get}
use Rattle.gst_value.proofs.Basics.{some_same}
use Rattle.gst_value.proofs.Places.{set_here}

module _ {E O : Type 0} {e : elements.Ghosts E} where
  pub giver_at : (parts : List (Part E O e)) (from port : ℕ) (g : CanGive parts from port) (y : Part E O e) → y ≡ get_or parts from y → slice_get y.pads.items port ≡ Some g.pad
  giver_at parts from port g y s = ap (λ (z : Part E O e). slice_get z.pads.items port) (at_get parts from g.part y g.at s) ∙ g.pad_at

  pub giver_within : (parts : List (Part E O e)) (from port : ℕ) → CanGive parts from port → from < length parts
  giver_within parts from port g = slice_get_within parts from g.part g.at

  pub giver_port : (parts : List (Part E O e)) (from port : ℕ) (g : CanGive parts from port) (y : Part E O e) → y ≡ get_or parts from y → port < length y.pads.items
  giver_port parts from port g y s = slice_get_within y.pads.items port g.pad (giver_at parts from port g y s)

  pub giver_was : (parts : List (Part E O e)) (from port : ℕ) (g : CanGive parts from port) (y y' : Part E O e) (r : Option Item) → y ≡ get_or parts from y → (t : PartGave y y' port r) → t.was ≡ g.pad
  giver_was parts from port g y y' r s t = some_same (sym t.pad.at ∙ giver_at parts from port g y s)

  pub giver_gives : (parts : List (Part E O e)) (from port : ℕ) (g : CanGive parts from port) (y y' : Part E O e) (r : Option Item) → y ≡ get_or parts from y → PartGave y y' port r → r ≡ None → ⊥
  giver_gives parts from port g y y' None s t i = g.waits (ap (λ (p : Pad O). waiting_of p) (sym (giver_was parts from port g y y' None s t)) ∙ t.taken.0)
  giver_gives parts from port g y y' (Some x) s t i = cc

  pub again_pads : (parts : List (Part E O e)) (from to : ℕ) (gave eater ate again : Part E O e) → slice_get (slice_set parts from gave) to ≡ Some eater → ate.pads ≡ eater.pads
      → slice_get (slice_set (slice_set parts from gave) to ate) from ≡ Some again → again.pads ≡ gave.pads
  again_pads parts from to gave eater ate again at same at' = go (cases_eq from to)
    where
      go : ((from ≡ to) ⊎ (from ≡ to → ⊥)) → again.pads ≡ gave.pads
      go (inl i) =
          let one : again ≡ ate = set_here (slice_set parts from gave) to again ate (ap (slice_get (slice_set (slice_set parts from gave) to ate)) (sym i) ∙ at') in
          let two : eater ≡ gave = set_here parts from eater gave (ap (slice_get (slice_set parts from gave)) i ∙ at) in
          ap (λ (p : Part E O e). p.pads) one ∙ same ∙ ap (λ (p : Part E O e). p.pads) two
      go (inr ne) = ap (λ (p : Part E O e). p.pads) (set_here parts from again gave (sym (set_there (slice_set parts from gave) to from ate ne) ∙ at'))

  pub again_port : (giver gave again : Part E O e) (port : ℕ) (r : Option Item) → PartGave giver gave port r → again.pads ≡ gave.pads → port < length again.pads.items
  again_port giver gave again port r g same =
      let low = slice_get_within giver.pads.items port g.was g.pad.at in
      omega (arith, low, ap (λ v. length v.items) same ∙ ap length g.pad.set ∙ set_length giver.pads.items port g.is)

  pub again_back : (parts : List (Part E O e)) (from port : ℕ) (c : CanGive parts from port) (giver gave again : Part E O e) (r : Option Item) → giver ≡ get_or parts from giver → PartGave giver gave port r → again.pads ≡ gave.pads → CanTakeBackAt again port
  again_back parts from port c giver gave again r s g same = λ pad at.
      let here : pad ≡ g.is = set_here giver.pads.items port pad g.is (ap (λ (ps : List (Pad O)). slice_get ps port) (sym g.pad.set) ∙ ap (λ v. slice_get v.items port) (sym same) ∙ at) in
      subst IsLoose (sym (ap (λ (p : Pad O). p.src) here ∙ ap (λ (q : Rest O). q.src) g.rest ∙ ap (λ (p : Pad O). p.src) (giver_was parts from port c giver gave r s g))) c.back
