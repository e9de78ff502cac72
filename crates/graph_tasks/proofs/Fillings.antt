-- Tasks that are made of their wired tasks, one behind the other.
use Rattle.std.proofs.Common.{◌≡◌, ℕ, zero, suc, List, [], ◌∷◌, ◌++◌, Option, Some, length, map, refl, sym, ap, ◌∙◌, subst, inl, inr}
use Rattle.std.specs.Prelude.{slice_get}
use Rattle.std.specs.List.{AllZip}
use Rattle.flow_model.specs.Account.{IsMember}
use Rattle.flow_model.specs.declared.element.TaskElement as elements
use Rattle.graph_parts.specs.Bags.{Once}
use Rattle.task_parts.specs.declared.part.Part.{Part}
use Rattle.graph_tasks.specs.Making.{IsPartFrom}
use Rattle.graph_tasks.specs.Plan.{AreAt, ElementAt, without}
use Rattle.graph_tasks.specs.Wired.{number_in}
use Rattle.graph_tasks.specs.declared.wired_task.WiredPart.{WiredPart}
use Rattle.graph_tasks.proofs.Takes.{without_more, without_none, without_stays, without_stood}
use Rattle.gst_value.proofs.Places.{nil_append as nil}

pub zip_each : {A B : Type 0} (P Q : A → B → Type 0) → ((x : A) (y : B) → P x y → Q x y) → (xs : List A) (ys : List B) → AllZip P xs ys → AllZip Q xs ys
zip_each P Q so [] [] all = tt
zip_each P Q so [] (y ∷ ys) all = absurd all
zip_each P Q so (x ∷ xs) [] all = absurd all
zip_each P Q so (x ∷ xs) (y ∷ ys) all = (so x y all.0, zip_each P Q so xs ys all.1)

pub zip_done : {A B : Type 0} (P : A → B → Type 0) (xs : List A) → xs ≡ [] → AllZip P xs []
zip_done P xs none = subst (λ zs. AllZip P zs []) (sym none) tt

-- one more behind the others
pub at_end : {A : Type 0} (xs ys : List A) (x : A) → xs ++ x ∷ ys ≡ (xs ++ x ∷ []) ++ ys
at_end [] ys x = refl
at_end {A = A} (z ∷ zs) ys x = ap (λ (ws : List A). z ∷ ws) (at_end zs ys x)

-- the number of a part is one of theirs
pub part_among : {O : Type 0} (parts : List (WiredPart O)) (j : ℕ) (part : WiredPart O) → slice_get parts j ≡ Some part → IsMember part.number (map number_in parts)
part_among [] j part at = absurd (cc)
part_among (p ∷ ps) zero part at = inl (ap number_in (same at))
  where
    same : Some p ≡ Some part → part ≡ p
    same e = cc
part_among (p ∷ ps) (suc j) part at = inr (part_among ps j part at)

module _ {E O : Type 0} {e : elements.Ghosts E} where
  part_stood : (ns : List ℕ) (ends : List (Option E)) (wired : WiredPart O) (part : Part E O e) → IsPartFrom (without ns ends) wired part → IsPartFrom ends wired part
  part_stood ns ends wired part is = record {
    number = is.number;
    element = without_stood ns ends wired.number part.element is.element;
    out = is.out;
    pads = is.pads;
  }

  pub parts_stood : (ns : List ℕ) (ends : List (Option E)) (wired : List (WiredPart O)) (parts : List (Part E O e)) → AllZip (IsPartFrom (without ns ends)) wired parts → AllZip (IsPartFrom ends) wired parts
  parts_stood ns ends wired parts all = zip_each (IsPartFrom (without ns ends)) (IsPartFrom ends) (part_stood ns ends) wired parts all

module _ {E : Type 0} (e : elements.Ghosts E) where
  pub element_stays : (ns : List ℕ) (ends : List (Option E)) (n ports : ℕ) → (IsMember n ns → ⊥) → ElementAt e ends n ports → ElementAt e (without ns ends) n ports
  element_stays ns ends n ports other at = record { element = at.element; at = without_stays ns ends n at.element other at.at; has = at.has }

  -- the first is taken; the others are there still
  pub parts_left : {O : Type 0} (part : WiredPart O) (rest : List (WiredPart O)) (ends : List (Option E)) → Once (map number_in (part ∷ rest)) → AreAt e ends (part ∷ rest) → AreAt e (without (part.number ∷ []) ends) rest
  parts_left part rest ends once at j one here = element_stays (part.number ∷ []) ends one.number (length one.pads.items) other (at (suc j) one here)
    where
      other : IsMember one.number (part.number ∷ []) → ⊥
      other (inl same) = once.0 (subst (λ (n : ℕ). IsMember n (map number_in rest)) same (part_among rest j one here))
      other (inr m) = m

-- What is known within the making of a task's elements: those that are left are there, and with them all are made.
pub record PartsSoon {E O : Type 0} (e : elements.Ghosts E) (all : List (WiredPart O)) (start : List (Option E)) (rest : List (WiredPart O)) (now : List (Option E)) (parts : List (Part E O e)) : Type 0 where
  pub there : AreAt e now rest
  pub once : Once (map number_in rest)
  pub left : without (map number_in rest) now ≡ without (map number_in all) start
  pub goes_on : (more : List (Part E O e)) → AllZip (IsPartFrom now) rest more → AllZip (IsPartFrom start) all (parts ++ more)

module _ {E O : Type 0} (e : elements.Ghosts E) (all : List (WiredPart O)) (start : List (Option E)) where
  pub parts_step : (part : WiredPart O) (rest rest' : List (WiredPart O)) (now now' : List (Option E)) (parts parts' : List (Part E O e)) (made : Part E O e) → rest ≡ part ∷ rest' → now' ≡ without (part.number ∷ []) now
      → IsPartFrom now part made → parts' ≡ parts ++ made ∷ [] → PartsSoon e all start rest now parts → PartsSoon e all start rest' now' parts'
  parts_step part rest rest' now now' parts parts' made is taken from more so = record {
    there = subst (λ (ends : List (Option E)). AreAt e ends rest') (sym taken) (parts_left e part rest' now once (subst (λ (ps : List (WiredPart O)). AreAt e now ps) is so.there));
    once = once.1;
    left =
        ap (without (map number_in rest')) taken ∙ sym (without_more (part.number ∷ []) (map number_in rest') now)
        ∙ ap (λ (ps : List (WiredPart O)). without (map number_in ps) now) (sym is) ∙ so.left;
    goes_on = λ later zip.
        subst (λ (ps : List (Part E O e)). AllZip (IsPartFrom start) all ps) (at_end parts later made ∙ ap (λ (ps : List (Part E O e)). ps ++ later) (sym more))
        (so.goes_on (made ∷ later)
        (subst (λ (ps : List (WiredPart O)). AllZip (IsPartFrom now) ps (made ∷ later)) (sym is)
        (from, parts_stood (part.number ∷ []) now rest' later (subst (λ (ends : List (Option E)). AllZip (IsPartFrom ends) rest' later) taken zip))));
  }
    where
      once : Once (map number_in (part ∷ rest'))
      once = subst (λ (ps : List (WiredPart O)). Once (map number_in ps)) is so.once

  pub parts_end : (rest : List (WiredPart O)) (now : List (Option E)) (parts : List (Part E O e)) → rest ≡ [] → PartsSoon e all start rest now parts → AllZip (IsPartFrom start) all parts × (now ≡ without (map number_in all) start)
  parts_end rest now parts none so = (
    subst (λ (ps : List (Part E O e)). AllZip (IsPartFrom start) all ps) (nil parts) (so.goes_on [] (zip_done (IsPartFrom now) rest none)),
    sym (without_none now) ∙ ap (λ (ps : List (WiredPart O)). without (map number_in ps) now) (sym none) ∙ so.left,
  )
