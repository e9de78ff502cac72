-- Each element that a task names is one of it.
use Rattle.std.proofs.Common.{◌≡◌, ℕ, zero, suc, true, List, [], ◌∷◌, map, Some, refl, subst}
use Rattle.std.specs.Prelude.{slice_get, Result, Ok, Err, IfOk, IfErr, OnOk}
use Rattle.flow_model.specs.declared.element.TaskElement as elements
use Rattle.flow_model.specs.declared.source.TaskSource as sources
use Rattle.task_pads.specs.Pads.{pad_shape}
use Rattle.task_parts.specs.declared.part.Part.{Part}
use Rattle.task_parts.specs.declared.head.Head.{Head}
use Rattle.task_parts.specs.Shape.{PartShape, part_shape, head_shape, shape_of, pads_within, all_within, head_within, is_closed}
use Rattle.gst_value.proofs.Basics.{and_left, and_right, some_same}

within_at : {E O : Type 0} {e : elements.Ghosts E} (all : List PartShape) (parts : List (Part E O e)) (k : ℕ) (part : Part E O e) → all_within all (map part_shape parts) ≡ true → slice_get parts k ≡ Some part → pads_within all (map pad_shape part.pads.items) ≡ true
within_at all [] k part q at = absurd cc
within_at all (p ∷ ps) zero part q at = subst (λ (z : Part _ _ _). pads_within all (map pad_shape z.pads.items) ≡ true) (some_same at) (and_left (pads_within all (map pad_shape p.pads.items)) (all_within all (map part_shape ps)) q)
within_at all (p ∷ ps) (suc k) part q at = within_at all ps k part (and_right (pads_within all (map pad_shape p.pads.items)) (all_within all (map part_shape ps)) q) at

pub closed_part : {S E I O : Type 0} {s : sources.Ghosts S} {e : elements.Ghosts E} (head : Head S I O s) (parts : List (Part E O e)) (k : ℕ) (part : Part E O e) → is_closed (shape_of head parts) ≡ true → slice_get parts k ≡ Some part
    → pads_within (map part_shape parts) (map pad_shape part.pads.items) ≡ true
closed_part head parts k part q at = within_at (map part_shape parts) parts k part (and_right (head_within (map part_shape parts) (head_shape head)) (all_within (map part_shape parts) (map part_shape parts)) q) at

-- a fact of what a call answered
pub if_ok : {T X : Type 0} (r : Result T X) (P : T → Type 0) → ((t : T) → r ≡ Ok t → P t) → IfOk r P
if_ok (Ok t) P f = f t refl
if_ok (Err x) P f = tt

pub if_err : {T X : Type 0} (r : Result T X) (P : X → Type 0) → ((x : X) → r ≡ Err x → P x) → IfErr r P
if_err (Ok t) P f = tt
if_err (Err x) P f = f x refl

pub err_at : {T X : Type 0} (r : Result T X) (P : X → Type 0) (x : X) → r ≡ Err x → IfErr r P → P x
err_at (Ok t) P x q f = absurd cc
err_at (Err y) P x q f = let same : y ≡ x = cc in subst P same f

pub ok_at : {T X : Type 0} (r : Result T X) (P : T → Type 0) (t : T) → r ≡ Ok t → IfOk r P → P t
ok_at (Ok u) P t q f = let same : u ≡ t = cc in subst P same f
ok_at (Err y) P t q f = absurd cc

pub on_ok_of : {T X : Type 0} (r : Result T X) (P : Type 0) → ((t : T) → r ≡ Ok t → P) → OnOk r P
on_ok_of (Ok t) P f = f t refl
on_ok_of (Err x) P f = tt
