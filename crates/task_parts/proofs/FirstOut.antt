-- The first that was put out for a port.
use Rattle.std.proofs.Common.{◌≡◌, ◌⊎◌, ◌<◌, ◌+◌, ℕ, true, false, eqb, if◌then◌else◌, List, ◌∷◌, Some, drop, get_or, length, suc, refl, sym, ap, ◌∙◌, inl, inr, arith}
use Rattle.std.proofs.Math.Seq.{drop-cons}
use Rattle.std.proofs.lemmas.Bool.Decides.{eqb_tells}
use Rattle.gst_item.specs.declared.out.Out.{Out}
use Rattle.flow_model.specs.Item.{is_buffer}
use Rattle.flow_model.specs.Takes.{on_port}
use Rattle.task_pads.specs.Pads.{first_is_buffer}

one_more : (j : ℕ) → suc j ≡ j + 1
one_more j = omega (arith)

module _ (port : ℕ) where
  yes : (o : Out) (os : List Out) → o.pad ≡ port → on_port port (o ∷ os) ≡ o.item ∷ on_port port os
  yes o os same = go (eqb_tells o.pad port)
    where
      go : ((eqb o.pad port ≡ true) × (o.pad ≡ port)) ⊎ ((eqb o.pad port ≡ false) × (o.pad ≡ port → ⊥)) → (if eqb o.pad port then o.item ∷ on_port port os else on_port port os) ≡ o.item ∷ on_port port os
      go (inl t) = rw t.0 refl
      go (inr t) = absurd (t.1 same)

  no : (o : Out) (os : List Out) → (o.pad ≡ port → ⊥) → on_port port (o ∷ os) ≡ on_port port os
  no o os other = go (eqb_tells o.pad port)
    where
      go : ((eqb o.pad port ≡ true) × (o.pad ≡ port)) ⊎ ((eqb o.pad port ≡ false) × (o.pad ≡ port → ⊥)) → (if eqb o.pad port then o.item ∷ on_port port os else on_port port os) ≡ on_port port os
      go (inl t) = absurd (other t.1)
      go (inr t) = rw t.0 refl

  module _ (outs : List Out) (j : ℕ) (out : Out) (low : j < length outs) (at : out ≡ get_or outs j out) (before : on_port port outs ≡ on_port port (drop j outs)) where
    whole : drop j outs ≡ out ∷ drop (suc j) outs
    whole = drop-cons outs j out low ∙ ap (λ x. x ∷ drop (suc j) outs) (sym at)

    -- it is for the port, and stands first for it
    pub first_here : out.pad ≡ port → first_is_buffer (on_port port outs) ≡ Some (is_buffer out.item)
    first_here same = ap first_is_buffer (before ∙ ap (on_port port) whole ∙ yes out (drop (suc j) outs) same)

    -- it is for another one
    pub none_here : (out.pad ≡ port → ⊥) → on_port port outs ≡ on_port port (drop (j + 1) outs)
    none_here other = before ∙ ap (on_port port) whole ∙ no out (drop (suc j) outs) other ∙ ap (λ (n : ℕ). on_port port (drop n outs)) (one_more j)
