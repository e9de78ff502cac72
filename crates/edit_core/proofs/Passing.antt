-- One pass along an order of the elements.
use Rattle.std.proofs.Common.{◌≡◌, ◌⊎◌, ◌<◌, ◌≤◌, ℕ, suc, true, false, eqb, List, [], Some, length, take, sym, ap, ◌∙◌, subst, inl, inr, arith}
use Rattle.std.specs.Prelude.{slice_get, slice_set}
use Rattle.std.proofs.Math.Seq.{take-length}
use Rattle.std.proofs.lemmas.Bool.Decides.{eqb_tells}
use Rattle.std.proofs.lemmas.List.{get_or-set_other, get_or-set_same, length-set}
use Rattle.flow_model.specs.Item.{Item}
use Rattle.graph_order.specs.Forward.{IsMember, StandsBefore}
use Rattle.graph_order.proofs.Once.{Once, once_by, within}
use Rattle.graph_edits.specs.Edited.{Edited}
use Rattle.graph_edits.specs.Plans.{IsOrder}
use Rattle.edit_core.specs.Notes.{AreNoted, AreNotedBefore, IsNoted, no_note, note_of}
use Rattle.edit_core.specs.declared.notes.Note.{Note}
use Rattle.edit_core.proofs.Standing.{before_place, made_before, member_at, one_further}

-- these elements are noted
pub record AreNotedIn (g : Edited) (h : ℕ → List Item) (start : ℕ) (notes : List Note) (es : List ℕ) : Type 0 where
  pub count : length notes ≡ length g.made
  pub each : (e : ℕ) → IsMember e es → IsNoted g h start e (note_of notes e)

module _ (g : Edited) (h : ℕ → List Item) (start : ℕ) where
  pub pass_begins : (notes : List Note) → length notes ≡ length g.made → AreNotedIn g h start notes []
  pass_begins notes count = record { count = count; each = λ e m. absurd m }

  module _ (order : List ℕ) (is : IsOrder g order) where
    once : Once order
    once = once_by (length g.made) [] order is.whole is.size

    pub pass_on : (notes : List Note) (k j e : ℕ) (note : Note) → slice_get order k ≡ Some e → j ≡ suc k → AreNotedIn g h start notes (take k order)
        → (e < length g.made → AreNotedBefore g h start notes e → IsNoted g h start e note) → AreNotedIn g h start (slice_set notes e note) (take j order)
    pass_on notes k j e note at next so_far is_noted = record {
      count = length-set notes e note ∙ so_far.count;
      each = λ d m. by d (one_further order k e d at (subst (λ (n : ℕ). IsMember d (take n order)) next m));
    }
      where
        there : e < length g.made
        there = within (length g.made) order is.whole is.size e (member_at order k e at)

        before_it : AreNotedBefore g h start notes e
        before_it link made sink =
            so_far.each link.source.element
            (before_place link.source.element e order k once
            (subst (λ (d : ℕ). StandsBefore link.source.element d order) sink (made_before g.ever order is.goes link made)) at)

        inside : e < length notes
        inside = let count = so_far.count in let low = there in omega (arith, count, low)

        here : (d : ℕ) → d ≡ e → IsNoted g h start d (note_of (slice_set notes e note) d)
        here d same =
            subst (λ (a : ℕ). IsNoted g h start a (note_of (slice_set notes e note) a)) (sym same)
            (subst (λ (n : Note). IsNoted g h start e n) (sym (get_or-set_same notes e note no_note inside)) (is_noted there before_it))

        by : (d : ℕ) → (d ≡ e) ⊎ IsMember d (take k order) → IsNoted g h start d (note_of (slice_set notes e note) d)
        by d (inl same) = here d same
        by d (inr m) = go (eqb_tells d e)
          where
            go : ((eqb d e ≡ true) × (d ≡ e)) ⊎ ((eqb d e ≡ false) × (d ≡ e → ⊥)) → IsNoted g h start d (note_of (slice_set notes e note) d)
            go (inl t) = here d t.1
            go (inr t) = subst (λ (n : Note). IsNoted g h start d n) (sym (get_or-set_other notes e d note no_note t.1)) (so_far.each d m)

    pub pass_ends : (notes : List Note) (k : ℕ) → length order ≤ k → k ≤ length order → AreNotedIn g h start notes (take k order) → AreNoted g h start notes
    pass_ends notes k high low so_far = record {
      count = so_far.count;
      each = λ e there. so_far.each e (subst (λ (xs : List ℕ). IsMember e xs) (sym whole) (is.whole e there));
    }
      where
        whole : take k order ≡ order
        whole = ap (λ (n : ℕ). take n order) (omega (arith, high, low)) ∙ take-length order
