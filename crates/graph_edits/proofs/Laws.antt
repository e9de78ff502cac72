-- The laws hold: plans are the same by what they compute to.
use Rattle.std.proofs.Common.{◌≡◌, ◌⊎◌, ℕ, Bool, true, false, eqb, ◌-◌, ◌≤◌, ◌&&◌, List, [], ◌++◌, drop, length, refl, sym, ap, ◌∙◌, inl, inr, arith}
use Rattle.std.specs.Prelude.{nat_lt, if◌then◌else◌, slice_get}
use Rattle.std.proofs.lemmas.Bool.Decides.{eqb_tells, nat_tests}
use Rattle.std.proofs.lemmas.List.{drop-drop, take-append-drop}
use Rattle.std.proofs.lemmas.Option.{slice_get_past}
use Rattle.flow_model.specs.Item.{Item}
use Rattle.flow_model.specs.Call.{Mark}
use Rattle.flow_model.specs.Link.{Linked, between}
use Rattle.flow_model.specs.Edit.{undo}
use Rattle.el_settings.specs.Asked.{is_source}
use Rattle.graph_core.specs.Elements.{Made, has}
use Rattle.graph_core.specs.GraphPlan.{line_plan, rule_for}
use Rattle.graph_pads.specs.declared.pad.PadLink.{PadLink}
use Rattle.graph_edits.specs.Edited.{unedited}
use Rattle.graph_edits.specs.Laws.{ActsAreEdits, NothingDone, RelinkSplits}
use Rattle.graph_edits.specs.Plans.{edited_plan, edited_rule}

pub acts_are_edits : ActsAreEdits
unfolding edited_plan
acts_are_edits = record { undoing = λ contents forward count g source place eos. refl; linking = λ contents forward count g source sink place. refl }

-- a number is below another, or not below it
below_or_not : (a b : ℕ) → (nat_lt a b ≡ true) ⊎ ((nat_lt a b ≡ false) × (b ≤ a))
below_or_not a b = grind (arith, nat_tests)

rule_there : (contents : ℕ → List ℕ) (made : List Made) (links : List PadLink) (e : ℕ) → nat_lt e (length made) ≡ true
    → edited_rule contents (unedited made links) e ≡ rule_for (slice_get made e) e (contents e)
rule_there contents made links e below = rw below (by (has is_source made e))
  where
    by : (b : Bool) → (if b && false then (λ inputs port j. []) else rule_for (slice_get made e) e (contents e)) ≡ rule_for (slice_get made e) e (contents e)
    by true = refl
    by false = refl

rule_past : (contents : ℕ → List ℕ) (made : List Made) (links : List PadLink) (e : ℕ) → length made ≤ e
    → edited_rule contents (unedited made links) e ≡ rule_for (slice_get made e) e (contents e)
rule_past contents made links e past = rw (slice_get_past made e past) refl

pub nothing_done : NothingDone
unfolding edited_plan line_plan
nothing_done = record {
  rules = λ contents made links e. go contents made links e (below_or_not e (length made));
  sinks = λ contents made links forward count. refl;
}
  where
    go : (contents : ℕ → List ℕ) (made : List Made) (links : List PadLink) (e : ℕ) → (nat_lt e (length made) ≡ true) ⊎ ((nat_lt e (length made) ≡ false) × (length made ≤ e))
        → edited_rule contents (unedited made links) e ≡ rule_for (slice_get made e) e (contents e)
    go contents made links e (inl below) = rule_there contents made links e below
    go contents made links e (inr past) = rule_past contents made links e past.1

split_at : (history : List Item) (from place : ℕ) → from ≤ place → drop (place - from) (drop from history) ≡ drop place history
split_at history from place within = drop-drop (place - from) from history ∙ ap (λ k. drop k history) (omega (arith, within))

other_link : (p q place from : ℕ) (eos : Bool) (marks : List (ℕ × Mark)) → (p ≡ q → ⊥) → undo q place eos (Linked p from marks) ≡ Linked p from marks
other_link p q place from eos marks n = go (eqb_tells p q)
  where
    go : ((eqb p q ≡ true) × (p ≡ q)) ⊎ ((eqb p q ≡ false) × (p ≡ q → ⊥)) → undo q place eos (Linked p from marks) ≡ Linked p from marks
    go (inl t) = absurd (n t.1)
    go (inr t) = rw t.0 refl

pub relink_splits : RelinkSplits
relink_splits = record {
  items = λ history from place within. ap (λ xs. between from place history ++ xs) (sym (split_at history from place within)) ∙ take-append-drop (place - from) (drop from history);
  others = other_link;
}
