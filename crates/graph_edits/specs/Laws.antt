-- Edits of a graph and control's acts on moments are the same, and a graph to which nothing was done is that of its line.
use Rattle.std.specs.Prelude.{◌≡◌, ◌≢◌, ◌≤◌, ◌++◌, ℕ, Bool, List, drop, slice_get}
use Rattle.flow_model.specs.Item.{Item}
use Rattle.flow_model.specs.Call.{Mark}
use Rattle.flow_model.specs.Link.{Linked, between}
use Rattle.graph_core.specs.Elements.{Made}
use Rattle.graph_core.specs.GraphPlan.{line_plan, pad_id, rule_for}
use Rattle.graph_pads.specs.declared.pad.PadLink.{PadLink}
use Rattle.graph_pads.specs.declared.pad.PadPlace.{PadPlace}
use Rattle.flow_model.specs.Edit.{linked, undo, undone}
use Rattle.graph_edits.specs.Edited.{Edited, linked_at, unedited, unlinked_at}
use Rattle.graph_edits.specs.Plans.{edited_plan, edited_rule}

-- A link that is undone or made in an edited graph changes its plan as control's act changes that of a moment.
pub record ActsAreEdits : Type 0 where
  pub undoing : (contents : ℕ → List ℕ) (forward : List ℕ) (count : ℕ → ℕ) (g : Edited) (source : PadPlace) (place : ℕ) (eos : Bool)
      → (edited_plan contents (unlinked_at source place eos g) forward count).sinks ≡ (undone (pad_id source) place eos (edited_plan contents g forward count)).sinks
  pub linking : (contents : ℕ → List ℕ) (forward : List ℕ) (count : ℕ → ℕ) (g : Edited) (source sink : PadPlace) (place : ℕ)
      → (edited_plan contents (linked_at source place sink g) forward count).sinks
      ≡ (linked (pad_id source) place sink.element sink.pad (edited_plan contents g forward count)).sinks

-- Where nothing was done the elements have the rules and the links of the line.
pub record NothingDone : Type 0 where
  pub rules : (contents : ℕ → List ℕ) (made : List Made) (links : List PadLink) (e : ℕ)
      → edited_rule contents (unedited made links) e ≡ rule_for (slice_get made e) e (contents e)
  pub sinks : (contents : ℕ → List ℕ) (made : List Made) (links : List PadLink) (forward : List ℕ) (count : ℕ → ℕ)
      → (edited_plan contents (unedited made links) forward count).sinks ≡ (line_plan contents made links forward count).sinks

-- A relink loses no item and gives none twice: what the old link gave up to the place and what the new one gives from there on is, one
-- behind the other, what the old link would have given; and links of other source pads stay.
pub record RelinkSplits : Type 0 where
  pub items : (history : List Item) (from place : ℕ) → from ≤ place → between from place history ++ drop place history ≡ drop from history
  pub others : (p q place from : ℕ) (eos : Bool) (marks : List (ℕ × Mark)) → p ≢ q → undo q place eos (Linked p from marks) ≡ Linked p from marks
