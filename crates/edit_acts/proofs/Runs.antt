-- A run goes on where a link of its graph was undone, with EOS or without.
use Rattle.std.proofs.Common.{◌≡◌, ◌⊎◌, ℕ, Bool, true, false, not, if◌then◌else◌, List, [], ◌∷◌, Option, length, map, sym, ap, ◌∙◌, subst, inl, inr, arith}
use Rattle.flow_model.specs.Item.{Item}
use Rattle.flow_model.specs.Link.{Span}
use Rattle.flow_model.specs.Eval.{Plan}
use Rattle.lane_core.specs.Lane.{Lane}
use Rattle.lane_core.specs.declared.ends.Inlet as inlets
use Rattle.lane_core.specs.declared.ends.Outlet as outlets
use Rattle.flow_model.specs.Edit.{undo, undone}
use Rattle.flow_model.specs.Moment.{Moment}
use Rattle.flow_model.specs.declared.element.TaskElement as elements
use Rattle.flow_model.specs.declared.source.TaskSource as sources
use Rattle.net_task.specs.declared.task.Task.{Task}
use Rattle.net_turns.specs.Net.{NetStands}
use Rattle.graph_core.specs.GraphPlan.{IsIn, owner_of, pad_id}
use Rattle.graph_pads.specs.Links.{is_same}
use Rattle.graph_pads.specs.declared.pad.PadLink.{PadLink}
use Rattle.graph_pads.specs.declared.pad.PadPlace.{PadPlace}
use Rattle.graph_edits.specs.Edited.{Edited, is_there, unlinked_at, without}
use Rattle.graph_edits.specs.Growing.{IsKept}
use Rattle.graph_edits.proofs.Keeping.{unlinked_kept}
use Rattle.graph_edits.proofs.LinksStanding.{unlinked_stand}
use Rattle.edit_core.specs.Tasks.{AreTasksOf}
use Rattle.edit_core.specs.Ways.{IsRun}
use Rattle.edit_core.proofs.Marks.{all_undone}
use Rattle.edit_acts.specs.Undoing.{IsRunWith}

-- a link that is left was there
pub left : (source : PadPlace) (links : List PadLink) (link : PadLink) → IsIn link (without source links) → IsIn link links
left source [] link is = is
left source (one ∷ links) link is = go (is_same one.source source) is (left source links link)
  where
    go : (b : Bool) → IsIn link (if not b then one ∷ without source links else without source links) → (IsIn link (without source links) → IsIn link links) → (link ≡ one) ⊎ IsIn link links
    go true is rest = inr (rest is)
    go false (inl same) rest = inl same
    go false (inr more) rest = inr (rest more)

module _ {S E I O L : Type 0} {s : sources.Ghosts S} {e : elements.Ghosts E} {i : inlets.Ghosts I L O} {o : outlets.Ghosts O L} (g : Edited) (source : PadPlace) (place : ℕ) (eos : Bool) where
  -- the elements of the graph are the same
  same_are : (tasks : List (Task S E I O L s e i o)) → AreTasksOf g tasks → AreTasksOf (unlinked_at source place eos g) tasks
  same_are tasks are = record {
    there = are.there;
    awake = are.awake;
    owned = are.owned;
    fed = are.fed;
    inner = are.inner;
    lanes = are.lanes;
    sources = are.sources;
    bare = are.bare;
    reached = are.reached;
  }

module _ {S E I O L : Type 0} {s : sources.Ghosts S} {e : elements.Ghosts E} {i : inlets.Ghosts I L O} {o : outlets.Ghosts O L} (g : Edited) (m : Moment) (tasks : List (Task S E I O L s e i o)) (tells : Option (List Lane))
    (pad : ℕ) (source : PadPlace) (w : IsRunWith g m tasks tells pad source) (eos : Bool) (m' : Moment) (plan : m'.plan ≡ undone pad (length (m.history pad)) eos m.plan) (history : m'.history ≡ m.history) where
  abbrev place : ℕ
  place = length (m.history pad)

  abbrev after : Edited
  after = unlinked_at source place eos g

  sinks : (a : ℕ) → is_there g a ≡ true → m'.plan.sinks a ≡ after.spans a
  sinks a there =
      ap (λ (p : Plan). p.sinks a) plan
      ∙ ap (λ (sss : List (List Span)). map (map (undo pad place eos)) sss) (w.run.sinks a there)
      ∙ ap (λ (p : ℕ). map (map (undo p place eos)) (g.spans a)) w.number

  owners : (p a : ℕ) → m'.plan.owner p ≡ a → is_there g a ≡ true → owner_of p ≡ a
  owners p a own there = w.run.owners p a (ap (λ (q : Plan). q.owner p) (sym plan) ∙ own) there

  kept : IsKept m.history after
  kept = let same = ap (λ (p : ℕ). length (m.history p)) w.number in unlinked_kept m.history g source place eos (omega (arith, same)) w.run.kept

  -- tasks that stand then and have the elements are those of a run
  pub run_on : (tasks' : List (Task S E I O L s e i o)) → NetStands m' tasks' tells → AreTasksOf g tasks' → IsRun after m' tasks' tells
  run_on tasks' stands are = record {
    net = stands;
    are = same_are g source place eos tasks' are;
    sinks = sinks;
    owners = owners;
    kept = subst (λ (h : ℕ → List Item). IsKept h after) (sym history) kept;
    links = unlinked_stand g source place eos w.few w.run.links;
    made = λ link is. w.run.made link (left source g.links link is);
    unmarked = λ a. all_undone (pad_id source) place eos (g.spans a) (w.run.unmarked a);
  }
