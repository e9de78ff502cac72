-- What an element that was taken away took, and what crossed its pads.
use Rattle.std.proofs.Common.{◌≡◌, ◌++◌, ℕ, false, List, [], ◌∷◌, map, refl, sym, ap, ◌∙◌, subst, append-nil}
use Rattle.std.proofs.lemmas.Bool.{true≢false}
use Rattle.flow_model.specs.Call.{Call}
use Rattle.flow_model.specs.Item.{Item}
use Rattle.flow_model.specs.Link.{Span, input_of}
use Rattle.flow_model.specs.Moment.{Moment, owed_at}
use Rattle.flow_model.specs.Pad.{Holds}
use Rattle.flow_model.specs.Rule.{Rule}
use Rattle.flow_model.specs.Split.{AreEmpty}
use Rattle.flow_model.specs.declared.element.TaskElement as elements
use Rattle.flow_model.specs.declared.source.TaskSource as sources
use Rattle.flow_model.proofs.Splits.{split_all}
use Rattle.lane_core.specs.declared.ends.Inlet as inlets
use Rattle.lane_core.specs.declared.ends.Outlet as outlets
use Rattle.net_turns.specs.Net.{NetStands, Owns}
use Rattle.net_turns.proofs.Facts.{fed_owned}
use Rattle.graph_edits.specs.Edited.{Edited, is_there}
use Rattle.edit_acts.specs.Evaluated.{IsGone}
use Rattle.edit_acts.specs.Planned.{givens}
use Rattle.edit_acts.specs.Scripted.{Has, ScriptRun}

-- sink pads that were given lists give these
given_all : (h : ℕ → List Item) (took : List (List Call)) → map (input_of h) (givens took) ≡ took
given_all h [] = refl
given_all h (calls ∷ took) = ap (λ (cs : List Call). cs ∷ map (input_of h) (givens took)) (append-nil calls) ∙ ap (λ (css : List (List Call)). calls ∷ css) (given_all h took)

module _ {S E I O L : Type 0} {s : sources.Ghosts S} {e : elements.Ghosts E} {i : inlets.Ghosts I L O} {o : outlets.Ghosts O L} (g : Edited) (m : Moment)
    (run : ScriptRun s e i o) (has : Has run g m) where
  abbrev net : NetStands m run.tasks run.tells
  net = has.run.net

  -- what a pad is owed has crossed it or waits there
  pub put_out : (p : ℕ) → owed_at m p 0 ≡ m.history p ++ m.waits p
  put_out p = subst (λ (cuts : List (ℕ × ℕ)). Holds 0 0 cuts (owed_at m p) (m.history p) (m.waits p)) (net.plain.uncut p) ((net.cells (m.plan.owner p)).pads p refl)

  module _ (a : ℕ) (gone : is_there g a ≡ false) where
    no_task : (k : ℕ) → Owns run.tasks k a → ⊥
    no_task k own = true≢false (sym (has.run.are.there k a own) ∙ gone)

    empty : AreEmpty (m.held a)
    empty = net.others a (λ k head fed same. no_task k (subst (λ (n : ℕ). Owns run.tasks k n) same (fed_owned run.tasks k head fed)))

    -- it took what it was given
    pub all_taken : (took : List (List Call)) → m.plan.sinks a ≡ givens took → m.took a ≡ took
    all_taken took given = split_all empty (net.cells a).input ∙ ap (λ (sss : List (List Span)). map (input_of m.history) sss) given ∙ given_all m.history took

    -- all that it owes has crossed its pads
    pub all_crossed : (p : ℕ) → m.plan.owner p ≡ a → m.history p ≡ m.plan.rule a (m.took a) (m.plan.port p) 0
    all_crossed p own =
        sym (append-nil (m.history p))
        ∙ ap (λ (xs : List Item). m.history p ++ xs) (sym (net.loose p (λ k owns. no_task k (subst (λ (n : ℕ). Owns run.tasks k n) own owns))))
        ∙ sym (put_out p)
        ∙ ap (λ (n : ℕ). m.plan.rule n (m.took n) (m.plan.port p) 0) own

    module _ (contents : ℕ → List ℕ) (due : ℕ → List Item) (is : IsGone contents g m due a) where
      pub gone_took : m.took a ≡ is.took
      gone_took = all_taken is.took is.sinks

      pub gone_crossed : (p : ℕ) → m.plan.owner p ≡ a → m.history p ≡ is.cut (m.plan.port p)
      gone_crossed p own = all_crossed p own ∙ ap (λ (rule : Rule). rule (m.took a) (m.plan.port p) 0) is.rule
