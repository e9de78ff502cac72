-- A source that is asleep has no task, so nothing has crossed its pads, and nothing crosses them as the run goes on.
use Rattle.std.proofs.Common.{◌≡◌, ◌&&◌, ◌++◌, ℕ, Bool, true, false, not, List, [], ◌∷◌, Option, Some, length, map, refl, sym, ap, ◌∙◌, subst, arith}
use Rattle.std.specs.Prelude.{slice_get}
use Rattle.std.proofs.lemmas.Bool.{true≢false}
use Rattle.flow_model.specs.Call.{Call}
use Rattle.flow_model.specs.Eval.{Plan, inputs}
use Rattle.flow_model.specs.Item.{Item}
use Rattle.flow_model.specs.Link.{Span, input_of}
use Rattle.gst_value.proofs.Places.{map_get}
use Rattle.gst_value.specs.declared.name.PadName.{PadName}
use Rattle.lane_core.specs.Lane.{Lane}
use Rattle.lane_core.specs.declared.ends.Inlet as inlets
use Rattle.lane_core.specs.declared.ends.Outlet as outlets
use Rattle.flow_model.specs.Moment.{Moment, owed_at}
use Rattle.flow_model.specs.Split.{AreSplit}
use Rattle.flow_model.specs.declared.element.TaskElement as elements
use Rattle.flow_model.specs.declared.source.TaskSource as sources
use Rattle.task_parts.specs.declared.head.Head.{Head}
use Rattle.task_parts.specs.declared.head.Head.TheVariants.{Source as OfSource, Inlets}
use Rattle.task_edits.specs.Places.{HeadHasNot}
use Rattle.net_task.specs.declared.task.Task.{Task}
use Rattle.net_task.specs.Frame.{IsWire, head_frame, head_wire, part_frame, wire_of}
use Rattle.net_turns.specs.Net.{GoesOn, NetStands, Owns}
use Rattle.net_turns.proofs.Facts.{own_pad}
use Rattle.net_edits.specs.Nets.{NoneHas}
use Rattle.el_settings.specs.Asked.{is_source}
use Rattle.graph_core.specs.Elements.{has}
use Rattle.graph_core.specs.GraphPlan.{pad_id}
use Rattle.graph_edits.specs.declared.graph.EditedGraph.{EditedGraph}
use Rattle.graph_pads.specs.declared.pad.Direction.TheVariants.{Source}
use Rattle.graph_pads.specs.declared.pad.PadPlace.{PadPlace}
use Rattle.graph_edits.specs.Edited.{Edited, is_active}
use Rattle.graph_edits.specs.Names.{pad_named}
use Rattle.graph_edits.specs.Plans.{is_asleep}
use Rattle.edit_core.specs.Ways.{IsRun}
use Rattle.edit_core.specs.declared.feeds.Feeds.{Feeds}
use Rattle.edit_core.proofs.Finding.{named_there}
use Rattle.edit_core.proofs.Ways.{sinks_tell}
use Rattle.edit_acts.specs.Controlled.{AreOwned, IsControlled}
use Rattle.edit_acts.proofs.Owing.{owed_is}

-- nothing has crossed a pad of a source that is asleep
abbrev pub AreBare : Edited → Moment → Type 0
AreBare g m = (pad : PadName) (source : PadPlace) → pad_named Source g pad ≡ Some source → is_asleep g source.element ≡ true → m.history (pad_id source) ≡ []

front_none : (xs ys : List Item) → xs ++ ys ≡ [] → xs ≡ []
front_none [] ys none = refl
front_none (x ∷ xs) ys none = absurd cc

-- what takes nothing took nothing
took_none : (took held given : List (List Call)) → AreSplit took held given → given ≡ [] → took ≡ []
took_none _ _ _ AreSplit.none none = refl
took_none _ _ _ (AreSplit.pad same more) none = absurd cc

first_of : (a b : Bool) → (a && b) ≡ true → a ≡ true
first_of true b both = refl
first_of false b both = both

module _ {S E I O L : Type 0} {s : sources.Ghosts S} {e : elements.Ghosts E} {i : inlets.Ghosts I L O} {o : outlets.Ghosts O L} (m : Moment) (tasks : List (Task S E I O L s e i o)) (tells : Option (List Lane)) (net : NetStands m tasks tells) (p : ℕ)
    (none : (k : ℕ) → Owns tasks k (m.plan.owner p) → ⊥) where
  -- no task has a pad of an element that none has
  none_has : NoneHas tasks p
  none_has k task at = (
    by_head task.head refl,
    λ place part part_at port pad pad_at same.
        none k (own_pad m tasks tells net k task at (wire_of o pad) p
        (IsWire.of_part place port (record { part = part_frame o part; at = map_get (part_frame o) task.parts.items place part part_at; pad_at = map_get (wire_of o) part.pads.items port pad pad_at })) same),
  )
    where
      by_head : (head : Head S I O s) → task.head ≡ head → HeadHasNot head p
      by_head (OfSource head) is = λ same. none k (own_pad m tasks tells net k task at (wire_of o head.pad) p (IsWire.of_head (ap (λ (h : Head S I O s). head_wire (head_frame o h)) is)) same)
      by_head (Inlets head) is = tt

module _ {S E I O L : Type 0} {s : sources.Ghosts S} {e : elements.Ghosts E} {i : inlets.Ghosts I L O} {o : outlets.Ghosts O L} (g : Edited) (m : Moment) (tasks : List (Task S E I O L s e i o)) (tells : Option (List Lane)) (run : IsRun g m tasks tells) (pads : AreOwned g m) where
  module _ (pad : PadName) (source : PadPlace) (named : pad_named Source g pad ≡ Some source) (asleep : is_asleep g source.element ≡ true) where
    unowned : (k : ℕ) → Owns tasks k (m.plan.owner (pad_id source)) → ⊥
    unowned k own = true≢false (sym asleep ∙ run.are.awake k source.element (subst (λ (n : ℕ). Owns tasks k n) (pads.owned pad source named) own))

    -- a source has no sink pads
    no_spans : (spans : List (List Span)) → g.spans source.element ≡ spans → spans ≡ []
    no_spans [] is = refl
    no_spans (one ∷ more) is =
        let size : length (one ∷ more) ≡ length (g.spans source.element) = ap (λ (sss : List (List Span)). length sss) (sym is) in
        let found : has is_source g.made source.element ≡ true = first_of (has is_source g.made source.element) (not (is_active g source.element)) asleep in
        let no_source : has is_source g.made source.element ≡ false = sinks_tell (slice_get g.made source.element) (length (one ∷ more)) (size ∙ run.links.counted source.element) (omega arith) in
        absurd (true≢false (sym found ∙ no_source))

    no_sinks : m.plan.sinks (m.plan.owner (pad_id source)) ≡ []
    no_sinks =
        ap m.plan.sinks (pads.owned pad source named)
        ∙ run.sinks source.element (named_there Source g pad source named)
        ∙ no_spans (g.spans source.element) refl

    -- nothing crosses its pad
    module _ (bare : m.history (pad_id source) ≡ []) (now : Moment) (goes : GoesOn m now) (tasks' : List (Task S E I O L s e i o)) (tells' : Option (List Lane)) (net : NetStands now tasks' tells') where
      took_same : now.took (m.plan.owner (pad_id source)) ≡ m.took (m.plan.owner (pad_id source))
      took_same =
          took_none (now.took (m.plan.owner (pad_id source))) (now.held (m.plan.owner (pad_id source))) (inputs now.plan now.history (m.plan.owner (pad_id source))) (net.cells (m.plan.owner (pad_id source))).input
          (ap (λ (plan : Plan). inputs plan now.history (m.plan.owner (pad_id source))) goes.plan ∙ ap (λ (sss : List (List Span)). map (input_of now.history) sss) no_sinks)
          ∙ sym (took_none (m.took (m.plan.owner (pad_id source))) (m.held (m.plan.owner (pad_id source))) (inputs m.plan m.history (m.plan.owner (pad_id source))) (run.net.cells (m.plan.owner (pad_id source))).input
          (ap (λ (sss : List (List Span)). map (input_of m.history) sss) no_sinks))

      owed_same : owed_at now (pad_id source) 0 ≡ owed_at m (pad_id source) 0
      owed_same =
          ap (λ (plan : Plan). plan.rule (plan.owner (pad_id source)) (now.took (plan.owner (pad_id source))) (plan.port (pad_id source)) 0) goes.plan
          ∙ ap (λ (took : List (List Call)). m.plan.rule (m.plan.owner (pad_id source)) took (m.plan.port (pad_id source)) 0) took_same

      still_bare : now.history (pad_id source) ≡ []
      still_bare =
          front_none (now.history (pad_id source)) (now.waits (pad_id source))
          (sym (owed_is now tasks' tells' net (pad_id source))
          ∙ owed_same
          ∙ owed_is m tasks tells run.net (pad_id source)
          ∙ ap (λ (h : List Item). h ++ m.waits (pad_id source)) bare
          ∙ run.net.loose (pad_id source) unowned)

  pub bare_on : AreBare g m → (now : Moment) → GoesOn m now → (tasks' : List (Task S E I O L s e i o)) (tells' : Option (List Lane)) → NetStands now tasks' tells' → AreBare g now
  bare_on bare now goes tasks' tells' net pad source named asleep = still_bare pad source named asleep (bare pad source named asleep) now goes tasks' tells' net

pub bare_of : {S E I O L : Type 0} {s : sources.Ghosts S} {e : elements.Ghosts E} {i : inlets.Ghosts I L O} {o : outlets.Ghosts O L} (graph : EditedGraph) (feeds : Feeds) (tasks : List (Task S E I O L s e i o)) (g : Edited) (m : Moment) (tells : Option (List Lane))
    → IsControlled graph feeds tasks g m tells → AreBare g m
bare_of graph feeds tasks g m tells w pad source named asleep =
    w.current.fresh pad source named (none_has m tasks tells w.run.net (pad_id source) (unowned g m tasks tells w.run w.pads pad source named asleep))
