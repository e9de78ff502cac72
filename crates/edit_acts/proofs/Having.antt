-- In a run of whose graph a link stands a task has its source pad, and that leads somewhere.
use Rattle.std.proofs.Common.{◌≡◌, ◌⊎◌, ◌&&◌, ◌==◌, ℕ, zero, suc, Bool, true, false, List, [], ◌∷◌, Option, Some, get_or, refl, sym, ap, ◌∙◌, subst, inl, inr}
use Rattle.std.specs.Prelude.{nat_lt}
use Rattle.std.specs.List.{list_any}
use Rattle.flow_model.specs.Link.{Span}
use Rattle.lane_core.specs.Lane.{Lane}
use Rattle.lane_core.specs.declared.ends.Inlet as inlets
use Rattle.lane_core.specs.declared.ends.Outlet as outlets
use Rattle.flow_model.specs.Moment.{Moment}
use Rattle.flow_model.specs.Standing.{LinksNowhere, links_from}
use Rattle.flow_model.specs.Step.{LeadsNowhere}
use Rattle.flow_model.specs.declared.element.TaskElement as elements
use Rattle.flow_model.specs.declared.source.TaskSource as sources
use Rattle.task_parts.specs.declared.head.Head.{Head}
use Rattle.task_parts.specs.declared.head.Head.TheVariants.{Source, Inlets}
use Rattle.gst_value.proofs.Basics.{number_itself, or_first, or_second}
use Rattle.gst_value.proofs.Places.{map_got}
use Rattle.net_task.specs.declared.task.Task.{Task}
use Rattle.net_task.specs.Frame.{HeadFrame, PartFrame, Wire, by_source, frame_of, head_frame, part_frame}
use Rattle.net_task.specs.Ties.{HeadTied, Ties, nothing_lost}
use Rattle.net_turns.specs.Net.{HasElement, Owns}
use Rattle.task_edits.specs.Places.{HeadHasNot}
use Rattle.net_edits.specs.Nets.{NoneHas}
use Rattle.el_settings.specs.Asked.{is_source}
use Rattle.graph_core.specs.Elements.{has}
use Rattle.graph_core.specs.GraphPlan.{IsIn}
use Rattle.graph_core.proofs.NumberedPads.{found_in}
use Rattle.graph_pads.specs.Links.{source_before}
use Rattle.graph_pads.specs.declared.pad.PadLink.{PadLink}
use Rattle.graph_pads.specs.declared.pad.PadPlace.{PadPlace}
use Rattle.graph_edits.specs.Edited.{Edited, is_active, spans_at, touches}
use Rattle.graph_edits.specs.Plans.{is_asleep}
use Rattle.edit_core.proofs.Standing.{found_back}
use Rattle.edit_core.specs.Tasks.{number_of_head}
use Rattle.edit_acts.specs.Ending.{HasLink}
use Rattle.edit_acts.specs.Undoing.{IsRunWith}

pub any_in : (f : PadLink → Bool) (links : List PadLink) (link : PadLink) → IsIn link links → f link ≡ true → list_any f links ≡ true
any_in f [] link is e = absurd is
any_in f (one ∷ links) link (inl same) e = or_first (f one) (list_any f links) (ap f (sym same) ∙ e)
any_in f (one ∷ links) link (inr is) e = or_second (f one) (list_any f links) (any_in f links link is e)

none_both : (b : Bool) → (b && false) ≡ false
none_both true = refl
none_both false = refl

nowhere_at : (p k : ℕ) (sss : List (List Span)) → LinksNowhere p sss → links_from p (get_or sss k []) ≡ false
nowhere_at p k [] none = refl
nowhere_at p zero (ss ∷ sss) none = none.0
nowhere_at p (suc k) (ss ∷ sss) none = nowhere_at p k sss none.1

module _ {S E I O L : Type 0} {s : sources.Ghosts S} {e : elements.Ghosts E} {i : inlets.Ghosts I L O} {o : outlets.Ghosts O L} (g : Edited) (m : Moment) (tasks : List (Task S E I O L s e i o)) (tells : Option (List Lane))
    (pad : ℕ) (source : PadPlace) (w : IsRunWith g m tasks tells pad source) (link : HasLink g m pad source) where
  before : source_before g.links link.sink ≡ Some source
  before = found_back g w.run.links source link.sink link.behind

  active : is_active g source.element ≡ true
  active =
      let found = found_in g.links link.sink source before in
      or_second (nat_lt source.element g.lined) (list_any (touches source.element) g.ever) (any_in (touches source.element) g.ever found.0 (w.run.made found.0 found.1)
      (or_first (found.0.source.element == source.element) (found.0.sink.element == source.element) (ap (λ (p : PadPlace). p.element == source.element) found.2 ∙ number_itself source.element)))

  awake : is_asleep g source.element ≡ false
  awake = rw active (none_both (has is_source g.made source.element))

  -- a task has the pad
  not_none : NoneHas tasks pad → ⊥
  not_none none = go own.1.has
    where
      own : (k : ℕ) × Owns tasks k source.element
      own = w.run.are.owned source.element link.source_there awake

      ties : Ties own.1.task m
      ties = w.run.net.tied own.0 own.1.task own.1.at

      at_head : (head : Head S I O s) → own.1.task.head ≡ head → number_of_head (head_frame o head) ≡ source.element → HeadTied i o nothing_lost m head own.1.task.parts.items → HeadHasNot head pad → (file : Option (Option (List ℕ))) (wire : Wire)
          → head_frame o head ≡ by_source source.element file wire → ⊥
      at_head (Source one) is number tied none file wire same = none (sym (tied.mine pad (link.owned ∙ sym number)))
      at_head (Inlets fed) is number tied none file wire same = absurd cc

      go : HasElement (frame_of own.1.task) source.element → ⊥
      go (HasElement.part j one at number) =
          let z = map_got (part_frame o) own.1.task.parts.items j one at in
          let y = (ties.parts_tied.each j z.0 z.1).mine pad (link.owned ∙ sym number ∙ ap (λ (f : PartFrame). f.number) z.2) in
          (none own.0 own.1.task own.1.at).1 j z.0 z.1 (m.plan.port pad) y.pad y.at y.number
      go (HasElement.source file wire is) =
          at_head own.1.task.head refl (ap (λ (h : HeadFrame). number_of_head h) is) ties.head_tied (none own.0 own.1.task own.1.at).0 file wire is

  -- and it leads somewhere
  not_nowhere : LeadsNowhere m.plan pad → ⊥
  not_nowhere none =
      let there : links_from pad (spans_at g link.sink) ≡ true = ap (λ (p : ℕ). links_from p (spans_at g link.sink)) w.number ∙ w.run.links.stands source link.sink before in
      let not = nowhere_at pad link.sink.pad (g.spans link.sink.element) (subst (LinksNowhere pad) (w.run.sinks link.sink.element link.sink_there) (none link.sink.element)) in
      clash (sym there ∙ not)
    where
      clash : true ≡ false → ⊥
      clash same = cc

  pub link_leads : NoneHas tasks pad ⊎ LeadsNowhere m.plan pad → ⊥
  link_leads (inl none) = not_none none
  link_leads (inr none) = not_nowhere none
