-- What the elements of a graph want that are fed from inlets.
use Rattle.std.proofs.Common.{◌≡◌, ◌⊎◌, ℕ, Bool, true, false, if◌then◌else◌, List, Option, None, Some, refl, sym, ap, ◌∙◌, subst, inl, inr, ⊎_elim}
use Rattle.std.specs.Prelude.{slice_get}
use Rattle.std.specs.Option.{option_map_or}
use Rattle.gst_outside.specs.declared.sink.Sink as sinks
use Rattle.flow_model.specs.Eval.{Plan}
use Rattle.flow_model.specs.Rule.{Rule}
use Rattle.flow_model.specs.Section.{first_section}
use Rattle.lane_core.specs.Lane.{Lane}
use Rattle.lane_core.specs.declared.ends.Inlet as inlets
use Rattle.lane_core.specs.declared.ends.Outlet as outlets
use Rattle.flow_model.specs.Moment.{Moment, behavior_at}
use Rattle.flow_model.specs.Over.{AllEnded}
use Rattle.flow_model.specs.declared.element.TaskElement as elements
use Rattle.flow_model.specs.declared.source.TaskSource as sources
use Rattle.el_settings.specs.Asked.{is_sink, is_source, makes_sinks}
use Rattle.el_set.specs.Denoted.{response_of, rule_of}
use Rattle.el_set.specs.Made.{list_of}
use Rattle.graph_core.specs.Elements.{Made}
use Rattle.graph_core.specs.Graph.{made as made_in}
use Rattle.graph_core.specs.declared.graph.Graph.{Graph}
use Rattle.graph_parts.specs.Plans.{tight_rule}
use Rattle.el_set.proofs.Ruled.{single_rule}
use Rattle.graph_parts.specs.declared.bag.Bag.{Bag}
use Rattle.task_elements.specs.Stands.{StreamStands, owes_nothing, wanted_of}
use Rattle.task_elements.specs.declared.element.StreamElement.{StreamElement}
use Rattle.task_elements.proofs.Wanting.{wants_none}
use Rattle.net_task.specs.declared.task.Task.{Task}
use Rattle.net_turns.specs.Rests.{Wants}
use Rattle.graph_tasks.specs.Over.{joins_in}
use Rattle.graph_tasks.specs.Runs.{RunsAt}
use Rattle.graph_tasks.specs.Written.{AreStreams}
use Rattle.graph_tasks.proofs.FedElements.{IsAsked, asked_at}
use Rattle.el_set.proofs.JoinsApart.{IsAlike, setting_differs, single_alike}
use Rattle.graph_tasks.proofs.OverHeads.{joins_no_sink, joins_no_source}
use Rattle.graph_tasks.proofs.WantsOpen.{ended_wants_none, first_wanted, told_join, told_single}

-- whether an element owes the same for EOS at one sink pad and at two
alike_by : (found : Option Made) (n : ℕ) (content : List ℕ) → option_map_or (λ (m : Made). makes_sinks m.settings) found false ≡ false → IsAlike (tight_rule found n content)
alike_by None n content single = refl
alike_by (Some m) n content single = go (is_sink m.settings) (is_source m.settings)
  where
    go : (b d : Bool) → IsAlike (if b then owes_nothing else (if d then (λ inputs port. first_section (list_of m.settings n content)) else rule_of m.settings))
    go true d = refl
    go false true = refl
    go false false = single_alike (response_of m.settings) (rule_of m.settings) (single_rule m.settings single)

join_rule_is : (m : Made) (n : ℕ) (content : List ℕ) → makes_sinks m.settings ≡ true → tight_rule (Some m) n content ≡ rule_of m.settings
join_rule_is m n content joins = rw (joins_no_sink m.settings joins, joins_no_source m.settings joins) refl

module _ {S K I O L : Type 0} (k : sinks.Ghosts K) {s : sources.Ghosts S} {e : elements.Ghosts (StreamElement K)} {i : inlets.Ghosts I L O}
    {o : outlets.Ghosts O L} (streams : AreStreams k e)
    (contents : ℕ → List ℕ) (graph : Graph) (bags : List Bag) (m : Moment) (tasks : List (Task S (StreamElement K) I O L s e i o))
    (tells : Option (List Lane)) (at : RunsAt contents graph bags m tasks tells) where
  -- which element joins streams is told by its rule
  single_owes : (n : ℕ) → joins_in graph n ≡ false → IsAlike (m.plan.rule n)
  single_owes n single = subst (λ (plan : Plan). IsAlike (plan.rule n)) (sym at.plan) (alike_by (slice_get (made_in graph) n) n (contents n) single)

  pub join_owes : (n : ℕ) → joins_in graph n ≡ true → IsAlike (m.plan.rule n) → ⊥
  join_owes n joins alike =
      let one : IsAsked makes_sinks (slice_get (made_in graph) n) = asked_at makes_sinks (slice_get (made_in graph) n) joins in
      let owes : m.plan.rule n ≡ rule_of one.element.settings =
      ap (λ (plan : Plan). plan.rule n) at.plan ∙ ap (λ (found : Option Made). tight_rule found n (contents n)) one.at ∙ join_rule_is one.element n (contents n) one.is in
      setting_differs one.element.settings one.is (subst (λ (rule : Rule). IsAlike rule) owes alike)

  -- what an element stands for that wants something
  pub stands_by : (n : ℕ) (port : Option ℕ) → (w : Wants e m n port) → StreamStands k.bytes w.element (behavior_at m n) (m.took n)
  stands_by n port w = streams.stands w.element (behavior_at m n) (m.took n) w.stands

  pub wanted_by : (n : ℕ) (port : Option ℕ) → (w : Wants e m n port) → wanted_of w.element ≡ port
  wanted_by n port w = sym (streams.wanted w.element) ∙ w.wants

  pub single_wants : (n : ℕ) (port : Option ℕ) → joins_in graph n ≡ false → Wants e m n port → (port ≡ Some 0) ⊎ ((port ≡ None) × AllEnded (m.took n))
  single_wants n port single w =
      ⊎_elim (λ first. inl (sym (wanted_by n port w) ∙ first))
      (λ none. inr (sym (wanted_by n port w) ∙ none, wants_none k.bytes w.element (behavior_at m n) (m.took n) (stands_by n port w) none))
      (first_wanted k.bytes w.element (told_single k.bytes w.element (behavior_at m n) (m.took n) (stands_by n port w) (single_owes n single)))

  pub join_wants : (n : ℕ) (port : Option ℕ) → joins_in graph n ≡ true → Wants e m n port → (port ≡ None → AllEnded (m.took n)) × (AllEnded (m.took n) → port ≡ None)
  join_wants n port joins w =
      let stands = stands_by n port w in
      let told = told_join k.bytes w.element (behavior_at m n) (m.took n) stands (join_owes n joins) in (
        λ none. wants_none k.bytes w.element (behavior_at m n) (m.took n) stands (wanted_by n port w ∙ none),
        λ ended. sym (wanted_by n port w) ∙ ended_wants_none k.bytes w.element (behavior_at m n) (m.took n) stands told ended,
      )
