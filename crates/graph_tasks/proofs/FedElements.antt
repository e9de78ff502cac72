-- Elements that are fed from inlets are no sinks, and each other one has one sink pad at the most.
use Rattle.std.proofs.Common.{◌≡◌, ◌<◌, ◌≤◌, ◌||◌, ℕ, Bool, true, false, List, [], ◌∷◌, Option, None, Some, refl, sym, ap, ◌∙◌, arith}
use Rattle.std.specs.Prelude.{slice_get}
use Rattle.std.specs.Option.{option_map_or}
use Rattle.flow_model.specs.Call.{Feed}
use Rattle.flow_model.specs.Eval.{Plan}
use Rattle.flow_model.specs.Item.{Ev, Eos}
use Rattle.flow_model.specs.Rule.{Rule}
use Rattle.flow_model.specs.Moment.{Behavior, Moment, behavior_at}
use Rattle.el_settings.specs.Asked.{is_queue, is_source, makes_sinks, sink_pads}
use Rattle.el_settings.specs.declared.settings.Settings.{Settings}
use Rattle.el_settings.proofs.Roles.{other_sinks, source_no_sink}
use Rattle.el_set.specs.Denoted.{rule_of}
use Rattle.el_set.proofs.Fed.{inlets_no_sink, inlets_no_source, inlets_owe}
use Rattle.graph_core.specs.Elements.{Made, has}
use Rattle.graph_core.specs.Graph.{made as made_in}
use Rattle.graph_core.specs.GraphPlan.{sink_count}
use Rattle.graph_core.specs.declared.graph.Graph.{Graph}
use Rattle.graph_parts.specs.Links.{has_inlets}
use Rattle.graph_parts.specs.Plans.{moment_plan, tight_rule}
use Rattle.task_elements.specs.Stands.{takes_all}

-- an element of a graph by what is asked of its settings
pub record IsAsked (asked : Settings → Bool) (found : Option Made) : Type 0 where
  pub element : Made
  pub at : found ≡ Some element
  pub is : asked element.settings ≡ true

pub asked_at : (asked : Settings → Bool) (found : Option Made) → option_map_or (λ (m : Made). asked m.settings) found false ≡ true → IsAsked asked found
asked_at asked None is = absurd cc
asked_at asked (Some m) is = record { element = m; at = refl; is = is }

-- what an element owes that is fed from inlets
pub fed_rule : (contents : ℕ → List ℕ) (graph : Graph) (m : Moment) → m.plan ≡ moment_plan contents graph → (n : ℕ)
    → (one : IsAsked has_inlets (slice_get (made_in graph) n)) → m.plan.rule n ≡ rule_of one.element.settings
fed_rule contents graph m plan n one =
    let rule : tight_rule (Some one.element) n (contents n) ≡ rule_of one.element.settings =
    rw (inlets_no_sink one.element.settings one.is, inlets_no_source one.element.settings one.is) refl in
    ap (λ (pl : Plan). pl.rule n) plan ∙ ap (λ (found : Option Made). tight_rule found n (contents n)) one.at ∙ rule

-- so it does not do what a sink does
pub no_sink : (contents : ℕ → List ℕ) (graph : Graph) (m : Moment) → m.plan ≡ moment_plan contents graph → (n : ℕ)
    → has has_inlets (made_in graph) n ≡ true → behavior_at m n ≡ takes_all → ⊥
no_sink contents graph m plan n fed is =
    let one = asked_at has_inlets (slice_get (made_in graph) n) fed in
    let owes = fed_rule contents graph m plan n one in
    inlets_owe one.element.settings one.is
    (ap (λ (r : Rule). r ((Feed (Ev Eos) ∷ []) ∷ []) 0 0) (sym owes) ∙ ap (λ (b : Behavior). b.owes ((Feed (Ev Eos) ∷ []) ∷ []) 0 0) is)

-- what else is asked of it is asked of the element that is found
pub not_asked : (asked : Settings → Bool) (made : List Made) (n : ℕ) (element : Made) → slice_get made n ≡ Some element → has asked made n ≡ false
    → asked element.settings ≡ false
not_asked asked made n element at none = sym (ap (λ (found : Option Made). option_map_or (λ (m : Made). asked m.settings) found false) at) ∙ none

few_sinks : (s : Settings) → has_inlets s ≡ false → sink_pads s ≤ 1
few_sinks s none = go (is_source s) refl (makes_sinks s) refl
  where
    go : (b : Bool) → is_source s ≡ b → (d : Bool) → makes_sinks s ≡ d → sink_pads s ≤ 1
    go true source d makes = let no_pad = source_no_sink s source in omega (arith, no_pad)
    go false other true makes = absurd (both (is_queue s) (rw makes at none))
      where
        both : (q : Bool) → (q || true) ≡ false → ⊥
        both true e = cc
        both false e = cc
    go false other false makes = let one = other_sinks s other makes in omega (arith, one)

-- the sink pad of an element that is not fed from inlets is its first
pub only_first : (found : Option Made) (pad : ℕ) → option_map_or (λ (m : Made). has_inlets m.settings) found false ≡ false → pad < sink_count found
    → pad ≡ 0
only_first None pad none w = absurd (omega (arith, w))
only_first (Some m) pad none w = let few = few_sinks m.settings none in omega (arith, few, w)
