-- An element that was taken away stays so.
use Rattle.std.proofs.Common.{◌≡◌, ◌%◌, ◌||◌, ℕ, false, if◌then◌else◌, List, map, sym, ap, ◌∙◌, subst}
use Rattle.std.specs.Prelude.{slice_get}
use Rattle.flow_model.specs.Call.{Call}
use Rattle.flow_model.specs.Item.{Item}
use Rattle.flow_model.specs.Link.{input_of}
use Rattle.flow_model.specs.Moment.{Moment}
use Rattle.flow_model.specs.Prefix.{ArePrefixes, IsPrefix}
use Rattle.flow_model.specs.Rule.{Rule}
use Rattle.flow_model.specs.Whole.{OwesInOrder}
use Rattle.el_settings.specs.Asked.{is_queue, is_sink, makes_sinks}
use Rattle.task_elements.specs.Stands.{owes_nothing}
use Rattle.graph_core.specs.Elements.{Made, has}
use Rattle.graph_core.specs.GraphPlan.{most_pads, rule_for}
use Rattle.graph_edits.specs.Edited.{Edited}
use Rattle.graph_edits.specs.Plans.{edited_rule, is_asleep}
use Rattle.graph_edits.specs.Refused.{has_lanes}
use Rattle.edit_core.specs.Whole.{moment_plan, owner_in}
use Rattle.edit_acts.specs.Evaluated.{IsGone}
use Rattle.edit_acts.specs.Planned.{givens}
use Rattle.edit_acts.proofs.FittingOrder.{awake_rule}

module _ (contents : ℕ → List ℕ) (g next : Edited) (made : next.made ≡ g.made) (a : ℕ) where
  -- an element that is awake owes by the same rule
  pub rule_stays : is_asleep g a ≡ false → is_asleep next a ≡ false → edited_rule contents next a ≡ edited_rule contents g a
  rule_stays awake awake_then =
      awake_rule contents next a awake_then ∙ ap (λ (all : List Made). rule_for (slice_get all a) a (contents a)) made ∙ sym (awake_rule contents g a awake)

  pub plan_stays : is_asleep g a ≡ false → is_asleep next a ≡ false → (moment_plan contents next).rule a ≡ (moment_plan contents g).rule a
  plan_stays awake awake_then =
      ap (λ (all : List Made). if has is_sink all a then owes_nothing else edited_rule contents next a) made
      ∙ ap (λ (rule : Rule). if has is_sink g.made a then owes_nothing else rule) (rule_stays awake awake_then)

  pub lanes_stay : has_lanes next a ≡ false → has_lanes g a ≡ false
  lanes_stay bare = ap (λ (all : List Made). has is_queue all a || has makes_sinks all a) (sym made) ∙ bare

  pub owner_stays : (p : ℕ) → owner_in next.made p ≡ a → owner_in g.made p ≡ a
  owner_stays p own = ap (λ (all : List Made). owner_in all p) (sym made) ∙ own

  -- what it took, was given and is due to its pads stays
  pub gone_stays : (m now : Moment) (due due' : ℕ → List Item) (old : IsGone contents g m due a) → now.plan.rule a ≡ m.plan.rule a → now.plan.sinks a ≡ givens old.took
      → edited_rule contents next a ≡ edited_rule contents g a → ((p : ℕ) → owner_in g.made p ≡ a → due' p ≡ due p)
      → map (input_of now.history) (next.spans a) ≡ map (input_of m.history) (g.spans a) → IsGone contents next now due' a
  gone_stays m now due due' old rule sinks own same given = record {
    cut = old.cut;
    took = old.took;
    rule = rule ∙ old.rule;
    sinks = sinks;
    owes = λ p mine. let was = owner_stays p mine in subst (λ (l : List Item). IsPrefix (old.cut (p % most_pads)) l) (sym (same p was)) (old.owes p was);
    due_is = λ p mine. let was = owner_stays p mine in same p was ∙ old.due_is p was ∙ ap (λ (r : Rule). r old.took (p % most_pads) 0) (sym own);
    begins = subst (λ (css : List (List Call)). ArePrefixes old.took css) (sym given) old.begins;
    whole = λ bare. old.whole (lanes_stay bare) ∙ sym given;
    in_order = subst (λ (r : Rule). OwesInOrder r old.took) (sym own) old.in_order;
  }
