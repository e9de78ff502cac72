-- What an element of a graph does is told by its settings.
use Rattle.std.proofs.Common.{◌≡◌, ℕ, Bool, false, if◌then◌else◌, List, Option, Some, sym, ap, ◌∙◌}
use Rattle.flow_model.specs.Section.{first_section}
use Rattle.flow_model.specs.Rule.{Rule}
use Rattle.flow_model.specs.Moment.{Behavior}
use Rattle.el_settings.specs.Asked.{is_sink, is_source}
use Rattle.el_set.specs.Denoted.{answers_of, rule_of as owes_by}
use Rattle.el_set.specs.Made.{list_of}
use Rattle.task_elements.specs.Made.{behavior_of, rule_of}
use Rattle.task_elements.specs.Stands.{owes_nothing}
use Rattle.graph_core.specs.Elements.{Made}
use Rattle.graph_parts.specs.Plans.{answers_for, tight_rule}
use Rattle.graph_parts.specs.MomentLaws.{BehaviorsAreTold}

-- an element that is no source owes by the rule of its settings, and a sink nothing
rule_told : (m : Made) (e : ℕ) (content : List ℕ) → is_source m.settings ≡ false → rule_of m.settings ≡ tight_rule (Some m) e content
rule_told m e content some =
    ap (λ (b : Bool). if is_sink m.settings then owes_nothing else (if b then (λ inputs port. first_section (list_of m.settings e content)) else owes_by m.settings)) (sym some)

told_of : (m : Made) (e : ℕ) (content : List ℕ) → is_source m.settings ≡ false
    → behavior_of m.settings ≡ record { owes = tight_rule (Some m) e content; answers = answers_for (Some m) }
told_of m e content some = ap (λ (rule : Rule). let b : Behavior = record { owes = rule; answers = answers_of m.settings } in b) (rule_told m e content some)

pub behaviors_are_told : BehaviorsAreTold
behaviors_are_told contents graph e m at some =
    told_of m e (contents e) some ∙ ap (λ (found : Option Made). record { owes = tight_rule found e (contents e); answers = answers_for found }) (sym at)
