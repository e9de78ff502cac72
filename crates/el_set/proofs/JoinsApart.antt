-- No rule of one sink pad is that of an element with several sink pads.
use Rattle.std.proofs.Common.{◌≡◌, true, List, [], ◌∷◌, sym, ap, ◌∙◌}
use Rattle.flow_model.specs.Item.{Ev, Eos}
use Rattle.flow_model.specs.Call.{Call, Feed}
use Rattle.flow_model.specs.Rule.{Response, Rule, single}
use Rattle.el_settings.specs.Asked.{makes_sinks}
use Rattle.el_settings.specs.declared.settings.Settings.{Settings}
use Rattle.el_settings.specs.declared.settings.Settings.TheVariants.{Concat, Interleave}
use Rattle.el_set.specs.Denoted.{rule_of}
use Rattle.el_set.specs.declared.join.JoinElement.{JoinElement}
use Rattle.el_set.specs.declared.join.JoinElement.TheVariants.{Concat as Joins, Mix as Mixes}
use Rattle.el_set.specs.Joins.{join_rule}
use Rattle.el_set.proofs.Fed.{some_item}

-- EOS at two sink pads, and at the first of them alone
abbrev pub both_ended : List (List Call)
both_ended = (Feed (Ev Eos) ∷ []) ∷ (Feed (Ev Eos) ∷ []) ∷ []

abbrev pub one_ended : List (List Call)
one_ended = (Feed (Ev Eos) ∷ []) ∷ [] ∷ []

-- a rule owes the same for both
abbrev pub IsAlike : Rule → Type 0
IsAlike rule = rule both_ended 0 0 ≡ rule one_ended 0 0

-- so it is with one sink pad, but not with several
pub single_alike : (respond : Response) (rule : Rule) → rule ≡ single respond → IsAlike rule
single_alike respond rule is = ap (λ (r : Rule). r both_ended 0 0) is ∙ sym (ap (λ (r : Rule). r one_ended 0 0) is)

pub join_differs : (join : JoinElement) → IsAlike (join_rule join) → ⊥
join_differs (Joins concat) e = some_item e
join_differs (Mixes mix) e = some_item e

pub setting_differs : (s : Settings) → makes_sinks s ≡ true → IsAlike (rule_of s) → ⊥
setting_differs (Interleave pads) is e = some_item e
setting_differs (Concat pads) is e = some_item e
setting_differs _ is e = absurd (cc)
