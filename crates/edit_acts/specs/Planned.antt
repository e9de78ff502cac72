-- What stays of the plan of a moment when a command is answered.
use Rattle.std.specs.Prelude.{◌≡◌, ℕ, true, false, List, [], ◌∷◌, map}
use Rattle.flow_model.specs.Call.{Call}
use Rattle.flow_model.specs.Item.{Item}
use Rattle.flow_model.specs.Link.{Span, Given}
use Rattle.flow_model.specs.Moment.{Moment}
use Rattle.graph_edits.specs.Edited.{Edited, is_there}
use Rattle.graph_edits.specs.Plans.{is_asleep}
use Rattle.net_edits.specs.Adding.{IsCut, owes_just}

-- sink pads that were given these lists, and are given no more
abbrev pub givens : List (List Call) → List (List Span)
givens took = map (λ calls. Given calls ∷ []) took

-- An element was taken out: it took what it took, and owes what crossed its pads.
pub record IsTakenFrom (m now : Moment) (a : ℕ) : Type 0 where
  pub cut : ℕ → List Item
  pub is_cut : IsCut m a cut
  pub rule : now.plan.rule a ≡ owes_just cut
  pub sinks : now.plan.sinks a ≡ givens (m.took a)

-- An answer adds no element, and no source falls asleep. The ports of pads stay, and the rule of each element that is there behind it. One that was gone before stays as it was,
-- and one that goes with it is taken out.
pub record KeepsPlan (g next : Edited) (m now : Moment) : Type 0 where
  pub made : next.made ≡ g.made
  pub awake : (a : ℕ) → is_asleep g a ≡ false → is_asleep next a ≡ false
  pub port : (p : ℕ) → now.plan.port p ≡ m.plan.port p
  pub rules : (a : ℕ) → is_there next a ≡ true → now.plan.rule a ≡ m.plan.rule a
  pub gone : (a : ℕ) → is_there g a ≡ false → (now.plan.rule a ≡ m.plan.rule a) × ((took : List (List Call)) → m.plan.sinks a ≡ givens took → now.plan.sinks a ≡ givens took)
  pub taken : (a : ℕ) → is_there g a ≡ true → is_there next a ≡ false → is_asleep g a ≡ false → IsTakenFrom m now a
