-- What was owed to the source pads is still owed behind control's acts.
use Rattle.std.proofs.Common.{◌≡◌, ◌⊎◌, ℕ, Bool, true, false, eqb, List, [], ◌++◌, if◌then◌else◌, inl, inr, sym, subst}
use Rattle.std.specs.Prelude.{◌==◌}
use Rattle.std.proofs.lemmas.Bool.Decides.{eqb_tells}
use Rattle.flow_model.specs.Call.{Call}
use Rattle.flow_model.specs.Item.{Item}
use Rattle.flow_model.specs.Prefix.{IsPrefix}
use Rattle.flow_model.proofs.Prefixes.{append_prefix, prefix_append, prefix_refl}
use Rattle.net_edits.specs.Adding.{frozen}
use Rattle.flow_model.specs.Moment.{Moment}
use Rattle.flow_model.specs.Step.{fed}
use Rattle.edit_core.specs.Judging.{owed_then}

-- an element that took something put more behind what waits at its pads
pub fed_owes : (m : Moment) (e : ℕ) (took : List (List Call)) (out : ℕ → List Item) (p : ℕ) → IsPrefix (owed_then m p) (owed_then (fed e took out m) p)
fed_owes m e took out p = append_prefix (m.history p) (by (m.plan.owner p == e))
  where
    by : (b : Bool) → IsPrefix (m.waits p) (if b then m.waits p ++ out (m.plan.port p) else m.waits p)
    by true = prefix_append (m.waits p) (out (m.plan.port p))
    by false = prefix_refl (m.waits p)

-- where an element was taken out so is what is owed at the pads of others
pub frozen_owes : (m : Moment) (n : ℕ) (cut : ℕ → List Item) (p : ℕ) → (m.plan.owner p ≡ n → ⊥) → IsPrefix (owed_then m p) (owed_then (frozen n cut m) p)
frozen_owes m n cut p other = append_prefix (m.history p) (by (eqb_tells (m.plan.owner p) n))
  where
    by : ((eqb (m.plan.owner p) n ≡ true) × (m.plan.owner p ≡ n)) ⊎ ((eqb (m.plan.owner p) n ≡ false) × (m.plan.owner p ≡ n → ⊥)) → IsPrefix (m.waits p) (if m.plan.owner p == n then [] else m.waits p)
    by (inl t) = absurd (other t.1)
    by (inr t) = subst (λ (b : Bool). IsPrefix (m.waits p) (if b then [] else m.waits p)) (sym t.0) (prefix_refl (m.waits p))
