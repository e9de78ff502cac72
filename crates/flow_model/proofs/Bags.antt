-- Tasks are bags of elements: they may be split, joined and run beside each other.
use Rattle.std.proofs.Common.{◌≡◌, ℕ, Bool, true, false, length, refl, sym, ap, ◌∙◌, subst}
use Rattle.flow_model.specs.Prefix.{ArePrefixes}
use Rattle.flow_model.specs.Eval.{Plan, inputs}
use Rattle.flow_model.specs.Account.{EachSourceOf, PadAccount}
use Rattle.flow_model.proofs.Prefixes.{are_prefixes_refl}
use Rattle.flow_model.proofs.Whole.{inputs_same, all_sources_weaker}
use Rattle.flow_model.proofs.Pads.{account_of}
use Rattle.flow_model.specs.Moment.{Moment, owed_at}
use Rattle.flow_model.specs.Pad.{Holds}
use Rattle.flow_model.specs.Whole.{PadBegins, CellBegins, given_up}
use Rattle.flow_model.specs.Kept.{IsGiven, PadKept, CellKept, FaultKept, AgreeOn, OthersMayMove, together, heads_begin, TasksTogether}

module _ (well : Bool) (mine inner : ℕ → Bool) (m m' : Moment) (a : AgreeOn mine m m') where
  pad_same : (b : Bool) (p : ℕ) → mine (m.plan.owner p) ≡ true → PadKept b m p → PadKept b m' p
  pad_same true p o s =
      subst (λ (plan : Plan). Holds 0 0 (plan.log p).cuts (plan.rule (plan.owner p) (m'.took (plan.owner p)) (plan.port p)) (m'.history p) (m'.waits p)) (sym a.plan)
      (rw (a.took (m.plan.owner p) o, a.history p o, a.waits p o) s)
  pad_same false p o s =
      subst (λ (plan : Plan). PadAccount (record { cuts = (plan.log p).cuts; count = length (m'.history p) }) (plan.rule (plan.owner p) (m'.took (plan.owner p)) (plan.port p)) (m'.history p)) (sym a.plan)
      (rw (a.took (m.plan.owner p) o, a.history p o) s)

  input_kept : (e : ℕ) (b : Bool) → inner e ≡ b → mine e ≡ true → (inner e ≡ true → EachSourceOf (λ p. mine (m.plan.owner p) ≡ true) (m.plan.sinks e)) → IsGiven b m e → IsGiven b m' e
  input_kept e false i o near g = tt
  input_kept e true i o near g =
      a.took e o ∙ g
      ∙ sym (ap (λ (plan : Plan). inputs plan m'.history e) a.plan
      ∙ inputs_same m'.history m.history (m.plan.sinks e) (all_sources_weaker (λ p. mine (m.plan.owner p) ≡ true) (λ p. m'.history p ≡ m.history p) (λ p k. a.history p k) (m.plan.sinks e) (near i)))

  kept_still : (e : ℕ) → mine e ≡ true → CellKept well mine inner m e → CellKept well mine inner m' e
  kept_still e o k = record {
    pads = λ p w.
        let was : m.plan.owner p ≡ e = ap (λ (plan : Plan). plan.owner p) (sym a.plan) ∙ w in
        pad_same well p (ap mine was ∙ o) (k.pads p was);
    input = input_kept e (inner e) refl o k.near k.input;
    near = λ i. subst (λ (plan : Plan). EachSourceOf (λ p. mine (plan.owner p) ≡ true) (plan.sinks e)) (sym a.plan) (k.near i);
    in_order = rw (a.plan, a.took e o) k.in_order;
  }

pub others_may_move : OthersMayMove
others_may_move well mine inner m m' e o a k = kept_still well mine inner m m' a e o k

pad_begins : (b : Bool) (m : Moment) (p : ℕ) → PadKept b m p → PadBegins m p
pad_begins true m p s = account_of (m.plan.log p).cuts (owed_at m p) (m.history p) (m.waits p) s
pad_begins false m p s = s

-- behind a fault of the task its elements are kept
pub fault_kept : FaultKept
fault_kept mine inner m e waits held k = record { pads = λ p o. pad_begins true m p (k.pads p o); input = same (inner e) k.input; near = k.near; in_order = k.in_order }
  where
    same : (b : Bool) → IsGiven b m e → IsGiven b (given_up waits held m) e
    same true g = g
    same false g = tt

kept_begins : (well : Bool) (mine inner : ℕ → Bool) (m : Moment) (e : ℕ) (b : Bool) → CellKept well mine inner m e → IsGiven b m e → heads_begin b m e → CellBegins m e
kept_begins well mine inner m e true k g h = record { pads = λ p o. pad_begins well m p (k.pads p o); begins = subst (ArePrefixes (m.took e)) g (are_prefixes_refl (m.took e)); in_order = k.in_order }
kept_begins well mine inner m e false k g h = record { pads = λ p o. pad_begins well m p (k.pads p o); begins = h; in_order = k.in_order }

pub tasks_together : TasksTogether
tasks_together plan answers task_of well inner mine view own one e o k h =
    let all : Moment = together plan answers task_of view in
    let agree : AgreeOn (mine (task_of e)) (view (task_of e)) all = record {
      plan = sym (one (task_of e));
      history = λ p i. ap (λ n. (view n).history p) (own (task_of e) (plan.owner p) (subst (λ (g : Plan). mine (task_of e) (g.owner p) ≡ true) (one (task_of e)) i));
      took = λ d i. ap (λ n. (view n).took d) (own (task_of e) d i);
      waits = λ p i. ap (λ n. (view n).waits p) (own (task_of e) (plan.owner p) (subst (λ (g : Plan). mine (task_of e) (g.owner p) ≡ true) (one (task_of e)) i));
    } in
    let still = others_may_move (well (task_of e)) (mine (task_of e)) inner (view (task_of e)) all e o agree k in
    kept_begins (well (task_of e)) (mine (task_of e)) inner all e (inner e) still still.input h
