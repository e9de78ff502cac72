-- Which sink pad an element of a stream wants, and how many it has.
use Rattle.std.proofs.Common.{◌≡◌, ◌<◌, ◌⊎◌, ℕ, Bool, true, false, List, [], ◌∷◌, length, Option, Some, None, refl, sym, ap, ◌∙◌, subst, inl, inr, arith}
use Rattle.std.proofs.lemmas.Option.{same_Some}
use Rattle.flow_model.specs.Call.{Call, Drops}
use Rattle.flow_model.specs.Feeding.{has_eos}
use Rattle.flow_model.specs.Item.{Item, Ev, Eos}
use Rattle.flow_model.specs.Rule.{single}
use Rattle.flow_model.specs.SinkPads.{calls_at}
use Rattle.flow_model.specs.Moment.{Behavior}
use Rattle.flow_model.specs.Over.{AllEnded}
use Rattle.el_basic.specs.Passed.{has_ended}
use Rattle.el_basic.specs.Spread.{has_ended as tee_has_ended}
use Rattle.el_set.specs.Passing.{PassesEach}
use Rattle.el_set.specs.Stands.{has_passed_eos}
use Rattle.el_set.proofs.JoinsOpen.{joins_want_open}
use Rattle.el_set.proofs.PassingApart.{passing_open, passing_over}
use Rattle.el_set.proofs.JoinRules.{joins_have_pads, joins_want_none, joins_want_within}
use Rattle.task_elements.specs.declared.element.StreamElement.{StreamElement}
use Rattle.task_elements.specs.declared.element.StreamElement.TheVariants.{Filter, Queue, Tee, Join, Sink}
use Rattle.task_elements.specs.Stands.{StreamStands, first_unless, is_join, owes_nothing, sinks_of, wanted_of}
use Rattle.task_elements.proofs.FirstEos.{by_place}

pub has_pads : {K : Type 0} (bytes : K → Option (List ℕ)) (element : StreamElement K) (behavior : Behavior) (took : List (List Call)) → StreamStands bytes element behavior took
    → length took ≡ sinks_of element
has_pads bytes (Filter filter) behavior took t = ap length t.took_is
has_pads bytes (Queue queue) behavior took t = ap length t.took_is
has_pads bytes (Tee tee) behavior took t = ap length t.took_is
has_pads bytes (Join join) behavior took t = joins_have_pads join.join took t.put t.stands
has_pads bytes (Sink sink) behavior took t = ap length t.took_is

pub one_pad : {K : Type 0} (element : StreamElement K) → is_join element ≡ false → sinks_of element ≡ 1
one_pad (Join join) one = absurd (cc)
one_pad _ one = refl

first_within : (pad : ℕ) → Some 0 ≡ Some pad → pad < 1
first_within pad e = let same = zero_is pad e in omega (arith, same)
  where
    zero_is : (pad : ℕ) → Some 0 ≡ Some pad → 0 ≡ pad
    zero_is pad e = cc

first_open : (over : Bool) (pad : ℕ) → first_unless over ≡ Some pad → pad < 1
first_open true pad e = absurd (cc)
first_open false pad e = first_within pad e

pub wants_within : {K : Type 0} (element : StreamElement K) (pad : ℕ) → wanted_of element ≡ Some pad → pad < sinks_of element
wants_within (Join join) pad e = joins_want_within join.join pad e
wants_within (Filter filter) pad e = first_open (has_passed_eos filter.filter) pad e
wants_within (Queue queue) pad e = first_open (has_ended queue) pad e
wants_within (Tee tee) pad e = first_open (tee_has_ended tee) pad e
wants_within (Sink sink) pad e = first_within pad e

none_over : (over : Bool) → first_unless over ≡ None → over ≡ true
none_over true e = refl
none_over false e = absurd (cc)

pub wants_none : {K : Type 0} (bytes : K → Option (List ℕ)) (element : StreamElement K) (behavior : Behavior) (took : List (List Call)) → StreamStands bytes element behavior took
    → wanted_of element ≡ None → AllEnded took
wants_none bytes (Join join) behavior took t e = by_place took (joins_want_none join.join took t.put t.stands e)
wants_none bytes (Filter filter) behavior took t e =
    subst AllEnded (sym t.took_is) (passing_over t.respond filter.filter t.calls t.put t.stands (none_over (has_passed_eos filter.filter) e), tt)
wants_none bytes (Queue queue) behavior took t e = subst AllEnded (sym t.took_is) (t.stands.1.eos ∙ none_over (has_ended queue) e, tt)
wants_none bytes (Tee tee) behavior took t e = subst AllEnded (sym t.took_is) (t.spread.eos ∙ none_over (tee_has_ended tee) e, tt)
wants_none bytes (Sink sink) behavior took t e = absurd (cc)

-- where its only sink pad is wanted, and that is so only without EOS, it had none
open_at : (calls : List Call) (took : List (List Call)) (pad : ℕ) (over : Bool) → took ≡ calls ∷ [] → first_unless over ≡ Some pad → (over ≡ false → has_eos calls ≡ false)
    → has_eos (calls_at pad took) ≡ false
open_at calls took pad true is e open_yet = absurd (cc)
open_at calls took pad false is e open_yet =
    subst (λ (css : List (List Call)). has_eos (calls_at pad css) ≡ false) (sym is)
    (subst (λ (n : ℕ). has_eos (calls_at n (calls ∷ [])) ≡ false) (same_Some 0 pad e) (open_yet refl))

none_owed : {x : Item} → [] ≡ x ∷ [] → ⊥
none_owed e = cc

-- what passes all, and what joins streams, wants a pad that had no EOS
pub wants_open : {K : Type 0} (bytes : K → Option (List ℕ)) (element : StreamElement K) (behavior : Behavior) (took : List (List Call)) (pad : ℕ) → StreamStands bytes element behavior took
    → (is_join element ≡ true) ⊎ PassesEach behavior.owes → wanted_of element ≡ Some pad → has_eos (calls_at pad took) ≡ false
wants_open bytes (Join join) behavior took pad t kind e = joins_want_open join.join took t.put pad t.stands e
wants_open bytes (Filter filter) behavior took pad t (inl joins) e = absurd (cc)
wants_open bytes (Filter filter) behavior took pad t (inr each) e =
    let owes : behavior.owes ≡ single t.respond = ap (λ (b : Behavior). b.owes) t.behavior_is in
    open_at t.calls took pad (has_passed_eos filter.filter) t.took_is e (passing_open t.respond filter.filter t.calls t.put t.stands (subst PassesEach owes each))
wants_open bytes (Queue queue) behavior took pad t kind e = open_at t.calls took pad (has_ended queue) t.took_is e (λ open_yet. t.stands.1.eos ∙ open_yet)
wants_open bytes (Tee tee) behavior took pad t kind e = open_at t.calls took pad (tee_has_ended tee) t.took_is e (λ open_yet. t.spread.eos ∙ open_yet)
wants_open bytes (Sink sink) behavior took pad t (inl joins) e = absurd (cc)
wants_open bytes (Sink sink) behavior took pad t (inr each) e =
    let owes : behavior.owes ≡ owes_nothing = ap (λ (b : Behavior). b.owes) t.behavior_is in
    absurd (none_owed (subst PassesEach owes each (Drops false) (Ev Eos) refl))
