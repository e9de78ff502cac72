-- Elements of a stream, role by role.
use Rattle.std.proofs.Common.{◌≡◌, ℕ, zero, suc, Bool, false, List, [], ◌∷◌, ◌++◌, Option, refl, sym, ap, ◌∙◌, subst, append-nil, arith, Result, Ok, Err, OnOk}
use Rattle.gst_item.specs.declared.out.Out.{Out}
use Rattle.flow_model.specs.Item.{Item}
use Rattle.flow_model.specs.Call.{Call, Feed, feeds}
use Rattle.flow_model.specs.Moment.{Behavior}
use Rattle.flow_model.specs.SinkPads.{push_calls}
use Rattle.flow_model.specs.Takes.{OwesMore, Takes}
use Rattle.el_set.specs.declared.sink.SinkElement.{SinkElement}
use Rattle.el_set.specs.Holds.{SinkHeld}
use Rattle.task_elements.specs.declared.element.StreamElement.{StreamElement}
use Rattle.task_elements.specs.declared.element.StreamElement.TheVariants.{Filter, Queue, Tee, Join, Sink}
use Rattle.task_elements.specs.declared.join.StreamJoin.{StreamJoin}
use Rattle.task_elements.specs.Stands.{SinkStands, StreamStands, is_join}
use Rattle.task_elements.proofs.Growing.{none_grows}
use Rattle.flow_model.proofs.Calls.{feeds_push}

-- each took one list
record IsOne (took : List (List Call)) : Type 0 where
  calls : List Call
  is : took ≡ calls ∷ []

one_list : {K : Type 0} (bytes : K → Option (List ℕ)) (element : StreamElement K) (behavior : Behavior) (took : List (List Call)) → is_join element ≡ false
    → StreamStands bytes element behavior took → IsOne took
one_list bytes (Filter filter) behavior took one t = record { calls = t.calls; is = t.took_is }
one_list bytes (Queue queue) behavior took one t = record { calls = t.calls; is = t.took_is }
one_list bytes (Tee tee) behavior took one t = record { calls = t.calls; is = t.took_is }
one_list bytes (Join join) behavior took one t = absurd (cc)
one_list bytes (Sink sink) behavior took one t = record { calls = feeds t.list; is = t.took_is }

-- whether an element is one of several sink pads
pub no_join : {K : Type 0} (element : StreamElement K) → ((join : StreamJoin) → element ≡ Join join → ⊥) → is_join element ≡ false
no_join (Filter filter) other = refl
no_join (Queue queue) other = refl
no_join (Tee tee) other = refl
no_join (Join join) other = absurd (other join refl)
no_join (Sink sink) other = refl

pushed_past : (pad : ℕ) (calls more : List Call) → (pad ≡ 0 → ⊥) → push_calls pad more (calls ∷ []) ≡ calls ∷ []
pushed_past zero calls more h = absurd (h refl)
pushed_past (suc pad) calls more h = refl

pushed_none : (pad : ℕ) (took : List (List Call)) (more : List Call) → IsOne took → (pad ≡ 0 → ⊥) → push_calls pad more took ≡ took
pushed_none pad took more one h = ap (λ css. push_calls pad more css) one.is ∙ pushed_past pad one.calls more h ∙ sym one.is

-- an item for a sink pad that is not there changes nothing
pub takes_none : {K : Type 0} (bytes : K → Option (List ℕ)) (element : StreamElement K) (ports pad : ℕ) (x : Item) (out : List Out) → is_join element ≡ false → (pad ≡ 0 → ⊥)
    → Takes (StreamStands bytes element) (StreamStands bytes element) ports pad x out out
takes_none bytes element ports pad x out one h =
    record {
      more = [];
      appended = sym (append-nil out);
      within = tt;
      stands_now = λ behavior took t. subst (λ (css : List (List Call)). StreamStands bytes element behavior css) (sym (same behavior took t)) t;
      owes = λ behavior took t. subst (λ (css : List (List Call)). OwesMore ports behavior.owes took css []) (sym (same behavior took t)) (λ cuts inside port within. none_grows 0 cuts (behavior.owes took port));
    }
  where
    same : (behavior : Behavior) (took : List (List Call)) → StreamStands bytes element behavior took → push_calls pad (Feed x ∷ []) took ≡ took
    same behavior took t = pushed_none pad took (Feed x ∷ []) (one_list bytes element behavior took one t) h

pub sink_takes : {K : Type 0} (bytes : K → Option (List ℕ)) (old new : SinkElement K) (x : Item)
    → ((keep : Bool) (list : List Item) → SinkHeld bytes keep old list → SinkHeld bytes keep new (list ++ x ∷ []))
    → (behavior : Behavior) (took : List (List Call)) → SinkStands bytes old behavior took
    → SinkStands bytes new behavior (push_calls 0 (Feed x ∷ []) took)
sink_takes bytes old new x held behavior took t =
    record {
      keep = t.keep;
      list = t.list ++ x ∷ [];
      behavior_is = t.behavior_is;
      took_is = ap (λ css. push_calls 0 (Feed x ∷ []) css) t.took_is ∙ ap (λ cs. cs ∷ []) (sym (feeds_push t.list x));
      told = held t.keep t.list t.told;
    }

-- and it puts out nothing
pub nothing_put : {E : Type 0} (r : Result (Unit {0}) E) (stood stands : Behavior → List (List Call) → Type 0) (x : Item) (out : List Out)
    → OnOk r ((behavior : Behavior) (took : List (List Call)) → stood behavior took → stands behavior (push_calls 0 (Feed x ∷ []) took)) → OnOk r (Takes stood stands 0 0 x out out)
nothing_put (Ok done) stood stands x out more =
    record {
      more = [];
      appended = sym (append-nil out);
      within = tt;
      stands_now = more;
      owes = λ behavior took t cuts inside port within. absurd (omega (arith, within));
    }
nothing_put (Err fault) stood stands x out more = tt
