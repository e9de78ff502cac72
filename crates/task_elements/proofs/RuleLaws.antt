-- What is known of each rule for which an element of a stream stands.
use Rattle.std.proofs.Common.{◌≡◌, ℕ, zero, suc, List, [], replicate, Option, refl, sym, ap, subst}
use Rattle.flow_model.specs.Section.{section, IsPlain}
use Rattle.flow_model.specs.Prefix.{nothing}
use Rattle.flow_model.specs.Call.{Call}
use Rattle.flow_model.specs.Rule.{Rule, Response, only, owed_for, passes, single}
use Rattle.flow_model.proofs.Sections.{single_prefix}
use Rattle.flow_model.specs.Moment.{Behavior}
use Rattle.flow_model.specs.Whole.{OwesInOrder}
use Rattle.el_settings.specs.declared.settings.Settings.TheVariants.{Identity as PassesAll}
use Rattle.el_set.specs.declared.filter.FilterElement.{FilterElement}
use Rattle.el_set.specs.declared.join.JoinElement.{JoinElement}
use Rattle.el_set.specs.Joins.{join_rule}
use Rattle.el_set.proofs.EachEnding.{is_ending, response_ending}
use Rattle.el_set.proofs.Ending.{IsEnding}
use Rattle.el_set.proofs.JoinRules.{joins_in_order, joins_open, joins_plain}
use Rattle.task_elements.specs.declared.element.StreamElement.{StreamElement}
use Rattle.task_elements.specs.declared.element.StreamElement.TheVariants.{Filter, Queue, Tee, Join, Sink}
use Rattle.task_elements.specs.Stands.{FilterTook, owes_nothing, passing, StreamStands}
use Rattle.task_elements.proofs.Plain.{ending_plain}
use Rattle.flow_model.proofs.Items.{none_behind}

-- a rule of one sink pad, one of several, or one that owes nothing
data IsOneOf (rule : Rule) : Type 0 where
  by_one : (respond : Response) → rule ≡ single respond → IsEnding respond → IsOneOf rule
  by_join : (join : JoinElement) → rule ≡ join_rule join → IsOneOf rule
  by_none : rule ≡ owes_nothing → IsOneOf rule

filter_is : (filter : FilterElement) (behavior : Behavior) (took : List (List Call)) → FilterTook filter behavior took → IsOneOf behavior.owes
filter_is filter behavior took t = by_one t.respond (ap (λ (b : Behavior). b.owes) t.behavior_is) (is_ending t.respond filter t.calls t.put t.stands)

is_one_of : {K : Type 0} (bytes : K → Option (List ℕ)) (element : StreamElement K) (behavior : Behavior) (took : List (List Call)) → StreamStands bytes element behavior took → IsOneOf behavior.owes
is_one_of bytes (Filter filter) behavior took t = filter_is filter.filter behavior took t
is_one_of bytes (Queue queue) behavior took t = filter_is (passing queue) behavior took t
is_one_of bytes (Tee tee) behavior took t = by_one passes (ap (λ (b : Behavior). b.owes) t.behavior_is) (response_ending PassesAll)
is_one_of bytes (Join join) behavior took t = by_join join.join (ap (λ (b : Behavior). b.owes) t.behavior_is)
is_one_of bytes (Sink sink) behavior took t = by_none (ap (λ (b : Behavior). b.owes) t.behavior_is)

-- nothing is owed behind an EOS
plain_of : (rule : Rule) → IsOneOf rule → (given : List (List Call)) (port j : ℕ) → IsPlain (rule given port j)
plain_of rule (by_one respond is ending) given port j = rw is (ending_plain respond ending (only given) j)
plain_of rule (by_join join is) given port j = rw is (joins_plain join given port j)
plain_of rule (by_none is) given port j = rw is tt

pub owes_plain : {K : Type 0} (bytes : K → Option (List ℕ)) (element : StreamElement K) (behavior : Behavior) (took : List (List Call)) → StreamStands bytes element behavior took
    → (given : List (List Call)) (port j : ℕ) → IsPlain (behavior.owes given port j)
owes_plain bytes element behavior took t = plain_of behavior.owes (is_one_of bytes element behavior took t)

-- for what was taken a beginning is owed of what is owed for more
single_in_order : (respond : Response) (behavior : Behavior) (took : List (List Call)) → behavior.owes ≡ single respond → OwesInOrder behavior.owes took
single_in_order respond behavior took is = rw is (λ whole begins port j. single_prefix respond begins port j)

pub owes_in_order : {K : Type 0} (bytes : K → Option (List ℕ)) (element : StreamElement K) (behavior : Behavior) (took : List (List Call)) → StreamStands bytes element behavior took
    → OwesInOrder behavior.owes took
owes_in_order bytes (Filter filter) behavior took t = single_in_order t.respond behavior took (ap (λ (b : Behavior). b.owes) t.behavior_is)
owes_in_order bytes (Queue queue) behavior took t = single_in_order t.respond behavior took (ap (λ (b : Behavior). b.owes) t.behavior_is)
owes_in_order bytes (Tee tee) behavior took t = single_in_order passes behavior took (ap (λ (b : Behavior). b.owes) t.behavior_is)
owes_in_order bytes (Join join) behavior took t =
    subst (λ (r : Rule). OwesInOrder r took) (sym (ap (λ (b : Behavior). b.owes) t.behavior_is))
    (λ whole begins port j. joins_in_order join.join took whole t.put t.stands begins port j)
owes_in_order bytes (Sink sink) behavior took t =
    subst (λ (r : Rule). OwesInOrder r took) (sym (ap (λ (b : Behavior). b.owes) t.behavior_is)) (λ whole begins port j. nothing)

none_owed : (respond : Response) (pads j : ℕ) → section j (owed_for respond (only (replicate pads []))) ≡ []
none_owed respond zero j = none_behind j
none_owed respond (suc pads) j = none_behind j

opened : (rule : Rule) → IsOneOf rule → (pads port j : ℕ) → rule (replicate pads []) port j ≡ []
opened rule (by_one respond is ending) pads port j = rw is (none_owed respond pads j)
opened rule (by_join join is) pads port j = rw is (joins_open join pads port j)
opened rule (by_none is) pads port j = rw is refl

pub opens_empty : {K : Type 0} (bytes : K → Option (List ℕ)) (element : StreamElement K) (behavior : Behavior) (took : List (List Call)) → StreamStands bytes element behavior took
    → (pads port j : ℕ) → behavior.owes (replicate pads []) port j ≡ []
opens_empty bytes element behavior took t = opened behavior.owes (is_one_of bytes element behavior took t)
