-- Where EOS stands in the first section of what an element took, what it owes there has EOS.
use Rattle.std.proofs.Common.{◌≡◌, ◌<◌, ◌⊎◌, ℕ, zero, suc, Bool, true, false, ◌||◌, if◌then◌else◌, List, [], ◌∷◌, ◌++◌, length, Option, refl, sym, ap, ◌∙◌, subst, inl, inr, arith}
use Rattle.flow_model.specs.Item.{Item, is_flush_stop, is_eos, eos_among}
use Rattle.flow_model.specs.Sticky.{has_flush_stop, latest}
use Rattle.flow_model.specs.Section.{section, counted, counted_after, IsPlain}
use Rattle.flow_model.specs.Prefix.{IsPrefix, nothing, next}
use Rattle.flow_model.specs.Call.{Call, Feed, Act, items}
use Rattle.flow_model.specs.Rule.{Response, owed_for, passes, single}
use Rattle.flow_model.proofs.Prefixes.{prefix_trans, rest_of}
use Rattle.flow_model.proofs.Sections.{section_prefix, owed_for_prefix}
use Rattle.flow_model.specs.Moment.{Behavior}
use Rattle.flow_model.specs.Over.{list_ended, AllEnded}
use Rattle.flow_model.specs.SinkPads.{flush_stops_given, InSection}
use Rattle.el_basic.specs.declared.tee.Tee.{Tee}
use Rattle.el_set.specs.declared.filter.FilterElement.{FilterElement}
use Rattle.el_set.specs.declared.join.JoinElement.{JoinElement}
use Rattle.el_set.specs.Joins.{EachEnded, join_rule}
use Rattle.el_set.specs.Stands.{Stands, MeetsNone}
use Rattle.el_set.proofs.Ends.{eos_first, eos_latest, plain_no_flush}
use Rattle.el_set.proofs.EachEnding.{counts_or_meets, is_ending}
use Rattle.el_set.proofs.Ending.{IsEnding, sane}
use Rattle.el_set.proofs.Elements.{elements_owe}
use Rattle.el_set.proofs.JoinRules.{joins_end, joins_plain}
use Rattle.task_elements.specs.declared.element.StreamElement.{StreamElement}
use Rattle.task_elements.specs.declared.element.StreamElement.TheVariants.{Filter, Queue, Tee as Splits, Join, Sink}
use Rattle.task_elements.specs.Stands.{FilterTook, TeeTook, JoinTook, StreamStands, is_join, passing, pads_of}
use Rattle.task_elements.specs.Ended.{FirstEnded}
use Rattle.task_elements.proofs.Plain.{ending_quiet}
use Rattle.task_elements.proofs.Growing.{owed_stops}
use Rattle.task_elements.proofs.Tees.{counted_owed}
use Rattle.flow_model.proofs.Counted.{since_all}
use Rattle.flow_model.proofs.Items.{no_stop_section as one_section}
use Rattle.gst_item.specs.Item.{has_item}

-- a section has no FLUSH_STOP, so an EOS in it is in force at its end
first_quiet : (xs : List Item) → has_flush_stop (section 0 xs) ≡ false
first_quiet [] = refl
first_quiet (x ∷ xs) = go (is_flush_stop x) refl (first_quiet xs)
  where
    go : (f : Bool) → is_flush_stop x ≡ f → has_flush_stop (section 0 xs) ≡ false → has_flush_stop (if f then [] else x ∷ section 0 xs) ≡ false
    go true e rest = refl
    go false e rest = rw e rest

first_ended : (xs : List Item) → list_ended (section 0 xs) ≡ eos_among (section 0 xs)
first_ended xs = ap (λ (ys : List Item). has_item (latest is_eos ys)) (since_all (section 0 xs) (first_quiet xs)) ∙ eos_latest (section 0 xs)

eos_longer : (xs rest : List Item) → eos_among xs ≡ true → eos_among (xs ++ rest) ≡ true
eos_longer [] rest h = absurd (cc)
eos_longer (x ∷ xs) rest h = eos_first x (xs ++ rest) ∙ go (is_eos x) (eos_longer xs rest) (sym (eos_first x xs) ∙ h)
  where
    go : (e : Bool) → (eos_among xs ≡ true → eos_among (xs ++ rest) ≡ true) → (e || eos_among xs) ≡ true → (e || eos_among (xs ++ rest)) ≡ true
    go true more h = refl
    go false more h = more h

-- the calls of the first section
abbrev first_calls : List Call → List Call
first_calls [] = []
first_calls (Feed x ∷ cs) = if is_flush_stop x then [] else Feed x ∷ first_calls cs
first_calls (Act mark ∷ cs) = Act mark ∷ first_calls cs

first_begins : (calls : List Call) → IsPrefix (first_calls calls) calls
first_begins [] = nothing
first_begins (Feed x ∷ cs) = go (is_flush_stop x) (first_begins cs)
  where
    go : (f : Bool) → IsPrefix (first_calls cs) cs → IsPrefix (if f then [] else Feed x ∷ first_calls cs) (Feed x ∷ cs)
    go true p = nothing
    go false p = next p
first_begins (Act mark ∷ cs) = next (first_begins cs)

first_items : (calls : List Call) → items (first_calls calls) ≡ section 0 (items calls)
first_items [] = refl
first_items (Feed x ∷ cs) = go (is_flush_stop x) (first_items cs)
  where
    go : (f : Bool) → items (first_calls cs) ≡ section 0 (items cs) → items (if f then [] else Feed x ∷ first_calls cs) ≡ (if f then [] else x ∷ section 0 (items cs))
    go true same = refl
    go false same = ap (λ ys. x ∷ ys) same
first_items (Act mark ∷ cs) = first_items cs

first_none : (calls : List Call) → flush_stops_given (first_calls calls) ≡ 0
first_none [] = refl
first_none (Feed x ∷ cs) = go (is_flush_stop x) refl (first_none cs)
  where
    go : (f : Bool) → is_flush_stop x ≡ f → flush_stops_given (first_calls cs) ≡ 0 → flush_stops_given (if f then [] else Feed x ∷ first_calls cs) ≡ 0
    go true e none = refl
    go false e none = rw e none
first_none (Act mark ∷ cs) = first_none cs

-- of a rule that met no fault
owed_first : (respond : Response) (calls : List Call) → IsEnding respond → MeetsNone respond calls → eos_among (section 0 (items calls)) ≡ true
    → eos_among (section 0 (owed_for respond calls)) ≡ true
owed_first respond calls ending none h =
    let front = first_calls calls in
    let met : MeetsNone respond front = λ before call fault p. none before call fault (prefix_trans p (first_begins calls)) in
    let had : eos_among (owed_for respond front) ≡ true = (sane respond front ending met).among ∙ ap eos_among (first_items calls) ∙ h in
    let whole : section 0 (owed_for respond front) ≡ owed_for respond front =
    one_section (owed_for respond front) (owed_stops respond (ending_quiet respond ending) front ∙ first_none calls)
    in let rest = rest_of (section_prefix 0 (owed_for_prefix respond (first_begins calls))) in
    ap eos_among (sym rest.1) ∙ eos_longer (section 0 (owed_for respond front)) rest.0 (ap eos_among whole ∙ had)

-- of a rule that owes what counts of what was given
counted_first : (xs : List Item) → eos_among (section 0 (counted xs)) ≡ eos_among (section 0 xs)
counted_first [] = refl
counted_first (x ∷ xs) = by_flush (is_flush_stop x) (counted_first xs)
  where
    by_eos : (e : Bool) → eos_among (section 0 (counted xs)) ≡ eos_among (section 0 xs) → (e || eos_among (section 0 (counted_after e xs))) ≡ (e || eos_among (section 0 xs))
    by_eos true same = refl
    by_eos false same = same

    by_flush : (f : Bool) → eos_among (section 0 (counted xs)) ≡ eos_among (section 0 xs)
        → eos_among (if f then [] else x ∷ section 0 (counted_after (is_eos x) xs)) ≡ eos_among (if f then [] else x ∷ section 0 xs)
    by_flush true same = refl
    by_flush false same = eos_first x (section 0 (counted_after (is_eos x) xs)) ∙ by_eos (is_eos x) same ∙ sym (eos_first x (section 0 xs))

counts_first : (respond : Response) (calls : List Call) (put : List Item) → put ≡ owed_for respond calls → put ≡ counted (items calls) → eos_among (section 0 (items calls)) ≡ true
    → eos_among (section 0 (owed_for respond calls)) ≡ true
counts_first respond calls put owed counts h = ap (λ (ys : List Item). eos_among (section 0 ys)) (sym owed ∙ counts) ∙ counted_first (items calls) ∙ h

-- of a filter
owes_first : (respond : Response) (element : FilterElement) (calls : List Call) (put : List Item) → Stands respond element calls put → eos_among (section 0 (items calls)) ≡ true
    → eos_among (section 0 (owed_for respond calls)) ≡ true
owes_first respond element calls put s = by (counts_or_meets respond element calls put s)
  where
    by : (put ≡ counted (items calls)) ⊎ MeetsNone respond calls → eos_among (section 0 (items calls)) ≡ true → eos_among (section 0 (owed_for respond calls)) ≡ true
    by (inl counts) = counts_first respond calls put (elements_owe respond element calls put s) counts
    by (inr met) = owed_first respond calls (is_ending respond element calls put s) met

filter_first : (filter : FilterElement) (behavior : Behavior) (took : List (List Call)) → FilterTook filter behavior took → FirstEnded took → (port : ℕ) → list_ended (behavior.owes took port 0) ≡ true
filter_first filter behavior took t h port =
    let ended : list_ended (section 0 (items t.calls)) ≡ true = (subst FirstEnded t.took_is h).0 in
    let owed : eos_among (section 0 (owed_for t.respond t.calls)) ≡ true = owes_first t.respond filter t.calls t.put t.stands (sym (first_ended (items t.calls)) ∙ ended) in
    ap (λ (b : Behavior). list_ended (b.owes took port 0)) t.behavior_is ∙ ap (λ (css : List (List Call)). list_ended (single t.respond css port 0)) t.took_is
    ∙ (first_ended (owed_for t.respond t.calls) ∙ owed)

-- of a tee
tee_first : (tee : Tee) (behavior : Behavior) (took : List (List Call)) → TeeTook tee behavior took → FirstEnded took → (port : ℕ) → list_ended (behavior.owes took port 0) ≡ true
tee_first tee behavior took t h port =
    let ended : list_ended (section 0 (items t.calls)) ≡ true = (subst FirstEnded t.took_is h).0 in
    let owed : eos_among (section 0 (owed_for passes t.calls)) ≡ true =
    counts_first passes t.calls (counted (items t.calls)) (counted_owed t.calls) refl (sym (first_ended (items t.calls)) ∙ ended) in
    ap (λ (b : Behavior). list_ended (b.owes took port 0)) t.behavior_is ∙ ap (λ (css : List (List Call)). list_ended (single passes css port 0)) t.took_is
    ∙ (first_ended (owed_for passes t.calls) ∙ owed)

pub first_goes_on : {K : Type 0} (bytes : K → Option (List ℕ)) (element : StreamElement K) (behavior : Behavior) (took : List (List Call)) → StreamStands bytes element behavior took
    → is_join element ≡ false → FirstEnded took → (port : ℕ) → port < pads_of element → list_ended (behavior.owes took port 0) ≡ true
first_goes_on bytes (Filter filter) behavior took t one h port within = filter_first filter.filter behavior took t h port
first_goes_on bytes (Queue queue) behavior took t one h port within = filter_first (passing queue) behavior took t h port
first_goes_on bytes (Splits tee) behavior took t one h port within = tee_first tee behavior took t h port
first_goes_on bytes (Join join) behavior took t one h port within = absurd (cc)
first_goes_on bytes (Sink sink) behavior took t one h port within = absurd (omega (arith, within))

-- without FLUSH_STOP all is the first section
whole_first : (cs : List Call) → flush_stops_given cs ≡ 0 → section 0 (items cs) ≡ items cs
whole_first [] none = refl
whole_first (Feed x ∷ cs) none = go (is_flush_stop x) (whole_first cs) none
  where
    go : (f : Bool) → (flush_stops_given cs ≡ 0 → section 0 (items cs) ≡ items cs) → (if f then suc (flush_stops_given cs) else flush_stops_given cs) ≡ 0
        → (if f then [] else x ∷ section 0 (items cs)) ≡ x ∷ items cs
    go true rest none = absurd (omega (arith, none))
    go false rest none = ap (λ ys. x ∷ ys) (rest none)
whole_first (Act mark ∷ cs) none = whole_first cs none

all_first : (took : List (List Call)) → InSection 0 took → AllEnded took → FirstEnded took
all_first [] inside ended = tt
all_first (cs ∷ css) inside ended = (ap list_ended (whole_first cs inside.0) ∙ ended.0, all_first css inside.1 ended.1)

-- EOS on each sink pad, by its place
pub at_place : (took : List (List Call)) → AllEnded took → EachEnded took
at_place [] h pad within = absurd (omega (arith, within))
at_place (cs ∷ css) h zero within = h.0
at_place (cs ∷ css) h (suc pad) within = at_place css h.1 pad (omega (arith, within))

pub by_place : (took : List (List Call)) → EachEnded took → AllEnded took
by_place [] h = tt
by_place (cs ∷ css) h = (h 0 (omega arith), by_place css (λ pad within. h (suc pad) (omega (arith, within))))

-- of an element with several sink pads
plain_ended : (xs : List Item) → IsPlain xs → list_ended xs ≡ eos_among xs
plain_ended xs plain = ap (λ (ys : List Item). has_item (latest is_eos ys)) (since_all xs (plain_no_flush xs plain)) ∙ eos_latest xs

join_whole : (join : JoinElement) (behavior : Behavior) (took : List (List Call)) → JoinTook join behavior took → 0 < length took → InSection 0 took → AllEnded took
    → (port : ℕ) → list_ended (behavior.owes took port 0) ≡ true
join_whole join behavior took t some inside ended port =
    ap (λ (b : Behavior). list_ended (b.owes took port 0)) t.behavior_is ∙ plain_ended (join_rule join took port 0) (joins_plain join took port 0)
    ∙ joins_end join took t.put 0 t.stands some inside (at_place took ended) port

pub whole_goes_on : {K : Type 0} (bytes : K → Option (List ℕ)) (element : StreamElement K) (behavior : Behavior) (took : List (List Call)) → StreamStands bytes element behavior took
    → 0 < length took → InSection 0 took → AllEnded took → (port : ℕ) → port < pads_of element → list_ended (behavior.owes took port 0) ≡ true
whole_goes_on bytes (Join join) behavior took t some inside ended port within = join_whole join.join behavior took t some inside ended port
whole_goes_on bytes (Filter filter) behavior took t some inside ended port within = filter_first filter.filter behavior took t (all_first took inside ended) port
whole_goes_on bytes (Queue queue) behavior took t some inside ended port within = filter_first (passing queue) behavior took t (all_first took inside ended) port
whole_goes_on bytes (Splits tee) behavior took t some inside ended port within = tee_first tee behavior took t (all_first took inside ended) port
whole_goes_on bytes (Sink sink) behavior took t some inside ended port within = absurd (omega (arith, within))
