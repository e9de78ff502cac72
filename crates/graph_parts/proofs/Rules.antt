-- What the rules of a graph's elements owe.
use Rattle.std.proofs.Common.{◌≡◌, ℕ, zero, suc, Bool, true, false, if◌then◌else◌, List, [], ◌∷◌, ◌++◌, Option, None, Some, map, refl, sym, ap, subst}
use Rattle.std.specs.Prelude.{slice_get}
use Rattle.std.specs.Option.{option_map_or}
use Rattle.pad_core.specs.Crossing.{has_ended}
use Rattle.flow_model.specs.Item.{Item, is_flush_stop, is_eos}
use Rattle.flow_model.specs.Sticky.{has_flush_stop, latest, since_flush_stop}
use Rattle.flow_model.specs.Prefix.{nothing}
use Rattle.flow_model.specs.Call.{Call}
use Rattle.flow_model.specs.Section.{first_section, IsPlain}
use Rattle.flow_model.specs.Rule.{Rule, Response, only, single}
use Rattle.flow_model.specs.Link.{Span}
use Rattle.flow_model.proofs.Prefixes.{prefix_refl}
use Rattle.flow_model.specs.Opening.{IsUntouched, free, from_start, AllUntouched}
use Rattle.flow_model.specs.Whole.{OwesInOrder}
use Rattle.flow_model.proofs.Singles.{single_in_order}
use Rattle.flow_model.proofs.Openings.{opening_stands}
use Rattle.el_settings.specs.Asked.{is_sink, is_source, makes_sinks}
use Rattle.el_settings.specs.declared.settings.Settings.{Settings}
use Rattle.el_set.specs.Denoted.{response_of, rule_of}
use Rattle.el_set.specs.Made.{list_of}
use Rattle.el_set.proofs.EachEnding.{response_ending}
use Rattle.el_set.proofs.Ends.{plain_no_flush}
use Rattle.el_set.proofs.Ending.{AreInner, IsEnding}
use Rattle.el_set.proofs.Lists.{plain_list}
use Rattle.el_settings.proofs.Roles.{end_no_source}
use Rattle.task_elements.specs.Stands.{owes_nothing}
use Rattle.task_elements.proofs.Plain.{ending_plain}
use Rattle.graph_core.specs.Elements.{Made}
use Rattle.graph_core.specs.Graph.{made as made_in, links as links_in}
use Rattle.graph_pads.specs.Links.{source_before}
use Rattle.graph_core.specs.declared.graph.Graph.{Graph}
use Rattle.graph_pads.specs.declared.pad.PadLink.{PadLink}
use Rattle.graph_pads.specs.declared.pad.PadPlace.{PadPlace}
use Rattle.graph_core.specs.GraphPlan.{spans_from, sink_at, sinks_in, line_plan}
use Rattle.graph_parts.specs.Pads.{pad_owner}
use Rattle.graph_parts.specs.Plans.{moment_plan, moment_answers, tight_rule}
use Rattle.graph_parts.specs.MomentLaws.{MomentStarts, MomentStands, RulesGoOn, OwesNoneAtFirst, SourcesWait, given_by, SectionsAreOne, SectionsArePlain, OwesNoneBehind}
use Rattle.el_set.proofs.Ruled.{single_rule, opens, joins_plain}
use Rattle.gst_item.specs.Item.{has_item}

untouched : (source : Option PadPlace) → IsUntouched (spans_from source)
untouched None = free
untouched (Some source) = from_start _

all_untouched : (links : List PadLink) (e : ℕ) (ks : List ℕ) → AllUntouched (map (λ (k : ℕ). spans_from (source_before links (sink_at e k))) ks)
all_untouched links e [] = tt
all_untouched links e (k ∷ ks) = (untouched (source_before links (sink_at e k)), all_untouched links e ks)

pub moment_starts : MomentStarts
unfolding line_plan
moment_starts contents graph = record { uncut = λ p. refl; links = λ e. all_untouched (links_in graph) e _ }

pub moment_stands : MomentStands
moment_stands contents graph e = opening_stands (moment_plan contents graph) (moment_answers graph) (moment_starts contents graph) e

-- A rule of the plan: that of a sink, a list of its own, that of one sink pad, or that of sink pads that links make.
data IsOneOf (rule : Rule) : Type 0 where
  by_none : rule ≡ owes_nothing → IsOneOf rule
  by_list : (list : List Item) → rule ≡ (λ inputs port. first_section list) → IsPlain list → IsOneOf rule
  by_one : (respond : Response) → rule ≡ single respond → IsEnding respond → IsOneOf rule
  by_join : (settings : Settings) → rule ≡ rule_of settings → makes_sinks settings ≡ true → IsOneOf rule

one_of : (found : Option Made) (e : ℕ) (content : List ℕ) → IsOneOf (tight_rule found e content)
one_of None e content = by_none refl
one_of (Some m) e content = go (is_sink m.settings) (is_source m.settings) (makes_sinks m.settings) refl
  where
    go : (b d g : Bool) → makes_sinks m.settings ≡ g
        → IsOneOf (if b then owes_nothing else (if d then (λ inputs port. first_section (list_of m.settings e content)) else rule_of m.settings))
    go true d g is = by_none refl
    go false true g is = by_list (list_of m.settings e content) refl (plain_list m.settings e content)
    go false false true is = by_join m.settings refl is
    go false false false is = by_one (response_of m.settings) (single_rule m.settings is) (response_ending m.settings)

rule_is : (contents : ℕ → List ℕ) (graph : Graph) (e : ℕ) → IsOneOf ((moment_plan contents graph).rule e)
rule_is contents graph e = one_of (slice_get (made_in graph) e) e (contents e)

-- for more it owes more
ordered : (found : Option Made) (e : ℕ) (content : List ℕ) (took : List (List Call)) → option_map_or (λ (m : Made). makes_sinks m.settings) found false ≡ false
    → OwesInOrder (tight_rule found e content) took
ordered None e content took one = λ whole begins port j. nothing
ordered (Some m) e content took one = go (is_sink m.settings) (is_source m.settings)
  where
    go : (b d : Bool) → OwesInOrder (if b then owes_nothing else (if d then (λ inputs port. first_section (list_of m.settings e content)) else rule_of m.settings)) took
    go true d = λ whole begins port j. nothing
    go false true = λ whole begins port j. prefix_refl (first_section (list_of m.settings e content) j)
    go false false = subst (λ (rule : Rule). OwesInOrder rule took) (sym (single_rule m.settings one)) (single_in_order (response_of m.settings) took)

pub rules_go_on : RulesGoOn
rules_go_on contents graph e took one = ordered (slice_get (made_in graph) e) e (contents e) took one

-- before it took anything an element owes what it gives by itself
owes_first : (found : Option Made) (e : ℕ) (content : List ℕ) (sss : List (List Span)) (port : ℕ) → tight_rule found e content (map (λ spans. []) sss) port 0 ≡ given_by found e content
owes_first None e content sss port = refl
owes_first (Some m) e content sss port = go (is_sink m.settings) (is_source m.settings) (end_no_source m.settings)
  where
    go : (b d : Bool) → (b ≡ true → d ≡ false)
        → (if b then owes_nothing else (if d then (λ inputs port. first_section (list_of m.settings e content)) else rule_of m.settings)) (map (λ spans. []) sss) port 0
        ≡ (if d then list_of m.settings e content else [])
    go true true other = let never : true ≡ false = other refl in absurd (cc)
    go true false other = refl
    go false true other = refl
    go false false other = opens m.settings sss port 0

pub sources_wait : SourcesWait
unfolding line_plan
sources_wait contents graph p =
    let e = pad_owner (made_in graph) p in
    owes_first (slice_get (made_in graph) e) e (contents e) (sinks_in (made_in graph) (links_in graph) e) _

-- and nothing in any section, where it is no source
owes_none : (found : Option Made) (e : ℕ) (content : List ℕ) (sss : List (List Span)) (port j : ℕ) → option_map_or (λ (m : Made). is_source m.settings) found false ≡ false
    → tight_rule found e content (map (λ spans. []) sss) port j ≡ []
owes_none None e content sss port j other = refl
owes_none (Some m) e content sss port j other = go (is_sink m.settings) (is_source m.settings) other
  where
    go : (b d : Bool) → d ≡ false
        → (if b then owes_nothing else (if d then (λ inputs port. first_section (list_of m.settings e content)) else rule_of m.settings)) (map (λ spans. []) sss) port j ≡ []
    go true d other = refl
    go false true other = absurd (cc)
    go false false other = opens m.settings sss port j

pub owes_none_at_first : OwesNoneAtFirst
unfolding line_plan
owes_none_at_first contents graph e port j other =
    owes_none (slice_get (made_in graph) e) e (contents e) (sinks_in (made_in graph) (links_in graph) e) port j other

-- each section is plain
list_plain : (items : List Item) (j : ℕ) → IsPlain items → IsPlain (first_section items j)
list_plain items zero plain = plain
list_plain items (suc j) plain = tt

is_plain : (rule : Rule) (took : List (List Call)) (port j : ℕ) → IsOneOf rule → IsPlain (rule took port j)
is_plain rule took port j (by_none is) = rw is tt
is_plain rule took port j (by_list items is plain) = rw is (list_plain items j plain)
is_plain rule took port j (by_one respond is ending) = rw is (ending_plain respond ending (only took) j)
is_plain rule took port j (by_join settings is joins) = rw is (joins_plain settings joins took port j)

pub sections_are_plain : SectionsArePlain
sections_are_plain contents graph e took port j = is_plain ((moment_plan contents graph).rule e) took port j (rule_is contents graph e)

pub sections_are_one : SectionsAreOne
sections_are_one contents graph e took port j = plain_no_flush ((moment_plan contents graph).rule e took port j) (sections_are_plain contents graph e took port j)

-- of what is plain all but the last is without EOS
inner_front : (front : List Item) (last : Item) → IsPlain (front ++ last ∷ []) → AreInner front
inner_front [] last plain = tt
inner_front (x ∷ front) last plain = (plain.0, go (is_eos x) plain.1, inner_front front last plain.2)
  where
    some : (xs : List Item) → xs ++ last ∷ [] ≡ [] → ⊥
    some [] e = cc
    some (y ∷ ys) e = cc

    go : (b : Bool) → (b ≡ true → front ++ last ∷ [] ≡ []) → b ≡ false
    go true last_one = absurd (some front (last_one refl))
    go false last_one = refl

-- what has no EOS leaves none in force
none_latest : (xs : List Item) → AreInner xs → latest is_eos xs ≡ []
none_latest [] h = refl
none_latest (x ∷ xs) h = rw (none_latest xs h.2, h.1) refl

since_inner : (xs : List Item) → AreInner xs → AreInner (since_flush_stop xs)
since_inner [] h = tt
since_inner (x ∷ xs) h = go (has_flush_stop xs) (is_flush_stop x) (since_inner xs h.2)
  where
    go : (b d : Bool) → AreInner (since_flush_stop xs) → AreInner (if b then since_flush_stop xs else (if d then xs else x ∷ xs))
    go true d rest = rest
    go false true rest = h.2
    go false false rest = h

not_ended : (xs : List Item) → AreInner xs → has_ended xs ≡ false
not_ended xs h = ap has_item (none_latest (since_flush_stop xs) (since_inner xs h))

pub owes_none_behind : OwesNoneBehind
owes_none_behind contents graph e port took front last is =
    not_ended front (inner_front front last (subst IsPlain is (sections_are_plain contents graph e took port 0)))
