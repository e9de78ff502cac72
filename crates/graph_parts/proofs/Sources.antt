-- The numbers of source pads, and the links that come from them.
use Rattle.std.proofs.Common.{◌≡◌, ◌<◌, ◌%◌, ℕ, Bool, true, false, if◌then◌else◌, List, [], ◌∷◌, All, Option, None, Some, map, length, refl, ap, ◌∙◌, subst, arith}
use Rattle.std.specs.Prelude.{nat_lt, slice_get}
use Rattle.std.specs.List.{range_with_len}
use Rattle.std.specs.Option.{option_map_or}
use Rattle.std.proofs.lemmas.Bool.{lt-ltb, ltb-true}
use Rattle.flow_model.specs.Account.{EachSource, EachSourceOf, GoesForward, IsMember}
use Rattle.el_settings.specs.Asked.{is_sink, sink_pads, source_pads}
use Rattle.el_settings.proofs.Roles.{end_no_source_pad}
use Rattle.task_elements.specs.Stands.{owes_nothing}
use Rattle.graph_core.specs.Elements.{Made}
use Rattle.graph_core.specs.Graph.{IsSound, made as made_in, links as links_in, forward as forward_in}
use Rattle.graph_core.specs.Links.{HasPads}
use Rattle.graph_pads.specs.Links.{source_before}
use Rattle.graph_core.specs.declared.graph.Graph.{Graph}
use Rattle.graph_pads.specs.declared.pad.PadLink.{PadLink}
use Rattle.graph_pads.specs.declared.pad.PadPlace.{PadPlace}
use Rattle.graph_order.proofs.Once.{within}
use Rattle.graph_core.specs.GraphPlan.{pad_id, owner_of, spans_from, sink_at, sink_count, graph_plan, line_plan, rule_for}
use Rattle.graph_core.proofs.NumberedPads.{owner_at, found_in, goes_forward, port_at}
use Rattle.graph_core.proofs.Orders.{pads_at_link, graph_goes, order_size, order_covers, listed, member, few_pads as few_sources}
use Rattle.graph_parts.specs.Pads.{IsThere, is_pad, pad_owner}
use Rattle.graph_parts.specs.Plans.{moment_plan, tight_plan, tight_rule}
use Rattle.graph_parts.proofs.Owners.{FromPads, RulesAlike, goes_owned}
use Rattle.graph_parts.specs.Links.{source_count}

pub sinks_are : (found : Option Made) → option_map_or (λ (m : Made). sink_pads m.settings) found 0 ≡ sink_count found
sinks_are None = refl
sinks_are (Some m) = refl

pub few_there : (made : List Made) (place : PadPlace) → IsThere made place → place.pad < 64
few_there made place there = few_sources (slice_get made place.element) place.pad there

pub place_is_pad : (made : List Made) (place : PadPlace) → IsThere made place → is_pad made (pad_id place) ≡ true
place_is_pad made place there =
    let few = few_there made place there in
    ap (λ n. nat_lt n (source_count made (owner_of (pad_id place)))) (port_at place few)
    ∙ ap (λ n. nat_lt place.pad (source_count made n)) (owner_at place few)
    ∙ lt-ltb place.pad (source_count made place.element) there

pub owner_is : (made : List Made) (p : ℕ) → is_pad made p ≡ true → pad_owner made p ≡ owner_of p
owner_is made p pad = rw pad refl

-- the pad before a sink pad is there
pub linked_there : (made : List Made) (links : List PadLink) → All (HasPads made) links → (sink source : PadPlace) → source_before links sink ≡ Some source → IsThere made source
linked_there made links all sink source at =
    let found = found_in links sink source at in
    subst (λ (place : PadPlace). place.pad < source_count made place.element) found.2
    (pads_at_link made links all found.0 found.1).0

pads_before : (made : List Made) (links : List PadLink) → All (HasPads made) links → (sink : PadPlace) → EachSource (λ p. is_pad made p ≡ true) (spans_from (source_before links sink))
pads_before made links all sink = go (source_before links sink) refl
  where
    go : (source : Option PadPlace) → source_before links sink ≡ source → EachSource (λ p. is_pad made p ≡ true) (spans_from source)
    go None at = tt
    go (Some source) at = (place_is_pad made source (linked_there made links all sink source at), tt)

all_before : (made : List Made) (links : List PadLink) → All (HasPads made) links → (e : ℕ) (ks : List ℕ)
    → EachSourceOf (λ p. is_pad made p ≡ true) (map (λ (k : ℕ). spans_from (source_before links (sink_at e k))) ks)
all_before made links all e [] = tt
all_before made links all e (k ∷ ks) = (pads_before made links all (sink_at e k), all_before made links all e ks)

-- the links of a sound graph come from its source pads
pub from_pads : (contents : ℕ → List ℕ) (graph : Graph) (count : ℕ → ℕ) → IsSound graph → FromPads (λ p. is_pad (made_in graph) p ≡ true) (graph_plan contents graph count)
unfolding line_plan
from_pads contents graph count sound e = all_before (made_in graph) (links_in graph) sound.pads e (range_with_len 0 (sink_count (slice_get (made_in graph) e)))

pub owners_alike : (contents : ℕ → List ℕ) (graph : Graph) (count : ℕ → ℕ) (p : ℕ) → is_pad (made_in graph) p ≡ true → pad_owner (made_in graph) p ≡ (graph_plan contents graph count).owner p
unfolding line_plan
owners_alike contents graph count p pad = owner_is (made_in graph) p pad

-- a source pad that is there belongs to an element that is no sink
pub rule_at : (found : Option Made) (e : ℕ) (content : List ℕ) (pad : ℕ) → pad < option_map_or (λ (m : Made). source_pads m.settings) found 0
    → tight_rule found e content ≡ rule_for found e content
rule_at None e content pad less = absurd (omega (arith, less))
rule_at (Some m) e content pad less = go (is_sink m.settings) refl
  where
    go : (b : Bool) → is_sink m.settings ≡ b → (if b then owes_nothing else rule_for (Some m) e content) ≡ rule_for (Some m) e content
    go true is = absurd (let none = end_no_source_pad m.settings is in omega (arith, less, none))
    go false is = refl

pub rules_alike : (contents : ℕ → List ℕ) (graph : Graph) (count : ℕ → ℕ) → RulesAlike (λ p. is_pad (made_in graph) p ≡ true) (tight_plan contents graph count).rule (graph_plan contents graph count)
unfolding line_plan
rules_alike contents graph count p pad =
    rule_at (slice_get (made_in graph) (owner_of p)) (owner_of p) (contents (owner_of p)) (p % 64) (ltb-true (p % 64) (source_count (made_in graph) (owner_of p)) pad)

pub moment_goes : (contents : ℕ → List ℕ) (graph : Graph) → IsSound graph → GoesForward (moment_plan contents graph) [] (forward_in graph)
moment_goes contents graph sound =
    goes_owned (λ p. is_pad (made_in graph) p ≡ true) (pad_owner (made_in graph)) (moment_plan contents graph).rule (graph_plan contents graph (λ q. 0)).log (graph_plan contents graph (λ q. 0)) (from_pads contents graph (λ q. 0) sound)
    (owners_alike contents graph (λ q. 0)) [] (forward_in graph) (goes_forward contents (made_in graph) (links_in graph) (forward_in graph) (λ q. []) [] (forward_in graph) (graph_goes graph sound))

-- the order of a sound graph has its elements and no other
pub in_order : (graph : Graph) → IsSound graph → (e : ℕ) → e < length (made_in graph) → IsMember e (forward_in graph)
in_order graph sound e there = listed e (forward_in graph) (order_covers graph sound e there)

pub of_order : (graph : Graph) → IsSound graph → (e : ℕ) → IsMember e (forward_in graph) → e < length (made_in graph)
of_order graph sound e m = within (length (made_in graph)) (forward_in graph) (order_covers graph sound) (order_size graph sound) e (member e (forward_in graph) m)
