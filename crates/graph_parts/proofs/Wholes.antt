-- From moments of a graph's run to the evaluation of the graph.
use Rattle.std.proofs.Common.{◌≡◌, ◌<◌, ◌%◌, ℕ, Bool, true, false, if◌then◌else◌, List, [], Option, None, Some, length, refl, sym, ◌∙◌, subst, arith}
use Rattle.std.specs.Prelude.{nat_lt, slice_get}
use Rattle.std.specs.Option.{option_map_or}
use Rattle.std.proofs.lemmas.Bool.{ltb-true}
use Rattle.std.proofs.lemmas.Option.{slice_get_within}
use Rattle.flow_model.specs.Eval.{Plan, PadLog, inputs, eval, eval_whole}
use Rattle.flow_model.specs.Account.{IsMember}
use Rattle.flow_model.proofs.Whole.{inputs_same, all_sources_weaker}
use Rattle.flow_model.specs.Moment.{Moment, CellStands}
use Rattle.flow_model.specs.Whole.{counted, CellBegins, IsOver, OverIsWhole}
use Rattle.flow_model.proofs.Wholes.{moment_is_eval, end_is_whole}
use Rattle.el_settings.specs.Asked.{source_pads}
use Rattle.graph_core.specs.Elements.{Made}
use Rattle.graph_core.specs.Graph.{IsSound, made as made_in, forward as forward_in}
use Rattle.graph_core.specs.declared.graph.Graph.{Graph}
use Rattle.graph_core.specs.GraphPlan.{graph_plan, line_plan, owner_of, pad_id}
use Rattle.graph_parts.specs.Pads.{is_pad, pad_owner, at_pads}
use Rattle.graph_parts.specs.Plans.{moment_plan, tight_plan}
use Rattle.graph_parts.specs.MomentLaws.{HasNumber, place_of, PadsHaveNumbers, NumbersHavePads, TightIsAlike, OrdersAreWhole, MomentIsGraph, IsIdle, IsWhole, EndIsGraph}
use Rattle.graph_parts.proofs.Owners.{eval_alike, whole_alike, uncounted}
use Rattle.graph_parts.proofs.Sources.{place_is_pad, owner_is, from_pads, owners_alike, rules_alike, few_there, moment_goes, in_order, of_order}
use Rattle.graph_core.proofs.NumberedPads.{owner_at, port_at}
use Rattle.graph_parts.specs.Links.{source_count}

pub pads_have_numbers : PadsHaveNumbers
pads_have_numbers made place there =
    let pad = place_is_pad made place there in
    record {
      there = there;
      number = refl;
      pad = pad;
      owner = owner_is made (pad_id place) pad ∙ owner_at place (few_there made place there);
      port = port_at place (few_there made place there);
    }

pub numbers_have_pads : NumbersHavePads
numbers_have_pads made p w = go (is_pad made p) refl w
  where
    go : (b : Bool) → is_pad made p ≡ b → (if b then owner_of p else length made) < length made → HasNumber made (place_of p) p
    go true pad w = record { there = ltb-true (p % 64) (source_count made (owner_of p)) pad; number = omega arith; pad = pad; owner = owner_is made p pad; port = refl }
    go false pad w = absurd (omega (arith, w))

pub tight_is_alike : TightIsAlike
unfolding line_plan
tight_is_alike contents graph count sound p pad =
    let plan = graph_plan contents graph count in
    record {
      cut =
          eval_alike (λ q. is_pad (made_in graph) q ≡ true) (pad_owner (made_in graph)) (tight_plan contents graph count).rule plan.log plan (from_pads contents graph count sound) (owners_alike contents graph count) (rules_alike contents graph count) (λ q i. refl) (forward_in graph)
          (λ q. []) (λ q. []) (λ q i. refl) p pad;
      whole =
          whole_alike (λ q. is_pad (made_in graph) q ≡ true) (pad_owner (made_in graph)) (tight_plan contents graph count).rule plan.log plan (from_pads contents graph count sound) (owners_alike contents graph count) (rules_alike contents graph count) (λ q i. refl) (forward_in graph)
          (λ q. []) (λ q. []) (λ q i. refl) p pad;
    }

pub orders_are_whole : OrdersAreWhole
orders_are_whole graph sound = record { whole = in_order graph sound; within = of_order graph sound }

-- the element of a source pad is there
pad_in : (made : List Made) (p : ℕ) → is_pad made p ≡ true → owner_of p < length made
pad_in made p pad = go (slice_get made (owner_of p)) refl pad
  where
    go : (found : Option Made) → slice_get made (owner_of p) ≡ found → nat_lt (p % 64) (option_map_or (λ (m : Made). source_pads m.settings) found 0) ≡ true → owner_of p < length made
    go None at less = absurd (let none = ltb-true (p % 64) 0 less in omega (arith, none))
    go (Some m) at less = slice_get_within made (owner_of p) m at

-- a source pad belongs to an element of the order
pad_member : (graph : Graph) → IsSound graph → (p : ℕ) → is_pad (made_in graph) p ≡ true → IsMember (pad_owner (made_in graph) p) (forward_in graph)
pad_member graph sound p pad =
    subst (λ (e : ℕ). IsMember e (forward_in graph)) (sym (owner_is (made_in graph) p pad)) (in_order graph sound (owner_of p) (pad_in (made_in graph) p pad))

-- and a number whose owner is in the order is a source pad
member_pad : (graph : Graph) → IsSound graph → (p : ℕ) → IsMember (pad_owner (made_in graph) p) (forward_in graph) → is_pad (made_in graph) p ≡ true
member_pad graph sound p m = go (is_pad (made_in graph) p) (of_order graph sound (pad_owner (made_in graph) p) m)
  where
    go : (b : Bool) → (if b then owner_of p else length (made_in graph)) < length (made_in graph) → b ≡ true
    go true w = refl
    go false w = absurd (omega (arith, w))

-- a moment with this plan
abbrev pub at_plan : Moment → Plan → Moment
at_plan m plan = record m { plan = plan }

module _ (contents : ℕ → List ℕ) (graph : Graph) (m : Moment) (sound : IsSound graph) where
  counted_log : ℕ → PadLog
  counted_log p = record { cuts = []; count = length (m.history p) }

  graph_log : ℕ → PadLog
  graph_log p = record { cuts = []; count = length (at_pads (made_in graph) m.history p) }

  same_log : (p : ℕ) → is_pad (made_in graph) p ≡ true → counted_log p ≡ graph_log p
  unfolding counted_log graph_log
  same_log p pad = rw pad refl

  at_pad : ((e : ℕ) → e < length (made_in graph) → CellBegins (at_plan m (moment_plan contents graph)) e) → (p : ℕ) → is_pad (made_in graph) p ≡ true
      → eval (graph_plan contents graph (λ q. length (at_pads (made_in graph) m.history q))) p ≡ m.history p
  unfolding line_plan counted_log graph_log
  at_pad begins p pad =
      sym
      (eval_alike (λ q. is_pad (made_in graph) q ≡ true) (pad_owner (made_in graph)) (moment_plan contents graph).rule counted_log (graph_plan contents graph (λ q. length (at_pads (made_in graph) m.history q)))
      (from_pads contents graph (λ q. length (at_pads (made_in graph) m.history q)) sound) (owners_alike contents graph (λ q. length (at_pads (made_in graph) m.history q)))
      (rules_alike contents graph (λ q. length (at_pads (made_in graph) m.history q))) same_log (forward_in graph)
      (λ q. []) (λ q. []) (λ q i. refl) p pad)
      ∙ moment_is_eval (at_plan m (moment_plan contents graph)) (forward_in graph) (moment_goes contents graph sound) (λ e i. begins e (of_order graph sound e i)) p (pad_member graph sound p pad)

  at_none : (p : ℕ) → is_pad (made_in graph) p ≡ false → eval (graph_plan contents graph (λ q. length (at_pads (made_in graph) m.history q))) p ≡ []
  unfolding line_plan
  at_none p none = uncounted (graph_plan contents graph (λ q. length (at_pads (made_in graph) m.history q))) p (rw none refl) refl (forward_in graph) (λ q. []) refl

  is_graph : ((e : ℕ) → e < length (made_in graph) → CellBegins (at_plan m (moment_plan contents graph)) e) → (p : ℕ)
      → eval (graph_plan contents graph (λ q. length (at_pads (made_in graph) m.history q))) p ≡ at_pads (made_in graph) m.history p
  is_graph begins p = go (is_pad (made_in graph) p) refl
    where
      go : (b : Bool) → is_pad (made_in graph) p ≡ b → eval (graph_plan contents graph (λ q. length (at_pads (made_in graph) m.history q))) p ≡ (if b then m.history p else [])
      go true pad = at_pad begins p pad
      go false none = at_none p none

  over_of : IsIdle (made_in graph) m → IsOver (at_plan m (moment_plan contents graph)) (forward_in graph)
  over_of idle = record { idle = λ p i. idle.pads p (member_pad graph sound p i); empty = λ e i. idle.inlets e (of_order graph sound e i) }

  over_is_whole : ((e : ℕ) → e < length (made_in graph) → CellStands (at_plan m (moment_plan contents graph)) e) → IsIdle (made_in graph) m
      → OverIsWhole (at_plan m (moment_plan contents graph)) (forward_in graph)
  over_is_whole stands idle = end_is_whole (at_plan m (moment_plan contents graph)) (forward_in graph) (moment_goes contents graph sound) (λ e i. stands e (of_order graph sound e i)) (over_of idle)

  whole_alike_at : (count : ℕ → ℕ) (p : ℕ) → is_pad (made_in graph) p ≡ true
      → eval_whole (counted (at_plan m (moment_plan contents graph)) (forward_in graph)) p ≡ eval_whole (graph_plan contents graph count) p
  unfolding line_plan counted_log
  whole_alike_at count p pad =
      whole_alike (λ q. is_pad (made_in graph) q ≡ true) (pad_owner (made_in graph)) (moment_plan contents graph).rule counted_log (graph_plan contents graph count) (from_pads contents graph count sound) (owners_alike contents graph count)
      (rules_alike contents graph count) (λ q i. refl) (forward_in graph) (λ q. []) (λ q. []) (λ q i. refl) p pad

  took_whole : (count : ℕ → ℕ) (e : ℕ)
      → inputs (moment_plan contents graph) (eval_whole (counted (at_plan m (moment_plan contents graph)) (forward_in graph))) e ≡ inputs (graph_plan contents graph count) (eval_whole (graph_plan contents graph count)) e
  unfolding line_plan
  took_whole count e =
      inputs_same (eval_whole (counted (at_plan m (moment_plan contents graph)) (forward_in graph))) (eval_whole (graph_plan contents graph count)) ((graph_plan contents graph count).sinks e)
      (all_sources_weaker (λ q. is_pad (made_in graph) q ≡ true)
      (λ q. eval_whole (counted (at_plan m (moment_plan contents graph)) (forward_in graph)) q ≡ eval_whole (graph_plan contents graph count) q) (whole_alike_at count) ((graph_plan contents graph count).sinks e)
      (from_pads contents graph count sound e))

  is_whole : ((e : ℕ) → e < length (made_in graph) → CellStands (at_plan m (moment_plan contents graph)) e) → IsIdle (made_in graph) m → IsWhole contents graph m
  is_whole stands idle =
      let over = over_is_whole stands idle in
      record {
        pads = λ count p pad. sym (whole_alike_at count p pad) ∙ over.whole p (pad_member graph sound p pad);
        inputs = λ count e there. over.inputs e (in_order graph sound e there) ∙ took_whole count e;
      }

pub moment_is_graph : MomentIsGraph
moment_is_graph contents graph m sound is begins =
    is_graph contents graph m sound (λ e there. subst (λ (plan : Plan). CellBegins (at_plan m plan) e) is (begins e there))

pub end_is_graph : EndIsGraph
end_is_graph contents graph m sound is stands idle =
    is_whole contents graph m sound (λ e there. subst (λ (plan : Plan). CellStands (at_plan m plan) e) is (stands e there)) idle
