-- What was taken of what crossed the source pads of a graph.
use Rattle.std.proofs.Common.{◌≡◌, ◌<◌, ◌+◌, ℕ, zero, suc, false, List, [], ◌∷◌, ◌++◌, Option, None, Some, map, refl, sym, ap}
use Rattle.std.proofs.Common.{◌∙◌, subst, append-nil, arith}
use Rattle.std.specs.Prelude.{slice_get}
use Rattle.std.specs.List.{range_with_len}
use Rattle.flow_model.specs.Call.{Call, Feed, feeds, items}
use Rattle.flow_model.specs.Item.{Item}
use Rattle.flow_model.specs.Prefix.{IsPrefix, nothing}
use Rattle.flow_model.specs.SinkPads.{calls_at}
use Rattle.flow_model.proofs.Prefixes.{prefix_by}
use Rattle.flow_model.specs.Moment.{Moment}
use Rattle.flow_model.specs.Split.{AreEmpty, AreSplit}
use Rattle.flow_model.specs.Split as splits
use Rattle.graph_core.specs.Graph.{IsSound, made as made_in, links as links_in}
use Rattle.graph_core.specs.GraphPlan.{pad_id, sink_count, sink_at as place_at}
use Rattle.graph_core.specs.LinkedOnce.{AreOnce}
use Rattle.graph_pads.specs.Links.{sink_behind, source_before}
use Rattle.graph_core.specs.declared.graph.Graph.{Graph}
use Rattle.graph_pads.specs.declared.pad.PadPlace.{PadPlace}
use Rattle.graph_parts.specs.Links.{has_inlets}
use Rattle.graph_parts.specs.MomentLaws.{place_of}
use Rattle.graph_parts.specs.Pads.{IsThere}
use Rattle.graph_parts.proofs.Sources.{few_there, linked_there, place_is_pad}
use Rattle.graph_tasks.specs.Owed.{came_to, inputs_to, went_from}
use Rattle.graph_tasks.specs.Runs.{RunStands, crossed_in}
use Rattle.graph_tasks.specs.Stalled.{AreTaken}
use Rattle.graph_tasks.proofs.Awaited.{split_came}
use Rattle.graph_tasks.proofs.Came.{number_at, place_again}
use Rattle.flow_model.proofs.Items.{feeds_nil as feeds_none, items_feeds as items_of}
use Rattle.graph_core.specs.Elements.{has}

-- items that were given in two parts
pub record InParts (xs : List Item) (t h : List Call) : Type 0 where
  pub first : List Item
  pub second : List Item
  pub whole : xs ≡ first ++ second
  pub took : t ≡ feeds first
  pub held : h ≡ feeds second

in_parts : (xs : List Item) (t h : List Call) → feeds xs ≡ t ++ h → InParts xs t h
in_parts xs [] h e = record { first = []; second = xs; whole = refl; took = refl; held = sym e }
in_parts [] (c ∷ t) h e = absurd (nil_cons e)
  where
    nil_cons : {c : Call} {cs : List Call} → [] ≡ c ∷ cs → ⊥
    nil_cons e = cc
in_parts (x ∷ xs) (c ∷ t) h e =
    let more = in_parts xs t h (tail_same e) in
    record {
      first = x ∷ more.first;
      second = more.second;
      whole = ap (λ (ys : List Item). x ∷ ys) more.whole;
      took = ap (λ (d : Call). d ∷ t) (sym (head_same e)) ∙ ap (λ (cs : List Call). Feed x ∷ cs) more.took;
      held = more.held;
    }
  where
    head_same : {c d : Call} {cs ds : List Call} → c ∷ cs ≡ d ∷ ds → c ≡ d
    head_same e = cc

    tail_same : {c d : Call} {cs ds : List Call} → c ∷ cs ≡ d ∷ ds → cs ≡ ds
    tail_same e = cc

calls_head : {c d : List Call} {cs ds : List (List Call)} → c ∷ cs ≡ d ∷ ds → c ≡ d
calls_head e = cc

calls_tail : {c d : List Call} {cs ds : List (List Call)} → c ∷ cs ≡ d ∷ ds → cs ≡ ds
calls_tail e = cc

calls_none : {A : Type 0} {c : List Call} {cs : List (List Call)} → [] ≡ c ∷ cs → A
calls_none e = absurd (cc)

calls_some : {A : Type 0} {c : List Call} {cs : List (List Call)} → c ∷ cs ≡ [] → A
calls_some e = absurd (cc)

-- so it is at each sink pad of an element
parts_from : (f : ℕ → List Item) (start n : ℕ) {ts hs ws : List (List Call)} → AreSplit ts hs ws → ws ≡ map feeds (map f (range_with_len start n)) → (k : ℕ) → k < n
    → InParts (f (start + k)) (calls_at k ts) (calls_at k hs)
parts_from f start zero s is k w = absurd (omega (arith, w))
parts_from f start (suc n) splits.none is k w = calls_none is
parts_from f start (suc n) (splits.pad {t = t} {h = h} e s) is zero w =
    let here : start ≡ start + 0 = omega arith in
    subst (λ (k : ℕ). InParts (f k) t h) here (in_parts (f start) t h (sym (calls_head is) ∙ e))
parts_from f start (suc n) (splits.pad {ts = ts} {hs = hs} e s) is (suc k) w =
    let later : start + 1 + k ≡ start + suc k = omega arith in
    subst (λ (j : ℕ). InParts (f j) (calls_at k ts) (calls_at k hs)) later (parts_from f (start + 1) n s (calls_tail is) k (omega (arith, w)))

-- what was taken, where each sink pad took these items
tooks_from : (f g : ℕ → List Item) (start n : ℕ) {ts hs ws : List (List Call)} → AreSplit ts hs ws → ws ≡ map feeds (map f (range_with_len start n))
    → ((k : ℕ) → k < n → g (start + k) ≡ items (calls_at k ts)) → ts ≡ map feeds (map g (range_with_len start n))
tooks_from f g start zero splits.none is same = refl
tooks_from f g start zero (splits.pad e s) is same = calls_some is
tooks_from f g start (suc n) splits.none is same = calls_none is
tooks_from f g start (suc n) (splits.pad {t = t} {h = h} {ts = ts} e s) is same =
    let p = in_parts (f start) t h (sym (calls_head is) ∙ e) in
    let here : start + 0 ≡ start = omega arith in
    let own : g start ≡ p.first = ap g (sym here) ∙ same 0 (omega arith) ∙ ap items p.took ∙ items_of p.first in
    ap (λ (c : List Call). c ∷ ts) (p.took ∙ ap feeds (sym own))
    ∙ ap (λ (cs : List (List Call)). feeds (g start) ∷ cs)
    (tooks_from f g (start + 1) n s (calls_tail is) (λ k w. let later : start + 1 + k ≡ start + suc k = omega arith in ap g later ∙ same (suc k) (omega (arith, w))))

none_at : (k : ℕ) (hs : List (List Call)) → AreEmpty hs → calls_at k hs ≡ []
none_at k [] n = refl
none_at zero (h ∷ hs) n = n.0
none_at (suc k) (h ∷ hs) n = none_at k hs n.1

module _ (contents : ℕ → List ℕ) (graph : Graph) (m : Moment) (sound : IsSound graph) (once : AreOnce (links_in graph)) (run : RunStands contents graph m) where
  -- what was taken behind a source pad
  abbrev pub behind : Option PadPlace → List Item
  behind None = []
  behind (Some sink) = items (calls_at sink.pad (m.took sink.element))

  abbrev pub taken : ℕ → List Item
  taken p = behind (sink_behind (links_in graph) (place_of p))

  -- what came to a sink pad, by what was taken and by what is held
  pub parts_at : (n k : ℕ) → k < sink_count (slice_get (made_in graph) n)
      → InParts (came_to (links_in graph) (crossed_in graph m) (place_at n k)) (calls_at k (m.took n)) (calls_at k (m.held n))
  parts_at n k w =
      let first : 0 + k ≡ k = omega arith in
      subst (λ (j : ℕ). InParts (came_to (links_in graph) (crossed_in graph m) (place_at n j)) (calls_at k (m.took n)) (calls_at k (m.held n))) first
      (parts_from (λ j. came_to (links_in graph) (crossed_in graph m) (place_at n j)) 0 (sink_count (slice_get (made_in graph) n)) (split_came contents graph m sound run n) refl k w)

  -- a source pad that is linked to a sink pad is there
  pub before_there : (sink source : PadPlace) → source_before (links_in graph) sink ≡ Some source → IsThere (made_in graph) source
  before_there sink source at = linked_there (made_in graph) (links_in graph) sound.pads sink source at

  pub taken_at : (sink source : PadPlace) → source_before (links_in graph) sink ≡ Some source → taken (pad_id source) ≡ items (calls_at sink.pad (m.took sink.element))
  taken_at sink source at =
      ap (λ (place : PadPlace). behind (sink_behind (links_in graph) place)) (place_again source (few_there (made_in graph) source (before_there sink source at)))
      ∙ ap behind (once.back source sink at)

  -- what was taken at a sink pad
  pub came_taken : (n k : ℕ) → k < sink_count (slice_get (made_in graph) n) → came_to (links_in graph) taken (place_at n k) ≡ items (calls_at k (m.took n))
  came_taken n k w = go (source_before (links_in graph) (place_at n k)) refl
    where
      front_none : (xs ys : List Item) → [] ≡ xs ++ ys → xs ≡ []
      front_none [] ys e = refl
      front_none (x ∷ xs) ys e = absurd (cc)

      go : (found : Option PadPlace) → source_before (links_in graph) (place_at n k) ≡ found → came_to (links_in graph) taken (place_at n k) ≡ items (calls_at k (m.took n))
      go None at =
          let p = parts_at n k w in
          let none : [] ≡ p.first ++ p.second = sym (rw at refl) ∙ p.whole in
          rw at (sym (ap items p.took ∙ items_of p.first ∙ front_none p.first p.second none))
      go (Some source) at = rw at (taken_at (place_at n k) source at)

  pub came_first : (n k : ℕ) → (w : k < sink_count (slice_get (made_in graph) n)) → came_to (links_in graph) taken (place_at n k) ≡ (parts_at n k w).first
  came_first n k w = let p = parts_at n k w in came_taken n k w ∙ ap items p.took ∙ items_of p.first

  -- what an element took in all
  pub took_is : (n : ℕ) → m.took n ≡ map feeds (inputs_to (made_in graph) (links_in graph) taken n)
  took_is n =
      tooks_from (λ k. came_to (links_in graph) (crossed_in graph m) (place_at n k)) (λ k. came_to (links_in graph) taken (place_at n k)) 0
      (sink_count (slice_get (made_in graph) n)) (split_came contents graph m sound run n) refl
      (λ k w. let first : 0 + k ≡ k = omega arith in ap (λ j. came_to (links_in graph) taken (place_at n j)) first ∙ came_taken n k w)

  -- of what crossed a pad
  pub went_here : (source : PadPlace) → IsThere (made_in graph) source → went_from (crossed_in graph m) source ≡ m.history (pad_id source)
  went_here source there = rw (place_is_pad (made_in graph) source there) refl

  pub record IsTakenAt (sink source : PadPlace) : Type 0 where
    pub left : List Item
    pub whole : went_from (crossed_in graph m) source ≡ went_from taken source ++ left
    pub held : calls_at sink.pad (m.held sink.element) ≡ feeds left

  pub taken_here : (sink source : PadPlace) → sink.pad < sink_count (slice_get (made_in graph) sink.element) → source_before (links_in graph) sink ≡ Some source → IsTakenAt sink source
  taken_here sink source w at =
      let p = parts_at sink.element sink.pad w in
      let came : went_from (crossed_in graph m) source ≡ p.first ++ p.second = sym (came_went (crossed_in graph m)) ∙ p.whole in
      let took : went_from taken source ≡ p.first = taken_at sink source at ∙ ap items p.took ∙ items_of p.first in
      record { left = p.second; whole = came ∙ ap (λ (xs : List Item). xs ++ p.second) (sym took); held = p.held }
    where
      came_went : (h : ℕ → List Item) → came_to (links_in graph) h sink ≡ went_from h source
      came_went h = rw at refl

  module _ (sinks_there : (source sink : PadPlace) → sink_behind (links_in graph) source ≡ Some sink → sink.pad < sink_count (slice_get (made_in graph) sink.element))
      (inner : (n : ℕ) → has has_inlets (made_in graph) n ≡ false → AreEmpty (m.held n)) where
    begins : (p : ℕ) → IsPrefix (taken p) (crossed_in graph m p)
    begins p = go (sink_behind (links_in graph) (place_of p)) refl
      where
        go : (found : Option PadPlace) → sink_behind (links_in graph) (place_of p) ≡ found → IsPrefix (taken p) (crossed_in graph m p)
        go None at = rw at nothing
        go (Some sink) at =
            let t = taken_here sink (place_of p) (sinks_there (place_of p) sink at) (once.there (place_of p) sink at) in
            subst (λ (q : ℕ). IsPrefix (taken q) (crossed_in graph m q)) (sym (number_at p))
            (prefix_by (went_from taken (place_of p)) t.left (sym t.whole))

    inside : (source sink : PadPlace) → sink_behind (links_in graph) source ≡ Some sink → has has_inlets (made_in graph) sink.element ≡ false
        → went_from taken source ≡ went_from (crossed_in graph m) source
    inside source sink at none =
        let t = taken_here sink source (sinks_there source sink at) (once.there source sink at) in
        let left : t.left ≡ [] = feeds_none t.left (sym t.held ∙ none_at sink.pad (m.held sink.element) (inner sink.element none)) in
        sym (t.whole ∙ ap (λ (xs : List Item). went_from taken source ++ xs) left ∙ append-nil (went_from taken source))

    pub are_taken : AreTaken (made_in graph) (links_in graph) (crossed_in graph m) taken
    are_taken = record { begins = begins; inside = inside }
