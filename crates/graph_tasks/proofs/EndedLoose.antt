-- Through the pads of an element that no head reaches nothing goes.
use Rattle.std.proofs.Common.{◌≡◌, ◌<◌, ℕ, zero, suc, Bool, true, false, if◌then◌else◌, List, [], ◌∷◌, ◌++◌, Option, None, Some, map, refl, sym, ap, ◌∙◌}
use Rattle.std.proofs.Common.{subst, arith}
use Rattle.std.specs.Prelude.{slice_get}
use Rattle.std.specs.List.{range_with_len}
use Rattle.flow_model.specs.Call.{feeds}
use Rattle.flow_model.specs.Eval.{Plan}
use Rattle.flow_model.specs.Item.{Item}
use Rattle.flow_model.specs.Link.{input_of}
use Rattle.flow_model.proofs.Links.{link_input}
use Rattle.lane_core.specs.Lane.{Lane}
use Rattle.lane_core.specs.declared.ends.Inlet as inlets
use Rattle.lane_core.specs.declared.ends.Outlet as outlets
use Rattle.flow_model.specs.Moment.{Moment, CellStands}
use Rattle.flow_model.specs.Opening.{no_calls}
use Rattle.flow_model.specs.Split.{AreEmpty}
use Rattle.flow_model.proofs.Splits.{split_all}
use Rattle.flow_model.specs.declared.element.TaskElement as elements
use Rattle.flow_model.specs.declared.source.TaskSource as sources
use Rattle.el_settings.specs.Asked.{is_source}
use Rattle.graph_core.specs.Graph.{IsSound, made as made_in, links as links_in}
use Rattle.graph_pads.specs.Links.{source_before}
use Rattle.graph_core.specs.declared.graph.Graph.{Graph}
use Rattle.graph_pads.specs.declared.pad.PadLink.{PadLink}
use Rattle.graph_pads.specs.declared.pad.PadPlace.{PadPlace}
use Rattle.graph_core.specs.LinkedOnce.{AreOnce}
use Rattle.graph_core.specs.GraphPlan.{line_plan, pad_id, sink_at, sink_count, spans_from, sink_at as place_at}
use Rattle.graph_core.proofs.NumberedPads.{owner_at}
use Rattle.graph_parts.specs.Pads.{is_pad, pad_owner}
use Rattle.graph_parts.specs.Plans.{moment_plan}
use Rattle.graph_parts.specs.MomentLaws.{given_by}
use Rattle.graph_parts.proofs.Rules.{sources_wait}
use Rattle.graph_parts.proofs.Sources.{few_there, linked_there, owner_is}
use Rattle.graph_parts.proofs.Wholes.{pads_have_numbers, at_plan}
use Rattle.graph_parts.specs.Bags.{AreBags, numbers}
use Rattle.graph_parts.specs.BagLaws.{StandsIn}
use Rattle.graph_parts.specs.Links.{is_head}
use Rattle.graph_parts.specs.declared.bag.Bag.{Bag}
use Rattle.graph_parts.proofs.Apart.{bags_are_closed, heads_have_bags}
use Rattle.flow_model.specs.Account.{IsMember}
use Rattle.net_task.specs.declared.task.Task.{Task}
use Rattle.graph_tasks.specs.Ended.{IsQuiet, LooseAreQuiet}
use Rattle.graph_tasks.specs.Owed.{came_to}
use Rattle.graph_tasks.specs.Runs.{RunsAt, crossed_in}
use Rattle.graph_tasks.proofs.EndedBags.{IsLoose, bag_is, fed_bag, head_among}
use Rattle.graph_tasks.proofs.EndedGraphs.{gives_none, inlets_head, rank, rank_rises, source_head}
use Rattle.gst_value.proofs.Basics.{false_of as not_so}
use Rattle.graph_core.specs.Elements.{has}

none_front : (xs ys : List Item) → xs ++ ys ≡ [] → xs ≡ []
none_front [] ys e = refl
none_front (x ∷ xs) ys e = absurd (cc)

-- through sink pads that are linked to pads that nothing crossed comes nothing
pub input_none : (h : ℕ → List Item) (found : Option PadPlace) → ((source : PadPlace) → found ≡ Some source → h (pad_id source) ≡ [])
    → input_of h (spans_from found) ≡ []
input_none h None none = refl
input_none h (Some source) none = link_input h (pad_id source) ∙ ap feeds (none source refl)

pub inputs_none : (h : ℕ → List Item) (links : List PadLink) (e : ℕ) (ks : List ℕ)
    → ((k : ℕ) (source : PadPlace) → source_before links (sink_at e k) ≡ Some source → h (pad_id source) ≡ [])
    → map (input_of h) (map (λ k. spans_from (source_before links (sink_at e k))) ks) ≡ map (λ spans. [])
    (map (λ k. spans_from (source_before links (sink_at e k))) ks)
inputs_none h links e [] none = refl
inputs_none h links e (k ∷ ks) none = rw (input_none h (source_before links (sink_at e k)) (none k), inputs_none h links e ks none) refl

module _ (contents : ℕ → List ℕ) (graph : Graph) (bags : List Bag) (m : Moment) (sound : IsSound graph) (once : AreOnce (links_in graph))
    (are : AreBags (made_in graph) (links_in graph) bags)
    (cells : (n : ℕ) → CellStands (at_plan m (moment_plan contents graph)) n) (empty : (n : ℕ) → IsLoose bags n → AreEmpty (m.held n)) where
  not_head : (n : ℕ) → IsLoose bags n → has is_head (made_in graph) n ≡ true → ⊥
  not_head n loose is =
      let b = heads_have_bags (made_in graph) (links_in graph) bags are n is in
      loose b.number
      (record {
        bag = b.bag;
        is = b.is;
        among = subst (λ (k : ℕ). IsMember k (numbers b.bag)) b.head
            (head_among (made_in graph) (links_in graph) b.bag (bag_is (made_in graph) (links_in graph) bags are b.number b.bag b.is));
      })

  -- what an element is linked to that no head reaches is no element that a head reaches
  source_loose : (source sink : PadPlace) → source_before (links_in graph) sink ≡ Some source → IsLoose bags sink.element → IsLoose bags source.element
  source_loose source sink at loose k stands =
      loose k
      (record {
        bag = stands.bag;
        is = stands.is;
        among =
            bags_are_closed (made_in graph) (links_in graph) stands.bag
            (bag_is (made_in graph) (links_in graph) bags are k stands.bag stands.is) source.element sink.element stands.among
            (record {
              pad = source.pad;
              there = linked_there (made_in graph) (links_in graph) sound.pads sink source at;
              sink = sink;
              linked = once.back source sink at;
              element = refl;
              inner = not_so _ (λ is. not_head sink.element loose (inlets_head (made_in graph) sink.element is));
            });
      })

  -- such an element took nothing, where nothing crossed pads of those that stand earlier
  took_by : (e : ℕ) → IsLoose bags e → ((q : ℕ) → rank graph (pad_owner (made_in graph) q) < rank graph e → IsLoose bags (pad_owner (made_in graph) q) → m.history q ≡ [])
      → m.took e ≡ no_calls (moment_plan contents graph) e
  unfolding line_plan
  took_by e loose earlier =
      let before : (k : ℕ) (source : PadPlace) → source_before (links_in graph) (sink_at e k) ≡ Some source → m.history (pad_id source) ≡ []
      = λ k source at. let number = pads_have_numbers (made_in graph) source
      (linked_there (made_in graph) (links_in graph) sound.pads (sink_at e k) source at) in
      let rises = rank_rises graph sound source (sink_at e k) (once.back source (sink_at e k) at) in
      let same = ap (rank graph) number.owner in
      earlier (pad_id source) (omega (arith, rises, same)) (subst (IsLoose bags) (sym number.owner) (source_loose source (sink_at e k) at loose))
      in split_all (empty e loose) (cells e).input ∙ inputs_none m.history (links_in graph) e (range_with_len 0 (sink_count (slice_get (made_in graph) e))) before

  -- nothing crossed a pad of such an element, where that is so of those that stand earlier
  quiet_at : (p : ℕ) → IsLoose bags (pad_owner (made_in graph) p)
      → ((q : ℕ) → rank graph (pad_owner (made_in graph) q) < rank graph (pad_owner (made_in graph) p) → IsLoose bags (pad_owner (made_in graph) q)
      → m.history q ≡ [])
      → m.history p ≡ []
  unfolding line_plan
  quiet_at p loose earlier =
      let e = pad_owner (made_in graph) p in
      let plan = moment_plan contents graph in
      let took : m.took e ≡ no_calls plan e = took_by e loose earlier
      in let given : given_by (slice_get (made_in graph) e) e (contents e) ≡ []
      = gives_none (made_in graph) e (contents e) (not_so _ (λ is. not_head e loose (source_head (made_in graph) e is)))
      in let whole : plan.rule e (m.took e) (plan.port p) 0 ≡ m.history p ++ m.waits p = (cells e).pads p refl in
      none_front (m.history p) (m.waits p) (sym whole ∙ ap (λ ts. plan.rule e ts (plan.port p) 0) took ∙ sources_wait contents graph p ∙ given)

  quiet_by : (n p : ℕ) → rank graph (pad_owner (made_in graph) p) < n → IsLoose bags (pad_owner (made_in graph) p) → m.history p ≡ []
  quiet_by zero p w loose = absurd (omega (arith, w))
  quiet_by (suc n) p w loose = quiet_at p loose (λ q less other. quiet_by n q (omega (arith, w, less)) other)

  pub quiet_pad : (p : ℕ) → IsLoose bags (pad_owner (made_in graph) p) → m.history p ≡ []
  quiet_pad p loose = quiet_by (suc (rank graph (pad_owner (made_in graph) p))) p (omega arith) loose

  crossed_none : (place : PadPlace) → place.pad < 64 → IsLoose bags place.element → crossed_in graph m (pad_id place) ≡ []
  crossed_none place few loose = go (is_pad (made_in graph) (pad_id place)) refl
    where
      go : (b : Bool) → is_pad (made_in graph) (pad_id place) ≡ b → (if b then m.history (pad_id place) else []) ≡ []
      go true pad = quiet_pad (pad_id place) (subst (IsLoose bags) (sym (owner_is (made_in graph) (pad_id place) pad ∙ owner_at place few)) loose)
      go false none = refl

  -- and it took nothing
  pub took_none : (e : ℕ) → IsLoose bags e → m.took e ≡ no_calls (moment_plan contents graph) e
  took_none e loose = took_by e loose (λ q less other. quiet_pad q other)

  pub quiet : (n : ℕ) → IsLoose bags n → IsQuiet graph m n
  quiet n loose = record {
    came = λ pad. go pad (source_before (links_in graph) (place_at n pad)) refl;
    went = λ pad there. crossed_none (place_at n pad) (few_there (made_in graph) (place_at n pad) there) loose;
  }
    where
      go : (pad : ℕ) (found : Option PadPlace) → source_before (links_in graph) (place_at n pad) ≡ found → came_to (links_in graph) (crossed_in graph m) (place_at n pad) ≡ []
      go pad None at = rw at refl
      go pad (Some source) at = rw at
          (crossed_none source (few_there (made_in graph) source (linked_there (made_in graph) (links_in graph) sound.pads (place_at n pad) source at))
          (source_loose source (place_at n pad) at loose))

module _ {S E I O L : Type 0} {s : sources.Ghosts S} {e : elements.Ghosts E} {i : inlets.Ghosts I L O} {o : outlets.Ghosts O L}
    (contents : ℕ → List ℕ) (graph : Graph) (bags : List Bag) (m : Moment) (tasks : List (Task S E I O L s e i o)) (tells : Option (List Lane))
    (at : RunsAt contents graph bags m tasks tells) where
  pub cells_at : (n : ℕ) → CellStands (at_plan m (moment_plan contents graph)) n
  cells_at n = subst (λ (plan : Plan). CellStands (at_plan m plan) n) at.plan (at.net.cells n)

  pub held_none : (n : ℕ) → IsLoose bags n → AreEmpty (m.held n)
  held_none n loose = at.net.others n
      (λ k head fed same. loose k (subst (λ (d : ℕ). StandsIn bags k d) same
      (fed_bag (made_in graph) (links_in graph) bags tasks at.have at.bags_are.are k head fed)))

  pub loose_quiet : (p : ℕ) → IsLoose bags (pad_owner (made_in graph) p) → m.history p ≡ []
  loose_quiet p loose = quiet_pad contents graph bags m at.sound at.once at.bags_are.are cells_at held_none p loose

  pub loose_took : (n : ℕ) → IsLoose bags n → m.took n ≡ no_calls (moment_plan contents graph) n
  loose_took n loose = took_none contents graph bags m at.sound at.once at.bags_are.are cells_at held_none n loose

  -- an element that no head reaches is no source
  pub loose_gives : (n : ℕ) → IsLoose bags n → has is_source (made_in graph) n ≡ false
  loose_gives n loose =
      not_so _ (λ is. not_head contents graph bags m at.sound at.once at.bags_are.are cells_at held_none n loose (source_head (made_in graph) n is))

pub loose_are_quiet : {S E I O L : Type 0} (s : sources.Ghosts S) (e : elements.Ghosts E) (i : inlets.Ghosts I L O) (o : outlets.Ghosts O L)
    → LooseAreQuiet s e i o
loose_are_quiet s e i o contents graph bags m tasks tells at n there loose =
    quiet contents graph bags m at.sound at.once at.bags_are.are (cells_at contents graph bags m tasks tells at)
    (held_none contents graph bags m tasks tells at) n loose
