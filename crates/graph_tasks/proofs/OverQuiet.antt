-- Through the pads of an element that is not live nothing goes, and nothing stands in its inlets.
use Rattle.std.proofs.Common.{◌≡◌, ◌<◌, ℕ, zero, suc, Bool, true, false, if◌then◌else◌, List, [], ◌∷◌, ◌++◌, Option, None, Some, map, refl, sym, ap, ◌∙◌}
use Rattle.std.proofs.Common.{subst, inl, inr, arith}
use Rattle.std.specs.Prelude.{slice_get}
use Rattle.std.specs.List.{range_with_len}
use Rattle.std.specs.Option.{option_map_or}
use Rattle.std.proofs.lemmas.Bool.{false≢true}
use Rattle.flow_model.specs.Call.{Call}
use Rattle.flow_model.specs.Moment.{Moment, CellStands}
use Rattle.flow_model.specs.Opening.{no_calls}
use Rattle.flow_model.specs.Split.{AreEmpty, AreSplit, none, pad}
use Rattle.el_settings.specs.Asked.{is_source}
use Rattle.graph_order.specs.Links.{IsLink}
use Rattle.graph_core.specs.Elements.{Made, has}
use Rattle.graph_core.specs.Graph.{IsSound, is_live, made as made_in, links as links_in}
use Rattle.graph_core.specs.GraphPlan.{line_plan, pad_id, sink_at, sink_count, spans_from}
use Rattle.graph_core.specs.LinkedOnce.{AreOnce}
use Rattle.graph_core.specs.Links.{ways}
use Rattle.graph_pads.specs.Links.{is_same, source_before}
use Rattle.graph_core.specs.Live.{Live}
use Rattle.graph_core.specs.declared.graph.Graph.{Graph}
use Rattle.graph_pads.specs.declared.pad.PadLink.{PadLink}
use Rattle.graph_pads.specs.declared.pad.PadPlace.{PadPlace}
use Rattle.graph_core.proofs.NumberedPads.{same_element}
use Rattle.graph_parts.specs.MomentLaws.{given_by}
use Rattle.graph_parts.specs.Pads.{pad_owner}
use Rattle.graph_parts.specs.Plans.{moment_plan}
use Rattle.graph_parts.proofs.Rules.{sources_wait}
use Rattle.graph_parts.proofs.Sources.{linked_there}
use Rattle.graph_parts.proofs.Wholes.{pads_have_numbers, at_plan}
use Rattle.graph_tasks.proofs.EndedGraphs.{gives_none, rank, rank_rises}
use Rattle.gst_value.proofs.Basics.{some_same}
use Rattle.graph_tasks.proofs.EndedLoose.{inputs_none}
use Rattle.graph_tasks.proofs.Lists.{all_empty as empties}
use Rattle.gst_value.proofs.Basics.{false_of as not_so}

none_front : {A : Type 0} (xs ys : List A) → xs ++ ys ≡ [] → (xs ≡ []) × (ys ≡ [])
none_front [] ys e = (refl, e)
none_front (x ∷ xs) ys e = absurd (cc)

-- where nothing was given, nothing was taken and nothing is held
split_none : {ts hs ws : List (List Call)} → AreSplit ts hs ws → AreEmpty ws → (ts ≡ ws) × AreEmpty hs
split_none none n = (refl, tt)
split_none (pad {t = t} {h = h} {w = w} {ts = ts} e s) n =
    let both = none_front t h (sym e ∙ n.0) in
    let rest = split_none s n.1 in
    (ap (λ (cs : List Call). cs ∷ ts) (both.0 ∙ sym n.0) ∙ ap (λ (css : List (List Call)). w ∷ css) rest.0, (both.1, rest.1))

-- a link to a sink pad is a way from one element to the other
pub way_before : (links : List PadLink) (sink source : PadPlace) → source_before links sink ≡ Some source → IsLink source.element sink.element (ways links)
way_before [] sink source at = absurd (cc)
way_before (l ∷ ls) sink source at = go (is_same l.sink sink) refl at (way_before ls sink source)
  where
    go : (b : Bool) → is_same l.sink sink ≡ b → (if b then Some l.source else source_before ls sink) ≡ Some source
        → (source_before ls sink ≡ Some source → IsLink source.element sink.element (ways ls)) → IsLink source.element sink.element (ways (l ∷ ls))
    go true is at later = inl (ap (λ (p : PadPlace). p.element) (some_same at), same_element l.sink sink is)
    go false is at later = inr (later at)

module _ (graph : Graph) (sound : IsSound graph) where
  -- an element that is linked to one that is not live is not live
  dead_before : (sink source : PadPlace) → source_before (links_in graph) sink ≡ Some source → is_live graph sink.element ≡ false → is_live graph source.element ≡ false
  dead_before sink source at dead =
      not_so _ (λ alive. false≢true (sym dead ∙ sound.live.1 sink.element
      (Live.fed source.element sink.element (sound.live.0 source.element alive) (way_before (links_in graph) sink source at))))

  -- nor is it a source
  pub dead_gives : (n : ℕ) → is_live graph n ≡ false → has is_source (made_in graph) n ≡ false
  dead_gives n dead = go (slice_get (made_in graph) n) refl
    where
      go : (found : Option Made) → slice_get (made_in graph) n ≡ found → option_map_or (λ (m : Made). is_source m.settings) found false ≡ false
      go None at = refl
      go (Some m) at = not_so _ (λ source. false≢true (sym dead ∙ sound.live.1 n (Live.source n m at source)))

module _ (contents : ℕ → List ℕ) (graph : Graph) (m : Moment) (sound : IsSound graph) (once : AreOnce (links_in graph))
    (cells : (n : ℕ) → CellStands (at_plan m (moment_plan contents graph)) n) where
  -- nothing crossed the pads of elements that are not live and stand before this one
  abbrev QuietBefore : ℕ → Type 0
  QuietBefore e = (q : ℕ) → rank graph (pad_owner (made_in graph) q) < rank graph e → is_live graph (pad_owner (made_in graph) q) ≡ false → m.history q ≡ []

  dead_by : (e : ℕ) → is_live graph e ≡ false → QuietBefore e → (m.took e ≡ no_calls (moment_plan contents graph) e) × AreEmpty (m.held e)
  unfolding line_plan
  dead_by e dead earlier =
      let ks = range_with_len 0 (sink_count (slice_get (made_in graph) e)) in
      let before : (k : ℕ) (source : PadPlace) → source_before (links_in graph) (sink_at e k) ≡ Some source → m.history (pad_id source) ≡ []
      = λ k source at. let number = pads_have_numbers (made_in graph) source
      (linked_there (made_in graph) (links_in graph) sound.pads (sink_at e k) source at) in
      let rises = rank_rises graph sound source (sink_at e k) (once.back source (sink_at e k) at) in
      let same = ap (rank graph) number.owner in
      earlier (pad_id source) (omega (arith, rises, same))
      (subst (λ (n : ℕ). is_live graph n ≡ false) (sym number.owner) (dead_before graph sound (sink_at e k) source at dead))
      in let given = inputs_none m.history (links_in graph) e ks before
      in let split = split_none (cells e).input
      (subst AreEmpty (sym given) (empties (map (λ k. spans_from (source_before (links_in graph) (sink_at e k))) ks)))
      in (split.0 ∙ given, split.1)

  quiet_at : (p : ℕ) → is_live graph (pad_owner (made_in graph) p) ≡ false → QuietBefore (pad_owner (made_in graph) p) → m.history p ≡ []
  unfolding line_plan
  quiet_at p dead earlier =
      let e = pad_owner (made_in graph) p in
      let plan = moment_plan contents graph in
      let took : m.took e ≡ no_calls plan e = (dead_by e dead earlier).0
      in let given : given_by (slice_get (made_in graph) e) e (contents e) ≡ [] = gives_none (made_in graph) e (contents e) (dead_gives graph sound e dead)
      in let whole : plan.rule e (m.took e) (plan.port p) 0 ≡ m.history p ++ m.waits p = (cells e).pads p refl in
      (none_front (m.history p) (m.waits p) (sym whole ∙ ap (λ ts. plan.rule e ts (plan.port p) 0) took ∙ sources_wait contents graph p ∙ given)).0

  quiet_by : (n p : ℕ) → rank graph (pad_owner (made_in graph) p) < n → is_live graph (pad_owner (made_in graph) p) ≡ false → m.history p ≡ []
  quiet_by zero p w dead = absurd (omega (arith, w))
  quiet_by (suc n) p w dead = quiet_at p dead (λ q less other. quiet_by n q (omega (arith, w, less)) other)

  pub dead_quiet : (p : ℕ) → is_live graph (pad_owner (made_in graph) p) ≡ false → m.history p ≡ []
  dead_quiet p dead = quiet_by (suc (rank graph (pad_owner (made_in graph) p))) p (omega arith) dead

  pub dead_held : (e : ℕ) → is_live graph e ≡ false → AreEmpty (m.held e)
  dead_held e dead = (dead_by e dead (λ q less other. dead_quiet q other)).1
