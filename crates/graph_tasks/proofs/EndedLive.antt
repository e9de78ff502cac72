-- Each sink pad of a live element is linked to a live element, and a live element stands in a bag.
use Rattle.std.proofs.Common.{◌≡◌, ◌<◌, ◌⊎◌, ◌||◌, ℕ, Bool, true, false, List, [], ◌∷◌, ◌++◌, Option, None, Some, Result, Ok, IfOk, refl, sym, ap, ◌∙◌}
use Rattle.std.proofs.Common.{subst, inl, inr, arith, if◌then◌else◌}
use Rattle.std.specs.Prelude.{is_some, slice_get}
use Rattle.std.specs.Option.{option_map_or}
use Rattle.std.proofs.lemmas.Bool.{eq-eqb}
use Rattle.el_settings.specs.Asked.{is_source, sink_pads}
use Rattle.flow_model.specs.Account.{IsMember}
use Rattle.graph_order.specs.Links.{IsLink}
use Rattle.graph_core.specs.Allowed.{checked}
use Rattle.graph_core.specs.Asked.{End, asked}
use Rattle.graph_core.specs.Comes.{Comes}
use Rattle.graph_core.specs.Elements.{Made, has}
use Rattle.graph_core.specs.Graph.{IsGraph, IsSound, made as made_in, links as links_in}
use Rattle.graph_core.specs.Links.{HasPads, IsLinked, LinksCome, ways}
use Rattle.graph_pads.specs.Links.{is_same, sink_behind, source_before}
use Rattle.graph_core.specs.Live.{Live}
use Rattle.graph_core.specs.declared.fault.BuildFault.{BuildFault}
use Rattle.graph_core.specs.declared.graph.Graph.{Graph}
use Rattle.graph_pads.specs.declared.pad.PadLink.{PadLink}
use Rattle.graph_pads.specs.declared.pad.PadPlace.{PadPlace}
use Rattle.graph_core.specs.LinkedOnce.{AreOnce}
use Rattle.launch_text.specs.declared.tree.Tree.{Tree}
use Rattle.graph_core.specs.GraphPlan.{IsIn, sink_at, sink_count}
use Rattle.graph_core.proofs.Orders.{pads_at_link}
use Rattle.graph_parts.proofs.Sources.{linked_there, sinks_are}
use Rattle.graph_parts.specs.Bags.{AreBags, numbers}
use Rattle.graph_parts.specs.BagLaws.{StandsIn}
use Rattle.graph_parts.specs.Links.{has_inlets, is_head, LeadsInside}
use Rattle.graph_parts.specs.declared.bag.Bag.{Bag}
use Rattle.graph_parts.proofs.Apart.{bags_are_closed, heads_have_bags}
use Rattle.graph_tasks.proofs.EndedBags.{bag_is, head_among}
use Rattle.graph_tasks.proofs.EndedGraphs.{inlets_head, source_head}
use Rattle.gst_value.proofs.Basics.{some_same}

-- what is found among some links is found among one more
behind_old : (links : List PadLink) (more : PadLink) (pad found : PadPlace) → sink_behind links pad ≡ Some found
    → sink_behind (links ++ more ∷ []) pad ≡ Some found
behind_old [] more pad found h = absurd (cc)
behind_old (link ∷ links) more pad found h = by (is_same link.source pad) h (λ t. behind_old links more pad found t)
  where
    by : (b : Bool) → (if b then Some link.sink else sink_behind links pad) ≡ Some found
        → (sink_behind links pad ≡ Some found → sink_behind (links ++ more ∷ []) pad ≡ Some found)
        → (if b then Some link.sink else sink_behind (links ++ more ∷ []) pad) ≡ Some found
    by true t rest = t
    by false t rest = rest t

-- and the new link is found by its source pad, where that was not linked before
behind_new : (links : List PadLink) (more : PadLink) → sink_behind links more.source ≡ None → sink_behind (links ++ more ∷ []) more.source ≡ Some more.sink
behind_new [] more none = rw (eq-eqb more.source.element more.source.element refl, eq-eqb more.source.pad more.source.pad refl) refl
behind_new (link ∷ links) more none = by (is_same link.source more.source) none (λ t. behind_new links more t)
  where
    by : (b : Bool) → (if b then Some link.sink else sink_behind links more.source) ≡ None
        → (sink_behind links more.source ≡ None → sink_behind (links ++ more ∷ []) more.source ≡ Some more.sink)
        → (if b then Some link.sink else sink_behind (links ++ more ∷ []) more.source) ≡ Some more.sink
    by true t rest = absurd (cc)
    by false t rest = rest t

in_more : (links : List PadLink) (more link : PadLink) → IsIn link (links ++ more ∷ []) → IsIn link links ⊎ (link ≡ more)
in_more [] more link (inl same) = inr same
in_more [] more link (inr none) = absurd none
in_more (l ∷ ls) more link (inl same) = inl (inl same)
in_more (l ∷ ls) more link (inr is) = by (in_more ls more link is)
  where
    by : IsIn link ls ⊎ (link ≡ more) → IsIn link (l ∷ ls) ⊎ (link ≡ more)
    by (inl old) = inl (inr old)
    by (inr same) = inr same

-- the source pad of each link leads to its sink pad
AllLead : List PadLink → Type 0
AllLead links = (link : PadLink) → IsIn link links → sink_behind links link.source ≡ Some link.sink

not_linked : (one other : Option PadPlace) → (is_some one || is_some other) ≡ false → one ≡ None
not_linked None other h = refl
not_linked (Some p) other h = absurd (cc)

lead_more : (made : List Made) (links : List PadLink) (ends : End × End) (more : PadLink) → IsLinked made links ends more → AllLead links
    → AllLead (links ++ more ∷ [])
unfolding AllLead
lead_more made links ends more linked lead link is = by (in_more links more link is)
  where
    was_free : sink_behind links more.source ≡ None
    was_free =
        subst (λ (p : PadPlace). sink_behind links p ≡ None) (sym linked.joined.source)
        (not_linked (sink_behind links linked.left.place) (source_before links linked.right.place) linked.joined.judged.1)

    by : IsIn link links ⊎ (link ≡ more) → sink_behind (links ++ more ∷ []) link.source ≡ Some link.sink
    by (inl old) = behind_old links more link.source link.sink (lead link old)
    by (inr same) = subst (λ (l : PadLink). sink_behind (links ++ more ∷ []) l.source ≡ Some l.sink) (sym same) (behind_new links more was_free)

lead_come : (made : List Made) (links : List PadLink) (ends : List (End × End)) (answer : Result (List PadLink) BuildFault) → LinksCome made links ends answer
    → AllLead links
    → IfOk answer AllLead
lead_come made links ends answer (Comes.all ls) lead = lead
lead_come made links ends answer (Comes.more ls e l rest a makes comes) lead = lead_come made (ls ++ l ∷ []) rest a comes (lead_more made ls e l makes lead)
lead_come made links ends answer (Comes.stop ls e rest fault why) lead = tt

none_lead : AllLead []
unfolding AllLead
none_lead link none = absurd none

-- the link of a way from one element to another
link_between : (links : List PadLink) (a b : ℕ) → IsLink a b (ways links)
    → (link : PadLink) × IsIn link links × (link.source.element ≡ a) × (link.sink.element ≡ b)
link_between [] a b is = absurd is
link_between (l ∷ ls) a b (inl here) = (l, inl refl, here.0, here.1)
link_between (l ∷ ls) a b (inr is) = let found = link_between ls a b is in (found.0, inr found.1, found.2, found.3)

module _ (tree : Tree) (graph : Graph) (is : IsGraph tree graph) (sound : IsSound graph) (once : AreOnce (links_in graph)) where
  -- the link between two elements
  pub record IsBetween (a b : ℕ) : Type 0 where
    pub source : PadPlace
    pub sink : PadPlace
    pub linked : sink_behind (links_in graph) source ≡ Some sink
    pub there : sink.pad < option_map_or (λ (m : Made). sink_pads m.settings) (slice_get (made_in graph) sink.element) 0
    pub from : source.element ≡ a
    pub to : sink.element ≡ b

  pub between : (a b : ℕ) → IsLink a b (ways (links_in graph)) → IsBetween a b
  unfolding AllLead
  between a b link =
      let found = link_between (links_in graph) a b link in
      let pads : HasPads (made_in graph) found.0 = pads_at_link (made_in graph) (links_in graph) sound.pads found.0 found.1 in
      let leads = lead_come (checked (made_in graph)) [] (asked tree) (Ok (links_in graph)) is.links none_lead found.0 found.1 in
      record { source = found.0.source; sink = found.0.sink; linked = leads; there = pads.1; from = found.2; to = found.3 }

  -- what a sink pad of a live element is linked to
  pub record IsLinkedLive (e k : ℕ) : Type 0 where
    pub source : PadPlace
    pub at : source_before (links_in graph) (sink_at e k) ≡ Some source
    pub live : Live (made_in graph) (links_in graph) source.element

  -- a live element that is no source has a sink pad
  pub live_sinks : (n : ℕ) → Live (made_in graph) (links_in graph) n → (m : Made) → slice_get (made_in graph) n ≡ Some m → is_source m.settings ≡ false
      → 0 < sink_count (slice_get (made_in graph) n)
  live_sinks n (Live.source x one at source) m here other = absurd (both (sym source ∙ ap (λ (found : Made). is_source found.settings) same ∙ other))
    where
      same : one ≡ m
      same = some_same (sym at ∙ here)

      both : true ≡ false → ⊥
      both e = cc
  live_sinks n (Live.fed a b live link) m here other =
      let l = between a b link in
      let there = subst (λ (d : ℕ). l.sink.pad < option_map_or (λ (one : Made). sink_pads one.settings) (slice_get (made_in graph) d) 0) l.to l.there in
      let same = sinks_are (slice_get (made_in graph) b) in
      omega (arith, there, same)

  -- it stands in a bag
  pub in_bag : (bags : List Bag) → AreBags (made_in graph) (links_in graph) bags → (e : ℕ) → Live (made_in graph) (links_in graph) e
      → (k : ℕ) × StandsIn bags k e
  in_bag bags are e live = go e live
    where
      by_head : (e : ℕ) → has is_head (made_in graph) e ≡ true → (k : ℕ) × StandsIn bags k e
      by_head e is =
          let b = heads_have_bags (made_in graph) (links_in graph) bags are e is in (
            b.number,
            record {
              bag = b.bag;
              is = b.is;
              among = subst (λ (k : ℕ). IsMember k (numbers b.bag)) b.head
                  (head_among (made_in graph) (links_in graph) b.bag (bag_is (made_in graph) (links_in graph) bags are b.number b.bag b.is));
            },
          )

      source_is : (e : ℕ) (m : Made) → slice_get (made_in graph) e ≡ Some m → is_source m.settings ≡ true → has is_source (made_in graph) e ≡ true
      source_is e m at source = rw at source

      behind : (a b : ℕ) → IsBetween a b → (k : ℕ) × StandsIn bags k a → (d : Bool) → has has_inlets (made_in graph) b ≡ d → (k : ℕ) × StandsIn bags k b
      behind a b l t true queue = by_head b (inlets_head (made_in graph) b queue)
      behind a b l t false inner = (
        t.0,
        record {
          bag = t.1.bag;
          is = t.1.is;
          among =
              bags_are_closed (made_in graph) (links_in graph) t.1.bag (bag_is (made_in graph) (links_in graph) bags are t.0 t.1.bag t.1.is) a b t.1.among
              (subst (λ (n : ℕ). LeadsInside (made_in graph) (links_in graph) n b) l.from
              (record {
                pad = l.source.pad;
                there = linked_there (made_in graph) (links_in graph) sound.pads l.sink l.source (once.there l.source l.sink l.linked);
                sink = l.sink;
                linked = l.linked;
                element = l.to;
                inner = inner;
              }));
        },
      )

      go : (e : ℕ) → Live (made_in graph) (links_in graph) e → (k : ℕ) × StandsIn bags k e
      go e (Live.source x m at source) = by_head x (source_head (made_in graph) x (source_is x m at source))
      go e (Live.fed a b live link) = behind a b (between a b link) (go a live) (has has_inlets (made_in graph) b) refl
