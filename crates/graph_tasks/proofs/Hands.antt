-- What the wired tasks of a graph are made of is there, where each element of the graph is at hand.
use Rattle.std.proofs.Common.{◌≡◌, ◌<◌, ℕ, true, false, List, Option, None, Some, length, refl, sym, ap, ◌∙◌, subst, arith}
use Rattle.std.specs.Prelude.{slice_get}
use Rattle.std.specs.Option.{option_map_or}
use Rattle.std.proofs.lemmas.Option.{slice_get_within}
use Rattle.lane_core.specs.Lane.{Lane}
use Rattle.lane_core.specs.declared.ends.Inlet as inlets
use Rattle.lane_core.specs.declared.ends.Outlet as outlets
use Rattle.flow_model.specs.declared.element.TaskElement as elements
use Rattle.flow_model.specs.declared.source.TaskSource as sources
use Rattle.el_settings.specs.Asked.{source_pads, is_source}
use Rattle.graph_core.specs.Elements.{Made, has}
use Rattle.graph_core.specs.Graph.{IsSound, made as made_in, links as links_in}
use Rattle.graph_core.specs.declared.graph.Graph.{Graph}
use Rattle.graph_core.specs.LinkedOnce.{AreOnce}
use Rattle.graph_parts.specs.Bags.{AreBags, IsBag, IsHead}
use Rattle.graph_parts.specs.Links.{source_count}
use Rattle.graph_parts.specs.declared.bag.Bag.{Bag}
use Rattle.graph_parts.specs.declared.bag.BagHead.{BagHead}
use Rattle.graph_parts.specs.declared.bag.BagHead.TheVariants as bags_heads
use Rattle.graph_parts.proofs.Apart.{bags_are_there}
use Rattle.graph_tasks.specs.Plan.{AreAt, AreAtHand, AreThere, ElementAt, ElementsAreThere, HeadAt, IsThere, SourceAt}
use Rattle.graph_tasks.specs.Wired.{AreWired, IsWiredHead}
use Rattle.graph_tasks.specs.declared.wired_task.WiredHead.{WiredHead}
use Rattle.graph_tasks.specs.declared.wired_task.WiredHead.TheVariants.{Source, Inlets}
use Rattle.graph_tasks.specs.declared.wired_task.WiredTask.{WiredTask}
use Rattle.graph_tasks.proofs.Bags.{among, no_source}
use Rattle.graph_tasks.proofs.BlamedFrames.{all_at}
use Rattle.gst_value.proofs.Places.{found_at as got_within}

module _ {S E : Type 0} (s : sources.Ghosts S) (e : elements.Ghosts E) (made : List Made) (ends : List (Option E)) (files : List (Option S)) (hand : AreAtHand s e made ends files) where
  element_at : (n ports : ℕ) → n < length made → has is_source made n ≡ false → ports ≡ source_count made n → ElementAt e ends n ports
  element_at n ports within none size = go (got_within made n within)
    where
      go : (m : Made) × (slice_get made n ≡ Some m) → ElementAt e ends n ports
      go found =
          let same : source_count made n ≡ source_pads found.0.settings = ap (λ (x : Option Made). option_map_or (λ (m : Made). source_pads m.settings) x 0) found.1 in
          subst (λ (k : ℕ). ElementAt e ends n k) (sym (size ∙ same))
          (hand.elements n found.0 found.1 (sym (ap (λ (x : Option Made). option_map_or (λ (m : Made). is_source m.settings) x false) found.1) ∙ none))

  source_at : (n : ℕ) → has is_source made n ≡ true → SourceAt s files n
  source_at n is = go (slice_get made n) refl is
    where
      go : (found : Option Made) → slice_get made n ≡ found → option_map_or (λ (m : Made). is_source m.settings) found false ≡ true → SourceAt s files n
      go None at is = absurd (cc)
      go (Some m) at is = hand.sources n m at is

module _ {S E I O L : Type 0} (s : sources.Ghosts S) (e : elements.Ghosts E) (i : inlets.Ghosts I L O) (o : outlets.Ghosts O L) (graph : Graph) (bags : List Bag) (ends : List (Option E)) (files : List (Option S))
    (tasks : List (WiredTask I O)) (table : List Lane) (sound : IsSound graph) (once : AreOnce (links_in graph)) (are : AreBags (made_in graph) (links_in graph) bags)
    (wired : AreWired i o (made_in graph) (links_in graph) bags tasks table) (hand : AreAtHand s e (made_in graph) ends files) where
  head_at : (bag : BagHead) (head : WiredHead I O) → IsHead (made_in graph) (links_in graph) bag → IsWiredHead i o (made_in graph) (links_in graph) bag head → HeadAt s files head
  head_at (bags_heads.Source cell) (Source number pad) is w = source_at s e (made_in graph) ends files hand number (subst (λ (n : ℕ). has is_source (made_in graph) n ≡ true) (sym w.0) is)
  head_at (bags_heads.Inlets n) (Inlets number hint rows) is w = tt
  head_at (bags_heads.Source cell) (Inlets number hint rows) is w = absurd w
  head_at (bags_heads.Inlets n) (Source number pad) is w = absurd w

  module _ (k : ℕ) (task : WiredTask I O) (at : slice_get tasks k ≡ Some task) (bag : Bag) (to : slice_get bags k ≡ Some bag) where
    parts_at : AreAt e ends task.parts.items
    parts_at j part here =
        let w = wired.each k bag task to at in
        let is = all_at (IsBag (made_in graph) (links_in graph)) bags are.are k bag to in
        let count = w.count in
        let within = slice_get_within task.parts.items j part here in
        let cell = got_within bag.elements.items j (omega (arith, within, count)) in
        let one = w.parts j cell.0 part cell.1 here in
        let there = bags_are_there (made_in graph) (links_in graph) bags sound.pads are k cell.0.element (record { bag = bag; is = to; among = among (made_in graph) (links_in graph) bag is j cell.0 cell.1 }) in
        subst (λ (n : ℕ). ElementAt e ends n (length part.pads.items)) (sym one.number)
        (element_at s e (made_in graph) ends files hand cell.0.element (length part.pads.items) there (no_source (made_in graph) (links_in graph) bag is sound.pads j cell.0 cell.1) one.all)

    is_there : IsThere s e ends files task
    is_there =
        let w = wired.each k bag task to at in
        let is = all_at (IsBag (made_in graph) (links_in graph)) bags are.are k bag to in
        record { closed = w.closed; parts = parts_at; head = head_at bag.head task.head is.head w.head }

  pub are_there : AreThere s e tasks ends files
  are_there = record {
    each = λ k task at.
        let w = slice_get_within tasks k task at in
        let count = wired.count in
        let b = got_within bags k (omega (arith, w, count)) in
        is_there k task at b.0 b.1;
    parts_once = wired.parts_once;
    sources_once = wired.sources_once;
  }

pub elements_are_there : {S E I O L : Type 0} (s : sources.Ghosts S) (e : elements.Ghosts E) (i : inlets.Ghosts I L O) (o : outlets.Ghosts O L) → ElementsAreThere s e i o
elements_are_there s e i o graph bags ends files tasks table sound once are wired hand = are_there s e i o graph bags ends files tasks table sound once are wired hand
