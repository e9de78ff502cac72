-- What control keeps of the elements, once the link of a source pad was undone and another was made.
use Rattle.std.proofs.Common.{◌≡◌, ℕ, Bool, true, false, List, Option, None, Some, length, take, refl, sym, ap, ◌∙◌, subst, arith}
use Rattle.std.proofs.lemmas.List.{take_all}
use Rattle.flow_model.specs.Item.{Item}
use Rattle.flow_model.specs.Link.{Span}
use Rattle.gst_item.specs.Item.{has_item}
use Rattle.gst_item.specs.Sticky.{stickies}
use Rattle.graph_core.specs.GraphPlan.{pad_id, sink_at}
use Rattle.graph_pads.specs.Links.{sink_behind}
use Rattle.graph_pads.specs.declared.pad.PadPlace.{PadPlace}
use Rattle.flow_model.specs.Standing.{links_from}
use Rattle.graph_edits.specs.Edited.{Edited, spans_at, unlinked_at}
use Rattle.graph_edits.proofs.Keeping.{undone_at}
use Rattle.graph_edits.proofs.LinksStanding.{links_stay_exact}
use Rattle.edit_core.specs.Feeds.{AreFeeds, IsFeed, IsTheLink}
use Rattle.edit_core.specs.declared.feeds.Feeds.{Feeds}
use Rattle.edit_core.proofs.Spans.{undone_none}
use Rattle.edit_core.proofs.Standing.{found_back, the_link}
use Rattle.edit_acts.specs.Relinked.{IsToKeep}

some_or_none : (sink : PadPlace) (found : Option PadPlace) → found ≡ Some sink → found ≡ None → ⊥
some_or_none sink found is none = let clash = sym is ∙ none in cc

module _ (g : Edited) (h : ℕ → List Item) (source sink : PadPlace) (before : Option PadPlace) (pad items : ℕ) (opened : Bool) (w : IsToKeep g h source sink before pad items opened) where
  -- a pad that is linked nowhere has no link that stands
  nowhere : sink_behind g.links source ≡ None → (other : PadPlace) → links_from (pad_id source) (spans_at g other) ≡ false
  nowhere none other = by (links_from (pad_id source) (spans_at g other)) refl
    where
      by : (is : Bool) → links_from (pad_id source) (spans_at g other) ≡ is → links_from (pad_id source) (spans_at g other) ≡ false
      by false is = is
      by true is = absurd (some_or_none other (sink_behind g.links source) (w.ends.back source other ((links_stay_exact.exact h g w.kept w.stand other).back source w.few is)) none)

  -- nothing is undone there
  pub nowhere_kept : (feeds : Feeds) → before ≡ None → AreFeeds feeds g h → AreFeeds feeds (unlinked_at source items false g) h
  nowhere_kept feeds none are = record {
    count = are.count;
    each = λ e feed at. subst (λ (ss : List Span). IsFeed h feed ss)
        (sym (undone_at (pad_id source) items false (g.spans e) 0 ∙ undone_none (pad_id source) items false (spans_at g (sink_at e 0)) (nowhere (sym w.was ∙ none) (sink_at e 0))))
        (are.each e feed at);
  }

  pub undone_link : (was : PadPlace) → before ≡ Some was → IsTheLink g source was
  undone_link was is = the_link h g source was w.kept w.stand w.ends (found_back g w.stand source was (sym w.was ∙ is))

  -- all that crossed the pad is what crossed it by then
  pub opens_then : opened ≡ has_item (stickies (take items (h (pad_id source))))
  opens_then =
      let same : h pad ≡ h (pad_id source) = ap h w.number in
      let all : items ≡ length (h (pad_id source)) = w.all ∙ ap length same in
      w.opens ∙ ap (λ list. has_item (stickies list)) (same ∙ sym (take_all items (h (pad_id source)) (omega (arith, all))))
