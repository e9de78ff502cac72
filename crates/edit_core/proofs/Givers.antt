-- The first giver of an element, by what is kept of it and by the link that stands.
use Rattle.std.proofs.Common.{◌≡◌, ◌||◌, ℕ, List, Option, None, Some, length, sym, ap, ◌∙◌}
use Rattle.std.specs.Prelude.{is_some, nat_lt, slice_get}
use Rattle.flow_model.specs.Item.{Item}
use Rattle.graph_core.specs.GraphPlan.{pad_id, sink_at}
use Rattle.graph_pads.specs.Links.{source_before}
use Rattle.graph_pads.specs.declared.pad.PadPlace.{PadPlace}
use Rattle.graph_edits.specs.Edited.{Edited, spans_at}
use Rattle.graph_edits.specs.Growing.{IsKept, LinksStand}
use Rattle.graph_edits.specs.Refused.{first_giver}
use Rattle.graph_edits.proofs.LinksStanding.{links_stay_exact}
use Rattle.edit_core.specs.Feeds.{AreKept, given_by, has_given}
use Rattle.edit_core.specs.declared.feeds.Feed.{Feed}
use Rattle.edit_core.proofs.Spans.{free_closed, standing_giver}

module _ (feeds : List Feed) (g : Edited) (h : ℕ → List Item) (are : AreKept feeds g h) (kept : IsKept h g) (stand : LinksStand g) (e : ℕ) (feed : Feed) (at : slice_get feeds e ≡ Some feed) where
  pub giver_before : source_before g.links (sink_at e 0) ≡ None → feed.first ≡ first_giver h (spans_at g (sink_at e 0))
  giver_before none =
      (are.each e feed at).first ∙ ap (first_giver h) (free_closed (spans_at g (sink_at e 0)) ((links_stay_exact.exact h g kept stand (sink_at e 0)).linked ∙ ap is_some none))

  pub giver_now : (source : PadPlace) (items : ℕ) → source_before g.links (sink_at e 0) ≡ Some source → items ≡ length (h (pad_id source))
      → given_by feed.first (pad_id source) (has_given feed items) ≡ first_giver h (spans_at g (sink_at e 0))
  giver_now source items linked all =
      ap (λ (n : ℕ). given_by feed.first (pad_id source) (feed.opened || nat_lt feed.from n)) all
      ∙ ap (λ (o : Option ℕ). given_by o (pad_id source) (feed.opened || nat_lt feed.from (length (h (pad_id source))))) (are.each e feed at).first
      ∙ sym (standing_giver h (pad_id source) feed.from feed.opened (spans_at g (sink_at e 0)) (kept.within (sink_at e 0)) (are.each e feed at).begun (stand.stands source (sink_at e 0) linked))
