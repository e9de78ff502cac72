-- What control keeps of what each element was given, and for which edited graph and histories it stands.
use Rattle.std.specs.Prelude.{◌≡◌, ◌||◌, ℕ, Bool, nat_lt, true, List, [], ◌∷◌, Option, None, Some, if◌then◌else◌, length, slice_get, take}
use Rattle.flow_model.specs.Item.{Item}
use Rattle.flow_model.specs.Link.{Span, Linked, WasLinked, Flushed, Given}
use Rattle.flow_model.specs.Sticky.{stickies}
use Rattle.gst_item.specs.Item.{has_item}
use Rattle.graph_core.specs.GraphPlan.{pad_id, sink_at}
use Rattle.graph_pads.specs.Links.{source_before}
use Rattle.graph_pads.specs.declared.pad.PadPlace.{PadPlace}
use Rattle.flow_model.specs.Standing.{links_from}
use Rattle.graph_edits.specs.Edited.{Edited, spans_at, without_element}
use Rattle.graph_edits.specs.Ended.{EndsOpen}
use Rattle.graph_edits.specs.Growing.{GrowsTo, IsKept, LinksStand}
use Rattle.graph_edits.specs.Refused.{first_giver, first_of}
use Rattle.edit_core.specs.declared.feeds.Feed.{Feed}
use Rattle.edit_core.specs.declared.feeds.Feeds.{Feeds}

-- the spans of a sink pad but for a link that stands
abbrev pub closed : List Span → List Span
closed [] = []
closed (Linked source from marks ∷ spans) = closed spans
closed (WasLinked source from to eos marks ∷ spans) = WasLinked source from to eos marks ∷ closed spans
closed (Flushed number ∷ spans) = Flushed number ∷ closed spans
closed (Given calls ∷ spans) = Given calls ∷ closed spans

-- a link that stands was made at this place, and whether it began with sticky events is this
abbrev pub IsBegun : (ℕ → List Item) → ℕ → Bool → List Span → Type 0
IsBegun h place opened [] = Unit {0}
IsBegun h place opened (Linked source from marks ∷ spans) = (place ≡ from) × (opened ≡ has_item (stickies (take from (h source)))) × IsBegun h place opened spans
IsBegun h place opened (WasLinked source from to eos marks ∷ spans) = IsBegun h place opened spans
IsBegun h place opened (Flushed number ∷ spans) = IsBegun h place opened spans
IsBegun h place opened (Given calls ∷ spans) = IsBegun h place opened spans

-- This is kept of a sink pad: the source pad of the first link that was undone and gave an item, and how the link that stands began.
pub record IsFeed (h : ℕ → List Item) (feed : Feed) (spans : List Span) : Type 0 where
  pub first : feed.first ≡ first_giver h (closed spans)
  pub begun : IsBegun h feed.from feed.opened spans

-- This is kept of the first sink pads of all elements.
pub record AreKept (feeds : List Feed) (g : Edited) (h : ℕ → List Item) : Type 0 where
  pub count : length feeds ≡ length g.made
  pub each : (e : ℕ) (feed : Feed) → slice_get feeds e ≡ Some feed → IsFeed h feed (spans_at g (sink_at e 0))

abbrev pub AreFeeds : Feeds → Edited → (ℕ → List Item) → Type 0
AreFeeds feeds = AreKept feeds.feeds.items

-- nothing was given
abbrev pub no_feed : Feed
no_feed = record { first = None; from = 0; opened = Bool.false }

-- the first giver where one more source pad may have given something behind those before
abbrev pub given_by : Option ℕ → ℕ → Bool → Option ℕ
given_by first pad gave = first_of first (if gave then Some pad else None)

-- the link that stands has given something, where so many items crossed its source pad
abbrev pub has_given : Feed → ℕ → Bool
has_given feed items = feed.opened || nat_lt feed.from items

-- The link of this source pad stands at this sink pad, and nowhere else.
pub record IsTheLink (g : Edited) (source sink : PadPlace) : Type 0 where
  pub there : links_from (pad_id source) (spans_at g sink) ≡ true
  pub only : (other : PadPlace) → links_from (pad_id source) (spans_at g other) ≡ true → other ≡ sink

-- What is kept stays so while more crosses, and when an element is taken away.
pub record FeedsStay : Type 0 where
  pub grows : (h owed h' owed' : ℕ → List Item) (g : Edited) (feeds : Feeds) → GrowsTo h owed h' owed' → IsKept h g → AreFeeds feeds g h → AreFeeds feeds g h'
  pub removed : (h : ℕ → List Item) (g : Edited) (feeds : Feeds) (e : ℕ) → AreFeeds feeds g h → AreFeeds feeds (without_element e g) h

-- The link of a source pad that the graph has is the one that stands.
abbrev pub TheLinkStands : Type 0
TheLinkStands = (h : ℕ → List Item) (g : Edited) (source sink : PadPlace) → IsKept h g → LinksStand g → EndsOpen h g → source_before g.links sink ≡ Some source → IsTheLink g source sink
