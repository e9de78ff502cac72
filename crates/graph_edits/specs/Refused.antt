-- Why a source pad is not linked to a sink pad, by the graph as commands left it and by what crossed its pads.
use Rattle.std.specs.Prelude.{◌≡◌, ◌≢◌, ◌⊎◌, ◌||◌, ℕ, Bool, true, false, List, [], ◌∷◌, Option, None, Some, if◌then◌else◌, is_some}
use Rattle.flow_model.specs.Item.{Item}
use Rattle.flow_model.specs.Call.{items}
use Rattle.flow_model.specs.Link.{Span, Linked, WasLinked, Flushed, Given, span_calls}
use Rattle.pad_core.specs.Crossing.{has_ended}
use Rattle.el_settings.specs.Asked.{is_queue, is_source, makes_sinks}
use Rattle.graph_core.specs.Elements.{has}
use Rattle.graph_core.specs.GraphPlan.{owner_of}
use Rattle.graph_core.specs.Links.{HaveCommon, Leads, caps_at}
use Rattle.graph_pads.specs.Links.{sink_behind, source_before}
use Rattle.graph_pads.specs.declared.pad.PadPlace.{PadPlace}
use Rattle.graph_edits.specs.Edited.{Edited, spans_at}
use Rattle.graph_edits.specs.Plans.{items_at}
use Rattle.gst_item.specs.Item.{has_item}

-- ---- tasks

-- a task begins at a source, and at an element that lanes feed
abbrev pub has_lanes : Edited → ℕ → Bool
has_lanes g e = has is_queue g.made e || has makes_sinks g.made e

abbrev pub is_head : Edited → ℕ → Bool
is_head g e = has is_source g.made e || has_lanes g e

-- The head of the task that has an element, over links that stand and are no lanes; a loose element has none.
pub data HasHead (g : Edited) : ℕ → ℕ → Type 0 where
  itself : (e : ℕ) → is_head g e ≡ true → HasHead g e e
  behind : (source sink : PadPlace) (head : ℕ) → has_lanes g sink.element ≡ false → source_before g.links sink ≡ Some source → HasHead g source.element head → HasHead g sink.element head

abbrev pub IsLoose : Edited → ℕ → Type 0
IsLoose g e = (head : ℕ) → ¬ HasHead g e head

-- An element is reached from a sink pad without passing a lane.
pub data IsReached (g : Edited) : ℕ → ℕ → Type 0 where
  first : (e : ℕ) → has_lanes g e ≡ false → IsReached g e e
  next : (e : ℕ) (source sink : PadPlace) → IsReached g e source.element → sink_behind g.links source ≡ Some sink → has_lanes g sink.element ≡ false → IsReached g e sink.element

-- ---- feeders

abbrev pub source_of : Span → Option ℕ
source_of (Linked source from marks) = Some source
source_of (WasLinked source from to eos marks) = Some source
source_of (Flushed number) = None
source_of (Given calls) = None

abbrev pub first_of : Option ℕ → Option ℕ → Option ℕ
first_of None later = later
first_of (Some source) later = Some source

-- the source pad of the first link that gave an item, sticky events in force among them
abbrev pub giver_from : (ℕ → List Item) → Span → Option ℕ → Option ℕ
giver_from h span later = if has_item (items (span_calls h span)) then first_of (source_of span) later else later

abbrev pub first_giver : (ℕ → List Item) → List Span → Option ℕ
first_giver h [] = None
first_giver h (span ∷ spans) = giver_from h span (first_giver h spans)

-- The feeder of a head is itself, and that of another element is the feeder of the element that gave it something first.
pub data HasFeeder (g : Edited) (h : ℕ → List Item) : ℕ → ℕ → Type 0 where
  itself : (e : ℕ) → is_head g e ≡ true → HasFeeder g h e e
  given : (e giver feeder : ℕ) → is_head g e ≡ false → first_giver h (spans_at g (record { element = e; pad = 0 })) ≡ Some giver → HasFeeder g h (owner_of giver) feeder → HasFeeder g h e feeder

-- what feeds the task of an element: its head, or the feeder of the element itself where it is loose
abbrev pub FeedsTask : Edited → (ℕ → List Item) → ℕ → ℕ → Type 0
FeedsTask g h e feeder = HasHead g e feeder ⊎ (IsLoose g e × HasFeeder g h e feeder)

-- ---- refusals of a link from a source pad to a sink pad, in their order

-- the sink pad has had EOS since its last FLUSH_STOP
abbrev pub IsAfterEos : Edited → (ℕ → List Item) → PadPlace → Type 0
IsAfterEos g h sink = has_ended (items_at g h sink) ≡ true

abbrev pub IsTaken : Edited → PadPlace → Type 0
IsTaken g sink = is_some (source_before g.links sink) ≡ true

-- with the new link, elements would feed themselves by links that ever were made
abbrev pub Loops : Edited → PadPlace → PadPlace → Type 0
Loops g source sink = Leads g.ever sink.element source.element

-- an element that would come into the task of the source pad has had an item from another one
pub record IsFedElsewhere (g : Edited) (h : ℕ → List Item) (source sink : PadPlace) : Type 0 where
  pub own : ℕ
  pub feeds : FeedsTask g h source.element own
  pub element : ℕ
  pub reached : IsReached g sink.element element
  pub other : ℕ
  pub fed : HasFeeder g h element other
  pub differs : other ≢ own

-- no fixed caps are in both pads' static caps
abbrev pub LacksFormat : Edited → PadPlace → PadPlace → Type 0
LacksFormat g source sink = ¬ HaveCommon (caps_at g.made false source.element) (caps_at g.made true sink.element)
