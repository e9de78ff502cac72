-- What a report says of commands stays lawful while more crosses the pads: control answers in the middle of a run, and its report is
-- judged by the histories in the end.
use Rattle.std.specs.Prelude.{◌≡◌, ◌≤◌, ◌<◌, ℕ, true, false, All, List, [], ◌∷◌, ◌++◌, Option, None, Some, drop, is_some, length, slice_get}
use Rattle.flow_model.specs.Item.{Item}
use Rattle.flow_model.specs.Link.{Span, Linked, WasLinked, Flushed, Given}
use Rattle.flow_model.specs.Prefix.{IsPrefix}
use Rattle.flow_model.specs.Sticky.{has_flush_stop}
use Rattle.graph_core.specs.Elements.{Made}
use Rattle.graph_core.specs.GraphPlan.{most_pads, pad_id, sink_count}
use Rattle.graph_core.specs.LinkedOnce.{AreOnce}
use Rattle.graph_core.specs.Links.{HasPads}
use Rattle.graph_pads.specs.Links.{source_before}
use Rattle.graph_pads.specs.declared.pad.PadLink.{PadLink}
use Rattle.graph_pads.specs.declared.pad.PadPlace.{PadPlace}
use Rattle.flow_model.specs.Standing.{AllStanding, is_linked, links_from}
use Rattle.pad_core.specs.Crossing.{has_ended}
use Rattle.script_text.specs.declared.answer.Answer.{Answer}
use Rattle.script_text.specs.declared.answer.Entry.{Entry}
use Rattle.script_text.specs.declared.answer.Place.{Place}
use Rattle.script_text.specs.declared.command.Command.{Command}
use Rattle.graph_edits.specs.Edited.{Edited, spans_at, unedited}
use Rattle.graph_edits.specs.Lawful.{AreAnswered, IsAnswered, NeverFall, places_of}

-- ---- growth

-- More crosses each source pad, and more is owed to it. Behind EOS nothing crosses, and nothing is flushed.
pub record GrowsTo (h owed h' owed' : ℕ → List Item) : Type 0 where
  pub crossed : (p : ℕ) → IsPrefix (h p) (h' p)
  pub due : (p : ℕ) → IsPrefix (owed p) (owed' p)
  pub over : (p : ℕ) → has_ended (h p) ≡ true → h' p ≡ h p
  pub unflushed : (p : ℕ) → has_flush_stop (h' p) ≡ false

-- ---- what holds of an edited graph at each moment

-- No place of a span is past the history of its source pad, and only the last span may be a link that stands. Spans that stand
-- (`Standing`) are so. A link may be undone at a place before its own here: that places never fall is said of a whole report.
abbrev pub AreWithin : (ℕ → List Item) → List Span → Type 0
AreWithin h [] = Unit {0}
AreWithin h (Linked source from marks ∷ ss) = (from ≤ length (h source)) × (ss ≡ [])
AreWithin h (WasLinked source from to eos marks ∷ ss) = (from ≤ length (h source)) × (to ≤ length (h source)) × AreWithin h ss
AreWithin h (Flushed number ∷ ss) = AreWithin h ss
AreWithin h (Given calls ∷ ss) = AreWithin h ss

-- if a link stands among spans, it is that of this source pad
abbrev pub StandsOnlyFrom : Option PadPlace → List Span → Type 0
StandsOnlyFrom None spans = is_linked spans ≡ false
StandsOnlyFrom (Some source) spans = links_from (pad_id source) spans ≡ is_linked spans

-- The spans of each sink pad are within the histories, and no link stands among them but that of the graph.
pub record IsKept (h : ℕ → List Item) (g : Edited) : Type 0 where
  pub within : (sink : PadPlace) → AreWithin h (spans_at g sink)
  pub linked : (sink : PadPlace) → StandsOnlyFrom (source_before g.links sink) (spans_at g sink)

-- ---- which links stand

-- each sink pad is linked once at the most, and by a source pad that an element can have
abbrev pub AreSingle : List PadLink → Type 0
AreSingle [] = Unit {0}
AreSingle (link ∷ links) = (link.source.pad < most_pads) × (source_before links link.sink ≡ None) × AreSingle links

-- Each link of the graph stands among the spans of its sink pad; and each element has spans for all its sink pads.
pub record LinksStand (g : Edited) : Type 0 where
  pub counted : (e : ℕ) → length (g.spans e) ≡ sink_count (slice_get g.made e)
  pub single : AreSingle g.links
  pub stands : (source sink : PadPlace) → source_before g.links sink ≡ Some source → links_from (pad_id source) (spans_at g sink) ≡ true

-- a sink pad has a link that stands exactly where the graph has one, and from just that source pad
pub record AreExact (g : Edited) (sink : PadPlace) : Type 0 where
  pub linked : is_linked (spans_at g sink) ≡ is_some (source_before g.links sink)
  pub there : (source : PadPlace) → source_before g.links sink ≡ Some source → links_from (pad_id source) (spans_at g sink) ≡ true
  pub back : (source : PadPlace) → source.pad < most_pads → links_from (pad_id source) (spans_at g sink) ≡ true → source_before g.links sink ≡ Some source

-- ---- laws

-- Growth of growth is growth.
pub record GrowthJoins : Type 0 where
  pub none : (h owed : ℕ → List Item) → ((p : ℕ) → has_flush_stop (h p) ≡ false) → GrowsTo h owed h owed
  pub both : (h owed h' owed' last due : ℕ → List Item) → GrowsTo h owed h' owed' → GrowsTo h' owed' last due → GrowsTo h owed last due

-- It is so from the start, whatever the links are; it stays so while more crosses, and behind each answer.
pub record StaysKept : Type 0 where
  pub begins : (h : ℕ → List Item) (made : List Made) (links : List PadLink) → IsKept h (unedited made links)
  pub grows : (h owed h' owed' : ℕ → List Item) (g : Edited) → GrowsTo h owed h' owed' → IsKept h g → IsKept h' g
  pub answered : (h owed : ℕ → List Item) (g after : Edited) (c : Command) (a : Answer) → IsAnswered g h owed c a after → IsKept h g → IsKept h after
  pub reported : (h owed : ℕ → List Item) (g last : Edited) (script : List Command) (entries : List Entry) → AreAnswered h owed g script entries last → IsKept h g → IsKept h last
  -- spans that stand are within
  pub standing : (h : ℕ → List Item) (g : Edited) → ((e : ℕ) → AllStanding h (g.spans e)) → (sink : PadPlace) → AreWithin h (spans_at g sink)

-- Where pads are linked once, and are those of their elements, each link stands; and so it stays behind each answer.
pub record LinksStayExact : Type 0 where
  pub begins : (made : List Made) (links : List PadLink) → All (HasPads made) links → AreOnce links → LinksStand (unedited made links)
  pub answered : (h owed : ℕ → List Item) (g after : Edited) (c : Command) (a : Answer) → IsAnswered g h owed c a after → LinksStand g → LinksStand after
  pub reported : (h owed : ℕ → List Item) (g last : Edited) (script : List Command) (entries : List Entry) → AreAnswered h owed g script entries last → LinksStand g → LinksStand last
  pub exact : (h : ℕ → List Item) (g : Edited) → IsKept h g → LinksStand g → (sink : PadPlace) → AreExact g sink

-- What was answered lawfully at a moment is lawful at each later one.
pub record StaysLawful : Type 0 where
  pub answer : (h owed h' owed' : ℕ → List Item) (g after : Edited) (c : Command) (a : Answer)
      → IsKept h g → GrowsTo h owed h' owed' → IsAnswered g h owed c a after → IsAnswered g h' owed' c a after
  pub entries : (h owed h' owed' : ℕ → List Item) (g last : Edited) (script : List Command) (entries : List Entry)
      → IsKept h g → GrowsTo h owed h' owed' → AreAnswered h owed g script entries last → AreAnswered h' owed' g script entries last

-- ---- one entry more

-- no place of an entry is below one that earlier entries have of its pad
abbrev pub FallsNowhere : List Entry → Entry → Type 0
FallsNowhere entries entry = (j a b : ℕ) (one : Entry) (before behind : Place) → slice_get entries j ≡ Some one → slice_get (places_of one.answer) a ≡ Some before
    → slice_get (places_of entry.answer) b ≡ Some behind → before.pad ≡ behind.pad → before.items ≤ behind.items

-- The next command of a script is answered behind the others.
pub record OneMoreEntry : Type 0 where
  pub answered : (h owed : ℕ → List Item) (g mid last : Edited) (script more : List Command) (c : Command) (entries : List Entry) (entry : Entry)
      → AreAnswered h owed g script entries mid → drop (length entries) script ≡ c ∷ more → IsAnswered mid h owed c entry.answer last
      → AreAnswered h owed g script (entries ++ entry ∷ []) last
  pub falls_nowhere : (entries : List Entry) (entry : Entry) → NeverFall entries → FallsNowhere entries entry → NeverFall (entries ++ entry ∷ [])
