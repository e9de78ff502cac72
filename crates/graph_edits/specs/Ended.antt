-- Which sink pads have had EOS, told without looking through what they were given: where a link stands, by whether EOS crossed its source
-- pad, and where none stands, by whether a link was undone with EOS.
use Rattle.std.specs.Prelude.{◌≡◌, ◌↔◌, ◌||◌, ℕ, Bool, true, false, List, [], ◌∷◌, ◌++◌, Some, take}
use Rattle.std.specs.Option.{option_map_or}
use Rattle.flow_model.specs.Item.{Item}
use Rattle.flow_model.specs.Link.{Span, Linked, WasLinked, Flushed, Given}
use Rattle.flow_model.specs.Prefix.{IsPrefix}
use Rattle.flow_model.specs.Sticky.{has_flush_stop}
use Rattle.graph_core.specs.Elements.{Made}
use Rattle.graph_core.specs.GraphPlan.{pad_id}
use Rattle.graph_core.specs.LinkedOnce.{AreOnce}
use Rattle.graph_pads.specs.Links.{sink_behind, source_before}
use Rattle.graph_pads.specs.declared.pad.PadLink.{PadLink}
use Rattle.graph_pads.specs.declared.pad.PadPlace.{PadPlace}
use Rattle.pad_core.specs.Crossing.{has_ended}
use Rattle.script_text.specs.declared.answer.Answer.{Answer}
use Rattle.script_text.specs.declared.answer.Entry.{Entry}
use Rattle.script_text.specs.declared.command.Command.{Command}
use Rattle.graph_edits.specs.Edited.{Edited, is_ended, spans_at, unedited}
use Rattle.graph_edits.specs.Growing.{GrowsTo, IsKept, LinksStand}
use Rattle.graph_edits.specs.Lawful.{AreAnswered, IsAnswered}
use Rattle.graph_edits.specs.Plans.{items_at}
use Rattle.graph_edits.specs.Refused.{IsAfterEos, IsTaken}

-- by the source pad of the link that stands, and where none does by the links that were undone
abbrev pub had_eos : Edited → (ℕ → List Item) → PadPlace → Bool
had_eos g h sink = option_map_or (λ source. has_ended (h (pad_id source))) (source_before g.links sink) (is_ended g sink)

-- ---- what holds of an edited graph at each moment

-- Spans are links alone, each made, and undone, before its source pad had EOS.
abbrev pub AreOpen : (ℕ → List Item) → List Span → Type 0
AreOpen h [] = Unit {0}
AreOpen h (Linked source from marks ∷ ss) = (has_ended (take from (h source)) ≡ false) × AreOpen h ss
AreOpen h (WasLinked source from to eos marks ∷ ss) = (has_ended (take from (h source)) ≡ false) × (has_ended (take to (h source)) ≡ false) × AreOpen h ss
AreOpen h (Flushed number ∷ ss) = ⊥
AreOpen h (Given calls ∷ ss) = ⊥

-- a link among spans was undone with EOS
abbrev pub was_ended : List Span → Bool
was_ended [] = false
was_ended (Linked source from marks ∷ ss) = was_ended ss
was_ended (WasLinked source from to eos marks ∷ ss) = eos || was_ended ss
was_ended (Flushed number ∷ ss) = was_ended ss
was_ended (Given calls ∷ ss) = was_ended ss

-- Nothing was flushed, and no link was made or undone behind EOS. A sink pad is marked where a link to it was undone with EOS, and is
-- linked no more then. What is found from the sink pad of a link leads back to it.
pub record EndsOpen (h : ℕ → List Item) (g : Edited) : Type 0 where
  pub unflushed : (p : ℕ) → has_flush_stop (h p) ≡ false
  pub spans : (sink : PadPlace) → AreOpen h (spans_at g sink)
  pub marked : (sink : PadPlace) → was_ended (spans_at g sink) ≡ is_ended g sink
  pub unmarked : (source sink : PadPlace) → source_before g.links sink ≡ Some source → is_ended g sink ≡ false
  pub back : (source sink : PadPlace) → source_before g.links sink ≡ Some source → sink_behind g.links source ≡ Some sink

-- What crossed a source pad is of what is owed to it, of which EOS can only be the last item, and FLUSH_STOP is none.
pub record OwesToEos (h owed : ℕ → List Item) : Type 0 where
  pub crossed : (p : ℕ) → IsPrefix (h p) (owed p)
  pub unflushed : (p : ℕ) → has_flush_stop (owed p) ≡ false
  pub open_before : (p : ℕ) (front : List Item) (last : Item) → owed p ≡ front ++ last ∷ [] → has_ended front ≡ false

-- ---- laws

-- It is so from the start, where pads are linked once; it stays so while more crosses, and behind each answer.
pub record StaysOpen : Type 0 where
  pub begins : (h : ℕ → List Item) (made : List Made) (links : List PadLink) → ((p : ℕ) → has_flush_stop (h p) ≡ false) → AreOnce links → EndsOpen h (unedited made links)
  pub grows : (h owed h' owed' : ℕ → List Item) (g : Edited) → GrowsTo h owed h' owed' → IsKept h g → EndsOpen h g → EndsOpen h' g
  pub answered : (h owed : ℕ → List Item) (g after : Edited) (c : Command) (a : Answer) → OwesToEos h owed → IsAnswered g h owed c a after → IsKept h g → LinksStand g → EndsOpen h g
      → EndsOpen h after
  pub reported : (h owed : ℕ → List Item) (g last : Edited) (script : List Command) (entries : List Entry) → OwesToEos h owed → AreAnswered h owed g script entries last
      → IsKept h g → LinksStand g → EndsOpen h g → EndsOpen h last

-- A sink pad has had EOS exactly where it is told so.
pub record EndsAreTold : Type 0 where
  pub free : (h : ℕ → List Item) (g : Edited) (sink : PadPlace) → IsKept h g → LinksStand g → EndsOpen h g → ¬ IsTaken g sink → IsAfterEos g h sink ↔ (is_ended g sink ≡ true)
  pub taken : (h : ℕ → List Item) (g : Edited) (source sink : PadPlace) → IsKept h g → LinksStand g → EndsOpen h g → source_before g.links sink ≡ Some source
      → IsAfterEos g h sink ↔ (has_ended (h (pad_id source)) ≡ true)
  pub same : (h : ℕ → List Item) (g : Edited) (sink : PadPlace) → IsKept h g → LinksStand g → EndsOpen h g → has_ended (items_at g h sink) ≡ had_eos g h sink
  pub told : (h : ℕ → List Item) (g : Edited) (sink : PadPlace) → IsKept h g → LinksStand g → EndsOpen h g → IsAfterEos g h sink ↔ (had_eos g h sink ≡ true)
