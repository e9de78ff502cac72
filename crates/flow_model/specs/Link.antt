-- Links: which items of which histories reach a sink pad, and what control does to its element meanwhile.
use Rattle.std.specs.Prelude.{ℕ, ◌-◌, Bool, List, [], ◌∷◌, ◌++◌, if◌then◌else◌, take, drop, flat_map}
use Rattle.flow_model.specs.Item.{Item, Ev, Eos, FlushStop}
use Rattle.flow_model.specs.Call.{Call, Feed, Mark, feeds, with_marks}
use Rattle.flow_model.specs.Sticky.{stickies}

-- One span of what a sink pad is given. Marks stand at places of the source pad.
pub data Span : Type 0 where
  -- a link from a source pad that was made at a place and still stands
  Linked : (source from : ℕ) (marks : List (ℕ × Mark)) → Span
  -- a link that was undone at a place, with an EOS or without
  WasLinked : (source from to : ℕ) (eos : Bool) (marks : List (ℕ × Mark)) → Span
  -- a seek that found the pad unlinked
  Flushed : (number : ℕ) → Span
  -- what is given, as a task sees the far side of a lane
  Given : (calls : List Call) → Span

-- the items from one place to another
abbrev pub between : ℕ → ℕ → List Item → List Item
between from to xs = take (to - from) (drop from xs)

-- what a span gives, by the histories of the source pads: first the sticky events in force, then the items
abbrev pub span_calls : (ℕ → List Item) → Span → List Call
span_calls h (Linked source from marks) = feeds (stickies (take from (h source))) ++ with_marks marks from (drop from (h source))
span_calls h (WasLinked source from to eos marks) =
    feeds (stickies (take from (h source))) ++ (with_marks marks from (between from to (h source)) ++ (if eos then Feed (Ev Eos) ∷ [] else []))
span_calls h (Flushed number) = Feed (Ev (FlushStop number)) ∷ []
span_calls h (Given calls) = calls

-- what a sink pad is given
abbrev pub input_of : (ℕ → List Item) → List Span → List Call
input_of h spans = flat_map (span_calls h) spans
