-- What the elements of a graph open, and where their ends are.
use Rattle.std.specs.Prelude.{◌≡◌, ℕ, Bool, true, false, Contains, List, Option, None, Some, count_by, if◌then◌else◌, length, map, slice_get}
use Rattle.std.specs.Option.{option_map}
use Rattle.el_settings.specs.Asked.{is_source, location_of}
use Rattle.el_settings.specs.declared.settings.Settings.{Settings}
use Rattle.graph_core.specs.Elements.{Made}
use Rattle.graph_core.specs.Graph.{IsGraph, made as made_in}
use Rattle.graph_core.specs.declared.graph.Graph.{Graph}
use Rattle.gst_outside.specs.Seen.{Seen}
use Rattle.gst_outside.specs.declared.sink.Sink as sinks
use Rattle.gst_outside.specs.declared.source.Source as sources
use Rattle.launch_text.specs.declared.tree.Tree.{Tree}
use Rattle.run_files.specs.Ends.{AllOpened, Known, is_sink_at, known_ends, present}
use Rattle.run_files.specs.Opening.{Opens, fresh_ends}
use Rattle.run_files.specs.declared.end.End.{End}
use Rattle.run_files.specs.declared.end.Opening.{Opening}
use Rattle.run_files.specs.declared.end.Opening.TheVariants.{Read, Write}

-- a source reads its location, and another element writes it
abbrev pub opened_by : Bool → List ℕ → Opening
opened_by source location = if source then Read location else Write location

abbrev pub opening_of : Settings → Option Opening
opening_of settings = option_map (opened_by (is_source settings)) (location_of settings)

abbrev pub made_opening : Made → Option Opening
made_opening m = opening_of m.settings

-- the ends of all elements of a graph, opened so
abbrev pub GraphOpens : {S K : Type 0} → sources.Ghosts S → sinks.Ghosts K → List Made → List (Option (End S K)) → Seen → Seen → Type 0
GraphOpens s k made ends before after = Opens (map made_opening made) (known_ends s k ends) before after

-- the content of each file source's location was told as this
abbrev pub WereTold : List Made → Seen → (ℕ → List ℕ) → Type 0
WereTold made before contents =
    (e : ℕ) (m : Made) (location : List ℕ) → slice_get made e ≡ Some m → opening_of m.settings ≡ Some (Read location) → before.input location ≡ Some (contents e)

-- the end of an element is there: a sink or a source, at its location
pub record EndAt (known : List (Option Known)) (e : ℕ) (writes : Bool) (location : List ℕ) : Type 0 where
  pub end : Known
  pub at : slice_get known e ≡ Some (Some end)
  pub kind : end.is_sink ≡ writes
  pub place : end.location ≡ Some location

-- The ends of a graph's elements, as far as they are known: for each element that opens a file the end at its location, a
-- sink where it writes, and none for the others.
pub record AreLocated (made : List Made) (known : List (Option Known)) : Type 0 where
  pub size : length known ≡ length made
  pub written : (e : ℕ) (m : Made) (location : List ℕ) → slice_get made e ≡ Some m → opening_of m.settings ≡ Some (Write location) → EndAt known e true location
  pub read : (e : ℕ) (m : Made) (location : List ℕ) → slice_get made e ≡ Some m → opening_of m.settings ≡ Some (Read location) → EndAt known e false location
  pub none : (e : ℕ) (m : Made) → slice_get made e ≡ Some m → opening_of m.settings ≡ None → slice_get known e ≡ Some None

-- an element opens this
pub record OpensAt (made : List Made) (e : ℕ) (opening : Opening) : Type 0 where
  pub element : Made
  pub at : slice_get made e ≡ Some element
  pub opens : opening_of element.settings ≡ Some opening

-- A location that an element of a line writes is written by no other element of it, and read by none.
abbrev pub HaveOneWriter : Type 0
HaveOneWriter = (tree : Tree) (graph : Graph) → IsGraph tree graph → (d e : ℕ) (location : List ℕ)
    → OpensAt (made_in graph) d (Write location) → OpensAt (made_in graph) e (Write location) → d ≡ e

abbrev pub WritersReadNot : Type 0
WritersReadNot = (tree : Tree) (graph : Graph) → IsGraph tree graph → (d e : ℕ) (location : List ℕ)
    → OpensAt (made_in graph) d (Write location) → OpensAt (made_in graph) e (Read location) → ⊥

-- Of ends that are located one is a sink at a location that an element writes, and none at another.
abbrev pub OneSinkIsAt : Type 0
OneSinkIsAt = (tree : Tree) (graph : Graph) (known : List (Option Known)) (e : ℕ) (location : List ℕ) → IsGraph tree graph → AreLocated (made_in graph) known
    → OpensAt (made_in graph) e (Write location) → count_by (is_sink_at location) (present known) ≡ 1

abbrev pub NoSinkIsAt : Type 0
NoSinkIsAt = (location : List ℕ) (made : List Made) (known : List (Option Known)) → AreLocated made known → ((e : ℕ) → OpensAt made e (Write location) → ⊥)
    → count_by (is_sink_at location) (present known) ≡ 0

-- An end that is known of an element is there, and there are as many as were opened.
abbrev pub KnownArePresent : Type 0
KnownArePresent = (known : List (Option Known)) (e : ℕ) (end : Known) → slice_get known e ≡ Some (Some end) → Contains (present known) end

abbrev pub AllArePresent : Type 0
AllArePresent = (made : List Made) (known : List (Option Known)) → AreLocated made known → length (present known) ≡ length (present (map made_opening made))

-- Where the ends that openings give were opened by some files, so were ends that are located.
abbrev pub EndsStayOpened : (List ℕ → Type 0) → Type 0
EndsStayOpened opened = (before : Seen) (made : List Made) (known : List (Option Known)) → AreLocated made known
    → AllOpened opened (fresh_ends before (map made_opening made)) → AllOpened opened known
