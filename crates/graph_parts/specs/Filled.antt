-- The elements of a graph, made with the ends of their files.
use Rattle.std.specs.Prelude.{◌≡◌, ℕ, false, List, [], Option, None, Some, length, slice_get, slice_set}
use Rattle.el_set.specs.Gives.{source_content}
use Rattle.el_set.specs.Made.{IsSourceFor, list_of, makes_source}
use Rattle.el_settings.specs.declared.settings.Settings.{Settings}
use Rattle.graph_core.specs.Elements.{Made}
use Rattle.gst_outside.specs.declared.sink.Sink as sinks
use Rattle.gst_outside.specs.declared.source.Source as sources
use Rattle.run_files.specs.declared.end.End.{End}
use Rattle.task_elements.specs.Made.{IsElementFor}
use Rattle.task_elements.specs.Owes.{Owes}
use Rattle.task_elements.specs.declared.element.StreamElement.{StreamElement}
use Rattle.task_elements.specs.declared.source.StreamSource.{StreamSource}
use Rattle.graph_parts.specs.Ends.{at, left_by, sink_end, source_end}

module _ {K : Type 0} (k : sinks.Ghosts K) where
  -- An element with sink pads: it does what its settings say, took nothing yet, and writes the file, which is empty; and its
  -- source pads are those of its settings.
  abbrev pub IsMadeFor : Settings → Option K → Option (StreamElement K) → Type 0
  IsMadeFor = IsElementFor k.bytes

module _ {S : Type 0} (s : sources.Ghosts S) where
  -- A source of this number owes the list of its settings by the content of what it reads, and gave nothing.
  pub record GivesFor (settings : Settings) (file : Option S) (e : ℕ) (source : StreamSource S) : Type 0 where
    pub made : IsSourceFor s.content settings file e (Some source.source)
    pub owes : (content : List ℕ) → source_content s.content source.source ≡ Some content → Owes s.content source.source (list_of settings e content) []

  abbrev pub IsGiverFor : Settings → Option S → ℕ → Option (StreamSource S) → Type 0
  IsGiverFor settings file e None = makes_source settings file ≡ false
  IsGiverFor settings file e (Some source) = GivesFor settings file e source

module _ {S K : Type 0} (s : sources.Ghosts S) (k : sinks.Ghosts K) where
  -- What is made of the element of a number with this end, and what is left of that: the end is in an element, in a source,
  -- or left.
  pub record IsFilled (settings : Settings) (e : ℕ) (end : Option (End S K)) (element : Option (StreamElement K)) (source : Option (StreamSource S)) (left : Option (End S K)) : Type 0 where
    pub element_is : IsMadeFor k settings (sink_end end) element
    pub source_is : IsGiverFor s settings (source_end end) e source
    pub left_is : left ≡ left_by settings end

  -- So it is by number; where no element is, an end is left.
  pub record AreFilled (made : List Made) (ends : List (Option (End S K))) (elements : List (Option (StreamElement K))) (sources : List (Option (StreamSource S))) (left : List (Option (End S K))) : Type 0 where
    pub element_count : length elements ≡ length made
    pub source_count : length sources ≡ length made
    pub end_count : length left ≡ length ends
    pub each : (e : ℕ) (m : Made) → slice_get made e ≡ Some m → IsFilled m.settings e (at ends e) (at elements e) (at sources e) (at left e)
    pub others : (e : ℕ) → slice_get made e ≡ None → at left e ≡ at ends e

  -- What is made of the element of one number, and the ends behind that.
  pub record PairAt (made : List Made) (e : ℕ) (old new : List (Option (End S K))) (element : Option (StreamElement K)) (source : Option (StreamSource S)) : Type 0 where
    pub left : Option (End S K)
    pub filled : (m : Made) → slice_get made e ≡ Some m → IsFilled m.settings e (at old e) element source left
    pub ends : new ≡ slice_set old e left
