-- What is known of the ends of a run: the sources and sinks of its elements.
use Rattle.std.specs.Prelude.{◌≡◌, ℕ, Bool, true, false, ◌&&◌, List, Option, Some, All, filter_map, map, option_map}
use Rattle.gst_outside.specs.Places.{is_at}
use Rattle.gst_outside.specs.declared.sink.Sink as sink
use Rattle.gst_outside.specs.declared.source.Source as source
use Rattle.run_files.specs.declared.end.End.{End}
use Rattle.run_files.specs.declared.end.End.TheVariants.{Src, Snk}

-- whether it is a sink, its location, the bytes that a source reads or a sink holds, and how many of its calls failed
pub record Known : Type 0 where
  pub is_sink : Bool
  pub location : Option (List ℕ)
  pub bytes : Option (List ℕ)
  pub faults : ℕ

-- what is known of an end, by the meanings of sources and of sinks, and of the ends of all elements, of which some have none
module _ {S K : Type 0} (s : source.Ghosts S) (k : sink.Ghosts K) where
  abbrev pub known_end : End S K → Known
  known_end (Src end) = record { is_sink = false; location = s.location end; bytes = s.content end; faults = s.faults end }
  known_end (Snk end) = record { is_sink = true; location = k.location end; bytes = k.bytes end; faults = k.faults end }

  abbrev pub known_ends : List (Option (End S K)) → List (Option Known)
  known_ends ends = map (option_map known_end) ends

-- those that are there
abbrev pub present : {A : Type 0} → List (Option A) → List A
present entries = filter_map (λ entry. entry) entries

-- whether an end is a sink at a location
abbrev pub is_sink_at : List ℕ → Known → Bool
is_sink_at location end = end.is_sink && is_at end.location location

-- each end was opened by files that tell of a location whether they opened it
abbrev pub AllOpened : (List ℕ → Type 0) → List (Option Known) → Type 0
AllOpened opened ends = All (λ end. (l : List ℕ) → end.location ≡ Some l → opened l) (present ends)
