-- What stands under the numbers of elements: the ends of their files.
use Rattle.std.specs.Prelude.{ℕ, List, Option, None, Some, if◌then◌else◌, slice_index_or}
use Rattle.el_settings.specs.Asked.{reads, writes}
use Rattle.el_settings.specs.declared.settings.Settings.{Settings}
use Rattle.run_files.specs.declared.end.End.{End}
use Rattle.run_files.specs.declared.end.End.TheVariants.{Src, Snk}

-- what stands under a number, if anything
abbrev pub at : {A : Type 0} → List (Option A) → ℕ → Option A
at xs e = slice_index_or xs e None

abbrev pub source_end : {S K : Type 0} → Option (End S K) → Option S
source_end (Some (Src source)) = Some source
source_end _ = None

abbrev pub sink_end : {S K : Type 0} → Option (End S K) → Option K
sink_end (Some (Snk sink)) = Some sink
sink_end _ = None

-- what an element of these settings leaves of an end: a source takes the file that it reads, and a sink the one that it writes
abbrev pub left_by : {S K : Type 0} → Settings → Option (End S K) → Option (End S K)
left_by settings None = None
left_by settings (Some (Src source)) = if reads settings then None else Some (Src source)
left_by settings (Some (Snk sink)) = if writes settings then None else Some (Snk sink)
