-- What is put back at the number of an element: its file, where it has one, and the length of what it wrote.
use Rattle.std.proofs.Common.{◌≡◌, ℕ, Bool, true, false, List, Option, None, Some, if◌then◌else◌, refl, sym, ap, ap₂, ◌∙◌}
use Rattle.std.specs.Prelude.{slice_get}
use Rattle.std.specs.Option.{option_map, option_map_or}
use Rattle.el_set.specs.Gives.{source_file}
use Rattle.el_settings.specs.declared.settings.Settings.{Settings}
use Rattle.el_set.specs.declared.sink.SinkElement.TheVariants as sink_elements
use Rattle.el_set.proofs.Openings.{opens_none}
use Rattle.el_sink.specs.Held.{length_of}
use Rattle.graph_core.specs.Elements.{Made, has}
use Rattle.graph_parts.specs.Back.{Gives, HasLength, read_end, written_end}
use Rattle.el_settings.specs.Asked.{reads, writes}
use Rattle.graph_parts.specs.Files.{opening_of}
use Rattle.graph_parts.specs.Put.{IsPutAt}
use Rattle.graph_parts.proofs.OwnFiles.{IsReader, IsWriter, no_place}
use Rattle.run_files.specs.declared.end.End.{End}
use Rattle.run_files.specs.declared.end.End.TheVariants.{Src, Snk}
use Rattle.task_elements.specs.Stands.{file_in, len_in}
use Rattle.task_elements.specs.declared.element.StreamElement.{StreamElement}
use Rattle.task_elements.specs.declared.element.StreamElement.TheVariants.{Filter, Join, Queue, Sink, Tee}
use Rattle.task_elements.specs.declared.source.StreamSource.{StreamSource}

-- an element that has a file has its length
pub has_length : {K : Type 0} (x : StreamElement K) (file : K) → file_in x ≡ Some file → (n : ℕ) × (len_in x ≡ Some n)
has_length (Filter filter) file is = absurd (cc)
has_length (Queue queue) file is = absurd (cc)
has_length (Tee tee) file is = absurd (cc)
has_length (Join join) file is = absurd (cc)
has_length (Sink (sink_elements.File sink)) file is = (length_of sink, refl)
has_length (Sink (sink_elements.Fake sink)) file is = absurd (cc)

-- what is asked of an element that is there
pub asked_at : (asked : Settings → Bool) (made : List Made) (d : ℕ) (m : Made) → slice_get made d ≡ Some m → has asked made d ≡ asked m.settings
asked_at asked made d m here = ap (λ (found : Option Made). option_map_or (λ (m : Made). asked m.settings) found false) here

module _ {S K : Type 0} (made : List Made) where
  abbrev sink_of : K → Option (End S K)
  sink_of file = Some (Snk file)

  abbrev source_of : S → Option (End S K)
  source_of file = Some (Src file)

  -- the end of an element that writes no file, and of a source that reads none
  pub no_written : (d : ℕ) (x : StreamElement K) (end : Option (End S K)) → has writes made d ≡ false → written_end made d x ≡ Some end → ⊥
  no_written d x end none is =
      absurd (let no = sym (ap (λ (b : Bool). if b then option_map sink_of (file_in x) else None) none) ∙ is in cc)

  pub no_read : (d : ℕ) (x : StreamSource S) (end : Option (End S K)) → has reads made d ≡ false → read_end made d x ≡ Some end → ⊥
  no_read d x end none is =
      absurd (let no = sym (ap (λ (b : Bool). if b then option_map source_of (source_file x.source) else None) none) ∙ is in cc)

  -- and where one is
  pub written_here : (d : ℕ) (x : StreamElement K) (file : K) → has writes made d ≡ true → file_in x ≡ Some file → written_end made d x ≡ Some (sink_of file)
  written_here d x file so is =
      ap₂ (λ (b : Bool) (found : Option K). if b then option_map sink_of found else None) so is

  pub read_here : (d : ℕ) (x : StreamSource S) (file : S) → has reads made d ≡ true → source_file x.source ≡ Some file → read_end made d x ≡ Some (source_of file)
  read_here d x file so is =
      ap₂ (λ (b : Bool) (found : Option S). if b then option_map source_of found else None) so is

  module _ (Reads : ℕ → StreamSource S → Type 0) (Has : ℕ → StreamElement K → Type 0) (old new : List (Option (End S K)))
      (one : (d : ℕ) (x y : StreamElement K) → Has d x → Has d y → x ≡ y) (one_source : (e : ℕ) (x y : StreamSource S) → Reads e x → Reads e y → x ≡ y) where
    -- the file of a filesink
    pub put_sink : (d : ℕ) (m : Made) (location : List ℕ) (x : StreamElement K) (file : K) → slice_get made d ≡ Some m → IsWriter m.settings location → Has d x
        → file_in x ≡ Some file → IsPutAt (Gives made Reads Has) old new d → slice_get new d ≡ Some (Some (Snk file))
    put_sink d m location x file here own inside is (IsPutAt.was_put end (Gives.by_source source of gives) at) =
        absurd (no_read d source end (asked_at reads made d m here ∙ own.no_reading) gives)
    put_sink d m location x file here own inside is (IsPutAt.was_put end (Gives.by_element element of gives) at) =
        at ∙ sym gives
        ∙ written_here d element file (asked_at writes made d m here ∙ own.writing) (ap file_in (one d element x of inside) ∙ is)
    put_sink d m location x file here own inside is (IsPutAt.was_kept none at) =
        absurd (none (Some (Snk file)) (Gives.by_element x inside (written_here d x file (asked_at writes made d m here ∙ own.writing) is)))

    -- that of a filesrc
    pub put_source : (e : ℕ) (m : Made) (location : List ℕ) (x : StreamSource S) (file : S) → slice_get made e ≡ Some m → IsReader m.settings location
        → Reads e x
        → source_file x.source ≡ Some file → IsPutAt (Gives made Reads Has) old new e → slice_get new e ≡ Some (Some (Src file))
    put_source e m location x file here own inside is (IsPutAt.was_put end (Gives.by_source source of gives) at) =
        at ∙ sym gives
        ∙ read_here e source file (asked_at reads made e m here ∙ own.reading)
        (ap (λ (s : StreamSource S). source_file s.source) (one_source e source x of inside) ∙ is)
    put_source e m location x file here own inside is (IsPutAt.was_put end (Gives.by_element element of gives) at) =
        absurd (no_written e element end (asked_at writes made e m here ∙ own.no_writing) gives)
    put_source e m location x file here own inside is (IsPutAt.was_kept none at) =
        absurd (none (Some (Src file)) (Gives.by_source x inside (read_here e x file (asked_at reads made e m here ∙ own.reading) is)))

  -- and nothing at another element
  pub put_none : (Reads : ℕ → StreamSource S → Type 0) (Has : ℕ → StreamElement K → Type 0) (old new : List (Option (End S K))) (d : ℕ) (m : Made) → slice_get made d ≡ Some m → opening_of m.settings ≡ None
      → IsPutAt (Gives made Reads Has) old new d → slice_get new d ≡ slice_get old d
  put_none Reads Has old new d m here opens (IsPutAt.was_put end (Gives.by_source source of gives) at) =
      absurd (no_read d source end (asked_at reads made d m here ∙ (opens_none m.settings (no_place m.settings opens)).0) gives)
  put_none Reads Has old new d m here opens (IsPutAt.was_put end (Gives.by_element element of gives) at) =
      absurd (no_written d element end (asked_at writes made d m here ∙ (opens_none m.settings (no_place m.settings opens)).1) gives)
  put_none Reads Has old new d m here opens (IsPutAt.was_kept none at) = at

-- the length of the file of an element
module _ {K : Type 0} (Has : ℕ → StreamElement K → Type 0) (old new : List ℕ) (one : (d : ℕ) (x y : StreamElement K) → Has d x → Has d y → x ≡ y) where
  pub put_length : (d : ℕ) (x : StreamElement K) (n : ℕ) → Has d x → len_in x ≡ Some n → IsPutAt (HasLength Has) old new d → slice_get new d ≡ len_in x
  put_length d x n inside is (IsPutAt.was_put m own at) = at ∙ sym own.told ∙ ap len_in (one d own.element x own.inside inside)
  put_length d x n inside is (IsPutAt.was_kept none at) = absurd (none n (record { element = x; inside = inside; told = is }))
