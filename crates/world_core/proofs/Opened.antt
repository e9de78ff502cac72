-- The ends that were opened for the elements of a graph, and what was made with them.
use Rattle.std.proofs.Common.{◌≡◌, ℕ, zero, suc, Bool, true, false, List, [], ◌∷◌, Option, None, Some, get_or, length, map, refl, sym, ap, ◌∙◌, subst}
use Rattle.std.specs.Prelude.{is_some, slice_get}
use Rattle.std.specs.Option.{option_map}
use Rattle.std.proofs.lemmas.List.{length-map}
use Rattle.std.proofs.lemmas.Option.{same_Some}
use Rattle.el_set.specs.Gives.{source_file}
use Rattle.el_set.specs.Made.{file_for, read_for}
use Rattle.el_settings.specs.Asked.{is_source}
use Rattle.graph_core.specs.Elements.{Made}
use Rattle.graph_parts.specs.Ends.{at, sink_end, source_end}
use Rattle.graph_parts.specs.Files.{GraphOpens, made_opening, opening_of}
use Rattle.graph_parts.specs.Filled.{AreFilled, IsGiverFor, IsMadeFor}
use Rattle.graph_tasks.specs.Tasks.{IsOf}
use Rattle.graph_tasks.proofs.Takes.{some_there, there_some}
use Rattle.gst_outside.specs.Seen.{Seen}
use Rattle.gst_outside.specs.declared.sink.Sink as sinks
use Rattle.gst_outside.specs.declared.source.Source as sources
use Rattle.run_files.specs.Ends.{Known, known_end}
use Rattle.run_files.specs.Opening.{fresh_end}
use Rattle.run_files.specs.declared.end.End.{End}
use Rattle.run_files.specs.declared.end.End.TheVariants.{Src, Snk}
use Rattle.run_files.specs.declared.end.Opening.TheVariants.{Read, Write}
use Rattle.task_elements.specs.Stands.{file_in}
use Rattle.task_elements.specs.declared.element.StreamElement.{StreamElement}
use Rattle.task_elements.specs.declared.source.StreamSource.{StreamSource}
use Rattle.world_core.proofs.Openers.{makes}
use Rattle.gst_value.proofs.Places.{map_get as get_map, map_got}

-- an end under a number
pub got_end : {A : Type 0} (xs : List (Option A)) (n : ℕ) (x : Option A) → slice_get xs n ≡ Some x → get_or xs n None ≡ x
got_end [] n x here = absurd (cc)
got_end (y ∷ ys) zero x here = cc
got_end (y ∷ ys) (suc n) x here = got_end ys n x here

module _ {S K : Type 0} (s : sources.Ghosts S) (k : sinks.Ghosts K) where
  abbrev pub known : End S K → Known
  known = known_end s k

  -- an end that was opened to be written is a file there, and one that was opened to be read too
  sink_opened : (before : Seen) (location : List ℕ) (end : Option (End S K)) → Some (fresh_end before (Write location)) ≡ option_map known end
      → (file : K) × (end ≡ Some (Snk file)) × (k.location file ≡ Some location)
  sink_opened before location None is = absurd (cc)
  sink_opened before location (Some (Src source)) is = absurd (let no = ap (λ (end : Known). end.is_sink) (same_Some _ _ is) in cc)
  sink_opened before location (Some (Snk file)) is = (file, refl, sym (ap (λ (end : Known). end.location) (same_Some _ _ is)))

  source_opened : (before : Seen) (location : List ℕ) (end : Option (End S K)) → Some (fresh_end before (Read location)) ≡ option_map known end
      → (file : S) × (end ≡ Some (Src file)) × (s.location file ≡ Some location)
  source_opened before location None is = absurd (cc)
  source_opened before location (Some (Src file)) is = (file, refl, sym (ap (λ (end : Known). end.location) (same_Some _ _ is)))
  source_opened before location (Some (Snk sink)) is = absurd (let no = ap (λ (end : Known). end.is_sink) (same_Some _ _ is) in cc)

  none_opened : (end : Option (End S K)) → None ≡ option_map known end → end ≡ None
  none_opened None is = refl
  none_opened (Some end) is = absurd (cc)

module _ {S K : Type 0} (s : sources.Ghosts S) (k : sinks.Ghosts K) (made : List Made) (ends : List (Option (End S K))) (before opened : Seen)
    (opens : GraphOpens s k made ends before opened) where
  -- as many ends as elements
  pub end_count : length ends ≡ length made
  end_count =
      sym (length-map ends (option_map (known s k))) ∙ ap length opens.made ∙ length-map (map made_opening made) (option_map (fresh_end before))
      ∙ length-map made made_opening

  -- the end of an element is what its opening gave
  end_at : (e : ℕ) (m : Made) → slice_get made e ≡ Some m
      → (end : Option (End S K)) × (slice_get ends e ≡ Some end) × (option_map (fresh_end before) (opening_of m.settings) ≡ option_map (known s k) end)
  end_at e m here =
      map_got (option_map (known s k)) ends e (option_map (fresh_end before) (opening_of m.settings))
      (ap (λ (ks : List (Option Known)). slice_get ks e) opens.made
      ∙ get_map (option_map (fresh_end before)) (map made_opening made) e (opening_of m.settings) (get_map made_opening made e m here))

  -- the file that was opened for an element which writes one
  pub sink_at : (e : ℕ) (m : Made) (location : List ℕ) → slice_get made e ≡ Some m → opening_of m.settings ≡ Some (Write location)
      → (file : K) × (at ends e ≡ Some (Snk file)) × (k.location file ≡ Some location)
  sink_at e m location here writes =
      let end = end_at e m here in
      let file = sink_opened s k before location end.0 (sym (ap (option_map (fresh_end before)) writes) ∙ end.2) in
      (file.0, got_end ends e end.0 end.1 ∙ file.1, file.2)

  -- and for a source which reads one
  pub source_at : (e : ℕ) (m : Made) (location : List ℕ) → slice_get made e ≡ Some m → opening_of m.settings ≡ Some (Read location)
      → (file : S) × (at ends e ≡ Some (Src file)) × (s.location file ≡ Some location)
  source_at e m location here reads =
      let end = end_at e m here in
      let file = source_opened s k before location end.0 (sym (ap (option_map (fresh_end before)) reads) ∙ end.2) in
      (file.0, got_end ends e end.0 end.1 ∙ file.1, file.2)

  -- and none for others
  pub none_at : (e : ℕ) (m : Made) → slice_get made e ≡ Some m → opening_of m.settings ≡ None → at ends e ≡ None
  none_at e m here none =
      let end = end_at e m here in
      got_end ends e end.0 end.1 ∙ none_opened s k end.0 (sym (ap (option_map (fresh_end before)) none) ∙ end.2)

  module _ (elements_in : List (Option (StreamElement K))) (sources_in : List (Option (StreamSource S))) (left : List (Option (End S K)))
      (filled : AreFilled s k made ends elements_in sources_in left) where
    -- each element with a sink pad was made
    pub element_made : (e : ℕ) (m : Made) → slice_get made e ≡ Some m → is_source m.settings ≡ false → (x : StreamElement K) × IsOf elements_in e x
    element_made e m here pads = by (at elements_in e) refl (filled.each e m here).element_is
      where
        there : (location : List ℕ) → opening_of m.settings ≡ Some (Write location) → is_some (sink_end (at ends e)) ≡ true
        there location writes = ap (λ (end : Option (End S K)). is_some (sink_end end)) (sink_at e m location here writes).1

        by : (found : Option (StreamElement K)) → at elements_in e ≡ found → IsMadeFor k m.settings (sink_end (at ends e)) found
            → (x : StreamElement K) × IsOf elements_in e x
        by None found is = absurd (no (makes m.settings (sink_end (at ends e)) pads there) is)
          where
            no : {b : Bool} → b ≡ true → b ≡ false → ⊥
            no so none = absurd (cc)
        by (Some x) found is = (x, there_some elements_in e x found)

    -- with the file that was opened for it
    pub element_writes : (e : ℕ) (m : Made) (x : StreamElement K) → slice_get made e ≡ Some m → IsOf elements_in e x
        → file_in x ≡ file_for m.settings (sink_end (at ends e))
    element_writes e m x here is =
        (subst (λ (found : Option (StreamElement K)). IsMadeFor k m.settings (sink_end (at ends e)) found) (some_there elements_in e x is)
        (filled.each e m here).element_is).1

    pub source_reads : (e : ℕ) (m : Made) (x : StreamSource S) → slice_get made e ≡ Some m → IsOf sources_in e x
        → source_file x.source ≡ read_for m.settings (source_end (at ends e))
    source_reads e m x here is =
        (subst (λ (found : Option (StreamSource S)). IsGiverFor s m.settings (source_end (at ends e)) e found) (some_there sources_in e x is)
        (filled.each e m here).source_is).made.3
