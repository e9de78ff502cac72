-- The elements of a graph are at hand where its files were opened and its elements were made with them.
use Rattle.std.proofs.Common.{◌≡◌, ℕ, Bool, true, false, List, [], Option, None, Some, map, replicate, refl, sym, ap, ◌∙◌, subst}
use Rattle.std.specs.Prelude.{is_some, slice_get}
use Rattle.std.specs.Option.{ForSome, option_map}
use Rattle.std.proofs.lemmas.Option.{none-some, same_Some}
use Rattle.el_set.specs.Gives.{source_items}
use Rattle.el_set.specs.Made.{IsEmpty, file_for}
use Rattle.el_settings.specs.Asked.{sink_pads, source_pads, is_source}
use Rattle.flow_model.specs.declared.element.TaskElement as elements
use Rattle.flow_model.specs.declared.source.TaskSource as givers
use Rattle.flow_model.specs.Call.{Call}
use Rattle.flow_model.specs.Item.{Item}
use Rattle.graph_core.specs.Elements.{Made}
use Rattle.graph_parts.specs.Ends.{at, sink_end, source_end}
use Rattle.graph_parts.specs.Files.{GraphOpens, WereTold, made_opening, opening_of}
use Rattle.graph_parts.specs.Filled.{AreFilled, GivesFor, IsGiverFor, IsMadeFor}
use Rattle.graph_tasks.specs.Plan.{AreAtHand}
use Rattle.graph_tasks.specs.Tasks.{IsOf}
use Rattle.graph_tasks.proofs.Takes.{some_there, there_some}
use Rattle.gst_outside.specs.Seen.{Seen}
use Rattle.gst_outside.specs.declared.sink.Sink as sinks
use Rattle.gst_outside.specs.declared.source.Source as sources
use Rattle.flow_model.specs.Moment.{Behavior}
use Rattle.run_files.specs.Ends.{Known}
use Rattle.run_files.specs.Opening.{fresh_end}
use Rattle.run_files.specs.declared.end.End.{End}
use Rattle.run_files.specs.declared.end.End.TheVariants.{Src, Snk}
use Rattle.run_files.specs.declared.end.Opening.{Opening}
use Rattle.run_files.specs.declared.end.Opening.TheVariants.{Read, Write}
use Rattle.task_elements.specs.Made.{behavior_of}
use Rattle.task_elements.specs.Owes.{Owes}
use Rattle.task_elements.specs.Stands.{StreamStands, pads_of}
use Rattle.task_elements.specs.declared.element.StreamElement.{StreamElement}
use Rattle.task_elements.specs.declared.source.StreamSource.{StreamSource}
use Rattle.world_core.proofs.Opened.{element_made, known, sink_at, source_at}
use Rattle.world_core.proofs.Openers.{IsTold, gives, told_of, written_empty}
use Rattle.gst_value.proofs.Places.{map_get as get_map}

-- the elements and the sources of tasks are those of streams
pub record MakesStreams {S K : Type 0} (s : sources.Ghosts S) (k : sinks.Ghosts K) (giver : givers.Ghosts (StreamSource S))
    (taker : elements.Ghosts (StreamElement K)) : Type 0 where
  pub ports : (x : StreamElement K) → taker.ports x ≡ pads_of x
  pub stands : (x : StreamElement K) (behavior : Behavior) (took : List (List Call)) → StreamStands k.bytes x behavior took → taker.stands x behavior took
  pub count : (x : StreamSource S) → giver.count x ≡ source_items x.source
  pub gave : (x : StreamSource S) (owed given : List Item) → Owes s.content x.source owed given → giver.gave x owed given

-- nothing stands in what was told of an empty file
none_stands : (told : Option (List ℕ)) → ForSome {T = List ℕ} (option_map (λ _. []) told) (λ bytes. bytes ≡ [])
none_stands None is e = absurd (none-some is e)
none_stands (Some bytes) is e = sym (same_Some [] is e)

module _ {S K : Type 0} (s : sources.Ghosts S) (k : sinks.Ghosts K) (made : List Made) (ends : List (Option (End S K))) (before opened : Seen)
    (opens : GraphOpens s k made ends before opened) where
  -- the end of an element is as its opening gave it
  opened_end : (e : ℕ) (m : Made) (opening : Opening) (end : End S K) → slice_get made e ≡ Some m → opening_of m.settings ≡ Some opening → at ends e ≡ Some end
      → known s k end ≡ fresh_end before opening
  opened_end e m opening end here is there =
      same_Some (known s k end) (fresh_end before opening)
      (same_Some (Some (known s k end)) (Some (fresh_end before opening))
      (sym (get_map (option_map (known s k)) ends e (Some end) (there_some ends e end there))
      ∙ ap (λ (ks : List (Option Known)). slice_get ks e) opens.made
      ∙ get_map (option_map (fresh_end before)) (map made_opening made) e (Some opening)
      (get_map made_opening made e m here ∙ ap (λ (found : Option Opening). Some found) is)))

  -- a file that was opened to be written is empty
  pub opened_empty : (e : ℕ) (m : Made) → slice_get made e ≡ Some m → IsEmpty k.bytes (file_for m.settings (sink_end (at ends e)))
  opened_empty e m here = written_empty k.bytes m.settings (sink_end (at ends e)) empty
    where
      empty : (location : List ℕ) → opening_of m.settings ≡ Some (Write location) → IsEmpty k.bytes (sink_end (at ends e))
      empty location writes =
          let file = sink_at s k made ends before opened opens e m location here writes in
          let bytes = ap (λ (end : Known). end.bytes) (opened_end e m (Write location) (Snk file.0) here writes file.1) in
          subst (λ (end : Option (End S K)). IsEmpty k.bytes (sink_end end)) (sym file.1)
          (subst (λ (told : Option (List ℕ)). ForSome told (λ is. is ≡ [])) (sym bytes) (none_stands (before.output location)))

  module _ (elements_in : List (Option (StreamElement K))) (sources_in : List (Option (StreamSource S))) (left : List (Option (End S K)))
      (filled : AreFilled s k made ends elements_in sources_in left) where
    -- what is made of an element stands for its settings, with the pads of these
    pub made_at : (e : ℕ) (m : Made) (x : StreamElement K) → slice_get made e ≡ Some m → IsOf elements_in e x
        → StreamStands k.bytes x (behavior_of m.settings) (replicate (sink_pads m.settings) []) × (pads_of x ≡ source_pads m.settings)
    made_at e m x here is =
        let own : IsMadeFor k m.settings (sink_end (at ends e)) (Some x) =
        subst (λ (found : Option (StreamElement K)). IsMadeFor k m.settings (sink_end (at ends e)) found) (some_there elements_in e x is)
        (filled.each e m here).element_is in
        (own.0 (opened_empty e m here), own.2)

    pub given_at : (e : ℕ) (m : Made) (x : StreamSource S) → slice_get made e ≡ Some m → IsOf sources_in e x
        → GivesFor s m.settings (source_end (at ends e)) e x
    given_at e m x here is =
        subst (λ (found : Option (StreamSource S)). IsGiverFor s m.settings (source_end (at ends e)) e found) (some_there sources_in e x is)
        (filled.each e m here).source_is

    -- each source was made
    pub source_made : (e : ℕ) (m : Made) → slice_get made e ≡ Some m → is_source m.settings ≡ true → (x : StreamSource S) × IsOf sources_in e x
    source_made e m here pads = by (at sources_in e) refl (filled.each e m here).source_is
      where
        there : (location : List ℕ) → opening_of m.settings ≡ Some (Read location) → is_some (source_end (at ends e)) ≡ true
        there location reads = ap (λ (end : Option (End S K)). is_some (source_end end)) (source_at s k made ends before opened opens e m location here reads).1

        by : (found : Option (StreamSource S)) → at sources_in e ≡ found → IsGiverFor s m.settings (source_end (at ends e)) e found
            → (x : StreamSource S) × IsOf sources_in e x
        by None found is = absurd (no (gives m.settings (source_end (at ends e)) pads there) is)
          where
            no : {b : Bool} → b ≡ true → b ≡ false → ⊥
            no so none = absurd (cc)
        by (Some x) found is = (x, there_some sources_in e x found)

    -- what a source reads is as it was told where it was opened
    pub told_at : (contents : ℕ → List ℕ) → WereTold made before contents → (e : ℕ) (m : Made) (x : StreamSource S) → slice_get made e ≡ Some m
        → is_source m.settings ≡ true → IsOf sources_in e x → IsTold s.content m.settings e x.source (contents e)
    told_at contents told e m x here pads is =
        told_of s.content m.settings e (source_end (at ends e)) x.source (contents e) (given_at e m x here is).made.3 file
      where
        file : (location : List ℕ) → opening_of m.settings ≡ Some (Read location)
            → (one : S) × (source_end (at ends e) ≡ Some one) × (s.content one ≡ Some (contents e))
        file location reads =
            let own = source_at s k made ends before opened opens e m location here reads in
            let content = ap (λ (end : Known). end.bytes) (opened_end e m (Read location) (Src own.0) here reads own.1) in
            (own.0, ap source_end own.1, content ∙ told e m location here reads)

    -- so all that tasks are made of is there
    pub at_hand : (giver : givers.Ghosts (StreamSource S)) (taker : elements.Ghosts (StreamElement K)) → MakesStreams s k giver taker
        → AreAtHand giver taker made elements_in sources_in
    at_hand giver taker are = record {
      elements = λ n m here pads.
          let x = element_made s k made ends before opened opens elements_in sources_in left filled n m here pads in
          record { element = x.0; at = x.1; has = are.ports x.0 ∙ (made_at n m x.0 here x.1).1 };
      sources = λ n m here pads.
          let x = source_made n m here pads in
          record { source = x.0; at = x.1; fresh = are.count x.0 ∙ (given_at n m x.0 here x.1).made.2 };
    }
