-- The elements below a number are made.
use Rattle.std.proofs.Common.{◌≡◌, ◌⊎◌, ◌<◌, ◌≤◌, ◌+◌, ℕ, List, [], ◌∷◌, ◌++◌, Option, Some, length, set, refl, sym, ap, ◌∙◌, subst, inl, inr, arith, length-set}
use Rattle.std.specs.Prelude.{slice_get}
use Rattle.std.proofs.lemmas.Option.{slice_get_within}
use Rattle.el_settings.specs.declared.settings.Settings.{Settings}
use Rattle.graph_core.specs.Elements.{Made}
use Rattle.gst_outside.specs.declared.sink.Sink as sinks
use Rattle.gst_outside.specs.declared.source.Source as sources
use Rattle.run_files.specs.declared.end.End.{End}
use Rattle.task_elements.specs.declared.element.StreamElement.{StreamElement}
use Rattle.task_elements.specs.declared.source.StreamSource.{StreamSource}
use Rattle.graph_parts.specs.Ends.{at, left_by, sink_end, source_end}
use Rattle.graph_parts.specs.Filled.{AreFilled, IsFilled, IsGiverFor, IsMadeFor, PairAt}
use Rattle.graph_parts.proofs.Slots.{at_front, at_last, none_past, set_here, set_there}
use Rattle.graph_parts.proofs.LaneSlots.{size_more}
use Rattle.gst_value.proofs.Basics.{less_or_last as below_or}

module _ {S K : Type 0} (s : sources.Ghosts S) (k : sinks.Ghosts K) (made : List Made) (ends : List (Option (End S K))) where
  pub record FilledTo (n : ℕ) (elements : List (Option (StreamElement K))) (sources : List (Option (StreamSource S))) (left : List (Option (End S K))) : Type 0 where
    pub element_count : length elements ≡ n
    pub source_count : length sources ≡ n
    pub end_count : length left ≡ length ends
    pub each : (e : ℕ) (m : Made) → e < n → slice_get made e ≡ Some m → IsFilled s k m.settings e (at ends e) (at elements e) (at sources e) (at left e)
    pub later : (e : ℕ) → n ≤ e → at left e ≡ at ends e

  pub none_filled : (elements : List (Option (StreamElement K))) (sources : List (Option (StreamSource S))) → length elements ≡ 0 → length sources ≡ 0 → FilledTo 0 elements sources ends
  none_filled elements sources no_elements no_sources = record {
    element_count = no_elements;
    source_count = no_sources;
    end_count = refl;
    each = λ e m below is. absurd (omega (arith, below));
    later = λ e past. refl;
  }

  same_filled : (settings : Settings) (e : ℕ) (end left left' : Option (End S K)) (element element' : Option (StreamElement K)) (source source' : Option (StreamSource S)) → element' ≡ element → source' ≡ source → left' ≡ left
      → IsFilled s k settings e end element source left → IsFilled s k settings e end element' source' left'
  same_filled settings e end left left' element element' source source' same_element same_source same_left is = record {
    element_is = subst (λ (x : Option (StreamElement K)). IsMadeFor k settings (sink_end end) x) (sym same_element) is.element_is;
    source_is = subst (λ (x : Option (StreamSource S)). IsGiverFor s settings (source_end end) e x) (sym same_source) is.source_is;
    left_is = same_left ∙ is.left_is;
  }

  pub one_filled : (n : ℕ) (elements elements' : List (Option (StreamElement K))) (sources sources' : List (Option (StreamSource S))) (left left' : List (Option (End S K))) (element : Option (StreamElement K)) (source : Option (StreamSource S))
      → FilledTo n elements sources left → PairAt s k made n left left' element source → elements' ≡ elements ++ element ∷ [] → sources' ≡ sources ++ source ∷ [] → FilledTo (n + 1) elements' sources' left'
  one_filled n elements elements' sources sources' left left' element source to pair more_elements more_sources = record {
    element_count = size_more elements elements' element n more_elements to.element_count;
    source_count = size_more sources sources' source n more_sources to.source_count;
    end_count = ap length pair.ends ∙ length-set left n pair.left ∙ to.end_count;
    each = λ e m below is. by e m is (below_or e n below);
    later = λ e past. there e (λ same. omega (arith, past, same)) ∙ to.later e (omega (arith, past));
  }
    where
      there : (e : ℕ) → (n ≡ e → ⊥) → at left' e ≡ at left e
      there e other = ap (λ (xs : List (Option (End S K))). at xs e) pair.ends ∙ set_there left n e pair.left other

      stood : at left n ≡ at ends n
      stood = to.later n (omega arith)

      here : (m : Made) → slice_get made n ≡ Some m → IsFilled s k m.settings n (at ends n) (at elements' n) (at sources' n) (at left' n)
      here m is =
          let one : IsFilled s k m.settings n (at ends n) element source pair.left = subst (λ (end : Option (End S K)). IsFilled s k m.settings n end element source pair.left) stood (pair.filled m is) in
          same_filled m.settings n (at ends n) pair.left (at left' n) element (at elements' n) source (at sources' n)
          (ap (λ (xs : List (Option (StreamElement K))). at xs n) more_elements ∙ at_last elements element n to.element_count)
          (ap (λ (xs : List (Option (StreamSource S))). at xs n) more_sources ∙ at_last sources source n to.source_count)
          (ap (λ (xs : List (Option (End S K))). at xs n) pair.ends ∙ kept ((pair.filled m is).left_is)) one
        where
          kept : pair.left ≡ left_by m.settings (at left n) → at (set left n pair.left) n ≡ pair.left
          kept left_is =
              subst (λ (end : Option (End S K)). at (set left n end) n ≡ end) (sym left_is) (set_here (left_by m.settings) left n refl)

      by : (e : ℕ) (m : Made) → slice_get made e ≡ Some m → (e < n) ⊎ (e ≡ n) → IsFilled s k m.settings e (at ends e) (at elements' e) (at sources' e) (at left' e)
      by e m is (inl less) =
          same_filled m.settings e (at ends e) (at left e) (at left' e) (at elements e) (at elements' e) (at sources e) (at sources' e)
          (ap (λ (xs : List (Option (StreamElement K))). at xs e) more_elements ∙ at_front elements element e (let count = to.element_count in omega (arith, less, count)))
          (ap (λ (xs : List (Option (StreamSource S))). at xs e) more_sources ∙ at_front sources source e (let count = to.source_count in omega (arith, less, count)))
          (there e (λ same. omega (arith, less, same))) (to.each e m less is)
      by e m is (inr same) =
          subst (λ (i : ℕ). IsFilled s k m.settings i (at ends i) (at elements' i) (at sources' i) (at left' i)) (sym same) (here m (subst (λ (i : ℕ). slice_get made i ≡ Some m) same is))

  pub all_filled : (n : ℕ) (elements : List (Option (StreamElement K))) (sources : List (Option (StreamSource S))) (left : List (Option (End S K))) → n ≡ length made → FilledTo n elements sources left → AreFilled s k made ends elements sources left
  all_filled n elements sources left whole to = record {
    element_count = to.element_count ∙ whole;
    source_count = to.source_count ∙ whole;
    end_count = to.end_count;
    each = λ e m is. to.each e m (let within = slice_get_within made e m is in omega (arith, within, whole)) is;
    others = λ e none. to.later e (let past = none_past made e none in omega (arith, past, whole));
  }
