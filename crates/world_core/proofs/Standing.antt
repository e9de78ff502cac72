-- Where the contents of files were told, the elements and sources of a graph stand where its run begins.
use Rattle.std.proofs.Common.{◌≡◌, ℕ, zero, suc, Bool, true, false, List, [], ◌∷◌, Option, Some, if◌then◌else◌, length, map, replicate, refl, sym, ap, ◌∙◌, subst, arith}
use Rattle.std.specs.Prelude.{slice_get}
use Rattle.std.specs.Option.{option_map_or}
use Rattle.std.proofs.lemmas.Option.{slice_get_within}
use Rattle.el_settings.specs.Asked.{sink_pads, is_source}
use Rattle.el_set.specs.Made.{list_of}
use Rattle.flow_model.specs.declared.element.TaskElement as elements
use Rattle.flow_model.specs.declared.source.TaskSource as givers
use Rattle.flow_model.specs.Call.{Call}
use Rattle.flow_model.specs.Item.{Item}
use Rattle.flow_model.specs.Link.{Span}
use Rattle.graph_core.specs.Elements.{Made, has}
use Rattle.graph_core.specs.Graph.{made as made_in}
use Rattle.graph_core.specs.declared.graph.Graph.{Graph}
use Rattle.graph_parts.specs.Files.{GraphOpens, WereTold}
use Rattle.graph_parts.specs.Filled.{AreFilled}
use Rattle.graph_parts.specs.MomentLaws.{given_by}
use Rattle.graph_parts.specs.Plans.{moment_answers, moment_plan}
use Rattle.graph_parts.proofs.Behaviors.{behaviors_are_told}
use Rattle.graph_tasks.specs.Start.{ElementsStand, SourcesStand}
use Rattle.graph_tasks.proofs.Tied.{sinks_count}
use Rattle.gst_outside.specs.Seen.{Seen}
use Rattle.gst_outside.specs.declared.sink.Sink as sinks
use Rattle.gst_outside.specs.declared.source.Source as sources
use Rattle.flow_model.specs.Moment.{Behavior, behavior_at}
use Rattle.flow_model.specs.Opening.{opening}
use Rattle.run_files.specs.declared.end.End.{End}
use Rattle.task_elements.specs.Owes.{Owes}
use Rattle.task_elements.specs.declared.element.StreamElement.{StreamElement}
use Rattle.task_elements.specs.declared.source.StreamSource.{StreamSource}
use Rattle.world_core.proofs.AtHand.{MakesStreams, given_at, made_at, told_at}
use Rattle.gst_value.proofs.Places.{found_at as got_within}

-- what is asked of an element that is there
asked_of : (made : List Made) (n : ℕ) (m : Made) → slice_get made n ≡ Some m → has is_source made n ≡ is_source m.settings
asked_of made n m here = ap (λ (found : Option Made). option_map_or (λ (m : Made). is_source m.settings) found false) here

-- sink pads at which nothing was taken
all_none : (sss : List (List Span)) (n : ℕ) → length sss ≡ n → ◌≡◌ {A = List (List Call)} (replicate n []) (map (λ spans. []) sss)
all_none [] zero size = refl
all_none [] (suc n) size = absurd (omega (arith, size))
all_none (ss ∷ sss) zero size = absurd (omega (arith, size))
all_none (ss ∷ sss) (suc n) size = ap (λ (xs : List (List Call)). [] ∷ xs) (all_none sss n (omega (arith, size)))

took_none : (contents : ℕ → List ℕ) (graph : Graph) (n : ℕ) (m : Made) → slice_get (made_in graph) n ≡ Some m
    → ◌≡◌ {A = List (List Call)} (replicate (sink_pads m.settings) []) ((opening (moment_plan contents graph) (moment_answers graph)).took n)
took_none contents graph n m here =
    all_none ((moment_plan contents graph).sinks n) (sink_pads m.settings)
    (sinks_count contents graph n ∙ ap (λ (found : Option Made). option_map_or (λ (m : Made). sink_pads m.settings) found 0) here)

-- what a source gives by itself is the list of its settings
given_here : (made : List Made) (n : ℕ) (m : Made) (content : List ℕ) → slice_get made n ≡ Some m → is_source m.settings ≡ true
    → list_of m.settings n content ≡ given_by (slice_get made n) n content
given_here made n m content here pads =
    sym
    (ap (λ (found : Option Made). given_by found n content) here
    ∙ ap (λ (b : Bool). if b then list_of m.settings n content else []) pads)

module _ {S K : Type 0} {giver : givers.Ghosts (StreamSource S)} {taker : elements.Ghosts (StreamElement K)} (s : sources.Ghosts S) (k : sinks.Ghosts K)
    (are : MakesStreams s k giver taker) (graph : Graph) (ends : List (Option (End S K))) (before opened : Seen)
    (opens : GraphOpens s k (made_in graph) ends before opened) (elements_in : List (Option (StreamElement K))) (sources_in : List (Option (StreamSource S)))
    (left : List (Option (End S K))) (filled : AreFilled s k (made_in graph) ends elements_in sources_in left) (contents : ℕ → List ℕ) where
  -- each element stands for what its settings say, and took nothing
  pub elements_stand : ElementsStand taker contents graph elements_in
  elements_stand n element none is =
      let w = slice_get_within elements_in n (Some element) is in
      let m = got_within (made_in graph) n (omega (arith, w, filled.element_count)) in
      let pads = sym (asked_of (made_in graph) n m.0 m.1) ∙ none in
      let stands = (made_at s k (made_in graph) ends before opened opens elements_in sources_in left filled n m.0 element m.1 is).0 in
      subst (λ (took : List (List Call)). taker.stands element (behavior_at (opening (moment_plan contents graph) (moment_answers graph)) n) took)
      (took_none contents graph n m.0 m.1)
      (subst (λ (behavior : Behavior). taker.stands element behavior (replicate (sink_pads m.0.settings) []))
      (behaviors_are_told contents graph n m.0 m.1 pads)
      (are.stands element _ (replicate (sink_pads m.0.settings) []) stands))

  -- and each source owes its list, and gave nothing
  pub sources_stand : WereTold (made_in graph) before contents → SourcesStand giver contents graph sources_in
  sources_stand told n source so is =
      let w = slice_get_within sources_in n (Some source) is in
      let m = got_within (made_in graph) n (omega (arith, w, filled.source_count)) in
      let pads = sym (asked_of (made_in graph) n m.0 m.1) ∙ so in
      let content = told_at s k (made_in graph) ends before opened opens elements_in sources_in left filled contents told n m.0 source m.1 pads is in
      let given = given_at s k (made_in graph) ends before opened opens elements_in sources_in left filled n m.0 source m.1 is in
      let owes = given.owes content.is content.told_is in
      are.gave source (given_by (slice_get (made_in graph) n) n (contents n)) []
      (subst (λ (owed : List Item). Owes s.content source.source owed []) (content.same ∙ given_here (made_in graph) n m.0 (contents n) m.1 pads) owes)
