-- The plan by which a launch line's graph is evaluated.
use Rattle.std.specs.Prelude.{◌≡◌, ◌<◌, ◌+◌, ◌*◌, ◌/◌, ◌%◌, ◌⊎◌, ℕ, List, [], ◌∷◌, Option, None, Some, if◌then◌else◌, map, slice_get}
use Rattle.std.specs.List.{range_with_len}
use Rattle.flow_model.specs.Item.{Item}
use Rattle.flow_model.specs.Section.{first_section}
use Rattle.flow_model.specs.Rule.{Rule}
use Rattle.flow_model.specs.Link.{Span, Linked}
use Rattle.flow_model.specs.Eval.{Plan}
use Rattle.flow_model.specs.Account.{IsMember}
use Rattle.el_settings.specs.Asked.{is_source, sink_pads}
use Rattle.el_set.specs.Denoted.{rule_of}
use Rattle.el_set.specs.Made.{list_of}
use Rattle.graph_core.specs.Elements.{Made}
use Rattle.graph_core.specs.Graph.{made as made_in, links as links_in, forward as forward_in}
use Rattle.graph_pads.specs.Links.{source_before}
use Rattle.graph_core.specs.declared.graph.Graph.{Graph}
use Rattle.graph_pads.specs.declared.pad.PadLink.{PadLink}
use Rattle.graph_pads.specs.declared.pad.PadPlace.{PadPlace}

-- the most source pads of an element
abbrev pub most_pads : ℕ
most_pads = 64

-- The number of a source pad in the line: each element has room for as many as it can have.
abbrev pub pad_id : PadPlace → ℕ
pad_id place = place.element * most_pads + place.pad

-- the pad of a number in an element
abbrev pub owner_of : ℕ → ℕ
owner_of p = p / most_pads

-- what a sink pad is linked to from the start
abbrev pub spans_from : Option PadPlace → List Span
spans_from None = []
spans_from (Some source) = Linked (pad_id source) 0 [] ∷ []

abbrev pub sink_at : ℕ → ℕ → PadPlace
sink_at e k = record { element = e; pad = k }

abbrev pub sink_count : Option Made → ℕ
sink_count None = 0
sink_count (Some m) = sink_pads m.settings

-- the links of the sink pads of an element
abbrev pub sinks_in : List Made → List PadLink → ℕ → List (List Span)
sinks_in made links e = map (λ k. spans_from (source_before links (sink_at e k))) (range_with_len 0 (sink_count (slice_get made e)))

-- what an element owes: a source its list, by the content of its file, and each other by the rule of its settings
abbrev pub rule_for : Option Made → ℕ → List ℕ → Rule
rule_for None e content = λ inputs port j. []
rule_for (Some m) e content = if is_source m.settings then (λ inputs port. first_section (list_of m.settings e content)) else rule_of m.settings

-- The plan of a line: its elements with their links, what each reads, and how many items crossed each source pad.
unfoldable pub line_plan : (ℕ → List ℕ) → List Made → List PadLink → List ℕ → (ℕ → ℕ) → Plan
line_plan contents made links forward count =
    record {
      forward = forward;
      owner = owner_of;
      port = λ p. p % most_pads;
      sinks = sinks_in made links;
      rule = λ e. rule_for (slice_get made e) e (contents e);
      log = λ p. record { cuts = []; count = count p };
    }

-- one of the links
abbrev pub IsIn : PadLink → List PadLink → Type 0
IsIn link [] = ⊥
IsIn link (l ∷ links) = (link ≡ l) ⊎ IsIn link links

-- each link comes from a pad of an element that stands earlier
abbrev pub GoesAlong : List PadLink → List ℕ → List ℕ → Type 0
GoesAlong links seen [] = Unit {0}
GoesAlong links seen (e ∷ es) =
    ((link : PadLink) → IsIn link links → link.sink.element ≡ e → (link.source.pad < most_pads) × IsMember link.source.element seen) × GoesAlong links (e ∷ seen) es

-- what crossed the pad that an element's first sink pad is linked to
abbrev pub before_it : (ℕ → List Item) → Option PadPlace → List Item
before_it h None = []
before_it h (Some source) = h (pad_id source)

-- the plan of a graph
abbrev pub graph_plan : (ℕ → List ℕ) → Graph → (ℕ → ℕ) → Plan
graph_plan contents graph count = line_plan contents (made_in graph) (links_in graph) (forward_in graph) count
