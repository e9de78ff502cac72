-- A graph with all that commands did to it so far. Elements and pads have the numbers that they were made with, for ever.
use Rattle.std.specs.Prelude.{ℕ, Bool, false, ◌==◌, ◌||◌, not, nat_lt, List, [], ◌∷◌, ◌++◌, Option, None, Some, if◌then◌else◌, filter, length, map, replicate, get_or}
use Rattle.std.specs.List.{list_any}
use Rattle.flow_model.specs.Link.{Span, Linked}
use Rattle.flow_model.specs.Edit.{push_span, undo}
use Rattle.el_settings.specs.Asked.{sink_pads}
use Rattle.graph_core.specs.Elements.{Made}
use Rattle.graph_core.specs.GraphPlan.{pad_id, sinks_in}
use Rattle.graph_pads.specs.Links.{is_same, sink_behind}
use Rattle.graph_pads.specs.declared.pad.PadLink.{PadLink}
use Rattle.graph_pads.specs.declared.pad.PadPlace.{PadPlace}

pub record Edited : Type 0 where
  -- how many elements the launch line has; those behind were added
  pub lined : ℕ
  -- all elements that ever were
  pub made : List Made
  -- the numbers of those that were removed
  pub removed : List ℕ
  -- the links that stand
  pub links : List PadLink
  -- all links that ever were made
  pub ever : List PadLink
  -- what each sink pad of an element is given
  pub spans : ℕ → List (List Span)
  -- the sink pads whose stream ended with a link that was undone
  pub ended : List PadPlace

-- nothing was done to the graph yet
abbrev pub unedited : List Made → List PadLink → Edited
unedited made links = record { lined = length made; made = made; removed = []; links = links; ever = links; spans = sinks_in made links; ended = [] }

-- ---- what is asked of it

-- the element was made, and was not removed
abbrev pub is_there : Edited → ℕ → Bool
is_there g e = if list_any (λ gone. gone == e) g.removed then false else nat_lt e (length g.made)

abbrev pub touches : ℕ → PadLink → Bool
touches e link = (link.source.element == e) || (link.sink.element == e)

-- An element of the line is active, and an added one since the first command that linked a pad of it.
abbrev pub is_active : Edited → ℕ → Bool
is_active g e = nat_lt e g.lined || list_any (touches e) g.ever

-- the spans of a sink pad, and none where it is not there
abbrev pub spans_at : Edited → PadPlace → List Span
spans_at g sink = get_or (g.spans sink.element) sink.pad []

-- a link to the sink pad was undone with EOS
abbrev pub is_ended : Edited → PadPlace → Bool
is_ended g sink = list_any (is_same sink) g.ended

-- ---- what is done to it, at the place that the source pad has reached

abbrev pub without : PadPlace → List PadLink → List PadLink
without source links = filter (λ link. not (is_same link.source source)) links

-- one sink pad more, where there is one
abbrev pub and_sink : Option PadPlace → List PadPlace → List PadPlace
and_sink None sinks = sinks
and_sink (Some sink) sinks = sinks ++ sink ∷ []

-- the link of a source pad, where there is one, is undone, with EOS or without
abbrev pub unlinked_at : PadPlace → ℕ → Bool → Edited → Edited
unlinked_at source place eos g =
    record g {
      links = without source g.links;
      spans = λ e. map (map (undo (pad_id source) place eos)) (g.spans e);
      ended = and_sink (if eos then sink_behind g.links source else None) g.ended;
    }

abbrev pub link_between : PadPlace → PadPlace → PadLink
link_between source sink = record { source = source; sink = sink }

-- a source pad that is not linked is linked to a sink pad
abbrev pub linked_at : PadPlace → ℕ → PadPlace → Edited → Edited
linked_at source place sink g =
    record g {
      links = g.links ++ link_between source sink ∷ [];
      ever = g.ever ++ link_between source sink ∷ [];
      spans = λ e. if e == sink.element then push_span sink.pad (Linked (pad_id source) place []) (g.spans e) else g.spans e;
    }

-- its link is undone, and it is linked to another sink pad
abbrev pub relinked_at : PadPlace → ℕ → PadPlace → Edited → Edited
relinked_at source place sink g = linked_at source place sink (unlinked_at source place false g)

-- an element without links
abbrev pub added : Made → Edited → Edited
added m g =
    record g {
      made = g.made ++ m ∷ [];
      spans = λ e. if e == length g.made then replicate (sink_pads m.settings) [] else g.spans e;
    }

-- an element is taken away; what it was given stays as it was
abbrev pub without_element : ℕ → Edited → Edited
without_element e g = record g { removed = g.removed ++ e ∷ [] }
