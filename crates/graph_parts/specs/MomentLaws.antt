-- What moments of a graph's run start from, and what is said of the graph by them.
use Rattle.std.specs.Prelude.{◌≡◌, ◌<◌, ◌%◌, ◌++◌, ℕ, true, false, List, [], ◌∷◌, Option, None, Some, if◌then◌else◌, length, slice_get}
use Rattle.flow_model.specs.Item.{Item}
use Rattle.flow_model.specs.Sticky.{has_flush_stop}
use Rattle.flow_model.specs.Call.{Call}
use Rattle.flow_model.specs.Section.{IsPlain}
use Rattle.flow_model.specs.Eval.{Plan, inputs, eval, eval_whole}
use Rattle.flow_model.specs.Account.{GoesForward, IsMember}
use Rattle.pad_core.specs.Crossing.{has_ended}
use Rattle.flow_model.specs.Moment.{Moment, CellStands, behavior_at}
use Rattle.flow_model.specs.Split.{AreEmpty}
use Rattle.flow_model.specs.Step.{Leads, LeadsNowhere}
use Rattle.flow_model.specs.Opening.{AtStart, no_calls, opening}
use Rattle.flow_model.specs.Whole.{OwesInOrder, CellBegins}
use Rattle.el_settings.specs.Asked.{is_source, makes_sinks}
use Rattle.el_set.specs.Made.{list_of}
use Rattle.task_elements.specs.Made.{behavior_of}
use Rattle.graph_core.specs.Elements.{Made, has}
use Rattle.graph_core.specs.Graph.{IsSound, made as made_in, links as links_in, forward as forward_in}
use Rattle.graph_pads.specs.Links.{sink_behind}
use Rattle.graph_core.specs.declared.graph.Graph.{Graph}
use Rattle.graph_pads.specs.declared.pad.PadPlace.{PadPlace}
use Rattle.graph_core.specs.LinkedOnce.{AreOnce}
use Rattle.graph_core.specs.GraphPlan.{graph_plan, most_pads, owner_of, pad_id}
use Rattle.graph_parts.specs.Pads.{IsThere, is_pad, pad_owner, at_pads}
use Rattle.graph_parts.specs.Plans.{tight_plan, moment_plan, moment_answers}

-- the place of a source pad by its number
abbrev pub place_of : ℕ → PadPlace
place_of p = record { element = owner_of p; pad = p % most_pads }

-- A source pad that is there has this number, which tells its element and its place there.
pub record HasNumber (made : List Made) (place : PadPlace) (p : ℕ) : Type 0 where
  pub there : IsThere made place
  pub number : p ≡ pad_id place
  pub pad : is_pad made p ≡ true
  pub owner : pad_owner made p ≡ place.element
  pub port : p % most_pads ≡ place.pad

abbrev pub PadsHaveNumbers : Type 0
PadsHaveNumbers = (made : List Made) (place : PadPlace) → IsThere made place → HasNumber made place (pad_id place)

-- Each number that belongs to an element is that of a source pad.
abbrev pub NumbersHavePads : Type 0
NumbersHavePads = (made : List Made) (p : ℕ) → pad_owner made p < length made → HasNumber made (place_of p) p

-- two plans have the same history at a source pad, cut at the counts and whole
pub record SameAt (plan other : Plan) (p : ℕ) : Type 0 where
  pub cut : eval plan p ≡ eval other p
  pub whole : eval_whole plan p ≡ eval_whole other p

-- At each source pad the tight plan has the histories that the graph's plan has.
abbrev pub TightIsAlike : Type 0
TightIsAlike = (contents : ℕ → List ℕ) (graph : Graph) (count : ℕ → ℕ) → IsSound graph → (p : ℕ) → is_pad (made_in graph) p ≡ true
    → SameAt (tight_plan contents graph count) (graph_plan contents graph count) p

-- nothing was done to the graph yet
abbrev pub MomentStarts : Type 0
MomentStarts = (contents : ℕ → List ℕ) (graph : Graph) → AtStart (moment_plan contents graph)

-- so every element stands when its run begins
abbrev pub MomentStands : Type 0
MomentStands = (contents : ℕ → List ℕ) (graph : Graph) (e : ℕ) → CellStands (opening (moment_plan contents graph) (moment_answers graph)) e

-- There an element that is no source does what its settings say.
abbrev pub BehaviorsAreTold : Type 0
BehaviorsAreTold = (contents : ℕ → List ℕ) (graph : Graph) (e : ℕ) (m : Made) → slice_get (made_in graph) e ≡ Some m → (is_source m.settings) ≡ false
    → behavior_of m.settings ≡ behavior_at (opening (moment_plan contents graph) (moment_answers graph)) e

-- each link comes from an element that stands earlier in the order
abbrev pub MomentGoes : Type 0
MomentGoes = (contents : ℕ → List ℕ) (graph : Graph) → IsSound graph → GoesForward (moment_plan contents graph) [] (forward_in graph)

-- the order has the graph's elements and no other
pub record IsWholeOrder (graph : Graph) : Type 0 where
  pub whole : (e : ℕ) → e < length (made_in graph) → IsMember e (forward_in graph)
  pub within : (e : ℕ) → IsMember e (forward_in graph) → e < length (made_in graph)

abbrev pub OrdersAreWhole : Type 0
OrdersAreWhole = (graph : Graph) → IsSound graph → IsWholeOrder graph

-- A source pad leads to the sink pad that it is linked to, and nowhere else.
abbrev pub LinksLead : Type 0
LinksLead = (contents : ℕ → List ℕ) (graph : Graph) (source sink : PadPlace) → IsSound graph → AreOnce (links_in graph)
    → sink_behind (links_in graph) source ≡ Some sink
    → Leads (moment_plan contents graph) (pad_id source) sink.element sink.pad

-- One that is not linked leads nowhere.
abbrev pub UnlinkedLead : Type 0
UnlinkedLead = (contents : ℕ → List ℕ) (graph : Graph) (source : PadPlace) → IsSound graph → AreOnce (links_in graph)
    → IsThere (made_in graph) source → sink_behind (links_in graph) source ≡ None → LeadsNowhere (moment_plan contents graph) (pad_id source)

-- Whatever an element took of which no link makes a sink pad, it owes a beginning of what it owes for more. One of which links
-- make sink pads owes that for what it stands for.
abbrev pub RulesGoOn : Type 0
RulesGoOn = (contents : ℕ → List ℕ) (graph : Graph) (e : ℕ) (took : List (List Call)) → has makes_sinks (made_in graph) e ≡ false
    → OwesInOrder ((moment_plan contents graph).rule e) took

-- For nothing an element that is no source owes nothing.
abbrev pub OwesNoneAtFirst : Type 0
OwesNoneAtFirst = (contents : ℕ → List ℕ) (graph : Graph) (e port j : ℕ) → has is_source (made_in graph) e ≡ false
    → (moment_plan contents graph).rule e (no_calls (moment_plan contents graph) e) port j ≡ []

-- what an element gives by itself before any seek: a source its list, by the content of its file, and each other nothing
abbrev pub given_by : Option Made → ℕ → List ℕ → List Item
given_by None e content = []
given_by (Some m) e content = if is_source m.settings then list_of m.settings e content else []

-- At the start what a source is to give waits at its pad, and at each other pad nothing.
abbrev pub SourcesWait : Type 0
SourcesWait = (contents : ℕ → List ℕ) (graph : Graph) (p : ℕ)
    → let e = pad_owner (made_in graph) p in
    (opening (moment_plan contents graph) (moment_answers graph)).waits p ≡ given_by (slice_get (made_in graph) e) e (contents e)

-- No section of what an element owes has a FLUSH_STOP.
abbrev pub SectionsAreOne : Type 0
SectionsAreOne = (contents : ℕ → List ℕ) (graph : Graph) (e : ℕ) (took : List (List Call)) (port j : ℕ)
    → has_flush_stop ((moment_plan contents graph).rule e took port j) ≡ false

-- For whatever an element took, no section of what it owes has a FLUSH_STOP or anything behind an EOS.
abbrev pub SectionsArePlain : Type 0
SectionsArePlain = (contents : ℕ → List ℕ) (graph : Graph) (e : ℕ) (took : List (List Call)) (port j : ℕ)
    → IsPlain ((moment_plan contents graph).rule e took port j)

-- So the last item that it owes in its first section comes behind no EOS.
abbrev pub OwesNoneBehind : Type 0
OwesNoneBehind = (contents : ℕ → List ℕ) (graph : Graph) (e port : ℕ) (took : List (List Call)) (front : List Item) (last : Item)
    → (moment_plan contents graph).rule e took port 0 ≡ front ++ last ∷ [] → has_ended front ≡ false

-- Where each element took beginnings of what its links give, and what crossed its pads is what it owes for that, the histories
-- are those of the evaluation of the graph, cut at their lengths.
abbrev pub MomentIsGraph : Type 0
MomentIsGraph = (contents : ℕ → List ℕ) (graph : Graph) (m : Moment) → IsSound graph → m.plan ≡ moment_plan contents graph
    → ((e : ℕ) → e < length (made_in graph) → CellBegins m e)
    → (p : ℕ) → eval (graph_plan contents graph (λ q. length (at_pads (made_in graph) m.history q))) p ≡ at_pads (made_in graph) m.history p

-- nothing waits at a source pad, and nothing stands in an inlet
pub record IsIdle (made : List Made) (m : Moment) : Type 0 where
  pub pads : (p : ℕ) → is_pad made p ≡ true → m.waits p ≡ []
  pub inlets : (e : ℕ) → e < length made → AreEmpty (m.held e)

-- The histories are those of the whole evaluation of the graph, and each element, a sink too, took all that it is given there.
pub record IsWhole (contents : ℕ → List ℕ) (graph : Graph) (m : Moment) : Type 0 where
  pub pads : (count : ℕ → ℕ) (p : ℕ) → is_pad (made_in graph) p ≡ true → eval_whole (graph_plan contents graph count) p ≡ m.history p
  pub inputs : (count : ℕ → ℕ) (e : ℕ) → e < length (made_in graph) → let plan = graph_plan contents graph count in m.took e ≡ inputs plan (eval_whole plan) e

-- That is so where all elements stand and nothing waits.
abbrev pub EndIsGraph : Type 0
EndIsGraph = (contents : ℕ → List ℕ) (graph : Graph) (m : Moment) → IsSound graph → m.plan ≡ moment_plan contents graph
    → ((e : ℕ) → e < length (made_in graph) → CellStands m e) → IsIdle (made_in graph) m → IsWhole contents graph m
