-- What the elements of a graph owe, and what came to its sinks, by what crossed its pads.
use Rattle.std.specs.Prelude.{◌≡◌, ◌<◌, ℕ, true, false, List, [], ◌∷◌, ◌++◌, None, Some, if◌then◌else◌, map, slice_get, take}
use Rattle.std.specs.List.{range_with_len}
use Rattle.flow_model.specs.declared.fault.ElementFault.{ElementFault}
use Rattle.gst_outside.specs.Bytes.{written}
use Rattle.flow_model.specs.Call.{Call, Feed, feeds}
use Rattle.flow_model.specs.Eval.{eval_whole}
use Rattle.flow_model.specs.Feeding.{IsFaultOf}
use Rattle.flow_model.specs.Item.{Item, body_of, is_buffer, eos_among}
use Rattle.flow_model.specs.Prefix.{ArePrefixes, IsPrefix}
use Rattle.flow_model.specs.SinkBytes.{disk_after, sink_bytes}
use Rattle.flow_model.specs.SinkPads.{push_calls}
use Rattle.el_settings.specs.Asked.{is_sink, is_source, sink_pads, source_pads, writes}
use Rattle.el_set.specs.Denoted.{answers_of, rule_of}
use Rattle.el_set.specs.Made.{keeps_flushed, list_of}
use Rattle.el_settings.specs.declared.settings.Settings.{Settings}
use Rattle.graph_core.specs.Elements.{Made}
use Rattle.graph_core.specs.Graph.{is_live, made as made_in, links as links_in}
use Rattle.graph_pads.specs.Links.{sink_behind, source_before}
use Rattle.graph_core.specs.declared.graph.Graph.{Graph}
use Rattle.graph_pads.specs.declared.pad.PadLink.{PadLink}
use Rattle.graph_pads.specs.declared.pad.PadPlace.{PadPlace}
use Rattle.graph_core.specs.Allowed.{first_pad}
use Rattle.graph_core.specs.GraphPlan.{before_it, graph_plan, pad_id, sink_count, sink_at as place_at}
use Rattle.graph_parts.specs.Links.{has_inlets}
use Rattle.graph_parts.specs.Pads.{is_pad}

-- what crossed the source pad before a sink pad
abbrev pub came_to : List PadLink → (ℕ → List Item) → PadPlace → List Item
came_to links h sink = before_it h (source_before links sink)

-- what came to each sink pad of an element, in their order
abbrev pub inputs_to : List Made → List PadLink → (ℕ → List Item) → ℕ → List (List Item)
inputs_to made links h e = map (λ k. came_to links h (place_at e k)) (range_with_len 0 (sink_count (slice_get made e)))

-- what crossed a source pad
abbrev pub went_from : (ℕ → List Item) → PadPlace → List Item
went_from h source = h (pad_id source)

-- What is owed to a source pad of an element: a source's list for the content of its file, and what the rule of another owes there
-- for all that came to it.
abbrev pub owed_by : (ℕ → List ℕ) → List Made → List PadLink → (ℕ → List Item) → PadPlace → Settings → List Item
owed_by contents made links h source settings =
    if is_source settings then list_of settings source.element (contents source.element)
    else rule_of settings (map feeds (inputs_to made links h source.element)) source.pad 0

-- the next item that is owed to a source pad
pub record IsNext (contents : ℕ → List ℕ) (made : List Made) (links : List PadLink) (h : ℕ → List Item) (source : PadPlace) (item : Item) : Type 0 where
  pub element : Made
  pub at : slice_get made source.element ≡ Some element
  pub there : source.pad < source_pads element.settings
  pub next : IsPrefix (went_from h source ++ item ∷ []) (owed_by contents made links h source element.settings)

-- another item is owed to a source pad
abbrev pub IsOwedMore : (ℕ → List ℕ) → List Made → List PadLink → (ℕ → List Item) → PadPlace → Type 0
IsOwedMore contents made links h source = (item : Item) × IsNext contents made links h source item

-- this is the next item that is owed to the source pad before a sink pad
pub record IsAwaited (contents : ℕ → List ℕ) (made : List Made) (links : List PadLink) (h : ℕ → List Item) (sink : PadPlace) (item : Item) : Type 0 where
  pub before : PadPlace
  pub linked : source_before links sink ≡ Some before
  pub next : IsNext contents made links h before item

-- The rule of an element has this fault at its next item. That is the next item which is owed to the source pad before a sink pad
-- of it, and it took all that came; or where the element is fed from inlets, which may hold more, the item came to a sink pad of it
-- behind what it took.
pub data Refuses (contents : ℕ → List ℕ) (made : List Made) (links : List PadLink) (h : ℕ → List Item) (d : ℕ) (settings : Settings)
    (fault : ElementFault) : Type 0 where
  at_awaited : (pad : ℕ) (item : Item) → has_inlets settings ≡ false → IsAwaited contents made links h (place_at d pad) item
      → IsFaultOf (answers_of settings (map feeds (inputs_to made links h d)) pad item) fault → Refuses contents made links h d settings fault
  from_inlet : (pad : ℕ) (item : Item) (took : List (List Call)) → has_inlets settings ≡ true → pad < sink_pads settings
      → ArePrefixes (push_calls pad (Feed item ∷ []) took) (map feeds (inputs_to made links h d))
      → IsFaultOf (answers_of settings took pad item) fault → Refuses contents made links h d settings fault

-- a buffer is the next item that is owed to a source pad of an element of which no source pad is linked
pub record WantsLink (contents : ℕ → List ℕ) (made : List Made) (links : List PadLink) (h : ℕ → List Item) (source : PadPlace) : Type 0 where
  pub alone : (pad : ℕ) → sink_behind links (place_at source.element pad) ≡ None
  pub item : Item
  pub next : IsNext contents made links h source item
  pub buffer : is_buffer item ≡ true

-- the bytes of a filesink's file are those of all that came to it
abbrev pub IsWritten : List Made → List PadLink → (ℕ → List Item) → (ℕ → List ℕ) → ℕ → Type 0
IsWritten made links h bytes d =
    (m : Made) → slice_get made d ≡ Some m → writes m.settings ≡ true → bytes d ≡ sink_bytes (keeps_flushed m.settings) (came_to links h (first_pad d))

abbrev pub AreWritten : List Made → List PadLink → (ℕ → List Item) → (ℕ → List ℕ) → Type 0
AreWritten made links h bytes = (d : ℕ) → IsWritten made links h bytes d

-- Behind the bytes of all that came to a filesink stands a beginning of the body of the next item that is owed to the pad
-- before it.
pub record IsPartWritten (contents : ℕ → List ℕ) (made : List Made) (links : List PadLink) (h : ℕ → List Item) (bytes : ℕ → List ℕ)
    (d : ℕ) (settings : Settings) : Type 0 where
  pub item : Item
  pub awaited : IsAwaited contents made links h (first_pad d) item
  pub part : ℕ
  pub bytes_are :
      let disk = disk_after (keeps_flushed settings) (came_to links h (first_pad d)) in bytes d ≡ written disk.bytes disk.place (take part (body_of item))

-- every pad is whole: nothing that is owed was left waiting
abbrev pub AreWhole : (ℕ → List ℕ) → Graph → (ℕ → List Item) → Type 0
AreWhole contents graph h = (count : ℕ → ℕ) (p : ℕ) → is_pad (made_in graph) p ≡ true → eval_whole (graph_plan contents graph count) p ≡ h p

-- EOS came to each live sink
abbrev pub AreOver : Graph → (ℕ → List Item) → Type 0
AreOver graph h =
    (d : ℕ) (m : Made) → slice_get (made_in graph) d ≡ Some m → is_sink m.settings ≡ true → is_live graph d ≡ true
    → eos_among (came_to (links_in graph) h (first_pad d)) ≡ true
