-- Which links a line has, and why it has none.
use Rattle.std.specs.Prelude.{◌≡◌, ◌<◌, ◌≤◌, ℕ, Bool, true, false, List, [], ◌∷◌, ◌++◌, Option, None, Some, Result, Ok, Err, IsTrue, map, length, slice_get}
use Rattle.std.specs.Option.{option_map_or}
use Rattle.gst_caps.specs.Accepts.{accepts}
use Rattle.gst_value.specs.Description.{Description, IsFixed}
use Rattle.gst_caps.specs.declared.caps.Caps.{Caps}
use Rattle.gst_caps.specs.declared.caps.Caps.TheVariants.{Any}
use Rattle.gst_value.specs.declared.one.One.{One}
use Rattle.graph_order.specs.Links.{Way}
use Rattle.graph_order.specs.Forward.{IsForward, count_of, link_of, links_of}
use Rattle.graph_order.specs.declared.link.Link.{Link}
use Rattle.pad_core.specs.declared.linking.LinkReturn.{LinkReturn}
use Rattle.pad_core.specs.declared.linking.LinkReturn.TheVariants.{WasLinked, WrongDirection, NoFormat}
use Rattle.el_settings.specs.Asked.{template_of}
use Rattle.graph_core.specs.Comes.{Comes}
use Rattle.graph_core.specs.Asked.{End}
use Rattle.graph_core.specs.Elements.{Made}
use Rattle.graph_core.specs.Ends.{IsEndPad, name_at, pad_name, pads_at}
use Rattle.graph_pads.specs.Pads.{links_at, makes}
use Rattle.graph_pads.specs.Links.{is_linked, is_wrong}
use Rattle.graph_core.specs.declared.fault.BuildFault.{BuildFault}
use Rattle.graph_core.specs.declared.fault.BuildFault.TheVariants.{NoSuch, LinkRefused, OutOfMemory}
use Rattle.graph_core.specs.declared.fault.What.TheVariants.{Order}
use Rattle.graph_core.specs.declared.links.Links.{Links}
use Rattle.graph_pads.specs.declared.pad.Direction.{Direction}
use Rattle.graph_pads.specs.declared.pad.Direction.TheVariants.{Source, Sink}
use Rattle.graph_pads.specs.declared.pad.Pad.{Pad}
use Rattle.graph_pads.specs.declared.pad.PadLink.{PadLink}

-- the caps that an element's sink pads take, or else its source pads, where it is there
abbrev pub caps_at : List Made → Bool → ℕ → Caps
caps_at made sink element = option_map_or (λ (m : Made). template_of m.settings sink) (slice_get made element) Any

-- some fixed caps are in both
abbrev pub HaveCommon : Caps → Caps → Type 0
HaveCommon one other = (x : Description One) × IsFixed x × IsTrue (accepts one x) × IsTrue (accepts other x)

-- Two pads are refused for their directions, for another link, for want of common caps, in this order, or are not.
abbrev pub IsJudged : List Made → List PadLink → Pad → Pad → Option LinkReturn → Type 0
IsJudged made links left right None = (is_wrong left right ≡ false) × (is_linked links left right ≡ false) × HaveCommon (caps_at made false left.place.element) (caps_at made true right.place.element)
IsJudged made links left right (Some WrongDirection) = is_wrong left right ≡ true
IsJudged made links left right (Some WasLinked) = (is_wrong left right ≡ false) × (is_linked links left right ≡ true)
IsJudged made links left right (Some NoFormat) = (is_wrong left right ≡ false) × (is_linked links left right ≡ false) × ¬ HaveCommon (caps_at made false left.place.element) (caps_at made true right.place.element)
IsJudged made links left right (Some _) = ⊥

-- the links between elements
abbrev pub way_of : PadLink → Link
way_of link = link_of link.source.element link.sink.element

abbrev pub ways : List PadLink → List Link
ways links = map way_of links

-- a way from one element to another
abbrev pub Leads : List PadLink → ℕ → ℕ → Type 0
Leads links from to = Way (ways links) from to

-- the link between two pads that are not refused and that closes no loop
pub record IsJoined (made : List Made) (links : List PadLink) (left right : Pad) (link : PadLink) : Type 0 where
  pub judged : IsJudged made links left right None
  pub forward : ¬ Leads links right.place.element left.place.element
  pub source : link.source ≡ left.place
  pub sink : link.sink ≡ right.place

-- why two pads are not linked; that the link would close a loop is told last
pub data IsUnjoined (made : List Made) (links : List PadLink) (left right : Pad) : BuildFault → Type 0 where
  refused : (ret : LinkReturn) → IsJudged made links left right (Some ret) → IsUnjoined made links left right (LinkRefused (pad_name made left) (pad_name made right) ret)
  loops : IsJudged made links left right None → Leads links right.place.element left.place.element → IsUnjoined made links left right (NoSuch (name_at made left.place.element) Order)
  memory : IsUnjoined made links left right OutOfMemory

-- the link between two ends
pub record IsLinked (made : List Made) (links : List PadLink) (ends : End × End) (link : PadLink) : Type 0 where
  pub left : Pad
  pub right : Pad
  pub leaves : IsEndPad made links Source ends.0 (Ok left)
  pub enters : IsEndPad made links Sink ends.1 (Ok right)
  pub joined : IsJoined made links left right link

-- why there is none: the left end, the right end, and the two pads, in this order
pub data IsUnlinked (made : List Made) (links : List PadLink) (ends : End × End) : BuildFault → Type 0 where
  left : (fault : BuildFault) → IsEndPad made links Source ends.0 (Err fault) → IsUnlinked made links ends fault
  right : (from : Pad) (fault : BuildFault) → IsEndPad made links Source ends.0 (Ok from) → IsEndPad made links Sink ends.1 (Err fault) → IsUnlinked made links ends fault
  both : (from to : Pad) (fault : BuildFault) → IsEndPad made links Source ends.0 (Ok from) → IsEndPad made links Sink ends.1 (Ok to) → IsUnjoined made links from to fault → IsUnlinked made links ends fault
  memory : IsUnlinked made links ends OutOfMemory

-- the links of a line between its elements, or why it has none
abbrev pub LinksCome : List Made → List PadLink → List (End × End) → Result (List PadLink) BuildFault → Type 0
LinksCome made = Comes (IsLinked made) (IsUnlinked made)

-- no more than 64 links make pads of one direction of an element
abbrev pub AreFew : List Made → List PadLink → Type 0
AreFew made links = (e : ℕ) (m : Made) (direction : Direction) → slice_get made e ≡ Some m → makes direction m.settings ≡ true → links_at links direction e ≤ 64

-- the link's pads are those of its elements
abbrev pub HasPads : List Made → PadLink → Type 0
HasPads made link = (link.source.pad < pads_at made Source link.source.element) × (link.sink.pad < pads_at made Sink link.sink.element)

-- Whatever comes of what is behind comes of these links before it.
abbrev pub LinksFollow : List Made → List PadLink → List (End × End) → List PadLink → Type 0
LinksFollow made before ends after = (rest : List (End × End)) (answer : Result (List PadLink) BuildFault) → LinksCome made after rest answer → LinksCome made before (ends ++ rest) answer

-- One of these is the first that is refused, whatever is behind.
abbrev pub LinksStop : List Made → List PadLink → List (End × End) → BuildFault → Type 0
LinksStop made before ends fault = (rest : List (End × End)) → LinksCome made before (ends ++ rest) (Err fault)

-- the link between two pads is made behind the others
abbrev pub Joins : List Made → List PadLink → Pad → Pad → List PadLink → Type 0
Joins made before from to after = (link : PadLink) × IsJoined made before from to link × (after ≡ before ++ link ∷ [])

abbrev pub one_link : End → End → List (End × End)
one_link from to = (from, to) ∷ []

abbrev pub all_links : Links → List PadLink
all_links links = links.made.items

-- the elements stand in an order in which each link goes forward
pub record AreOrdered (made : List Made) (links : Links) : Type 0 where
  pub count : count_of links.order ≡ length made
  pub ways : links_of links.order ≡ ways (all_links links)
  pub forward : IsForward links.order
