-- What comes of a link and of an element that is asked for.
use Rattle.std.specs.Prelude.{◌≡◌, ◌<◌, ℕ, true, false, length}
use Rattle.graph_edits.specs.Edited.{Edited, added, linked_at, relinked_at}
use Rattle.graph_edits.specs.Refused.{Loops}
use Rattle.el_settings.specs.Asked.{makes_sinks}
use Rattle.graph_core.specs.Asked.{Declared}
use Rattle.graph_core.specs.Elements.{IsMade, IsUnmade, Made}
use Rattle.graph_core.specs.declared.fault.BuildFault.{BuildFault}
use Rattle.graph_edits.specs.Graph.{IsEdited, made}
use Rattle.graph_edits.specs.declared.changes.Adding.{Adding}
use Rattle.graph_edits.specs.declared.changes.Adding.TheVariants.{Added, NotPlain}
use Rattle.graph_edits.specs.declared.graph.EditedGraph.{EditedGraph}
use Rattle.graph_order.specs.declared.order.Linking.{Linking}
use Rattle.graph_order.specs.declared.order.Linking.TheVariants.{Linked, Loops as WouldLoop}
use Rattle.graph_pads.specs.declared.pad.PadPlace.{PadPlace}

-- Two pads are linked, or elements would feed themselves and nothing changes.
abbrev pub AfterLink : EditedGraph → PadPlace → PadPlace → EditedGraph → Linking → Type 0
AfterLink old source sink new Linked = (g : Edited) (place : ℕ) → IsEdited old g → ¬ Loops g source sink × IsEdited new (linked_at source place sink g)
AfterLink old source sink new WouldLoop = (g : Edited) → IsEdited old g → Loops g source sink × IsEdited new g

-- The link of the source pad, if any, is undone, and the pad is linked to the sink pad; or elements would feed themselves and nothing changes.
abbrev pub AfterRelink : EditedGraph → PadPlace → PadPlace → EditedGraph → Linking → Type 0
AfterRelink old source sink new Linked = (g : Edited) (place : ℕ) → IsEdited old g → ¬ Loops g source sink × IsEdited new (relinked_at source place sink g)
AfterRelink old source sink new WouldLoop = (g : Edited) → IsEdited old g → Loops g source sink × IsEdited new g

-- The element that was asked for stands behind the others, and has this number.
pub record HasAdded (g : Edited) (d : Declared) (n : ℕ) (new : EditedGraph) : Type 0 where
  pub number : n ≡ length g.made
  pub element : Made
  pub made : IsMade g.made d element
  pub plain : makes_sinks element.settings ≡ false
  pub edited : IsEdited new (added element g)

-- Links would make sink pads of the element that was asked for, and nothing changes.
pub record HasNotAdded (g : Edited) (d : Declared) (new : EditedGraph) : Type 0 where
  pub element : Made
  pub made : IsMade g.made d element
  pub gathers : makes_sinks element.settings ≡ true
  pub edited : IsEdited new g

-- an element is added, or is not since it is of a kind that is not plain
abbrev pub AfterAdd : EditedGraph → Declared → EditedGraph → Adding → Type 0
AfterAdd old d new (Added number) = (g : Edited) → IsEdited old g → HasAdded g d number new
AfterAdd old d new NotPlain = (g : Edited) → IsEdited old g → HasNotAdded g d new

-- the element is not made for this fault, and nothing changes
abbrev pub AfterFault : EditedGraph → Declared → EditedGraph → BuildFault → Type 0
AfterFault old d new fault = (g : Edited) → IsEdited old g → IsUnmade g.made d fault × IsEdited new g

-- the number of an added element is one of the graph
abbrev pub IsNumbered : EditedGraph → Adding → Type 0
IsNumbered graph (Added number) = number < length (made graph)
IsNumbered graph NotPlain = Unit {0}
