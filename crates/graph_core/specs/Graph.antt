-- The graph of a launch line.
use Rattle.std.specs.Prelude.{◌≡◌, ◌⊎◌, ℕ, Bool, All, List, [], Ok, Err}
use Rattle.launch_text.specs.declared.tree.Tree.{Tree}
use Rattle.graph_order.specs.Forward.{forward_of}
use Rattle.graph_order.specs.Marks.{is_marked}
use Rattle.graph_core.specs.Allowed.{AreAllowed, AreCounted, IsTooWide, checked}
use Rattle.graph_core.specs.Asked.{asked, declared}
use Rattle.graph_core.specs.Elements.{ElementsCome, Made, all_made}
use Rattle.graph_core.specs.Links.{AreOrdered, HasPads, LinksCome, all_links}
use Rattle.graph_core.specs.Live.{AreLive}
use Rattle.graph_core.specs.declared.fault.BuildFault.{BuildFault}
use Rattle.graph_core.specs.declared.fault.BuildFault.TheVariants.{OutOfMemory, TooMany}
use Rattle.graph_core.specs.declared.graph.Graph.{Graph}
use Rattle.graph_pads.specs.declared.pad.PadLink.{PadLink}

abbrev pub made : Graph → List Made
made graph = all_made graph.elements

abbrev pub links : Graph → List PadLink
links graph = all_links graph.links

abbrev pub forward : Graph → List ℕ
forward graph = forward_of graph.links.order

abbrev pub is_live : Graph → ℕ → Bool
is_live graph e = is_marked graph.live.items e

-- A line has this graph: its elements, as their properties set them, its links with the pads that they make, and what its
-- converters are allowed.
pub record IsGraph (tree : Tree) (graph : Graph) : Type 0 where
  pub elements : ElementsCome [] (declared tree) (Ok (checked (made graph)))
  pub links : LinksCome (checked (made graph)) [] (asked tree) (Ok (links graph))
  pub pads : AreCounted (made graph) (all_links graph.links)
  pub allowed : AreAllowed (made graph) (all_links graph.links)

-- A line has its elements and its links, but what one of its converters is allowed is too many caps.
pub record HasTooWide (tree : Tree) : Type 0 where
  pub made : List Made
  pub links : List PadLink
  pub elements : ElementsCome [] (declared tree) (Ok made)
  pub linked : LinksCome made [] (asked tree) (Ok links)
  pub wide : IsTooWide made links

-- A line has no graph: the fault is the first of its elements, or that of its links where it has its elements, or that
-- of what its converters are allowed where it has its links too.
abbrev pub IsFault : Tree → BuildFault → Type 0
IsFault tree fault =
    ElementsCome [] (declared tree) (Err fault)
    ⊎ (((elements : List Made) × ElementsCome [] (declared tree) (Ok elements) × LinksCome elements [] (asked tree) (Err fault))
    ⊎ (HasTooWide tree × (fault ≡ TooMany 65)))

-- the fault of a line, or memory is wanting
abbrev pub IsFaultOrMemory : Tree → BuildFault → Type 0
IsFaultOrMemory tree fault = (fault ≡ OutOfMemory) ⊎ IsFault tree fault

-- Each element stands in the order once, and each link goes forward; its pads are there, and no others are that links make;
-- the live elements are marked.
pub record IsSound (graph : Graph) : Type 0 where
  pub pads : All (HasPads (made graph)) (links graph)
  pub counted : AreCounted (made graph) (links graph)
  pub order : AreOrdered (made graph) graph.links
  pub live : AreLive (made graph) (links graph) graph.live.items
