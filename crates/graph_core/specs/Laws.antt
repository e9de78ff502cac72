-- A line has one graph, or one fault.
use Rattle.std.specs.Prelude.{◌≡◌, ◌⊎◌}
use Rattle.launch_text.specs.declared.tree.Tree.{Tree}
use Rattle.graph_core.specs.Graph.{IsFault, IsGraph, links, made}
use Rattle.graph_core.specs.declared.fault.BuildFault.{BuildFault}
use Rattle.graph_core.specs.declared.fault.BuildFault.TheVariants.{OutOfMemory}
use Rattle.graph_core.specs.declared.graph.Graph.{Graph}

-- memory is wanting
abbrev pub IsFree : BuildFault → Type 0
IsFree fault = fault ≡ OutOfMemory

abbrev pub AreSame : BuildFault → BuildFault → Type 0
AreSame fault other = (fault ≡ other) ⊎ (IsFree fault ⊎ IsFree other)

-- a line that has a graph has no fault
abbrev pub NeverBoth : Type 0
NeverBoth = (tree : Tree) (graph : Graph) (fault : BuildFault) → IsGraph tree graph → IsFault tree fault → IsFree fault

abbrev pub OneFault : Type 0
OneFault = (tree : Tree) (fault other : BuildFault) → IsFault tree fault → IsFault tree other → AreSame fault other

abbrev pub OneGraph : Type 0
OneGraph = (tree : Tree) (graph other : Graph) → IsGraph tree graph → IsGraph tree other → (made graph ≡ made other) × (links graph ≡ links other)
