-- The run for which a program's words ask.
use Rattle.std.specs.Prelude.{◌≡◌, ℕ, List}
use Rattle.launch_text.specs.declared.tree.Tree.{Tree}
use Rattle.run_words.specs.Said.{options_of}
use Rattle.graph_core.specs.Graph.{IsGraph, IsSound}
use Rattle.line_read.specs.Lines.{HasTree}
use Rattle.line_read.specs.declared.request.Request.{Request}

-- the words ask for the graph of their line's tree, and the options are those that they say
pub record IsRequest (words : List (List ℕ)) (request : Request) : Type 0 where
  pub tree : Tree
  pub has_tree : HasTree words tree
  pub graph : IsGraph tree request.graph
  pub sound : IsSound request.graph
  pub script : request.script ≡ (options_of words).script
  pub threads : request.threads ≡ (options_of words).threads
  pub order : request.order ≡ (options_of words).order
  pub quiet : request.quiet ≡ (options_of words).quiet
