-- Words ask for one run, or are refused for one fault.
use Rattle.std.specs.Prelude.{◌≡◌, ℕ, List}
use Rattle.graph_core.specs.Graph.{links, made}
use Rattle.line_read.specs.Refusals.{IsRefusal}
use Rattle.line_read.specs.Requests.{IsRequest}
use Rattle.line_read.specs.declared.refusal.Refusal.{Refusal}
use Rattle.line_read.specs.declared.request.Request.{Request}

-- the same options, and graphs with the same elements and links
pub record AreAlike (one other : Request) : Type 0 where
  pub script : one.script ≡ other.script
  pub threads : one.threads ≡ other.threads
  pub order : one.order ≡ other.order
  pub quiet : one.quiet ≡ other.quiet
  pub elements : made one.graph ≡ made other.graph
  pub links : links one.graph ≡ links other.graph

-- words that ask for a run are not refused
abbrev pub NeverBoth : Type 0
NeverBoth = (words : List (List ℕ)) (request : Request) (refusal : Refusal) → IsRequest words request → ¬ IsRefusal words refusal

-- words are refused with one status, for one fault
abbrev pub OneRefusal : Type 0
OneRefusal = (words : List (List ℕ)) (one other : Refusal) → IsRefusal words one → IsRefusal words other → one ≡ other

-- words ask for one run
abbrev pub OneRequest : Type 0
OneRequest = (words : List (List ℕ)) (one other : Request) → IsRequest words one → IsRequest words other → AreAlike one other
