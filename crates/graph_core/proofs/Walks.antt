-- Lists that are gone over from the front.
use Rattle.std.proofs.Common.{◌≡◌, ◌<◌, ◌≤◌, ◌+◌, ℕ, List, [], ◌++◌, length, get_or, drop, map, sym, ap, ◌∙◌, subst, append_assoc, Result, Ok, Err}
use Rattle.std.proofs.lemmas.List.{drop_all}
use Rattle.graph_core.specs.Asked.{Declared, declared_by, chain_elements, elements_in}
use Rattle.graph_core.specs.Comes.{Comes}
use Rattle.graph_core.specs.Elements.{Made, ElementsCome, Follows, Stops}
use Rattle.graph_core.specs.declared.fault.BuildFault.{BuildFault}
use Rattle.launch_text.specs.declared.tree.Node.{Node}
use Rattle.launch_text.specs.declared.tree.Chain.{Chain}
use Rattle.gst_value.proofs.Places.{drop_next as next_left}

module _ (first now new : List Made) (nodes : List Node) (i : ℕ) (node : Node) (within : i < length nodes) (is : node ≡ get_or nodes i node)
    (so_far : (rest : List Declared) (answer : Result (List Made) BuildFault) → ElementsCome now (chain_elements (drop i nodes) ++ rest) answer → ElementsCome first (chain_elements nodes ++ rest) answer) where
  parted : (rest : List Declared) → chain_elements (drop i nodes) ++ rest ≡ declared_by node ++ (chain_elements (drop (i + 1) nodes) ++ rest)
  parted rest = ap (λ ns. chain_elements ns ++ rest) (next_left nodes i node within is) ∙ append_assoc (declared_by node) (chain_elements (drop (i + 1) nodes)) rest

  pub node_follows : Follows now (declared_by node) new → (rest : List Declared) (answer : Result (List Made) BuildFault) → ElementsCome new (chain_elements (drop (i + 1) nodes) ++ rest) answer → ElementsCome first (chain_elements nodes ++ rest) answer
  node_follows follows rest answer comes = so_far rest answer (subst (λ (ds : List Declared). ElementsCome now ds answer) (sym (parted rest)) (follows (chain_elements (drop (i + 1) nodes) ++ rest) answer comes))

  pub node_stops : (fault : BuildFault) → Stops now (declared_by node) fault → Stops first (chain_elements nodes) fault
  node_stops fault stops = λ rest. so_far rest (Err fault) (subst (λ (ds : List Declared). ElementsCome now ds (Err fault)) (sym (parted rest)) (stops (chain_elements (drop (i + 1) nodes) ++ rest)))

module _ {R : Type 0} (chain_of : R → Chain) (now new : List Made) (chains : List R) (i : ℕ) (chain : R) (within : i < length chains) (is : chain ≡ get_or chains i chain)
    (so_far : (answer : Result (List Made) BuildFault) → ElementsCome now (elements_in (map chain_of (drop i chains))) answer → ElementsCome [] (elements_in (map chain_of chains)) answer) where
  chain_parted : elements_in (map chain_of (drop i chains)) ≡ chain_elements (chain_of chain).nodes ++ elements_in (map chain_of (drop (i + 1) chains))
  chain_parted = ap (λ cs. elements_in (map chain_of cs)) (next_left chains i chain within is)

  pub chain_follows : Follows now (chain_elements (chain_of chain).nodes) new → (answer : Result (List Made) BuildFault) → ElementsCome new (elements_in (map chain_of (drop (i + 1) chains))) answer → ElementsCome [] (elements_in (map chain_of chains)) answer
  chain_follows follows answer comes = so_far answer (subst (λ (ds : List Declared). ElementsCome now ds answer) (sym chain_parted) (follows (elements_in (map chain_of (drop (i + 1) chains))) answer comes))

  pub chain_stops : (fault : BuildFault) → Stops now (chain_elements (chain_of chain).nodes) fault → ElementsCome [] (elements_in (map chain_of chains)) (Err fault)
  chain_stops fault stops = so_far (Err fault) (subst (λ (ds : List Declared). ElementsCome now ds (Err fault)) (sym chain_parted) (stops (elements_in (map chain_of (drop (i + 1) chains)))))

pub chains_done : {R : Type 0} (chain_of : R → Chain) (now : List Made) (chains : List R) (i : ℕ) → length chains ≤ i
    → ((answer : Result (List Made) BuildFault) → ElementsCome now (elements_in (map chain_of (drop i chains))) answer → ElementsCome [] (elements_in (map chain_of chains)) answer) → ElementsCome [] (elements_in (map chain_of chains)) (Ok now)
chains_done chain_of now chains i past so_far = so_far (Ok now) (subst (λ (cs : List _). ElementsCome now (elements_in (map chain_of cs)) (Ok now)) (sym (drop_all i chains past)) (Comes.all now))
