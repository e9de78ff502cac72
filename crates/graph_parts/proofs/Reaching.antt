-- Where the walk from a head has come, and where it ends.
use Rattle.std.proofs.Common.{◌≡◌, ◌<◌, ◌⊎◌, ◌+◌, ℕ, suc, List, [], ◌∷◌, ◌++◌, All, map, length, length-append, reverse, refl, sym, ap, ◌∙◌, subst, inl, inr, append-nil, arith}
use Rattle.std.proofs.lemmas.List.{reverse-append, length-reverse}
use Rattle.flow_model.specs.Account.{IsMember}
use Rattle.graph_order.specs.Forward.{IsMember as IsOrdered}
use Rattle.graph_core.specs.Elements.{Made}
use Rattle.graph_core.specs.Graph.{IsSound, made as made_in, links as links_in, forward as forward_in}
use Rattle.graph_core.specs.Links.{HasPads}
use Rattle.graph_core.specs.declared.graph.Graph.{Graph}
use Rattle.graph_pads.specs.declared.pad.PadLink.{PadLink}
use Rattle.graph_core.specs.LinkedOnce.{AreOnce}
use Rattle.graph_parts.specs.Links.{inside, pads_of, Begins, Reaches}
use Rattle.graph_parts.specs.Bags.{number_of, HavePads, GoBack, DepthFirst}
use Rattle.graph_parts.specs.Walk.{Goes, EndsWith, AreReached}
use Rattle.graph_parts.specs.declared.bag.BagElement.{BagElement}
use Rattle.graph_parts.proofs.Onces.{in_front, in_back, in_either}
use Rattle.graph_parts.proofs.Depths.{depths_more}
use Rattle.graph_parts.proofs.Walks.{Walked, walk_begins, walk_goes, walk_ends}
use Rattle.graph_parts.proofs.Trees.{inside_leads, leads_inside, is_tree, reached_there}

-- more elements may stand before
back_more : (seen more : List ℕ) (cells : List BagElement) → ((d : ℕ) → IsMember d seen → IsMember d more) → GoBack seen cells → GoBack more cells
back_more seen more [] all g = tt
back_more seen more (x ∷ xs) all g = (λ d m. all d (g.0 d m), back_more (x.element ∷ seen) (x.element ∷ more) xs too g.1)
  where
    too : (d : ℕ) → IsMember d (x.element ∷ seen) → IsMember d (x.element ∷ more)
    too d (inl same) = inl same
    too d (inr m) = inr (all d m)

-- The walk has come so far: the elements that were found, the latest first, and the numbers of those that are next.
pub record HasCome (made : List Made) (links : List PadLink) (head : ℕ) (next : List ℕ) (found : List BagElement) : Type 0 where
  pub pads : HavePads made links found
  pub back : GoBack next found
  pub last : ((found ≡ []) × (next ≡ head ∷ [])) ⊎ EndsWith head found
  pub order : (xs : List ℕ) → DepthFirst made links next xs → DepthFirst made links (head ∷ []) (xs ++ map number_of found)
  pub walked : All (HasPads made) links → AreOnce links → Begins made links head
      → Walked (Reaches made links head) (λ a. inside (pads_of made links a)) head next (map number_of found)

pub come_first : (made : List Made) (links : List PadLink) (head : ℕ) → HasCome made links head (head ∷ []) []
come_first made links head = record {
  pads = tt;
  back = tt;
  last = inl (refl, refl);
  order = λ xs d. subst (λ (ns : List ℕ). DepthFirst made links (head ∷ []) ns) (sym (append-nil xs)) d;
  walked = λ all once is. walk_begins (Reaches made links head) _ head Reaches.itself;
}

last_member : (rest : List ℕ) (e head : ℕ) → rest ++ e ∷ [] ≡ head ∷ [] → e ≡ head
last_member [] e head is = cc
last_member (x ∷ xs) e head is = absurd (let size = ap length is in let more = length-append xs (e ∷ []) in omega (arith, size, more))

module _ (made : List Made) (links : List PadLink) (head : ℕ) (rest : List ℕ) (cell : BagElement) (found : List BagElement) where
  come_more : cell.pads.items ≡ pads_of made links cell.element → HasCome made links head (rest ++ cell.element ∷ []) found → HasCome made links head (rest ++ inside cell.pads.items) (cell ∷ found)
  come_more pads come = record {
    pads = (pads, come.pads);
    back = (λ d m. in_back d rest (inside cell.pads.items) m, back_more (rest ++ cell.element ∷ []) (cell.element ∷ (rest ++ inside cell.pads.items)) found seen come.back);
    last = inr (ends come.last);
    order = λ xs d.
        depths_more made links head cell.element rest (map number_of found) come.order xs
        (subst (λ ps. DepthFirst made links (rest ++ inside ps) xs) pads d);
    walked = λ all once is.
        subst (λ xs. Walked (Reaches made links head) (λ a. inside (pads_of made links a)) head (rest ++ inside xs) (cell.element ∷ map number_of found)) (sym pads)
        (walk_goes (Reaches made links head) (λ a. inside (pads_of made links a)) head rest cell.element (map number_of found) (is_tree made links all once head is)
        (λ a d r m. Reaches.further a d r (inside_leads made links a d m)) (come.walked all once is));
  }
    where
      seen : (d : ℕ) → IsMember d (rest ++ cell.element ∷ []) → IsMember d (cell.element ∷ (rest ++ inside cell.pads.items))
      seen d m = go (in_either d rest (cell.element ∷ []) m)
        where
          go : IsMember d rest ⊎ IsMember d (cell.element ∷ []) → IsMember d (cell.element ∷ (rest ++ inside cell.pads.items))
          go (inl m) = inr (in_front d rest (inside cell.pads.items) m)
          go (inr (inl same)) = inl same
          go (inr (inr m)) = absurd m

      ends : ((found ≡ []) × (rest ++ cell.element ∷ [] ≡ head ∷ [])) ⊎ EndsWith head found → EndsWith head (cell ∷ found)
      ends (inl (none, is)) = record { front = []; own = cell; is = ap (λ (xs : List BagElement). cell ∷ xs) none; number = last_member rest cell.element head is }
      ends (inr e) = record { front = cell ∷ e.front; own = e.own; is = ap (λ (xs : List BagElement). cell ∷ xs) e.is; number = e.number }

-- what was found, the latest first
latest : (found : List BagElement) (cell : BagElement) → reverse (found ++ cell ∷ []) ≡ cell ∷ reverse found
latest found cell = reverse-append found (cell ∷ [])

pub come_on : (made : List Made) (links : List PadLink) (head : ℕ) (next : List ℕ) (found : List BagElement) (next' : List ℕ) (found' : List BagElement) → Goes made links next found next' found'
    → HasCome made links head next (reverse found) → HasCome made links head next' (reverse found')
come_on made links head next found next' found' (inl (none, same, stays)) come =
    subst (λ (xs : List BagElement). HasCome made links head next' (reverse xs)) (sym stays) (subst (λ (ns : List ℕ). HasCome made links head ns (reverse found)) (sym same) come)
come_on made links head next found next' found' (inr f) come =
    subst (λ (ns : List ℕ). HasCome made links head ns (reverse found')) (sym f.is_next)
    (subst (λ (xs : List BagElement). HasCome made links head (f.rest ++ inside f.cell.pads.items) xs) (sym (ap reverse f.is_found ∙ latest found f.cell))
    (come_more made links head f.rest f.cell (reverse found) f.pads (subst (λ (ns : List ℕ). HasCome made links head ns (reverse found)) f.was come)))

-- each turn of the walk finds one, or none is next
pub counts_on : (made : List Made) (links : List PadLink) (n : ℕ) (next : List ℕ) (found : List BagElement) (next' : List ℕ) (found' : List BagElement) → Goes made links next found next' found'
    → (next ≡ []) ⊎ (length found ≡ n) → (next' ≡ []) ⊎ (length found' ≡ n + 1)
counts_on made links n next found next' found' (inl (none, same, stays)) counted = inl (same ∙ none)
counts_on made links n next found next' found' (inr f) (inl none) = absurd (no f.rest (sym f.was ∙ none))
  where
    no : (rest : List ℕ) → rest ++ f.cell.element ∷ [] ≡ [] → ⊥
    no [] e = cc
    no (x ∷ xs) e = cc
counts_on made links n next found next' found' (inr f) (inr many) = inr (let size = ap length f.is_found ∙ length-append found (f.cell ∷ []) in omega (arith, size, many))

listed : (e : ℕ) (xs : List ℕ) → IsOrdered e xs → IsMember e xs
listed e [] m = absurd m
listed e (x ∷ xs) (inl same) = inl (sym same)
listed e (x ∷ xs) (inr m) = inr (listed e xs m)

module _ (graph : Graph) (head : ℕ) (there : head < length (made_in graph)) (cells : List BagElement) where
  map_length : (xs : List BagElement) → length (map number_of xs) ≡ length xs
  map_length [] = refl
  map_length (x ∷ xs) = ap suc (map_length xs)

  -- where the walk had as many turns as there are elements none is next
  none_next : (next : List ℕ) → IsSound graph → HasCome (made_in graph) (links_in graph) head next cells → AreOnce (links_in graph) → Begins (made_in graph) (links_in graph) head
      → (next ≡ []) ⊎ (length cells ≡ length (made_in graph)) → next ≡ []
  none_next next sound come once is (inl none) = none
  none_next next sound come once is (inr many) =
      walk_ends (Reaches (made_in graph) (links_in graph) head) (λ a. inside (pads_of (made_in graph) (links_in graph) a)) head next (map number_of cells) (forward_in graph) (come.walked sound.pads once is)
      (λ d r. listed d (forward_in graph) (sound.order.forward.whole d (let w = reached_there (made_in graph) (links_in graph) sound.pads head there d r in omega (arith, w, sound.order.count))))
      (map_length cells ∙ many ∙ sym (sym graph.links.order.forward.ok.0 ∙ sound.order.count))

  reached_by : (next : List ℕ) → next ≡ [] → IsSound graph → AreOnce (links_in graph) → Begins (made_in graph) (links_in graph) head → HasCome (made_in graph) (links_in graph) head next cells
      → AreReached (made_in graph) (links_in graph) head cells
  reached_by next none sound once is come = record {
    whole = all;
    only = λ e m. walked.reached e (in_front e (map number_of cells) [] m);
    once = subst Rattle.graph_parts.specs.Bags.Once (append-nil (map number_of cells)) walked.once;
    pads = come.pads;
    back = subst (λ (ns : List ℕ). GoBack ns cells) none come.back;
    last = ends come.last;
    order = come.order [] (subst (λ (ns : List ℕ). DepthFirst (made_in graph) (links_in graph) ns []) (sym none) DepthFirst.nothing);
  }
    where
      walked : Walked (Reaches (made_in graph) (links_in graph) head) (λ a. inside (pads_of (made_in graph) (links_in graph) a)) head [] (map number_of cells)
      walked = subst (λ (ns : List ℕ). Walked (Reaches (made_in graph) (links_in graph) head) (λ a. inside (pads_of (made_in graph) (links_in graph) a)) head ns (map number_of cells)) none (come.walked sound.pads once is)

      plain : (e : ℕ) → IsMember e (map number_of cells ++ []) → IsMember e (map number_of cells)
      plain e m = subst (λ (ns : List ℕ). IsMember e ns) (append-nil (map number_of cells)) m

      all : (e : ℕ) → Reaches (made_in graph) (links_in graph) head e → IsMember e (map number_of cells)
      all e Reaches.itself = plain head walked.first
      all e (Reaches.further a d r l) = plain d (walked.closed a d (all a r) (leads_inside (made_in graph) (links_in graph) a d l))

      ends : ((cells ≡ []) × (next ≡ head ∷ [])) ⊎ EndsWith head cells → EndsWith head cells
      ends (inl (e, one)) = absurd (no (sym none ∙ one))
        where
          no : [] ≡ head ∷ [] → ⊥
          no e = cc
      ends (inr e) = e

pub come_begins : (made : List Made) (links : List PadLink) (head : ℕ) (next : List ℕ) (found : List BagElement) → next ≡ head ∷ [] → found ≡ [] → HasCome made links head next (reverse found)
come_begins made links head next found one none =
    subst (λ (ns : List ℕ). HasCome made links head ns (reverse found)) (sym one) (subst (λ (xs : List BagElement). HasCome made links head (head ∷ []) (reverse xs)) (sym none) (come_first made links head))

-- the walk is at its end
pub come_all : (graph : Graph) (head : ℕ) → head < length (made_in graph) → (next : List ℕ) (found cells : List BagElement) (n : ℕ) → IsSound graph → AreOnce (links_in graph)
    → Begins (made_in graph) (links_in graph) head → HasCome (made_in graph) (links_in graph) head next (reverse found) → (next ≡ []) ⊎ (length found ≡ n) → n ≡ length (made_in graph) → cells ≡ reverse found
    → AreReached (made_in graph) (links_in graph) head cells
come_all graph head there next found cells n sound once is come counted all put =
    subst (λ (xs : List BagElement). AreReached (made_in graph) (links_in graph) head xs) (sym put)
    (reached_by graph head there (reverse found) next (none_next graph head there (reverse found) next sound come once is (whole counted)) sound once is come)
  where
    whole : (next ≡ []) ⊎ (length found ≡ n) → (next ≡ []) ⊎ (length (reverse found) ≡ length (made_in graph))
    whole (inl none) = inl none
    whole (inr many) = inr (length-reverse found ∙ many ∙ all)
