-- Elements and all that these reach over no lane, depth first.
use Rattle.std.proofs.Common.{◌≡◌, ℕ, List, [], ◌∷◌, ◌++◌, refl, sym, ap, ◌∙◌, subst, append_assoc}
use Rattle.graph_core.specs.Elements.{Made}
use Rattle.graph_pads.specs.declared.pad.PadLink.{PadLink}
use Rattle.graph_parts.specs.Links.{inside, pads_of}
use Rattle.graph_parts.specs.Bags.{DepthFirst}

module _ (made : List Made) (links : List PadLink) where
  -- two lists of elements, one behind the other
  depths_join : (ds bs xs ys : List ℕ) → DepthFirst made links ds xs → DepthFirst made links bs ys → DepthFirst made links (ds ++ bs) (xs ++ ys)
  depths_join ds bs xs ys DepthFirst.nothing more = more
  depths_join ds bs xs ys (DepthFirst.element e es before behind own rest) more =
      subst (λ (ns : List ℕ). DepthFirst made links (e ∷ (es ++ bs)) ns) (sym (append_assoc before (e ∷ behind) ys))
      (DepthFirst.element e (es ++ bs) before (behind ++ ys) own (depths_join es bs behind ys rest more))

  -- what two lists of elements reach is what the first reaches, and behind it what the second does
  record AreTwo (ds bs ys : List ℕ) : Type 0 where
    front : List ℕ
    back : List ℕ
    first : DepthFirst made links ds front
    second : DepthFirst made links bs back
    is : ys ≡ front ++ back

  depths_split : (ds bs ys : List ℕ) → DepthFirst made links (ds ++ bs) ys → AreTwo ds bs ys
  depths_split [] bs ys all = record { front = []; back = ys; first = DepthFirst.nothing; second = all; is = refl }
  depths_split (d ∷ ds) bs ys (DepthFirst.element e es before behind own rest) = go (depths_split ds bs behind rest)
    where
      go : AreTwo ds bs behind → AreTwo (d ∷ ds) bs (before ++ d ∷ behind)
      go two = record {
        front = before ++ d ∷ two.front;
        back = two.back;
        first = DepthFirst.element d ds before two.front own two.first;
        second = two.second;
        is = ap (λ (ns : List ℕ). before ++ d ∷ ns) two.is ∙ sym (append_assoc before (d ∷ two.front) two.back);
      }

  -- what the elements that are next reach stands before all that was found; so it is again where an element is found, and what it leads to is next
  pub depths_more : (head e : ℕ) (rest found : List ℕ)
      → ((xs : List ℕ) → DepthFirst made links (rest ++ e ∷ []) xs → DepthFirst made links (head ∷ []) (xs ++ found))
      → (ys : List ℕ) → DepthFirst made links (rest ++ inside (pads_of made links e)) ys → DepthFirst made links (head ∷ []) (ys ++ e ∷ found)
  depths_more head e rest found come ys all =
      let two = depths_split rest (inside (pads_of made links e)) ys all in
      let own = DepthFirst.element e [] two.back [] two.second DepthFirst.nothing in
      let more = come (two.front ++ (two.back ++ e ∷ [])) (depths_join rest (e ∷ []) two.front (two.back ++ e ∷ []) two.first own) in
      subst (λ (ns : List ℕ). DepthFirst made links (head ∷ []) ns) (same two.front two.back ∙ ap (λ (ns : List ℕ). ns ++ e ∷ found) (sym two.is)) more
    where
      same : (xs zs : List ℕ) → (xs ++ (zs ++ e ∷ [])) ++ found ≡ (xs ++ zs) ++ e ∷ found
      same xs zs = ap (λ (ns : List ℕ). ns ++ found) (sym (append_assoc xs zs (e ∷ []))) ∙ append_assoc (xs ++ zs) (e ∷ []) found
