-- What a link gives a sink pad that stands from the start on.
use Rattle.std.proofs.Common.{◌≡◌, ℕ, suc, List, [], ◌∷◌, drop, refl, ap, ◌∙◌, append-nil}
use Rattle.flow_model.specs.Item.{Item}
use Rattle.flow_model.specs.Sticky.{stickies}
use Rattle.flow_model.specs.Call.{Feed, feeds, with_marks}
use Rattle.flow_model.specs.Link.{Linked, input_of}

-- what stands behind marks where there are none
unmarked : (n : ℕ) (xs : List Item) → with_marks [] n xs ≡ feeds xs
unmarked n [] = refl
unmarked n (x ∷ xs) = ap (λ cs. Feed x ∷ cs) (unmarked (suc n) xs)

pub link_input : (h : ℕ → List Item) (p : ℕ) → input_of h (Linked p 0 [] ∷ []) ≡ feeds (h p)
unfolding stickies
link_input h p = append-nil (with_marks [] 0 (drop 0 (h p))) ∙ unmarked 0 (h p)
