-- Ways along links.
use Rattle.std.specs.Prelude.{◌≡◌, ◌⊎◌, ◌↔◌, ℕ, List, [], ◌∷◌}
use Rattle.graph_order.specs.declared.link.Link.{Link}

-- one of the links goes from a to b
abbrev pub IsLink : ℕ → ℕ → List Link → Type 0
IsLink a b [] = ⊥
IsLink a b (link ∷ links) = ((link.from ≡ a) × (link.to ≡ b)) ⊎ IsLink a b links

-- A way from one element to another: none, or a way and then a link.
pub data Way (links : List Link) : ℕ → ℕ → Type 0 where
  none : (a : ℕ) → Way links a a
  more : (a b c : ℕ) → Way links a b → IsLink b c links → Way links a c

-- the same links, in whatever order and however often
abbrev pub AreSameLinks : List Link → List Link → Type 0
AreSameLinks xs ys = (a b : ℕ) → IsLink a b xs ↔ IsLink a b ys
