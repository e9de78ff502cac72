-- Orders of elements in which each link goes forward.
use Rattle.std.specs.Prelude.{◌≡◌, ◌⊎◌, ◌<◌, ◌++◌, ℕ, List, [], ◌∷◌, vec_capacity, vec_len}
use Rattle.graph_order.specs.Links.{AreSameLinks, Way}
use Rattle.graph_order.specs.declared.link.Link.{Link}
use Rattle.graph_order.specs.declared.order.Order.{Order}
use Rattle.graph_order.specs.declared.order.Linking.{Linking}
use Rattle.graph_order.specs.declared.order.Linking.TheVariants.{Linked, Loops}

abbrev pub IsMember : ℕ → List ℕ → Type 0
IsMember e [] = ⊥
IsMember e (x ∷ xs) = (x ≡ e) ⊎ IsMember e xs

-- a stands before b
abbrev pub StandsBefore : ℕ → ℕ → List ℕ → Type 0
StandsBefore a b [] = ⊥
StandsBefore a b (x ∷ xs) = ((x ≡ a) × IsMember b xs) ⊎ StandsBefore a b xs

-- each link goes from an earlier element to a later one
abbrev pub GoForward : List Link → List ℕ → Type 0
GoForward [] order = Unit {0}
GoForward (link ∷ links) order = StandsBefore link.from link.to order × GoForward links order

abbrev pub links_of : Order → List Link
links_of order = order.links.items

abbrev pub forward_of : Order → List ℕ
forward_of order = order.forward.items

-- how many elements there are; they have the numbers from 0 on
abbrev pub count_of : Order → ℕ
count_of order = vec_len order.forward

-- there is room for one element more
abbrev pub HasRoom : Order → Type 0
HasRoom order = vec_len order.forward < vec_capacity order.forward

-- each element stands in the order, once, and each link goes forward
pub record IsForward (order : Order) : Type 0 where
  pub whole : (e : ℕ) → e < count_of order → IsMember e (forward_of order)
  pub goes : GoForward (links_of order) (forward_of order)

abbrev pub link_of : ℕ → ℕ → Link
link_of from to = record { from = from; to = to }

-- A link is made, or there is a way back already.
abbrev pub AfterLink : Order → ℕ → ℕ → Order → Linking → Type 0
AfterLink old from to new Linked = ¬ Way (links_of old) to from × (links_of new ≡ links_of old ++ link_of from to ∷ [])
AfterLink old from to new Loops = Way (links_of old) to from × (new ≡ old)

-- A link is one of those that were made, or there is a way back already. The links are the same where it was made before.
abbrev pub AfterOneLink : Order → ℕ → ℕ → Order → Linking → Type 0
AfterOneLink old from to new Linked = ¬ Way (links_of old) to from × AreSameLinks (links_of new) (links_of old ++ link_of from to ∷ [])
AfterOneLink old from to new Loops = Way (links_of old) to from × (new ≡ old)
