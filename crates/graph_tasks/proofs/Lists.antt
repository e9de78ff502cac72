-- Lists by places, and what an element took that took nothing.
use Rattle.std.proofs.Common.{◌≡◌, ◌<◌, ℕ, zero, suc, List, [], ◌∷◌, drop, length, map, refl, arith}
use Rattle.flow_model.specs.Item.{Item}
use Rattle.flow_model.specs.Link.{Span}
use Rattle.flow_model.specs.Split.{AreEmpty, NoneAt}
use Rattle.flow_model.specs.SinkPads.{InSection}
use Rattle.net_task.specs.Ties.{TookAt}
use Rattle.net_turns.specs.Net.{ListAt}

-- behind nothing is nothing
pub none_behind : (n : ℕ) (xs : List Item) → xs ≡ [] → drop n xs ≡ []
none_behind zero xs none = none
none_behind (suc n) [] none = refl
none_behind (suc n) (x ∷ xs) none = absurd (cc)

-- nothing was taken, and nothing stands in an inlet
pub none_taken : (sss : List (List Span)) → InSection 0 (map (λ spans. []) sss)
none_taken [] = tt
none_taken (ss ∷ sss) = (refl, none_taken sss)

pub none_held : (i : ℕ) (sss : List (List Span)) → NoneAt i (map (λ spans. []) sss)
none_held i [] = tt
none_held zero (ss ∷ sss) = refl
none_held (suc i) (ss ∷ sss) = none_held i sss

pub all_empty : (sss : List (List Span)) → AreEmpty (map (λ spans. []) sss)
all_empty [] = tt
all_empty (ss ∷ sss) = (refl, all_empty sss)

pub took_none : (i : ℕ) (sss : List (List Span)) → i < length sss → TookAt i (map (λ spans. []) sss) []
took_none i [] w = absurd (omega (arith, w))
took_none zero (ss ∷ sss) w = refl
took_none (suc i) (ss ∷ sss) w = took_none i sss (omega (arith, w))

pub list_none : (i : ℕ) (sss : List (List Span)) → i < length sss → ListAt i (map (λ spans. []) sss) []
list_none i [] w = absurd (omega (arith, w))
list_none zero (ss ∷ sss) w = refl
list_none (suc i) (ss ∷ sss) w = list_none i sss (omega (arith, w))
