-- The numbers of sink pads, which the lanes to them have too.
use Rattle.std.proofs.Common.{◌≡◌, ◌<◌, ◌+◌, ◌⊎◌, ℕ, List, [], ◌∷◌, ◌++◌, All, Option, None, Some, length, map, refl, sym, ap, ◌∙◌, subst, inl, inr, arith}
use Rattle.std.specs.Prelude.{slice_get}
use Rattle.std.specs.List.{flat_map, range_with_len}
use Rattle.std.specs.Option.{option_map_or}
use Rattle.std.proofs.lemmas.List.FromFn.{map-range_with_len_more}
use Rattle.std.proofs.lemmas.Option.{slice_get_within}
use Rattle.flow_model.specs.Account.{IsMember}
use Rattle.el_settings.specs.Asked.{sink_pads}
use Rattle.graph_core.specs.Elements.{Made}
use Rattle.graph_core.specs.GraphPlan.{owner_of, pad_id, sink_at as place_at}
use Rattle.graph_core.specs.Links.{HasPads}
use Rattle.graph_pads.specs.Links.{sink_behind, source_before}
use Rattle.graph_core.specs.LinkedOnce.{AreOnce}
use Rattle.graph_pads.specs.declared.pad.PadLink.{PadLink}
use Rattle.graph_pads.specs.declared.pad.PadPlace.{PadPlace}
use Rattle.graph_core.proofs.NumberedPads.{owner_at, same_pad}
use Rattle.el_settings.proofs.Padded.{few_sinks}
use Rattle.graph_parts.specs.Bags.{Once, head_number, head_of}
use Rattle.graph_parts.specs.declared.bag.Bag.{Bag}
use Rattle.graph_parts.specs.declared.bag.BagHead.{BagHead}
use Rattle.graph_parts.specs.declared.bag.BagHead.TheVariants.{Source, Inlets}
use Rattle.graph_parts.proofs.Onces.{in_either, once_append}
use Rattle.graph_parts.proofs.Trees.{range_has, range_holds, range_once, sink_there}
use Rattle.graph_parts.specs.Lanes.{sink_numbers}
use Rattle.graph_tasks.specs.Tasks.{sink_count}
use Rattle.graph_tasks.specs.Wiring.{inlets_of}
use Rattle.gst_value.proofs.Basics.{some_same}

few_of : (found : Option Made) (k : ℕ) → k < option_map_or (λ (m : Made). sink_pads m.settings) found 0 → k < 64
few_of None k w = absurd (omega (arith, w))
few_of (Some m) k w = let few = few_sinks m.settings in omega (arith, few, w)

module _ (made : List Made) where
  -- an element has few sink pads, and only one that is there has some
  pub few_pads : (n k : ℕ) → k < sink_count made n → k < 64
  few_pads n k w = few_of (slice_get made n) k w

  pub with_pad : (n k : ℕ) → k < sink_count made n → n < length made
  with_pad n k w = go (slice_get made n) refl w
    where
      go : (found : Option Made) → slice_get made n ≡ found → k < option_map_or (λ (m : Made). sink_pads m.settings) found 0 → n < length made
      go None at w = absurd (omega (arith, w))
      go (Some m) at w = slice_get_within made n m at

  pub number_within : (n k : ℕ) → k < sink_count made n → pad_id (place_at n k) < sink_numbers made
  number_within n k w =
      let few = few_pads n k w in
      let there = with_pad n k w in
      omega (arith, few, there)

module _ (made : List Made) (links : List PadLink) (all : All (HasPads made) links) where
  -- what a source pad is linked to has a number
  pub few_sink : (source sink : PadPlace) → sink_behind links source ≡ Some sink → sink.pad < 64
  few_sink source sink at = few_pads made sink.element sink.pad (sink_there made links all source sink at)

  -- and one source pad at the most is linked to the sink pad of a number
  pub one_source : AreOnce links → (source other sink place : PadPlace) → sink_behind links source ≡ Some sink → sink_behind links other ≡ Some place → pad_id sink ≡ pad_id place → source ≡ other
  one_source once source other sink place at to same =
      let one = same_pad sink place (few_sink source sink at) (few_sink other place to) same in
      some_same (sym (once.there source sink at) ∙ ap (source_before links) one ∙ once.there other place to)

-- the members of a mapped list
mapped : (f : ℕ → ℕ) (xs : List ℕ) (d : ℕ) → IsMember d (map f xs) → (k : ℕ) × IsMember k xs × (d ≡ f k)
mapped f [] d m = absurd m
mapped f (x ∷ xs) d (inl same) = (x, inl refl, same)
mapped f (x ∷ xs) d (inr m) = let r = mapped f xs d m in (r.0, inr r.1, r.2)

map_has : (f : ℕ → ℕ) (xs : List ℕ) (k : ℕ) → IsMember k xs → IsMember (f k) (map f xs)
map_has f [] k m = absurd m
map_has f (x ∷ xs) k (inl same) = inl (ap f same)
map_has f (x ∷ xs) k (inr m) = inr (map_has f xs k m)

map_once : (f : ℕ → ℕ) → ((j k : ℕ) → f j ≡ f k → j ≡ k) → (xs : List ℕ) → Once xs → Once (map f xs)
map_once f one [] once = tt
map_once f one (x ∷ xs) once = (
  λ m. let r = mapped f xs (f x) m in once.0 (subst (λ (k : ℕ). IsMember k xs) (sym (one x r.0 r.2)) r.1),
  map_once f one xs once.1,
)

-- the numbers of the first sink pads of an element
abbrev pub numbers_of : ℕ → ℕ → List ℕ
numbers_of n count = map (λ k. pad_id (place_at n k)) (range_with_len 0 count)

pub numbers_more : (n k : ℕ) → numbers_of n (k + 1) ≡ numbers_of n k ++ pad_id (place_at n k) ∷ []
numbers_more n k = map-range_with_len_more (λ (j : ℕ). pad_id (place_at n j)) 0 k k (omega arith)

pub of_numbers : (n count d : ℕ) → IsMember d (numbers_of n count) → (k : ℕ) × (k < count) × (d ≡ pad_id (place_at n k))
of_numbers n count d m =
    let r = mapped (λ (k : ℕ). pad_id (place_at n k)) (range_with_len 0 count) d m in
    let w = range_holds 0 count r.0 r.1 in
    (r.0, omega (arith, w.1), r.2)

pub in_numbers : (n count k : ℕ) → k < count → IsMember (pad_id (place_at n k)) (numbers_of n count)
in_numbers n count k w = map_has (λ (k : ℕ). pad_id (place_at n k)) (range_with_len 0 count) k (range_has 0 count k (omega arith) (omega (arith, w)))

numbers_once : (n count : ℕ) → Once (numbers_of n count)
numbers_once n count = map_once (λ (k : ℕ). pad_id (place_at n k)) (λ j k same. omega (arith, same)) (range_with_len 0 count) (range_once 0 count)

-- the lanes that a head is fed from have the numbers of its own sink pads
owner_in : (made : List Made) (head : BagHead) (d : ℕ) → IsMember d (inlets_of made head) → owner_of d ≡ head_number head
owner_in made (Source own) d m = absurd m
owner_in made (Inlets n) d m = let r = of_numbers n (sink_count made n) d m in ap owner_of r.2 ∙ owner_at (place_at n r.0) (few_pads made n r.0 r.1)

own_once : (made : List Made) (head : BagHead) → Once (inlets_of made head)
own_once made (Source own) = tt
own_once made (Inlets n) = numbers_once n (sink_count made n)

owner_among : (made : List Made) (bags : List Bag) (d : ℕ) → IsMember d (flat_map (λ (bag : Bag). inlets_of made bag.head) bags) → IsMember (owner_of d) (map head_of bags)
owner_among made [] d m = absurd m
owner_among made (x ∷ xs) d m = go (in_either d (inlets_of made x.head) (flat_map (λ (bag : Bag). inlets_of made bag.head) xs) m) (owner_among made xs d)
  where
    go : IsMember d (inlets_of made x.head) ⊎ IsMember d (flat_map (λ (bag : Bag). inlets_of made bag.head) xs) → (IsMember d (flat_map (λ (bag : Bag). inlets_of made bag.head) xs) → IsMember (owner_of d) (map head_of xs))
        → IsMember (owner_of d) (map head_of (x ∷ xs))
    go (inl n) later = inl (owner_in made x.head d n)
    go (inr n) later = inr (later n)

-- so that no two heads are fed from one
pub inlets_once : (made : List Made) (bags : List Bag) → Once (map head_of bags) → Once (flat_map (λ (bag : Bag). inlets_of made bag.head) bags)
inlets_once made [] once = tt
inlets_once made (x ∷ xs) once =
    once_append (inlets_of made x.head) (flat_map (λ (bag : Bag). inlets_of made bag.head) xs) (own_once made x.head) (inlets_once made xs once.1)
    (λ d m n. once.0 (subst (λ (k : ℕ). IsMember k (map head_of xs)) (owner_in made x.head d m) (owner_among made xs d n)))
