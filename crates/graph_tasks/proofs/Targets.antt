-- Each lane of a graph is led to by one pad of its bags, and no element stands in two of these.
use Rattle.std.proofs.Common.{◌≡◌, ◌⊎◌, ◌||◌, ℕ, suc, Bool, true, false, if◌then◌else◌, List, [], ◌∷◌, ◌++◌, All, Option, None, Some, map, refl, sym, ap, ◌∙◌, subst, inl, inr, arith}
use Rattle.std.specs.Prelude.{slice_get}
use Rattle.std.specs.List.{flat_map, range_with_len}
use Rattle.std.specs.Option.{option_map_or}
use Rattle.std.proofs.lemmas.List.{map-append}
use Rattle.flow_model.specs.Account.{IsMember}
use Rattle.graph_core.specs.Elements.{Made, has}
use Rattle.graph_core.specs.GraphPlan.{pad_id, sink_at as place_at}
use Rattle.graph_pads.specs.Links.{sink_behind}
use Rattle.graph_pads.specs.declared.pad.PadLink.{PadLink}
use Rattle.graph_pads.specs.declared.pad.PadPlace.{PadPlace}
use Rattle.graph_parts.specs.Bags.{HavePads, IsBag, IsHead, Once, cells, head_number, head_of, number_of, numbers}
use Rattle.graph_parts.specs.Links.{Begins, has_inlets, is_head, link_to, pad_at, source_count}
use Rattle.el_settings.specs.Asked.{is_source}
use Rattle.graph_parts.specs.declared.bag.Bag.{Bag}
use Rattle.graph_parts.specs.declared.bag.BagElement.{BagElement}
use Rattle.graph_parts.specs.declared.bag.BagHead.{BagHead}
use Rattle.graph_parts.specs.declared.bag.BagHead.TheVariants.{Source, Inlets}
use Rattle.graph_parts.specs.declared.bag.BagLink.TheVariants.{Element, Lane}
use Rattle.graph_parts.specs.declared.bag.BagPad.{BagPad}
use Rattle.graph_parts.proofs.Apart.{heads_once, same_head}
use Rattle.graph_parts.proofs.Onces.{in_either, once_append}
use Rattle.graph_parts.proofs.Trees.{range_once}
use Rattle.graph_tasks.specs.Wiring.{AreLinks, BagsGiven, all_cells, cell_lanes, inlets_of, lane_to, pad_lanes}
use Rattle.graph_tasks.proofs.Flats.{flat_flat}
use Rattle.graph_tasks.proofs.Numbers.{inlets_once, one_source}
use Rattle.gst_value.proofs.Basics.{or_true}

-- a pad of these leads over the lane of a number
record LaneBy (made : List Made) (links : List PadLink) (a d : ℕ) (ks : List ℕ) : Type 0 where
  pub pad : ℕ
  pub among : IsMember pad ks
  pub sink : PadPlace
  pub linked : sink_behind links (place_at a pad) ≡ Some sink
  pub number : pad_id sink ≡ d

more_by : (made : List Made) (links : List PadLink) (a d k : ℕ) (ks : List ℕ) → LaneBy made links a d ks → LaneBy made links a d (k ∷ ks)
more_by made links a d k ks l = record { pad = l.pad; among = inr l.among; sink = l.sink; linked = l.linked; number = l.number }

lanes_by : (made : List Made) (links : List PadLink) (a d : ℕ) (ks : List ℕ) → IsMember d (pad_lanes (map (pad_at made links a) ks)) → LaneBy made links a d ks
lanes_by made links a d [] m = absurd m
lanes_by made links a d (k ∷ ks) m = go (sink_behind links (place_at a k)) refl (λ n. more_by made links a d k ks (lanes_by made links a d ks n)) m
  where
    go : (o : Option PadPlace) → sink_behind links (place_at a k) ≡ o → (IsMember d (pad_lanes (map (pad_at made links a) ks)) → LaneBy made links a d (k ∷ ks))
        → IsMember d (lane_to (link_to made o) ++ pad_lanes (map (pad_at made links a) ks)) → LaneBy made links a d (k ∷ ks)
    go None at later m = later m
    go (Some sink) at later m = by (has has_inlets made sink.element) refl m
      where
        by : (b : Bool) → has has_inlets made sink.element ≡ b
            → IsMember d (lane_to (if b then Lane sink.element sink.pad else Element sink.element sink.pad) ++ pad_lanes (map (pad_at made links a) ks)) → LaneBy made links a d (k ∷ ks)
        by false is m = later m
        by true is (inl same) = record { pad = k; among = inl refl; sink = sink; linked = at; number = sym same }
        by true is (inr m) = later m

-- an element of these has a pad that leads over the lane
record LaneFrom (made : List Made) (links : List PadLink) (d : ℕ) (own : List BagElement) : Type 0 where
  pub from : ℕ
  pub among : IsMember from (map number_of own)
  pub by : LaneBy made links from d (range_with_len 0 (source_count made from))

lanes_from : (made : List Made) (links : List PadLink) (own : List BagElement) → HavePads made links own → (d : ℕ) → IsMember d (cell_lanes own) → LaneFrom made links d own
lanes_from made links [] have d m = absurd m
lanes_from made links (x ∷ xs) have d m = go (in_either d (pad_lanes x.pads.items) (cell_lanes xs) m) (lanes_from made links xs have.1 d)
  where
    go : IsMember d (pad_lanes x.pads.items) ⊎ IsMember d (cell_lanes xs) → (IsMember d (cell_lanes xs) → LaneFrom made links d xs) → LaneFrom made links d (x ∷ xs)
    go (inl n) later = record {
      from = x.element;
      among = inl refl;
      by = lanes_by made links x.element d (range_with_len 0 (source_count made x.element)) (subst (λ (pads : List BagPad). IsMember d (pad_lanes pads)) have.0 n);
    }
    go (inr n) later = let f = later n in record { from = f.from; among = inr f.among; by = f.by }

module _ (made : List Made) (links : List PadLink) (are : AreLinks made links) where
  -- one source pad at the most leads over a lane
  same_source : (a b d : ℕ) (ks ls : List ℕ) (l : LaneBy made links a d ks) (k : LaneBy made links b d ls) → place_at a l.pad ≡ place_at b k.pad
  same_source a b d ks ls l k = one_source made links are.all are.once (place_at a l.pad) (place_at b k.pad) l.sink k.sink l.linked k.linked (l.number ∙ sym k.number)

  once_lanes : (a : ℕ) (ks : List ℕ) → Once ks → Once (pad_lanes (map (pad_at made links a) ks))
  once_lanes a [] o = tt
  once_lanes a (k ∷ ks) o = go (sink_behind links (place_at a k)) refl (once_lanes a ks o.1)
    where
      go : (found : Option PadPlace) → sink_behind links (place_at a k) ≡ found → Once (pad_lanes (map (pad_at made links a) ks)) → Once (lane_to (link_to made found) ++ pad_lanes (map (pad_at made links a) ks))
      go None at rest = rest
      go (Some sink) at rest = by (has has_inlets made sink.element) refl
        where
          by : (b : Bool) → has has_inlets made sink.element ≡ b → Once (lane_to (if b then Lane sink.element sink.pad else Element sink.element sink.pad) ++ pad_lanes (map (pad_at made links a) ks))
          by false is = rest
          by true is = (λ m. again (lanes_by made links a (pad_id sink) ks m), rest)
            where
              again : LaneBy made links a (pad_id sink) ks → ⊥
              again l =
                  o.0
                  (subst (λ (n : ℕ). IsMember n ks)
                  (sym (ap (λ (place : PadPlace). place.pad) (one_source made links are.all are.once (place_at a k) (place_at a l.pad) sink l.sink at l.linked (sym l.number)))) l.among)

  once_cells : (own : List BagElement) → HavePads made links own → Once (map number_of own) → Once (cell_lanes own)
  once_cells [] have once = tt
  once_cells (x ∷ xs) have once =
      once_append (pad_lanes x.pads.items) (cell_lanes xs)
      (subst (λ (pads : List BagPad). Once (pad_lanes pads)) (sym have.0) (once_lanes x.element (range_with_len 0 (source_count made x.element)) (range_once 0 (source_count made x.element))))
      (once_cells xs have.1 once.1)
      (λ d m n.
      let l = lanes_by made links x.element d (range_with_len 0 (source_count made x.element)) (subst (λ (pads : List BagPad). IsMember d (pad_lanes pads)) have.0 m) in
      let f = lanes_from made links xs have.1 d n in
      let same = same_source x.element f.from d (range_with_len 0 (source_count made x.element)) (range_with_len 0 (source_count made f.from)) l f.by in
      once.0 (subst (λ (k : ℕ). IsMember k (map number_of xs)) (sym (ap (λ (place : PadPlace). place.element) same)) f.among))

source_is_head : (found : Option Made) → option_map_or (λ (m : Made). is_source m.settings) found false ≡ true → option_map_or (λ (m : Made). is_head m.settings) found false ≡ true
source_is_head None is = absurd (cc)
source_is_head (Some m) is = ap (λ (b : Bool). b || has_inlets m.settings) is

inlets_are_head : (found : Option Made) → option_map_or (λ (m : Made). has_inlets m.settings) found false ≡ true → option_map_or (λ (m : Made). is_head m.settings) found false ≡ true
inlets_are_head None is = absurd (cc)
inlets_are_head (Some m) is = ap (λ (b : Bool). is_source m.settings || b) is ∙ or_true (is_source m.settings)

pub head_begins : (made : List Made) (links : List PadLink) (head : BagHead) → IsHead made links head → Begins made links (head_number head)
head_begins made links (Source own) is = inl (source_is_head (slice_get made own.element) is)
head_begins made links (Inlets n) (inl fed) = inl (inlets_are_head (slice_get made n) fed)
head_begins made links (Inlets n) (inr loose) = inr loose

rest_of : {A : Type 0} (P : A → Type 0) (x : A) (xs : List A) → All P (x ∷ xs) → All P xs
rest_of P x xs all = λ k d w. all (suc k) d (omega (arith, w))

have_front : (made : List Made) (links : List PadLink) (xs ys : List BagElement) → HavePads made links xs → HavePads made links ys → HavePads made links (xs ++ ys)
have_front made links [] ys a b = b
have_front made links (x ∷ xs) ys a b = (a.0, have_front made links xs ys a.1 b)

have_all : (made : List Made) (links : List PadLink) (bags : List Bag) → All (IsBag made links) bags → HavePads made links (all_cells bags)
have_all made links [] all = tt
have_all made links (x ∷ xs) all = have_front made links (cells x) (all_cells xs) (all 0 x (omega arith)).pads (have_all made links xs (rest_of (IsBag made links) x xs all))

numbers_all : (bags : List Bag) → map number_of (all_cells bags) ≡ flat_map numbers bags
numbers_all [] = refl
numbers_all (x ∷ xs) = map-append number_of (cells x) (all_cells xs) ∙ ap (λ (ns : List ℕ). numbers x ++ ns) (numbers_all xs)

-- the bag in which a number stands
record BagFor (made : List Made) (links : List PadLink) (d : ℕ) (bags : List Bag) : Type 0 where
  pub bag : Bag
  pub head : IsMember (head_of bag) (map head_of bags)
  pub is : IsBag made links bag
  pub among : IsMember d (numbers bag)

bag_for : (made : List Made) (links : List PadLink) (bags : List Bag) → All (IsBag made links) bags → (d : ℕ) → IsMember d (flat_map numbers bags) → BagFor made links d bags
bag_for made links [] all d m = absurd m
bag_for made links (x ∷ xs) all d m = go (in_either d (numbers x) (flat_map numbers xs) m) (bag_for made links xs (rest_of (IsBag made links) x xs all) d)
  where
    go : IsMember d (numbers x) ⊎ IsMember d (flat_map numbers xs) → (IsMember d (flat_map numbers xs) → BagFor made links d xs) → BagFor made links d (x ∷ xs)
    go (inl n) later = record { bag = x; head = inl refl; is = all 0 x (omega arith); among = n }
    go (inr n) later = let b = later n in record { bag = b.bag; head = inr b.head; is = b.is; among = b.among }

module _ (made : List Made) (links : List PadLink) (are : AreLinks made links) where
  once_numbers : (bags : List Bag) → All (IsBag made links) bags → Once (map head_of bags) → Once (flat_map numbers bags)
  once_numbers [] all once = tt
  once_numbers (x ∷ xs) all once =
      let own = all 0 x (omega arith) in
      let rest = rest_of (IsBag made links) x xs all in
      once_append (numbers x) (flat_map numbers xs) own.once (once_numbers xs rest once.1)
      (λ d m n.
      let b = bag_for made links xs rest d n in
      let same = same_head made links are.all are.once (head_of x) (head_of b.bag) d (head_begins made links x.head own.head) (head_begins made links b.bag.head b.is.head) (own.only d m) (b.is.only d b.among) in
      once.0 (subst (λ (k : ℕ). IsMember k (map head_of xs)) (sym same) b.head))

module _ (made : List Made) (links : List PadLink) (bags : List Bag) (given : BagsGiven made links bags) where
  -- no lane feeds two heads
  pub all_inlets : Once (flat_map (λ (bag : Bag). inlets_of made bag.head) bags)
  all_inlets = inlets_once made bags (heads_once made links bags given.are)

  -- no element stands twice
  pub all_once : Once (flat_map numbers bags)
  all_once = once_numbers made links given.links_are bags given.are.are (heads_once made links bags given.are)

  -- no lane is led to twice
  pub all_lanes : Once (flat_map (λ (bag : Bag). cell_lanes (cells bag)) bags)
  all_lanes =
      subst Once (flat_flat cells (λ (cell : BagElement). pad_lanes cell.pads.items) bags)
      (once_cells made links given.links_are (all_cells bags) (have_all made links bags given.are.are) (subst Once (sym (numbers_all bags)) all_once))
