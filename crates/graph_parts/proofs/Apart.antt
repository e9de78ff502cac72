-- Bags of a graph: each element stands in one, and each head has one.
use Rattle.std.proofs.Common.{◌≡◌, ◌<◌, ◌⊎◌, ◌+◌, ◌++◌, ℕ, zero, suc, Bool, true, false, cond, is_some, not, ◌||◌, List, [], ◌∷◌, All, Option, None, Some, filter, map, length, refl, sym, ap, ◌∙◌, subst, append-nil, if◌then◌else◌, inl, inr, arith}
use Rattle.std.specs.Prelude.{slice_get}
use Rattle.std.specs.List.{range_with_len}
use Rattle.std.specs.Option.{option_map_or}
use Rattle.std.proofs.lemmas.List.FromFn.{length-map-range_with_len}
use Rattle.std.proofs.lemmas.Option.{slice_get_within}
use Rattle.flow_model.specs.Account.{IsMember}
use Rattle.graph_core.specs.Elements.{Made, has}
use Rattle.graph_core.specs.Links.{HasPads}
use Rattle.graph_pads.specs.Links.{sink_behind, source_before}
use Rattle.graph_pads.specs.declared.pad.PadLink.{PadLink}
use Rattle.graph_pads.specs.declared.pad.PadPlace.{PadPlace}
use Rattle.graph_core.specs.LinkedOnce.{AreOnce}
use Rattle.graph_parts.specs.Links.{has_inlets, is_head, is_loose, source_count, link_to, pad_at, pads_of, Begins, IsLoose, LeadsInside, Reaches}
use Rattle.graph_parts.specs.Bags.{Once, cells, head_of, HavePads, IsBag, heads_in, loose_in, AreBags, AreHeadBags}
use Rattle.graph_parts.specs.BagLaws.{HasBag, IsLink, TellsPads, BagsAreApart, BagsAreClosed, HeadsHaveBags, LooseHaveBags, BagsAreThere, BagsHavePads}
use Rattle.graph_parts.specs.declared.bag.Bag.{Bag}
use Rattle.graph_parts.specs.declared.bag.BagElement.{BagElement}
use Rattle.graph_parts.specs.declared.bag.BagLink.TheVariants.{Element, Lane}
use Rattle.graph_parts.specs.declared.bag.BagPad.{BagPad}
use Rattle.graph_parts.proofs.Onces.{in_back, in_either, in_front, once_append}
use Rattle.graph_parts.proofs.Trees.{range_holds, range_has, range_once, is_tree, leads_inside, none_leads, reached_there}
use Rattle.gst_value.proofs.Basics.{some_same}
use Rattle.flow_model.proofs.Items.{get_member, member_got}
use Rattle.graph_core.specs.GraphPlan.{sink_at as place_at}

-- what stands at a place
get_map : (f : Bag → ℕ) (bags : List Bag) (k : ℕ) (bag : Bag) → slice_get bags k ≡ Some bag → slice_get (map f bags) k ≡ Some (f bag)
get_map f [] k bag is = absurd (cc)
get_map f (x ∷ xs) zero bag is = ap (λ (b : Bag). Some (f b)) (some_same is)
get_map f (x ∷ xs) (suc k) bag is = get_map f xs k bag is

map_got : (f : Bag → ℕ) (bags : List Bag) (k e : ℕ) → slice_get (map f bags) k ≡ Some e → (bag : Bag) × (slice_get bags k ≡ Some bag) × (f bag ≡ e)
map_got f [] k e is = absurd (cc)
map_got f (x ∷ xs) zero e is = (x, refl, some_same is)
map_got f (x ∷ xs) (suc k) e is = map_got f xs k e is

pub place_once : (xs : List ℕ) (k l e : ℕ) → Once xs → slice_get xs k ≡ Some e → slice_get xs l ≡ Some e → k ≡ l
place_once [] k l e once at to = absurd (cc)
place_once (x ∷ xs) zero zero e once at to = refl
place_once (x ∷ xs) zero (suc l) e once at to = absurd (once.0 (subst (λ (n : ℕ). IsMember n xs) (sym (some_same at)) (get_member xs l e to)))
place_once (x ∷ xs) (suc k) zero e once at to = absurd (once.0 (subst (λ (n : ℕ). IsMember n xs) (sym (some_same to)) (get_member xs k e at)))
place_once (x ∷ xs) (suc k) (suc l) e once at to = ap suc (place_once xs k l e once.1 at to)

-- a filtered list
filtered : (p : ℕ → Bool) (xs : List ℕ) (e : ℕ) → IsMember e (filter p xs) → IsMember e xs × (p e ≡ true)
filtered p [] e m = absurd m
filtered p (x ∷ xs) e m = go (p x) refl (filtered p xs e) m
  where
    go : (b : Bool) → p x ≡ b → (IsMember e (filter p xs) → IsMember e xs × (p e ≡ true)) → IsMember e (cond b (x ∷ filter p xs) (filter p xs)) → IsMember e (x ∷ xs) × (p e ≡ true)
    go true is later (inl same) = (inl same, ap p same ∙ is)
    go true is later (inr m) = let r = later m in (inr r.0, r.1)
    go false is later m = let r = later m in (inr r.0, r.1)

kept : (p : ℕ → Bool) (xs : List ℕ) (e : ℕ) → IsMember e xs → p e ≡ true → IsMember e (filter p xs)
kept p [] e m is = absurd m
kept p (x ∷ xs) e (inl same) is = subst (λ (b : Bool). IsMember e (cond b (x ∷ filter p xs) (filter p xs))) (sym (ap p (sym same) ∙ is)) (inl same)
kept p (x ∷ xs) e (inr m) is = go (p x) (kept p xs e m is)
  where
    go : (b : Bool) → IsMember e (filter p xs) → IsMember e (cond b (x ∷ filter p xs) (filter p xs))
    go true m = inr m
    go false m = m

pub once_filter : (p : ℕ → Bool) (xs : List ℕ) → Once xs → Once (filter p xs)
once_filter p [] once = tt
once_filter p (x ∷ xs) once = go (p x) (once_filter p xs once.1)
  where
    go : (b : Bool) → Once (filter p xs) → Once (cond b (x ∷ filter p xs) (filter p xs))
    go true rest = (λ m. once.0 (filtered p xs x m).0, rest)
    go false rest = rest

bag_at : (made : List Made) (links : List PadLink) (bags : List Bag) → All (IsBag made links) bags → (k : ℕ) (bag : Bag) → slice_get bags k ≡ Some bag → IsBag made links bag
bag_at made links [] all k bag is = absurd (cc)
bag_at made links (x ∷ xs) all zero bag is = subst (λ (b : Bag). IsBag made links b) (some_same is) (all 0 x (omega arith))
bag_at made links (x ∷ xs) all (suc k) bag is = bag_at made links xs (λ n d w. all (suc n) d (omega (arith, w))) k bag is

passing : (p : ℕ → Bool) (size e : ℕ) → IsMember e (filter p (range_with_len 0 size)) → (e < size) × (p e ≡ true)
passing p size e member =
    let m = filtered p (range_with_len 0 size) e member in let r = range_holds 0 size e m.0 in (omega (arith, r.1), m.1)

-- a loose element is no head
pub loose_no_head : (made : List Made) (links : List PadLink) (e : ℕ) → IsLoose made links e → has is_head made e ≡ true → ⊥
loose_no_head made links e loose is = no (has is_head made e) is loose.loose
  where
    no : (b : Bool) → b ≡ true → not (b || is_some (source_before links (place_at e 0))) ≡ true → ⊥
    no true is loose = cc
    no false is loose = cc

-- those that are loose are, and none stands twice
pub loose_found : (made : List Made) (links : List PadLink) (e : ℕ) → IsMember e (loose_in made links) → IsLoose made links e
loose_found made links e m = let p = passing (is_loose made links) (length made) e m in record { there = p.0; loose = p.1 }

pub loose_once : (made : List Made) (links : List PadLink) → Once (loose_in made links)
loose_once made links = once_filter (is_loose made links) (range_with_len 0 (length made)) (range_once 0 (length made))

module _ (made : List Made) (links : List PadLink) (bags : List Bag) (are : AreBags made links bags) where
  head_at : (k : ℕ) (bag : Bag) → slice_get bags k ≡ Some bag → slice_get (heads_in made ++ are.loose) k ≡ Some (head_of bag)
  head_at k bag is = subst (λ (hs : List ℕ). slice_get hs k ≡ Some (head_of bag)) are.heads (get_map head_of bags k bag is)

  -- each is there and begins a bag
  heads_are : (k e : ℕ) → slice_get (heads_in made ++ are.loose) k ≡ Some e → (e < length made) × Begins made links e
  heads_are k e is = go (in_either e (heads_in made) are.loose (get_member (heads_in made ++ are.loose) k e is))
    where
      go : IsMember e (heads_in made) ⊎ IsMember e are.loose → (e < length made) × Begins made links e
      go (inl m) = let p = passing (has is_head made) (length made) e m in (p.0, inl p.1)
      go (inr m) = let loose = are.loose_are e m in (loose.there, inr loose)

  -- none stands twice
  listed_once : Once (heads_in made ++ are.loose)
  listed_once =
      once_append (heads_in made) are.loose (once_filter (has is_head made) (range_with_len 0 (length made)) (range_once 0 (length made))) are.loose_once
      (λ e m n. loose_no_head made links e (are.loose_are e n) (passing (has is_head made) (length made) e m).1)

  pub heads_once : Once (map head_of bags)
  heads_once = subst Once (sym are.heads) listed_once

  -- a bag begins with what begins one
  pub bag_begins : (k : ℕ) (bag : Bag) → slice_get bags k ≡ Some bag → Begins made links (head_of bag)
  bag_begins k bag is = (heads_are k (head_of bag) (head_at k bag is)).1

module _ (made : List Made) (links : List PadLink) (all : All (HasPads made) links) (once : AreOnce links) where
  -- what begins a bag is reached by itself alone
  from_head : (head other : ℕ) → Begins made links head → Reaches made links other head → head ≡ other
  from_head head other is Reaches.itself = refl
  from_head head other is (Reaches.further a d r l) = absurd (none_leads made links all once head is a l)

  -- and an element by one of these
  pub same_head : (head other e : ℕ) → Begins made links head → Begins made links other → Reaches made links head e → Reaches made links other e → head ≡ other
  same_head head other e is too Reaches.itself r = from_head head other is r
  same_head head other e is too (Reaches.further a d q l) r = by e l r (λ b n w. same_head head other a is too q (subst (λ (k : ℕ). Reaches made links other k) (sym ((is_tree made links all once head is).one a b e (leads_inside made links a e l) (leads_inside made links b e n))) w))
    where
      by : (e : ℕ) → LeadsInside made links a e → Reaches made links other e → ((b : ℕ) → LeadsInside made links b e → Reaches made links other b → head ≡ other) → head ≡ other
      by e l Reaches.itself later = absurd (none_leads made links all once other too a l)
      by e l (Reaches.further b d w n) later = later b n w

pub bags_are_apart : BagsAreApart
bags_are_apart made links bags all once are k other e s t =
    let at = head_at made links bags are k s.bag s.is in
    let to = head_at made links bags are other t.bag t.is in
    let r = (bag_at made links bags are.are k s.bag s.is).only e s.among in
    let q = (bag_at made links bags are.are other t.bag t.is).only e t.among in
    let same = same_head made links all once (head_of s.bag) (head_of t.bag) e (bag_begins made links bags are k s.bag s.is) (bag_begins made links bags are other t.bag t.is) r q in
    place_once (heads_in made ++ are.loose) k other (head_of t.bag) (listed_once made links bags are) (at ∙ ap Some same) to

-- where no loose element has a bag, each begins with a head
pub heads_alone : (made : List Made) (links : List PadLink) (bags : List Bag) → AreHeadBags made links bags → map head_of bags ≡ heads_in made
heads_alone made links bags alone = alone.are.heads ∙ ap (λ (ns : List ℕ). heads_in made ++ ns) alone.none ∙ append-nil (heads_in made)

pub alone_head : (made : List Made) (links : List PadLink) (bags : List Bag) → AreHeadBags made links bags → (k : ℕ) (bag : Bag) → slice_get bags k ≡ Some bag → has is_head made (head_of bag) ≡ true
alone_head made links bags alone k bag is =
    (passing (has is_head made) (length made) (head_of bag)
    (get_member (heads_in made) k (head_of bag) (subst (λ (hs : List ℕ). slice_get hs k ≡ Some (head_of bag)) (heads_alone made links bags alone) (get_map head_of bags k bag is)))).1

pub bags_are_closed : BagsAreClosed
bags_are_closed made links bag is a d m l = is.whole d (Reaches.further a d (is.only a m) l)

-- each that is listed has a bag
listed_bag : (made : List Made) (links : List PadLink) (bags : List Bag) (are : AreBags made links bags) (e : ℕ) → IsMember e (heads_in made ++ are.loose) → HasBag bags e
listed_bag made links bags are e m =
    let g = member_got (heads_in made ++ are.loose) e m in
    let b = map_got head_of bags g.0 e (subst (λ (hs : List ℕ). slice_get hs g.0 ≡ Some e) (sym are.heads) g.1) in
    record { number = g.0; bag = b.0; is = b.1; head = b.2 }

pub heads_have_bags : HeadsHaveBags
heads_have_bags made links bags are e is =
    let m = kept (has is_head made) (range_with_len 0 (length made)) e (range_has 0 (length made) e (omega arith) (there (slice_get made e) refl is)) is in
    listed_bag made links bags are e (in_front e (heads_in made) are.loose m)
  where
    there : (found : Option Made) → slice_get made e ≡ found → option_map_or (λ (m : Made). is_head m.settings) found false ≡ true → e < 0 + length made
    there None at is = absurd (cc)
    there (Some m) at is = let w = slice_get_within made e m at in omega (arith, w)

pub loose_have_bags : LooseHaveBags
loose_have_bags made links bags all e loose =
    let there = loose.there in
    let m = kept (is_loose made links) (range_with_len 0 (length made)) e (range_has 0 (length made) e (omega arith) (omega (arith, there))) loose.loose in
    listed_bag made links bags all.are e (in_back e (heads_in made) all.are.loose (subst (λ (ns : List ℕ). IsMember e ns) (sym all.all) m))

pub bags_are_there : BagsAreThere
bags_are_there made links bags all are k e s =
    let at = head_at made links bags are k s.bag s.is in
    reached_there made links all (head_of s.bag) (heads_are made links bags are k (head_of s.bag) at).0 e ((bag_at made links bags are.are k s.bag s.is).only e s.among)

pads_at_place : (made : List Made) (links : List PadLink) (xs : List BagElement) → HavePads made links xs → (place : ℕ) (cell : BagElement) → slice_get xs place ≡ Some cell
    → cell.pads.items ≡ pads_of made links cell.element
pads_at_place made links [] have place cell is = absurd (cc)
pads_at_place made links (x ∷ xs) have zero cell is = subst (λ (c : BagElement). c.pads.items ≡ pads_of made links c.element) (some_same is) have.0
pads_at_place made links (x ∷ xs) have (suc k) cell is = pads_at_place made links xs have.1 k cell is

link_is : (made : List Made) (found : Option PadPlace) → IsLink made found (link_to made found)
link_is made None = refl
link_is made (Some sink) = go (has has_inlets made sink.element) refl
  where
    go : (b : Bool) → has has_inlets made sink.element ≡ b → IsLink made (Some sink) (if b then Lane sink.element sink.pad else Element sink.element sink.pad)
    go true is = (refl, is)
    go false is = (refl, is)

get_range : (f : ℕ → BagPad) (start n k : ℕ) (pad : BagPad) → slice_get (map f (range_with_len start n)) k ≡ Some pad → pad ≡ f (start + k)
get_range f start zero k pad is = absurd (cc)
get_range f start (suc n) zero pad is = sym (some_same is) ∙ ap f (omega arith)
get_range f start (suc n) (suc k) pad is = get_range f (start + 1) n k pad is ∙ ap f (omega arith)

pads_are : (made : List Made) (links : List PadLink) (cell : BagElement) → cell.pads.items ≡ pads_of made links cell.element → TellsPads made links cell
pads_are made links cell is = record {
  all = ap length is ∙ length-map-range_with_len (pad_at made links cell.element) 0 (source_count made cell.element);
  each = λ k pad at.
      let own = get_range (pad_at made links cell.element) 0 (source_count made cell.element) k pad (subst (λ (pads : List BagPad). slice_get pads k ≡ Some pad) is at) in
      subst (λ (p : BagPad). IsLink made (sink_behind links (place_at cell.element k)) p.leads) (sym (own ∙ ap (pad_at made links cell.element) (omega arith)))
      (link_is made (sink_behind links (place_at cell.element k)));
}

pub bags_have_pads : BagsHavePads
bags_have_pads made links bag is place cell at = pads_are made links cell (pads_at_place made links (cells bag) is.pads place cell at)
