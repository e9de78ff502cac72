-- The ends of lanes are taken for one pad, one element and one bag after the other.
use Rattle.std.proofs.Common.{◌≡◌, ◌<◌, ◌+◌, ℕ, zero, suc, true, false, List, [], ◌∷◌, ◌++◌, All, Option, None, Some, Vec, Global, length, map, take, refl, sym, ap, ◌∙◌, subst, inl, inr, append_assoc, arith}
use Rattle.std.specs.Prelude.{slice_get}
use Rattle.std.specs.List.{flat_map}
use Rattle.std.specs.Option.{option_map_or}
use Rattle.std.proofs.lemmas.Grind.{flat_map-append}
use Rattle.std.proofs.lemmas.List.{append-nil, take_all}
use Rattle.std.proofs.lemmas.Option.{slice_get_within}
use Rattle.flow_model.specs.Account.{IsMember}
use Rattle.el_settings.specs.Asked.{source_pads, is_source}
use Rattle.el_settings.proofs.Roles.{source_sources}
use Rattle.graph_core.specs.Elements.{Made}
use Rattle.graph_pads.specs.declared.pad.PadLink.{PadLink}
use Rattle.graph_parts.specs.Bags.{IsBag, Once, cells, head_cells, head_of, number_of, numbers}
use Rattle.graph_parts.specs.Links.{Reaches}
use Rattle.graph_parts.specs.declared.bag.Bag.{Bag}
use Rattle.graph_parts.specs.declared.bag.BagElement.{BagElement}
use Rattle.graph_parts.specs.declared.bag.BagHead.TheVariants as bags
use Rattle.graph_parts.specs.declared.bag.BagPad.{BagPad}
use Rattle.graph_parts.proofs.Apart.{bags_are_there, bags_have_pads}
use Rattle.graph_parts.proofs.Onces.{once_front}
use Rattle.graph_parts.proofs.LaneSlots.{one_slot}
use Rattle.inlet_row.specs.declared.row.InletRow.{InletRow}
use Rattle.lane_core.specs.declared.ends.Inlet as inlets
use Rattle.lane_core.specs.declared.ends.Outlet as outlets
use Rattle.task_pads.specs.declared.pad.Pad.{Pad}
use Rattle.graph_tasks.specs.Tasks.{IsPadOf}
use Rattle.graph_tasks.specs.Wired.{IsWiredPart, IsWiredTask}
use Rattle.graph_tasks.specs.Wiring.{BagGiven, BagMade, BagsGiven, CellGiven, CellsGiven, HeadGiven, HeadMade, InletsLeft, OutletsLeft, PadGiven, PadMade, PadsMade, PartsMade, RowsMade, cell_lanes, first_link, inlets_of, lane_to, pad_lanes}
use Rattle.graph_tasks.specs.declared.wired_task.WiredHead.TheVariants.{Source, Inlets}
use Rattle.graph_tasks.specs.declared.wired_task.WiredPart.{WiredPart}
use Rattle.graph_tasks.specs.declared.wired_task.WiredTask.{WiredTask}
use Rattle.graph_tasks.proofs.Closed.{is_shape_closed}
use Rattle.graph_tasks.proofs.Flats.{apart_back, at_back, at_front, flat_more, next_once}
use Rattle.graph_tasks.proofs.Targets.{all_inlets, all_lanes}
use Rattle.gst_value.proofs.Basics.{some_same}

module _ (made : List Made) (links : List PadLink) where
  -- the pad of a port of an element whose pads are given
  pub pad_given : (cell : BagElement) (gone : List ℕ) (port : ℕ) (pad : BagPad) → slice_get cell.pads.items port ≡ Some pad → CellGiven made links cell gone
      → PadGiven made links cell.element port pad.leads (gone ++ pad_lanes (take port cell.pads.items))
  pad_given cell gone port pad at given = record {
    links_are = given.links_are;
    there = given.there;
    port_there = let w = slice_get_within cell.pads.items port pad at in omega (arith, w, given.pads.all);
    link = given.pads.each port pad at;
    apart =
        apart_back (gone ++ pad_lanes (take port cell.pads.items)) (lane_to pad.leads)
        (next_once (λ (p : BagPad). lane_to p.leads) gone cell.pads.items port pad at given.once);
  }

  -- an element of these
  pub cell_given : (own : List BagElement) (gone : List ℕ) (place : ℕ) (cell : BagElement) → slice_get own place ≡ Some cell → CellsGiven made links own gone
      → CellGiven made links cell (gone ++ cell_lanes (take place own))
  cell_given own gone place cell at given = record {
    links_are = given.links_are;
    there = given.there place cell at;
    pads = given.pads place cell at;
    once = next_once (λ (c : BagElement). pad_lanes c.pads.items) gone own place cell at given.once;
  }

  -- the first of these, and those behind them
  pub cells_front : (xs ys : List BagElement) (gone : List ℕ) → CellsGiven made links (xs ++ ys) gone → CellsGiven made links xs gone
  cells_front xs ys gone given = record {
    links_are = given.links_are;
    there = λ place cell at. given.there place cell (at_front xs ys place cell at);
    pads = λ place cell at. given.pads place cell (at_front xs ys place cell at);
    once = once_front (gone ++ cell_lanes xs) (cell_lanes ys) (subst Once (lanes_behind xs ys gone) given.once);
  }
    where
      lanes_behind : (xs ys : List BagElement) (gone : List ℕ) → gone ++ cell_lanes (xs ++ ys) ≡ (gone ++ cell_lanes xs) ++ cell_lanes ys
      lanes_behind xs ys gone = ap (λ (ns : List ℕ). gone ++ ns) (flat_map-append (λ (c : BagElement). pad_lanes c.pads.items) xs ys) ∙ sym (append_assoc gone (cell_lanes xs) (cell_lanes ys))

  pub lanes_both : (xs ys : List BagElement) (gone : List ℕ) → (gone ++ cell_lanes xs) ++ cell_lanes ys ≡ gone ++ cell_lanes (xs ++ ys)
  lanes_both xs ys gone = append_assoc gone (cell_lanes xs) (cell_lanes ys) ∙ ap (λ (ns : List ℕ). gone ++ ns) (sym (flat_map-append (λ (c : BagElement). pad_lanes c.pads.items) xs ys))

  pub cells_back : (xs ys : List BagElement) (gone : List ℕ) → CellsGiven made links (xs ++ ys) gone → CellsGiven made links ys (gone ++ cell_lanes xs)
  cells_back xs ys gone given = record {
    links_are = given.links_are;
    there = λ place cell at. given.there (length xs + place) cell (at_back xs ys place cell at);
    pads = λ place cell at. given.pads (length xs + place) cell (at_back xs ys place cell at);
    once = subst Once (sym (lanes_both xs ys gone)) given.once;
  }

  pub head_given : (bag : Bag) (gone heads : List ℕ) → BagGiven made links bag gone heads → HeadGiven made links bag.head (gone ++ cell_lanes bag.elements.items) heads
  head_given bag gone heads given = record {
    is = given.is.head;
    own = cells_back bag.elements.items (head_cells bag.head) gone given.own;
    there = given.there;
    apart = given.apart;
  }

source_has : (found : Option Made) → option_map_or (λ (m : Made). is_source m.settings) found false ≡ true → option_map_or (λ (m : Made). source_pads m.settings) found 0 ≡ 1
source_has None is = absurd (cc)
source_has (Some m) is = source_sources m.settings is

module _ {O L : Type 0} (o : outlets.Ghosts O L) (made : List Made) (links : List PadLink) where
  -- The pads of the first ports of an element were made.
  pub record PadsSo (cell : BagElement) (gone : List ℕ) (port : ℕ) (pads : List (Pad O)) (ends : List (Option O)) : Type 0 where
    pub each : (k : ℕ) (pad : Pad O) → slice_get pads k ≡ Some pad → IsPadOf o made links cell.element k pad
    pub left : OutletsLeft o made links (gone ++ pad_lanes (take port cell.pads.items)) ends

  pub pads_begin : (cell : BagElement) (gone : List ℕ) (pads : List (Pad O)) (ends : List (Option O)) → pads ≡ [] → OutletsLeft o made links gone ends → PadsSo cell gone 0 pads ends
  pads_begin cell gone pads ends none left = record {
    each = λ k pad at. absurd (let no = sym at ∙ ap (λ (ps : List (Pad O)). slice_get ps k) none in cc);
    left = subst (λ (ns : List ℕ). OutletsLeft o made links ns ends) (sym (append-nil gone)) left;
  }

  pub pads_more : (cell : BagElement) (gone : List ℕ) (port : ℕ) (own : BagPad) (pads pads' : List (Pad O)) (pad : Pad O) (ends' : List (Option O)) → slice_get cell.pads.items port ≡ Some own → length pads ≡ port
      → ((k : ℕ) (p : Pad O) → slice_get pads k ≡ Some p → IsPadOf o made links cell.element k p) → PadMade o made links cell.element port own.leads (gone ++ pad_lanes (take port cell.pads.items)) pad ends'
      → pads' ≡ pads ++ pad ∷ [] → PadsSo cell gone (port + 1) pads' ends'
  pads_more cell gone port own pads pads' pad ends' at size each one put = record {
    each = one_slot (λ (k : ℕ) (p : Pad O). IsPadOf o made links cell.element k p) pads pads' pad port put size each one.is;
    left = subst (λ (ns : List ℕ). OutletsLeft o made links ns ends') (flat_more (λ (p : BagPad). lane_to p.leads) gone cell.pads.items port own at) one.left;
  }

  pub pads_made : (cell : BagElement) (gone : List ℕ) (port : ℕ) (pads : List (Pad O)) (ends : List (Option O)) → CellGiven made links cell gone → length pads ≡ port → port ≡ length cell.pads.items
      → PadsSo cell gone port pads ends → PadsMade o made links cell gone pads ends
  pads_made cell gone port pads ends given size whole so = record {
    count = size ∙ whole ∙ given.pads.all;
    each = so.each;
    left = subst (λ (ps : List BagPad). OutletsLeft o made links (gone ++ pad_lanes ps) ends) (take_all port cell.pads.items (omega (arith, whole))) so.left;
  }

  -- The first of these elements were made.
  pub record PartsSo (own : List BagElement) (gone : List ℕ) (place : ℕ) (parts : List (WiredPart O)) (ends : List (Option O)) : Type 0 where
    pub each : (k : ℕ) (part : WiredPart O) → slice_get parts k ≡ Some part → (cell : BagElement) → slice_get own k ≡ Some cell → IsWiredPart o made links cell part
    pub left : OutletsLeft o made links (gone ++ cell_lanes (take place own)) ends

  pub parts_begin : (own : List BagElement) (gone : List ℕ) (parts : List (WiredPart O)) (ends : List (Option O)) → parts ≡ [] → OutletsLeft o made links gone ends → PartsSo own gone 0 parts ends
  parts_begin own gone parts ends none left = record {
    each = λ k part at. absurd (let no = sym at ∙ ap (λ (ps : List (WiredPart O)). slice_get ps k) none in cc);
    left = subst (λ (ns : List ℕ). OutletsLeft o made links ns ends) (sym (append-nil gone)) left;
  }

  pub parts_more : (own : List BagElement) (gone : List ℕ) (place : ℕ) (cell : BagElement) (parts parts' : List (WiredPart O)) (part : WiredPart O) (ends' : List (Option O)) → slice_get own place ≡ Some cell
      → length parts ≡ place → ((k : ℕ) (p : WiredPart O) → slice_get parts k ≡ Some p → (c : BagElement) → slice_get own k ≡ Some c → IsWiredPart o made links c p)
      → part.number ≡ cell.element → PadsMade o made links cell (gone ++ cell_lanes (take place own)) part.pads.items ends'
      → parts' ≡ parts ++ part ∷ [] → PartsSo own gone (place + 1) parts' ends'
  parts_more own gone place cell parts parts' part ends' at size each number one put = record {
    each =
        one_slot (λ (k : ℕ) (p : WiredPart O). (c : BagElement) → slice_get own k ≡ Some c → IsWiredPart o made links c p) parts parts' part place put size each
        (λ c to. subst (λ (d : BagElement). IsWiredPart o made links d part) (some_same (sym at ∙ to)) (record { number = number; all = one.count; pads = one.each }));
    left = subst (λ (ns : List ℕ). OutletsLeft o made links ns ends') (flat_more (λ (c : BagElement). pad_lanes c.pads.items) gone own place cell at) one.left;
  }

  pub parts_made : (own : List BagElement) (gone : List ℕ) (place : ℕ) (parts : List (WiredPart O)) (ends : List (Option O)) → length parts ≡ place → place ≡ length own → PartsSo own gone place parts ends
      → PartsMade o made links own gone parts ends
  parts_made own gone place parts ends size whole so = record {
    count = size ∙ whole;
    each = λ k cell part at to. so.each k part to cell at;
    left = subst (λ (cs : List BagElement). OutletsLeft o made links (gone ++ cell_lanes cs) ends) (take_all place own (omega (arith, whole))) so.left;
  }

  -- the pad of a source
  first_at : (pads : List BagPad) → length pads ≡ 1 → slice_get pads 0 ≡ Some (record { leads = first_link pads })
  first_at [] size = absurd (omega (arith, size))
  first_at (p ∷ ps) size = refl

  one_lane : (pads : List BagPad) → length pads ≡ 1 → pad_lanes pads ≡ lane_to (first_link pads)
  one_lane [] size = absurd (omega (arith, size))
  one_lane (p ∷ []) size = append-nil (lane_to p.leads)
  one_lane (p ∷ q ∷ ps) size = absurd (omega (arith, size))

  source_lanes : (own : BagElement) → length own.pads.items ≡ 1 → cell_lanes (own ∷ []) ≡ lane_to (first_link own.pads.items)
  source_lanes own size = append-nil (pad_lanes own.pads.items) ∙ one_lane own.pads.items size

  source_size : (own : BagElement) (gone heads : List ℕ) → HeadGiven made links (bags.Source own) gone heads → length own.pads.items ≡ 1
  source_size own gone heads given = (given.own.pads 0 own refl).all ∙ source_has (slice_get made own.element) given.is

  pub source_given : (own : BagElement) (gone heads : List ℕ) → HeadGiven made links (bags.Source own) gone heads → PadGiven made links own.element 0 (first_link own.pads.items) gone
  source_given own gone heads given =
      let size = source_size own gone heads given in
      let tells = given.own.pads 0 own refl in
      record {
        links_are = given.own.links_are;
        there = given.there;
        port_there = omega (arith, source_has (slice_get made own.element) given.is);
        link = tells.each 0 (record { leads = first_link own.pads.items }) (first_at own.pads.items size);
        apart = apart_back gone (lane_to (first_link own.pads.items)) (subst (λ (ns : List ℕ). Once (gone ++ ns)) (source_lanes own size) given.own.once);
      }

  pub source_left : (own : BagElement) (gone heads : List ℕ) (ends : List (Option O)) → HeadGiven made links (bags.Source own) gone heads → OutletsLeft o made links (gone ++ lane_to (first_link own.pads.items)) ends
      → OutletsLeft o made links (gone ++ cell_lanes (head_cells (bags.Source own))) ends
  source_left own gone heads ends given left = subst (λ (ns : List ℕ). OutletsLeft o made links (gone ++ ns) ends) (sym (source_lanes own (source_size own gone heads given))) left

module _ {I O L : Type 0} (i : inlets.Ghosts I L O) (o : outlets.Ghosts O L) (made : List Made) (links : List PadLink) where
  pub source_head : (own : BagElement) (gone heads : List ℕ) (pad : Pad O) (ends : List (Option O)) (starts : List (Option I)) → HeadGiven made links (bags.Source own) gone heads → InletsLeft i made links heads starts
      → PadMade o made links own.element 0 (first_link own.pads.items) gone pad ends → HeadMade i o made links (bags.Source own) gone heads (Source own.element pad) ends starts
  source_head own gone heads pad ends starts given left one = record {
    wired = (refl, source_has (slice_get made own.element) given.is, one.is);
    outlets = source_left o made links own gone heads ends given one.left;
    inlets = subst (λ (ns : List ℕ). InletsLeft i made links ns starts) (sym (append-nil heads)) left;
  }

  pub inlets_head : (n hint : ℕ) (gone heads : List ℕ) (rows : Vec (InletRow I) Global) (ends : List (Option O)) (starts : List (Option I)) → OutletsLeft o made links gone ends → RowsMade i made links n heads rows.items starts
      → HeadMade i o made links (bags.Inlets n) gone heads (Inlets n hint rows) ends starts
  inlets_head n hint gone heads rows ends starts outs they = record {
    wired = (refl, they.count, they.each);
    outlets = subst (λ (ns : List ℕ). OutletsLeft o made links ns ends) (sym (append-nil gone)) outs;
    inlets = they.left;
  }

  -- the task of a bag
  pub bag_made : (bag : Bag) (gone heads : List ℕ) (task : WiredTask I O) (middle ends : List (Option O)) (starts : List (Option I)) → BagGiven made links bag gone heads
      → PartsMade o made links bag.elements.items gone task.parts.items middle → HeadMade i o made links bag.head (gone ++ cell_lanes bag.elements.items) heads task.head ends starts
      → BagMade i o made links bag gone heads task ends starts
  bag_made bag gone heads task middle ends starts given parts head = record {
    wired = record {
      head = head.wired;
      count = parts.count;
      parts = parts.each;
      closed = is_shape_closed made links given.own.links_are bag given.is i o task head.wired parts.count parts.each;
    };
    outlets = subst (λ (ns : List ℕ). OutletsLeft o made links ns ends) (lanes_both made links bag.elements.items (head_cells bag.head) gone) head.outlets;
    inlets = head.inlets;
  }

  -- The first of these bags have their tasks.
  pub record BagsSo (bags : List Bag) (k : ℕ) (tasks : List (WiredTask I O)) (ends : List (Option O)) (starts : List (Option I)) : Type 0 where
    pub each : (j : ℕ) (task : WiredTask I O) → slice_get tasks j ≡ Some task → (bag : Bag) → slice_get bags j ≡ Some bag → IsWiredTask i o made links bag task
    pub outlets : OutletsLeft o made links (flat_map (λ (bag : Bag). cell_lanes (cells bag)) (take k bags)) ends
    pub inlets : InletsLeft i made links (flat_map (λ (bag : Bag). inlets_of made bag.head) (take k bags)) starts

  pub bags_begin : (bags : List Bag) (tasks : List (WiredTask I O)) (ends : List (Option O)) (starts : List (Option I)) → tasks ≡ [] → OutletsLeft o made links [] ends → InletsLeft i made links [] starts
      → BagsSo bags 0 tasks ends starts
  bags_begin bags tasks ends starts none outs ins = record {
    each = λ k task at. absurd (let no = sym at ∙ ap (λ (ts : List (WiredTask I O)). slice_get ts k) none in cc);
    outlets = outs;
    inlets = ins;
  }

  pub bags_more : (bags : List Bag) (k : ℕ) (bag : Bag) (tasks tasks' : List (WiredTask I O)) (task : WiredTask I O) (ends' : List (Option O)) (starts' : List (Option I)) → slice_get bags k ≡ Some bag → length tasks ≡ k
      → ((j : ℕ) (t : WiredTask I O) → slice_get tasks j ≡ Some t → (b : Bag) → slice_get bags j ≡ Some b → IsWiredTask i o made links b t)
      → BagMade i o made links bag (flat_map (λ (b : Bag). cell_lanes (cells b)) (take k bags)) (flat_map (λ (b : Bag). inlets_of made b.head) (take k bags)) task ends' starts'
      → tasks' ≡ tasks ++ task ∷ [] → BagsSo bags (k + 1) tasks' ends' starts'
  bags_more bags k bag tasks tasks' task ends' starts' at size each one put = record {
    each =
        one_slot (λ (j : ℕ) (t : WiredTask I O). (b : Bag) → slice_get bags j ≡ Some b → IsWiredTask i o made links b t) tasks tasks' task k put size each
        (λ b to. subst (λ (c : Bag). IsWiredTask i o made links c task) (some_same (sym at ∙ to)) one.wired);
    outlets = subst (λ (ns : List ℕ). OutletsLeft o made links ns ends') (flat_more (λ (b : Bag). cell_lanes (cells b)) [] bags k bag at) one.outlets;
    inlets = subst (λ (ns : List ℕ). InletsLeft i made links ns starts') (flat_more (λ (b : Bag). inlets_of made b.head) [] bags k bag at) one.inlets;
  }

module _ (made : List Made) (links : List PadLink) (bags : List Bag) (given : BagsGiven made links bags) (k : ℕ) (bag : Bag) (at : slice_get bags k ≡ Some bag) where
  bag_is : IsBag made links bag
  bag_is = by bags given.are.are k at
    where
      by : (bs : List Bag) → All (IsBag made links) bs → (k : ℕ) → slice_get bs k ≡ Some bag → IsBag made links bag
      by [] all k is = absurd (cc)
      by (x ∷ xs) all zero is = subst (λ (b : Bag). IsBag made links b) (some_same is) (all 0 x (omega arith))
      by (x ∷ xs) all (suc k) is = by xs (λ n d w. all (suc n) d (omega (arith, w))) k is

  stands : (e : ℕ) → IsMember e (numbers bag) → e < length made
  stands e m = bags_are_there made links bags given.links_are.all given.are k e (record { bag = bag; is = at; among = m })

  cell_among : (xs : List BagElement) (place : ℕ) (cell : BagElement) → slice_get xs place ≡ Some cell → IsMember cell.element (map number_of xs)
  cell_among [] place cell is = absurd (cc)
  cell_among (x ∷ xs) zero cell is = inl (ap number_of (sym (some_same is)))
  cell_among (x ∷ xs) (suc place) cell is = inr (cell_among xs place cell is)

  -- the bag of a number, and that nothing was taken for it
  pub bag_given : BagGiven made links bag (flat_map (λ (b : Bag). cell_lanes (cells b)) (take k bags)) (flat_map (λ (b : Bag). inlets_of made b.head) (take k bags))
  bag_given = record {
    is = bag_is;
    own = record {
      links_are = given.links_are;
      there = λ place cell to. stands cell.element (cell_among (cells bag) place cell to);
      pads = λ place cell to. bags_have_pads made links bag bag_is place cell to;
      once = next_once (λ (b : Bag). cell_lanes (cells b)) [] bags k bag at (all_lanes made links bags given);
    };
    there = stands (head_of bag) (bag_is.whole (head_of bag) Reaches.itself);
    apart =
        apart_back (flat_map (λ (b : Bag). inlets_of made b.head) (take k bags)) (inlets_of made bag.head)
        (next_once (λ (b : Bag). inlets_of made b.head) [] bags k bag at (all_inlets made links bags given));
  }
