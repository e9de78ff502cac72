-- What is put behind a row.
use Rattle.std.proofs.Common.{◌≡◌, ◌≢◌, ℕ, List, [], ◌∷◌, ◌++◌, refl, ap, sym, ◌∙◌, subst, append_assoc, append-nil}
use Rattle.std.specs.List.{slice_get}
use Rattle.gst_item.specs.declared.item.Item.{Item}
use Rattle.lane_core.specs.declared.ends.Inlet as inlets
use Rattle.lane_core.specs.Lane.{Lane, IsIn}
use Rattle.inlet_row.specs.declared.feeding.Feeding.{Feeding}
use Rattle.inlet_row.specs.declared.feeding.Feeding.TheVariants.{Given, Lane as OfLane}
use Rattle.inlet_row.specs.declared.row.InletRow.{InletRow}
use Rattle.inlet_row.specs.Row.{Apart, ForLanes, GaveInAll, GaveOf, feeds_of, held, items_of}
use Rattle.inlet_row.specs.Ends.{Gives, Links, Stays}

module _ {I : Type 0} where
  for_append : (P : I → Type 0) (xs ys : List (Feeding I)) → ForLanes P xs → ForLanes P ys → ForLanes P (xs ++ ys)
  for_append P [] ys h k = k
  for_append P (Given x ∷ xs) ys h k = for_append P xs ys h k
  for_append P (OfLane n e ∷ xs) ys h k = (h.0, for_append P xs ys h.1 k)

  -- a thing that gave nothing is behind
  gave_append : (Gave : I → List Item → Type 0) (feeds : List (Feeding I)) (feed : Feeding I) (got : List Item) → GaveInAll Gave feeds got → ForLanes (λ inlet. Gave inlet []) (feed ∷ []) → GaveInAll Gave (feeds ++ feed ∷ []) got
  gave_append Gave [] (Given x) got h k = record { past = got; lane = []; whole = sym (append-nil got); front = refl; behind = tt }
  gave_append Gave [] (OfLane n e) got h k = record { past = got; lane = []; whole = sym (append-nil got); front = k.0; behind = tt }
  gave_append Gave (Given x ∷ feeds) feed got h k = record { past = h.past; lane = h.lane; whole = h.whole; front = h.front; behind = for_append (λ inlet. Gave inlet []) feeds (feed ∷ []) h.behind k }
  gave_append Gave (OfLane n e ∷ feeds) feed got h k = record { past = h.past; lane = h.lane; whole = h.whole; front = h.front; behind = for_append (λ inlet. Gave inlet []) feeds (feed ∷ []) h.behind k }

module _ {I L O : Type 0} (i : inlets.Ghosts I L O) where
  apart_given : (feeds : List (Feeding I)) (x : Item) → Apart i feeds → Apart i (feeds ++ Given x ∷ [])
  apart_given [] x h = tt
  apart_given (Given y ∷ feeds) x h = apart_given feeds x h
  apart_given (OfLane n e ∷ feeds) x h = (for_append (λ other. i.place other ≢ i.place e) feeds (Given x ∷ []) h.0 tt, apart_given feeds x h.1)

  apart_lane : (feeds : List (Feeding I)) (number : ℕ) (inlet : I) → Apart i feeds → ForLanes (λ other. i.place inlet ≢ i.place other) feeds → Apart i (feeds ++ OfLane number inlet ∷ [])
  apart_lane [] number inlet h k = (tt, tt)
  apart_lane (Given y ∷ feeds) number inlet h k = apart_lane feeds number inlet h k
  apart_lane (OfLane n e ∷ feeds) number inlet h k = (for_append (λ other. i.place other ≢ i.place e) feeds (OfLane number inlet ∷ []) h.0 (k.0, tt), apart_lane feeds number inlet h.1 k.1)

  held_append : (t : List Lane) (xs ys : List (Feeding I)) → held i t (xs ++ ys) ≡ held i t xs ++ held i t ys
  held_append t [] ys = refl
  held_append t (Given x ∷ xs) ys = ap (λ l. x ∷ l) (held_append t xs ys)
  held_append t (OfLane n e ∷ xs) ys = ap (λ l. items_of (slice_get t (i.place e)) ++ l) (held_append t xs ys) ∙ sym (append_assoc (items_of (slice_get t (i.place e))) (held i t xs) (held i t ys))

  pub stays : (row row' : InletRow I) → feeds_of row' ≡ feeds_of row → Stays i row row'
  stays row row' e = record {
    gave = λ got h. subst (λ feeds. GaveInAll i.received feeds got) (sym e) h;
    between = λ tells sents got h. subst (λ feeds. GaveInAll (GaveOf i tells sents) feeds got) (sym e) h;
    within = λ tells h. subst (λ feeds. ForLanes (λ inlet. IsIn tells (i.place inlet)) feeds) (sym e) h;
    apart = λ h. subst (λ feeds. Apart i feeds) (sym e) h;
    holds = λ t. ap (λ feeds. held i t feeds) e;
  }

  pub gives : (row row' : InletRow I) (x : Item) → feeds_of row' ≡ feeds_of row ++ Given x ∷ [] → Gives i row row' x
  gives row row' x e = record {
    gave = λ got h. subst (λ feeds. GaveInAll i.received feeds got) (sym e) (gave_append i.received (feeds_of row) (Given x) got h tt);
    between = λ tells sents got h. subst (λ feeds. GaveInAll (GaveOf i tells sents) feeds got) (sym e) (gave_append (GaveOf i tells sents) (feeds_of row) (Given x) got h tt);
    within = λ tells h. subst (λ feeds. ForLanes (λ inlet. IsIn tells (i.place inlet)) feeds) (sym e) (for_append (λ inlet. IsIn tells (i.place inlet)) (feeds_of row) (Given x ∷ []) h tt);
    apart = λ h. subst (λ feeds. Apart i feeds) (sym e) (apart_given (feeds_of row) x h);
    holds = λ t. ap (λ feeds. held i t feeds) e ∙ held_append t (feeds_of row) (Given x ∷ []);
  }

  pub links : (row row' : InletRow I) (number : ℕ) (inlet : I) → feeds_of row' ≡ feeds_of row ++ OfLane number inlet ∷ [] → Links i row row' inlet
  links row row' number inlet e = record {
    gave = λ got h k. subst (λ feeds. GaveInAll i.received feeds got) (sym e) (gave_append i.received (feeds_of row) (OfLane number inlet) got h (k, tt));
    between = λ tells sents got h k. subst (λ feeds. GaveInAll (GaveOf i tells sents) feeds got) (sym e) (gave_append (GaveOf i tells sents) (feeds_of row) (OfLane number inlet) got h (k, tt));
    within = λ tells h k. subst (λ feeds. ForLanes (λ inlet. IsIn tells (i.place inlet)) feeds) (sym e) (for_append (λ inlet. IsIn tells (i.place inlet)) (feeds_of row) (OfLane number inlet ∷ []) h (k, tt));
    apart = λ h k. subst (λ feeds. Apart i feeds) (sym e) (apart_lane (feeds_of row) number inlet h k);
    holds = λ t. ap (λ feeds. held i t feeds) e ∙ (held_append t (feeds_of row) (OfLane number inlet ∷ []) ∙ ap (λ l. held i t (feeds_of row) ++ l) (append-nil (items_of (slice_get t (i.place inlet)))));
  }
