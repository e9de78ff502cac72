-- What stands at the front of a row is gone.
use Rattle.std.proofs.Common.{◌≡◌, inl, inr, ℕ, List, [], ◌∷◌, ◌++◌, Option, Some, refl, ap, sym, ◌∙◌, append-nil}
use Rattle.std.specs.List.{slice_get}
use Rattle.gst_item.specs.declared.item.Item as items
use Rattle.lane_core.specs.declared.ends.Inlet as inlets
use Rattle.lane_core.specs.declared.ends.Take.TheVariants as took
use Rattle.lane_core.specs.Lane.{Lane}
use Rattle.lane_core.specs.Room.{number_of}
use Rattle.lane_core.proofs.Between.{empty_by_lane}
use Rattle.inlet_row.specs.declared.feeding.Feeding.{Feeding}
use Rattle.inlet_row.specs.declared.feeding.Feeding.TheVariants.{Given, Lane as OfLane}
use Rattle.inlet_row.specs.Row.{Apart, ForLanes, GaveInAll, GaveOf, held, items_of}
use Rattle.inlet_row.specs.Take.{AreRefused, HasPlace, Took}

module _ {I : Type 0} where
  pub for_gone : (P : I → Type 0) (gone feeds : List (Feeding I)) → ForLanes P (gone ++ feeds) → ForLanes P feeds
  for_gone P [] feeds h = h
  for_gone P (Given x ∷ gone) feeds h = for_gone P gone feeds h
  for_gone P (OfLane n e ∷ gone) feeds h = for_gone P gone feeds h.1

  pub for_map : (P Q : I → Type 0) (feeds : List (Feeding I)) → ((e : I) → P e → Q e) → ForLanes P feeds → ForLanes Q feeds
  for_map P Q [] f h = tt
  for_map P Q (Given x ∷ feeds) f h = for_map P Q feeds f h
  for_map P Q (OfLane n e ∷ feeds) f h = (f e h.0, for_map P Q feeds f h.1)

  pub for_both : (P Q S : I → Type 0) (feeds : List (Feeding I)) → ((e : I) → P e → Q e → S e) → ForLanes P feeds → ForLanes Q feeds → ForLanes S feeds
  for_both P Q S [] f h k = tt
  for_both P Q S (Given x ∷ feeds) f h k = for_both P Q S feeds f h k
  for_both P Q S (OfLane n e ∷ feeds) f h k = (f e h.0 k.0, for_both P Q S feeds f h.1 k.1)

  -- the lane that is now at the front has given nothing
  pub lose_first : (Gave : I → List items.Item → Type 0) (feed : Feeding I) (feeds : List (Feeding I)) (got got' : List items.Item) → GaveInAll Gave (feed ∷ feeds) got → GaveInAll Gave feeds got'
  lose_first Gave feed [] got got' h = record { past = got'; lane = []; whole = sym (append-nil got'); front = refl; behind = tt }
  lose_first Gave feed (Given x ∷ feeds) got got' h = record { past = got'; lane = []; whole = sym (append-nil got'); front = refl; behind = h.behind }
  lose_first Gave feed (OfLane n e ∷ feeds) got got' h = record { past = got'; lane = []; whole = sym (append-nil got'); front = h.behind.0; behind = h.behind.1 }

  pub lose_all : (Gave : I → List items.Item → Type 0) (gone feeds : List (Feeding I)) (got : List items.Item) → GaveInAll Gave (gone ++ feeds) got → GaveInAll Gave feeds got
  lose_all Gave [] feeds got h = h
  lose_all Gave (feed ∷ gone) feeds got h = lose_all Gave gone feeds got (lose_first Gave feed (gone ++ feeds) got got h)

module _ {I L O : Type 0} (i : inlets.Ghosts I L O) where
  pub apart_gone : (gone feeds : List (Feeding I)) → Apart i (gone ++ feeds) → Apart i feeds
  apart_gone [] feeds h = h
  apart_gone (Given x ∷ gone) feeds h = apart_gone gone feeds h
  apart_gone (OfLane n e ∷ gone) feeds h = apart_gone gone feeds h.1

  pub has_place : (gone feeds : List (Feeding I)) (number : ℕ) (e : I) → HasPlace i (i.place e) (gone ++ OfLane number e ∷ feeds)
  has_place [] feeds number e = inl refl
  has_place (Given x ∷ gone) feeds number e = has_place gone feeds number e
  has_place (OfLane n f ∷ gone) feeds number e = inr (has_place gone feeds number e)

  pub refused_append : (tells : Option (List Lane)) (xs ys : List (Feeding I)) → AreRefused i tells xs → AreRefused i tells ys → AreRefused i tells (xs ++ ys)
  refused_append tells [] ys h k = k
  refused_append tells (Given x ∷ xs) ys h k = h
  refused_append tells (OfLane n e ∷ xs) ys h k = (h.0, refused_append tells xs ys h.1 k)

  -- a lane that refused a take held nothing
  pub refused_holds : (t : List Lane) (tells' : Option (List Lane)) (sents : ℕ → List items.Item) (was is : I) (got : List items.Item) → Took i (Some t) tells' was is took.Empty → GaveOf i (Some t) sents was got → items_of (slice_get t (i.place was)) ≡ []
  refused_holds t tells' sents was is got h g =
      let e = empty_by_lane (i.place was) (Some t) (sents (i.place was)) got (number_of (i.reading is)) (h.answer.0 ∙ sym (h.counted got g.0)) (h.sent (sents (i.place was)) got g.0 g.1 g.2) g.2 t refl in
      ap items_of e.1 ∙ e.2

  -- and so did all that are gone
  pub held_gone : (t : List Lane) (sents : ℕ → List items.Item) (gone feeds : List (Feeding I)) (got : List items.Item) → AreRefused i (Some t) gone → GaveInAll (GaveOf i (Some t) sents) (gone ++ feeds) got → held i t (gone ++ feeds) ≡ held i t feeds
  held_gone t sents [] feeds got r h = refl
  held_gone t sents (Given x ∷ gone) feeds got r h = absurd r
  held_gone t sents (OfLane n e ∷ gone) feeds got r h =
      let none = refused_holds t (Some t) sents e r.0.0 h.lane r.0.1 h.front in
      ap (λ l. l ++ held i t (gone ++ feeds)) none ∙ held_gone t sents gone feeds got r.1 (lose_first (GaveOf i (Some t) sents) (OfLane n e) (gone ++ feeds) got got h)
