-- Some of the elements of a task, in their order, as a task: how they are tied and ready.
use Rattle.std.proofs.Common.{◌≡◌, ◌⊎◌, ℕ, zero, suc, List, [], ◌∷◌, Option, Some, refl, sym, ap, ◌∙◌, subst, inl, inr, arith}
use Rattle.std.specs.Prelude.{slice_get}
use Rattle.lane_core.specs.Lane.{Lane}
use Rattle.lane_core.specs.declared.ends.Inlet as inlets
use Rattle.lane_core.specs.declared.ends.Outlet as outlets
use Rattle.flow_model.specs.Moment.{Moment}
use Rattle.flow_model.specs.declared.element.TaskElement as elements
use Rattle.flow_model.specs.declared.source.TaskSource as sources
use Rattle.task_parts.specs.declared.head.Head.{Head}
use Rattle.task_parts.specs.declared.head.Head.TheVariants.{Source, Inlets}
use Rattle.task_parts.specs.declared.part.Part.{Part}
use Rattle.net_task.specs.Frame.{PartFrame, Wire, WireAt, frame_in, head_frame, head_wire, part_frame}
use Rattle.net_task.specs.Ready.{AreReady, HeadApart, PartsReady, WiresApart}
use Rattle.net_task.specs.Ties.{AreTied, HeadTied, PartsTied, Stands, nothing_lost}
use Rattle.gst_value.proofs.Basics.{some_same}
use Rattle.gst_value.proofs.Places.{map_get, map_got}
use Rattle.net_groups.specs.Behind.{AreParted, none, stays, goes}
use Rattle.net_groups.proofs.Wiring.{IsOf, of_part}

-- some of the items of a list, in their order, for each of which something is so
pub data IsWithin {A : Type 0} (Q : A → Type 0) : List A → List A → Type 0 where
  end : IsWithin Q [] []
  here : {x : A} {xs ys : List A} → Q x → IsWithin Q xs ys → IsWithin Q (x ∷ xs) (x ∷ ys)
  past : {x : A} {xs ys : List A} → IsWithin Q xs ys → IsWithin Q (x ∷ xs) ys

module _ {A : Type 0} {Q : A → Type 0} where
  -- the place in the whole list
  pub place_in : {xs ys : List A} → IsWithin Q xs ys → ℕ → ℕ
  place_in end k = k
  place_in (here q w) zero = zero
  place_in (here q w) (suc k) = suc (place_in w k)
  place_in (past w) k = suc (place_in w k)

  pub place_once : {xs ys : List A} (w : IsWithin Q xs ys) (j k : ℕ) → place_in w j ≡ place_in w k → j ≡ k
  unfolding place_in
  place_once end j k same = same
  place_once (here q w) zero zero same = refl
  place_once (here q w) zero (suc k) same = absurd (omega (arith, same))
  place_once (here q w) (suc j) zero same = absurd (omega (arith, same))
  place_once (here q w) (suc j) (suc k) same = ap suc (place_once w j k (omega (arith, same)))
  place_once (past w) j k same = place_once w j k (omega (arith, same))

  pub within_at : {xs ys : List A} (w : IsWithin Q xs ys) (k : ℕ) (x : A) → slice_get ys k ≡ Some x → (slice_get xs (place_in w k) ≡ Some x) × Q x
  unfolding place_in
  within_at end k x at = absurd cc
  within_at (here q w) zero x at = (at, subst Q (some_same at) q)
  within_at (here q w) (suc k) x at = within_at w k x at
  within_at (past w) k x at = within_at w k x at

pub kept_within : {A : Type 0} {P : A → Type 0} {xs kept gone : List A} → AreParted P xs kept gone → IsWithin (λ x. P x → ⊥) xs kept
kept_within none = end
kept_within (stays n p) = here n (kept_within p)
kept_within (goes y p) = past (kept_within p)

pub gone_within : {A : Type 0} {P : A → Type 0} {xs kept gone : List A} → AreParted P xs kept gone → IsWithin P xs gone
gone_within none = end
gone_within (stays n p) = past (gone_within p)
gone_within (goes y p) = here y (gone_within p)

-- an item stays, or it goes
abbrev pub IsOne : {A : Type 0} → (A → Type 0) → List A → List A → A → Type 0
IsOne P kept gone x = ((k : ℕ) × (slice_get kept k ≡ Some x) × (P x → ⊥)) ⊎ ((k : ℕ) × (slice_get gone k ≡ Some x) × P x)

one_kept : {A : Type 0} (P : A → Type 0) (kept gone : List A) (y x : A) → IsOne P kept gone x → IsOne P (y ∷ kept) gone x
one_kept P kept gone y x (inl z) = inl (suc z.0, z.1, z.2)
one_kept P kept gone y x (inr z) = inr z

one_gone : {A : Type 0} (P : A → Type 0) (kept gone : List A) (y x : A) → IsOne P kept gone x → IsOne P kept (y ∷ gone) x
one_gone P kept gone y x (inl z) = inl z
one_gone P kept gone y x (inr z) = inr (suc z.0, z.1, z.2)

-- each item stays or goes
pub parted_on : {A : Type 0} {P : A → Type 0} {xs kept gone : List A} → AreParted P xs kept gone → (j : ℕ) (x : A) → slice_get xs j ≡ Some x → IsOne P kept gone x
parted_on none j x at = absurd cc
parted_on {P = P} (stays n p) zero x at = inl (0, at, subst (λ y. P y → ⊥) (some_same at) n)
parted_on {P = P} (stays n p) (suc j) x at = one_kept P _ _ _ x (parted_on p j x at)
parted_on {P = P} (goes y p) zero x at = inr (0, at, subst P (some_same at) y)
parted_on {P = P} (goes y p) (suc j) x at = one_gone P _ _ _ x (parted_on p j x at)

module _ {E O L : Type 0} {e : elements.Ghosts E} (o : outlets.Ghosts O L) {Q : Part E O e → Type 0} {parts some : List (Part E O e)} (w : IsWithin Q parts some) where
  pub parts_tied_within : (m : Moment) → PartsTied o (Stands m) m parts → PartsTied o (Stands m) m some
  parts_tied_within m t = record {
    each = λ j part at. t.each (place_in w j) part (within_at w j part at).0;
    once = λ j k p q at at' same. place_once w j k (t.once (place_in w j) (place_in w k) p q (within_at w j p at).0 (within_at w k q at').0 same);
  }

  pub parts_ready_within : (tells : Option (List Lane)) → PartsReady o tells parts → PartsReady o tells some
  parts_ready_within tells r j part at = r (place_in w j) part (within_at w j part at).0

module _ {S E I O L : Type 0} {s : sources.Ghosts S} {e : elements.Ghosts E} (o : outlets.Ghosts O L) {Q : Part E O e → Type 0} (head head' : Head S I O s) {parts some : List (Part E O e)} (w : IsWithin Q parts some) where
  pub wire_within : (j k : ℕ) (wire : Wire) → WireAt (frame_in o head' some) j k wire → WireAt (frame_in o head parts) (place_in w j) k wire
  wire_within j k wire x =
      let z = map_got (part_frame o) some j x.part x.at in
      let at = within_at w j z.0 z.1 in
      record { part = x.part; at = map_get (part_frame o) parts (place_in w j) z.0 at.0 ∙ ap (λ (p : PartFrame). Some p) (sym z.2); pad_at = x.pad_at }

  pub of_within : (j k n : ℕ) (wire : Wire) (x : WireAt (frame_in o head' some) j k wire) → x.part.number ≡ n → IsOf (frame_in o head parts) n wire
  unfolding wire_within
  of_within j k n wire x number = of_part (place_in w j) k (wire_within j k wire x) number

  -- an element of these is one of all
  pub part_within : (j : ℕ) (one : PartFrame) → slice_get (frame_in o head' some).parts j ≡ Some one → (part : Part E O e) × (slice_get some j ≡ Some part) × (slice_get parts (place_in w j) ≡ Some part) × Q part × (one.number ≡ part.number)
  part_within j one at =
      let z = map_got (part_frame o) some j one at in
      let y = within_at w j z.0 z.1 in
      (z.0, z.1, y.0, y.1, ap (λ (p : PartFrame). p.number) z.2)

  pub wires_apart_within : ((other : Wire) → head_wire (head_frame o head') ≡ Some other → head_wire (head_frame o head) ≡ Some other) → WiresApart (frame_in o head parts) → WiresApart (frame_in o head' some)
  wires_apart_within heads apart = record {
    parts = λ j k j' k' place one other x x' l l'.
        let z = apart.parts (place_in w j) k (place_in w j') k' place one other (wire_within j k one x) (wire_within j' k' other x') l l' in
        (place_once w j j' z.0, z.1);
    source = λ j k place one other x is_head l l'. apart.source (place_in w j) k place one other (wire_within j k one x) (heads other is_head) l l';
  }

module _ {S E I O L : Type 0} {s : sources.Ghosts S} {e : elements.Ghosts E} (i : inlets.Ghosts I L O) (o : outlets.Ghosts O L) {Q : Part E O e → Type 0} {parts some : List (Part E O e)} (w : IsWithin Q parts some) where
  head_tied_within : (m : Moment) (head : Head S I O s) → HeadTied i o nothing_lost m head parts → HeadTied i o nothing_lost m head some
  head_tied_within m (Source head) t = record {
    owner = t.owner;
    mine = t.mine;
    linked = t.linked;
    gave = t.gave;
    given = t.given;
    apart = λ j part at. t.apart (place_in w j) part (within_at w j part at).0;
  }
  head_tied_within m (Inlets head) t = λ port row at.
      let z = t port row at in
      record { all = z.all; gave = z.gave; got = z.got; whole = z.whole; took = z.took; apart = λ j k part pad part_at. z.apart (place_in w j) k part pad (within_at w j part part_at).0 }

  -- a head with some of its elements is tied
  pub tied_within : (m : Moment) (head : Head S I O s) → AreTied i o (Stands m) nothing_lost m head parts → AreTied i o (Stands m) nothing_lost m head some
  tied_within m head t = record { parts_tied = parts_tied_within o w m t.parts_tied; head_tied = head_tied_within m head t.head_tied }

  head_apart_within : (head head' : Head S I O s) → HeadApart i (frame_in o head parts) head' → HeadApart i (frame_in o head some) head'
  head_apart_within head (Source source) a = tt
  head_apart_within head (Inlets fed) a = record {
    each = a.each;
    rows = a.rows;
    pads = λ j k place wire x l. a.pads (place_in w j) k place wire (wire_within o head head w j k wire x) l;
  }

  -- and as ready
  pub ready_within : (tells : Option (List Lane)) (head : Head S I O s) → AreReady i o tells head parts → AreReady i o tells head some
  ready_within tells head r = record {
    parts_ready = parts_ready_within o w tells r.parts_ready;
    head_ready = r.head_ready;
    wires_apart = wires_apart_within o head head w (λ other is. is) r.wires_apart;
    head_apart = head_apart_within head head r.head_apart;
  }
