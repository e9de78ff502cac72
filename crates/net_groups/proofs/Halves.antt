-- A task of a net becomes two: which elements, pads and heads the tasks have.
use Rattle.std.proofs.Common.{◌≡◌, ◌⊎◌, ◌<◌, ◌+◌, ℕ, zero, suc, List, [], ◌∷◌, length, Some, refl, sym, ap, ◌∙◌, subst, inl, inr, arith}
use Rattle.std.specs.Prelude.{slice_get, slice_set}
use Rattle.std.proofs.lemmas.Bool.{cases_eq}
use Rattle.std.proofs.lemmas.Option.{slice_get_within}
use Rattle.lane_core.specs.declared.ends.Inlet as inlets
use Rattle.lane_core.specs.declared.ends.Outlet as outlets
use Rattle.flow_model.specs.declared.element.TaskElement as elements
use Rattle.flow_model.specs.declared.source.TaskSource as sources
use Rattle.task_pads.proofs.Lists.{set_length, set_there}
use Rattle.task_parts.specs.declared.head.Head.{Head}
use Rattle.task_parts.specs.declared.head.Head.TheVariants.{Source, Inlets}
use Rattle.task_parts.specs.declared.head.InletHead.{InletHead}
use Rattle.task_parts.specs.declared.part.Part.{Part}
use Rattle.net_task.specs.declared.task.Task.{Task}
use Rattle.net_task.specs.Frame.{HeadFrame, by_source, by_inlets, PartFrame, Wire, frame_of, head_frame, part_frame}
use Rattle.net_turns.specs.Net.{AreWired, HasElement, IsFed, Owns, part as has_part, source as has_source}
use Rattle.gst_value.proofs.Basics.{some_same}
use Rattle.gst_value.proofs.Places.{map_got, set_at, set_here}
use Rattle.net_groups.specs.Places.{IsBare}
use Rattle.net_groups.specs.Behind.{IsBehind}
use Rattle.net_groups.specs.Splits.{IsSplitAt, number_in}
use Rattle.net_groups.proofs.Lists.{append_back, append_first, append_second}
use Rattle.net_groups.proofs.Regrouped.{OwnsWire, Regrouped}
use Rattle.net_groups.proofs.Wiring.{IsOf, of_part, of_source, part_has}
use Rattle.net_groups.proofs.Within.{gone_within, kept_within, of_within, part_within, parted_on, place_in}

abbrev frame_number : HeadFrame → ℕ
frame_number (by_source x f w) = x
frame_number (by_inlets x r) = x

module _ {S E I O L : Type 0} {s : sources.Ghosts S} {e : elements.Ghosts E} {i : inlets.Ghosts I L O} {o : outlets.Ghosts O L} (tasks tasks' : List (Task S E I O L s e i o)) (place element pads : ℕ)
    (z : IsSplitAt tasks tasks' place element pads) where
  abbrev was : Task S E I O L s e i o
  was = z.was

  abbrev is : Task S E I O L s e i o
  is = z.is

  abbrev fresh : Task S E I O L s e i o
  fresh = z.fresh

  abbrev Goes : Part E O e → Type 0
  Goes part = IsBehind was.parts.items element part.number

  abbrev set : List (Task S E I O L s e i o)
  set = slice_set tasks place is

  -- the task of a place is the first of the two, one that was there, or the second
  pub data Found (k : ℕ) (t : Task S E I O L s e i o) : Type 0 where
    at_first : k ≡ place → t ≡ is → Found k t
    at_other : (k ≡ place → ⊥) → k < length tasks → slice_get tasks k ≡ Some t → Found k t
    at_last : k ≡ length tasks → t ≡ fresh → Found k t

  pub found : (k : ℕ) (t : Task S E I O L s e i o) → slice_get tasks' k ≡ Some t → Found k t
  found k t at = go (append_back set (fresh ∷ []) k t (ap (λ (ts : List (Task S E I O L s e i o)). slice_get ts k) (sym z.list) ∙ at))
    where
      first : slice_get set k ≡ Some t → ((k ≡ place) ⊎ (k ≡ place → ⊥)) → Found k t
      first at (inl same) = at_first same (set_here tasks place t is (ap (λ (x : ℕ). slice_get set x) (sym same) ∙ at))
      first at (inr else) = let there = sym (set_there tasks place k is else) ∙ at in at_other else (slice_get_within tasks k t there) there

      last : (j : ℕ) → k ≡ length set + j → slice_get (fresh ∷ []) j ≡ Some t → Found k t
      last zero same at = at_last (let n = set_length tasks place is in omega (arith, same, n)) (sym (some_same at))
      last (suc j) same at = absurd cc

      go : ((k < length set) × (slice_get set k ≡ Some t)) ⊎ ((j : ℕ) × (k ≡ length set + j) × (slice_get (fresh ∷ []) j ≡ Some t)) → Found k t
      go (inl y) = first y.1 (cases_eq k place)
      go (inr y) = last y.0 y.1 y.2

  in_list : (k : ℕ) (t : Task S E I O L s e i o) → slice_get set k ≡ Some t → slice_get tasks' k ≡ Some t
  in_list k t at = ap (λ (ts : List (Task S E I O L s e i o)). slice_get ts k) z.list ∙ append_first set (fresh ∷ []) k t at

  first_at : slice_get tasks' place ≡ Some is
  first_at = in_list place is (set_at tasks place was is z.at)

  other_at : (k : ℕ) (t : Task S E I O L s e i o) → (k ≡ place → ⊥) → slice_get tasks k ≡ Some t → slice_get tasks' k ≡ Some t
  other_at k t else at = in_list k t (set_there tasks place k is else ∙ at)

  last_at : slice_get tasks' (length set + 0) ≡ Some fresh
  last_at = ap (λ (ts : List (Task S E I O L s e i o)). slice_get ts (length set + 0)) z.list ∙ append_second set (fresh ∷ []) 0 fresh refl

  -- ---- the elements of the two tasks

  pub is_has : (n : ℕ) → HasElement (frame_of is) n → HasElement (frame_of was) n × (IsBehind was.parts.items element n → ⊥)
  is_has n (has_part j one at number) =
      let y = part_within o was.head is.head (kept_within z.parted) j one at in (
        part_has o was.head was.parts.items n (record { place = place_in (kept_within z.parted) j; part = y.0; at = y.2; number = sym y.4 ∙ number }),
        λ behind. y.3 (subst (λ (x : ℕ). IsBehind was.parts.items element x) (sym number ∙ y.4) behind),
      )
  is_has n (has_source file wire at) = go was.head refl (sym (ap (λ (h : Head S I O s). head_frame o h) z.head) ∙ at)
    where
      go : (h : Head S I O s) → was.head ≡ h → head_frame o was.head ≡ by_source n file wire → HasElement (frame_of was) n × (IsBehind was.parts.items element n → ⊥)
      go (Source head) same at =
          let number : head.number ≡ n = ap frame_number (sym (ap (λ (h : Head S I O s). head_frame o h) same) ∙ at) in
          (has_source file wire at, λ behind. z.ahead (subst (λ (x : ℕ). IsBehind was.parts.items element x) (sym number ∙ ap (λ (h : Head S I O s). number_in h) (sym same)) behind))
      go (Inlets head) same at = absurd (let a : by_inlets head.number (length head.rows.items) ≡ by_source n file wire = sym (ap (λ (h : Head S I O s). head_frame o h) same) ∙ at in cc)

  fresh_frame : head_frame o fresh.head ≡ by_inlets z.fed.number (length z.fed.rows.items)
  fresh_frame = ap (λ (h : Head S I O s). head_frame o h) z.fed_is

  pub fresh_has : (n : ℕ) → HasElement (frame_of fresh) n → HasElement (frame_of was) n × IsBehind was.parts.items element n
  fresh_has n (has_part j one at number) =
      let y = part_within o was.head fresh.head (gone_within z.parted) j one at in (
        part_has o was.head was.parts.items n (record { place = place_in (gone_within z.parted) j; part = y.0; at = y.2; number = sym y.4 ∙ number }),
        subst (λ (x : ℕ). IsBehind was.parts.items element x) (sym y.4 ∙ number) y.3,
      )
  fresh_has n (has_source file wire at) = absurd (let a : by_inlets z.fed.number (length z.fed.rows.items) ≡ by_source n file wire = sym fresh_frame ∙ at in cc)

  -- where an element of a place was
  pub data Came (k n : ℕ) : Type 0 where
    of_first : k ≡ place → Owns tasks place n → (IsBehind was.parts.items element n → ⊥) → Came k n
    of_other : (k ≡ place → ⊥) → Owns tasks k n → Came k n
    of_last : k ≡ length tasks → Owns tasks place n → IsBehind was.parts.items element n → Came k n

  pub came : (k n : ℕ) → Owns tasks' k n → Came k n
  came k n w = go (found k w.task w.at)
    where
      go : Found k w.task → Came k n
      go (at_first same task) = let y = is_has n (subst (λ (t : Task S E I O L s e i o). HasElement (frame_of t) n) task w.has) in of_first same (record { task = was; at = z.at; has = y.0 }) y.1
      go (at_other else within at) = of_other else (record { task = w.task; at = at; has = w.has })
      go (at_last same task) = let y = fresh_has n (subst (λ (t : Task S E I O L s e i o). HasElement (frame_of t) n) task w.has) in of_last same (record { task = was; at = z.at; has = y.0 }) y.1

  once : AreWired tasks → (k j n : ℕ) → Owns tasks' k n → Owns tasks' j n → k ≡ j
  once wired k j n a b = go (came k n a) (came j n b)
    where
      go : Came k n → Came j n → k ≡ j
      go (of_first same x y) (of_first same' x' y') = same ∙ sym same'
      go (of_first same x y) (of_other else x') = absurd (else (wired.once j place n x' x))
      go (of_first same x y) (of_last same' x' y') = absurd (y y')
      go (of_other else x) (of_first same' x' y') = absurd (else (wired.once k place n x x'))
      go (of_other else x) (of_other else' x') = wired.once k j n x x'
      go (of_other else x) (of_last same' x' y') = absurd (else (wired.once k place n x x'))
      go (of_last same x y) (of_first same' x' y') = absurd (y' y)
      go (of_last same x y) (of_other else x') = absurd (else (wired.once j place n x' x))
      go (of_last same x y) (of_last same' x' y') = same ∙ sym same'

  pub owned : (k n : ℕ) → Owns tasks k n → (j : ℕ) × Owns tasks' j n
  owned k n w = go (cases_eq k place)
    where
      by : (part : Part E O e) → part.number ≡ n → ((x : ℕ) × (slice_get is.parts.items x ≡ Some part) × (Goes part → ⊥)) ⊎ ((x : ℕ) × (slice_get fresh.parts.items x ≡ Some part) × Goes part) → (j : ℕ) × Owns tasks' j n
      by part number (inl y) = (place, record { task = is; at = first_at; has = part_has o is.head is.parts.items n (record { place = y.0; part = part; at = y.1; number = number }) })
      by part number (inr y) = (length set + 0, record { task = fresh; at = last_at; has = part_has o fresh.head fresh.parts.items n (record { place = y.0; part = part; at = y.1; number = number }) })

      has : HasElement (frame_of was) n → (j : ℕ) × Owns tasks' j n
      has (has_part x one at number) =
          let y = map_got (part_frame o) was.parts.items x one at in
          by y.0 (ap (λ (f : PartFrame). f.number) (sym y.2) ∙ number) (parted_on z.parted x y.0 y.1)
      has (has_source file wire at) = (place, record { task = is; at = first_at; has = has_source file wire (ap (λ (h : Head S I O s). head_frame o h) z.head ∙ at) })

      go : ((k ≡ place) ⊎ (k ≡ place → ⊥)) → (j : ℕ) × Owns tasks' j n
      go (inl same) = has (subst (λ (t : Task S E I O L s e i o). HasElement (frame_of t) n) (some_same (sym w.at ∙ ap (λ (x : ℕ). slice_get tasks x) same ∙ z.at)) w.has)
      go (inr else) = (k, record { task = w.task; at = other_at k w.task else w.at; has = w.has })

  pub wires : (k n : ℕ) (wire : Wire) → OwnsWire tasks' k n wire → (j : ℕ) × OwnsWire tasks j n wire
  wires k n wire w = go (found k w.task w.at)
    where
      of_is : IsOf (frame_of is) n wire → IsOf (frame_of was) n wire
      of_is (of_part j x at number) = of_within o was.head is.head (kept_within z.parted) j x n wire at number
      of_is (of_source file at) = of_source file (sym (ap (λ (h : Head S I O s). head_frame o h) z.head) ∙ at)

      of_fresh : IsOf (frame_of fresh) n wire → IsOf (frame_of was) n wire
      of_fresh (of_part j x at number) = of_within o was.head fresh.head (gone_within z.parted) j x n wire at number
      of_fresh (of_source file at) = absurd (let a : by_inlets z.fed.number (length z.fed.rows.items) ≡ by_source n file wire = sym fresh_frame ∙ at in cc)

      go : Found k w.task → (j : ℕ) × OwnsWire tasks j n wire
      go (at_first same task) = (place, record { task = was; at = z.at; is = of_is (subst (λ (t : Task S E I O L s e i o). IsOf (frame_of t) n wire) task w.is) })
      go (at_other else within at) = (k, record { task = w.task; at = at; is = w.is })
      go (at_last same task) = (place, record { task = was; at = z.at; is = of_fresh (subst (λ (t : Task S E I O L s e i o). IsOf (frame_of t) n wire) task w.is) })

  abbrev inlets_of : InletHead I → Head S I O s → InletHead I
  inlets_of fed (Source head) = fed
  inlets_of fed (Inlets head) = head

  pub fed_back : (k : ℕ) (head : InletHead I) → IsFed tasks' k head → ((j : ℕ) × IsFed tasks j head) ⊎ (z.fed ≡ head)
  fed_back k head w = go (found k w.task w.at)
    where
      go : Found k w.task → ((j : ℕ) × IsFed tasks j head) ⊎ (z.fed ≡ head)
      go (at_first same task) = inl (place, record { task = was; at = z.at; head_is = sym z.head ∙ subst (λ (t : Task S E I O L s e i o). t.head ≡ Inlets head) task w.head_is })
      go (at_other else within at) = inl (k, record { task = w.task; at = at; head_is = w.head_is })
      go (at_last same task) = inr (ap (inlets_of z.fed) (sym z.fed_is ∙ subst (λ (t : Task S E I O L s e i o). t.head ≡ Inlets head) task w.head_is))

  pub fed_on : (k : ℕ) (head : InletHead I) → IsFed tasks k head → (j : ℕ) × IsFed tasks' j head
  fed_on k head w = go (cases_eq k place)
    where
      go : ((k ≡ place) ⊎ (k ≡ place → ⊥)) → (j : ℕ) × IsFed tasks' j head
      go (inl same) = (place, record { task = is; at = first_at; head_is = z.head ∙ ap (λ (t : Task S E I O L s e i o). t.head) (some_same (sym z.at ∙ ap (λ (x : ℕ). slice_get tasks x) (sym same) ∙ w.at)) ∙ w.head_is })
      go (inr else) = (k, record { task = w.task; at = other_at k w.task else w.at; head_is = w.head_is })

  pub regrouped : AreWired tasks → Regrouped tasks tasks'
  regrouped wired = record {
    once = once wired;
    owned = owned;
    wires = wires;
    fed = λ k head w. back head (fed_back k head w);
    kept = λ k head w. inl (fed_on k head w);
  }
    where
      back : (head : InletHead I) → ((j : ℕ) × IsFed tasks j head) ⊎ (z.fed ≡ head) → ((j : ℕ) × IsFed tasks j head) ⊎ IsBare head
      back head (inl y) = inl y
      back head (inr same) = inr (subst (λ (h : InletHead I). IsBare h) same z.bare)
