-- Which tasks there are behind a join, and behind a link inside of the joined task.
use Rattle.std.proofs.Common.{◌≡◌, ◌≢◌, ◌⊎◌, ℕ, List, Some, refl, sym, ap, ◌∙◌, subst, inl, inr}
use Rattle.std.specs.Prelude.{slice_get, slice_set}
use Rattle.std.proofs.lemmas.Bool.{cases_eq}
use Rattle.flow_model.specs.Item.{Item}
use Rattle.lane_core.specs.declared.ends.Inlet as inlets
use Rattle.lane_core.specs.declared.ends.Outlet as outlets
use Rattle.flow_model.specs.declared.element.TaskElement as elements
use Rattle.flow_model.specs.declared.source.TaskSource as sources
use Rattle.task_pads.specs.Behind.{goes, inside}
use Rattle.task_pads.specs.declared.pad.Behind.{Behind}
use Rattle.task_pads.specs.declared.pad.Pad.{Pad}
use Rattle.task_pads.proofs.Lists.{set_there}
use Rattle.task_parts.specs.declared.head.Head.{Head}
use Rattle.task_parts.specs.declared.head.Head.TheVariants.{Source, Inlets}
use Rattle.task_parts.specs.declared.head.InletHead.{InletHead}
use Rattle.task_parts.specs.declared.part.Part.{Part}
use Rattle.net_task.specs.declared.task.Task.{Task}
use Rattle.net_task.specs.Frame.{TaskFrame, Wire, frame_in, frame_of, of_head, of_part, part_frame, wire_of}
use Rattle.net_groups.specs.Joined.{IsJoined, MovesUp}
use Rattle.net_groups.specs.Places.{HasPad as PadIn, PadOf}
use Rattle.net_groups.proofs.Lists.{moves_once, removed_back, removed_on, up_once}
use Rattle.task_edits.specs.Changes.{Changed, LedBy, PadIs}
use Rattle.task_edits.specs.Inside.{inside_behind}
use Rattle.task_edits.specs.Places.{HasNoPad, HasPad, HeadHasNot}
use Rattle.task_edits.specs.declared.inside.Inside.{Inside}
use Rattle.task_edits.proofs.Absent.{has_not}
use Rattle.net_edits.specs.Inside.{IsLinkedOpened, IsTurned}
use Rattle.gst_value.proofs.Basics.{some_same}
use Rattle.gst_value.proofs.Places.{map_get, set_at, set_here}
use Rattle.edit_acts.proofs.Rewired.{Rewired, rewired}

-- a task has no pad that its frame has not
none_in : {S E I O L : Type 0} {s : sources.Ghosts S} {e : elements.Ghosts E} (o : outlets.Ghosts O L) (head : Head S I O s) (parts : List (Part E O e)) (pad : ℕ) → (PadIn (frame_in o head parts) pad → ⊥) → HasNoPad head parts pad
none_in {S = S} {I = I} {O = O} {s = s} o head parts pad none = (
  by head none,
  λ j one at port one_pad pad_at same. none (record {
    wire = wire_of o one_pad;
    is = of_part j port (record { part = part_frame o one; at = map_get (part_frame o) parts j one at; pad_at = map_get (wire_of o) one.pads.items port one_pad pad_at });
    number_is = same;
  }),
)
  where
    by : (one : Head S I O s) → (PadIn (frame_in o one parts) pad → ⊥) → HeadHasNot one pad
    by (Source source) none = λ same. none (record { wire = wire_of o source.pad; is = of_head refl; number_is = same })
    by (Inlets fed) none = tt

-- ---- behind a join

module _ {S E I O L : Type 0} {s : sources.Ghosts S} {e : elements.Ghosts E} {i : inlets.Ghosts I L O} {o : outlets.Ghosts O L} (tasks mid : List (Task S E I O L s e i o)) (pad element : ℕ) (j : IsJoined tasks mid pad element) where
  -- a task that was there, and is none of the two
  pub record IsOther (x : ℕ) (t : Task S E I O L s e i o) : Type 0 where
    pub at : slice_get tasks x ≡ Some t
    pub not_from : x ≢ j.from
    pub not_to : x ≢ j.to

  -- a task is the one that was made of the two, or another
  abbrev pub IsFound : ℕ → Task S E I O L s e i o → Type 0
  IsFound k t = (MovesUp j.from k j.to × (t ≡ j.merged.is)) ⊎ ((x : ℕ) × MovesUp j.from k x × IsOther x t)

  pub joined_found : (k : ℕ) (t : Task S E I O L s e i o) → slice_get mid k ≡ Some t → IsFound k t
  joined_found k t at = go (removed_back (slice_set tasks j.to j.merged.is) j.from k t (ap (λ (ts : List (Task S E I O L s e i o)). slice_get ts k) (sym j.merged.list) ∙ at))
    where
      by : (x : ℕ) → MovesUp j.from k x → slice_get (slice_set tasks j.to j.merged.is) x ≡ Some t → x ≢ j.from → ((x ≡ j.to) ⊎ (x ≡ j.to → ⊥)) → IsFound k t
      by x up there other (inl same) =
          inl (subst (λ (y : ℕ). MovesUp j.from k y) same up, set_here tasks j.to t j.merged.is (ap (λ (y : ℕ). slice_get (slice_set tasks j.to j.merged.is) y) (sym same) ∙ there))
      by x up there other (inr else) = inr (x, up, record { at = sym (set_there tasks j.to x j.merged.is else) ∙ there; not_from = other; not_to = else })

      go : (x : ℕ) × MovesUp j.from k x × (slice_get (slice_set tasks j.to j.merged.is) x ≡ Some t) × (x ≢ j.from) → IsFound k t
      go z = by z.0 z.1 z.2 z.3 (cases_eq z.0 j.to)

  pub joined_stays : (x : ℕ) (t : Task S E I O L s e i o) → IsOther x t → (k : ℕ) × MovesUp j.from k x × (slice_get mid k ≡ Some t)
  joined_stays x t is =
      let z = removed_on (slice_set tasks j.to j.merged.is) j.from x t (set_there tasks j.to x j.merged.is is.not_to ∙ is.at) is.not_from in
      (z.0, z.1, ap (λ (ts : List (Task S E I O L s e i o)). slice_get ts z.0) j.merged.list ∙ z.2)

  pub joined_here : (k : ℕ) × MovesUp j.from k j.to × (slice_get mid k ≡ Some j.merged.is)
  joined_here =
      let z = removed_on (slice_set tasks j.to j.merged.is) j.from j.to j.merged.is (set_at tasks j.to j.merged.was j.merged.is j.merged.to_at) (λ same. j.apart (sym same)) in
      (z.0, z.1, ap (λ (ts : List (Task S E I O L s e i o)). slice_get ts z.0) j.merged.list ∙ z.2)

-- ---- behind a link

-- a pad of the one task led elsewhere, and is that of a number; in the other it leads to the element
pub record PadLed (frame frame' : TaskFrame) (pad : ℕ) (to : Inside) : Type 0 where
  pub was : Wire
  pub is : Wire
  pub rewired : Rewired frame frame' was is
  pub number : was.number ≡ pad
  pub leads : is.leads ≡ inside to.element to.pad

-- the one has inlets where the other has them
pub record SameInlets {S I O : Type 0} {s : sources.Ghosts S} (head head' : Head S I O s) : Type 0 where
  pub back : (fed : InletHead I) → head' ≡ Inlets fed → head ≡ Inlets fed
  pub on : (fed : InletHead I) → head ≡ Inlets fed → head' ≡ Inlets fed

module _ {S E I O L : Type 0} {s : sources.Ghosts S} {e : elements.Ghosts E} {i : inlets.Ghosts I L O} {o : outlets.Ghosts O L} (tasks tasks' : List (Task S E I O L s e i o)) (place pad : ℕ) (to : Inside)
    (Tied Fed : Task S E I O L s e i o → Task S E I O L s e i o → Type 0) (t : IsTurned tasks tasks' place pad (inside_behind to) Tied Fed) (has : HasPad t.was.head t.was.parts.items pad) where
  turned_pad : PadLed (frame_of t.was) (frame_of t.is) pad to
  turned_pad = go t.changed
    where
      go : Changed (LedBy (inside_behind to) t.back) (t.back ≡ inside_behind to) pad t.was.head t.was.parts.items t.turned.head t.turned.parts.items → PadLed (frame_of t.was) (frame_of t.is) pad to
      go (inl (was, is, number, by, changed)) = record {
        was = wire_of o was;
        is = wire_of o is;
        rewired = subst (λ (f : TaskFrame). Rewired (frame_of t.was) f (wire_of o was) (wire_of o is)) (sym t.frame) (rewired o t.was.head t.turned.head t.was.parts.items t.turned.parts.items was is changed);
        number = number;
        leads = ap (λ (b : Behind O). goes b) by.0.leads;
      }
      go (inr none) = absurd (has_not t.was.head t.was.parts.items pad has none.0)

  turned_inlets : SameInlets t.was.head t.is.head
  turned_inlets = subst (λ (h : Head S I O s). SameInlets t.was.head h) (sym t.head) (go t.changed)
    where
      by : (was is : Pad O) → PadIs t.was.head t.was.parts.items t.turned.head t.turned.parts.items was is → SameInlets t.was.head t.turned.head
      by was is (PadIs.of_source old new here here' at at' same stays) = record {
        back = λ fed inlets. absurd (let clash : Source new ≡ Inlets fed = sym here' ∙ inlets in cc);
        on = λ fed inlets. absurd (let clash : Source old ≡ Inlets fed = sym here ∙ inlets in cc);
      }
      by was is (PadIs.of_part j port old new at set pad_in same) = record { back = λ fed inlets. sym same ∙ inlets; on = λ fed inlets. same ∙ inlets }

      go : Changed (LedBy (inside_behind to) t.back) (t.back ≡ inside_behind to) pad t.was.head t.was.parts.items t.turned.head t.turned.parts.items → SameInlets t.was.head t.turned.head
      go (inl (was, is, number, led, changed)) = by was is changed
      go (inr none) = absurd (has_not t.was.head t.was.parts.items pad has none.0)

module _ {S E I O L : Type 0} {s : sources.Ghosts S} {e : elements.Ghosts E} {i : inlets.Ghosts I L O} {o : outlets.Ghosts O L} (tasks mid tasks' : List (Task S E I O L s e i o)) (pad : ℕ) (to : Inside)
    (j : IsJoined tasks mid pad to.element) (items : List Item) (l : IsLinkedOpened mid tasks' pad to items) (once : (k x : ℕ) → PadOf tasks k pad → PadOf tasks x pad → k ≡ x) where
  has : HasPad l.done.was.head l.done.was.parts.items pad
  has = subst (λ (t : Task S E I O L s e i o). HasPad t.head t.parts.items pad) (some_same (sym l.both.at ∙ l.done.at)) l.both.has

  -- the task that was linked is the joined one
  was_joined : MovesUp j.from l.place j.to × (l.done.was ≡ j.merged.is)
  was_joined = go (joined_found tasks mid pad to.element j l.place l.done.was l.done.at)
    where
      go : IsFound tasks mid pad to.element j l.place l.done.was → MovesUp j.from l.place j.to × (l.done.was ≡ j.merged.is)
      go (inl z) = z
      go (inr z) = absurd (has_not l.done.was.head l.done.was.parts.items pad has
          (none_in o l.done.was.head l.done.was.parts.items pad (λ one. z.2.not_to (once z.0 j.to (record { task = l.done.was; at = z.2.at; has = one }) j.has))))

  pub linked_found : (k : ℕ) (t : Task S E I O L s e i o) → slice_get tasks' k ≡ Some t → (t ≡ l.done.is) ⊎ ((x : ℕ) × IsOther tasks mid pad to.element j x t)
  linked_found k t at = go (cases_eq k l.place)
    where
      there : slice_get (slice_set mid l.place l.done.is) k ≡ Some t
      there = ap (λ (ts : List (Task S E I O L s e i o)). slice_get ts k) (sym l.done.set) ∙ at

      by : (k ≡ l.place → ⊥) → IsFound tasks mid pad to.element j k t → (t ≡ l.done.is) ⊎ ((x : ℕ) × IsOther tasks mid pad to.element j x t)
      by other (inl z) = absurd (other (moves_once j.from k l.place j.to z.0 was_joined.0))
      by other (inr z) = inr (z.0, z.2)

      go : (k ≡ l.place) ⊎ (k ≡ l.place → ⊥) → (t ≡ l.done.is) ⊎ ((x : ℕ) × IsOther tasks mid pad to.element j x t)
      go (inl same) = inl (set_here mid l.place t l.done.is (ap (λ (y : ℕ). slice_get (slice_set mid l.place l.done.is) y) (sym same) ∙ there))
      go (inr other) = by other (joined_found tasks mid pad to.element j k t (sym (set_there mid l.place k l.done.is other) ∙ there))

  pub linked_stays : (x : ℕ) (t : Task S E I O L s e i o) → IsOther tasks mid pad to.element j x t → (k : ℕ) × (slice_get tasks' k ≡ Some t)
  linked_stays x t is =
      let z = joined_stays tasks mid pad to.element j x t is in
      (z.0, ap (λ (ts : List (Task S E I O L s e i o)). slice_get ts z.0) l.done.set ∙ set_there mid l.place z.0 l.done.is (apart z.0 z.1) ∙ z.2)
    where
      apart : (k : ℕ) → MovesUp j.from k x → k ≡ l.place → ⊥
      apart k up same = is.not_to (up_once j.from l.place x j.to (subst (λ (y : ℕ). MovesUp j.from y x) same up) was_joined.0)

  pub linked_here : slice_get tasks' l.place ≡ Some l.done.is
  linked_here = ap (λ (ts : List (Task S E I O L s e i o)). slice_get ts l.place) l.done.set ∙ set_at mid l.place l.done.was l.done.is l.done.at

  -- the task as it is now, beside the two
  pub linked_pad : PadLed (frame_of j.merged.is) (frame_of l.done.is) pad to
  linked_pad = subst (λ (t : Task S E I O L s e i o). PadLed (frame_of t) (frame_of l.done.is) pad to) was_joined.1 (turned_pad mid tasks' l.place pad to _ _ l.done has)

  pub linked_inlets : SameInlets j.merged.was.head l.done.is.head
  linked_inlets =
      subst (λ (h : Head S I O s). SameInlets h l.done.is.head) j.merged.head
      (subst (λ (t : Task S E I O L s e i o). SameInlets t.head l.done.is.head) was_joined.1 (turned_inlets mid tasks' l.place pad to _ _ l.done has))
