-- Two tasks of a net become one: the net is ready as it was, and stands.
use Rattle.std.proofs.Common.{◌≡◌, ◌≢◌, ◌⊎◌, ◌<◌, ℕ, suc, List, [], ◌∷◌, length, Option, Some, refl, sym, ap, ◌∙◌, subst, inl, inr, arith}
use Rattle.std.specs.Prelude.{slice_get, slice_set}
use Rattle.std.proofs.lemmas.Bool.{cases_eq}
use Rattle.flow_model.specs.Call.{Call, feeds}
use Rattle.lane_core.specs.Lane.{Lane}
use Rattle.lane_core.specs.declared.ends.Inlet as inlets
use Rattle.lane_core.specs.declared.ends.Outlet as outlets
use Rattle.flow_model.specs.Moment.{Moment}
use Rattle.flow_model.specs.Split.{AreEmpty}
use Rattle.flow_model.specs.declared.element.TaskElement as elements
use Rattle.flow_model.specs.declared.source.TaskSource as sources
use Rattle.inlet_row.specs.declared.feeding.Feeding.{Feeding}
use Rattle.inlet_row.specs.declared.row.InletRow.{InletRow}
use Rattle.inlet_row.specs.Row.{held}
use Rattle.task_pads.specs.Behind.{over}
use Rattle.task_pads.proofs.Lists.{set_there}
use Rattle.task_parts.specs.declared.head.Head.{Head}
use Rattle.task_parts.specs.declared.head.Head.TheVariants.{Inlets}
use Rattle.task_parts.specs.declared.head.InletHead.{InletHead}
use Rattle.task_parts.specs.declared.part.Part.{Part}
use Rattle.net_task.specs.declared.task.Task.{Task}
use Rattle.net_task.specs.Frame.{Wire, frame_of, head_frame}
use Rattle.net_task.specs.Ready.{AreReady, IsReady}
use Rattle.net_task.specs.Ties.{AreTied, Stands, Ties, nothing_lost}
use Rattle.net_turns.specs.Net.{AreWired, HasElement, HasRow, IsFed, ListAt, NetReady, NetStands, Owns, RowStands}
use Rattle.gst_value.proofs.Basics.{some_same}
use Rattle.gst_value.proofs.Places.{found_at, set_at, set_here}
use Rattle.net_groups.specs.Places.{FedAt, HasWire, IsBare}
use Rattle.net_groups.specs.Joined.{CanJoinAt, IsJoined, IsMerged, IsUnfed, MovesUp}
use Rattle.net_groups.proofs.Lists.{moves_once, removed_back, removed_on}
use Rattle.net_groups.proofs.Merging.{FramesJoined, frames_joined, has_back, has_first, has_second, of_back, ready_joined, tied_joined}
use Rattle.net_groups.proofs.Regrouped.{IsUnsent, OwnsWire, Regrouped, fed_same, regrouped_ready, regrouped_stands}
use Rattle.net_groups.proofs.Sending.{into_sends}
use Rattle.net_groups.proofs.Wiring.{IsOf}

-- where nothing is at each place, nothing is there
pub all_empty : (css : List (List Call)) → ((port : ℕ) → port < length css → ListAt port css []) → AreEmpty css
all_empty [] each = tt
all_empty (cs ∷ css) each = (each 0 (omega arith), all_empty css (λ port within. each (suc port) (omega (arith, within))))

module _ {S E I O L : Type 0} {s : sources.Ghosts S} {e : elements.Ghosts E} {i : inlets.Ghosts I L O} {o : outlets.Ghosts O L} (tasks tasks' : List (Task S E I O L s e i o)) (from to : ℕ) (ne : from ≢ to)
    (merged : IsMerged tasks tasks' from to) (element : ℕ) (fed : FedAt tasks from element) (unsent : IsUnsent tasks element) where
  abbrev gave : Task S E I O L s e i o
  gave = merged.gave

  abbrev was : Task S E I O L s e i o
  was = merged.was

  abbrev is : Task S E I O L s e i o
  is = merged.is

  -- the task of a place is the one that was made, or stood there or at the next place
  abbrev Found : ℕ → Task S E I O L s e i o → Type 0
  Found k t = (MovesUp from k to × (t ≡ is)) ⊎ ((x : ℕ) × MovesUp from k x × (slice_get tasks x ≡ Some t) × (x ≢ from) × (x ≢ to))

  found : (k : ℕ) (t : Task S E I O L s e i o) → slice_get tasks' k ≡ Some t → Found k t
  found k t at = go (removed_back (slice_set tasks to is) from k t (ap (λ (ts : List (Task S E I O L s e i o)). slice_get ts k) (sym merged.list) ∙ at))
    where
      by : (x : ℕ) → MovesUp from k x → slice_get (slice_set tasks to is) x ≡ Some t → x ≢ from → ((x ≡ to) ⊎ (x ≡ to → ⊥)) → Found k t
      by x up there other (inl same) = inl (subst (λ (y : ℕ). MovesUp from k y) same up, set_here tasks to t is (ap (λ (y : ℕ). slice_get (slice_set tasks to is) y) (sym same) ∙ there))
      by x up there other (inr else) = inr (x, up, sym (set_there tasks to x is else) ∙ there, other, else)

      go : (x : ℕ) × MovesUp from k x × (slice_get (slice_set tasks to is) x ≡ Some t) × (x ≢ from) → Found k t
      go z = by z.0 z.1 z.2 z.3 (cases_eq z.0 to)

  stays : (x : ℕ) (t : Task S E I O L s e i o) → slice_get tasks x ≡ Some t → x ≢ from → x ≢ to → (k : ℕ) × MovesUp from k x × (slice_get tasks' k ≡ Some t)
  stays x t at other else =
      let z = removed_on (slice_set tasks to is) from x t (set_there tasks to x is else ∙ at) other in
      (z.0, z.1, ap (λ (ts : List (Task S E I O L s e i o)). slice_get ts z.0) merged.list ∙ z.2)

  here : (k : ℕ) × MovesUp from k to × (slice_get tasks' k ≡ Some is)
  here =
      let z = removed_on (slice_set tasks to is) from to is (set_at tasks to was is merged.to_at) (λ same. ne (sym same)) in
      (z.0, z.1, ap (λ (ts : List (Task S E I O L s e i o)). slice_get ts z.0) merged.list ∙ z.2)

  -- the place that a task, or the one into which its elements came, has now
  abbrev Comes : ℕ → ℕ → Type 0
  Comes k x = ((x ≢ from) × MovesUp from k x) ⊎ ((x ≡ from) × MovesUp from k to)

  comes_once : (k j x : ℕ) → Comes k x → Comes j x → k ≡ j
  comes_once k j x (inl a) (inl b) = moves_once from k j x a.1 b.1
  comes_once k j x (inl a) (inr b) = absurd (a.0 b.0)
  comes_once k j x (inr a) (inl b) = absurd (b.0 a.0)
  comes_once k j x (inr a) (inr b) = moves_once from k j to a.1 b.1

  frames : FramesJoined (frame_of gave) (frame_of was) (frame_of is)
  frames = frames_joined o gave.head was.head is.head gave.parts.items was.parts.items is.parts.items merged.head merged.parts

  gave_fed : gave.head ≡ Inlets fed.head
  gave_fed = ap (λ (t : Task S E I O L s e i o). t.head) (some_same (sym merged.from_at ∙ fed.fed.at)) ∙ fed.fed.head_is

  owns_back : (k n : ℕ) → Owns tasks' k n → (x : ℕ) × Comes k x × Owns tasks x n
  owns_back k n w = go (found k w.task w.at)
    where
      by : MovesUp from k to → HasElement (frame_of gave) n ⊎ HasElement (frame_of was) n → (x : ℕ) × Comes k x × Owns tasks x n
      by up (inl has) = (from, inr (refl, up), record { task = gave; at = merged.from_at; has = has })
      by up (inr has) = (to, inl (λ same. ne (sym same), up), record { task = was; at = merged.to_at; has = has })

      go : Found k w.task → (x : ℕ) × Comes k x × Owns tasks x n
      go (inl z) = by z.0 (has_back (frame_of gave) (frame_of was) (frame_of is) frames n (subst (λ (t : Task S E I O L s e i o). HasElement (frame_of t) n) z.1 w.has))
      go (inr z) = (z.0, inl (z.3, z.1), record { task = w.task; at = z.2; has = w.has })

  owns_on : (x n : ℕ) → Owns tasks x n → (k : ℕ) × Owns tasks' k n
  owns_on x n w = go (cases_eq x from) (cases_eq x to)
    where
      same_at : (y : ℕ) (t : Task S E I O L s e i o) → x ≡ y → slice_get tasks y ≡ Some t → HasElement (frame_of t) n
      same_at y t same at = subst (λ (z : Task S E I O L s e i o). HasElement (frame_of z) n) (some_same (sym w.at ∙ ap (λ (y : ℕ). slice_get tasks y) same ∙ at)) w.has

      go : ((x ≡ from) ⊎ (x ≡ from → ⊥)) → ((x ≡ to) ⊎ (x ≡ to → ⊥)) → (k : ℕ) × Owns tasks' k n
      go (inl a) b = (
        here.0,
        record {
          task = is;
          at = here.2;
          has = has_first (frame_of gave) (frame_of was) (frame_of is) frames fed.head.number (length fed.head.rows.items) (ap (λ (h : Head S I O s). head_frame o h) gave_fed) n (same_at from gave a merged.from_at);
        },
      )
      go (inr a) (inl b) = (here.0, record { task = is; at = here.2; has = has_second (frame_of gave) (frame_of was) (frame_of is) frames n (same_at to was b merged.to_at) })
      go (inr a) (inr b) = let z = stays x w.task w.at a b in (z.0, record { task = w.task; at = z.2; has = w.has })

  wires_back : (k n : ℕ) (wire : Wire) → OwnsWire tasks' k n wire → (x : ℕ) × OwnsWire tasks x n wire
  wires_back k n wire w = go (found k w.task w.at)
    where
      by : IsOf (frame_of gave) n wire ⊎ IsOf (frame_of was) n wire → (x : ℕ) × OwnsWire tasks x n wire
      by (inl of) = (from, record { task = gave; at = merged.from_at; is = of })
      by (inr of) = (to, record { task = was; at = merged.to_at; is = of })

      go : Found k w.task → (x : ℕ) × OwnsWire tasks x n wire
      go (inl z) = by (of_back (frame_of gave) (frame_of was) (frame_of is) frames n wire (subst (λ (t : Task S E I O L s e i o). IsOf (frame_of t) n wire) z.1 w.is))
      go (inr z) = (z.0, record { task = w.task; at = z.2; is = w.is })

  fed_back : (k : ℕ) (head : InletHead I) → IsFed tasks' k head → (x : ℕ) × IsFed tasks x head
  fed_back k head w = go (found k w.task w.at)
    where
      go : Found k w.task → (x : ℕ) × IsFed tasks x head
      go (inl z) = (to, record { task = was; at = merged.to_at; head_is = sym merged.head ∙ subst (λ (t : Task S E I O L s e i o). t.head ≡ Inlets head) z.1 w.head_is })
      go (inr z) = (z.0, record { task = w.task; at = z.2; head_is = w.head_is })

  -- a head of the tasks is there, or is the one that fed the elements that came into another task
  fed_on : (x : ℕ) (head : InletHead I) → IsFed tasks x head → ((k : ℕ) × IsFed tasks' k head) ⊎ (fed.head ≡ head)
  fed_on x head w = go (cases_eq x from) (cases_eq x to)
    where
      go : ((x ≡ from) ⊎ (x ≡ from → ⊥)) → ((x ≡ to) ⊎ (x ≡ to → ⊥)) → ((k : ℕ) × IsFed tasks' k head) ⊎ (fed.head ≡ head)
      go (inl a) b = inr (fed_same tasks from x fed.head head fed.fed w (sym a))
      go (inr a) (inl b) = inl (here.0, record { task = is; at = here.2; head_is = merged.head ∙ ap (λ (t : Task S E I O L s e i o). t.head) (some_same (sym merged.to_at ∙ ap (λ (y : ℕ). slice_get tasks y) (sym b) ∙ w.at)) ∙ w.head_is })
      go (inr a) (inr b) = let z = stays x w.task w.at a b in inl (z.0, record { task = w.task; at = z.2; head_is = w.head_is })

  regrouped : AreWired tasks → Regrouped tasks tasks'
  regrouped wired = record {
    once = λ k j n a b.
        let x = owns_back k n a in
        let y = owns_back j n b in
        comes_once k j y.0 (subst (λ (z : ℕ). Comes k z) (wired.once x.0 y.0 n x.2 y.2) x.1) y.1;
    owned = owns_on;
    wires = wires_back;
    fed = λ k head w. inl (fed_back k head w);
    kept = λ x head w. kept head (fed_on x head w);
  }
    where
      kept : (head : InletHead I) → ((k : ℕ) × IsFed tasks' k head) ⊎ (fed.head ≡ head) → ((k : ℕ) × IsFed tasks' k head) ⊎ IsUnsent tasks head.number
      kept head (inl z) = inl z
      kept head (inr same) = inr (subst (λ (n : ℕ). IsUnsent tasks n) (sym fed.number ∙ ap (λ (h : InletHead I). h.number) same) unsent)

  module _ (apart : (head : InletHead I) → IsFed tasks to head → (wire : Wire) → HasWire tasks from wire → (lane port at : ℕ) → wire.leads ≢ over lane head.number port at) where
    ready_each : (tells : Option (List Lane)) → AreWired tasks → ((k : ℕ) (task : Task S E I O L s e i o) → slice_get tasks k ≡ Some task → IsReady tells task)
        → (k : ℕ) (task : Task S E I O L s e i o) → slice_get tasks' k ≡ Some task → IsReady tells task
    ready_each tells wired ready k task at = go (found k task at)
      where
        made : IsReady tells is
        made = subst (λ (h : Head S I O s). AreReady i o tells h is.parts.items) (sym merged.head) (subst (λ (ps : List (Part E O e)). AreReady i o tells was.head ps) (sym merged.parts)
            (ready_joined tasks from to ne gave was merged.from_at merged.to_at wired tells (ready from gave merged.from_at) (ready to was merged.to_at) apart))

        go : Found k task → IsReady tells task
        go (inl z) = subst (λ (t : Task S E I O L s e i o). IsReady tells t) (sym z.1) made
        go (inr z) = ready z.0 task z.2

    pub merged_ready : (tells : Option (List Lane)) → NetReady tasks tells → NetReady tasks' tells
    merged_ready tells n = regrouped_ready tasks tasks' (regrouped n.wired) tells (ready_each tells n.wired n.ready) n

    pub merged_stands : IsBare fed.head → (m : Moment) (tells : Option (List Lane)) → NetStands m tasks tells → NetStands m tasks' tells
    merged_stands bare m tells n = regrouped_stands tasks tasks' (regrouped n.wired) m tells n tied (ready_each tells n.wired n.ready) rows each others
      where
        made : Ties is m
        made = subst (λ (h : Head S I O s). AreTied i o (Stands m) nothing_lost m h is.parts.items) (sym merged.head) (subst (λ (ps : List (Part E O e)). AreTied i o (Stands m) nothing_lost m was.head ps) (sym merged.parts)
            (tied_joined tasks from to ne gave was merged.from_at merged.to_at n.wired m (n.tied from gave merged.from_at) (n.tied to was merged.to_at)))

        tied : (k : ℕ) (task : Task S E I O L s e i o) → slice_get tasks' k ≡ Some task → Ties task m
        tied k task at = go (found k task at)
          where
            go : Found k task → Ties task m
            go (inl z) = subst (λ (t : Task S E I O L s e i o). Ties t m) (sym z.1) made
            go (inr z) = n.tied z.0 task z.2

        rows : (k p port : ℕ) (row : InletRow I) → HasRow tasks' k p port row → RowStands i n.table n.sents m p port row
        rows k p port row w = let z = fed_back k w.head w.fed in n.rows z.0 p port row (record { head = w.head; fed = z.1; number = w.number; at = w.at })

        each : (k : ℕ) (head : InletHead I) → IsFed tasks' k head → length (m.held head.number) ≡ length head.rows.items
        each k head w = let z = fed_back k head w in n.each z.0 head z.1

        -- nothing stood in the inlets of the head that is no more
        none_held : AreEmpty (m.held fed.head.number)
        none_held = all_empty (m.held fed.head.number) (λ port within. at port (found_at fed.head.rows.items port (let size = n.each from fed.head fed.fed in omega (arith, size, within))))
          where
            at : (port : ℕ) → (row : InletRow I) × (slice_get fed.head.rows.items port ≡ Some row) → ListAt port (m.held fed.head.number) []
            at port row =
                let z = n.rows from fed.head.number port row.0 (record { head = fed.head; fed = fed.fed; number = refl; at = row.1 }) in
                subst (λ (fs : List (Feeding I)). ListAt port (m.held fed.head.number) (feeds (held i n.table fs))) (bare port row.0 row.1) z.holds

        others : (p : ℕ) → ((k : ℕ) (head : InletHead I) → IsFed tasks' k head → head.number ≢ p) → AreEmpty (m.held p)
        others p none = go (cases_eq fed.head.number p)
          where
            go : ((fed.head.number ≡ p) ⊎ (fed.head.number ≡ p → ⊥)) → AreEmpty (m.held p)
            go (inl same) = subst (λ (z : ℕ). AreEmpty (m.held z)) same none_held
            go (inr else) = n.others p (λ x head w. by head (fed_on x head w))
              where
                by : (head : InletHead I) → ((k : ℕ) × IsFed tasks' k head) ⊎ (fed.head ≡ head) → head.number ≢ p
                by head (inl z) = none z.0 head z.1
                by head (inr same) = λ number. else (ap (λ (h : InletHead I). h.number) same ∙ number)

module _ {S E I O L : Type 0} {s : sources.Ghosts S} {e : elements.Ghosts E} {i : inlets.Ghosts I L O} {o : outlets.Ghosts O L} (tasks tasks' : List (Task S E I O L s e i o)) (pad element from to : ℕ)
    (can : CanJoinAt tasks pad element from to) (merged : IsMerged tasks tasks' from to) where
  pub joins : IsJoined tasks tasks' pad element
  joins = record { from = from; to = to; apart = can.two; fed = can.fed; has = can.has; merged = merged }

  unsent : IsUnsent tasks element
  unsent k p place at port x = can.unsent k (into_sends tasks k p place at element port x)

  apart : (head : InletHead I) → IsFed tasks to head → (wire : Wire) → HasWire tasks from wire → (lane port at : ℕ) → wire.leads ≢ over lane head.number port at
  apart head fed wire has lane port at leads = can.between head fed (record { task = has.task; at = has.at; sends = record { wire = wire; is = has.is; lane = lane; port = port; from = at; leads = leads } })

  pub joined_ready : (tells : Option (List Lane)) → NetReady tasks tells → NetReady tasks' tells
  joined_ready = merged_ready tasks tasks' from to can.two merged element can.fed unsent apart

  pub joined_stands : (m : Moment) (tells : Option (List Lane)) → NetStands m tasks tells → IsUnfed tasks element → NetStands m tasks' tells
  joined_stands m tells stands unfed = merged_stands tasks tasks' from to can.two merged element can.fed unsent apart (unfed from can.fed) m tells stands
