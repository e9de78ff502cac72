-- Room to join two tasks is still enough where the link of a pad was undone and a task was split: a task that has the pad, or whose head feeds an
-- element, comes from one of which the same is so, with as many elements or more.
use Rattle.std.proofs.Common.{◌≡◌, ◌≢◌, ◌≤◌, ℕ, Bool, true, false, List, None, Some, length, refl, sym, ap, ◌∙◌, subst, arith}
use Rattle.lane_core.specs.declared.ends.Inlet as inlets
use Rattle.lane_core.specs.declared.ends.Outlet as outlets
use Rattle.flow_model.specs.declared.element.TaskElement as elements
use Rattle.flow_model.specs.declared.source.TaskSource as sources
use Rattle.task_parts.specs.declared.head.Head.{Head}
use Rattle.task_parts.specs.declared.part.Part.{Part}
use Rattle.net_task.specs.declared.task.Task.{Task}
use Rattle.net_task.specs.Frame.{IsWire, Wire, frame_in, frame_of, head_frame, head_wire}
use Rattle.net_groups.specs.Joined.{HasRoomToJoin}
use Rattle.net_groups.specs.Places.{FedAt, HasPad, PadOf}
use Rattle.net_groups.specs.Splits.{IsSplitAt, number_in}
use Rattle.net_groups.specs.declared.joining.JoinRoom.{JoinRoom}
use Rattle.net_groups.proofs.Halves.{Found, found}
use Rattle.net_groups.proofs.Within.{IsWithin, gone_within, kept_within, place_in, wire_within}
use Rattle.edit_acts.proofs.Undoes.{ToldSplit}
use Rattle.edit_acts.proofs.Unlinked.{AreCut, cut_size}

-- some of the items of a list are not more
within_size : {A : Type 0} {Q : A → Type 0} {xs ys : List A} → IsWithin Q xs ys → length ys ≤ length xs
within_size IsWithin.end = omega arith
within_size (IsWithin.here q w) = let low = within_size w in omega (arith, low)
within_size (IsWithin.past w) = let low = within_size w in omega (arith, low)

pub none_some : {A : Type 0} (x : A) → None ≡ Some x → ⊥
none_some x same = cc

-- a pad of some of the elements of a task is one of all
module _ {S E I O L : Type 0} {s : sources.Ghosts S} {e : elements.Ghosts E} (o : outlets.Ghosts O L) {Q : Part E O e → Type 0} (head head' : Head S I O s) {parts some : List (Part E O e)} (w : IsWithin Q parts some) where
  pub all_wires : ((wire : Wire) → head_wire (head_frame o head') ≡ Some wire → head_wire (head_frame o head) ≡ Some wire) → (wire : Wire) → IsWire (frame_in o head' some) wire → IsWire (frame_in o head parts) wire
  all_wires heads wire (IsWire.of_part j k x) = IsWire.of_part (place_in w j) k (wire_within o head head' w j k wire x)
  all_wires heads wire (IsWire.of_head is) = IsWire.of_head (heads wire is)

  pad_within : ((wire : Wire) → head_wire (head_frame o head') ≡ Some wire → head_wire (head_frame o head) ≡ Some wire) → (number : ℕ) → HasPad (frame_in o head' some) number → HasPad (frame_in o head parts) number
  pad_within heads number has = record { wire = has.wire; is = all_wires heads has.wire has.is; number_is = has.number_is }

module _ {S E I O L : Type 0} {s : sources.Ghosts S} {e : elements.Ghosts E} {i : inlets.Ghosts I L O} {o : outlets.Ghosts O L} where
  -- the head of a task with so many elements or more feeds the element
  record FedWith (tasks : List (Task S E I O L s e i o)) (n count : ℕ) : Type 0 where
    place : ℕ
    fed : FedAt tasks place n
    most : count ≤ length fed.fed.task.parts.items

  -- a task with so many elements or more has the pad
  record PadWith (tasks : List (Task S E I O L s e i o)) (pad count : ℕ) : Type 0 where
    place : ℕ
    has : PadOf tasks place pad
    most : count ≤ length has.task.parts.items

  -- Each task that has the pad, or whose head feeds the element, comes from such a one.
  record ComeFrom (tasks tasks' : List (Task S E I O L s e i o)) (pad n : ℕ) : Type 0 where
    fed : (k : ℕ) (f : FedAt tasks' k n) → FedWith tasks n (length f.fed.task.parts.items)
    has : (k : ℕ) (p : PadOf tasks' k pad) → PadWith tasks pad (length p.task.parts.items)

  room_stays : (tasks tasks' : List (Task S E I O L s e i o)) (pad n : ℕ) (room : JoinRoom E O e) → ComeFrom tasks tasks' pad n → HasRoomToJoin tasks pad n room → HasRoomToJoin tasks' pad n room
  room_stays tasks tasks' pad n room come has = record {
    empty = has.empty;
    both = λ k j f p.
        let a = come.fed k f in
        let b = come.has j p in
        let low = has.both a.place b.place a.fed b.has in
        let first = a.most in
        let second = b.most in
        omega (arith, low, first, second);
  }

  -- where the link of a pad was undone
  cut_come : (undone : ℕ) (tasks mid : List (Task S E I O L s e i o)) → AreCut undone tasks mid → (pad n : ℕ) → ComeFrom tasks mid pad n
  cut_come undone tasks mid cut pad n = record {
    fed = λ k f.
        let y = cut.back k f.fed.task f.fed.at in
        let size = cut_size undone y.was f.fed.task y.cut in
        record { place = k; fed = record { head = f.head; fed = record { task = y.was; at = y.at; head_is = y.cut.fed f.head f.fed.head_is }; number = f.number }; most = omega (arith, size) };
    has = λ k p.
        let y = cut.back k p.task p.at in
        let size = cut_size undone y.was p.task y.cut in
        record { place = k; has = record { task = y.was; at = y.at; has = subst (HasPad (frame_of y.was)) p.has.number_is (y.cut.frame.pads p.has.wire p.has.is) }; most = omega (arith, size) };
  }

  -- where what is behind another element was split off
  split_come : (mid tasks' : List (Task S E I O L s e i o)) (place element pads : ℕ) → IsSplitAt mid tasks' place element pads → (pad n : ℕ) → element ≢ n → ComeFrom mid tasks' pad n
  split_come mid tasks' place element pads z pad n other = record { fed = λ k f. fed k f (found mid tasks' place element pads z k f.fed.task f.fed.at); has = λ k p. has k p (found mid tasks' place element pads z k p.task p.at) }
    where
      Came : ℕ → Task S E I O L s e i o → Type 0
      Came k t = Found mid tasks' place element pads z k t

      fed : (k : ℕ) (f : FedAt tasks' k n) → Came k f.fed.task → FedWith mid n (length f.fed.task.parts.items)
      fed k f (Found.at_first same task) =
          let size = within_size (kept_within z.parted) in
          let parts = ap (λ (t : Task S E I O L s e i o). length t.parts.items) task in
          let head = sym z.head ∙ ap (λ (t : Task S E I O L s e i o). t.head) (sym task) ∙ f.fed.head_is in
          record { place = place; fed = record { head = f.head; fed = record { task = z.was; at = z.at; head_is = head }; number = f.number }; most = omega (arith, size, parts) }
      fed k f (Found.at_other else within at) = record { place = k; fed = record { head = f.head; fed = record { task = f.fed.task; at = at; head_is = f.fed.head_is }; number = f.number }; most = omega arith }
      fed k f (Found.at_last same task) =
          let head = sym z.fed_is ∙ ap (λ (t : Task S E I O L s e i o). t.head) (sym task) ∙ f.fed.head_is in
          absurd (other (sym z.number ∙ ap (λ (h : Head S I O s). number_in h) head ∙ f.number))

      has : (k : ℕ) (p : PadOf tasks' k pad) → Came k p.task → PadWith mid pad (length p.task.parts.items)
      has k p (Found.at_first same task) =
          let size = within_size (kept_within z.parted) in
          let parts = ap (λ (t : Task S E I O L s e i o). length t.parts.items) task in
          let here : HasPad (frame_of z.is) pad = subst (λ (t : Task S E I O L s e i o). HasPad (frame_of t) pad) task p.has in
          let there = pad_within o z.was.head z.is.head (kept_within z.parted) (λ wire is. ap (λ (h : Head S I O s). head_wire (head_frame o h)) (sym z.head) ∙ is) pad here in
          record { place = place; has = record { task = z.was; at = z.at; has = there }; most = omega (arith, size, parts) }
      has k p (Found.at_other else within at) = record { place = k; has = record { task = p.task; at = at; has = p.has }; most = omega arith }
      has k p (Found.at_last same task) =
          let size = within_size (gone_within z.parted) in
          let parts = ap (λ (t : Task S E I O L s e i o). length t.parts.items) task in
          let here : HasPad (frame_of z.fresh) pad = subst (λ (t : Task S E I O L s e i o). HasPad (frame_of t) pad) task p.has in
          let there = pad_within o z.was.head z.fresh.head (gone_within z.parted)
          (λ wire is. absurd (none_some wire (ap (λ (h : Head S I O s). head_wire (head_frame o h)) (sym z.fed_is) ∙ is))) pad here in
          record { place = place; has = record { task = z.was; at = z.at; has = there }; most = omega (arith, size, parts) }

  -- Room to join is still enough where the link of a pad was undone,
  pub cut_fits : (undone : ℕ) (tasks mid : List (Task S E I O L s e i o)) → AreCut undone tasks mid → (pad n : ℕ) (room : JoinRoom E O e) → HasRoomToJoin tasks pad n room → HasRoomToJoin mid pad n room
  cut_fits undone tasks mid cut pad n room has = room_stays tasks mid pad n room (cut_come undone tasks mid cut pad n) has

  -- and where a call that splits the task with another element was made.
  pub split_fits : (done : Bool) (mid tasks' : List (Task S E I O L s e i o)) (element pads : ℕ) → ToldSplit done mid tasks' element pads → (pad n : ℕ) (room : JoinRoom E O e) → element ≢ n
      → HasRoomToJoin mid pad n room → HasRoomToJoin tasks' pad n room
  split_fits true mid tasks' element pads told pad n room other has = let y = told.split refl in room_stays mid tasks' pad n room (split_come mid tasks' y.0 element pads y.2 pad n other) has
  split_fits false mid tasks' element pads told pad n room other has = subst (λ (ts : List (Task S E I O L s e i o)). HasRoomToJoin ts pad n room) (sym (told.same refl)) has
