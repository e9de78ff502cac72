-- The elements of one task come into another: what the one task is that they make.
use Rattle.std.proofs.Common.{◌≡◌, ◌≢◌, ◌⊎◌, ◌<◌, ◌+◌, ◌++◌, ℕ, List, length, map, Option, Some, refl, sym, ap, ◌∙◌, subst, inl, inr}
use Rattle.std.specs.Prelude.{slice_get}
use Rattle.std.proofs.lemmas.List.{map-append}
use Rattle.std.proofs.lemmas.Bool.{cases_eq}
use Rattle.lane_core.specs.Lane.{Lane}
use Rattle.lane_core.specs.declared.ends.Inlet as inlets
use Rattle.lane_core.specs.declared.ends.Outlet as outlets
use Rattle.flow_model.specs.Moment.{Moment}
use Rattle.flow_model.specs.declared.element.TaskElement as elements
use Rattle.flow_model.specs.declared.source.TaskSource as sources
use Rattle.inlet_row.specs.declared.row.InletRow.{InletRow}
use Rattle.inlet_row.specs.Row.{ForLanes, feeds_of}
use Rattle.inlet_row.proofs.Losing.{for_map}
use Rattle.task_pads.specs.Behind.{inside, over}
use Rattle.task_pads.specs.declared.pad.Pad.{Pad}
use Rattle.task_pads.specs.Pads.{goes_of}
use Rattle.task_parts.specs.declared.head.Head.{Head}
use Rattle.task_parts.specs.declared.head.Head.TheVariants.{Source, Inlets}
use Rattle.task_parts.specs.declared.head.InletHead.{InletHead}
use Rattle.task_parts.specs.declared.part.Part.{Part}
use Rattle.task_parts.specs.Part.{PartReady}
use Rattle.net_task.specs.declared.task.Task.{Task}
use Rattle.net_task.specs.Frame.{by_source, by_inlets, PartFrame, TaskFrame, Wire, IsWire, WireAt, frame_in, frame_of, head_frame, head_wire, part_frame, of_part as wire_part, of_head as wire_head, wire_of}
use Rattle.net_task.specs.Ready.{AreReady, EndsWith, HeadApart, IsReady, LeadsInto, NoneFrom, WiresApart}
use Rattle.net_task.specs.Ties.{AreOnce, AreTied, HeadTied, PartTied, Stands, Ties, nothing_lost}
use Rattle.net_turns.specs.Net.{AreWired, HasElement, HasRow, IsFed, SendsInto, part as has_part, source as has_source}
use Rattle.net_turns.proofs.Facts.{fed_owned}
use Rattle.net_groups.specs.Places.{HasWire}
use Rattle.net_groups.proofs.Lists.{append_back, append_first, append_second}
use Rattle.net_groups.proofs.Regrouped.{fed_same}
use Rattle.net_groups.proofs.Wiring.{IsOf, LeadsOver, for_last, inside_part, leads_over, of_part, of_source, part_has}

-- ---- frames

-- the elements of one frame and then those of another, with its head
pub record FramesJoined (a b c : TaskFrame) : Type 0 where
  pub parts : c.parts ≡ a.parts ++ b.parts
  pub head : c.head ≡ b.head

module _ (a b c : TaskFrame) (j : FramesJoined a b c) where
  -- a pad of the whole is one of the first, or of the second, farther on
  wire_back : (x k : ℕ) (wire : Wire) → WireAt c x k wire → (WireAt a x k wire) ⊎ ((y : ℕ) × (x ≡ length a.parts + y) × WireAt b y k wire)
  wire_back x k wire w = go (append_back a.parts b.parts x w.part (ap (λ (ps : List PartFrame). slice_get ps x) (sym j.parts) ∙ w.at))
    where
      go : ((x < length a.parts) × (slice_get a.parts x ≡ Some w.part)) ⊎ ((y : ℕ) × (x ≡ length a.parts + y) × (slice_get b.parts y ≡ Some w.part)) → (WireAt a x k wire) ⊎ ((y : ℕ) × (x ≡ length a.parts + y) × WireAt b y k wire)
      go (inl z) = inl (record { part = w.part; at = z.1; pad_at = w.pad_at })
      go (inr z) = inr (z.0, z.1, record { part = w.part; at = z.2; pad_at = w.pad_at })

  pub has_back : (n : ℕ) → HasElement c n → HasElement a n ⊎ HasElement b n
  has_back n (has_part x one at number) = go (append_back a.parts b.parts x one (ap (λ (ps : List PartFrame). slice_get ps x) (sym j.parts) ∙ at))
    where
      go : ((x < length a.parts) × (slice_get a.parts x ≡ Some one)) ⊎ ((y : ℕ) × (x ≡ length a.parts + y) × (slice_get b.parts y ≡ Some one)) → HasElement a n ⊎ HasElement b n
      go (inl z) = inl (has_part x one z.1 number)
      go (inr z) = inr (has_part z.0 one z.2 number)
  has_back n (has_source file wire is) = inr (has_source file wire (sym j.head ∙ is))

  pub has_first : (h r : ℕ) → a.head ≡ by_inlets h r → (n : ℕ) → HasElement a n → HasElement c n
  has_first h r fed n (has_part x one at number) = has_part x one (ap (λ (ps : List PartFrame). slice_get ps x) j.parts ∙ append_first a.parts b.parts x one at) number
  has_first h r fed n (has_source file wire is) = absurd (let same : by_inlets h r ≡ by_source n file wire = sym fed ∙ is in cc)

  pub has_second : (n : ℕ) → HasElement b n → HasElement c n
  has_second n (has_part x one at number) = has_part (length a.parts + x) one (ap (λ (ps : List PartFrame). slice_get ps (length a.parts + x)) j.parts ∙ append_second a.parts b.parts x one at) number
  has_second n (has_source file wire is) = has_source file wire (j.head ∙ is)

  pub of_back : (n : ℕ) (wire : Wire) → IsOf c n wire → IsOf a n wire ⊎ IsOf b n wire
  of_back n wire (of_part x k w number) = go (append_back a.parts b.parts x w.part (ap (λ (ps : List PartFrame). slice_get ps x) (sym j.parts) ∙ w.at))
    where
      go : ((x < length a.parts) × (slice_get a.parts x ≡ Some w.part)) ⊎ ((y : ℕ) × (x ≡ length a.parts + y) × (slice_get b.parts y ≡ Some w.part)) → IsOf a n wire ⊎ IsOf b n wire
      go (inl z) = inl (of_part x k (record { part = w.part; at = z.1; pad_at = w.pad_at }) number)
      go (inr z) = inr (of_part z.0 k (record { part = w.part; at = z.2; pad_at = w.pad_at }) number)
  of_back n wire (of_source file is) = inr (of_source file (sym j.head ∙ is))

module _ {S E I O L : Type 0} {s : sources.Ghosts S} {e : elements.Ghosts E} (o : outlets.Ghosts O L) where
  pub frames_joined : (ha hb hc : Head S I O s) (pa pb pc : List (Part E O e)) → hc ≡ hb → pc ≡ pa ++ pb → FramesJoined (frame_in o ha pa) (frame_in o hb pb) (frame_in o hc pc)
  frames_joined ha hb hc pa pb pc head parts = record {
    parts = ap (λ (ps : List (Part E O e)). map (part_frame o) ps) parts ∙ map-append (part_frame o) pa pb;
    head = ap (λ (h : Head S I O s). head_frame o h) head;
  }

-- ---- the task

module _ {S E I O L : Type 0} {s : sources.Ghosts S} {e : elements.Ghosts E} {i : inlets.Ghosts I L O} {o : outlets.Ghosts O L} (tasks : List (Task S E I O L s e i o)) (from to : ℕ) (ne : from ≢ to)
    (gave was : Task S E I O L s e i o) (from_at : slice_get tasks from ≡ Some gave) (to_at : slice_get tasks to ≡ Some was) (wired : AreWired tasks) where
  -- the number of an element of the one is none of the other's
  apart_numbers : (n : ℕ) → HasElement (frame_of gave) n → HasElement (frame_of was) n → ⊥
  apart_numbers n a b = ne (wired.once from to n (record { task = gave; at = from_at; has = a }) (record { task = was; at = to_at; has = b }))

  part_of : (task : Task S E I O L s e i o) (j : ℕ) (part : Part E O e) → slice_get task.parts.items j ≡ Some part → HasElement (frame_of task) part.number
  part_of task j part at = part_has o task.head task.parts.items part.number (record { place = j; part = part; at = at; number = refl })

  -- each element of both
  both_parts : (P : Part E O e → Type 0) → ((j : ℕ) (part : Part E O e) → slice_get gave.parts.items j ≡ Some part → P part) → ((j : ℕ) (part : Part E O e) → slice_get was.parts.items j ≡ Some part → P part)
      → (j : ℕ) (part : Part E O e) → slice_get (gave.parts.items ++ was.parts.items) j ≡ Some part → P part
  both_parts P first second j part at = go (append_back gave.parts.items was.parts.items j part at)
    where
      go : ((j < length gave.parts.items) × (slice_get gave.parts.items j ≡ Some part)) ⊎ ((k : ℕ) × (j ≡ length gave.parts.items + k) × (slice_get was.parts.items k ≡ Some part)) → P part
      go (inl z) = first j part z.1
      go (inr z) = second z.0 part z.2

  -- two elements of the whole that have one number are one
  once_joined : AreOnce gave.parts.items → AreOnce was.parts.items → AreOnce (gave.parts.items ++ was.parts.items)
  once_joined a b j k p q at at' same = go (append_back gave.parts.items was.parts.items j p at) (append_back gave.parts.items was.parts.items k q at')
    where
      go : ((j < length gave.parts.items) × (slice_get gave.parts.items j ≡ Some p)) ⊎ ((x : ℕ) × (j ≡ length gave.parts.items + x) × (slice_get was.parts.items x ≡ Some p))
          → ((k < length gave.parts.items) × (slice_get gave.parts.items k ≡ Some q)) ⊎ ((x : ℕ) × (k ≡ length gave.parts.items + x) × (slice_get was.parts.items x ≡ Some q)) → j ≡ k
      go (inl y) (inl z) = a j k p q y.1 z.1 same
      go (inl y) (inr z) = absurd (apart_numbers q.number (subst (λ (n : ℕ). HasElement (frame_of gave) n) same (part_of gave j p y.1)) (part_of was z.0 q z.2))
      go (inr y) (inl z) = absurd (apart_numbers q.number (part_of gave k q z.1) (subst (λ (n : ℕ). HasElement (frame_of was) n) same (part_of was y.0 p y.2)))
      go (inr y) (inr z) = y.1 ∙ ap (λ (n : ℕ). length gave.parts.items + n) (b y.0 z.0 p q y.2 z.2 same) ∙ sym z.1

  module _ (m : Moment) (gave_tied : Ties gave m) (was_tied : Ties was m) where
    head_joined : (head : Head S I O s) → was.head ≡ head → HeadTied i o nothing_lost m head was.parts.items → HeadTied i o nothing_lost m head (gave.parts.items ++ was.parts.items)
    head_joined (Source head) is t = record {
      owner = t.owner;
      mine = t.mine;
      linked = t.linked;
      gave = t.gave;
      given = t.given;
      apart = both_parts (λ part. part.number ≢ head.number)
          (λ j part at same. apart_numbers head.number (subst (λ (n : ℕ). HasElement (frame_of gave) n) same (part_of gave j part at))
          (has_source (s.file head.source) (wire_of o head.pad) (ap (λ (h : Head S I O s). head_frame o h) is)))
          t.apart;
    }
    head_joined (Inlets head) is t = λ port row at.
        let z = t port row at in
        let owned = fed_owned tasks to head (record { task = was; at = to_at; head_is = is }) in
        record {
          all = z.all;
          gave = z.gave;
          got = z.got;
          whole = z.whole;
          took = z.took;
          apart = λ j k part pad part_at pad_at. both_parts (λ (part : Part E O e). (k : ℕ) (pad : Pad O) → slice_get part.pads.items k ≡ Some pad → goes_of pad ≢ inside head.number port)
              (λ j part part_at k pad pad_at leads.
              ne (wired.once from to head.number
              (record { task = gave; at = from_at; has = part_has o gave.head gave.parts.items head.number (inside_part gave.head gave.parts.items gave.closed j k head.number port part pad part_at pad_at leads) }) owned))
              (λ j part part_at k pad pad_at. z.apart j k part pad part_at pad_at) j part part_at k pad pad_at;
        }

    pub tied_joined : AreTied i o (Stands m) nothing_lost m was.head (gave.parts.items ++ was.parts.items)
    tied_joined = record {
      parts_tied = record {
        each = both_parts (λ part. PartTied o (Stands m part) m part) gave_tied.parts_tied.each was_tied.parts_tied.each;
        once = once_joined gave_tied.parts_tied.once was_tied.parts_tied.once;
      };
      head_tied = head_joined was.head refl was_tied.head_tied;
    }

  module _ (tells : Option (List Lane)) (gave_ready : IsReady tells gave) (was_ready : IsReady tells was)
      (apart : (head : InletHead I) → IsFed tasks to head → (wire : Wire) → HasWire tasks from wire → (lane port at : ℕ) → wire.leads ≢ over lane head.number port at) where
    abbrev whole : TaskFrame
    whole = frame_in o was.head (gave.parts.items ++ was.parts.items)

    joined : FramesJoined (frame_of gave) (frame_of was) whole
    joined = frames_joined o gave.head was.head was.head gave.parts.items was.parts.items (gave.parts.items ++ was.parts.items) refl refl

    -- a pad of a task that leads into a lane
    sends : (k : ℕ) (task : Task S E I O L s e i o) → slice_get tasks k ≡ Some task → (wire : Wire) (place : ℕ) → IsWire (frame_of task) wire → LeadsInto wire place
        → (l : LeadsOver wire) × SendsInto tasks k wire.number place l.from l.element l.port
    sends k task at wire place is into =
        let l = leads_over o task.head task.parts.items wire place is into in
        (l, record { task = task; at = at; out = record { wire = wire; is = is; number = refl; lane = l.lane; leads = l.is; into = into } })

    apart_lanes : (place : ℕ) (one other : Wire) → IsWire (frame_of gave) one → IsWire (frame_of was) other → LeadsInto one place → LeadsInto other place → ⊥
    apart_lanes place one other is is' l l' =
        let a = sends from gave from_at one place is l in
        let b = sends to was to_at other place is' l' in
        ne (wired.one_sends from to one.number other.number place a.0.from b.0.from a.0.element b.0.element a.0.port b.0.port a.1 b.1).0

    wires_joined : WiresApart whole
    wires_joined = record {
      parts = λ j k j' k' place one other w w' l l'. parts j k j' k' place one other (wire_back (frame_of gave) (frame_of was) whole joined j k one w) (wire_back (frame_of gave) (frame_of was) whole joined j' k' other w') l l';
      source = λ j k place one other w is_head l l'. source j k place one other (wire_back (frame_of gave) (frame_of was) whole joined j k one w) is_head l l';
    }
      where
        size : ℕ
        size = length (frame_of gave).parts

        parts : (j k j' k' place : ℕ) (one other : Wire) → (WireAt (frame_of gave) j k one) ⊎ ((y : ℕ) × (j ≡ size + y) × WireAt (frame_of was) y k one)
            → (WireAt (frame_of gave) j' k' other) ⊎ ((y : ℕ) × (j' ≡ size + y) × WireAt (frame_of was) y k' other) → LeadsInto one place → LeadsInto other place → (j ≡ j') × (k ≡ k')
        parts j k j' k' place one other (inl w) (inl w') l l' = gave_ready.wires_apart.parts j k j' k' place one other w w' l l'
        parts j k j' k' place one other (inl w) (inr w') l l' = absurd (apart_lanes place one other (wire_part j k w) (wire_part w'.0 k' w'.2) l l')
        parts j k j' k' place one other (inr w) (inl w') l l' = absurd (apart_lanes place other one (wire_part j' k' w') (wire_part w.0 k w.2) l' l)
        parts j k j' k' place one other (inr w) (inr w') l l' =
            let z = was_ready.wires_apart.parts w.0 k w'.0 k' place one other w.2 w'.2 l l' in
            (w.1 ∙ ap (λ (n : ℕ). size + n) z.0 ∙ sym w'.1, z.1)

        source : (j k place : ℕ) (one other : Wire) → (WireAt (frame_of gave) j k one) ⊎ ((y : ℕ) × (j ≡ size + y) × WireAt (frame_of was) y k one) → head_wire (frame_of was).head ≡ Some other → LeadsInto one place → LeadsInto other place → ⊥
        source j k place one other (inl w) is_head l l' = apart_lanes place one other (wire_part j k w) (wire_head is_head) l l'
        source j k place one other (inr w) is_head l l' = was_ready.wires_apart.source w.0 k place one other w.2 is_head l l'

    -- no lane into which a pad of the one leads feeds the head of the other
    none_from : (head : InletHead I) → was.head ≡ Inlets head → (place : ℕ) (wire : Wire) → IsWire (frame_of gave) wire → LeadsInto wire place → NoneFrom i head place
    none_from head is place wire is_wire l port row at =
        let a = sends from gave from_at wire place is_wire l in
        let z = wired.paired from wire.number place a.0.from a.0.element a.0.port a.1 in
        go a.0 z.0 z.1 z.2 z.3 (cases_eq z.0 to)
      where
        fed : IsFed tasks to head
        fed = record { task = was; at = to_at; head_is = is }

        go : (v : LeadsOver wire) (r : ℕ) (other : InletRow I) → HasRow tasks r v.element v.port other → EndsWith i other place → ((r ≡ to) ⊎ (r ≡ to → ⊥)) → ForLanes (λ inlet. place ≢ i.place inlet) (feeds_of row)
        go v r other has ends (inl same) =
            let number : head.number ≡ v.element = ap (λ (h : InletHead I). h.number) (sym (fed_same tasks r to has.head head has.fed fed same)) ∙ has.number in
            absurd (apart head fed wire (record { task = gave; at = from_at; is = is_wire }) v.lane v.port v.from (v.is ∙ ap (λ (n : ℕ). over v.lane n v.port v.from) (sym number)))
        go v r other has ends (inr else) =
            let all = wired.one_takes r to v.element head.number v.port port other row has (record { head = head; fed = fed; number = refl; at = at }) else in
            let last = for_last (λ inlet. ForLanes (λ second. i.place second ≢ i.place inlet) (feeds_of row)) ends.front ends.number ends.inlet (subst (λ fs. ForLanes (λ inlet. ForLanes (λ second. i.place second ≢ i.place inlet) (feeds_of row)) fs) ends.whole all) in
            for_map (λ second. i.place second ≢ i.place ends.inlet) (λ inlet. place ≢ i.place inlet) (feeds_of row) (λ inlet other same. other (sym same ∙ sym ends.place_is)) last

    head_apart_joined : (head : Head S I O s) → was.head ≡ head → HeadApart i (frame_of was) head → HeadApart i whole head
    head_apart_joined (Source head) is h = tt
    head_apart_joined (Inlets head) is h = record {
      each = h.each;
      rows = h.rows;
      pads = λ j k place wire w l. pads j k place wire (wire_back (frame_of gave) (frame_of was) whole joined j k wire w) l;
    }
      where
        pads : (j k place : ℕ) (wire : Wire) → (WireAt (frame_of gave) j k wire) ⊎ ((y : ℕ) × (j ≡ length (frame_of gave).parts + y) × WireAt (frame_of was) y k wire) → LeadsInto wire place → NoneFrom i head place
        pads j k place wire (inl w) l = none_from head is place wire (wire_part j k w) l
        pads j k place wire (inr w) l = h.pads w.0 k place wire w.2 l

    pub ready_joined : AreReady i o tells was.head (gave.parts.items ++ was.parts.items)
    ready_joined = record {
      parts_ready = both_parts (λ part. PartReady o tells part) gave_ready.parts_ready was_ready.parts_ready;
      head_ready = was_ready.head_ready;
      wires_apart = wires_joined;
      head_apart = head_apart_joined was.head refl was_ready.head_apart;
    }
