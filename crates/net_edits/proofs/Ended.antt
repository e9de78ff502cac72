-- A net stands and is ready where the link of a pad over a lane was undone with EOS.
use Rattle.std.proofs.Common.{◌≡◌, ◌⊎◌, ℕ, zero, suc, Bool, true, false, eqb, if◌then◌else◌, List, [], ◌∷◌, length, map, Option, Some, refl, sym, ap, ◌∙◌, subst, inl, inr}
use Rattle.std.specs.Prelude.{slice_get, slice_set}
use Rattle.std.proofs.lemmas.Bool.Decides.{eqb_tells}
use Rattle.flow_model.specs.Call.{Feed}
use Rattle.flow_model.specs.Item.{Ev, Eos, Item}
use Rattle.flow_model.specs.Link.{Span, Linked, WasLinked, Flushed, Given}
use Rattle.gst_value.proofs.Basics.{some_same}
use Rattle.gst_value.proofs.Places.{set_at}
use Rattle.inlet_row.specs.declared.row.InletRow.{InletRow}
use Rattle.lane_core.specs.Lane.{Lane}
use Rattle.lane_core.specs.declared.ends.Inlet as inlets
use Rattle.lane_core.specs.declared.ends.Outlet as outlets
use Rattle.flow_model.specs.Edit.{IsFree, ended_over, undo, undone}
use Rattle.flow_model.specs.Moment.{Moment}
use Rattle.flow_model.specs.Standing.{AllStanding, LinksAt, Standing, is_linked, links_from}
use Rattle.flow_model.specs.Step.{Leads, planned}
use Rattle.flow_model.proofs.Acts.{ending_over_keeps}
use Rattle.flow_model.specs.declared.element.TaskElement as elements
use Rattle.flow_model.specs.declared.source.TaskSource as sources
use Rattle.task_pads.proofs.Lists.{set_there}
use Rattle.task_pads.specs.Behind.{end_in, goes}
use Rattle.task_pads.specs.declared.pad.Behind.{Behind}
use Rattle.task_pads.specs.declared.pad.Behind.TheVariants.{Nothing}
use Rattle.task_parts.specs.declared.head.Head.{Head}
use Rattle.task_parts.specs.declared.head.Head.TheVariants.{Source, Inlets}
use Rattle.net_task.specs.declared.task.Task.{Task}
use Rattle.net_task.specs.Frame.{IsWire, Room, frame_of, room_in, wire_of}
use Rattle.net_task.specs.Ready.{EndsWith, HeadApart, LeadsInto, RowsApart}
use Rattle.net_turns.specs.Net.{HasRow, NetReady, NetStands, SendsInto}
use Rattle.net_turns.proofs.Facts.{row_once, sends_leads}
use Rattle.task_edits.specs.Changes.{Changed, LedBy}
use Rattle.task_edits.specs.Inside.{IsPadOf}
use Rattle.task_edits.specs.Places.{HasPad}
use Rattle.task_edits.proofs.Absent.{has_not}
use Rattle.task_edits.proofs.Insides.{has_pad_of}
use Rattle.task_edits.proofs.Wiring.{pad_wire}
use Rattle.net_edits.specs.Ending.{IsEndedOver, StandEndedOver}
use Rattle.net_edits.specs.Nets.{IsUnlinkedAt, TaskHas}
use Rattle.net_edits.specs.Over.{IsGrownAt, eos_given}
use Rattle.net_edits.proofs.Acts.{unlinked_alike, unlinked_laid, unlinked_ready}
use Rattle.net_edits.proofs.Laying.{Laid, laid_of, net_of}
use Rattle.net_edits.proofs.NetGrown.{AreFresh, EndsStay, element_grown, found, laid_grown, net_grown, row_before}
use Rattle.net_edits.proofs.Parted.{ends_once, none_into, not_last, over_room, pad_is_wire}
use Rattle.net_edits.proofs.Pushed.{feeds_more, free_alone}
use Rattle.net_edits.proofs.Pushing.{lays_pushed, pushed}
use Rattle.net_edits.proofs.Restands.{sends_back}
use Rattle.net_edits.proofs.TiesGrown.{held_at}

-- two places of a list are set, in either order
set_swap : {A : Type 0} (xs : List A) (j k : ℕ) (x y : A) → (j ≡ k → ⊥) → slice_set (slice_set xs j x) k y ≡ slice_set (slice_set xs k y) j x
set_swap [] j k x y other = refl
set_swap (z ∷ zs) zero zero x y other = absurd (other refl)
set_swap (z ∷ zs) zero (suc k) x y other = refl
set_swap (z ∷ zs) (suc j) zero x y other = refl
set_swap {A = A} (z ∷ zs) (suc j) (suc k) x y other = ap (λ (ws : List A). z ∷ ws) (set_swap zs j k x y (λ same. other (ap suc same)))

-- A sink pad whose link is undone is free.
undo_alone : (h : ℕ → List Item) (p place : ℕ) (eos : Bool) (ss : List Span) → Standing h ss → links_from p ss ≡ true → is_linked (map (undo p place eos) ss) ≡ false
undo_alone h p place eos [] stands links = absurd cc
undo_alone h p place eos (Linked source from marks ∷ ss) stands links =
    go (eqb_tells source p) (subst (λ (rest : List Span). (if eqb source p then true else links_from p rest) ≡ true) stands.2 links)
    (ap (λ (rest : List Span). is_linked (map (undo p place eos) rest)) stands.2)
  where
    go : ((eqb source p ≡ true) × (source ≡ p)) ⊎ ((eqb source p ≡ false) × (source ≡ p → ⊥)) → (if eqb source p then true else false) ≡ true → is_linked (map (undo p place eos) ss) ≡ false
        → is_linked ((if eqb source p then WasLinked source from place eos marks else Linked source from marks) ∷ map (undo p place eos) ss) ≡ false
    go (inl t) links none = rw t.0 none
    go (inr t) links none = absurd (let clash : false ≡ true = sym (ap (λ (b : Bool). if b then true else false) t.0) ∙ links in cc)
undo_alone h p place eos (WasLinked source from to ended marks ∷ ss) stands links = undo_alone h p place eos ss stands.2 links
undo_alone h p place eos (Flushed number ∷ ss) stands links = undo_alone h p place eos ss stands links
undo_alone h p place eos (Given calls ∷ ss) stands links = undo_alone h p place eos ss stands links

pub undo_frees : (h : ℕ → List Item) (p place : ℕ) (eos : Bool) (k : ℕ) (sss : List (List Span)) → AllStanding h sss → LinksAt p k sss → IsFree k (map (map (undo p place eos)) sss)
undo_frees h p place eos k [] stands links = absurd links
undo_frees h p place eos zero (ss ∷ sss) stands links = undo_alone h p place eos ss stands.0 links.0
undo_frees h p place eos (suc k) (ss ∷ sss) stands links = undo_frees h p place eos k sss stands.1 links.1

module _ {S E I O L : Type 0} {s : sources.Ghosts S} {e : elements.Ghosts E} {i : inlets.Ghosts I L O} {o : outlets.Ghosts O L} (tasks tasks' : List (Task S E I O L s e i o)) (pad : ℕ) (l : IsEndedOver tasks tasks' pad) (tells : Option (List Lane)) (n : NetReady tasks tells) where
  abbrev element : ℕ
  element = l.to.element

  abbrev port : ℕ
  port = l.to.pad

  abbrev row : InletRow I
  row = l.grown.grew.grew.row

  -- the lane over which the pad leads
  room : (at : Room) × (room_in (end_in o l.over.leads.pad.behind) ≡ Some at)
  room = over_room o l.over.leads.pad.behind l.over.leads.leads.0 element port l.over.leads.leads.1 l.over.leads.leads.2

  abbrev place : ℕ
  place = room.0.place

  into : LeadsInto (wire_of o l.over.leads.pad) place
  into = record { room = room.0; room_is = room.1; place_is = refl }

  sends : SendsInto tasks l.sender pad place l.over.leads.leads.1 element port
  sends = record {
    task = l.over.task;
    at = l.over.at;
    out = record {
      wire = wire_of o l.over.leads.pad;
      is = pad_is_wire o l.over.task.head l.over.task.parts.items l.over.leads.pad l.over.leads.is;
      number = l.over.leads.number_is;
      lane = l.over.leads.leads.0;
      leads = l.over.leads.leads.2;
      into = into;
    };
  }

  element_is : l.grown.grew.old.number ≡ element
  element_is = element_grown tasks l.between l.receiver port eos_given l.grown element l.feeds.0 l.feeds.1

  -- that lane stood last in the row
  ends : EndsWith i row place
  ends =
      let z = n.wired.paired l.sender pad place l.over.leads.leads.1 element port sends in
      let has : HasRow tasks l.receiver element port row = subst (λ (a : ℕ). HasRow tasks l.receiver a port row) element_is (row_before tasks l.between l.receiver port eos_given l.grown) in
      subst (λ (one : InletRow I). EndsWith i one place) (row_once tasks n.wired z.0 l.receiver element port z.1 row z.2 has) z.3

  -- the pad and the row are of two tasks
  other : l.sender ≡ l.receiver → ⊥
  other same = go l.over.leads.is
    where
      head_is : l.over.task.head ≡ Inlets l.grown.grew.old
      head_is = ap (λ (t : Task S E I O L s e i o). t.head) (some_same (sym l.over.at ∙ (ap (λ (k : ℕ). slice_get tasks k) same ∙ l.grown.at))) ∙ l.grown.grew.was_fed

      apart : RowsApart i (frame_of l.over.task) l.grown.grew.old
      apart = subst (λ (h : Head S I O s). HeadApart i (frame_of l.over.task) h) head_is (n.ready l.sender l.over.task l.over.at).head_apart

      go : IsPadOf l.over.task.head l.over.task.parts.items l.over.leads.pad → ⊥
      go (IsPadOf.of_source source is pad_is) = let clash : Source source ≡ Inlets l.grown.grew.old = sym is ∙ head_is in cc
      go (IsPadOf.of_part j k part at pad_at) =
          not_last i row place ends
          (apart.pads j k place (wire_of o l.over.leads.pad) (pad_wire o l.over.task.head l.over.task.parts.items j k l.over.leads.pad (record { part = part; at = at; pad_at = pad_at })) into port row l.grown.grew.grew.at)

  was_at : slice_get tasks l.sender ≡ Some l.undone.was
  was_at = go (found tasks l.between l.receiver port eos_given l.grown l.sender l.undone.was l.undone.at)
    where
      go : ((l.sender ≡ l.receiver) × (l.undone.was ≡ l.grown.is)) ⊎ ((l.sender ≡ l.receiver → ⊥) × (slice_get tasks l.sender ≡ Some l.undone.was)) → slice_get tasks l.sender ≡ Some l.undone.was
      go (inl t) = absurd (other t.0)
      go (inr t) = t.1

  -- The tasks with the link undone, and without EOS: they make what was made where the link is undone first.
  abbrev mid : List (Task S E I O L s e i o)
  mid = slice_set tasks l.sender l.undone.is

  abbrev apart : IsUnlinkedAt tasks mid l.sender pad l.back
  apart = record { was = l.undone.was; is = l.undone.is; at = was_at; set = refl; changed = l.undone.changed; ties = l.undone.ties; ready = l.undone.ready; moves = l.undone.moves }

  abbrev grown : IsGrownAt mid tasks' l.receiver port eos_given
  grown = record {
    was = l.grown.was;
    is = l.grown.is;
    at = set_there tasks l.sender l.receiver l.undone.is (λ same. other (sym same)) ∙ l.grown.at;
    set = l.undone.set ∙ (ap (λ (ts : List (Task S E I O L s e i o)). slice_set ts l.sender l.undone.is) l.grown.set ∙ set_swap tasks l.receiver l.sender l.grown.is l.undone.is (λ same. other (sym same)));
    grew = l.grown.grew;
  }

  -- the task has the pad
  abbrev has : TaskHas tasks pad l.sender
  has = record { task = l.over.task; at = l.over.at; has = has_pad_of l.over.task.head l.over.task.parts.items l.over.leads.pad pad l.over.leads.is l.over.leads.number_is }

  -- no pad leads into the lane any more
  gone : (k q from a b : ℕ) → SendsInto mid k q place from a b → ⊥
  gone k q from a b x =
      let before = sends_back tasks l.sender l.undone.was l.undone.is was_at (unlinked_alike tasks mid l.sender pad l.back apart) k q place from a b x in
      let same = n.wired.one_sends k l.sender q pad place from l.over.leads.leads.1 a element b port before sends in
      let task_is : x.task ≡ l.undone.is = some_same (sym x.at ∙ (ap (λ (j : ℕ). slice_get mid j) same.0 ∙ set_at tasks l.sender l.undone.was l.undone.is was_at)) in
      go task_is l.undone.changed
    where
      was_is : l.over.task ≡ l.undone.was
      was_is = some_same (sym l.over.at ∙ was_at)

      go : x.task ≡ l.undone.is → Changed (LedBy Nothing l.back) (l.back ≡ Nothing) pad l.undone.was.head l.undone.was.parts.items l.undone.is.head l.undone.is.parts.items → ⊥
      go task_is (inl (was, is, number, by, changed)) =
          let led : LeadsInto (wire_of o was) place = record { room = room.0; room_is = ap (λ (behind : Behind O). room_in (end_in o behind)) (sym by.1 ∙ l.led) ∙ room.1; place_is = refl } in
          none_into o l.undone.was.head l.undone.is.head l.undone.was.parts.items l.undone.is.parts.items was is changed (ap (λ (behind : Behind O). goes behind) by.0.leads) place led (n.ready l.sender l.undone.was was_at).wires_apart
          x.out.wire (subst (λ (t : Task S E I O L s e i o). IsWire (frame_of t) x.out.wire) task_is x.out.is) x.out.lane a b from x.out.leads x.out.into
      go task_is (inr (none, h, q, k)) = has_not l.undone.was.head l.undone.was.parts.items pad (subst (λ (t : Task S E I O L s e i o). HasPad t.head t.parts.items pad) was_is has.has) none

  stay : EndsStay mid tasks' l.receiver port eos_given grown
  stay k q at from x end = absurd (gone k q from l.grown.grew.old.number port (subst (λ (a : ℕ). SendsInto mid k q a from l.grown.grew.old.number port) (ends_once i row at place end ends) x))

  fresh : AreFresh tells mid eos_given
  fresh = record { unused = tt; within = tt; apart = tt }

  -- The tasks are ready.
  pub ended_ready : NetReady tasks' tells
  ended_ready = net_grown mid tasks' l.receiver port eos_given grown tells fresh stay (unlinked_ready tasks mid l.sender pad l.back apart tells n)

  module _ (m : Moment) (net : NetStands m tasks tells) where
    abbrev after : Moment
    after = planned (undone pad (length (m.history pad)) true m.plan) m

    leads : Leads m.plan pad element port
    leads = sends_leads m tasks tells net l.sender pad place l.over.leads.leads.1 element port sends

    free : (p : ℕ) → Leads after.plan p element port → ⊥
    free p there = free_alone p port (after.plan.sinks element) (undo_frees m.history pad (length (m.history pad)) true port (m.plan.sinks element) (net.cells element).standing leads.here) there.here

    laid : Laid (held_at (pushed element port (Feed (Ev Eos) ∷ []) after) after) tasks' tells net.table net.sents
    laid =
        laid_grown mid tasks' l.receiver port eos_given grown after (pushed element port (Feed (Ev Eos) ∷ []) after) tells net.table net.sents net.sents fresh stay (λ a far. refl) tt
        (lays_pushed mid tasks' l.receiver port eos_given grown after element (Feed (Ev Eos) ∷ []) element_is refl free) feeds_more
        (unlinked_laid tasks mid l.sender pad l.back true has apart m tells net.table net.sents (laid_of m tasks tells net))

    stands : StandEndedOver m tasks' tells pad
    stands = record {
      to = l.to;
      leads = leads;
      stands = net_of (ended_over pad element port m) tasks' tells net.table net.sents laid (record { uncut = net.plain.uncut; calm = net.plain.calm; closed = net.plain.closed }) (λ a. ending_over_keeps m pad element port leads a (net.cells a));
    }

module _ {S E I O L : Type 0} {s : sources.Ghosts S} {e : elements.Ghosts E} {i : inlets.Ghosts I L O} {o : outlets.Ghosts O L} (tasks tasks' : List (Task S E I O L s e i o)) (pad : ℕ) (l : IsEndedOver tasks tasks' pad) where
  -- The tasks stand.
  pub ended_stands : (m : Moment) (tells : Option (List Lane)) → NetStands m tasks tells → StandEndedOver m tasks' tells pad
  ended_stands m tells net =
      stands tasks tasks' pad l tells (record { wired = net.wired; ready = net.ready }) m net
