-- A step of one task that moved keeps a net.
use Rattle.std.proofs.Common.{◌≡◌, ◌≢◌, ◌≤◌, ◌^◌, ◌⊎◌, ℕ, zero, suc, Bool, true, false, if◌then◌else◌, List, [], ◌∷◌, length, map, Option, Some, refl, sym, ap, ◌∙◌, subst, inl, inr}
use Rattle.std.specs.Prelude.{slice_get}
use Rattle.flow_model.specs.Item.{Item, Ev, Eos}
use Rattle.flow_model.specs.Call.{Call, Feed, feeds}
use Rattle.lane_core.specs.Lane.{Lane}
use Rattle.lane_core.specs.declared.ends.Inlet as inlets
use Rattle.lane_core.specs.declared.ends.Outlet as outlets
use Rattle.flow_model.specs.Moment.{Moment}
use Rattle.flow_model.specs.Split.{NoneAt}
use Rattle.flow_model.specs.SinkPads.{push_calls}
use Rattle.flow_model.specs.Step.{Leads, Leaves, Sends, crossed, fed, passed}
use Rattle.flow_model.specs.declared.element.TaskElement as elements
use Rattle.flow_model.specs.declared.source.TaskSource as sources
use Rattle.inlet_row.specs.declared.row.InletRow.{InletRow}
use Rattle.inlet_row.specs.Row.{row_holds}
use Rattle.task_pads.specs.declared.pad.Pad.{Pad}
use Rattle.task_pads.specs.declared.pad.Behind.{Behind}
use Rattle.task_pads.specs.declared.pad.Behind.TheVariants as behinds
use Rattle.task_pads.specs.Behind.{Goes, LaneEnd, end_in, goes, inside, lane_end}
use Rattle.task_pads.specs.Pads.{end_of, goes_of, number_of}
use Rattle.task_parts.specs.declared.head.Head.{Head}
use Rattle.task_parts.specs.declared.step.Step.TheVariants.{Moved}
use Rattle.task_parts.specs.Shape.{has_number, part_shape}
use Rattle.net_task.specs.declared.task.Task.{Task}
use Rattle.net_task.specs.Frame.{Room, TaskFrame, Wire, IsWire, of_part, of_head, frame_of, room_in, wire_of}
use Rattle.net_task.specs.Moves.{Act, Advances, Answers, GoesFirst, HandsOn, LanesBy, Move, PutInto, RowsStay, Steps, Unlawful, flush_given, flush_taken, giving, gives, leaves, leaving, passes, passing, sending, sends, takes, taking}
use Rattle.net_task.specs.Ready.{EndsWith, IsReady}
use Rattle.net_task.specs.Reasons.{IsFirst, of_part as first_part, of_head as first_head}
use Rattle.net_task.specs.Ties.{LeadsAs, PadLinked, Ties}
use Rattle.net_turns.specs.Net.{HasRow, ListAt, NetGoes, NetStands, Owns, SendsInto}
use Rattle.net_turns.proofs.Owners.{IsPadOf, closed_pad, number_has, pad_wire}
use Rattle.net_turns.proofs.Others.{moved_to, tied_still}
use Rattle.net_turns.proofs.Crossed.{gave_goes, left_goes, passed_goes}
use Rattle.net_turns.proofs.Facts.{leads_nowhere, leads_once, no_own_lane, row_owned, sends_leads, wire_owned}
use Rattle.net_turns.proofs.Keeping.{lane_out, owed_calm}
use Rattle.net_turns.proofs.Laid.{sent_goes}
use Rattle.net_turns.proofs.Taken.{TookRow, row_calm, taken_goes, took_goes, took_row}
use Rattle.net_turns.proofs.Wired.{HeadsGo, IsOther, stays_goes}

-- An item stands in each inlet.
unfoldable pub marked : List (List Call) → List (List Call)
marked [] = []
marked (cs ∷ css) = (Feed (Ev Eos) ∷ []) ∷ marked css

none_marked : (k : ℕ) (css : List (List Call)) (calls : List Call) → ListAt k css calls → NoneAt k (marked css) → ⊥
unfolding marked
none_marked k [] calls h none = h
none_marked zero (cs ∷ css) calls h none = absurd cc
none_marked (suc k) (cs ∷ css) calls h none = none_marked k css calls h none

-- What a step does to a moment, with the pad at which it was.
pub data Comes {S E I O L : Type 0} {s : sources.Ghosts S} {e : elements.Ghosts E} {i : inlets.Ghosts I L O} {o : outlets.Ghosts O L} (tells tells' : Option (List Lane)) (before after : Task S E I O L s e i o) (m : Moment) : Type 0 where
  inward : (p : ℕ) (x : Item) (rest : List Item) (n port : ℕ) (out : ℕ → List Item) (wire : Wire) → HandsOn m p x rest n port → Answers m n port x out
      → IsWire (frame_of before) wire → wire.number ≡ p
      → wire.leads ≡ inside n port → RowsStay before.head after.head → tells' ≡ tells → Ties after (passed p x rest n port out m) → Comes tells tells' before after m
  onward : (p : ℕ) (x : Item) (rest : List Item) (n port : ℕ) → Sends m p x rest n port → PutInto (frame_of before) p x tells tells'
      → RowsStay before.head after.head → Ties after (crossed p x rest m)
      → Comes tells tells' before after m
  nowhere_on : (p : ℕ) (x : Item) (rest : List Item) (wire : Wire) → Leaves m p x rest → IsWire (frame_of before) wire → wire.number ≡ p
      → RowsStay before.head after.head → tells' ≡ tells → Ties after (crossed p x rest m)
      → Comes tells tells' before after m
  from_row : (n port : ℕ) (x : Item) (out : ℕ → List Item) → Answers m n port x out → TookRow i before.head after.head n port x tells tells'
      → Ties after (fed n (push_calls port (Feed x ∷ []) (m.took n)) out m)
      → Comes tells tells' before after m
  from_source : RowsStay before.head after.head → tells' ≡ tells → Ties after m → Comes tells tells' before after m

module _ {S E I O L : Type 0} {s : sources.Ghosts S} {e : elements.Ghosts E} {i : inlets.Ghosts I L O} {o : outlets.Ghosts O L} where
  -- a step of a lawful net gives up no FLUSH_STOP
  pub net_lawful : (m : Moment) (tasks : List (Task S E I O L s e i o)) (tells tells' : Option (List Lane)) (place : ℕ) (before : Task S E I O L s e i o) (head' : Head S I O s)
      → NetStands m tasks tells
      → slice_get tasks place ≡ Some before → Unlawful i tells tells' m before.head head' → ⊥
  net_lawful m tasks tells tells' place before head' net at (flush_given p front x rest e f) = absurd (let calm = owed_calm m tasks tells net p front x rest e in cc)
  net_lawful m tasks tells tells' place before head' net at (flush_taken n port x took f) =
      absurd (let calm = row_calm m tasks tells tells' net place before at before.head head' refl n port x (took_row i before.head head' n port x tells tells' took) in cc)

  module _ (counts : (outlet : O) (was : List Item) → o.sent outlet was → length was ≡ o.count outlet) (bounded : (outlet : O) → o.count outlet ≤ 2 ^ 62) (m : Moment) (tasks tasks' : List (Task S E I O L s e i o))
      (tells tells' : Option (List Lane)) (place : ℕ) (before after : Task S E I O L s e i o) (net : NetStands m tasks tells) (at : slice_get tasks place ≡ Some before)
      (others : (k : ℕ) → k ≢ place → slice_get tasks' k ≡ slice_get tasks k) (at_after : slice_get tasks' place ≡ Some after) (ready : IsReady tells' after) (frame : frame_of after ≡ frame_of before) where
    other_by : HeadsGo i before.head after.head → IsOther tasks tasks' place before after
    other_by head = record { at = at; others = others; at_after = at_after; frame = frame; head = head }

    comes_goes : Comes tells tells' before after m → NetGoes m tasks' tells'
    comes_goes (inward p x rest n port out wire hands answers is number leads stay table tied) =
        passed_goes m tasks tasks' tells tells' net place before after (other_by (stays_goes i before.head after.head stay)) ready table stay p x rest n port out hands answers wire is number leads tied
    comes_goes (onward p x rest n port send put stay tied) =
        sent_goes counts bounded m tasks tasks' tells tells' net place before after (other_by (stays_goes i before.head after.head stay)) ready stay p x rest n port send put tied
    comes_goes (nowhere_on p x rest wire leave is number stay table tied) =
        left_goes m tasks tasks' tells tells' net place before after (other_by (stays_goes i before.head after.head stay)) ready table stay p x rest leave wire is number tied
    comes_goes (from_row n port x out answers took tied) =
        taken_goes m tasks tasks' tells tells' net place before after (other_by (took_goes i before.head after.head n port x tells tells' took)) ready n port x out answers took tied
    comes_goes (from_source stay table tied) = gave_goes m tasks tasks' tells tells' net place before after (other_by (stays_goes i before.head after.head stay)) ready table stay tied

    -- where a pad leads that leads to a sink pad: inside the task, or over a lane
    pad_way : (b : Behind O) (q n port : ℕ) → LeadsAs m q (goes b) → Leads m.plan q n port → (goes b ≡ inside n port) ⊎ ((end : LaneEnd) × (end_in o b ≡ Some end))
    pad_way behinds.Nothing q n port h leads = absurd (leads_nowhere m.plan q n port leads h)
    pad_way (behinds.Element a hint b) q n port h leads = let once = leads_once m.plan q a b n port h.0 leads in inl (ap (λ (d : ℕ). inside d b) once.0 ∙ ap (λ (d : ℕ). inside n d) once.1)
    pad_way (behinds.Lane lane a b from outlet) q n port h leads = inr (lane_end o outlet, refl)

    pub wire_way : (wire : Wire) (p n port : ℕ) → IsWire (frame_of before) wire → wire.number ≡ p → Leads m.plan p n port
        → (wire.leads ≡ inside n port) ⊎ ((room : Room) × (wire.room ≡ Some room) × (from : ℕ) × SendsInto tasks place p room.place from n port)
    wire_way wire p n port is number leads = go (pad_way w.0.behind (number_of w.0) n port w.3.leads (subst (λ (q : ℕ). Leads m.plan q n port) (sym same) leads))
      where
        w : (pad : Pad O) × IsPadOf before.head before.parts.items pad × (wire ≡ wire_of o pad) × PadLinked o m pad × Owns tasks place (m.plan.owner wire.number)
        w = wire_owned m tasks tells net place before wire at is

        same : number_of w.0 ≡ p
        same = sym (ap (λ (one : Wire). one.number) w.2) ∙ number

        go : (goes_of w.0 ≡ inside n port) ⊎ ((end : LaneEnd) × (end_of o w.0 ≡ Some end))
            → (wire.leads ≡ inside n port) ⊎ ((room : Room) × (wire.room ≡ Some room) × (from : ℕ) × SendsInto tasks place p room.place from n port)
        go (inl leads_in) = inl (ap (λ (one : Wire). one.leads) w.2 ∙ leads_in)
        go (inr end) =
            let out = lane_out before w.0 w.1 end.0 end.1 in
            let into : SendsInto tasks place p end.0.place out.from out.n out.port =
            subst (λ (q : ℕ). SendsInto tasks place q end.0.place out.from out.n out.port) same record { task = before; at = at; out = out.out } in
            let once = leads_once m.plan p out.n out.port n port (sends_leads m tasks tells net place p end.0.place out.from out.n out.port into) leads in
            inr (
              record { place = end.0.place; limits = end.0.limits },
              ap (λ (one : Wire). one.room) w.2 ∙ ap room_in end.1,
              out.from,
              subst (λ (a : ℕ). SendsInto tasks place p end.0.place out.from a port) once.0 (subst (λ (a : ℕ). SendsInto tasks place p end.0.place out.from out.n a) once.1 into),
            )

    -- nothing stands where a pad of the task leads inside
    wire_inner : (wire : Wire) (n port : ℕ) → IsWire (frame_of before) wire → wire.leads ≡ inside n port → NoneAt port (m.held n)
    wire_inner wire n port is leads =
        let w = wire_owned m tasks tells net place before wire at is in
        (subst (λ (g : Goes). LeadsAs m (number_of w.0) g) (sym (ap (λ (one : Wire). one.leads) w.2) ∙ leads) w.3.leads).1

    -- the task stays tied to the moment with what stands in the inlets
    held_back : (history : ℕ → List Item) (took held : ℕ → List (List Call)) (waits : ℕ → List Item) → Ties after (moved_to m history took held waits)
        → Ties after (moved_to m history took m.held waits)
    held_back history took held waits tied =
        tied_still i o (moved_to m history took held waits) history took m.held waits after.head after.parts.items (λ q has. refl) (λ q has. refl) (λ a has. refl)
        (λ pad a b is leads none. wire_inner (wire_of o pad) a b (subst (λ (f : TaskFrame). IsWire f (wire_of o pad)) frame (pad_wire o after.head after.parts.items pad is)) leads) after.closed tied

    first_wire : (m1 : Moment) (p : ℕ) → IsFirst tells m1 (frame_of before) p → (wire : Wire) × IsWire (frame_of before) wire × (wire.number ≡ p)
    first_wire m1 p (first_part j k wire w number ports parts) = (wire, of_part j k w, number)
    first_wire m1 p (first_head wire w number parts) = (wire, of_head w, number)

    -- An item that passed on to an element did so inside the task. Of the inlets the step was told so much.
    abbrev Inward : (ℕ → List (List Call)) → Act → Type 0
    Inward held (passing p) = (n port : ℕ) → Leads m.plan p n port → NoneAt port (held n) → (wire : Wire) → IsWire (frame_of before) wire → wire.number ≡ p → wire.leads ≡ inside n port
    Inward held (sending p x) = Unit {0}
    Inward held (leaving p) = Unit {0}
    Inward held (taking n port x) = Unit {0}
    Inward held giving = Unit {0}

    act_comes : (held : ℕ → List (List Call)) (act : Act) (next : Moment) → Move (record m { held = held }) act next → LanesBy i (frame_of before) before.head after.head tells tells' act
        → GoesFirst i tells (record m { held = held }) (frame_of before) before.head act → Inward held act → Ties after next → Comes tells tells' before after m
    act_comes held act next (passes p x rest n port out hands answers) lanes first inner tied =
        let w = first_wire (record m { held = held }) p first in
        let leads = inner n port hands.leads hands.inner w.0 w.1 w.2 in
        inward p x rest n port out w.0 record { waited = hands.waited; leads = hands.leads; inner = wire_inner w.0 n port w.1 leads } answers w.1 w.2 leads lanes.0 lanes.1
        (held_back (passed p x rest n port out m).history (passed p x rest n port out m).took held (passed p x rest n port out m).waits tied)
    act_comes held act next (sends p x rest n port send) lanes first inner tied =
        onward p x rest n port record { waited = send.waited; leads = send.leads } lanes.1 lanes.0 (held_back (crossed p x rest m).history m.took held (crossed p x rest m).waits tied)
    act_comes held act next (leaves p x rest leave) lanes first inner tied =
        let w = first_wire (record m { held = held }) p first in
        nowhere_on p x rest w.0 record { waited = leave.waited; leads = leave.leads } w.1 w.2 lanes.0 lanes.1 (held_back (crossed p x rest m).history m.took held (crossed p x rest m).waits tied)
    act_comes held act next (takes n port x out answers) lanes first inner tied =
        from_row n port x out answers (took_row i before.head after.head n port x tells tells' lanes)
        (held_back m.history (fed n (push_calls port (Feed x ∷ []) (m.took n)) out m).took held (fed n (push_calls port (Feed x ∷ []) (m.took n)) out m).waits tied)
    act_comes held act next gives lanes first inner tied = from_source lanes.0 lanes.1 (held_back m.history m.took held m.waits tied)

    -- The moment, but that something stands in each inlet of an element of another task. The task is tied to it too; there it
    -- can hand no item on to an element of another task but over a lane.
    abbrev held_marked : ℕ → List (List Call)
    held_marked a = if has_number a (map part_shape before.parts.items) then m.held a else marked (m.held a)

    tied_marked : Ties before (record m { held = held_marked })
    tied_marked =
        tied_still i o m m.history m.took held_marked m.waits before.head before.parts.items (λ q has. refl) (λ q has. refl) (λ a has. refl)
        (λ pad a b is leads none.
        subst (λ (own : Bool). NoneAt b (if own then m.held a else marked (m.held a))) (sym (closed_pad before.head before.parts.items before.closed pad is a b leads)) none) before.closed (net.tied place before at)

    no_lane : (p n port : ℕ) (room : Room) (from : ℕ) → SendsInto tasks place p room.place from n port → NoneAt port (held_marked n) → ⊥
    no_lane p n port room from into none =
        let pair = net.wired.paired place p room.place from n port into in
        go pair.0 pair.1 pair.2 pair.3 (has_number n (map part_shape before.parts.items)) refl none
      where
        go : (r : ℕ) (row : InletRow I) → HasRow tasks r n port row → EndsWith i row room.place → (own : Bool) → has_number n (map part_shape before.parts.items) ≡ own
            → NoneAt port (if own then m.held n else marked (m.held n)) → ⊥
        go r row has ends true is none =
            no_own_lane m tasks tells net place r p room.place from n port n port row into has ends
            (net.wired.once place r n record { task = before; at = at; has = number_has o before.head before.parts.items n is } (row_owned tasks r n port row has))
        go r row has ends false is none = none_marked port (m.held n) (feeds (row_holds i net.table row)) (net.rows r n port row has).holds none

    marked_inward : (act : Act) → Inward held_marked act
    marked_inward (passing p) = λ n port leads none wire is number. go n port none wire (wire_way wire p n port is number leads)
      where
        go : (n port : ℕ) → NoneAt port (held_marked n) → (wire : Wire)
            → (wire.leads ≡ inside n port) ⊎ ((room : Room) × (wire.room ≡ Some room) × (from : ℕ) × SendsInto tasks place p room.place from n port)
            → wire.leads ≡ inside n port
        go n port none wire (inl leads) = leads
        go n port none wire (inr way) = absurd (no_lane p n port way.0 way.2 way.3 none)
    marked_inward (sending p x) = tt
    marked_inward (leaving p) = tt
    marked_inward (taking n port x) = tt
    marked_inward giving = tt

    unlawful_back : (held : ℕ → List (List Call)) → Unlawful i tells tells' (record m { held = held }) before.head after.head → Unlawful i tells tells' m before.head after.head
    unlawful_back held (flush_given p front x rest e f) = flush_given p front x rest e f
    unlawful_back held (flush_taken n port x took f) = flush_taken n port x took f

    -- where a step of the task moved, as it does at each moment to which the task is tied, the net goes on
    pub net_step : ((when : Moment) → Ties before when → Steps tells tells' before after when Moved) → NetGoes m tasks' tells'
    net_step steps = go (steps (record m { held = held_marked }) tied_marked)
      where
        go : Advances i o tells tells' (frame_of before) (record m { held = held_marked }) before.head after.head after.parts.items ⊎ Unlawful i tells tells' (record m { held = held_marked }) before.head after.head
            → NetGoes m tasks' tells'
        go (inl moved) = comes_goes (act_comes held_marked moved.act moved.next moved.move moved.lanes moved.first (marked_inward moved.act) moved.tied)
        go (inr bad) = absurd (net_lawful m tasks tells tells' place before after.head net at (unlawful_back held_marked bad))
