-- What a try of a pad of an element does to a task, whatever came of it.
use Rattle.std.proofs.Common.{◌≡◌, ◌≤◌, ◌⊎◌, ◌++◌, ◌||◌, ℕ, zero, suc, Bool, true, false, List, [], ◌∷◌, length, drop, map, Some, Option, refl, sym, ap, ◌∙◌, subst, inl, inr, arith}
use Rattle.std.specs.Prelude.{slice_get, sum_by, ◌+◌, ◌≢◌, None, Result, Ok, Err}
use Rattle.inlet_row.specs.declared.feeding.Feeding.{Feeding}
use Rattle.inlet_row.specs.declared.feeding.Feeding.TheVariants.{Given, Lane as OfLane}
use Rattle.inlet_row.specs.Row.{ForLanes, feeds_of}
use Rattle.std.proofs.lemmas.Bool.{cases_eq}
use Rattle.std.proofs.lemmas.List.{length-drop}
use Rattle.flow_model.specs.Item.{Item}
use Rattle.lane_core.specs.Lane.{IsIn, Lane}
use Rattle.lane_core.specs.declared.ends.Inlet as inlets
use Rattle.lane_core.specs.declared.ends.Outlet as outlets
use Rattle.flow_model.specs.Moment.{Moment}
use Rattle.flow_model.specs.Step.{LeadsNowhere, crossed}
use Rattle.flow_model.specs.declared.element.TaskElement as elements
use Rattle.flow_model.specs.declared.source.TaskSource as sources
use Rattle.flow_model.specs.declared.refusal.Refusal.{Refusal}
use Rattle.flow_model.specs.Takes.{on_port}
use Rattle.pad_core.specs.SrcPad.{CrossedBy, crossed_of}
use Rattle.task_pads.specs.declared.pad.Pad.{Pad}
use Rattle.task_pads.specs.declared.pad.Behind.{Behind}
use Rattle.task_pads.specs.declared.pad.Behind.TheVariants as behinds
use Rattle.task_pads.specs.declared.crossing.Crossing.{Crossing}
use Rattle.task_pads.specs.declared.crossing.Crossing.TheVariants.{Idle, To, Gone, Full, AtProbe, NotLinked, BehindEos, AtLimit, OutOfMemory}
use Rattle.task_pads.specs.Behind.{EndReady, Goes, LaneEnd, nowhere, inside, over, SentIn, goes, leads_on, count_in, end_in, place_in}
use Rattle.task_pads.specs.Pads.{HasCrossed, KeepsTable, PadReady, SentOver, Seen, end_of, seen, number_of, goes_of, crossed_count, rest_of, waiting_of}
use Rattle.task_pads.specs.Crossing.{IsCrossing}
use Rattle.task_parts.specs.declared.part.Part.{Part}
use Rattle.task_parts.specs.declared.head.Head.{Head}
use Rattle.task_parts.specs.declared.head.Head.TheVariants.{Source, Inlets}
use Rattle.task_parts.specs.declared.step.Tried.{Tried}
use Rattle.task_parts.specs.declared.step.Tried.TheVariants as tried
use Rattle.task_parts.specs.declared.step.Step.{Step}
use Rattle.task_parts.specs.declared.step.Step.TheVariants as steps
use Rattle.task_parts.specs.declared.fault.TaskFault.{TaskFault}
use Rattle.task_parts.specs.declared.fault.TaskFault.TheVariants as faults
use Rattle.task_parts.specs.Fault.{refusal_fault}
use Rattle.task_parts.specs.Gathered.{are_linked, linked_else}
use Rattle.task_parts.specs.Shape.{part_shape}
use Rattle.task_parts.specs.Part.{IsSettled, PartReady, waits_at}
use Rattle.net_task.specs.Frame.{IsWire, PartFrame, TaskFrame, Wire, WireAt, frame_in, head_frame, of_part, part_frame, room_in, wire_of}
use Rattle.net_task.specs.Fuel.{head_left, pad_left, part_left}
use Rattle.net_task.specs.Ready.{AreReady, HeadApart, KeepsLanes, HeadReady, PartsReady, WiresApart}
use Rattle.net_task.specs.Reasons.{IsBlocked, PadHolds}
use Rattle.task_parts.specs.Found.{IsAt}
use Rattle.task_parts.specs.Moved.{HandedOn, HandedBack}
use Rattle.task_parts.specs.Passing.{AfterPart, HandsTo, CrossesPart}
use Rattle.net_task.specs.Ties.{LeadsAs, PortTied, AreTied, Stands, nothing_lost}
use Rattle.net_task.specs.Moves.{Act, LanesBy, RowsStay, given_by, passing}
use Rattle.net_task.specs.Failed.{Causes, FailsAs, WasFor, at_limit, at_pad, by_element, full_at, memory, no_memory, not_linked, refused, unlinked}
use Rattle.task_pads.specs.Crossing.{WentAway}
use Rattle.net_task.specs.Tries.{CrossesAt, ElementsStay, IsAtPort, PadFails, SettledAt, Spends, StaysSettled, TableStays, TriedAs, elements_of}
use Rattle.task_parts.proofs.Lists.{each_set}
use Rattle.net_task.proofs.Tied.{parts_set_shape, set_part_shape}
use Rattle.net_task.proofs.Bare.{bare, bare_fell, bare_frames, bare_handed, bare_lefts, bare_pad, bare_ready, bare_set}
use Rattle.net_task.proofs.Held.{came_room, ended_holds, frames_set, full_holds, leads_into, probe_holds, same_wire, wire_at, wire_is, wire_set}
use Rattle.net_task.proofs.Linked.{same_number}
use Rattle.net_task.proofs.Passing.{MovesOn, gone_act, gone_at, gone_given, gone_move, is_set, port_here, tied_here, try_crosses, try_stays, waited_at}
use Rattle.net_task.proofs.Handing.{handed_on}
use Rattle.net_task.proofs.Kept.{kept_set, kept_stays}
use Rattle.net_task.proofs.Refusing.{back_refused, handed_back}
use Rattle.gst_value.proofs.Basics.{some_same}
use Rattle.gst_value.proofs.Places.{map_get, sum_set}

-- what a call of a trait's law gives: the count of an outlet is the length of what was sent
abbrev pub Counts : {O L : Type 0} → outlets.Ghosts O L → Type 0
Counts {O = O} o = (outlet : O) (sent : List Item) → o.sent outlet sent → length sent ≡ o.count outlet

pub ok_same : (r : Result Tried TaskFault) (x y : Tried) → r ≡ Ok x → r ≡ Ok y → x ≡ y
ok_same r x y p q = cc

pub err_same : (r : Result Tried TaskFault) (x y : TaskFault) → r ≡ Err x → r ≡ Err y → x ≡ y
err_same r x y p q = cc

pub not_both : {C : Type 0} (r : Result Tried TaskFault) (x : Tried) (y : TaskFault) → r ≡ Ok x → r ≡ Err y → C
not_both r x y p q = absurd (let k : Ok x ≡ Err y = sym p ∙ q in cc)

-- a pad that is seen as it was
pub seen_crossed : {O : Type 0} (was is : Pad O) → seen is ≡ seen was → (h : List Item) → HasCrossed was h → HasCrossed is h
seen_crossed {O = O} was is q h c = subst (λ (z : Seen O). CrossedBy z.src h) (sym q) c

pub seen_sent : {O L : Type 0} (o : outlets.Ghosts O L) (was is : Pad O) → seen is ≡ seen was → (h : List Item) → SentOver o was h → SentOver o is h
seen_sent {O = O} o was is q h c = subst (λ (z : Seen O). SentIn o z.behind h) (sym q) c

pub seen_waiting : {O : Type 0} (was is : Pad O) → seen is ≡ seen was → waiting_of is ≡ waiting_of was
seen_waiting {O = O} was is q = ap (λ (z : Seen O). z.waiting) q

-- a lane into which as many went as the limit: as many crossed its pad
pub many_crossed : {O L : Type 0} (o : outlets.Ghosts O L) (counts : Counts o) (b : Behind O) (h : List Item) (most : ℕ) → SentIn o b h → 1 ≤ most → most ≤ count_in (end_in o b) → most ≤ length h
many_crossed o counts behinds.Nothing h most s one low = absurd (omega arith)
many_crossed o counts (behinds.Element number hint pad) h most s one low = absurd (omega arith)
many_crossed o counts (behinds.Lane lane element pad from outlet) h most s one low =
    let c = counts outlet (drop from h) s.1 in
    let d = length-drop from h in
    omega (arith, c, d, low)

-- a pad that does not lead on leads nowhere
pub leads_off : {O : Type 0} (b : Behind O) → leads_on b ≡ false → goes b ≡ nowhere
leads_off behinds.Nothing q = refl
leads_off (behinds.Element number hint pad) q = absurd cc
leads_off (behinds.Lane lane element pad from outlet) q = absurd cc

or_left : (a b : Bool) → a || b ≡ false → a ≡ false
or_left true b q = absurd cc
or_left false b q = refl

or_right : (a b : Bool) → a || b ≡ false → b ≡ false
or_right true b q = absurd cc
or_right false b q = q

none_linked : {O : Type 0} (pads : List (Pad O)) (k : ℕ) (q : Pad O) → are_linked pads ≡ false → slice_get pads k ≡ Some q → leads_on (rest_of q).behind ≡ false
none_linked [] k q f at = absurd cc
none_linked (p ∷ ps) zero q f at = subst (λ (z : Pad _). leads_on (rest_of z).behind ≡ false) (some_same at) (or_left (leads_on (rest_of p).behind) (are_linked ps) f)
none_linked (p ∷ ps) (suc k) q f at = none_linked ps k q (or_right (leads_on (rest_of p).behind) (are_linked ps) f) at

none_else : {O : Type 0} (pads : List (Pad O)) (port k : ℕ) (q : Pad O) → linked_else port pads ≡ false → (k ≡ port → ⊥) → slice_get pads k ≡ Some q → leads_on (rest_of q).behind ≡ false
none_else [] port k q f n at = absurd cc
none_else (p ∷ ps) zero zero q f n at = absurd (n refl)
none_else (p ∷ ps) zero (suc k) q f n at = none_linked ps k q f at
none_else (p ∷ ps) (suc port) zero q f n at = subst (λ (z : Pad _). leads_on (rest_of z).behind ≡ false) (some_same at) (or_left (leads_on (rest_of p).behind) (linked_else port ps) f)
none_else (p ∷ ps) (suc port) (suc k) q f n at = none_else ps port k q (or_right (leads_on (rest_of p).behind) (linked_else port ps) f) (λ w. n (ap suc w)) at

-- what was refused by an element, by the fault
pub record HandedFrom {E O : Type 0} {e : elements.Ghosts E} (parts parts' : List (Part E O e)) (place port number sink : ℕ) (fault : TaskFault) : Type 0 where
  pub refusal : Refusal
  pub named : fault ≡ refusal_fault number refusal
  pub to : ℕ
  pub at : IsAt parts number to
  pub handed : HandedBack parts parts' place port to sink refusal

refused_of : {E O : Type 0} {e : elements.Ghosts E} (parts parts' : List (Part E O e)) (place port number sink : ℕ) (r : Result Tried TaskFault) (fault : TaskFault) → r ≡ Err fault → HandsTo parts parts' place port number sink r → HandedFrom parts parts' place port number sink fault
refused_of parts parts' place port number sink (Ok given) fault q f = absurd cc
refused_of parts parts' place port number sink (Err given) fault q f =
    let same : fault ≡ given = cc in
    record { refusal = f.0; named = same ∙ f.1; to = f.2; at = f.3; handed = f.4 }

-- what was handed to an element, by the answer
pub record HandedTo {E O : Type 0} {e : elements.Ghosts E} (parts parts' : List (Part E O e)) (place port number sink : ℕ) (answer : Tried) : Type 0 where
  pub moved : answer ≡ tried.Moved
  pub to : ℕ
  pub at : IsAt parts number to
  pub handed : HandedOn parts parts' place port to sink

handed_of : {E O : Type 0} {e : elements.Ghosts E} (parts parts' : List (Part E O e)) (place port number sink : ℕ) (r : Result Tried TaskFault) (answer : Tried) → r ≡ Ok answer → HandsTo parts parts' place port number sink r → HandedTo parts parts' place port number sink answer
handed_of parts parts' place port number sink (Ok given) answer q f =
    let same : answer ≡ given = cc in
    record { moved = same ∙ f.0; to = f.1; at = f.2; handed = f.3 }
handed_of parts parts' place port number sink (Err fault) answer q f = absurd cc

pub moved_to : {E O : Type 0} {e : elements.Ghosts E} (parts parts' : List (Part E O e)) (place port number sink : ℕ) (r : Result Tried TaskFault) (answer : Tried) → r ≡ Ok answer → HandsTo parts parts' place port number sink r → tried.Moved ≡ answer
moved_to parts parts' place port number sink (Ok given) answer q f = let same : given ≡ answer = cc in sym f.0 ∙ same
moved_to parts parts' place port number sink (Err given) answer q f = absurd cc

-- the first of some items
pub record Firsts (waiting : List Item) : Type 0 where
  pub item : Item
  pub rest : List Item
  pub whole : waiting ≡ item ∷ rest

pub some_first : (xs : List Item) → xs ≢ [] → Firsts xs
some_first [] n = absurd (n refl)
some_first (x ∷ xs) n = record { item = x; rest = xs; whole = refl }

-- the inlets of a head that is the same stay
pub rows_stay : {S I O : Type 0} {s : sources.Ghosts S} (head : Head S I O s) → RowsStay head head
rows_stay (Source head) = tt
rows_stay (Inlets head) = refl

-- a fact of each lane gives another
pub for_lanes : {I : Type 0} (P Q : I → Type 0) → ((inlet : I) → P inlet → Q inlet) → (feeds : List (Feeding I)) → ForLanes P feeds → ForLanes Q feeds
for_lanes P Q f [] l = tt
for_lanes P Q f (Given x ∷ feeds) l = for_lanes P Q f feeds l
for_lanes P Q f (OfLane number inlet ∷ feeds) l = (f inlet l.0, for_lanes P Q f feeds l.1)

-- another lane than the one that was written to is of the table as before
pub ready_kept : (place : Option ℕ) (tells tells' : Option (List Lane)) → KeepsTable place tells tells' → (end : Option LaneEnd) → ((n : ℕ) → place_in end ≡ Some n → place ≢ Some n) → EndReady tells end → EndReady tells' end
ready_kept place tells tells' t None apart ready = tt
ready_kept place tells tells' t (Some end) apart ready = t.rooms end.place end.limits end.count (apart end.place refl) ready

module _ {S E I O L : Type 0} {s : sources.Ghosts S} {e : elements.Ghosts E} (i : inlets.Ghosts I L O) (o : outlets.Ghosts O L)
    (head : Head S I O s) (parts parts' : List (Part E O e)) (place port : ℕ) (tells tells' : Option (List Lane)) (r : Result Tried TaskFault)
    (t : CrossesPart o parts parts' place port tells tells' r) (shapes : map part_shape parts' ≡ map part_shape parts) where
  abbrev was_pad : Pad O
  was_pad = t.crossed.was

  abbrev is_pad : Pad O
  is_pad = t.crossed.is

  abbrev Comes_as : Crossing → Type 0
  Comes_as crossing = IsCrossing o was_pad is_pad tells tells' (linked_else port t.was.pads.items) crossing

  abbrev After_as : Crossing → Type 0
  After_as crossing = AfterPart t.between parts' place port t.is is_pad crossing r

  first_shape : map part_shape t.between ≡ map part_shape parts
  first_shape = parts_set_shape parts t.between place t.was t.is t.set (set_part_shape t.was t.is port was_pad is_pad t.crossed.pad)

  between_frame : map (part_frame o) t.between ≡ map (part_frame o) parts
  between_frame = frames_set o parts t.between place t.was t.is t.set (wire_set o t.was t.is port was_pad is_pad t.crossed.pad
      (same_wire o was_pad is_pad t.crossed.pad.shape (came_room o tells tells' was_pad is_pad (linked_else port t.was.pads.items) t.crossing t.crossed.crossed) t.crossed.probe))

  back_frame : (to sink : ℕ) (refusal : Refusal) → HandedBack t.between parts' place port to sink refusal → map (part_frame o) parts' ≡ map (part_frame o) t.between
  back_frame to sink refusal h =
      let b = h.took_back in
      frames_set o h.behind parts' place h.again h.is h.back (wire_set o h.again h.is port b.was b.is b.pad (same_wire o b.was b.is b.pad.shape (ap (λ (z : Behind O). room_in (end_in o z)) b.behind) b.probe))
      ∙ bare_frames o t.between h.behind (bare_set h.between h.behind to h.eater h.ate h.fed (bare_fell h.eater h.ate sink h.item refusal h.fell)
      ∙ bare_set t.between h.between place h.giver h.gave h.given (bare_pad h.giver h.gave port h.taken.was h.taken.is h.taken.pad h.taken.rest))

  hands_bare : (number sink : ℕ) (z : Result Tried TaskFault) → HandsTo t.between parts' place port number sink z → (answer : Tried) → z ≡ Ok answer → map bare parts' ≡ map bare t.between
  hands_bare number sink (Ok given) f answer q = bare_handed t.between parts' place port f.1 sink f.3 (shapes ∙ sym first_shape)
  hands_bare number sink (Err fault) f answer q = absurd cc

  after_bare : (crossing : Crossing) → After_as crossing → (answer : Tried) → r ≡ Ok answer → map bare parts' ≡ map bare t.between
  after_bare Idle f answer q = ap (λ (ps : List (Part E O e)). map bare ps) f.0
  after_bare (To number hint sink) f answer q = hands_bare number sink r f answer q
  after_bare Gone f answer q = ap (λ (ps : List (Part E O e)). map bare ps) f.0
  after_bare BehindEos f answer q = ap (λ (ps : List (Part E O e)). map bare ps) f.0
  after_bare (Full lane) f answer q = ap (λ (ps : List (Part E O e)). map bare ps) f.0
  after_bare (AtProbe command) f answer q = ap (λ (ps : List (Part E O e)). map bare ps) f.0
  after_bare NotLinked f answer q = ap (λ (ps : List (Part E O e)). map bare ps) f.0
  after_bare AtLimit f answer q = ap (λ (ps : List (Part E O e)). map bare ps) f.0
  after_bare OutOfMemory f answer q = ap (λ (ps : List (Part E O e)). map bare ps) f.0

  hands_frame : (number sink : ℕ) (z : Result Tried TaskFault) → HandsTo t.between parts' place port number sink z → map (part_frame o) parts' ≡ map (part_frame o) t.between
  hands_frame number sink (Ok given) f = bare_frames o t.between parts' (bare_handed t.between parts' place port f.1 sink f.3 (shapes ∙ sym first_shape))
  hands_frame number sink (Err fault) f = back_frame f.2 sink f.0 f.4

  after_frame : (crossing : Crossing) → After_as crossing → map (part_frame o) parts' ≡ map (part_frame o) t.between
  after_frame Idle f = ap (λ (ps : List (Part E O e)). map (part_frame o) ps) f.0
  after_frame (To number hint sink) f = hands_frame number sink r f
  after_frame Gone f = ap (λ (ps : List (Part E O e)). map (part_frame o) ps) f.0
  after_frame BehindEos f = ap (λ (ps : List (Part E O e)). map (part_frame o) ps) f.0
  after_frame (Full lane) f = ap (λ (ps : List (Part E O e)). map (part_frame o) ps) f.0
  after_frame (AtProbe command) f = ap (λ (ps : List (Part E O e)). map (part_frame o) ps) f.0
  after_frame NotLinked f = ap (λ (ps : List (Part E O e)). map (part_frame o) ps) f.0
  after_frame AtLimit f = ap (λ (ps : List (Part E O e)). map (part_frame o) ps) f.0
  after_frame OutOfMemory f = ap (λ (ps : List (Part E O e)). map (part_frame o) ps) f.0

  -- a try of a pad changes nothing that no step changes
  pub part_framed : frame_in o head parts' ≡ frame_in o head parts
  part_framed = ap (λ (ps : List PartFrame). record { head = head_frame o head; parts = ps }) (after_frame t.crossing t.after ∙ between_frame)

  here_at : WireAt (frame_in o head parts) place port (wire_of o was_pad)
  here_at = wire_at o head parts place port t.was was_pad t.set.at t.crossed.pad.at

  -- each lane is of the table
  module _ (a : AreReady i o tells head parts) where
    other_ready : (k l : ℕ) (part : Part E O e) (pad : Pad O) → slice_get parts k ≡ Some part → slice_get part.pads.items l ≡ Some pad → (k ≡ place → l ≡ port → ⊥) → PadReady o tells' pad
    other_ready k l part pad at pad_at ne = ready_kept (place_in (end_of o was_pad)) tells tells' t.crossed.table (end_of o pad)
        (λ n q w. let z = a.wires_apart.parts k l place port n (wire_of o pad) (wire_of o was_pad) (wire_at o head parts k l part pad at pad_at) here_at (leads_into o pad n q) (leads_into o was_pad n w) in ne z.0 z.1)
        (a.parts_ready k part at l pad pad_at)

    between_ready : PartsReady o tells' t.between
    between_ready = each_set parts t.between place t.is (λ k p. PartReady o tells p) (λ k p. PartReady o tells' p) t.set.set a.parts_ready
        (λ k p ne at ready l pad pad_at. other_ready k l p pad at pad_at (λ same z. ne same))
        (each_set t.was.pads.items t.is.pads.items port is_pad (λ l q. PadReady o tells q) (λ l q. PadReady o tells' q) t.crossed.pad.set (a.parts_ready place t.was t.set.at)
        (λ l q ne at ready. other_ready place l t.was q t.set.at at (λ z same. ne same)) t.crossed.ready)

    head_kept : (h : Head S I O s) → WiresApart (frame_in o h parts) → HeadReady i o tells h → HeadReady i o tells' h
    head_kept (Source h) apart ready = ready_kept (place_in (end_of o was_pad)) tells tells' t.crossed.table (end_of o h.pad)
        (λ n q w. apart.source place port n (wire_of o was_pad) (wire_of o h.pad) (wire_at {I = I} o (Source h) parts place port t.was was_pad t.set.at t.crossed.pad.at) refl (leads_into o was_pad n w) (leads_into o h.pad n q)) ready
    head_kept (Inlets h) apart ready = λ k row at. for_lanes (λ inlet. IsIn tells (i.place inlet)) (λ inlet. IsIn tells' (i.place inlet)) (λ inlet. t.crossed.table.lanes (i.place inlet)) (feeds_of row) (ready k row at)

    pub part_ready : (answer : Tried) → r ≡ Ok answer → AreReady i o tells' head parts'
    part_ready answer q = record {
      parts_ready = bare_ready o tells' t.between parts' (after_bare t.crossing t.after answer q) between_ready;
      head_ready = head_kept head a.wires_apart a.head_ready;
      wires_apart = subst WiresApart (sym part_framed) a.wires_apart;
      head_apart = subst (λ (f : TaskFrame). HeadApart i f head) (sym part_framed) a.head_apart;
    }

  -- no lane leaves the table, and those of other tasks stay
  pub part_lanes : KeepsLanes (frame_in o head parts) tells tells'
  part_lanes = record {
    lanes = t.crossed.table.lanes;
    rooms = λ n limits count none of. t.crossed.table.rooms n limits count (λ w. none (wire_of o was_pad, of_part place port here_at, leads_into o was_pad n w)) of;
  }

  -- how many moves are left
  between_left : sum_by (λ part. part_left part) t.between + pad_left was_pad ≡ sum_by (λ part. part_left part) parts + pad_left is_pad
  between_left =
      let a = sum_set (λ part. part_left part) parts place t.was t.is t.set.at in
      let b = sum_set (λ pad. pad_left pad) t.was.pads.items port was_pad is_pad t.crossed.pad.at in
      let c = ap (λ (ps : List (Part E O e)). sum_by (λ part. part_left part) ps) t.set.set in
      let d = ap (λ (ps : List (Pad O)). sum_by (λ pad. pad_left pad) ps) t.crossed.pad.set in
      omega (arith, a, b, c, d)

  after_left : (answer : Tried) → r ≡ Ok answer → sum_by (λ part. part_left part) parts' + pad_left was_pad ≡ sum_by (λ part. part_left part) parts + pad_left is_pad
  after_left answer q = let a = between_left in let b = bare_lefts t.between parts' (after_bare t.crossing t.after answer q) in omega (arith, a, b)

  spent : (crossing : Crossing) → Comes_as crossing → (answer : Tried) → r ≡ Ok answer → After_as crossing → Spends (head_left i head + sum_by (λ part. part_left part) parts) (head_left i head + sum_by (λ part. part_left part) parts') answer
  spent Idle x answer q f =
      subst (Spends _ _) (ok_same r tried.Idle answer f.1 q) (let a = after_left answer q in let b = ap (λ (z : Seen O). crossed_of z.src) x.1 in omega (arith, a, b))
  spent (To number hint sink) x answer q f =
      subst (Spends _ _) (moved_to t.between parts' place port number sink r answer q f) (let a = after_left answer q in let b = x.0.counted in let c = x.0.few.0 in omega (arith, a, b, c))
  spent Gone x answer q f = subst (Spends _ _) (ok_same r tried.Moved answer f.1 q) (let a = after_left answer q in let b = x.counted in let c = x.few.0 in omega (arith, a, b, c))
  spent BehindEos x answer q f = subst (Spends _ _) (ok_same r (tried.Stuck steps.Ended) answer f.1 q) (let a = after_left answer q in let b = x.stands.counted in omega (arith, a, b))
  spent (Full lane) x answer q f = subst (Spends _ _) (ok_same r (tried.Stuck (steps.NeedsRoom lane)) answer f.1 q) (let a = after_left answer q in let b = x.counted in omega (arith, a, b))
  spent (AtProbe command) x answer q f = subst (Spends _ _) (ok_same r (tried.Stuck (steps.AtProbe command)) answer f.1 q) (let a = after_left answer q in let b = x.stands.counted in omega (arith, a, b))
  spent NotLinked x answer q f = not_both r answer (faults.NotLinked (number_of is_pad) (crossed_count is_pad)) q f.1
  spent AtLimit x answer q f = not_both r answer (faults.TooLong t.is.number 1099511627776 1) q f.1
  spent OutOfMemory x answer q f = not_both r answer faults.OutOfMemory q f.1

  pub part_spends : (answer : Tried) → r ≡ Ok answer → Spends (head_left i head + sum_by (λ part. part_left part) parts) (head_left i head + sum_by (λ part. part_left part) parts') answer
  part_spends answer q = spent t.crossing t.crossed.crossed answer q t.after

  tabled : (crossing : Crossing) → Comes_as crossing → (answer : Tried) → r ≡ Ok answer → After_as crossing → TableStays tells tells' answer
  tabled Idle x answer q f = subst (TableStays tells tells') (ok_same r tried.Idle answer f.1 q) x.2
  tabled (To number hint sink) x answer q f = subst (TableStays tells tells') (moved_to t.between parts' place port number sink r answer q f) tt
  tabled Gone x answer q f = subst (TableStays tells tells') (ok_same r tried.Moved answer f.1 q) tt
  tabled BehindEos x answer q f = subst (TableStays tells tells') (ok_same r (tried.Stuck steps.Ended) answer f.1 q) (x.table, λ w. cc)
  tabled (Full lane) x answer q f = subst (TableStays tells tells') (ok_same r (tried.Stuck (steps.NeedsRoom lane)) answer f.1 q) (x.table, λ w. cc)
  tabled (AtProbe command) x answer q f = subst (TableStays tells tells') (ok_same r (tried.Stuck (steps.AtProbe command)) answer f.1 q) (x.table, λ w. cc)
  tabled NotLinked x answer q f = not_both r answer (faults.NotLinked (number_of is_pad) (crossed_count is_pad)) q f.1
  tabled AtLimit x answer q f = not_both r answer (faults.TooLong t.is.number 1099511627776 1) q f.1
  tabled OutOfMemory x answer q f = not_both r answer faults.OutOfMemory q f.1

  -- where nothing moved the lanes are as they were
  pub part_tabled : (answer : Tried) → r ≡ Ok answer → TableStays tells tells' answer
  part_tabled answer q = tabled t.crossing t.crossed.crossed answer q t.after

  -- where nothing moved each element is as it was
  between_kept : elements_of t.between ≡ elements_of parts
  between_kept = kept_set parts t.between place t.was t.is t.set t.crossed.pad.element

  same_kept : (answer : Tried) → parts' ≡ t.between → ElementsStay parts parts' answer
  same_kept answer same = kept_stays parts parts' answer (ap (λ (ps : List (Part E O e)). elements_of ps) same ∙ between_kept)

  kept_by : (crossing : Crossing) → (answer : Tried) → r ≡ Ok answer → After_as crossing → ElementsStay parts parts' answer
  kept_by Idle answer q f = same_kept answer f.0
  kept_by (To number hint sink) answer q f = subst (ElementsStay parts parts') (moved_to t.between parts' place port number sink r answer q f) tt
  kept_by Gone answer q f = same_kept answer f.0
  kept_by BehindEos answer q f = same_kept answer f.0
  kept_by (Full lane) answer q f = same_kept answer f.0
  kept_by (AtProbe command) answer q f = same_kept answer f.0
  kept_by NotLinked answer q f = same_kept answer f.0
  kept_by AtLimit answer q f = same_kept answer f.0
  kept_by OutOfMemory answer q f = same_kept answer f.0

  pub part_kept : (answer : Tried) → r ≡ Ok answer → ElementsStay parts parts' answer
  part_kept answer q = kept_by t.crossing answer q t.after

  -- at a fault the lanes are as they were
  lanes_same : (crossing : Crossing) → Comes_as crossing → (fault : TaskFault) → r ≡ Err fault → After_as crossing → tells' ≡ tells
  lanes_same Idle x fault q f = x.2
  lanes_same (To number hint sink) x fault q f = x.1
  lanes_same Gone x fault q f = not_both r tried.Moved fault f.1 q
  lanes_same BehindEos x fault q f = x.table
  lanes_same (Full lane) x fault q f = x.table
  lanes_same (AtProbe command) x fault q f = x.table
  lanes_same NotLinked x fault q f = x.0.table
  lanes_same AtLimit x fault q f = x.3
  lanes_same OutOfMemory x fault q f = x.2

  pub part_lanes_same : (fault : TaskFault) → r ≡ Err fault → tells' ≡ tells
  part_lanes_same fault q = lanes_same t.crossing t.crossed.crossed fault q t.after

  -- where nothing waits at a pad nothing is to go there
  module _ (settled : SettledAt parts place) where
    still_settled : waiting_of is_pad ≡ waiting_of was_pad → parts' ≡ t.between → SettledAt parts' place
    still_settled waits same part at =
        let one : part ≡ t.is = is_set parts t.between place t.was t.is part t.set (ap (λ (ps : List (Part E O e)). slice_get ps place) (sym same) ∙ at) in
        subst (λ (p : Part E O e). IsSettled p) (sym one) now
      where
        here : IsSettled t.was
        here = settled t.was t.set.at

        now : IsSettled t.is
        now = each_set t.was.pads.items t.is.pads.items port is_pad (λ k pad. waiting_of pad ≡ [] → on_port k t.was.out ≡ []) (λ k pad. waiting_of pad ≡ [] → on_port k t.is.out ≡ []) t.crossed.pad.set here
            (λ k pad ne at old idle. ap (on_port k) t.crossed.pad.out ∙ old idle) (λ idle. ap (on_port port) t.crossed.pad.out ∙ here port was_pad t.crossed.pad.at (sym waits ∙ idle))

    settles : (crossing : Crossing) → Comes_as crossing → (answer : Tried) → r ≡ Ok answer → After_as crossing → StaysSettled parts' place answer
    settles Idle x answer q f = subst (StaysSettled parts' place) (ok_same r tried.Idle answer f.1 q) (still_settled (seen_waiting was_pad is_pad x.1) f.0)
    settles (To number hint sink) x answer q f = subst (StaysSettled parts' place) (moved_to t.between parts' place port number sink r answer q f) tt
    settles Gone x answer q f = subst (StaysSettled parts' place) (ok_same r tried.Moved answer f.1 q) tt
    settles BehindEos x answer q f = subst (StaysSettled parts' place) (ok_same r (tried.Stuck steps.Ended) answer f.1 q) (still_settled (x.waits ∙ sym x.waited) f.0)
    settles (Full lane) x answer q f = subst (StaysSettled parts' place) (ok_same r (tried.Stuck (steps.NeedsRoom lane)) answer f.1 q) (still_settled (x.waits ∙ sym x.waited) f.0)
    settles (AtProbe command) x answer q f = subst (StaysSettled parts' place) (ok_same r (tried.Stuck (steps.AtProbe command)) answer f.1 q) (still_settled (x.waits ∙ sym x.waited) f.0)
    settles NotLinked x answer q f = not_both r answer (faults.NotLinked (number_of is_pad) (crossed_count is_pad)) q f.1
    settles AtLimit x answer q f = not_both r answer (faults.TooLong t.is.number 1099511627776 1) q f.1
    settles OutOfMemory x answer q f = not_both r answer faults.OutOfMemory q f.1

    pub part_settles : (answer : Tried) → r ≡ Ok answer → StaysSettled parts' place answer
    part_settles answer q = settles t.crossing t.crossed.crossed answer q t.after

  -- what it makes of a moment
  module _ (counts : Counts o) (m : Moment) (a : AreTied i o (Stands m) nothing_lost m head parts) where
    here : PortTied o m t.was.number port was_pad (waits_at t.was port was_pad)
    here = port_here i o head parts t.between place port t.was t.is was_pad is_pad t.set t.crossed.pad m a

    stays : ((h : List Item) → HasCrossed was_pad h → HasCrossed is_pad h) → ((h : List Item) → SentOver o was_pad h → SentOver o is_pad h) → waiting_of is_pad ≡ waiting_of was_pad
        → parts' ≡ t.between → AreTied i o (Stands m) nothing_lost m head parts'
    stays c g w same = subst (AreTied i o (Stands m) nothing_lost m head) (sym same) (try_stays i o head parts t.between place port t.was t.is was_pad is_pad t.set t.crossed.pad m a c g w)

    -- all pads of the element lead nowhere
    alone : goes_of was_pad ≡ nowhere → linked_else port t.was.pads.items ≡ false → (q : ℕ) → m.plan.owner q ≡ m.plan.owner (number_of was_pad) → LeadsNowhere m.plan q
    alone own others q same =
        let whole = tied_here i o head parts t.between place port t.was t.is was_pad is_pad t.set t.crossed.pad m a in
        let has = whole.mine q (same ∙ here.owner) in
        let tied = whole.pads (m.plan.port q) has.pad has.at in
        let goes_there : goes_of has.pad ≡ nowhere = go has.pad has.at (cases_eq (m.plan.port q) port) in
        subst (LeadsNowhere m.plan) has.number (subst (LeadsAs m (number_of has.pad)) goes_there tied.linked.leads)
      where
        go : (pad : Pad O) → slice_get t.was.pads.items (m.plan.port q) ≡ Some pad → ((m.plan.port q ≡ port) ⊎ (m.plan.port q ≡ port → ⊥)) → goes_of pad ≡ nowhere
        go pad at (inl p) = ap goes_of (some_same (sym at ∙ ap (slice_get t.was.pads.items) p ∙ t.crossed.pad.at)) ∙ own
        go pad at (inr p) = leads_off (rest_of pad).behind (none_else t.was.pads.items port (m.plan.port q) pad others p at)

    -- the pad that was tried
    abbrev Frame_was : TaskFrame
    Frame_was = frame_in o head parts

    at_here : IsAtPort Frame_was place port (number_of was_pad)
    at_here = (wire_of o was_pad, here_at, refl)

    only : (P : Wire → Type 0) → P (wire_of o was_pad) → (wire : Wire) → WireAt Frame_was place port wire → P wire
    only P p wire w = subst P (sym (wire_is o head parts place port t.was was_pad wire t.set.at t.crossed.pad.at w)) p

    abbrev Tried_here : Tried → Type 0
    Tried_here answer = TriedAs i o tells tells' Frame_was m head head parts' (IsAtPort Frame_was place port) (WireAt Frame_was place port) answer

    holds_here : (step : Step) → PadHolds tells m (wire_of o was_pad) step → AreTied i o (Stands m) nothing_lost m head parts' → Tried_here (tried.Stuck step)
    holds_here step h tied = (tied, ((wire_of o was_pad, of_part place port here_at, h), only (IsBlocked tells m) (inr (step, h))))

    moves_here : (act : Act) → CrossesAt (number_of was_pad) act → given_by act ≡ 0 → LanesBy i Frame_was head head tells tells' act → MovesOn i o m act head parts' → Tried_here tried.Moved
    moves_here act at none lanes w = record { pad = number_of was_pad; act = act; next = w.next; move = w.move; at = at; given = omega (arith, none); lanes = lanes; tied = w.tied; first = at_here }

    -- the item went into the lane of the pad
    put_here : (g : Goes) (x : Item) → WentAway o x (seen was_pad) (seen is_pad) (linked_else port t.was.pads.items) tells tells' g → LanesBy i Frame_was head head tells tells' (gone_act g (number_of was_pad) x)
    put_here nowhere x w = (rows_stay head, w.0)
    put_here (inside n k) x w = absurd w
    put_here (over lane n k from) x w = (rows_stay head, record { wire = wire_of o was_pad; is = of_part place port here_at; number = refl; room = record { place = w.0.place; limits = w.0.limits }; room_is = ap room_in w.1; table = w.3 })

    module _ (settled : SettledAt parts place) where
      idle_here : waiting_of was_pad ≡ [] → m.waits (number_of was_pad) ≡ []
      idle_here none = here.waits ∙ ap (λ ys. ys ++ on_port port t.was.out) none ∙ settled t.was t.set.at port was_pad t.crossed.pad.at none

      tried_by : (crossing : Crossing) → Comes_as crossing → (answer : Tried) → r ≡ Ok answer → After_as crossing → Tried_here answer
      tried_by Idle x answer q f =
          subst Tried_here (ok_same r tried.Idle answer f.1 q) (stays (seen_crossed was_pad is_pad x.1) (seen_sent o was_pad is_pad x.1) (seen_waiting was_pad is_pad x.1) f.0, only (λ wire. m.waits wire.number ≡ []) (idle_here x.0))
      tried_by (To number hint sink) x answer q f =
          let w = handed_of t.between parts' place port number sink r answer q f in
          subst Tried_here (sym w.moved) (moves_here (passing (number_of was_pad)) refl refl (rows_stay head, x.1)
          (handed_on i o head parts t.between place port t.was t.is was_pad is_pad t.set t.crossed.pad m a number hint sink x.0 parts' w.to w.at w.handed shapes))
      tried_by Gone x answer q f =
          let p : ℕ = number_of was_pad in
          let rest : List Item = waits_at t.is port is_pad in
          subst Tried_here (ok_same r tried.Moved answer f.1 q) (moves_here (gone_act (goes_of was_pad) p x.item) (gone_at (goes_of was_pad) p x.item) (gone_given (goes_of was_pad) p x.item) (put_here (goes_of was_pad) x.item x.way)
          (record {
            next = crossed p x.item rest m;
            move = gone_move o m p x.item rest (seen was_pad) (seen is_pad) (linked_else port t.was.pads.items) tells tells' (goes_of was_pad) x.way here.linked.leads
                (waited_at i o head parts t.between place port t.was t.is was_pad is_pad t.set t.crossed.pad m a x.item x.waited);
            tied = subst (AreTied i o (Stands (crossed p x.item rest m)) nothing_lost (crossed p x.item rest m) head) (sym f.0)
                (try_crosses i o head parts t.between place port t.was t.is was_pad is_pad t.set t.crossed.pad m a x.item x.history x.sent);
          }))
      tried_by BehindEos x answer q f =
          subst Tried_here (ok_same r (tried.Stuck steps.Ended) answer f.1 q) (holds_here steps.Ended (ended_holds o tells tells' m was_pad is_pad (on_port port t.was.out) here.linked here.waits x)
          (stays x.stands.history x.stands.sent (x.waits ∙ sym x.waited) f.0))
      tried_by (Full lane) x answer q f =
          subst Tried_here (ok_same r (tried.Stuck (steps.NeedsRoom lane)) answer f.1 q) (holds_here (steps.NeedsRoom lane) (full_holds o tells tells' m was_pad is_pad lane (on_port port t.was.out) here.linked here.waits x)
          (stays x.history x.sent (x.waits ∙ sym x.waited) f.0))
      tried_by (AtProbe command) x answer q f =
          subst Tried_here (ok_same r (tried.Stuck (steps.AtProbe command)) answer f.1 q) (holds_here (steps.AtProbe command) (probe_holds o tells tells' m was_pad is_pad command (on_port port t.was.out) here.linked here.waits x)
          (stays x.stands.history x.stands.sent (x.waits ∙ sym x.waited) f.0))
      tried_by NotLinked x answer q f = not_both r answer (faults.NotLinked (number_of is_pad) (crossed_count is_pad)) q f.1
      tried_by AtLimit x answer q f = not_both r answer (faults.TooLong t.is.number 1099511627776 1) q f.1
      tried_by OutOfMemory x answer q f = not_both r answer faults.OutOfMemory q f.1

      pub part_tried : (answer : Tried) → r ≡ Ok answer → Tried_here answer
      part_tried answer q = tried_by t.crossing t.crossed.crossed answer q t.after

    number_same : number_of is_pad ≡ number_of was_pad
    number_same = same_number is_pad was_pad t.crossed.pad.shape

    abbrev Failed_here : TaskFault → Type 0
    Failed_here fault = PadFails i o m head head parts parts' (IsAtPort Frame_was place port) fault

    fails_here : (fault : TaskFault) → ((k : Option (List Lane)) → FailsAs i o k k m head head parts parts' (at_pad (number_of was_pad)) fault) → Failed_here fault
    fails_here fault f = record { origin = at_pad (number_of was_pad); fails = f; first = inr (number_of was_pad, refl, at_here) }

    -- the pad leads to the sink pad of an element of the task
    inner_wire : (number sink : ℕ) (x : Item) (k : Option (List Lane)) → goes_of was_pad ≡ inside number sink
        → WasFor i k k (frame_in o head parts') head head (at_pad (number_of was_pad)) number sink x
    inner_wire number sink x k goes =
        (wire_of o was_pad, subst (λ (f : TaskFrame). IsWire f (wire_of o was_pad)) (sym part_framed) (of_part place port here_at), refl, goes, refl)

    failed_by : (crossing : Crossing) → Comes_as crossing → (fault : TaskFault) → r ≡ Err fault → After_as crossing → Failed_here fault
    failed_by Idle x fault q f = not_both r tried.Idle fault f.1 q
    failed_by (To number hint sink) x fault q f =
        let w = refused_of t.between parts' place port number sink r fault q f in
        let z = handed_back i o head parts t.between place port t.was t.is was_pad is_pad t.set t.crossed.pad m a number hint sink x.0 parts' w.to w.at w.refusal w.handed shapes in
        subst Failed_here (sym w.named) (fails_here (refusal_fault number w.refusal) (λ k. refused (at_pad (number_of was_pad)) number sink w.handed.item w.refusal z.0 (inner_wire number sink w.handed.item k x.0.to) z.1))
    failed_by Gone x fault q f = not_both r tried.Moved fault f.1 q
    failed_by BehindEos x fault q f = not_both r (tried.Stuck steps.Ended) fault f.1 q
    failed_by (Full lane) x fault q f = not_both r (tried.Stuck (steps.NeedsRoom lane)) fault f.1 q
    failed_by (AtProbe command) x fault q f = not_both r (tried.Stuck (steps.AtProbe command)) fault f.1 q
    failed_by NotLinked x fault q f =
        let p : ℕ = number_of was_pad in
        let why = x.0.why (m.history p) here.linked.crossed in
        let count : crossed_count is_pad ≡ length (m.history p) = (x.0.stands.history (m.history p) here.linked.crossed).crossed in
        let named : faults.NotLinked p (length (m.history p)) ≡ fault = ap (λ n. faults.NotLinked n (length (m.history p))) (sym number_same) ∙ ap (faults.NotLinked (number_of is_pad)) (sym count) ∙ err_same r (faults.NotLinked (number_of is_pad) (crossed_count is_pad)) fault f.1 q in
        subst Failed_here named (fails_here (faults.NotLinked p (length (m.history p)))
        (λ k. not_linked p x.0.item (x.0.rest ++ on_port port t.was.out) (stays x.0.stands.history x.0.stands.sent (x.0.waits ∙ sym x.0.waited) f.0, refl) (here.waits ∙ ap (λ ys. ys ++ on_port port t.was.out) x.0.waited) why.1 (alone why.2 why.3)))
    failed_by AtLimit x fault q f =
        let p : ℕ = number_of was_pad in
        let named : faults.TooLong (m.plan.owner p) 1099511627776 1 ≡ fault = ap (λ n. faults.TooLong n 1099511627776 1) (here.owner ∙ sym t.crossed.pad.number) ∙ err_same r (faults.TooLong t.is.number 1099511627776 1) fault f.1 q in
        let w = some_first (waiting_of was_pad) x.0 in
        subst Failed_here named (fails_here (faults.TooLong (m.plan.owner p) 1099511627776 1)
        (λ k. at_limit p w.item (w.rest ++ on_port port t.was.out) (stays (seen_crossed was_pad is_pad x.2) (seen_sent o was_pad is_pad x.2) (seen_waiting was_pad is_pad x.2) f.0, refl) (here.waits ∙ ap (λ ys. ys ++ on_port port t.was.out) w.whole) (many x.1)))
      where
        many : ((1099511627776 ≤ crossed_count was_pad) ⊎ (1099511627776 ≤ count_in (end_in o (rest_of was_pad).behind))) → 1099511627776 ≤ length (m.history (number_of was_pad))
        many (inl low) = let c = here.linked.crossed.crossed in omega (arith, c, low)
        many (inr low) = many_crossed o counts (rest_of was_pad).behind (m.history (number_of was_pad)) 1099511627776 here.linked.sent (omega arith) low
    failed_by OutOfMemory x fault q f =
        subst Failed_here (err_same r faults.OutOfMemory fault f.1 q)
        (fails_here faults.OutOfMemory (λ k. no_memory (at_pad (number_of was_pad)) (stays (seen_crossed was_pad is_pad x.1) (seen_sent o was_pad is_pad x.1) (seen_waiting was_pad is_pad x.1) f.0, refl)))

    pub part_failed : (fault : TaskFault) → r ≡ Err fault → Failed_here fault
    part_failed fault q = failed_by t.crossing t.crossed.crossed fault q t.after

  -- why it met a fault, whatever the source owes
  abbrev Causes_as : TaskFault → Type 0
  Causes_as fault = Causes {S = S} {I = I} {s = s} o (frame_in o head parts) head head parts parts' fault

  caused : (crossing : Crossing) → Comes_as crossing → (fault : TaskFault) → r ≡ Err fault → After_as crossing → Causes_as fault
  caused Idle x fault q f = not_both r tried.Idle fault f.1 q
  caused (To number hint sink) x fault q f =
      let w = refused_of t.between parts' place port number sink r fault q f in
      subst Causes_as (sym w.named) (by_element number w.refusal (back_refused parts t.between parts' place port w.to number sink w.refusal between_kept w.at w.handed).0)
  caused Gone x fault q f = not_both r tried.Moved fault f.1 q
  caused BehindEos x fault q f = not_both r (tried.Stuck steps.Ended) fault f.1 q
  caused (Full lane) x fault q f = not_both r (tried.Stuck (steps.NeedsRoom lane)) fault f.1 q
  caused (AtProbe command) x fault q f = not_both r (tried.Stuck (steps.AtProbe command)) fault f.1 q
  caused NotLinked x fault q f =
      subst Causes_as (ap (λ n. faults.NotLinked n (crossed_count is_pad)) (sym (same_number is_pad was_pad t.crossed.pad.shape)) ∙ err_same r (faults.NotLinked (number_of is_pad) (crossed_count is_pad)) fault f.1 q)
      (unlinked (wire_of o was_pad) (crossed_count is_pad) (of_part place port here_at) x.1)
  caused AtLimit x fault q f =
      subst Causes_as (ap (λ n. faults.TooLong n 1099511627776 1) (sym t.crossed.pad.number) ∙ err_same r (faults.TooLong t.is.number 1099511627776 1) fault f.1 q)
      (full_at place (part_frame o t.was) (map_get (part_frame o) parts place t.was t.set.at))
  caused OutOfMemory x fault q f = subst Causes_as (err_same r faults.OutOfMemory fault f.1 q) memory

  pub part_caused : (fault : TaskFault) → r ≡ Err fault → Causes_as fault
  part_caused fault q = caused t.crossing t.crossed.crossed fault q t.after
