-- What a try of the pad of a source does to a task, whatever came of it.
use Rattle.std.proofs.Common.{◌≡◌, ◌≤◌, ◌⊎◌, ◌++◌, ℕ, false, List, [], ◌∷◌, length, map, Option, refl, sym, ap, ◌∙◌, subst, inl, inr, arith}
use Rattle.std.specs.Prelude.{slice_get, sum_by, ◌+◌, Result, Ok, Err}
use Rattle.flow_model.specs.Item.{Item}
use Rattle.lane_core.specs.Lane.{Lane}
use Rattle.lane_core.specs.declared.ends.Inlet as inlets
use Rattle.lane_core.specs.declared.ends.Outlet as outlets
use Rattle.flow_model.specs.Moment.{Moment, behavior_at}
use Rattle.flow_model.specs.Split.{NoneAt}
use Rattle.flow_model.specs.Step.{Leads, LeadsNowhere, crossed}
use Rattle.flow_model.proofs.Inputs.{at_here, at_other}
use Rattle.flow_model.specs.declared.element.TaskElement as elements
use Rattle.flow_model.specs.declared.source.TaskSource as sources
use Rattle.flow_model.specs.declared.refusal.Refusal.{Refusal}
use Rattle.flow_model.specs.Refuses.{RefusesBy}
use Rattle.task_pads.specs.declared.crossing.Crossing.{Crossing}
use Rattle.task_pads.specs.declared.crossing.Crossing.TheVariants.{Idle, To, Gone, Full, AtProbe, NotLinked, BehindEos, AtLimit, OutOfMemory}
use Rattle.task_pads.specs.declared.pad.Pad.{Pad}
use Rattle.task_pads.specs.declared.pad.Behind.{Behind}
use Rattle.pad_core.specs.SrcPad.{crossed_of, state_of}
use Rattle.task_pads.specs.Behind.{EndReady, Goes, nowhere, inside, over, count_in, end_in, place_in}
use Rattle.task_pads.specs.Pads.{HasCrossed, Rest, Seen, SentOver, end_of, pad_shape, seen, number_of, goes_of, crossed_count, rest_of, waiting_of}
use Rattle.task_pads.specs.Crossing.{IsCrossing, Crosses, WentAway}
use Rattle.task_parts.specs.declared.part.Part.{Part}
use Rattle.task_parts.specs.declared.head.Head.{Head}
use Rattle.task_parts.specs.declared.head.Head.TheVariants.{Source, Inlets}
use Rattle.task_parts.specs.declared.head.InletHead.{InletHead}
use Rattle.task_parts.specs.declared.head.SourceHead.{SourceHead}
use Rattle.task_parts.specs.declared.step.Tried.{Tried}
use Rattle.task_parts.specs.declared.step.Tried.TheVariants as tried
use Rattle.task_parts.specs.declared.step.Step.{Step}
use Rattle.task_parts.specs.declared.step.Step.TheVariants as steps
use Rattle.task_parts.specs.declared.fault.TaskFault.{TaskFault}
use Rattle.task_parts.specs.declared.fault.TaskFault.TheVariants as faults
use Rattle.task_parts.specs.Fault.{refusal_fault}
use Rattle.task_parts.specs.Found.{IsAt}
use Rattle.task_parts.specs.Shape.{part_shape}
use Rattle.task_parts.specs.Passing.{SourceHanded, SourceBack, SourceHandsTo, AfterSource, CrossesSource, SourceSet}
use Rattle.net_task.specs.Ties.{LeadsAs, PartTied, AreTied, Stands, nothing_lost}
use Rattle.net_task.specs.Moves.{Act, LanesBy, given_by, passes, passing}
use Rattle.net_task.specs.Failed.{Causes, FailsAs, HasRefused, Left, Refuses, StandsOrFell, WasFor, at_limit, at_pad, by_element, by_source, full_head, lost_at, memory, no_memory, not_linked, refused, unlinked, without_first}
use Rattle.net_task.specs.Frame.{IsWire, PartFrame, TaskFrame, Wire, by_source as framed_by_source, frame_in, of_head, part_frame, room_in, wire_of}
use Rattle.net_task.specs.Fuel.{head_left, pad_left, part_left}
use Rattle.net_task.specs.Ready.{AreReady, LanesGoOn, WiresApart}
use Rattle.net_task.specs.Reasons.{HeadIdle, PadHolds}
use Rattle.net_task.specs.Tries.{CrossesAt, ElementsStay, HeadStays, HeadTriedAs, HeadTries, SourceStays, IsHeadPad, PadFails, Spends, TableStays, elements_of}
use Rattle.net_task.proofs.Linked.{same_number, same_goes, crossed_rest}
use Rattle.net_task.proofs.Tied.{parts_set_at, part_known, part_fell, part_at}
use Rattle.net_task.proofs.Fed.{now, out_now, fed_tied, fed_answers}
use Rattle.net_task.proofs.Passing.{MovesOn, gone_act, gone_at, gone_given, gone_move, sent_inside}
use Rattle.net_task.proofs.Bare.{bare, bare_fed, bare_fell, bare_frames, bare_lefts, bare_ready, bare_set, shape_set, wire_in}
use Rattle.net_task.proofs.GoingOn.{keeps_same, rows_on}
use Rattle.net_task.proofs.Kept.{kept_stays}
use Rattle.net_task.proofs.Held.{came_room, ended_holds, full_holds, leads_into, probe_holds, same_wire, wire_at}
use Rattle.net_task.proofs.Handing.{shape_at}
use Rattle.net_task.proofs.Trying.{Counts, ok_same, err_same, not_both, many_crossed, ready_kept, seen_crossed, seen_sent, seen_waiting, some_first}
use Rattle.net_task.proofs.Sources.{Begins, Later, later, set_both, source_set, source_stays, source_rest, source_crosses}
use Rattle.gst_value.proofs.Basics.{some_same}
use Rattle.gst_value.proofs.Places.{first_same, set_at}

-- what was handed to an element, or refused by it
pub record FromSource {S E O : Type 0} {s : sources.Ghosts S} {e : elements.Ghosts E} (head head' : SourceHead S O s) (parts parts' : List (Part E O e)) (number sink : ℕ) (answer : Tried) : Type 0 where
  pub moved : answer ≡ tried.Moved
  pub to : ℕ
  pub at : IsAt parts number to
  pub handed : SourceHanded head head' parts parts' to sink

pub record BackToSource {S E O : Type 0} {s : sources.Ghosts S} {e : elements.Ghosts E} (head head' : SourceHead S O s) (parts parts' : List (Part E O e)) (number sink : ℕ) (fault : TaskFault) : Type 0 where
  pub refusal : Refusal
  pub named : fault ≡ refusal_fault number refusal
  pub to : ℕ
  pub at : IsAt parts number to
  pub handed : SourceBack head head' parts parts' to sink refusal

from_source : {S E O : Type 0} {s : sources.Ghosts S} {e : elements.Ghosts E} (head head' : SourceHead S O s) (parts parts' : List (Part E O e)) (number sink : ℕ) (r : Result Tried TaskFault) (answer : Tried) → r ≡ Ok answer
    → SourceHandsTo head head' parts parts' number sink r → FromSource head head' parts parts' number sink answer
from_source head head' parts parts' number sink (Ok given) answer q f = let same : answer ≡ given = cc in record { moved = same ∙ f.0; to = f.1; at = f.2; handed = f.3 }
from_source head head' parts parts' number sink (Err given) answer q f = absurd cc

back_to_source : {S E O : Type 0} {s : sources.Ghosts S} {e : elements.Ghosts E} (head head' : SourceHead S O s) (parts parts' : List (Part E O e)) (number sink : ℕ) (r : Result Tried TaskFault) (fault : TaskFault) → r ≡ Err fault
    → SourceHandsTo head head' parts parts' number sink r → BackToSource head head' parts parts' number sink fault
back_to_source head head' parts parts' number sink (Ok given) fault q f = absurd cc
back_to_source head head' parts parts' number sink (Err given) fault q f = let same : fault ≡ given = cc in record { refusal = f.0; named = same ∙ f.1; to = f.2; at = f.3; handed = f.4 }

-- what was handed to an element or refused
source_to : {S E O : Type 0} {s : sources.Ghosts S} {e : elements.Ghosts E} (head head' : SourceHead S O s) (parts parts' : List (Part E O e)) (number sink : ℕ) (r : Result Tried TaskFault) (answer : Tried) → r ≡ Ok answer
    → SourceHandsTo head head' parts parts' number sink r → tried.Moved ≡ answer
source_to head head' parts parts' number sink (Ok given) answer q f = let same : given ≡ answer = cc in sym f.0 ∙ same
source_to head head' parts parts' number sink (Err given) answer q f = absurd cc

-- A source and elements of which nothing changed but what waits.
pub record OnlyWaits {S E O : Type 0} {s : sources.Ghosts S} {e : elements.Ghosts E} (head head' : SourceHead S O s) (parts parts' : List (Part E O e)) : Type 0 where
  pub parts_bare : map bare parts' ≡ map bare parts
  pub set : SourceSet head head'
  pub rest : rest_of head'.pad ≡ rest_of head.pad

only_same : {S E O : Type 0} {s : sources.Ghosts S} {e : elements.Ghosts E} (head head' : SourceHead S O s) (parts parts' : List (Part E O e)) → head' ≡ head → parts' ≡ parts → OnlyWaits head head' parts parts'
only_same {S = S} {E = E} {O = O} {s = s} {e = e} head head' parts parts' q w = record {
  parts_bare = ap (λ (ps : List (Part E O e)). map bare ps) w;
  set = record {
    number = ap (λ (z : SourceHead S O s). z.number) q;
    source = ap (λ (z : SourceHead S O s). z.source) q;
    given = ap (λ (z : SourceHead S O s). z.given) q;
    shape = ap (λ (z : SourceHead S O s). pad_shape z.pad) q;
  };
  rest = ap (λ (z : SourceHead S O s). rest_of z.pad) q;
}

module _ {S E I O L : Type 0} {s : sources.Ghosts S} {e : elements.Ghosts E} (i : inlets.Ghosts I L O) (o : outlets.Ghosts O L)
    (head head' : SourceHead S O s) (parts parts' : List (Part E O e)) (tells tells' : Option (List Lane)) (r : Result Tried TaskFault)
    (t : CrossesSource o head head' parts parts' tells tells' r) (shapes : map part_shape parts' ≡ map part_shape parts) where
  abbrev Head_of : SourceHead S O s → Head S I O s
  Head_of h = Source h

  abbrev was_pad : Pad O
  was_pad = head.pad

  abbrev is_pad : Pad O
  is_pad = t.between.pad

  abbrev Comes_as : Crossing → Type 0
  Comes_as crossing = IsCrossing o was_pad is_pad tells tells' false crossing

  abbrev After_as : Crossing → Type 0
  After_as crossing = AfterSource t.between head' parts parts' crossing r

  hands_only : (number sink : ℕ) (z : Result Tried TaskFault) → SourceHandsTo t.between head' parts parts' number sink z → (answer : Tried) → z ≡ Ok answer → OnlyWaits t.between head' parts parts'
  hands_only number sink (Ok given) f answer q =
      let h = f.3 in
      record { parts_bare = bare_set parts parts' f.1 h.eater h.ate h.fed (bare_fed h.eater h.ate sink h.item h.took (shape_set parts parts' f.1 h.eater h.ate h.fed shapes)); set = h.set; rest = h.rest }
  hands_only number sink (Err fault) f answer q = absurd cc

  after_only : (crossing : Crossing) → After_as crossing → (answer : Tried) → r ≡ Ok answer → OnlyWaits t.between head' parts parts'
  after_only Idle f answer q = only_same t.between head' parts parts' f.0 f.1
  after_only (To number hint sink) f answer q = hands_only number sink r f answer q
  after_only Gone f answer q = only_same t.between head' parts parts' f.0 f.1
  after_only BehindEos f answer q = only_same t.between head' parts parts' f.0 f.1
  after_only (Full lane) f answer q = only_same t.between head' parts parts' f.0 f.1
  after_only (AtProbe command) f answer q = only_same t.between head' parts parts' f.0 f.1
  after_only NotLinked f answer q = only_same t.between head' parts parts' f.0 f.1
  after_only AtLimit f answer q = only_same t.between head' parts parts' f.0 f.1
  after_only OutOfMemory f answer q = only_same t.between head' parts parts' f.0 f.1

  frame_set : (h h' : SourceHead S O s) (ps : List (Part E O e)) → SourceSet h h' → wire_of o h'.pad ≡ wire_of o h.pad → map (part_frame o) ps ≡ map (part_frame o) parts → frame_in o (Head_of h') ps ≡ frame_in o (Head_of h) parts
  frame_set h h' ps set wire same =
      ap (λ n. frame_by n (s.file h'.source) (wire_of o h'.pad) (map (part_frame o) ps)) set.number
      ∙ ap (λ (z : S). frame_by h.number (s.file z) (wire_of o h'.pad) (map (part_frame o) ps)) set.source
      ∙ ap (λ (w : Wire). frame_by h.number (s.file h.source) w (map (part_frame o) ps)) wire
      ∙ ap (λ (fs : List PartFrame). frame_by h.number (s.file h.source) (wire_of o h.pad) fs) same
    where
      frame_by : ℕ → Option (Option (List ℕ)) → Wire → List PartFrame → TaskFrame
      frame_by n f w fs = record { head = framed_by_source n f w; parts = fs }

  between_wire : wire_of o is_pad ≡ wire_of o was_pad
  between_wire = same_wire o was_pad is_pad t.set.shape (came_room o tells tells' was_pad is_pad false t.crossing t.crossed) t.probe

  only_frame : OnlyWaits t.between head' parts parts' → frame_in o (Head_of head') parts' ≡ frame_in o (Head_of head) parts
  only_frame w = frame_set head head' parts' (set_both head t.between head' t.set w.set) (ap (wire_in o) w.rest ∙ between_wire) (bare_frames o parts parts' w.parts_bare)

  back_frame : (to sink : ℕ) (refusal : Refusal) → SourceBack t.between head' parts parts' to sink refusal → frame_in o (Head_of head') parts' ≡ frame_in o (Head_of head) parts
  back_frame to sink refusal h =
      frame_set head head' parts' (set_both head t.between head' t.set h.set)
      (same_wire o is_pad head'.pad h.set.shape (ap (λ (z : Behind O). room_in (end_in o z)) (h.behind ∙ ap (λ (z : Rest O). z.behind) h.rest)) (h.probe ∙ ap (λ (z : Rest O). (state_of z.src).probe) h.rest) ∙ between_wire)
      (bare_frames o parts parts' (bare_set parts parts' to h.eater h.ate h.fed (bare_fell h.eater h.ate sink h.item refusal h.fell)))

  hands_frame : (number sink : ℕ) (z : Result Tried TaskFault) → r ≡ z → SourceHandsTo t.between head' parts parts' number sink z → frame_in o (Head_of head') parts' ≡ frame_in o (Head_of head) parts
  hands_frame number sink (Ok given) q f = only_frame (hands_only number sink (Ok given) f given refl)
  hands_frame number sink (Err fault) q f = back_frame f.2 sink f.0 f.4

  after_frame : (crossing : Crossing) → After_as crossing → frame_in o (Head_of head') parts' ≡ frame_in o (Head_of head) parts
  after_frame Idle f = only_frame (only_same t.between head' parts parts' f.0 f.1)
  after_frame (To number hint sink) f = hands_frame number sink r refl f
  after_frame Gone f = only_frame (only_same t.between head' parts parts' f.0 f.1)
  after_frame BehindEos f = only_frame (only_same t.between head' parts parts' f.0 f.1)
  after_frame (Full lane) f = only_frame (only_same t.between head' parts parts' f.0 f.1)
  after_frame (AtProbe command) f = only_frame (only_same t.between head' parts parts' f.0 f.1)
  after_frame NotLinked f = only_frame (only_same t.between head' parts parts' f.0 f.1)
  after_frame AtLimit f = only_frame (only_same t.between head' parts parts' f.0 f.1)
  after_frame OutOfMemory f = only_frame (only_same t.between head' parts parts' f.0 f.1)

  -- a try of the pad changes nothing that no step changes
  pub source_framed : frame_in o (Head_of head') parts' ≡ frame_in o (Head_of head) parts
  source_framed = after_frame t.crossing t.after

  -- each lane is of the table
  pub source_ready : AreReady i o tells (Head_of head) parts → (answer : Tried) → r ≡ Ok answer → AreReady i o tells' (Head_of head') parts'
  source_ready a answer q =
      let w = after_only t.crossing t.after answer q in
      record {
        parts_ready = bare_ready o tells' parts parts' w.parts_bare (λ k part at l pad pad_at. ready_kept (place_in (end_of o was_pad)) tells tells' t.table (end_of o pad)
            (λ n z y. a.wires_apart.source k l n (wire_of o pad) (wire_of o was_pad) (wire_at o (Head_of head) parts k l part pad at pad_at) refl (leads_into o pad n z) (leads_into o was_pad n y)) (a.parts_ready k part at l pad pad_at));
        head_ready = subst (λ (z : Rest O). EndReady tells' (end_in o z.behind)) (sym w.rest) t.ready;
        wires_apart = subst WiresApart (sym source_framed) a.wires_apart;
        head_apart = tt;
      }

  -- no lane leaves the table, and those of other tasks stay
  pub source_lanes : LanesGoOn i (frame_in o (Head_of head) parts) (Head_of head) (Head_of head') tells tells'
  source_lanes = record {
    rows = tt;
    table = record { lanes = t.table.lanes; rooms = λ n limits count none of. t.table.rooms n limits count (λ w. none (wire_of o was_pad, of_head refl, leads_into o was_pad n w)) of };
  }

  -- how many moves are left
  after_left : (answer : Tried) → r ≡ Ok answer → (head_left i (Head_of head') + sum_by (λ part. part_left part) parts') + pad_left was_pad ≡ (head_left i (Head_of head) + sum_by (λ part. part_left part) parts) + pad_left is_pad
  after_left answer q =
      let w = after_only t.crossing t.after answer q in
      let a = bare_lefts parts parts' w.parts_bare in
      let b = ap (λ (z : Rest O). crossed_of z.src) w.rest in
      let c = w.set.given in
      let d = t.set.given in
      omega (arith, a, b, c, d)

  abbrev Spends_so : Tried → Type 0
  Spends_so answer = Spends (head_left i (Head_of head) + sum_by (λ part. part_left part) parts) (head_left i (Head_of head') + sum_by (λ part. part_left part) parts') answer

  spent : (crossing : Crossing) → Comes_as crossing → (answer : Tried) → r ≡ Ok answer → After_as crossing → Spends_so answer
  spent Idle x answer q f = subst Spends_so (ok_same r tried.Idle answer f.2 q) (let a = after_left answer q in let b = ap (λ (z : Seen O). crossed_of z.src) x.1 in omega (arith, a, b))
  spent (To number hint sink) x answer q f = subst Spends_so (source_to t.between head' parts parts' number sink r answer q f) (let a = after_left answer q in let b = x.0.counted in let c = x.0.few.0 in omega (arith, a, b, c))
  spent Gone x answer q f = subst Spends_so (ok_same r tried.Moved answer f.2 q) (let a = after_left answer q in let b = x.counted in let c = x.few.0 in omega (arith, a, b, c))
  spent BehindEos x answer q f = subst Spends_so (ok_same r (tried.Stuck steps.Ended) answer f.2 q) (let a = after_left answer q in let b = x.stands.counted in omega (arith, a, b))
  spent (Full lane) x answer q f = subst Spends_so (ok_same r (tried.Stuck (steps.NeedsRoom lane)) answer f.2 q) (let a = after_left answer q in let b = x.counted in omega (arith, a, b))
  spent (AtProbe command) x answer q f = subst Spends_so (ok_same r (tried.Stuck (steps.AtProbe command)) answer f.2 q) (let a = after_left answer q in let b = x.stands.counted in omega (arith, a, b))
  spent NotLinked x answer q f = not_both r answer (faults.NotLinked (number_of is_pad) (crossed_count is_pad)) q f.2
  spent AtLimit x answer q f = not_both r answer (faults.TooLong t.between.number 1099511627776 1) q f.2
  spent OutOfMemory x answer q f = not_both r answer faults.OutOfMemory q f.2

  pub source_spends : (answer : Tried) → r ≡ Ok answer → Spends_so answer
  source_spends answer q = spent t.crossing t.crossed answer q t.after

  tabled : (crossing : Crossing) → Comes_as crossing → (answer : Tried) → r ≡ Ok answer → After_as crossing → TableStays tells tells' answer
  tabled Idle x answer q f = subst (TableStays tells tells') (ok_same r tried.Idle answer f.2 q) x.2
  tabled (To number hint sink) x answer q f = subst (TableStays tells tells') (source_to t.between head' parts parts' number sink r answer q f) tt
  tabled Gone x answer q f = subst (TableStays tells tells') (ok_same r tried.Moved answer f.2 q) tt
  tabled BehindEos x answer q f = subst (TableStays tells tells') (ok_same r (tried.Stuck steps.Ended) answer f.2 q) (x.table, λ w. cc)
  tabled (Full lane) x answer q f = subst (TableStays tells tells') (ok_same r (tried.Stuck (steps.NeedsRoom lane)) answer f.2 q) (x.table, λ w. cc)
  tabled (AtProbe command) x answer q f = subst (TableStays tells tells') (ok_same r (tried.Stuck (steps.AtProbe command)) answer f.2 q) (x.table, λ w. cc)
  tabled NotLinked x answer q f = not_both r answer (faults.NotLinked (number_of is_pad) (crossed_count is_pad)) q f.2
  tabled AtLimit x answer q f = not_both r answer (faults.TooLong t.between.number 1099511627776 1) q f.2
  tabled OutOfMemory x answer q f = not_both r answer faults.OutOfMemory q f.2

  pub source_tabled : (answer : Tried) → r ≡ Ok answer → TableStays tells tells' answer
  source_tabled answer q = tabled t.crossing t.crossed answer q t.after

  -- where nothing waits at it the source stays
  abbrev Stays_so : Tried → Type 0
  Stays_so answer = HeadStays (Head_of head) (Head_of head') answer

  stayed : (crossing : Crossing) → Comes_as crossing → (answer : Tried) → r ≡ Ok answer → After_as crossing → Stays_so answer
  stayed Idle x answer q f =
      let w = set_both head t.between head' t.set (after_only t.crossing t.after answer q).set in
      subst Stays_so (ok_same r tried.Idle answer f.2 q) (x.0, ap (λ (z : SourceHead S O s). waiting_of z.pad) f.0 ∙ seen_waiting was_pad is_pad x.1 ∙ x.0, (w.number, w.source, w.given))
  stayed (To number hint sink) x answer q f = subst Stays_so (source_to t.between head' parts parts' number sink r answer q f) tt
  stayed Gone x answer q f = subst Stays_so (ok_same r tried.Moved answer f.2 q) tt
  stayed BehindEos x answer q f = subst Stays_so (ok_same r (tried.Stuck steps.Ended) answer f.2 q) tt
  stayed (Full lane) x answer q f = subst Stays_so (ok_same r (tried.Stuck (steps.NeedsRoom lane)) answer f.2 q) tt
  stayed (AtProbe command) x answer q f = subst Stays_so (ok_same r (tried.Stuck (steps.AtProbe command)) answer f.2 q) tt
  stayed NotLinked x answer q f = not_both r answer (faults.NotLinked (number_of is_pad) (crossed_count is_pad)) q f.2
  stayed AtLimit x answer q f = not_both r answer (faults.TooLong t.between.number 1099511627776 1) q f.2
  stayed OutOfMemory x answer q f = not_both r answer faults.OutOfMemory q f.2

  pub source_stayed : (answer : Tried) → r ≡ Ok answer → Stays_so answer
  source_stayed answer q = stayed t.crossing t.crossed answer q t.after

  -- where nothing moved each element is as it was
  kept_by : (crossing : Crossing) → (answer : Tried) → r ≡ Ok answer → After_as crossing → ElementsStay parts parts' answer
  kept_by Idle answer q f = kept_stays parts parts' answer (ap (λ (ps : List (Part E O e)). elements_of ps) f.1)
  kept_by (To number hint sink) answer q f = subst (ElementsStay parts parts') (source_to t.between head' parts parts' number sink r answer q f) tt
  kept_by Gone answer q f = kept_stays parts parts' answer (ap (λ (ps : List (Part E O e)). elements_of ps) f.1)
  kept_by BehindEos answer q f = kept_stays parts parts' answer (ap (λ (ps : List (Part E O e)). elements_of ps) f.1)
  kept_by (Full lane) answer q f = kept_stays parts parts' answer (ap (λ (ps : List (Part E O e)). elements_of ps) f.1)
  kept_by (AtProbe command) answer q f = kept_stays parts parts' answer (ap (λ (ps : List (Part E O e)). elements_of ps) f.1)
  kept_by NotLinked answer q f = kept_stays parts parts' answer (ap (λ (ps : List (Part E O e)). elements_of ps) f.1)
  kept_by AtLimit answer q f = kept_stays parts parts' answer (ap (λ (ps : List (Part E O e)). elements_of ps) f.1)
  kept_by OutOfMemory answer q f = kept_stays parts parts' answer (ap (λ (ps : List (Part E O e)). elements_of ps) f.1)

  pub source_kept : (answer : Tried) → r ≡ Ok answer → ElementsStay parts parts' answer
  source_kept answer q = kept_by t.crossing answer q t.after

  -- at a fault the lanes are as they were
  lanes_same : (crossing : Crossing) → Comes_as crossing → (fault : TaskFault) → r ≡ Err fault → After_as crossing → tells' ≡ tells
  lanes_same Idle x fault q f = x.2
  lanes_same (To number hint sink) x fault q f = x.1
  lanes_same Gone x fault q f = not_both r tried.Moved fault f.2 q
  lanes_same BehindEos x fault q f = x.table
  lanes_same (Full lane) x fault q f = x.table
  lanes_same (AtProbe command) x fault q f = x.table
  lanes_same NotLinked x fault q f = x.0.table
  lanes_same AtLimit x fault q f = x.3
  lanes_same OutOfMemory x fault q f = x.2

  pub source_lanes_same : (fault : TaskFault) → r ≡ Err fault → tells' ≡ tells
  source_lanes_same fault q = lanes_same t.crossing t.crossed fault q t.after

  -- why it met a fault, whatever the source owes
  abbrev Causes_as : TaskFault → Type 0
  Causes_as fault = Causes o (frame_in o (Head_of head) parts) (Head_of head) (Head_of head') parts parts' fault

  -- the element that refused an item is at the place at which it was
  abbrev back_refused : (number sink to : ℕ) (refusal : Refusal) → IsAt parts number to → SourceBack t.between head' parts parts' to sink refusal → HasRefused parts parts' number refusal
  back_refused number sink to refusal at h = record {
    place = to;
    was = h.eater;
    is = h.ate;
    was_at = h.fed.at;
    is_at = ap (λ (ps : List (Part E O e)). slice_get ps to) h.fed.set ∙ set_at parts to h.eater h.ate h.fed.at;
    number = h.fell.number ∙ ap (λ (q : Part E O e). q.number) (some_same (sym h.fed.at ∙ at.at)) ∙ at.number_is;
    cause = h.fell.cause;
  }

  caused : (crossing : Crossing) → Comes_as crossing → (fault : TaskFault) → r ≡ Err fault → After_as crossing → Causes_as fault
  caused Idle x fault q f = not_both r tried.Idle fault f.2 q
  caused (To number hint sink) x fault q f =
      let w = back_to_source t.between head' parts parts' number sink r fault q f in
      subst Causes_as (sym w.named) (by_element number w.refusal (back_refused number sink w.to w.refusal w.at w.handed))
  caused Gone x fault q f = not_both r tried.Moved fault f.2 q
  caused BehindEos x fault q f = not_both r (tried.Stuck steps.Ended) fault f.2 q
  caused (Full lane) x fault q f = not_both r (tried.Stuck (steps.NeedsRoom lane)) fault f.2 q
  caused (AtProbe command) x fault q f = not_both r (tried.Stuck (steps.AtProbe command)) fault f.2 q
  caused NotLinked x fault q f =
      subst Causes_as (ap (λ n. faults.NotLinked n (crossed_count is_pad)) (sym (same_number is_pad was_pad t.set.shape)) ∙ err_same r (faults.NotLinked (number_of is_pad) (crossed_count is_pad)) fault f.2 q)
      (unlinked (wire_of o was_pad) (crossed_count is_pad) (of_head refl) x.1)
  caused AtLimit x fault q f =
      subst Causes_as (ap (λ n. faults.TooLong n 1099511627776 1) (sym t.set.number) ∙ err_same r (faults.TooLong t.between.number 1099511627776 1) fault f.2 q) (full_head head.number (s.file head.source) (wire_of o was_pad) refl)
  caused OutOfMemory x fault q f = subst Causes_as (err_same r faults.OutOfMemory fault f.2 q) memory

  pub source_caused : (fault : TaskFault) → r ≡ Err fault → Causes_as fault
  source_caused fault q = caused t.crossing t.crossed fault q t.after

  -- what it makes of a moment
  module _ (begins : Begins s) (counts : Counts o) (m : Moment) (a : AreTied i o (Stands m) nothing_lost m (Source head) parts) where
    abbrev p : ℕ
    p = number_of head.pad

    stays : ((h : List Item) → HasCrossed head.pad h → HasCrossed t.between.pad h) → ((h : List Item) → SentOver o head.pad h → SentOver o t.between.pad h) → waiting_of t.between.pad ≡ waiting_of head.pad
        → head' ≡ t.between → parts' ≡ parts → AreTied i o (Stands m) nothing_lost m (Source head') parts'
    stays c g w h q = subst (AreTied i o (Stands m) nothing_lost m (Source head')) (sym q)
        (subst (λ (z : SourceHead S O s). AreTied i o (Stands m) nothing_lost m (Source z) parts) (sym h) (source_stays i o begins head t.between parts t.set m a c g w))

    -- the element to which the source's pad leads took the item
    handed : (number hint sink : ℕ) → Crosses o (seen head.pad) (seen t.between.pad) number hint sink → (to : ℕ) → IsAt parts number to → SourceHanded t.between head' parts parts' to sink → MovesOn i o m (passing p) (Source head') parts'
    handed number hint sink c to at h =
        let item : c.item ≡ h.item = first_same c.item h.item c.rest (waiting_of head'.pad) (sym c.waits ∙ h.taken.0) in
        let set = set_both head t.between head' t.set h.set in
        let w : waiting_of head.pad ≡ h.item ∷ waiting_of head'.pad = c.waited ∙ sym c.waits ∙ h.taken.0 in
        let goes : goes_of head'.pad ≡ inside number sink = same_goes head'.pad head.pad set.shape ∙ c.to in
        let rest : List Item = waiting_of head'.pad ++ (source_rest i o begins head head' parts set m a h.item w).rest in
        let m1 : Moment = crossed p h.item rest m in
        let a1 = source_crosses i o begins head head' parts set m a h.item w
        (λ l k. crossed_rest t.between.pad head'.pad h.rest (l ++ h.item ∷ []) (subst (λ z. HasCrossed t.between.pad (l ++ z ∷ [])) item (c.history l k)))
        (λ l k q. sent_inside o (rest_of head'.pad).behind number sink (l ++ h.item ∷ []) goes) in
        let lead : Leads m.plan p number sink × NoneAt sink (m.held number) = subst (LeadsAs m p) c.to a.head_tied.linked.leads in
        let n : h.eater.number ≡ number = ap (λ (z : Part E O e). z.number) (some_same (sym h.fed.at ∙ at.at)) ∙ at.number_is in
        let ate : part_shape h.ate ≡ part_shape h.eater = shape_at part_shape parts parts' shapes to h.eater h.ate h.fed.at (ap (λ (ps : List (Part E O e)). slice_get ps to) h.fed.set ∙ set_at parts to h.eater h.ate h.fed.at) in
        record {
          next = now o parts parts' to sink h.item h.eater h.ate h.fed ate h.took m1;
          move = passes p h.item rest h.eater.number sink (out_now o parts parts' to sink h.item h.eater h.ate h.fed ate h.took m1)
              (record {
                waited = (source_rest i o begins head head' parts set m a h.item w).whole;
                leads = subst (λ k. Leads m.plan p k sink) (sym n) lead.0;
                inner = subst (λ k. NoneAt sink (m.held k)) (sym n) lead.1;
              })
              (fed_answers o parts parts' to sink h.item h.eater h.ate h.fed ate h.took m1 a1.parts_tied);
          tied = fed_tied i o (Source head') parts parts' to sink h.item h.eater h.ate h.fed ate h.took m1 nothing_lost tt a1;
        }

    -- it refused the item
    back : (number hint sink : ℕ) → Crosses o (seen head.pad) (seen t.between.pad) number hint sink → (to : ℕ) → IsAt parts number to → (refusal : Refusal) → (h : SourceBack t.between head' parts parts' to sink refusal)
        → Left i o m (at_pad p) (Source head') parts' number sink h.item × Refuses m parts parts' number sink h.item refusal
    back number hint sink c to at refusal h =
        let item : c.item ≡ h.item = first_same c.item h.item c.rest (waiting_of h.between) (sym c.waits ∙ h.taken.0) in
        let set = set_both head t.between head' t.set h.set in
        let w : waiting_of head.pad ≡ h.item ∷ waiting_of head'.pad = c.waited ∙ sym c.waits ∙ h.taken.0 ∙ ap (λ ys. h.item ∷ ys) (sym h.waiting) in
        let goes : goes_of head'.pad ≡ inside number sink = same_goes head'.pad head.pad set.shape ∙ c.to in
        let z = source_rest i o begins head head' parts set m a h.item w in
        let rest : List Item = waiting_of head'.pad ++ z.rest in
        let mb : Moment = without_first p rest m in
        let lead : Leads m.plan p number sink × NoneAt sink (m.held number) = subst (LeadsAs m p) c.to a.head_tied.linked.leads in
        let n : h.eater.number ≡ number = ap (λ (q : Part E O e). q.number) (some_same (sym h.fed.at ∙ at.at)) ∙ at.number_is in
        let stood = (a.parts_tied.each to h.eater h.fed.at).stood in
        let waits : mb.waits p ≡ rest = at_here p rest m.waits in
        let same : number_of head'.pad ≡ p = same_number head'.pad head.pad set.shape in (
          record {
            behind = mb;
            lost = lost_at 0 h.item;
            gave_up = by_source p rest z.whole lead.0;
            of_head = tt;
            wanted = tt;
            tied = record {
              parts_tied = parts_set_at o (Stands m) (StandsOrFell number sink h.item mb) m mb parts parts' to h.eater h.ate h.fed h.fell.number
                  (λ k q at_k y. part_known o (Stands m q) (StandsOrFell number sink h.item mb q) mb q inl (elsewhere (Stands m q) rest q (a.head_tied.apart k q at_k) y))
                  (part_fell o (Stands m h.eater) (StandsOrFell number sink h.item mb h.ate) mb h.eater h.ate h.fell.number h.fell.pads h.fell.out
                  (inr (h.fell.number ∙ n, subst (λ k. e.fell h.ate.element (behavior_at m k) (m.took k) sink h.item) (sym h.fell.number) (h.fell.fell (behavior_at m h.eater.number) (m.took h.eater.number) stood)))
                  (elsewhere (Stands m h.eater) rest h.eater (a.head_tied.apart to h.eater h.fed.at) (a.parts_tied.each to h.eater h.fed.at)))
                  a.parts_tied;
              head_tied = source_set o (h.item ∷ []) m mb head head' parts parts' set refl
                  (record {
                    crossed = subst (λ k. HasCrossed head'.pad (m.history k)) (sym same)
                        (h.history (m.history p) h.item (crossed_rest t.between.pad h.between h.rest (m.history p ++ h.item ∷ []) (subst (λ y. HasCrossed t.between.pad (m.history p ++ y ∷ [])) item (c.history (m.history p) a.head_tied.linked.crossed))));
                    leads = subst (λ k. LeadsAs mb k (goes_of head'.pad)) (sym same) (subst (LeadsAs mb p) (sym goes) lead);
                    sent = sent_inside o (rest_of head'.pad).behind number sink (m.history (number_of head'.pad)) goes;
                  })
                  (ap (λ ys. m.history p ++ (h.item ∷ ys)) waits ∙ ap (λ ys. m.history p ++ ys) (sym z.whole))
                  (ap (λ ys. m.history p ++ ys) (sym w)) shapes a.head_tied;
            };
          },
          record {
            by = back_refused number sink to refusal at h;
            stood = subst (λ k. e.stands h.eater.element (behavior_at m k) (m.took k)) n stood;
            why = subst (λ k. RefusesBy (behavior_at m k) (m.took k) sink h.item refusal) n (h.fell.refused (behavior_at m h.eater.number) (m.took h.eater.number) stood);
          },
        )
      where
        elsewhere : (Q : Type 0) (rest : List Item) (q : Part E O e) → (q.number ≡ head.number → ⊥) → PartTied o Q m q → PartTied o Q (without_first p rest m) q
        elsewhere Q rest q apart y = part_at o Q m (without_first p rest m) q refl refl (λ k own. refl) (λ k own. at_other p rest m.waits k (λ w. apart (sym own ∙ ap m.plan.owner w ∙ a.head_tied.owner))) y

    abbrev Frame_was : TaskFrame
    Frame_was = frame_in o (Head_of head) parts

    pad_here_is : IsHeadPad Frame_was p
    pad_here_is = (wire_of o was_pad, refl, refl)

    abbrev Tried_here : Tried → Type 0
    Tried_here answer = HeadTriedAs i o tells tells' Frame_was m (Head_of head) (Head_of head') parts' answer

    holds_here : (step : Step) → PadHolds tells m (wire_of o was_pad) step → AreTied i o (Stands m) nothing_lost m (Head_of head') parts' → Tried_here (tried.Stuck step)
    holds_here step h tied = (tied, (wire_of o was_pad, refl, h))

    moves_here : (answer : Tried) → r ≡ Ok answer → (act : Act) → CrossesAt p act → given_by act ≡ 0 → LanesBy i Frame_was (Head_of head) (Head_of head') tells tells' act → MovesOn i o m act (Head_of head') parts' → Tried_here tried.Moved
    moves_here answer q act at none lanes w =
        let z = set_both head t.between head' t.set (after_only t.crossing t.after answer q).set in
        let g = z.given in
        record { pad = p; act = act; next = w.next; move = w.move; at = at; given = omega (arith, none, g); lanes = lanes; tied = w.tied; first = pad_here_is }

    -- the item went into the lane of the pad
    put_here : (g : Goes) (x : Item) → WentAway o x (seen was_pad) (seen is_pad) false tells tells' g → LanesBy i Frame_was (Head_of head) (Head_of head') tells tells' (gone_act g p x)
    put_here nowhere x w = (tt, w.0)
    put_here (inside n k) x w = absurd w
    put_here (over lane n k from) x w = (tt, record { wire = wire_of o was_pad; is = of_head refl; number = refl; room = record { place = w.0.place; limits = w.0.limits }; room_is = ap room_in w.1; table = w.3 })

    behind : Later (m.waits p) (waiting_of was_pad)
    behind = later o begins m head parts a.head_tied

    tried_by : (crossing : Crossing) → Comes_as crossing → (answer : Tried) → r ≡ Ok answer → After_as crossing → Tried_here answer
    tried_by Idle x answer q f = subst Tried_here (ok_same r tried.Idle answer f.2 q) (stays (seen_crossed was_pad is_pad x.1) (seen_sent o was_pad is_pad x.1) (seen_waiting was_pad is_pad x.1) f.0 f.1)
    tried_by (To number hint sink) x answer q f =
        let w = from_source t.between head' parts parts' number sink r answer q f in
        subst Tried_here (sym w.moved) (moves_here answer q (passing p) refl refl (tt, x.1) (handed number hint sink x.0 w.to w.at w.handed))
    tried_by Gone x answer q f =
        let rest : List Item = waiting_of is_pad ++ (source_rest i o begins head t.between parts t.set m a x.item x.waited).rest in
        subst Tried_here (ok_same r tried.Moved answer f.2 q) (moves_here answer q (gone_act (goes_of was_pad) p x.item) (gone_at (goes_of was_pad) p x.item) (gone_given (goes_of was_pad) p x.item) (put_here (goes_of was_pad) x.item x.way)
        (record {
          next = crossed p x.item rest m;
          move = gone_move o m p x.item rest (seen was_pad) (seen is_pad) false tells tells' (goes_of was_pad) x.way a.head_tied.linked.leads (source_rest i o begins head t.between parts t.set m a x.item x.waited).whole;
          tied = subst (AreTied i o (Stands (crossed p x.item rest m)) nothing_lost (crossed p x.item rest m) (Head_of head')) (sym f.1)
              (subst (λ (z : SourceHead S O s). AreTied i o (Stands (crossed p x.item rest m)) nothing_lost (crossed p x.item rest m) (Head_of z) parts) (sym f.0)
              (source_crosses i o begins head t.between parts t.set m a x.item x.waited x.history x.sent));
        }))
    tried_by BehindEos x answer q f =
        subst Tried_here (ok_same r (tried.Stuck steps.Ended) answer f.2 q) (holds_here steps.Ended (ended_holds o tells tells' m was_pad is_pad behind.rest a.head_tied.linked behind.whole x)
        (stays x.stands.history x.stands.sent (x.waits ∙ sym x.waited) f.0 f.1))
    tried_by (Full lane) x answer q f =
        subst Tried_here (ok_same r (tried.Stuck (steps.NeedsRoom lane)) answer f.2 q) (holds_here (steps.NeedsRoom lane) (full_holds o tells tells' m was_pad is_pad lane behind.rest a.head_tied.linked behind.whole x)
        (stays x.history x.sent (x.waits ∙ sym x.waited) f.0 f.1))
    tried_by (AtProbe command) x answer q f =
        subst Tried_here (ok_same r (tried.Stuck (steps.AtProbe command)) answer f.2 q) (holds_here (steps.AtProbe command) (probe_holds o tells tells' m was_pad is_pad command behind.rest a.head_tied.linked behind.whole x)
        (stays x.stands.history x.stands.sent (x.waits ∙ sym x.waited) f.0 f.1))
    tried_by NotLinked x answer q f = not_both r answer (faults.NotLinked (number_of is_pad) (crossed_count is_pad)) q f.2
    tried_by AtLimit x answer q f = not_both r answer (faults.TooLong t.between.number 1099511627776 1) q f.2
    tried_by OutOfMemory x answer q f = not_both r answer faults.OutOfMemory q f.2

    abbrev Failed_here : TaskFault → Type 0
    Failed_here fault = PadFails i o m (Head_of head) (Head_of head') parts parts' (IsHeadPad Frame_was) fault

    fails_here : (fault : TaskFault) → ((k : Option (List Lane)) → FailsAs i o k k m (Head_of head) (Head_of head') parts parts' (at_pad p) fault) → Failed_here fault
    fails_here fault f = record { origin = at_pad p; fails = f; first = inr (p, refl, pad_here_is) }

    -- the pad leads to the sink pad of an element of the task
    inner_wire : (number sink : ℕ) (x : Item) (k : Option (List Lane)) → goes_of was_pad ≡ inside number sink
        → WasFor i k k (frame_in o (Head_of head') parts') (Head_of head) (Head_of head') (at_pad p) number sink x
    inner_wire number sink x k goes =
        (wire_of o was_pad, subst (λ (f : TaskFrame). IsWire f (wire_of o was_pad)) (sym source_framed) (of_head refl), refl, goes, refl)

    failed_by : (crossing : Crossing) → Comes_as crossing → (fault : TaskFault) → r ≡ Err fault → After_as crossing → Failed_here fault
    failed_by Idle x fault q f = not_both r tried.Idle fault f.2 q
    failed_by (To number hint sink) x fault q f =
        let w = back_to_source t.between head' parts parts' number sink r fault q f in
        let z = back number hint sink x.0 w.to w.at w.refusal w.handed in
        subst Failed_here (sym w.named) (fails_here (refusal_fault number w.refusal) (λ k. refused (at_pad p) number sink w.handed.item w.refusal z.0 (inner_wire number sink w.handed.item k x.0.to) z.1))
    failed_by Gone x fault q f = not_both r tried.Moved fault f.2 q
    failed_by BehindEos x fault q f = not_both r (tried.Stuck steps.Ended) fault f.2 q
    failed_by (Full lane) x fault q f = not_both r (tried.Stuck (steps.NeedsRoom lane)) fault f.2 q
    failed_by (AtProbe command) x fault q f = not_both r (tried.Stuck (steps.AtProbe command)) fault f.2 q
    failed_by NotLinked x fault q f =
        let why = x.0.why (m.history p) a.head_tied.linked.crossed in
        let n : number_of is_pad ≡ p = same_number is_pad was_pad t.set.shape in
        let count : crossed_count is_pad ≡ length (m.history p) = (x.0.stands.history (m.history p) a.head_tied.linked.crossed).crossed in
        let named : faults.NotLinked p (length (m.history p)) ≡ fault = ap (λ k. faults.NotLinked k (length (m.history p))) (sym n) ∙ ap (faults.NotLinked (number_of is_pad)) (sym count) ∙ err_same r (faults.NotLinked (number_of is_pad) (crossed_count is_pad)) fault f.2 q in
        subst Failed_here named (fails_here (faults.NotLinked p (length (m.history p)))
        (λ k. not_linked p x.0.item (x.0.rest ++ behind.rest) (stays x.0.stands.history x.0.stands.sent (x.0.waits ∙ sym x.0.waited) f.0 f.1, refl) (behind.whole ∙ ap (λ ys. ys ++ behind.rest) x.0.waited) why.1
        (λ q own. subst (LeadsNowhere m.plan) (sym (a.head_tied.mine q (own ∙ a.head_tied.owner))) (subst (LeadsAs m p) why.2 a.head_tied.linked.leads))))
    failed_by AtLimit x fault q f =
        let named : faults.TooLong (m.plan.owner p) 1099511627776 1 ≡ fault = ap (λ k. faults.TooLong k 1099511627776 1) (a.head_tied.owner ∙ sym t.set.number) ∙ err_same r (faults.TooLong t.between.number 1099511627776 1) fault f.2 q in
        let w = some_first (waiting_of was_pad) x.0 in
        subst Failed_here named (fails_here (faults.TooLong (m.plan.owner p) 1099511627776 1)
        (λ k. at_limit p w.item (w.rest ++ behind.rest) (stays (seen_crossed was_pad is_pad x.2) (seen_sent o was_pad is_pad x.2) (seen_waiting was_pad is_pad x.2) f.0 f.1, refl) (behind.whole ∙ ap (λ ys. ys ++ behind.rest) w.whole) (many x.1)))
      where
        many : ((1099511627776 ≤ crossed_count was_pad) ⊎ (1099511627776 ≤ count_in (end_in o (rest_of was_pad).behind))) → 1099511627776 ≤ length (m.history p)
        many (inl low) = let c = a.head_tied.linked.crossed.crossed in omega (arith, c, low)
        many (inr low) = many_crossed o counts (rest_of was_pad).behind (m.history p) 1099511627776 a.head_tied.linked.sent (omega arith) low
    failed_by OutOfMemory x fault q f =
        subst Failed_here (err_same r faults.OutOfMemory fault f.2 q)
        (fails_here faults.OutOfMemory (λ k. no_memory (at_pad p) (stays (seen_crossed was_pad is_pad x.1) (seen_sent o was_pad is_pad x.1) (seen_waiting was_pad is_pad x.1) f.0 f.1, refl)))

    pub source_tried : (answer : Tried) → r ≡ Ok answer → Tried_here answer
    source_tried answer q = tried_by t.crossing t.crossed answer q t.after

    pub source_failed : (fault : TaskFault) → r ≡ Err fault → Failed_here fault
    source_failed fault q = failed_by t.crossing t.crossed fault q t.after

inlets_idle : {S I O : Type 0} {s : sources.Ghosts S} (head : Head S I O s) (h : InletHead I) → head ≡ Inlets h → HeadIdle head × HeadIdle head × SourceStays head head
inlets_idle (Source z) h q = absurd cc
inlets_idle (Inlets z) h q = (tt, tt, refl)

-- a head that has inlets has no pad to try
pub inlets_tried : {S E I O L : Type 0} {s : sources.Ghosts S} {e : elements.Ghosts E} (i : inlets.Ghosts I L O) (o : outlets.Ghosts O L) (tells : Option (List Lane)) (head : Head S I O s) (parts : List (Part E O e)) (h : InletHead I) → head ≡ Inlets h → AreReady i o tells head parts
    → HeadTries i o tells tells head head parts parts tried.Idle
inlets_tried i o tells head parts h same ready = record {
  ready = ready;
  spends = omega arith;
  table = refl;
  kept = refl;
  lanes = record { rows = rows_on i head; table = keeps_same (frame_in o head parts) tells tells refl };
  stays = inlets_idle head h same;
  tries = λ m a. a;
}
