-- A step that sends an item into a lane keeps a net: what that is.
use Rattle.std.proofs.Common.{◌≡◌, ◌≤◌, ◌^◌, ◌⊎◌, ◌++◌, ℕ, List, [], ◌∷◌, length, drop, Option, sym, ap, ◌∙◌, subst, inl, inr}
use Rattle.std.proofs.lemmas.Bool.{cases_eq}
use Rattle.std.proofs.lemmas.List.{drop-append-le}
use Rattle.flow_model.specs.Item.{Item}
use Rattle.lane_core.specs.Lane.{Lane}
use Rattle.lane_core.specs.declared.ends.Inlet as inlets
use Rattle.lane_core.specs.declared.ends.Outlet as outlets
use Rattle.flow_model.specs.Moment.{Moment, put_at}
use Rattle.flow_model.specs.Step.{Leads, Sends, crossed}
use Rattle.flow_model.proofs.Inputs.{at_here, at_other}
use Rattle.flow_model.specs.declared.element.TaskElement as elements
use Rattle.flow_model.specs.declared.source.TaskSource as sources
use Rattle.inlet_row.specs.declared.row.InletRow.{InletRow}
use Rattle.task_pads.specs.declared.pad.Pad.{Pad}
use Rattle.task_pads.specs.declared.pad.Behind.{Behind}
use Rattle.task_pads.specs.declared.pad.Behind.TheVariants as behinds
use Rattle.task_pads.specs.Behind.{Goes, SentIn, goes, inside, nowhere, over}
use Rattle.task_pads.specs.Pads.{end_of, goes_of, number_of}
use Rattle.net_task.specs.declared.task.Task.{Task}
use Rattle.net_task.specs.Frame.{TaskFrame, Wire, IsWire, frame_of, wire_of}
use Rattle.net_task.specs.Moves.{PutInto}
use Rattle.net_task.specs.Ties.{Stands, Ties, nothing_lost}
use Rattle.net_task.specs.Ready.{EndsWith}
use Rattle.net_turns.specs.Net.{HasRow, NetStands, SendsInto}
use Rattle.net_turns.proofs.Owners.{IsPadOf, pad_wire, wire_pad}
use Rattle.net_turns.proofs.Others.{pad_tied}
use Rattle.net_turns.proofs.Facts.{leads_once, row_once, sends_leads, wire_owned}
use Rattle.net_turns.proofs.Keeping.{lane_out, room_end}
use Rattle.net_turns.proofs.Lanes.{ends_once}
use Rattle.net_turns.proofs.Wired.{IsOther}
use Rattle.gst_value.proofs.Basics.{some_same}

-- the place of the pad at which a lane was made
abbrev from_of : Goes → ℕ
from_of nowhere = 0
from_of (inside n port) = 0
from_of (over lane n port from) = from

module _ {O L : Type 0} (o : outlets.Ghosts O L) where
  pub sent_from : (b : Behind O) (h : List Item) (lane n port from : ℕ) → goes b ≡ over lane n port from → SentIn o b h → from ≤ length h
  sent_from behinds.Nothing h lane n port from leads sent = absurd cc
  sent_from (behinds.Element number hint pad) h lane n port from leads sent = absurd cc
  sent_from (behinds.Lane lane' n' port' from' outlet) h lane n port from leads sent = subst (λ (k : ℕ). k ≤ length h) (ap from_of leads) sent.0

  -- No lane took more items than a put allows.
  module _ (counts : (outlet : O) (was : List Item) → o.sent outlet was → length was ≡ o.count outlet) (bounded : (outlet : O) → o.count outlet ≤ 2 ^ 62) where
    pub sent_few : (b : Behind O) (h : List Item) (lane n port from : ℕ) → goes b ≡ over lane n port from → SentIn o b h → length (drop from h) ≤ 2 ^ 62
    sent_few behinds.Nothing h lane n port from leads sent = absurd cc
    sent_few (behinds.Element number hint pad) h lane n port from leads sent = absurd cc
    sent_few (behinds.Lane lane' n' port' from' outlet) h lane n port from leads sent =
        subst (λ (k : ℕ). length (drop k h) ≤ 2 ^ 62) (ap from_of leads) (subst (λ (k : ℕ). k ≤ 2 ^ 62) (sym (counts outlet (drop from' h) sent.1)) (bounded outlet))

module _ {S E I O L : Type 0} {s : sources.Ghosts S} {e : elements.Ghosts E} {i : inlets.Ghosts I L O} {o : outlets.Ghosts O L} where
  module _ (m : Moment) (tasks tasks' : List (Task S E I O L s e i o)) (tells tells' : Option (List Lane)) (net : NetStands m tasks tells) (place : ℕ) (before after : Task S E I O L s e i o)
      (c : IsOther tasks tasks' place before after) where
    -- of what crosses a pad, the list of its lane begins at a place that it has reached
    pub sends_from : (k p lane from n port : ℕ) → SendsInto tasks k p lane from n port → from ≤ length (m.history p)
    sends_from k p lane from n port h =
        let w = wire_owned m tasks tells net k h.task h.out.wire h.at h.out.is in
        let few = sent_from o w.0.behind (m.history (number_of w.0)) h.out.lane n port from (sym (ap (λ (x : Wire). x.leads) w.2) ∙ h.out.leads) w.3.sent in
        subst (λ (q : ℕ). from ≤ length (m.history q)) (sym (ap (λ (x : Wire). x.number) w.2) ∙ h.out.number) few

    module _ (p : ℕ) (x : Item) (rest : List Item) (n port : ℕ) (sends : Sends m p x rest n port) (put : PutInto (frame_of before) p x tells tells') where
      -- the pad leads over the lane into which the item was put
      pub put_sends : (from : ℕ) × SendsInto tasks place p put.room.place from n port
      put_sends =
          let w = wire_owned m tasks tells net place before put.wire c.at put.is in
          let end = room_end o (end_of o w.0) put.room (sym (ap (λ (one : Wire). one.room) w.2) ∙ put.room_is) in
          let over_it = lane_out before w.0 w.1 end.0 end.1 in
          let number : number_of w.0 ≡ p = sym (ap (λ (one : Wire). one.number) w.2) ∙ put.number in
          let into : SendsInto tasks place p put.room.place over_it.from over_it.n over_it.port =
          subst (λ (q : ℕ). SendsInto tasks place q put.room.place over_it.from over_it.n over_it.port) number
          (subst (λ (q : ℕ). SendsInto tasks place (number_of w.0) q over_it.from over_it.n over_it.port) end.2 record { task = before; at = c.at; out = over_it.out }) in
          let once = leads_once m.plan p over_it.n over_it.port n port (sends_leads m tasks tells net place p put.room.place over_it.from over_it.n over_it.port into) sends.leads in (
            over_it.from,
            subst (λ (a : ℕ). SendsInto tasks place p put.room.place over_it.from a port) once.0 (subst (λ (a : ℕ). SendsInto tasks place p put.room.place over_it.from over_it.n a) once.1 into),
          )

      -- the row at whose end that lane stands
      pub put_row : (r : ℕ) × (row : InletRow I) × HasRow tasks r n port row × EndsWith i row put.room.place
      put_row = net.wired.paired place p put.room.place put_sends.0 n port put_sends.1

      -- only this pad leads into it
      pub put_once : (k q from n' port' : ℕ) → SendsInto tasks k q put.room.place from n' port' → (k ≡ place) × (q ≡ p)
      put_once k q from n' port' h = net.wired.one_sends k place q p put.room.place from put_sends.0 n' n port' port h put_sends.1

      -- and it leads into no other
      pub put_else : (k q lane from n' port' : ℕ) → SendsInto tasks k q lane from n' port' → q ≡ p → lane ≡ put.room.place
      put_else k q lane from n' port' h same =
          let once = leads_once m.plan p n' port' n port (subst (λ (r : ℕ). Leads m.plan r n' port') same (sends_leads m tasks tells net k q lane from n' port' h)) sends.leads in
          let pair = net.wired.paired k q lane from n' port' h in
          let here : HasRow tasks pair.0 n port pair.1 =
          subst (λ (a : ℕ). HasRow tasks pair.0 a port pair.1) once.0 (subst (λ (a : ℕ). HasRow tasks pair.0 n' a pair.1) once.1 pair.2) in
          let row : pair.1 ≡ put_row.1 = row_once tasks net.wired pair.0 put_row.0 n port pair.1 put_row.1 here put_row.2 in
          ends_once i put_row.1 lane put.room.place (subst (λ (one : InletRow I). EndsWith i one lane) row pair.3) put_row.3

      abbrev pub sents_then : ℕ → List Item
      sents_then = put_at put.room.place (net.sents put.room.place ++ x ∷ []) net.sents

      pub put_sent : (k q lane from n' port' : ℕ) → SendsInto tasks k q lane from n' port' → sents_then lane ≡ drop from ((crossed p x rest m).history q)
      put_sent k q lane from n' port' h = go (cases_eq lane put.room.place)
        where
          here : lane ≡ put.room.place → q ≡ p → sents_then lane ≡ drop from ((crossed p x rest m).history q)
          here same pad =
              ap sents_then same
              ∙ (at_here put.room.place (net.sents put.room.place ++ x ∷ []) net.sents
              ∙ (ap (λ (l : ℕ). net.sents l ++ x ∷ []) (sym same)
              ∙ (ap (λ (l : List Item). l ++ x ∷ []) (net.sent k q lane from n' port' h)
              ∙ (sym (drop-append-le from (m.history q) (x ∷ []) (sends_from k q lane from n' port' h))
              ∙ (ap (λ (r : ℕ). drop from (m.history r ++ x ∷ [])) pad
              ∙ ap (λ (l : List Item). drop from l) (sym (ap (crossed p x rest m).history pad ∙ at_here p (m.history p ++ x ∷ []) m.history)))))))

          there : (lane ≡ put.room.place → ⊥) → sents_then lane ≡ drop from ((crossed p x rest m).history q)
          there apart =
              at_other put.room.place (net.sents put.room.place ++ x ∷ []) net.sents lane apart
              ∙ (net.sent k q lane from n' port' h ∙ ap (λ (l : List Item). drop from l) (sym (at_other p (m.history p ++ x ∷ []) m.history q (λ same. apart (put_else k q lane from n' port' h same)))))

          go : (lane ≡ put.room.place) ⊎ (lane ≡ put.room.place → ⊥) → sents_then lane ≡ drop from ((crossed p x rest m).history q)
          go (inl same) = here same (put_once k q from n' port' (subst (λ (l : ℕ). SendsInto tasks k q l from n' port') same h)).1
          go (inr apart) = there apart

      -- the pads of the task lead where they led
      pub pad_before : (pad : Pad O) → IsPadOf after.head after.parts.items pad → (was : Pad O) × IsPadOf before.head before.parts.items was × (goes_of was ≡ goes_of pad)
      pad_before pad is =
          let wire = subst (λ (frame : TaskFrame). IsWire frame (wire_of o pad)) c.frame (pad_wire o after.head after.parts.items pad is) in
          let was = wire_pad o before.head before.parts.items (wire_of o pad) wire in
          (was.0, was.1, sym (ap (λ (one : Wire). one.leads) was.2))

      -- what its lane took in all is not more than a put allows
      pub put_few : ((outlet : O) (was : List Item) → o.sent outlet was → length was ≡ o.count outlet) → ((outlet : O) → o.count outlet ≤ 2 ^ 62) → Ties after (crossed p x rest m)
          → length (net.sents put.room.place ++ x ∷ []) ≤ 2 ^ 62
      put_few counts bounded tied =
          let into = put_sends.1 in
          let frame : frame_of after ≡ frame_of into.task = c.frame ∙ ap (λ (t : Task S E I O L s e i o). frame_of t) (some_same (sym c.at ∙ into.at)) in
          let pad = wire_pad o after.head after.parts.items into.out.wire (subst (λ (f : TaskFrame). IsWire f into.out.wire) (sym frame) into.out.is) in
          let linked = (pad_tied i o (Stands (crossed p x rest m)) nothing_lost (crossed p x rest m) after.head after.parts.items tied pad.0 pad.1).0 in
          let number : number_of pad.0 ≡ p = sym (ap (λ (one : Wire). one.number) pad.2) ∙ into.out.number in
          let few : length (drop put_sends.0 ((crossed p x rest m).history (number_of pad.0))) ≤ 2 ^ 62 =
          sent_few o counts bounded pad.0.behind ((crossed p x rest m).history (number_of pad.0)) into.out.lane n port put_sends.0 (sym (ap (λ (one : Wire). one.leads) pad.2) ∙ into.out.leads) linked.sent in
          let then' = put_sent place p put.room.place put_sends.0 n port into in
          subst (λ (l : List Item). length l ≤ 2 ^ 62) (sym (sym (at_here put.room.place (net.sents put.room.place ++ x ∷ []) net.sents) ∙ then'))
          (subst (λ (q : ℕ). length (drop put_sends.0 ((crossed p x rest m).history q)) ≤ 2 ^ 62) number few)
