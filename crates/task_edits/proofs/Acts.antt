-- A probe, an undone link and a link over a new lane, at a moment.
use Rattle.std.proofs.Common.{◌≡◌, ℕ, Bool, true, None, Some, List, drop, sym, ap, ◌∙◌, subst, arith, inl, inr, Option}
use Rattle.std.proofs.Math.Seq.{drop-length}
use Rattle.lane_core.specs.Lane.{Lane}
use Rattle.lane_core.specs.declared.ends.Inlet as inlets
use Rattle.lane_core.specs.declared.ends.Outlet as outlets
use Rattle.flow_model.specs.Edit.{linked, undone}
use Rattle.flow_model.specs.Moment.{Moment}
use Rattle.flow_model.specs.Step.{planned}
use Rattle.flow_model.specs.declared.element.TaskElement as elements
use Rattle.flow_model.specs.declared.source.TaskSource as sources
use Rattle.net_task.specs.Ties.{AreTied, LeadsAs, PadLinked, Stands, nothing_lost}
use Rattle.net_task.proofs.Linked.{linked_stays, same_goes, same_number}
use Rattle.pad_core.specs.declared.probe.Probe.{Probe}
use Rattle.net_task.specs.Frame.{room_in}
use Rattle.net_task.specs.Ready.{AreReady}
use Rattle.task_pads.specs.Behind.{EndReady, Goes, nowhere, inside, over, SentIn, end_in, goes}
use Rattle.task_pads.specs.Pads.{HasCrossed, crossed_count, IsLed, IsProbed, goes_of, number_of, rest_of}
use Rattle.task_pads.specs.declared.pad.Behind.{Behind}
use Rattle.task_pads.specs.declared.pad.Behind.TheVariants as behinds
use Rattle.task_pads.specs.declared.pad.Pad.{Pad}
use Rattle.task_parts.specs.Shape.{PartShape, goes_within, is_closed, shape_of}
use Rattle.task_parts.specs.declared.head.Head.{Head}
use Rattle.task_parts.specs.declared.part.Part.{Part}
use Rattle.task_edits.specs.Changes.{Changed, LedBy, ProbedBy}
use Rattle.task_edits.specs.Leads.{CanLink, lane_behind}
use Rattle.task_edits.specs.declared.leading.NewLane.{NewLane}
use Rattle.task_edits.proofs.LinksMade.{linked_leads, linked_leads_else, linked_nowhere, undone_leads, undone_leads_nowhere, undone_nowhere}
use Rattle.task_edits.proofs.Padding.{OthersLead, tied_with, tied_without}
use Rattle.task_edits.proofs.Wiring.{closed_with, left_in, left_same, ready_with}

-- where another pad's link is undone or made, a pad leads where it led
pub undone_others : (m : Moment) (p place : ℕ) (eos : Bool) → OthersLead (undone p place eos m.plan).sinks m p
undone_others m p place eos q nowhere ne l = undone_nowhere m.plan p q place eos ne l
undone_others m p place eos q (inside e i) ne l = (undone_leads m.plan p q place eos e i ne l.0, l.1)
undone_others m p place eos q (over lane e i from) ne l = undone_leads m.plan p q place eos e i ne l

pub linked_others : (m : Moment) (p place d j : ℕ) → OthersLead (linked p place d j m.plan).sinks m p
linked_others m p place d j q nowhere ne l = linked_nowhere m.plan p q place d j ne l
linked_others m p place d j q (inside e i) ne l = (linked_leads_else m.plan p q place d j e i ne l.0, l.1)
linked_others m p place d j q (over lane e i from) ne l = linked_leads_else m.plan p q place d j e i ne l

module _ {O L : Type 0} (o : outlets.Ghosts O L) where
  probed_linked : (m : Moment) (was is : Pad O) (probe : Option Probe) → IsProbed was is probe → PadLinked o m was → PadLinked o m is
  probed_linked m was is probe p l = linked_stays o m was is p.shape p.history (λ h sent. subst (λ (b : Behind O). SentIn o b h) (sym p.behind) sent) l

  unlinked_linked : (m : Moment) (place : ℕ) (eos : Bool) (was is : Pad O) → IsLed was is behinds.Nothing → PadLinked o m was → PadLinked o (planned (undone (number_of was) place eos m.plan) m) is
  unlinked_linked m place eos was is led l =
      let m' : Moment = planned (undone (number_of was) place eos m.plan) m in
      record {
        crossed = subst (λ (n : ℕ). HasCrossed is (m.history n)) (sym led.number) (led.history (m.history (number_of was)) l.crossed);
        leads = subst (λ (b : Behind O). LeadsAs m' (number_of is) (goes b)) (sym led.leads) (subst (λ n. LeadsAs m' n nowhere) (sym led.number) (undone_leads_nowhere m.plan (number_of was) place eos));
        sent = subst (λ (b : Behind O). SentIn o b (m.history (number_of is))) (sym led.leads) tt;
      }

  over_linked : (m : Moment) (was is : Pad O) (to : NewLane O) → IsLed was is (lane_behind to) → CanLink o m (number_of was) to → PadLinked o m was → PadLinked o (planned (linked (number_of was) to.from to.element to.pad m.plan) m) is
  over_linked m was is to led can l =
      let m' : Moment = planned (linked (number_of was) to.from to.element to.pad m.plan) m in
      record {
        crossed = subst (λ (n : ℕ). HasCrossed is (m.history n)) (sym led.number) (led.history (m.history (number_of was)) l.crossed);
        leads = subst (λ (b : Behind O). LeadsAs m' (number_of is) (goes b)) (sym led.leads)
            (subst (λ (n : ℕ). LeadsAs m' n (goes (lane_behind to))) (sym led.number) (linked_leads m.plan (number_of was) to.from to.element to.pad can.free can.nowhere));
        sent = subst (λ (b : Behind O). SentIn o b (m.history (number_of is))) (sym led.leads)
            (subst (λ (n : ℕ). SentIn o (lane_behind to) (m.history n)) (sym led.number)
            (let place = can.place in omega (arith, place), subst (λ (k : ℕ). o.sent to.outlet (drop k (m.history (number_of was)))) (sym can.place) (subst (o.sent to.outlet) (sym (drop-length (m.history (number_of was)))) can.unsent)));
      }

module _ {S E I O L : Type 0} {s : sources.Ghosts S} {e : elements.Ghosts E} (i : inlets.Ghosts I L O) (o : outlets.Ghosts O L) (head head' : Head S I O s) (parts parts' : List (Part E O e)) where
  pub stays_tied : (m : Moment) → head' ≡ head → parts' ≡ parts → AreTied i o (Stands m) nothing_lost m head parts → AreTied i o (Stands m) nothing_lost m head' parts'
  stays_tied m h p t =
      subst (λ (x : Head S I O s). AreTied i o (Stands m) nothing_lost m x parts') (sym h) (subst (λ (ps : List (Part E O e)). AreTied i o (Stands m) nothing_lost m head ps) (sym p) t)

  -- a task whose pad has another probe stands for the moment
  pub probe_tied : (probe : Option Probe) (pad : ℕ) → Changed (ProbedBy probe) (Unit {0}) pad head parts head' parts' → (m : Moment) → AreTied i o (Stands m) nothing_lost m head parts → AreTied i o (Stands m) nothing_lost m head' parts'
  probe_tied probe pad (inl (was, is, number, by, changed)) m t =
      tied_with i o m.plan.sinks m head head' parts parts' was is changed (same_number is was by.shape) by.waiting (λ n k g. sym (same_goes is was by.shape) ∙ g) (λ q g ne l. l) (probed_linked o m was is probe by) t
  probe_tied probe pad (inr (none, h, p, k)) m t = stays_tied m h p t

  -- a task whose pad was unlinked stands for the moment at which the graph has lost that link
  pub unlinked_tied : (back : Behind O) (pad : ℕ) → Changed (LedBy behinds.Nothing back) (back ≡ behinds.Nothing) pad head parts head' parts' → (m : Moment) (place : ℕ) (eos : Bool) → AreTied i o (Stands m) nothing_lost m head parts
      → AreTied i o (Stands (planned (undone pad place eos m.plan) m)) nothing_lost (planned (undone pad place eos m.plan) m) head' parts'
  unlinked_tied back pad (inl (was, is, number, by, changed)) m place eos t =
      subst (λ (n : ℕ). AreTied i o (Stands (planned (undone n place eos m.plan) m)) nothing_lost (planned (undone n place eos m.plan) m) head' parts') number
      (tied_with i o (undone (number_of was) place eos m.plan).sinks m head head' parts parts' was is changed by.0.number by.0.waiting (λ n k g. absurd (not_inside is n k by.0.leads g)) (undone_others m (number_of was) place eos) (unlinked_linked o m place eos was is by.0) t)
    where
      not_inside : (is : Pad O) (n k : ℕ) → (rest_of is).behind ≡ behinds.Nothing → goes_of is ≡ inside n k → ⊥
      not_inside is n k leads g = let same : nowhere ≡ inside n k = sym (ap (λ (b : Behind O). goes b) leads) ∙ g in cc
  unlinked_tied back pad (inr (none, h, p, k)) m place eos t =
      let m' : Moment = planned (undone pad place eos m.plan) m in
      stays_tied m' h p (tied_without i o (undone pad place eos m.plan).sinks m pad head parts none (undone_others m pad place eos) t)

  -- a task whose pad was linked over a new lane stands for the moment at which the graph has got that link
  pub over_tied : (to : NewLane O) (back : Behind O) (pad : ℕ) → Changed (LedBy (lane_behind to) back) (back ≡ lane_behind to) pad head parts head' parts' → (m : Moment) → AreTied i o (Stands m) nothing_lost m head parts → CanLink o m pad to
      → AreTied i o (Stands (planned (linked pad to.from to.element to.pad m.plan) m)) nothing_lost (planned (linked pad to.from to.element to.pad m.plan) m) head' parts'
  over_tied to back pad (inl (was, is, number, by, changed)) m t can =
      subst (λ (n : ℕ). AreTied i o (Stands (planned (linked n to.from to.element to.pad m.plan) m)) nothing_lost (planned (linked n to.from to.element to.pad m.plan) m) head' parts') number
      (tied_with i o (linked (number_of was) to.from to.element to.pad m.plan).sinks m head head' parts parts' was is changed by.0.number by.0.waiting (λ n k g. absurd (not_inside n k g))
      (linked_others m (number_of was) to.from to.element to.pad) (over_linked o m was is to by.0 (subst (λ (n : ℕ). CanLink o m n to) (sym number) can)) t)
    where
      not_inside : (n k : ℕ) → goes_of is ≡ inside n k → ⊥
      not_inside n k g = let same : goes (lane_behind to) ≡ inside n k = sym (ap (λ (b : Behind O). goes b) by.0.leads) ∙ g in cc
  over_tied to back pad (inr (none, h, p, k)) m t can =
      let m' : Moment = planned (linked pad to.from to.element to.pad m.plan) m in
      stays_tied m' h p (tied_without i o (linked pad to.from to.element to.pad m.plan).sinks m pad head parts none (linked_others m pad to.from to.element to.pad) t)

-- the parts of a task are those that were changed
pub changed_as : {S E I O : Type 0} {s : sources.Ghosts S} {e : elements.Ghosts E} (By : Pad O → Pad O → Type 0) (Kept : Type 0) (number : ℕ) (before head now after : Head S I O s) (parts_before parts parts_now parts_after : List (Part E O e))
    → head ≡ before → parts ≡ parts_before → after ≡ now → parts_after ≡ parts_now → Changed By Kept number head parts now parts_now → Changed By Kept number before parts_before after parts_after
changed_as By Kept number before head now after parts_before parts parts_now parts_after h p h' p' c =
    subst (λ x. Changed By Kept number x parts_before after parts_after) h
    (subst (λ ps. Changed By Kept number head ps after parts_after) p
    (subst (λ x. Changed By Kept number head parts x parts_after) (sym h') (subst (λ ps. Changed By Kept number head parts now ps) (sym p') c)))

module _ {S E I O : Type 0} {s : sources.Ghosts S} {e : elements.Ghosts E} (head head' : Head S I O s) (parts parts' : List (Part E O e)) where
  pub stays_closed : head' ≡ head → parts' ≡ parts → is_closed (shape_of head parts) ≡ true → is_closed (shape_of head' parts') ≡ true
  stays_closed h p closed = subst (λ (x : Head S I O s). is_closed (shape_of x parts') ≡ true) (sym h) (subst (λ (ps : List (Part E O e)). is_closed (shape_of head ps) ≡ true) (sym p) closed)

  pub probe_closed : (probe : Option Probe) (pad : ℕ) → Changed (ProbedBy probe) (Unit {0}) pad head parts head' parts' → is_closed (shape_of head parts) ≡ true → is_closed (shape_of head' parts') ≡ true
  probe_closed probe pad (inl (was, is, number, by, changed)) closed = closed_with head head' parts parts' was is changed (λ all within. subst (λ (g : Goes). goes_within all g ≡ true) (sym (same_goes is was by.shape)) within) closed
  probe_closed probe pad (inr (none, h, p, k)) closed = stays_closed h p closed

  -- a pad that leads out of the task
  pub led_closed : (behind back : Behind O) (Kept : Type 0) (pad : ℕ) → ((all : List PartShape) → goes_within all (goes behind) ≡ true) → Changed (LedBy behind back) Kept pad head parts head' parts' → is_closed (shape_of head parts) ≡ true
      → is_closed (shape_of head' parts') ≡ true
  led_closed behind back Kept pad out (inl (was, is, number, by, changed)) closed =
      closed_with head head' parts parts' was is changed (λ all within. subst (λ (b : Behind O). goes_within all (goes b) ≡ true) (sym by.0.leads) (out all)) closed
  led_closed behind back Kept pad out (inr (none, h, p, k)) closed = stays_closed h p closed

module _ {S E I O L : Type 0} {s : sources.Ghosts S} {e : elements.Ghosts E} (i : inlets.Ghosts I L O) (head head' : Head S I O s) (parts parts' : List (Part E O e)) where
  -- what a task can still move
  pub changed_left : (By : Pad O → Pad O → Type 0) (Kept : Type 0) (pad : ℕ) → ((was is : Pad O) → By was is → crossed_count is ≡ crossed_count was) → Changed By Kept pad head parts head' parts' → left_in i head' parts' ≡ left_in i head parts
  changed_left By Kept pad counted (inl (was, is, number, by, changed)) = left_same i head head' parts parts' was is changed (counted was is by)
  changed_left By Kept pad counted (inr (none, h, p, k)) = ap (λ (x : Head S I O s). left_in i x parts') h ∙ ap (left_in i head) p

module _ {S E I O L : Type 0} {s : sources.Ghosts S} {e : elements.Ghosts E} (i : inlets.Ghosts I L O) (o : outlets.Ghosts O L) (tells : Option (List Lane)) (head head' : Head S I O s) (parts parts' : List (Part E O e)) where
  pub stays_ready : head' ≡ head → parts' ≡ parts → AreReady i o tells head parts → AreReady i o tells head' parts'
  stays_ready h p r = subst (λ (x : Head S I O s). AreReady i o tells x parts') (sym h) (subst (λ (ps : List (Part E O e)). AreReady i o tells head ps) (sym p) r)

  pub probe_ready : (probe : Option Probe) (pad : ℕ) → Changed (ProbedBy probe) (Unit {0}) pad head parts head' parts' → AreReady i o tells head parts → AreReady i o tells head' parts'
  probe_ready probe pad (inl (was, is, number, by, changed)) r =
      ready_with i o tells head head' parts parts' was is changed (λ ready. subst (λ (b : Behind O). EndReady tells (end_in o b)) (sym by.behind) ready)
      (λ n l. record { room = l.room; room_is = ap (λ (b : Behind O). room_in (end_in o b)) (sym by.behind) ∙ l.room_is; place_is = l.place_is }) r
  probe_ready probe pad (inr (none, h, p, k)) r = stays_ready h p r

  pub unlinked_ready : (back : Behind O) (pad : ℕ) → Changed (LedBy behinds.Nothing back) (back ≡ behinds.Nothing) pad head parts head' parts' → AreReady i o tells head parts → AreReady i o tells head' parts'
  unlinked_ready back pad (inl (was, is, number, by, changed)) r =
      ready_with i o tells head head' parts parts' was is changed (λ ready. subst (λ (b : Behind O). EndReady tells (end_in o b)) (sym by.0.leads) tt)
      (λ n l. let none : None ≡ Some l.room = ap (λ (b : Behind O). room_in (end_in o b)) (sym by.0.leads) ∙ l.room_is in absurd cc) r
  unlinked_ready back pad (inr (none, h, p, k)) r = stays_ready h p r
