-- A pad of one of the tasks of a net leads elsewhere now, and an element of the task took items: how the net stands.
use Rattle.std.proofs.Common.{◌≡◌, ℕ, true, false, List, length, Option, Some, refl, sym, ap, ◌∙◌, subst, inl, inr}
use Rattle.std.specs.Prelude.{slice_get}
use Rattle.flow_model.specs.Call.{feeds}
use Rattle.flow_model.specs.Item.{Item}
use Rattle.flow_model.specs.Link.{Span}
use Rattle.gst_item.specs.Sticky.{has_flush_stop, stickies}
use Rattle.inlet_row.specs.declared.row.InletRow.{InletRow}
use Rattle.lane_core.specs.Lane.{Lane}
use Rattle.lane_core.specs.declared.ends.Inlet as inlets
use Rattle.lane_core.specs.declared.ends.Outlet as outlets
use Rattle.flow_model.specs.Edit.{linked, undone}
use Rattle.flow_model.specs.Moment.{CellStands, Moment}
use Rattle.flow_model.specs.Split.{NoneAt}
use Rattle.flow_model.specs.Step.{Leads}
use Rattle.flow_model.specs.declared.element.TaskElement as elements
use Rattle.flow_model.specs.declared.source.TaskSource as sources
use Rattle.flow_model.proofs.Acts.{ending_keeps, linking_keeps}
use Rattle.net_task.specs.Frame.{TaskFrame, frame_in, part_frame, wire_of}
use Rattle.net_task.specs.Ties.{HeadTied, LeadsAs, PadLinked, Ties, nothing_lost}
use Rattle.net_task.specs.declared.task.Task.{Task}
use Rattle.net_turns.specs.Net.{HasElement, HasRow, LaneOut, NetReady, NetStands, Owns, part}
use Rattle.net_turns.specs.Turns.{net_left}
use Rattle.net_turns.proofs.Facts.{row_owned}
use Rattle.task_pads.specs.Behind.{goes, inside, over}
use Rattle.task_pads.specs.Pads.{IsLed, number_of}
use Rattle.task_pads.specs.declared.pad.Behind.{Behind}
use Rattle.task_pads.specs.declared.pad.Behind.TheVariants.{Nothing}
use Rattle.task_pads.specs.declared.pad.Pad.{Pad}
use Rattle.task_parts.specs.declared.head.Head.{Head}
use Rattle.task_parts.specs.declared.head.Head.TheVariants.{Source, Inlets}
use Rattle.task_parts.specs.declared.part.Part.{Part}
use Rattle.gst_value.proofs.Basics.{some_same}
use Rattle.gst_value.proofs.Places.{map_get}
use Rattle.task_edits.specs.Changes.{Changed, LedBy}
use Rattle.task_edits.specs.Feeding.{AnswersAll, given}
use Rattle.task_edits.specs.Inside.{HasNoRow, IsPadOf, inside_behind}
use Rattle.task_edits.specs.Places.{HasPad}
use Rattle.task_edits.specs.declared.inside.Inside.{Inside}
use Rattle.task_edits.proofs.Absent.{has_not}
use Rattle.task_edits.proofs.Acts.{linked_others, undone_others}
use Rattle.task_edits.proofs.Feeds.{section_more}
use Rattle.task_edits.proofs.Insides.{has_pad_of}
use Rattle.task_edits.proofs.Padding.{OthersLead, replanned}
use Rattle.net_edits.specs.Inside.{CanLinkIn, FedAll, HasInside, IsEndedInside, IsLinkedInside, IsLinkedOpened, IsTurned, StandEnded, StandLinked, TiesLinked, TiesUndone, eos_alone}
use Rattle.net_edits.proofs.Acts.{left_set, size_set}
use Rattle.net_edits.proofs.Alikes.{Alike, LeadsBack, pad_alike, same_alike}
use Rattle.net_edits.proofs.Feds.{few_rows, inner_none, refed}
use Rattle.net_edits.proofs.Restands.{net_ready, owns_pad}

module _ {S E I O L : Type 0} {s : sources.Ghosts S} {e : elements.Ghosts E} (o : outlets.Ghosts O L) where
  -- a task that is another with the same frame and head is alike
  alike_frame : (head head' : Head S I O s) (parts parts' : List (Part E O e)) → head' ≡ head → frame_in o head' parts' ≡ frame_in o head parts → Alike o head head' parts parts'
  alike_frame head head' parts parts' same frame = record {
    has = λ n w. subst (λ (f : TaskFrame). HasElement f n) frame w;
    had = λ n w. subst (λ (f : TaskFrame). HasElement f n) (sym frame) w;
    fed = λ inlets w. sym same ∙ w;
    was_fed = λ inlets w. same ∙ w;
    lanes = λ p place from n i w. subst (λ (f : TaskFrame). LaneOut f p place from n i) frame w;
  }

  alike_both : (one two three : Head S I O s) (parts parts' parts'' : List (Part E O e)) → Alike o one two parts parts' → Alike o two three parts' parts'' → Alike o one three parts parts''
  alike_both one two three parts parts' parts'' a b = record {
    has = λ n w. a.has n (b.has n w);
    had = λ n w. b.had n (a.had n w);
    fed = λ inlets w. a.fed inlets (b.fed inlets w);
    was_fed = λ inlets w. b.was_fed inlets (a.was_fed inlets w);
    lanes = λ p place from n i w. a.lanes p place from n i (b.lanes p place from n i w);
  }

-- it leads over no lane
abbrev pub LeadsOverNone : {O : Type 0} → Behind O → Type 0
LeadsOverNone behind = (lane n k from : ℕ) → goes behind ≡ over lane n k from → ⊥

pub inside_over_none : (O : Type 0) (to : Inside) → LeadsOverNone {O = O} (inside_behind to)
inside_over_none O to lane n k from same = cc

pub nothing_over_none : (O : Type 0) → LeadsOverNone {O = O} Nothing
nothing_over_none O lane n k from same = cc

module _ {S E I O L : Type 0} {s : sources.Ghosts S} {e : elements.Ghosts E} {i : inlets.Ghosts I L O} {o : outlets.Ghosts O L} (tasks tasks' : List (Task S E I O L s e i o)) (place pad : ℕ) (behind : Behind O)
    (Tied Fed : Task S E I O L s e i o → Task S E I O L s e i o → Type 0) (none_over : LeadsOverNone behind) (t : IsTurned tasks tasks' place pad behind Tied Fed) where
  turned_back : (was is : Pad O) → IsLed was is behind → LeadsBack (wire_of o was) (wire_of o is)
  turned_back was is led = record { number = led.number; leads = λ lane n from k into leads w. absurd (none_over lane n k from (sym (ap (λ (b : Behind O). goes b) led.leads) ∙ leads)) }

  alike_turned : Alike o t.was.head t.turned.head t.was.parts.items t.turned.parts.items
  alike_turned = go t.changed
    where
      go : Changed (LedBy behind t.back) (t.back ≡ behind) pad t.was.head t.was.parts.items t.turned.head t.turned.parts.items → Alike o t.was.head t.turned.head t.was.parts.items t.turned.parts.items
      go (inl (was, is, number, by, changed)) = pad_alike o t.was.head t.turned.head t.was.parts.items t.turned.parts.items was is changed (turned_back was is by.0)
      go (inr (none, h, q, k)) = same_alike o t.was.head t.turned.head t.was.parts.items t.turned.parts.items h q

  alike_all : Alike o t.was.head t.is.head t.was.parts.items t.is.parts.items
  alike_all =
      alike_both o t.was.head t.turned.head t.is.head t.was.parts.items t.turned.parts.items t.is.parts.items alike_turned (alike_frame o t.turned.head t.is.head t.turned.parts.items t.is.parts.items t.head t.frame)

  pub turned_ready : (tells : Option (List Lane)) → NetReady tasks tells → NetReady tasks' tells
  turned_ready tells ready = subst (λ (ts : List (Task S E I O L s e i o)). NetReady ts tells) (sym t.set) (net_ready tasks place t.was t.is t.at alike_all tells (t.ready tells (ready.ready place t.was t.at)) ready)

  pub turned_left : net_left tasks' ≡ net_left tasks
  turned_left = left_set tasks tasks' place pad t.was t.is t.at t.set t.moves

  pub turned_size : length tasks' ≡ length tasks
  turned_size = size_set tasks tasks' place pad t.is t.set

  -- the element is one of the task as it was
  took_owned : (to : Inside) (items : List Item) → FedAll to items t.turned t.is → Owns tasks place to.element
  took_owned to items f = record {
    task = t.was;
    at = t.at;
    has = alike_turned.has to.element (part f.took.place (part_frame o f.took.was) (map_get (part_frame o) t.turned.parts.items f.took.place f.took.was f.took.set.at) f.took.number);
  }

  -- The net stands at the moment of a graph with other links at which the element took the items.
  pub record StandsGiven (sinks : ℕ → List (List Span)) (m : Moment) (tells : Option (List Lane)) (to : Inside) (items : List Item) : Type 0 where
    pub out : ℕ → List Item
    pub answers : AnswersAll (replanned sinks m) to.element to.pad items out
    pub stands : NetStands (given to.element to.pad items out (replanned sinks m)) tasks' tells

  pub turned_stands : (sinks : ℕ → List (List Span)) (m : Moment) (tells : Option (List Lane)) (to : Inside) (items : List Item) → NetStands m tasks tells → HasPad t.was.head t.was.parts.items pad → OthersLead sinks m pad → Ties t.turned (replanned sinks m)
      → FedAll to items t.turned t.is → has_flush_stop items ≡ false → ((k : ℕ) (row : InletRow I) → HasRow tasks k to.element to.pad row → ⊥)
      → ((out : ℕ → List Item) → AnswersAll (replanned sinks m) to.element to.pad items out → (a : ℕ) → CellStands (given to.element to.pad items out (replanned sinks m)) a) → StandsGiven sinks m tells to items
  turned_stands sinks m tells to items stands has others ties f calm no_row cells =
      let owns_to = took_owned to items f in
      let fed = f.stands (replanned sinks m) ties (no_row_at owns_to t.turned.head refl) in
      record {
        out = fed.out;
        answers = fed.answers;
        stands = subst (λ (ts : List (Task S E I O L s e i o)). NetStands (given to.element to.pad items fed.out (replanned sinks m)) ts tells) (sym t.set)
            (refed tasks place t.was t.is t.at alike_all sinks m pad to.element to.pad (feeds items) fed.out tells stands (own t.changed) owns_to others no_row (section_more 0 to.pad items (m.took to.element) calm (stands.first to.element).0) fed.ties
            (t.ready tells (stands.ready place t.was t.at)) (cells fed.out fed.answers));
      }
    where
      no_row_at : Owns tasks place to.element → (h : Head S I O s) → t.turned.head ≡ h → HasNoRow h to.element to.pad
      no_row_at owns_to (Source h) is = tt
      no_row_at owns_to (Inlets h) is = λ same. few_rows tasks m tells stands place t.was t.at to.element to.pad owns_to no_row h (alike_turned.fed h is) same

      own : Changed (LedBy behind t.back) (t.back ≡ behind) pad t.was.head t.was.parts.items t.turned.head t.turned.parts.items → Owns tasks place (m.plan.owner pad)
      own (inl (was, is, number, by, changed)) = owns_pad tasks place t.was t.turned t.at alike_turned m pad was is (stands.tied place t.was t.at) number changed
      own (inr (none, h, q, k)) = absurd (has_not t.was.head t.was.parts.items pad has none)

module _ {S E I O L : Type 0} {s : sources.Ghosts S} {e : elements.Ghosts E} {i : inlets.Ghosts I L O} {o : outlets.Ghosts O L} (tasks tasks' : List (Task S E I O L s e i o)) (pad : ℕ) where
  -- the pad was linked, and the element took the items, which are the sticky events of what crossed the pad
  pub opened_stands : (to : Inside) (items : List Item) (l : IsLinkedOpened tasks tasks' pad to items) → has_flush_stop items ≡ false → (m : Moment) (tells : Option (List Lane)) → NetStands m tasks tells → CanLinkIn m tasks pad to → items ≡ stickies (m.history pad) → StandLinked m tasks' tells pad to
  opened_stands to items l calm m tells stands can events =
      let t = l.done in
      let place : ℕ = l.place in
      let over_none = inside_over_none O to in
      let same_was : l.both.task ≡ t.was = some_same (sym l.both.at ∙ t.at) in
      let has : HasPad t.was.head t.was.parts.items pad = subst (λ (task : Task S E I O L s e i o). HasPad task.head task.parts.items pad) same_was l.both.has in
      let f : FedAll to (stickies (m.history pad)) t.turned t.is = subst (λ (xs : List Item). FedAll to xs t.turned t.is) events t.fed in
      let owns_to = took_owned tasks tasks' place pad (inside_behind to) (TiesLinked pad to) (FedAll to items) over_none t to items t.fed in
      let inner : NoneAt to.pad (m.held to.element) = inner_none tasks m tells stands place t.was t.at to.element to.pad owns_to can.no_row in
      let ties : Ties t.turned (replanned (linked pad (length (m.history pad)) to.element to.pad m.plan).sinks m) =
      t.ties m (length (m.history pad)) (stands.tied place t.was t.at) (record { nowhere = can.nowhere; free = can.free; inner = inner; no_row = no_row_at m tells stands can.no_row place t.was t.at owns_to t.was.head refl }) in
      let z = turned_stands tasks tasks' place pad (inside_behind to) (TiesLinked pad to) (FedAll to items) over_none t (linked pad (length (m.history pad)) to.element to.pad m.plan).sinks m tells to (stickies (m.history pad)) stands has
      (linked_others m pad (length (m.history pad)) to.element to.pad) ties f (subst (λ (xs : List Item). has_flush_stop xs ≡ false) events calm) can.no_row
      (λ out answers a. linking_keeps m pad to.element to.pad out (record { free = can.free; inner = inner; puts_out = answers (stands.first to.element).0 }) a (stands.cells a)) in
      record {
        out = z.out;
        links = record { free = can.free; inner = inner; puts_out = z.answers (stands.first to.element).0 };
        stands = z.stands;
      }
    where
      no_row_at : (m : Moment) (tells : Option (List Lane)) (stands : NetStands m tasks tells) → ((k : ℕ) (row : InletRow I) → HasRow tasks k to.element to.pad row → ⊥) → (place : ℕ) (was : Task S E I O L s e i o) → slice_get tasks place ≡ Some was
          → Owns tasks place to.element → (h : Head S I O s) → was.head ≡ h → HasNoRow h to.element to.pad
      no_row_at m tells stands no_row place was at owns_to (Source h) is = tt
      no_row_at m tells stands no_row place was at owns_to (Inlets h) is = λ same. few_rows tasks m tells stands place was at to.element to.pad owns_to no_row h is same

  -- the pad was linked, and the element took the sticky events
  pub linked_stands : (to : Inside) (l : IsLinkedInside tasks tasks' pad to) → has_flush_stop l.items ≡ false → (m : Moment) (tells : Option (List Lane)) → NetStands m tasks tells → CanLinkIn m tasks pad to → StandLinked m tasks' tells pad to
  linked_stands to l calm m tells stands can =
      opened_stands to l.items (record { place = l.place; both = l.both; done = l.done }) calm m tells stands can (l.opening l.both.task l.both.at m (stands.tied l.place l.both.task l.both.at) l.both.has)

  -- a pad of a task is linked as the graph tells
  pad_linked : (task : Task S E I O L s e i o) (m : Moment) (p : Pad O) → Ties task m → IsPadOf task.head task.parts.items p → PadLinked o m p
  pad_linked task m p ties (IsPadOf.of_source source is same) = subst (PadLinked o m) same (subst (λ (h : Head S I O s). HeadTied i o nothing_lost m h task.parts.items) is ties.head_tied).linked
  pad_linked task m p ties (IsPadOf.of_part j port one at pad_at) = ((ties.parts_tied.each j one at).pads port p pad_at).linked

  -- where a pad leads inside of its task, the head has no row
  leads_no_row : (m : Moment) (tells : Option (List Lane)) → NetStands m tasks tells → (place : ℕ) (to : Inside) → Owns tasks place to.element → (h : HasInside tasks pad place to) → (k : ℕ) (row : InletRow I) → HasRow tasks k to.element to.pad row → ⊥
  leads_no_row m tells stands place to owns h k row r = go h.leads.is
    where
      same : h.task ≡ r.fed.task
      same = some_same (sym h.at ∙ ap (λ (x : ℕ). slice_get tasks x) (stands.wired.once place k to.element owns (row_owned tasks k to.element to.pad row r)) ∙ r.fed.at)

      head_is : h.task.head ≡ Inlets r.head
      head_is = ap (λ (t : Task S E I O L s e i o). t.head) same ∙ r.fed.head_is

      go : IsPadOf h.task.head h.task.parts.items h.leads.pad → ⊥
      go (IsPadOf.of_source source is p) = absurd (let clash : Source source ≡ Inlets r.head = sym is ∙ head_is in cc)
      go (IsPadOf.of_part j port one at pad_at) =
          (subst (λ (x : Head S I O s). HeadTied i o nothing_lost m x h.task.parts.items) head_is (stands.tied place h.task h.at).head_tied to.pad row r.at).apart j port one h.leads.pad at pad_at
          (h.leads.leads ∙ ap (λ (n : ℕ). inside n to.pad) (sym r.number))

  -- the link was undone, and the element took EOS
  pub ended_stands : IsEndedInside tasks tasks' pad → (m : Moment) (tells : Option (List Lane)) → NetStands m tasks tells → StandEnded m tasks' tells pad
  ended_stands l m tells stands =
      let t = l.done in
      let place : ℕ = l.place in
      let to : Inside = l.to in
      let over_none = nothing_over_none O in
      let same_was : l.inside.task ≡ t.was = some_same (sym l.inside.at ∙ t.at) in
      let has : HasPad t.was.head t.was.parts.items pad = subst (λ (task : Task S E I O L s e i o). HasPad task.head task.parts.items pad) same_was (has_it l.inside) in
      let owns_to = took_owned tasks tasks' place pad Nothing (TiesUndone pad) (FedAll to eos_alone) over_none t to eos_alone t.fed in
      let no_row = leads_no_row m tells stands place to owns_to l.inside in
      let linked_as = pad_linked l.inside.task m l.inside.leads.pad (stands.tied place l.inside.task l.inside.at) l.inside.leads.is in
      let leads : Leads m.plan pad to.element to.pad × NoneAt to.pad (m.held to.element) =
      subst (λ (p : ℕ). LeadsAs m p (inside to.element to.pad)) l.inside.leads.number_is (subst (LeadsAs m (number_of l.inside.leads.pad)) l.inside.leads.leads linked_as.leads) in
      let ties : Ties t.turned (replanned (undone pad (length (m.history pad)) true m.plan).sinks m) = t.ties m (length (m.history pad)) true (stands.tied place t.was t.at) in
      let z = turned_stands tasks tasks' place pad Nothing (TiesUndone pad) (FedAll to eos_alone) over_none t (undone pad (length (m.history pad)) true m.plan).sinks m tells to eos_alone stands has
      (undone_others m pad (length (m.history pad)) true) ties t.fed refl no_row
      (λ out answers a. ending_keeps m pad to.element to.pad out (record { leads = leads.0; inner = leads.1; puts_out = answers (stands.first to.element).0 }) a (stands.cells a)) in
      record {
        to = to;
        out = z.out;
        ends = record { leads = leads.0; inner = leads.1; puts_out = z.answers (stands.first to.element).0 };
        stands = z.stands;
      }
    where
      has_it : {place : ℕ} {to : Inside} (h : HasInside tasks pad place to) → HasPad h.task.head h.task.parts.items pad
      has_it h = has_pad_of h.task.head h.task.parts.items h.leads.pad pad h.leads.is h.leads.number_is
