-- EOS was put into a row of a head, and the link of a pad over a lane was undone: the tasks have the elements of the graph as they did.
use Rattle.std.proofs.Common.{◌≡◌, ◌⊎◌, ℕ, List, Option, Some, length, map, refl, sym, ap, ◌∙◌, subst, inl, inr}
use Rattle.std.specs.Prelude.{slice_get, slice_set}
use Rattle.std.proofs.lemmas.Bool.{cases_eq}
use Rattle.lane_core.specs.Lane.{Lane}
use Rattle.lane_core.specs.declared.ends.Inlet as inlets
use Rattle.lane_core.specs.declared.ends.Outlet as outlets
use Rattle.flow_model.specs.Moment.{Moment}
use Rattle.flow_model.specs.declared.element.TaskElement as elements
use Rattle.flow_model.specs.declared.source.TaskSource as sources
use Rattle.inlet_row.specs.declared.feeding.Feeding.{Feeding}
use Rattle.inlet_row.specs.declared.row.InletRow.{InletRow}
use Rattle.task_pads.proofs.Lists.{set_length, set_there}
use Rattle.task_pads.specs.Behind.{over}
use Rattle.task_parts.specs.declared.head.Head.{Head}
use Rattle.task_parts.specs.declared.head.Head.TheVariants.{Inlets}
use Rattle.task_parts.specs.declared.head.InletHead.{InletHead}
use Rattle.task_parts.specs.declared.part.Part.{Part}
use Rattle.task_parts.proofs.Lists.{each_set}
use Rattle.gst_value.proofs.Basics.{some_same}
use Rattle.gst_value.proofs.Places.{set_at}
use Rattle.net_task.specs.declared.task.Task.{Task}
use Rattle.net_task.specs.Frame.{IsWire, TaskFrame, Wire, by_inlets, frame_in, frame_of, head_frame, part_frame, wire_of}
use Rattle.net_turns.specs.Net.{HasElement, HasRow}
use Rattle.net_edits.specs.Ending.{IsEndedOver}
use Rattle.net_edits.specs.Over.{IsGrownAt, TaskGrew}
use Rattle.net_groups.specs.Places.{FedAt, HasWire}
use Rattle.graph_edits.specs.Edited.{Edited}
use Rattle.edit_core.specs.Tasks.{AreTasksOf, IsReachedIn, number_of_head}
use Rattle.edit_core.specs.Ways.{IsRun}
use Rattle.edit_acts.specs.Undoing.{LeadsNoneInside}
use Rattle.edit_acts.proofs.Cut.{LeadsBy}
use Rattle.edit_acts.proofs.Made.{AreMadeOf, IsRowOf, IsSource, are_again, made_both}
use Rattle.edit_acts.proofs.Reached.{still_reached}
use Rattle.edit_acts.proofs.Undone.{none_leads, pad_is_wire}
use Rattle.edit_acts.proofs.Unlinked.{AreCut, cut_made, unlinked_cut}

abbrev shaped : {E O L : Type 0} {e : elements.Ghosts E} → outlets.Ghosts O L → ℕ → ℕ → List (Part E O e) → TaskFrame
shaped o n rows parts = record { head = by_inlets n rows; parts = map (part_frame o) parts }

module _ {S E I O L : Type 0} {s : sources.Ghosts S} {e : elements.Ghosts E} {i : inlets.Ghosts I L O} {o : outlets.Ghosts O L} where
  grew_frame : (was is : Task S E I O L s e i o) (port : ℕ) (more : List (Feeding I)) → TaskGrew was is port more → frame_of is ≡ frame_of was
  grew_frame was is port more z =
      ap (λ (h : Head S I O s). frame_in o h is.parts.items) z.fed
      ∙ ap (λ (ps : List (Part E O e)). shaped o z.new.number (length z.new.rows.items) ps) z.parts
      ∙ ap (λ (n : ℕ). shaped o n (length z.new.rows.items) was.parts.items) z.grew.number
      ∙ ap (λ (n : ℕ). shaped o z.old.number n was.parts.items) (ap (λ (rs : List (InletRow I)). length rs) z.grew.set ∙ set_length z.old.rows.items port z.grew.grown)
      ∙ sym (ap (λ (h : Head S I O s). frame_in o h was.parts.items) z.was_fed)

  number_fed : (task : Task S E I O L s e i o) (head : InletHead I) → task.head ≡ Inlets head → number_of_head (frame_of task).head ≡ head.number
  number_fed task head is = ap (λ (h : Head S I O s). number_of_head (head_frame o h)) is

  module _ (tasks tasks' : List (Task S E I O L s e i o)) (receiver port : ℕ) (more : List (Feeding I)) (z : IsGrownAt tasks tasks' receiver port more) where
    -- the task of a place as it was, with the same frame: the same, or the one that grew
    pub record From (k : ℕ) (is : Task S E I O L s e i o) : Type 0 where
      pub was : Task S E I O L s e i o
      pub at : slice_get tasks k ≡ Some was
      pub frame : frame_of is ≡ frame_of was
      pub which : (is ≡ was) ⊎ (k ≡ receiver)

    pub from : (k : ℕ) (is : Task S E I O L s e i o) → slice_get tasks' k ≡ Some is → From k is
    from = each_set tasks tasks' receiver z.is (λ k t. From k t) (λ k t. From k t) z.set (λ k t at. record { was = t; at = at; frame = refl; which = inl refl }) (λ k t other at y. y)
        (record { was = z.was; at = z.at; frame = grew_frame z.was z.is port more z.grew; which = inr refl })

    pub record To (k : ℕ) (was : Task S E I O L s e i o) : Type 0 where
      pub is : Task S E I O L s e i o
      pub at : slice_get tasks' k ≡ Some is
      pub frame : frame_of is ≡ frame_of was
      pub fed : (head : InletHead I) → was.head ≡ Inlets head → (new : InletHead I) × (is.head ≡ Inlets new)

    pub to : (k : ℕ) (was : Task S E I O L s e i o) → slice_get tasks k ≡ Some was → To k was
    to k was at = go (cases_eq k receiver)
      where
        in_list : (t : Task S E I O L s e i o) → slice_get (slice_set tasks receiver z.is) k ≡ Some t → slice_get tasks' k ≡ Some t
        in_list t got = ap (λ (ts : List (Task S E I O L s e i o)). slice_get ts k) z.set ∙ got

        go : (k ≡ receiver) ⊎ (k ≡ receiver → ⊥) → To k was
        go (inl same) =
            let it : z.was ≡ was = some_same (sym z.at ∙ ap (λ (x : ℕ). slice_get tasks x) (sym same) ∙ at) in
            record {
              is = z.is;
              at = in_list z.is (ap (λ (x : ℕ). slice_get (slice_set tasks receiver z.is) x) same ∙ set_at tasks receiver z.was z.is z.at);
              frame = grew_frame z.was z.is port more z.grew ∙ ap (λ (t : Task S E I O L s e i o). frame_of t) it;
              fed = λ head is. (z.grew.new, z.grew.fed);
            }
        go (inr other) = record { is = was; at = in_list was (set_there tasks receiver k z.is other ∙ at); frame = refl; fed = λ head is. (head, is) }

    pub fed_on : (k n : ℕ) → FedAt tasks k n → FedAt tasks' k n
    fed_on k n f =
        let y = to k f.fed.task f.fed.at in
        let h = y.fed f.head f.fed.head_is in
        record {
          head = h.0;
          fed = record { task = y.is; at = y.at; head_is = h.1 };
          number = sym (number_fed y.is h.0 h.1) ∙ ap (λ (t : TaskFrame). number_of_head t.head) y.frame ∙ number_fed f.fed.task f.head f.fed.head_is ∙ f.number;
        }

    module _ (j lane element pad start : ℕ) (wire : Wire) (has : HasWire tasks j wire) (leads : wire.leads ≡ over lane element pad start) (row : InletRow I) (feeds : HasRow tasks receiver element port row) where
      rows : (k n to : ℕ) (one : InletRow I) → HasRow tasks' k n to one → IsRowOf tasks n to one
      rows k n to one w = go (from k w.fed.task w.fed.at)
        where
          go : From k w.fed.task → IsRowOf tasks n to one
          go y = by y.which
            where
              by : (w.fed.task ≡ y.was) ⊎ (k ≡ receiver) → IsRowOf tasks n to one
              by (inl same) =
                  IsRowOf.of_old k (record { head = w.head; fed = record { task = y.was; at = y.at; head_is = ap (λ (t : Task S E I O L s e i o). t.head) (sym same) ∙ w.fed.head_is }; number = w.number; at = w.at })
              by (inr same) =
                  let it : feeds.fed.task ≡ y.was = some_same (sym feeds.fed.at ∙ ap (λ (x : ℕ). slice_get tasks x) (sym same) ∙ y.at) in
                  let number : element ≡ n =
                  sym feeds.number
                  ∙ sym (number_fed feeds.fed.task feeds.head feeds.fed.head_is)
                  ∙ ap (λ (t : Task S E I O L s e i o). number_of_head (frame_of t).head) it
                  ∙ ap (λ (t : TaskFrame). number_of_head t.head) (sym y.frame)
                  ∙ number_fed w.fed.task w.head w.fed.head_is
                  ∙ w.number in
                  IsRowOf.of_lanes j lane pad start wire has (leads ∙ ap (λ (x : ℕ). over lane x pad start) number)

      grown_made : AreMadeOf tasks tasks'
      grown_made = record {
        owns = λ k n own. let y = from k own.task own.at in (k, record { task = y.was; at = y.at; has = subst (λ (t : TaskFrame). HasElement t n) y.frame own.has });
        kept = λ k n own. let y = to k own.task own.at in (k, record { task = y.is; at = y.at; has = subst (λ (t : TaskFrame). HasElement t n) (sym y.frame) own.has });
        fed = λ k n f. (k, fed_on k n f);
        wires = λ k one w. let y = from k w.task w.at in inl (k, record { task = y.was; at = y.at; is = subst (λ (t : TaskFrame). IsWire t one) y.frame w.is });
        sources = λ k n w. let y = from k w.task w.at in (k, record { task = y.was; at = y.at; is = subst (λ (t : TaskFrame). IsSource t n) y.frame w.is });
        rows = rows;
      }

  module _ (g : Edited) (m : Moment) (tasks tasks' : List (Task S E I O L s e i o)) (tells : Option (List Lane)) (run : IsRun g m tasks tells) (pad : ℕ) (z : IsEndedOver tasks tasks' pad) (none : LeadsNoneInside tasks pad) where
    cut : AreCut pad z.between tasks'
    cut = unlinked_cut pad z.sender z.between tasks' z.back z.undone

    reached : (k : ℕ) (task : Task S E I O L s e i o) (n : ℕ) → slice_get tasks' k ≡ Some task → HasElement (frame_of task) n → IsReachedIn (frame_of task) n
    reached k task n at has =
        let y = cut.back k task at in
        let x = from tasks z.between z.receiver z.to.pad _ z.grown k y.was y.at in
        still_reached pad (frame_of y.was) (frame_of task) y.cut.frame (λ b by. none_leads g m tasks tells run pad none k x.was x.at b (subst (λ (t : TaskFrame). LeadsBy pad t b) x.frame by)) n
        (subst (λ (t : TaskFrame). IsReachedIn t n) (sym x.frame) (run.are.reached k x.was n x.at (subst (λ (t : TaskFrame). HasElement t n) x.frame (y.cut.frame.has n has))))

    -- the tasks have the elements of the graph then
    pub ended_over_are : AreTasksOf g tasks'
    ended_over_are =
        let q = z.over.leads.pad in
        let leads = z.over.leads.leads in
        let has : HasWire tasks z.sender (wire_of o q) = record { task = z.over.task; at = z.over.at; is = pad_is_wire o z.over.task.head z.over.task.parts.items q z.over.leads.is } in
        are_again g tasks tasks' (made_both tasks z.between tasks' (grown_made tasks z.between z.receiver z.to.pad _ z.grown z.sender leads.0 z.to.element z.to.pad leads.1 (wire_of o q) has leads.2 z.feeds.0 z.feeds.1) (cut_made pad z.between tasks' cut))
        run.are reached
