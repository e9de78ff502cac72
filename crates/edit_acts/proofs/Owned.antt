-- A source pad that is named is one of a task, unless it is that of a source that is asleep: nothing has crossed that.
use Rattle.std.proofs.Common.{◌≡◌, ℕ, Bool, true, false, List, [], Option, Some, refl, sym, ap, ◌∙◌, subst}
use Rattle.std.specs.Prelude.{slice_get}
use Rattle.gst_value.proofs.Places.{map_got}
use Rattle.gst_value.specs.declared.name.PadName.{PadName}
use Rattle.lane_core.specs.Lane.{Lane}
use Rattle.lane_core.specs.declared.ends.Inlet as inlets
use Rattle.lane_core.specs.declared.ends.Outlet as outlets
use Rattle.flow_model.specs.Moment.{Moment}
use Rattle.flow_model.specs.declared.element.TaskElement as elements
use Rattle.flow_model.specs.declared.source.TaskSource as sources
use Rattle.task_parts.specs.declared.head.Head.{Head}
use Rattle.task_parts.specs.declared.head.Head.TheVariants.{Source as OfSource, Inlets}
use Rattle.task_edits.specs.Inside.{IsPadOf}
use Rattle.task_edits.specs.Places.{HasPad}
use Rattle.task_edits.proofs.Absent.{has_not}
use Rattle.task_edits.proofs.Insides.{has_pad_of}
use Rattle.net_task.specs.declared.task.Task.{Task}
use Rattle.net_task.specs.Frame.{PartFrame, by_source, frame_of, head_frame, part_frame}
use Rattle.net_task.specs.Ties.{HeadTied, nothing_lost}
use Rattle.net_turns.specs.Net.{HasElement}
use Rattle.net_edits.specs.Nets.{TaskHas}
use Rattle.graph_core.specs.GraphPlan.{pad_id}
use Rattle.graph_pads.specs.declared.pad.Direction.TheVariants.{Source}
use Rattle.graph_pads.specs.declared.pad.PadPlace.{PadPlace}
use Rattle.graph_edits.specs.Edited.{Edited}
use Rattle.graph_edits.specs.Names.{pad_named}
use Rattle.graph_edits.specs.Plans.{is_asleep}
use Rattle.edit_core.specs.Judging.{AreFresh}
use Rattle.edit_core.specs.Tasks.{number_of_head}
use Rattle.edit_core.specs.Ways.{IsRun}
use Rattle.edit_core.proofs.Finding.{named_there}
use Rattle.edit_acts.specs.Controlled.{AreOwned}
use Rattle.edit_acts.proofs.Asleep.{AreBare}

module _ {S E I O L : Type 0} {s : sources.Ghosts S} {e : elements.Ghosts E} {i : inlets.Ghosts I L O} {o : outlets.Ghosts O L} (g : Edited) (m : Moment) (tasks : List (Task S E I O L s e i o)) (tells : Option (List Lane))
    (run : IsRun g m tasks tells) (pads : AreOwned g m) where
  module _ (pad : PadName) (source : PadPlace) (named : pad_named Source g pad ≡ Some source) where
    mine : m.plan.owner (pad_id source) ≡ source.element
    mine = pads.owned pad source named

    -- the task that has its element has the pad
    has_pad : (k : ℕ) (task : Task S E I O L s e i o) → slice_get tasks k ≡ Some task → HasElement (frame_of task) source.element → HasPad task.head task.parts.items (pad_id source)
    has_pad k task at (HasElement.part place one is number) =
        let z = map_got (part_frame o) task.parts.items place one is in
        let number_is : z.0.number ≡ source.element = ap (λ (f : PartFrame). f.number) (sym z.2) ∙ number in
        let found = ((run.net.tied k task at).parts_tied.each place z.0 z.1).mine (pad_id source) (mine ∙ sym number_is) in
        has_pad_of task.head task.parts.items found.pad (pad_id source) (IsPadOf.of_part place (m.plan.port (pad_id source)) z.0 z.1 found.at) found.number
    has_pad k task at (HasElement.source file wire is) = by task.head refl
      where
        by : (head : Head S I O s) → task.head ≡ head → HasPad task.head task.parts.items (pad_id source)
        by (OfSource head) same =
            let number_is : head.number ≡ source.element = ap (λ (h : Head S I O s). number_of_head (head_frame o h)) (sym same) ∙ ap number_of_head is in
            let tied = subst (λ (h : Head S I O s). HeadTied i o nothing_lost m h task.parts.items) same (run.net.tied k task at).head_tied in
            has_pad_of task.head task.parts.items head.pad (pad_id source) (IsPadOf.of_source head same refl) (sym (tied.mine (pad_id source) (mine ∙ sym number_is)))
        by (Inlets head) same = let other : head_frame {s = s} o (Inlets head) ≡ by_source source.element file wire = ap (λ (h : Head S I O s). head_frame o h) (sym same) ∙ is in cc

    -- so one of the tasks has it, where its element is awake
    task_has : is_asleep g source.element ≡ false → (place : ℕ) × TaskHas tasks (pad_id source) place
    task_has awake =
        let own = run.are.owned source.element (named_there Source g pad source named) awake in
        (own.0, record { task = own.1.task; at = own.1.at; has = has_pad own.0 own.1.task own.1.at own.1.has })

  pub fresh : AreBare g m → AreFresh g m tasks
  fresh bare pad source named none = by (is_asleep g source.element) refl
    where
      by : (asleep : Bool) → is_asleep g source.element ≡ asleep → m.history (pad_id source) ≡ []
      by true is = bare pad source named is
      by false is = let one = (task_has pad source named is).1 in absurd (has_not one.task.head one.task.parts.items (pad_id source) one.has (none _ one.task one.at))
