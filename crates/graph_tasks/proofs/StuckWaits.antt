-- Where nothing waits in a task, all that is owed for what was taken has crossed its source pads.
use Rattle.std.proofs.Common.{◌≡◌, ◌<◌, ◌%◌, ℕ, Bool, true, false, if◌then◌else◌, List, [], ◌++◌, Option, Some, map, refl, sym, ap, ◌∙◌, subst}
use Rattle.std.proofs.Common.{append-nil}
use Rattle.std.specs.Prelude.{slice_get}
use Rattle.std.specs.Option.{option_map_or}
use Rattle.flow_model.specs.Call.{Call, feeds}
use Rattle.flow_model.specs.Eval.{Plan}
use Rattle.flow_model.specs.Item.{Item}
use Rattle.flow_model.specs.Rule.{Rule}
use Rattle.flow_model.specs.Section.{first_section}
use Rattle.lane_core.specs.Lane.{Lane}
use Rattle.lane_core.specs.declared.ends.Inlet as inlets
use Rattle.lane_core.specs.declared.ends.Outlet as outlets
use Rattle.flow_model.specs.Moment.{Moment}
use Rattle.flow_model.specs.Pad.{Holds}
use Rattle.flow_model.specs.declared.element.TaskElement as elements
use Rattle.flow_model.specs.declared.source.TaskSource as sources
use Rattle.el_settings.specs.Asked.{is_source, source_pads}
use Rattle.el_set.specs.Denoted.{rule_of}
use Rattle.el_set.specs.Made.{list_of}
use Rattle.graph_core.specs.Elements.{Made}
use Rattle.graph_core.specs.Graph.{made as made_in, links as links_in}
use Rattle.graph_core.specs.GraphPlan.{line_plan, pad_id}
use Rattle.graph_core.specs.declared.graph.Graph.{Graph}
use Rattle.graph_pads.specs.declared.pad.PadLink.{PadLink}
use Rattle.graph_pads.specs.declared.pad.PadPlace.{PadPlace}
use Rattle.graph_parts.specs.Links.{Reaches}
use Rattle.graph_parts.specs.declared.bag.Bag.{Bag}
use Rattle.graph_parts.specs.declared.bag.BagHead.{BagHead}
use Rattle.graph_parts.specs.declared.bag.BagHead.TheVariants as starts
use Rattle.graph_parts.specs.MomentLaws.{HasNumber}
use Rattle.graph_parts.specs.Pads.{IsThere, pad_owner}
use Rattle.graph_parts.specs.Plans.{tight_rule}
use Rattle.graph_parts.proofs.Sources.{rule_at}
use Rattle.graph_parts.proofs.Wholes.{pads_have_numbers}
use Rattle.graph_parts.specs.Bags as bags
use Rattle.net_task.specs.declared.task.Task.{Task}
use Rattle.net_task.specs.Frame.{HeadFrame, Wire, by_inlets, by_source, frame_of, head_frame, part_frame}
use Rattle.net_task.specs.Reasons.{AllRest, OwnerRests}
use Rattle.net_turns.specs.Ends.{head_number}
use Rattle.graph_tasks.specs.Frames.{IsHeadFrame}
use Rattle.graph_tasks.specs.Owed.{inputs_to, owed_by, went_from}
use Rattle.graph_tasks.specs.Runs.{RunStands, RunsAt, crossed_in}
use Rattle.graph_tasks.specs.Stalled.{NothingWaits}
use Rattle.graph_tasks.proofs.BlamedFrames.{HasBag, bag_of}
use Rattle.graph_tasks.proofs.EndedBags.{HasOwn, OwnsOne, own_part, own_source, stands_own}
use Rattle.graph_tasks.proofs.StuckTaken.{taken, took_is, went_here}
use Rattle.gst_value.proofs.Basics.{some_same}
use Rattle.gst_value.proofs.Places.{map_get as get_map}

-- the head of a bag is that of its task
pub head_is : (made : List Made) (links : List PadLink) (own : BagHead) (frame : HeadFrame) → IsHeadFrame made links own frame → bags.head_number own ≡ head_number frame
head_is made links (starts.Source cell) (by_source number file wire) of = sym of.0
head_is made links (starts.Source cell) (by_inlets number rows) of = absurd of
head_is made links (starts.Inlets n) (by_source number file wire) of = absurd of
head_is made links (starts.Inlets n) (by_inlets number rows) of = sym of.0

-- a source pad of an element that is there is there
pub settings_there : (made : List Made) (source : PadPlace) (one : Made) → slice_get made source.element ≡ Some one → source.pad < source_pads one.settings → IsThere made source
settings_there made source one at few =
    subst (λ (n : ℕ). source.pad < n) (sym (ap (λ (found : Option Made). option_map_or (λ (m : Made). source_pads m.settings) found 0) at)) few

module _ {S E I O L : Type 0} {s : sources.Ghosts S} {e : elements.Ghosts E} {i : inlets.Ghosts I L O} {o : outlets.Ghosts O L}
    (contents : ℕ → List ℕ) (graph : Graph) (bags : List Bag) (m : Moment) (tasks : List (Task S E I O L s e i o)) (tells : Option (List Lane))
    (at : RunsAt contents graph bags m tasks tells) (run : RunStands contents graph m) where
  abbrev pub took : ℕ → List Item
  took = taken contents graph m at.sound at.once run

  -- what the rule of an element owes for what it took
  ruled : (source : PadPlace) (one : Made) → source.pad < source_pads one.settings
      → tight_rule (Some one) source.element (contents source.element) (m.took source.element) source.pad 0
      ≡ owed_by contents (made_in graph) (links_in graph) took source one.settings
  ruled source one few =
      ap (λ (rule : Rule). rule (m.took source.element) source.pad 0) (rule_at (Some one) source.element (contents source.element) source.pad few) ∙ by (is_source one.settings)
    where
      n : ℕ
      n = source.element

      by : (b : Bool) → (if b then (λ inputs port. first_section (list_of one.settings n (contents n))) else rule_of one.settings) (m.took n) source.pad 0
          ≡ (if b then list_of one.settings n (contents n)
          else rule_of one.settings (map feeds (inputs_to (made_in graph) (links_in graph) took n)) source.pad 0)
      by true = refl
      by false = ap (λ (given : List (List Call)). rule_of one.settings given source.pad 0) (took_is contents graph m at.sound at.once run n)

  -- has crossed the pad or waits there
  pub owed_is : (source : PadPlace) (one : Made) → slice_get (made_in graph) source.element ≡ Some one → source.pad < source_pads one.settings
      → owed_by contents (made_in graph) (links_in graph) took source one.settings ≡ went_from (crossed_in graph m) source ++ m.waits (pad_id source)
  unfolding line_plan
  owed_is source one found few =
      sym (ruled source one few)
      ∙ ap (λ (other : Option Made). tight_rule other source.element (contents source.element) (m.took source.element) source.pad 0) (sym found)
      ∙ ap (λ (port : ℕ). tight_rule (slice_get (made_in graph) source.element) source.element (contents source.element) (m.took source.element) port 0) (sym number.port)
      ∙ ap (λ (n : ℕ). tight_rule (slice_get (made_in graph) n) n (contents n) (m.took n) (pad_id source % 64) 0) (sym number.owner)
      ∙ holds ∙ ap (λ (h : List Item). h ++ m.waits (pad_id source)) (sym (went_here contents graph m at.sound at.once run source there))
    where
      there : IsThere (made_in graph) source
      there = settings_there (made_in graph) source one found few

      number : HasNumber (made_in graph) source (pad_id source)
      number = pads_have_numbers (made_in graph) source there

      holds : let n = pad_owner (made_in graph) (pad_id source) in tight_rule (slice_get (made_in graph) n) n (contents n) (m.took n) (pad_id source % 64) 0
          ≡ m.history (pad_id source) ++ m.waits (pad_id source)
      holds =
          let p = pad_id source in
          subst (λ (pl : Plan). Holds 0 0 (pl.log p).cuts (pl.rule (pl.owner p) (m.took (pl.owner p)) (pl.port p)) (m.history p) (m.waits p)) at.plan
          ((at.net.cells (m.plan.owner p)).pads p refl)

  -- an element that the head of a task reaches is one of the task
  pub in_task : (k : ℕ) (task : Task S E I O L s e i o) → slice_get tasks k ≡ Some task → (n : ℕ)
      → Reaches (made_in graph) (links_in graph) (head_number (frame_of task).head) n → HasOwn (made_in graph) task n
  in_task k task task_at n reaches =
      let b : HasBag (made_in graph) (links_in graph) bags k (frame_of task) = bag_of (made_in graph) (links_in graph) bags tasks at.bags_are.are at.have k task task_at in
      let head = head_is (made_in graph) (links_in graph) b.bag.head (frame_of task).head b.of.head in
      let among = b.is.whole n (subst (λ (h : ℕ). Reaches (made_in graph) (links_in graph) h n) (sym head) reaches) in
      let one : OwnsOne (made_in graph) tasks k n = stands_own (made_in graph) (links_in graph) bags tasks at.have at.bags_are.are k n (record { bag = b.bag; is = b.at; among = among }) in
      subst (λ (t : Task S E I O L s e i o). HasOwn (made_in graph) t n) (some_same (sym one.at ∙ task_at)) one.own

  -- where nothing waits at the pads of its elements nothing waits in the task
  pub nothing_waits : (k : ℕ) (task : Task S E I O L s e i o) → slice_get tasks k ≡ Some task → AllRest m (frame_of task)
      → ((n : ℕ) (file : Option (Option (List ℕ))) (wire : Wire) → (frame_of task).head ≡ by_source n file wire → OwnerRests m n)
      → NothingWaits contents (made_in graph) (links_in graph) (crossed_in graph m) took (head_number (frame_of task).head)
  unfolding line_plan
  nothing_waits k task task_at all own source one reaches found few =
      sym (owed_is source one found few ∙ ap (λ (w : List Item). went_from (crossed_in graph m) source ++ w) (idle (in_task k task task_at source.element reaches))
      ∙ append-nil (went_from (crossed_in graph m) source))
    where
      owner : m.plan.owner (pad_id source) ≡ source.element
      owner =
          ap (λ (pl : Plan). pl.owner (pad_id source)) at.plan
          ∙ (pads_have_numbers (made_in graph) source (settings_there (made_in graph) source one found few)).owner

      idle : HasOwn (made_in graph) task source.element → m.waits (pad_id source) ≡ []
      idle (own_part place part part_at same) =
          all place (part_frame o part) (get_map (part_frame o) task.parts.items place part part_at) (pad_id source) (owner ∙ sym same)
      idle (own_source head head_at same is) =
          own head.number _ _ (ap (λ h. head_frame o h) head_at) (pad_id source) (owner ∙ sym same)
