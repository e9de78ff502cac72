-- Where a run of a script is told as over, each element that is there took all that its links gave it or has EOS at each sink pad, and so all that is owed has crossed its source pads.
use Rattle.std.proofs.Common.{◌≡◌, ◌⊎◌, ◌<◌, ◌%◌, ◌++◌, ℕ, Bool, true, false, if◌then◌else◌, List, [], ◌∷◌, Option, None, Some, length, map, refl, sym, ap, ◌∙◌, subst, inl, inr, arith, append-nil, rules}
use Rattle.std.specs.Prelude.{slice_get}
use Rattle.std.specs.Option.{ForSome}
use Rattle.std.proofs.lemmas.Bool.{false≢true, true≢false}
use Rattle.std.proofs.lemmas.Option.{slice_get_within}
use Rattle.edit_acts.proofs.FittingEval.{all_empty, begins_there, ordered_there, owed_there, owner_is, owner_within, pad_rule}
use Rattle.edit_acts.specs.Evaluated.{IsEvaluated, OweInOrder, RunsAreEvaluated as HistoriesAreEvaluated}
use Rattle.edit_acts.specs.Scripted.{ScriptRun}
use Rattle.edit_core.specs.Tasks.{AreTasksOf}
use Rattle.el_settings.specs.Asked.{is_source, makes_sinks}
use Rattle.flow_model.proofs.Prefixes.{rest_of}
use Rattle.flow_model.proofs.Splits.{split_all}
use Rattle.flow_model.specs.Call.{Call, feeds}
use Rattle.flow_model.specs.Item.{Item}
use Rattle.flow_model.specs.Link.{Span, input_of}
use Rattle.flow_model.specs.Moment.{Moment, behavior_at}
use Rattle.flow_model.specs.Over.{AllEnded, list_ended}
use Rattle.flow_model.specs.Prefix.{IsPrefix}
use Rattle.flow_model.specs.Rule.{Rule}
use Rattle.flow_model.specs.Split.{AreEmpty}
use Rattle.flow_model.specs.Sticky.{has_flush_stop}
use Rattle.flow_model.specs.declared.element.TaskElement as elements
use Rattle.flow_model.specs.declared.source.TaskSource as givers
use Rattle.graph_core.specs.Elements.{Made, has}
use Rattle.graph_core.specs.GraphPlan.{most_pads, owner_of, rule_for}
use Rattle.graph_edits.specs.Edited.{Edited, is_there}
use Rattle.graph_edits.specs.Plans.{edited_rule}
use Rattle.graph_edits.specs.Refused.{has_lanes}
use Rattle.graph_parts.specs.Pads.{is_pad}
use Rattle.graph_tasks.proofs.EndedEos.{source_ends}
use Rattle.graph_tasks.proofs.FedElements.{asked_at}
use Rattle.graph_tasks.specs.Written.{AreStreams}
use Rattle.gst_outside.specs.declared.sink.Sink as sinks
use Rattle.gst_value.proofs.Places.{found_at, map_got}
use Rattle.lane_core.specs.declared.ends.Inlet as inlets
use Rattle.lane_core.specs.declared.ends.Outlet as outlets
use Rattle.net_edits.proofs.Endings.{not_ended}
use Rattle.net_task.specs.Frame.{PartFrame, frame_of, head_frame, part_frame}
use Rattle.net_task.specs.Ties.{PartTied, Stands}
use Rattle.net_task.specs.declared.task.Task.{Task}
use Rattle.net_turns.proofs.Left.{cons_not, idle_at, rests_at}
use Rattle.net_turns.specs.Ends.{TellsOver, is_idle}
use Rattle.net_turns.specs.Net.{HasElement, HasRow, IsFed, ListAt, NetStands, Owns}
use Rattle.net_turns.specs.Rests.{HeadEnded, NetRests, TaskRests, Wants}
use Rattle.script_text.specs.declared.command.Command.{Command}
use Rattle.task_elements.proofs.FirstEos.{whole_goes_on}
use Rattle.task_elements.proofs.Wanting.{wants_none}
use Rattle.task_elements.specs.Stands.{pads_of}
use Rattle.task_elements.specs.declared.element.StreamElement.{StreamElement}
use Rattle.task_elements.specs.declared.source.StreamSource.{StreamSource}
use Rattle.task_parts.specs.declared.head.Head.{Head}
use Rattle.task_parts.specs.declared.head.InletHead.{InletHead}
use Rattle.task_parts.specs.declared.part.Part.{Part}
use Rattle.task_parts.specs.declared.step.Step.{Step}
use Rattle.task_parts.specs.declared.step.Step.TheVariants.{Moved, NeedsItem, NeedsRoom, AtProbe, Ended}
use Rattle.world_core.specs.Left.{HeadHoldsNothing, HoldNothing, RowsHoldNothing}
use Rattle.world_core.proofs.OverLinks.{none_given}

module _ {S K I O L : Type 0} {giver : givers.Ghosts (StreamSource S)} {taker : elements.Ghosts (StreamElement K)} {i : inlets.Ghosts I L O} {o : outlets.Ghosts O L}
    (k : sinks.Ghosts K) (streams : AreStreams k taker) (law : HistoriesAreEvaluated giver taker i o) (owes : OweInOrder taker) (contents : ℕ → List ℕ) (script : List Command) (begun : Edited)
    (run : ScriptRun giver taker i o) (w : IsEvaluated contents script begun run) (steps : List Step) (rests : NetRests (λ j. Unit {0}) w.scripted.m run.tasks steps run.tells) where
  abbrev pub g : Edited
  g = w.scripted.g

  abbrev pub m : Moment
  m = w.scripted.m

  abbrev pub net : NetStands m run.tasks run.tells
  net = rests.net

  abbrev pub are : AreTasksOf g run.tasks
  are = w.scripted.has.run.are

  -- what its links gave an element
  abbrev pub given : ℕ → List (List Call)
  given a = map (input_of m.history) (g.spans a)

  -- why a task can't move
  pub at_rest : (j : ℕ) (task : Task (StreamSource S) (StreamElement K) I O L giver taker i o) → slice_get run.tasks j ≡ Some task → (step : Step) × (slice_get steps j ≡ Some step) × TaskRests run.tells m task step
  at_rest = rests_at m run.tasks steps run.tells rests

  -- an element that wants no more had EOS at each of its sink pads
  pub ended_by : (j : ℕ) (head : InletHead I) (fed : IsFed run.tasks j head) → TaskRests run.tells m fed.task Ended → AllEnded (m.took head.number)
  ended_by j head fed rest =
      let wants : Wants taker m head.number None = subst (λ (own : Head (StreamSource S) I O giver). HeadEnded taker m (head_frame o own)) fed.head_is rest.1 in
      wants_none k.bytes wants.element (behavior_at m head.number) (m.took head.number) (streams.stands wants.element (behavior_at m head.number) (m.took head.number) wants.stands)
      (sym (streams.wanted wants.element) ∙ wants.wants)

  module _ (live : ℕ → Bool) (told : TellsOver live (has makes_sinks g.made) run.tasks steps)
      (emptied : ForSome run.tells (λ t. HoldNothing i t run.tasks steps)) where
    idle : (j : ℕ) (task : Task (StreamSource S) (StreamElement K) I O L giver taker i o) (at : slice_get run.tasks j ≡ Some task) → is_idle (at_rest j task at).0 ≡ true
    idle j task at = let one = at_rest j task at in told.idle j task one.0 at one.1

    waits_none : (p : ℕ) → m.waits p ≡ []
    waits_none p = by (m.waits p) refl
      where
        by : (waits : List Item) → m.waits p ≡ waits → m.waits p ≡ []
        by [] is = is
        by (x ∷ xs) is =
            absurd (cons_not is (net.loose p (λ j own.
            let one = at_rest j own.task own.at in
            cons_not is (idle_at m run.tasks steps run.tells rests p own.task own.has one.0 (idle j own.task own.at) one.2))))

    -- what its element owes to a pad for what it took has crossed it
    pub crossed_is : (p : ℕ) → is_pad g.made p ≡ true → is_there g (owner_of p) ≡ true → edited_rule contents g (owner_of p) (m.took (owner_of p)) (p % most_pads) 0 ≡ m.history p
    crossed_is p pad there =
        owed_there contents g m w.scripted.due run w.scripted.has w.fits (owner_of p) there p pad (owner_is g p pad)
        ∙ ap (λ (waits : List Item). m.history p ++ waits) (waits_none p)
        ∙ append-nil (m.history p)

    -- ---- what elements took

    module _ (a : ℕ) (there : is_there g a ≡ true) where
      given_is : map (input_of m.history) (m.plan.sinks a) ≡ given a
      given_is = ap (λ (sss : List (List Span)). map (input_of m.history) sss) (w.scripted.has.run.sinks a there)

      abbrev pub IsSettled : Type 0
      IsSettled = (m.took a ≡ given a) ⊎ AllEnded (m.took a)

      module _ (j : ℕ) (head : InletHead I) (fed : IsFed run.tasks j head) (same : head.number ≡ a) where
        held_none : RowsHoldNothing i net.table head.rows.items → AreEmpty (m.held a)
        held_none rows = all_empty (m.held a) (λ port within. by port (found_at head.rows.items port (low port within)))
          where
            low : (port : ℕ) → port < length (m.held a) → port < length head.rows.items
            low port within =
                let size = net.each j head fed in
                let held : length (m.held head.number) ≡ length (m.held a) = ap (λ (n : ℕ). length (m.held n)) same in
                omega (arith, size, held, within)

            by : (port : ℕ) → (row : _) × (slice_get head.rows.items port ≡ Some row) → ListAt port (m.held a) []
            by port row =
                let own : HasRow run.tasks j a port row.0 = record { head = head; fed = fed; number = same; at = row.1 } in
                subst (λ (xs : List Item). ListAt port (m.held a) (feeds xs)) (rows port row.0 row.1) (net.rows j a port row.0 own).holds

        rows_of : (lane : ℕ) → (NeedsItem lane ≡ Ended) ⊎ HeadHoldsNothing i net.table fed.task.head → RowsHoldNothing i net.table head.rows.items
        rows_of lane (inl is) = absurd (cc)
        rows_of lane (inr none) = subst (λ (own : Head (StreamSource S) I O giver). HeadHoldsNothing i net.table own) fed.head_is none

        by_step : (step : Step) → is_idle step ≡ true → slice_get steps j ≡ Some step → TaskRests run.tells m fed.task step → IsSettled
        by_step Moved calm at rest = absurd rest
        by_step (NeedsItem lane) calm at rest =
            inl (split_all (held_none (rows_of lane (emptied net.table net.told j fed.task (NeedsItem lane) fed.at at))) (net.cells a).input ∙ given_is)
        by_step (NeedsRoom lane) calm at rest = absurd (false≢true calm)
        by_step (AtProbe command) calm at rest = absurd (false≢true calm)
        by_step Ended calm at rest = inr (subst (λ (n : ℕ). AllEnded (m.took n)) same (ended_by j head fed rest))

      -- it took all that its links gave it, or EOS at each of its sink pads
      pub settled : a < length g.made → IsSettled
      settled within = by (has_lanes g a) refl
        where
          by : (b : Bool) → has_lanes g a ≡ b → IsSettled
          by false bare = inl (law.took contents g m w.scripted.due run w.scripted.has w.fits a within bare)
          by true lanes =
              let own = are.fed a there lanes in
              let one = at_rest own.0 own.2.task own.2.at in
              by_step own.0 own.1 own.2 own.3 one.0 (idle own.0 own.2.task own.2.at) one.1 one.2

    -- ---- EOS

    module _ (p : ℕ) (pad : is_pad g.made p ≡ true) (there : is_there g (owner_of p) ≡ true) where
      abbrev a : ℕ
      a = owner_of p

      rule_is : m.plan.rule a ≡ edited_rule contents g a
      rule_is = w.fits.rules a there ∙ pad_rule g p contents a pad (owner_is g p pad)

      source_rule : (one : Made) → slice_get g.made a ≡ Some one → is_source one.settings ≡ true → list_ended (edited_rule contents g a (m.took a) (p % most_pads) 0) ≡ true
      source_rule one at is =
          ap (λ (b : Bool). list_ended ((if b then (λ inputs port j. []) else rule_for (slice_get g.made a) a (contents a)) (m.took a) (p % most_pads) 0)) (w.fits.awake a)
          ∙ ap (λ (found : Option Made). list_ended (rule_for found a (contents a) (m.took a) (p % most_pads) 0)) at
          ∙ (rw is (source_ends one.settings a (contents a) is))

      part_rule : (j : ℕ) (task : Task (StreamSource S) (StreamElement K) I O L giver taker i o) → slice_get run.tasks j ≡ Some task → (place : ℕ) (part : Part (StreamElement K) O taker) → slice_get task.parts.items place ≡ Some part
          → part.number ≡ a → 0 < length (m.took a) → AllEnded (m.took a) → list_ended (m.plan.rule a (m.took a) (m.plan.port p) 0) ≡ true
      part_rule j task at place part part_at same some ended =
          subst (λ (n : ℕ). list_ended (m.plan.rule n (m.took n) (m.plan.port p) 0) ≡ true) same
          (whole_goes_on k.bytes part.element (behavior_at m part.number) (m.took part.number) (streams.stands part.element (behavior_at m part.number) (m.took part.number) tied.stood)
          (subst (λ (n : ℕ). 0 < length (m.took n)) (sym same) some) (net.first part.number).0 (subst (λ (n : ℕ). AllEnded (m.took n)) (sym same) ended) (m.plan.port p) few)
        where
          tied : PartTied o (Stands m part) m part
          tied = (net.tied j task at).parts_tied.each place part part_at

          few : m.plan.port p < pads_of part.element
          few =
              let mine = tied.mine p (w.fits.owner p ∙ owner_is g p pad ∙ sym same) in
              let low = slice_get_within part.pads.items (m.plan.port p) mine.pad mine.at in
              let ports = part.ports in
              let size = part.pads.ok.0 in
              let told_ports = streams.ports part.element in
              omega (arith, low, ports, size, told_ports)

      -- EOS crossed the pad of an element that took EOS, or of a source
      pub pad_ended : (has is_source g.made a ≡ false → (0 < length (m.took a)) × AllEnded (m.took a)) → list_ended (m.history p) ≡ true
      pad_ended took = by (has is_source g.made a) refl
        where
          own : (j : ℕ) × Owns run.tasks j a
          own = are.owned a there (w.fits.awake a)

          back : list_ended (edited_rule contents g a (m.took a) (p % most_pads) 0) ≡ true → list_ended (m.history p) ≡ true
          back is = ap (λ (l : List Item). list_ended l) (sym (crossed_is p pad there)) ∙ is

          by_element : has is_source g.made a ≡ false → HasElement (frame_of own.1.task) a → list_ended (edited_rule contents g a (m.took a) (p % most_pads) 0) ≡ true
          by_element other (HasElement.part place one at number) =
              let found = map_got (part_frame o) own.1.task.parts.items place one at in
              let same : found.0.number ≡ a = ap (λ (f : PartFrame). f.number) (sym found.2) ∙ number in
              ap (λ (rule : Rule). list_ended (rule (m.took a) (p % most_pads) 0)) (sym rule_is)
              ∙ ap (λ (port : ℕ). list_ended (m.plan.rule a (m.took a) port 0)) (sym (w.fits.port p))
              ∙ part_rule own.0 own.1.task own.1.at place found.0 found.1 same (took other).0 (took other).1
          by_element other (HasElement.source file wire is) = absurd (true≢false (sym (are.sources own.0 own.1.task a file wire own.1.at is) ∙ other))

          by : (b : Bool) → has is_source g.made a ≡ b → list_ended (m.history p) ≡ true
          by true is = let one = asked_at is_source (slice_get g.made a) is in back (source_rule one.element one.at one.is)
          by false other = back (by_element other own.1.has)

      -- ---- all has crossed

      within : a < length g.made
      within = owner_within g p pad

      abbrev owed_whole : List Item
      owed_whole = edited_rule contents g a (given a) (p % most_pads) 0

      of_took : m.took a ≡ given a → owed_whole ≡ m.history p
      of_took is = ap (λ (css : List (List Call)). edited_rule contents g a css (p % most_pads) 0) (sym is) ∙ crossed_is p pad there

      of_more : list_ended (m.history p) ≡ true → owed_whole ≡ m.history p
      of_more ended = by (rest_of begins).0 (rest_of begins).1
        where
          begins : IsPrefix (m.history p) owed_whole
          begins =
              subst (λ (l : List Item). IsPrefix l owed_whole) (crossed_is p pad there)
              (ordered_there contents g m w.scripted.due run w.scripted.has w.fits owes a there (given a) (begins_there contents g m w.scripted.due run w.scripted.has w.fits a there) (p % most_pads) 0)

          by : (rest : List Item) → m.history p ++ rest ≡ owed_whole → owed_whole ≡ m.history p
          by [] is = sym is ∙ append-nil (m.history p)
          by (x ∷ rest) is =
              let owed : m.plan.rule a (given a) (p % most_pads) 0 ≡ m.history p ++ x ∷ rest = ap (λ (rule : Rule). rule (given a) (p % most_pads) 0) rule_is ∙ sym is in
              let open_yet = not_ended (m.history p) rest x (subst (λ (l : List Item). has_flush_stop l ≡ false) owed (net.plain.calm a (p % most_pads) (given a)))
              (λ front last same. net.plain.closed a (p % most_pads) (given a) front last (owed ∙ same)) in
              absurd (true≢false (sym ended ∙ open_yet))

      pub all_crossed : owed_whole ≡ m.history p
      all_crossed = by (settled a there within)
        where
          given_none : m.took a ≡ [] → m.took a ≡ given a
          given_none none = none_given (net.cells a).input none ∙ given_is a there

          by_took : (css : List (List Call)) → m.took a ≡ css → AllEnded (m.took a) → owed_whole ≡ m.history p
          by_took [] none ended = of_took (given_none none)
          by_took (cs ∷ css) some ended = of_more (pad_ended (λ other. (let size = ap length some in omega (arith, size), ended)))

          by : (m.took a ≡ given a) ⊎ AllEnded (m.took a) → owed_whole ≡ m.history p
          by (inl is) = of_took is
          by (inr ended) = by_took (m.took a) refl ended
