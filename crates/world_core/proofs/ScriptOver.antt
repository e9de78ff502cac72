-- A run of a script that is told as over: all that is owed to the source pads of elements that are there has crossed them, and EOS came to each live sink.
use Rattle.std.proofs.Common.{◌||◌, ◌≡◌, ◌⊎◌, ◌<◌, ◌≤◌, ℕ, Bool, true, false, List, [], Option, None, Some, length, map, refl, sym, ap, ◌∙◌, subst, inl, inr, arith}
use Rattle.std.specs.Prelude.{get_or, slice_get}
use Rattle.std.specs.Option.{ForSome, option_map_or}
use Rattle.std.proofs.lemmas.List.{length-map}
use Rattle.std.proofs.lemmas.Bool.{true≢false}
use Rattle.std.proofs.lemmas.Option.{slice_get_within}
use Rattle.edit_acts.specs.Evaluated.{IsEvaluated, OweInOrder, RunsAreEvaluated as HistoriesAreEvaluated}
use Rattle.edit_acts.specs.Scripted.{ScriptRun}
use Rattle.edit_core.proofs.Finding.{named_there}
use Rattle.edit_core.specs.Tasks.{AreTasksOf}
use Rattle.el_settings.proofs.Roles.{end_no_source, end_sinks}
use Rattle.el_settings.specs.Asked.{is_queue, is_sink, is_source, makes_sinks}
use Rattle.flow_model.specs.Call.{items}
use Rattle.flow_model.specs.Link.{input_of}
use Rattle.flow_model.specs.Moment.{Moment}
use Rattle.flow_model.specs.Over.{AllEnded, list_ended}
use Rattle.flow_model.specs.declared.element.TaskElement as elements
use Rattle.flow_model.specs.declared.source.TaskSource as givers
use Rattle.graph_core.proofs.LinkedOnce.{place_of}
use Rattle.graph_core.proofs.NumberedPads.{owner_at}
use Rattle.graph_core.proofs.Orders.{pads_at_link}
use Rattle.graph_core.specs.Allowed.{first_pad}
use Rattle.graph_core.specs.Elements.{Made, has}
use Rattle.graph_core.specs.GraphPlan.{IsIn, owner_of, pad_id, sink_count}
use Rattle.graph_core.specs.Links.{HasPads}
use Rattle.graph_edits.proofs.Ended.{ends_are_told}
use Rattle.graph_edits.specs.Edited.{Edited, is_there}
use Rattle.graph_edits.specs.Live.{IsLive}
use Rattle.graph_edits.specs.Plans.{edited_plan}
use Rattle.graph_edits.specs.Refused.{IsAfterEos, has_lanes}
use Rattle.graph_pads.specs.Links.{source_before}
use Rattle.graph_pads.specs.Pads.{pad_count}
use Rattle.graph_pads.specs.declared.pad.Direction.TheVariants.{Sink, Source}
use Rattle.graph_pads.specs.declared.pad.PadLink.{PadLink}
use Rattle.graph_parts.proofs.Sources.{few_there, place_is_pad}
use Rattle.graph_tasks.proofs.FedElements.{IsAsked, asked_at}
use Rattle.graph_tasks.specs.Written.{AreStreams}
use Rattle.gst_outside.specs.declared.sink.Sink as sinks
use Rattle.gst_value.proofs.Basics.{some_same}
use Rattle.lane_core.specs.declared.ends.Inlet as inlets
use Rattle.lane_core.specs.declared.ends.Outlet as outlets
use Rattle.net_task.specs.Frame.{frame_of, head_frame}
use Rattle.net_turns.specs.Ends.{TellsOver, head_number}
use Rattle.net_turns.specs.Net.{NetStands}
use Rattle.net_turns.specs.Rests.{NetRests, TaskRests}
use Rattle.script_text.specs.declared.command.Command.{Command}
use Rattle.task_elements.specs.declared.element.StreamElement.{StreamElement}
use Rattle.task_elements.specs.declared.source.StreamSource.{StreamSource}
use Rattle.task_parts.specs.declared.head.Head.{Head}
use Rattle.task_parts.specs.declared.step.Step.{Step}
use Rattle.world_core.specs.Evaluated.{AreWhole}
use Rattle.world_core.specs.Left.{HoldNothing}
use Rattle.world_core.proofs.OverLinks.{before_it, few_sinks, link_between, one_ended, split_size}
use Rattle.world_core.proofs.ScriptSettled.{all_crossed, at_rest, ended_by, pad_ended, settled}

module _ {S K I O L : Type 0} {giver : givers.Ghosts (StreamSource S)} {taker : elements.Ghosts (StreamElement K)} {i : inlets.Ghosts I L O} {o : outlets.Ghosts O L}
    (k : sinks.Ghosts K) (streams : AreStreams k taker) (law : HistoriesAreEvaluated giver taker i o) (owes : OweInOrder taker) (contents : ℕ → List ℕ) (script : List Command) (begun : Edited)
    (run : ScriptRun giver taker i o) (w : IsEvaluated contents script begun run) (steps : List Step) (rests : NetRests (λ j. Unit {0}) w.scripted.m run.tasks steps run.tells) where
  abbrev g : Edited
  g = w.scripted.g

  abbrev m : Moment
  m = w.scripted.m

  abbrev net : NetStands m run.tasks run.tells
  net = rests.net

  abbrev are : AreTasksOf g run.tasks
  are = w.scripted.has.run.are

  module _ (live : ℕ → Bool) (live_is : (n : ℕ) → IsLive g n → live n ≡ true) (told : TellsOver live (has makes_sinks g.made) run.tasks steps)
      (emptied : ForSome run.tells (λ t. HoldNothing i t run.tasks steps)) where
    -- ---- live elements

    -- a link that stands
    module _ (link : PadLink) (is : IsIn link g.links) where
      linked : source_before g.links link.sink ≡ Some link.source
      linked = before_it g.links w.scripted.has.current.stand.single link is

      pads : HasPads g.made link
      pads = pads_at_link g.made g.ever w.scripted.has.current.made.pads link (w.scripted.has.run.made link is)

      source_there : is_there g link.source.element ≡ true
      source_there = let name = w.scripted.has.current.named link.source link.sink linked in named_there Source g name.0 link.source name.1

      came : list_ended (m.history (pad_id link.source)) ≡ true → IsAfterEos g m.history link.sink
      came ended = (ends_are_told.taken m.history g link.source link.sink w.scripted.has.current.kept w.scripted.has.current.stand w.scripted.has.current.ends linked).1 ended

      owner : owner_of (pad_id link.source) ≡ link.source.element
      owner = owner_at link.source (few_there g.made link.source pads.0)

    abbrev HasEos : ℕ → Type 0
    HasEos a = has is_source g.made a ≡ false → (0 < length (m.took a)) × AllEnded (m.took a)

    -- EOS came over a link from an element that took it
    over_link : (link : PadLink) (is : IsIn link g.links) → HasEos link.source.element → IsAfterEos g m.history link.sink
    over_link link is took =
        came link is
        (pad_ended k streams law owes contents script begun run w steps rests live told emptied (pad_id link.source) (place_is_pad g.made link.source (pads link is).0) (ap (is_there g) (owner link is) ∙ source_there link is)
        (subst HasEos (sym (owner link is)) took))

    sink_low : (link : PadLink) → IsIn link g.links → link.sink.pad < sink_count (slice_get g.made link.sink.element)
    sink_low link is = by (slice_get g.made link.sink.element) (pads link is).1
      where
        by : (found : Option Made) → link.sink.pad < option_map_or (λ (one : Made). pad_count Sink one.settings) found 0 → link.sink.pad < sink_count found
        by None low = low
        by (Some one) low = low

    -- and so the element behind it took it
    module _ (link : PadLink) (is : IsIn link g.links) (alive : IsLive g link.sink.element) (eos : IsAfterEos g m.history link.sink) where
      abbrev b : ℕ
      b = link.sink.element

      sink_there : is_there g b ≡ true
      sink_there = w.scripted.has.sinks link is

      sink_within : b < length g.made
      sink_within = by (slice_get g.made b) refl (sink_low link is)
        where
          by : (found : Option Made) → slice_get g.made b ≡ found → link.sink.pad < sink_count found → b < length g.made
          by None at low = absurd (omega (arith, low))
          by (Some one) at low = slice_get_within g.made b one at

      counted : length (g.spans b) ≡ sink_count (slice_get g.made b)
      counted = w.scripted.has.current.stand.counted b

      some : 0 < length (m.took b)
      some =
          let size = split_size (net.cells b).input in
          let fed = length-map (m.plan.sinks b) (input_of m.history) in
          let spans : length (m.plan.sinks b) ≡ length (g.spans b) = ap length (w.scripted.has.run.sinks b sink_there) in
          let low = sink_low link is in
          let count = counted in
          omega (arith, size, fed, spans, low, count)

      -- one that joins streams ended, since its head is live
      joined : has makes_sinks g.made b ≡ true → AllEnded (m.took b)
      joined joins =
          let lanes : has_lanes g b ≡ true = ap (λ (x : Bool). has is_queue g.made b || x) joins ∙ or_true (has is_queue g.made b) in
          let own = are.fed b sink_there lanes in
          let number : b ≡ head_number (frame_of own.2.task).head = sym (ap (λ (head : Head (StreamSource S) I O giver). head_number (head_frame o head)) own.2.head_is ∙ own.3) in
          let done =
          told.ended own.0 own.2.task own.2.at (subst (λ (n : ℕ). live n ≡ true) number (live_is b alive)) (subst (λ (n : ℕ). has makes_sinks g.made n ≡ true) number joins) in
          let one = at_rest k streams law owes contents script begun run w steps rests own.0 own.2.task own.2.at in
          subst (λ (n : ℕ). AllEnded (m.took n)) own.3
          (ended_by k streams law owes contents script begun run w steps rests own.0 own.1 own.2 (subst (λ (step : Step). TaskRests run.tells m own.2.task step) (some_same (sym one.1 ∙ done)) one.2))
        where
          or_true : (x : Bool) → (x || true) ≡ true
          or_true true = refl
          or_true false = refl

      -- another one has one sink pad
      single : has makes_sinks g.made b ≡ false → AllEnded (m.took b)
      single apart = by (settled k streams law owes contents script begun run w steps rests live told emptied b sink_there sink_within)
        where
          few : length (g.spans b) ≤ 1
          few = let count = counted in let one = few_sinks (slice_get g.made b) apart in omega (arith, count, one)

          first : link.sink.pad ≡ 0
          first = let low = sink_low link is in let count = counted in let one = few in omega (arith, low, count, one)

          by : (m.took b ≡ map (input_of m.history) (g.spans b)) ⊎ AllEnded (m.took b) → AllEnded (m.took b)
          by (inr ended) = ended
          by (inl is) =
              subst AllEnded (sym is) (one_ended m.history (g.spans b) few (subst (λ (pad : ℕ). list_ended (items (input_of m.history (get_or (g.spans b) pad []))) ≡ true) first eos))

      took_eos : HasEos b
      took_eos other = (some, by (has makes_sinks g.made b) refl)
        where
          by : (x : Bool) → has makes_sinks g.made b ≡ x → AllEnded (m.took b)
          by true joins = joined joins
          by false apart = single apart

    live_took : (a : ℕ) → IsLive g a → HasEos a
    live_took a (IsLive.source e one at source active) =
        λ other. absurd (true≢false (sym (ap (λ (found : Option Made). option_map_or (λ (x : Made). is_source x.settings) found false) at ∙ source) ∙ other))
    live_took b (IsLive.fed a e from way within) =
        let link = link_between g.links a b way in
        subst HasEos link.3
        (took_eos link.0 link.1 (subst (IsLive g) (sym link.3) (IsLive.fed a b from way within)) (over_link link.0 link.1 (subst HasEos (sym link.2) (live_took a from))))

    -- EOS came to a live sink
    module _ (d : ℕ) (sink : has is_sink g.made d ≡ true) where
      asked_sink : IsAsked is_sink (slice_get g.made d)
      asked_sink = asked_at is_sink (slice_get g.made d) sink

      no_other : sink_count (slice_get g.made d) ≡ 1
      no_other = ap sink_count asked_sink.at ∙ end_sinks asked_sink.element.settings asked_sink.is

      first_of : (link : PadLink) → IsIn link g.links → link.sink.element ≡ d → link.sink ≡ first_pad d
      first_of link is same =
          let low = sink_low link is in
          let one : sink_count (slice_get g.made link.sink.element) ≡ 1 = ap (λ (n : ℕ). sink_count (slice_get g.made n)) same ∙ no_other in
          let pad : link.sink.pad ≡ 0 = omega (arith, low, one) in
          ap (λ (n : ℕ). place_of n link.sink.pad) same ∙ ap (λ (n : ℕ). place_of d n) pad

      sink_ended : IsLive g d → IsAfterEos g m.history (first_pad d)
      sink_ended (IsLive.source e one at source active) =
          absurd (true≢false (sym source ∙ ap (λ (x : Made). is_source x.settings) (some_same (sym at ∙ asked_sink.at)) ∙ end_no_source asked_sink.element.settings asked_sink.is))
      sink_ended (IsLive.fed a e from way low) =
          let link = link_between g.links a d way in
          subst (IsAfterEos g m.history) (first_of link.0 link.1 link.3) (over_link link.0 link.1 (subst HasEos (sym link.2) (live_took a from)))

    -- all that is owed has crossed, and EOS came to each live sink
    pub run_is_whole : (forward : List ℕ) → AreWhole contents g forward m.history
    unfolding edited_plan
    run_is_whole forward = record { crossed = λ p pad there. all_crossed k streams law owes contents script begun run w steps rests live told emptied p pad there; ended = sink_ended }
