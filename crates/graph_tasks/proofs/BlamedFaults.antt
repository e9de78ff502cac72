-- Why a task of a graph met a fault, by the graph alone.
use Rattle.std.proofs.Common.{◌≡◌, ◌<◌, ℕ, true, false, List, ◌∷◌, Option, None, Some, length, map, refl, sym, ap, ◌∙◌, subst, arith}
use Rattle.std.specs.Prelude.{slice_get}
use Rattle.std.proofs.lemmas.List.FromFn.{length-map-range_with_len}
use Rattle.gst_outside.specs.declared.sink.Sink as sinks
use Rattle.flow_model.specs.Call.{Call, feeds}
use Rattle.flow_model.specs.Eval.{Plan}
use Rattle.flow_model.specs.Feeding.{IsFaultOf}
use Rattle.flow_model.specs.Item.{Item}
use Rattle.lane_core.specs.Lane.{Lane}
use Rattle.lane_core.specs.declared.ends.Inlet as inlets
use Rattle.lane_core.specs.declared.ends.Outlet as outlets
use Rattle.flow_model.specs.Failures.{IsWriteCause}
use Rattle.flow_model.specs.Moment.{Moment, behavior_at}
use Rattle.flow_model.specs.Split.{AreEmpty}
use Rattle.flow_model.specs.Step.{Leads}
use Rattle.flow_model.specs.declared.element.TaskElement as elements
use Rattle.flow_model.specs.declared.refusal.Refusal.{Refusal}
use Rattle.flow_model.specs.declared.refusal.Refusal.TheVariants.{Fault, Unwritten}
use Rattle.flow_model.specs.declared.refusal.Unread.{Unread}
use Rattle.flow_model.specs.declared.source.TaskSource as sources
use Rattle.flow_model.specs.Refuses.{RefusesBy}
use Rattle.el_settings.specs.Asked.{is_source, sink_pads}
use Rattle.el_set.specs.Denoted.{answers_of}
use Rattle.graph_core.specs.Elements.{Made, has}
use Rattle.graph_core.specs.Graph.{made as made_in, links as links_in}
use Rattle.graph_core.specs.declared.graph.Graph.{Graph}
use Rattle.graph_core.specs.GraphPlan.{owner_of, sink_count, sink_at as place_at}
use Rattle.graph_parts.specs.Links.{has_inlets, source_count}
use Rattle.graph_parts.specs.declared.bag.Bag.{Bag}
use Rattle.graph_parts.specs.MomentLaws.{place_of}
use Rattle.graph_parts.specs.Plans.{answers_for}
use Rattle.graph_parts.proofs.Sources.{owner_is}
use Rattle.task_elements.specs.Stands.{StreamStands, faults_in, takes_all}
use Rattle.task_elements.specs.declared.element.StreamElement.{StreamElement}
use Rattle.task_elements.specs.declared.element.StreamElement.TheVariants as roles
use Rattle.task_parts.specs.Fault.{refusal_fault}
use Rattle.task_parts.specs.declared.fault.TaskFault.{TaskFault}
use Rattle.task_parts.specs.declared.fault.TaskFault.TheVariants.{NotLinked, TooLong}
use Rattle.task_parts.specs.declared.head.Head.{Head}
use Rattle.task_parts.specs.declared.part.Part.{Part}
use Rattle.task_parts.specs.declared.head.Head.TheVariants.{Inlets, Source}
use Rattle.net_task.specs.declared.task.Task.{Task}
use Rattle.net_task.specs.Short.{CrossedShort}
use Rattle.net_task.specs.Failed.{FailsAs, GaveUp, IsUnread, Origin, Refuses, WasFor, at_pad, by_inlet, by_pad, by_source}
use Rattle.net_task.specs.Frame.{IsWire, TaskFrame, frame_of, head_frame}
use Rattle.graph_tasks.specs.Blamed.{FaultsAreBlamed, IsBlamed}
use Rattle.graph_tasks.specs.Owed.{IsAwaited, at_awaited, came_to, from_inlet, inputs_to}
use Rattle.graph_tasks.specs.Runs.{RunStands, RunsAt, crossed_in}
use Rattle.graph_tasks.specs.Short.{UnreadAt}
use Rattle.graph_tasks.specs.Written.{AreStreams}
use Rattle.graph_tasks.proofs.Awaited.{awaited, next_at, split_came, took_all, waits_at_pad, went_is}
use Rattle.graph_tasks.proofs.BlamedFrames.{bag_of, source_is, wire_inner, wire_there}
use Rattle.graph_tasks.proofs.BlamedLimits.{limited}
use Rattle.graph_tasks.proofs.BlamedLinks.{unlinked}
use Rattle.graph_tasks.proofs.Came.{leads_from, number_at}
use Rattle.graph_tasks.proofs.CutShort.{cut_short}
use Rattle.graph_tasks.proofs.FedElements.{IsAsked, asked_at, no_sink, not_asked, only_first}
use Rattle.graph_tasks.proofs.FedHeads.{head_fed}
use Rattle.graph_tasks.proofs.FirstHeld.{IsFirstHeld, first_within, next_held, split_first}
use Rattle.graph_tasks.proofs.InOrder.{runs_stand}
use Rattle.gst_value.proofs.Basics.{none_some}
use Rattle.graph_tasks.proofs.EndedBags.{map_length as map_size}
use Rattle.flow_model.specs.Rule.{Answers}

not_both : true ≡ false → ⊥
not_both e = cc

-- the element of a sink pad
record HasSinkAt (found : Option Made) (pad : ℕ) : Type 0 where
  pub element : Made
  pub at : found ≡ Some element
  pub few : pad < sink_pads element.settings

sink_at : (found : Option Made) (pad : ℕ) → pad < sink_count found → HasSinkAt found pad
sink_at None pad w = absurd (omega (arith, w))
sink_at (Some m) pad w = record { element = m; at = refl; few = w }

-- only a sink writes
writes_none : {K : Type 0} (bytes : K → Option (List ℕ)) (faults : K → ℕ) (was : StreamElement K) (behavior : _) (took : List (List Call))
    → StreamStands bytes was behavior took → (behavior ≡ takes_all → ⊥) → faults_in faults was ≡ None
writes_none bytes faults (roles.Sink sink) behavior took stands other = absurd (other stands.behavior_is)
writes_none bytes faults _ behavior took stands other = refl

module _ {S K I O L : Type 0} (k : sinks.Ghosts K) (s : sources.Ghosts S) (e : elements.Ghosts (StreamElement K)) (i : inlets.Ghosts I L O)
    (o : outlets.Ghosts O L) (streams : AreStreams k e)
    (contents : ℕ → List ℕ) (graph : Graph) (bags : List Bag) (m : Moment) (tasks : List (Task S (StreamElement K) I O L s e i o))
    (tells : Option (List Lane)) (at : RunsAt contents graph bags m tasks tells) where
  run : RunStands contents graph m
  run = runs_stand k s e i o streams contents graph bags m tasks tells at

  -- nothing stands in an inlet of an element that has none
  none_held : (n : ℕ) → has has_inlets (made_in graph) n ≡ false → AreEmpty (m.held n)
  none_held n none =
      at.net.others n (λ j head fed same.
      not_both (sym (subst (λ (d : ℕ). has has_inlets (made_in graph) d ≡ true) same (head_fed contents graph bags m tasks tells at j head fed)) ∙ none))

  -- what an element answers
  answers_at : (n : ℕ) (one : Made) → slice_get (made_in graph) n ≡ Some one → m.answers n ≡ answers_of one.settings
  answers_at n one here = ap (λ (f : ℕ → Answers). f n) at.answers ∙ ap answers_for here

  module _ (n pad : ℕ) (x : Item) where
    -- an item that is awaited by an element which is fed from a pad of its own task
    at_a_pad : (p : ℕ) (rest : List Item) → has has_inlets (made_in graph) n ≡ false → m.waits p ≡ x ∷ rest → Leads m.plan p n pad
        → (refusal : Refusal) → RefusesBy (behavior_at m n) (m.took n) pad x refusal → IsBlamed contents graph m (refusal_fault n refusal)
    at_a_pad p rest none waits leads = go
      where
        few : pad < sink_count (slice_get (made_in graph) n)
        few = (leads_from contents graph at.sound p n pad (subst (λ (pl : Plan). Leads pl p n pad) at.plan leads)).few

        next : IsAwaited contents (made_in graph) (links_in graph) (crossed_in graph m) (place_at n pad) x
        next = awaited contents graph m at.sound run p n pad x rest waits leads

        one : HasSinkAt (slice_get (made_in graph) n) pad
        one = sink_at (slice_get (made_in graph) n) pad few

        go : (refusal : Refusal) → RefusesBy (behavior_at m n) (m.took n) pad x refusal → IsBlamed contents graph m (refusal_fault n refusal)
        go (Fault own) why =
            IsBlamed.refused n one.element own one.at
            (at_awaited pad x (not_asked has_inlets (made_in graph) n one.element one.at none) next
            (subst (λ (took : List (List Call)). IsFaultOf (answers_of one.element.settings took pad x) own) (took_all contents graph m at.sound run n (none_held n none))
            (subst (λ (f : Answers). IsFaultOf (f (m.took n) pad x) own) (answers_at n one.element one.at) why)))
        go (Unwritten before after) why =
            IsBlamed.unwritten n before after x
            (subst (λ (d : ℕ). IsAwaited contents (made_in graph) (links_in graph) (crossed_in graph m) (place_at n d) x)
            (only_first (slice_get (made_in graph) n) pad none few) next)

    -- an item that came over a lane
    from_a_lane : {parts parts' : List (Part (StreamElement K) O e)} → IsFirstHeld contents graph bags m tasks tells at n pad x → (refusal : Refusal)
        → Refuses m parts parts' n pad x refusal → RefusesBy (behavior_at m n) (m.took n) pad x refusal → IsBlamed contents graph m (refusal_fault n refusal)
    from_a_lane held refusal refuses why = go refusal why refuses.by.cause
      where
        one : IsAsked has_inlets (slice_get (made_in graph) n)
        one = asked_at has_inlets (slice_get (made_in graph) n) held.fed

        given : List (List Call)
        given = map feeds (inputs_to (made_in graph) (links_in graph) (crossed_in graph m) n)

        few : pad < sink_pads one.element.settings
        few =
            let within = first_within pad _ (split_came contents graph m at.sound run n) held.first in
            let fed = map_size feeds (inputs_to (made_in graph) (links_in graph) (crossed_in graph m) n) in
            let pads = length-map-range_with_len (λ (j : ℕ). came_to (links_in graph) (crossed_in graph m) (place_at n j)) 0 (sink_count (slice_get (made_in graph) n)) in
            subst (λ (found : Option Made). pad < sink_count found) one.at (omega (arith, within, fed, pads))

        was : StreamElement K
        was = refuses.by.was.element

        go : (r : Refusal) → RefusesBy (behavior_at m n) (m.took n) pad x r → IsWriteCause (e.failures was) (e.failures refuses.by.is.element) r
            → IsBlamed contents graph m (refusal_fault n r)
        go (Fault own) is cause =
            IsBlamed.refused n one.element own one.at
            (from_inlet pad x (m.took n) one.is few (split_first pad _ held.rest (split_came contents graph m at.sound run n) held.first)
            (subst (λ (f : Answers). IsFaultOf (f (m.took n) pad x) own) (answers_at n one.element one.at) is))
        go (Unwritten before after) is cause =
            absurd (none_some (sym
            (streams.failures was
            ∙ writes_none k.bytes k.faults was (behavior_at m n) (m.took n) (streams.stands was (behavior_at m n) (m.took n) refuses.stood)
            (no_sink contents graph m at.plan n held.fed))
            ∙ cause.0))

  module _ (place : ℕ) (before after : Task S (StreamElement K) I O L s e i o) (here : slice_get tasks place ≡ Some before)
      (framed : frame_of after ≡ frame_of before) (over : Option (List Lane)) where
    -- an element that a pad of its own task leads to is not fed from inlets
    inner : (n pad p : ℕ) (x : Item) → WasFor i tells over (frame_of after) before.head after.head (at_pad p) n pad x → has has_inlets (made_in graph) n ≡ false
    inner n pad p x goes =
        let b = bag_of (made_in graph) (links_in graph) bags tasks at.bags_are.are at.have place before here in
        let wire = wire_there (made_in graph) (links_in graph) bags place (frame_of before) at.sound.pads at.bags_are.are b goes.0
        (subst (λ (f : TaskFrame). IsWire f goes.0) framed goes.1) in
        wire_inner (made_in graph) (links_in graph) goes.0 wire n pad goes.3

    refused : (n pad : ℕ) (x : Item) (refusal : Refusal) (origin : Origin) (behind : Moment) (lost : ℕ → List Item) → GaveUp m n pad x origin behind lost
        → WasFor i tells over (frame_of after) before.head after.head origin n pad x → Refuses m before.parts.items after.parts.items n pad x refusal
        → IsBlamed contents graph m (refusal_fault n refusal)
    refused n pad x refusal origin behind lost (by_pad p rest waits leads) goes why =
        at_a_pad n pad x p rest (inner n pad p x goes) waits leads refusal why.why
    refused n pad x refusal origin behind lost (by_source p rest waits leads) goes why =
        at_a_pad n pad x p rest (inner n pad p x goes) waits leads refusal why.why
    refused n pad x refusal origin behind lost by_inlet goes why =
        from_a_lane n pad x (next_held contents graph bags m tasks tells at place before here pad x over before.head after.head n refl goes) refusal why why.why

    -- a source that can't be read is one of the graph
    unread_short : (n : ℕ) (why : Unread) (head head' : Head S I O s) → before.head ≡ head → IsUnread head head' n why → CrossedShort m n why
        → UnreadAt contents (made_in graph) (crossed_in graph m) n why
    unread_short n why (Source old) (Source new) is unread_at short =
        let b = bag_of (made_in graph) (links_in graph) bags tasks at.bags_are.are at.have place before here in
        let t = source_is (made_in graph) (links_in graph) bags place (frame_of before) at.sound.pads at.bags_are.are b old.number (s.file old.source) _ (ap (head_frame o) is) in
        let own = subst (λ (j : ℕ). (has is_source (made_in graph) j ≡ true) × (source_count (made_in graph) j ≡ 1)) unread_at.0 t in
        cut_short contents graph m at.plan at.net.cells n own.0 own.1 why short
    unread_short n why (Source old) (Inlets new) is unread_at short = absurd unread_at
    unread_short n why (Inlets old) head' is unread_at short = absurd unread_at

    pub blamed : (origin : Origin) (fault : TaskFault) → FailsAs i o tells over m before.head after.head before.parts.items after.parts.items origin fault
        → IsBlamed contents graph m fault
    blamed origin fault (FailsAs.refused own n pad x refusal left goes why) = refused n pad x refusal own left.behind left.lost left.gave_up goes why
    blamed origin fault (FailsAs.unread n why tied is short) = IsBlamed.unread n why (unread_short n why before.head after.head refl is short)
    blamed origin fault (FailsAs.not_linked p x rest tied waits buffer nowhere) =
        let pad = waits_at_pad contents graph m at.sound run p x rest waits in
        subst (λ (q : ℕ). IsBlamed contents graph m (NotLinked q (length (m.history p)))) (sym (number_at p))
        (IsBlamed.not_linked (place_of p) (length (m.history p)) (ap length (went_is contents graph m at.sound run p pad))
        (unlinked contents graph m at.sound at.once run p x rest waits buffer nowhere))
    blamed origin fault (FailsAs.at_limit p x rest tied waits limit) =
        let pad = waits_at_pad contents graph m at.sound run p x rest waits in
        let few = limited m tasks tells at.net p x rest waits in
        let went = went_is contents graph m at.sound run p pad in
        let owner : m.plan.owner p ≡ owner_of p = subst (λ (pl : Plan). pl.owner p ≡ owner_of p) (sym at.plan) (owner_is (made_in graph) p pad) in
        subst (λ (n : ℕ). IsBlamed contents graph m (TooLong n 1099511627776 1)) (sym owner)
        (IsBlamed.full (place_of p) (let same = ap length went in omega (arith, same, few, limit)) (x, next_at contents graph m at.sound run p x rest waits))
    blamed origin fault (FailsAs.no_memory own tied) = IsBlamed.no_memory

pub faults_are_blamed : {S K I O L : Type 0} (k : sinks.Ghosts K) (s : sources.Ghosts S) (e : elements.Ghosts (StreamElement K)) (i : inlets.Ghosts I L O)
    (o : outlets.Ghosts O L) → FaultsAreBlamed k s e i o
faults_are_blamed k s e i o streams contents graph bags m tasks tells over at place before after fault here framed failed =
    blamed k s e i o streams contents graph bags m tasks tells at place before after here framed over failed.origin fault failed.fails
