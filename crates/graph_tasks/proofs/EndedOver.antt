-- Where nothing is left EOS came to each live sink.
use Rattle.std.proofs.Common.{◌≡◌, ◌<◌, ◌%◌, ℕ, suc, Bool, true, false, List, Option, None, Some, map, length, refl, sym, ap}
use Rattle.std.proofs.Common.{◌∙◌, subst, arith}
use Rattle.std.specs.Prelude.{slice_get}
use Rattle.std.specs.List.{range_with_len}
use Rattle.std.specs.Option.{option_map_or}
use Rattle.std.proofs.lemmas.List.FromFn.{length-map-range_with_len}
use Rattle.gst_outside.specs.declared.sink.Sink as sinks
use Rattle.flow_model.specs.Call.{Call}
use Rattle.flow_model.specs.Eval.{Plan}
use Rattle.flow_model.specs.Link.{Span, input_of}
use Rattle.flow_model.specs.Rule.{Rule}
use Rattle.lane_core.specs.Lane.{Lane}
use Rattle.lane_core.specs.declared.ends.Inlet as inlets
use Rattle.lane_core.specs.declared.ends.Outlet as outlets
use Rattle.flow_model.specs.Moment.{Moment, behavior_at}
use Rattle.flow_model.specs.Over.{list_ended, AllEnded, PassesEos}
use Rattle.flow_model.specs.Split.{AreSplit}
use Rattle.flow_model.specs.Split as splits
use Rattle.flow_model.specs.declared.element.TaskElement as elements
use Rattle.flow_model.specs.declared.source.TaskSource as sources
use Rattle.el_settings.specs.Asked.{is_source, source_pads}
use Rattle.graph_core.specs.Elements.{Made, has}
use Rattle.graph_core.specs.Graph.{IsGraph, is_live, made as made_in, links as links_in}
use Rattle.graph_pads.specs.Links.{source_before}
use Rattle.graph_core.specs.Live.{Live}
use Rattle.graph_core.specs.declared.graph.Graph.{Graph}
use Rattle.launch_text.specs.declared.tree.Tree.{Tree}
use Rattle.graph_core.specs.GraphPlan.{line_plan, sink_at, sink_count, spans_from}
use Rattle.graph_parts.specs.Pads.{pad_owner}
use Rattle.graph_parts.specs.Plans.{tight_rule}
use Rattle.graph_parts.proofs.Wholes.{numbers_have_pads}
use Rattle.graph_parts.specs.BagLaws.{StandsIn}
use Rattle.graph_parts.specs.declared.bag.Bag.{Bag}
use Rattle.graph_parts.proofs.Apart.{bags_are_there}
use Rattle.task_elements.specs.Stands.{pads_of}
use Rattle.task_elements.proofs.FirstEos.{whole_goes_on}
use Rattle.task_parts.specs.declared.part.Part.{Part}
use Rattle.net_task.specs.Frame.{wire_of}
use Rattle.task_elements.specs.declared.element.StreamElement.{StreamElement}
use Rattle.net_task.specs.declared.task.Task.{Task}
use Rattle.graph_tasks.specs.Ended.{LiveHandEosOn}
use Rattle.graph_tasks.specs.Runs.{RunsAt}
use Rattle.graph_tasks.specs.Written.{AreStreams}
use Rattle.graph_tasks.proofs.EndedBags.{HasOwn, map_length, own_part, own_source, part_own, stands_own}
use Rattle.graph_tasks.proofs.EndedLive.{in_bag, live_sinks}
use Rattle.graph_tasks.proofs.EndedLoose.{cells_at}
use Rattle.graph_tasks.proofs.EndedPass.{source_passes}
use Rattle.graph_parts.specs.Links.{source_count}

-- there is a list taken for each that was given
split_size : {ts hs ws : List (List Call)} → AreSplit ts hs ws → length ts ≡ length ws
split_size splits.none = refl
split_size (splits.pad e s) = ap suc (split_size s)

module _ {S K I O L : Type 0} (k : sinks.Ghosts K) {s : sources.Ghosts S} {e : elements.Ghosts (StreamElement K)} {i : inlets.Ghosts I L O}
    {o : outlets.Ghosts O L} (streams : AreStreams k e)
    (tree : Tree) (contents : ℕ → List ℕ) (graph : Graph) (bags : List Bag) (m : Moment) (tasks : List (Task S (StreamElement K) I O L s e i o))
    (tells : Option (List Lane))
    (is : IsGraph tree graph) (at : RunsAt contents graph bags m tasks tells) where
  -- what is known of a source pad of a live element
  record IsPadAt (n p : ℕ) : Type 0 where
    pub element : Made
    pub there : slice_get (made_in graph) n ≡ Some element
    pub few : m.plan.port p < source_pads element.settings

  pad_at : (n : ℕ) → n < length (made_in graph) → (p : ℕ) → m.plan.owner p ≡ n → IsPadAt n p
  unfolding line_plan
  pad_at n there p own = go (slice_get (made_in graph) n) refl few
    where
      own_is : pad_owner (made_in graph) p ≡ n
      own_is = subst (λ (plan : Plan). plan.owner p ≡ n) at.plan own

      few : p % 64 < source_count (made_in graph) n
      few =
          let number = numbers_have_pads (made_in graph) p (omega (arith, own_is, there)) in
          subst (λ (d : ℕ). p % 64 < source_count (made_in graph) d) (sym number.owner ∙ own_is) number.there

      port_is : m.plan.port p ≡ p % 64
      port_is = ap (λ (plan : Plan). plan.port p) at.plan

      go : (found : Option Made) → slice_get (made_in graph) n ≡ found → p % 64 < option_map_or (λ (a : Made). source_pads a.settings) found 0 → IsPadAt n p
      go None at few = absurd (omega (arith, few))
      go (Some a) at few = record { element = a; there = at; few = omega (arith, port_is, few) }

  rule_at : (n : ℕ) (a : Made) → slice_get (made_in graph) n ≡ Some a → m.plan.rule n ≡ tight_rule (Some a) n (contents n)
  rule_at n a there = ap (λ (plan : Plan). plan.rule n) at.plan ∙ ap (λ (found : Option Made). tight_rule found n (contents n)) there

  no_source : (n : ℕ) (a : Made) → slice_get (made_in graph) n ≡ Some a → is_source a.settings ≡ false → has is_source (made_in graph) n ≡ true → ⊥
  no_source n a there other source = no (sym other ∙ (rw there at source))
    where
      no : false ≡ true → ⊥
      no e = cc

  -- an element of a task has the source pads of its settings
  part_pads : (n : ℕ) (a : Made) → slice_get (made_in graph) n ≡ Some a → (number : ℕ) (task : Task S (StreamElement K) I O L s e i o) → slice_get tasks number ≡ Some task
      → (place : ℕ) (part : Part (StreamElement K) O e) → slice_get task.parts.items place ≡ Some part → part.number ≡ n → pads_of part.element ≡ source_pads a.settings
  part_pads n a there number task task_at place part part_at same =
      let own = part_own (made_in graph) (links_in graph) bags tasks at.have number task task_at place part part_at in
      let count = ap (λ (found : Option Made). option_map_or (λ (one : Made). source_pads one.settings) found 0) (ap (slice_get (made_in graph)) same ∙ there) in
      let wires = map_length (wire_of o) part.pads.items in
      let ports = part.ports in
      let size = part.pads.ok.0 in
      let told = streams.ports part.element in
      omega (arith, own, count, wires, ports, size, told)

  -- a live element that is no source took a list
  took_some : (n : ℕ) → Live (made_in graph) (links_in graph) n → (a : Made) → slice_get (made_in graph) n ≡ Some a → is_source a.settings ≡ false
      → 0 < length (m.took n)
  unfolding line_plan
  took_some n live a there other =
      let spans : ℕ → List Span = λ j. spans_from (source_before (links_in graph) (sink_at n j)) in
      let size = split_size (cells_at contents graph bags m tasks tells at n).input in
      let fed = map_length (input_of m.history) (map spans (range_with_len 0 (sink_count (slice_get (made_in graph) n)))) in
      let pads = length-map-range_with_len spans 0 (sink_count (slice_get (made_in graph) n)) in
      let some = live_sinks tree graph is at.sound at.once n live a there other in
      omega (arith, size, fed, pads, some)

  -- an element of a task hands EOS on
  own_passes : (n : ℕ) → Live (made_in graph) (links_in graph) n → (a : Made) → slice_get (made_in graph) n ≡ Some a → is_source a.settings ≡ false
      → (number : ℕ) (task : Task S (StreamElement K) I O L s e i o) → slice_get tasks number ≡ Some task → HasOwn (made_in graph) task n
      → AllEnded (m.took n) → (port : ℕ) → port < source_pads a.settings
      → list_ended (m.plan.rule n (m.took n) port 0) ≡ true
  own_passes n live a there other number task task_at (own_part place part part_at same) ended port few =
      let stood = ((at.net.tied number task task_at).parts_tied.each place part part_at).stood in
      let stands = streams.stands part.element (behavior_at m part.number) (m.took part.number) stood in
      let pads = part_pads n a there number task task_at place part part_at same in
      subst (λ (d : ℕ). list_ended (m.plan.rule d (m.took d) port 0) ≡ true) same
      (whole_goes_on k.bytes part.element (behavior_at m part.number) (m.took part.number) stands
      (subst (λ (d : ℕ). 0 < length (m.took d)) (sym same) (took_some n live a there other)) (at.net.first part.number).0
      (subst (λ (d : ℕ). AllEnded (m.took d)) (sym same) ended) port (omega (arith, few, pads)))
  own_passes n live a there other number task task_at (own_source head head_at same source) ended port few = absurd (no_source n a there other source)

  live_passes : (n : ℕ) → Live (made_in graph) (links_in graph) n → PassesEos m n
  live_passes n live ended p own = go (is_source pad.element.settings) refl
    where
      bag : (j : ℕ) × StandsIn bags j n
      bag = in_bag tree graph is at.sound at.once bags at.bags_are.are n live

      pad : IsPadAt n p
      pad = pad_at n (bags_are_there (made_in graph) (links_in graph) bags at.sound.pads at.bags_are.are bag.0 n bag.1) p own

      go : (b : Bool) → is_source pad.element.settings ≡ b → list_ended (m.plan.rule n (m.took n) (m.plan.port p) 0) ≡ true
      go true source =
          ap (λ (r : Rule). list_ended (r (m.took n) (m.plan.port p) 0)) (rule_at n pad.element pad.there)
          ∙ source_passes pad.element n (contents n) (m.took n) (m.plan.port p) source
      go false other =
          let one = stands_own (made_in graph) (links_in graph) bags tasks at.have at.bags_are.are bag.0 n bag.1 in
          own_passes n live pad.element pad.there other bag.0 one.task one.at one.own ended (m.plan.port p) pad.few

  pub passes : (n : ℕ) → is_live graph n ≡ true → PassesEos m n
  passes n marked = live_passes n (at.sound.live.0 n marked)

pub live_hand_eos_on : {S K I O L : Type 0} (k : sinks.Ghosts K) (s : sources.Ghosts S) (e : elements.Ghosts (StreamElement K)) (i : inlets.Ghosts I L O)
    (o : outlets.Ghosts O L)
    → LiveHandEosOn k s e i o
live_hand_eos_on k s e i o streams tree contents graph bags m tasks tells is at n live = passes k streams tree contents graph bags m tasks tells is at n live
