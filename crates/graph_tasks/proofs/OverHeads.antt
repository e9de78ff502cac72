-- The heads of a graph's tasks: how many rows they have, and which joins they are.
use Rattle.std.proofs.Common.{◌≡◌, ◌||◌, ℕ, Bool, true, false, List, Option, None, Some, length, refl, sym, ap, ◌∙◌, subst}
use Rattle.std.specs.Prelude.{slice_get}
use Rattle.std.specs.Option.{option_map_or}
use Rattle.std.proofs.lemmas.Bool.{false≢true}
use Rattle.lane_core.specs.Lane.{Lane}
use Rattle.lane_core.specs.declared.ends.Inlet as inlets
use Rattle.lane_core.specs.declared.ends.Outlet as outlets
use Rattle.flow_model.specs.Moment.{Moment}
use Rattle.flow_model.specs.declared.element.TaskElement as elements
use Rattle.flow_model.specs.declared.source.TaskSource as sources
use Rattle.el_settings.specs.Asked.{Place, Begins, Passes, Splits, Gathers, Ends, begins, ends, gathers, is_queue, is_sink, is_source, makes_sinks, place_of}
use Rattle.el_settings.specs.declared.settings.Settings.{Settings}
use Rattle.el_settings.proofs.Roles.{queue_sinks}
use Rattle.graph_core.specs.Elements.{Made, has}
use Rattle.graph_core.specs.Graph.{made as made_in, links as links_in}
use Rattle.graph_core.specs.GraphPlan.{sink_count}
use Rattle.graph_core.specs.declared.graph.Graph.{Graph}
use Rattle.graph_parts.specs.Bags.{IsHead, head_number}
use Rattle.graph_parts.specs.BagLaws.{HasBag}
use Rattle.graph_parts.specs.Links.{has_inlets}
use Rattle.graph_parts.specs.declared.bag.Bag.{Bag}
use Rattle.graph_parts.specs.declared.bag.BagHead.{BagHead}
use Rattle.graph_parts.specs.declared.bag.BagHead.TheVariants as starts
use Rattle.graph_parts.proofs.Apart.{heads_have_bags}
use Rattle.task_parts.specs.declared.head.Head.{Head}
use Rattle.task_parts.specs.declared.head.Head.TheVariants.{Source, Inlets}
use Rattle.task_parts.specs.declared.head.InletHead.{InletHead}
use Rattle.net_task.specs.declared.task.Task.{Task}
use Rattle.net_task.specs.Frame.{by_inlets, frame_of, head_frame}
use Rattle.net_turns.specs.Net.{IsFed}
use Rattle.graph_tasks.specs.Frames.{IsFrameOf, IsHeadFrame}
use Rattle.graph_tasks.specs.Runs.{RunsAt}
use Rattle.graph_tasks.proofs.EndedBags.{bag_is, bag_of, task_of}
use Rattle.graph_tasks.proofs.EndedGraphs.{inlets_head}
use Rattle.graph_tasks.proofs.FedHeads.{head_fed}

-- an element that brings streams together begins none, and ends none
gathers_only : (p : Place) → gathers p ≡ true → (begins p ≡ false) × (ends p ≡ false)
gathers_only Gathers is = (refl, refl)
gathers_only Begins is = absurd (cc)
gathers_only Passes is = absurd (cc)
gathers_only Splits is = absurd (cc)
gathers_only Ends is = absurd (cc)

pub joins_no_source : (s : Settings) → makes_sinks s ≡ true → is_source s ≡ false
joins_no_source s is = (gathers_only (place_of s) is).0

pub joins_no_sink : (s : Settings) → makes_sinks s ≡ true → is_sink s ≡ false
joins_no_sink s is = (gathers_only (place_of s) is).1

-- it is fed from inlets
joins_inlets : (found : Option Made) → option_map_or (λ (m : Made). makes_sinks m.settings) found false ≡ true
    → option_map_or (λ (m : Made). has_inlets m.settings) found false ≡ true
joins_inlets None is = absurd (cc)
joins_inlets (Some m) is = go (is_queue m.settings) is
  where
    go : (b : Bool) → makes_sinks m.settings ≡ true → (b || makes_sinks m.settings) ≡ true
    go true is = refl
    go false is = is

-- an element that is fed from inlets, and of which no link makes a sink pad, has one
inlets_sinks : (found : Option Made) → option_map_or (λ (m : Made). makes_sinks m.settings) found false ≡ false
    → option_map_or (λ (m : Made). has_inlets m.settings) found false ≡ true → sink_count found ≡ 1
inlets_sinks None single is = absurd (cc)
inlets_sinks (Some m) single is = queue_sinks m.settings (by (is_queue m.settings) (makes_sinks m.settings) single is)
  where
    by : (b d : Bool) → d ≡ false → (b || d) ≡ true → b ≡ true
    by true d single is = refl
    by false true single is = absurd (cc)
    by false false single is = absurd (cc)

no_both : (found : Option Made) → option_map_or (λ (m : Made). makes_sinks m.settings) found false ≡ true
    → option_map_or (λ (m : Made). is_source m.settings) found false ≡ true → ⊥
no_both None joins source = false≢true joins
no_both (Some m) joins source = false≢true (sym (joins_no_source m.settings joins) ∙ source)

module _ {S E I O L : Type 0} {s : sources.Ghosts S} {e : elements.Ghosts E} {i : inlets.Ghosts I L O} {o : outlets.Ghosts O L}
    (contents : ℕ → List ℕ) (graph : Graph) (bags : List Bag) (m : Moment) (tasks : List (Task S E I O L s e i o)) (tells : Option (List Lane))
    (at : RunsAt contents graph bags m tasks tells) where
  -- a head has a row for each sink pad
  pub row_count : (k : ℕ) (head : InletHead I) → IsFed tasks k head → length head.rows.items ≡ sink_count (slice_get (made_in graph) head.number)
  row_count k head fed = go bag.0.head (subst (λ (h : Head S I O s). IsHeadFrame (made_in graph) (links_in graph) bag.0.head (head_frame o h)) fed.head_is bag.2.head)
    where
      bag : (own : Bag) × (slice_get bags k ≡ Some own) × IsFrameOf (made_in graph) (links_in graph) own (frame_of fed.task)
      bag = bag_of (made_in graph) (links_in graph) bags tasks at.have k fed.task fed.at

      go : (own : BagHead) → IsHeadFrame (made_in graph) (links_in graph) own (by_inlets head.number (length head.rows.items))
          → length head.rows.items ≡ sink_count (slice_get (made_in graph) head.number)
      go (starts.Source cell) frame = absurd frame
      go (starts.Inlets n) frame = frame.1 ∙ ap (λ (d : ℕ). sink_count (slice_get (made_in graph) d)) (sym frame.0)

  pub single_row : (k : ℕ) (head : InletHead I) → IsFed tasks k head → has makes_sinks (made_in graph) head.number ≡ false → length head.rows.items ≡ 1
  single_row k head fed single =
      row_count k head fed ∙ inlets_sinks (slice_get (made_in graph) head.number) single (head_fed contents graph bags m tasks tells at k head fed)

  -- an element that brings streams together is the head of a task
  pub join_head : (n : ℕ) → has makes_sinks (made_in graph) n ≡ true → (k : ℕ) × (head : InletHead I) × IsFed tasks k head × (head.number ≡ n)
  join_head n joins =
      let b : HasBag bags n = heads_have_bags (made_in graph) (links_in graph) bags at.bags_are.are n
      (inlets_head (made_in graph) n (joins_inlets (slice_get (made_in graph) n) joins)) in
      let t = task_of (made_in graph) (links_in graph) bags tasks at.have b.number b.bag b.is in
      go b.number t.0 t.1 b.bag.head t.0.head refl t.2.head (bag_is (made_in graph) (links_in graph) bags at.bags_are.are b.number b.bag b.is).head b.head
    where
      go : (k : ℕ) (task : Task S E I O L s e i o) → slice_get tasks k ≡ Some task → (own : BagHead) (head : Head S I O s) → task.head ≡ head
          → IsHeadFrame (made_in graph) (links_in graph) own (head_frame o head) → IsHead (made_in graph) (links_in graph) own → head_number own ≡ n
          → (k : ℕ) × (head : InletHead I) × IsFed tasks k head × (head.number ≡ n)
      go k task task_at (starts.Source cell) head head_is frame source number =
          absurd (no_both (slice_get (made_in graph) n) joins (subst (λ (d : ℕ). has is_source (made_in graph) d ≡ true) number source))
      go k task task_at (starts.Inlets d) (Source head) head_is frame fed number = absurd frame
      go k task task_at (starts.Inlets d) (Inlets head) head_is frame fed number = (k, head, record { task = task; at = task_at; head_is = head_is }, frame.0 ∙ number)
