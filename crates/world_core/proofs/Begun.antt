-- Control has the run of a launch line where it begins.
use Rattle.std.proofs.Common.{◌≡◌, ◌≤◌, ◌<◌, ◌&&◌, ◌||◌, ℕ, Bool, true, false, not, nat_lt, if◌then◌else◌, List, [], Option, None, Some, cond, is_some, length, refl, sym, ap, ◌∙◌, arith}
use Rattle.std.specs.Prelude.{bytes_eq, position, slice_get}
use Rattle.std.specs.List.{range_with_len}
use Rattle.std.proofs.lemmas.List.Quantifiers.{position-Some}
use Rattle.std.proofs.lemmas.List.FromFn.{length-range_with_len}
use Rattle.gst_value.proofs.Basics.{none_some, some_same}
use Rattle.graph_pads.specs.Pads.{pad_text}
use Rattle.std.proofs.lemmas.Option.{slice_get_past, slice_get_within}
use Rattle.std.specs.Option.{option_map, option_map_or}
use Rattle.std.proofs.lemmas.Bool.{false≢true, lt-ltb, ltb-false, ltb-true, true≢false}
use Rattle.lane_core.specs.Lane.{Lane}
use Rattle.lane_core.specs.declared.ends.Inlet as inlets
use Rattle.lane_core.specs.declared.ends.Outlet as outlets
use Rattle.flow_model.specs.Moment.{Moment}
use Rattle.flow_model.specs.Rule.{Rule}
use Rattle.flow_model.specs.declared.element.TaskElement as elements
use Rattle.flow_model.specs.declared.source.TaskSource as sources
use Rattle.inlet_row.specs.declared.row.InletRow.{InletRow}
use Rattle.inlet_row.specs.Row.{feeds_of}
use Rattle.task_parts.specs.declared.head.InletHead.{InletHead}
use Rattle.net_task.specs.declared.task.Task.{Task}
use Rattle.net_turns.specs.Net.{HasRow, IsFed, NetStands}
use Rattle.gst_value.specs.declared.name.PadName.{PadName}
use Rattle.launch_text.specs.declared.tree.Tree.{Tree}
use Rattle.el_settings.specs.Asked.{is_queue, is_sink, is_source, limits_of, makes_sinks, source_pads}
use Rattle.el_settings.specs.declared.settings.QueueSettings.{QueueSettings}
use Rattle.el_settings.specs.declared.settings.Settings.{Settings}
use Rattle.el_settings.proofs.Roles.{queue_limits}
use Rattle.graph_core.specs.Elements.{Made, has, limit}
use Rattle.graph_core.specs.Graph.{IsGraph, IsSound, made as made_in, links as links_in}
use Rattle.graph_core.specs.GraphPlan.{line_plan, owner_of, pad_id, rule_for, sink_at}
use Rattle.graph_core.specs.LinkedOnce.{AreOnce}
use Rattle.graph_core.specs.declared.graph.Graph.{Graph}
use Rattle.graph_core.proofs.LinkedOnce.{linked_once}
use Rattle.graph_core.proofs.Orders.{pads_at_link}
use Rattle.graph_pads.specs.Links.{source_before}
use Rattle.graph_pads.specs.declared.pad.Direction.TheVariants.{Source}
use Rattle.graph_pads.specs.declared.pad.PadPlace.{PadPlace}
use Rattle.graph_parts.specs.Bags.{AreAllBags}
use Rattle.graph_parts.specs.Lanes.{room_by, room_of, sink_of}
use Rattle.graph_parts.specs.Links.{has_inlets, source_count}
use Rattle.graph_parts.specs.Pads.{IsThere, is_pad}
use Rattle.graph_parts.specs.Plans.{tight_rule}
use Rattle.graph_parts.specs.declared.bag.Bag.{Bag}
use Rattle.graph_parts.proofs.LaneSlots.{no_slots}
use Rattle.graph_parts.proofs.Wholes.{pads_have_numbers}
use Rattle.graph_tasks.specs.Frames.{HaveBags}
use Rattle.graph_tasks.specs.Start.{ElementsStand, SourcesStand, TasksStart}
use Rattle.graph_tasks.specs.Tasks.{AreTasks, IsRowOf}
use Rattle.graph_tasks.proofs.Given.{IsKnown}
use Rattle.graph_tasks.proofs.Graphs.{inlets_head}
use Rattle.graph_tasks.proofs.Heads.{fed_rows, inlets_of}
use Rattle.graph_tasks.proofs.Bagged.{tasks_have}
use Rattle.graph_core.proofs.NumberedPads.{owner_at}
use Rattle.graph_parts.proofs.Trees.{only_sink}
use Rattle.graph_edits.specs.Edited.{Edited, is_active}
use Rattle.graph_edits.specs.Lawful.{AreAnswered}
use Rattle.graph_edits.specs.Names.{pad_in, pad_named}
use Rattle.edit_core.proofs.Finding.{found_element, found_of}
use Rattle.graph_edits.specs.Plans.{edited_plan, is_asleep}
use Rattle.graph_edits.specs.Refused.{has_lanes}
use Rattle.graph_edits.proofs.Ended.{stays_open}
use Rattle.graph_edits.proofs.Keeping.{stays_kept}
use Rattle.graph_edits.proofs.Laws.{nothing_done}
use Rattle.graph_edits.proofs.LinksStanding.{links_stay_exact}
use Rattle.edit_core.proofs.Made.{stays_made}
use Rattle.edit_core.specs.Feeds.{AreFeeds}
use Rattle.edit_core.specs.Judging.{owed_then}
use Rattle.edit_core.specs.Notes.{IsCurrent}
use Rattle.edit_core.specs.Tasks.{AreTasksOf}
use Rattle.edit_core.specs.Ways.{IsRun}
use Rattle.edit_core.specs.Whole.{moment_plan, owner_in}
use Rattle.edit_core.specs.declared.feeds.Feeds.{Feeds}
use Rattle.edit_core.proofs.Marks.{stays_unmarked}
use Rattle.edit_core.proofs.Named.{stays_named}
use Rattle.edit_acts.specs.Controlled.{AreOwned, IsControlled, SinksAreThere}
use Rattle.edit_acts.specs.Evaluated.{FitsPlan}
use Rattle.edit_acts.specs.Scripted.{IsScripted}
use Rattle.graph_edits.specs.Graph.{IsEdited}
use Rattle.graph_edits.specs.declared.graph.EditedGraph.{EditedGraph}
use Rattle.script_text.specs.declared.command.Command.{Command}
use Rattle.task_elements.specs.Stands.{owes_nothing}
use Rattle.world_core.specs.Begins.{IsBegun, line_graph}
use Rattle.world_core.proofs.AtOpening.{few_elements, first, first_stands, owner_so, waits_none}
use Rattle.world_core.proofs.Tasks.{are_tasks, lanes_are, never_asleep, sink_low, there_low}

-- where there is a lane, the element is fed from inlets
room_fed : (s : Settings) → is_some (room_by s) ≡ true → has_inlets s ≡ true
room_fed s is = by (makes_sinks s) (is_queue s) (limits_of s) (queue_limits s) is
  where
    by : (joins queue : Bool) (limits : Option QueueSettings) → is_some limits ≡ queue → is_some (if joins then Some 16 else option_map room_of limits) ≡ true → (queue || joins) ≡ true
    by joins true limits told is = refl
    by true false limits told is = refl
    by false false None told is = absurd cc
    by false false (Some limits) told is = absurd cc

lane_fed : (linked : Bool) (found : Option Made) → is_some (cond linked (option_map_or (λ (m : Made). room_by m.settings) found None) None) ≡ true
    → option_map_or (λ (m : Made). has_inlets m.settings) found false ≡ true
lane_fed false found is = absurd cc
lane_fed true None is = absurd cc
lane_fed true (Some m) is = room_fed m.settings is

-- a source pad that is named is one that its element has
pad_low : (name : List ℕ) (k : ℕ) (m : Made) (place : PadPlace) → pad_in Source name k m ≡ Some place → place.pad < source_pads m.settings
pad_low name k m place e = by (position (λ n. bytes_eq name (pad_text Source m.settings n)) (range_with_len 0 (source_pads m.settings))) refl e
  where
    by : (o : Option ℕ) → position (λ n. bytes_eq name (pad_text Source m.settings n)) (range_with_len 0 (source_pads m.settings)) ≡ o → option_map {U = PadPlace} (λ n. record { element = k; pad = n }) o ≡ Some place
        → place.pad < source_pads m.settings
    by None at e = absurd (none_some e)
    by (Some n) at e =
        let low = (position-Some (λ n. bytes_eq name (pad_text Source m.settings n)) (range_with_len 0 (source_pads m.settings)) n 0 at).0 in
        let size = length-range_with_len 0 (source_pads m.settings) in
        let same : n ≡ place.pad = ap (λ (p : PadPlace). p.pad) (some_same e) in
        omega (arith, low, size, same)

named_low : (g : Edited) (name : PadName) (source : PadPlace) → pad_named Source g name ≡ Some source → IsThere g.made source
named_low g name source e =
    let found = found_of Source g name source e in
    let own = found_element Source name.pad found.element found.made source found.pad in
    let count : source_count g.made source.element ≡ source_pads found.made.settings =
    ap (λ (x : Option Made). option_map_or (λ (m : Made). source_pads m.settings) x 0) (ap (slice_get g.made) (sym own) ∙ found.at) in
    let low = pad_low name.pad found.element found.made source found.pad in
    omega (arith, count, low)

-- a source pad that is there is one of an element that is
element_low : (made : List Made) (source : PadPlace) → IsThere made source → source.element < length made
element_low made source there = by (slice_get made source.element) refl there
  where
    by : (found : Option Made) → slice_get made source.element ≡ found → source.pad < option_map_or (λ (m : Made). source_pads m.settings) found 0 → source.element < length made
    by None at low = absurd (omega (arith, low))
    by (Some m) at low = slice_get_within made source.element m at

module _ {S E I O L : Type 0} (s : sources.Ghosts S) (e : elements.Ghosts E) (i : inlets.Ghosts I L O) (o : outlets.Ghosts O L) (start : TasksStart s e i o) (contents : ℕ → List ℕ) (tree : Tree) (graph : Graph)
    (bags : List Bag) (ends : List (Option E)) (files : List (Option S)) (tasks : List (Task S E I O L s e i o)) (table : List Lane) (line : IsGraph tree graph) (sound : IsSound graph)
    (all : AreAllBags (made_in graph) (links_in graph) bags) (are : AreTasks i o (made_in graph) (links_in graph) ends files bags tasks table) (stood : ElementsStand e contents graph ends)
    (gave : SourcesStand s contents graph files) where
  once : AreOnce (links_in graph)
  once = linked_once tree graph line

  known : IsKnown i o graph bags ends files tasks table
  known = record { sound = sound; once = once; are = all.are; made_of = are }

  few : length (made_in graph) ≤ limit
  few = few_elements tree graph line

  abbrev begun : Moment
  begun = first contents graph few

  have : HaveBags (made_in graph) (links_in graph) bags tasks
  have = tasks_have i o (made_in graph) (links_in graph) ends files bags tasks table are

  empty_row : (h port : ℕ) (row : InletRow I) → has has_inlets (made_in graph) h ≡ false → port ≡ 0 → IsRowOf i (made_in graph) (links_in graph) h port row → feeds_of row ≡ []
  empty_row h port row plain first_port (IsRowOf.unlinked none empty) = empty
  empty_row h port row plain first_port (IsRowOf.linked inlet has_it feeds place received) =
      let own = owner_at (sink_at h port) (omega (arith, first_port)) in
      let fed = lane_fed (is_some (source_before (links_in graph) (sink_of (pad_id (sink_at h port))))) (slice_get (made_in graph) (owner_of (pad_id (sink_at h port)))) has_it in
      absurd (false≢true (sym plain ∙ ap (has has_inlets (made_in graph)) (sym own) ∙ fed))

  bare : (k n port : ℕ) (row : InletRow I) → HasRow tasks k n port row → has_lanes (line_graph graph) n ≡ false → feeds_of row ≡ []
  bare k n port row r none =
      let f = fed_rows known k r.head r.fed in
      let within = slice_get_within r.head.rows.items port row r.at in
      let count = f.count in
      let plain = ap (has has_inlets (made_in graph)) r.number ∙ lanes_are (made_in graph) n ∙ none in
      let first_port = only_sink (slice_get (made_in graph) r.head.number) port plain (omega (arith, within, count)) in
      empty_row r.head.number port row plain first_port (f.rows port row r.at)

  fed : (n : ℕ) → n < length (made_in graph) → has has_inlets (made_in graph) n ≡ true → (k : ℕ) × (head : InletHead I) × IsFed tasks k head × (head.number ≡ n)
  fed n low is = let h = inlets_of known n (inlets_head (made_in graph) n is) is in (h.k, h.own, h.fed, h.number)

  tasks_are : AreTasksOf (line_graph graph) tasks
  tasks_are = are_tasks graph bags sound once all tasks have bare fed

  net : NetStands begun tasks (Some table)
  net = first_stands contents graph few tasks (Some table) (λ k n own. ltb-true n (length (made_in graph)) (tasks_are.there k n own)) (start contents graph bags ends files tasks table sound once all.are are stood gave)

  owner_low : (p a : ℕ) → owner_in (made_in graph) p ≡ a → a < length (made_in graph) → owner_of p ≡ a
  owner_low p a own low = by (is_pad (made_in graph) p) own
    where
      by : (b : Bool) → (if b then owner_of p else limit) ≡ a → owner_of p ≡ a
      by true own = own
      by false own = absurd (let most = few in omega (arith, own, low, most))

  run : IsRun (line_graph graph) begun tasks (Some table)
  unfolding line_plan
  run = record {
    net = net;
    are = tasks_are;
    sinks = λ a there. refl;
    owners = λ p a own there. owner_low p a own (ltb-true a (length (made_in graph)) there);
    kept = stays_kept.begins begun.history (made_in graph) (links_in graph);
    links = links_stay_exact.begins (made_in graph) (links_in graph) sound.pads once;
    made = λ link is. is;
    unmarked = stays_unmarked.begins (made_in graph) (links_in graph);
  }

  pads : AreOwned (line_graph graph) begun
  pads = record {
    owned = λ pad source named.
        let there = named_low (line_graph graph) pad source named in
        let number = pads_have_numbers (made_in graph) source there in
        owner_so contents graph few (pad_id source) source.element (element_low (made_in graph) source there) number.owner;
  }

  sinks : SinksAreThere (line_graph graph)
  sinks link is = there_low graph bags sound once all link.sink.element (sink_low (made_in graph) link.sink (pads_at_link (made_in graph) (links_in graph) sound.pads link is).1)

  -- ---- its plan is that by which the graph is evaluated

  -- each element owes by its own rule
  rules_are : (a : ℕ) → begun.plan.rule a ≡ (moment_plan contents (line_graph graph)).rule a
  unfolding edited_plan
  rules_are a =
      by (slice_get (made_in graph) a)
      ∙ ap (λ (r : Rule). if has is_sink (made_in graph) a then owes_nothing else r) (sym (nothing_done.rules contents (made_in graph) (links_in graph) a))
    where
      by : (found : Option Made) → tight_rule found a (contents a) ≡ (if option_map_or (λ (m : Made). is_sink m.settings) found false then owes_nothing else rule_for found a (contents a))
      by None = refl
      by (Some m) = refl

  none_asleep : (a : ℕ) → is_asleep (line_graph graph) a ≡ false
  none_asleep a = by (nat_lt a (length (made_in graph))) refl
    where
      by : (b : Bool) → nat_lt a (length (made_in graph)) ≡ b → is_asleep (line_graph graph) a ≡ false
      by true there = never_asleep (has is_source (made_in graph) a) (nat_lt a (length (made_in graph))) _ there
      by false past = ap (λ (b : Bool). b && not (is_active (line_graph graph) a)) (ap (λ (found : Option Made). option_map_or (λ (m : Made). is_source m.settings) found false) (slice_get_past (made_in graph) a (ltb-false a (length (made_in graph)) past)))

  fits : FitsPlan contents (line_graph graph) begun (owed_then begun)
  unfolding line_plan
  fits = record {
    owner = λ p. refl;
    port = λ p. refl;
    rules = λ a there. rules_are a;
    awake = none_asleep;
    gone = λ a low gone. absurd (true≢false (sym (lt-ltb a (length (made_in graph)) low) ∙ gone));
    bare = λ p none. waits_none contents graph few p none;
  }

  module _ (edited : EditedGraph) (feeds : Feeds) (script : List Command) (is : IsEdited edited (line_graph graph)) (feeds_are : AreFeeds feeds (line_graph graph) (λ p. [])) where
    current : IsCurrent edited feeds tasks (line_graph graph) begun (Some table)
    current = record {
      edited = is;
      feeds_are = feeds_are;
      net = net;
      fresh = λ pad source named none. refl;
      kept = run.kept;
      stand = run.links;
      made = stays_made.begins (made_in graph) (links_in graph) sound.pads;
      ends = stays_open.begins begun.history (made_in graph) (links_in graph) (λ p. refl) once;
      named = stays_named.begins tree graph line sound;
    }

    controlled : IsControlled edited feeds tasks (line_graph graph) begun (Some table)
    controlled = record { current = current; run = run; pads = pads; sinks = sinks }

    scripted : IsScripted script (line_graph graph) (record { graph = edited; feeds = feeds; tasks = tasks; tells = Some table; commands = script; entries = [] })
    scripted = record {
      g = line_graph graph;
      m = begun;
      has = controlled;
      calm = λ p. refl;
      kept = run.kept;
      due = owed_then begun;
      owes = λ p there. refl;
      answered = AreAnswered.none (line_graph graph) script;
      left = refl;
      falls = λ j k a b one other before behind less at at_other at_before at_behind same. absurd (no_slots (λ n x. ⊥) [] refl j one at);
      passed = λ j a entry place at at_place. absurd (no_slots (λ n x. ⊥) [] refl j entry at);
    }

    pub is_begun : IsBegun contents script graph (record { graph = edited; feeds = feeds; tasks = tasks; tells = Some table; commands = script; entries = [] })
    unfolding scripted
    is_begun = record { evaluated = record { scripted = scripted; fits = fits; few = few }; undone = refl }
