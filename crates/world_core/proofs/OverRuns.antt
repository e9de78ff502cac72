-- Where nothing is left of a graph's run, and each live head has ended, the run is over.
use Rattle.std.proofs.Common.{◌≡◌, ◌<◌, ◌+◌, ◌%◌, ℕ, zero, suc, Bool, true, false, if◌then◌else◌, List, [], ◌++◌, Option, None, Some, map, append-nil, refl, sym, ap, ◌∙◌, subst, arith}
use Rattle.std.specs.Prelude.{slice_get}
use Rattle.std.specs.List.{range_with_len}
use Rattle.std.specs.Option.{option_map_or}
use Rattle.el_settings.specs.Asked.{is_source, source_pads}
use Rattle.el_settings.proofs.Roles.{source_no_sink}
use Rattle.flow_model.specs.Call.{Call, feeds}
use Rattle.flow_model.specs.Feeding.{has_eos}
use Rattle.flow_model.specs.Item.{Item, eos_among}
use Rattle.flow_model.specs.Moment.{Moment}
use Rattle.flow_model.specs.Over.{AllEnded, list_ended}
use Rattle.flow_model.specs.declared.element.TaskElement as elements
use Rattle.flow_model.specs.declared.source.TaskSource as givers
use Rattle.graph_parts.specs.Bags.{AreHeadBags, IsBag, IsHead}
use Rattle.graph_parts.specs.Links.{is_head}
use Rattle.graph_parts.specs.declared.bag.Bag.{Bag}
use Rattle.graph_parts.specs.declared.bag.BagHead.{BagHead}
use Rattle.graph_parts.specs.declared.bag.BagHead.TheVariants as bags_of
use Rattle.graph_core.specs.Elements.{Made, has}
use Rattle.graph_core.specs.Graph.{IsSound, is_live, made as made_in, links as links_in}
use Rattle.graph_core.specs.GraphPlan.{pad_id, sink_count, sink_at as place_at}
use Rattle.graph_core.specs.declared.graph.Graph.{Graph}
use Rattle.graph_pads.specs.declared.pad.PadPlace.{PadPlace}
use Rattle.graph_core.proofs.NumberedPads.{owner_at, port_at}
use Rattle.el_settings.proofs.Padded.{few_sources}
use Rattle.graph_pads.specs.declared.pad.PadLink.{PadLink}
use Rattle.graph_tasks.specs.Frames.{HaveBags, IsHeadFrame}
use Rattle.graph_tasks.specs.Owed.{AreOver, came_to, inputs_to, owed_by, went_from}
use Rattle.graph_tasks.specs.Runs.{RunStands, crossed_in}
use Rattle.graph_tasks.proofs.Awaited.{owed_is, owes, took_all}
use Rattle.graph_tasks.proofs.EndedEos.{ended_has}
use Rattle.graph_parts.specs.Pads.{is_pad}
use Rattle.graph_parts.specs.Plans.{tight_rule}
use Rattle.graph_parts.proofs.Sources.{owner_is, place_is_pad}
use Rattle.std.proofs.lemmas.Option.{slice_get_within}
use Rattle.lane_core.specs.declared.ends.Inlet as inlets
use Rattle.lane_core.specs.declared.ends.Outlet as outlets
use Rattle.net_task.specs.Frame.{HeadFrame, by_inlets, by_source, frame_of}
use Rattle.net_task.specs.declared.task.Task.{Task}
use Rattle.net_turns.specs.Ends.{HeadIsOver, NothingLeft, head_number}
use Rattle.world_core.specs.Over.{IsOver}
use Rattle.world_core.proofs.TaskHeads.{task_with}
use Rattle.flow_model.proofs.Items.{items_feeds as items_of}
use Rattle.graph_tasks.proofs.BlamedFrames.{all_at}
use Rattle.gst_value.proofs.Places.{found_at as got_within}

-- the list at a place of those that were given
ended_at : (f : ℕ → List Item) (start n k : ℕ) → AllEnded (map feeds (map f (range_with_len start n))) → k < n → has_eos (feeds (f (start + k))) ≡ true
ended_at f start zero k all w = absurd (omega (arith, w))
ended_at f start (suc n) zero all w = ap (λ (j : ℕ). has_eos (feeds (f j))) (let same : start + 0 ≡ start = omega arith in same) ∙ all.0
ended_at f start (suc n) (suc k) all w =
    ap (λ (j : ℕ). has_eos (feeds (f j))) (let same : start + suc k ≡ (start + 1) + k = omega arith in same)
    ∙ ended_at f (start + 1) n k all.1 (omega (arith, w))

has_among : (xs : List Item) → has_eos (feeds xs) ≡ true → eos_among xs ≡ true
has_among xs is = ended_has xs (sym (ap list_ended (items_of xs)) ∙ is)

-- a source has no sink pad
no_sinks : (found : Option Made) → option_map_or (λ (m : Made). is_source m.settings) found false ≡ true → sink_count found ≡ 0
no_sinks None is = refl
no_sinks (Some m) is = source_no_sink m.settings is

-- the frame of a head that is a source is that of one
module _ (made : List Made) where
  abbrev IsSourceHead : HeadFrame → Type 0
  IsSourceHead (by_source n file wire) = has is_source made n ≡ true
  IsSourceHead (by_inlets n rows) = Unit {0}

  source_head : (links : List PadLink) (bag : BagHead) (frame : HeadFrame) → IsHead made links bag → IsHeadFrame made links bag frame → IsSourceHead frame
  source_head links (bags_of.Source cell) (by_source number file wire) head is = ap (has is_source made) is.0 ∙ head
  source_head links bag (by_inlets number rows) head is = tt
  source_head links (bags_of.Inlets n) (by_source number file wire) head is = absurd is

module _ (contents : ℕ → List ℕ) (graph : Graph) (m : Moment) (sound : IsSound graph) (run : RunStands contents graph m) (left : NothingLeft m) where
  abbrev given_to : ℕ → List (List Call)
  given_to e = map feeds (inputs_to (made_in graph) (links_in graph) (crossed_in graph m) e)

  -- all that is owed for what came has crossed
  all_crossed : (source : PadPlace) (element : Made) → slice_get (made_in graph) source.element ≡ Some element → source.pad < source_pads element.settings
      → went_from (crossed_in graph m) source ≡ owed_by contents (made_in graph) (links_in graph) (crossed_in graph m) source element.settings
  all_crossed source element at there =
      ap (λ (b : Bool). if b then m.history (pad_id source) else []) pad
      ∙ sym (append-nil (m.history (pad_id source)))
      ∙ ap (λ (w : List Item). m.history (pad_id source) ++ w) (sym (left.idle (pad_id source)))
      ∙ sym owed
      ∙ ap (λ (given : List (List Call)). tight_rule (slice_get (made_in graph) source.element) source.element (contents source.element) given (pad_id source % 64) 0)
      (took_all contents graph m sound run source.element (left.empty source.element))
      ∙ ap (λ (k : ℕ). tight_rule (slice_get (made_in graph) source.element) source.element (contents source.element) (given_to source.element) k 0) (port_at source few)
      ∙ ap (λ (found : Option Made). tight_rule found source.element (contents source.element) (given_to source.element) source.pad 0) at
      ∙ owed_is contents graph m sound run source element there
    where
      few : source.pad < 64
      few = let most = few_sources element.settings in omega (arith, there, most)

      pad : is_pad (made_in graph) (pad_id source) ≡ true
      pad =
          place_is_pad (made_in graph) source
          (subst (λ (found : Option Made). source.pad < option_map_or (λ (x : Made). source_pads x.settings) found 0) (sym at) there)

      owed : tight_rule (slice_get (made_in graph) source.element) source.element (contents source.element) (m.took source.element) (pad_id source % 64) 0
          ≡ m.history (pad_id source) ++ m.waits (pad_id source)
      owed =
          subst (λ (n : ℕ). tight_rule (slice_get (made_in graph) n) n (contents n) (m.took n) (pad_id source % 64) 0 ≡ m.history (pad_id source) ++ m.waits (pad_id source))
          (owner_is (made_in graph) (pad_id source) pad ∙ owner_at source few) (owes contents graph m sound run (pad_id source))

  module _ {S E I O L : Type 0} {s : givers.Ghosts S} {e : elements.Ghosts E} {i : inlets.Ghosts I L O} {o : outlets.Ghosts O L}
      (bags : List Bag) (tasks : List (Task S E I O L s e i o)) (have : HaveBags (made_in graph) (links_in graph) bags tasks)
      (bags_are : AreHeadBags (made_in graph) (links_in graph) bags)
      (ended : (k : ℕ) (task : Task S E I O L s e i o) → slice_get tasks k ≡ Some task → is_live graph (head_number (frame_of task).head) ≡ true → HeadIsOver m (frame_of task).head) where
    -- a live head had EOS at each of its sink pads
    head_had : (head pad : ℕ) → has is_head (made_in graph) head ≡ true → is_live graph head ≡ true → pad < sink_count (slice_get (made_in graph) head)
        → eos_among (came_to (links_in graph) (crossed_in graph m) (place_at head pad)) ≡ true
    head_had head pad is live w = by (frame_of own.1).head own.3 (have_source own.0 own.1 own.2) (ended own.0 own.1 own.2 (ap (is_live graph) own.3 ∙ live))
      where
        own : (k : ℕ) × (task : Task S E I O L s e i o) × (slice_get tasks k ≡ Some task) × (head_number (frame_of task).head ≡ head)
        own = task_with (made_in graph) (links_in graph) bags tasks have bags_are head is

        have_source : (k : ℕ) (task : Task S E I O L s e i o) → slice_get tasks k ≡ Some task → IsSourceHead (made_in graph) (frame_of task).head
        have_source k task at =
            let within = slice_get_within tasks k task at in
            let bag = got_within bags k (omega (arith, within, have.count)) in
            source_head (made_in graph) (links_in graph) bag.0.head (frame_of task).head
            (all_at (IsBag (made_in graph) (links_in graph)) bags bags_are.are.are k bag.0 bag.1).head (have.each k bag.0 task bag.1 at).head

        came : ℕ → List Item
        came j = came_to (links_in graph) (crossed_in graph m) (place_at head j)

        by : (frame : HeadFrame) → head_number frame ≡ head → IsSourceHead (made_in graph) frame → HeadIsOver m frame → eos_among (came pad) ≡ true
        by (by_source n file wire) same source over =
            absurd (let none = no_sinks (slice_get (made_in graph) head) (subst (λ (d : ℕ). has is_source (made_in graph) d ≡ true) same source) in omega (arith, w, none))
        by (by_inlets n rows) same source over =
            has_among (came pad)
            (ap (λ (j : ℕ). has_eos (feeds (came j))) (let first : pad ≡ 0 + pad = omega arith in first)
            ∙ ended_at came 0 (sink_count (slice_get (made_in graph) head)) pad
            (subst AllEnded (took_all contents graph m sound run head (left.empty head)) (subst (λ (d : ℕ). AllEnded (m.took d)) same over)) w)

    pub run_is_over : AreOver graph (crossed_in graph m) → IsOver contents graph (crossed_in graph m) (crossed_in graph m)
    run_is_over eos = record {
      sinks = eos;
      idle = λ head is source element reaches at there. all_crossed source element at there;
      empty = λ head pad is. refl;
      ended = head_had;
    }
