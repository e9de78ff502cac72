-- Control has the run without an element that was taken away.
use Rattle.std.proofs.Common.{◌≡◌, ◌≢◌, ℕ, Bool, true, false, List, [], ◌∷◌, Option, None, Some, map, refl, sym, ap, ◌∙◌, subst}
use Rattle.std.specs.Prelude.{IfSome}
use Rattle.flow_model.specs.Item.{Item}
use Rattle.flow_model.specs.Link.{Given}
use Rattle.lane_core.specs.Lane.{Lane}
use Rattle.lane_core.specs.declared.ends.Inlet as inlets
use Rattle.lane_core.specs.declared.ends.Outlet as outlets
use Rattle.net_edits.specs.Adding.{CanTake, IsCut, frozen}
use Rattle.flow_model.specs.Moment.{Moment}
use Rattle.flow_model.specs.declared.element.TaskElement as elements
use Rattle.flow_model.specs.declared.source.TaskSource as sources
use Rattle.flow_model.proofs.Inputs.{at_other}
use Rattle.net_task.specs.Frame.{frame_of}
use Rattle.net_task.specs.declared.task.Task.{Task}
use Rattle.net_turns.specs.Net.{NetStands}
use Rattle.graph_core.specs.GraphPlan.{pad_id}
use Rattle.graph_edits.specs.Graph.{IsEdited}
use Rattle.graph_edits.specs.declared.graph.EditedGraph.{EditedGraph}
use Rattle.graph_pads.specs.declared.pad.PadPlace.{PadPlace}
use Rattle.script_text.specs.declared.answer.Answer.TheVariants.{Done}
use Rattle.script_text.specs.declared.command.Act.{Act}
use Rattle.graph_edits.specs.Edited.{Edited, is_there, without_element}
use Rattle.graph_edits.specs.Ended.{EndsOpen}
use Rattle.graph_edits.specs.Lawful.{IsAnswered, command, has_link}
use Rattle.graph_edits.specs.Names.{source_when}
use Rattle.graph_edits.specs.Plans.{is_asleep}
use Rattle.graph_edits.proofs.Ended.{stays_open}
use Rattle.edit_core.proofs.Made.{stays_made}
use Rattle.edit_core.specs.Deciding.{IsDeed}
use Rattle.edit_core.specs.Feeds.{AreFeeds}
use Rattle.edit_core.specs.Judging.{owed_then}
use Rattle.edit_core.specs.Notes.{IsCurrent}
use Rattle.edit_core.specs.Ways.{IsRun}
use Rattle.edit_core.specs.declared.deciding.Deed.TheVariants.{Remove}
use Rattle.edit_core.specs.declared.feeds.Feeds.{Feeds}
use Rattle.edit_core.proofs.Decided.{deeds_are_answers}
use Rattle.edit_core.proofs.Named.{stays_named}
use Rattle.edit_acts.specs.Controlled.{AreOwned, IsControlled}
use Rattle.edit_acts.specs.Removed.{IsFree, IsRemoved, IsToRemove, TakesOut}
use Rattle.edit_acts.specs.declared.removing.TakenOut.{TakenOut}
use Rattle.edit_acts.proofs.Alone.{unlinked_is_alone, unlinked_is_free}
use Rattle.edit_acts.proofs.Asleep.{bare_of}
use Rattle.edit_acts.proofs.Gone.{element_there, was_named}
use Rattle.edit_acts.proofs.Others.{AreOthers, none_others, others_run, taken_others}
use Rattle.edit_acts.proofs.Owned.{fresh}
use Rattle.edit_acts.proofs.Owing.{owes}
use Rattle.edit_acts.proofs.SinksStay.{sinks_stay}

removes_of : (g : Edited) (h : ℕ → List Item) (p : Option PadPlace) (act : Act) (n : ℕ) → IsDeed g h p act (Remove n) → (is_there g n ≡ true) × (has_link g n ≡ false)
removes_of g h p _ _ (IsDeed.removes name n named none) = (element_there g name n named, none)

-- a truth value that can't be false is true
true_else : (b : Bool) → (b ≡ false → ⊥) → b ≡ true
true_else true not = refl
true_else false not = absurd (not refl)

module _ {S E I O L : Type 0} {s : sources.Ghosts S} {e : elements.Ghosts E} {i : inlets.Ghosts I L O} {o : outlets.Ghosts O L} (graph : EditedGraph) (feeds : Feeds) (tasks : List (Task S E I O L s e i o))
    (g : Edited) (m : Moment) (tells : Option (List Lane)) (n : ℕ) (w : IsToRemove graph feeds tasks g m tells n) where
  abbrev now : IsCurrent graph feeds tasks g m tells
  now = w.controlled.current

  deed : (is_there g n ≡ true) × (has_link g n ≡ false)
  deed = removes_of g m.history (source_when g w.when) w.act n w.to_do.deed_is

  pub free_to_go : IsFree tasks n
  free_to_go = unlinked_is_free g m tasks tells w.controlled.run n deed.1

  answered : IsAnswered g m.history (owed_then m) (command w.when w.act) (Done w.places) (without_element n g)
  answered = deeds_are_answers g m w.when w.act (Remove n) w.items w.places (λ same. cc) w.to_do

  feeds_stay : AreFeeds feeds (without_element n g) m.history
  feeds_stay = record { count = now.feeds_are.count; each = now.feeds_are.each }

  -- the tasks but that of the element, at a moment that tells of each other one what this one did
  module _ (tasks' : List (Task S E I O L s e i o)) (others : AreOthers tasks tasks' n) (m' : Moment) (history : m'.history ≡ m.history) (owner : m'.plan.owner ≡ m.plan.owner)
      (sinks : (a : ℕ) → a ≢ n → m'.plan.sinks a ≡ m.plan.sinks a) (net : NetStands m' tasks' tells) where
    run : IsRun (without_element n g) m' tasks' tells
    run = others_run g m tasks tasks' tells w.controlled.run n deed.1 others m' history owner sinks net

    pads : AreOwned (without_element n g) m'
    pads = record { owned = λ pad place named. ap (λ (f : ℕ → ℕ). f (pad_id place)) owner ∙ w.controlled.pads.owned pad place (was_named g n pad place named) }

    has_others : (graph' : EditedGraph) → IsEdited graph' (without_element n g) → IsControlled graph' feeds tasks' (without_element n g) m' tells
    has_others graph' edited = record {
      current = record {
        edited = edited;
        feeds_are = subst (λ (h : ℕ → List Item). AreFeeds feeds (without_element n g) h) (sym history) feeds_stay;
        net = net;
        fresh = fresh (without_element n g) m' tasks' tells run pads
            (λ pad place named is. ap (λ (h : ℕ → List Item). h (pad_id place)) history ∙ bare_of graph feeds tasks g m tells w.controlled pad place (was_named g n pad place named) is);
        kept = run.kept;
        stand = run.links;
        made = stays_made.answered m.history (owed_then m) g (without_element n g) (command w.when w.act) (Done w.places) answered now.made;
        ends = subst (λ (h : ℕ → List Item). EndsOpen h (without_element n g)) (sym history)
            (stays_open.answered m.history (owed_then m) g (without_element n g) (command w.when w.act) (Done w.places) (owes m tasks tells now.net) answered now.kept now.stand now.ends);
        named = stays_named.answered m.history (owed_then m) g (without_element n g) (command w.when w.act) (Done w.places) answered now.stand now.named;
      };
      run = run;
      pads = pads;
      sinks = sinks_stay m.history (owed_then m) g (without_element n g) (command w.when w.act) (Done w.places) answered w.controlled.sinks;
    }

  -- Its task stands still in the moment once it was taken out.
  abbrev Stands : List (Task S E I O L s e i o) → Task S E I O L s e i o → Type 0
  Stands tasks' task = (m : Moment) (tells : Option (List Lane)) (cut : ℕ → List Item) → NetStands m tasks tells → CanTake m n (frame_of task) → IsCut m n cut → NetStands (frozen n cut m) tasks' tells

  pub is_removed : (graph' : EditedGraph) (tasks' : List (Task S E I O L s e i o)) (told : Option (TakenOut S E I O L s e i o)) → IsEdited graph' (without_element n g) → TakesOut tasks tasks' n told → IfSome told (λ out. Stands tasks' out.task)
      → IsRemoved graph' feeds tasks' g m tells n told
  is_removed graph' tasks' None edited none stands =
      let same : tasks' ≡ tasks = none.1 in (
        true_else (is_asleep g n) (λ awake. let own = w.controlled.run.are.owned n deed.0 awake in none.0 own.0 own.1),
        subst (λ (ts : List (Task S E I O L s e i o)). IsControlled graph' feeds ts (without_element n g) m tells) (sym same)
            (has_others tasks (none_others tasks n none.0) m refl refl (λ a other. refl) w.controlled.run.net graph' edited),
      )
  is_removed graph' tasks' (Some out) edited taken stands =
      let alone = unlinked_is_alone s e i o g m tasks tells out.place n out.task w.controlled.run deed.1 taken.at taken.has in
      let cut = alone.1.0 in
      record {
        cut = cut;
        is_cut = alone.1.1;
        awake = w.controlled.run.are.awake out.place n (record { task = out.task; at = taken.at; has = taken.has });
        controlled = has_others tasks' (taken_others tasks tasks' n out (λ k j. w.controlled.run.net.wired.once k j n) taken) (frozen n cut m) refl refl
            (λ a other. at_other n (map (λ calls. Given calls ∷ []) (m.took n)) m.plan.sinks a other) (stands m tells cut w.controlled.run.net alone.0 alone.1.1) graph' edited;
      }
