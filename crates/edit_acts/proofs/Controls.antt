-- The link of a source pad is undone in all that control has of a run.
use Rattle.std.proofs.Common.{◌≡◌, ◌<◌, ℕ, Bool, true, List, Option, Some, length, subst, sym, ap, ◌∙◌, refl}
use Rattle.flow_model.specs.Item.{Item}
use Rattle.lane_core.specs.Lane.{Lane}
use Rattle.lane_core.specs.declared.ends.Inlet as inlets
use Rattle.lane_core.specs.declared.ends.Outlet as outlets
use Rattle.flow_model.specs.Moment.{Moment}
use Rattle.flow_model.specs.declared.element.TaskElement as elements
use Rattle.flow_model.specs.declared.source.TaskSource as sources
use Rattle.net_task.specs.declared.task.Task.{Task}
use Rattle.graph_core.specs.GraphPlan.{most_pads, pad_id}
use Rattle.graph_core.proofs.NumberedPads.{found_in, same_element}
use Rattle.graph_edits.specs.Graph.{IsEdited}
use Rattle.graph_edits.specs.declared.graph.EditedGraph.{EditedGraph}
use Rattle.graph_pads.specs.Links.{sink_behind, source_before}
use Rattle.graph_pads.specs.declared.pad.Direction.TheVariants.{Source}
use Rattle.graph_pads.specs.declared.pad.PadPlace.{PadPlace}
use Rattle.script_text.specs.declared.answer.Answer.TheVariants.{Done}
use Rattle.script_text.specs.declared.command.Act.{Act}
use Rattle.graph_edits.specs.Edited.{Edited, is_there, unlinked_at}
use Rattle.graph_edits.specs.Lawful.{IsAnswered, command}
use Rattle.graph_edits.specs.Names.{source_when}
use Rattle.graph_edits.specs.Ended.{EndsOpen}
use Rattle.graph_edits.proofs.Ended.{stays_open}
use Rattle.edit_core.proofs.Made.{stays_made}
use Rattle.edit_core.specs.Deciding.{IsDeed}
use Rattle.edit_core.specs.Feeds.{AreFeeds, IsTheLink}
use Rattle.edit_core.specs.Judging.{IsLast, owed_then}
use Rattle.edit_core.specs.Notes.{IsCurrent}
use Rattle.edit_core.specs.Ways.{IsRun}
use Rattle.edit_core.specs.declared.deciding.Deed.TheVariants.{Unlink}
use Rattle.edit_core.specs.declared.feeds.Feeds.{Feeds}
use Rattle.edit_core.proofs.Decided.{deeds_are_answers}
use Rattle.edit_core.proofs.Finding.{named_there}
use Rattle.edit_core.proofs.Named.{stays_named}
use Rattle.edit_core.proofs.Standing.{few_at, found_back, source_there, the_link}
use Rattle.edit_acts.specs.Controlled.{AreOwned, IsControlled, IsToUnlink}
use Rattle.edit_acts.specs.Ending.{EndsAt, HasLink}
use Rattle.edit_acts.specs.Undoing.{IsRunWith}
use Rattle.edit_acts.proofs.Asleep.{bare_of}
use Rattle.edit_acts.proofs.Owned.{fresh}
use Rattle.edit_acts.proofs.Owing.{owes}
use Rattle.edit_acts.proofs.SinksStay.{sinks_stay}

unlinks_of : (g : Edited) (h : ℕ → List Item) (p : Option PadPlace) (act : Act) (source sink : PadPlace) (eos : Bool) → IsDeed g h p act (Unlink source sink eos)
    → (p ≡ Some source) × (sink_behind g.links source ≡ Some sink)
unlinks_of g h p _ _ _ _ (IsDeed.unlinks eos source sink same linked) = (same, linked)

-- a link that is undone with EOS changes neither what crossed the pads nor whose they are
pub ends_same : (m : Moment) (pad : ℕ) (now : Moment) → EndsAt m pad now → (now.history ≡ m.history) × (now.plan.owner ≡ m.plan.owner)
ends_same m pad _ (EndsAt.inside element port out ends) = (refl, refl)
ends_same m pad _ (EndsAt.over element port leads) = (refl, refl)

module _ {S E I O L : Type 0} {s : sources.Ghosts S} {e : elements.Ghosts E} {i : inlets.Ghosts I L O} {o : outlets.Ghosts O L} (graph : EditedGraph) (feeds : Feeds) (tasks : List (Task S E I O L s e i o))
    (g : Edited) (m : Moment) (tells : Option (List Lane)) (source sink : PadPlace) (eos : Bool) (items : ℕ) (w : IsToUnlink graph feeds tasks g m tells source sink eos items) where
  abbrev now : IsCurrent graph feeds tasks g m tells
  now = w.controlled.current

  deed : (source_when g w.when ≡ Some source) × (sink_behind g.links source ≡ Some sink)
  deed = unlinks_of g m.history (source_when g w.when) w.act source sink eos w.to_do.deed_is

  linked : source_before g.links sink ≡ Some source
  linked = found_back g now.stand source sink deed.1

  pub items_is : items ≡ length (m.history (pad_id source))
  items_is = subst (λ (p : Option PadPlace). IsLast m.history p items) deed.0 w.to_do.reached.last

  pub few : source.pad < most_pads
  few = few_at g now.stand source sink linked

  pub is_made : source.element < length g.made
  is_made = source_there g now.stand now.made source sink.element sink.pad linked

  pub link_is : IsTheLink g source sink
  link_is = the_link m.history g source sink now.kept now.stand now.ends linked

  sink_there : is_there g sink.element ≡ true
  sink_there =
      let found = found_in g.links sink source linked in
      subst (λ (n : ℕ). is_there g n ≡ true) (same_element found.0.sink sink found.3) (w.controlled.sinks found.0 found.1)

  -- the link stands in the graph
  pub has_link : (pad : ℕ) → pad ≡ pad_id source → HasLink g m pad source
  has_link pad number =
      let named = now.named source sink linked in
      record {
        sink = sink;
        behind = deed.1;
        source_there = named_there Source g named.0 source named.1;
        sink_there = sink_there;
        owned = ap m.plan.owner number ∙ w.controlled.pads.owned named.0 source named.1;
      }

  answered : IsAnswered g m.history (owed_then m) (command w.when w.act) (Done w.places) (unlinked_at source items eos g)
  answered = deeds_are_answers g m w.when w.act (Unlink source sink eos) items w.places (λ same. cc) w.to_do

  pub run_with : IsRunWith g m tasks tells (pad_id source) source
  run_with = record { run = w.controlled.run; few = few; number = refl }

  -- control has the run in which the link was undone, at a moment at which the same has crossed the same pads
  module _ (m' : Moment) (history : m'.history ≡ m.history) (owner : m'.plan.owner ≡ m.plan.owner) where
    pub is_unlinked : (graph' : EditedGraph) (feeds' : Feeds) (tasks' : List (Task S E I O L s e i o)) → IsEdited graph' (unlinked_at source items eos g) → AreFeeds feeds' (unlinked_at source items eos g) m.history
        → IsRun (unlinked_at source (length (m.history (pad_id source))) eos g) m' tasks' tells → IsControlled graph' feeds' tasks' (unlinked_at source items eos g) m' tells
    is_unlinked graph' feeds' tasks' edited kept ran = record {
      current = record {
        edited = edited;
        feeds_are = subst (λ (h : ℕ → List Item). AreFeeds feeds' (unlinked_at source items eos g) h) (sym history) kept;
        net = run.net;
        fresh = fresh (unlinked_at source items eos g) m' tasks' tells run pads
            (λ pad place named is. ap (λ (h : ℕ → List Item). h (pad_id place)) history ∙ bare_of graph feeds tasks g m tells w.controlled pad place named is);
        kept = run.kept;
        stand = run.links;
        made = stays_made.answered m.history (owed_then m) g (unlinked_at source items eos g) (command w.when w.act) (Done w.places) answered now.made;
        ends = subst (λ (h : ℕ → List Item). EndsOpen h (unlinked_at source items eos g)) (sym history)
            (stays_open.answered m.history (owed_then m) g (unlinked_at source items eos g) (command w.when w.act) (Done w.places) (owes m tasks tells now.net) answered now.kept now.stand now.ends);
        named = stays_named.answered m.history (owed_then m) g (unlinked_at source items eos g) (command w.when w.act) (Done w.places) answered now.stand now.named;
      };
      run = run;
      pads = pads;
      sinks = sinks_stay m.history (owed_then m) g (unlinked_at source items eos g) (command w.when w.act) (Done w.places) answered w.controlled.sinks;
    }
      where
        run : IsRun (unlinked_at source items eos g) m' tasks' tells
        run = subst (λ (n : ℕ). IsRun (unlinked_at source n eos g) m' tasks' tells) (sym items_is) ran

        pads : AreOwned (unlinked_at source items eos g) m'
        pads = record { owned = λ pad place named. ap (λ (f : ℕ → ℕ). f (pad_id place)) owner ∙ w.controlled.pads.owned pad place named }
