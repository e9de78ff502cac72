-- A source pad is linked elsewhere in all that control has of a run.
use Rattle.std.proofs.Common.{◌≡◌, ◌&&◌, ◌||◌, ℕ, Bool, true, false, not, List, [], ◌∷◌, Option, None, Some, length, nat_lt, refl, sym, ap, ◌∙◌, subst}
use Rattle.std.specs.List.{list_any}
use Rattle.std.specs.Prelude.{Result, Ok, Err, IfErr}
use Rattle.std.proofs.lemmas.List.Folds.{list_any-append}
use Rattle.flow_model.specs.Item.{Item}
use Rattle.gst_item.specs.Item.{has_item}
use Rattle.gst_item.specs.Sticky.{stickies}
use Rattle.gst_value.specs.declared.name.PadName.{PadName}
use Rattle.lane_core.specs.Lane.{Lane}
use Rattle.lane_core.specs.declared.ends.Inlet as inlets
use Rattle.lane_core.specs.declared.ends.Outlet as outlets
use Rattle.flow_model.specs.Edit.{unlinked}
use Rattle.flow_model.specs.Moment.{Moment}
use Rattle.flow_model.specs.Standing.{is_linked}
use Rattle.flow_model.specs.declared.element.TaskElement as elements
use Rattle.flow_model.specs.declared.source.TaskSource as sources
use Rattle.net_task.specs.declared.task.Task.{Task}
use Rattle.net_turns.specs.Net.{Owns}
use Rattle.net_turns.specs.declared.net.Stopped.{Stopped}
use Rattle.el_settings.specs.Asked.{is_source}
use Rattle.graph_core.specs.Elements.{has}
use Rattle.graph_core.specs.GraphPlan.{pad_id}
use Rattle.graph_edits.specs.Graph.{IsEdited}
use Rattle.graph_edits.specs.declared.graph.EditedGraph.{EditedGraph}
use Rattle.graph_pads.specs.Links.{sink_behind, source_before}
use Rattle.graph_pads.specs.declared.pad.Direction.TheVariants.{Source}
use Rattle.graph_pads.specs.declared.pad.PadPlace.{PadPlace}
use Rattle.script_text.specs.declared.answer.Answer.TheVariants.{Done}
use Rattle.graph_edits.specs.Edited.{Edited, link_between, linked_at, relinked_at, spans_at, touches, unlinked_at}
use Rattle.graph_edits.specs.Ended.{EndsOpen}
use Rattle.graph_edits.specs.Growing.{StandsOnlyFrom}
use Rattle.graph_edits.specs.Lawful.{IsAnswered, command}
use Rattle.graph_edits.specs.Names.{named_when, pad_named, source_when}
use Rattle.graph_edits.specs.Plans.{is_asleep}
use Rattle.graph_edits.proofs.Ended.{stays_open}
use Rattle.edit_core.proofs.Made.{stays_made}
use Rattle.edit_core.specs.Feeds.{AreFeeds}
use Rattle.edit_core.specs.Judging.{IsLast, owed_then}
use Rattle.edit_core.specs.Notes.{IsCurrent}
use Rattle.edit_core.specs.Ways.{IsRun}
use Rattle.edit_core.specs.declared.deciding.Deed.TheVariants.{Relink}
use Rattle.edit_core.specs.declared.feeds.Feeds.{Feeds}
use Rattle.edit_core.proofs.Decided.{deeds_are_answers}
use Rattle.edit_core.proofs.Named.{stays_named}
use Rattle.edit_acts.specs.Controlled.{AreOwned, IsControlled}
use Rattle.edit_acts.specs.Linking.{GoesOnLinked, IsLinkedShort, MayLinkAt, opening_of, sink_in}
use Rattle.edit_acts.specs.Relinked.{HasNewLink, IsRelinked, IsRelinkedShort, IsToKeep, IsToLink, IsToRelink, RunsRelinked, relinked}
use Rattle.edit_acts.specs.Undoing.{IsRunWith}
use Rattle.edit_acts.specs.declared.linking.LinkRoom.{LinkRoom}
use Rattle.edit_acts.proofs.Asleep.{AreBare, bare_of}
use Rattle.edit_acts.proofs.Owned.{fresh}
use Rattle.edit_acts.proofs.Owing.{owes}
use Rattle.edit_acts.proofs.Relinks.{ArePads, are_pads, may_link, source_named, source_told}
use Rattle.edit_acts.proofs.SinksStay.{sinks_stay}

pub carry_fault : {A E : Type 0} (r : Result A E) (P Q : E → Type 0) → ((why : E) → P why → Q why) → IfErr r P → IfErr r Q
carry_fault (Ok a) P Q more is = tt
carry_fault (Err why) P Q more is = more why is

-- what sleeps behind one link more slept before
slept : (a b x y : Bool) → a && not (b || (x || y)) ≡ true → a && not (b || x) ≡ true
slept false b x y e = e
slept true true x y e = e
slept true false true y e = e
slept true false false y e = refl

was_asleep : (g : Edited) (source : PadPlace) (items : ℕ) (sink : PadPlace) (n : ℕ) → is_asleep (relinked_at source items sink g) n ≡ true → is_asleep g n ≡ true
was_asleep g source items sink n e =
    slept (has is_source g.made n) (nat_lt n g.lined) (list_any (touches n) g.ever) (list_any (touches n) (link_between source sink ∷ []))
    (subst (λ (any : Bool). has is_source g.made n && not (nat_lt n g.lined || any) ≡ true) (list_any-append (touches n) g.ever (link_between source sink ∷ [])) e)

-- a sink pad without a source pad has no link that stands
free_there : (found : Option PadPlace) (g : Edited) (sink : PadPlace) → found ≡ None → StandsOnlyFrom found (spans_at g sink) → is_linked (spans_at g sink) ≡ false
free_there None g sink none stands = stands
free_there (Some source) g sink none stands = cc

module _ {S E I O L : Type 0} {s : sources.Ghosts S} {e : elements.Ghosts E} {i : inlets.Ghosts I L O} {o : outlets.Ghosts O L} (graph : EditedGraph) (feeds : Feeds) (tasks : List (Task S E I O L s e i o))
    (g : Edited) (m : Moment) (tells : Option (List Lane)) (source sink : PadPlace) (items : ℕ) {fed : Bool} (w : IsToRelink graph feeds tasks g m tells source sink items fed) where
  abbrev now : IsCurrent graph feeds tasks g m tells
  now = w.controlled.current

  told : source_when g w.when ≡ Some source
  told = source_told g m.history (source_when g w.when) w.act source sink w.to_do.deed_is

  pub items_is : items ≡ length (m.history (pad_id source))
  items_is = subst (λ (p : Option PadPlace). IsLast m.history p items) told w.to_do.reached.last

  name : (name : PadName) × (pad_named Source g name ≡ Some source)
  name = source_named g (named_when w.when) source told

  pub owner : m.plan.owner (pad_id source) ≡ source.element
  owner = w.controlled.pads.owned name.0 source name.1

  pub pads : ArePads (unlinked_at source items false g) source sink
  pads = are_pads g m.history items w.when w.act source sink now.stand w.to_do.deed_is w.awake

  module _ (pad : ℕ) (number : pad ≡ pad_id source) where
    pub run_with : IsRunWith g m tasks tells pad source
    run_with = record { run = w.controlled.run; few = pads.low; number = number }

    -- so many items crossed it
    crossed : items ≡ length (m.history pad)
    crossed = items_is ∙ ap (λ (n : ℕ). length (m.history n)) (sym number)

    -- once the link was undone
    pub run_undone : (mid : List (Task S E I O L s e i o)) → IsRun (unlinked_at source (length (m.history pad)) false g) (unlinked pad m) mid tells → IsRun (unlinked_at source items false g) (unlinked pad m) mid tells
    run_undone mid run = subst (λ (n : ℕ). IsRun (unlinked_at source n false g) (unlinked pad m) mid tells) (sym crossed) run

    pub to_keep : (before : Option PadPlace) (opened : Bool) (mid : List (Task S E I O L s e i o)) → IsRun (unlinked_at source items false g) (unlinked pad m) mid tells → before ≡ sink_behind g.links source
        → opened ≡ has_item (stickies (m.history pad)) → IsToKeep g m.history source sink before pad items opened
    to_keep before opened mid run was opens = record {
      kept = now.kept;
      stand = now.stand;
      ends = now.ends;
      few = pads.low;
      number = number;
      all = crossed;
      was = was;
      free = free_there (source_before (unlinked_at source items false g).links sink) (unlinked_at source items false g) sink pads.free (run.kept.linked sink);
      opens = opens;
    }

  answered : IsAnswered g m.history (owed_then m) (command w.when w.act) (Done w.places) (relinked_at source items sink g)
  answered = deeds_are_answers g m w.when w.act (Relink source sink) items w.places (λ same. cc) w.to_do

  -- Control has the run in which the pad was linked elsewhere.
  pub has_relinked : (graph' : EditedGraph) (feeds' : Feeds) (tasks' : List (Task S E I O L s e i o)) (before : Option PadPlace) (m' : Moment) → HasNewLink graph graph' source sink before → m'.history ≡ m.history → m'.plan.owner ≡ m.plan.owner
      → IsRun (relinked_at source items sink g) m' tasks' tells → AreFeeds feeds' (relinked_at source items sink g) m.history → IsControlled graph' feeds' tasks' (relinked_at source items sink g) m' tells
  has_relinked graph' feeds' tasks' before m' new history owners run kept = record {
    current = record {
      edited = new.edited g items now.edited;
      feeds_are = subst (λ (h : ℕ → List Item). AreFeeds feeds' (relinked_at source items sink g) h) (sym history) kept;
      net = run.net;
      fresh = fresh (relinked_at source items sink g) m' tasks' tells run owned bare;
      kept = run.kept;
      stand = run.links;
      made = stays_made.answered m.history (owed_then m) g (relinked_at source items sink g) (command w.when w.act) (Done w.places) answered now.made;
      ends = subst (λ (h : ℕ → List Item). EndsOpen h (relinked_at source items sink g)) (sym history)
          (stays_open.answered m.history (owed_then m) g (relinked_at source items sink g) (command w.when w.act) (Done w.places) (owes m tasks tells now.net) answered now.kept now.stand now.ends);
      named = stays_named.answered m.history (owed_then m) g (relinked_at source items sink g) (command w.when w.act) (Done w.places) answered now.stand now.named;
    };
    run = run;
    pads = owned;
    sinks = sinks_stay m.history (owed_then m) g (relinked_at source items sink g) (command w.when w.act) (Done w.places) answered w.controlled.sinks;
  }
    where
      owned : AreOwned (relinked_at source items sink g) m'
      owned = record { owned = λ pad place named. ap (λ (f : ℕ → ℕ). f (pad_id place)) owners ∙ w.controlled.pads.owned pad place named }

      bare : AreBare (relinked_at source items sink g) m'
      bare pad place named is =
          ap (λ (h : ℕ → List Item). h (pad_id place)) history ∙ bare_of graph feeds tasks g m tells w.controlled pad place named (was_asleep g source items sink place.element is)

-- ---- inside of its task

module _ {S E I O L : Type 0} {s : sources.Ghosts S} {e : elements.Ghosts E} {i : inlets.Ghosts I L O} {o : outlets.Ghosts O L} (graph : EditedGraph) (feeds : Feeds) (tasks : List (Task S E I O L s e i o))
    (g : Edited) (m : Moment) (tells : Option (List Lane)) (source sink : PadPlace) (items : ℕ) (w : IsToRelink graph feeds tasks g m tells source sink items false) where
  module _ (pad : ℕ) (number : pad ≡ pad_id source) (link : LinkRoom E O e) (room : IsToLink tasks pad sink.element link) where
    opening_is : opening_of link ≡ stickies (m.history (pad_id source))
    opening_is =
        let own = w.controlled.run.are.owned source.element (pads graph feeds tasks g m tells source sink items w).source_there w.awake in
        let mine : m.plan.owner pad ≡ source.element = ap m.plan.owner number ∙ owner graph feeds tasks g m tells source sink items w in
        room.opens m tells own.0 w.controlled.run.net (subst (λ (n : ℕ). Owns tasks own.0 n) (sym mine) own.1) ∙ ap (λ (n : ℕ). stickies (m.history n)) number

    pub opening_now : opening_of link ≡ stickies (m.history pad)
    opening_now = opening_is ∙ ap (λ (n : ℕ). stickies (m.history n)) (sym number)

    pub may_at : MayLinkAt (unlinked_at source items false g) (unlinked pad m) source sink pad (sink_in sink) (opening_of link)
    may_at = record {
      may = may_link (unlinked_at source items false g) source sink (pads graph feeds tasks g m tells source sink items w) w.lanes;
      pad_is = number;
      to_is = refl;
      owned = ap m.plan.owner number ∙ owner graph feeds tasks g m tells source sink items w;
      opening_is = opening_now;
    }

    pub runs : (feeds' : Feeds) (tasks' : List (Task S E I O L s e i o)) → GoesOnLinked (unlinked_at source items false g) (unlinked pad m) tasks' tells source sink → AreFeeds feeds' (relinked_at source items sink g) m.history
        → RunsRelinked feeds' tasks' g m tells source sink items
    runs feeds' tasks' goes kept =
        let goes_on = subst (λ (n : ℕ). GoesOnLinked (unlinked_at source items false g) (unlinked n m) tasks' tells source sink) number goes in
        record {
          out = goes_on.out;
          links = goes_on.links;
          run = subst (λ (n : ℕ). IsRun (linked_at source n sink (unlinked_at source items false g)) (relinked source sink goes_on.out m) tasks' tells) (sym (items_is graph feeds tasks g m tells source sink items w)) goes_on.run;
          feeds = kept;
        }

    pub short : (mid tasks' : List (Task S E I O L s e i o)) (stopped : Stopped) → IsRun (unlinked_at source items false g) (unlinked pad m) mid tells
        → IsLinkedShort mid tasks' pad (sink_in sink) (opening_of link) stopped → IsRelinkedShort tasks' g m tells source sink items stopped
    short mid tasks' stopped run is = record {
      mid = mid;
      run = subst (λ (n : ℕ). IsRun (unlinked_at source items false g) (unlinked n m) mid tells) number run;
      short = subst (λ (n : ℕ). IsLinkedShort mid tasks' n (sink_in sink) (stickies (m.history (pad_id source))) stopped) number
          (subst (λ (given : List Item). IsLinkedShort mid tasks' pad (sink_in sink) given stopped) opening_is is);
    }

  pub is_relinked : (graph' : EditedGraph) (feeds' : Feeds) (tasks' : List (Task S E I O L s e i o)) (before : Option PadPlace) → HasNewLink graph graph' source sink before → RunsRelinked feeds' tasks' g m tells source sink items
      → IsRelinked graph' feeds' tasks' g m tells source sink items
  is_relinked graph' feeds' tasks' before new r = record {
    out = r.out;
    links = r.links;
    controlled = has_relinked graph feeds tasks g m tells source sink items w graph' feeds' tasks' before (relinked source sink r.out m) new refl refl r.run r.feeds;
  }

-- control has a run whose graph stands for the same edited one, and whose tasks are the same
pub has_again : {S E I O L : Type 0} {s : sources.Ghosts S} {e : elements.Ghosts E} {i : inlets.Ghosts I L O} {o : outlets.Ghosts O L} (graph graph' : EditedGraph) (feeds : Feeds) (tasks tasks' : List (Task S E I O L s e i o))
    (g : Edited) (m : Moment) (tells : Option (List Lane)) → tasks' ≡ tasks → IsEdited graph' g → IsControlled graph feeds tasks g m tells → IsControlled graph' feeds tasks' g m tells
has_again {S} {E} {I} {O} {L} {s} {e} {i} {o} graph graph' feeds tasks tasks' g m tells same edited w =
    subst (λ (ts : List (Task S E I O L s e i o)). IsControlled graph' feeds ts g m tells) (sym same)
    (record {
      current = record {
        edited = edited;
        feeds_are = w.current.feeds_are;
        net = w.current.net;
        fresh = w.current.fresh;
        kept = w.current.kept;
        stand = w.current.stand;
        made = w.current.made;
        ends = w.current.ends;
        named = w.current.named;
      };
      run = w.run;
      pads = w.pads;
      sinks = w.sinks;
    })
