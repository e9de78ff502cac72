-- What is to be linked elsewhere may be linked once its link was undone.
use Rattle.std.proofs.Common.{◌≡◌, ◌<◌, ℕ, Bool, true, false, not, if◌then◌else◌, List, [], ◌∷◌, Option, None, Some, length, map, refl, sym, ap, ◌∙◌, subst}
use Rattle.std.specs.Prelude.{option_and_then}
use Rattle.std.proofs.lemmas.List.{length-map}
use Rattle.flow_model.specs.Item.{Item}
use Rattle.gst_value.specs.declared.name.PadName.{PadName}
use Rattle.flow_model.specs.Edit.{undo}
use Rattle.flow_model.specs.Moment.{Moment}
use Rattle.graph_core.specs.GraphPlan.{most_pads, pad_id, sink_count}
use Rattle.graph_core.specs.Links.{Leads}
use Rattle.graph_pads.specs.Links.{is_same, sink_behind, source_before}
use Rattle.graph_pads.specs.declared.pad.Direction.TheVariants.{Source, Sink}
use Rattle.graph_pads.specs.declared.pad.PadLink.{PadLink}
use Rattle.graph_pads.specs.declared.pad.PadPlace.{PadPlace}
use Rattle.script_text.specs.declared.command.Act.{Act}
use Rattle.script_text.specs.declared.command.When.{When}
use Rattle.graph_edits.specs.Edited.{Edited, is_there, unlinked_at, without}
use Rattle.graph_edits.specs.Growing.{LinksStand}
use Rattle.graph_edits.specs.Lawful.{IsLinkable}
use Rattle.graph_edits.specs.Names.{named_when, pad_named, source_when}
use Rattle.graph_edits.specs.Plans.{is_asleep}
use Rattle.graph_edits.specs.Refused.{has_lanes}
use Rattle.graph_edits.proofs.Keeping.{none_before, not_taken}
use Rattle.graph_edits.proofs.LinksStanding.{named_in, no_some, source_few}
use Rattle.edit_core.specs.Deciding.{IsDeed}
use Rattle.edit_core.specs.declared.deciding.Deed.TheVariants.{Relink}
use Rattle.edit_core.proofs.Finding.{Named, named_there}
use Rattle.edit_acts.specs.Linking.{MayLink}
use Rattle.edit_acts.specs.Over.{IsAhead, MayLinkOver}

-- a source pad has no link once it was undone
none_behind : (source : PadPlace) (links : List PadLink) → sink_behind (without source links) source ≡ None
none_behind source [] = refl
none_behind source (link ∷ links) = go (is_same link.source source) refl (none_behind source links)
  where
    go : (b : Bool) → is_same link.source source ≡ b → sink_behind (without source links) source ≡ None → sink_behind (if not b then link ∷ without source links else without source links) source ≡ None
    go true drops rest = rest
    go false other rest = rw other rest

-- the source pad of a command has a name
pub source_named : (g : Edited) (asked : Option PadName) (source : PadPlace) → option_and_then (pad_named Source g) asked ≡ Some source → Named g source
source_named g None source e = absurd (no_some (sym e))
source_named g (Some pad) source e = (pad, e)

-- a sink pad that has a name is one of those of its element
sink_within : (g : Edited) (name : PadName) (sink : PadPlace) → LinksStand g → pad_named Sink g name ≡ Some sink → sink.pad < length (g.spans sink.element)
sink_within g name sink stand e =
    let has = named_in Sink g name sink e in
    subst (λ (n : ℕ). sink.pad < n) (sym (stand.counted sink.element ∙ ap sink_count has.1)) has.2

-- a command links the source pad that it names
pub source_told : (g : Edited) (h : ℕ → List Item) (p : Option PadPlace) (act : Act) (source sink : PadPlace) → IsDeed g h p act (Relink source sink) → p ≡ Some source
source_told g h p _ _ _ (IsDeed.relinks name source sink told named linkable unfed) = told

-- nothing of the graph speaks against that link, and the sink pad is one of its element
pub deed_linkable : (g : Edited) (h : ℕ → List Item) (p : Option PadPlace) (act : Act) (source sink : PadPlace) → LinksStand g → IsDeed g h p act (Relink source sink)
    → IsLinkable g h source sink × (sink.pad < length (g.spans sink.element))
deed_linkable g h p _ _ _ stand (IsDeed.relinks name source sink told named linkable unfed) = (linkable, sink_within g name sink stand named)

-- A source pad without a link, of an element that is awake, and a sink pad without one are there. No links that ever were made lead from the second
-- element to the first.
pub record ArePads (g : Edited) (source sink : PadPlace) : Type 0 where
  pub source_there : is_there g source.element ≡ true
  pub awake : is_asleep g source.element ≡ false
  pub low : source.pad < most_pads
  pub loose : sink_behind g.links source ≡ None
  pub sink_there : is_there g sink.element ≡ true
  pub within : sink.pad < length (g.spans sink.element)
  pub free : source_before g.links sink ≡ None
  pub forward : ¬ Leads g.ever sink.element source.element

pub are_pads : (g : Edited) (h : ℕ → List Item) (items : ℕ) (when : When) (act : Act) (source sink : PadPlace) → LinksStand g → IsDeed g h (source_when g when) act (Relink source sink)
    → is_asleep g source.element ≡ false → ArePads (unlinked_at source items false g) source sink
are_pads g h items when _ _ _ stand (IsDeed.relinks name source sink told named linkable unfed) awake =
    let own : Named g source = source_named g (named_when when) source told in
    record {
      source_there = named_there Source g own.0 source own.1;
      awake = awake;
      low = source_few g own.0 source own.1;
      loose = none_behind source g.links;
      sink_there = named_there Sink g name sink named;
      within = subst (λ (n : ℕ). sink.pad < n) (sym (length-map (g.spans sink.element) (map (undo (pad_id source) items false)))) (sink_within g name sink stand named);
      free = none_before source sink g.links (not_taken g sink linkable.free);
      forward = linkable.forward;
    }

-- So they may be linked, inside of a task or over a lane.
pub may_link : (g : Edited) (source sink : PadPlace) → ArePads g source sink → has_lanes g sink.element ≡ false → MayLink g source sink
may_link g source sink pads bare = record {
  source_there = pads.source_there;
  awake = pads.awake;
  low = pads.low;
  loose = pads.loose;
  sink_there = pads.sink_there;
  within = pads.within;
  free = pads.free;
  bare = bare;
  forward = pads.forward;
}

pub may_link_over : (g : Edited) (source sink : PadPlace) → ArePads g source sink → has_lanes g sink.element ≡ true → MayLinkOver g source sink
may_link_over g source sink pads fed = record { low = pads.low; loose = pads.loose; sink_there = pads.sink_there; within = pads.within; free = pads.free; fed = fed }

pub is_ahead : (g : Edited) (m : Moment) (source sink : PadPlace) → ArePads g source sink → m.plan.owner (pad_id source) ≡ source.element → IsAhead g m source sink
is_ahead g m source sink pads owned = record { there = pads.source_there; awake = pads.awake; owned = owned; forward = pads.forward }
