-- What a file of a run of a script holds of which a write failed: a beginning of the item that was next at its sink pad.
use Rattle.std.proofs.Common.{◌≡◌, ◌<◌, ◌++◌, ◌%◌, ℕ, zero, suc, Bool, true, false, List, [], ◌∷◌, Option, Some, length, get_or, arith, refl, sym, ◌∙◌, subst}
use Rattle.std.specs.Prelude.{slice_get, take}
use Rattle.std.proofs.lemmas.Bool.{true≢false}
use Rattle.el_set.specs.Made.{keeps_flushed}
use Rattle.flow_model.specs.Item.{Item, body_of}
use Rattle.flow_model.specs.Link.{Span}
use Rattle.flow_model.specs.Moment.{Moment}
use Rattle.flow_model.specs.Prefix.{IsPrefix}
use Rattle.flow_model.specs.SinkBytes.{disk_after}
use Rattle.flow_model.specs.Standing.{LinksAt, links_from}
use Rattle.flow_model.specs.Step.{Leads}
use Rattle.flow_model.specs.declared.element.TaskElement as elements
use Rattle.flow_model.specs.declared.source.TaskSource as sources
use Rattle.flow_model.proofs.Prefixes.{append_prefix, prefix_append}
use Rattle.graph_core.specs.Allowed.{first_pad}
use Rattle.graph_core.specs.Elements.{Made}
use Rattle.graph_core.specs.GraphPlan.{owner_of, pad_id}
use Rattle.graph_edits.specs.Edited.{Edited, is_there, spans_at}
use Rattle.graph_edits.specs.Plans.{items_at}
use Rattle.graph_edits.specs.Refused.{has_lanes}
use Rattle.graph_edits.proofs.LinksStanding.{exactly}
use Rattle.graph_pads.specs.Links.{source_before}
use Rattle.graph_pads.specs.declared.pad.PadPlace.{PadPlace}
use Rattle.graph_parts.specs.Files.{opening_of}
use Rattle.gst_outside.specs.Bytes.{written}
use Rattle.lane_core.specs.declared.ends.Inlet as inlets
use Rattle.lane_core.specs.declared.ends.Outlet as outlets
use Rattle.run_files.specs.declared.end.Opening.TheVariants.{Write}
use Rattle.script_text.specs.declared.command.Command.{Command}
use Rattle.task_parts.specs.declared.fault.TaskFault.{TaskFault}
use Rattle.task_parts.specs.declared.fault.TaskFault.TheVariants.{WriteFault}
use Rattle.edit_acts.specs.Evaluated.{IsEvaluated}
use Rattle.edit_acts.specs.Scripted.{ScriptRun}
use Rattle.edit_core.proofs.Inner.{few}
use Rattle.edit_core.proofs.Ways.{at_port, number_whole}
use Rattle.world_core.specs.Evaluated.{WasAt}

-- An item is the next one that is due to the source pad which is linked to the first sink pad of an element.
pub record IsNextAt (g : Edited) (h due : ℕ → List Item) (d : ℕ) (item : Item) : Type 0 where
  pub source : PadPlace
  pub linked : source_before g.links (first_pad d) ≡ Some source
  pub next : IsPrefix (h (pad_id source) ++ item ∷ []) (due (pad_id source))

-- A write of an element failed, which is the fault that a task met, and its file holds this: behind the bytes of all that its links gave it a beginning of the body of the next item.
pub record HoldsShort (g : Edited) (h due : ℕ → List Item) (met : Option TaskFault) (d : ℕ) (bytes : List ℕ) : Type 0 where
  pub element : Made
  pub at : slice_get g.made d ≡ Some element
  pub location : List ℕ
  pub opens : opening_of element.settings ≡ Some (Write location)
  pub first : ℕ
  pub second : ℕ
  pub is : met ≡ Some (WriteFault d first second)
  pub item : Item
  pub next : IsNextAt g h due d item
  pub part : ℕ
  pub bytes_are : let disk = disk_after (keeps_flushed element.settings) (items_at g h (first_pad d)) in bytes ≡ written disk.bytes disk.place (take part (body_of item))

-- a sink pad with a link that stands is one of those that an element has
linked_within : (p i : ℕ) (sinks : List (List Span)) → LinksAt p i sinks → i < length sinks
linked_within p i [] at = absurd at
linked_within p zero (ss ∷ sinks) at = omega arith
linked_within p (suc i) (ss ∷ sinks) at = let more = linked_within p i sinks at.1 in omega (arith, more)

module _ {S E I O L : Type 0} {s : sources.Ghosts S} {e : elements.Ghosts E} {i : inlets.Ghosts I L O} {o : outlets.Ghosts O L} (contents : ℕ → List ℕ) (script : List Command) (begun : Edited) (was : ScriptRun s e i o)
    (w : IsEvaluated contents script begun was) where
  abbrev g : Edited
  g = w.scripted.g

  abbrev m : Moment
  m = w.scripted.m

  -- where an item waits the element of the pad is there
  owner_there : (p : ℕ) (x : Item) (rest : List Item) → m.waits p ≡ x ∷ rest → is_there g (m.plan.owner p) ≡ true
  owner_there p x rest waits = by (is_there g (m.plan.owner p)) refl
    where
      by : (b : Bool) → is_there g (m.plan.owner p) ≡ b → is_there g (m.plan.owner p) ≡ true
      by true is = is
      by false gone =
          let none = w.scripted.has.run.net.loose p (λ k own. true≢false (sym (w.scripted.has.run.are.there k (m.plan.owner p) own) ∙ gone)) in
          absurd (let clash : [] ≡ x ∷ rest = sym none ∙ waits in cc)

  -- what waits first at a pad is the next that is due to it
  next_due : (p : ℕ) (x : Item) (rest : List Item) → m.waits p ≡ x ∷ rest → IsPrefix (m.history p ++ x ∷ []) (w.scripted.due p)
  next_due p x rest waits =
      subst (λ (list : List Item). IsPrefix (m.history p ++ x ∷ []) list) (sym (w.scripted.owes p (owner_there p x rest waits)))
      (append_prefix (m.history p) (subst (λ (list : List Item). IsPrefix (x ∷ []) list) (sym waits) (prefix_append (x ∷ []) rest)))

  module _ (d port : ℕ) (x : Item) (there : is_there g d ≡ true) (alone : has_lanes g d ≡ false) where
    first_so : (p : ℕ) (rest : List Item) → m.waits p ≡ x ∷ rest → Leads m.plan p d port → IsNextAt g m.history w.scripted.due d x
    first_so p rest waits leads =
        let at : LinksAt p port (g.spans d) = subst (λ (sinks : List (List Span)). LinksAt p port sinks) (w.scripted.has.run.sinks d there) leads.here in
        let low = linked_within p port (g.spans d) at in
        let size = w.scripted.has.run.links.counted d in
        let one = few (slice_get g.made d) alone in
        let only : port ≡ 0 = omega (arith, low, size, one) in
        let here = subst (λ (n : ℕ). links_from p (get_or (g.spans d) n []) ≡ true) only (at_port p port (g.spans d) at) in
        let source : PadPlace = record { element = owner_of p; pad = p % 64 } in
        record {
          source = source;
          linked = (exactly m.history g w.scripted.has.run.kept w.scripted.has.run.links (first_pad d)).back source (omega arith)
              (subst (λ (q : ℕ). links_from q (spans_at g (first_pad d)) ≡ true) (sym (number_whole p)) here);
          next = subst (λ (q : ℕ). IsPrefix (m.history q ++ x ∷ []) (w.scripted.due q)) (sym (number_whole p)) (next_due p x rest waits);
        }

    -- What an element without lanes refused is the next at its sink pad: nothing stands in a row of it.
    pub next_at : WasAt m was.tasks d port x → IsNextAt g m.history w.scripted.due d x
    next_at (WasAt.at_pad p rest waits leads) = first_so p rest waits leads
    next_at (WasAt.in_row k row has some) = absurd (some (w.scripted.has.run.are.bare k d port row has alone))
