-- A source pad that is seen, at a moment to which its task is tied.
use Rattle.std.proofs.Common.{◌≡◌, ℕ, List, [], None, Some, refl, sym, ap, ◌∙◌, subst}
use Rattle.std.specs.Prelude.{IfSome, Option, slice_get}
use Rattle.std.proofs.lemmas.List.{append-nil}
use Rattle.lane_core.specs.declared.ends.Inlet as inlets
use Rattle.lane_core.specs.declared.ends.Outlet as outlets
use Rattle.flow_model.specs.Moment.{Moment}
use Rattle.flow_model.specs.declared.element.TaskElement as elements
use Rattle.flow_model.specs.declared.source.TaskSource as sources
use Rattle.net_task.specs.Ties.{AreTied, HeadTied, Stands, nothing_lost}
use Rattle.net_task.proofs.Sources.{Begins, later}
use Rattle.task_pads.specs.Pads.{number_of, waiting_of}
use Rattle.task_parts.specs.Part.{waits_at}
use Rattle.task_parts.specs.declared.head.Head.{Head}
use Rattle.task_parts.specs.declared.head.Head.TheVariants.{Source, Inlets}
use Rattle.task_parts.specs.declared.part.Part.{Part}
use Rattle.task_pads.specs.declared.pad.Pad.{Pad}
use Rattle.gst_value.proofs.Basics.{some_same}
use Rattle.task_edits.specs.Places.{IsOfHead, PartHas}
use Rattle.task_edits.specs.Seeing.{HasCounted, HeadSeen, IsSeen, SeenAt, Tells}
use Rattle.task_edits.specs.declared.seeing.SeenPad.{SeenPad}

module _ {S E I O L : Type 0} {s : sources.Ghosts S} {e : elements.Ghosts E} (i : inlets.Ghosts I L O) (o : outlets.Ghosts O L) (begins : Begins s) (head : Head S I O s) (parts : List (Part E O e)) (m : Moment) where
  pub seen_at : (pad : ℕ) (seen : SeenPad) → IsSeen head parts pad seen → AreTied i o (Stands m) nothing_lost m head parts → SeenAt m pad seen
  seen_at pad seen (IsSeen.of_source source is number counted) tied =
      let own = subst (λ (h : Head S I O s). HeadTied i o nothing_lost m h parts) is tied.head_tied in
      let behind = later o begins m source parts own in
      record {
        here = waiting_of source.pad;
        tells = subst (λ (p : ℕ). Tells seen (m.history p) (waiting_of source.pad)) number (counted (m.history (number_of source.pad)) own.linked.crossed);
        later = behind.rest;
        waits = ap m.waits (sym number) ∙ behind.whole;
      }
  seen_at pad seen (IsSeen.of_part place port part own at pad_at number counted) tied =
      let port_tied = (tied.parts_tied.each place part at).pads port own pad_at in
      record {
        here = waits_at part port own;
        tells = subst (λ (p : ℕ). Tells seen (m.history p) (waits_at part port own)) number (counted (m.history (number_of own)) port_tied.linked.crossed);
        later = [];
        waits = ap m.waits (sym number) ∙ port_tied.waits ∙ sym (append-nil (waits_at part port own));
      }

module _ {S E I O L : Type 0} {s : sources.Ghosts S} {e : elements.Ghosts E} (i : inlets.Ghosts I L O) (o : outlets.Ghosts O L) (begins : Begins s) (head : Head S I O s) (parts : List (Part E O e)) where
  -- the same of what is seen, where it is
  pub seen_if : (pad : ℕ) (seen : Option SeenPad) → IfSome seen (IsSeen head parts pad) → IfSome seen (λ one. (m : Moment) → AreTied i o (Stands m) nothing_lost m head parts → SeenAt m pad one)
  seen_if pad None is = tt
  seen_if pad (Some one) is = λ m tied. seen_at i o begins head parts m pad one is tied

module _ {S E I O : Type 0} {s : sources.Ghosts S} {e : elements.Ghosts E} (parts : List (Part E O e)) where
  -- the pad of a source is seen
  pub source_seen : (head : Head S I O s) (pad : ℕ) (seen : Option SeenPad) → IsOfHead head pad → HeadSeen head seen → IfSome seen (IsSeen head parts pad)
  source_seen (Source source) pad None of counted = tt
  source_seen (Source source) pad (Some seen) of counted = IsSeen.of_source source refl of counted
  source_seen (Inlets head) pad seen of counted = absurd of

  -- the pad of an element is seen
  pub part_seen : (head : Head S I O s) (pad place port : ℕ) (part : Part E O e) (seen : SeenPad) → PartHas parts pad place port → slice_get parts place ≡ Some part
      → ((own : Pad O) → slice_get part.pads.items port ≡ Some own → HasCounted own (waits_at part port own) seen) → IsSeen head parts pad seen
  part_seen head pad place port part seen has at counted =
      let same : has.part ≡ part = some_same (sym has.part_at ∙ at) in
      let own_at = subst (λ (x : Part E O e). slice_get x.pads.items port ≡ Some has.port_is.pad) same has.port_is.at in
      IsSeen.of_part place port part has.port_is.pad at own_at has.port_is.number_is (counted has.port_is.pad own_at)
