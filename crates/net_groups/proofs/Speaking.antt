-- What speaks against a split and against a join where the tasks are as the moment of a run tells them.
use Rattle.std.proofs.Common.{◌≡◌, ◌≢◌, ◌⊎◌, ℕ, List, Option, Some, sym, ap, ◌∙◌, subst, inl, inr}
use Rattle.std.specs.Prelude.{slice_get}
use Rattle.lane_core.specs.Lane.{Lane}
use Rattle.lane_core.specs.declared.ends.Inlet as inlets
use Rattle.lane_core.specs.declared.ends.Outlet as outlets
use Rattle.flow_model.specs.declared.element.TaskElement as elements
use Rattle.flow_model.specs.declared.source.TaskSource as sources
use Rattle.task_pads.specs.Behind.{inside}
use Rattle.task_parts.specs.declared.head.Head.{Head}
use Rattle.task_parts.specs.declared.part.Part.{Part}
use Rattle.net_task.specs.declared.task.Task.{Task}
use Rattle.net_task.specs.Frame.{PartFrame, Wire, WireAt, of_part as wire_part, of_head as wire_head, frame_in, head_frame, head_wire, wire_of}
use Rattle.net_turns.specs.Net.{NetReady}
use Rattle.gst_value.proofs.Basics.{some_same}
use Rattle.net_groups.specs.Behind.{IsBehind, itself, further, IsElsewhere, at_other, at_source, IsEntered, IsTree}
use Rattle.net_groups.specs.Joined.{CannotJoin, no_head, no_pad, one_task, lane_between, lane_there, IsApart, IsUnfed}
use Rattle.net_groups.specs.Lanes.{SendsTo}
use Rattle.net_groups.specs.Places.{FedAt, IsPartOf, PadOf}
use Rattle.net_groups.specs.Splits.{CannotSplit, IsTreeIn, NamesBehind}
use Rattle.net_groups.proofs.Wiring.{not_bare, pad_wire}

module _ {S E I O L : Type 0} {s : sources.Ghosts S} {e : elements.Ghosts E} (o : outlets.Ghosts O L) (head : Head S I O s) (parts : List (Part E O e)) (n : ℕ) (tree : IsTree (frame_in o head parts) n) (wire : Wire) (port : ℕ) where
  -- no pad of the source leads to what is behind the element, nor one of an element that is not
  from_source : (m : ℕ) → head_wire (head_frame o head) ≡ Some wire → IsBehind parts n m → wire.leads ≢ inside m port
  from_source m at itself leads = tree.unfed wire port (wire_head at) leads
  from_source m at (further a next b step) leads =
      tree.source step.place step.port next step.lead.sink port (wire_of o step.lead.pad) wire (pad_wire o head parts step.place step.port step.part step.lead.pad step.at step.lead.at) at step.lead.leads leads

  from_other : (m j k : ℕ) (w : WireAt (frame_in o head parts) j k wire) → (IsBehind parts n w.part.number → ⊥) → IsBehind parts n m → wire.leads ≢ inside m port
  from_other m j k w other itself leads = tree.unfed wire port (wire_part j k w) leads
  from_other m j k w other (further a next b step) leads =
      let x = pad_wire o head parts step.place step.port step.part step.lead.pad step.at step.lead.at in
      let z = tree.once j k step.place step.port next port step.lead.sink wire (wire_of o step.lead.pad) w x leads step.lead.leads in
      let same : w.part ≡ x.part = some_same (sym w.at ∙ ap (λ (y : ℕ). slice_get (frame_in o head parts).parts y) z.0 ∙ x.at) in
      other (subst (λ (y : ℕ). IsBehind parts n y) (sym (ap (λ (p : PartFrame). p.number) same ∙ step.number)) b)

module _ {S E I O L : Type 0} {s : sources.Ghosts S} {e : elements.Ghosts E} (o : outlets.Ghosts O L) (head : Head S I O s) (parts : List (Part E O e)) (n : ℕ) where
  never_led : IsTree (frame_in o head parts) n → IsEntered (frame_in o head parts) parts n → ⊥
  never_led tree z = go z.from
    where
      go : (z.to ≡ n) ⊎ IsElsewhere (frame_in o head parts) parts n z.wire → ⊥
      go (inl same) = tree.unfed z.wire z.port z.is (z.leads ∙ ap (λ (m : ℕ). inside m z.port) same)
      go (inr (at_source at)) = from_source o head parts n tree z.wire z.port z.to at z.behind z.leads
      go (inr (at_other j k w other)) = from_other o head parts n tree z.wire z.port z.to j k w other z.behind z.leads

module _ {S E I O L : Type 0} {s : sources.Ghosts S} {e : elements.Ghosts E} {i : inlets.Ghosts I L O} {o : outlets.Ghosts O L} where
  pub trees_split : (tasks : List (Task S E I O L s e i o)) (n : ℕ) → IsTreeIn tasks n → CannotSplit tasks n → ((k : ℕ) → IsPartOf tasks k n → ⊥) ⊎ ((k : ℕ) × NamesBehind tasks k n)
  trees_split tasks n tree (inl none) = inl none
  trees_split tasks n tree (inr (inl names)) = inr names
  trees_split tasks n tree (inr (inr led)) = let p = led.1.0 in absurd (never_led o p.task.head p.task.parts.items n (tree led.0 p) led.1.1)

  -- no lane leads to an element that is fed from nothing
  unfed_unsent : (tasks : List (Task S E I O L s e i o)) (tells : Option (List Lane)) (n k : ℕ) → NetReady tasks tells → IsUnfed tasks n → SendsTo tasks k n → ⊥
  unfed_unsent tasks tells n k ready unfed z =
      let y = ready.wired.paired k z.0 z.1 z.2 n z.3 z.4 in
      not_bare y.3.front _ (sym (unfed y.0 (record { head = y.2.head; fed = y.2.fed; number = y.2.number }) z.3 y.1 y.2.at) ∙ y.3.whole)

  pub unfed_join : (tasks : List (Task S E I O L s e i o)) (tells : Option (List Lane)) (pad n : ℕ) → NetReady tasks tells → IsUnfed tasks n → IsApart tasks pad n → CannotJoin tasks pad n
      → ((k : ℕ) → FedAt tasks k n → ⊥) ⊎ ((k : ℕ) → PadOf tasks k pad → ⊥) ⊎ ((k : ℕ) × FedAt tasks k n × PadOf tasks k pad)
  unfed_join tasks tells pad n ready unfed apart (no_head none) = inl none
  unfed_join tasks tells pad n ready unfed apart (no_pad none) = inr (inl none)
  unfed_join tasks tells pad n ready unfed apart (one_task k fed has) = inr (inr (k, fed, has))
  unfed_join tasks tells pad n ready unfed apart (lane_between k j head fed has is two z) =
      absurd (apart k j head fed has is two z.4.out.wire (record { task = z.4.task; at = z.4.at; is = z.4.out.is }) z.4.out.lane z.3 z.2 z.4.out.leads)
  unfed_join tasks tells pad n ready unfed apart (lane_there k z) = absurd (unfed_unsent tasks tells n k ready unfed z)
