-- A probe and an undone link, in a net.
use Rattle.std.proofs.Common.{◌≡◌, ℕ, zero, suc, Bool, false, List, [], ◌∷◌, Option, Some, length, refl, sym, ap, ◌∙◌, subst, inl, inr, arith}
use Rattle.std.specs.Prelude.{slice_get, slice_set, sum_by}
use Rattle.std.proofs.lemmas.List.Sums.{sum_by-cons}
use Rattle.flow_model.specs.Item.{Item}
use Rattle.lane_core.specs.Lane.{Lane}
use Rattle.lane_core.specs.declared.ends.Inlet as inlets
use Rattle.lane_core.specs.declared.ends.Outlet as outlets
use Rattle.flow_model.specs.Edit.{undone, unlinked}
use Rattle.flow_model.specs.Moment.{Moment}
use Rattle.flow_model.specs.Step.{planned}
use Rattle.flow_model.specs.declared.element.TaskElement as elements
use Rattle.flow_model.specs.declared.source.TaskSource as sources
use Rattle.flow_model.proofs.Acts.{unlinking_keeps}
use Rattle.gst_value.proofs.Basics.{some_same}
use Rattle.pad_core.specs.declared.probe.Probe.{Probe}
use Rattle.task_pads.specs.Behind.{end_in, goes, nowhere, over}
use Rattle.task_pads.specs.declared.pad.Behind.{Behind}
use Rattle.task_pads.specs.declared.pad.Behind.TheVariants.{Nothing}
use Rattle.task_pads.specs.declared.pad.Pad.{Pad}
use Rattle.task_pads.specs.Pads.{IsLed, IsProbed, PadShape}
use Rattle.task_pads.proofs.Lists.{set_length}
use Rattle.net_task.specs.declared.task.Task.{Task}
use Rattle.net_task.specs.Frame.{room_in, wire_of}
use Rattle.net_task.specs.Fuel.{moves_left}
use Rattle.net_turns.specs.Net.{NetReady, NetStands}
use Rattle.net_turns.specs.Turns.{net_left}
use Rattle.task_edits.specs.Changes.{Changed, LedBy, ProbedBy}
use Rattle.task_edits.specs.Places.{HasPad}
use Rattle.task_edits.proofs.Absent.{has_not}
use Rattle.task_edits.proofs.Acts.{undone_others}
use Rattle.net_edits.specs.Nets.{IsProbedAt, IsUnlinkedAt, NoneHas, TaskHas}
use Rattle.net_edits.proofs.Alikes.{Alike, LeadsBack, pad_alike, same_alike}
use Rattle.net_edits.proofs.Laying.{Laid, laid_of, net_of}
use Rattle.net_edits.proofs.Restands.{laid_again, net_ready, none_stands, owns_pad, restands}

sum_set : {A : Type 0} (f : A → ℕ) (xs : List A) (k : ℕ) (x y : A) → slice_get xs k ≡ Some x → f y ≡ f x → sum_by f (slice_set xs k y) ≡ sum_by f xs
sum_set f [] k x y at same = refl
sum_set f (z ∷ zs) zero x y at same =
    let a = sum_by-cons f y zs in
    let b = sum_by-cons f z zs in
    let c = same ∙ ap f (sym (some_same at)) in
    omega (arith, a, b, c)
sum_set f (z ∷ zs) (suc k) x y at same =
    let a = sum_by-cons f z (slice_set zs k y) in
    let b = sum_by-cons f z zs in
    let c = sum_set f zs k x y at same in
    omega (arith, a, b, c)

module _ {O L : Type 0} (o : outlets.Ghosts O L) where
  probed_back : (was is : Pad O) (probe : Option Probe) → IsProbed was is probe → LeadsBack (wire_of o was) (wire_of o is)
  probed_back was is probe p = record {
    number = ap (λ (z : PadShape). z.number) p.shape;
    leads = λ lane n from i place leads into. (
      ap (λ (b : Behind O). goes b) (sym p.behind) ∙ leads,
      record { room = into.room; room_is = ap (λ (b : Behind O). room_in (end_in o b)) (sym p.behind) ∙ into.room_is; place_is = into.place_is },
    );
  }

  led_back : (was is : Pad O) → IsLed was is Nothing → LeadsBack (wire_of o was) (wire_of o is)
  led_back was is led = record { number = led.number; leads = λ lane n from i place leads into. absurd (let same : nowhere ≡ over lane n i from = sym (ap (λ (b : Behind O). goes b) led.leads) ∙ leads in cc) }

module _ {S E I O L : Type 0} {s : sources.Ghosts S} {e : elements.Ghosts E} {i : inlets.Ghosts I L O} {o : outlets.Ghosts O L} (tasks tasks' : List (Task S E I O L s e i o)) (place pad : ℕ) where
  pub probed_stands : (probe : Option Probe) → TaskHas tasks pad place → IsProbedAt tasks tasks' place pad probe → (m : Moment) (tells : Option (List Lane)) → NetStands m tasks tells → NetStands m tasks' tells
  probed_stands probe has p m tells stands = go p.changed
    where
      go : Changed (ProbedBy probe) (Unit {0}) pad p.was.head p.was.parts.items p.is.head p.is.parts.items → NetStands m tasks' tells
      go (inl (was, is, number, by, changed)) =
          subst (λ (ts : List (Task S E I O L s e i o)). NetStands m ts tells) (sym p.set)
          (restands tasks place p.was p.is p.at (pad_alike o p.was.head p.is.head p.was.parts.items p.is.parts.items was is changed (probed_back o was is probe by)) m.plan.sinks m pad tells stands
          (owns_pad tasks place p.was p.is p.at (pad_alike o p.was.head p.is.head p.was.parts.items p.is.parts.items was is changed (probed_back o was is probe by)) m pad was is (stands.tied place p.was p.at) number changed)
          (λ q g ne l. l) (p.ties m (stands.tied place p.was p.at)) (p.ready tells (stands.ready place p.was p.at)) stands.cells)
      go (inr (none, h, q, k)) = absurd (has_not p.was.head p.was.parts.items pad (subst (λ (t : Task S E I O L s e i o). HasPad t.head t.parts.items pad) (some_same (sym has.at ∙ p.at)) has.has) none)

  -- a task of which a pad was unlinked
  pub unlinked_alike : (back : Behind O) (p : IsUnlinkedAt tasks tasks' place pad back) → Alike o p.was.head p.is.head p.was.parts.items p.is.parts.items
  unlinked_alike back p = go p.changed
    where
      go : Changed (LedBy Nothing back) (back ≡ Nothing) pad p.was.head p.was.parts.items p.is.head p.is.parts.items → Alike o p.was.head p.is.head p.was.parts.items p.is.parts.items
      go (inl (was, is, number, by, changed)) = pad_alike o p.was.head p.is.head p.was.parts.items p.is.parts.items was is changed (led_back o was is by.0)
      go (inr (none, h, q, k)) = same_alike o p.was.head p.is.head p.was.parts.items p.is.parts.items h q

  -- All but the elements stands where the link of a pad was undone.
  pub unlinked_laid : (back : Behind O) (eos : Bool) → TaskHas tasks pad place → IsUnlinkedAt tasks tasks' place pad back → (m : Moment) (tells : Option (List Lane)) (table : List Lane) (sents : ℕ → List Item) → Laid m tasks tells table sents
      → Laid (planned (undone pad (length (m.history pad)) eos m.plan) m) tasks' tells table sents
  unlinked_laid back eos has p m tells table sents laid = go p.changed
    where
      now : Moment
      now = planned (undone pad (length (m.history pad)) eos m.plan) m

      alike : Alike o p.was.head p.is.head p.was.parts.items p.is.parts.items
      alike = unlinked_alike back p

      go : Changed (LedBy Nothing back) (back ≡ Nothing) pad p.was.head p.was.parts.items p.is.head p.is.parts.items → Laid now tasks' tells table sents
      go (inl (was, is, number, by, changed)) =
          subst (λ (ts : List (Task S E I O L s e i o)). Laid now ts tells table sents) (sym p.set)
          (laid_again tasks place p.was p.is p.at alike (undone pad (length (m.history pad)) eos m.plan).sinks m pad tells table sents laid (owns_pad tasks place p.was p.is p.at alike m pad was is (laid.tied place p.was p.at) number changed)
          (undone_others m pad (length (m.history pad)) eos) (p.ties m (length (m.history pad)) eos (laid.tied place p.was p.at)) (p.ready tells (laid.ready place p.was p.at)))
      go (inr (none, h, q, k)) = absurd (has_not p.was.head p.was.parts.items pad (subst (λ (t : Task S E I O L s e i o). HasPad t.head t.parts.items pad) (some_same (sym has.at ∙ p.at)) has.has) none)

  pub unlinked_stands : (back : Behind O) → TaskHas tasks pad place → IsUnlinkedAt tasks tasks' place pad back → (m : Moment) (tells : Option (List Lane)) → NetStands m tasks tells → NetStands (unlinked pad m) tasks' tells
  unlinked_stands back has p m tells stands =
      net_of (unlinked pad m) tasks' tells stands.table stands.sents (unlinked_laid back false has p m tells stands.table stands.sents (laid_of m tasks tells stands))
      (record { uncut = stands.plain.uncut; calm = stands.plain.calm; closed = stands.plain.closed }) (λ n. unlinking_keeps m pad n (stands.cells n))

  pub probed_ready : (probe : Option Probe) → IsProbedAt tasks tasks' place pad probe → (tells : Option (List Lane)) → NetReady tasks tells → NetReady tasks' tells
  probed_ready probe p tells ready = subst (λ (ts : List (Task S E I O L s e i o)). NetReady ts tells) (sym p.set) (net_ready tasks place p.was p.is p.at (alike p.changed) tells (p.ready tells (ready.ready place p.was p.at)) ready)
    where
      alike : Changed (ProbedBy probe) (Unit {0}) pad p.was.head p.was.parts.items p.is.head p.is.parts.items → Alike o p.was.head p.is.head p.was.parts.items p.is.parts.items
      alike (inl (was, is, number, by, changed)) = pad_alike o p.was.head p.is.head p.was.parts.items p.is.parts.items was is changed (probed_back o was is probe by)
      alike (inr (none, h, q, k)) = same_alike o p.was.head p.is.head p.was.parts.items p.is.parts.items h q

  pub unlinked_ready : (back : Behind O) → IsUnlinkedAt tasks tasks' place pad back → (tells : Option (List Lane)) → NetReady tasks tells → NetReady tasks' tells
  unlinked_ready back p tells ready =
      subst (λ (ts : List (Task S E I O L s e i o)). NetReady ts tells) (sym p.set) (net_ready tasks place p.was p.is p.at (unlinked_alike back p) tells (p.ready tells (ready.ready place p.was p.at)) ready)

  pub left_set : (was is : Task S E I O L s e i o) → slice_get tasks place ≡ Some was → tasks' ≡ slice_set tasks place is → moves_left is ≡ moves_left was → net_left tasks' ≡ net_left tasks
  left_set was is at set moves = ap (λ (ts : List (Task S E I O L s e i o)). net_left ts) set ∙ sum_set (λ task. moves_left task) tasks place was is at moves

  pub size_set : (is : Task S E I O L s e i o) → tasks' ≡ slice_set tasks place is → length tasks' ≡ length tasks
  size_set is set = ap (λ (ts : List (Task S E I O L s e i o)). length ts) set ∙ set_length tasks place is

module _ {S E I O L : Type 0} {s : sources.Ghosts S} {e : elements.Ghosts E} {i : inlets.Ghosts I L O} {o : outlets.Ghosts O L} where
  -- where no task has the pad, its link is undone in the graph alone
  pub unlinked_none : (tasks : List (Task S E I O L s e i o)) (pad : ℕ) → NoneHas tasks pad → (m : Moment) (tells : Option (List Lane)) → NetStands m tasks tells → NetStands (unlinked pad m) tasks tells
  unlinked_none tasks pad none m tells stands =
      none_stands tasks (undone pad (length (m.history pad)) false m.plan).sinks m pad tells none (undone_others m pad (length (m.history pad)) false) (λ n. unlinking_keeps m pad n (stands.cells n)) stands
