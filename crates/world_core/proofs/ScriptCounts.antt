-- What a run of a script counted at a source pad of its graph is what crossed it, also where the element of the pad was taken away.
use Rattle.std.proofs.Common.{◌≡◌, ◌<◌, ◌*◌, ℕ, Bool, true, false, List, [], Option, Some, length, refl, sym, ap, ◌∙◌, subst, inl, inr}
use Rattle.std.specs.Prelude.{slice_get}
use Rattle.flow_model.specs.Moment.{Moment}
use Rattle.flow_model.specs.declared.element.TaskElement as elements
use Rattle.flow_model.specs.declared.source.TaskSource as sources
use Rattle.gst_value.proofs.Basics.{none_some, some_same}
use Rattle.gst_value.proofs.Places.{map_get, map_got}
use Rattle.graph_edits.specs.Edited.{Edited, is_there}
use Rattle.graph_parts.specs.Counts.{HeadCounted, PartCounted, TaskCounted, TasksCounted}
use Rattle.graph_parts.specs.Pads.{is_pad}
use Rattle.graph_parts.specs.Put.{IsPutAt, PutBack, was_kept, was_put}
use Rattle.graph_parts.specs.declared.counts.Count.{Count}
use Rattle.graph_tasks.specs.Written.{HeadCrossed, PadsCrossed, TaskCrossed}
use Rattle.lane_core.specs.Lane.{Lane}
use Rattle.lane_core.specs.declared.ends.Inlet as inlets
use Rattle.lane_core.specs.declared.ends.Outlet as outlets
use Rattle.net_task.specs.Frame.{IsWire, Wire, by_inlets, by_source, frame_of, head_frame, head_wire, part_frame, wire_of}
use Rattle.net_task.specs.Ties.{HeadTied, SourceTied, Ties, nothing_lost}
use Rattle.net_task.specs.declared.task.Task.{Task}
use Rattle.net_turns.specs.Net.{HasElement, NetStands, Owns}
use Rattle.script_text.specs.declared.command.Command.{Command}
use Rattle.task_pads.specs.Pads.{number_of}
use Rattle.task_parts.specs.declared.fault.TaskFault.{TaskFault}
use Rattle.task_parts.specs.declared.head.Head.{Head}
use Rattle.task_parts.specs.declared.head.SourceHead.{SourceHead}
use Rattle.task_parts.specs.declared.head.Head.TheVariants.{Inlets, Source}
use Rattle.task_parts.specs.declared.part.Part.{Part}
use Rattle.world_core.specs.Evaluated.{AreCounted, HasPad, IsRunAt}
use Rattle.world_core.specs.declared.running.Running.{Running}
use Rattle.world_core.proofs.Counted.{pad_within}
use Rattle.world_core.proofs.TaskCounts.{IsTold, count_by, counted_told}

-- ---- a source pad that tasks have, and that counted what crossed it, has a count

module _ (m : Moment) {E O L : Type 0} {e : elements.Ghosts E} (o : outlets.Ghosts O L) where
  part_count : (part : Part E O e) → PadsCrossed m part → (port : ℕ) (wire : Wire) → slice_get (part_frame o part).wires port ≡ Some wire → (x : Count) × PartCounted part wire.number x
  part_count part crossed port wire at =
      let pad = map_got (wire_of o) part.pads.items port wire at in
      let count = count_by pad.0 (m.history (number_of pad.0)) (crossed port pad.0 pad.1) in
      (count.0, record { place = port; one = pad.0; at = pad.1; inside = (ap (λ (w : Wire). w.number) (sym pad.2), count.1) })

module _ (m : Moment) {S I O L : Type 0} {s : sources.Ghosts S} (o : outlets.Ghosts O L) where
  head_count : (head : Head S I O s) → HeadCrossed m head → (wire : Wire) → head_wire (head_frame o head) ≡ Some wire → (x : Count) × HeadCounted head wire.number x
  head_count (Source head) crossed wire is =
      let count = count_by head.pad (m.history (number_of head.pad)) crossed in
      (count.0, (ap (λ (w : Wire). w.number) (some_same is), count.1))
  head_count (Inlets head) crossed wire is = absurd (none_some is)

module _ {S I O L : Type 0} {s : sources.Ghosts S} (o : outlets.Ghosts O L) where
  source_wire : (head : Head S I O s) (n : ℕ) (file : Option (Option (List ℕ))) (wire : Wire) → head_frame o head ≡ by_source n file wire
      → (own : SourceHead S O s) × (head ≡ Source own) × (own.number ≡ n) × (wire_of o own.pad ≡ wire)
  source_wire (Source own) n file wire is = (own, refl, number_of_source is, wire_of_source is)
    where
      number_of_source : {a b : ℕ} {f g : Option (Option (List ℕ))} {w v : Wire} → by_source a f w ≡ by_source b g v → a ≡ b
      number_of_source is = cc

      wire_of_source : {a b : ℕ} {f g : Option (Option (List ℕ))} {w v : Wire} → by_source a f w ≡ by_source b g v → w ≡ v
      wire_of_source is = cc
  source_wire (Inlets own) n file wire is = absurd (no_source is)
    where
      no_source : {a b c : ℕ} {g : Option (Option (List ℕ))} {v : Wire} → by_inlets a c ≡ by_source b g v → ⊥
      no_source is = cc

module _ {S E I O L : Type 0} {s : sources.Ghosts S} {e : elements.Ghosts E} {i : inlets.Ghosts I L O} {o : outlets.Ghosts O L} where
  task_count : (m : Moment) (task : Task S E I O L s e i o) → TaskCrossed m task → (wire : Wire) → IsWire (frame_of task) wire → (x : Count) × TaskCounted task wire.number x
  task_count m task crossed wire (IsWire.of_part place port w) =
      let part = map_got (part_frame o) task.parts.items place w.part w.at in
      let count =
      part_count m o part.0 (crossed.parts place part.0 part.1) port wire
      (subst (λ f. slice_get f.wires port ≡ Some wire) part.2 w.pad_at) in
      (count.0, inr (record { place = place; one = part.0; at = part.1; inside = count.1 }))
  task_count m task crossed wire (IsWire.of_head is) = let count = head_count m o task.head crossed.head wire is in (count.0, inl count.1)

  pub has_count : (m : Moment) (tasks : List (Task S E I O L s e i o)) → AreCounted m tasks → (p : ℕ) → HasPad tasks p → (x : Count) × TasksCounted tasks p x
  has_count m tasks crossed p has =
      let count = task_count m has.task (crossed has.place has.task has.at) has.wire has.is in
      (count.0, subst (λ (n : ℕ). TasksCounted tasks n count.0) has.number (record { place = has.place; one = has.task; at = has.at; inside = count.1 }))

  -- ---- tasks that stand have each pad of their elements

  module _ (m : Moment) (tasks : List (Task S E I O L s e i o)) (tells : Option (List Lane)) (net : NetStands m tasks tells) (p : ℕ) where
    pub owned_pad : (k : ℕ) → Owns tasks k (m.plan.owner p) → HasPad tasks p
    owned_pad k own = go own.has
      where
        tied : Ties own.task m
        tied = net.tied k own.task own.at

        go : HasElement (frame_of own.task) (m.plan.owner p) → HasPad tasks p
        go (HasElement.part place one at number) =
            let found = map_got (part_frame o) own.task.parts.items place one at in
            let mine = (tied.parts_tied.each place found.0 found.1).mine p (sym number ∙ ap (λ z. z.number) found.2) in
            record {
              place = k;
              task = own.task;
              at = own.at;
              wire = wire_of o mine.pad;
              is = IsWire.of_part place (m.plan.port p)
                  (record { part = part_frame o found.0; at = map_get (part_frame o) own.task.parts.items place found.0 found.1; pad_at = map_get (wire_of o) found.0.pads.items (m.plan.port p) mine.pad mine.at });
              number = mine.number;
            }
        go (HasElement.source file wire is) =
            let head = source_wire o own.task.head (m.plan.owner p) file wire is in
            let tied_head : SourceTied o [] m head.0 own.task.parts.items = subst (λ (h : Head S I O s). HeadTied i o nothing_lost m h own.task.parts.items) head.1 tied.head_tied in
            record {
              place = k;
              task = own.task;
              at = own.at;
              wire = wire_of o head.0.pad;
              is = IsWire.of_head (ap (λ (h : Head S I O s). head_wire (head_frame o h)) head.1);
              number = sym (tied_head.mine p (sym head.2));
            }

  -- ---- where a run of a script has stopped

  module _ (contents : ℕ → List ℕ) (script : List Command) (first : Edited) (met : Option TaskFault) (run : Running S E I O L s e i o) (w : IsRunAt contents script first met run) where
    abbrev last : Edited
    last = w.of.scripted.g

    abbrev now : Moment
    now = w.of.scripted.m

    there_pad : (p : ℕ) → is_there last (now.plan.owner p) ≡ true → HasPad run.tasks.items p
    there_pad p there =
        let has = w.of.scripted.has in
        let own = has.run.are.owned (now.plan.owner p) there (w.of.fits.awake (now.plan.owner p)) in
        w.each p (owned_pad now w.was.tasks w.was.tells has.run.net p own.0 own.1)

    -- what is counted at a source pad, over the tasks and then over those that were set aside, is what crossed it
    pub script_counted : (none mid counts : List Count) → length none ≡ length last.made * 64 → PutBack (TasksCounted run.tasks.items) none mid → PutBack (TasksCounted run.removed.items) mid counts
        → (p : ℕ) → is_pad last.made p ≡ true → (x : Count) × (slice_get counts p ≡ Some x) × IsTold x (now.history p)
    script_counted none mid counts size one other p pad = by_removed (other.each p (subst (λ (n : ℕ). p < n) (sym (one.count ∙ size)) within))
      where
        within : p < length last.made * 64
        within = (pad_within last.made p pad).1

        some_counts : ((x : Count) → TasksCounted run.tasks.items p x → ⊥) → ((x : Count) → TasksCounted run.removed.items p x → ⊥) → (b : Bool) → is_there last (now.plan.owner p) ≡ b → ⊥
        some_counts none_has none_had true there = let count = has_count now run.tasks.items w.counted p (there_pad p there) in none_has count.0 count.1
        some_counts none_has none_had false gone = let count = has_count now run.removed.items w.aside.counted p (w.aside.each p (pad, gone)) in none_had count.0 count.1

        by_tasks : ((x : Count) → TasksCounted run.removed.items p x → ⊥) → slice_get counts p ≡ slice_get mid p → IsPutAt (TasksCounted run.tasks.items) none mid p
            → (x : Count) × (slice_get counts p ≡ Some x) × IsTold x (now.history p)
        by_tasks none_had same (was_put x here at) = (x, same ∙ at, counted_told now run.tasks.items w.counted p x here)
        by_tasks none_had same (was_kept none_has kept) = absurd (some_counts none_has none_had (is_there last (now.plan.owner p)) refl)

        by_removed : IsPutAt (TasksCounted run.removed.items) mid counts p → (x : Count) × (slice_get counts p ≡ Some x) × IsTold x (now.history p)
        by_removed (was_put x here at) = (x, at, counted_told now run.removed.items w.aside.counted p x here)
        by_removed (was_kept none_had same) = by_tasks none_had same (one.each p (subst (λ (n : ℕ). p < n) (sym size) within))
