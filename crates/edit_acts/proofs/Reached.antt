-- What the head of a task reaches, where a pad leads nowhere now, and where what stood behind it became a task of its own.
use Rattle.std.proofs.Common.{◌≡◌, ◌⊎◌, ℕ, List, Some, map, refl, sym, ap, ◌∙◌, subst, inl, inr}
use Rattle.std.specs.Prelude.{slice_get}
use Rattle.lane_core.specs.declared.ends.Inlet as inlets
use Rattle.lane_core.specs.declared.ends.Outlet as outlets
use Rattle.flow_model.specs.declared.element.TaskElement as elements
use Rattle.flow_model.specs.declared.source.TaskSource as sources
use Rattle.task_pads.specs.Behind.{inside}
use Rattle.task_parts.specs.declared.head.Head.{Head}
use Rattle.task_parts.specs.declared.head.Head.TheVariants.{Source, Inlets}
use Rattle.task_parts.specs.declared.part.Part.{Part}
use Rattle.gst_value.proofs.Places.{map_get, map_got}
use Rattle.net_task.specs.declared.task.Task.{Task}
use Rattle.net_task.specs.Frame.{HeadFrame, PartFrame, TaskFrame, Wire, frame_in, frame_of, head_frame, part_frame, wire_of}
use Rattle.net_groups.specs.Behind.{IsBehind, StepsTo}
use Rattle.net_groups.specs.Splits.{IsSplitAt, number_in}
use Rattle.net_groups.proofs.Within.{IsOne, parted_on}
use Rattle.edit_core.specs.Tasks.{IsReachedIn, LeadsOn, number_of_head}
use Rattle.edit_acts.proofs.Cut.{IsCut, LeadsBy}

-- where the pad led nowhere inside, the head reaches what it did
pub still_reached : (pad : ℕ) (was is : TaskFrame) → IsCut pad was is → ((b : ℕ) → LeadsBy pad was b → ⊥) → (n : ℕ) → IsReachedIn was n → IsReachedIn is n
still_reached pad was is cut none n IsReachedIn.head = subst (IsReachedIn is) cut.head IsReachedIn.head
still_reached pad was is cut none n (IsReachedIn.next a b reached leads) = go (still_reached pad was is cut none a reached) (cut.leads a b leads)
  where
    go : IsReachedIn is a → LeadsOn is a b ⊎ LeadsBy pad was b → IsReachedIn is b
    go yet (inl on) = IsReachedIn.next a b yet on
    go yet (inr by) = absurd (none b by)

module _ {S E I O L : Type 0} {s : sources.Ghosts S} {e : elements.Ghosts E} (o : outlets.Ghosts O L) (head : Head S I O s) (parts : List (Part E O e)) where
  pub same_number : (one : Head S I O s) → number_of_head (head_frame o one) ≡ number_in one
  same_number (Source source) = refl
  same_number (Inlets fed) = refl

  -- what an element of the task leads on to is behind it
  steps_to : (a b j k port : ℕ) (part : PartFrame) (wire : Wire) → slice_get (map (part_frame o) parts) j ≡ Some part → slice_get part.wires k ≡ Some wire → part.number ≡ a → wire.leads ≡ inside b port → StepsTo parts a b
  steps_to a b j k port part wire at wire_at number leads =
      let z = map_got (part_frame o) parts j part at in
      let y = map_got (wire_of o) z.0.pads.items k wire (ap (λ (f : PartFrame). slice_get f.wires k) (sym z.2) ∙ wire_at) in
      record {
        place = j;
        part = z.0;
        at = z.1;
        number = ap (λ (f : PartFrame). f.number) (sym z.2) ∙ number;
        port = k;
        lead = record { pad = y.0; at = y.1; sink = port; leads = ap (λ (w : Wire). w.leads) (sym y.2) ∙ leads };
      }

  module _ (element : ℕ) (ahead : IsBehind parts element (number_in head) → ⊥) where
    -- what is behind an element is so on
    pub behind_on : (a b : ℕ) → IsBehind parts element a → LeadsOn (frame_in o head parts) a b → IsBehind parts element b
    behind_on a b behind (LeadsOn.of_part j k port part wire at wire_at number leads) = IsBehind.further a b behind (steps_to a b j k port part wire at wire_at number leads)
    behind_on a b behind (LeadsOn.of_source port file wire is leads) =
        absurd (ahead (subst (IsBehind parts element) (ap (λ (h : HeadFrame). number_of_head h) (sym is) ∙ same_number head) behind))

    -- The pad that led to the element leads nowhere now. What the head reached it reaches, or it is behind the element.
    pub reached_or_behind : (pad : ℕ) (was : TaskFrame) → IsCut pad was (frame_in o head parts) → ((b : ℕ) → LeadsBy pad was b → b ≡ element) → (n : ℕ) → IsReachedIn was n
        → IsReachedIn (frame_in o head parts) n ⊎ IsBehind parts element n
    reached_or_behind pad was cut only n IsReachedIn.head = inl (subst (IsReachedIn (frame_in o head parts)) cut.head IsReachedIn.head)
    reached_or_behind pad was cut only n (IsReachedIn.next a b reached leads) = go (reached_or_behind pad was cut only a reached) (cut.leads a b leads)
      where
        go : IsReachedIn (frame_in o head parts) a ⊎ IsBehind parts element a → LeadsOn (frame_in o head parts) a b ⊎ LeadsBy pad was b → IsReachedIn (frame_in o head parts) b ⊎ IsBehind parts element b
        go (inl yet) (inl on) = inl (IsReachedIn.next a b yet on)
        go (inr behind) (inl on) = inr (behind_on a b behind on)
        go either (inr by) = inr (subst (IsBehind parts element) (sym (only b by)) IsBehind.itself)

module _ {S E I O L : Type 0} {s : sources.Ghosts S} {e : elements.Ghosts E} {i : inlets.Ghosts I L O} {o : outlets.Ghosts O L} (tasks tasks' : List (Task S E I O L s e i o)) (place element pads : ℕ)
    (z : IsSplitAt tasks tasks' place element pads) where
  abbrev was : List (Part E O e)
  was = z.was.parts.items

  -- what stays is reached as it was
  pub stays_reached : (n : ℕ) → IsReachedIn (frame_of z.was) n → (IsBehind was element n → ⊥) → IsReachedIn (frame_of z.is) n
  stays_reached n IsReachedIn.head none = subst (IsReachedIn (frame_of z.is)) (ap (λ (h : Head S I O s). number_of_head (head_frame o h)) z.head) IsReachedIn.head
  stays_reached n (IsReachedIn.next a b reached leads) none = IsReachedIn.next a b (stays_reached a reached before) (on leads)
    where
      before : IsBehind was element a → ⊥
      before behind = none (behind_on o z.was.head was element z.ahead a b behind leads)

      on : LeadsOn (frame_of z.was) a b → LeadsOn (frame_of z.is) a b
      on (LeadsOn.of_source port file wire is goes) = LeadsOn.of_source port file wire (ap (λ (h : Head S I O s). head_frame o h) z.head ∙ is) goes
      on (LeadsOn.of_part j k port part wire at wire_at number goes) =
          let y = map_got (part_frame o) was j part at in
          go y.0 y.2 (parted_on z.parted j y.0 y.1)
        where
          go : (one : Part E O e) → part ≡ part_frame o one → IsOne (λ (p : Part E O e). IsBehind was element p.number) z.is.parts.items z.fresh.parts.items one → LeadsOn (frame_of z.is) a b
          go one same (inl y) =
              LeadsOn.of_part y.0 k port part wire (map_get (part_frame o) z.is.parts.items y.0 one y.1 ∙ ap Some (sym same)) wire_at number goes
          go one same (inr y) = absurd (before (subst (IsBehind was element) (sym (ap (λ (f : PartFrame). f.number) same) ∙ number) y.2))

  -- what goes is what the new head reaches
  pub goes_reached : (n : ℕ) → IsBehind was element n → IsReachedIn (frame_of z.fresh) n
  goes_reached n IsBehind.itself = subst (IsReachedIn (frame_of z.fresh)) (ap (λ (h : Head S I O s). number_of_head (head_frame o h)) z.fed_is ∙ z.number) IsReachedIn.head
  goes_reached n (IsBehind.further a b behind step) = IsReachedIn.next a b (goes_reached a behind) (go (parted_on z.parted step.place step.part step.at))
    where
      go : IsOne (λ (p : Part E O e). IsBehind was element p.number) z.is.parts.items z.fresh.parts.items step.part → LeadsOn (frame_of z.fresh) a b
      go (inl y) = absurd (y.2 (subst (IsBehind was element) (sym step.number) behind))
      go (inr y) = LeadsOn.of_part y.0 step.port step.lead.sink (part_frame o step.part) (wire_of o step.lead.pad) (map_get (part_frame o) z.fresh.parts.items y.0 step.part y.1)
          (map_get (wire_of o) step.part.pads.items step.port step.lead.pad step.lead.at) step.number step.lead.leads
