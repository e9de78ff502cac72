-- The tasks that a run of a script set aside stand for what was taken away with them.
use Rattle.std.proofs.Common.{◌≡◌, ◌⊎◌, ◌<◌, ◌≤◌, ◌+◌, ◌++◌, ℕ, zero, suc, Bool, true, false, if◌then◌else◌, List, [], ◌∷◌, Option, Some, length, refl, sym, ap, ◌∙◌, subst, inl, inr, arith}
use Rattle.std.specs.Prelude.{slice_get}
use Rattle.std.specs.Option.{option_map}
use Rattle.std.proofs.lemmas.Bool.{cases_eq, true≢false}
use Rattle.std.proofs.lemmas.Option.{slice_get-map}
use Rattle.el_settings.specs.Asked.{is_source}
use Rattle.flow_model.specs.Call.{Call}
use Rattle.flow_model.specs.Item.{Item}
use Rattle.flow_model.specs.Moment.{Behavior, Moment, behavior_at}
use Rattle.flow_model.specs.declared.element.TaskElement as elements
use Rattle.flow_model.specs.declared.source.TaskSource as sources
use Rattle.gst_value.proofs.Basics.{some_same}
use Rattle.gst_value.proofs.Places.{get_last, map_got}
use Rattle.net_groups.proofs.Lists.{append_back, append_first}
use Rattle.edit_acts.proofs.Gone.{still_there, was_there}
use Rattle.edit_core.specs.Tasks.{number_of_head}
use Rattle.graph_core.specs.Elements.{Made, has, limit}
use Rattle.graph_core.specs.GraphPlan.{owner_of}
use Rattle.graph_edits.specs.Edited.{Edited, is_there, without_element}
use Rattle.graph_parts.specs.Pads.{is_pad}
use Rattle.graph_tasks.specs.Written.{HeadCrossed, TaskCrossed}
use Rattle.lane_core.specs.declared.ends.Inlet as inlets
use Rattle.lane_core.specs.declared.ends.Outlet as outlets
use Rattle.net_edits.specs.Adding.{IsOnly}
use Rattle.net_task.specs.Frame.{HeadFrame, IsWire, PartFrame, Wire, by_source, frame_of, head_frame, head_wire, part_frame, wire_of}
use Rattle.net_task.specs.Ties.{AreTied, HeadTied, Stands, Ties, nothing_lost}
use Rattle.net_task.specs.declared.task.Task.{Task}
use Rattle.net_turns.specs.Net.{HasElement}
use Rattle.task_pads.specs.Pads.{HasCrossed, number_of}
use Rattle.task_parts.specs.declared.head.Head.{Head}
use Rattle.task_parts.specs.declared.head.Head.TheVariants.{Source, Inlets}
use Rattle.task_parts.specs.declared.part.Part.{Part}
use Rattle.edit_core.specs.Whole.{owner_in}
use Rattle.world_core.specs.Evaluated.{AreCounted, AreSetAside, HasPad, IsGonePad, IsPartOf}

-- ---- what pads counted

-- the pad of a source still counted what crossed it where nothing more did
head_on : {S I O L : Type 0} {s : sources.Ghosts S} (o : outlets.Ghosts O L) (m m' : Moment) (head : Head S I O s) → HeadCrossed m head
    → ((wire : Wire) → head_wire (head_frame o head) ≡ Some wire → m'.history wire.number ≡ m.history wire.number) → HeadCrossed m' head
head_on o m m' (Source head) crossed same = subst (λ (h : List Item). HasCrossed head.pad h) (sym (same (wire_of o head.pad) refl)) crossed
head_on o m m' (Inlets head) crossed same = tt

module _ {S E I O L : Type 0} {s : sources.Ghosts S} {e : elements.Ghosts E} {i : inlets.Ghosts I L O} {o : outlets.Ghosts O L} where
  -- the pads of what is tied to a moment counted what crossed them there
  module _ (Stood : Part E O e → Type 0) (lost : ℕ → List Item) (m behind : Moment) (same : behind.history ≡ m.history) where
    head_crossed : (head : Head S I O s) (parts : List (Part E O e)) → AreTied i o Stood lost behind head parts → HeadCrossed m head
    head_crossed (Source head) parts tied = subst (λ (h : ℕ → List Item). HasCrossed head.pad (h (number_of head.pad))) same tied.head_tied.linked.crossed
    head_crossed (Inlets head) parts tied = tt

    pub tied_crossed : (task : Task S E I O L s e i o) → AreTied i o Stood lost behind task.head task.parts.items → TaskCrossed m task
    tied_crossed task tied = record {
      parts = λ place part at port pad there. subst (λ (h : ℕ → List Item). HasCrossed pad (h (number_of pad))) same ((tied.parts_tied.each place part at).pads port pad there).linked.crossed;
      head = head_crossed task.head task.parts.items tied;
    }

  -- they still did where nothing more crossed them
  module _ (m m' : Moment) where
    pub crossed_on : (task : Task S E I O L s e i o) → TaskCrossed m task → ((wire : Wire) → IsWire (frame_of task) wire → m'.history wire.number ≡ m.history wire.number) → TaskCrossed m' task
    crossed_on task crossed same = record {
      parts = λ place part at port pad there.
          subst (λ (h : List Item). HasCrossed pad h)
          (sym (same (wire_of o pad) (IsWire.of_part place port (record {
            part = part_frame o part;
            at = slice_get-map (part_frame o) task.parts.items place ∙ ap (option_map (part_frame o)) at;
            pad_at = slice_get-map (wire_of o) part.pads.items port ∙ ap (option_map (wire_of o)) there;
          }))))
          (crossed.parts place part at port pad there);
      head = head_on o m m' task.head crossed.head (λ wire is. same wire (IsWire.of_head is));
    }

  -- ---- pads and elements of a task

  module _ (task : Task S E I O L s e i o) (m : Moment) (ties : Ties task m) where
    -- a pad of it is one of an element of it
    pub wire_owner : (wire : Wire) → IsWire (frame_of task) wire → HasElement (frame_of task) (m.plan.owner wire.number)
    wire_owner wire (IsWire.of_part place port w) =
        let part = map_got (part_frame o) task.parts.items place w.part w.at in
        let pad = map_got (wire_of o) part.0.pads.items port wire (ap (λ (f : PartFrame). slice_get f.wires port) (sym part.2) ∙ w.pad_at) in
        let own = ((ties.parts_tied.each place part.0 part.1).pads port pad.0 pad.1).owner in
        HasElement.part place w.part w.at (ap (λ (f : PartFrame). f.number) part.2 ∙ sym own ∙ ap (λ (x : Wire). m.plan.owner x.number) (sym pad.2))
    wire_owner wire (IsWire.of_head is) = by task.head ties.head_tied is refl
      where
        by : (head : Head S I O s) → HeadTied i o nothing_lost m head task.parts.items → head_wire (head_frame o head) ≡ Some wire → head_frame o task.head ≡ head_frame o head → HasElement (frame_of task) (m.plan.owner wire.number)
        by (Source head) tied is same =
            let wire_is : wire_of o head.pad ≡ wire = some_same is in
            HasElement.source (s.file head.source) (wire_of o head.pad)
            (same ∙ ap (λ (n : ℕ). by_source n (s.file head.source) (wire_of o head.pad)) (sym tied.owner ∙ ap (λ (x : Wire). m.plan.owner x.number) wire_is))
        by (Inlets head) tied is same = absurd cc

    -- and each pad of an element of it is one of it
    pub element_wire : (n p : ℕ) → HasElement (frame_of task) n → m.plan.owner p ≡ n → (wire : Wire) × IsWire (frame_of task) wire × (wire.number ≡ p)
    element_wire n p (HasElement.part place one is number) own =
        let part = map_got (part_frame o) task.parts.items place one is in
        let mine = (ties.parts_tied.each place part.0 part.1).mine p (own ∙ sym number ∙ ap (λ (f : PartFrame). f.number) part.2) in (
          wire_of o mine.pad,
          IsWire.of_part place (m.plan.port p) (record {
            part = one;
            at = is;
            pad_at = ap (λ (f : PartFrame). slice_get f.wires (m.plan.port p)) part.2 ∙ slice_get-map (wire_of o) part.0.pads.items (m.plan.port p) ∙ ap (option_map (wire_of o)) mine.at;
          }),
          mine.number,
        )
    element_wire n p (HasElement.source file wire is) own = by task.head ties.head_tied is refl
      where
        by : (head : Head S I O s) → HeadTied i o nothing_lost m head task.parts.items → head_frame o task.head ≡ by_source n file wire → head_frame o task.head ≡ head_frame o head
            → (wire : Wire) × IsWire (frame_of task) wire × (wire.number ≡ p)
        by (Source head) tied is same = (
          wire_of o head.pad,
          IsWire.of_head (ap head_wire same),
          sym (tied.mine p (own ∙ sym (ap (λ (h : HeadFrame). number_of_head h) (sym same ∙ is)))),
        )
        by (Inlets head) tied is same = absurd (let clash = sym same ∙ is in cc)

    -- an element of it stands for what it took
    pub part_stands : (place : ℕ) (part : Part E O e) → slice_get task.parts.items place ≡ Some part → HasElement (frame_of task) part.number × e.stands part.element (behavior_at m part.number) (m.took part.number)
    part_stands place part at = (
      HasElement.part place (part_frame o part) (slice_get-map (part_frame o) task.parts.items place ∙ ap (option_map (part_frame o)) at) refl,
      (ties.parts_tied.each place part at).stood,
    )

-- a pad of an element that was made is there
pub pad_owned : (made : List Made) (p a : ℕ) → owner_in made p ≡ a → a < length made → length made ≤ limit → is_pad made p ≡ true
pad_owned made p a own within few = by (is_pad made p) refl own
  where
    by : (b : Bool) → is_pad made p ≡ b → (if b then owner_of p else limit) ≡ a → is_pad made p ≡ true
    by true is same = is
    by false is same = absurd (omega (arith, same, within, few))

-- ---- tasks that were set aside

module _ {S E I O L : Type 0} {s : sources.Ghosts S} {e : elements.Ghosts E} {i : inlets.Ghosts I L O} {o : outlets.Ghosts O L} (g g' : Edited) (m m' : Moment) where
  module _ (made : g'.made ≡ g.made) (owner : m'.plan.owner ≡ m.plan.owner) where
    -- no other element is gone
    pub aside_moves : ((a : ℕ) → is_there g' a ≡ is_there g a) → ((p : ℕ) → IsGonePad g m p → m'.history p ≡ m.history p)
        → ((a : ℕ) → a < length g.made → is_there g a ≡ false → m'.took a ≡ m.took a) → (removed : List (Task S E I O L s e i o)) → AreSetAside g m removed → AreSetAside g' m' removed
    aside_moves there crossed took removed w = record {
      counted = λ place task at. crossed_on m m' task (w.counted place task at) (λ wire is. crossed wire.number (w.gone wire.number (record { place = place; task = task; at = at; wire = wire; is = is; number = refl })));
      gone = λ p has. on p (w.gone p has);
      each = λ p gone. w.each p (back p gone);
      elements = λ a low gone none.
          w.elements a (subst (λ (ms : List Made). a < length ms) made low) (sym (there a) ∙ gone) (ap (λ (ms : List Made). has is_source ms a) (sym made) ∙ none);
      parts = λ part is.
          let z = w.parts part is in (
            subst (λ (ms : List Made). part.number < length ms) (sym made) z.0,
            there part.number ∙ z.1,
            (z.2.0, subst (λ (taken : List (List Call)). e.stands part.element z.2.0 taken) (sym (took part.number z.0 z.1)) z.2.1),
          );
    }
      where
        on : (p : ℕ) → IsGonePad g m p → IsGonePad g' m' p
        on p gone = (ap (λ (ms : List Made). is_pad ms p) made ∙ gone.0, ap (λ (f : ℕ → ℕ). is_there g' (f p)) owner ∙ there (m.plan.owner p) ∙ gone.1)

        back : (p : ℕ) → IsGonePad g' m' p → IsGonePad g m p
        back p gone = (ap (λ (ms : List Made). is_pad ms p) (sym made) ∙ gone.0, sym (there (m.plan.owner p)) ∙ ap (λ (f : ℕ → ℕ). is_there g' (f p)) (sym owner) ∙ gone.1)

-- an element is taken away with its task, and has no other one there
module _ {S E I O L : Type 0} {s : sources.Ghosts S} {e : elements.Ghosts E} {i : inlets.Ghosts I L O} {o : outlets.Ghosts O L} (g : Edited) (m m' : Moment) (n : ℕ) (there : is_there g n ≡ true) (within : n < length g.made)
    (few : length g.made ≤ limit) (fits : (p : ℕ) → m.plan.owner p ≡ owner_in g.made p) (owner : m'.plan.owner ≡ m.plan.owner) (history : m'.history ≡ m.history)
    (took : (a : ℕ) → a < length g.made → is_there (without_element n g) a ≡ false → m'.took a ≡ m.took a) (task : Task S E I O L s e i o) (ties : Ties task m) (own : HasElement (frame_of task) n) (only : IsOnly (frame_of task) n)
    (sources_are : (file : Option (Option (List ℕ))) (wire : Wire) → head_frame o task.head ≡ by_source n file wire → has is_source g.made n ≡ true) where
  gone_on : (a : ℕ) → is_there g a ≡ false → is_there (without_element n g) a ≡ false
  gone_on a gone = by (is_there (without_element n g) a) refl
    where
      by : (b : Bool) → is_there (without_element n g) a ≡ b → is_there (without_element n g) a ≡ false
      by true is = absurd (true≢false (sym (was_there g n a is).0 ∙ gone))
      by false is = is

  n_gone : is_there (without_element n g) n ≡ false
  n_gone = by (is_there (without_element n g) n) refl
    where
      by : (b : Bool) → is_there (without_element n g) n ≡ b → is_there (without_element n g) n ≡ false
      by true is = absurd ((was_there g n n is).1 refl)
      by false is = is

  gone_or : (a : ℕ) → is_there (without_element n g) a ≡ false → (a ≡ n) ⊎ (is_there g a ≡ false)
  gone_or a gone = by (cases_eq a n)
    where
      back : (b : Bool) → is_there g a ≡ b → (a ≡ n → ⊥) → is_there g a ≡ false
      back true is other = absurd (true≢false (sym (still_there g n a other is) ∙ gone))
      back false is other = is

      by : (a ≡ n) ⊎ (a ≡ n → ⊥) → (a ≡ n) ⊎ (is_there g a ≡ false)
      by (inl same) = inl same
      by (inr other) = inr (back (is_there g a) refl other)

  its_pad : (p : ℕ) → m.plan.owner p ≡ n → IsGonePad (without_element n g) m' p
  its_pad p own = (pad_owned g.made p n (sym (fits p) ∙ own) within few, ap (λ (f : ℕ → ℕ). is_there (without_element n g) (f p)) owner ∙ ap (is_there (without_element n g)) own ∙ n_gone)

  old_pad : (p : ℕ) → IsGonePad g m p → IsGonePad (without_element n g) m' p
  old_pad p gone = (gone.0, ap (λ (f : ℕ → ℕ). is_there (without_element n g) (f p)) owner ∙ gone_on (m.plan.owner p) gone.1)

  pub aside_more : (removed : List (Task S E I O L s e i o)) → AreSetAside g m removed → AreSetAside (without_element n g) m' (removed ++ task ∷ [])
  aside_more removed w = record { counted = counted; gone = gone; each = each; elements = elements_of; parts = parts }
    where
      one_behind : (j : ℕ) (t : Task S E I O L s e i o) → slice_get (task ∷ []) j ≡ Some t → task ≡ t
      one_behind zero t at = some_same at
      one_behind (suc j) t at = absurd cc

      counted : AreCounted m' (removed ++ task ∷ [])
      counted place t at = by (append_back removed (task ∷ []) place t at)
        where
          by : ((place < length removed) × (slice_get removed place ≡ Some t)) ⊎ ((j : ℕ) × (place ≡ length removed + j) × (slice_get (task ∷ []) j ≡ Some t)) → TaskCrossed m' t
          by (inl old) = crossed_on m m' t (w.counted place t old.1) (λ wire is. ap (λ (h : ℕ → List Item). h wire.number) history)
          by (inr new) = subst (λ (x : Task S E I O L s e i o). TaskCrossed m' x) (one_behind new.0 t new.2) (tied_crossed (λ part. Stands m part) nothing_lost m' m (sym history) task ties)

      gone : (p : ℕ) → HasPad (removed ++ task ∷ []) p → IsGonePad (without_element n g) m' p
      gone p pad = by (append_back removed (task ∷ []) pad.place pad.task pad.at)
        where
          by : ((pad.place < length removed) × (slice_get removed pad.place ≡ Some pad.task)) ⊎ ((j : ℕ) × (pad.place ≡ length removed + j) × (slice_get (task ∷ []) j ≡ Some pad.task)) → IsGonePad (without_element n g) m' p
          by (inl old) = old_pad p (w.gone p (record { place = pad.place; task = pad.task; at = old.1; wire = pad.wire; is = pad.is; number = pad.number }))
          by (inr new) =
              let is = subst (λ (x : Task S E I O L s e i o). IsWire (frame_of x) pad.wire) (sym (one_behind new.0 pad.task new.2)) pad.is in
              its_pad p (ap m.plan.owner (sym pad.number) ∙ only (m.plan.owner pad.wire.number) (wire_owner task m ties pad.wire is))

      each : (p : ℕ) → IsGonePad (without_element n g) m' p → HasPad (removed ++ task ∷ []) p
      each p gone = by (gone_or (m.plan.owner p) (ap (λ (f : ℕ → ℕ). is_there (without_element n g) (f p)) (sym owner) ∙ gone.1))
        where
          by : (m.plan.owner p ≡ n) ⊎ (is_there g (m.plan.owner p) ≡ false) → HasPad (removed ++ task ∷ []) p
          by (inl mine) =
              let z = element_wire task m ties n p own mine in
              record { place = length removed; task = task; at = get_last removed task; wire = z.0; is = z.1; number = z.2 }
          by (inr was) =
              let old = w.each p (gone.0, was) in
              record { place = old.place; task = old.task; at = append_first removed (task ∷ []) old.place old.task old.at; wire = old.wire; is = old.is; number = old.number }

      elements_of : (a : ℕ) → a < length g.made → is_there (without_element n g) a ≡ false → has is_source g.made a ≡ false → (part : Part E O e) × IsPartOf (removed ++ task ∷ []) part × (part.number ≡ a)
      elements_of a low away none = by (gone_or a away)
        where
          mine : HasElement (frame_of task) n → a ≡ n → (part : Part E O e) × IsPartOf (removed ++ task ∷ []) part × (part.number ≡ a)
          mine (HasElement.part place one is number) same =
              let part = map_got (part_frame o) task.parts.items place one is in (
                part.0,
                record { place = length removed; task = task; at = get_last removed task; within = place; is = part.1 },
                sym (ap (λ (f : PartFrame). f.number) part.2) ∙ number ∙ sym same,
              )
          mine (HasElement.source file wire is) same = absurd (true≢false (sym (sources_are file wire is) ∙ ap (has is_source g.made) (sym same) ∙ none))

          by : (a ≡ n) ⊎ (is_there g a ≡ false) → (part : Part E O e) × IsPartOf (removed ++ task ∷ []) part × (part.number ≡ a)
          by (inl same) = mine own same
          by (inr was) =
              let old = w.elements a low was none in
              let is = old.1 in
              (old.0, record { place = is.place; task = is.task; at = append_first removed (task ∷ []) is.place is.task is.at; within = is.within; is = is.is }, old.2)

      parts : (part : Part E O e) → IsPartOf (removed ++ task ∷ []) part
          → (part.number < length (without_element n g).made) × (is_there (without_element n g) part.number ≡ false) × ((behavior : Behavior) × e.stands part.element behavior (m'.took part.number))
      parts part is = by (append_back removed (task ∷ []) is.place is.task is.at)
        where
          stands_on : (behavior : Behavior) → part.number < length g.made → is_there (without_element n g) part.number ≡ false → e.stands part.element behavior (m.took part.number)
              → (part.number < length g.made) × (is_there (without_element n g) part.number ≡ false) × ((behavior : Behavior) × e.stands part.element behavior (m'.took part.number))
          stands_on behavior low away stood = (low, away, (behavior, subst (λ (taken : List (List Call)). e.stands part.element behavior taken) (sym (took part.number low away)) stood))

          by : ((is.place < length removed) × (slice_get removed is.place ≡ Some is.task)) ⊎ ((j : ℕ) × (is.place ≡ length removed + j) × (slice_get (task ∷ []) j ≡ Some is.task))
              → (part.number < length g.made) × (is_there (without_element n g) part.number ≡ false) × ((behavior : Behavior) × e.stands part.element behavior (m'.took part.number))
          by (inl old) =
              let z = w.parts part (record { place = is.place; task = is.task; at = old.1; within = is.within; is = is.is }) in
              stands_on z.2.0 z.0 (gone_on part.number z.1) z.2.1
          by (inr new) =
              let here = subst (λ (x : Task S E I O L s e i o). slice_get x.parts.items is.within ≡ Some part) (sym (one_behind new.0 is.task new.2)) is.is in
              let z = part_stands task m ties is.within part here in
              let number : part.number ≡ n = only part.number z.0 in
              stands_on (behavior_at m part.number) (subst (λ (k : ℕ). k < length g.made) (sym number) within) (ap (is_there (without_element n g)) number ∙ n_gone) z.1
