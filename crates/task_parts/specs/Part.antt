-- What becomes of an element of a task and of its source pads.
use Rattle.std.specs.Prelude.{◌≡◌, ◌+◌, ℕ, List, [], ◌∷◌, ◌++◌, Option, Some, slice_get, slice_set}
use Rattle.gst_item.specs.declared.out.Out.{Out}
use Rattle.flow_model.specs.Item.{Item}
use Rattle.flow_model.specs.Call.{Call, Feed}
use Rattle.lane_core.specs.Lane.{Lane}
use Rattle.lane_core.specs.declared.ends.Outlet as outlets
use Rattle.flow_model.specs.Moment.{Behavior}
use Rattle.flow_model.specs.SinkPads.{push_calls}
use Rattle.flow_model.specs.declared.element.TaskElement as elements
use Rattle.flow_model.specs.declared.refusal.Refusal.{Refusal}
use Rattle.flow_model.specs.Failures.{IsWriteCause}
use Rattle.flow_model.specs.Refuses.{RefusesBy}
use Rattle.flow_model.specs.Takes.{OwesMore, on_port}
use Rattle.pad_core.specs.declared.probe.Probe.{Probe}
use Rattle.task_pads.specs.declared.pad.Behind.{Behind}
use Rattle.task_pads.specs.declared.pad.Pad.{Pad}
use Rattle.task_pads.specs.declared.crossing.Crossing.{Crossing}
use Rattle.task_pads.specs.Behind.{place_in}
use Rattle.task_pads.specs.Pads.{IsLed, IsProbed, PadReady, pad_shape, rest_of, waiting_of, CanTakeBack, HasCrossed, KeepsTable, crossed_count, end_of, probe_of}
use Rattle.task_pads.specs.Put.{IsTaken}
use Rattle.task_pads.specs.Crossing.{IsCrossing}
use Rattle.task_parts.specs.declared.part.Part.{Part}
use Rattle.task_parts.specs.Gathered.{AreFilled, linked_else}
use Rattle.gst_outside.specs.Causes.{NeverFalls}

module _ {E O : Type 0} {e : elements.Ghosts E} where
  -- what waits at the pad of a port: what is there, and what was put out for it and is to go there
  abbrev pub waits_at : Part E O e → ℕ → Pad O → List Item
  waits_at part port pad = waiting_of pad ++ on_port port part.out

  -- The pad of a port, with more that waits there.
  pub record PadGrew (old new : Part E O e) (more : List Out) (port : ℕ) (pad : Pad O) : Type 0 where
    pub was : Pad O
    pub at : slice_get old.pads.items port ≡ Some was
    pub rest : rest_of pad ≡ rest_of was
    pub waits : waits_at new port pad ≡ waits_at old port was ++ on_port port more

  -- so it is at each pad
  abbrev pub PadsGrew : Part E O e → Part E O e → List Out → Type 0
  PadsGrew old new more = (port : ℕ) (pad : Pad O) → slice_get new.pads.items port ≡ Some pad → PadGrew old new more port pad

  -- What was put out went to the pads, as far as there was memory.
  pub record PartSettled (old new : Part E O e) : Type 0 where
    pub number : new.number ≡ old.number
    pub element : new.element ≡ old.element
    pub pads : PadsGrew old new []

  -- where nothing waits at one of its pads, nothing is to go there
  abbrev pub IsSettled : Part E O e → Type 0
  IsSettled part = AreFilled part.pads.items part.out

  -- The element took an item on a sink pad, and what it put out waits at its pads.
  pub record PartFed (old new : Part E O e) (pad : ℕ) (item : Item) : Type 0 where
    pub number : new.number ≡ old.number
    pub more : List Out
    pub stands_now : (behavior : Behavior) (took : List (List Call)) → e.stands old.element behavior took
        → e.stands new.element behavior (push_calls pad (Feed item ∷ []) took)
    pub owes : (behavior : Behavior) (took : List (List Call)) → e.stands old.element behavior took
        → OwesMore (e.ports old.element) behavior.owes took (push_calls pad (Feed item ∷ []) took) more
    pub pads : PadsGrew old new more
    pub never_falls : NeverFalls (e.failures old.element) (e.failures new.element)
    pub file : e.file new.element ≡ e.file old.element

  -- It refused the item, and nothing else changed.
  pub record PartFell (old new : Part E O e) (pad : ℕ) (item : Item) (refusal : Refusal) : Type 0 where
    pub number : new.number ≡ old.number
    pub pads : new.pads ≡ old.pads
    pub out : new.out ≡ old.out
    pub fell : (behavior : Behavior) (took : List (List Call)) → e.stands old.element behavior took → e.fell new.element behavior took pad item
    pub refused : (behavior : Behavior) (took : List (List Call)) → e.stands old.element behavior took → RefusesBy behavior took pad item refusal
    pub cause : IsWriteCause (e.failures old.element) (e.failures new.element) refusal
    pub never_falls : NeverFalls (e.failures old.element) (e.failures new.element)
    pub file : e.file new.element ≡ e.file old.element

  -- One of its pads is another now.
  pub record PadSet (old new : Part E O e) (port : ℕ) (was is : Pad O) : Type 0 where
    pub number : new.number ≡ old.number
    pub element : new.element ≡ old.element
    pub out : new.out ≡ old.out
    pub at : slice_get old.pads.items port ≡ Some was
    pub set : new.pads.items ≡ slice_set old.pads.items port is
    pub shape : pad_shape is ≡ pad_shape was

  -- The oldest item that waits at the pad of a port was taken from it.
  pub record PartGave (old new : Part E O e) (port : ℕ) (item : Option Item) : Type 0 where
    pub was : Pad O
    pub is : Pad O
    pub pad : PadSet old new port was is
    pub rest : rest_of is ≡ rest_of was
    pub taken : IsTaken was is item

  -- the last crossing of the pad of a port can be taken back
  abbrev pub CanTakeBackAt : Part E O e → ℕ → Type 0
  CanTakeBackAt part port = (pad : Pad O) → slice_get part.pads.items port ≡ Some pad → CanTakeBack pad

  -- It was taken back.
  pub record PartTookBack (old new : Part E O e) (port : ℕ) : Type 0 where
    pub was : Pad O
    pub is : Pad O
    pub pad : PadSet old new port was is
    pub history : (h : List Item) (x : Item) → HasCrossed was (h ++ x ∷ []) → HasCrossed is h
    pub counted : crossed_count is + 1 ≡ crossed_count was
    pub probe : probe_of is ≡ probe_of was
    pub waiting : waiting_of is ≡ waiting_of was
    pub behind : (rest_of is).behind ≡ (rest_of was).behind

  -- The probe of the pad of a port is this one now.
  pub record PartProbed (old new : Part E O e) (port : ℕ) (probe : Option Probe) : Type 0 where
    pub was : Pad O
    pub is : Pad O
    pub pad : PadSet old new port was is
    pub probed : IsProbed was is probe

  -- The pad of a port leads elsewhere now; where it led was given back.
  pub record PartLed (old new : Part E O e) (port : ℕ) (behind back : Behind O) : Type 0 where
    pub number : new.number ≡ old.number
    pub element : new.element ≡ old.element
    pub out : new.out ≡ old.out
    pub was : Pad O
    pub is : Pad O
    pub at : slice_get old.pads.items port ≡ Some was
    pub set : new.pads.items ≡ slice_set old.pads.items port is
    pub led : IsLed was is behind
    pub gave : back ≡ (rest_of was).behind

module _ {E O L : Type 0} {e : elements.Ghosts E} (o : outlets.Ghosts O L) where
  -- the lanes of its pads are of the table
  abbrev pub PartReady : Option (List Lane) → Part E O e → Type 0
  PartReady tells part = (port : ℕ) (pad : Pad O) → slice_get part.pads.items port ≡ Some pad → PadReady o tells pad

  -- The oldest item that waits at the pad of a port crossed it, or could not.
  pub record PartCrossed (old new : Part E O e) (port : ℕ) (tells tells' : Option (List Lane)) (crossing : Crossing) : Type 0 where
    pub was : Pad O
    pub is : Pad O
    pub pad : PadSet old new port was is
    pub crossed : IsCrossing o was is tells tells' (linked_else port old.pads.items) crossing
    pub probe : probe_of is ≡ probe_of was
    pub table : KeepsTable (place_in (end_of o was)) tells tells'
    pub ready : PadReady o tells' is
