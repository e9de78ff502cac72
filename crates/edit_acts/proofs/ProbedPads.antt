-- A pad of a task has another probe: but for that the frames are the same, so control has the run, and the elements keep their files.
use Rattle.std.proofs.Common.{◌≡◌, ◌⊎◌, ℕ, List, Option, None, Some, map, refl, sym, ap, ◌∙◌, subst, inl, inr}
use Rattle.std.specs.Prelude.{slice_get, slice_set}
use Rattle.std.proofs.lemmas.Bool.{cases_eq}
use Rattle.lane_core.specs.Lane.{Lane}
use Rattle.lane_core.specs.declared.ends.Inlet as inlets
use Rattle.lane_core.specs.declared.ends.Outlet as outlets
use Rattle.flow_model.specs.Moment.{Moment}
use Rattle.flow_model.specs.declared.element.TaskElement as elements
use Rattle.flow_model.specs.declared.source.TaskSource as sources
use Rattle.pad_core.specs.declared.probe.Probe.{Probe}
use Rattle.inlet_row.specs.declared.row.InletRow.{InletRow}
use Rattle.task_pads.specs.Behind.{end_in, goes}
use Rattle.task_pads.specs.Pads.{IsProbed as IsPadProbed, PadShape, number_of, rest_of}
use Rattle.task_pads.specs.declared.pad.Behind.{Behind}
use Rattle.task_pads.specs.declared.pad.Pad.{Pad}
use Rattle.task_pads.proofs.Lists.{map_set, set_there}
use Rattle.task_parts.specs.declared.head.Head.{Head}
use Rattle.task_parts.specs.declared.head.Head.TheVariants.{Inlets}
use Rattle.task_parts.specs.declared.head.InletHead.{InletHead}
use Rattle.task_parts.specs.declared.part.Part.{Part}
use Rattle.task_parts.proofs.Lists.{map_back, map_over}
use Rattle.gst_value.proofs.Basics.{some_same}
use Rattle.gst_value.proofs.Places.{set_at}
use Rattle.net_task.specs.declared.task.Task.{Task}
use Rattle.net_task.specs.Frame.{HeadFrame, IsWire, PartFrame, TaskFrame, Wire, by_inlets, by_source, frame_in, frame_of, head_frame, head_wire, part_frame, room_in, wire_of}
use Rattle.net_turns.specs.Net.{HasElement, HasRow, IsFed, NetStands, Owns}
use Rattle.task_edits.specs.Changes.{Changed, PadIn, PadIs, ProbedBy}
use Rattle.net_edits.specs.Nets.{IsProbedAt}
use Rattle.graph_edits.specs.declared.graph.EditedGraph.{EditedGraph}
use Rattle.graph_edits.specs.Edited.{Edited}
use Rattle.edit_core.specs.Tasks.{AreTasksOf, IsReachedIn, LeadsOn, number_of_head}
use Rattle.edit_core.specs.Ways.{IsRun}
use Rattle.edit_core.specs.declared.feeds.Feeds.{Feeds}
use Rattle.edit_acts.specs.Controlled.{IsControlled}
use Rattle.edit_acts.specs.Probed.{ProbesKeepControl, ProbesKeepFiles}
use Rattle.edit_acts.proofs.Asleep.{bare_of}
use Rattle.edit_acts.proofs.Cut.{fed_back}
use Rattle.edit_acts.proofs.Files.{changed_files}
use Rattle.edit_acts.proofs.Owned.{fresh}

-- ---- frames without their probes

abbrev unprobed : Wire → Wire
unprobed wire = record { number = wire.number; leads = wire.leads; room = wire.room; probe = None }

abbrev unprobed_part : PartFrame → PartFrame
unprobed_part one = record { number = one.number; file = one.file; wires = map unprobed one.wires }

abbrev unprobed_head : HeadFrame → HeadFrame
unprobed_head (by_source n file wire) = by_source n file (unprobed wire)
unprobed_head (by_inlets n rows) = by_inlets n rows

abbrev unprobed_frame : TaskFrame → TaskFrame
unprobed_frame frame = record { head = unprobed_head frame.head; parts = map unprobed_part frame.parts }

number_stays : (head : HeadFrame) → number_of_head (unprobed_head head) ≡ number_of_head head
number_stays (by_source n file wire) = refl
number_stays (by_inlets n rows) = refl

-- a source has the same number and file, and its pad leads as it did
source_with : (head : HeadFrame) (n : ℕ) (file : Option (Option (List ℕ))) (wire : Wire) → unprobed_head head ≡ by_source n file wire → (w : Wire) × (head ≡ by_source n file w) × (wire ≡ unprobed w)
source_with (by_source k f w) n file wire same =
    let number : k ≡ n = cc in
    let read : f ≡ file = cc in
    let leads : wire ≡ unprobed w = cc in
    (w, ap (λ (x : ℕ). by_source x f w) number ∙ ap (λ (x : Option (Option (List ℕ))). by_source n x w) read, leads)
source_with (by_inlets k rows) n file wire same = absurd cc

wire_with : (one other : HeadFrame) → unprobed_head one ≡ unprobed_head other → (wire : Wire) → head_wire one ≡ Some wire → (w : Wire) × (head_wire other ≡ Some w) × (unprobed wire ≡ unprobed w)
wire_with (by_source n f v) other same wire at =
    let z = source_with other n f (unprobed v) (sym same) in
    (z.0, ap (λ (h : HeadFrame). head_wire h) z.1, ap (λ (x : Wire). unprobed x) (sym (some_same at)) ∙ z.2)
wire_with (by_inlets n rows) other same wire at = absurd cc

-- What one frame has, another has that is the same but for probes.
module _ (one other : TaskFrame) (same : unprobed_frame one ≡ unprobed_frame other) where
  heads : unprobed_head one.head ≡ unprobed_head other.head
  heads = ap (λ (f : TaskFrame). f.head) same

  part_there : (k : ℕ) (part : PartFrame) → slice_get one.parts k ≡ Some part → (p : PartFrame) × (slice_get other.parts k ≡ Some p) × (unprobed_part part ≡ unprobed_part p)
  part_there k part at = map_back unprobed_part other.parts one.parts (ap (λ (f : TaskFrame). f.parts) same) k part at

  wire_in : (part p : PartFrame) → unprobed_part part ≡ unprobed_part p → (k : ℕ) (wire : Wire) → slice_get part.wires k ≡ Some wire → (w : Wire) × (slice_get p.wires k ≡ Some w) × (unprobed wire ≡ unprobed w)
  wire_in part p alike k wire at = map_back unprobed p.wires part.wires (ap (λ (f : PartFrame). f.wires) alike) k wire at

  source_there : (n : ℕ) (file : Option (Option (List ℕ))) (wire : Wire) → one.head ≡ by_source n file wire → (w : Wire) × (other.head ≡ by_source n file w) × (unprobed wire ≡ unprobed w)
  source_there n file wire is = source_with other.head n file (unprobed wire) (sym heads ∙ ap (λ (h : HeadFrame). unprobed_head h) is)

  has_there : (n : ℕ) → HasElement one n → HasElement other n
  has_there n (HasElement.part k part at number) = let z = part_there k part at in HasElement.part k z.0 z.1 (ap (λ (f : PartFrame). f.number) (sym z.2) ∙ number)
  has_there n (HasElement.source file wire is) = let z = source_there n file wire is in HasElement.source file z.0 z.1

  wire_there : (wire : Wire) → IsWire one wire → (w : Wire) × IsWire other w × (unprobed wire ≡ unprobed w)
  wire_there wire (IsWire.of_part j k x) =
      let z = part_there j x.part x.at in
      let y = wire_in x.part z.0 z.2 k wire x.pad_at in
      (y.0, IsWire.of_part j k (record { part = z.0; at = z.1; pad_at = y.1 }), y.2)
  wire_there wire (IsWire.of_head is) = let z = wire_with one.head other.head heads wire is in (z.0, IsWire.of_head z.1, z.2)

  leads_there : (a b : ℕ) → LeadsOn one a b → LeadsOn other a b
  leads_there a b (LeadsOn.of_source port file wire is to) = let z = source_there a file wire is in LeadsOn.of_source port file z.0 z.1 (ap (λ (w : Wire). w.leads) (sym z.2) ∙ to)
  leads_there a b (LeadsOn.of_part j k port part wire at wire_at number to) =
      let z = part_there j part at in
      let y = wire_in part z.0 z.2 k wire wire_at in
      LeadsOn.of_part j k port z.0 y.0 z.1 y.1 (ap (λ (f : PartFrame). f.number) (sym z.2) ∙ number) (ap (λ (w : Wire). w.leads) (sym y.2) ∙ to)

  heads_number : number_of_head other.head ≡ number_of_head one.head
  heads_number = sym (number_stays other.head) ∙ ap (λ (h : HeadFrame). number_of_head h) (sym heads) ∙ number_stays one.head

  reached_there : (n : ℕ) → IsReachedIn one n → IsReachedIn other n
  reached_there n IsReachedIn.head = subst (IsReachedIn other) heads_number IsReachedIn.head
  reached_there n (IsReachedIn.next a b reached leads) = IsReachedIn.next a b (reached_there a reached) (leads_there a b leads)

-- ---- a task with another probe

-- one thing of a list is another, of which the same is made
set_twice : {A B C : Type 0} (f : B → C) (g : A → B) (xs : List A) (k : ℕ) (x y : A) → slice_get xs k ≡ Some x → f (g y) ≡ f (g x) → map f (map g (slice_set xs k y)) ≡ map f (map g xs)
set_twice {A = A} f g xs k x y at same = sym (twice (slice_set xs k y)) ∙ map_set (λ (z : A). f (g z)) xs k x y at same ∙ twice xs
  where
    twice : (zs : List A) → map (λ (z : A). f (g z)) zs ≡ map f (map g zs)
    twice zs = map_over f g (λ (z : A). f (g z)) (λ z. refl) zs

abbrev wire_by : {O L : Type 0} → outlets.Ghosts O L → ℕ → Behind O → Wire
wire_by o n behind = record { number = n; leads = goes behind; room = room_in (end_in o behind); probe = None }

abbrev wires_by : {O L : Type 0} → outlets.Ghosts O L → List (Pad O) → List Wire
wires_by o pads = map unprobed (map (wire_of o) pads)

abbrev part_by : ℕ → Option (Option (List ℕ)) → List Wire → PartFrame
part_by n file wires = record { number = n; file = file; wires = wires }

abbrev frame_by : HeadFrame → List PartFrame → TaskFrame
frame_by head parts = record { head = head; parts = parts }

pad_same : {O L : Type 0} (o : outlets.Ghosts O L) (was is : Pad O) (probe : Option Probe) → IsPadProbed was is probe → unprobed (wire_of o is) ≡ unprobed (wire_of o was)
pad_same {O = O} o was is probe p =
    ap (λ (n : ℕ). wire_by o n (rest_of is).behind) (ap (λ (z : PadShape). z.number) p.shape)
    ∙ ap (λ (b : Behind O). wire_by o (number_of was) b) p.behind

part_same : {E O L : Type 0} {e : elements.Ghosts E} (o : outlets.Ghosts O L) (old new : Part E O e) (port : ℕ) (was is : Pad O) (probe : Option Probe) → PadIn old new port was is → IsPadProbed was is probe
    → unprobed_part (part_frame o new) ≡ unprobed_part (part_frame o old)
part_same {E = E} {O = O} {e = e} o old new port was is probe pad by =
    ap (λ (n : ℕ). part_by n (e.file new.element) (wires_by o new.pads.items)) pad.number
    ∙ ap (λ (x : E). part_by old.number (e.file x) (wires_by o new.pads.items)) pad.element
    ∙ ap (λ (ps : List (Pad O)). part_by old.number (e.file old.element) (wires_by o ps)) pad.set
    ∙ ap (λ (ws : List Wire). part_by old.number (e.file old.element) ws) (set_twice unprobed (wire_of o) old.pads.items port was is pad.at (pad_same o was is probe by))

module _ {S E I O L : Type 0} {s : sources.Ghosts S} {e : elements.Ghosts E} (o : outlets.Ghosts O L) (head head' : Head S I O s) (parts parts' : List (Part E O e)) where
  frames_same : unprobed_head (head_frame o head') ≡ unprobed_head (head_frame o head) → map unprobed_part (map (part_frame o) parts') ≡ map unprobed_part (map (part_frame o) parts)
      → unprobed_frame (frame_in o head' parts') ≡ unprobed_frame (frame_in o head parts)
  frames_same heads_are parts_are =
      ap (λ (h : HeadFrame). frame_by h (map unprobed_part (map (part_frame o) parts'))) heads_are
      ∙ ap (λ (ps : List PartFrame). frame_by (unprobed_head (head_frame o head)) ps) parts_are

  head_stays : head' ≡ head → unprobed_head (head_frame o head') ≡ unprobed_head (head_frame o head)
  head_stays same = ap (λ (h : Head S I O s). unprobed_head (head_frame o h)) same

  parts_stay : parts' ≡ parts → map unprobed_part (map (part_frame o) parts') ≡ map unprobed_part (map (part_frame o) parts)
  parts_stay same = ap (λ (ps : List (Part E O e)). map unprobed_part (map (part_frame o) ps)) same

  pad_frames : (was is : Pad O) (probe : Option Probe) → PadIs head parts head' parts' was is → IsPadProbed was is probe → unprobed_frame (frame_in o head' parts') ≡ unprobed_frame (frame_in o head parts)
  pad_frames was is probe (PadIs.of_source old new here here' old_pad new_pad source stays) by = frames_same heads_are (parts_stay stays)
    where
      pads_are : unprobed (wire_of o new.pad) ≡ unprobed (wire_of o old.pad)
      pads_are = ap (λ (q : Pad O). unprobed (wire_of o q)) new_pad ∙ pad_same o was is probe by ∙ ap (λ (q : Pad O). unprobed (wire_of o q)) (sym old_pad)

      heads_are : unprobed_head (head_frame o head') ≡ unprobed_head (head_frame o head)
      heads_are =
          ap (λ (h : Head S I O s). unprobed_head (head_frame o h)) here'
          ∙ ap (λ (n : ℕ). by_source n (s.file new.source) (unprobed (wire_of o new.pad))) source.number
          ∙ ap (λ (x : S). by_source old.number (s.file x) (unprobed (wire_of o new.pad))) source.source
          ∙ ap (λ (w : Wire). by_source old.number (s.file old.source) w) pads_are
          ∙ ap (λ (h : Head S I O s). unprobed_head (head_frame o h)) (sym here)
  pad_frames was is probe (PadIs.of_part place port old new at set pad stays) by =
      frames_same (head_stays stays)
      (ap (λ (ps : List (Part E O e)). map unprobed_part (map (part_frame o) ps)) set ∙ set_twice unprobed_part (part_frame o) parts place old new at (part_same o old new port was is probe pad by))

  probed_frames : (pad : ℕ) (probe : Option Probe) (Kept : Type 0) → Changed (ProbedBy probe) Kept pad head parts head' parts' → unprobed_frame (frame_in o head' parts') ≡ unprobed_frame (frame_in o head parts)
  probed_frames pad probe Kept (inl (was, is, number, by, changed)) = pad_frames was is probe changed by
  probed_frames pad probe Kept (inr (none, heads_are, parts_are, kept)) = frames_same (head_stays heads_are) (parts_stay parts_are)

-- ---- tasks of which one has another probe

module _ {S E I O L : Type 0} {s : sources.Ghosts S} {e : elements.Ghosts E} {i : inlets.Ghosts I L O} {o : outlets.Ghosts O L} where
  -- a task is another but for probes, fed as it is
  record IsAlike (one other : Task S E I O L s e i o) : Type 0 where
    frame : unprobed_frame (frame_of one) ≡ unprobed_frame (frame_of other)
    fed : (head : InletHead I) → one.head ≡ Inlets head → other.head ≡ Inlets head

  -- such a one stands at a place
  record AlikeAt (tasks : List (Task S E I O L s e i o)) (k : ℕ) (one : Task S E I O L s e i o) : Type 0 where
    other : Task S E I O L s e i o
    at : slice_get tasks k ≡ Some other
    alike : IsAlike one other

  -- so it is with each task
  record AreAlike (tasks tasks' : List (Task S E I O L s e i o)) : Type 0 where
    each : (k : ℕ) (one : Task S E I O L s e i o) → slice_get tasks k ≡ Some one → AlikeAt tasks' k one

  -- where one task is such a one, and no other changed
  one_alike : (tasks tasks' : List (Task S E I O L s e i o)) (place : ℕ) (one other : Task S E I O L s e i o) → slice_get tasks place ≡ Some one → slice_get tasks' place ≡ Some other
      → ((k : ℕ) → (k ≡ place → ⊥) → slice_get tasks' k ≡ slice_get tasks k) → IsAlike one other → AreAlike tasks tasks'
  one_alike tasks tasks' place one other at at' others alike = record { each = λ k task got. go k task got (cases_eq k place) }
    where
      go : (k : ℕ) (task : Task S E I O L s e i o) → slice_get tasks k ≡ Some task → (k ≡ place) ⊎ (k ≡ place → ⊥) → AlikeAt tasks' k task
      go k task got (inl same) =
          let it : one ≡ task = some_same (sym at ∙ ap (λ (n : ℕ). slice_get tasks n) (sym same) ∙ got) in
          record { other = other; at = ap (λ (n : ℕ). slice_get tasks' n) same ∙ at'; alike = subst (λ (t : Task S E I O L s e i o). IsAlike t other) it alike }
      go k task got (inr elsewhere) = record { other = task; at = others k elsewhere ∙ got; alike = record { frame = refl; fed = λ head is. is } }

  probed_alike : (tasks tasks' : List (Task S E I O L s e i o)) (place pad : ℕ) (probe : Option Probe) → IsProbedAt tasks tasks' place pad probe → AreAlike tasks tasks' × AreAlike tasks' tasks
  probed_alike tasks tasks' place pad probe p = (
    one_alike tasks tasks' place p.was p.is p.at at_is others (record { frame = sym frame; fed = λ head. (fed head).1 }),
    one_alike tasks' tasks place p.is p.was at_is p.at (λ k elsewhere. sym (others k elsewhere)) (record { frame = frame; fed = λ head. (fed head).0 }),
  )
    where
      at_is : slice_get tasks' place ≡ Some p.is
      at_is = ap (λ (ts : List (Task S E I O L s e i o)). slice_get ts place) p.set ∙ set_at tasks place p.was p.is p.at

      others : (k : ℕ) → (k ≡ place → ⊥) → slice_get tasks' k ≡ slice_get tasks k
      others k elsewhere = ap (λ (ts : List (Task S E I O L s e i o)). slice_get ts k) p.set ∙ set_there tasks place k p.is elsewhere

      frame : unprobed_frame (frame_of p.is) ≡ unprobed_frame (frame_of p.was)
      frame = probed_frames o p.was.head p.is.head p.was.parts.items p.is.parts.items pad probe (Unit {0}) p.changed

      fed : (head : InletHead I) → (p.is.head ≡ Inlets head → p.was.head ≡ Inlets head) × (p.was.head ≡ Inlets head → p.is.head ≡ Inlets head)
      fed head = fed_back pad p.was.head p.is.head p.was.parts.items p.is.parts.items (ProbedBy probe) (Unit {0}) p.changed head

  module _ (tasks tasks' : List (Task S E I O L s e i o)) (alike : AreAlike tasks tasks') where
    owns_alike : (k n : ℕ) → Owns tasks k n → Owns tasks' k n
    owns_alike k n own = let y = alike.each k own.task own.at in record { task = y.other; at = y.at; has = has_there (frame_of own.task) (frame_of y.other) y.alike.frame n own.has }

    fed_alike : (k : ℕ) (head : InletHead I) → IsFed tasks k head → IsFed tasks' k head
    fed_alike k head fed = let y = alike.each k fed.task fed.at in record { task = y.other; at = y.at; head_is = y.alike.fed head fed.head_is }

    row_alike : (k n port : ℕ) (row : InletRow I) → HasRow tasks k n port row → HasRow tasks' k n port row
    row_alike k n port row has = record { head = has.head; fed = fed_alike k has.head has.fed; number = has.number; at = has.at }

  -- the tasks have the elements of the graph
  alike_are : (g : Edited) (was is : List (Task S E I O L s e i o)) → AreAlike was is → AreAlike is was → AreTasksOf g was → AreTasksOf g is
  alike_are g was is on back are = record {
    there = λ k n own. are.there k n (owns_alike is was back k n own);
    awake = λ k n own. are.awake k n (owns_alike is was back k n own);
    owned = λ n there awake. let z = are.owned n there awake in (z.0, owns_alike was is on z.0 n z.1);
    fed = λ n there has. let z = are.fed n there has in (z.0, z.1, fed_alike was is on z.0 z.1 z.2, z.3);
    inner = λ k task wire n port at is_wire leads.
        let y = back.each k task at in
        let w = wire_there (frame_of task) (frame_of y.other) y.alike.frame wire is_wire in
        are.inner k y.other w.0 n port y.at w.1 (ap (λ (x : Wire). x.leads) (sym w.2) ∙ leads);
    lanes = λ k task wire lane n port from at is_wire leads.
        let y = back.each k task at in
        let w = wire_there (frame_of task) (frame_of y.other) y.alike.frame wire is_wire in
        are.lanes k y.other w.0 lane n port from y.at w.1 (ap (λ (x : Wire). x.leads) (sym w.2) ∙ leads);
    sources = λ k task n file wire at head.
        let y = back.each k task at in
        let w = source_there (frame_of task) (frame_of y.other) y.alike.frame n file wire head in
        are.sources k y.other n file w.0 y.at w.1;
    bare = λ k n port row has none. are.bare k n port row (row_alike is was back k n port row has) none;
    reached = λ k task n at has.
        let y = back.each k task at in
        reached_there (frame_of y.other) (frame_of task) (sym y.alike.frame) n (are.reached k y.other n y.at (has_there (frame_of task) (frame_of y.other) y.alike.frame n has));
  }

  -- and control has the run
  alike_controlled : (graph : EditedGraph) (feeds : Feeds) (was is : List (Task S E I O L s e i o)) (g : Edited) (m : Moment) (tells : Option (List Lane)) → IsControlled graph feeds was g m tells → AreTasksOf g is → NetStands m is tells
      → IsControlled graph feeds is g m tells
  alike_controlled graph feeds was is g m tells w are net = record {
    current = record {
      edited = w.current.edited;
      feeds_are = w.current.feeds_are;
      net = net;
      fresh = fresh g m is tells run w.pads (bare_of graph feeds was g m tells w);
      kept = w.current.kept;
      stand = w.current.stand;
      made = w.current.made;
      ends = w.current.ends;
      named = w.current.named;
    };
    run = run;
    pads = w.pads;
    sinks = w.sinks;
  }
    where
      run : IsRun g m is tells
      run = record { net = net; are = are; sinks = w.run.sinks; owners = w.run.owners; kept = w.run.kept; links = w.run.links; made = w.run.made; unmarked = w.run.unmarked }

-- ---- the laws

pub probes_keep_control : {S E I O L : Type 0} (s : sources.Ghosts S) (e : elements.Ghosts E) (i : inlets.Ghosts I L O) (o : outlets.Ghosts O L) → ProbesKeepControl s e i o
probes_keep_control s e i o graph feeds was is g m tells pad probe w (place, has, p) net =
    let both = probed_alike was is place pad probe p in
    alike_controlled graph feeds was is g m tells w (alike_are g was is both.0 both.1 w.run.are) net

pub probes_keep_files : {S E I O L : Type 0} (s : sources.Ghosts S) (e : elements.Ghosts E) (i : inlets.Ghosts I L O) (o : outlets.Ghosts O L) → ProbesKeepFiles s e i o
probes_keep_files s e i o was is pad probe (place, has, p) = changed_files (ProbedBy probe) (Unit {0}) was is place pad p.was p.is p.at p.set p.changed
