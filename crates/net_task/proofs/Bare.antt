-- What is told of the elements of a task whatever waits at their pads.
use Rattle.std.proofs.Common.{◌≡◌, ℕ, List, [], length, map, Option, refl, sym, ap, ◌∙◌, subst}
use Rattle.std.proofs.lemmas.List.{length-map}
use Rattle.std.specs.Prelude.{slice_get, sum_by, ◌-◌}
use Rattle.lane_core.specs.Lane.{Lane}
use Rattle.lane_core.specs.declared.ends.Outlet as outlets
use Rattle.pad_core.specs.SrcPad.{crossed_of, state_of}
use Rattle.flow_model.specs.declared.element.TaskElement as elements
use Rattle.flow_model.specs.declared.refusal.Refusal.{Refusal}
use Rattle.flow_model.specs.Item.{Item}
use Rattle.task_pads.specs.declared.pad.Pad.{Pad}
use Rattle.task_pads.specs.Behind.{EndReady, end_in, goes}
use Rattle.task_pads.specs.Pads.{PadShape, Rest, pad_shape, rest_of}
use Rattle.task_parts.specs.declared.part.Part.{Part}
use Rattle.task_parts.specs.Moved.{HandedOn, PartSet}
use Rattle.task_parts.specs.Part.{PadSet, PadsGrew, PartFed, PartFell, PartSettled}
use Rattle.task_parts.specs.Shape.{PartShape, part_shape}
use Rattle.net_task.specs.Frame.{PartFrame, Wire, part_frame, room_in, wire_of}
use Rattle.net_task.specs.Fuel.{pad_left, part_left}
use Rattle.net_task.specs.Ready.{PartsReady}
use Rattle.task_pads.proofs.Lists.{map_set}
use Rattle.task_parts.proofs.Lists.{map_back, map_over}
use Rattle.net_task.proofs.Places.{map_each, sum_over}
use Rattle.net_task.proofs.Handing.{shape_at}
use Rattle.gst_value.proofs.Places.{set_at}

-- An element, and all of its pads but what waits there.
pub record Bare (O : Type 0) : Type 0 where
  pub number : ℕ
  pub file : Option (Option (List ℕ))
  pub rests : List (Rest O)

abbrev pub bare_by : {O : Type 0} → ℕ → Option (Option (List ℕ)) → List (Rest O) → Bare O
bare_by number file rests = record { number = number; file = file; rests = rests }

abbrev pub bare : {E O : Type 0} {e : elements.Ghosts E} → Part E O e → Bare O
bare {e = e} part = bare_by part.number (e.file part.element) (map rest_of part.pads.items)

abbrev pub wire_in : {O L : Type 0} → outlets.Ghosts O L → Rest O → Wire
wire_in o r = record { number = (state_of r.src).number; leads = goes r.behind; room = room_in (end_in o r.behind); probe = (state_of r.src).probe }

abbrev frame_by : {O L : Type 0} → outlets.Ghosts O L → Bare O → PartFrame
frame_by o b = record { number = b.number; file = b.file; wires = map (wire_in o) b.rests }

abbrev rest_left : {O : Type 0} → Rest O → ℕ
rest_left r = 1099511627776 - crossed_of r.src

abbrev bare_left : {O : Type 0} → Bare O → ℕ
bare_left b = sum_by (λ r. rest_left r) b.rests

abbrev rest_shape : {O : Type 0} → Rest O → PadShape
rest_shape r = record { number = (state_of r.src).number; goes = goes r.behind }

abbrev shape_by : {O : Type 0} → Bare O → PartShape
shape_by b = record { number = b.number; pads = map rest_shape b.rests }

-- elements of one shape have as many pads
pub same_pads : {E O : Type 0} {e : elements.Ghosts E} (was is : Part E O e) → part_shape is ≡ part_shape was → length is.pads.items ≡ length was.pads.items
same_pads was is shape = sym (length-map is.pads.items pad_shape) ∙ ap (λ (z : PartShape). length z.pads) shape ∙ length-map was.pads.items pad_shape

module _ {E O : Type 0} {e : elements.Ghosts E} where
  -- what hangs on that alone
  shaped : (part : Part E O e) → part_shape part ≡ shape_by (bare part)
  shaped part = ap (λ (ps : List PadShape). record { number = part.number; pads = ps }) (map_over rest_shape rest_of pad_shape (λ pad. refl) part.pads.items)

  pub bare_shapes : (parts parts' : List (Part E O e)) → map bare parts' ≡ map bare parts → map part_shape parts' ≡ map part_shape parts
  bare_shapes parts parts' same = map_over shape_by bare part_shape shaped parts' ∙ ap (λ (bs : List (Bare O)). map shape_by bs) same ∙ sym (map_over shape_by bare part_shape shaped parts)

  pub bare_lefts : (parts parts' : List (Part E O e)) → map bare parts' ≡ map bare parts → sum_by (λ part. part_left part) parts' ≡ sum_by (λ part. part_left part) parts
  bare_lefts parts parts' same = all parts' ∙ ap (λ (bs : List (Bare O)). sum_by (λ b. bare_left b) bs) same ∙ sym (all parts)
    where
      all : (ps : List (Part E O e)) → sum_by (λ part. part_left part) ps ≡ sum_by (λ b. bare_left b) (map bare ps)
      all ps = sum_over (λ b. bare_left b) bare (λ part. part_left part) (λ part. sum_over (λ r. rest_left r) rest_of (λ pad. pad_left pad) (λ pad. refl) part.pads.items) ps

  -- one element is another now that is the same but for that
  pub bare_set : (parts parts' : List (Part E O e)) (place : ℕ) (was is : Part E O e) → PartSet parts parts' place was is → bare is ≡ bare was → map bare parts' ≡ map bare parts
  bare_set parts parts' place was is set same = ap (λ (ps : List (Part E O e)). map bare ps) set.set ∙ map_set bare parts place was is set.at same

  bare_same : (was is : Part E O e) → is.number ≡ was.number → e.file is.element ≡ e.file was.element → map rest_of is.pads.items ≡ map rest_of was.pads.items → bare is ≡ bare was
  bare_same was is number file rests =
      ap (λ n. bare_by n (e.file is.element) (map rest_of is.pads.items)) number
      ∙ ap (λ (f : Option (Option (List ℕ))). bare_by was.number f (map rest_of is.pads.items)) file
      ∙ ap (λ (rs : List (Rest O)). bare_by was.number (e.file was.element) rs) rests

  grew : (was is : Part E O e) (more : _) → PadsGrew was is more → part_shape is ≡ part_shape was → map rest_of is.pads.items ≡ map rest_of was.pads.items
  grew was is more pads shape = map_each rest_of was.pads.items is.pads.items (same_pads was is shape) (λ k pad at. let g = pads k pad at in (g.was, g.at, g.rest))

  pub bare_fed : (was is : Part E O e) (sink : ℕ) (x : Item) → PartFed was is sink x → part_shape is ≡ part_shape was → bare is ≡ bare was
  bare_fed was is sink x f shape = bare_same was is f.number f.file (grew was is f.more f.pads shape)

  pub bare_settled : (was is : Part E O e) → PartSettled was is → part_shape is ≡ part_shape was → bare is ≡ bare was
  bare_settled was is f shape = bare_same was is f.number (ap e.file f.element) (grew was is [] f.pads shape)

  pub bare_fell : (was is : Part E O e) (sink : ℕ) (x : Item) (refusal : Refusal) → PartFell was is sink x refusal → bare is ≡ bare was
  bare_fell was is sink x refusal f = bare_same was is f.number f.file (ap (λ (v : _). map rest_of v.items) f.pads)

  pub bare_pad : (was is : Part E O e) (port : ℕ) (pad pad' : Pad O) → PadSet was is port pad pad' → rest_of pad' ≡ rest_of pad → bare is ≡ bare was
  bare_pad was is port pad pad' f rest =
      bare_same was is f.number (ap e.file f.element) (ap (λ (ps : List (Pad O)). map rest_of ps) f.set ∙ map_set rest_of was.pads.items port pad pad' f.at rest)

  -- the element at a place is of the shape that it was of
  pub shape_set : (parts parts' : List (Part E O e)) (place : ℕ) (was is : Part E O e) → PartSet parts parts' place was is → map part_shape parts' ≡ map part_shape parts → part_shape is ≡ part_shape was
  shape_set parts parts' place was is set shapes = shape_at part_shape parts parts' shapes place was is set.at (ap (λ (ps : List (Part E O e)). slice_get ps place) set.set ∙ set_at parts place was is set.at)

  -- an item that was handed on
  pub bare_handed : (parts parts' : List (Part E O e)) (place port to sink : ℕ) → HandedOn parts parts' place port to sink → map part_shape parts' ≡ map part_shape parts → map bare parts' ≡ map bare parts
  bare_handed parts parts' place port to sink h shapes =
      let gave = bare_set parts h.between place h.giver h.gave h.given (bare_pad h.giver h.gave port h.taken.was h.taken.is h.taken.pad h.taken.rest) in
      bare_set h.between parts' to h.eater h.ate h.fed (bare_fed h.eater h.ate sink h.item h.took (shape_set h.between parts' to h.eater h.ate h.fed (shapes ∙ sym (bare_shapes parts h.between gave)))) ∙ gave

module _ {E O L : Type 0} {e : elements.Ghosts E} (o : outlets.Ghosts O L) where
  framed : (part : Part E O e) → part_frame o part ≡ frame_by o (bare part)
  framed part = ap (λ (ws : List Wire). record { number = part.number; file = e.file part.element; wires = ws }) (map_over (wire_in o) rest_of (wire_of o) (λ pad. refl) part.pads.items)

  pub bare_frames : (parts parts' : List (Part E O e)) → map bare parts' ≡ map bare parts → map (part_frame o) parts' ≡ map (part_frame o) parts
  bare_frames parts parts' same = map_over (frame_by o) bare (part_frame o) framed parts' ∙ ap (λ (bs : List (Bare O)). map (frame_by o) bs) same ∙ sym (map_over (frame_by o) bare (part_frame o) framed parts)

  -- each lane is of the table as before
  pub bare_ready : (tells : Option (List Lane)) (parts parts' : List (Part E O e)) → map bare parts' ≡ map bare parts → PartsReady o tells parts → PartsReady o tells parts'
  bare_ready tells parts parts' same ready j part at port pad pad_at =
      let b = map_back bare parts parts' same j part at in
      let c = map_back rest_of b.0.pads.items part.pads.items (ap (λ (z : Bare O). z.rests) b.2) port pad pad_at in
      subst (λ (r : Rest O). EndReady tells (end_in o r.behind)) (sym c.2) (ready j b.0 b.1 port c.0 c.1)
