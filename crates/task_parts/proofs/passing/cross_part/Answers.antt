use Rattle.std.proofs.Common.{refl, arith, ap, length, sym, subst, ◌∙◌, ◌≡◌, true, List, map}
use Rattle.std.specs.Prelude.{slice_set}
use Rattle.std.proofs.lemmas.Option.{slice_get_within}
use Rattle.task_pads.specs.declared.crossing.Crossing.TheVariants as crossings
use Rattle.task_parts.specs.declared.part.Part.{Part}
use Rattle.task_parts.specs.declared.fault.TaskFault.TheVariants.{TooLong}
use Rattle.task_parts.specs.Shape.{has_number, part_shape}
use Rattle.task_pads.proofs.Lists.{set_length, some_at}
use Rattle.task_parts.proofs.Lists.{at_get}
use Rattle.task_parts.proofs.Tries.{at_other, crossed_shape, err_same, pad_in, place_within, port_in, to_gives, to_named}
use Rattle.task_parts.proofs.Fronts.{front_back, front_handed, front_set, idle_of, same_length}
use Rattle.task_parts.proofs.passing.cross_part.Goals as goal
use Rattle.gst_value.proofs.Places.{set_at}

pub index_mut-requires : goal.index_mut-requires
index_mut-requires g c = let low = place_within c.args.parts.now.items c.args.place c.args.port c.requires.at in omega (arith, low, c.args.parts.now.ok.0)

pub cross-requires-clause-port : goal.cross-requires-clause-port
cross-requires-clause-port g c = let low = port_in c.args.parts.now.items c.args.place c.args.port c.requires.at c.index_mut.result.now c.index_mut.ensures.value in omega (arith, low, c.index_mut.result.now.pads.ok.0)

pub cross-requires-clause-ready : goal.cross-requires-clause-ready
cross-requires-clause-ready g c κs within = c.requires.ready c.index_mut.result.now (some_at c.args.parts.now.items c.args.place c.index_mut.result.now (place_within c.args.parts.now.items c.args.place c.args.port c.requires.at) c.index_mut.ensures.value)

pub index-requires : goal.index-requires
index-requires g c = let low = place_within c.args.parts.now.items c.args.place c.args.port c.requires.at in omega (arith, low, c.args.parts.now.ok.0)

pub index-requires-in-AtLimit : goal.index-requires-in-AtLimit
index-requires-in-AtLimit g c = let low = place_within c.args.parts.now.items c.args.place c.args.port c.requires.at in omega (arith, low, c.args.parts.now.ok.0)

pub not_linked-requires-clause-port : goal.not_linked-requires-clause-port
not_linked-requires-clause-port g c =
    let cr = c.in-NotLinked.ensures in
    let same = at_get (slice_set c.args.parts.now.items c.args.place c.cross.new.self) c.args.place c.cross.new.self c.index.result.now (set_at c.args.parts.now.items c.args.place c.index_mut.result.now c.cross.new.self (some_at c.args.parts.now.items c.args.place c.index_mut.result.now (place_within c.args.parts.now.items c.args.place c.args.port c.requires.at) c.index_mut.ensures.value)) c.index.ensures in
    let low = slice_get_within c.index.result.now.pads.items c.args.port cr.is (pad_in c.index_mut.result.now c.cross.new.self c.args.port cr.was cr.is cr.pad c.index.result.now same) in
    omega (arith, low, c.index.result.now.pads.ok.0)

pub find-to-requires-clause-named : goal.find-to-requires-clause-named
find-to-requires-clause-named g c κs within =
    subst (λ (ps : List (Part g.row.E.Denot g.row.O.Denot g.E.TaskElement)). has_number c.in-To.number (map part_shape ps) ≡ true) (sym c.as_slice.ensures.value)
    (to_named g.O.Outlet c.args.parts.now.items c.args.place c.args.port c.index_mut.result.now c.cross.new.self (g.O.Outlet.tells c.args.lanes.now) (g.O.Outlet.tells c.cross.new.lanes) c.in-To.number c.in-To.hint c.in-To.pad (some_at c.args.parts.now.items c.args.place c.index_mut.result.now (place_within c.args.parts.now.items c.args.place c.args.port c.requires.at) c.index_mut.ensures.value) c.in-To.ensures (c.requires.closed c.index_mut.result.now (some_at c.args.parts.now.items c.args.place c.index_mut.result.now (place_within c.args.parts.now.items c.args.place c.args.port c.requires.at) c.index_mut.ensures.value)))

pub hand_on-handed-requires-clause-to : goal.hand_on-handed-requires-clause-to
hand_on-handed-requires-clause-to g c =
    let z = at_other _ (slice_set c.args.parts.now.items c.args.place c.cross.new.self) c.in-To.number c.find-to.result c.as_slice.ensures.value c.find-to.ensures in
    let low = slice_get_within (slice_set c.args.parts.now.items c.args.place c.cross.new.self) c.find-to.result z.part z.at in
    omega (arith, low, set_length c.args.parts.now.items c.args.place c.cross.new.self, c.args.parts.now.ok.0)

pub hand_on-handed-requires-clause-gives : goal.hand_on-handed-requires-clause-gives
hand_on-handed-requires-clause-gives g c κs within =
    to_gives g.O.Outlet c.args.parts.now.items c.args.place c.args.port c.index_mut.result.now c.cross.new.self (g.O.Outlet.tells c.args.lanes.now) (g.O.Outlet.tells c.cross.new.lanes) c.in-To.number c.in-To.hint c.in-To.pad (some_at c.args.parts.now.items c.args.place c.index_mut.result.now (place_within c.args.parts.now.items c.args.place c.args.port c.requires.at) c.index_mut.ensures.value) c.in-To.ensures

pub lower-requires-clause-to : goal.lower-requires-clause-to
lower-requires-clause-to g c κs within =
    let z = at_other _ (slice_set c.args.parts.now.items c.args.place c.cross.new.self) c.in-To.number c.find-to.result c.as_slice.ensures.value c.find-to.ensures in
    let low = slice_get_within (slice_set c.args.parts.now.items c.args.place c.cross.new.self) c.find-to.result z.part z.at in
    let many = same_length (slice_set c.args.parts.now.items c.args.place c.cross.new.self) c.hand_on-handed.new.parts.items c.hand_on-handed.ensures.shape in
    let same = ap (λ (ps : List (Part g.row.E.Denot g.row.O.Denot g.E.TaskElement)). length ps) c.as_slice-in-To.ensures.value in
    omega (arith, low, many, same)

pub returns-in-Idle-clause-crosses : goal.returns-in-Idle-clause-crosses
returns-in-Idle-clause-crosses g c = record {
  was = c.index_mut.result.now;
  is = c.cross.new.self;
  between = (slice_set c.args.parts.now.items c.args.place c.cross.new.self);
  set = record { at = some_at c.args.parts.now.items c.args.place c.index_mut.result.now (place_within c.args.parts.now.items c.args.place c.args.port c.requires.at) c.index_mut.ensures.value; set = refl };
  crossing = crossings.Idle;
  crossed = c.in-Idle.ensures;
  after = (refl, refl);
}

pub returns-in-Idle-clause-shape : goal.returns-in-Idle-clause-shape
returns-in-Idle-clause-shape g c = crossed_shape g.O.Outlet c.args.parts.now.items c.args.place c.args.port c.index_mut.result.now c.cross.new.self (g.O.Outlet.tells c.args.lanes.now) (g.O.Outlet.tells c.cross.new.lanes) crossings.Idle (some_at c.args.parts.now.items c.args.place c.index_mut.result.now (place_within c.args.parts.now.items c.args.place c.args.port c.requires.at) c.index_mut.ensures.value) c.in-Idle.ensures

pub returns-in-Gone-clause-crosses : goal.returns-in-Gone-clause-crosses
returns-in-Gone-clause-crosses g c = record {
  was = c.index_mut.result.now;
  is = c.cross.new.self;
  between = (slice_set c.args.parts.now.items c.args.place c.cross.new.self);
  set = record { at = some_at c.args.parts.now.items c.args.place c.index_mut.result.now (place_within c.args.parts.now.items c.args.place c.args.port c.requires.at) c.index_mut.ensures.value; set = refl };
  crossing = crossings.Gone;
  crossed = c.in-Gone.ensures;
  after = (refl, refl);
}

pub returns-in-Gone-clause-shape : goal.returns-in-Gone-clause-shape
returns-in-Gone-clause-shape g c = crossed_shape g.O.Outlet c.args.parts.now.items c.args.place c.args.port c.index_mut.result.now c.cross.new.self (g.O.Outlet.tells c.args.lanes.now) (g.O.Outlet.tells c.cross.new.lanes) crossings.Gone (some_at c.args.parts.now.items c.args.place c.index_mut.result.now (place_within c.args.parts.now.items c.args.place c.args.port c.requires.at) c.index_mut.ensures.value) c.in-Gone.ensures

pub returns-in-BehindEos-clause-crosses : goal.returns-in-BehindEos-clause-crosses
returns-in-BehindEos-clause-crosses g c = record {
  was = c.index_mut.result.now;
  is = c.cross.new.self;
  between = (slice_set c.args.parts.now.items c.args.place c.cross.new.self);
  set = record { at = some_at c.args.parts.now.items c.args.place c.index_mut.result.now (place_within c.args.parts.now.items c.args.place c.args.port c.requires.at) c.index_mut.ensures.value; set = refl };
  crossing = crossings.BehindEos;
  crossed = c.in-BehindEos.ensures;
  after = (refl, refl);
}

pub returns-in-BehindEos-clause-shape : goal.returns-in-BehindEos-clause-shape
returns-in-BehindEos-clause-shape g c = crossed_shape g.O.Outlet c.args.parts.now.items c.args.place c.args.port c.index_mut.result.now c.cross.new.self (g.O.Outlet.tells c.args.lanes.now) (g.O.Outlet.tells c.cross.new.lanes) crossings.BehindEos (some_at c.args.parts.now.items c.args.place c.index_mut.result.now (place_within c.args.parts.now.items c.args.place c.args.port c.requires.at) c.index_mut.ensures.value) c.in-BehindEos.ensures

pub returns-in-OutOfMemory-clause-crosses : goal.returns-in-OutOfMemory-clause-crosses
returns-in-OutOfMemory-clause-crosses g c = record {
  was = c.index_mut.result.now;
  is = c.cross.new.self;
  between = (slice_set c.args.parts.now.items c.args.place c.cross.new.self);
  set = record { at = some_at c.args.parts.now.items c.args.place c.index_mut.result.now (place_within c.args.parts.now.items c.args.place c.args.port c.requires.at) c.index_mut.ensures.value; set = refl };
  crossing = crossings.OutOfMemory;
  crossed = c.in-OutOfMemory.ensures;
  after = (refl, err_same _ _ c.out_of_memory.ensures);
}

pub returns-in-OutOfMemory-clause-shape : goal.returns-in-OutOfMemory-clause-shape
returns-in-OutOfMemory-clause-shape g c = crossed_shape g.O.Outlet c.args.parts.now.items c.args.place c.args.port c.index_mut.result.now c.cross.new.self (g.O.Outlet.tells c.args.lanes.now) (g.O.Outlet.tells c.cross.new.lanes) crossings.OutOfMemory (some_at c.args.parts.now.items c.args.place c.index_mut.result.now (place_within c.args.parts.now.items c.args.place c.args.port c.requires.at) c.index_mut.ensures.value) c.in-OutOfMemory.ensures

pub returns-in-Full-clause-crosses : goal.returns-in-Full-clause-crosses
returns-in-Full-clause-crosses g c = record {
  was = c.index_mut.result.now;
  is = c.cross.new.self;
  between = (slice_set c.args.parts.now.items c.args.place c.cross.new.self);
  set = record { at = some_at c.args.parts.now.items c.args.place c.index_mut.result.now (place_within c.args.parts.now.items c.args.place c.args.port c.requires.at) c.index_mut.ensures.value; set = refl };
  crossing = crossings.Full c.in-Full.lane;
  crossed = c.in-Full.ensures;
  after = (refl, refl);
}

pub returns-in-Full-clause-shape : goal.returns-in-Full-clause-shape
returns-in-Full-clause-shape g c = crossed_shape g.O.Outlet c.args.parts.now.items c.args.place c.args.port c.index_mut.result.now c.cross.new.self (g.O.Outlet.tells c.args.lanes.now) (g.O.Outlet.tells c.cross.new.lanes) (crossings.Full c.in-Full.lane) (some_at c.args.parts.now.items c.args.place c.index_mut.result.now (place_within c.args.parts.now.items c.args.place c.args.port c.requires.at) c.index_mut.ensures.value) c.in-Full.ensures

pub returns-in-AtProbe-clause-crosses : goal.returns-in-AtProbe-clause-crosses
returns-in-AtProbe-clause-crosses g c = record {
  was = c.index_mut.result.now;
  is = c.cross.new.self;
  between = (slice_set c.args.parts.now.items c.args.place c.cross.new.self);
  set = record { at = some_at c.args.parts.now.items c.args.place c.index_mut.result.now (place_within c.args.parts.now.items c.args.place c.args.port c.requires.at) c.index_mut.ensures.value; set = refl };
  crossing = crossings.AtProbe c.in-AtProbe.command;
  crossed = c.in-AtProbe.ensures;
  after = (refl, refl);
}

pub returns-in-AtProbe-clause-shape : goal.returns-in-AtProbe-clause-shape
returns-in-AtProbe-clause-shape g c = crossed_shape g.O.Outlet c.args.parts.now.items c.args.place c.args.port c.index_mut.result.now c.cross.new.self (g.O.Outlet.tells c.args.lanes.now) (g.O.Outlet.tells c.cross.new.lanes) (crossings.AtProbe c.in-AtProbe.command) (some_at c.args.parts.now.items c.args.place c.index_mut.result.now (place_within c.args.parts.now.items c.args.place c.args.port c.requires.at) c.index_mut.ensures.value) c.in-AtProbe.ensures

pub returns-in-NotLinked-clause-crosses : goal.returns-in-NotLinked-clause-crosses
returns-in-NotLinked-clause-crosses g c = record {
  was = c.index_mut.result.now;
  is = c.cross.new.self;
  between = (slice_set c.args.parts.now.items c.args.place c.cross.new.self);
  set = record { at = some_at c.args.parts.now.items c.args.place c.index_mut.result.now (place_within c.args.parts.now.items c.args.place c.args.port c.requires.at) c.index_mut.ensures.value; set = refl };
  crossing = crossings.NotLinked;
  crossed = c.in-NotLinked.ensures;
  after = (refl, err_same _ _ (let cr = c.in-NotLinked.ensures in let same = at_get (slice_set c.args.parts.now.items c.args.place c.cross.new.self) c.args.place c.cross.new.self c.index.result.now (set_at c.args.parts.now.items c.args.place c.index_mut.result.now c.cross.new.self (some_at c.args.parts.now.items c.args.place c.index_mut.result.now (place_within c.args.parts.now.items c.args.place c.args.port c.requires.at) c.index_mut.ensures.value)) c.index.ensures in c.not_linked.ensures cr.is (pad_in c.index_mut.result.now c.cross.new.self c.args.port cr.was cr.is cr.pad c.index.result.now same)));
}

pub returns-in-NotLinked-clause-shape : goal.returns-in-NotLinked-clause-shape
returns-in-NotLinked-clause-shape g c = crossed_shape g.O.Outlet c.args.parts.now.items c.args.place c.args.port c.index_mut.result.now c.cross.new.self (g.O.Outlet.tells c.args.lanes.now) (g.O.Outlet.tells c.cross.new.lanes) crossings.NotLinked (some_at c.args.parts.now.items c.args.place c.index_mut.result.now (place_within c.args.parts.now.items c.args.place c.args.port c.requires.at) c.index_mut.ensures.value) c.in-NotLinked.ensures

pub returns-in-AtLimit-clause-crosses : goal.returns-in-AtLimit-clause-crosses
returns-in-AtLimit-clause-crosses g c = record {
  was = c.index_mut.result.now;
  is = c.cross.new.self;
  between = (slice_set c.args.parts.now.items c.args.place c.cross.new.self);
  set = record { at = some_at c.args.parts.now.items c.args.place c.index_mut.result.now (place_within c.args.parts.now.items c.args.place c.args.port c.requires.at) c.index_mut.ensures.value; set = refl };
  crossing = crossings.AtLimit;
  crossed = c.in-AtLimit.ensures;
  after = (refl, err_same _ _ (c.too_long.ensures ∙ ap (λ n. TooLong n 1099511627776 1) (c.number.ensures ∙ ap (λ (p : Part g.row.E.Denot g.row.O.Denot g.E.TaskElement). p.number) (at_get (slice_set c.args.parts.now.items c.args.place c.cross.new.self) c.args.place c.cross.new.self c.index-in-AtLimit.result.now (set_at c.args.parts.now.items c.args.place c.index_mut.result.now c.cross.new.self (some_at c.args.parts.now.items c.args.place c.index_mut.result.now (place_within c.args.parts.now.items c.args.place c.args.port c.requires.at) c.index_mut.ensures.value)) c.index-in-AtLimit.ensures))));
}

pub returns-in-AtLimit-clause-shape : goal.returns-in-AtLimit-clause-shape
returns-in-AtLimit-clause-shape g c = crossed_shape g.O.Outlet c.args.parts.now.items c.args.place c.args.port c.index_mut.result.now c.cross.new.self (g.O.Outlet.tells c.args.lanes.now) (g.O.Outlet.tells c.cross.new.lanes) crossings.AtLimit (some_at c.args.parts.now.items c.args.place c.index_mut.result.now (place_within c.args.parts.now.items c.args.place c.args.port c.requires.at) c.index_mut.ensures.value) c.in-AtLimit.ensures

pub returns-in-Ok-clause-crosses : goal.returns-in-Ok-clause-crosses
returns-in-Ok-clause-crosses g c = record {
  was = c.index_mut.result.now;
  is = c.cross.new.self;
  between = (slice_set c.args.parts.now.items c.args.place c.cross.new.self);
  set = record { at = some_at c.args.parts.now.items c.args.place c.index_mut.result.now (place_within c.args.parts.now.items c.args.place c.args.port c.requires.at) c.index_mut.ensures.value; set = refl };
  crossing = crossings.To c.in-To.number c.in-To.hint c.in-To.pad;
  crossed = c.in-To.ensures;
  after = (refl, c.find-to.result, at_other _ (slice_set c.args.parts.now.items c.args.place c.cross.new.self) c.in-To.number c.find-to.result c.as_slice.ensures.value c.find-to.ensures, c.in-Ok.ensures.handed);
}

pub returns-in-Ok-clause-shape : goal.returns-in-Ok-clause-shape
returns-in-Ok-clause-shape g c = c.hand_on-handed.ensures.shape ∙ crossed_shape g.O.Outlet c.args.parts.now.items c.args.place c.args.port c.index_mut.result.now c.cross.new.self (g.O.Outlet.tells c.args.lanes.now) (g.O.Outlet.tells c.cross.new.lanes) (crossings.To c.in-To.number c.in-To.hint c.in-To.pad) (some_at c.args.parts.now.items c.args.place c.index_mut.result.now (place_within c.args.parts.now.items c.args.place c.args.port c.requires.at) c.index_mut.ensures.value) c.in-To.ensures

pub returns-in-Err-clause-crosses : goal.returns-in-Err-clause-crosses
returns-in-Err-clause-crosses g c = record {
  was = c.index_mut.result.now;
  is = c.cross.new.self;
  between = (slice_set c.args.parts.now.items c.args.place c.cross.new.self);
  set = record { at = some_at c.args.parts.now.items c.args.place c.index_mut.result.now (place_within c.args.parts.now.items c.args.place c.args.port c.requires.at) c.index_mut.ensures.value; set = refl };
  crossing = crossings.To c.in-To.number c.in-To.hint c.in-To.pad;
  crossed = c.in-To.ensures;
  after = (c.in-Err.refusal, c.refused.ensures, c.find-to.result, at_other _ (slice_set c.args.parts.now.items c.args.place c.cross.new.self) c.in-To.number c.find-to.result c.as_slice.ensures.value c.find-to.ensures, c.in-Err.ensures.back);
}

pub returns-in-Err-clause-shape : goal.returns-in-Err-clause-shape
returns-in-Err-clause-shape g c = c.hand_on-handed.ensures.shape ∙ crossed_shape g.O.Outlet c.args.parts.now.items c.args.place c.args.port c.index_mut.result.now c.cross.new.self (g.O.Outlet.tells c.args.lanes.now) (g.O.Outlet.tells c.cross.new.lanes) (crossings.To c.in-To.number c.in-To.hint c.in-To.pad) (some_at c.args.parts.now.items c.args.place c.index_mut.result.now (place_within c.args.parts.now.items c.args.place c.args.port c.requires.at) c.index_mut.ensures.value) c.in-To.ensures

pub returns-in-Idle-clause-front : goal.returns-in-Idle-clause-front
returns-in-Idle-clause-front g c = front_set c.args.from.now c.args.place c.args.parts.now.items c.cross.new.self c.requires.from

pub returns-in-Gone-clause-front : goal.returns-in-Gone-clause-front
returns-in-Gone-clause-front g c = front_set c.args.from.now c.args.place c.args.parts.now.items c.cross.new.self c.requires.from

pub returns-in-BehindEos-clause-front : goal.returns-in-BehindEos-clause-front
returns-in-BehindEos-clause-front g c = front_set c.args.from.now c.args.place c.args.parts.now.items c.cross.new.self c.requires.from

pub returns-in-Full-clause-front : goal.returns-in-Full-clause-front
returns-in-Full-clause-front g c = front_set c.args.from.now c.args.place c.args.parts.now.items c.cross.new.self c.requires.from

pub returns-in-AtProbe-clause-front : goal.returns-in-AtProbe-clause-front
returns-in-AtProbe-clause-front g c = front_set c.args.from.now c.args.place c.args.parts.now.items c.cross.new.self c.requires.from

pub returns-in-NotLinked-clause-front : goal.returns-in-NotLinked-clause-front
returns-in-NotLinked-clause-front g c = front_set c.args.from.now c.args.place c.args.parts.now.items c.cross.new.self c.requires.from

pub returns-in-AtLimit-clause-front : goal.returns-in-AtLimit-clause-front
returns-in-AtLimit-clause-front g c = front_set c.args.from.now c.args.place c.args.parts.now.items c.cross.new.self c.requires.from

pub returns-in-OutOfMemory-clause-front : goal.returns-in-OutOfMemory-clause-front
returns-in-OutOfMemory-clause-front g c = front_set c.args.from.now c.args.place c.args.parts.now.items c.cross.new.self c.requires.from

pub returns-in-Ok-clause-front : goal.returns-in-Ok-clause-front
returns-in-Ok-clause-front g c = front_handed c.args.from.now c.lower.new.from c.args.place c.args.port c.find-to.result c.in-To.pad c.args.parts.now.items c.hand_on-handed.new.parts.items c.cross.new.self c.requires.from c.lower.ensures.lower (idle_of _ _ c.find-to.result c.lower.new.from c.as_slice-in-To.ensures.value c.lower.ensures.idle) c.in-Ok.ensures.handed

pub returns-in-Err-clause-front : goal.returns-in-Err-clause-front
returns-in-Err-clause-front g c = front_back c.args.from.now c.lower.new.from c.args.place c.args.port c.find-to.result c.in-To.pad c.in-Err.refusal c.args.parts.now.items c.hand_on-handed.new.parts.items c.cross.new.self c.requires.from c.lower.ensures.lower (idle_of _ _ c.find-to.result c.lower.new.from c.as_slice-in-To.ensures.value c.lower.ensures.idle) c.in-Err.ensures.back
