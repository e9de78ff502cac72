use Rattle.std.proofs.Common.{refl, arith, sym, subst, ◌∙◌, ◌≡◌, true, List, [], ◌∷◌, map}
use Rattle.std.proofs.lemmas.Option.{slice_get_within}
use Rattle.task_pads.specs.declared.crossing.Crossing.TheVariants as crossings
use Rattle.task_parts.specs.declared.part.Part.{Part}
use Rattle.task_parts.specs.Shape.{has_number, part_shape}
use Rattle.task_parts.proofs.Tries.{at_other, err_same, fault_at, named_in, source_back, source_same, source_to}
use Rattle.task_parts.proofs.Fronts.{front_in, front_out, front_same, idle_of}
use Rattle.task_parts.proofs.passing.cross_source.Goals as goal

pub find-to-requires-clause-named : goal.find-to-requires-clause-named
find-to-requires-clause-named g c κs within =
    subst (λ (ps : List (Part g.row.E.Denot g.row.O.Denot g.E.TaskElement)). has_number c.in-To.number (map part_shape ps) ≡ true) (sym c.as_slice.ensures.value)
    (named_in (map part_shape c.args.parts.now.items) _ c.in-To.number c.in-To.pad c.in-To.ensures.crossing.0.to c.requires.closed)

pub hand_in-handed-requires-clause-to : goal.hand_in-handed-requires-clause-to
hand_in-handed-requires-clause-to g c =
    let z = at_other _ c.args.parts.now.items c.in-To.number c.find-to.result c.as_slice.ensures.value c.find-to.ensures in
    let low = slice_get_within c.args.parts.now.items c.find-to.result z.part z.at in
    omega (arith, low, c.args.parts.now.ok.0)

pub hand_in-handed-requires-clause-waits : goal.hand_in-handed-requires-clause-waits
hand_in-handed-requires-clause-waits g c κs within = λ none. (let k : c.in-To.ensures.crossing.0.item ∷ c.in-To.ensures.crossing.0.rest ≡ [] = sym c.in-To.ensures.crossing.0.waits ∙ none in cc)

pub hand_in-handed-requires-clause-back : goal.hand_in-handed-requires-clause-back
hand_in-handed-requires-clause-back g c κs within = c.in-To.ensures.crossing.0.back

pub returns-in-Idle-clause-crosses : goal.returns-in-Idle-clause-crosses
returns-in-Idle-clause-crosses g c = source_same g.O.Outlet c.args.head.now _ c.args.parts.now.items (g.O.Outlet.tells c.args.lanes.now) (g.O.Outlet.tells c.cross.new.lanes) crossings.Idle _ refl refl refl c.in-Idle.ensures.shape c.in-Idle.ensures.crossing c.in-Idle.ensures.probe c.in-Idle.ensures.table c.in-Idle.ensures.ready (refl, refl, refl)

pub returns-in-Gone-clause-crosses : goal.returns-in-Gone-clause-crosses
returns-in-Gone-clause-crosses g c = source_same g.O.Outlet c.args.head.now _ c.args.parts.now.items (g.O.Outlet.tells c.args.lanes.now) (g.O.Outlet.tells c.cross.new.lanes) crossings.Gone _ refl refl refl c.in-Gone.ensures.shape c.in-Gone.ensures.crossing c.in-Gone.ensures.probe c.in-Gone.ensures.table c.in-Gone.ensures.ready (refl, refl, refl)

pub returns-in-BehindEos-clause-crosses : goal.returns-in-BehindEos-clause-crosses
returns-in-BehindEos-clause-crosses g c = source_same g.O.Outlet c.args.head.now _ c.args.parts.now.items (g.O.Outlet.tells c.args.lanes.now) (g.O.Outlet.tells c.cross.new.lanes) crossings.BehindEos _ refl refl refl c.in-BehindEos.ensures.shape c.in-BehindEos.ensures.crossing c.in-BehindEos.ensures.probe c.in-BehindEos.ensures.table c.in-BehindEos.ensures.ready (refl, refl, refl)

pub returns-in-OutOfMemory-clause-crosses : goal.returns-in-OutOfMemory-clause-crosses
returns-in-OutOfMemory-clause-crosses g c = source_same g.O.Outlet c.args.head.now _ c.args.parts.now.items (g.O.Outlet.tells c.args.lanes.now) (g.O.Outlet.tells c.cross.new.lanes) crossings.OutOfMemory _ refl refl refl c.in-OutOfMemory.ensures.shape c.in-OutOfMemory.ensures.crossing c.in-OutOfMemory.ensures.probe c.in-OutOfMemory.ensures.table c.in-OutOfMemory.ensures.ready (refl, refl, err_same _ _ c.out_of_memory.ensures)

pub returns-in-Full-clause-crosses : goal.returns-in-Full-clause-crosses
returns-in-Full-clause-crosses g c = source_same g.O.Outlet c.args.head.now _ c.args.parts.now.items (g.O.Outlet.tells c.args.lanes.now) (g.O.Outlet.tells c.cross.new.lanes) (crossings.Full c.in-Full.lane) _ refl refl refl c.in-Full.ensures.shape c.in-Full.ensures.crossing c.in-Full.ensures.probe c.in-Full.ensures.table c.in-Full.ensures.ready (refl, refl, refl)

pub returns-in-AtProbe-clause-crosses : goal.returns-in-AtProbe-clause-crosses
returns-in-AtProbe-clause-crosses g c = source_same g.O.Outlet c.args.head.now _ c.args.parts.now.items (g.O.Outlet.tells c.args.lanes.now) (g.O.Outlet.tells c.cross.new.lanes) (crossings.AtProbe c.in-AtProbe.command) _ refl refl refl c.in-AtProbe.ensures.shape c.in-AtProbe.ensures.crossing c.in-AtProbe.ensures.probe c.in-AtProbe.ensures.table c.in-AtProbe.ensures.ready (refl, refl, refl)

pub returns-in-NotLinked-clause-crosses : goal.returns-in-NotLinked-clause-crosses
returns-in-NotLinked-clause-crosses g c = source_same g.O.Outlet c.args.head.now _ c.args.parts.now.items (g.O.Outlet.tells c.args.lanes.now) (g.O.Outlet.tells c.cross.new.lanes) crossings.NotLinked _ refl refl refl c.in-NotLinked.ensures.shape c.in-NotLinked.ensures.crossing c.in-NotLinked.ensures.probe c.in-NotLinked.ensures.table c.in-NotLinked.ensures.ready (refl, refl, err_same _ _ (c.not_linked.ensures ∙ fault_at _ _ _ _ c.number.ensures c.crossed.ensures.number))

pub returns-in-AtLimit-clause-crosses : goal.returns-in-AtLimit-clause-crosses
returns-in-AtLimit-clause-crosses g c = source_same g.O.Outlet c.args.head.now _ c.args.parts.now.items (g.O.Outlet.tells c.args.lanes.now) (g.O.Outlet.tells c.cross.new.lanes) crossings.AtLimit _ refl refl refl c.in-AtLimit.ensures.shape c.in-AtLimit.ensures.crossing c.in-AtLimit.ensures.probe c.in-AtLimit.ensures.table c.in-AtLimit.ensures.ready (refl, refl, err_same _ _ c.too_long.ensures)

pub returns-in-Ok-clause-crosses : goal.returns-in-Ok-clause-crosses
returns-in-Ok-clause-crosses g c =
    source_to g.O.Outlet c.args.head.now _ c.cross.new.self c.args.parts.now.items c.hand_in-handed.new.parts.items (g.O.Outlet.tells c.args.lanes.now) (g.O.Outlet.tells c.cross.new.lanes) c.in-To.number c.in-To.hint c.in-To.pad c.find-to.result refl refl refl c.in-To.ensures.shape c.in-To.ensures.crossing c.in-To.ensures.probe c.in-To.ensures.table c.in-To.ensures.ready
    (at_other _ c.args.parts.now.items c.in-To.number c.find-to.result c.as_slice.ensures.value c.find-to.ensures) c.hand_in-handed.ensures.pad c.in-Ok.ensures.handed

pub returns-in-Ok-clause-shape : goal.returns-in-Ok-clause-shape
returns-in-Ok-clause-shape g c = c.hand_in-handed.ensures.shape

pub returns-in-Err-clause-crosses : goal.returns-in-Err-clause-crosses
returns-in-Err-clause-crosses g c =
    source_back g.O.Outlet c.args.head.now _ c.cross.new.self c.args.parts.now.items c.hand_in-handed.new.parts.items (g.O.Outlet.tells c.args.lanes.now) (g.O.Outlet.tells c.cross.new.lanes) c.in-To.number c.in-To.hint c.in-To.pad c.find-to.result c.in-Err.refusal _ refl refl refl c.in-To.ensures.shape c.in-To.ensures.crossing c.in-To.ensures.probe c.in-To.ensures.table
    c.in-To.ensures.ready (at_other _ c.args.parts.now.items c.in-To.number c.find-to.result c.as_slice.ensures.value c.find-to.ensures) c.hand_in-handed.ensures.pad c.in-Err.ensures.out c.refused.ensures

pub returns-in-Err-clause-shape : goal.returns-in-Err-clause-shape
returns-in-Err-clause-shape g c = c.hand_in-handed.ensures.shape

pub returns-in-Idle-clause-front : goal.returns-in-Idle-clause-front
returns-in-Idle-clause-front g c = front_same c.args.from.now c.args.parts.now.items

pub returns-in-Gone-clause-front : goal.returns-in-Gone-clause-front
returns-in-Gone-clause-front g c = front_same c.args.from.now c.args.parts.now.items

pub returns-in-BehindEos-clause-front : goal.returns-in-BehindEos-clause-front
returns-in-BehindEos-clause-front g c = front_same c.args.from.now c.args.parts.now.items

pub returns-in-Full-clause-front : goal.returns-in-Full-clause-front
returns-in-Full-clause-front g c = front_same c.args.from.now c.args.parts.now.items

pub returns-in-AtProbe-clause-front : goal.returns-in-AtProbe-clause-front
returns-in-AtProbe-clause-front g c = front_same c.args.from.now c.args.parts.now.items

pub returns-in-NotLinked-clause-front : goal.returns-in-NotLinked-clause-front
returns-in-NotLinked-clause-front g c = front_same c.args.from.now c.args.parts.now.items

pub returns-in-AtLimit-clause-front : goal.returns-in-AtLimit-clause-front
returns-in-AtLimit-clause-front g c = front_same c.args.from.now c.args.parts.now.items

pub returns-in-OutOfMemory-clause-front : goal.returns-in-OutOfMemory-clause-front
returns-in-OutOfMemory-clause-front g c = front_same c.args.from.now c.args.parts.now.items

pub returns-in-Ok-clause-front : goal.returns-in-Ok-clause-front
returns-in-Ok-clause-front g c = front_in c.args.from.now c.lower.new.from c.find-to.result c.in-To.pad _ _ c.args.parts.now.items c.hand_in-handed.new.parts.items c.lower.ensures.lower (idle_of _ _ c.find-to.result c.lower.new.from c.as_slice-in-To.ensures.value c.lower.ensures.idle) c.in-Ok.ensures.handed

pub returns-in-Err-clause-front : goal.returns-in-Err-clause-front
returns-in-Err-clause-front g c = front_out c.args.from.now c.lower.new.from c.find-to.result c.in-To.pad c.in-Err.refusal _ _ c.args.parts.now.items c.hand_in-handed.new.parts.items c.lower.ensures.lower (idle_of _ _ c.find-to.result c.lower.new.from c.as_slice-in-To.ensures.value c.lower.ensures.idle) c.in-Err.ensures.out
