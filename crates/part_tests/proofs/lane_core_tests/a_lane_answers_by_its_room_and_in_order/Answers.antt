use Rattle.std.proofs.Common.{◌≢◌, sym, ◌∙◌, refl}
use Rattle.lane_core.specs.Room.{Limits}
use Rattle.lane_core.proofs.Between.{of_same, in_same, in_of, new_lane_has_room, new_lane_is_apart}
use Rattle.part_tests.proofs.lane_core_tests.a_lane_answers_by_its_room_and_in_order.Goals as goal

pub answers-requires-2-clause-table : goal.answers-requires-2-clause-table
answers-requires-2-clause-table g c κs =
    let first = c.in_ok-other_outlet.ensures in
    let second = c.in_ok-outlet.ensures in
    let old : Limits = record { items = c.in_ok-other_outlet.other_outlet.capacity } in
    let limits : Limits = record { items = c.in_ok-outlet.outlet.capacity } in
    let there = in_same _ _ _ first.place.0 (in_of _ _ old 0 (new_lane_has_room _ _ _ 0 old first.table first.limits)) in
    let apart : c.in_ok-outlet.outlet.place ≢ c.in_ok-other_outlet.other_outlet.place = λ same. new_lane_is_apart _ _ there (sym second.place.0 ∙ same) in
    c.in_ok-done.ensures.others _ limits _ apart (of_same _ _ _ limits limits c.in_ok-outlet.outlet.count second.place.0 refl (new_lane_has_room _ _ _ _ limits second.table second.limits))
