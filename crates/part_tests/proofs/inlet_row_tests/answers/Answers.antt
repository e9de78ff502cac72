use Rattle.part_tests.proofs.inlet_row_tests.answers.Goals as goal

pub take_some-requires-2-clause-row : goal.take_some-requires-2-clause-row
take_some-requires-2-clause-row g c κs within =
    c.give-2.ensures.gives.within _
    (c.link.ensures.links.within _ (c.give.ensures.gives.within _ (c.make_room.ensures.stays.within _ c.take_some.ensures.row)) (c.take_some.ensures.lanes _ c.requires.old))

pub take_some-requires-3-clause-row : goal.take_some-requires-3-clause-row
take_some-requires-3-clause-row g c κs within =
    c.link-3.ensures.links.within _
    (c.link-2.ensures.links.within _ (c.make_room-2.ensures.stays.within _ c.take_some-2.ensures.row) (c.take_some-2.ensures.lanes _ (c.take_some.ensures.lanes _ c.requires.drained)))
    (c.take_some-2.ensures.lanes _ (c.take_some.ensures.lanes _ c.requires.last))

pub take_some-requires-4-clause-row : goal.take_some-requires-4-clause-row
take_some-requires-4-clause-row g c κs within = c.give-3.ensures.gives.within _ (c.make_room-3.ensures.stays.within _ c.take_some-3.ensures.row)
