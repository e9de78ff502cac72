use Rattle.lane_core.specs.declared.ends.Put.TheVariants.{Stored}
use Rattle.lane_core.specs.declared.ends.Take.TheVariants as takes
use Rattle.lane_core.proofs.Between.{of_same, put_keeps_room, put_keeps_other_room, take_keeps_room}
use Rattle.part_tests.proofs.lane_core_tests.do_move.Goals as goal

pub returns-in-Stored-clause-table : goal.returns-in-Stored-clause-table
returns-in-Stored-clause-table g c =
    let same = c.in-Stored.ensures.same in
    of_same _ _ _ _ _ _ same.1 same.2
    (put_keeps_room _ c.item_numbered.result Stored _ _ _ _ _ _ _ c.in-Stored.ensures.answer c.in-Stored.ensures.table c.requires.table)

pub returns-in-Item-clause-table : goal.returns-in-Item-clause-table
returns-in-Item-clause-table g c =
    take_keeps_room _ _ (takes.Item c.in-Item.item) _ _ _ _ c.in-Item.ensures.table c.requires.table

pub returns-in-Stored-clause-others : goal.returns-in-Stored-clause-others
returns-in-Stored-clause-others g c other limits count else of =
    put_keeps_other_room _ other c.item_numbered.result Stored limits count _ _ else c.in-Stored.ensures.table of

pub returns-in-Item-clause-others : goal.returns-in-Item-clause-others
returns-in-Item-clause-others g c other limits count else of =
    take_keeps_room _ other (takes.Item c.in-Item.item) limits count _ _ c.in-Item.ensures.table of
