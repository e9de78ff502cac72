use Rattle.std.proofs.Common.{refl, ap, arith, sym, ◌∙◌, List, [], ◌∷◌, ◌++◌}
use Rattle.flow_model.specs.Item.{Item}
use Rattle.task_parts.specs.declared.head.Given.TheVariants as given
use Rattle.task_parts.proofs.Tries.{gave_item, gives_as, gave_none, no_more, one_more}
use Rattle.task_parts.proofs.head.SourceHead.give.Goals as goal

pub returns-then-self-gt-MOST_ITEMS-clause-gives : goal.returns-then-self-gt-MOST_ITEMS-clause-gives
returns-then-self-gt-MOST_ITEMS-clause-gives g c = (record { gave = λ owed given h. h; waiting = refl; given = refl }, omega (arith, c.if-self-gt-MOST_ITEMS.true))

pub returns-then-is_err-clause-kept : goal.returns-then-is_err-clause-kept
returns-then-is_err-clause-kept g c = record { gave = λ owed given h. h; waiting = c.make_room.ensures.waiting; given = refl }

pub returns-then-is_flush_stop-clause-gives : goal.returns-then-is_flush_stop-clause-gives
returns-then-is_flush_stop-clause-gives g c = gives_as c.args.self.now _ given.FlushStop c.give_up.result (sym c.give_up.ensures) (record {
  item = c.in-Ok-Some.item;
  flush = sym c.is_flush_stop.ensures ∙ c.if-is_flush_stop.true;
  gave = gave_item g.S.TaskSource c.args.self.now.source c.ask.new.source c.in-Ok-Some.field-0 c.in-Ok-Some.item c.in-Ok-Some.field-0-is c.in-Ok-Some.ensures.gives;
  waiting = c.make_room.ensures.waiting;
  given = one_more c.in-Ok-Some.field-0 c.in-Ok-Some.item c.args.self.now.given c.ask.new.given c.in-Ok-Some.field-0-is c.in-Ok-Some.ensures.counted;
  few = omega (arith, c.if-self-gt-MOST_ITEMS.false);
})

pub returns-else-is_flush_stop-clause-gives : goal.returns-else-is_flush_stop-clause-gives
returns-else-is_flush_stop-clause-gives g c = record {
  item = c.in-Ok-Some.item;
  gave = gave_item g.S.TaskSource c.args.self.now.source c.ask.new.source c.in-Ok-Some.field-0 c.in-Ok-Some.item c.in-Ok-Some.field-0-is c.in-Ok-Some.ensures.gives;
  waiting = c.push_reserved.ensures.waiting ∙ ap (λ (xs : List Item). xs ++ c.in-Ok-Some.item ∷ []) c.make_room.ensures.waiting;
  given = one_more c.in-Ok-Some.field-0 c.in-Ok-Some.item c.args.self.now.given c.ask.new.given c.in-Ok-Some.field-0-is c.in-Ok-Some.ensures.counted;
  few = omega (arith, c.if-self-gt-MOST_ITEMS.false);
}

pub returns-in-Ok-None-clause-gives : goal.returns-in-Ok-None-clause-gives
returns-in-Ok-None-clause-gives g c =
    let none = gave_none g.S.TaskSource c.args.self.now.source c.ask.new.source c.in-Ok-None.field-0 c.in-Ok-None.field-0-is c.in-Ok-None.ensures.gives in (
      record {
        gave = λ owed given h. (none owed given h).0;
        waiting = c.make_room.ensures.waiting;
        given = no_more c.in-Ok-None.field-0 c.args.self.now.given c.ask.new.given c.in-Ok-None.field-0-is c.in-Ok-None.ensures.counted;
      },
      λ owed all h. (none owed all h).1,
    )

pub returns-in-Err-clause-kept : goal.returns-in-Err-clause-kept
returns-in-Err-clause-kept g c = record { gave = c.in-Err.ensures.kept; waiting = c.make_room.ensures.waiting; given = c.in-Err.ensures.counted }
