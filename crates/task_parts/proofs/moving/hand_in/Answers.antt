use Rattle.std.proofs.Common.{refl, arith, ap, ◌∙◌, sym, subst, Option}
use Rattle.flow_model.specs.Item.{Item}
use Rattle.task_pads.specs.Pads.{IsLoose, Rest}
use Rattle.task_pads.specs.Put.{IsTaken}
use Rattle.task_parts.specs.Shape.{part_shape}
use Rattle.task_pads.proofs.Lists.{map_set, some_at}
use Rattle.task_parts.proofs.Outs.{shape_of_rest}
use Rattle.task_parts.proofs.moving.hand_in.Goals as goal

pub unreachable-requires : goal.unreachable-requires
unreachable-requires g c = c.requires.waits ((subst (λ (r : Option Item). IsTaken c.args.pad.now c.take.new.self r) c.in_default.is c.take.ensures.taken).0)

pub feed-requires-clause-no_flush : goal.feed-requires-clause-no_flush
feed-requires-clause-no_flush g c κs within = c.in-Some.ensures.taken.1

pub take_back-requires-after_bounds : goal.take_back-requires-after_bounds
take_back-requires-after_bounds g c κs within = subst IsLoose (sym (ap (λ (r : Rest g.row.O.Denot). r.src) c.take.ensures.rest)) c.requires.back

pub returns-in-Ok-clause-handed : goal.returns-in-Ok-clause-handed
returns-in-Ok-clause-handed g c = record {
  item = c.in-Some.item;
  rest = c.take.ensures.rest;
  taken = c.in-Some.ensures.taken;
  eater = c.index_mut.result.now;
  ate = c.feed.new.self;
  fed = record { at = some_at c.args.parts.now.items c.args.to c.index_mut.result.now (omega (arith, c.requires.to, c.args.parts.now.ok.0)) c.index_mut.ensures.value; set = refl };
  took = c.in-Ok.ensures.fed;
}

pub returns-in-Ok-clause-pad : goal.returns-in-Ok-clause-pad
returns-in-Ok-clause-pad g c = shape_of_rest c.take.new.self c.args.pad.now c.take.ensures.rest

pub returns-in-Ok-clause-shape : goal.returns-in-Ok-clause-shape
returns-in-Ok-clause-shape g c = map_set part_shape c.args.parts.now.items c.args.to c.index_mut.result.now c.feed.new.self (some_at c.args.parts.now.items c.args.to c.index_mut.result.now (omega (arith, c.requires.to, c.args.parts.now.ok.0)) c.index_mut.ensures.value) c.feed.ensures.shape

pub returns-in-Err-clause-out : goal.returns-in-Err-clause-out
returns-in-Err-clause-out g c = record {
  item = c.in-Some.item;
  between = c.take.new.self;
  rest = c.take.ensures.rest;
  taken = c.in-Some.ensures.taken;
  history = c.take_back.ensures.history;
  counted = c.take_back.ensures.crossed;
  probe = c.take_back.ensures.probe;
  waiting = c.take_back.ensures.waiting;
  behind = c.take_back.ensures.behind;
  eater = c.index_mut.result.now;
  ate = c.feed.new.self;
  fed = record { at = some_at c.args.parts.now.items c.args.to c.index_mut.result.now (omega (arith, c.requires.to, c.args.parts.now.ok.0)) c.index_mut.ensures.value; set = refl };
  fell = c.in-Err.ensures.fell;
}

pub returns-in-Err-clause-pad : goal.returns-in-Err-clause-pad
returns-in-Err-clause-pad g c = c.take_back.ensures.shape ∙ shape_of_rest c.take.new.self c.args.pad.now c.take.ensures.rest

pub returns-in-Err-clause-shape : goal.returns-in-Err-clause-shape
returns-in-Err-clause-shape g c = map_set part_shape c.args.parts.now.items c.args.to c.index_mut.result.now c.feed.new.self (some_at c.args.parts.now.items c.args.to c.index_mut.result.now (omega (arith, c.requires.to, c.args.parts.now.ok.0)) c.index_mut.ensures.value) c.feed.ensures.shape
