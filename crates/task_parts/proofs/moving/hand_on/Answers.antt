use Rattle.std.proofs.Common.{refl, arith, ◌∙◌}
use Rattle.std.specs.Prelude.{slice_set}
use Rattle.task_parts.specs.Shape.{part_shape}
use Rattle.task_pads.proofs.Lists.{map_set, set_length, some_at}
use Rattle.task_parts.proofs.Turns.{set_shape}
use Rattle.task_parts.proofs.Moves.{again_back, again_pads, again_port, giver_gives, giver_port, giver_within}
use Rattle.task_parts.proofs.moving.hand_on.Goals as goal

pub index_mut-requires : goal.index_mut-requires
index_mut-requires g c = let low = giver_within c.args.parts.now.items c.args.from c.args.port c.requires.gives in omega (arith, low, c.args.parts.now.ok.0)

pub take-requires-clause-port : goal.take-requires-clause-port
take-requires-clause-port g c = let low = giver_port c.args.parts.now.items c.args.from c.args.port c.requires.gives c.index_mut.result.now c.index_mut.ensures.value in omega (arith, low, c.index_mut.result.now.pads.ok.0)

pub unreachable-requires : goal.unreachable-requires
unreachable-requires g c = giver_gives c.args.parts.now.items c.args.from c.args.port c.requires.gives c.index_mut.result.now c.take.new.self c.take.result c.index_mut.ensures.value c.take.ensures c.in_default.is

pub feed-requires-clause-no_flush : goal.feed-requires-clause-no_flush
feed-requires-clause-no_flush g c κs within = c.in-Some.ensures.taken.1

pub index_mut-requires-in-Err : goal.index_mut-requires-in-Err
index_mut-requires-in-Err g c = let low = giver_within c.args.parts.now.items c.args.from c.args.port c.requires.gives in omega (arith, low, c.args.parts.now.ok.0)

pub take_back-requires-clause-port : goal.take_back-requires-clause-port
take_back-requires-clause-port g c =
    let low = again_port c.index_mut.result.now c.take.new.self c.index_mut-in-Err.result.now c.args.port c.take.result c.take.ensures (again_pads c.args.parts.now.items c.args.from c.args.to c.take.new.self c.index_mut-2.result.now c.feed.new.self c.index_mut-in-Err.result.now (some_at (slice_set c.args.parts.now.items c.args.from c.take.new.self) c.args.to c.index_mut-2.result.now (omega (arith, c.requires.to, c.args.parts.now.ok.0, set_length c.args.parts.now.items c.args.from c.take.new.self)) c.index_mut-2.ensures.value) c.in-Err.ensures.fell.pads (some_at (slice_set (slice_set c.args.parts.now.items c.args.from c.take.new.self) c.args.to c.feed.new.self) c.args.from c.index_mut-in-Err.result.now (let low = giver_within c.args.parts.now.items c.args.from c.args.port c.requires.gives in omega (arith, low, set_length c.args.parts.now.items c.args.from c.take.new.self, set_length (slice_set c.args.parts.now.items c.args.from c.take.new.self) c.args.to c.feed.new.self)) c.index_mut-in-Err.ensures.value)) in
    omega (arith, low, c.index_mut-in-Err.result.now.pads.ok.0)

pub take_back-requires-clause-back : goal.take_back-requires-clause-back
take_back-requires-clause-back g c κs within =
    again_back c.args.parts.now.items c.args.from c.args.port c.requires.gives c.index_mut.result.now c.take.new.self c.index_mut-in-Err.result.now c.take.result c.index_mut.ensures.value c.take.ensures
    (again_pads c.args.parts.now.items c.args.from c.args.to c.take.new.self c.index_mut-2.result.now c.feed.new.self c.index_mut-in-Err.result.now (some_at (slice_set c.args.parts.now.items c.args.from c.take.new.self) c.args.to c.index_mut-2.result.now (omega (arith, c.requires.to, c.args.parts.now.ok.0, set_length c.args.parts.now.items c.args.from c.take.new.self)) c.index_mut-2.ensures.value) c.in-Err.ensures.fell.pads (some_at (slice_set (slice_set c.args.parts.now.items c.args.from c.take.new.self) c.args.to c.feed.new.self) c.args.from c.index_mut-in-Err.result.now (let low = giver_within c.args.parts.now.items c.args.from c.args.port c.requires.gives in omega (arith, low, set_length c.args.parts.now.items c.args.from c.take.new.self, set_length (slice_set c.args.parts.now.items c.args.from c.take.new.self) c.args.to c.feed.new.self)) c.index_mut-in-Err.ensures.value))

pub returns-in-Ok-clause-handed : goal.returns-in-Ok-clause-handed
returns-in-Ok-clause-handed g c = record {
  item = c.in-Some.item;
  giver = c.index_mut.result.now;
  gave = c.take.new.self;
  between = (slice_set c.args.parts.now.items c.args.from c.take.new.self);
  given = record { at = some_at c.args.parts.now.items c.args.from c.index_mut.result.now (giver_within c.args.parts.now.items c.args.from c.args.port c.requires.gives) c.index_mut.ensures.value; set = refl };
  taken = c.in-Some.ensures;
  eater = c.index_mut-2.result.now;
  ate = c.feed.new.self;
  fed = record { at = some_at (slice_set c.args.parts.now.items c.args.from c.take.new.self) c.args.to c.index_mut-2.result.now (omega (arith, c.requires.to, c.args.parts.now.ok.0, set_length c.args.parts.now.items c.args.from c.take.new.self)) c.index_mut-2.ensures.value; set = refl };
  took = c.in-Ok.ensures.fed;
}

pub returns-in-Ok-clause-shape : goal.returns-in-Ok-clause-shape
returns-in-Ok-clause-shape g c = map_set part_shape (slice_set c.args.parts.now.items c.args.from c.take.new.self) c.args.to c.index_mut-2.result.now c.feed.new.self (some_at (slice_set c.args.parts.now.items c.args.from c.take.new.self) c.args.to c.index_mut-2.result.now (omega (arith, c.requires.to, c.args.parts.now.ok.0, set_length c.args.parts.now.items c.args.from c.take.new.self)) c.index_mut-2.ensures.value) c.feed.ensures.shape ∙ map_set part_shape c.args.parts.now.items c.args.from c.index_mut.result.now c.take.new.self (some_at c.args.parts.now.items c.args.from c.index_mut.result.now (giver_within c.args.parts.now.items c.args.from c.args.port c.requires.gives) c.index_mut.ensures.value) (set_shape c.index_mut.result.now c.take.new.self c.args.port c.take.ensures.was c.take.ensures.is c.take.ensures.pad)

pub returns-in-Err-clause-back : goal.returns-in-Err-clause-back
returns-in-Err-clause-back g c = record {
  item = c.in-Some.item;
  giver = c.index_mut.result.now;
  gave = c.take.new.self;
  between = (slice_set c.args.parts.now.items c.args.from c.take.new.self);
  given = record { at = some_at c.args.parts.now.items c.args.from c.index_mut.result.now (giver_within c.args.parts.now.items c.args.from c.args.port c.requires.gives) c.index_mut.ensures.value; set = refl };
  taken = c.in-Some.ensures;
  eater = c.index_mut-2.result.now;
  ate = c.feed.new.self;
  behind = (slice_set (slice_set c.args.parts.now.items c.args.from c.take.new.self) c.args.to c.feed.new.self);
  fed = record { at = some_at (slice_set c.args.parts.now.items c.args.from c.take.new.self) c.args.to c.index_mut-2.result.now (omega (arith, c.requires.to, c.args.parts.now.ok.0, set_length c.args.parts.now.items c.args.from c.take.new.self)) c.index_mut-2.ensures.value; set = refl };
  fell = c.in-Err.ensures.fell;
  again = c.index_mut-in-Err.result.now;
  is = c.take_back.new.self;
  back = record { at = some_at (slice_set (slice_set c.args.parts.now.items c.args.from c.take.new.self) c.args.to c.feed.new.self) c.args.from c.index_mut-in-Err.result.now (let low = giver_within c.args.parts.now.items c.args.from c.args.port c.requires.gives in omega (arith, low, set_length c.args.parts.now.items c.args.from c.take.new.self, set_length (slice_set c.args.parts.now.items c.args.from c.take.new.self) c.args.to c.feed.new.self)) c.index_mut-in-Err.ensures.value; set = refl };
  took_back = c.take_back.ensures;
}

pub returns-in-Err-clause-shape : goal.returns-in-Err-clause-shape
returns-in-Err-clause-shape g c =
    map_set part_shape (slice_set (slice_set c.args.parts.now.items c.args.from c.take.new.self) c.args.to c.feed.new.self) c.args.from c.index_mut-in-Err.result.now c.take_back.new.self (some_at (slice_set (slice_set c.args.parts.now.items c.args.from c.take.new.self) c.args.to c.feed.new.self) c.args.from c.index_mut-in-Err.result.now (let low = giver_within c.args.parts.now.items c.args.from c.args.port c.requires.gives in omega (arith, low, set_length c.args.parts.now.items c.args.from c.take.new.self, set_length (slice_set c.args.parts.now.items c.args.from c.take.new.self) c.args.to c.feed.new.self)) c.index_mut-in-Err.ensures.value) (set_shape c.index_mut-in-Err.result.now c.take_back.new.self c.args.port c.take_back.ensures.was c.take_back.ensures.is c.take_back.ensures.pad)
    ∙ map_set part_shape (slice_set c.args.parts.now.items c.args.from c.take.new.self) c.args.to c.index_mut-2.result.now c.feed.new.self (some_at (slice_set c.args.parts.now.items c.args.from c.take.new.self) c.args.to c.index_mut-2.result.now (omega (arith, c.requires.to, c.args.parts.now.ok.0, set_length c.args.parts.now.items c.args.from c.take.new.self)) c.index_mut-2.ensures.value) c.feed.ensures.shape ∙ map_set part_shape c.args.parts.now.items c.args.from c.index_mut.result.now c.take.new.self (some_at c.args.parts.now.items c.args.from c.index_mut.result.now (giver_within c.args.parts.now.items c.args.from c.args.port c.requires.gives) c.index_mut.ensures.value) (set_shape c.index_mut.result.now c.take.new.self c.args.port c.take.ensures.was c.take.ensures.is c.take.ensures.pad)
