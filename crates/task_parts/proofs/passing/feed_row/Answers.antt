use Rattle.std.proofs.Common.{refl, arith, sym, ap, inl, inr, ◌∙◌}
use Rattle.task_parts.specs.declared.part.Part.{Part}
use Rattle.task_parts.specs.Fault.{refusal_fault}
use Rattle.task_parts.specs.Shape.{part_shape}
use Rattle.task_pads.proofs.Lists.{map_set, some_at}
use Rattle.task_parts.proofs.Lists.{at_get}
use Rattle.task_parts.proofs.Tries.{ok_same}
use Rattle.task_parts.proofs.passing.feed_row.Goals as goal

pub returns-then-is_flush_stop-clause-feeds : goal.returns-then-is_flush_stop-clause-feeds
returns-then-is_flush_stop-clause-feeds g c = inl (sym c.is_flush_stop.ensures ∙ c.if-is_flush_stop.true, refl, ok_same _ _ c.give_up.ensures)

pub feed-requires-clause-no_flush : goal.feed-requires-clause-no_flush
feed-requires-clause-no_flush g c κs within = (sym c.is_flush_stop.ensures ∙ c.if-is_flush_stop.false)

pub returns-in-Ok-clause-feeds : goal.returns-in-Ok-clause-feeds
returns-in-Ok-clause-feeds g c = inr ((sym c.is_flush_stop.ensures ∙ c.if-is_flush_stop.false), (refl, c.index_mut.result.now, c.feed.new.self, record { at = some_at c.args.parts.now.items c.args.to c.index_mut.result.now (omega (arith, c.requires.to, c.args.parts.now.ok.0)) c.index_mut.ensures.value; set = refl }, c.in-Ok.ensures.fed))

pub returns-in-Ok-clause-shape : goal.returns-in-Ok-clause-shape
returns-in-Ok-clause-shape g c = map_set part_shape c.args.parts.now.items c.args.to c.index_mut.result.now c.feed.new.self (some_at c.args.parts.now.items c.args.to c.index_mut.result.now (omega (arith, c.requires.to, c.args.parts.now.ok.0)) c.index_mut.ensures.value) c.feed.ensures.shape

pub returns-in-Err-clause-feeds : goal.returns-in-Err-clause-feeds
returns-in-Err-clause-feeds g c = inr (
  (sym c.is_flush_stop.ensures ∙ c.if-is_flush_stop.false),
  (
    c.in-Err.refusal,
    c.index_mut.result.now,
    c.feed.new.self,
    record { at = some_at c.args.parts.now.items c.args.to c.index_mut.result.now (omega (arith, c.requires.to, c.args.parts.now.ok.0)) c.index_mut.ensures.value; set = refl },
    c.in-Err.ensures.fell,
    c.refused.ensures ∙ ap (λ n. refusal_fault n c.in-Err.refusal) (c.number-number.ensures ∙ ap (λ (p : Part g.row.E.Denot g.row.O.Denot g.E.TaskElement). p.number) (at_get c.args.parts.now.items c.args.to c.index_mut.result.now c.index.result.now (some_at c.args.parts.now.items c.args.to c.index_mut.result.now (omega (arith, c.requires.to, c.args.parts.now.ok.0)) c.index_mut.ensures.value) c.index.ensures)),
  ),
)

pub returns-in-Err-clause-shape : goal.returns-in-Err-clause-shape
returns-in-Err-clause-shape g c = map_set part_shape c.args.parts.now.items c.args.to c.index_mut.result.now c.feed.new.self (some_at c.args.parts.now.items c.args.to c.index_mut.result.now (omega (arith, c.requires.to, c.args.parts.now.ok.0)) c.index_mut.ensures.value) c.feed.ensures.shape
