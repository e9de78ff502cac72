use Rattle.std.proofs.Common.{refl}
use Rattle.std.proofs.lemmas.Bool.{false≢true}
use Rattle.el_settings.specs.Asked.{makes_sinks}
use Rattle.graph_core.specs.Elements.{all_made, has}
use Rattle.graph_order.specs.Marks.{is_marked}
use Rattle.world_core.proofs.StallOver.{more_here, not_here, over_all}
use Rattle.world_core.proofs.stall.is_over.Goals as goal

pub returns-then-not-lets_over : goal.returns-then-not-lets_over
returns-then-not-lets_over g c = (
  λ told. absurd (false≢true told),
  λ over. absurd
      (not_here (is_marked c.args.live.now) (has makes_sinks (all_made c.args.elements.now)) c.args.tasks.now c.args.steps.now c.loop-place.place c.index-tasks-place.result
      c.head_of.result _ c.lets_over.result c.loop-place-test.true c.requires c.index-tasks-place.is c.head_of.ensures c.lets_over.ensures
      c.if-not-lets_over.true over),
)

pub loop-place-preserved : goal.loop-place-preserved
loop-place-preserved g c =
    more_here (is_marked c.args.live.now) (has makes_sinks (all_made c.args.elements.now)) c.args.tasks.now c.args.steps.now c.loop-place.place c.index-tasks-place.result c.head_of.result _
    c.lets_over.result c.loop-place-test.true c.requires c.index-tasks-place.is c.head_of.ensures c.lets_over.ensures c.if-not-lets_over.false c.loop-place.invariant

pub returns : goal.returns
returns g c = (
  λ told. over_all (is_marked c.args.live.now) (has makes_sinks (all_made c.args.elements.now)) c.args.tasks.now c.args.steps.now c.loop-place.place c.loop-place-test.false c.requires c.loop-place.invariant,
  λ over. refl,
)
