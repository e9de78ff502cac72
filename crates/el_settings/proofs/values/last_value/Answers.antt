use Rattle.std.proofs.Common.{sym, ap, ◌∙◌, bytes_eq, Some}
use Rattle.el_settings.proofs.Given.{value_then, value_else}
use Rattle.el_settings.proofs.values.last_value.Goals as goal
use Rattle.el_settings.proofs.values.last_value.Goals.{then-eq, else-eq}

pub loop-prop-preserved : goal.loop-prop-preserved
loop-prop-preserved c =
    let same = sym (c.eq.ensures ∙ ap (λ t. bytes_eq t c.args.name.now) c.as_str.ensures) in
    elim c.if-eq.branch [
      | then-eq w ↦
          rw w.found-is
          (value_then c.args.name.now c.args.props.now c.loop-prop.prop-index c.prop-item.result _ c.loop-prop-test.true c.prop-item.is (same ∙ w.if-eq.true)
          (ap Some w.as_str-then-eq.ensures))
      | else-eq w ↦
          rw w.found-is
          (value_else c.args.name.now c.args.props.now c.loop-prop.prop-index c.prop-item.result _ c.loop-prop-test.true c.prop-item.is (same ∙ w.if-eq.false)
          c.loop-prop.invariant)
    ]
