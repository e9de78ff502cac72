use Rattle.std.proofs.Common.{sym, ap, ◌∙◌, bytes_eq, codes, Some}
use Rattle.el_settings.proofs.Given.{value_then, value_else}
use Rattle.graph_core.proofs.naming.given_name.Goals as goal
use Rattle.graph_core.proofs.naming.given_name.Goals.{then-eq, else-eq}

pub loop-prop-preserved : goal.loop-prop-preserved
loop-prop-preserved c =
    let same = sym (c.eq.ensures ∙ ap (λ t. bytes_eq t (codes "name")) c.as_str.ensures) in
    elim c.if-eq.branch [
      | then-eq w ↦
          rw w.found-is
          (value_then (codes "name") c.args.props.now c.loop-prop.prop-index c.prop-item.result _ c.loop-prop-test.true c.prop-item.is (same ∙ w.if-eq.true)
          (ap Some w.as_str-then-eq.ensures))
      | else-eq w ↦
          rw w.found-is
          (value_else (codes "name") c.args.props.now c.loop-prop.prop-index c.prop-item.result _ c.loop-prop-test.true c.prop-item.is (same ∙ w.if-eq.false)
          c.loop-prop.invariant)
    ]
