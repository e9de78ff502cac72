use Rattle.el_settings.proofs.Given.{taken_more}
use Rattle.el_settings.proofs.Faults.{judged_at}
use Rattle.el_settings.proofs.checking.judge_all.Goals as goal

pub returns-in-Err : goal.returns-in-Err
returns-in-Err c =
    judged_at c.args.kind c.args.props.now c.loop-prop.prop-index c.prop-item.result c.in-Err.fault c.loop-prop-test.true c.prop-item.is c.loop-prop.invariant
    c.in-Err.ensures.fault

pub loop-prop-preserved : goal.loop-prop-preserved
loop-prop-preserved c =
    taken_more c.args.kind c.args.props.now c.loop-prop.prop-index c.prop-item.result c.loop-prop-test.true c.prop-item.is c.loop-prop.invariant c.in-Ok.ensures.taken
