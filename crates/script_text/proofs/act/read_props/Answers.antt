-- One word more.
use Rattle.std.proofs.Common.{◌∙◌, arith, length, ap}
use Rattle.text_words.specs.Left.{left}
use Rattle.script_text.proofs.Props.{prop_more}
use Rattle.script_text.proofs.act.read_props.Goals as goal

pub loop-word-preserved : goal.loop-word-preserved
loop-word-preserved c =
    prop_more c.loop-word.props c.push.new.self c.in_ok-prop.prop c.in-Some.word.now (left c.loop-word.words) (left c.take.new.self) c.in-Some.ensures c.in_ok-prop.ensures c.in_ok-push.ensures.ok
    ∙ c.loop-word.invariant

pub loop-word-smaller : goal.loop-word-smaller
loop-word-smaller c = omega (arith, ap length c.in-Some.ensures)
