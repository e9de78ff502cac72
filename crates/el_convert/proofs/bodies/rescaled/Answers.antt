use Rattle.el_convert.proofs.Scaling.{product_fits, product_is}
use Rattle.el_convert.proofs.bodies.rescaled.Goals as goal

pub overflow_mul-result : goal.overflow_mul-result
overflow_mul-result c = product_fits c.args.from c.args.to c.args.value c.factor.result c.requires.some c.if-from-to.true c.requires.few_to c.ranges.value (record { sfits = c.factor.type_inv }) c.factor.ensures c.requires.range

pub returns-then-from-to : goal.returns-then-from-to
returns-then-from-to c = product_is c.args.from c.args.to c.args.value c.factor.result c.requires.some c.if-from-to.true c.requires.few_to c.ranges.value (record { sfits = c.factor.type_inv }) c.factor.ensures c.requires.range
