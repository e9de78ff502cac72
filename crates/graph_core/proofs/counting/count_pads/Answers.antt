use Rattle.std.proofs.Common.{sym, arith}
use Rattle.graph_core.specs.Elements.{all_made}
use Rattle.graph_core.proofs.Bare.{same_length}
use Rattle.graph_core.proofs.Counted.{all_counted, few_alike}
use Rattle.graph_core.proofs.counting.count_pads.Goals as goal

pub count_one-requires-clause-few : goal.count_one-requires-clause-few
count_one-requires-clause-few c = few_alike (all_made c.args.elements.now) (all_made c.loop-element.elements) c.args.links.now (sym c.loop-element.invariant.stay) c.requires.few

pub returns-clause-counted : goal.returns-clause-counted
returns-clause-counted c =
    let same = same_length (all_made c.loop-element.elements) (all_made c.args.elements.now) c.loop-element.invariant.stay in
    all_counted (all_made c.loop-element.elements) c.args.links.now c.loop-element.element (omega (arith, same, c.loop-element-test.false, c.count-element-end.ensures.count)) c.loop-element.invariant.counted
