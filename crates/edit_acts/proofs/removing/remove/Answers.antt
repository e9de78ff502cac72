use Rattle.edit_acts.proofs.Deeds.{no_element}
use Rattle.edit_acts.proofs.Without.{is_removed}
use Rattle.edit_acts.proofs.removing.remove.Goals as goal

pub returns-then-element-count-clause-run : goal.returns-then-element-count-clause-run
returns-then-element-count-clause-run g c = λ feeds graph m tells w.
    absurd (no_element c.args.graph.now feeds c.args.tasks.now.items graph m tells c.args.element w c.count.result c.count.ensures.made c.if-element-count.true)

pub returns-clause-graph : goal.returns-clause-graph
returns-clause-graph g c = λ graph within is. c.remove.ensures.edited graph is

pub returns-clause-run : goal.returns-clause-run
returns-clause-run g c = λ feeds graph m tells w.
    is_removed c.args.graph.now feeds c.args.tasks.now.items graph m tells c.args.element w c.remove.new.self c.take_out-2.new.tasks.items c.take_out-2.result
    (c.remove.ensures.edited graph w.controlled.current.edited) c.take_out-2.ensures.taken c.take_out-2.ensures.stands
