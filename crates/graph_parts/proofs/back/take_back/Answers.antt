use Rattle.graph_core.specs.Elements.{all_made}
use Rattle.graph_parts.specs.Back.{HasElement, HasPart, HasSource}
use Rattle.graph_parts.specs.Put.{Among}
use Rattle.graph_parts.specs.Single.{IsAt, IsNone}
use Rattle.graph_parts.proofs.Giving.{element_joins, ends_joined, joins_first, lengths_joined}
use Rattle.graph_parts.proofs.back.take_back.Goals as goal

pub returns-clause-ends : goal.returns-clause-ends
returns-clause-ends g c =
    ends_joined (all_made c.args.elements.now) (HasSource c.args.tasks.items) IsNone (HasSource c.args.tasks.items) (Among HasPart c.args.tasks.items) (IsAt c.args.rest.items) (HasElement c.args.tasks.items c.args.rest.items)
    c.args.ends.now.items c.give_tasks.new.ends.items c.give_rest.new.ends.items (joins_first (HasSource c.args.tasks.items)) (element_joins c.args.tasks.items c.args.rest.items) c.give_tasks.ensures.ends c.give_rest.ensures.ends

pub returns-clause-lengths : goal.returns-clause-lengths
returns-clause-lengths g c =
    lengths_joined (Among HasPart c.args.tasks.items) (IsAt c.args.rest.items) (HasElement c.args.tasks.items c.args.rest.items) c.args.lengths.now.items c.give_tasks.new.lengths.items c.give_rest.new.lengths.items
    (element_joins c.args.tasks.items c.args.rest.items) c.give_tasks.ensures.lengths c.give_rest.ensures.lengths
