use Rattle.std.proofs.Common.{◌∙◌}
use Rattle.std.specs.Prelude.{slice_get}
use Rattle.graph_core.specs.Graph.{made as made_in, links as links_in}
use Rattle.graph_tasks.proofs.Leading.{lane_numbered, pad_made}
use Rattle.graph_tasks.proofs.source_pads.pad_of.Goals as goal
use Rattle.graph_core.proofs.Orders.{few_pads as few_ports}

pub returns : goal.returns
returns g c = λ gone left given.
    pad_made g.O.Outlet (made_in c.args.graph.now) (links_in c.args.graph.now) gone c.args.outlets.now.items c.behind_of-behind.new.outlets.items c.args.element c.args.port c.args.leads c.new.result
    c.behind_of-behind.result left given
    (c.new.ensures.number ∙ c.pad_number.ensures given.there (few_ports (slice_get (made_in c.args.graph.now) c.args.element) c.args.port given.port_there)) c.new.ensures.history c.new.ensures.crossed
    c.new.ensures.idle c.new.ensures.probe c.new.ensures.rest
    (c.behind_of-behind.ensures.behind (lane_numbered (made_in c.args.graph.now) (links_in c.args.graph.now) given.links_are c.args.element c.args.port c.args.leads gone given))
    (c.behind_of-behind.ensures.left (lane_numbered (made_in c.args.graph.now) (links_in c.args.graph.now) given.links_are c.args.element c.args.port c.args.leads gone given))
