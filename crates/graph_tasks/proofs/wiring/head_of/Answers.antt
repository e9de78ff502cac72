use Rattle.std.proofs.Common.{sym, subst}
use Rattle.graph_core.specs.Graph.{made as made_in, links as links_in}
use Rattle.graph_parts.specs.declared.bag.BagHead.{BagHead}
use Rattle.graph_parts.specs.declared.bag.BagHead.TheVariants.{Source, Inlets}
use Rattle.graph_parts.specs.declared.bag.BagLink.{BagLink}
use Rattle.graph_tasks.specs.Wiring.{HeadGiven, HeadMade, PadGiven, PadMade}
use Rattle.graph_tasks.specs.declared.wired_task.WiredHead.TheVariants as wired
use Rattle.graph_tasks.proofs.Gathering.{inlets_head, source_given, source_head}
use Rattle.graph_tasks.proofs.wiring.head_of.Goals as goal

pub returns-in-Source : goal.returns-in-Source
returns-in-Source g c = λ gone heads outs ins given.
    let own = c.in-Source.own in
    let its : HeadGiven (made_in c.args.graph.now) (links_in c.args.graph.now) (Source own) gone heads =
    subst (λ (h : BagHead). HeadGiven (made_in c.args.graph.now) (links_in c.args.graph.now) h gone heads) c.in-Source.is given in
    subst
    (λ (h : BagHead). HeadMade g.I.Inlet g.O.Outlet (made_in c.args.graph.now) (links_in c.args.graph.now) h gone heads (wired.Source own.element c.pad_of-pad.result) c.pad_of-pad.new.outlets.items c.args.inlets.now.items)
    (sym c.in-Source.is)
    (source_head g.I.Inlet g.O.Outlet (made_in c.args.graph.now) (links_in c.args.graph.now) own gone heads c.pad_of-pad.result c.pad_of-pad.new.outlets.items c.args.inlets.now.items its ins
    (subst (λ (l : BagLink). PadMade g.O.Outlet (made_in c.args.graph.now) (links_in c.args.graph.now) own.element 0 l gone c.pad_of-pad.result c.pad_of-pad.new.outlets.items) c.first_link.ensures
    (c.pad_of-pad.ensures gone outs
    (subst (λ (l : BagLink). PadGiven (made_in c.args.graph.now) (links_in c.args.graph.now) own.element 0 l gone) (sym c.first_link.ensures)
    (source_given g.O.Outlet (made_in c.args.graph.now) (links_in c.args.graph.now) own gone heads its)))))

pub returns-in_ok-rows-in-Inlets : goal.returns-in_ok-rows-in-Inlets
returns-in_ok-rows-in-Inlets g c = λ gone heads outs ins given.
    let n = c.in-Inlets.number in
    let its : HeadGiven (made_in c.args.graph.now) (links_in c.args.graph.now) (Inlets n) gone heads =
    subst (λ (h : BagHead). HeadGiven (made_in c.args.graph.now) (links_in c.args.graph.now) h gone heads) c.in-Inlets.is given in
    subst
    (λ (h : BagHead). HeadMade g.I.Inlet g.O.Outlet (made_in c.args.graph.now) (links_in c.args.graph.now) h gone heads (wired.Inlets n c.place_of-hint.result c.in_ok-rows-in-Inlets.rows) c.args.outlets.now.items c.rows_of.new.inlets.items)
    (sym c.in-Inlets.is)
    (inlets_head g.I.Inlet g.O.Outlet (made_in c.args.graph.now) (links_in c.args.graph.now) n c.place_of-hint.result gone heads c.in_ok-rows-in-Inlets.rows c.args.outlets.now.items c.rows_of.new.inlets.items outs
    (c.in_ok-rows-in-Inlets.ensures heads ins its.apart))
