use Rattle.std.proofs.Common.{◌∙◌, arith}
use Rattle.graph_order.proofs.Reached.{mark_reached, marked_by, set_fewer}
use Rattle.graph_order.proofs.marks.mark.Goals as goal

pub returns-clause-reached : goal.returns-clause-reached
returns-clause-reached c = λ a links link h.
    let on = marked_by c.args.marks.now.items c.args.link.from c.index-leads.result.now (omega (arith, c.requires.from, c.args.marks.now.ok.0)) c.index-leads.ensures in
    mark_reached links a c.args.link.from c.args.link.to c.args.marks.now.items link (on ∙ c.if-not-leads.false) h

pub returns-clause-fewer : goal.returns-clause-fewer
returns-clause-fewer c = λ yes.
    let off = marked_by c.args.marks.now.items c.args.link.to c.index-stands.result.now (omega (arith, c.requires.to, c.args.marks.now.ok.0)) c.index-stands.ensures in
    set_fewer c.args.marks.now.items c.args.link.to (omega (arith, c.requires.to, c.args.marks.now.ok.0)) (off ∙ c.if-stands.false)
