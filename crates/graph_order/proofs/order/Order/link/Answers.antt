use Rattle.std.proofs.Common.{◌∙◌, arith}
use Rattle.graph_order.proofs.Parted.{forward_linked}
use Rattle.graph_order.proofs.Reached.{marked_by}
use Rattle.graph_order.proofs.order.Order.link.Goals as goal

pub returns-clause-forward : goal.returns-clause-forward
returns-clause-forward c = λ h.
    let off = marked_by c.in_ok-marks.marks.items c.args.from c.index.result.now (omega (arith, c.requires.from, c.in_ok-marks.ensures.size, c.len.ensures, c.in_ok-marks.marks.ok.0)) c.index.ensures in
    let parts = rw (c.deref-2.ensures.value, c.deref-3.ensures.value) at c.in_ok-forward.ensures.parts in
    forward_linked c.args.self.now _ c.in_ok-marks.marks.items c.args.from c.args.to parts (c.in_ok-forward.ensures.size ∙ c.deref-2.ensures.len) c.in_ok-push.ensures.items c.requires.from c.requires.to (off ∙ c.if-index.false) c.in_ok-marks.ensures.start (rw c.deref.ensures.value at c.in_ok-marks.ensures.closed) h
