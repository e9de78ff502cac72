use Rattle.std.proofs.Common.{◌∙◌, arith, sym}
use Rattle.std.proofs.lemmas.Bool.{leb-true}
use Rattle.task_parts.proofs.Outs.{nil_when}
use Rattle.task_parts.proofs.Idling.{idle_part}
use Rattle.task_parts.proofs.part.Part.is_idle.Goals as goal

pub returns : goal.returns
returns g c q =
    idle_part c.args.self.now (sym c.as_slice.ensures ∙ nil_when c.as_slice.result.now (sym c.is_empty.ensures ∙ c.if-not-is_empty.false))
    (λ k pad w at. c.first_waiting.ensures.idle k pad (let n = c.args.self.now.pads.ok.0 in let z = leb-true c.len.result c.first_waiting.result q in omega (arith, w, n, z, c.len.ensures)) at)
