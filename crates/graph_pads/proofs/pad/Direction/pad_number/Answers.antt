use Rattle.std.proofs.Common.{◌<◌, bytes_eq, sym, ap, ◌∙◌, arith}
use Rattle.graph_pads.specs.Pads.{pad_text, takeable}
use Rattle.graph_pads.proofs.FirstOf.{first_found, last_fails, none_found}
use Rattle.graph_pads.proofs.pad.Direction.pad_number.Goals as goal

pub loop-number-init : goal.loop-number-init
loop-number-init c = λ k w. absurd (omega (arith, w))

pub loop-number-preserved : goal.loop-number-preserved
loop-number-preserved c =
    last_fails (λ k. bytes_eq c.args.name.now (pad_text c.args.self c.args.settings.now k)) c.loop-number.number c.loop-number.invariant
    (ap (bytes_eq c.args.name.now) (sym c.in_ok-text.ensures) ∙ ap (bytes_eq c.args.name.now) (sym c.as_str.ensures) ∙ sym c.eq.ensures ∙ c.if-eq.false)

pub returns-then-eq : goal.returns-then-eq
returns-then-eq c =
    let within : c.loop-number.number < takeable c.args.links.now c.args.self c.args.element c.args.settings.now = omega (arith, c.loop-number-test.true, c.takeable-number-end.ensures) in
    sym
    (first_found (λ k. bytes_eq c.args.name.now (pad_text c.args.self c.args.settings.now k)) (takeable c.args.links.now c.args.self c.args.element c.args.settings.now) c.loop-number.number within c.loop-number.invariant
    (ap (bytes_eq c.args.name.now) (sym c.in_ok-text.ensures) ∙ ap (bytes_eq c.args.name.now) (sym c.as_str.ensures) ∙ sym c.eq.ensures ∙ c.if-eq.true))

pub returns : goal.returns
returns c =
    sym
    (none_found (λ k. bytes_eq c.args.name.now (pad_text c.args.self c.args.settings.now k)) (takeable c.args.links.now c.args.self c.args.element c.args.settings.now)
    (λ k w. c.loop-number.invariant k (omega (arith, w, c.loop-number-test.false, c.takeable-number-end.ensures))))
