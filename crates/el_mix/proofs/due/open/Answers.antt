use Rattle.std.proofs.Common.{[], ◌∷◌, ◌++◌, refl, sym, length, ap, ◌∙◌}
use Rattle.flow_model.specs.Feeding.{on_pad}
use Rattle.el_mix.proofs.Sending.{segment_is, opens_new}
use Rattle.el_mix.proofs.due.open.Goals as goal

pub returns-clause-opens : goal.returns-clause-opens
returns-clause-opens c =
    opens_new c.args.at.now _ c.args.info c.args.channels.now c.in_ok-caps.caps c.new.result (length c.args.channels.now) c.args.outs.now.items c.push.new.outs.items c.push-2.new.outs.items
    c.push-3.new.outs.items (sym c.is_some.ensures ∙ c.if-is_some.false) c.in_ok-caps.ensures.caps refl
    (segment_is c.new.result c.new.ensures.format c.new.ensures.start c.new.ensures.stop c.new.ensures.time c.new.ensures.base c.new.ensures.position)
    (c.in_ok-push.ensures.ok ∙ ap (λ x. c.args.outs.now.items ++ on_pad 0 (x ∷ [])) c.stream_start.ensures) c.in_ok-push-2.ensures.ok c.in_ok-push-3.ensures.ok refl
