use Rattle.std.proofs.Common.{List, [], ◌∷◌, ◌++◌, map, ap, ◌∙◌}
use Rattle.gst_item.specs.declared.out.Out.{Out}
use Rattle.flow_model.specs.Feeding.{on_pad}
use Rattle.flow_model.specs.Item.{Event, Ev}
use Rattle.el_basic.proofs.Valving.{gone_behind}
use Rattle.el_basic.proofs.valve.put_behind.Goals as goal

pub returns-clause-ok : goal.returns-clause-ok
returns-clause-ok c =
    gone_behind c.pour.result c.args.sticky.now c.args.item c.in_ok-events.events c.args.out.now c.pour.new.self c.push_back.new.self.items c.in_ok-events.ensures
    (c.in_ok-push_back.ensures.items
    ∙ ap (λ (last : Out). c.in_ok-queue.queue.items ++ last ∷ []) c.on_pad.ensures
    ∙ ap (λ os. os ++ on_pad 0 (c.args.item ∷ [])) (c.in_ok-queue.ensures ∙ ap (λ (events : List Event). on_pad 0 (map Ev events)) c.as_slice.ensures))
    c.pour.ensures.ok
