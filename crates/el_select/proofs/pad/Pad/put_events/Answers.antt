use Rattle.std.proofs.Common.{List, map, ap, ◌∙◌}
use Rattle.flow_model.specs.Feeding.{on_pad}
use Rattle.flow_model.specs.Item.{Event, Ev}
use Rattle.el_select.proofs.Keeping.{puts_sticky}
use Rattle.el_select.proofs.pad.Pad.put_events.Goals as goal

pub returns-clause-ok : goal.returns-clause-ok
returns-clause-ok c =
    puts_sticky c.pour.result c.args.self.now c.in_ok-events.events c.args.out.now c.pour.new.self c.in_ok-queue.queue.items c.args.self.now.left c.in_ok-events.ensures
    (c.in_ok-queue.ensures ∙ ap (λ (events : List Event). on_pad 0 (map Ev events)) c.as_slice.ensures) c.pour.ensures.ok
