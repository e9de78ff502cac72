use Rattle.std.proofs.Common.{refl}
use Rattle.el_select.proofs.Knowing.{pad_at}
use Rattle.el_select.proofs.Standing.{puts_event}
use Rattle.el_select.proofs.selector.Selector.pass_event.Goals as goal

pub returns-clause-puts : goal.returns-clause-puts
returns-clause-puts c =
    puts_event c.args.self.now _ c.args.event c.in_ok-copy.copy c.index_mut.result.now c.take.new.self c.args.out.now c.put_out.new.out c.requires.no_flush c.requires.active c.requires.open
    (pad_at c.args.self.now.pads c.args.self.now.active c.index_mut.result.now c.requires.active c.index_mut.ensures.value)
    refl refl c.in_ok-copy.ensures c.take.ensures c.in_ok-put_out.ensures.ok
