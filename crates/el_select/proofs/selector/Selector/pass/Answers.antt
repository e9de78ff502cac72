use Rattle.el_select.proofs.Standing.{puts_buffer}
use Rattle.el_select.proofs.selector.Selector.pass.Goals as goal

pub returns-in-Buffer-clause-puts : goal.returns-in-Buffer-clause-puts
returns-in-Buffer-clause-puts c =
    puts_buffer c.put_out.result c.args.self.now c.args.item c.in-Buffer.buffer c.args.out.now c.put_out.new.out c.requires.no_flush c.requires.active c.requires.open c.in-Buffer.is
    c.put_out.ensures.ok
